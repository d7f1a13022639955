-- A cone's clauses are over the nodes that its seeds reach, and a model of a base says nothing of inputs that its clauses
-- aren't over.
use Rattle.std.proofs.Common.{◌≡◌, ℕ, ◌+◌, Bool, true, false, ◌||◌, Option, Some, None, List, [], ◌∷◌, length, get_or, refl, sym, ap, ◌∙◌, subst, inl, inr, arith}
use Rattle.std.specs.Option.{option_map_or}
use Rattle.std.specs.List.{AllByRecursion}
use Rattle.std.proofs.lemmas.Bool.{cases_lt}
use Rattle.std.proofs.lemmas.List.{get_or_past}
use Rattle.lits.specs.Clause.{has}
use Rattle.lits.specs.declared.node.Side.TheVariants.{A, B}
use Rattle.lits.specs.declared.node.Node.{Node}
use Rattle.lits.specs.declared.node.Node.TheVariants.{Const, Input, Gate, Xor}
use Rattle.lits.specs.declared.literal.Lit.{Lit}
use Rattle.lits.specs.declared.step.Named.{Named}
use Rattle.lits.specs.declared.step.Ref.{Ref}
use Rattle.lits.specs.declared.step.Ref.TheVariants.{Axiom, Entry as Shown}
use Rattle.lits.specs.Same.{same_lit}
use Rattle.lits.proofs.Facts.{exact-lit}
use Rattle.netlist.specs.declared.gate.And.{And}
use Rattle.netlist.specs.Circuit.{var_of}
use Rattle.netlist.specs.Net.{AigPair, circuit_of, node_of, definition_of, gate_at, output_of}
use Rattle.netlist.specs.Miter.{positive, kept, gate_clauses, xor_clauses, xor_axioms, axioms_of}
use Rattle.netlist.proofs.Facts.{AreOver, over-kept}
use Rattle.unit_prop.specs.Log.{base_clauses}
use Rattle.unit_prop.specs.Refuter.{is_over, IsOver}
use Rattle.lemma_book.specs.declared.entry.Entry.{Entry}
use Rattle.lemma_book.specs.Cone.{AreIn, fanins_of, named_from, named_clauses, IsCone}
use Rattle.lemma_book.specs.Entry.{merge_clauses}
use Rattle.lemma_book.specs.Root.{MergeAt, merge_of}
use Rattle.cone_query.specs.Input.{input_from}
use Rattle.cone_query.proofs.ConeModel.{cone-from}
use Rattle.cone_query.proofs.GateOrder.{found-var}
use Rattle.cone_query.proofs.InputLemmas.{length-input_from, input_from-at}
use Rattle.cone_query.proofs.LogLemmas.{occurs-over}

module _ (p : Node → Bool) where
  -- the clauses that define a node are over the node and its fanins
  over-fanins : (net : AigPair) (n : Node) → p n ≡ true → AreIn p (fanins_of net n) → AreOver p (axioms_of net n)
  over-fanins net Const q all = ((q, tt), tt)
  over-fanins net (Input k) q all = tt
  over-fanins net (Gate s v) q all = go (gate_at net s v) refl
    where
      go : (o : Option And) → gate_at net s v ≡ o
          → AreOver p (option_map_or (λ g. kept (gate_clauses (definition_of s (circuit_of net s) g))) o [])
      go None e = tt
      go (Some g) e =
          let both : AreIn p (node_of s (circuit_of net s) (var_of g.left) ∷ node_of s (circuit_of net s) (var_of g.right) ∷ []) = rw e at all in
          let here : p (Gate s g.var) ≡ true = subst (λ (x : ℕ). p (Gate s x) ≡ true) (sym (found-var net s v g e)) q in
          over-kept p (gate_clauses (definition_of s (circuit_of net s) g))
          ((here, (both.0, tt)), ((here, (both.1.0, tt)), ((here, (both.0, (both.1.0, tt))), tt)))
  over-fanins net (Xor j) q all = go (output_of net A j) (output_of net B j) refl refl
    where
      go : (a b : Option Lit) → output_of net A j ≡ a → output_of net B j ≡ b → AreOver p (xor_axioms j a b)
      go None b e f = tt
      go (Some a) None e f = tt
      go (Some a) (Some b) e f =
          let both : AreIn p (a.node ∷ b.node ∷ []) = rw (e, f) at all in
          over-kept p (xor_clauses (Xor j) a b) (
            (q, (both.0, (both.1.0, tt))),
            ((q, (both.0, (both.1.0, tt))), ((q, (both.0, (both.1.0, tt))), ((q, (both.0, (both.1.0, tt))), tt))),
          )

module _ (net : AigPair) (es : List Entry) (seeds : List Node) (cone : List Named) (is_cone : IsCone net es seeds cone) where
  abbrev IsOverReached : Named → Type 0
  IsOverReached m = AllByRecursion (λ l. is_cone.reached l.node ≡ true) m.clause

  -- the clauses of a cone are over the nodes that are reached
  pub cone-reached : AllByRecursion IsOverReached cone
  cone-reached = cone-from net es seeds cone is_cone IsOverReached (λ n h. go n h (merge_of es n) refl)
    where
      named : (name : ℕ → Ref) (k : ℕ) (cs : List (List Lit)) → AreOver is_cone.reached cs → AllByRecursion IsOverReached (named_from name k cs)
      named name k [] over = tt
      named name k (c ∷ cs) over = (over.0, named name (k + 1) cs over.1)

      go : (n : Node) → is_cone.reached n ≡ true → (o : Option MergeAt) → merge_of es n ≡ o → AllByRecursion IsOverReached (named_clauses net es n)
      go n h None e =
          rw e (named (Axiom n) 0 (axioms_of net n) (over-fanins is_cone.reached net n h (rw e at (is_cone.reach.closed.nexts n h))))
      go n h (Some m) e =
          let target : is_cone.reached m.lit.node ≡ true = (rw e at (is_cone.reach.closed.nexts n h)).0 in
          rw e (named (Shown m.entry) 0 (merge_clauses n m.lit) ((h, (target, tt)), ((h, (target, tt)), tt)))

-- ---- a base whose clauses are over some nodes
module _ (p : Node → Bool) where
  bare : (ms : List Named) → AllByRecursion (λ m. AllByRecursion (λ l. p l.node ≡ true) m.clause) ms
      → AllByRecursion (λ c. AllByRecursion (λ l. p l.node ≡ true) c) (base_clauses ms)
  bare [] a = tt
  bare (m ∷ ms) a = (a.0, bare ms a.1)

  module _ (base : List Named) (over : AllByRecursion (λ m. AllByRecursion (λ l. p l.node ≡ true) m.clause) base) where
    -- a literal that occurs in it is over them
    pub over-nodes : (q : Lit) → is_over base q ≡ true → p q.node ≡ true
    over-nodes q h = occurs-over (λ n. p n ≡ true) (base_clauses base) q (bare base over) h

    -- so are those of a model
    model-nodes : (model : List Lit) (q : Lit) → IsOver base model → has same_lit model q ≡ true → p q.node ≡ true
    model-nodes [] q within h = cc
    model-nodes (l ∷ ls) q within h = go (same_lit l q) refl (model-nodes ls q within.1)
      where
        go : (b : Bool) → same_lit l q ≡ b → (has same_lit ls q ≡ true → p q.node ≡ true) → p q.node ≡ true
        go true e rest = over-nodes q (subst (λ (m : Lit). is_over base m ≡ true) (exact-lit l q e) within.0)
        go false e rest = rest (sym (ap (λ (b : Bool). b || has same_lit ls q) e) ∙ h)

    -- the input of a model is false where no input is one of them
    pub false-outside : (net : AigPair) (model : List Lit) → IsOver base model → (k : ℕ) → p (Input k) ≡ false → get_or (input_from net model) k false ≡ false
    false-outside net model within k out =
        elim (cases_lt k (length net.a.inputs)) [
          | inl below ↦ input_from-at net model k false below ∙ unknown (has same_lit model (positive (Input k))) refl
          | inr past ↦ get_or_past (input_from net model) k false (omega (arith, length-input_from net model))
        ]
      where
        unknown : (b : Bool) → has same_lit model (positive (Input k)) ≡ b → has same_lit model (positive (Input k)) ≡ false
        unknown true e = let h : true ≡ false = sym (model-nodes model (positive (Input k)) within e) ∙ out in cc
        unknown false e = e

-- the cone of a node that names a literal is the cone of both
pub own-both : (net : AigPair) (es : List Entry) (n : Node) (l : Lit) (own : List Named) → IsCone net es (n ∷ []) own
    → is_over own l ≡ true → IsCone net es (n ∷ l.node ∷ []) own
own-both net es n l own is_own over = record {
  reached = is_own.reached;
  reach = record {
    closed = record {
      starts = (is_own.reach.closed.starts.0, (over-nodes is_own.reached own (cone-reached net es (n ∷ []) own is_own) l over, tt));
      nexts = is_own.reach.closed.nexts;
    };
    least = λ set closed m h. is_own.reach.least set (record { starts = (closed.starts.0, tt); nexts = closed.nexts }) m h;
  };
  clauses = is_own.clauses;
}
