-- Which variables occur in a cone: those of its nodes that are gates, merged or the constant.
use Rattle.std.proofs.Common.{◌≡◌, ℕ, Bool, true, false, ◌||◌, Some, None, List, [], ◌∷◌, length, take, refl, sym, ap, ap₂, ◌∙◌, subst}
use Rattle.std.specs.List.{list_any, AllByRecursion}
use Rattle.std.proofs.lemmas.Bool.{or_left, or_parts}
use Rattle.std.proofs.Math.Seq.{take-length}
use Rattle.lemma_book.proofs.Facts.{irreflexive}
use Rattle.lits.specs.Clause.{has, has_pair, firsts}
use Rattle.lits.specs.declared.node.Side.{Side}
use Rattle.lits.specs.declared.node.Node.{Node}
use Rattle.lits.specs.declared.node.Node.TheVariants.{Const, Input, Gate}
use Rattle.lits.specs.declared.literal.Lit.{Lit}
use Rattle.lits.specs.declared.step.Named.{Named}
use Rattle.lits.specs.declared.step.Ref.TheVariants.{Axiom, Entry as Shown}
use Rattle.lits.specs.Same.{same_node, same_lit, opposite}
use Rattle.lits.proofs.Facts.{exact-lit, same-lit_self}
use Rattle.netlist.specs.declared.gate.And.{And}
use Rattle.netlist.specs.Net.{AigPair, IsNet, circuit_of, lit_named, gate_at, position_of}
use Rattle.netlist.specs.Miter.{positive, negative, kept, axioms_of, variables_of}
use Rattle.unit_prop.specs.Refuter.{is_over}
use Rattle.unit_prop.proofs.Facts.{contrary}
use Rattle.lemma_book.specs.declared.entry.Entry.{Entry}
use Rattle.lemma_book.specs.Cone.{named_from, named_clauses, IsCone}
use Rattle.lemma_book.specs.declared.entry.Task.{Task}
use Rattle.lemma_book.specs.Entry.{Entries, merge_clauses}
use Rattle.lemma_book.specs.Good.{IsBefore}
use Rattle.lemma_book.specs.Root.{MergeAt, merge_of}
use Rattle.flat_cones.specs.Numbered.{is_named}
use Rattle.cone_query.specs.Query.{IsUnnamed}
use Rattle.cone_query.specs.Asked.{IsNamedInput}
use Rattle.cone_query.proofs.ConeModel.{cone-at, cone-from}
use Rattle.cone_query.proofs.GateOrder.{found-var, left-earlier}

-- a clause has the literal or its negation
abbrev pub speaks_of : Lit → List Lit → Bool
speaks_of l c = has same_lit c l || has same_lit c (opposite l)

-- no clause of a base speaks of a variable that doesn't occur in it, and the other way round
pub silent : (base : List Named) (l : Lit) → is_over base l ≡ false → AllByRecursion (λ m. speaks_of l m.clause ≡ false) base
silent [] l e = tt
silent (m ∷ ms) l e = (parts.0, silent ms l parts.1)
  where
    parts : (speaks_of l m.clause ≡ false) × (is_over ms l ≡ false)
    parts = or_parts (speaks_of l m.clause) (is_over ms l) e

pub silent-back : (base : List Named) (l : Lit) → AllByRecursion (λ m. speaks_of l m.clause ≡ false) base → is_over base l ≡ false
silent-back [] l all = refl
silent-back (m ∷ ms) l all = rw (all.0, silent-back ms l all.1) refl

module _ (net : AigPair) (es : List Entry) (seeds : List Node) (cone : List Named) (is_cone : IsCone net es seeds cone) where
  -- what a reached node's clauses speak of occurs in the cone
  pub occurs-at : (l : Lit) (n : Node) → is_cone.reached n ≡ true → has same_node (variables_of net) n ≡ true
      → ¬ AllByRecursion (λ m. speaks_of l m.clause ≡ false) (named_clauses net es n) → is_over cone l ≡ true
  occurs-at l n reached there spoken = go (is_over cone l) refl
    where
      go : (b : Bool) → is_over cone l ≡ b → is_over cone l ≡ true
      go true e = e
      go false e = absurd (spoken (cone-at net es seeds cone is_cone (λ m. speaks_of l m.clause ≡ false) n reached there (silent cone l e)))

  -- what occurs in the cone of some seeds occurs in that of more
  pub occurs-more : (more : List Node) (larger : List Named) (is_larger : IsCone net es more larger)
      → ((n : Node) → is_cone.reached n ≡ true → (is_larger.reached n ≡ true) × (has same_node (variables_of net) n ≡ true))
      → (l : Lit) → is_over cone l ≡ true → is_over larger l ≡ true
  occurs-more more larger is_larger within l e = go (is_over larger l) refl
    where
      go : (b : Bool) → is_over larger l ≡ b → is_over larger l ≡ true
      go true f = f
      go false f =
          contrary (is_over cone l) e
          (silent-back cone l (cone-from net es seeds cone is_cone (λ m. speaks_of l m.clause ≡ false)
          (λ n h. cone-at net es more larger is_larger (λ m. speaks_of l m.clause ≡ false) n (within n h).0 (within n h).1 (silent larger l f))))

-- the clauses of a node that speak of it
module _ (net : AigPair) (es : List Entry) where
  pub spoken-merge : (n : Node) (m : MergeAt) → merge_of es n ≡ Some m → ¬ AllByRecursion (λ x. speaks_of (negative n) x.clause ≡ false) (named_clauses net es n)
  spoken-merge n m e all =
      let first : AllByRecursion (λ x. speaks_of (negative n) x.clause ≡ false) (named_from (Shown m.entry) 0 (merge_clauses n m.lit)) = rw e at all in
      contrary (speaks_of (negative n) (negative n ∷ m.lit ∷ [])) (or_left _ _ (or_left _ _ (same-lit_self (negative n)))) first.0

  pub spoken-const : merge_of es Const ≡ None → ¬ AllByRecursion (λ x. speaks_of (negative Const) x.clause ≡ false) (named_clauses net es Const)
  spoken-const e all =
      let first : AllByRecursion (λ x. speaks_of (negative Const) x.clause ≡ false) (named_from (Axiom Const) 0 (axioms_of net Const)) = rw e at all in
      contrary (speaks_of (negative Const) (positive Const ∷ [])) refl first.0

  pub spoken-gate : IsNet net → (s : Side) (v : ℕ) (g : And) → gate_at net s v ≡ Some g → merge_of es (Gate s v) ≡ None
      → ¬ AllByRecursion (λ x. speaks_of (negative (Gate s v)) x.clause ≡ false) (named_clauses net es (Gate s v))
  spoken-gate is s v g found none all =
      contrary (speaks_of (negative (Gate s v)) first_clause) (or_left _ _ (or_left _ _ (ap (same_lit (negative (Gate s g.var))) (ap (λ (x : ℕ). negative (Gate s x)) (sym var)) ∙ same-lit_self (negative (Gate s g.var)))))
      first.0
    where
      left : Lit
      left = lit_named s (circuit_of net s) g.left

      var : g.var ≡ v
      var = found-var net s v g found

      first_clause : List Lit
      first_clause = firsts same_lit (negative (Gate s g.var) ∷ left ∷ [])

      other : same_lit left (positive (Gate s g.var)) ≡ false
      other = go (same_lit left (positive (Gate s g.var))) refl
        where
          go : (b : Bool) → same_lit left (positive (Gate s g.var)) ≡ b → b ≡ false
          go false e = refl
          go true e =
              let same : left.node ≡ Gate s v = ap (λ (l : Lit). l.node) (exact-lit left (positive (Gate s g.var)) e) ∙ ap (Gate s) var in
              absurd (irreflexive (position_of net (Gate s v)) (subst (λ (n : Node). IsBefore (position_of net n) (position_of net (Gate s v))) same (left-earlier net is s v g found)))

      stays : has_pair same_lit opposite (negative (Gate s g.var) ∷ left ∷ []) ≡ false
      stays = rw other refl

      first : AllByRecursion (λ x. speaks_of (negative (Gate s v)) x.clause ≡ false)
          (named_from (Axiom (Gate s v)) 0 (first_clause ∷ kept ((negative (Gate s g.var) ∷ lit_named s (circuit_of net s) g.right ∷ [])
          ∷ (positive (Gate s g.var) ∷ opposite left ∷ opposite (lit_named s (circuit_of net s) g.right) ∷ []) ∷ [])))
      first = rw (none, found, stays) at all

-- a test of the clauses, one by one
any-over : (base : List Named) (l : Lit) → list_any (λ m. speaks_of l m.clause) base ≡ is_over base l
any-over [] l = refl
any-over (m ∷ ms) l = ap (λ (b : Bool). speaks_of l m.clause || b) (any-over ms l)

-- whether the cone of the pair's node alone names the literal's input
module _ (net : AigPair) (book : Entries) (task : Task) (cone : List Named)
    (is_cone : IsCone net (take (length book.entries) book.entries) (task.node ∷ []) cone) (named : Bool)
    (is : named ≡ list_any (λ m. speaks_of task.lit m.clause) cone) where
  is_whole : IsCone net book.entries (task.node ∷ []) cone
  is_whole = subst (λ (es : List Entry). IsCone net es (task.node ∷ []) cone) (take-length book.entries) is_cone

  pub named-over : named ≡ true → is_over cone task.lit ≡ true
  named-over t = sym (any-over cone task.lit) ∙ (sym is ∙ t)

  pub named-input : named ≡ true → IsNamedInput net book.entries task
  named-input t k e = record { cone = cone; is_cone = is_whole; holds = named-over t }

  pub unnamed-input : named ≡ false → (k : ℕ) → task.lit.node ≡ Input k → IsUnnamed net book.entries task
  unnamed-input f k e = record {
    input = k;
    is_input = e;
    cone = cone;
    is_cone = is_whole;
    unnamed = sym (any-over cone task.lit) ∙ (sym is ∙ f);
  }

-- a literal's node is named where it or its negation is
same-sides : (n m : Node) (a b : Bool)
    → same_node n m ≡ (same_lit (record { node = n; neg = a }) (record { node = m; neg = b })
    || same_lit (record { node = n; neg = a }) (opposite (record { node = m; neg = b })))
same-sides n m a b = go (same_node n m) refl a b
  where
    go : (t : Bool) → same_node n m ≡ t → (a b : Bool)
        → same_node n m ≡ (same_lit (record { node = n; neg = a }) (record { node = m; neg = b })
        || same_lit (record { node = n; neg = a }) (opposite (record { node = m; neg = b })))
    go true e true true = rw e refl
    go true e true false = rw e refl
    go true e false true = rw e refl
    go true e false false = rw e refl
    go false e true true = rw e refl
    go false e true false = rw e refl
    go false e false true = rw e refl
    go false e false false = rw e refl

clause-speaks : (c : List Lit) (l : Lit) → list_any (λ x. same_node x.node l.node) c ≡ speaks_of l c
clause-speaks [] l = refl
clause-speaks (x ∷ xs) l =
    ap₂ (λ (a b : Bool). a || b) (same-sides x.node l.node x.neg l.neg) (clause-speaks xs l)
    ∙ (shuffle (same_lit x l) (same_lit x (opposite l)) (has same_lit xs l) (has same_lit xs (opposite l)))
  where
    shuffle : (a b c d : Bool) → ((a || b) || (c || d)) ≡ ((a || c) || (b || d))
    shuffle true b c d = refl
    shuffle false true true d = refl
    shuffle false true false d = refl
    shuffle false false c d = refl

pub named-speaks : (base : List Named) (l : Lit) → is_named base l.node ≡ list_any (λ m. speaks_of l m.clause) base
named-speaks [] l = refl
named-speaks (m ∷ ms) l = rw (clause-speaks m.clause l, named-speaks ms l) refl
