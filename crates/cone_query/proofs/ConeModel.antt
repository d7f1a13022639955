-- Values of nodes that meet the clauses of a cone over a legal book are the nodes' values there: a merged node has its
-- target's value, and any other is what its axioms say. So a model of a cone is a counterexample in the circuits.
use Rattle.std.proofs.Common.{◌≡◌, ℕ, zero, suc, ◌+◌, ◌<◌, Bool, true, false, not, ◌&&◌, ◌||◌, Option, Some, None, List, [], ◌∷◌, filter, flat_map, length, take, refl, sym, ap, ap₂, ◌∙◌, subst, if◌then◌else◌, arith}
use Rattle.std.specs.Prelude.{◌==◌, slice_index_or}
use Rattle.std.specs.Option.{IsSome, is_some}
use Rattle.std.specs.List.{list_any, find, AllByRecursion}
use Rattle.std.proofs.lemmas.Map.Views.{any-filter_same}
use Rattle.lits.specs.Assignment.{Holds, Meets}
use Rattle.lits.specs.Clause.{has}
use Rattle.lits.specs.declared.node.Side.{Side}
use Rattle.lits.specs.declared.node.Node.{Node}
use Rattle.lits.specs.declared.node.Node.TheVariants.{Const, Input, Gate, Xor}
use Rattle.lits.specs.declared.literal.Lit.{Lit}
use Rattle.lits.specs.declared.step.Named.{Named}
use Rattle.lits.specs.declared.step.Ref.{Ref}
use Rattle.lits.specs.declared.step.Ref.TheVariants.{Axiom, Entry as Shown}
use Rattle.lits.specs.Same.{same_node}
use Rattle.lits.proofs.Facts.{exact-node, all-append}
use Rattle.netlist.specs.declared.gate.And.{And}
use Rattle.netlist.specs.Circuit.{Aig, var_of}
use Rattle.netlist.specs.Net.{AigPair, IsNet, circuit_of, node_of, lit_named, gate_at, nodes_of, position_of, value_of, lit_holds}
use Rattle.netlist.specs.Miter.{axioms_of, variables_of}
use Rattle.netlist.proofs.Facts.{flat_map-member, values-meet, is_some-place, input-below, has-gate, lit_holds-opposite, position_of-xor}
use Rattle.lemma_book.specs.declared.entry.Entry.{Entry}
use Rattle.lemma_book.specs.Agreement.{IsTrue}
use Rattle.lemma_book.specs.Book.{IsLegal}
use Rattle.lemma_book.specs.Cone.{named_from, named_clauses, AreIn, IsCone}
use Rattle.lemma_book.specs.Entry.{Entries, merge_clauses}
use Rattle.lemma_book.specs.Good.{IsBefore}
use Rattle.lemma_book.specs.Root.{MergeAt, merge_of}
use Rattle.lemma_book.proofs.Facts.{reach-there, merge-earlier, merge-value}
use Rattle.cone_query.proofs.GateClauses.{constant_from_axioms, gate_from_axioms}
use Rattle.cone_query.proofs.GateOrder.{found-var, left-earlier, right-earlier}

-- what holds of all elements holds of the first ones
pub all-take : {X : Type 0} (P : X → Type 0) (k : ℕ) (xs : List X) → AllByRecursion P xs → AllByRecursion P (take k xs)
all-take P zero xs all = tt
all-take P (suc k) [] all = tt
all-take P (suc k) (x ∷ xs) all = (all.0, all-take P k xs all.1)

-- ---- what holds of a cone's clauses
module _ (net : AigPair) (es : List Entry) (seeds : List Node) (cone : List Named) (is_cone : IsCone net es seeds cone) (P : Named → Type 0) where
  -- holds of the clauses of each reached node
  pub cone-at : (n : Node) → is_cone.reached n ≡ true → has same_node (variables_of net) n ≡ true → AllByRecursion P cone
      → AllByRecursion P (named_clauses net es n)
  cone-at n reached there all =
      flat_map-member P (named_clauses net es) (filter is_cone.reached (variables_of net)) (subst (AllByRecursion P) is_cone.clauses all) n
      (any-filter_same (λ y. same_node y n) is_cone.reached true (λ k same. ap is_cone.reached (exact-node k n same) ∙ reached) (variables_of net) ∙ there)

  -- and the other way round
  pub cone-from : ((n : Node) → is_cone.reached n ≡ true → AllByRecursion P (named_clauses net es n)) → AllByRecursion P cone
  cone-from each = subst (AllByRecursion P) (sym is_cone.clauses) (over (variables_of net))
    where
      over : (ns : List Node) → AllByRecursion P (flat_map (named_clauses net es) (filter is_cone.reached ns))
      over [] = tt
      over (n ∷ ns) = go (is_cone.reached n) refl (over ns)
        where
          go : (b : Bool) → is_cone.reached n ≡ b → AllByRecursion P (flat_map (named_clauses net es) (filter is_cone.reached ns))
              → AllByRecursion P (flat_map (named_clauses net es) (filter is_cone.reached (n ∷ ns)))
          go true e rest = rw e (all-append P (named_clauses net es n) (flat_map (named_clauses net es) (filter is_cone.reached ns)) (each n e) rest)
          go false e rest = rw e rest

-- ---- named clauses and their literals
pub named-meets : (v : Lit → Bool) (name : ℕ → Ref) (k : ℕ) (cs : List (List Lit)) → AllByRecursion (λ m. Holds v m.clause) (named_from name k cs) → Meets v cs
named-meets v name k [] all = tt
named-meets v name k (c ∷ cs) all = (all.0, named-meets v name (k + 1) cs all.1)

pub meets-named : (v : Lit → Bool) (name : ℕ → Ref) (k : ℕ) (cs : List (List Lit)) → Meets v cs → AllByRecursion (λ m. Holds v m.clause) (named_from name k cs)
meets-named v name k [] all = tt
meets-named v name k (c ∷ cs) all = (all.0, meets-named v name (k + 1) cs all.1)

-- the clauses of a merge say that node and literal have one value
equal-from : (a : Node → Bool) (n : Node) (t : Lit) → Meets (lit_holds a) (merge_clauses n t) → a n ≡ lit_holds a t
equal-from a n t m = go (a n) (lit_holds a t) m.0 (rw (lit_holds-opposite a t) at m.1.0)
  where
    go : (x y : Bool) → (not x || (y || false)) ≡ true → (x || (not y || false)) ≡ true → x ≡ y
    go true true e f = refl
    go true false e f = cc
    go false true e f = cc
    go false false e f = refl

equal-to : (a : Node → Bool) (n : Node) (t : Lit) → a n ≡ lit_holds a t → Meets (lit_holds a) (merge_clauses n t)
equal-to a n t e = (first (a n) (lit_holds a t) e, (rw (lit_holds-opposite a t) (second (a n) (lit_holds a t) e), tt))
  where
    first : (x y : Bool) → x ≡ y → (not x || (y || false)) ≡ true
    first true true e = refl
    first true false e = cc
    first false y e = refl

    second : (x y : Bool) → x ≡ y → (x || (not y || false)) ≡ true
    second true y e = refl
    second false true e = cc
    second false false e = refl

-- a place below a number
abbrev IsUnder : Option ℕ → ℕ → Type 0
IsUnder (Some p) k = p < k
IsUnder None k = ⊥

-- a node under a place has a position
placed : (net : AigPair) (n : Node) (k : ℕ) → IsUnder (position_of net n) k → has same_node (nodes_of net) n ≡ true
placed net n k u = sym (is_some-place (λ m. same_node m n) (nodes_of net)) ∙ some (position_of net n) u
  where
    some : (o : Option ℕ) → IsUnder o k → is_some o ≡ true
    some (Some p) e = refl
    some None e = absurd e

-- an element that passes is found
pub find-any : {X : Type 0} (p : X → Bool) (xs : List X) → list_any p xs ≡ true → (x : X) × (find p xs ≡ Some x)
find-any p [] e = cc
find-any p (x ∷ xs) e = go (p x) refl (find-any p xs)
  where
    go : (b : Bool) → p x ≡ b → (list_any p xs ≡ true → (y : _) × (find p xs ≡ Some y)) → (y : _) × (find p (x ∷ xs) ≡ Some y)
    go true f rest = (x, rw f refl)
    go false f rest = let r = rest (rw f at e) in (r.0, rw f r.1)

module _ (net : AigPair) (is : IsNet net) (book : Entries) (legal : IsLegal net book) (seen : ℕ)
    (all_true : AllByRecursion (IsTrue net) book.entries) (seeds : List Node) where
  abbrev es : List Entry
  es = take seen book.entries

  module _ (cone : List Named) (is_cone : IsCone net es seeds cone) where
    -- the nodes' values meet a cone's clauses
    pub values-meet_cone : (bits : List Bool) → length bits ≡ length net.a.inputs
        → AllByRecursion (λ m. Holds (lit_holds (value_of net bits)) m.clause) cone
    values-meet_cone bits whole = cone-from net es seeds cone is_cone (λ m. Holds (lit_holds (value_of net bits)) m.clause) (λ n reached. go n (merge_of es n) refl)
      where
        go : (n : Node) (o : Option MergeAt) → merge_of es n ≡ o → AllByRecursion (λ m. Holds (lit_holds (value_of net bits)) m.clause) (named_clauses net es n)
        go n None e = rw e (meets-named (lit_holds (value_of net bits)) (Axiom n) 0 (axioms_of net n) (values-meet net is bits n))
        go n (Some m) e =
            rw e (meets-named (lit_holds (value_of net bits)) (Shown m.entry) 0 (merge_clauses n m.lit)
            (equal-to (value_of net bits) n m.lit (merge-value net es (all-take (IsTrue net) seen book.entries all_true) n m e bits whole)))

    module _ (starts : AreIn (has same_node (variables_of net)) seeds) (a : Node → Bool)
        (meets : AllByRecursion (λ m. Holds (lit_holds a) m.clause) cone) (bits : List Bool) (whole : length bits ≡ length net.a.inputs)
        (inputs : (k : ℕ) → k < length net.a.inputs → is_cone.reached (Input k) ≡ true → a (Input k) ≡ slice_index_or bits k false) where
      there : (n : Node) → is_cone.reached n ≡ true → has same_node (variables_of net) n ≡ true
      there n h = reach-there net is book legal seen seeds starts is_cone.reached is_cone.reach n h

      -- what a reached node that isn't merged asks, and one that is
      axioms-at : (n : Node) → is_cone.reached n ≡ true → merge_of es n ≡ None → Meets (lit_holds a) (axioms_of net n)
      axioms-at n h none =
          named-meets (lit_holds a) (Axiom n) 0 (axioms_of net n)
          (rw none at (cone-at net es seeds cone is_cone (λ m. Holds (lit_holds a) m.clause) n h (there n h) meets))

      merge-at : (n : Node) (m : MergeAt) → is_cone.reached n ≡ true → merge_of es n ≡ Some m → a n ≡ lit_holds a m.lit
      merge-at n m h e =
          equal-from a n m.lit (named-meets (lit_holds a) (Shown m.entry) 0 (merge_clauses n m.lit)
          (rw e at (cone-at net es seeds cone is_cone (λ x. Holds (lit_holds a) x.clause) n h (there n h) meets)))

      under-earlier : (p q : Option ℕ) (k : ℕ) → IsBefore p q → IsUnder q (suc k) → IsUnder p k
      under-earlier (Some p) (Some q) k e f = omega arith
      under-earlier (Some p) None k e f = absurd e
      under-earlier None q k e f = absurd e

      lit-value : (l : Lit) → a l.node ≡ value_of net bits l.node → lit_holds a l ≡ lit_holds (value_of net bits) l
      lit-value l e = ap (λ (b : Bool). if l.neg then not b else b) e

      gate-value : (s : Side) (v : ℕ) (g : And) → gate_at net s v ≡ Some g → is_cone.reached (Gate s v) ≡ true → merge_of es (Gate s v) ≡ None
          → (k : ℕ) → IsUnder (position_of net (Gate s v)) (suc k)
          → ((m : Node) → IsUnder (position_of net m) k → is_cone.reached m ≡ true → a m ≡ value_of net bits m)
          → a (Gate s v) ≡ value_of net bits (Gate s v)
      gate-value s v g found r none k u rest =
          gate_from_axioms net a s v g found same (axioms-at (Gate s v) r none)
          ∙ (ap₂ ◌&&◌
          (lit-value (lit_named s c g.left) (rest (node_of s c (var_of g.left)) (under-earlier _ (position_of net (Gate s v)) k (left-earlier net is s v g found) u) nexts.0))
          (lit-value (lit_named s c g.right) (rest (node_of s c (var_of g.right)) (under-earlier _ (position_of net (Gate s v)) k (right-earlier net is s v g found) u) nexts.1.0))
          ∙ sym (gate_from_axioms net (value_of net bits) s v g found same (values-meet net is bits (Gate s v))))
        where
          c : Aig
          c = circuit_of net s

          same : g.var ≡ v
          same = found-var net s v g found

          nexts : AreIn is_cone.reached (node_of s c (var_of g.left) ∷ node_of s c (var_of g.right) ∷ [])
          nexts = rw (none, found) at (is_cone.reach.closed.nexts (Gate s v) r)

      agree-under : (k : ℕ) (n : Node) → IsUnder (position_of net n) k → is_cone.reached n ≡ true → a n ≡ value_of net bits n
      agree-under zero n under h = absurd (nothing (position_of net n) under)
        where
          nothing : (o : Option ℕ) → IsUnder o 0 → ⊥
          nothing (Some p) e = omega arith
          nothing None e = e
      agree-under (suc k) n under h = merged (agree-under k) (merge_of es n) refl
        where
          plain : ((m : Node) → IsUnder (position_of net m) k → is_cone.reached m ≡ true → a m ≡ value_of net bits m)
              → (x : Node) → IsUnder (position_of net x) (suc k) → is_cone.reached x ≡ true → merge_of es x ≡ None → a x ≡ value_of net bits x
          plain rest Const u r e = constant_from_axioms net a (axioms-at Const r e)
          plain rest (Input i) u r e = inputs i (input-below net i (placed net (Input i) (suc k) u)) r
          plain rest (Gate s v) u r e =
              let f = find-any (λ g. g.var == v) (circuit_of net s).gates (sym (has-gate net s v) ∙ placed net (Gate s v) (suc k) u) in
              gate-value s v f.0 f.1 r e k u rest
          plain rest (Xor j) u r e = let f : IsUnder None (suc k) = rw (position_of-xor net j) at u in absurd f

          merged : ((m : Node) → IsUnder (position_of net m) k → is_cone.reached m ≡ true → a m ≡ value_of net bits m)
              → (o : Option MergeAt) → merge_of es n ≡ o → a n ≡ value_of net bits n
          merged rest None e = plain rest n under h e
          merged rest (Some m) e =
              let below = under-earlier (position_of net m.lit.node) (position_of net n) k (merge-earlier net book legal seen n m e) under in
              let reached : is_cone.reached m.lit.node ≡ true = (rw e at (is_cone.reach.closed.nexts n h)).0 in
              merge-at n m h e
              ∙ (lit-value m.lit (rest m.lit.node below reached)
              ∙ sym (merge-value net es (all-take (IsTrue net) seen book.entries all_true) n m e bits whole))

      -- each reached node with a position has its value in the circuits
      pub agree : (n : Node) → IsSome (position_of net n) → is_cone.reached n ≡ true → a n ≡ value_of net bits n
      agree n some h = go (position_of net n) refl
        where
          go : (o : Option ℕ) → position_of net n ≡ o → a n ≡ value_of net bits n
          go None e = let f : false ≡ true = rw e at some in cc
          go (Some p) e = let u : IsUnder (position_of net n) (suc p) = rw e (omega arith) in agree-under (suc p) n u h

      pub agree-lit : (l : Lit) → IsSome (position_of net l.node) → is_cone.reached l.node ≡ true → lit_holds a l ≡ lit_holds (value_of net bits) l
      agree-lit l some h = lit-value l (agree l.node some h)
