-- The nodes of circuit A stand before those of B, so the root of a literal of A is over a node of A.
use Rattle.std.proofs.Common.{◌≡◌, ℕ, ◌+◌, ◌<◌, Bool, true, false, ◌||◌, cond, Option, Some, None, List, [], ◌∷◌, ◌++◌, length, map, refl, sym, ap, ◌∙◌, arith, if◌then◌else◌}
use Rattle.std.specs.Prelude.{◌==◌, nat_lt, slice_get, is_some}
use Rattle.std.specs.Option.{option_map, option_map_or, option_and_then}
use Rattle.std.specs.List.{list_all, list_any, AllByRecursion}
use Rattle.std.proofs.lemmas.Bool.{and_parts}
use Rattle.std.proofs.lemmas.Bool.Decides.{nat_tests}
use Rattle.std.proofs.lemmas.List.Folds.{list_any-append}
use Rattle.std.proofs.lemmas.Option.{none-some, same_Some}
use Rattle.lits.specs.Clause.{has}
use Rattle.lits.specs.declared.node.Side.TheVariants.{A, B}
use Rattle.lits.specs.declared.node.Node.{Node}
use Rattle.lits.specs.declared.node.Node.TheVariants.{Const, Input, Gate, Xor}
use Rattle.lits.specs.declared.literal.Lit.{Lit}
use Rattle.lits.proofs.Facts.{lt-true, list_any-map}
use Rattle.netlist.specs.declared.gate.And.{And}
use Rattle.netlist.specs.Place.{place_of}
use Rattle.netlist.specs.Pair.{first_gate}
use Rattle.netlist.specs.declared.gate.Definition.{Definition}
use Rattle.netlist.specs.Circuit.{Aig, gate_vars, var_of, is_over, variables_in}
use Rattle.netlist.specs.Net.{AigPair, IsNet, definition_of, gate_at, lit_named, lit_of, node_of, position_of}
use Rattle.netlist.proofs.Facts.{at-place, equal-number, find-place, gate-definition, is_some-place, position-gate, position_of-input, position_of-xor}
use Rattle.lemma_book.specs.Entry.{Entries}
use Rattle.lemma_book.specs.Root.{root_of}
use Rattle.lemma_book.specs.Book.{IsLegal}
use Rattle.lemma_book.proofs.Facts.{root-lower}
use Rattle.fraig_write.specs.Marks.{is_in}
use Rattle.fraig_write.specs.Reduced.{ends_of, fanins_in}
use Rattle.fraig_write.proofs.FilterLemmas.{place-some}

-- the position behind the last gate of A
abbrev pub end_of : AigPair → ℕ
end_of net = 1 + length net.a.inputs + length net.a.gates

module _ (net : AigPair) where
  -- a node of A has a position before that
  pub in-below : (n : Node) → is_in net.a n ≡ true → (p : ℕ) × (position_of net n ≡ Some p) × (p < end_of net)
  in-below Const e = (0, refl, omega arith)
  in-below (Input k) e =
      let t : nat_lt k (length net.a.inputs) ≡ true = e in
      let lt : k < length net.a.inputs = grind (arith, nat_tests, t) in
      (k + 1, position_of-input net k ∙ rw t refl, omega (arith, lt))
  in-below (Gate A v) e =
      let p = place-some (λ g. g.var == v) net.a.gates e in
      (first_gate net A + p.0, sym (position-gate net A v) ∙ ap (option_map (λ g. first_gate net A + g)) p.1, omega (arith, p.2))
  in-below (Gate B v) e = let f : false ≡ true = e in cc
  in-below (Xor j) e = let f : false ≡ true = e in cc

  -- and a node with such a position is one of A
  pub below-in : (n : Node) (p : ℕ) → position_of net n ≡ Some p → p < end_of net → is_in net.a n ≡ true
  below-in Const p e lt = refl
  below-in (Input k) p e lt = go (nat_lt k (length net.a.inputs)) refl
    where
      go : (b : Bool) → nat_lt k (length net.a.inputs) ≡ b → nat_lt k (length net.a.inputs) ≡ true
      go true f = f
      go false f =
          let none : None ≡ Some p = sym (position_of-input net k ∙ ap (λ (b : Bool). cond b (Some (k + 1)) None) f) ∙ e in
          absurd (none-some p none)
  below-in (Gate A v) p e lt = go (place_of (λ g. g.var == v) net.a.gates) refl
    where
      go : (o : Option ℕ) → place_of (λ g. g.var == v) net.a.gates ≡ o → list_any (λ g. g.var == v) net.a.gates ≡ true
      go (Some i) f = (at-place (λ g. g.var == v) net.a.gates i f).4
      go None f =
          let none : None ≡ Some p = sym (ap (option_map (λ g. first_gate net A + g)) f) ∙ position-gate net A v ∙ e in
          absurd (none-some p none)
  below-in (Gate B v) p e lt = go (place_of (λ g. g.var == v) net.b.gates) refl
    where
      go : (o : Option ℕ) → place_of (λ g. g.var == v) net.b.gates ≡ o → is_in net.a (Gate B v) ≡ true
      go (Some i) f =
          let at : Some (first_gate net B + i) ≡ Some p = sym (ap (option_map (λ g. first_gate net B + g)) f) ∙ position-gate net B v ∙ e in
          let same : first_gate net B + i ≡ p = same_Some (first_gate net B + i) p at in
          absurd (omega (arith, same, lt))
      go None f =
          let none : None ≡ Some p = sym (ap (option_map (λ g. first_gate net B + g)) f) ∙ position-gate net B v ∙ e in
          absurd (none-some p none)
  below-in (Xor j) p e lt = absurd (none-some p (sym (position_of-xor net j) ∙ e))

  -- a variable of A names a node of A
  pub node-in : (v : ℕ) → has ◌==◌ (variables_in net.a) v ≡ true → is_in net.a (node_of A net.a v) ≡ true
  node-in v h = go (v == 0) refl
    where
      rest : Option ℕ → Node
      rest o = option_map_or Input o (Gate A v)

      split : has ◌==◌ (variables_in net.a) v ≡ (0 == v || (has ◌==◌ net.a.inputs v || list_any (λ g. g.var == v) net.a.gates))
      split = ap (λ (b : Bool). 0 == v || b)
          (list_any-append (λ y. y == v) net.a.inputs (gate_vars net.a.gates)
          ∙ ap (λ (b : Bool). has ◌==◌ net.a.inputs v || b) (list_any-map (λ y. y == v) (λ g. g.var) net.a.gates))

      last : (a b d : Bool) → (a || (b || d)) ≡ true → a ≡ false → b ≡ false → d ≡ true
      last true b d e f g = cc
      last false true d e f g = cc
      last false false d e f g = e

      behind : (o : Option ℕ) → place_of (λ x. x == v) net.a.inputs ≡ o → (0 == v) ≡ false → is_in net.a (rest o) ≡ true
      behind (Some k) e far = lt-true k (length net.a.inputs) (at-place (λ x. x == v) net.a.inputs k e).3
      behind None e far =
          last (0 == v) (has ◌==◌ net.a.inputs v) (list_any (λ g. g.var == v) net.a.gates) (sym split ∙ h) far
          (sym (is_some-place (λ x. x == v) net.a.inputs) ∙ ap is_some e)

      go : (b : Bool) → (v == 0) ≡ b → is_in net.a (node_of A net.a v) ≡ true
      go true e = ap (λ (b : Bool). is_in net.a (if b then Const else rest (place_of (λ x. x == v) net.a.inputs))) e
      go false e =
          let far : (0 == v) ≡ false = grind (arith, nat_tests, e) in
          ap (λ (b : Bool). is_in net.a (if b then Const else rest (place_of (λ x. x == v) net.a.inputs))) e
          ∙ behind (place_of (λ x. x == v) net.a.inputs) refl far

  -- the literal that an AIGER literal means is over a node of A
  pub lit-named : (x : ℕ) (l : Lit) → lit_of net A x ≡ Some l → (lit_named A net.a x ≡ l) × (is_in net.a l.node ≡ true)
  lit-named x l e = go (is_over (variables_in net.a) x) refl e
    where
      go : (b : Bool) → is_over (variables_in net.a) x ≡ b → (if b then Some (lit_named A net.a x) else None) ≡ Some l
          → (lit_named A net.a x ≡ l) × (is_in net.a l.node ≡ true)
      go false f h = absurd (none-some l h)
      go true f h =
          let same : lit_named A net.a x ≡ l = same_Some (lit_named A net.a x) l h in
          (same, ap (λ (m : Lit). is_in net.a m.node) (sym same) ∙ node-in (var_of x) f)

  -- so are literals over A's variables
  pub named-in : (xs : List ℕ) → list_all (is_over (variables_in net.a)) xs ≡ true
      → AllByRecursion (λ l. is_in net.a l.node ≡ true) (map (lit_named A net.a) xs)
  named-in [] e = tt
  named-in (x ∷ xs) e =
      let r = and_parts (is_over (variables_in net.a) x) (list_all (is_over (variables_in net.a)) xs) e in
      (node-in (var_of x) r.0, named-in xs r.1)

list_all-append : {X : Type 0} (test : X → Bool) (xs ys : List X) → list_all test xs ≡ true → list_all test ys ≡ true → list_all test (xs ++ ys) ≡ true
list_all-append test [] ys e f = f
list_all-append test (x ∷ xs) ys e f =
    let r = and_parts (test x) (list_all test xs) e in rw (r.0, list_all-append test xs ys r.1 f) refl

from-definition : (a : Aig) (o : Option And) (d : Definition) → option_map (definition_of A a) o ≡ Some d
    → option_map_or (λ g. lit_named A a g.left ∷ lit_named A a g.right ∷ []) o [] ≡ d.left ∷ d.right ∷ []
from-definition a None d e = absurd (none-some d e)
from-definition a (Some g) d e = ap (λ (x : Definition). x.left ∷ x.right ∷ []) (same_Some (definition_of A a g) d e)

-- the literal's node has a position before that one
abbrev pub IsBelow : AigPair → ℕ → Lit → Type 0
IsBelow net bound l = (p : ℕ) × (position_of net l.node ≡ Some p) × (p < bound)

module _ (net : AigPair) (is : IsNet net) where
  -- the outputs and the constraints are over nodes of A
  pub ends-in : AllByRecursion (λ l. is_in net.a l.node ≡ true) (ends_of net.a)
  ends-in =
      named-in net (net.a.outputs ++ net.a.constraints)
      (list_all-append (is_over (variables_in net.a)) net.a.outputs net.a.constraints is.a.outputs is.a.constraints)

  -- the fanins of the gate at a place, and that they stand before it
  pub fanins-at : (j : ℕ) (g : And) → slice_get net.a.gates j ≡ Some g
      → fanins_in net.a (Gate A g.var) ≡ lit_named A net.a g.left ∷ lit_named A net.a g.right ∷ []
  fanins-at j g e = from-definition net.a (gate_at net A g.var) (definition_of A net.a g) (gate-definition net is A j g e).0

  pub fanins-before : (j : ℕ) (g : And) → slice_get net.a.gates j ≡ Some g
      → AllByRecursion (IsBelow net (first_gate net A + j)) (lit_named A net.a g.left ∷ lit_named A net.a g.right ∷ [])
  fanins-before j g e = let r = gate-definition net is A j g e in (r.1, (r.2, tt))

  -- the gate of a variable stands at a place
  pub gate-there : (v : ℕ) (g : And) → gate_at net A v ≡ Some g → (k : ℕ) × (slice_get net.a.gates k ≡ Some g) × (g.var ≡ v) × (k < length net.a.gates)
  gate-there v g e = go (place_of (λ h. h.var == v) net.a.gates) refl
    where
      found : (o : Option ℕ) → place_of (λ h. h.var == v) net.a.gates ≡ o → option_and_then (slice_get net.a.gates) o ≡ Some g
      found o f = sym (find-place (λ h. h.var == v) net.a.gates ∙ ap (option_and_then (slice_get net.a.gates)) f) ∙ e

      go : (o : Option ℕ) → place_of (λ h. h.var == v) net.a.gates ≡ o
          → (k : ℕ) × (slice_get net.a.gates k ≡ Some g) × (g.var ≡ v) × (k < length net.a.gates)
      go None f = absurd (none-some g (found None f))
      go (Some k) f =
          let r = at-place (λ h. h.var == v) net.a.gates k f in
          let same : r.0 ≡ g = same_Some r.0 g (sym r.1 ∙ found (Some k) f) in
          (k, found (Some k) f, ap (λ (h : And). h.var) (sym same) ∙ equal-number r.0.var v r.2, r.3)

  -- a node that stands before a gate of A is one of A
  below-gate : (j : ℕ) (l : Lit) → j < length net.a.gates → IsBelow net (first_gate net A + j) l → is_in net.a l.node ≡ true
  below-gate j l lt below = below-in net l.node below.0 below.1 (omega (arith, below.2, lt))

  -- so the fanins of every node are over nodes of A
  pub fanins-in : (n : Node) → AllByRecursion (λ l. is_in net.a l.node ≡ true) (fanins_in net.a n)
  fanins-in Const = tt
  fanins-in (Input k) = tt
  fanins-in (Gate B v) = tt
  fanins-in (Xor j) = tt
  fanins-in (Gate A v) = go (gate_at net A v) refl
    where
      go : (o : Option And) → gate_at net A v ≡ o
          → AllByRecursion (λ l. is_in net.a l.node ≡ true) (option_map_or (λ g. lit_named A net.a g.left ∷ lit_named A net.a g.right ∷ []) o [])
      go None e = tt
      go (Some g) e =
          let k = gate-there v g e in
          let r = fanins-before k.0 g k.1 in
          (below-gate k.0 (lit_named A net.a g.left) k.3 r.0, (below-gate k.0 (lit_named A net.a g.right) k.3 r.1.0, tt))

module _ (net : AigPair) (book : Entries) (legal : IsLegal net book) where
  -- the root of a literal over a node of A is over one
  pub root-in : (l : Lit) → is_in net.a l.node ≡ true → is_in net.a (root_of book.entries l).node ≡ true
  root-in l e =
      let p = in-below net l.node e in
      let q = root-lower net book legal l p.0 p.1 in
      below-in net (root_of book.entries l).node q.0 q.1 (omega (arith, q.2, p.2))

  -- and stands before what the literal's node stands before
  pub root-before : (bound : ℕ) (l : Lit) → IsBelow net bound l → IsBelow net bound (root_of book.entries l)
  root-before bound l below =
      let q = root-lower net book legal l below.0 below.1 in
      (q.0, q.1, omega (arith, q.2, below.2))
