-- The nodes that the miter has variables for: each stands once in their order.
use Rattle.std.proofs.Common.{◌≡◌, ℕ, ◌+◌, ◌≤◌, true, false, Option, Some, None, List, [], ◌∷◌, ◌++◌, map, length, refl, ap, ◌∙◌, arith}
use Rattle.std.specs.Prelude.{◌==◌}
use Rattle.std.specs.Option.{option_map, is_some}
use Rattle.std.specs.List.{range_with_len, AllByRecursion}
use Rattle.std.proofs.lemmas.List.{map-append}
use Rattle.std.proofs.lemmas.List.Folds.{list_any-append}
use Rattle.std.proofs.lemmas.Option.{none-some, same_Some}
use Rattle.lits.specs.Clause.{has, no_repeat}
use Rattle.lits.specs.declared.node.Side.{Side}
use Rattle.lits.specs.declared.node.Side.TheVariants.{A, B}
use Rattle.lits.specs.declared.node.Node.{Node}
use Rattle.lits.specs.declared.node.Node.TheVariants.{Const, Input, Gate, Xor}
use Rattle.netlist.specs.declared.gate.And.{And}
use Rattle.netlist.specs.Place.{place_of}
use Rattle.netlist.specs.Circuit.{gate_vars, Aig}
use Rattle.netlist.specs.Net.{AigPair, IsNet, circuit_of, definition_of}
use Rattle.lits.specs.Same.{same_node}
use Rattle.lits.proofs.Facts.{no_repeat-range}
use Rattle.netlist.specs.Miter.{xors_of, variables_of, variable_of}
use Rattle.netlist.proofs.Facts.{is_some-place, variables, is_circuit}
use Rattle.lemma_book.proofs.RepeatLemmas.{no_repeat-append, no_repeat-rest, no_repeat-map, has-map-none, all-made}

-- a node has a variable exactly where it is among the nodes
pub is_some-variable : (net : AigPair) (n : Node) → is_some (variable_of net n) ≡ has same_node (variables_of net) n
is_some-variable net n = go (place_of (λ m. same_node m n) (variables_of net)) ∙ is_some-place (λ m. same_node m n) (variables_of net)
  where
    go : (o : Option ℕ) → is_some (option_map (λ k. k + 1) o) ≡ is_some o
    go None = refl
    go (Some k) = refl

-- variables count from 1
pub variable-positive : (net : AigPair) (n : Node) (k : ℕ) → variable_of net n ≡ Some k → 1 ≤ k
variable-positive net n k e = go (place_of (λ m. same_node m n) (variables_of net)) refl
  where
    go : (o : Option ℕ) → place_of (λ m. same_node m n) (variables_of net) ≡ o → 1 ≤ k
    go None f = absurd (none-some k (rw f at e))
    go (Some i) f = let next : i + 1 ≡ k = same_Some (i + 1) k (rw f at e) in omega arith

-- the gates' nodes of one side
gates-made : (s : Side) (net : AigPair) (gates : List And)
    → map (λ d. d.node) (map (definition_of s (circuit_of net s)) gates) ≡ map (Gate s) (gate_vars gates)
gates-made s net [] = refl
gates-made s net (g ∷ gs) = ap (λ (l : List Node). Gate s g.var ∷ l) (gates-made s net gs)

-- the nodes, side by side
abbrev inputs : AigPair → List Node
inputs net = map Input (range_with_len 0 (length net.a.inputs))

abbrev gates : AigPair → Side → List Node
gates net s = map (Gate s) (gate_vars (circuit_of net s).gates)

in_parts : (net : AigPair) → variables_of net ≡ (Const ∷ (inputs net ++ (gates net A ++ gates net B))) ++ xors_of net
in_parts net =
    ap (λ (l : List Node). (Const ∷ (inputs net ++ l)) ++ xors_of net)
    (map-append (λ d. d.node) (map (definition_of A net.a) net.a.gates) (map (definition_of B net.b) net.b.gates)
    ∙ ap (λ (l : List Node). l ++ map (λ d. d.node) (map (definition_of B net.b) net.b.gates)) (gates-made A net net.a.gates)
    ∙ ap (λ (l : List Node). gates net A ++ l) (gates-made B net net.b.gates))

module _ (net : AigPair) (is : IsNet net) where
  gates-distinct : (s : Side) → no_repeat same_node (gates net s) ≡ true
  gates-distinct s =
      no_repeat-map same_node ◌==◌ (Gate s) (same s) (gate_vars c.gates)
      ∙ no_repeat-rest ◌==◌ (0 ∷ c.inputs) (gate_vars c.gates) (variables c (is_circuit net is s)).distinct
    where
      c : Aig
      c = circuit_of net s

      same : (t : Side) (x y : ℕ) → same_node (Gate t x) (Gate t y) ≡ (x == y)
      same A x y = refl
      same B x y = refl

  inputs-distinct : no_repeat same_node (inputs net) ≡ true
  inputs-distinct = no_repeat-map same_node ◌==◌ Input (λ x y. refl) (range_with_len 0 (length net.a.inputs)) ∙ no_repeat-range (length net.a.inputs) 0

  xors-distinct : no_repeat same_node (xors_of net) ≡ true
  xors-distinct = no_repeat-map same_node ◌==◌ Xor (λ x y. refl) (range_with_len 0 (length net.a.outputs)) ∙ no_repeat-range (length net.a.outputs) 0

  both-none : (xs ys : List Node) (q : Node) → has same_node xs q ≡ false → has same_node ys q ≡ false → has same_node (xs ++ ys) q ≡ false
  both-none xs ys q e f = list_any-append (λ y. same_node y q) xs ys ∙ rw (e, f) refl

  gates-none : (q : Node) → ((s : Side) (v : ℕ) → same_node (Gate s v) q ≡ false) → has same_node (gates net A ++ gates net B) q ≡ false
  gates-none q apart =
      both-none (gates net A) (gates net B) q (has-map-none same_node (Gate A) q (apart A) (gate_vars net.a.gates))
      (has-map-none same_node (Gate B) q (apart B) (gate_vars net.b.gates))

  xors-none : (q : Node) → ((j : ℕ) → same_node (Xor j) q ≡ false) → has same_node (xors_of net) q ≡ false
  xors-none q apart = has-map-none same_node Xor q apart (range_with_len 0 (length net.a.outputs))

  both-gates : no_repeat same_node (gates net A ++ gates net B) ≡ true
  both-gates =
      no_repeat-append same_node (gates net A) (gates net B) (gates-distinct A) (gates-distinct B)
      (all-made (λ q. has same_node (gates net B) q ≡ false) (Gate A)
      (λ v. has-map-none same_node (Gate B) (Gate A v) (λ w. refl) (gate_vars net.b.gates)) (gate_vars net.a.gates))

  inputs-gates : no_repeat same_node (inputs net ++ (gates net A ++ gates net B)) ≡ true
  inputs-gates =
      no_repeat-append same_node (inputs net) (gates net A ++ gates net B) inputs-distinct both-gates
      (all-made (λ q. has same_node (gates net A ++ gates net B) q ≡ false) Input (λ k. gates-none (Input k) (λ s v. refl))
      (range_with_len 0 (length net.a.inputs)))

  no-const : has same_node (inputs net ++ (gates net A ++ gates net B)) Const ≡ false
  no-const =
      both-none (inputs net) (gates net A ++ gates net B) Const
      (has-map-none same_node Input Const (λ k. refl) (range_with_len 0 (length net.a.inputs))) (gates-none Const (λ s v. refl))

  all-joined : (P : Node → Type 0) (xs ys : List Node) → AllByRecursion P xs → AllByRecursion P ys → AllByRecursion P (xs ++ ys)
  all-joined P [] ys p q = q
  all-joined P (x ∷ xs) ys p q = (p.0, all-joined P xs ys p.1 q)

  -- no XOR is among the others
  others : AllByRecursion (λ q. has same_node (xors_of net) q ≡ false) (Const ∷ (inputs net ++ (gates net A ++ gates net B)))
  others = (
    xors-none Const (λ j. refl),
    all-joined (λ q. has same_node (xors_of net) q ≡ false) (inputs net) (gates net A ++ gates net B)
        (all-made (λ q. has same_node (xors_of net) q ≡ false) Input (λ k. xors-none (Input k) (λ j. refl)) (range_with_len 0 (length net.a.inputs)))
        (all-joined (λ q. has same_node (xors_of net) q ≡ false) (gates net A) (gates net B)
        (all-made (λ q. has same_node (xors_of net) q ≡ false) (Gate A) (λ v. xors-none (Gate A v) (λ j. refl)) (gate_vars net.a.gates))
        (all-made (λ q. has same_node (xors_of net) q ≡ false) (Gate B) (λ v. xors-none (Gate B v) (λ j. refl)) (gate_vars net.b.gates))),
  )

  -- no node stands twice
  pub variables-distinct : no_repeat same_node (variables_of net) ≡ true
  variables-distinct =
      ap (no_repeat same_node) (in_parts net)
      ∙ no_repeat-append same_node (Const ∷ (inputs net ++ (gates net A ++ gates net B))) (xors_of net) (rw (no-const, inputs-gates) refl)
      xors-distinct others
