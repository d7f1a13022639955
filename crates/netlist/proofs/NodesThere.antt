-- Which nodes have a position or a CNF variable: each side's variables name nodes with a position, so each literal of a
-- clause that defines a node has a CNF variable.
use Rattle.std.proofs.Common.{◌≡◌, ℕ, ◌<◌, Bool, true, false, ◌||◌, Option, Some, None, List, [], ◌∷◌, map, length, refl, sym, ap, ap₂, ◌∙◌, if◌then◌else◌, arith}
use Rattle.std.specs.Prelude.{◌==◌, slice_get, slice_index}
use Rattle.std.specs.Option.{option_map_or}
use Rattle.std.specs.List.{list_any, range_with_len}
use Rattle.std.proofs.lemmas.List.Folds.{list_any-append}
use Rattle.std.proofs.lemmas.Option.{none-some, slice_get-get_or}
use Rattle.std.proofs.Math.Bool.{or-false}
use Rattle.lits.specs.Clause.{has}
use Rattle.lits.specs.declared.node.Side.{Side}
use Rattle.lits.specs.declared.node.Side.TheVariants.{A, B}
use Rattle.lits.specs.declared.node.Node.{Node}
use Rattle.lits.specs.declared.node.Node.TheVariants.{Const, Input, Gate, Xor}
use Rattle.netlist.specs.declared.gate.And.{And}
use Rattle.netlist.specs.Place.{place_of}
use Rattle.netlist.specs.Circuit.{gate_vars, variables_in, is_over, Aig}
use Rattle.netlist.specs.Net.{AigPair, IsNet, circuit_of, node_of, definition_of, definitions, nodes_of}
use Rattle.lits.specs.Same.{same_node}
use Rattle.lits.proofs.Facts.{list_any-map, has-append, node_laws}
use Rattle.netlist.specs.Miter.{xors_of, variables_of}
use Rattle.netlist.proofs.PlaceLemmas.{place_none}
use Rattle.netlist.proofs.SameNodes.{other-number, place_from_any, at-place, list_any-same, list_all-get, in-range, range-has}
use Rattle.netlist.proofs.NodeValues.{is_circuit}

list_any_false : {X : Type 0} (xs : List X) → list_any (λ x. false) xs ≡ false
list_any_false [] = refl
list_any_false (x ∷ xs) = list_any_false xs

-- among nodes made from the elements of a list
has-map : {X : Type 0} (f : X → Node) (test : X → Bool) (n : Node) → ((x : X) → same_node (f x) n ≡ test x) → (xs : List X)
    → has same_node (map f xs) n ≡ list_any test xs
has-map f test n same xs = list_any-map (λ y. same_node y n) f xs ∙ list_any-same (λ x. same_node (f x) n) test same xs

-- the last of three tests passes where neither other one does
pub or_last : (a b d : Bool) → (a || (b || d)) ≡ true → a ≡ false → b ≡ false → d ≡ true
or_last true b d e f g = cc
or_last false true d e f g = cc
or_last false false d e f g = e

abbrev inputs_of : AigPair → List Node
inputs_of net = map Input (range_with_len 0 (length net.a.inputs))

abbrev gates_of : AigPair → List Node
gates_of net = map (λ d. d.node) (definitions net)

-- the gates among the nodes, by a test of each side's
has-gates : (net : AigPair) (n : Node) (p q : And → Bool) → ((g : And) → same_node (Gate A g.var) n ≡ p g)
    → ((g : And) → same_node (Gate B g.var) n ≡ q g)
    → has same_node (gates_of net) n ≡ (list_any p net.a.gates || list_any q net.b.gates)
has-gates net n p q a b =
    list_any-map (λ y. same_node y n) (λ d. d.node) (definitions net)
    ∙ list_any-append (λ d. same_node d.node n) (map (definition_of A net.a) net.a.gates) (map (definition_of B net.b) net.b.gates)
    ∙ ap₂ ◌||◌ (list_any-map (λ d. same_node d.node n) (definition_of A net.a) net.a.gates ∙ list_any-same (λ g. same_node (Gate A g.var) n) p a net.a.gates)
    (list_any-map (λ d. same_node d.node n) (definition_of B net.b) net.b.gates ∙ list_any-same (λ g. same_node (Gate B g.var) n) q b net.b.gates)

module _ (net : AigPair) where
  no-inputs : (n : Node) → ((k : ℕ) → same_node (Input k) n ≡ false) → has same_node (inputs_of net) n ≡ false
  no-inputs n none =
      has-map Input (λ k. false) n none (range_with_len 0 (length net.a.inputs)) ∙ list_any_false (range_with_len 0 (length net.a.inputs))

  no-gates : (n : Node) → ((s : Side) (v : ℕ) → same_node (Gate s v) n ≡ false) → has same_node (gates_of net) n ≡ false
  no-gates n none =
      has-gates net n (λ g. false) (λ g. false) (λ g. none A g.var) (λ g. none B g.var)
      ∙ ap₂ ◌||◌ (list_any_false net.a.gates) (list_any_false net.b.gates)

  no-xors : (n : Node) → ((k : ℕ) → same_node (Xor k) n ≡ false) → has same_node (xors_of net) n ≡ false
  no-xors n none =
      has-map Xor (λ k. false) n none (range_with_len 0 (length net.a.outputs)) ∙ list_any_false (range_with_len 0 (length net.a.outputs))

  -- a gate's node is there exactly where its side has the gate
  pub has-gate : (s : Side) (v : ℕ) → has same_node (nodes_of net) (Gate s v) ≡ list_any (λ g. g.var == v) (circuit_of net s).gates
  has-gate A v =
      has-append node_laws (inputs_of net) (gates_of net) (Gate A v)
      ∙ ap₂ ◌||◌ (no-inputs (Gate A v) (λ k. refl)) (has-gates net (Gate A v) (λ g. g.var == v) (λ g. false) (λ g. refl) (λ g. refl))
      ∙ ap (λ (b : Bool). list_any (λ g. g.var == v) net.a.gates || b) (list_any_false net.b.gates)
      ∙ or-false (list_any (λ g. g.var == v) net.a.gates)
  has-gate B v =
      has-append node_laws (inputs_of net) (gates_of net) (Gate B v)
      ∙ ap₂ ◌||◌ (no-inputs (Gate B v) (λ k. refl)) (has-gates net (Gate B v) (λ g. false) (λ g. g.var == v) (λ g. refl) (λ g. refl))
      ∙ ap (λ (b : Bool). b || list_any (λ g. g.var == v) net.b.gates) (list_any_false net.a.gates)

  -- an input's node is there exactly where its index is below the number of inputs
  pub has-input : (k : ℕ) → has same_node (nodes_of net) (Input k) ≡ list_any (λ j. j == k) (range_with_len 0 (length net.a.inputs))
  has-input k =
      has-append node_laws (inputs_of net) (gates_of net) (Input k)
      ∙ ap₂ ◌||◌ (has-map Input (λ j. j == k) (Input k) (λ j. refl) (range_with_len 0 (length net.a.inputs))) (no-gates (Input k) (λ s v. refl))
      ∙ or-false (list_any (λ j. j == k) (range_with_len 0 (length net.a.inputs)))

  -- an XOR has no position, and a CNF variable exactly where its index is below the number of outputs
  pub no-xor : (j : ℕ) → has same_node (nodes_of net) (Xor j) ≡ false
  no-xor j =
      has-append node_laws (inputs_of net) (gates_of net) (Xor j)
      ∙ ap₂ ◌||◌ (no-inputs (Xor j) (λ k. refl)) (no-gates (Xor j) (λ s v. refl))

  pub has-xor : (j : ℕ) → has same_node (variables_of net) (Xor j) ≡ list_any (λ i. i == j) (range_with_len 0 (length net.a.outputs))
  has-xor j =
      has-append node_laws (nodes_of net) (xors_of net) (Xor j)
      ∙ ap₂ ◌||◌ (no-xor j) (has-map Xor (λ i. i == j) (Xor j) (λ i. refl) (range_with_len 0 (length net.a.outputs)))

  -- so an index of a node that is there is below that number
  pub input-below : (k : ℕ) → has same_node (nodes_of net) (Input k) ≡ true → k < length net.a.inputs
  input-below k h = let below = in-range 0 (length net.a.inputs) k (sym (has-input k) ∙ h) in omega arith

  pub xor-below : (j : ℕ) → has same_node (variables_of net) (Xor j) ≡ true → j < length net.a.outputs
  xor-below j h = let below = in-range 0 (length net.a.outputs) j (sym (has-xor j) ∙ h) in omega arith

  -- a node with a position has a CNF variable
  pub has-variable : (n : Node) → has same_node (nodes_of net) n ≡ true → has same_node (variables_of net) n ≡ true
  has-variable n h = has-append node_laws (nodes_of net) (xors_of net) n ∙ rw h refl

  -- an input or a gate with a CNF variable has a position
  pub has-position : (n : Node) → ((j : ℕ) → same_node (Xor j) n ≡ false) → has same_node (variables_of net) n ≡ true
      → has same_node (nodes_of net) n ≡ true
  has-position n none h =
      sym (has-append node_laws (nodes_of net) (xors_of net) n ∙ ap (λ (b : Bool). has same_node (nodes_of net) n || b) (no-xors n none)
      ∙ or-false (has same_node (nodes_of net) n))
      ∙ h

-- the parts of a net have as many inputs and outputs as A
pub length-inputs : (net : AigPair) → IsNet net → (s : Side) → length (circuit_of net s).inputs ≡ length net.a.inputs
length-inputs net is A = refl
length-inputs net is B = sym is.inputs

pub length-outputs : (net : AigPair) → IsNet net → (s : Side) → length (circuit_of net s).outputs ≡ length net.a.outputs
length-outputs net is A = refl
length-outputs net is B = sym is.outputs

module _ (net : AigPair) (is : IsNet net) where
  -- each variable of a side names a node with a position
  pub has-named : (s : Side) (x : ℕ) → has ◌==◌ (variables_in (circuit_of net s)) x ≡ true
      → has same_node (nodes_of net) (node_of s (circuit_of net s) x) ≡ true
  has-named s x h = go (x == 0) refl
    where
      c : Aig
      c = circuit_of net s

      rest : Node
      rest = option_map_or Input (place_of (λ y. y == x) c.inputs) (Gate s x)

      behind : (o : Option ℕ) → place_of (λ y. y == x) c.inputs ≡ o → (0 == x) ≡ false
          → has same_node (nodes_of net) (option_map_or Input o (Gate s x)) ≡ true
      behind (Some k) e far =
          let within : k < length c.inputs = (at-place (λ y. y == x) c.inputs k e).3 in
          let same : length c.inputs ≡ length net.a.inputs = length-inputs net is s in
          has-input net k ∙ range-has 0 (length net.a.inputs) k (omega arith) (omega arith)
      behind None e far = has-gate net s x ∙ gate_at_x (list_any (λ y. y == x) c.inputs) refl
        where
          gate_at_x : (b : Bool) → list_any (λ y. y == x) c.inputs ≡ b → list_any (λ g. g.var == x) c.gates ≡ true
          gate_at_x true f = let p = place_from_any (λ y. y == x) c.inputs f in absurd (none-some p.0 (sym e ∙ p.1))
          gate_at_x false f =
              or_last (0 == x) (list_any (λ y. y == x) c.inputs) (list_any (λ g. g.var == x) c.gates)
              (ap (λ (b : Bool). 0 == x || b) (sym (list_any-append (λ y. y == x) c.inputs (gate_vars c.gates)
              ∙ ap (λ (b : Bool). list_any (λ y. y == x) c.inputs || b) (list_any-map (λ y. y == x) (λ g. g.var) c.gates))) ∙ h) far f

      go : (b : Bool) → (x == 0) ≡ b → has same_node (nodes_of net) (node_of s c x) ≡ true
      go true e = ap (λ (b : Bool). has same_node (nodes_of net) (if b then Const else rest)) e
      go false e =
          ap (λ (b : Bool). has same_node (nodes_of net) (if b then Const else rest)) e
          ∙ behind (place_of (λ y. y == x) c.inputs) refl (other-number x 0 e)

  -- output j of a side, and that the side has its variable
  pub output-there : (s : Side) (j : ℕ) → j < length net.a.outputs
      → (slice_get (circuit_of net s).outputs j ≡ Some (slice_index (circuit_of net s).outputs j))
      × (is_over (variables_in (circuit_of net s)) (slice_index (circuit_of net s).outputs j) ≡ true)
  output-there s j below =
      let c = circuit_of net s in
      let same : length c.outputs ≡ length net.a.outputs = length-outputs net is s in
      let got : slice_get c.outputs j ≡ Some (slice_index c.outputs j) = slice_get-get_or c.outputs j 0 (omega arith) in
      (got, list_all-get (is_over (variables_in c)) c.outputs j (slice_index c.outputs j) (is_circuit net is s).outputs got)

  -- a variable that is neither the constant nor an input names its gate
  pub node_of-gate : (s : Side) (x : ℕ) → has ◌==◌ (0 ∷ (circuit_of net s).inputs) x ≡ false
      → node_of s (circuit_of net s) x ≡ Gate s x
  node_of-gate s x new = go (0 == x) (has ◌==◌ c.inputs x) refl refl new
    where
      c : Aig
      c = circuit_of net s

      rest : Option ℕ → Node
      rest o = option_map_or Input o (Gate s x)

      go : (b d : Bool) → (0 == x) ≡ b → has ◌==◌ c.inputs x ≡ d → (b || d) ≡ false → node_of s c x ≡ Gate s x
      go true d e f g = cc
      go false true e f g = cc
      go false false e f g =
          ap (λ (b : Bool). if b then Const else rest (place_of (λ y. y == x) c.inputs)) (other-number 0 x e)
          ∙ ap rest (place_none (λ y. y == x) c.inputs f)
