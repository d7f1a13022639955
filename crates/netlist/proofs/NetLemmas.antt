-- Positions and CNF variables of the nodes of a net, kind by kind.
use Rattle.std.proofs.Common.{◌≡◌, ℕ, zero, suc, ◌+◌, ◌<◌, ◌≤◌, Bool, true, false, cond, Option, None, Some, List, [], ◌∷◌, ◌++◌, length, map, get_or, zero-add, add-one, refl, sym, ap, ◌∙◌, subst, arith, length-append}
use Rattle.std.specs.Prelude.{◌==◌, nat_lt, slice_get}
use Rattle.std.specs.Option.{option_map, option_map_or}
use Rattle.std.specs.List.{range_with_len, list_all}
use Rattle.std.proofs.lemmas.List.{length-map}
use Rattle.std.proofs.lemmas.Option.{slice_get-map, slice_get_within, slice_get-get_or, slice_get_past, none-some, same_Some}
use Rattle.netlist.specs.declared.pair.Sizes.{Sizes}
use Rattle.netlist.specs.Pair.{AreSizes, gate_node, first_gate}
use Rattle.std.proofs.lemmas.Bool.Decides.{nat_tests}
use Rattle.std.proofs.lemmas.Bool.{and_parts}
use Rattle.lits.specs.declared.node.Side.{Side}
use Rattle.lits.specs.declared.node.Side.TheVariants.{A, B}
use Rattle.lits.specs.declared.node.Node.{Node}
use Rattle.lits.specs.declared.node.Node.TheVariants.{Const, Input, Gate, Xor}
use Rattle.netlist.specs.declared.gate.And.{And}
use Rattle.netlist.specs.Place.{place_of}
use Rattle.netlist.specs.Circuit.{IsCircuit, is_over, variables_in, gate_vars}
use Rattle.netlist.specs.Net.{AigPair, IsNet, circuit_of, definition_of, definitions, nodes_of, position_of, lit_of, lit_named, output_of}
use Rattle.lits.specs.Same.{same_node}
use Rattle.netlist.specs.Miter.{xors_of, variables_of, variable_of, kept, axioms_of, xor_axioms, gate_clauses}
use Rattle.netlist.specs.declared.gate.Definition.{Definition}
use Rattle.netlist.proofs.AxiomLemmas.{axioms_of-gate, defined-no_gate}
use Rattle.lits.specs.declared.literal.Lit.{Lit}
use Rattle.lits.proofs.Facts.{exact-node}
use Rattle.netlist.proofs.PlaceLemmas.{or_place, place_of-append, place_of-map, place_none-all, place-range_in, place-range_out, length-range, slice_get-left, slice_get-right, slice_get-range}
use Rattle.netlist.proofs.VariableLemmas.{few_gates_of}
use Rattle.netlist.proofs.TableLemmas.{or_place-none}

pub length-definitions : (net : AigPair) → length (definitions net) ≡ length net.a.gates + length net.b.gates
length-definitions net =
    omega (
      arith,
      length-append (map (definition_of A net.a) net.a.gates) (map (definition_of B net.b) net.b.gates),
      length-map net.a.gates (definition_of A net.a),
      length-map net.b.gates (definition_of B net.b),
    )

pub length-nodes : (net : AigPair) → length (nodes_of net) ≡ 1 + length net.a.inputs + length net.a.gates + length net.b.gates
length-nodes net =
    omega (
      arith,
      length-append (map Input (range_with_len 0 (length net.a.inputs))) (map (λ d. d.node) (definitions net)),
      length-map (range_with_len 0 (length net.a.inputs)) Input,
      length-range (length net.a.inputs) 0,
      length-map (definitions net) (λ d. d.node),
      length-definitions net,
    )

pub length-variables : (net : AigPair) → length (variables_of net) ≡ length (nodes_of net) + length net.a.outputs
length-variables net =
    omega (arith, length-append (nodes_of net) (xors_of net), length-map (range_with_len 0 (length net.a.outputs)) Xor, length-range (length net.a.outputs) 0)

-- the place of a node but the constant
parts : (net : AigPair) (test : Node → Bool) → test Const ≡ false
    → place_of test (nodes_of net)
    ≡ option_map (λ k. k + 1) (or_place (place_of (λ k. test (Input k)) (range_with_len 0 (length net.a.inputs)))
    (option_map (λ k. length net.a.inputs + k)
    (or_place (place_of (λ g. test (Gate A g.var)) net.a.gates)
    (option_map (λ k. length net.a.gates + k) (place_of (λ g. test (Gate B g.var)) net.b.gates)))))
parts net test e = rw e (ap (option_map (λ k. k + 1)) (
    place_of-append test (map Input inputs) (map (λ d. d.node) (definitions net))
    ∙ ap (λ (o : Option ℕ). or_place o (option_map (λ k. length (map Input inputs) + k) (place_of test (map (λ d. d.node) (definitions net))))) (place_of-map test Input inputs)
    ∙ ap (λ (n : ℕ). or_place (place_of (λ k. test (Input k)) inputs) (option_map (λ k. n + k) (place_of test (map (λ d. d.node) (definitions net))))) long
    ∙ ap (λ (o : Option ℕ). or_place (place_of (λ k. test (Input k)) inputs) (option_map (λ k. length net.a.inputs + k) o)) gates))
  where
    inputs : List ℕ
    inputs = range_with_len 0 (length net.a.inputs)

    long : length (map Input inputs) ≡ length net.a.inputs
    long = length-map inputs Input ∙ length-range (length net.a.inputs) 0

    gates : place_of test (map (λ d. d.node) (definitions net))
        ≡ or_place (place_of (λ g. test (Gate A g.var)) net.a.gates)
        (option_map (λ k. length net.a.gates + k) (place_of (λ g. test (Gate B g.var)) net.b.gates))
    gates = place_of-map test (λ d. d.node) (definitions net)
        ∙ place_of-append (λ d. test d.node) (map (definition_of A net.a) net.a.gates) (map (definition_of B net.b) net.b.gates)
        ∙ ap (λ (n : ℕ). or_place (place_of (λ d. test d.node) (map (definition_of A net.a) net.a.gates)) (option_map (λ k. n + k) (place_of (λ d. test d.node) (map (definition_of B net.b) net.b.gates))))
        (length-map net.a.gates (definition_of A net.a))
        ∙ rw (place_of-map (λ d. test d.node) (definition_of A net.a) net.a.gates, place_of-map (λ d. test d.node) (definition_of B net.b) net.b.gates) refl

pub position_of-input : (net : AigPair) (k : ℕ) → position_of net (Input k) ≡ cond (nat_lt k (length net.a.inputs)) (Some (k + 1)) None
position_of-input net k = parts net (λ n. same_node n (Input k)) refl ∙ go (nat_lt k (length net.a.inputs)) refl
  where
    inputs : Option ℕ
    inputs = place_of (λ i. i == k) (range_with_len 0 (length net.a.inputs))

    gates : Option ℕ
    gates = or_place (place_of (λ g. same_node (Gate A g.var) (Input k)) net.a.gates)
        (option_map (λ i. length net.a.gates + i) (place_of (λ g. same_node (Gate B g.var) (Input k)) net.b.gates))

    go : (b : Bool) → nat_lt k (length net.a.inputs) ≡ b
        → option_map (λ i. i + 1) (or_place inputs (option_map (λ i. length net.a.inputs + i) gates)) ≡ cond b (Some (k + 1)) None
    go true t =
        let l : k < length net.a.inputs = grind (arith, nat_tests, t) in
        rw (place-range_in (length net.a.inputs) 0 k k (omega arith) l) refl
    go false f =
        let l : length net.a.inputs ≤ k = grind (arith, nat_tests, f) in
        rw (
          place-range_out (length net.a.inputs) 0 k (omega arith),
          place_none-all (λ (g : And). same_node (Gate A g.var) (Input k)) net.a.gates (λ g. refl),
          place_none-all (λ (g : And). same_node (Gate B g.var) (Input k)) net.b.gates (λ g. refl),
        ) refl

pub position_of-gate_a : (net : AigPair) (v : ℕ)
    → position_of net (Gate A v) ≡ option_map (λ g. length net.a.inputs + g + 1) (place_of (λ g. g.var == v) net.a.gates)
position_of-gate_a net v =
    parts net (λ n. same_node n (Gate A v)) refl
    ∙ rw (
      place_none-all (λ (k : ℕ). same_node (Input k) (Gate A v)) (range_with_len 0 (length net.a.inputs)) (λ k. refl),
      place_none-all (λ (g : And). same_node (Gate B g.var) (Gate A v)) net.b.gates (λ g. refl),
    ) (go (place_of (λ g. g.var == v) net.a.gates))
  where
    go : (o : Option ℕ) → option_map (λ k. k + 1) (option_map (λ k. length net.a.inputs + k) (or_place o None)) ≡ option_map (λ g. length net.a.inputs + g + 1) o
    go None = refl
    go (Some g) = refl

pub position_of-gate_b : (net : AigPair) (v : ℕ)
    → position_of net (Gate B v) ≡ option_map (λ g. length net.a.inputs + length net.a.gates + g + 1) (place_of (λ g. g.var == v) net.b.gates)
position_of-gate_b net v =
    parts net (λ n. same_node n (Gate B v)) refl
    ∙ rw (
      place_none-all (λ (k : ℕ). same_node (Input k) (Gate B v)) (range_with_len 0 (length net.a.inputs)) (λ k. refl),
      place_none-all (λ (g : And). same_node (Gate A g.var) (Gate B v)) net.a.gates (λ g. refl),
    ) (go (place_of (λ g. g.var == v) net.b.gates))
  where
    go : (o : Option ℕ) → option_map (λ k. k + 1) (option_map (λ k. length net.a.inputs + k) (option_map (λ k. length net.a.gates + k) o))
        ≡ option_map (λ g. length net.a.inputs + length net.a.gates + g + 1) o
    go None = refl
    go (Some g) = let e : length net.a.inputs + (length net.a.gates + g) + 1 ≡ length net.a.inputs + length net.a.gates + g + 1 = omega arith in ap Some e

pub position_of-xor : (net : AigPair) (j : ℕ) → position_of net (Xor j) ≡ None
position_of-xor net j =
    parts net (λ n. same_node n (Xor j)) refl
    ∙ rw (
      place_none-all (λ (k : ℕ). same_node (Input k) (Xor j)) (range_with_len 0 (length net.a.inputs)) (λ k. refl),
      place_none-all (λ (g : And). same_node (Gate A g.var) (Xor j)) net.a.gates (λ g. refl),
      place_none-all (λ (g : And). same_node (Gate B g.var) (Xor j)) net.b.gates (λ g. refl),
    ) refl

-- the variable of a node: its position, counted from 1, or behind all positions
pub variable_of-parts : (net : AigPair) (node : Node)
    → variable_of net node ≡ option_map (λ k. k + 1) (or_place (position_of net node)
    (option_map (λ k. length (nodes_of net) + k) (place_of (λ j. same_node (Xor j) node) (range_with_len 0 (length net.a.outputs)))))
variable_of-parts net node =
    ap (option_map (λ k. k + 1)) (
    place_of-append (λ n. same_node n node) (nodes_of net) (xors_of net)
    ∙ ap (λ (o : Option ℕ). or_place (position_of net node) (option_map (λ k. length (nodes_of net) + k) o))
    (place_of-map (λ n. same_node n node) Xor (range_with_len 0 (length net.a.outputs))))

pub variable_of-xor : (net : AigPair) (j : ℕ)
    → variable_of net (Xor j) ≡ cond (nat_lt j (length net.a.outputs)) (Some (length (nodes_of net) + j + 1)) None
variable_of-xor net j = variable_of-parts net (Xor j) ∙ go (nat_lt j (length net.a.outputs)) refl
  where
    go : (b : Bool) → nat_lt j (length net.a.outputs) ≡ b
        → option_map (λ k. k + 1) (or_place (position_of net (Xor j))
        (option_map (λ k. length (nodes_of net) + k) (place_of (λ i. i == j) (range_with_len 0 (length net.a.outputs)))))
        ≡ cond b (Some (length (nodes_of net) + j + 1)) None
    go true t =
        let l : j < length net.a.outputs = grind (arith, nat_tests, t) in
        rw (position_of-xor net j, place-range_in (length net.a.outputs) 0 j j (omega arith) l) refl
    go false f =
        let l : length net.a.outputs ≤ j = grind (arith, nat_tests, f) in
        rw (position_of-xor net j, place-range_out (length net.a.outputs) 0 j (omega arith)) refl

-- a node that is no XOR
pub variable_of-node : (net : AigPair) (node : Node) → ((j : ℕ) → same_node (Xor j) node ≡ false)
    → variable_of net node ≡ option_map (λ k. k + 1) (position_of net node)
variable_of-node net node no_xor =
    variable_of-parts net node
    ∙ rw (place_none-all (λ (j : ℕ). same_node (Xor j) node) (range_with_len 0 (length net.a.outputs)) no_xor)
    (ap (option_map (λ k. k + 1)) (or_place-none (position_of net node)))

pub sizes_of : (net : AigPair) (s : Sizes) → IsNet net → s.inputs ≡ length net.a.inputs → s.gates_a ≡ length net.a.gates
    → s.gates_b ≡ length net.b.gates → s.outputs ≡ length net.a.outputs → AreSizes net s
sizes_of net s is e f g h = record {
  net_is = is;
  inputs = e;
  gates_a = f;
  gates_b = g;
  outputs = h;
  other_outputs = h ∙ is.outputs;
  few_a = omega (arith, few_gates_of net.a is.a);
  few_b = omega (arith, few_gates_of net.b is.b, is.inputs);
  few_outputs = omega (arith, is.a.count);
}

-- the nodes by their variables, counted from 0
slice_get-xors : (net : AigPair) (j : ℕ) → j < length net.a.outputs → slice_get (variables_of net) (length (nodes_of net) + j) ≡ Some (Xor j)
slice_get-xors net j l =
    slice_get-right (nodes_of net) (xors_of net) j
    ∙ slice_get-map Xor (range_with_len 0 (length net.a.outputs)) j
    ∙ ap (option_map Xor) (slice_get-range (length net.a.outputs) 0 j l ∙ ap Some (zero-add j))

node_at-position : (net : AigPair) (p : ℕ) (n : Node) → slice_get (nodes_of net) p ≡ Some n → slice_get (variables_of net) p ≡ Some n
node_at-position net p n e = slice_get-left (nodes_of net) (xors_of net) p (slice_get_within (nodes_of net) p n e) ∙ e

behind_constant : (net : AigPair) (p k : ℕ) → p ≡ k + 1
    → slice_get (nodes_of net) p ≡ slice_get (map Input (range_with_len 0 (length net.a.inputs)) ++ map (λ d. d.node) (definitions net)) k
behind_constant net p k e = ap (slice_get (nodes_of net)) (e ∙ add-one k)

pub node_at-input : (net : AigPair) (p k : ℕ) → p ≡ k + 1 → k < length net.a.inputs → slice_get (variables_of net) p ≡ Some (Input k)
node_at-input net p k e l = node_at-position net p (Input k) (
    behind_constant net p k e
    ∙ slice_get-left (map Input (range_with_len 0 (length net.a.inputs))) (map (λ d. d.node) (definitions net)) k
    (omega (arith, length-map (range_with_len 0 (length net.a.inputs)) Input, length-range (length net.a.inputs) 0))
    ∙ slice_get-map Input (range_with_len 0 (length net.a.inputs)) k
    ∙ ap (option_map Input) (slice_get-range (length net.a.inputs) 0 k l ∙ ap Some (zero-add k)))

-- the gates stand behind the inputs
pub behind_inputs : (net : AigPair) (p i : ℕ) → p ≡ length net.a.inputs + i + 1
    → slice_get (nodes_of net) p ≡ option_map (λ d. d.node) (slice_get (definitions net) i)
behind_inputs net p i e =
    behind_constant net p (length (map Input (range_with_len 0 (length net.a.inputs))) + i)
    (omega (arith, length-map (range_with_len 0 (length net.a.inputs)) Input, length-range (length net.a.inputs) 0))
    ∙ slice_get-right (map Input (range_with_len 0 (length net.a.inputs))) (map (λ d. d.node) (definitions net)) i
    ∙ slice_get-map (λ d. d.node) (definitions net) i

abbrev none : And
none = record { var = 0; left = 0; right = 0 }

read_var : (gates : List And) (g : ℕ) → g < length gates → (get_or gates g none).var ≡ get_or (gate_vars gates) g 0
read_var [] g l = absurd (omega arith)
read_var (x ∷ xs) zero l = refl
read_var (x ∷ xs) (suc g) l = read_var xs g (omega arith)

pub node_at-gate_a : (net : AigPair) (p g : ℕ) → p ≡ length net.a.inputs + g + 1 → g < length net.a.gates
    → slice_get (variables_of net) p ≡ Some (gate_node net A g)
node_at-gate_a net p g e l = node_at-position net p (gate_node net A g) (
    behind_inputs net p g e
    ∙ ap (option_map (λ d. d.node)) (
    slice_get-left (map (definition_of A net.a) net.a.gates) (map (definition_of B net.b) net.b.gates) g
    (omega (arith, length-map net.a.gates (definition_of A net.a)))
    ∙ slice_get-map (definition_of A net.a) net.a.gates g
    ∙ ap (option_map (definition_of A net.a)) (slice_get-get_or net.a.gates g none l))
    ∙ ap (λ (v : ℕ). Some (Gate A v)) (read_var net.a.gates g l))

pub node_at-gate_b : (net : AigPair) (p g : ℕ) → p ≡ length net.a.inputs + length net.a.gates + g + 1 → g < length net.b.gates
    → slice_get (variables_of net) p ≡ Some (gate_node net B g)
node_at-gate_b net p g e l = node_at-position net p (gate_node net B g) (
    behind_inputs net p (length (map (definition_of A net.a) net.a.gates) + g) (omega (arith, length-map net.a.gates (definition_of A net.a)))
    ∙ ap (option_map (λ d. d.node)) (
    slice_get-right (map (definition_of A net.a) net.a.gates) (map (definition_of B net.b) net.b.gates) g
    ∙ slice_get-map (definition_of B net.b) net.b.gates g
    ∙ ap (option_map (definition_of B net.b)) (slice_get-get_or net.b.gates g none l))
    ∙ ap (λ (v : ℕ). Some (Gate B v)) (read_var net.b.gates g l))

pub node_at-xor : (net : AigPair) (p j : ℕ) → p ≡ length net.a.inputs + length net.a.gates + length net.b.gates + j + 1
    → j < length net.a.outputs → slice_get (variables_of net) p ≡ Some (Xor j)
node_at-xor net p j e l =
    let same : p ≡ length (nodes_of net) + j = omega (arith, length-nodes net) in
    ap (slice_get (variables_of net)) same ∙ slice_get-xors net j l

map-same : (o : Option ℕ) (f g : ℕ → ℕ) → ((k : ℕ) → f k ≡ g k) → option_map f o ≡ option_map g o
map-same None f g e = refl
map-same (Some k) f g e = ap Some (e k)

pub position-gate : (net : AigPair) (side : Side) (v : ℕ)
    → option_map (λ g. first_gate net side + g) (place_of (λ g. g.var == v) (circuit_of net side).gates) ≡ position_of net (Gate side v)
position-gate net A v =
    map-same (place_of (λ g. g.var == v) net.a.gates) (λ g. first_gate net A + g) (λ g. length net.a.inputs + g + 1) (λ g. omega arith)
    ∙ sym (position_of-gate_a net v)
position-gate net B v =
    map-same (place_of (λ g. g.var == v) net.b.gates) (λ g. first_gate net B + g) (λ g. length net.a.inputs + length net.a.gates + g + 1) (λ g. omega arith)
    ∙ sym (position_of-gate_b net v)

-- the same by the sizes of the net
module _ {net : AigPair} {s : Sizes} (sizes : AreSizes net s) where
  pub position-input_in : (k : ℕ) → k < s.inputs → Some (k + 1) ≡ position_of net (Input k)
  position-input_in k l =
      let t : nat_lt k (length net.a.inputs) ≡ true = grind (arith, nat_tests, l, sizes.inputs) in
      sym (position_of-input net k ∙ rw t refl)

  pub position-input_out : (k : ℕ) → s.inputs ≤ k → None ≡ position_of net (Input k)
  position-input_out k l =
      let f : nat_lt k (length net.a.inputs) ≡ false = grind (arith, nat_tests, l, sizes.inputs) in
      sym (position_of-input net k ∙ rw f refl)

  pub variable-xor_in : (j : ℕ) → j < s.outputs → Some (1 + s.inputs + s.gates_a + s.gates_b + j + 1) ≡ variable_of net (Xor j)
  variable-xor_in j l =
      let t : nat_lt j (length net.a.outputs) ≡ true = grind (arith, nat_tests, l, sizes.outputs) in
      let e : 1 + s.inputs + s.gates_a + s.gates_b + j + 1 ≡ length (nodes_of net) + j + 1 =
      omega (arith, length-nodes net, sizes.inputs, sizes.gates_a, sizes.gates_b) in
      ap Some e ∙ sym (variable_of-xor net j ∙ rw t refl)

  pub variable-xor_out : (j : ℕ) → s.outputs ≤ j → None ≡ variable_of net (Xor j)
  variable-xor_out j l =
      let f : nat_lt j (length net.a.outputs) ≡ false = grind (arith, nat_tests, l, sizes.outputs) in
      sym (variable_of-xor net j ∙ rw f refl)

pub variable-node : (net : AigPair) (node : Node) → ((j : ℕ) → node ≡ Xor j → ⊥)
    → option_map (λ k. k + 1) (position_of net node) ≡ variable_of net node
variable-node net node apart = sym (variable_of-node net node (λ j. go j (same_node (Xor j) node) refl))
  where
    go : (j : ℕ) (b : Bool) → same_node (Xor j) node ≡ b → b ≡ false
    go j true e = absurd (apart j (sym (exact-node (Xor j) node e)))
    go j false e = refl

pub circuit_at : (net : AigPair) (side : Side) → IsNet net → IsCircuit (circuit_of net side)
circuit_at net A is = is.a
circuit_at net B is = is.b

list_all-get : {X : Type 0} (p : X → Bool) (xs : List X) (k : ℕ) (x : X) → list_all p xs ≡ true → slice_get xs k ≡ Some x → p x ≡ true
list_all-get p [] k x all e = absurd (none-some x e)
list_all-get p (y ∷ ys) zero x all e = subst (λ (z : _). p z ≡ true) (same_Some y x e) (and_parts (p y) (list_all p ys) all).0
list_all-get p (y ∷ ys) (suc k) x all e = list_all-get p ys k x (and_parts (p y) (list_all p ys) all).1 e

-- an output's literal is defined
pub output_of-lit : (net : AigPair) (side : Side) (j l : ℕ) → IsNet net → slice_get (circuit_of net side).outputs j ≡ Some l
    → lit_of net side l ≡ output_of net side j
output_of-lit net side j l is e =
    let over = list_all-get (is_over (variables_in (circuit_of net side))) (circuit_of net side).outputs j l (circuit_at net side is).outputs e in
    rw (over, e) refl

-- a node that isn't there has no clause
pub axioms_of-none : (net : AigPair) (node : Node) → variable_of net node ≡ None → axioms_of net node ≡ []
axioms_of-none net Const e = absurd (none-some 1 (sym e))
axioms_of-none net (Input k) e = refl
axioms_of-none net (Gate side v) e = go (place_of (λ g. g.var == v) (circuit_of net side).gates) refl
  where
    known : option_map (λ k. k + 1) (option_map (λ g. first_gate net side + g) (place_of (λ g. g.var == v) (circuit_of net side).gates)) ≡ None
    known = ap (option_map (λ k. k + 1)) (position-gate net side v) ∙ sym (variable_of-node net (Gate side v) (λ j. refl)) ∙ e

    go : (o : Option ℕ) → place_of (λ g. g.var == v) (circuit_of net side).gates ≡ o → axioms_of net (Gate side v) ≡ []
    go None f = axioms_of-gate net side v ∙ ap (λ (o : Option Definition). option_map_or (λ d. kept (gate_clauses d)) o []) (defined-no_gate net side v f)
    go (Some k) f = absurd (none-some (first_gate net side + k + 1) (sym known ∙ ap (λ (o : Option ℕ). option_map (λ k. k + 1) (option_map (λ g. first_gate net side + g) o)) f))
axioms_of-none net (Xor j) e = go (nat_lt j (length net.a.outputs)) refl
  where
    go : (b : Bool) → nat_lt j (length net.a.outputs) ≡ b → axioms_of net (Xor j) ≡ []
    go true t = absurd (none-some (length (nodes_of net) + j + 1) (sym e ∙ variable_of-xor net j ∙ rw t refl))
    go false f =
        let l : length net.a.outputs ≤ j = grind (arith, nat_tests, f) in
        ap (λ (o : Option Lit). xor_axioms j o (output_of net B j)) (ap (option_map (lit_named A net.a)) (slice_get_past net.a.outputs j l))
