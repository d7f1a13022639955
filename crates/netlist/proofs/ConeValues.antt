-- Values of nodes that give each gate of a cone the AND of its fanins, a cone being a set of nodes closed under fanins,
-- are the nodes' values there, for all truth values of the inputs that agree with them.
use Rattle.std.proofs.Common.{◌≡◌, ℕ, ◌<◌, Bool, true, false, not, ◌&&◌, ◌||◌, Option, Some, None, List, ◌∷◌, find, map, length, refl, sym, ap, ap₂, ◌∙◌, subst, if◌then◌else◌, arith}
use Rattle.std.specs.Prelude.{◌==◌, slice_index, slice_index_or}
use Rattle.std.specs.Option.{option_map, option_map_or}
use Rattle.std.specs.List.{range_with_len}
use Rattle.std.proofs.lemmas.Bool.{or_parts, or_right}
use Rattle.std.proofs.lemmas.List.FromFn.{length-map-range_with_len, get_or-map-range_with_len}
use Rattle.std.proofs.lemmas.List.Folds.{list_any-append}
use Rattle.std.proofs.lemmas.Option.{none-some, same_Some}
use Rattle.std.proofs.Math.Bool.{or_assoc}
use Rattle.lits.specs.Clause.{has}
use Rattle.lits.specs.declared.node.Side.{Side}
use Rattle.lits.specs.declared.node.Node.{Node}
use Rattle.lits.specs.declared.node.Node.TheVariants.{Const, Input, Gate, Xor}
use Rattle.lits.specs.declared.literal.Lit.{Lit}
use Rattle.netlist.specs.declared.gate.And.{And}
use Rattle.netlist.specs.Place.{place_of}
use Rattle.netlist.specs.Circuit.{var_of, gate_vars, variables_in, is_over, Aig, IsCircuit, given, values_in, value_in, output_value}
use Rattle.netlist.specs.Net.{AigPair, IsNet, circuit_of, node_of, lit_named, output_of, gate_at, nodes_of, value_of, lit_holds}
use Rattle.lits.specs.Same.{same_node}
use Rattle.lits.proofs.Facts.{list_any-map}
use Rattle.netlist.proofs.SameNodes.{equal-number, other-number, place_from_any, at-place, both-all, found-one, any_from_find, find_from_any}
use Rattle.netlist.proofs.RunValues.{IsAmong, Follows, lit_value-same, all-new, all-found, run-unique}
use Rattle.netlist.proofs.NodeValues.{at_variables, lit_holds-named, is_circuit, given-zero, value_of-gate}
use Rattle.netlist.proofs.NodesThere.{has-gate, no-xor, input-below, length-inputs, output-there, node_of-gate}

-- the set has with each gate the nodes of its fanins
pub record HasFanins (net : AigPair) (p : Node → Bool) : Type 0 where
  pub left : (s : Side) (v : ℕ) (g : And) → gate_at net s v ≡ Some g → p (Gate s v) ≡ true
      → p (node_of s (circuit_of net s) (var_of g.left)) ≡ true
  pub right : (s : Side) (v : ℕ) (g : And) → gate_at net s v ≡ Some g → p (Gate s v) ≡ true
      → p (node_of s (circuit_of net s) (var_of g.right)) ≡ true

-- on the set a has the inputs' truth values, and each gate is the AND of its fanins
pub record IsEvaluation (net : AigPair) (p a : Node → Bool) (bits : List Bool) : Type 0 where
  pub fanins : HasFanins net p
  pub constant : p Const ≡ true → a Const ≡ true
  pub inputs : (k : ℕ) → k < length net.a.inputs → p (Input k) ≡ true → a (Input k) ≡ slice_index_or bits k false
  pub gates : (s : Side) (v : ℕ) (g : And) → gate_at net s v ≡ Some g → p (Gate s v) ≡ true
      → a (Gate s v) ≡ (lit_holds a (lit_named s (circuit_of net s) g.left) && lit_holds a (lit_named s (circuit_of net s) g.right))

module _ (net : AigPair) (is : IsNet net) (p a : Node → Bool) (bits : List Bool) (evaluation : IsEvaluation net p a bits) where
  at_variables-gate : (s : Side) (x : ℕ) → has ◌==◌ (0 ∷ (circuit_of net s).inputs) x ≡ false
      → at_variables a s (circuit_of net s) x ≡ a (node_of s (circuit_of net s) x)
  at_variables-gate s x new =
      ap (λ (b : Bool). if b then not (a Const) else a (node_of s (circuit_of net s) x))
      (other-number 0 x (or_parts (0 == x) (has ◌==◌ (circuit_of net s).inputs x) new).0)

  -- a side's variables have their values in the circuit, where their nodes are in the set
  pub evaluation-variable : (s : Side) (x : ℕ) → IsAmong (0 ∷ (circuit_of net s).inputs) (circuit_of net s).gates x
      → p (node_of s (circuit_of net s) x) ≡ true → at_variables a s (circuit_of net s) x ≡ values_in (circuit_of net s) bits x
  evaluation-variable s =
      run-unique (0 ∷ c.inputs) c.gates (λ x. p (node_of s c x)) (at_variables a s c) (given c.inputs bits) circuit.gates begins
      (both-all (λ g. has ◌==◌ (0 ∷ c.inputs) g.var ≡ false) (λ g. find (λ h. h.var == g.var) c.gates ≡ Some g)
      (Follows (λ x. p (node_of s c x)) (at_variables a s c)) defined c.gates
      (all-new (0 ∷ c.inputs) c.gates circuit.gates) (all-found (0 ∷ c.inputs) c.gates circuit.gates))
    where
      c : Aig
      c = circuit_of net s

      circuit : IsCircuit c
      circuit = is_circuit net is s

      rest : ℕ → Option ℕ → Node
      rest x o = option_map_or Input o (Gate s x)

      begins : (x : ℕ) → has ◌==◌ (0 ∷ c.inputs) x ≡ true → p (node_of s c x) ≡ true → at_variables a s c x ≡ given c.inputs bits x
      begins x known q = go (x == 0) refl
        where
          behind : (o : Option ℕ) → place_of (λ y. y == x) c.inputs ≡ o → p (rest x o) ≡ true → (0 == x) ≡ false
              → a (rest x o) ≡ option_map_or (λ k. slice_index_or bits k false) o false
          behind (Some k) e r far =
              let within : k < length c.inputs = (at-place (λ y. y == x) c.inputs k e).3 in
              let same : length c.inputs ≡ length net.a.inputs = length-inputs net is s in
              evaluation.inputs k (omega arith) r
          behind None e r far =
              let there : has ◌==◌ c.inputs x ≡ true = ap (λ (b : Bool). b || has ◌==◌ c.inputs x) (sym far) ∙ known in
              let found = place_from_any (λ y. y == x) c.inputs there in
              absurd (none-some found.0 (sym e ∙ found.1))

          go : (b : Bool) → (x == 0) ≡ b → at_variables a s c x ≡ given c.inputs bits x
          go true e =
              let same = equal-number x 0 e in
              let r : p Const ≡ true = subst (λ (b : Bool). p (if b then Const else rest x (place_of (λ y. y == x) c.inputs)) ≡ true) e q in
              rw e (ap not (evaluation.constant r) ∙ sym (ap (given c.inputs bits) same ∙ given-zero c bits circuit))
          go false e =
              let r : p (rest x (place_of (λ y. y == x) c.inputs)) ≡ true =
              subst (λ (b : Bool). p (if b then Const else rest x (place_of (λ y. y == x) c.inputs)) ≡ true) e q in
              rw e (behind (place_of (λ y. y == x) c.inputs) refl r (other-number x 0 e))

      defined : (g : And) → has ◌==◌ (0 ∷ c.inputs) g.var ≡ false → find (λ h. h.var == g.var) c.gates ≡ Some g
          → Follows (λ x. p (node_of s c x)) (at_variables a s c) g
      defined g new found q =
          let named = node_of-gate net is s g.var new in
          let r : p (Gate s g.var) ≡ true = ap p (sym named) ∙ q in (
            evaluation.fanins.left s g.var g found r,
            evaluation.fanins.right s g.var g found r,
            at_variables-gate s g.var new ∙ ap a named ∙ evaluation.gates s g.var g found r
                ∙ ap₂ ◌&&◌ (lit_holds-named a s c g.left) (lit_holds-named a s c g.right),
          )

  -- an AIGER literal has its value in the circuit, where its node is in the set
  pub evaluation-literal : (s : Side) (lit : ℕ) → is_over (variables_in (circuit_of net s)) lit ≡ true
      → p (node_of s (circuit_of net s) (var_of lit)) ≡ true
      → lit_holds a (lit_named s (circuit_of net s) lit) ≡ value_in (circuit_of net s) bits lit
  evaluation-literal s lit over q =
      lit_holds-named a s c lit
      ∙ lit_value-same (at_variables a s c) (values_in c bits) lit (evaluation-variable s (var_of lit) among q)
    where
      c : Aig
      c = circuit_of net s

      among : IsAmong (0 ∷ c.inputs) c.gates (var_of lit)
      among =
          sym (ap (λ (b : Bool). 0 == var_of lit || b) (list_any-append (λ y. y == var_of lit) c.inputs (gate_vars c.gates))
          ∙ sym (or_assoc (0 == var_of lit) (has ◌==◌ c.inputs (var_of lit)) (has ◌==◌ (gate_vars c.gates) (var_of lit)))) ∙ over

  -- a gate with a position has its value
  pub evaluation-gate : (s : Side) (v : ℕ) (g : And) → gate_at net s v ≡ Some g → p (Gate s v) ≡ true
      → a (Gate s v) ≡ value_of net bits (Gate s v)
  evaluation-gate s v g found q =
      sym (at_variables-gate s v new ∙ ap a named)
      ∙ evaluation-variable s v (or_right (has ◌==◌ (0 ∷ c.inputs) v) (has ◌==◌ (gate_vars c.gates) v) there) (ap p named ∙ q)
      ∙ sym (value_of-gate net bits s v)
    where
      c : Aig
      c = circuit_of net s

      new : has ◌==◌ (0 ∷ c.inputs) v ≡ false
      new =
          let r = found-one (λ h. h.var == v) (λ h. has ◌==◌ (0 ∷ c.inputs) h.var ≡ false) c.gates g
          (all-new (0 ∷ c.inputs) c.gates (is_circuit net is s).gates) found in
          subst (λ (x : ℕ). has ◌==◌ (0 ∷ c.inputs) x ≡ false) (equal-number g.var v r.1) r.0

      named : node_of s c v ≡ Gate s v
      named = node_of-gate net is s v new

      there : has ◌==◌ (gate_vars c.gates) v ≡ true
      there = list_any-map (λ y. y == v) (λ h. h.var) c.gates ∙ any_from_find (λ h. h.var == v) c.gates g found

  -- a node with a position has its value
  pub evaluation-node : (n : Node) → has same_node (nodes_of net) n ≡ true → p n ≡ true → a n ≡ value_of net bits n
  evaluation-node Const there q = evaluation.constant q
  evaluation-node (Input k) there q = evaluation.inputs k (input-below net k there) q
  evaluation-node (Gate s v) there q =
      let r = find_from_any (λ g. g.var == v) (circuit_of net s).gates (sym (has-gate net s v) ∙ there) in
      evaluation-gate s v r.0 r.1 q
  evaluation-node (Xor j) there q = let f = sym (no-xor net j) ∙ there in cc

  -- an output's literal has the output's value
  pub evaluation-output : (s : Side) (j : ℕ) (l : Lit) → j < length net.a.outputs → output_of net s j ≡ Some l
      → p l.node ≡ true → lit_holds a l ≡ output_value (circuit_of net s) bits j
  evaluation-output s j l below found q =
      let c = circuit_of net s in
      let r = output-there net is s j below in
      let same : lit_named s c (slice_index c.outputs j) ≡ l =
      same_Some (lit_named s c (slice_index c.outputs j)) l (sym (ap (option_map (lit_named s c)) r.0) ∙ found) in
      ap (lit_holds a) (sym same) ∙ evaluation-literal s (slice_index c.outputs j) r.1 (subst (λ (m : Lit). p m.node ≡ true) (sym same) q)

-- the inputs' truth values under a
abbrev pub inputs_under : AigPair → (Node → Bool) → List Bool
inputs_under net a = map (λ k. a (Input k)) (range_with_len 0 (length net.a.inputs))

pub length-inputs_under : (net : AigPair) (a : Node → Bool) → length (inputs_under net a) ≡ length net.a.inputs
length-inputs_under net a = length-map-range_with_len (λ k. a (Input k)) 0 (length net.a.inputs)

pub inputs_under-at : (net : AigPair) (a : Node → Bool) (k : ℕ) → k < length net.a.inputs
    → a (Input k) ≡ slice_index_or (inputs_under net a) k false
inputs_under-at net a k below = sym (get_or-map-range_with_len (λ k. a (Input k)) 0 (length net.a.inputs) k k false below (omega arith))
