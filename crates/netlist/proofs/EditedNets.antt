-- What other fanins of a gate, and another literal of an output, leave of a net's nodes, fanins and clauses.
use Rattle.std.proofs.Common.{◌≡◌, ℕ, zero, suc, ◌+◌, ◌-◌, ◌<◌, Bool, true, false, cond, Option, None, Some, List, [], ◌∷◌, ◌++◌, length, map, find, refl, sym, ap, ◌∙◌, subst, arith}
use Rattle.std.specs.Prelude.{◌==◌, nat_lt, slice_get, slice_set}
use Rattle.std.specs.List.{range_with_len}
use Rattle.std.specs.Option.{option_map, option_map_or, unwrap_or}
use Rattle.std.proofs.lemmas.Bool.Decides.{nat_tests}
use Rattle.std.proofs.lemmas.List.{length-map, length-set, map-append, map-set, set-append_left, set-append_right}
use Rattle.std.proofs.lemmas.Option.{none-some, same_Some}
use Rattle.lits.specs.declared.literal.Lit.{Lit}
use Rattle.lits.specs.declared.node.Side.{Side}
use Rattle.lits.specs.declared.node.Side.TheVariants.{A, B}
use Rattle.lits.specs.declared.node.Node.{Node}
use Rattle.lits.specs.declared.node.Node.TheVariants.{Const, Input, Gate, Xor}
use Rattle.lits.specs.Same.{same_node}
use Rattle.netlist.specs.declared.gate.And.{And}
use Rattle.netlist.specs.declared.gate.Definition.{Definition}
use Rattle.netlist.specs.declared.gate.Placed.{Placed}
use Rattle.netlist.specs.declared.gate.Fanins.{Fanins}
use Rattle.netlist.specs.declared.tables.Tables.{Tables}
use Rattle.netlist.specs.Place.{place_of}
use Rattle.netlist.specs.Circuit.{Aig, gate_vars}
use Rattle.netlist.specs.Net.{AigPair, IsNet, circuit_of, definition_of, definitions, lit_named, output_of, nodes_of, position_of, all_fanins, fanins_of}
use Rattle.netlist.specs.Miter.{axioms_of, kept, gate_clauses, xor_axioms, xors_of, variables_of, variable_of}
use Rattle.netlist.specs.Pair.{first_gate}
use Rattle.netlist.specs.Tables.{AreTables, AreButGate, AreButXor}
use Rattle.netlist.specs.Edit.{CanSet, with_gate, with_output, with_side}
use Rattle.netlist.proofs.SourceLemmas.{place_within}
use Rattle.netlist.proofs.SameNodes.{place_from_any}
use Rattle.netlist.proofs.VariableLemmas.{list_any-vars}
use Rattle.netlist.proofs.NetLemmas.{length-definitions, length-nodes, length-variables, position-gate, variable-node, variable_of-xor}
use Rattle.netlist.proofs.EditLemmas.{swap, vars-swap, set-swap, same_number}
use Rattle.netlist.proofs.OneNode.{were_starts}

-- a variable one higher than a place
place_from : (o : Option ℕ) (k : ℕ) → option_map (λ n. n + 1) o ≡ Some (k + 1) → o ≡ Some k
place_from None k e = absurd (none-some (k + 1) e)
place_from (Some n) k e = let h = same_Some (n + 1) (k + 1) e in let same : n ≡ k = omega (arith, h) in ap Some same

-- what is read where it was written
read_written : {X : Type 0} (xs : List X) (k : ℕ) (y f : X) → slice_get (slice_set xs k y) k ≡ Some f → y ≡ f
read_written [] k y f e = absurd (none-some f e)
read_written (x ∷ xs) zero y f e = same_Some y f e
read_written (x ∷ xs) (suc k) y f e = read_written xs k y f e

-- ---- other fanins
-- another gate is found as before
find-swap : (g : And) (v : ℕ) (gs : List And) → (v == g.var) ≡ false → find (λ x. x.var == v) (map (swap g) gs) ≡ find (λ x. x.var == v) gs
find-swap g v [] e = refl
find-swap g v (x ∷ xs) e = go (x.var == g.var) refl (find-swap g v xs e)
  where
    other : (g.var == v) ≡ false
    other = grind (arith, nat_tests, e)

    go : (b : Bool) → (x.var == g.var) ≡ b → find (λ y. y.var == v) (map (swap g) xs) ≡ find (λ y. y.var == v) xs
        → find (λ y. y.var == v) (cond b g x ∷ map (swap g) xs) ≡ find (λ y. y.var == v) (x ∷ xs)
    go true t rest =
        let here : (x.var == v) ≡ false = rw (same_number x.var g.var t) other in
        rw (other, here) rest
    go false t rest = rw rest refl

abbrev set_net : AigPair → Side → And → AigPair
set_net net side g = with_side net side (with_gate (circuit_of net side) g)

axioms_swap : (net : AigPair) (side : Side) (g : And) (n : Node) → same_node n (Gate side g.var) ≡ false → axioms_of (set_net net side g) n ≡ axioms_of net n
axioms_swap net A g Const e = refl
axioms_swap net B g Const e = refl
axioms_swap net A g (Input k) e = refl
axioms_swap net B g (Input k) e = refl
axioms_swap net A g (Xor j) e = refl
axioms_swap net B g (Xor j) e = refl
axioms_swap net A g (Gate B v) e = refl
axioms_swap net B g (Gate A v) e = refl
axioms_swap net A g (Gate A v) e =
    ap (λ (o : Option And). option_map_or (λ x. kept (gate_clauses (definition_of A net.a x))) o []) (find-swap g v net.a.gates e)
axioms_swap net B g (Gate B v) e =
    ap (λ (o : Option And). option_map_or (λ x. kept (gate_clauses (definition_of B net.b x))) o []) (find-swap g v net.b.gates e)

-- the nodes of gates by their variables alone
named : (side : Side) (c : Aig) (gs : List And) → map (λ d. d.node) (map (definition_of side c) gs) ≡ map (Gate side) (gate_vars gs)
named side c [] = refl
named side c (g ∷ gs) = ap (λ (ns : List Node). Gate side g.var ∷ ns) (named side c gs)

abbrev nodes_from : List Node → List Node → List Node → List Node
nodes_from inputs a b = Const ∷ (inputs ++ (a ++ b))

by_variables : (net : AigPair)
    → nodes_of net ≡ nodes_from (map Input (range_with_len 0 (length net.a.inputs))) (map (Gate A) (gate_vars net.a.gates)) (map (Gate B) (gate_vars net.b.gates))
by_variables net =
    ap (λ (ns : List Node). Const ∷ (map Input (range_with_len 0 (length net.a.inputs)) ++ ns)) (
    map-append (λ (d : Definition). d.node) (map (definition_of A net.a) net.a.gates) (map (definition_of B net.b) net.b.gates)
    ∙ ap (λ (ns : List Node). ns ++ map (λ (d : Definition). d.node) (map (definition_of B net.b) net.b.gates)) (named A net.a net.a.gates)
    ∙ ap (λ (ns : List Node). map (Gate A) (gate_vars net.a.gates) ++ ns) (named B net.b net.b.gates))

nodes_swap : (net : AigPair) (side : Side) (g : And) → nodes_of (set_net net side g) ≡ nodes_of net
nodes_swap net A g =
    by_variables (set_net net A g)
    ∙ ap (λ (vs : List ℕ). nodes_from (map Input (range_with_len 0 (length net.a.inputs))) (map (Gate A) vs) (map (Gate B) (gate_vars net.b.gates))) (vars-swap g net.a.gates)
    ∙ sym (by_variables net)
nodes_swap net B g =
    by_variables (set_net net B g)
    ∙ ap (λ (vs : List ℕ). nodes_from (map Input (range_with_len 0 (length net.a.inputs))) (map (Gate A) (gate_vars net.a.gates)) (map (Gate B) vs)) (vars-swap g net.b.gates)
    ∙ sym (by_variables net)

variables_swap : (net : AigPair) (side : Side) (g : And) → variables_of (set_net net side g) ≡ variables_of net
variables_swap net A g = ap (λ (ns : List Node). ns ++ xors_of net) (nodes_swap net A g)
variables_swap net B g = ap (λ (ns : List Node). ns ++ xors_of net) (nodes_swap net B g)

-- one definition is another one
abbrev number : AigPair → Side → ℕ → ℕ
number net A i = i
number net B i = length net.a.gates + i

definitions_swap : (net : AigPair) (side : Side) (g : And) (i : ℕ) → IsNet net → place_of (λ x. x.var == g.var) (circuit_of net side).gates ≡ Some i
    → definitions (set_net net side g) ≡ slice_set (definitions net) (number net side i) (definition_of side (circuit_of net side) g)
definitions_swap net A g i is e =
    let below : i < length net.a.gates = place_within (λ x. x.var == g.var) net.a.gates i e in
    ap (λ (gs : List And). map (definition_of A net.a) gs ++ map (definition_of B net.b) net.b.gates) (sym (set-swap (0 ∷ net.a.inputs) net.a.gates g i is.a.gates e))
    ∙ ap (λ (ds : List Definition). ds ++ map (definition_of B net.b) net.b.gates) (map-set (definition_of A net.a) net.a.gates i g)
    ∙ sym (set-append_left (map (definition_of A net.a) net.a.gates) (map (definition_of B net.b) net.b.gates) i (definition_of A net.a g)
    (omega (arith, below, length-map net.a.gates (definition_of A net.a))))
definitions_swap net B g i is e =
    let past : (length net.a.gates + i) - length net.a.gates ≡ i = omega arith in
    ap (λ (gs : List And). map (definition_of A net.a) net.a.gates ++ map (definition_of B net.b) gs) (sym (set-swap (0 ∷ net.b.inputs) net.b.gates g i is.b.gates e))
    ∙ ap (λ (ds : List Definition). map (definition_of A net.a) net.a.gates ++ ds) (map-set (definition_of B net.b) net.b.gates i g)
    ∙ ap (λ (n : ℕ). map (definition_of A net.a) net.a.gates ++ slice_set (map (definition_of B net.b) net.b.gates) n (definition_of B net.b g)) (sym past)
    ∙ sym (set-append_right (map (definition_of A net.a) net.a.gates) (map (definition_of B net.b) net.b.gates) (length net.a.gates) (length net.a.gates + i)
    (definition_of B net.b g) (length-map net.a.gates (definition_of A net.a)) (omega arith))

-- a definition's fanins by the list of nodes
abbrev placed_in : List Node → Lit → Placed
placed_in ns l = record { position = unwrap_or (place_of (λ n. same_node n l.node) ns) 0; neg = l.neg }

abbrev fanins_in : List Node → Definition → Fanins
fanins_in ns d = record { left = placed_in ns d.left; right = placed_in ns d.right }

fanins_swap : (net : AigPair) (side : Side) (g : And) (i : ℕ) → IsNet net → place_of (λ x. x.var == g.var) (circuit_of net side).gates ≡ Some i
    → all_fanins (set_net net side g) ≡ slice_set (all_fanins net) (number net side i) (fanins_of net (definition_of side (circuit_of net side) g))
fanins_swap net side g i is e =
    ap (λ (ns : List Node). map (fanins_in ns) (definitions (set_net net side g))) (nodes_swap net side g)
    ∙ ap (map (fanins_of net)) (definitions_swap net side g i is e)
    ∙ map-set (fanins_of net) (definitions net) (number net side i) (definition_of side (circuit_of net side) g)

fanins_written : (fanins all old : List Fanins) (k : ℕ) (y : Fanins) → fanins ≡ old → all ≡ slice_set old k y
    → (f : Fanins) → slice_get all k ≡ Some f → slice_set fanins k f ≡ all
fanins_written fanins all old k y e h f got =
    let same : y ≡ f = read_written old k y f (ap (λ (fs : List Fanins). slice_get fs k) (sym h) ∙ got) in
    ap (λ (fs : List Fanins). slice_set fs k f) e ∙ ap (slice_set old k) (sym same) ∙ sym h

counted_swap : (net : AigPair) (side : Side) (g : And) → length (definitions (set_net net side g)) ≡ length (definitions net)
counted_swap net side g =
    sym (length-map (definitions (set_net net side g)) (λ (d : Definition). d.node)) ∙ lengths net side g ∙ length-map (definitions net) (λ (d : Definition). d.node)
  where
    lengths : (net : AigPair) (side : Side) (g : And)
        → length (map (λ (d : Definition). d.node) (definitions (set_net net side g))) ≡ length (map (λ (d : Definition). d.node) (definitions net))
    lengths net A g = omega (
      arith,
      length-map (definitions (set_net net A g)) (λ (d : Definition). d.node),
      length-map (definitions net) (λ (d : Definition). d.node),
      length-definitions (set_net net A g),
      length-definitions net,
      length-map net.a.gates (swap g),
    )
    lengths net B g = omega (
      arith,
      length-map (definitions (set_net net B g)) (λ (d : Definition). d.node),
      length-map (definitions net) (λ (d : Definition). d.node),
      length-definitions (set_net net B g),
      length-definitions net,
      length-map net.b.gates (swap g),
    )

-- the gate is where it was
stands : (net : AigPair) (side : Side) (g : And) → CanSet (circuit_of net side) g
    → (i : ℕ) × (place_of (λ x. x.var == g.var) (circuit_of net side).gates ≡ Some i)
    × (position_of (set_net net side g) (Gate side g.var) ≡ Some (first_gate net side + i))
stands net side g can =
    let r = place_from_any (λ (x : And). x.var == g.var) (circuit_of net side).gates (sym (list_any-vars (circuit_of net side).gates g.var) ∙ can.gate) in
    let was : position_of net (Gate side g.var) ≡ Some (first_gate net side + r.0) =
    sym (position-gate net side g.var) ∙ ap (option_map (λ n. first_gate net side + n)) r.1 in
    (r.0, r.1, ap (λ (ns : List Node). place_of (λ n. same_node n (Gate side g.var)) ns) (nodes_swap net side g) ∙ was)

pub some_position : (net new : AigPair) (side : Side) (g : And) → CanSet (circuit_of net side) g → new ≡ set_net net side g
    → (p : ℕ) × (position_of new (Gate side g.var) ≡ Some p)
some_position net new side g can e =
    let r = stands net side g can in
    (first_gate net side + r.0, ap (λ (n : AigPair). position_of n (Gate side g.var)) e ∙ r.2)

pub gate_change : (net new : AigPair) (side : Side) (g : And) (t : Tables) (position : ℕ) → IsNet net → CanSet (circuit_of net side) g
    → AreTables net t → new ≡ set_net net side g → position_of new (Gate side g.var) ≡ Some position → AreButGate new position t
gate_change net new side g t position is can tables e h =
    subst (λ (n : AigPair). AreButGate n position t) (sym e) (go net side g can tables is (stands net side g can)
    (ap (λ (n : AigPair). position_of n (Gate side g.var)) (sym e) ∙ h))
  where
    places : (net : AigPair) (side : Side) (i : ℕ) → i < length (circuit_of net side).gates
        → (first_gate net side + i ≡ 1 + length net.a.inputs + number net side i) × (number net side i < length net.a.gates + length net.b.gates)
    places net A i l = (omega arith, omega (arith, l))
    places net B i l = (omega arith, omega (arith, l))

    inputs : (net : AigPair) (side : Side) (g : And) → length (set_net net side g).a.inputs ≡ length net.a.inputs
    inputs net A g = refl
    inputs net B g = refl

    go : (net : AigPair) (side : Side) (g : And) → CanSet (circuit_of net side) g → AreTables net t → IsNet net
        → (i : ℕ) × (place_of (λ x. x.var == g.var) (circuit_of net side).gates ≡ Some i)
        × (position_of (set_net net side g) (Gate side g.var) ≡ Some (first_gate net side + i))
        → position_of (set_net net side g) (Gate side g.var) ≡ Some position → AreButGate (set_net net side g) position t
    go net side g can tables is r h =
        let same : first_gate net side + r.0 ≡ position = same_Some (first_gate net side + r.0) position (sym r.2 ∙ h) in
        let at = places net side r.0 (place_within (λ x. x.var == g.var) (circuit_of net side).gates r.0 r.1) in
        let long = ap length (nodes_swap net side g) in
        let k : position - (1 + length (set_net net side g).a.inputs) ≡ number net side r.0 = omega (arith, same, at.0, inputs net side g) in
        let variable : place_of (λ n. same_node n (Gate side g.var)) (variables_of net) ≡ Some position =
        place_from (place_of (λ n. same_node n (Gate side g.var)) (variables_of net)) position (
        sym (variable-node net (Gate side g.var) (λ j same. cc same))
        ∙ ap (option_map (λ n. n + 1)) (ap (λ (ns : List Node). place_of (λ n. same_node n (Gate side g.var)) ns) (sym (nodes_swap net side g)) ∙ h)) in
        record {
          first = omega (arith, same, at.0, inputs net side g);
          last = omega (arith, same, at.0, at.1, length-nodes net, long);
          fanins = record {
            count = ap length tables.fanins ∙ length-map (definitions net) (fanins_of net) ∙ sym (counted_swap net side g);
            written = subst (λ (n : ℕ). (f : Fanins) → slice_get (all_fanins (set_net net side g)) n ≡ Some f → slice_set t.fanins.items n f ≡ all_fanins (set_net net side g))
                (sym k)
                (fanins_written t.fanins.items (all_fanins (set_net net side g)) (all_fanins net) (number net side r.0)
                (fanins_of net (definition_of side (circuit_of net side) g)) tables.fanins (fanins_swap net side g r.0 is r.1));
          };
          starts = were_starts net (set_net net side g) (Gate side g.var)
              (record { variables = variables_swap net side g; axioms = axioms_swap net side g }) position variable t.starts.items tables.starts;
        }

-- ---- another output
abbrev led_net : AigPair → Side → ℕ → ℕ → AigPair
led_net net side j lit = with_side net side (with_output (circuit_of net side) j lit)

other_output : (outputs : List ℕ) (j k lit : ℕ) → (k == j) ≡ false → slice_get (slice_set outputs j lit) k ≡ slice_get outputs k
other_output [] j k lit e = refl
other_output (x ∷ xs) zero zero lit e = let t : (0 == 0) ≡ true = refl in cc
other_output (x ∷ xs) zero (suc k) lit e = refl
other_output (x ∷ xs) (suc j) zero lit e = refl
other_output (x ∷ xs) (suc j) (suc k) lit e = other_output xs j k lit (grind (arith, nat_tests, e))

axioms_led : (net : AigPair) (side : Side) (j lit : ℕ) (n : Node) → same_node n (Xor j) ≡ false → axioms_of (led_net net side j lit) n ≡ axioms_of net n
axioms_led net A j lit Const e = refl
axioms_led net B j lit Const e = refl
axioms_led net A j lit (Input k) e = refl
axioms_led net B j lit (Input k) e = refl
axioms_led net A j lit (Gate A v) e = refl
axioms_led net A j lit (Gate B v) e = refl
axioms_led net B j lit (Gate A v) e = refl
axioms_led net B j lit (Gate B v) e = refl
axioms_led net A j lit (Xor k) e =
    ap (λ (o : Option ℕ). xor_axioms k (option_map (lit_named A net.a) o) (output_of net B k)) (other_output net.a.outputs j k lit e)
axioms_led net B j lit (Xor k) e =
    ap (λ (o : Option ℕ). xor_axioms k (output_of net A k) (option_map (lit_named B net.b) o)) (other_output net.b.outputs j k lit e)

variables_led : (net : AigPair) (side : Side) (j lit : ℕ) → variables_of (led_net net side j lit) ≡ variables_of net
variables_led net A j lit = ap (λ (n : ℕ). nodes_of net ++ map Xor (range_with_len 0 n)) (length-set net.a.outputs j lit)
variables_led net B j lit = refl

fanins_led : (net : AigPair) (side : Side) (j lit : ℕ) → all_fanins (led_net net side j lit) ≡ all_fanins net
fanins_led net A j lit = refl
fanins_led net B j lit = refl

-- both sides have as many outputs
inside : (net : AigPair) (side : Side) (j : ℕ) → IsNet net → j < length (circuit_of net side).outputs → j < length net.a.outputs
inside net A j is l = l
inside net B j is l = omega (arith, l, is.outputs)

led_variable : (net : AigPair) (side : Side) (j lit : ℕ) → IsNet net → j < length (circuit_of net side).outputs
    → (variable_of net (Xor j) ≡ Some (length (nodes_of net) + j + 1))
    × (variable_of (led_net net side j lit) (Xor j) ≡ Some (length (nodes_of net) + j + 1))
led_variable net side j lit is l =
    let below = inside net side j is l in
    let here : nat_lt j (length net.a.outputs) ≡ true = grind (arith, nat_tests, below) in
    let was : variable_of net (Xor j) ≡ Some (length (nodes_of net) + j + 1) = variable_of-xor net j ∙ rw here refl in
    (was, ap (λ (ns : List Node). option_map (λ k. k + 1) (place_of (λ n. same_node n (Xor j)) ns)) (variables_led net side j lit) ∙ was)

pub some_variable : (net new : AigPair) (side : Side) (j lit : ℕ) → IsNet net → j < length (circuit_of net side).outputs → new ≡ led_net net side j lit
    → variable_of new (Xor j) ≡ Some (length (nodes_of net) + j + 1)
some_variable net new side j lit is l e = ap (λ (n : AigPair). variable_of n (Xor j)) e ∙ (led_variable net side j lit is l).1

pub output_change : (net new : AigPair) (side : Side) (j lit : ℕ) (t : Tables) (v : ℕ) → IsNet net → j < length (circuit_of net side).outputs
    → AreTables net t → new ≡ led_net net side j lit → variable_of new (Xor j) ≡ Some v → AreButXor new (v - 1) t
output_change net new side j lit t v is l tables e h =
    let same : length (nodes_of net) + j + 1 ≡ v = same_Some (length (nodes_of net) + j + 1) v (sym (some_variable net new side j lit is l e) ∙ h) in
    let place : length (nodes_of net) + j ≡ v - 1 = omega (arith, same) in
    subst (λ (n : AigPair). AreButXor n (v - 1) t) (sym e)
    (subst (λ (p : ℕ). AreButXor (led_net net side j lit) p t) place
    (record {
      within = omega (arith, inside net side j is l, length-variables net, ap length (variables_led net side j lit));
      fanins = tables.fanins ∙ sym (fanins_led net side j lit);
      starts = were_starts net (led_net net side j lit) (Xor j)
          (record { variables = variables_led net side j lit; axioms = axioms_led net side j lit }) (length (nodes_of net) + j)
          (place_from (place_of (λ n. same_node n (Xor j)) (variables_of net)) (length (nodes_of net) + j) (led_variable net side j lit is l).0)
          t.starts.items tables.starts;
    }))
