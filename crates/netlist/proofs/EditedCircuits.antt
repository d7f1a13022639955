-- An edited circuit is a circuit, and an edited pair a net.
use Rattle.std.proofs.Common.{◌≡◌, ℕ, ◌≤◌, Bool, true, false, Option, None, Some, List, ◌∷◌, ◌++◌, length, refl, sym, ap, ◌∙◌, subst, arith}
use Rattle.std.specs.Prelude.{◌==◌, ◌||◌, nat_le, slice_set}
use Rattle.std.specs.List.{list_all, list_any}
use Rattle.std.proofs.lemmas.Bool.{or_parts}
use Rattle.std.proofs.lemmas.Bool.Decides.{nat_tests}
use Rattle.std.proofs.lemmas.List.{append-nil, length-set}
use Rattle.std.proofs.lemmas.List.Folds.{list_any-append}
use Rattle.lits.specs.Clause.{has}
use Rattle.symbol_names.specs.Names.{AreNames}
use Rattle.lits.specs.declared.node.Side.{Side}
use Rattle.lits.specs.declared.node.Side.TheVariants.{A, B}
use Rattle.netlist.specs.declared.gate.And.{And}
use Rattle.netlist.specs.Circuit.{Aig, IsCircuit, AreOrdered, var_of, is_over, gate_vars, variables_in, most}
use Rattle.netlist.specs.Net.{AigPair, IsNet, circuit_of}
use Rattle.netlist.specs.Edit.{gates_before, gates_since, with_gate, with_new, without_gate, with_output, with_side, CanSet, CanPut, CanDrop}
use Rattle.netlist.proofs.EditLemmas.{vars-swap, ordered_swap, before-since, ordered_put, has-put, but, reads_fanin, ordered_but, has-but, but-has, list_all-at, list_all-from, over_more, over_but, list_all-set}

-- a literal over the inputs or over these gates
over_parts : (c : Aig) (gs : List And) (lit : ℕ) → is_over (0 ∷ (c.inputs ++ gate_vars gs)) lit ≡ true
    → (has ◌==◌ (0 ∷ c.inputs) (var_of lit) || has ◌==◌ (gate_vars gs) (var_of lit)) ≡ true
over_parts c gs lit e = sym (list_any-append (λ x. x == var_of lit) (0 ∷ c.inputs) (gate_vars gs)) ∙ e

pub vars-set : (c : Aig) (g : And) → variables_in (with_gate c g) ≡ variables_in c
vars-set c g = ap (λ (vs : List ℕ). 0 ∷ (c.inputs ++ vs)) (vars-swap g c.gates)

pub is_set : (c : Aig) (g : And) → IsCircuit c → CanSet c g → IsCircuit (with_gate c g)
is_set c g circuit can = record {
  inputs = circuit.inputs;
  gates = ordered_swap (0 ∷ c.inputs) c.gates g circuit.gates
      (over_parts c (gates_before c (Some g.var)) g.left can.left) (over_parts c (gates_before c (Some g.var)) g.right can.right);
  outputs = subst (λ (vs : List ℕ). list_all (is_over vs) c.outputs ≡ true) (sym (vars-set c g)) circuit.outputs;
  range = subst (λ (vs : List ℕ). list_all (λ v. nat_le v most) vs ≡ true) (sym (vars-set c g)) circuit.range;
  count = circuit.count;
  constraints = subst (λ (vs : List ℕ). list_all (is_over vs) c.constraints ≡ true) (sym (vars-set c g)) circuit.constraints;
  constraint_count = circuit.constraint_count;
  names = circuit.names;
}

-- the gates before a place and those from it on
pub whole : (c : Aig) (place : Option ℕ) → gates_before c place ++ gates_since c place ≡ c.gates
whole c None = append-nil c.gates
whole c (Some v) = before-since (λ g. g.var == v) c.gates

or_fourth : (a b c d : Bool) → (a || (b || (c || d))) ≡ (c || (a || (b || d)))
or_fourth true b true d = refl
or_fourth true b false d = refl
or_fourth false true true d = refl
or_fourth false true false d = refl
or_fourth false false true d = refl
or_fourth false false false d = refl

-- one variable more
pub has-new : (c : Aig) (g : And) (place : Option ℕ) (w : ℕ)
    → has ◌==◌ (variables_in (with_new c g place)) w ≡ ((g.var == w) || has ◌==◌ (variables_in c) w)
has-new c g place w =
    ap (λ (b : Bool). (0 == w) || b) (
    list_any-append (λ x. x == w) c.inputs (gate_vars (gates_before c place ++ g ∷ gates_since c place))
    ∙ ap (λ (b : Bool). has ◌==◌ c.inputs w || b) (
    has-put (gates_before c place) (gates_since c place) g w
    ∙ ap (λ (gs : List And). (g.var == w) || has ◌==◌ (gate_vars gs) w) (whole c place)))
    ∙ or_fourth (0 == w) (has ◌==◌ c.inputs w) (g.var == w) (has ◌==◌ (gate_vars c.gates) w)
    ∙ ap (λ (b : Bool). (g.var == w) || ((0 == w) || b)) (sym (list_any-append (λ x. x == w) c.inputs (gate_vars c.gates)))

pub is_put : (c : Aig) (g : And) (place : Option ℕ) → IsCircuit c → CanPut c g place → IsCircuit (with_new c g place)
is_put c g place circuit can = record {
  inputs = circuit.inputs;
  gates = ordered_put (0 ∷ c.inputs) (gates_before c place) (gates_since c place) g
      (subst (λ (gs : List And). AreOrdered (0 ∷ c.inputs) gs) (sym (whole c place)) circuit.gates)
      apart.0 (ap (λ (gs : List And). has ◌==◌ (gate_vars gs) g.var) (whole c place) ∙ apart.1)
      (over_parts c (gates_before c place) g.left can.left) (over_parts c (gates_before c place) g.right can.right);
  outputs = over_more (variables_in c) (variables_in (with_new c g place)) c.outputs grows circuit.outputs;
  range = list_all-from (λ v. nat_le v most) (variables_in (with_new c g place)) range;
  count = circuit.count;
  constraints = over_more (variables_in c) (variables_in (with_new c g place)) c.constraints grows circuit.constraints;
  constraint_count = circuit.constraint_count;
  names = circuit.names;
}
  where
    apart : (has ◌==◌ (0 ∷ c.inputs) g.var ≡ false) × (has ◌==◌ (gate_vars c.gates) g.var ≡ false)
    apart = or_parts (has ◌==◌ (0 ∷ c.inputs) g.var) (has ◌==◌ (gate_vars c.gates) g.var)
        (sym (list_any-append (λ x. x == g.var) (0 ∷ c.inputs) (gate_vars c.gates)) ∙ can.new)

    grows : (w : ℕ) → has ◌==◌ (variables_in c) w ≡ true → has ◌==◌ (variables_in (with_new c g place)) w ≡ true
    grows w e = has-new c g place w ∙ go (g.var == w) (has ◌==◌ (variables_in c) w) e
      where
        go : (a b : Bool) → b ≡ true → (a || b) ≡ true
        go true b e = refl
        go false b e = e

    range : (w : ℕ) → has ◌==◌ (variables_in (with_new c g place)) w ≡ true → nat_le w most ≡ true
    range w e = go (g.var == w) refl (sym (has-new c g place w) ∙ e)
      where
        go : (b : Bool) → (g.var == w) ≡ b → (b || has ◌==◌ (variables_in c) w) ≡ true → nat_le w most ≡ true
        go true t e = grind (arith, nat_tests, t, can.range)
        go false t e = list_all-at (λ v. nat_le v most) (variables_in c) w circuit.range e

-- the variables but that of the gate that goes
pub has-kept : (c : Aig) (v w : ℕ) → (w == v) ≡ false → has ◌==◌ (variables_in (without_gate c v)) w ≡ has ◌==◌ (variables_in c) w
has-kept c v w f =
    ap (λ (b : Bool). (0 == w) || b) (
    list_any-append (λ x. x == w) c.inputs (gate_vars (but v c.gates))
    ∙ ap (λ (b : Bool). has ◌==◌ c.inputs w || b) (has-but v c.gates w f)
    ∙ sym (list_any-append (λ x. x == w) c.inputs (gate_vars c.gates)))

pub kept-has : (c : Aig) (v w : ℕ) → has ◌==◌ (variables_in (without_gate c v)) w ≡ true → has ◌==◌ (variables_in c) w ≡ true
kept-has c v w e =
    list_any-append (λ x. x == w) (0 ∷ c.inputs) (gate_vars c.gates)
    ∙ go (has ◌==◌ (0 ∷ c.inputs) w) (has ◌==◌ (gate_vars (but v c.gates)) w) (sym (list_any-append (λ x. x == w) (0 ∷ c.inputs) (gate_vars (but v c.gates))) ∙ e)
    (but-has v c.gates w)
  where
    go : (a b : Bool) → (a || b) ≡ true → (b ≡ true → has ◌==◌ (gate_vars c.gates) w ≡ true) → (a || has ◌==◌ (gate_vars c.gates) w) ≡ true
    go true b e there = refl
    go false b e there = there e

pub is_dropped : (c : Aig) (v : ℕ) → IsCircuit c → CanDrop c v → IsCircuit (without_gate c v)
is_dropped c v circuit can = record {
  inputs = circuit.inputs;
  gates = ordered_but v (0 ∷ c.inputs) (0 ∷ c.inputs) c.gates (λ w e. e) (λ w f e. e) unread.0 circuit.gates;
  outputs = over_but v (variables_in c) (variables_in (without_gate c v)) c.outputs keeps others.0 circuit.outputs;
  range = list_all-from (λ v. nat_le v most) (variables_in (without_gate c v)) (λ w e. list_all-at (λ v. nat_le v most) (variables_in c) w circuit.range (kept-has c v w e));
  count = circuit.count;
  constraints = over_but v (variables_in c) (variables_in (without_gate c v)) c.constraints keeps others.1 circuit.constraints;
  constraint_count = circuit.constraint_count;
  names = circuit.names;
}
  where
    unread : (list_any (reads_fanin v) c.gates ≡ false)
        × ((list_any (λ lit. var_of lit == v) c.outputs || list_any (λ lit. var_of lit == v) c.constraints) ≡ false)
    unread = or_parts (list_any (reads_fanin v) c.gates) _ can.unread

    others : (list_any (λ lit. var_of lit == v) c.outputs ≡ false) × (list_any (λ lit. var_of lit == v) c.constraints ≡ false)
    others = or_parts (list_any (λ lit. var_of lit == v) c.outputs) (list_any (λ lit. var_of lit == v) c.constraints) unread.1

    keeps : (w : ℕ) → (w == v) ≡ false → has ◌==◌ (variables_in c) w ≡ true → has ◌==◌ (variables_in (without_gate c v)) w ≡ true
    keeps w f e = has-kept c v w f ∙ e

pub is_led : (c : Aig) (j lit : ℕ) → IsCircuit c → is_over (variables_in c) lit ≡ true → IsCircuit (with_output c j lit)
is_led c j lit circuit over = record {
  inputs = circuit.inputs;
  gates = circuit.gates;
  outputs = list_all-set (is_over (variables_in c)) c.outputs j lit over circuit.outputs;
  range = circuit.range;
  count = subst (λ (n : ℕ). n ≤ most) (sym long) circuit.count;
  constraints = circuit.constraints;
  constraint_count = circuit.constraint_count;
  names = subst (λ (n : ℕ). AreNames (length c.inputs) n c.names) (sym long) circuit.names;
}
  where
    long : length (slice_set c.outputs j lit) ≡ length c.outputs
    long = length-set c.outputs j lit

-- a pair with a circuit of as many inputs and outputs on one side
pub is_net : (net : AigPair) (side : Side) (c : Aig) → IsNet net → IsCircuit c
    → length c.inputs ≡ length (circuit_of net side).inputs → length c.outputs ≡ length (circuit_of net side).outputs
    → IsNet (with_side net side c)
is_net net A c is circuit inputs outputs =
    record { a = circuit; b = is.b; inputs = inputs ∙ is.inputs; outputs = outputs ∙ is.outputs }
is_net net B c is circuit inputs outputs =
    record { a = is.a; b = circuit; inputs = is.inputs ∙ sym inputs; outputs = is.outputs ∙ sym outputs }
