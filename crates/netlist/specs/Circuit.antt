-- Circuits as and-inverter graphs, and the values of their literals, as AIGER has them (Biere 2007; version 1.9, 2011),
-- without latches.
use Rattle.std.specs.Prelude.{◌≡◌, ℕ, ◌/◌, ◌%◌, ◌≤◌, ◌==◌, nat_le, Bool, true, false, not, ◌&&◌, ⊤, List, [], ◌∷◌, ◌++◌, length, map, slice_index, if◌then◌else◌}
use Rattle.std.specs.List.{list_all, slice_index_or}
use Rattle.std.specs.Option.{option_map_or}
use Rattle.lits.specs.Clause.{has, no_repeat}
use Rattle.symbol_names.specs.declared.names.Names.{Names}
use Rattle.symbol_names.specs.Names.{AreNames, unnamed}
use Rattle.netlist.specs.Place.{place_of}
use Rattle.netlist.specs.declared.gate.And.{And}

-- An AIGER literal: variable v is written 2v, its negation 2v + 1. Variable 0 is the constant false, so 0 is false
-- and 1 is true.
abbrev pub var_of : ℕ → ℕ
var_of lit = lit / 2

abbrev pub is_negated : ℕ → Bool
is_negated lit = lit % 2 == 1

-- A circuit: the variables of its inputs in order, its gates in order, the literals of its outputs and of its constraints
-- in order, and for each input and output a name or none.
pub record Aig : Type 0 where
  pub inputs : List ℕ
  pub gates : List And
  pub outputs : List ℕ
  pub constraints : List ℕ
  pub names : Names

-- nothing so far
abbrev pub no_parts : Aig
no_parts = record { inputs = []; gates = []; outputs = []; constraints = []; names = unnamed 0 0 }

-- the same, without a name
abbrev pub without_names : Aig → Aig
without_names c = record c { names = unnamed (length c.inputs) (length c.outputs) }

-- the circuit of these inputs, gates and outputs, without constraints and names
abbrev pub plain : List ℕ → List And → List ℕ → Aig
plain inputs gates outputs = record {
  inputs = inputs;
  gates = gates;
  outputs = outputs;
  constraints = [];
  names = unnamed (length inputs) (length outputs);
}

-- the variables that the gates define, in order
abbrev pub gate_vars : List And → List ℕ
gate_vars gates = map (λ g. g.var) gates

-- all variables of the circuit: the constant, then the inputs, then the gates
abbrev pub variables_in : Aig → List ℕ
variables_in c = 0 ∷ (c.inputs ++ gate_vars c.gates)

-- the literal's variable is one of these
abbrev pub is_over : List ℕ → ℕ → Bool
is_over vars lit = has ◌==◌ vars (var_of lit)

-- the gate defines a new variable, and its fanins are over the known ones
pub record IsNext (known : List ℕ) (gate : And) : Type 0 where
  pub new : has ◌==◌ known gate.var ≡ false
  pub left : is_over known gate.left ≡ true
  pub right : is_over known gate.right ≡ true

-- each gate defines a new variable from known ones and those of earlier gates
abbrev pub AreOrdered : List ℕ → List And → Type 0
AreOrdered known [] = ⊤
AreOrdered known (g ∷ gs) = IsNext known g × AreOrdered (g.var ∷ known) gs

-- the greatest variable, and the greatest number of outputs and of constraints, that this project takes
abbrev pub most : ℕ
most = 16777216

-- the parts make a circuit
pub record IsCircuit (c : Aig) : Type 0 where
  pub inputs : no_repeat ◌==◌ (0 ∷ c.inputs) ≡ true
  pub gates : AreOrdered (0 ∷ c.inputs) c.gates
  pub outputs : list_all (is_over (variables_in c)) c.outputs ≡ true
  pub range : list_all (λ v. nat_le v most) (variables_in c) ≡ true
  pub count : length c.outputs ≤ most
  pub constraints : list_all (is_over (variables_in c)) c.constraints ≡ true
  pub constraint_count : length c.constraints ≤ most
  pub names : AreNames (length c.inputs) (length c.outputs) c.names

-- the value of a literal, where v gives each variable's value
abbrev pub lit_value : (ℕ → Bool) → ℕ → Bool
lit_value v lit = if is_negated lit then not (v (var_of lit)) else v (var_of lit)

-- v with the value b at the variable x
abbrev pub put : (ℕ → Bool) → ℕ → Bool → ℕ → Bool
put v x b y = if y == x then b else v y

-- v, and the values that the gates give from there on: each gate is the AND of its fanins
abbrev pub run : List And → (ℕ → Bool) → ℕ → Bool
run [] v = v
run (g ∷ gs) v = run gs (put v g.var (lit_value v g.left && lit_value v g.right))

-- the variables' values before any gate: an input has the truth value at its place, any other variable is false
abbrev pub given : List ℕ → List Bool → ℕ → Bool
given inputs bits x = option_map_or (λ k. slice_index_or bits k false) (place_of (λ y. y == x) inputs) false

-- the values of the circuit's variables for the inputs' truth values
abbrev pub values_in : Aig → List Bool → ℕ → Bool
values_in c bits = run c.gates (given c.inputs bits)

-- the value of a literal of the circuit for the inputs' truth values
abbrev pub value_in : Aig → List Bool → ℕ → Bool
value_in c bits lit = lit_value (values_in c bits) lit

-- the value of output j, from 0
abbrev pub output_value : Aig → List Bool → ℕ → Bool
output_value c bits j = value_in c bits (slice_index c.outputs j)
