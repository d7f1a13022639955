-- What a draft becomes: a circuit, or the first fault that shows only when all gates are known.
use Rattle.std.specs.Prelude.{ℕ, ◌*◌, ◌≤◌, not, Option, None, Some, Result, Ok, Err, List, [], ◌∷◌, ◌++◌, length}
use Rattle.std.specs.List.{find, flat_map}
use Rattle.byte_scan.specs.declared.errors.AigerErr.{AigerErr}
use Rattle.byte_scan.specs.declared.errors.AigerErr.TheVariants.{Undefined, Cycle}
use Rattle.netlist.specs.declared.gate.And.{And}
use Rattle.netlist.specs.Circuit.{Aig, is_over, variables_in, without_names, most}
use Rattle.netlist.specs.VariableTable.{Places, AreVariables, IsTable}
use Rattle.circuit_draft.specs.Levels.{on_cycle, ordered}

-- A draft is a circuit whose gates may stand in any order and use what isn't defined. Its variables differ.
pub record IsDraft (c : Aig) : Type 0 where
  pub variables : AreVariables c.inputs c.gates
  pub count : length c.outputs ≤ most
  pub constraint_count : length c.constraints ≤ most

-- the parts make a draft, and the table finds its variables
pub record IsIndexedDraft (c : Aig) (t : Places) : Type 0 where
  pub draft : IsDraft c
  pub table : IsTable t (variables_in c)

-- the literals that are used, in the order in which they are read: outputs, constraints, then fanins gate by gate
abbrev pub uses_in : Aig → List ℕ
uses_in c = c.outputs ++ (c.constraints ++ flat_map (λ g. g.left ∷ g.right ∷ []) c.gates)

-- the first of them whose variable is neither the constant nor defined
abbrev pub undefined_in : Aig → Option ℕ
undefined_in c = find (λ n. not (is_over (variables_in c) n)) (uses_in c)

abbrev pub finished_unless : Option ℕ → Option And → Aig → Result Aig AigerErr
finished_unless (Some n) cycle c = Err (Undefined n)
finished_unless None (Some g) c = Err (Cycle (2 * g.var))
finished_unless None None c = Ok c

-- The circuit of a draft, its gates put in order, without names; or the first literal that is undefined; or else the first gate,
-- in the file's order, that is on a cycle or above one.
abbrev pub finished : Aig → Result Aig AigerErr
finished c = finished_unless (undefined_in c) (on_cycle c) (without_names (record c { gates = ordered c }))
