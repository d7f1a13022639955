-- Why two circuits are no net.
use Rattle.std.specs.Prelude.{◌==◌, not, Option, None, Some, length, if◌then◌else◌}
use Rattle.netlist.specs.declared.unlike.Unlike.{Unlike}
use Rattle.netlist.specs.declared.unlike.Unlike.TheVariants.{Inputs, Outputs}
use Rattle.netlist.specs.Circuit.{Aig}

-- their numbers of inputs differ, else their numbers of outputs do
abbrev pub unlike_of : Aig → Aig → Option Unlike
unlike_of a b =
    if not (length a.inputs == length b.inputs) then Some (Inputs (length a.inputs) (length b.inputs))
    else (if not (length a.outputs == length b.outputs) then Some (Outputs (length a.outputs) (length b.outputs)) else None)
