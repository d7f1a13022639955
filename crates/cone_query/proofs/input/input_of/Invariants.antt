-- The input is that of the literals so far.
use Rattle.std.proofs.Common.{◌≡◌, take}
use Rattle.cone_query.specs.Input.{input_from}
use Rattle.cone_query.proofs.input.input_of.Given as goal

abbrev pub invariant-loop-lit : goal.invariant-loop-lit
invariant-loop-lit l = l.input.items ≡ input_from l.net (take l.lit-index l.model)
