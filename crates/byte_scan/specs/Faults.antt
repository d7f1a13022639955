-- The order in which faults are judged.
use Rattle.std.specs.Prelude.{Bool, Option, Some, None, if◌then◌else◌}
use Rattle.std.specs.Option.{option_or}
use Rattle.byte_scan.specs.declared.errors.AigerErr.{AigerErr}

-- this fault, where the test is true
abbrev pub when : Bool → AigerErr → Option AigerErr
when test fault = if test then Some fault else None

-- what is judged first, and else what is judged next
infixr 20 ◌or_else◌
abbrev pub ◌or_else◌ : Option AigerErr → Option AigerErr → Option AigerErr
first or_else next = option_or first next
