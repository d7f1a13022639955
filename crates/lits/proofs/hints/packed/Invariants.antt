use Rattle.std.proofs.Common.{◌≡◌, take, map}
use Rattle.lits.specs.Hints.{name_of}
use Rattle.lits.proofs.hints.packed.Given as goal

-- the names so far have their numbers
abbrev pub invariant-loop-name : goal.invariant-loop-name
invariant-loop-name l = map name_of l.codes.items ≡ take l.name-index l.names
