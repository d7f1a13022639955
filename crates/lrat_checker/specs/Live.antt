-- The live clauses as a program keeps them.
use Rattle.std.specs.Prelude.{List, Option, Some, None, unwrap_or}
use Rattle.std.specs.List.{slice_get}
use Rattle.std.specs.BTreeMap.{get}
use Rattle.std.specs.Ordering.{nat_cmp}
use Rattle.lits.specs.Dimacs.{DimacsLiteral}
use Rattle.lrat_text.specs.Derivation.{Live}
use Rattle.lrat_checker.specs.declared.live.LiveClauses.{LiveClauses}
use Rattle.lrat_checker.specs.declared.live.Slot.{Slot}
use Rattle.lrat_checker.specs.declared.live.Slot.TheVariants.{Empty, Lent, Own}

-- the clause in a slot
abbrev pub held_in : Slot → Option (List DimacsLiteral)
held_in Empty = None
held_in (Lent clause) = Some clause.now
held_in (Own clause) = Some clause

-- the clauses by their ids: what the id's slot holds, or that of the map where it has none
abbrev pub clauses_of : LiveClauses → Live
clauses_of live id = held_in (unwrap_or (slice_get live.slots.items id) (unwrap_or (get nat_cmp live.others id) Empty))
