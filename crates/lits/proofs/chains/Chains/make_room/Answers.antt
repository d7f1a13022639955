use Rattle.std.proofs.Common.{arith}
use Rattle.std.proofs.lemmas.List.{length-replicate}
use Rattle.lits.proofs.chains.Chains.make_room.Goals as goal

pub add_all-requires-clause-slots : goal.add_all-requires-clause-slots
add_all-requires-clause-slots g c = rw (c.in_ok-chains.ensures.heads, length-replicate) (omega arith)

pub returns-in_ok-add_all-clause-room : goal.returns-in_ok-add_all-clause-room
returns-in_ok-add_all-clause-room g c = rw (c.in_ok-add_all.ensures.slots, c.in_ok-chains.ensures.heads, length-replicate) (omega arith)
