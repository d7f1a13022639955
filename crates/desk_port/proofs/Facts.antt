-- What crates above may cite.

-- ---- bytes that go out in pieces, call after call

-- one call after another
pub use Rattle.desk_port.proofs.PieceLemmas.{moves-then, stops-then, takes-then}
-- a call that is refused ends what others would follow
pub use Rattle.desk_port.proofs.PieceLemmas.{stops-first, stops-longer}
-- want of memory before any write
pub use Rattle.desk_port.proofs.PieceLemmas.{stops-none}
-- ---- a loop that puts the texts of a list's elements

-- the text so far is taken: of none, of one more, of all
pub use Rattle.desk_port.proofs.PieceLemmas.{Taken, taken-none, taken-more, taken-all}
-- and the text of one is refused
pub use Rattle.desk_port.proofs.PieceLemmas.{taken-stops}
-- ---- sizes of writes

-- those of no write, and those of writes that follow others
pub use Rattle.desk_port.proofs.WriteLemmas.{and_sizes-nil, and_sizes-append}
-- ---- the whole file

-- what was put, and then what was left
pub use Rattle.desk_port.proofs.PieceLemmas.{in_pieces}
-- a file of no bytes has no write
pub use Rattle.desk_port.proofs.PieceLemmas.{nothing-out}
-- no count of faults falls
pub use Rattle.desk_port.proofs.PieceLemmas.{in_pieces-counts}
