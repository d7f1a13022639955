-- What a thread is given, and what becomes of it.
use Rattle.std.specs.Prelude.{◌≡◌, ◌+◌, ◌^◌}
use Rattle.netlist.specs.Net.{AigPair}
use Rattle.lemma_book.specs.Book.{IsLegal}
use Rattle.board_lock.specs.Pass.{Held, Post, share_of}

-- the pass is one of the board, the board is about the net, and what the pass knows is legal over it
pub record MayWork (net : AigPair) (board : Post) (pass : Held) : Type 0 where
  pub own : pass.table ≡ board.table
  pub about : net ≡ board.root.net
  pub legal : IsLegal net pass.known

-- a board with its first pass, which is whole
pub record IsOpened (net : AigPair) (board : Post) (pass : Held) : Type 0 where
  pub may : MayWork net board pass
  pub whole : share_of pass ≡ 2 ^ 62

-- a pass and a new one have the share of the old one
pub record IsSplit (net : AigPair) (board : Post) (old new result : Held) : Type 0 where
  pub may : MayWork net board result
  pub share : share_of new + share_of result ≡ share_of old
