-- How a file goes out in pieces: in writes of exactly 65,536 bytes each but the last, which has the rest.
use Rattle.std.specs.Prelude.{◌≡◌, ℕ, zero, suc, ◌+◌, ◌*◌, ◌/◌, ◌%◌, ◌≤◌, List, [], ◌∷◌, ◌++◌, length, replicate, Result, Ok, Err}
use Rattle.desk_port.specs.Desk.{DeskState, Sizes, WriteFault, after_write, and_sizes}
use Rattle.desk_port.specs.declared.errors.PutErr.{PutErr}
use Rattle.desk_port.specs.declared.errors.PutErr.TheVariants as not_put

-- how many bytes a whole piece has
abbrev pub piece : ℕ
piece = 65536

-- the size of what is left behind whole pieces; nothing makes no write
abbrev pub rest_sizes : ℕ → List ℕ
rest_sizes zero = []
rest_sizes (suc n) = suc n ∷ []

-- the sizes in which so many bytes go out
unfoldable pub piece_sizes : ℕ → List ℕ
piece_sizes count = replicate (count / piece) piece ++ rest_sizes (count % piece)

-- the call of the desk was refused, and put nothing more
abbrev pub IsRefused : PutErr → DeskState → DeskState → Type 0
IsRefused not_put.Failed old new = WriteFault old new
IsRefused not_put.NoMemory old new = new ≡ old

-- Bytes went out in pieces up to a write that was refused: whole pieces, and then a first part of the next one.
pub record StopsInPieces (bytes : List ℕ) (error : PutErr) (old new : DeskState) (sizes told : Sizes) : Type 0 where
  pub part : List ℕ
  pub rest : List ℕ
  pub split : bytes ≡ part ++ rest
  pub desk : IsRefused error (after_write old part) new
  pub pieces : ℕ
  pub whole : pieces * piece ≤ length part
  pub next : length part ≤ pieces * piece + piece
  pub counted : told ≡ and_sizes sizes (replicate pieces piece)

-- All the bytes went out in pieces, or they stopped.
abbrev pub WritesInPieces : {A : Type 0} → List ℕ → DeskState → DeskState → Sizes → Sizes → Result A PutErr → Type 0
WritesInPieces bytes old new sizes told (Ok _) =
    (new ≡ after_write old bytes) × (told ≡ and_sizes sizes (piece_sizes (length bytes)))
WritesInPieces bytes old new sizes told (Err error) = StopsInPieces bytes error old new sizes told

-- Bytes that follow those that are held: whole pieces of them all went out, and the others are held now.
pub record Moves (bytes held left : List ℕ) (old new : DeskState) (sizes told : Sizes) : Type 0 where
  pub out : List ℕ
  pub split : held ++ bytes ≡ out ++ left
  pub desk : new ≡ after_write old out
  pub pieces : ℕ
  pub whole : length out ≡ pieces * piece
  pub counted : told ≡ and_sizes sizes (replicate pieces piece)

-- The bytes follow those that are held, or a write was refused.
abbrev pub Takes : {A : Type 0} → List ℕ → List ℕ → List ℕ → DeskState → DeskState → Sizes → Sizes → Result A PutErr → Type 0
Takes bytes held left old new sizes told (Ok _) = Moves bytes held left old new sizes told
Takes bytes held left old new sizes told (Err error) = StopsInPieces (held ++ bytes) error old new sizes told

-- What is held goes out as the last piece, and nothing makes no write; or the write was refused.
abbrev pub Ends : {A : Type 0} → List ℕ → DeskState → DeskState → Sizes → Sizes → Result A PutErr → Type 0
Ends held old new sizes told (Ok _) =
    (new ≡ after_write old held) × (told ≡ and_sizes sizes (rest_sizes (length held)))
Ends held old new sizes told (Err error) = StopsInPieces held error old new sizes told
