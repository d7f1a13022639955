-- The text of a proof, and what a call makes of the desk that writes it.
use Rattle.std.specs.Prelude.{◌≡◌, ℕ, List, length, Result, Ok, Err}
use Rattle.netlist.specs.Net.{AigPair}
use Rattle.netlist.specs.Miter.{miter_of}
use Rattle.lrat_text.specs.declared.step.LratStep.{LratStep}
use Rattle.lrat_text.specs.Writing.{text_from}
use Rattle.desk_port.specs.Desk.{DeskState, Sizes, after_write, and_sizes}
use Rattle.desk_port.specs.Pieces.{StopsInPieces, piece_sizes}
use Rattle.desk_port.specs.declared.errors.PutErr.{PutErr}
use Rattle.desk_port.specs.declared.errors.PutErr.TheVariants as not_put
use Rattle.proof_stitch.specs.declared.stitch_err.StitchErr.{StitchErr}
use Rattle.proof_stitch.specs.declared.stitch_err.StitchErr.TheVariants.{Write, NoMemory}

-- the text of some lines behind the miter's clauses, to the byte
abbrev pub proof_text : AigPair → List LratStep → List ℕ
proof_text net lines = text_from (length (miter_of net)) lines

-- why a proof wasn't written, by why the desk didn't write it
abbrev pub refusal_of : PutErr → StitchErr
refusal_of not_put.Failed = Write
refusal_of not_put.NoMemory = NoMemory

-- and why the desk didn't, by why a proof wasn't written
abbrev pub cause_of : StitchErr → PutErr
cause_of Write = not_put.Failed
cause_of NoMemory = not_put.NoMemory

-- The whole text went out to the started file in pieces, or it stopped: whole pieces stand in the file, and a first part of the
-- next one.
abbrev pub Stitches : {T : Type 0} → List ℕ → DeskState → DeskState → Sizes → Sizes → Result T StitchErr → Type 0
Stitches text old new sizes told (Ok _) =
    (new ≡ after_write old text) × (told ≡ and_sizes sizes (piece_sizes (length text)))
Stitches text old new sizes told (Err error) = StopsInPieces text (cause_of error) old new sizes told
