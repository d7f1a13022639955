-- Why a proof wasn't written, by why the desk didn't write it.
use Rattle.std.proofs.Common.{◌≡◌, ℕ, List, refl, sym, subst}
use Rattle.desk_port.specs.Desk.{DeskState, Sizes}
use Rattle.desk_port.specs.Pieces.{StopsInPieces}
use Rattle.desk_port.specs.declared.errors.PutErr.{PutErr}
use Rattle.desk_port.specs.declared.errors.PutErr.TheVariants.{Failed, NoMemory}
use Rattle.proof_stitch.specs.Text.{cause_of, refusal_of}

cause-refusal : (e : PutErr) → cause_of (refusal_of e) ≡ e
cause-refusal Failed = refl
cause-refusal NoMemory = refl

-- the text stops for the cause that is told
pub stops-told : (text : List ℕ) (e : PutErr) (old new : DeskState) (sizes told : Sizes) → StopsInPieces text e old new sizes told
    → StopsInPieces text (cause_of (refusal_of e)) old new sizes told
stops-told text e old new sizes told p = subst (λ (x : PutErr). StopsInPieces text x old new sizes told) (sym (cause-refusal e)) p
