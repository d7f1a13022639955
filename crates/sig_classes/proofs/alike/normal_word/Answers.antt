use Rattle.std.proofs.Common.{ap, ap₂}
use Rattle.std.specs.List.{slice_index_or}
use Rattle.std.specs.Int.RustNames.{bit_and, bit_xor}
use Rattle.sig_classes.specs.Alike.{normal_word}
use Rattle.sig_classes.proofs.alike.normal_word.Goals as goal

pub returns : goal.returns
unfolding normal_word
returns c = ap₂ bit_and (ap (bit_xor (slice_index_or c.args.row.now c.args.w 0)) c.requires.turn) c.filled_mask.ensures
