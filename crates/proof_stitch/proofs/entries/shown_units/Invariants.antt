use Rattle.std.proofs.Common.{◌≡◌, ◌-◌, ◌++◌, map}
use Rattle.std.specs.Prelude.{filter}
use Rattle.std.specs.List.{range_with_len}
use Rattle.lemma_book.specs.Entry.{has_out}
use Rattle.proof_stitch.specs.Derivation.{shown_units}
use Rattle.proof_stitch.specs.Stitch.{unit_id}
use Rattle.proof_stitch.proofs.entries.shown_units.Given as goal

abbrev pub invariant-loop-output : goal.invariant-loop-output
invariant-loop-output l =
    l.units.items ++ map (unit_id l.net l.book.entries) (filter (has_out l.book.entries) (range_with_len l.output (l.output-end - l.output)))
    ≡ shown_units l.net l.book.entries
