-- The hints so far stay.
use Rattle.std.proofs.Common.{◌≡◌, true, take}
use Rattle.std.specs.List.{list_all}
use Rattle.keep_lemmas.specs.Kept.{hint_stays}
use Rattle.netlist_edits.specs.Edited.{touched_by}
use Rattle.keep_lemmas.specs.Keeping.{is_numbered}
use Rattle.keep_lemmas.proofs.staying.hints_stay.Given as goal

abbrev pub invariant-loop-place : goal.invariant-loop-place
invariant-loop-place l = list_all (hint_stays l.net (touched_by l.touched) (is_numbered l.numbers)) (take l.place l.hints) ≡ true
