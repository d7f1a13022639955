-- The names so far are written.
use Rattle.std.proofs.Common.{◌≡◌, ◌++◌, take, map}
use Rattle.std.specs.List.{AllByRecursion}
use Rattle.tokens.specs.Text.{spaced}
use Rattle.keep_lemmas.specs.Kept.{renewed_hint}
use Rattle.book_file.specs.Loaded.{number_in}
use Rattle.book_file.specs.Writing.{name_text, FitsName}
use Rattle.book_file.proofs.writing.push_names.Given as goal

abbrev pub invariant-loop-place : goal.invariant-loop-place
invariant-loop-place l = record {
  written : l.text.items ≡ l.fn.text.items ++ spaced (map name_text (map (renewed_hint (number_in l.numbers)) (take l.place l.hints)));
  fit : AllByRecursion FitsName (take l.place l.hints);
}
