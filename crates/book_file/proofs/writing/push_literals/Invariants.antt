-- The literals so far are written.
use Rattle.std.proofs.Common.{◌≡◌, ◌++◌, take, map}
use Rattle.std.specs.List.{AllByRecursion}
use Rattle.tokens.specs.Text.{spaced}
use Rattle.book_file.specs.Writing.{literal_text, FitsNode}
use Rattle.book_file.proofs.writing.push_literals.Given as goal

abbrev pub invariant-loop-lit : goal.invariant-loop-lit
invariant-loop-lit l = record {
  written : l.text.items ≡ l.fn.text.items ++ spaced (map literal_text (take l.lit-index l.lits));
  fit : AllByRecursion (λ m. FitsNode m.node) (take l.lit-index l.lits);
}
