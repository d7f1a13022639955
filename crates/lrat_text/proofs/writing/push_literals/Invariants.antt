use Rattle.std.proofs.Common.{◌≡◌, ◌++◌, take, map}
use Rattle.std.specs.List.{AllByRecursion}
use Rattle.tokens.specs.Text.{literal_text, spaced, IsInRange}
use Rattle.lrat_text.proofs.writing.push_literals.Given as goal

abbrev pub invariant-loop-literal : goal.invariant-loop-literal
invariant-loop-literal l = record {
  written : l.buf.items ≡ l.fn.buf.items ++ spaced
      (map literal_text (take l.literal-index l.literals));
  range : AllByRecursion IsInRange (take l.literal-index l.literals);
}
