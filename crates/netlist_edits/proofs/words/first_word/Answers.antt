use Rattle.std.proofs.Common.{sym}
use Rattle.std.specs.Prelude.{◌==◌}
use Rattle.netlist_edits.proofs.WordLemmas.{split-first, split-whole}
use Rattle.netlist_edits.proofs.words.first_word.Goals as goal

pub returns-in-Some : goal.returns-in-Some
returns-in-Some c =
    rw (c.split_at.ensures.front, c.split_at-in-Some.ensures.back)
    (split-first (λ b. b == 32) c.args.line.now c.in-Some.end (sym c.in-Some.ensures))

pub returns-in-None : goal.returns-in-None
returns-in-None c = split-whole (λ b. b == 32) c.args.line.now (sym c.in-None.ensures)
