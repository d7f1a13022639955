use Rattle.std.proofs.Common.{ℕ, Option, arith, subst}
use Rattle.word_sim.specs.Patterns.{is_set}
use Rattle.check_session.specs.Pool.{IsFirstOf}
use Rattle.check_session.proofs.PatternLemmas.{none-more, least-here, none-here}
use Rattle.check_session.proofs.patterns.first_bit_apart.Goals as goal

pub loop-word-preserved : goal.loop-word-preserved
loop-word-preserved c =
    none-more c.args.first.now c.args.second.now c.args.are_opposite c.args.counting.now c.word_apart.result c.loop-word.word c.word_apart.ensures
    c.loop-word.invariant
    (subst (λ (o : Option ℕ). IsFirstOf 64 (λ b. is_set c.word_apart.result b) o) c.in_default.is c.first_set.ensures)

pub returns-then-from-count : goal.returns-then-from-count
returns-then-from-count c =
    rw c.from-then-from-count.ensures
    (least-here c.args.first.now c.args.second.now c.args.are_opposite c.args.counting.now c.word_apart.result c.loop-word.word c.word_apart.ensures
    c.loop-word.invariant c.args.count c.in-Some.bit c.in-Some.ensures (omega (arith, c.if-from-count.true, c.from.ensures)))

pub returns-else-from-count : goal.returns-else-from-count
returns-else-from-count c =
    none-here c.args.first.now c.args.second.now c.args.are_opposite c.args.counting.now c.word_apart.result c.loop-word.word c.word_apart.ensures
    c.loop-word.invariant c.args.count c.in-Some.bit c.in-Some.ensures (omega (arith, c.if-from-count.false, c.from.ensures))
