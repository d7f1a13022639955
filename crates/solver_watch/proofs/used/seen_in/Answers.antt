use Rattle.std.proofs.Common.{sym, ap, ◌∙◌}
use Rattle.std.proofs.lemmas.List.{take_all}
use Rattle.solver_watch.proofs.UsedLemmas.{has_variable, seen-step}
use Rattle.solver_watch.proofs.used.seen_in.Goals as goal

pub loop-code-preserved : goal.loop-code-preserved
loop-code-preserved c =
    seen-step c.args.codes.now c.loop-code.code-index c.args.before c.loop-code.seen c.next-seen.result c.loop-code-test.true c.loop-code.invariant c.next-seen.ensures

pub returns : goal.returns
returns c = λ k low below.
    ap (has_variable k) (sym (take_all c.loop-code.code-index c.args.codes.now c.loop-code-test.false)) ∙ c.loop-code.invariant k low below
