use Rattle.std.proofs.Common.{[], arith, ap, sym, ◌∙◌, length}
use Rattle.std.specs.List.{list_any}
use Rattle.std.proofs.lemmas.List.{take_all}
use Rattle.lits.specs.declared.step.Ref.TheVariants.{Own}
use Rattle.flat_base.specs.Flat.{Coded}
use Rattle.solver_watch.proofs.UsedLemmas.{has_variable, seen-clause, all-used}
use Rattle.solver_watch.proofs.used.are_used.Goals as goal

pub loop-number-preserved : goal.loop-number-preserved
loop-number-preserved c =
    let none : Coded = record { codes = []; by = Own 0 } in
    seen-clause c.args.base.now.clauses c.loop-number.number c.loop-number.seen c.seen_in-seen.result c.codes.result.now none
    (omega (arith, c.loop-number-test.true, c.len-number-end.ensures)) (c.codes.ensures.codes none) c.loop-number.invariant c.seen_in-seen.ensures

pub returns : goal.returns
returns c = all-used c.args.base.now (λ k below.
    ap (list_any (λ (d : Coded). has_variable k d.codes)) (sym (take_all c.loop-number.number c.args.base.now.clauses (omega (arith, c.loop-number-test.false, c.len-number-end.ensures))))
    ∙ c.loop-number.invariant k (omega (arith, below, c.if-seen-nodes.false, ap length c.nodes.ensures.nodes)))
