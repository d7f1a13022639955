use Rattle.std.proofs.Common.{[], map, arith, ap, ◌∙◌}
use Rattle.std.proofs.lemmas.List.{take_all}
use Rattle.lits.specs.declared.step.Ref.TheVariants.{Own}
use Rattle.flat_base.specs.Flat.{Coded}
use Rattle.solver_watch.proofs.BaseLemmas.{names-next}
use Rattle.solver_watch.proofs.StartLemmas.{flat-started}
use Rattle.solver_watch.proofs.formula.Formula.start_flat.Goals as goal

pub loop-number-preserved : goal.loop-number-preserved
loop-number-preserved c =
    let none : Coded = record { codes = []; by = Own 0 } in
    rw c.in_ok-push.ensures.items (record {
      names = names-next c.args.base.now.clauses c.loop-number.self.names.items c.loop-number.number c.name.result none (omega (arith, c.loop-number-test.true, c.len-number-end.ensures)) c.loop-number.invariant.names (c.name.ensures none);
      log = c.loop-number.invariant.log;
      trail = c.loop-number.invariant.trail;
    })

pub returns : goal.returns
returns c =
    flat-started c.args.base.now c.loop-number.self c.requires.base c.requires.used
    (c.loop-number.invariant.names
    ∙ ap (map (λ (d : Coded). d.by)) (take_all c.loop-number.number c.args.base.now.clauses (omega (arith, c.loop-number-test.false, c.len-number-end.ensures))))
    c.loop-number.invariant.log c.loop-number.invariant.trail
