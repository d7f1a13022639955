use Rattle.std.proofs.Common.{[], map, ap, ◌∙◌, arith}
use Rattle.flat_base.specs.Codes.{lit_at}
use Rattle.flat_base.specs.Flat.{Coded}
use Rattle.lits.specs.declared.step.Ref.TheVariants.{Own}
use Rattle.watch_lists.specs.Trail.{TrailState, with_clause}
use Rattle.watch_lists.proofs.StartLemmas.{taken-next}
use Rattle.watch_lists.proofs.trail.Trail.start.Goals as goal

pub loop-number-preserved : goal.loop-number-preserved
loop-number-preserved c =
    let none : Coded = record { codes = []; by = Own 0 } in
    taken-next c.add_codes.new.self c.args.base.now c.loop-number.number c.codes.result.now none (omega (arith, c.loop-number-test.true, c.len-number-end.ensures)) (c.codes.ensures.codes none)
    (c.in_ok-add_codes.ensures.ok ∙ ap (λ (t : TrailState). with_clause t (map (lit_at t.nodes) c.codes.result.now)) c.loop-number.invariant)
