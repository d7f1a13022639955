use Rattle.std.proofs.Common.{List, map, ap, ◌∙◌, subst, arith}
use Rattle.std.proofs.lemmas.List.{take_all}
use Rattle.lrat_checker.specs.Renamed.{ByNumbers, renumbered, number_in}
use Rattle.lrat_checker.proofs.Numberings.{by_numbers-more}
use Rattle.lrat_checker.proofs.renumber.Numbers.clauses.Goals as goal

pub loop-clause-preserved : goal.loop-clause-preserved
loop-clause-preserved c =
    let l = c.loop-clause in
    let more = c.in_ok-clause.ensures.others in
    record {
      others = λ v n e. more v n (l.invariant.others v n e);
      copied = λ later count extends.
          c.in_ok-push.ensures.items
          ∙ by_numbers-more map (number_in l.self) (number_in c.clause.new.self) c.args.clauses.now l.clause-index c.clause-item.result _ l.copy.items c.loop-clause-test.true c.clause-item.is more l.invariant.copied (λ later count extends. c.in_ok-clause.ensures.clause later count extends ∙ ap (map (renumbered later count)) c.as_slice.ensures) later count extends;
    }

pub returns-clause-clauses : goal.returns-clause-clauses
returns-clause-clauses c =
    subst (λ (xs : List _). ByNumbers map (number_in c.loop-clause.self) xs c.loop-clause.copy.items)
    (take_all c.loop-clause.clause-index c.args.clauses.now (omega (arith, c.loop-clause-test.false))) c.loop-clause.invariant.copied
