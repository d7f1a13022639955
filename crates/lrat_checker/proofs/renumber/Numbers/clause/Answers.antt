use Rattle.std.proofs.Common.{List, ◌∙◌, subst, arith}
use Rattle.std.proofs.lemmas.List.{take_all}
use Rattle.lrat_checker.specs.Renamed.{ByNumbers, number_in}
use Rattle.lrat_checker.proofs.Numberings.{by_numbers-more}
use Rattle.lrat_checker.proofs.renumber.Numbers.clause.Goals as goal

pub loop-literal-preserved : goal.loop-literal-preserved
loop-literal-preserved c =
    let l = c.loop-literal in
    let more = c.in_ok-literal.ensures.others in
    record {
      others = λ v n e. more v n (l.invariant.others v n e);
      copied = λ later count extends.
          c.in_ok-push.ensures.items
          ∙ by_numbers-more (λ f x. f x) (number_in l.self) (number_in c.literal.new.self) c.args.clause.now l.literal-index c.literal-item.result _ l.copy.items c.loop-literal-test.true c.literal-item.is more l.invariant.copied c.in_ok-literal.ensures.literal later count extends;
    }

pub returns-clause-clause : goal.returns-clause-clause
returns-clause-clause c later count extends =
    c.of.ensures
    ∙ subst (λ (xs : List _). ByNumbers (λ f x. f x) (number_in c.loop-literal.self) xs c.loop-literal.copy.items)
    (take_all c.loop-literal.literal-index c.args.clause.now (omega (arith, c.loop-literal-test.false))) c.loop-literal.invariant.copied later count extends
