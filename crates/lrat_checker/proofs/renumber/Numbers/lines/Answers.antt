use Rattle.std.proofs.Common.{List, ◌∙◌, subst, arith}
use Rattle.std.proofs.lemmas.List.{take_all}
use Rattle.lrat_checker.specs.Renamed.{ByNumbers, renamed_line, number_in}
use Rattle.lrat_checker.proofs.Numberings.{by_numbers-more}
use Rattle.lrat_checker.proofs.renumber.Numbers.lines.Goals as goal

pub loop-line-preserved : goal.loop-line-preserved
loop-line-preserved c =
    let l = c.loop-line in
    let more = c.in_ok-line.ensures.others in
    record {
      others = λ v n e. more v n (l.invariant.others v n e);
      copied = λ later count extends.
          c.in_ok-push.ensures.items
          ∙ by_numbers-more renamed_line (number_in l.self) (number_in c.line.new.self) c.args.lines.now l.line-index c.line-item.result _ l.copy.items c.loop-line-test.true c.line-item.is more l.invariant.copied c.in_ok-line.ensures.line later count extends;
    }

pub returns-clause-lines : goal.returns-clause-lines
returns-clause-lines c =
    subst (λ (xs : List _). ByNumbers renamed_line (number_in c.loop-line.self) xs c.loop-line.copy.items)
    (take_all c.loop-line.line-index c.args.lines.now (omega (arith, c.loop-line-test.false))) c.loop-line.invariant.copied
