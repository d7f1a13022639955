use Rattle.std.proofs.Common.{◌≡◌, ◌-◌, ◌≤◌, arith, false}
use Rattle.std.specs.Prelude.{nat_lt}
use Rattle.std.proofs.lemmas.Bool.Decides.{nat_tests}
use Rattle.std.proofs.lemmas.Result.{err_from_is_err_and}
use Rattle.aiger_binary.proofs.LoopLemmas.{power-small, power-first, groups-end, groups-fault}
use Rattle.aiger_binary.proofs.gates.+groups.Goals as goal

pub overflow_mul-result : goal.overflow_mul-result
overflow_mul-result t c =
    let few : c.args.left - 1 ≤ 4 = omega arith in
    omega (arith, power-small (c.args.left - 1) few, c.in_ok-more-in-Some-2.ensures.small)

pub overflow_add-result : goal.overflow_add-result
overflow_add-result t c =
    let few : c.args.left - 1 ≤ 4 = omega arith in
    omega (arith, power-small (c.args.left - 1) few, c.in_ok-more-in-Some-2.ensures.small, c.from-in-Some-2.ensures, c.in-Some-2.ensures.range)

pub returns-in-None-clause-reads : goal.returns-in-None-clause-reads
returns-in-None-clause-reads t c =
    groups-end c.args.left c.args.number c.args.scan.now c.byte.new.self c.at.result c.if-left-eq0.false c.in-None.ensures.byte c.in-None.ensures.moved c.at.ensures.at

pub returns-in-Some-clause-small : goal.returns-in-Some-clause-small
returns-in-Some-clause-small t c = omega (arith, power-first c.args.left c.if-left-eq0.false, c.from-in-Some.ensures)

pub returns-in_err-more-in-Some-2-clause-reads : goal.returns-in_err-more-in-Some-2-clause-reads
returns-in_err-more-in-Some-2-clause-reads t c =
    let p = err_from_is_err_and c.from_residual.result c.from_residual.ensures.1 in
    let big : nat_lt c.in-Some-2.byte 128 ≡ false = grind (arith, nat_tests, c.if-byte-lt128.false) in
    rw (p.1, p.2) (groups-fault c.args.left c.args.number c.in-Some-2.byte c.args.scan.now c.byte.new.self c.in_err-more-in-Some-2.field-0.0 c.if-left-eq0.false c.in-Some-2.ensures.byte big c.in-Some-2.ensures.moved c.in_err-more-in-Some-2.ensures.reads)
