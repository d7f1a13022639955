use Rattle.std.proofs.Common.{◌≡◌, ◌∙◌, ◌-◌, ◌<◌, ◌+◌, arith, ap, ℕ, refl}
use Rattle.std.proofs.lemmas.Result.{err_from_is_err_and}
use Rattle.std.proofs.lemmas.List.{length_push}
use Rattle.netlist.specs.Circuit.{var_of}
use Rattle.aiger_binary.proofs.StackLemmas.{AreBelow-push}
use Rattle.aiger_binary.proofs.LoopLemmas.{literals-step, literals-fault, literals-end}
use Rattle.aiger_binary.proofs.reader.read_literals.Goals as goal

pub loop-init : goal.loop-init
loop-init c =
    let whole : c.args.count - 0 ≡ c.args.count = omega arith in
    rw (c.requires.none, whole) (record { rest = refl; below = tt; count = refl })

pub loop-preserved : goal.loop-preserved
loop-preserved c =
    let l = c.loop in
    let lit = c.in_ok-literal_line.field-0 in
    let small : var_of lit < c.args.most + 1 = omega (arith, c.in_ok-literal_line.ensures.within) in
    rw c.in_ok-push.ensures.items (record {
      rest = l.invariant.rest ∙ literals-step c.args.count l.counter c.args.most l.literals.items l.scan lit c.literal_line.new.scan c.loop-test.true c.in_ok-literal_line.ensures.reads;
      below = AreBelow-push (c.args.most + 1) l.literals.items lit l.invariant.below small;
      count = length_push l.literals.items lit ∙ ap (λ (n : ℕ). n + 1) l.invariant.count;
    })

pub returns-in_err-literal_line-clause-reads : goal.returns-in_err-literal_line-clause-reads
returns-in_err-literal_line-clause-reads c =
    let p = err_from_is_err_and c.from_residual.result c.from_residual.ensures.1 in
    let l = c.loop in
    rw (p.1, p.2, l.invariant.rest) (literals-fault c.args.count l.counter c.args.most l.literals.items l.scan c.in_err-literal_line.field-0.0 c.loop-test.true c.in_err-literal_line.ensures.reads)

pub returns : goal.returns
returns c =
    let l = c.loop in
    record {
      reads = l.invariant.rest ∙ literals-end c.args.count l.counter c.args.most l.literals.items l.scan c.loop-test.false;
      below = l.invariant.below;
      count = l.invariant.count ∙ omega (arith, l.auto.counter-end, c.loop-test.false);
    }
