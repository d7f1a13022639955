use Rattle.std.proofs.Common.{◌≡◌, ◌∙◌, ◌-◌, ◌<◌, ◌+◌, arith, ap, length, ℕ, refl}
use Rattle.std.proofs.lemmas.Result.{err_from_is_err_and}
use Rattle.std.proofs.lemmas.List.{length_push}
use Rattle.netlist.specs.Circuit.{var_of}
use Rattle.aiger_binary.proofs.StackLemmas.{AreStacked-push}
use Rattle.aiger_binary.proofs.LoopLemmas.{gates-step, gates-fault, gates-end}
use Rattle.aiger_binary.proofs.gates.gates.Goals as goal

pub loop-number-init : goal.loop-number-init
loop-number-init c =
    let whole : c.args.count - 0 ≡ c.args.count = omega arith in
    rw (c.requires.none, whole) (record { rest = refl; stacked = tt; count = refl })

pub loop-number-preserved : goal.loop-number-preserved
loop-number-preserved c =
    let l = c.loop-number in
    let g = c.in_ok-gate.gate in
    let made = c.in_ok-gate.ensures.stacked in
    let place : g.var ≡ c.args.inputs + 1 + length l.gates.items = omega (arith, made.0, l.invariant.count) in
    let left : var_of g.left < g.var = omega (arith, made.0, made.1.0) in
    let right : var_of g.right < g.var = omega (arith, made.0, made.1.1) in
    rw c.in_ok-push.ensures.items (record {
      rest = l.invariant.rest ∙ gates-step c.args.count l.number c.args.inputs l.gates.items l.scan g c.gate.new.scan c.loop-number-test.true l.invariant.count c.in_ok-gate.ensures.reads;
      stacked = AreStacked-push (c.args.inputs + 1) l.gates.items g l.invariant.stacked place left right;
      count = length_push l.gates.items g ∙ ap (λ (n : ℕ). n + 1) l.invariant.count;
    })

pub returns-in_err-gate-clause-reads : goal.returns-in_err-gate-clause-reads
returns-in_err-gate-clause-reads c =
    let p = err_from_is_err_and c.from_residual.result c.from_residual.ensures.1 in
    let l = c.loop-number in
    rw (p.1, p.2, l.invariant.rest) (gates-fault c.args.count l.number c.args.inputs l.gates.items l.scan c.in_err-gate.field-0.0 c.loop-number-test.true l.invariant.count c.in_err-gate.ensures.reads)

pub returns : goal.returns
returns c =
    let l = c.loop-number in
    record {
      reads = l.invariant.rest ∙ gates-end c.args.count l.number c.args.inputs l.gates.items l.scan c.loop-number-test.false;
      stacked = l.invariant.stacked;
      count = l.invariant.count ∙ omega (arith, l.auto.number-end, c.loop-number-test.false);
    }
