-- A constraint that isn't true decides, and after one that is the next one is asked for.
use Rattle.std.proofs.Common.{◌∙◌, ap, length}
use Rattle.netlist.specs.Circuit.{Aig}
use Rattle.lemma_book.proofs.AdmittedInputs.{met-next, unmet-one}
use Rattle.lemma_book.proofs.apart.are_met.Goals as goal

pub returns-then-not-branch-clause-value : goal.returns-then-not-branch-clause-value
returns-then-not-branch-clause-value c =
    unmet-one c.args.net.now c.circuit.ensures.net c.args.input.now c.args.side c.loop-k.k (length c.constraints.result.now) c.loop-k-test.true
    (ap length (c.constraints.ensures.constraints ∙ ap (λ (a : Aig). a.constraints) c.circuit.ensures.circuit)) c.in_ok-is_met.field-0
    c.in_ok-is_met.ensures.value c.if-not-branch.true

pub loop-k-preserved : goal.loop-k-preserved
loop-k-preserved c = (
  c.in_ok-is_met.ensures.known,
  met-next c.args.net.now c.circuit.ensures.net c.args.input.now c.args.side c.loop-k.k (length c.constraints.result.now) c.loop-k-test.true
      (ap length (c.constraints.ensures.constraints ∙ ap (λ (a : Aig). a.constraints) c.circuit.ensures.circuit)) c.in_ok-is_met.field-0
      c.in_ok-is_met.ensures.value c.if-not-branch.false c.loop-k.invariant.1,
)
