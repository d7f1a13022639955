use Rattle.workload_gen.proofs.SpellLemmas.{binary-spells}
use Rattle.workload_gen.proofs.design.Design.binary.Goals as goal

pub returns-clause-spells : goal.returns-clause-spells
returns-clause-spells c =
    let made = c.in_ok-circuit.ensures in
    binary-spells c.in_ok-circuit.circuit _ _ _ made.same made.circuit made.sequence c.new-text.ensures.items c.in_ok-push_binary.ensures.ok
