use Rattle.std.proofs.Common.{◌≡◌, List, subst, sym}
use Rattle.lits.specs.declared.node.Node.{Node}
use Rattle.flat_base.specs.Codes.{lit_at, IsCode}
use Rattle.watch_lists.proofs.ReadLemmas.{made-last}
use Rattle.watch_lists.proofs.trail.Trail.number_next.Goals as goal

pub returns-clause-code : goal.returns-clause-code
returns-clause-code c =
    subst (λ (ns : List Node). IsCode ns c.code_of.result × (lit_at ns c.code_of.result ≡ c.args.lit)) (sym c.in_ok-number.ensures.ok.nodes)
    (made-last c.args.self.now.nodes c.in_ok-number.number c.args.lit c.code_of.result c.in_ok-number.ensures.number.0 c.code_of.ensures)
