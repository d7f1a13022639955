use Rattle.std.proofs.Common.{◌≡◌, subst}
use Rattle.flat_base.specs.Codes.{lit_at, IsCode}
use Rattle.watch_lists.specs.Trail.{TrailState}
use Rattle.watch_lists.proofs.ReadLemmas.{made}
use Rattle.watch_lists.proofs.trail.Trail.number.Goals as goal

pub returns-in-Some-clause-code : goal.returns-in-Some-clause-code
returns-in-Some-clause-code c =
    subst (λ (t : TrailState). IsCode t.nodes c.code_of.result × (lit_at t.nodes c.code_of.result ≡ c.args.lit)) c.self.view_is
    (made c.self.inside.numbers c.in-Some.number c.args.lit c.code_of.result c.in-Some.ensures.some.0 c.in-Some.ensures.some.1 c.code_of.ensures)
