use Rattle.std.proofs.Common.{◌≡◌, ◌<◌, subst, length}
use Rattle.flat_base.specs.Codes.{lit_at, IsCode}
use Rattle.watch_lists.specs.Trail.{TrailState, put_at}
use Rattle.watch_lists.proofs.ReadLemmas.{code-read}
use Rattle.watch_lists.proofs.trail.Trail.code_at.Goals as goal

pub returns-clause-code : goal.returns-clause-code
returns-clause-code c =
    subst (λ (t : TrailState). c.args.place < length t.puts → IsCode t.nodes c.index.result.now) c.self.view_is
    (λ h. (code-read c.self.invariant c.args.place c.index.result.now h c.index.ensures).0) c.requires

pub returns-clause-lit : goal.returns-clause-lit
returns-clause-lit c =
    subst (λ (t : TrailState). c.args.place < length t.puts → lit_at t.nodes c.index.result.now ≡ (put_at t.puts c.args.place).lit) c.self.view_is
    (λ h. (code-read c.self.invariant c.args.place c.index.result.now h c.index.ensures).1) c.requires
