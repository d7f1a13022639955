use Rattle.std.proofs.Common.{◌≡◌, subst}
use Rattle.lits.specs.Clause.{has}
use Rattle.lits.specs.Same.{same_lit}
use Rattle.flat_base.specs.Codes.{lit_at, IsCode}
use Rattle.watch_lists.specs.Trail.{TrailState, lits_of}
use Rattle.watch_lists.proofs.ReadLemmas.{mark-read}
use Rattle.watch_lists.proofs.trail.Trail.is_true.Goals as goal

pub returns : goal.returns
returns c =
    subst (λ (t : TrailState). IsCode t.nodes c.args.code → c.index.result.now ≡ has same_lit (lits_of t.puts) (lit_at t.nodes c.args.code)) c.self.view_is
    (λ h. mark-read c.self.invariant c.args.code c.index.result.now h c.index.ensures) c.requires
