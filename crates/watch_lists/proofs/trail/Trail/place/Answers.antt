use Rattle.std.proofs.Common.{◌≡◌, ◌<◌, subst, sym, ◌∙◌, false, length}
use Rattle.lits.specs.Clause.{has}
use Rattle.lits.specs.Same.{same_lit}
use Rattle.flat_base.specs.Codes.{lit_at, IsCode}
use Rattle.watch_lists.specs.Trail.{TrailState, lits_of, put_at}
use Rattle.watch_lists.proofs.ReadLemmas.{mark-read, place-read}
use Rattle.watch_lists.proofs.trail.Trail.place.Goals as goal

pub returns-then-index-clause-some : goal.returns-then-index-clause-some
returns-then-index-clause-some c =
    subst (λ (t : TrailState). IsCode t.nodes c.args.code → (c.index-then-index.result.now < length t.puts) × ((put_at t.puts c.index-then-index.result.now).lit ≡ lit_at t.nodes c.args.code)) c.self.view_is
    (λ h. place-read c.self.invariant c.args.code c.index-then-index.result.now c.index.result.now h c.index.ensures c.if-index.true c.index-then-index.ensures) c.requires

pub returns-else-index-clause-none : goal.returns-else-index-clause-none
returns-else-index-clause-none c =
    subst (λ (t : TrailState). IsCode t.nodes c.args.code → has same_lit (lits_of t.puts) (lit_at t.nodes c.args.code) ≡ false) c.self.view_is
    (λ h. sym (mark-read c.self.invariant c.args.code c.index.result.now h c.index.ensures) ∙ c.if-index.false) c.requires
