use Rattle.std.proofs.Common.{subst, sym, arith, false, not}
use Rattle.std.specs.Prelude.{IsTrue, ◌↔◌}
use Rattle.lits.specs.Same.{same_lit, opposite}
use Rattle.unit_prop.specs.Propagation.{IsFree}
use Rattle.flat_base.specs.Codes.{lit_at, IsCode}
use Rattle.watch_lists.specs.Codes.{flip}
use Rattle.watch_lists.specs.Trail.{TrailState, lits_of}
use Rattle.watch_lists.proofs.Facts.{flip-code}
use Rattle.watch_lists.proofs.ReadLemmas.{free-read, taken-read, code-truth}
use Rattle.watch_lists.proofs.trail.Trail.is_free.Goals as goal

pub returns-then-not-index : goal.returns-then-not-index
returns-then-not-index c =
    subst (λ (t : TrailState). IsCode t.nodes c.args.code → IsTrue (not c.index-then-not-index.result.now) ↔ IsFree same_lit opposite (lits_of t.puts) (lit_at t.nodes c.args.code)) c.self.view_is
    (λ h. free-read c.self.invariant c.args.code c.flip.result c.index.result.now c.index-then-not-index.result.now h c.index.ensures c.if-not-index.true c.flip.ensures c.index-then-not-index.ensures) c.requires

pub returns-else-not-index : goal.returns-else-not-index
returns-else-not-index c =
    rw c.if-not-index.false
    (subst (λ (t : TrailState). IsCode t.nodes c.args.code → IsTrue false ↔ IsFree same_lit opposite (lits_of t.puts) (lit_at t.nodes c.args.code)) c.self.view_is
    (λ h. taken-read c.self.invariant c.args.code c.index.result.now h c.index.ensures c.if-not-index.false) c.requires)

pub index-requires-then-not-index : goal.index-requires-then-not-index
index-requires-then-not-index c =
    let h : IsCode c.self.inside.numbers c.args.code = subst (λ (t : TrailState). IsCode t.nodes c.args.code) (sym c.self.view_is) c.requires in
    let below = code-truth c.self.invariant (flip c.args.code) (flip-code c.self.inside.numbers c.args.code h) in
    omega (arith, below, c.flip.ensures, c.self.inside.engine.truth.ok.0)
