use Rattle.std.proofs.Common.{refl, Ok, Err, arith}
use Rattle.std.specs.Prelude.{Result, OnOk, OnErr}
use Rattle.watch_lists.proofs.AddLemmas.{engine-added}
use Rattle.watch_lists.proofs.TurnLemmas.{engine-same}
use Rattle.watch_lists.proofs.engine.Engine.add.Goals as goal

-- by what the push answered
cases : {T E P Q : Type 0} (A : Type 0) (r : Result T E) → OnOk r P → OnErr r Q → (P → A) → (Q → A) → A
cases A (Ok x) p q f g = f p
cases A (Err e) p q f g = g q

pub returns-clause-engine : goal.returns-clause-engine
returns-clause-engine c = cases _ c.push.result c.push.ensures.ok c.push.ensures.err
    (λ p. engine-added c.args.self.now _ c.args.clause.now c.requires.engine (record { clauses = p; pairs = refl; lists = refl; levels = refl; head = refl; trail = refl; reasons = refl; truth = refl; places = refl }) c.requires.within (omega arith) c.requires.settled)
    (λ q. engine-same c.args.self.now _ c.requires.engine (record { clauses = q; pairs = refl; lists = refl; levels = refl; head = refl; trail = refl; reasons = refl; truth = refl; places = refl }))
