use Rattle.std.proofs.Common.{refl, ap, ◌∙◌, ◌≡◌, ◌⊎◌, subst, true, nat_eq, List, ℕ, ◌++◌, ◌∷◌, [], length, arith}
use Rattle.std.proofs.lemmas.List.{length_push}
use Rattle.lits.specs.Clause.{has}
use Rattle.watch_lists.specs.declared.engine.Pair.{Pair}
use Rattle.watch_lists.proofs.TurnLemmas.{engine-watched, engine-same, holds-like, holds-same}
use Rattle.watch_lists.proofs.engine.Engine.watch.Goals as goal

-- what is said of the clause that was read
only-in : {read clause : List ℕ} {a b : ℕ} → read ≡ clause
    → (has nat_eq read a ≡ true → has nat_eq read b ≡ true → (l : ℕ) → has nat_eq read l ≡ true → (l ≡ a) ⊎ (l ≡ b))
    → has nat_eq clause a ≡ true → has nat_eq clause b ≡ true → (l : ℕ) → has nat_eq clause l ≡ true → (l ≡ a) ⊎ (l ≡ b)
only-in {read} {clause} {a} {b} e = subst (λ (z : List ℕ). (has nat_eq read a ≡ true → has nat_eq read b ≡ true → (l : ℕ) → has nat_eq read l ≡ true → (l ≡ a) ⊎ (l ≡ b))
    → has nat_eq z a ≡ true → has nat_eq z b ≡ true → (l : ℕ) → has nat_eq z l ≡ true → (l ≡ a) ⊎ (l ≡ b)) e (λ f. f)

pub returns-clause-engine : goal.returns-clause-engine
returns-clause-engine c =
    engine-watched c.args.self.now _ c.args.at c.args.pair c.is_all-is_two.result c.requires.engine c.requires.at.0 c.requires.at.1 c.requires.guards c.requires.bounds
    (λ two. only-in c.get.ensures (c.is_all-is_two.ensures two) c.requires.guards.first_in c.requires.guards.second_in)
    (c.push_reserved.ensures.items ∙ ap (λ (z : List Pair). z ++ c.args.pair ∷ []) c.reserve.ensures.items) c.in_ok-push_two.ensures.ok
    (record { clauses = refl; levels = refl; head = refl; trail = refl; reasons = refl; truth = refl; places = refl })

pub returns-clause-keeps : goal.returns-clause-keeps
returns-clause-keeps c =
    holds-like c.args.self.now _ (record { clauses = refl; levels = refl; head = refl; trail = refl; reasons = refl; truth = refl; places = refl })
    (omega (arith, ap length c.push_reserved.ensures.items, ap length c.reserve.ensures.items, length_push c.reserve.new.self.items c.args.pair))

pub returns-in_err-reserve-clause-engine : goal.returns-in_err-reserve-clause-engine
returns-in_err-reserve-clause-engine c =
    engine-same c.args.self.now _ c.requires.engine (record { clauses = refl; pairs = c.reserve.ensures.items; lists = refl; levels = refl; head = refl; trail = refl; reasons = refl; truth = refl; places = refl })

pub returns-in_err-reserve-clause-keeps : goal.returns-in_err-reserve-clause-keeps
returns-in_err-reserve-clause-keeps c =
    holds-same c.args.self.now _ (record { clauses = refl; pairs = c.reserve.ensures.items; lists = refl; levels = refl; head = refl; trail = refl; reasons = refl; truth = refl; places = refl })

pub returns-in_err-push_two-clause-engine : goal.returns-in_err-push_two-clause-engine
returns-in_err-push_two-clause-engine c =
    engine-same c.args.self.now _ c.requires.engine (record { clauses = refl; pairs = c.reserve.ensures.items; lists = c.in_err-push_two.ensures.err; levels = refl; head = refl; trail = refl; reasons = refl; truth = refl; places = refl })

pub returns-in_err-push_two-clause-keeps : goal.returns-in_err-push_two-clause-keeps
returns-in_err-push_two-clause-keeps c =
    holds-same c.args.self.now _ (record { clauses = refl; pairs = c.reserve.ensures.items; lists = c.in_err-push_two.ensures.err; levels = refl; head = refl; trail = refl; reasons = refl; truth = refl; places = refl })
