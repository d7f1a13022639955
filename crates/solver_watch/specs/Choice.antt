-- What comes next of a target's negations, and which variables are free.
use Rattle.std.specs.Prelude.{◌≡◌, ℕ, ◌<◌, ◌+◌, ◌*◌, true, List, Some, length}
use Rattle.lits.specs.Clause.{has}
use Rattle.lits.specs.Same.{same_lit, same_node, opposite}
use Rattle.lits.specs.declared.literal.Lit.{Lit}
use Rattle.unit_prop.specs.Propagation.{IsFree}
use Rattle.flat_base.specs.Codes.{lit_at, IsCode}
use Rattle.watch_lists.specs.Trail.{TrailState, lits_of, put_at}
use Rattle.solver_watch.specs.declared.choice.Assumption.{Assumption}
use Rattle.solver_watch.specs.declared.choice.Assumption.TheVariants.{Open, Refuted, All}

-- the code is that of a literal that is free
pub record IsOpenCode (t : TrailState) (code : ℕ) : Type 0 where
  pub is : IsCode t.nodes code
  pub free : IsFree same_lit opposite (lits_of t.puts) (lit_at t.nodes code)

-- the variable has a value
abbrev pub IsTaken : TrailState → ℕ → Type 0
IsTaken t variable = ¬ IsFree same_lit opposite (lits_of t.puts) (lit_at t.nodes (2 * variable + 1))

-- each variable has one
abbrev pub AreTaken : TrailState → Type 0
AreTaken t = (variable : ℕ) → variable < length t.nodes → IsTaken t variable

-- the target's variables have numbers
abbrev pub AreNumbered : TrailState → List Lit → Type 0
AreNumbered t target = (l : Lit) → has same_lit target l ≡ true → has same_node t.nodes l.node ≡ true

-- the code is of a negation that is free; a literal is true by the clause; or all negations are true
abbrev pub IsAssumption : TrailState → List Lit → Assumption → Type 0
IsAssumption t target (Open code) =
    IsOpenCode t code × (has same_lit target (opposite (lit_at t.nodes code)) ≡ true)
IsAssumption t target (Refuted by) =
    (k : ℕ) × (k < length t.puts) × ((put_at t.puts k).by ≡ Some by) × (has same_lit target (put_at t.puts k).lit ≡ true)
IsAssumption t target All =
    (l : Lit) → has same_lit target l ≡ true → has same_lit (lits_of t.puts) (opposite l) ≡ true
