-- Formulas and lines whose literals have other names, one to one: what is judged of them is the same.
use Rattle.std.specs.Prelude.{◌≡◌, ℕ, ◌+◌, ◌≤◌, ◌<◌, ◌^◌, List, map, Option, Some, unwrap_or}
use Rattle.std.specs.BTreeMap.{is_at}
use Rattle.std.specs.Map.{lookup}
use Rattle.std.specs.Ordering.{nat_cmp}
use Rattle.lits.specs.Dimacs.{DimacsLiteral}
use Rattle.lits.specs.Same.{same_dim, opposite_dim}
use Rattle.lrat_text.specs.declared.step.Line.{Line}
use Rattle.lrat_text.specs.declared.step.LratStep.{LratStep}
use Rattle.lrat_text.specs.declared.step.LratStep.TheVariants.{Add, Del}

-- a step and a line with each literal renamed
abbrev pub renamed_step : (DimacsLiteral → DimacsLiteral) → LratStep → LratStep
renamed_step f (Add id clause hints) = Add id (map f clause) hints
renamed_step f (Del ids) = Del ids

abbrev pub renamed_line : (DimacsLiteral → DimacsLiteral) → Line → Line
renamed_line f line = record { at = line.at; step = renamed_step f line.step }

-- the literals have other names: different ones stay different, and a negation stays one
pub record IsRenaming (f : DimacsLiteral → DimacsLiteral) : Type 0 where
  pub same : (x y : DimacsLiteral) → same_dim (f x) (f y) ≡ same_dim x y
  pub flips : (x : DimacsLiteral) → f (opposite_dim x) ≡ opposite_dim (f x)

-- formula and lines in other names
pub record AreRenamed (formula : List (List DimacsLiteral)) (lines : List Line)
    (formula' : List (List DimacsLiteral)) (lines' : List Line) : Type 0 where
  pub rename : DimacsLiteral → DimacsLiteral
  pub renames : IsRenaming rename
  pub formula_is : formula' ≡ map (map rename) formula
  pub lines_are : lines' ≡ map (renamed_line rename) lines

-- the number of a variable in an ordered map of variables and numbers
abbrev pub number_in : List (ℕ × ℕ) → ℕ → Option ℕ
number_in entries variable = lookup (is_at (nat_cmp variable)) entries

-- The number of a variable: its own, which is at most `count`, or one behind those where it has none.
abbrev pub number_of : (ℕ → Option ℕ) → ℕ → ℕ → ℕ
number_of numbers count variable = unwrap_or (numbers variable) (count + variable + 1)

abbrev pub renumbered : (ℕ → Option ℕ) → ℕ → DimacsLiteral → DimacsLiteral
renumbered numbers count d = record { var = number_of numbers count d.var; neg = d.neg }

-- numbers from 1 to `count`, of which no two variables have one
pub record IsNumbering (numbers : ℕ → Option ℕ) (count : ℕ) : Type 0 where
  pub within : (variable n : ℕ) → numbers variable ≡ Some n → (1 ≤ n) × (n ≤ count) × (n < 2 ^ 31)
  pub apart : (v w n : ℕ) → numbers v ≡ Some n → numbers w ≡ Some n → v ≡ w

-- each number stays
abbrev pub Extends : (ℕ → Option ℕ) → (ℕ → Option ℕ) → Type 0
Extends old new = (variable n : ℕ) → old variable ≡ Some n → new variable ≡ Some n

-- The literals of the clause, or of the clauses or lines, by numbers, which are theirs for ever.
abbrev pub ByNumbers : {A : Type 0} → ((DimacsLiteral → DimacsLiteral) → A → A) → (ℕ → Option ℕ) → List A → List A → Type 0
ByNumbers {A} rename numbers xs ys =
    (later : ℕ → Option ℕ) (count : ℕ) → Extends numbers later → ys ≡ map (rename (renumbered later count)) xs
