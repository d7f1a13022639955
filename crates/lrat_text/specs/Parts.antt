-- The parts of a line as far as they are read.
use Rattle.std.specs.Prelude.{◌≡◌, ℕ, Bool, true, false, not, List, [], ◌∷◌, map, Result, nat_lt}
use Rattle.std.specs.List.{list_any}
use Rattle.lits.specs.Dimacs.{DimacsLiteral}
use Rattle.lrat_text.specs.declared.error.LratErr.{LratErr}
use Rattle.lrat_text.specs.declared.error.LratErr.TheVariants.{BadNumber, NoMemory}
use Rattle.lrat_text.specs.declared.parts.Parts.{Parts}
use Rattle.lrat_text.specs.declared.parts.Place.{Place}
use Rattle.lrat_text.specs.declared.parts.Place.TheVariants.{Literals, Hints, End}
use Rattle.lrat_text.specs.declared.step.LratStep.{LratStep}
use Rattle.lrat_text.specs.declared.step.LratStep.TheVariants.{Add, Del}
use Rattle.lrat_text.specs.Numbers.{is_zero, literal_of, up_to_zero, past_zero, in_place}
use Rattle.lrat_text.specs.Reading.{judged}
use Rattle.tokens.specs.declared.number.Number.{Number}
use Rattle.tokens.specs.Numbers.{plain}

-- A line is read from a place on as though zeros had led there.
abbrev pub zeros_before : Place → List Number
zeros_before Literals = []
zeros_before Hints = plain 0 ∷ []
zeros_before End = plain 0 ∷ plain 0 ∷ []

-- whether a 0 stands behind the literals, and behind the hints
abbrev pub is_past_literals : Place → Bool
is_past_literals Literals = false
is_past_literals Hints = true
is_past_literals End = true

abbrev pub is_past_hints : Place → Bool
is_past_hints Literals = false
is_past_hints Hints = false
is_past_hints End = true

-- the numbers so far have these literals and hints, and the next one belongs there
pub record AreRead (ns : List Number) (literals : List DimacsLiteral) (hints : List ℕ)
    (minus : Bool) (place : Place) : Type 0 where
  pub literals_are : literals ≡ map literal_of (up_to_zero ns)
  pub hints_are : hints ≡ map (λ n. n.size) (up_to_zero (past_zero ns))
  pub minus_is : minus ≡ list_any (λ n. n.minus) (up_to_zero (past_zero ns))
  pub first_zero : list_any is_zero ns ≡ is_past_literals place
  pub second_zero : list_any is_zero (past_zero ns) ≡ is_past_hints place
  pub placed : in_place ns ≡ true

abbrev pub IsParts : List Number → Parts → Type 0
IsParts ns parts = AreRead ns parts.literals.items parts.hints.items parts.has_minus parts.place

-- the error is want of memory, or that of a number, with P
abbrev pub IsBadNumber : ℕ → LratErr → Type 0 → Type 0
IsBadNumber at NoMemory P = Unit {0}
IsBadNumber at error P = (error ≡ BadNumber at) × P

-- the addition of line `at` with these parts, in which every number fits
abbrev pub addition_of : ℕ → ℕ → ℕ → Parts → Result LratStep LratErr
addition_of at last id parts =
    judged at true (is_past_hints parts.place) (nat_lt last id) (not parts.has_minus)
    (Add id parts.literals.items parts.hints.items)

-- and the deletion, in which a hint may have a sign so far
abbrev pub deletion_of : ℕ → Parts → Result LratStep LratErr
deletion_of at parts =
    judged at (not parts.has_minus) (is_past_hints parts.place) true true (Del parts.hints.items)
