-- What the writer keeps of each step while it goes through a book: a number by the step's id in the whole proof.
use Rattle.std.specs.Prelude.{◌≡◌, ℕ, ◌+◌, ◌-◌, ◌<◌, ◌≤◌, Bool, ◌&&◌, ◌==◌, nat_le, List, [], ◌∷◌, ◌++◌, length, if◌then◌else◌}
use Rattle.std.specs.List.{slice_index_or, AllByRecursion}
use Rattle.lrat_text.specs.declared.step.LratStep.{LratStep}
use Rattle.lrat_text.specs.declared.step.LratStep.TheVariants.{Add, Del}
use Rattle.proof_stitch.specs.Trimmed.{cites, has_id, id_in}
use Rattle.proof_stitch.specs.declared.by_step.ByStep.{ByStep}

-- the number of the step with that id; other ids have 0
abbrev pub number_at : ByStep → ℕ → ℕ
number_at t id = if nat_le id t.clauses then 0 else slice_index_or t.numbers.items (id - t.clauses - 1) 0

-- the id is that of a step
abbrev pub IsStepId : ByStep → ℕ → Type 0
IsStepId t id = (t.clauses < id) × (id ≤ t.clauses + length t.numbers.items)

-- the steps are those that they were
pub record KeepsShape (old new : ByStep) : Type 0 where
  pub clauses : new.clauses ≡ old.clauses
  pub steps : length new.numbers.items ≡ length old.numbers.items

-- one step's number is changed
abbrev pub IsPut : ℕ → ℕ → ByStep → ByStep → Type 0
IsPut id number old new =
    (n : ℕ) → IsStepId old n → number_at new n ≡ (if n == id then number else number_at old n)

-- ---- the last step that cites a step

-- the mark of a step that isn't reached, and that of one that is asked for
abbrev pub unused : ℕ
unused = 0

abbrev pub always : ℕ
always = 18446744073709551615

-- the mark after a further use, of lines that are gone through from the back
abbrev pub marked : ℕ → Bool → ℕ → ℕ
marked mark is_used by = if mark == unused && is_used then by else mark

-- the steps of some ids are used by that one
abbrev pub AreMarked : List ℕ → ℕ → ByStep → ByStep → Type 0
AreMarked ids by old new =
    (n : ℕ) → IsStepId old n → number_at new n ≡ marked (number_at old n) (has_id ids n) by

-- the id of the last of some lines that cites that one, if one does
abbrev pub last_use : List LratStep → ℕ → ℕ
last_use [] n = unused
last_use (line ∷ lines) n = marked (last_use lines n) (cites line n) (id_in line)

-- the steps have the marks by these lines, which have ids from 1 on
pub record HasMarks (asked : ℕ → Bool) (lines : List LratStep) (t : ByStep) : Type 0 where
  pub marks : (n : ℕ) → IsStepId t n → number_at t n ≡ (if asked n then always else last_use lines n)
  pub ids : AllByRecursion (λ l. 1 ≤ id_in l) lines

-- ---- new ids

-- the new id of an id: that of a clause of the formula, or what the step has
abbrev pub named_in : ByStep → ℕ → ℕ
named_in t id = if nat_le id t.clauses then id else number_at t id

-- ---- what lines name

-- the ids of some lines and of what they cite
abbrev pub named_ids : List LratStep → List ℕ
named_ids [] = []
named_ids (Add id clause hints ∷ lines) = id ∷ (hints ++ named_ids lines)
named_ids (Del ids ∷ lines) = named_ids lines
