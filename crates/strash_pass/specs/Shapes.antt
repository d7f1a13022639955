-- What scanning finds depends on the words of the clauses and on the marks alone, so it can be kept by these.
use Rattle.std.specs.Prelude.{◌≡◌, ℕ, ◌≤◌, ◌<◌, Some, List, map, length, get_or, slice_get}
use Rattle.std.specs.List.{AllByRecursion}
use Rattle.lits.specs.declared.literal.Lit.{Lit}
use Rattle.lits.specs.declared.node.Node.{Node}
use Rattle.lits.specs.declared.node.Node.TheVariants.{Const}
use Rattle.lits.specs.declared.step.Named.{Named}
use Rattle.lits.specs.declared.step.Ref.{Ref}
use Rattle.lits.specs.declared.step.Ref.TheVariants.{Axiom}
use Rattle.unit_prop.specs.HintScan.{ScansTo}
use Rattle.strash_pass.specs.declared.coded.Coded.{Coded}
use Rattle.strash_pass.specs.declared.marks.Marks.{Marks}
use Rattle.strash_pass.specs.Coded.{bit_of, AreCoded, AreMarks}

abbrev pub words_in : List Coded → List ℕ
words_in coded = map (λ c. c.word) coded

-- the name of the clause at a place
abbrev pub name_at : List Coded → ℕ → Ref
name_at coded p = (get_or coded p (record { word = 0; by = Axiom Const 0 })).by

-- for any clauses of these words, scanning from the marks on gives as hints those at the places
pub record AreStraight (words : List ℕ) (marks : Marks) (places : List ℕ) : Type 0 where
  pub inside : AllByRecursion (λ p. p < length words) places
  pub leads : (coded : List Coded) (nodes : List Node) (base : List Named) (set : List Lit) → words_in coded ≡ words
      → length nodes ≤ 32 → AreCoded (bit_of nodes) base coded → AreMarks (bit_of nodes) set marks
      → ScansTo base set (map (name_at coded) places)

-- clauses by their words, the marks where each clause of a merge is false, and the places of the hints of both
pub record Found : Type 0 where
  pub words : List ℕ
  pub below : Marks
  pub above : Marks
  pub first : List ℕ
  pub second : List ℕ

-- the places are those of the hints
pub record IsFound (words : List ℕ) (below above : Marks) (first second : List ℕ) : Type 0 where
  pub first_straight : AreStraight words below first
  pub second_straight : AreStraight words above second

-- and these are the clauses and the marks
pub record IsFor (coded : List Coded) (below above : Marks) (found : Found) : Type 0 where
  pub words : words_in coded ≡ found.words
  pub below_is : found.below ≡ below
  pub above_is : found.above ≡ above

-- the shape at a place of a list is that of these clauses and marks
pub record IsAt (shapes : List Found) (coded : List Coded) (below above : Marks) (place : ℕ) : Type 0 where
  pub found : Found
  pub at : slice_get shapes place ≡ Some found
  pub is : IsFor coded below above found
