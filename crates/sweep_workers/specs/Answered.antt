-- What a round of questions leaves in the book.
use Rattle.std.specs.Prelude.{◌≡◌, ◌⊎◌, ℕ, ◌+◌, ◌≤◌, nat_le, Bool, true, ⊤, cond, Some, List, [], ◌∷◌, ◌++◌, length, map, slice_get}
use Rattle.std.specs.List.{AllByRecursion, list_all}
use Rattle.netlist.specs.Net.{AigPair}
use Rattle.lemma_book.specs.declared.entry.Entry.{Entry}
use Rattle.lemma_book.specs.declared.entry.Subject.TheVariants.{Merged, Output}
use Rattle.lemma_book.specs.Entry.{Entries, Question, OfPair, OfOutput, Answer, Equal, Differ, Open, question_of, answer_of, subject_of}
use Rattle.lemma_book.specs.Book.{IsLegal}
use Rattle.equal_outputs.specs.EqualRoots.{HaveOtherRoots}

-- how many elements pass the test
abbrev pub many : {T : Type 0} → (T → Bool) → List T → ℕ
many test [] = 0
many test (x ∷ xs) = cond (test x) 1 0 + many test xs

-- the entry settles the question: it is about it, or merges its node
abbrev pub IsAnswerTo : Question → Entry → Type 0
IsAnswerTo (OfPair node lit) e = (question_of e ≡ OfPair node lit) ⊎ (subject_of e ≡ Some (Merged node))
IsAnswerTo (OfOutput j) e = subject_of e ≡ Some (Output j)

-- some entry does
pub record HasAnswer (entries : List Entry) (q : Question) : Type 0 where
  pub place : ℕ
  pub entry : Entry
  pub at : slice_get entries place ≡ Some entry
  pub answers : IsAnswerTo q entry

-- a query that spent its budget saw at least so many entries
abbrev pub sees : ℕ → Answer → Bool
sees n (Equal steps) = true
sees n (Differ input) = true
sees n (Open seen log) = nat_le n seen

abbrev pub sees_first : ℕ → Entry → Bool
sees_first n e = sees n (answer_of e)

-- the two literals of an output that is left open have two roots over the entries
abbrev pub HasTwoRoots : AigPair → List Entry → Question → Answer → Type 0
HasTwoRoots net entries (OfOutput j) (Open seen log) = HaveOtherRoots net entries j
HasTwoRoots net entries q a = ⊤

abbrev pub OpensTwoRoots : AigPair → List Entry → Entry → Type 0
OpensTwoRoots net entries e = HasTwoRoots net entries (question_of e) (answer_of e)

-- The questions are answered: the book is legal, has its budgets and begins as before; no question has more entries behind
-- that than it was asked; each is settled; a query that spent its budget saw at least the old book, and an output's has two
-- roots over that.
pub record AreAnswered (net : AigPair) (asked : List Question) (old new : Entries) : Type 0 where
  pub sweep_budget : new.sweep_budget ≡ old.sweep_budget
  pub out_budget : new.out_budget ≡ old.out_budget
  pub added : List Entry
  pub begins : new.entries ≡ old.entries ++ added
  pub legal : IsLegal net new
  pub few : (test : Question → Bool) → many test (map question_of added) ≤ many test asked
  pub settled : AllByRecursion (HasAnswer new.entries) asked
  pub seen : list_all (sees_first (length old.entries)) added ≡ true
  pub roots : AllByRecursion (OpensTwoRoots net old.entries) added
