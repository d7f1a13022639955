-- What becomes of one entry while a book is loaded.
use Rattle.std.specs.Prelude.{◌≡◌, ℕ, Bool, true, false, Option, None, Some, List, [], ◌∷◌, ◌++◌, length}
use Rattle.netlist.specs.Net.{AigPair}
use Rattle.lemma_book.specs.declared.entry.Entry.{Entry}
use Rattle.lemma_book.specs.Entry.{Entries, with_last}
use Rattle.lemma_book.specs.Good.{IsGood}
use Rattle.book_file.specs.Loaded.{MayBeTaken, with_taken}

-- the entry was good, and is the book's last one now, or it isn't
abbrev pub TakesGood : AigPair → Entries → Entry → Entries → Bool → Type 0
TakesGood net old e new true = IsGood net old e × (new ≡ with_last old e)
TakesGood net old e new false = (¬ IsGood net old e) × (new ≡ old)

-- the entry was taken under the numbers of those before it, or passed over
abbrev pub PutsOrPasses : AigPair → Entries → List (Option ℕ) → Entry → Entries → Bool → Type 0
PutsOrPasses net old numbers e new true = MayBeTaken net old numbers e × (new ≡ with_taken old numbers e)
PutsOrPasses net old numbers e new false = (¬ MayBeTaken net old numbers e) × (new ≡ old)

-- the number of an entry in the book, if it was taken
abbrev pub number_of : Bool → ℕ → Option ℕ
number_of true n = Some n
number_of false n = None

-- and its number is noted
pub record TakesOrPasses (net : AigPair) (old : Entries) (numbers : List (Option ℕ)) (e : Entry) (new : Entries) (noted : List (Option ℕ)) : Type 0 where
  pub is_put : Bool
  pub puts : PutsOrPasses net old numbers e new is_put
  pub notes : noted ≡ numbers ++ number_of is_put (length old.entries) ∷ []
