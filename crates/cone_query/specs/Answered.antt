-- What is known while an output is asked about, and what an answer settles.
use Rattle.std.specs.Prelude.{◌≡◌, ℕ, ◌<◌, None, Some, length}
use Rattle.std.specs.List.{AllByRecursion}
use Rattle.netlist.specs.Net.{AigPair, IsNet}
use Rattle.lemma_book.specs.declared.entry.Entry.{Entry}
use Rattle.lemma_book.specs.declared.entry.Subject.TheVariants.{Output}
use Rattle.lemma_book.specs.Agreement.{IsTrue}
use Rattle.lemma_book.specs.Book.{IsLegal}
use Rattle.lemma_book.specs.Entry.{Entries, about, subject_of}
use Rattle.lemma_book.specs.Good.{IsGood}
use Rattle.cone_query.specs.Query.{SeesAll, IsFalseOutside, IsWithin}

-- the output may be asked about: it is there, and has no entry
pub record IsOutput (net : AigPair) (book : Entries) (j : ℕ) : Type 0 where
  pub net_is : IsNet net
  pub legal : IsLegal net book
  pub all_true : AllByRecursion (IsTrue net) book.entries
  pub below : j < length net.a.outputs
  pub unsettled : about book.entries j ≡ None

-- the entry settles the output
pub record SettlesOutput (net : AigPair) (book : Entries) (j : ℕ) (e : Entry) : Type 0 where
  pub about : subject_of e ≡ Some (Output j)
  pub good : IsGood net book e
  pub seen : SeesAll book e
  pub outside : IsFalseOutside net book.entries e
  pub within : IsWithin net book e
