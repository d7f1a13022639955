-- How a check ends: what it tells, over which book and patterns.
use Rattle.std.specs.Prelude.{◌≡◌}
use Rattle.netlist.specs.Net.{AigPair}
use Rattle.word_sim.specs.Patterns.{Patterns}
use Rattle.lemma_book.specs.declared.entry.Entry.TheVariants.{OutApart}
use Rattle.lemma_book.specs.Entry.{Entries, with_last}
use Rattle.lemma_book.specs.Book.{IsLegal}
use Rattle.sweep_workers.specs.Swept.{SettlesOutputs}
use Rattle.check_session.specs.declared.patterns.Difference.{Difference}
use Rattle.check_session.specs.declared.sweep.Checked.{Checked}
use Rattle.check_session.specs.declared.verdict.Verdict.TheVariants as verdict
use Rattle.check_session.specs.Finding.{Different, Finds, Means}
use Rattle.check_session.specs.Outputs.{ListsOpen, finding_of}
use Rattle.check_session.specs.Pool.{IsFirstApart, NoneApart}
use Rattle.check_session.specs.Check.{IsWithinFor}

-- the difference that the first of these patterns shows is told, by one entry more
pub record TellsDifference (net : AigPair) (book : Entries) (pool : Patterns) (d : Difference) (c : Checked) : Type 0 where
  pub first : IsFirstApart net pool.patterns d.output d.input
  pub pool_is : c.pool ≡ pool
  pub book_is : c.book ≡ with_last book (OutApart d.output d.input)
  pub verdict_is : c.verdict ≡ verdict.Different d.output d.input
  pub legal : IsLegal net c.book
  pub finds : Finds net c.book.entries (Different d.output d.input)
  pub means : Means net c.book.entries (Different d.output d.input)

-- none of these patterns tells an output apart; each output has its entry behind those of this book, and what they show is told
pub record AsksOutputs (net : AigPair) (swept : Entries) (pool : Patterns) (c : Checked) : Type 0 where
  pub none : NoneApart net pool.patterns
  pub pool_is : c.pool ≡ pool
  pub outputs : SettlesOutputs net swept c.book
  pub finds : Finds net c.book.entries (finding_of c.verdict)
  pub open_are : ListsOpen net c.book.entries c.verdict
  pub means : Means net c.book.entries (finding_of c.verdict)
  pub within : IsWithinFor net c.book.out_budget (finding_of c.verdict)
