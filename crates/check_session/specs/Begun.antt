-- What a check begins with: what is kept of the book of the one before, and its patterns.
use Rattle.std.specs.Prelude.{◌≡◌, Bool, true, Option, IfSome, List, ◌++◌, unwrap_or}
use Rattle.std.specs.List.{list_all}
use Rattle.netlist.specs.Net.{AigPair}
use Rattle.word_sim.specs.Patterns.{Patterns}
use Rattle.lemma_book.specs.declared.entry.Entry.{Entry}
use Rattle.lemma_book.specs.Entry.{Entries, answer_of, says_equal}
use Rattle.lemma_book.specs.Book.{IsLegal, StartsWith}
use Rattle.netlist_edits.specs.declared.edit.Edit.{Edit}
use Rattle.netlist_edits.specs.Edited.{edited_all}
use Rattle.keep_lemmas.specs.Kept.{kept, handed_out}
use Rattle.check_session.specs.declared.options.Options.{Options}
use Rattle.check_session.specs.declared.begin.Past.{Past}
use Rattle.check_session.specs.Pool.{Extends, IsPoolOf, first_pool}

-- a legal book about the pair, with the budgets that were asked for
pub record IsBookOf (net : AigPair) (o : Options) (book : Entries) : Type 0 where
  pub sweep_is : book.sweep_budget ≡ o.sweep_budget
  pub budget_is : book.out_budget ≡ o.out_budget
  pub legal : IsLegal net book

-- a book and patterns
pub record Begun : Type 0 where
  pub book : Entries
  pub pool : Patterns

-- the entry says that two values are equal: a Merge or an Out
abbrev pub is_equal : Entry → Bool
is_equal e = says_equal (answer_of e)

-- a check of the pair may begin with them: the book is legal and says of values that they are equal, and of nothing that it
-- differs or is open; the patterns are for the pair
pub record MayBegin (net : AigPair) (o : Options) (begun : Begun) : Type 0 where
  pub book : IsBookOf net o begun.book
  pub equal : list_all is_equal begun.book.entries ≡ true
  pub pool : IsPoolOf net o begun.pool

-- nothing of what a check began with goes: entries and patterns come behind
pub record GoesOn (begun : Begun) (book : Entries) (pool : Patterns) : Type 0 where
  pub entries : StartsWith book begun.book
  pub patterns : Extends begun.pool pool

-- the patterns with more behind them
abbrev pub with_inputs : Patterns → List (List Bool) → Patterns
with_inputs p inputs = record { inputs = p.inputs; patterns = p.patterns ++ inputs }

-- What a check of the pair begins with, where the pair before and the edits since are these: what is kept of the book; and the
-- patterns, or those that the seed draws where there are none, with the inputs that are handed out behind them.
abbrev pub begun_from : AigPair → Options → AigPair → List Edit → Option Patterns → Entries → Begun
begun_from net o last edits pool book = record {
  book = kept last edits book;
  pool = with_inputs (unwrap_or pool (first_pool net o)) (handed_out book.entries);
}

-- ---- what a session hands to a check

-- what was left fits the pair and the numbers: the edits make the pair of what it was, the patterns are for it, and the book is
-- legal over what it was
pub record IsPastOf (net : AigPair) (o : Options) (past : Past) : Type 0 where
  pub edited : net ≡ edited_all (unwrap_or past.last net) past.edits.items
  pub pool : IfSome past.pool (IsPoolOf net o)
  pub book : IsBookOf (unwrap_or past.last net) o past.book

-- what a check of the pair begins with after that
abbrev pub begun_after : AigPair → Options → Past → Begun
begun_after net o past = begun_from net o (unwrap_or past.last net) past.edits.items past.pool past.book
