-- A check that has its verdict: its book is legal, under the budgets that were asked for, and shows the verdict; and where
-- no output is known to differ the book is swept. Between two checks the pair may be edited; the later one begins with what
-- is kept of the earlier one.
use Rattle.std.specs.Prelude.{◌≡◌, ◌⊎◌, ℕ, ◌≤◌, ◌^◌, ⊤, Bool, List, [], ◌∷◌, ◌++◌, length, Option, Some, None, IfSome}
use Rattle.netlist.specs.Net.{AigPair}
use Rattle.netlist.specs.Miter.{variables_of}
use Rattle.word_sim.specs.Patterns.{Patterns}
use Rattle.lemma_book.specs.declared.entry.Entry.{Entry}
use Rattle.lemma_book.specs.declared.entry.Entry.TheVariants.{OutApart}
use Rattle.lemma_book.specs.Entry.{Entries, with_last}
use Rattle.lemma_book.specs.Book.{IsLegal}
use Rattle.book_file.specs.Loaded.{IsLoaded}
use Rattle.netlist_edits.specs.declared.edit.Edit.{Edit}
use Rattle.netlist_edits.specs.Edited.{edited, edited_all}
use Rattle.sig_classes.specs.Leader.{IsReduced, IsSwept}
use Rattle.check_session.specs.declared.options.Options.{Options}
use Rattle.check_session.specs.declared.verdict.Verdict.{Verdict}
use Rattle.check_session.specs.Finding.{Finding, Equivalent, Different, Undecided, Finds, Means}
use Rattle.check_session.specs.Outputs.{ListsOpen, finding_of}
use Rattle.check_session.specs.Pool.{IsPoolOf, IsFirstApart, IsAmongOrJoins, NoneApart}
use Rattle.check_session.specs.Begun.{Begun, GoesOn, IsBookOf, begun_from}
use Rattle.check_session.specs.Sweep.{IsSettledFrom, IsSweptFrom}

-- the numbers are in their ranges
pub record AreInRange (o : Options) : Type 0 where
  pub workers_least : 1 ≤ o.workers
  pub workers_most : o.workers ≤ 64
  pub words_least : 1 ≤ o.words
  pub words_most : o.words ≤ 64
  pub sweep_least : 1 ≤ o.sweep_budget
  pub sweep_most : o.sweep_budget ≤ 1000000000
  pub out_least : 1 ≤ o.out_budget
  pub out_most : o.out_budget ≤ 1000000000

-- A session: the pair as it stands, the numbers that its checks go by, and of the last check the patterns, the book and what
-- it found; before the first check the book is the one that was loaded, if one was. There are no patterns before the first check
-- and after one that was refused memory; nothing is found then, nor after an edit. A session of a circuit and its reduced one has
-- no patterns either, but its book was made to show that both agree, which is found. Besides, the pair of the last check, or of the
-- opening where there was none, and the edits since, in order.
pub record State : Type 0 where
  pub net : AigPair
  pub options : Options
  pub pool : Option Patterns
  pub book : Entries
  pub found : Option Finding
  pub last : AigPair
  pub edits : List Edit

-- the book of a session without a check, into which none was loaded
abbrev pub empty_book : Options → Entries
empty_book o = record { sweep_budget = o.sweep_budget; out_budget = o.out_budget; entries = [] }

-- a session of the pair that was just opened: nothing was checked and nothing edited
abbrev pub opened : AigPair → Options → State
opened net o = record { net = net; options = o; pool = None; book = empty_book o; found = None; last = net; edits = [] }

-- the session after an edit that has no fault: its pair is edited, what was found of it no longer holds, and what the last check
-- left stays for the next one
abbrev pub with_edit : State → Edit → State
with_edit s edit = record {
  net = edited s.net edit;
  options = s.options;
  pool = s.pool;
  book = s.book;
  found = None;
  last = s.last;
  edits = s.edits ++ edit ∷ [];
}

-- The session, in which nothing was checked or edited, has loaded these entries: its book is that of those that are good over its
-- pair, and so many they are. The next check begins with what is kept of that book over the edits until then (`begun_by`).
pub record Loads (entries : List Entry) (s t : State) (taken : ℕ) : Type 0 where
  pub loaded : IsLoaded s.net s.options.sweep_budget s.options.out_budget entries t.book
  pub else_opened : t ≡ record (opened s.net s.options) { book = t.book }
  pub count : taken ≡ length t.book.entries

-- the session without the book of its last check, which counts as not checked
abbrev pub without_book : State → State
without_book s = record {
  net = s.net;
  options = s.options;
  pool = s.pool;
  book = empty_book s.options;
  found = None;
  last = s.last;
  edits = s.edits;
}

-- ---- what a check begins with

-- what the next check of a session begins with
abbrev pub begun_by : State → Begun
begun_by s = begun_from s.net s.options s.last s.edits s.pool s.book

-- what the session has after a check begins with what the check began with: behind the entries that were kept of the book
-- before stand those that were found; behind the patterns of before, or those that the seed draws where there were none, with
-- the inputs on which something differed, stand those that joined
pub record BeginsWith (old new : State) : Type 0 where
  pub patterns : Patterns
  pub pool_is : new.pool ≡ Some patterns
  pub goes_on : GoesOn (begun_by old) new.book patterns

-- ---- what a check leaves

-- the entry stands last
pub record EndsWith (entries : List Entry) (e : Entry) : Type 0 where
  pub before : List Entry
  pub is : entries ≡ before ++ e ∷ []

-- each gate that has an earlier equal is merged with one, or its query spent its budget; or an input was told before any
-- query, by the last entry
abbrev pub IsSweptFor : AigPair → List Entry → Finding → Type 0
IsSweptFor net entries Equivalent = IsSwept net entries
IsSweptFor net entries (Different j input) = IsSwept net entries ⊎ EndsWith entries (OutApart j input)
IsSweptFor net entries Undecided = IsSwept net entries

-- where outputs are left open, the budget of their queries is at most 3^V, V being the number of the CNF's variables: so
-- many clauses can be learned, and no more
abbrev pub IsWithinFor : AigPair → ℕ → Finding → Type 0
IsWithinFor net budget Equivalent = ⊤
IsWithinFor net budget (Different j input) = ⊤
IsWithinFor net budget Undecided = budget ≤ 3 ^ length (variables_of net)

-- a settled check: a book about the circuits, under these budgets, what it shows, and what that means
pub record IsSettled (net : AigPair) (sweep_budget out_budget : ℕ) (book : Entries) (finding : Finding) : Type 0 where
  pub sweep_is : book.sweep_budget ≡ sweep_budget
  pub budget_is : book.out_budget ≡ out_budget
  pub legal : IsLegal net book
  pub finds : Finds net book.entries finding
  pub means : Means net book.entries finding
  pub swept : IsSweptFor net book.entries finding
  pub within : IsWithinFor net book.out_budget finding

-- at once: some pattern tells an output apart; the least such output is told with the first pattern that does, and behind what
-- the check began with the book has that one entry. The pattern is one that the check began with, or none of those tells an
-- output apart and it alone joined them.
pub record IsAtOnce (net : AigPair) (begun : Begun) (patterns : List (List Bool)) (entries : List Entry) (f : Finding) : Type 0 where
  pub output : ℕ
  pub input : List Bool
  pub finding_is : f ≡ Different output input
  pub first : IsFirstApart net patterns output input
  pub from : IsAmongOrJoins net begun.pool.patterns patterns input
  pub entries_are : entries ≡ begun.book.entries ++ OutApart output input ∷ []

-- by the sweep: no pattern that the check leaves tells an output apart, and so none that it began with. Behind what the check began with the
-- book has first the merges of the structure, then what was settled of pairs of nodes, then what was settled of outputs, each of which has its
-- entry; the patterns that joined are the inputs on which such pairs differ. The book is reduced over all patterns.
pub record IsBySweep (net : AigPair) (begun : Begun) (patterns : Patterns) (book : Entries) : Type 0 where
  pub none : NoneApart net patterns.patterns
  pub settled : IsSettledFrom net begun book patterns
  pub reduced : IsReduced net book.entries patterns.patterns

-- in the sweep: no pattern that the check began with tells an output apart, and one that joined does. The book and the patterns are first as by
-- the sweep, before any output is asked about; then the least output that a pattern tells apart is told with the first such pattern, by the
-- last entry.
pub record IsInSweep (net : AigPair) (begun : Begun) (patterns : Patterns) (book : Entries) (f : Finding) : Type 0 where
  pub output : ℕ
  pub input : List Bool
  pub finding_is : f ≡ Different output input
  pub none : NoneApart net begun.pool.patterns
  pub first : IsFirstApart net patterns.patterns output input
  pub swept : Entries
  pub sweep : IsSweptFrom net begun swept patterns
  pub reduced : IsReduced net swept.entries patterns.patterns
  pub book_is : book ≡ with_last swept (OutApart output input)

-- What a check found: its book shows the verdict, which names the outputs that it leaves open; over the patterns that the
-- session keeps it was found at once, in the sweep or by it. These patterns, and those that the check began with, begin with the
-- ones that the seed draws.
pub record IsFound (net : AigPair) (o : Options) (begun : Begun) (pool : Option Patterns) (book : Entries) (v : Verdict) : Type 0 where
  pub settled : IsSettled net o.sweep_budget o.out_budget book (finding_of v)
  pub open_are : ListsOpen net book.entries v
  pub patterns : Patterns
  pub pool_is : pool ≡ Some patterns
  pub pool_of : IsPoolOf net o patterns
  pub begun_of : IsPoolOf net o begun.pool
  pub way : IsAtOnce net begun patterns.patterns book.entries (finding_of v)
      ⊎ (IsInSweep net begun patterns book (finding_of v) ⊎ IsBySweep net begun patterns book)

-- the numbers are in range; the pair is what the edits make of that of the last check, over which the book is legal under the
-- budgets; the patterns are for the pair; and where something is found the book is that of a settled check
pub record IsSession (s : State) : Type 0 where
  pub range : AreInRange s.options
  pub edited : s.net ≡ edited_all s.last s.edits
  pub pool : IfSome s.pool (IsPoolOf s.net s.options)
  pub book : IsBookOf s.last s.options s.book
  pub found : IfSome s.found (IsSettled s.net s.options.sweep_budget s.options.out_budget s.book)
