-- What a circuit is reduced to, by which book, and the session that shows the two equal.
use Rattle.std.specs.Prelude.{◌≡◌, Some, [], length, replicate}
use Rattle.circuit_text.specs.BinaryText.{IsInSequence}
use Rattle.netlist.specs.Circuit.{Aig, plain}
use Rattle.netlist.specs.Net.{AigPair}
use Rattle.word_sim.specs.Patterns.{Patterns}
use Rattle.lemma_book.specs.Entry.{Entries}
use Rattle.sig_classes.specs.Leader.{IsReduced, IsSwept}
use Rattle.fraig_write.specs.Reduced.{HasValuesOf, IsReducedCircuit}
use Rattle.fraig_write.specs.Mirror.{AreOfA, IsMirror}
use Rattle.check_session.specs.declared.options.Options.{Options}
use Rattle.check_session.specs.Pool.{first_pool}
use Rattle.check_session.specs.Begun.{Begun, IsBookOf}
use Rattle.check_session.specs.Sweep.{IsSweptFrom}
use Rattle.check_session.specs.Check.{IsSettled, State, empty_book, opened}
use Rattle.check_session.specs.Finding.{Equivalent}

-- a circuit with A's inputs, without gates, whose outputs are all false
abbrev pub without_gates : Aig → Aig
without_gates a = plain a.inputs [] (replicate (length a.outputs) 0)

-- the pair in which a circuit is swept by itself
abbrev pub swept_pair : Aig → AigPair
swept_pair a = record { a = a; b = without_gates a }

-- what a sweep of the circuit by itself begins with: an empty book, and the patterns that the seed draws
abbrev pub begun_alone : Aig → Options → Begun
begun_alone a o = record { book = empty_book o; pool = first_pool (swept_pair a) o }

-- The book is that of a sweep of the circuit by itself, from there: the merges of the structure, and then what was settled of pairs of
-- nodes, until the book was reduced over the patterns, which are those of the seed and behind them the inputs on which pairs differed.
pub record IsSweptAlone (a : Aig) (o : Options) (book : Entries) : Type 0 where
  pub patterns : Patterns
  pub sweep : IsSweptFrom (swept_pair a) (begun_alone a o) book patterns
  pub reduced : IsReduced (swept_pair a) book.entries patterns.patterns

-- the book of a sweep of the circuit by itself: legal under the budgets that were asked for, and about A's nodes alone; each gate
-- that is its own root has no earlier equal, or a query of it spent its budget
pub record IsSweptBook (a : Aig) (o : Options) (book : Entries) : Type 0 where
  pub book_of : IsBookOf (swept_pair a) o book
  pub of_a : AreOfA book.entries
  pub alone : IsSweptAlone a o book
  pub swept : IsSwept (swept_pair a) book.entries

-- The circuit is A reduced by the book of a sweep, and the session is one of A and that circuit, matched by position, as if it had
-- just been opened, but that it counts as checked: its book is the mirror of the sweep's, and shows each output equal. Besides, what
-- follows of the circuit: it has A's values, and is in AIGER's order.
pub record IsReduction (a : Aig) (o : Options) (circuit : Aig) (book : Entries) (s : State) : Type 0 where
  pub book_of : IsBookOf (swept_pair a) o book
  pub alone : IsSweptAlone a o book
  pub swept : IsSwept (swept_pair a) book.entries
  pub reduced : IsReducedCircuit a book.entries circuit
  pub values : HasValuesOf a circuit
  pub sequence : IsInSequence circuit
  pub net : s.net ≡ record { a = a; b = circuit }
  pub found : s.found ≡ Some Equivalent
  pub else_opened : s ≡ record (opened s.net o) { book = s.book; found = s.found }
  pub mirror : IsMirror s.net book s.book
  pub settled : IsSettled s.net o.sweep_budget o.out_budget s.book Equivalent
