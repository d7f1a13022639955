-- What the numbers of a session's last check count, of those that its book and its patterns have: the pairs that were told apart,
-- what was left open, and the steps that show or refuse it.
use Rattle.std.specs.Prelude.{◌≡◌, ℕ, ◌+◌, Bool, true, false, ◌&&◌, min, List, [], ◌∷◌, length, filter}
use Rattle.std.specs.Option.{option_map_or}
use Rattle.lits.specs.declared.step.Step.{Step}
use Rattle.lemma_book.specs.declared.entry.Entry.{Entry}
use Rattle.lemma_book.specs.Entry.{Answer, Equal, Differ, Open, question_of, answer_of, asks_pair, says_differ, says_open, is_spent}
use Rattle.check_session.specs.declared.counts.Counts.{Counts}
use Rattle.check_session.specs.Check.{State}

-- what a count in a machine word of 64 bits tells, which stands still at the greatest one
abbrev pub counted : ℕ → ℕ
counted n = min n 18446744073709551615

-- the entry says that two nodes differ on an input
abbrev pub is_pair_apart : Entry → Bool
is_pair_apart e = asks_pair (question_of e) && says_differ (answer_of e)

-- the entry says that the query about two nodes spent its budget
abbrev pub is_pair_open : Entry → Bool
is_pair_open e = asks_pair (question_of e) && says_open (answer_of e)

-- the steps of an answer: those that show it, or the log of its query
abbrev pub steps_with : Answer → List Step
steps_with (Equal steps) = steps
steps_with (Differ input) = []
steps_with (Open seen log) = log

-- how many entries pass a test
abbrev pub entries_with : (Entry → Bool) → List Entry → ℕ
entries_with test entries = length (filter test entries)

-- how many steps all entries have
abbrev pub all_steps : List Entry → ℕ
all_steps [] = 0
all_steps (e ∷ es) = length (steps_with (answer_of e)) + all_steps es

-- the numbers that count entries, or their steps, are those of these entries
pub record AreCountsOf (entries : List Entry) (c : Counts) : Type 0 where
  pub apart_are : c.apart ≡ counted (entries_with is_pair_apart entries)
  pub open_pairs_are : c.open_pairs ≡ counted (entries_with is_pair_open entries)
  pub open_outputs_are : c.open_outputs ≡ counted (entries_with is_spent entries)
  pub steps_are : c.steps ≡ counted (all_steps entries)

-- the patterns of a session, of which there are none without a pool
abbrev pub patterns_in : State → ℕ
patterns_in s = option_map_or (λ p. length p.patterns) s.pool 0

-- The numbers are those of the session's patterns, and of its book. Of the others nothing is claimed.
pub record AreCounts (s : State) (c : Counts) : Type 0 where
  pub patterns_are : c.patterns ≡ patterns_in s
  pub entries_are : AreCountsOf s.book.entries c

-- ---- one entry more

-- behind some entries the numbers are theirs, and the patterns stay
pub record AreCountsUpTo (patterns : ℕ) (entries : List Entry) (c : Counts) : Type 0 where
  pub patterns_are : c.patterns ≡ patterns
  pub entries_are : AreCountsOf entries c

-- a count behind one thing more, if it is counted
abbrev pub after_one : Bool → ℕ → ℕ
after_one true n = counted (n + 1)
after_one false n = n

-- the count of steps behind those of an answer
abbrev pub after_answer : Answer → ℕ → ℕ
after_answer (Equal steps) n = counted (n + length steps)
after_answer (Differ input) n = n
after_answer (Open seen log) n = counted (n + length log)

-- the numbers behind an entry
pub record CountsEntry (e : Entry) (old new : Counts) : Type 0 where
  pub patterns_are : new.patterns ≡ old.patterns
  pub apart_are : new.apart ≡ after_one (is_pair_apart e) old.apart
  pub open_pairs_are : new.open_pairs ≡ after_one (is_pair_open e) old.open_pairs
  pub open_outputs_are : new.open_outputs ≡ after_one (is_spent e) old.open_outputs
  pub steps_are : new.steps ≡ after_answer (answer_of e) old.steps
