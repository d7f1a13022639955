-- What the two calls of many workers leave: a book that has grown, and a pool with the inputs of the counterexamples.
use Rattle.std.specs.Prelude.{◌≡◌, ◌≢◌, ℕ, ◌<◌, Bool, true, ⊤, None, List, [], ◌∷◌, ◌++◌, length, map}
use Rattle.std.specs.List.{AllByRecursion, flat_map, list_all}
use Rattle.netlist.specs.Net.{AigPair}
use Rattle.word_sim.specs.Patterns.{Patterns}
use Rattle.lemma_book.specs.declared.entry.Entry.{Entry}
use Rattle.lemma_book.specs.declared.entry.Task.{Task}
use Rattle.lemma_book.specs.Entry.{Entries, Question, OfPair, Answer, Differ, about, answer_of, asks_pair, asks_output, question_of}
use Rattle.lemma_book.specs.Book.{IsLegal}
use Rattle.sweep_workers.specs.declared.asked.Asked.TheVariants.{Pair}
use Rattle.sweep_workers.specs.Asked.{IsAmong, questions}
use Rattle.sweep_workers.specs.Answered.{OpensTwoRoots, sees_first}

-- the entry is about two nodes; about an output
abbrev pub is_of_pair : Entry → Bool
is_of_pair e = asks_pair (question_of e)

abbrev pub is_of_output : Entry → Bool
is_of_output e = asks_output (question_of e)

-- the input of an answer that the values of a pair of nodes differ
abbrev pub apart_input : Question → Answer → List (List Bool)
apart_input (OfPair node lit) (Differ input) = input ∷ []
apart_input q a = []

abbrev pub input_of : Entry → List (List Bool)
input_of e = apart_input (question_of e) (answer_of e)

-- the inputs on which pairs of nodes differ, in the order of the entries
abbrev pub apart_inputs : List Entry → List (List Bool)
apart_inputs entries = flat_map input_of entries

-- such an input has so many truth values
abbrev pub HasInputs : ℕ → Entry → Type 0
HasInputs n e = AllByRecursion (λ bits. length bits ≡ n) (input_of e)

-- each pattern has one truth value for each input of the pair
pub record IsPoolFor (net : AigPair) (pool : Patterns) : Type 0 where
  pub inputs : pool.inputs ≡ length net.a.inputs
  pub whole : AllByRecursion (λ bits. length bits ≡ length net.a.inputs) pool.patterns

-- no two of the entries have one question
abbrev pub AskOnce : List Entry → Type 0
AskOnce [] = ⊤
AskOnce (e ∷ es) = AllByRecursion (λ f. question_of f ≢ question_of e) es × AskOnce es

-- The book is legal, has its budgets and begins as before; what was added is about pairs of nodes, of which none was settled
-- twice, the inputs of the counterexamples stand behind the old patterns, in the same order, and an added query that spent its
-- budget saw at least the old book.
pub record Sweeps (net : AigPair) (old_book new_book : Entries) (old_pool new_pool : Patterns) : Type 0 where
  pub sweep_budget : new_book.sweep_budget ≡ old_book.sweep_budget
  pub out_budget : new_book.out_budget ≡ old_book.out_budget
  pub added : List Entry
  pub begins : new_book.entries ≡ old_book.entries ++ added
  pub kinds : list_all is_of_pair added ≡ true
  pub once : AskOnce added
  pub legal : IsLegal net new_book
  pub inputs : new_pool.inputs ≡ old_pool.inputs
  pub patterns : new_pool.patterns ≡ old_pool.patterns ++ apart_inputs added
  pub seen : list_all (sees_first (length old_book.entries)) added ≡ true

-- a round of a sweep: what was added is about pairs that were due
pub record SweepsRound (net : AigPair) (due : List Task) (old_book new_book : Entries) (old_pool new_pool : Patterns) : Type 0 where
  pub sweeps : Sweeps net old_book new_book old_pool new_pool
  pub among : AllByRecursion (λ e. IsAmong (question_of e) (questions (map Pair due))) sweeps.added

-- each output has an entry
abbrev pub AreSettled : AigPair → List Entry → Type 0
AreSettled net entries = (j : ℕ) → j < length net.a.outputs → about entries j ≢ None

-- The book is legal, has its budgets and begins as before; what was added is about outputs, each of which has its entry;
-- an added query that spent its budget saw at least the old book, and its output has two roots over the book.
pub record SettlesOutputs (net : AigPair) (old new : Entries) : Type 0 where
  pub sweep_budget : new.sweep_budget ≡ old.sweep_budget
  pub out_budget : new.out_budget ≡ old.out_budget
  pub added : List Entry
  pub begins : new.entries ≡ old.entries ++ added
  pub kinds : list_all is_of_output added ≡ true
  pub legal : IsLegal net new
  pub settled : AreSettled net new.entries
  pub seen : list_all (sees_first (length old.entries)) added ≡ true
  pub roots : AllByRecursion (OpensTwoRoots net new.entries) added
