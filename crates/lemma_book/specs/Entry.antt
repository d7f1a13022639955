-- The entries of a book, the question and the answer of each, and the clauses that it shows. An entry is a lemma about
-- two nodes or about an output (the lemmas of SAT sweeping; Kuehlmann, Paruthi, Krohm and Ganai 2002).
use Rattle.std.specs.Prelude.{ℕ, Bool, true, false, ◌&&◌, Option, None, Some, List, [], ◌∷◌, ◌++◌, length, map, take, if◌then◌else◌}
use Rattle.std.specs.Option.{option_map_or}
use Rattle.std.specs.List.{list_any, find, range_with_len}
use Rattle.lits.specs.declared.node.Node.{Node}
use Rattle.lits.specs.declared.node.Node.TheVariants.{Xor}
use Rattle.lits.specs.declared.literal.Lit.{Lit}
use Rattle.lits.specs.declared.step.Step.{Step}
use Rattle.lits.specs.Same.{same_node, same_lit, opposite}
use Rattle.netlist.specs.Net.{AigPair, bounds_of}
use Rattle.netlist.specs.Miter.{positive, negative}
use Rattle.netlist.specs.Place.{place_of}
use Rattle.lemma_book.specs.declared.entry.Entry.{Entry}
use Rattle.lemma_book.specs.declared.entry.Entry.TheVariants.{Merge, Apart, Spent, Out, OutApart, OutSpent}
use Rattle.lemma_book.specs.declared.entry.Subject.{Subject}
use Rattle.lemma_book.specs.declared.entry.Subject.TheVariants.{Merged, Output}
use Rattle.lemma_book.specs.contracts.entry.SubjectPartialEq.TheImpl as subject_eq

-- a book: the budgets of a query about two nodes and of one about an output, and the entries in order
pub record Entries : Type 0 where
  pub sweep_budget : ℕ
  pub out_budget : ℕ
  pub entries : List Entry

-- the book as it was when it had so many entries
abbrev pub first_entries : ℕ → Entries → Entries
first_entries n book = record { sweep_budget = book.sweep_budget; out_budget = book.out_budget; entries = take n book.entries }

-- the book with one more entry
abbrev pub with_last : Entries → Entry → Entries
with_last book e = record { sweep_budget = book.sweep_budget; out_budget = book.out_budget; entries = book.entries ++ e ∷ [] }

-- what an entry is about: whether a node has the value of a literal on every input, or whether both circuits give an output one
-- value on every admitted input
pub data Question : Type 0 where
  OfPair : Node → Lit → Question
  OfOutput : ℕ → Question

abbrev pub question_of : Entry → Question
question_of (Merge node lit steps) = OfPair node lit
question_of (Apart node lit input) = OfPair node lit
question_of (Spent node lit seen log) = OfPair node lit
question_of (Out j steps) = OfOutput j
question_of (OutApart j input) = OfOutput j
question_of (OutSpent j seen log) = OfOutput j

-- what an entry says of it
pub data Answer : Type 0 where
  -- the values are equal, as these steps show
  Equal : List Step → Answer
  -- they differ on this input
  Differ : List Bool → Answer
  -- it is open: a query over the first so many entries spent its budget for these learned clauses
  Open : ℕ → List Step → Answer

abbrev pub answer_of : Entry → Answer
answer_of (Merge node lit steps) = Equal steps
answer_of (Apart node lit input) = Differ input
answer_of (Spent node lit seen log) = Open seen log
answer_of (Out j steps) = Equal steps
answer_of (OutApart j input) = Differ input
answer_of (OutSpent j seen log) = Open seen log

-- the nodes whose cone a query of the question is over: the two nodes, or the output's XOR and the constraints' nodes, whose
-- units that query is over besides
abbrev pub seeds_of : AigPair → Question → List Node
seeds_of net (OfPair node lit) = node ∷ lit.node ∷ []
seeds_of net (OfOutput j) = Xor j ∷ map (λ l. l.node) (bounds_of net)

-- the budget of such a query
abbrev pub budget_of : Entries → Question → ℕ
budget_of book (OfPair node lit) = book.sweep_budget
budget_of book (OfOutput j) = book.out_budget

-- what a book has one entry of at most: the merge of a node, and what is known of an output
abbrev pub subject_of : Entry → Option Subject
subject_of (Merge node lit steps) = Some (Merged node)
subject_of (Apart node lit input) = None
subject_of (Spent node lit seen log) = None
subject_of (Out j steps) = Some (Output j)
subject_of (OutApart j input) = Some (Output j)
subject_of (OutSpent j seen log) = Some (Output j)

-- the `==` of subjects
abbrev pub same_subject : Subject → Subject → Bool
same_subject = subject_eq.ghosts.eq

abbrev pub is_on : Subject → Entry → Bool
is_on s e = option_map_or (λ t. same_subject t s) (subject_of e) false

-- the place of the first entry on the subject
abbrev pub place_on : List Entry → Subject → Option ℕ
place_on entries s = place_of (is_on s) entries

-- the place of the first entry that settles the offered one: both are on one subject
abbrev pub settled_at : List Entry → Entry → Option ℕ
settled_at entries e = option_map_or (place_on entries) (subject_of e) None

-- the entry is the log of a query of the node and the literal
abbrev pub is_spent_on : Node → Lit → Entry → Bool
is_spent_on n l (Spent node lit seen log) = same_node node n && same_lit lit l
is_spent_on n l _ = false

-- some entry is
abbrev pub has_spent_on : List Entry → Node → Lit → Bool
has_spent_on entries n l = list_any (is_spent_on n l) entries

-- the entry on the output
abbrev pub about : List Entry → ℕ → Option Entry
about entries j = find (is_on (Output j)) entries

-- the clauses that say that a node and a literal have one value
abbrev pub merge_clauses : Node → Lit → List (List Lit)
merge_clauses node lit = (negative node ∷ lit ∷ []) ∷ (positive node ∷ opposite lit ∷ []) ∷ []

-- the clause that says that both circuits give the output one value, shown with the constraints' units: its XOR is false
abbrev pub equal_clause : ℕ → List Lit
equal_clause j = negative (Xor j) ∷ []

-- the clauses that say that the values of a question are equal
abbrev pub equal_clauses : Question → List (List Lit)
equal_clauses (OfPair node lit) = merge_clauses node lit
equal_clauses (OfOutput j) = equal_clause j ∷ []

-- the clauses that an entry shows of two nodes
abbrev pub lemmas_of : Entry → List (List Lit)
lemmas_of (Merge node lit steps) = merge_clauses node lit
lemmas_of _ = []

-- ---- kinds of entries

-- the question is about two nodes
abbrev pub asks_pair : Question → Bool
asks_pair (OfPair node lit) = true
asks_pair (OfOutput j) = false

abbrev pub asks_output : Question → Bool
asks_output (OfPair node lit) = false
asks_output (OfOutput j) = true

-- the answer says that the values are equal; that they differ; neither
abbrev pub says_equal : Answer → Bool
says_equal (Equal steps) = true
says_equal (Differ input) = false
says_equal (Open seen log) = false

abbrev pub says_differ : Answer → Bool
says_differ (Equal steps) = false
says_differ (Differ input) = true
says_differ (Open seen log) = false

abbrev pub says_open : Answer → Bool
says_open (Equal steps) = false
says_open (Differ input) = false
says_open (Open seen log) = true

-- the entry says that two nodes have one value
abbrev pub is_merge : Entry → Bool
is_merge e = asks_pair (question_of e) && says_equal (answer_of e)

-- the entry says that its output is equal; that it differs; that its query spent its budget
abbrev pub is_out : Entry → Bool
is_out e = asks_output (question_of e) && says_equal (answer_of e)

abbrev pub is_apart : Entry → Bool
is_apart e = asks_output (question_of e) && says_differ (answer_of e)

abbrev pub is_spent : Entry → Bool
is_spent e = asks_output (question_of e) && says_open (answer_of e)

-- the output's entry does
abbrev pub has_out : List Entry → ℕ → Bool
has_out entries j = option_map_or is_out (about entries j) false

abbrev pub has_apart : List Entry → ℕ → Bool
has_apart entries j = option_map_or is_apart (about entries j) false

abbrev pub has_spent : List Entry → ℕ → Bool
has_spent entries j = option_map_or is_spent (about entries j) false

-- the clauses that an open answer learned
abbrev pub learned_in : Answer → List Step
learned_in (Equal steps) = []
learned_in (Differ input) = []
learned_in (Open seen log) = log

-- the log of an output's query that spent its budget
abbrev pub log_of : Entry → List Step
log_of e = if asks_output (question_of e) then learned_in (answer_of e) else []

-- the outputs in order
abbrev pub outputs_of : AigPair → List ℕ
outputs_of net = range_with_len 0 (length net.a.outputs)
