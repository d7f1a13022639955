-- When an entry is good over the entries before it: none of the causes stands for which one is refused.
use Rattle.std.specs.Prelude.{◌≡◌, ◌≢◌, ℕ, ◌+◌, ◌<◌, ◌≤◌, Bool, ⊤, Option, None, Some, List, ◌++◌, length, map, take, slice_get}
use Rattle.std.specs.Option.{option_and_then, option_map, IsSome}
use Rattle.std.specs.List.{AllByRecursion}
use Rattle.lits.specs.declared.node.Node.{Node}
use Rattle.lits.specs.declared.node.Node.TheVariants.{Xor}
use Rattle.lits.specs.declared.literal.Lit.{Lit}
use Rattle.lits.specs.declared.step.Ref.{Ref}
use Rattle.lits.specs.declared.step.Ref.TheVariants.{Axiom, Entry as Shown, Own, Bound}
use Rattle.lits.specs.declared.step.Step.{Step}
use Rattle.lits.specs.declared.step.Named.{Named}
use Rattle.lits.specs.Same.{same_lit, opposite}
use Rattle.netlist.specs.Net.{AigPair, DiffersOn, bound_of, position_of, value_of, lit_holds}
use Rattle.netlist.specs.Miter.{axiom_of, unit}
use Rattle.unit_prop.specs.New.{IsNew}
use Rattle.unit_prop.specs.Refuter.{IsUndecided}
use Rattle.unit_prop.specs.Log.{base_clause, clauses_of, IsStepAfter}
use Rattle.lemma_book.specs.declared.entry.Entry.{Entry}
use Rattle.lemma_book.specs.Entry.{Question, OfPair, OfOutput, Answer, Equal, Differ, Open, question_of, answer_of}
use Rattle.lemma_book.specs.Entry.{Entries, budget_of, equal_clause, equal_clauses, settled_at, lemmas_of}
use Rattle.lemma_book.specs.Cone.{AreThere, IsCone, IsConeOf}

-- why an entry is refused
pub data Cause : Type 0 where
  -- the net hasn't a node, an output, or the node of a literal of some step
  NoNode : Cause
  -- some entry is on its subject
  Already : Cause
  -- the target isn't earlier in position than the node
  NotEarlier : Cause
  -- the input has another length, or the values are equal on it, or for an output it isn't admitted
  NotApart : Cause
  -- the last clauses aren't those that the entry shows
  Shape : Cause
  -- there are too many steps, or the log isn't that of the whole budget
  Count : Cause
  -- more entries were seen than there are
  Seen : Cause
  -- the step at this place, from 0, is no step
  NoStep : ℕ → Cause
  -- the log's clause at this place, from 0, isn't new, or the output was shown equal before it
  NotNew : ℕ → Cause

-- each literal of the steps' clauses is over a node that the miter has a variable for
abbrev pub AreOver : AigPair → List Step → Type 0
AreOver net steps = AllByRecursion (λ s. AreThere net s.clause) steps

-- node and target have positions
abbrev pub ArePlaced : AigPair → Node → Lit → Type 0
ArePlaced net node lit = IsSome (position_of net node) × IsSome (position_of net lit.node)

-- the net has the question's nodes, or its output
abbrev pub IsThereFor : AigPair → Question → Type 0
IsThereFor net (OfPair node lit) = ArePlaced net node lit
IsThereFor net (OfOutput j) = j < length net.a.outputs

abbrev pub IsThereOf : AigPair → Question → Answer → Type 0
IsThereOf net q (Equal steps) = IsThereFor net q × AreOver net steps
IsThereOf net q (Differ input) = IsThereFor net q
IsThereOf net q (Open seen log) = IsThereFor net q × AreOver net log

-- the entry speaks of nodes, outputs and literals that the net has
abbrev pub IsThere : AigPair → Entry → Type 0
IsThere net e = IsThereOf net (question_of e) (answer_of e)

abbrev pub IsBefore : Option ℕ → Option ℕ → Type 0
IsBefore (Some p) (Some q) = p < q
IsBefore _ _ = ⊥

-- the literal's node is earlier in position
abbrev pub IsEarlier : AigPair → Node → Lit → Type 0
IsEarlier net node lit = IsBefore (position_of net lit.node) (position_of net node)

-- a pair's target is earlier than its node
abbrev pub IsEarlierFor : AigPair → Question → Type 0
IsEarlierFor net (OfPair node lit) = IsEarlier net node lit
IsEarlierFor net (OfOutput j) = ⊤

-- so it is where the entry is about a pair
abbrev pub HasEarlier : AigPair → Entry → Type 0
HasEarlier net e = IsEarlierFor net (question_of e)

-- node and literal differ on the input
pub record IsApart (net : AigPair) (node : Node) (lit : Lit) (input : List Bool) : Type 0 where
  pub whole : length input ≡ length net.a.inputs
  pub apart : value_of net input node ≢ lit_holds (value_of net input) lit

-- the values of the question differ on the input, which for an output is admitted
abbrev pub DifferFor : AigPair → Question → List Bool → Type 0
DifferFor net (OfPair node lit) input = IsApart net node lit input
DifferFor net (OfOutput j) input = DiffersOn net j input

abbrev pub HasApartOf : AigPair → Question → Answer → Type 0
HasApartOf net q (Equal steps) = ⊤
HasApartOf net q (Differ input) = DifferFor net q input
HasApartOf net q (Open seen log) = ⊤

-- where the entry says that values differ on an input, they do so
abbrev pub HasApart : AigPair → Entry → Type 0
HasApart net e = HasApartOf net (question_of e) (answer_of e)

-- the last clauses are these
pub record EndsIn (clauses : List (List Lit)) (steps : List Step) : Type 0 where
  pub before : List Step
  pub last : List Step
  pub parts : steps ≡ before ++ last
  pub clauses_are : map (λ s. s.clause) last ≡ clauses

abbrev pub HasShapeOf : Question → Answer → Type 0
HasShapeOf q (Equal steps) = EndsIn (equal_clauses q) steps
HasShapeOf q (Differ input) = ⊤
HasShapeOf q (Open seen log) = ⊤

-- steps end in the clauses that their entry shows
abbrev pub HasShape : Entry → Type 0
HasShape e = HasShapeOf (question_of e) (answer_of e)

abbrev pub HasCountOf : ℕ → Answer → Type 0
HasCountOf budget (Equal steps) = length steps ≤ budget + 2
HasCountOf budget (Differ input) = ⊤
HasCountOf budget (Open seen log) = length log ≡ budget

-- steps are a log within the budget and two more at most, a log that was spent is that of the whole budget
abbrev pub HasCount : Entries → Entry → Type 0
HasCount book e = HasCountOf (budget_of book (question_of e)) (answer_of e)

abbrev pub HasSeenOf : Entries → Answer → Type 0
HasSeenOf book (Equal steps) = ⊤
HasSeenOf book (Differ input) = ⊤
HasSeenOf book (Open seen log) = seen ≤ length book.entries

-- a log is over entries that are there
abbrev pub HasSeen : Entries → Entry → Type 0
HasSeen book e = HasSeenOf book (answer_of e)

-- clause k that entry i shows of two nodes: a merge shows two
abbrev pub merge_clause : List Entry → ℕ → ℕ → Option (List Lit)
merge_clause entries i k = option_and_then (λ e. slice_get (lemmas_of e) k) (slice_get entries i)

-- the clauses that the steps of an Out may cite: the miter's axioms, the constraints' units, and those of earlier merges
abbrev pub out_clause : AigPair → List Entry → Ref → Option (List Lit)
out_clause net entries (Axiom node k) = axiom_of net node k
out_clause net entries (Bound side k) = option_map unit (bound_of net side k)
out_clause net entries (Shown i k) = merge_clause entries i k
out_clause net entries (Own k) = None

-- the clauses that the steps of a Merge may cite: the same but for the axioms of XORs and the units of constraints, so
-- what is merged has one value on every input, admitted or not
abbrev pub node_clause : AigPair → List Entry → Ref → Option (List Lit)
node_clause net entries (Axiom (Xor j) k) = None
node_clause net entries (Bound side k) = None
node_clause net entries name = out_clause net entries name

-- the clauses that the steps of an answer to the question may cite
abbrev pub clause_for : AigPair → List Entry → Question → Ref → Option (List Lit)
clause_for net entries (OfPair node lit) = node_clause net entries
clause_for net entries (OfOutput j) = out_clause net entries

-- the step at place k, if it is there, is one over the clauses that `find` gives and the steps before it
abbrev pub IsStepAt : (Ref → Option (List Lit)) → List Step → ℕ → Type 0
IsStepAt find steps k = (s : Step) → slice_get steps k ≡ Some s → IsStepAfter find (take k steps) s

-- P holds of the cone of the seeds over the entries
pub record OfCone (net : AigPair) (entries : List Entry) (seeds : List Node) (P : List Named → Type 0) : Type 0 where
  pub cone : List Named
  pub is_cone : IsCone net entries seeds cone
  pub holds : P cone

-- P holds of the clauses that a query of the question is over
pub record OfQuery (net : AigPair) (entries : List Entry) (q : Question) (P : List Named → Type 0) : Type 0 where
  pub cone : List Named
  pub is_cone : IsConeOf net entries q cone
  pub holds : P cone

abbrev pub HasStepOf : AigPair → List Entry → ℕ → Question → Answer → Type 0
HasStepOf net entries k q (Equal steps) = IsStepAt (clause_for net entries q) steps k
HasStepOf net entries k q (Differ input) = ⊤
HasStepOf net entries k q (Open seen log) =
    OfQuery net (take seen entries) q (λ cone. IsStepAt (base_clause cone) log k)

-- the step at place k is one: that of a log stands on the cone over the entries that were seen
abbrev pub HasStep : AigPair → List Entry → ℕ → Entry → Type 0
HasStep net entries k e = HasStepOf net entries k (question_of e) (answer_of e)

-- the log's clause at place k, if it is there, is new over the cone and the clauses before it
abbrev pub IsNewAt : List Named → List Step → ℕ → Type 0
IsNewAt cone log k = (s : Step) → slice_get log k ≡ Some s → IsNew same_lit opposite (clauses_of cone (take k log)) s.clause

-- before the log's clause at place k, if it is there, unit propagation doesn't show the output equal
abbrev pub IsUndecidedAt : List Named → ℕ → List Step → ℕ → Type 0
IsUndecidedAt cone j log k = (s : Step) → slice_get log k ≡ Some s → IsUndecided cone (equal_clause j) (take k log)

-- the log's clause at place k is new, and one of an output's log comes before the output is shown equal
abbrev pub IsNewFor : Question → List Named → List Step → ℕ → Type 0
IsNewFor (OfPair node lit) cone log k = IsNewAt cone log k
IsNewFor (OfOutput j) cone log k = IsNewAt cone log k × IsUndecidedAt cone j log k

abbrev pub HasNewOf : AigPair → List Entry → ℕ → Question → Answer → Type 0
HasNewOf net entries k q (Equal steps) = ⊤
HasNewOf net entries k q (Differ input) = ⊤
HasNewOf net entries k q (Open seen log) = OfQuery net (take seen entries) q (λ cone. IsNewFor q cone log k)

-- so is the clause at place k of the entry's log
abbrev pub HasNew : AigPair → List Entry → ℕ → Entry → Type 0
HasNew net entries k e = HasNewOf net entries k (question_of e) (answer_of e)

-- the entry gives no cause of that kind over the book
abbrev pub IsFreeOf : AigPair → Entries → Entry → Cause → Type 0
IsFreeOf net book e NoNode = IsThere net e
IsFreeOf net book e Already = settled_at book.entries e ≡ None
IsFreeOf net book e NotEarlier = HasEarlier net e
IsFreeOf net book e NotApart = HasApart net e
IsFreeOf net book e Shape = HasShape e
IsFreeOf net book e Count = HasCount book e
IsFreeOf net book e Seen = HasSeen book e
IsFreeOf net book e (NoStep k) = HasStep net book.entries k e
IsFreeOf net book e (NotNew k) = HasNew net book.entries k e

-- the entry is good over the book: no cause stands
abbrev pub IsGood : AigPair → Entries → Entry → Type 0
IsGood net book e = (cause : Cause) → IsFreeOf net book e cause
