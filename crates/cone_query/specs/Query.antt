-- What an entry of a query says besides that it is good.
use Rattle.std.specs.Prelude.{◌≡◌, ℕ, ◌≤◌, ◌^◌, Bool, true, false, ⊤, Option, None, Some, List, [], ◌∷◌, ◌++◌, length, map}
use Rattle.std.specs.List.{slice_index_or}
use Rattle.lits.specs.declared.node.Node.{Node}
use Rattle.lits.specs.declared.node.Node.TheVariants.{Input, Gate}
use Rattle.lits.specs.declared.step.Named.{Named}
use Rattle.lits.specs.declared.step.Step.{Step}
use Rattle.netlist.specs.Net.{AigPair}
use Rattle.unit_prop.specs.Refuter.{is_over}
use Rattle.unit_prop.specs.Variables.{variables}
use Rattle.lemma_book.specs.declared.entry.Task.{Task}
use Rattle.lemma_book.specs.declared.entry.Entry.{Entry}
use Rattle.lemma_book.specs.declared.entry.Entry.TheVariants.{Apart}
use Rattle.lemma_book.specs.Entry.{Entries, Question, OfPair, OfOutput, Answer, Equal, Differ, Open, question_of, answer_of}
use Rattle.lemma_book.specs.Entry.{seeds_of, budget_of, equal_clauses}
use Rattle.lemma_book.specs.Cone.{next_of, IsReach, IsCone}
use Rattle.lemma_book.specs.Good.{OfQuery}

-- the node is that of a gate
abbrev pub IsGate : Node → Type 0
IsGate (Gate side v) = ⊤
IsGate _ = ⊥

-- the pair of node and literal that an entry is about
abbrev pub task_in : Question → Option Task
task_in (OfPair node lit) = Some (record { node = node; lit = lit })
task_in (OfOutput j) = None

abbrev pub task_of : Entry → Option Task
task_of e = task_in (question_of e)

abbrev pub SeesAllOf : Entries → Answer → Type 0
SeesAllOf book (Equal steps) = ⊤
SeesAllOf book (Differ input) = ⊤
SeesAllOf book (Open seen log) = seen ≡ length book.entries

-- a query that spent its budget saw the whole book
abbrev pub SeesAll : Entries → Entry → Type 0
SeesAll book e = SeesAllOf book (answer_of e)

-- the inputs that the seeds don't reach over the entries are false
pub record AreFalseOutside (net : AigPair) (entries : List Entry) (seeds : List Node) (input : List Bool) : Type 0 where
  pub reached : Node → Bool
  pub reach : IsReach (next_of net entries) seeds reached
  pub outside : (k : ℕ) → reached (Input k) ≡ false → slice_index_or input k false ≡ false

abbrev pub IsFalseOutsideOf : AigPair → List Entry → Question → Answer → Type 0
IsFalseOutsideOf net entries q (Equal steps) = ⊤
IsFalseOutsideOf net entries q (Differ input) = AreFalseOutside net entries (seeds_of net q) input
IsFalseOutsideOf net entries q (Open seen log) = ⊤

-- so they are in a counterexample
abbrev pub IsFalseOutside : AigPair → List Entry → Entry → Type 0
IsFalseOutside net entries e = IsFalseOutsideOf net entries (question_of e) (answer_of e)

abbrev pub IsWithinOf : AigPair → Entries → Question → Answer → Type 0
IsWithinOf net book q (Equal steps) = ⊤
IsWithinOf net book q (Differ input) = ⊤
IsWithinOf net book q (Open seen log) =
    OfQuery net book.entries q (λ cone. budget_of book q ≤ 3 ^ variables cone)

-- a budget that was spent is no greater than 3 to the number of its cone's variables
abbrev pub IsWithin : AigPair → Entries → Entry → Type 0
IsWithin net book e = IsWithinOf net book (question_of e) (answer_of e)

-- the entry is built of what its query leaves: equal values are shown by the log and then a step for each clause that
-- says so, and an open question has the log itself
abbrev pub IsBuiltOf : List Step → Question → Answer → Type 0
IsBuiltOf log q (Equal steps) =
    (last : List Step) × (steps ≡ log ++ last) × (map (λ s. s.clause) last ≡ equal_clauses q)
IsBuiltOf log q (Differ input) = ⊤
IsBuiltOf log q (Open seen learned) = learned ≡ log

abbrev pub IsBuilt : List Step → Entry → Type 0
IsBuilt log e = IsBuiltOf log (question_of e) (answer_of e)

-- the literal is that of an input that no clause of the node's cone names
pub record IsUnnamed (net : AigPair) (entries : List Entry) (task : Task) : Type 0 where
  pub input : ℕ
  pub is_input : task.lit.node ≡ Input input
  pub cone : List Named
  pub is_cone : IsCone net entries (task.node ∷ []) cone
  pub unnamed : is_over cone task.lit ≡ false

-- node and literal differ on an input on which all but the literal's own is false
abbrev pub IsSetAlone : Entry → Type 0
IsSetAlone (Apart node lit input) = (k : ℕ) → slice_index_or input k false ≡ true → lit.node ≡ Input k
IsSetAlone _ = ⊥
