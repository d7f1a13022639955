-- What workers are asked, by number.
use Rattle.std.specs.Prelude.{◌≡◌, ◌⊎◌, ⊤, ℕ, zero, suc, ◌<◌, Option, None, Some, List, [], ◌∷◌, ◌++◌, length, map}
use Rattle.netlist.specs.Net.{AigPair}
use Rattle.lemma_book.specs.declared.entry.Entry.{Entry}
use Rattle.lemma_book.specs.declared.entry.Subject.{Subject}
use Rattle.lemma_book.specs.declared.entry.Subject.TheVariants.{Merged, Output as OnOutput}
use Rattle.lemma_book.specs.declared.entry.Task.{Task}
use Rattle.lemma_book.specs.Entry.{Question, OfPair, OfOutput, about}
use Rattle.lemma_book.specs.Good.{IsEarlier}
use Rattle.cone_query.specs.Query.{IsGate}
use Rattle.sweep_workers.specs.declared.asked.Asked.{Asked}
use Rattle.sweep_workers.specs.declared.asked.Asked.TheVariants.{Pair, Output}

-- the question that a task asks
abbrev pub question_in : Asked → Question
question_in (Pair task) = OfPair task.node task.lit
question_in (Output j) = OfOutput j

-- the subject of the entry that settles a task, if a book has it
abbrev pub subject_in : Asked → Subject
subject_in (Pair task) = Merged task.node
subject_in (Output j) = OnOutput j

-- the questions, in the order of their numbers
abbrev pub questions : List Asked → List Question
questions tasks = map question_in tasks

-- it may be asked: about a gate and a literal of an earlier node, or about an output of the net
abbrev pub IsAskable : AigPair → Asked → Type 0
IsAskable net (Pair task) = IsGate task.node × IsEarlier net task.node task.lit
IsAskable net (Output j) = j < length net.a.outputs

-- the tasks of a round are some of those that were due, in the same order
abbrev pub IsPart : List Task → List Task → Type 0
IsPart xs [] = xs ≡ []
IsPart [] (t ∷ ts) = ⊤
IsPart (x ∷ xs) (t ∷ ts) = ((x ≡ t) × IsPart xs ts) ⊎ IsPart (x ∷ xs) ts

-- the question is one of them
abbrev pub IsAmong : Question → List Question → Type 0
IsAmong q [] = ⊥
IsAmong q (x ∷ xs) = (x ≡ q) ⊎ IsAmong q xs

-- the task that asks about an output, where it has no entry
abbrev pub task_about : Option Entry → ℕ → List Asked
task_about None j = Output j ∷ []
task_about (Some e) j = []

-- those about the first n outputs, in order
abbrev pub open_tasks : List Entry → ℕ → List Asked
open_tasks entries zero = []
open_tasks entries (suc n) = open_tasks entries n ++ task_about (about entries n) n
