-- What an entry settles: the pair or the output that a search was asked for.
use Rattle.std.specs.Prelude.{◌≡◌, ℕ}
use Rattle.lemma_book.specs.declared.entry.Entry.{Entry}
use Rattle.lemma_book.specs.declared.entry.Task.{Task}
use Rattle.lemma_book.specs.Entry.{Question, OfPair, OfOutput, Answer, Open, question_of, answer_of}

-- the answer is about the pair, and doesn't leave it open
abbrev pub IsOfPair : Task → Question → Answer → Type 0
IsOfPair task q (Open seen log) = ⊥
IsOfPair task (OfOutput j) a = ⊥
IsOfPair task (OfPair node lit) a = (node ≡ task.node) × (lit ≡ task.lit)

-- the answer is about the output, and doesn't leave it open
abbrev pub IsOfOutput : ℕ → Question → Answer → Type 0
IsOfOutput output q (Open seen log) = ⊥
IsOfOutput output (OfPair node lit) a = ⊥
IsOfOutput output (OfOutput j) a = j ≡ output

-- the entry merges the pair's node to its literal, or has an input on which they differ
abbrev pub SettlesPair : Task → Entry → Type 0
SettlesPair task e = IsOfPair task (question_of e) (answer_of e)

-- the entry says that the output is equal, or has an input on which it differs
abbrev pub SettlesOutput : ℕ → Entry → Type 0
SettlesOutput output e = IsOfOutput output (question_of e) (answer_of e)
