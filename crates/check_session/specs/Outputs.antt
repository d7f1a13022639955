-- What the entries of all outputs tell.
use Rattle.std.specs.Prelude.{◌≡◌, ℕ, Bool, false, ◌||◌, ⊤, Option, None, Some, List, [], ◌∷◌, ◌++◌, filter}
use Rattle.std.specs.List.{AllByRecursion}
use Rattle.netlist.specs.Net.{AigPair}
use Rattle.lemma_book.specs.declared.entry.Entry.TheVariants.{OutApart}
use Rattle.lemma_book.specs.declared.entry.Entry.{Entry}
use Rattle.lemma_book.specs.Entry.{about, answer_of, asks_pair, has_apart, has_spent, question_of, says_equal}
use Rattle.check_session.specs.declared.verdict.Verdict.{Verdict}
use Rattle.check_session.specs.declared.verdict.Verdict.TheVariants as verdict
use Rattle.check_session.specs.Finding.{Finding, Equivalent, Different, Undecided, SeesMerges, open_outputs}

-- the entry is about two nodes, or says that an output is equal: of no output it says that it differs or is open
abbrev pub is_pair_or_out : Entry → Bool
is_pair_or_out e = asks_pair (question_of e) || says_equal (answer_of e)

-- each open output's query saw all merges
abbrev pub SeeMerges : List Entry → Type 0
SeeMerges entries = AllByRecursion (SeesMerges entries) entries

-- a verdict that leaves outputs open names them all, in order
abbrev pub ListsOpen : AigPair → List Entry → Verdict → Type 0
ListsOpen net entries verdict.Equivalent = ⊤
ListsOpen net entries (verdict.Different output input) = ⊤
ListsOpen net entries (verdict.Undecided outputs) = outputs ≡ open_outputs net entries

-- the finding that a verdict tells
abbrev pub finding_of : Verdict → Finding
finding_of verdict.Equivalent = Equivalent
finding_of (verdict.Different output input) = Different output input
finding_of (verdict.Undecided outputs) = Undecided

-- the verdict where no output is known to differ, and these are open
abbrev pub verdict_of : List ℕ → Verdict
verdict_of [] = verdict.Equivalent
verdict_of (j ∷ js) = verdict.Undecided (j ∷ js)

-- what the entry of output j tells by itself: an input on which it differs ends the search; one that is open joins those before
abbrev pub Looks : List Entry → ℕ → List ℕ → List ℕ → Option Verdict → Type 0
Looks entries j old new None = (has_apart entries j ≡ false) × (new ≡ old ++ filter (has_spent entries) (j ∷ []))
Looks entries j old new (Some verdict.Equivalent) = ⊥
Looks entries j old new (Some (verdict.Different k input)) = (k ≡ j) × (about entries j ≡ Some (OutApart j input))
Looks entries j old new (Some (verdict.Undecided outputs)) = ⊥
