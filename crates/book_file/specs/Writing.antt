-- The one text of a book: its lemmas, numbered anew.
use Rattle.std.specs.Prelude.{ℕ, ◌+◌, ◌^◌, ◌<◌, Bool, ⊤, codes, decimal, Option, None, Some, List, [], ◌∷◌, ◌++◌, map, filter, if◌then◌else◌}
use Rattle.std.specs.List.{flat_map, AllByRecursion}
use Rattle.lits.specs.Clause.{IsClause}
use Rattle.lits.specs.Same.{same_lit, opposite}
use Rattle.lits.specs.declared.node.Side.TheVariants.{A, B}
use Rattle.lits.specs.declared.node.Node.{Node}
use Rattle.lits.specs.declared.node.Node.TheVariants.{Const, Input, Gate, Xor}
use Rattle.lits.specs.declared.literal.Lit.{Lit}
use Rattle.lits.specs.declared.step.Ref.{Ref}
use Rattle.lits.specs.declared.step.Ref.TheVariants.{Axiom, Entry as Shown, Own, Bound}
use Rattle.lits.specs.declared.step.Step.{Step}
use Rattle.netlist.specs.Net.{AigPair, IsNet}
use Rattle.lemma_book.specs.declared.entry.Entry.{Entry}
use Rattle.lemma_book.specs.declared.entry.Entry.TheVariants.{Merge, Out}
use Rattle.lemma_book.specs.Entry.{Entries, answer_of, says_equal}
use Rattle.lemma_book.specs.Book.{IsLegal}
use Rattle.tokens.specs.Text.{joined, ended}
use Rattle.book_file.specs.Loaded.{number_in, renumbered}

-- ---- what is written of a book

-- the entry says that values are equal: it is a Merge or an Out
abbrev pub is_lemma : Entry → Bool
is_lemma e = says_equal (answer_of e)

-- the numbers of entries in the file, from n on: each lemma has the next one, and another entry has none
abbrev pub numbers_from : ℕ → List Entry → List (Option ℕ)
numbers_from n [] = []
numbers_from n (e ∷ entries) = if is_lemma e then Some n ∷ numbers_from (n + 1) entries else None ∷ numbers_from n entries

-- the Merges and Outs of a book in order, whose hints name entries by their numbers among these
abbrev pub lemmas_of : List Entry → List Entry
lemmas_of entries = map (renumbered (number_in (numbers_from 0 entries))) (filter is_lemma entries)

-- the book is legal over some net
pub record IsSomeLegal (book : Entries) : Type 0 where
  pub net : AigPair
  pub is_net : IsNet net
  pub legal : IsLegal net book

-- ---- its text

unfoldable pub node_text : Node → List ℕ
node_text Const = codes "c"
node_text (Input k) = 105 ∷ decimal k
node_text (Gate A v) = 97 ∷ decimal v
node_text (Gate B v) = 98 ∷ decimal v
node_text (Xor j) = 120 ∷ decimal j

unfoldable pub literal_text : Lit → List ℕ
literal_text l = if l.neg then 45 ∷ node_text l.node else node_text l.node

unfoldable pub name_text : Ref → List ℕ
name_text (Axiom node k) = node_text node ++ 47 ∷ decimal k
name_text (Shown n s) = 35 ∷ (decimal n ++ 47 ∷ decimal s)
name_text (Own k) = 64 ∷ decimal k
name_text (Bound A k) = 33 ∷ 97 ∷ decimal k
name_text (Bound B k) = 33 ∷ 98 ∷ decimal k

-- the words of a step's line: its literals, a semicolon, and the names of the clauses that show it
abbrev pub step_words : Step → List (List ℕ)
step_words s = codes "s" ∷ (map literal_text s.clause ++ codes ";" ∷ map name_text s.hints)

abbrev pub merge_words : Node → Lit → List (List ℕ)
merge_words node lit = codes "m" ∷ node_text node ∷ literal_text lit ∷ []

abbrev pub out_words : ℕ → List (List ℕ)
out_words j = codes "o" ∷ decimal j ∷ []

-- the lines of an entry behind its first one
abbrev pub step_lines : List Step → List (List ℕ)
step_lines steps = map (λ s. joined (step_words s)) steps ++ codes "." ∷ []

-- the lines of an entry, each without its end
abbrev pub entry_lines : Entry → List (List ℕ)
entry_lines (Merge node lit steps) = joined (merge_words node lit) ∷ step_lines steps
entry_lines (Out j steps) = joined (out_words j) ∷ step_lines steps
entry_lines entry = []

-- the text of an entry whose hints name entries by these numbers; of one that is no lemma nothing
abbrev pub lines_of : List (Option ℕ) → Entry → List ℕ
lines_of numbers e = flat_map ended (entry_lines (renumbered (number_in numbers) e))

-- the text of some lemmas
abbrev pub text_of : List Entry → List ℕ
text_of lemmas = flat_map ended (codes "lemmas 1" ∷ flat_map entry_lines lemmas)

-- the text of a book with these entries
abbrev pub book_text : List Entry → List ℕ
book_text entries = text_of (lemmas_of entries)

-- ---- what the program's types keep in range

abbrev pub FitsNode : Node → Type 0
FitsNode Const = ⊤
FitsNode (Input k) = k < 2 ^ 32
FitsNode (Gate side v) = v < 2 ^ 32
FitsNode (Xor j) = j < 2 ^ 32

abbrev pub FitsName : Ref → Type 0
FitsName (Axiom node k) = FitsNode node × (k < 256)
FitsName (Shown n s) = ⊤
FitsName (Own k) = ⊤
FitsName (Bound side k) = k < 2 ^ 32

pub record FitsStep (s : Step) : Type 0 where
  pub clause : IsClause same_lit opposite s.clause
  pub lits : AllByRecursion (λ l. FitsNode l.node) s.clause
  pub hints : AllByRecursion FitsName s.hints

abbrev pub FitsEntry : Entry → Type 0
FitsEntry (Merge node lit steps) = FitsNode node × FitsNode lit.node × AllByRecursion FitsStep steps
FitsEntry (Out j steps) = (j < 2 ^ 32) × AllByRecursion FitsStep steps
FitsEntry entry = ⊤
