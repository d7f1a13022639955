-- What a line of a lemma file says.
use Rattle.std.specs.Prelude.{ℕ, Bool, true, false, not, ◌&&◌, codes, List, [], ◌∷◌, Option, Some, None, option_map, option_and_then, if◌then◌else◌}
use Rattle.std.specs.List.{slice_split}
use Rattle.std.specs.Str.{bytes_eq}
use Rattle.lits.specs.Clause.{no_repeat, has_pair}
use Rattle.lits.specs.Same.{same_lit, opposite}
use Rattle.lits.specs.declared.literal.Lit.{Lit}
use Rattle.lits.specs.declared.step.Ref.{Ref}
use Rattle.lits.specs.declared.step.Step.{Step}
use Rattle.tokens.specs.Words.{is_space}
use Rattle.book_file.specs.declared.said.Said.{Said}
use Rattle.book_file.specs.declared.said.Said.TheVariants.{Header, Merge, Out, Shows, Ends}
use Rattle.book_file.specs.Words.{node_in, literal_in, name_in, index_in}

-- The words of a line, with one space between. A space at either end, or one more between two words, leaves an empty word, which
-- says nothing anywhere.
abbrev pub words_of : List ℕ → List (List ℕ)
words_of line = slice_split is_space line

-- the word is that text
abbrev pub is_word : List ℕ → List ℕ → Bool
is_word text word = bytes_eq word text

-- the literals in front of the semicolon, and the words behind it
abbrev pub literals_in : List (List ℕ) → Option (List Lit × List (List ℕ))
literals_in [] = None
literals_in (word ∷ words) =
    if is_word (codes ";") word then Some ([], words)
    else option_and_then (λ l. option_map (λ r. (l ∷ r.0, r.1)) (literals_in words)) (literal_in word)

-- the names of clauses that the words are
abbrev pub names_in : List (List ℕ) → Option (List Ref)
names_in [] = Some []
names_in (word ∷ words) = option_and_then (λ r. option_map (λ rs. r ∷ rs) (names_in words)) (name_in word)

-- no literal stands twice or beside its negation
abbrev pub is_clause : List Lit → Bool
is_clause lits = no_repeat same_lit lits && not (has_pair same_lit opposite lits)

-- the step of a clause's literals and the names of the clauses that show it
abbrev pub step_of : List Lit → List Ref → Option Step
step_of lits names = if is_clause lits then Some (record { clause = lits; hints = names }) else None

-- a step: its literals, a semicolon, and the names of the clauses that show it
abbrev pub step_in : List (List ℕ) → Option Step
step_in words = option_and_then (λ r. option_and_then (step_of r.0) (names_in r.1)) (literals_in words)

-- the first line of the entry that merges a node to a literal
abbrev pub merge_in : List (List ℕ) → Option Said
merge_in (node ∷ lit ∷ []) = option_and_then (λ n. option_map (Merge n) (literal_in lit)) (node_in node)
merge_in words = None

-- and of the entry about an output
abbrev pub out_in : List (List ℕ) → Option Said
out_in (output ∷ []) = option_map Out (index_in output)
out_in words = None

-- the last line of an entry
abbrev pub ends_in : List (List ℕ) → Option Said
ends_in [] = Some Ends
ends_in words = None

-- the first line of a file
abbrev pub header_in : List (List ℕ) → Option Said
header_in (version ∷ []) = if is_word (codes "1") version then Some Header else None
header_in words = None

-- what words say, the first of them telling what kind of line it is
abbrev pub said_by : List ℕ → List (List ℕ) → Option Said
said_by word words =
    if is_word (codes "s") word then option_map Shows (step_in words)
    else if is_word (codes ".") word then ends_in words
    else if is_word (codes "m") word then merge_in words
    else if is_word (codes "o") word then out_in words
    else if is_word (codes "lemmas") word then header_in words
    else None

abbrev pub said_of : List (List ℕ) → Option Said
said_of [] = None
said_of (word ∷ words) = said_by word words

-- what the line says; none where it is no line of a lemma file
abbrev pub said_in : List ℕ → Option Said
said_in line = said_of (words_of line)

-- a line that says this is the first one of a file
abbrev pub is_header : Option Said → Bool
is_header (Some Header) = true
is_header said = false
