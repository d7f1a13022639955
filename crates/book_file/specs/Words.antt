-- The words of a lemma file: numbers, nodes, literals, and the names of clauses.
use Rattle.std.specs.Prelude.{ℕ, ◌^◌, Bool, true, false, List, [], ◌∷◌, Option, Some, None, option_map, option_and_then, nat_lt, ◌==◌, if◌then◌else◌}
use Rattle.std.specs.List.{slice_split}
use Rattle.lits.specs.declared.node.Side.TheVariants.{A, B}
use Rattle.lits.specs.declared.node.Node.{Node}
use Rattle.lits.specs.declared.node.Node.TheVariants.{Const, Input, Gate, Xor}
use Rattle.lits.specs.declared.literal.Lit.{Lit}
use Rattle.lits.specs.declared.step.Ref.{Ref}
use Rattle.lits.specs.declared.step.Ref.TheVariants.{Axiom, Entry as Shown, Own, Bound}
use Rattle.byte_scan.specs.declared.scan.TheConstants.{NUMBER_LIMIT}
use Rattle.tokens.specs.Numbers.{size_in}
use Rattle.tokens.specs.Words.{is_empty}

-- ---- numbers

-- a 0 stands in front of a digit
abbrev pub has_leading_zero : List ℕ → Bool
has_leading_zero (b ∷ c ∷ word) = b == 48
has_leading_zero word = false

abbrev pub below : ℕ → ℕ → Option ℕ
below limit n = if nat_lt n limit then Some n else None

-- the number below the limit that the word writes: digits alone, without a leading zero
abbrev pub number_below : ℕ → List ℕ → Option ℕ
number_below limit word = if has_leading_zero word then None else option_and_then (below limit) (size_in word)

-- the number of an input, of a variable, of an output or of a constraint, at most 4,294,967,295
abbrev pub index_in : List ℕ → Option ℕ
index_in word = number_below (2 ^ 32) word

-- the number of an entry or of a step
abbrev pub place_in : List ℕ → Option ℕ
place_in word = number_below NUMBER_LIMIT word

-- ---- nodes and literals

-- a node: `c` is the constant true, `i` an input by its number, `a` and `b` a gate of that circuit by its variable, `x` the XOR of
-- an output by the output's number
abbrev pub node_in : List ℕ → Option Node
node_in [] = None
node_in (kind ∷ number) =
    if kind == 99 then (if is_empty number then Some Const else None)
    else if kind == 105 then option_map Input (index_in number)
    else if kind == 97 then option_map (Gate A) (index_in number)
    else if kind == 98 then option_map (Gate B) (index_in number)
    else if kind == 120 then option_map Xor (index_in number)
    else None

abbrev pub literal_of : Bool → Node → Lit
literal_of neg node = record { node = node; neg = neg }

-- a literal: a node, with a minus sign in front where it is negated
abbrev pub literal_in : List ℕ → Option Lit
literal_in [] = None
literal_in (b ∷ word) =
    if b == 45 then option_map (literal_of true) (node_in word) else option_map (literal_of false) (node_in (b ∷ word))

-- ---- names of clauses

-- the two parts of a list of two
abbrev pub pair_of : List (List ℕ) → Option (List ℕ × List ℕ)
pair_of (first ∷ second ∷ []) = Some (first, second)
pair_of parts = None

-- the two parts of a word with one slash between
abbrev pub halves_of : List ℕ → Option (List ℕ × List ℕ)
halves_of word = pair_of (slice_split (λ b. b == 47) word)

-- `NODE/k`, a clause of those that define the node, by its number of at most 255
abbrev pub axiom_in : List ℕ → Option Ref
axiom_in word = option_and_then (λ h. option_and_then (λ n. option_map (Axiom n) (number_below 256 h.1)) (node_in h.0)) (halves_of word)

-- `n/s`, a clause of the entry with that number in the file, from 0: its first one, 0, or its second one, 1
abbrev pub shown_in : List ℕ → Option Ref
shown_in word = option_and_then (λ h. option_and_then (λ n. option_map (Shown n) (number_below 2 h.1)) (place_in h.0)) (halves_of word)

-- `aK` or `bK`, the unit of a constraint of that circuit, by its number
abbrev pub bound_in : List ℕ → Option Ref
bound_in [] = None
bound_in (side ∷ number) =
    if side == 97 then option_map (Bound A) (index_in number)
    else if side == 98 then option_map (Bound B) (index_in number)
    else None

-- the name of a clause: `NODE/k`, `#n/s`, `!aK` or `!bK`, or `@k`, the clause of step k of the same entry, from 0
abbrev pub name_in : List ℕ → Option Ref
name_in [] = None
name_in (b ∷ word) =
    if b == 35 then shown_in word
    else if b == 64 then option_map Own (place_in word)
    else if b == 33 then bound_in word
    else axiom_in (b ∷ word)
