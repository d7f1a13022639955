-- The lines of an edit script. A line is its words with exactly one space between two of them, and has one of five forms:
--
--     set S LHS R0 R1
--     new S LHS R0 R1 end          or    new S LHS R0 R1 before LHS2
--     drop S LHS
--     out S J LIT
--     check
--
-- S is `a` or `b`. A number is one or more digits, leading zeros allowed, and at most 33554433; LHS and LHS2 are even besides,
-- so at most 33554432. Every byte between two spaces belongs to a word, a CR too, so a line with a space in front, at its end
-- or twice in a row has an empty word and none of the forms. A line without a byte asks for nothing. Whether the circuits have
-- what the numbers name isn't asked here: that is for `specs/Fault.antt`.
use Rattle.std.specs.Prelude.{ℕ, ◌*◌, ◌+◌, ◌%◌, Bool, true, ◌&&◌, codes, List, [], ◌∷◌, Option, Some, None, option_map, option_and_then, nat_le, ◌==◌, if◌then◌else◌}
use Rattle.std.specs.Str.{bytes_eq}
use Rattle.lits.specs.declared.node.Side.{Side}
use Rattle.lits.specs.declared.node.Side.TheVariants.{A, B}
use Rattle.byte_scan.specs.HeaderLine.{words_of}
use Rattle.tokens.specs.Numbers.{size_in}
use Rattle.netlist.specs.Circuit.{most}
use Rattle.netlist_edits.specs.declared.edit.Edit.{Edit}
use Rattle.netlist_edits.specs.declared.edit.Edit.TheVariants.{Set, New, Remove, Out}
use Rattle.netlist_edits.specs.declared.edit.Command.{Command}
use Rattle.netlist_edits.specs.declared.edit.Command.TheVariants as command

-- ---- numbers

-- a number that a line may have, be it a literal or an output's index: none is above the greatest literal that a circuit can
-- have, the negation of the greatest variable, 33554433
abbrev pub is_number : ℕ → Bool
is_number n = nat_le n (2 * most + 1)

-- a number that may name a gate: a literal that is no negation. So is 0, which no gate bears.
abbrev pub is_gate_literal : ℕ → Bool
is_gate_literal n = n % 2 == 0 && is_number n

-- a place that may be named for a new gate: a number that may name the gate behind it, or none for the end
abbrev pub is_place : Option ℕ → Bool
is_place None = true
is_place (Some n) = is_gate_literal n

-- the edit's numbers are such as a line may have
abbrev pub has_numbers_of_a_line : Edit → Bool
has_numbers_of_a_line (Set side lhs r0 r1) = is_gate_literal lhs && is_number r0 && is_number r1
has_numbers_of_a_line (New side lhs r0 r1 place) = is_gate_literal lhs && is_number r0 && is_number r1 && is_place place
has_numbers_of_a_line (Remove side lhs) = is_gate_literal lhs
has_numbers_of_a_line (Out side j lit) = is_number j && is_number lit

-- ---- words

-- the value, if there is one that passes the test
abbrev pub only : (ℕ → Bool) → Option ℕ → Option ℕ
only test value = option_and_then (λ n. if test n then Some n else None) value

-- the number that a word writes; none where the word has a byte that is no digit, has no byte, or writes a greater number than a
-- line may have
abbrev pub number_in : List ℕ → Option ℕ
number_in word = only is_number (size_in word)

-- such a number that may name a gate; none for an odd one too
abbrev pub gate_literal_in : List ℕ → Option ℕ
gate_literal_in word = only is_gate_literal (number_in word)

-- the circuit that a word names
abbrev pub side_in : List ℕ → Option Side
side_in word =
    if bytes_eq word (codes "a") then Some A
    else if bytes_eq word (codes "b") then Some B
    else None

-- what is read first goes on to what is read next
infixl 10 ◌>>=◌
abbrev pub ◌>>=◌ : {X Y : Type 0} → Option X → (X → Option Y) → Option Y
(Some x) >>= f = f x
None >>= f = None

-- ---- the words of each form behind its name

-- S LHS R0 R1
abbrev pub set_in : List (List ℕ) → Option Command
set_in (s ∷ lhs ∷ r0 ∷ r1 ∷ []) = do
  side ← side_in s
  gate ← gate_literal_in lhs
  left ← number_in r0
  right ← number_in r1
  Some (command.Edit (Set side gate left right))
set_in words = None

-- the place of a new gate: `end`, or `before` LHS2
abbrev pub place_in : List (List ℕ) → Option (Option ℕ)
place_in (name ∷ []) = if bytes_eq name (codes "end") then Some None else None
place_in (name ∷ lhs2 ∷ []) = if bytes_eq name (codes "before") then option_map Some (gate_literal_in lhs2) else None
place_in words = None

-- S LHS R0 R1, then the place
abbrev pub new_in : List (List ℕ) → Option Command
new_in (s ∷ lhs ∷ r0 ∷ r1 ∷ words) = do
  side ← side_in s
  gate ← gate_literal_in lhs
  left ← number_in r0
  right ← number_in r1
  place ← place_in words
  Some (command.Edit (New side gate left right place))
new_in words = None

-- S LHS
abbrev pub drop_in : List (List ℕ) → Option Command
drop_in (s ∷ lhs ∷ []) = do
  side ← side_in s
  gate ← gate_literal_in lhs
  Some (command.Edit (Remove side gate))
drop_in words = None

-- S J LIT
abbrev pub out_in : List (List ℕ) → Option Command
out_in (s ∷ j ∷ lit ∷ []) = do
  side ← side_in s
  output ← number_in j
  literal ← number_in lit
  Some (command.Edit (Out side output literal))
out_in words = None

-- none
abbrev pub check_in : List (List ℕ) → Option Command
check_in [] = Some command.Check
check_in words = None

-- ---- a line

-- the command that the words are
abbrev pub command_in : List (List ℕ) → Option Command
command_in [] = None
command_in (name ∷ words) =
    if bytes_eq name (codes "set") then set_in words
    else if bytes_eq name (codes "new") then new_in words
    else if bytes_eq name (codes "drop") then drop_in words
    else if bytes_eq name (codes "out") then out_in words
    else if bytes_eq name (codes "check") then check_in words
    else None

-- What a line spells: nothing where it is empty, else the command that its words are, the parts between its spaces; none
-- where they have none of the five forms.
abbrev pub spelled_in : List ℕ → Option (Option Command)
spelled_in [] = Some None
spelled_in (b ∷ bs) = option_map Some (command_in (words_of (b ∷ bs)))

-- the words of what is left of a line; none where nothing is left
abbrev pub words_left : Option (List ℕ) → List (List ℕ)
words_left (Some line) = words_of line
words_left None = []
