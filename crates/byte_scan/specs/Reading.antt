-- The parts that both forms of AIGER share (A. Biere, The AIGER And-Inverter Graph Format, 2007; AIGER 1.9). A reader
-- goes from a place in the bytes to what it read and the place behind it, or to the first fault.
use Rattle.std.specs.Prelude.{◌≡◌, ℕ, ◌+◌, ◌*◌, Bool, false, ◌&&◌, ◌||◌, List, [], ◌∷◌, length, drop, Option, Some, None, Result, Ok, Err, nat_lt, ◌==◌, if◌then◌else◌}
use Rattle.std.specs.Prelude.{map, min, not, reverse, slice_set}
use Rattle.std.specs.Option.{option_map}
use Rattle.std.specs.List.{find, range_with_len}
use Rattle.symbol_names.specs.declared.names.Names.{Names}
use Rattle.symbol_names.specs.NameList.{joined, name_of}
use Rattle.byte_scan.specs.declared.errors.AigerErr.{AigerErr}
use Rattle.byte_scan.specs.declared.errors.AigerErr.TheVariants.{BadHeader, BadNumber, Truncated, BadLiteral, BadSymbol, NoMemory}
use Rattle.byte_scan.specs.declared.counts.Header.{Header}
use Rattle.byte_scan.specs.Scanning.{Place, ahead, moved, digits, value, number_of, line_of}
use Rattle.byte_scan.specs.HeaderLine.{header_numbers, header_of, numbers_fault}

-- what is read where nothing is wrong, and else the first fault
infixl 10 ◌>>=◌
abbrev pub ◌>>=◌ : {A B : Type 0} → Result A AigerErr → (A → Result B AigerErr) → Result B AigerErr
(Ok x) >>= f = f x
(Err e) >>= f = Err e

-- the front of the bytes
abbrev pub start : List ℕ → Place
start bytes = record { bytes = bytes; at = 0 }

-- ---- the header line

abbrev pub header_unless : Option AigerErr → Header → Result Header AigerErr
header_unless (Some e) h = Err e
header_unless None h = Ok h

abbrev pub header_from : ℕ → Option (List ℕ) → Result Header AigerErr
header_from letter None = Err BadHeader
header_from letter (Some ns) = header_unless (numbers_fault letter (Some ns)) (header_of ns)

-- the header, with the letter `a` or `i` between `a` and `g`
abbrev pub header_at : ℕ → Place → Result (Header × Place) AigerErr
header_at letter p = do
  h ← header_from letter (header_numbers letter (line_of (ahead p)))
  Ok (h, moved p (length (line_of (ahead p)) + 1))

-- ---- lines of numbers

-- something else is due where this byte, or the end of the input, stands
abbrev pub misplaced : Place → AigerErr
misplaced p = if nat_lt p.at (length p.bytes) then BadNumber p.at else Truncated (length p.bytes)

-- the fault of what was found at a place
abbrev pub misplaced_as : ℕ → Option ℕ → AigerErr
misplaced_as at (Some b) = BadNumber at
misplaced_as at None = Truncated at

abbrev pub number_or : Option ℕ → Place → Result (ℕ × Place) AigerErr
number_or None p = Err (misplaced p)
number_or (Some n) p = Ok (n, moved p (length (digits (ahead p))))

-- the number that is due: one or more digits
abbrev pub number_at : Place → Result (ℕ × Place) AigerErr
number_at p = number_or (number_of (ahead p)) p

abbrev pub space_in : List ℕ → Place → Result Place AigerErr
space_in [] p = Err (misplaced p)
space_in (b ∷ bs) p = if b == 32 then Ok (moved p 1) else Err (misplaced p)

-- the space that is due
abbrev pub space_at : Place → Result Place AigerErr
space_at p = space_in (ahead p) p

abbrev pub line_end_in : List ℕ → Place → Result Place AigerErr
line_end_in [] p = Ok (moved p 1)
line_end_in (b ∷ bs) p = if b == 10 then Ok (moved p 1) else Err (misplaced p)

-- the end of the line that is due: LF, or the end of the input in its stead
abbrev pub line_end_at : Place → Result Place AigerErr
line_end_at p = line_end_in (ahead p) p

-- a line of one number
abbrev pub number_line_at : Place → Result (ℕ × Place) AigerErr
number_line_at p = do
  n ← number_at p
  q ← line_end_at n.1
  Ok (n.0, q)

-- A literal that is used is at most 2M + 1.
abbrev pub used : ℕ → ℕ → Result ℕ AigerErr
used m n = if nat_lt (2 * m + 1) n then Err (BadLiteral n) else Ok n

-- a line of one literal that is used, as each output has
abbrev pub literal_line_at : ℕ → Place → Result (ℕ × Place) AigerErr
literal_line_at m p = do
  n ← number_line_at p
  lit ← used m n.0
  Ok (lit, n.1)

-- ---- the tail: symbols and a comment

-- a line: the place of its first byte, and its bytes up to its LF
pub record Line : Type 0 where
  pub at : ℕ
  pub text : List ℕ

-- the lines with this byte, at this place, put in front of the first
abbrev pub onto_line : ℕ → ℕ → List Line → List Line
onto_line at b [] = record { at = at; text = b ∷ [] } ∷ []
onto_line at b (line ∷ lines) = record { at = at; text = b ∷ line.text } ∷ lines

-- The lines of bytes whose first stands at this place. Each is ended by LF, the last one perhaps by the end of input.
abbrev pub lines_from : ℕ → List ℕ → List Line
lines_from at [] = []
lines_from at (b ∷ bs) =
    if b == 10 then record { at = at; text = [] } ∷ lines_from (at + 1) bs
    else onto_line at b (lines_from (at + 1) bs)

abbrev pub lines_ahead : Place → List Line
lines_ahead p = lines_from p.at (ahead p)

abbrev pub begins_with : ℕ → List ℕ → Bool
begins_with byte [] = false
begins_with byte (b ∷ bs) = b == byte

-- a number below this one, a space, and any bytes
abbrev pub is_named : ℕ → List ℕ → Bool
is_named count text =
    nat_lt 0 (length (digits text)) && nat_lt (value (digits text)) count && begins_with 32 (drop (length (digits text)) text)

-- A symbol line names an input, `i` (105), or an output, `o` (111).
abbrev pub is_symbol : ℕ → ℕ → List ℕ → Bool
is_symbol inputs outputs [] = false
is_symbol inputs outputs (b ∷ bs) = b == 105 && is_named inputs bs || b == 111 && is_named outputs bs

-- the number behind the letter of a symbol line, which is the place that it names
abbrev pub place_in : List ℕ → ℕ
place_in [] = 0
place_in (b ∷ bs) = value (digits bs)

-- the bytes behind the space
abbrev pub symbol_in : List ℕ → List ℕ
symbol_in [] = []
symbol_in (b ∷ bs) = drop (length (digits bs) + 1) bs

-- The symbol lines up to the end of the input, or up to a line that begins with `c` (99): from there on all is comment.
abbrev pub symbols_of : ℕ → ℕ → List Line → Result (List (List ℕ)) AigerErr
symbols_of inputs outputs [] = Ok []
symbols_of inputs outputs (line ∷ lines) =
    if begins_with 99 line.text then Ok []
    else if is_symbol inputs outputs line.text then (symbols_of inputs outputs lines >>= λ rest. Ok (line.text ∷ rest))
    else Err (BadSymbol line.at)

-- the symbol line is for this letter and place
abbrev pub is_for : ℕ → ℕ → List ℕ → Bool
is_for letter k line = begins_with letter line && place_in line == k

-- The name that symbol lines give to a place: that of the last line for it. An empty one is none.
abbrev pub named_by : List (List ℕ) → ℕ → ℕ → Option (List ℕ)
named_by lines letter k = joined (option_map (λ line. name_of (symbol_in line)) (find (is_for letter k) (reverse lines)))

-- one place for each input and each output, with the name that the symbol lines give to it
abbrev pub names_by : ℕ → ℕ → List (List ℕ) → Names
names_by inputs outputs lines = record {
  inputs = map (named_by lines 105) (range_with_len 0 inputs);
  outputs = map (named_by lines 111) (range_with_len 0 outputs);
}

-- The names that the tail gives: symbol lines and then, perhaps, a comment.
abbrev pub tail_of : ℕ → ℕ → List Line → Result Names AigerErr
tail_of inputs outputs lines = symbols_of inputs outputs lines >>= λ symbols. Ok (names_by inputs outputs symbols)

-- How many bytes lie behind where the reading of the tail ends: those up to the end of the first line that begins a comment or
-- is no symbol line, and all where there is none.
abbrev pub tail_end : ℕ → ℕ → ℕ → List Line → ℕ
tail_end inputs outputs all [] = all
tail_end inputs outputs all (line ∷ lines) =
    if begins_with 99 line.text || not (is_symbol inputs outputs line.text) then min (line.at + length line.text + 1) all
    else tail_end inputs outputs all lines

-- the place where the reading of the tail ends
abbrev pub behind_tail : ℕ → ℕ → Place → Place
behind_tail inputs outputs p = record { bytes = p.bytes; at = tail_end inputs outputs (length p.bytes) (lines_ahead p) }

-- ---- what a function answers

-- the error is the fault that was found, or memory ran out
abbrev pub IsFault : {A : Type 0} → AigerErr → Result A AigerErr → Type 0
IsFault NoMemory found = Unit {0}
IsFault error found = found ≡ Err error

-- what is answered is what there is to find, unless memory ran out
abbrev pub Gives : {A : Type 0} → Result A AigerErr → Result A AigerErr → Type 0
Gives (Ok x) found = found ≡ Ok x
Gives (Err e) found = IsFault e found

-- and where it was read, this is the place behind it
abbrev pub Reads : {A : Type 0} → Result A AigerErr → Place → Result (A × Place) AigerErr → Type 0
Reads (Ok x) new found = found ≡ Ok (x, new)
Reads (Err e) new found = IsFault e found

-- nothing is answered but that it was read
abbrev pub Passes : {A : Type 0} → Result A AigerErr → Place → Result Place AigerErr → Type 0
Passes (Ok x) new found = found ≡ Ok new
Passes (Err e) new found = IsFault e found

-- whatever is answered, this is the place behind; where memory ran out it is some place in the same bytes
abbrev pub Ends : {A : Type 0} → Result A AigerErr → Place → Place → Type 0
Ends (Err NoMemory) new place = new.bytes ≡ place.bytes
Ends answer new place = new ≡ place

-- the names with that of one more symbol line
abbrev pub with_symbol : List ℕ → Names → Names
with_symbol line names = record {
  inputs =
      if begins_with 105 line then slice_set names.inputs (place_in line) (name_of (symbol_in line)) else names.inputs;
  outputs =
      if begins_with 111 line then slice_set names.outputs (place_in line) (name_of (symbol_in line)) else names.outputs;
}
