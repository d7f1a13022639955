-- The lines of an edit script, of which `specs/Line.antt` says what each spells.
use Rattle.std.specs.Prelude.{ℕ, List, map}
use Rattle.byte_scan.specs.Reading.{lines_from}

-- The lines of the bytes, in order, empty ones too, each without its end. A line is ended by LF, and the last one may lack it:
-- so behind a last LF stands no line, and no bytes have none.
abbrev pub script_lines : List ℕ → List (List ℕ)
script_lines bytes = map (λ line. line.text) (lines_from 0 bytes)
