-- The lines of a script as a scan gives them.
use Rattle.std.proofs.Common.{◌≡◌, ℕ, ◌+◌, ◌<◌, ◌≤◌, min, List, [], ◌∷◌, length, Some, None, refl, sym, ap, ◌∙◌, arith}
use Rattle.std.proofs.lemmas.Option.{none-some}
use Rattle.std.proofs.Math.ListN.{drop_of_length-le}
use Rattle.byte_scan.specs.Scanning.{Place, ahead, moved, line_of, next_line}
use Rattle.netlist_edits.specs.Script.{script_lines}
use Rattle.netlist_edits.proofs.Facts.{script_lines-next, script_lines-end}
use Rattle.std.proofs.Common.{inl, inr}
use Rattle.std.proofs.lemmas.Bool.{cases_lt}

-- at the front of the bytes
pub scan-start : (p : Place) (bytes : List ℕ) → p.bytes ≡ bytes → p.at ≡ 0 → ahead p ≡ bytes
scan-start p bytes bytes_is at_is = rw (bytes_is, at_is) refl

-- a line is read
pub record ReadsNext (p q : Place) (line : List ℕ) : Type 0 where
  pub whole : q.bytes ≡ p.bytes
  pub further : p.at < q.at
  pub within : q.at ≤ length p.bytes
  pub lines : script_lines (ahead p) ≡ line ∷ script_lines (ahead q)

not-past : (p : Place) (line : List ℕ) → next_line (ahead p) ≡ Some line → p.at < length p.bytes
not-past p line next =
    elim (cases_lt p.at (length p.bytes)) [
      | inl below ↦ below
      | inr past ↦
          let none : ahead p ≡ [] = drop_of_length-le p.bytes (omega (arith, past)) in
          absurd (none-some line (sym (ap next_line none) ∙ next))
    ]

pub scan-next : (p q : Place) (line : List ℕ) → Some line ≡ next_line (ahead p) → q ≡ moved p (length (line_of (ahead p)) + 1)
    → ReadsNext p q line
scan-next p q line next moves =
    let n = length (line_of (ahead p)) + 1 in
    let below = not-past p line (sym next) in
    let at : q.at ≡ min (p.at + n) (length p.bytes) = ap (λ (x : Place). x.at) moves in
    record {
      whole = ap (λ (x : Place). x.bytes) moves;
      further = omega (arith, at, below);
      within = omega (arith, at);
      lines = script_lines-next p line (sym next) ∙ ap (λ (x : Place). line ∷ script_lines (ahead x)) (sym moves);
    }

-- none is left
pub scan-end : (p : Place) → None ≡ next_line (ahead p) → script_lines (ahead p) ≡ []
scan-end p none = script_lines-end p (sym none)
