-- What a script asks for: each check goes on from the one before it, and there are no more checks than lines.
use Rattle.std.proofs.Common.{◌≡◌, ℕ, ◌+◌, ◌≤◌, Bool, true, false, eqb, List, [], ◌∷◌, length, map, refl, sym, ap, ◌∙◌, arith}
use Rattle.byte_scan.specs.Reading.{Line, lines_from, onto_line}
use Rattle.netlist.specs.Net.{AigPair}
use Rattle.netlist_edits.specs.Edited.{edited, edited_all}
use Rattle.netlist_edits.specs.Script.{script_lines}
use Rattle.netlist_edits.proofs.Facts.{edited_all-last}
use Rattle.cec_top.specs.Script.{Due, Plan, Turn, Passes, Makes, AsksCheck, Fails, asked_by, asked_from, due_after, due_behind, plan_of, turn_of}

-- behind a check of this net, each of these goes on from the one before it
abbrev pub AreChained : AigPair → List Due → Type 0
AreChained last [] = Unit {0}
AreChained last (d ∷ ds) = (d.net ≡ edited_all last d.edits) × AreChained d.net ds

by-chained : (last : AigPair) (number : ℕ) (due : Due) (turn : Turn) (rest : Due → Plan) → due.net ≡ edited_all last due.edits
    → ((last : AigPair) (next : Due) → next.net ≡ edited_all last next.edits → AreChained last (rest next).checks)
    → AreChained last (asked_by number due turn rest).checks
by-chained last number due Passes rest is later = later last due is
by-chained last number due (Makes edit) rest is later =
    later last (due_after due edit) (ap (λ (n : AigPair). edited n edit) is ∙ sym (edited_all-last last due.edits edit))
by-chained last number due AsksCheck rest is later = (is, later due.net (due_behind due.net) refl)
by-chained last number due (Fails fault) rest is later = tt

pub lines-chained : (number : ℕ) (lines : List (List ℕ)) (last : AigPair) (due : Due) → due.net ≡ edited_all last due.edits
    → AreChained last (asked_from number due lines).checks
lines-chained number [] last due is = tt
lines-chained number (line ∷ lines) last due is =
    by-chained last number due (turn_of due.net line) (λ next. asked_from (number + 1) next lines) is
    (λ l next. lines-chained (number + 1) lines l next)

pub plan-chained : (net : AigPair) (lines : List (List ℕ)) → AreChained net (asked_from 1 (due_behind net) lines).checks
plan-chained net lines = lines-chained 1 lines net (due_behind net) refl

-- ---- how many there are

by-count : (k number : ℕ) (due : Due) (turn : Turn) (rest : Due → Plan)
    → ((next : Due) → length (rest next).checks ≤ k) → length (asked_by number due turn rest).checks ≤ k + 1
by-count k number due Passes rest few = omega (arith, few due)
by-count k number due (Makes edit) rest few = omega (arith, few (due_after due edit))
by-count k number due AsksCheck rest few = omega (arith, few (due_behind due.net))
by-count k number due (Fails fault) rest few = omega arith

lines-count : (number : ℕ) (lines : List (List ℕ)) (due : Due) → length (asked_from number due lines).checks ≤ length lines
lines-count number [] due = omega arith
lines-count number (line ∷ lines) due =
    omega (
      arith,
      by-count (length lines) number due (turn_of due.net line) (λ next. asked_from (number + 1) next lines)
          (λ next. lines-count (number + 1) lines next),
    )

pub plan-count : (net : AigPair) (lines : List (List ℕ)) → length (plan_of net lines).checks ≤ length lines + 1
plan-count net lines = omega (arith, lines-count 1 lines (due_behind net))

-- and no more lines than bytes
bytes-count : (at : ℕ) (bytes : List ℕ) → length (map {B = List ℕ} (λ (l : Line). l.text) (lines_from at bytes)) ≤ length bytes
bytes-count at [] = omega arith
bytes-count at (b ∷ bs) = go (eqb b 10) refl (bytes-count (at + 1) bs)
  where
    onto : (ls : List Line) → length (map {B = List ℕ} (λ (l : Line). l.text) (onto_line at b ls)) ≤ length (map {B = List ℕ} (λ (l : Line). l.text) ls) + 1
    onto [] = omega arith
    onto (l ∷ ls) = omega arith

    go : (t : Bool) → eqb b 10 ≡ t → length (map {B = List ℕ} (λ (l : Line). l.text) (lines_from (at + 1) bs)) ≤ length bs
        → length (map {B = List ℕ} (λ (l : Line). l.text) (lines_from at (b ∷ bs))) ≤ length (b ∷ bs)
    go true is few = rw is (omega (arith, few))
    go false is few = rw is (omega (arith, few, onto (lines_from (at + 1) bs)))

pub script-count : (bytes : List ℕ) → length (script_lines bytes) ≤ length bytes
script-count bytes = bytes-count 0 bytes
