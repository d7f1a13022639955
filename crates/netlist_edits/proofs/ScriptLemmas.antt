-- A script line by line, and edit by edit.
use Rattle.std.proofs.Common.{◌≡◌, ℕ, suc, ◌+◌, min, Bool, true, false, eqb, List, [], ◌∷◌, ◌++◌, length, map, drop, Option, Some, None, refl, sym, ap, ◌∙◌, inl, inr, arith, subst}
use Rattle.std.proofs.Math.Dec.{eqb-suc-zero}
use Rattle.std.proofs.lemmas.Bool.{cases_lt}
use Rattle.std.proofs.lemmas.List.{drop-drop}
use Rattle.std.proofs.lemmas.Option.{none-some, same_Some}
use Rattle.std.proofs.Math.ListN.{drop_of_length-le}
use Rattle.byte_scan.specs.Scanning.{Place, ahead, moved, line_of, next_line}
use Rattle.byte_scan.specs.Reading.{Line, lines_from, onto_line}
use Rattle.lits.specs.declared.node.Side.TheVariants.{A, B}
use Rattle.netlist.specs.Net.{AigPair}
use Rattle.netlist_edits.specs.declared.edit.Edit.{Edit}
use Rattle.netlist_edits.specs.declared.edit.Edit.TheVariants.{Set, New, Remove, Out}
use Rattle.netlist_edits.specs.Edited.{edited, edited_all}
use Rattle.netlist_edits.specs.Script.{script_lines}

-- the net after one edit more
pub edited_all-last : (net : AigPair) (es : List Edit) (e : Edit) → edited_all net (es ++ e ∷ []) ≡ edited (edited_all net es) e
edited_all-last net [] e = refl
edited_all-last net (x ∷ xs) e = edited_all-last (edited net x) xs e

-- an edit changes no input
inputs-edit : (net : AigPair) (e : Edit) → (edited net e).a.inputs ≡ net.a.inputs
inputs-edit net (Set A lhs r0 r1) = refl
inputs-edit net (Set B lhs r0 r1) = refl
inputs-edit net (New A lhs r0 r1 place) = refl
inputs-edit net (New B lhs r0 r1 place) = refl
inputs-edit net (Remove A lhs) = refl
inputs-edit net (Remove B lhs) = refl
inputs-edit net (Out A j lit) = refl
inputs-edit net (Out B j lit) = refl

-- nor do edits
pub inputs-edited_all : (net : AigPair) (es : List Edit) → (edited_all net es).a.inputs ≡ net.a.inputs
inputs-edited_all net [] = refl
inputs-edited_all net (e ∷ es) = inputs-edited_all (edited net e) es ∙ inputs-edit net e

-- ---- lines, wherever they stand

abbrev texts : List Line → List (List ℕ)
texts ls = map (λ line. line.text) ls

-- the lines with this byte in front of the first
abbrev onto : ℕ → List (List ℕ) → List (List ℕ)
onto b [] = (b ∷ []) ∷ []
onto b (t ∷ ts) = (b ∷ t) ∷ ts

texts-onto : (at b : ℕ) (ls : List Line) → texts (onto_line at b ls) ≡ onto b (texts ls)
texts-onto at b [] = refl
texts-onto at b (l ∷ ls) = refl

texts-anywhere : (at from : ℕ) (bs : List ℕ) → texts (lines_from at bs) ≡ texts (lines_from from bs)
texts-anywhere at from [] = refl
texts-anywhere at from (b ∷ bs) = go (eqb b 10) refl (texts-anywhere (at + 1) (from + 1) bs)
  where
    go : (t : Bool) → eqb b 10 ≡ t → texts (lines_from (at + 1) bs) ≡ texts (lines_from (from + 1) bs)
        → texts (lines_from at (b ∷ bs)) ≡ texts (lines_from from (b ∷ bs))
    go true is rest = rw is (ap (λ (ts : List (List ℕ)). [] ∷ ts) rest)
    go false is rest = rw is (texts-onto at b (lines_from (at + 1) bs) ∙ ap (onto b) rest ∙ sym (texts-onto from b (lines_from (from + 1) bs)))

-- the first line, and those behind it
lines-behind : (b : ℕ) (bs : List ℕ)
    → script_lines (b ∷ bs) ≡ line_of (b ∷ bs) ∷ script_lines (drop (length (line_of (b ∷ bs)) + 1) (b ∷ bs))
lines-behind b [] = go (eqb b 10) refl
  where
    go : (t : Bool) → eqb b 10 ≡ t → script_lines (b ∷ []) ≡ line_of (b ∷ []) ∷ script_lines (drop (length (line_of (b ∷ [])) + 1) (b ∷ []))
    go true is = rw is refl
    go false is = rw is refl
lines-behind b (d ∷ bs) = go (eqb b 10) refl (texts-anywhere (0 + 1) 0 (d ∷ bs)) (lines-behind d bs)
  where
    go : (t : Bool) → eqb b 10 ≡ t → texts (lines_from (0 + 1) (d ∷ bs)) ≡ script_lines (d ∷ bs)
        → script_lines (d ∷ bs) ≡ line_of (d ∷ bs) ∷ script_lines (drop (length (line_of (d ∷ bs)) + 1) (d ∷ bs))
        → script_lines (b ∷ d ∷ bs) ≡ line_of (b ∷ d ∷ bs) ∷ script_lines (drop (length (line_of (b ∷ d ∷ bs)) + 1) (b ∷ d ∷ bs))
    go true is same rest = rw is (ap (λ (ts : List (List ℕ)). [] ∷ ts) same)
    go false is same rest =
        let count : suc (length (line_of (d ∷ bs))) + 1 ≡ suc (length (line_of (d ∷ bs)) + 1) = omega arith in
        rw (is, count) (texts-onto 0 b (lines_from (0 + 1) (d ∷ bs)) ∙ ap (onto b) (same ∙ rest))

-- ---- lines ahead of a scan

ahead-moved : (p : Place) (k : ℕ) → ahead (moved p k) ≡ drop k (ahead p)
ahead-moved p k =
    elim (cases_lt (length p.bytes) (p.at + k)) [
      | inl past ↦
          let most : min (p.at + k) (length p.bytes) ≡ length p.bytes = omega arith in
          let none : drop (p.at + k) p.bytes ≡ [] = drop_of_length-le p.bytes (omega arith) in
          let end : drop (length p.bytes) p.bytes ≡ [] = drop_of_length-le p.bytes (omega arith) in
          rw (most, end, drop-drop k p.at p.bytes, none) refl
      | inr within ↦ let fits : min (p.at + k) (length p.bytes) ≡ p.at + k = omega arith in rw (fits, drop-drop k p.at p.bytes) refl
    ]

next-some : (b : ℕ) (bs : List ℕ) → next_line (b ∷ bs) ≡ Some (line_of (b ∷ bs))
next-some b bs = rw eqb-suc-zero refl

-- where a line is left, it is the first of those ahead, and the later ones are those behind it
pub script_lines-next : (p : Place) (line : List ℕ) → next_line (ahead p) ≡ Some line
    → script_lines (ahead p) ≡ line ∷ script_lines (ahead (moved p (length (line_of (ahead p)) + 1)))
script_lines-next p line next = go (ahead p) refl
  where
    go : (bs : List ℕ) → ahead p ≡ bs → script_lines (ahead p) ≡ line ∷ script_lines (ahead (moved p (length (line_of (ahead p)) + 1)))
    go [] nil = absurd (none-some line (subst (λ (xs : List ℕ). next_line xs ≡ Some line) nil next))
    go (b ∷ bs) some =
        let text : line_of (b ∷ bs) ≡ line = same_Some (line_of (b ∷ bs)) line (sym (next-some b bs) ∙ subst (λ (xs : List ℕ). next_line xs ≡ Some line) some next) in
        let first : script_lines (ahead p) ≡ line_of (ahead p) ∷ script_lines (drop (length (line_of (ahead p)) + 1) (ahead p)) =
        subst (λ (xs : List ℕ). script_lines xs ≡ line_of xs ∷ script_lines (drop (length (line_of xs) + 1) xs)) (sym some) (lines-behind b bs) in
        first ∙ ap (λ (t : List ℕ). t ∷ script_lines (drop (length (line_of (ahead p)) + 1) (ahead p))) (ap line_of some ∙ text)
        ∙ ap (λ (xs : List ℕ). line ∷ script_lines xs) (sym (ahead-moved p (length (line_of (ahead p)) + 1)))

-- and where none is left there is none
pub script_lines-end : (p : Place) → next_line (ahead p) ≡ None → script_lines (ahead p) ≡ []
script_lines-end p none = go (ahead p) refl
  where
    go : (bs : List ℕ) → ahead p ≡ bs → script_lines (ahead p) ≡ []
    go [] nil = ap script_lines nil
    go (b ∷ bs) some = absurd (none-some (line_of (b ∷ bs)) (sym (subst (λ (xs : List ℕ). next_line xs ≡ None) some none) ∙ next-some b bs))
