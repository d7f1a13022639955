-- The lines of a text, as a scan gives them one by one.
use Rattle.std.proofs.Common.{◌≡◌, ℕ, suc, ◌+◌, ◌<◌, ◌≤◌, Bool, true, false, eqb, min, List, [], ◌∷◌, Option, Some, None, length, drop, refl, sym, ap, ◌∙◌, inl, inr, ◌⊎◌, ne_eqb, length-drop, arith}
use Rattle.std.proofs.Math.ListN.{drop_of_length-le}
use Rattle.std.proofs.lemmas.Bool.{cases_lt}
use Rattle.std.proofs.lemmas.List.{drop-drop}
use Rattle.byte_scan.specs.Scanning.{Place, ahead, moved, line_of, next_line}
use Rattle.tokens.specs.Words.{lines_in}

-- how many bytes the first line has with its LF
abbrev past : List ℕ → ℕ
past text = length (line_of text) + 1

-- the first line is the last one, or has others behind its LF
abbrev IsSplit : List ℕ → Type 0
IsSplit text =
    ((lines_in text ≡ line_of text ∷ []) × (drop (past text) text ≡ []))
    ⊎ ((lines_in text ≡ line_of text ∷ lines_in (drop (past text) text)) ×
    (length (line_of text) < length text))

split_line : (text : List ℕ) → IsSplit text
split_line [] = inl (refl, refl)
split_line (b ∷ bs) = go (eqb b 10) refl (split_line bs)
  where
    go : (t : Bool) → eqb b 10 ≡ t → IsSplit bs → IsSplit (b ∷ bs)
    go true e rest =
        let none : line_of (b ∷ bs) ≡ [] = rw e refl in
        inr (rw none (rw e refl), rw none (omega arith))
    go false e rest =
        let more : line_of (b ∷ bs) ≡ b ∷ line_of bs = rw e refl in
        let k : length (b ∷ line_of bs) + 1 ≡ suc (length (line_of bs) + 1) = omega arith in
        elim rest [
          | inl (last, end) ↦ inl (rw (more, e, last) refl, rw (more, k) end)
          | inr (others, less) ↦
              let longer : length (b ∷ line_of bs) < length (b ∷ bs) = omega arith in
              inr (rw (more, k) (rw (e, others) refl), rw more longer)
        ]

line_of-short : (text : List ℕ) → length (line_of text) ≤ length text
line_of-short [] = omega arith
line_of-short (b ∷ bs) = go (eqb b 10) refl (line_of-short bs)
  where
    go : (t : Bool) → eqb b 10 ≡ t → length (line_of bs) ≤ length bs
        → length (line_of (b ∷ bs)) ≤ length (b ∷ bs)
    go true e le = rw e (omega arith)
    go false e le = let more : length (b ∷ line_of bs) ≤ length (b ∷ bs) = omega arith in rw e more

next_line-some : (text line : List ℕ) → Some line ≡ next_line text
    → (line ≡ line_of text) × (0 < length text)
next_line-some [] line e = let f : ◌≡◌ {A = Option (List ℕ)} (Some line) None = e in cc
next_line-some (b ∷ bs) line e =
    let apart : eqb (length (b ∷ bs)) 0 ≡ false = ne_eqb _ _ (λ f. omega arith) in
    let f : Some line ≡ Some (line_of (b ∷ bs)) = e ∙ rw apart refl in
    (cc, omega arith)

-- what is ahead behind n bytes more
pub ahead-moved : (p : Place) (n : ℕ) → ahead (moved p n) ≡ drop n (ahead p)
ahead-moved p n = go (cases_lt (p.at + n) (length p.bytes)) ∙ sym (drop-drop n p.at p.bytes)
  where
    go : (p.at + n < length p.bytes) ⊎ (length p.bytes ≤ p.at + n)
        → ahead (moved p n) ≡ drop (p.at + n) p.bytes
    go (inl less) =
        let same : min (p.at + n) (length p.bytes) ≡ p.at + n = omega arith in
        ap (λ (k : ℕ). drop k p.bytes) same
    go (inr end) =
        let same : min (p.at + n) (length p.bytes) ≡ length p.bytes = omega arith in
        ap (λ (k : ℕ). drop k p.bytes) same
        ∙ drop_of_length-le p.bytes {i = length p.bytes} (omega arith)
        ∙ sym (drop_of_length-le p.bytes end)

-- a line is read from p on, and the scan then stands at q
pub record ReadsLine (p q : Place) (line : List ℕ) : Type 0 where
  pub whole : q.bytes ≡ p.bytes
  pub further : p.at < q.at
  pub room : p.at + length line ≤ q.at
  pub within : q.at ≤ length p.bytes
  pub lines :
      ((lines_in (ahead p) ≡ line ∷ []) × (ahead q ≡ []))
      ⊎ ((lines_in (ahead p) ≡ line ∷ lines_in (ahead q)) × (q.at ≡ p.at + length line + 1))

pub reads_line : (p q : Place) (line : List ℕ) → Some line ≡ next_line (ahead p)
    → q ≡ moved p (past (ahead p))
    → ReadsLine p q line
reads_line p q line e m =
    let is = next_line-some (ahead p) line e in
    let len = ap (λ (l : List ℕ). length l) is.0 in
    let at = ap (λ (r : Place). r.at) m in
    let left = length-drop p.at p.bytes in
    let short = line_of-short (ahead p) in
    let rest : ahead q ≡ drop (past (ahead p)) (ahead p) = ap ahead m
    ∙ ahead-moved p (past (ahead p)) in
    record {
      whole = ap (λ (r : Place). r.bytes) m;
      further = omega (arith, at, left, is.1);
      room = omega (arith, at, len, left, short, is.1);
      within = omega (arith, at);
      lines = elim (split_line (ahead p)) [
        | inl (only, end) ↦ inl (rw is.0 only, rest ∙ end)
        | inr (others, less) ↦ inr (rw (is.0, rest) others, omega (arith, at, len, left, less))
      ];
    }
