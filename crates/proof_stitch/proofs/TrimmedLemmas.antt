-- What is written of a proof derives, has ids without gaps, and can be written.
use Rattle.std.proofs.Common.{◌≡◌, ℕ, suc, ◌+◌, ◌*◌, ◌<◌, ◌≤◌, ◌^◌, Bool, true, false, not, ◌&&◌, ◌||◌, List, [], ◌∷◌, ◌++◌, length, map, if◌then◌else◌, refl, sym, ap, ◌∙◌, subst, arith, add-zero, length-append, append_assoc, inl}
use Rattle.std.specs.Prelude.{filter}
use Rattle.std.specs.List.{list_any, AllByRecursion}
use Rattle.std.proofs.lemmas.Bool.{le-leb, or_right}
use Rattle.std.proofs.lemmas.List.{map-append, length-map}
use Rattle.lits.proofs.Facts.{all-append, all-filter}
use Rattle.lrat_text.specs.declared.step.LratStep.{LratStep}
use Rattle.lrat_text.specs.declared.step.LratStep.TheVariants.{Add, Del}
use Rattle.lrat_text.specs.Reading.{SpellsLrat}
use Rattle.lrat_text.specs.Writing.{numbered, text_from, IsId, AreWritable}
use Rattle.lrat_text.specs.Derivation.{formula_live, adds_empty, Derives}
use Rattle.proof_stitch.specs.Trimmed.{id_in, cites, is_cited, reached, last_cited, deletion, with_deletions, new_id, renamed, trimmed, HaveNoGaps, is_addition}
use Rattle.proof_stitch.specs.Progress.{InRow}
use Rattle.proof_stitch.proofs.GrowLemmas.{Formula, Grows, live-range}
use Rattle.proof_stitch.proofs.RowLemmas.{grows-row, all-above, reached-all, reached-few, upto, upto-all, upto-none, upto-append, new_id-few, new_id-some}
use Rattle.proof_stitch.proofs.TrimLemmas.{trim-from}

-- ids of the formula stay
pub new_id-low : (m : ℕ) (lines : List LratStep) (n : ℕ) → n ≤ m → AllByRecursion (λ l. m < id_in l) lines → new_id m lines n ≡ n
new_id-low m lines n le above = omega (arith, le, upto-none n lines (go lines above))
  where
    go : (ls : List LratStep) → AllByRecursion (λ l. m < id_in l) ls → AllByRecursion (λ l. n < id_in l) ls
    go [] all = tt
    go (l ∷ ls) all = (omega (arith, le, all.0), go ls all.1)

-- what is written derives
pub trimmed-derives : (formula : Formula) (asked : ℕ → Bool) (lines : List LratStep) → Grows formula lines
    → Derives formula (numbered 1 (trimmed (length formula) asked lines))
trimmed-derives formula asked lines g =
    trim-from (length formula) asked kept lines formula [] (formula_live formula) 1 g (record {
      parts = refl;
      within = omega arith;
      known = λ n w le. inl le;
      low = λ n h. cc;
      lives = λ n c w e.
          let range = live-range formula n c e in
          ap (formula_live formula) (new_id-low (length formula) kept n range.1 above) ∙ e;
    })
  where
    kept : List LratStep
    kept = reached asked lines

    above : AllByRecursion (λ l. length formula < id_in l) kept
    above = reached-all (λ l. length formula < id_in l) asked lines (all-above (length formula) lines (grows-row formula lines g))

-- ---- how many

-- one deletion at most
deletion-short : (ids : List ℕ) → length (deletion ids) ≤ 1
deletion-short [] = omega arith
deletion-short (n ∷ ns) = omega arith

-- each line has one at most
with_deletions-short : (asked : ℕ → Bool) (before lines : List LratStep) → length (with_deletions asked before lines) ≤ 2 * length lines
with_deletions-short asked before [] = omega arith
with_deletions-short asked before (line ∷ lines) =
    omega (
      arith,
      length-append (deletion (last_cited asked before line lines)) (with_deletions asked (before ++ line ∷ []) lines),
      deletion-short (last_cited asked before line lines),
      with_deletions-short asked (before ++ line ∷ []) lines,
    )

-- what is written is at most twice as long
pub trimmed-short : (m : ℕ) (asked : ℕ → Bool) (lines : List LratStep) → length (trimmed m asked lines) ≤ 2 * length lines
trimmed-short m asked lines =
    omega (
      arith,
      length-map (with_deletions asked [] (reached asked lines)) (renamed (new_id m (reached asked lines))),
      with_deletions-short asked [] (reached asked lines),
      reached-few asked lines,
    )

-- ---- ids

-- the line that comes next bears the next new id
pub new_id-next : (m : ℕ) (done left : List LratStep) (line : LratStep) (last : ℕ) → id_in line ≡ last + 1 → m ≤ last
    → AllByRecursion (λ l. id_in l ≤ last) done → AllByRecursion (λ l. last + 1 < id_in l) left
    → new_id m (done ++ line ∷ left) (id_in line) ≡ m + length done + 1
new_id-next m done left line last is le low high =
    omega (arith, is, le, upto-append (id_in line) done (line ∷ left), upto-all (id_in line) done (below done low), here)
  where
    below : (ls : List LratStep) → AllByRecursion (λ l. id_in l ≤ last) ls → AllByRecursion (λ l. id_in l ≤ id_in line) ls
    below [] all = tt
    below (l ∷ ls) all = (omega (arith, is, all.0), below ls all.1)

    behind : (ls : List LratStep) → AllByRecursion (λ l. last + 1 < id_in l) ls → AllByRecursion (λ l. id_in line < id_in l) ls
    behind [] all = tt
    behind (l ∷ ls) all = (omega (arith, is, all.0), behind ls all.1)

    here : upto (id_in line) (line ∷ left) ≡ 1
    here = rw (le-leb (id_in line) (id_in line) (omega arith)) (ap suc (upto-none (id_in line) left (behind left high)))

module _ (m : ℕ) (asked : ℕ → Bool) (kept : List LratStep) where
  abbrev name : ℕ → ℕ
  name = new_id m kept

  -- where a proof stands behind the lines with ids up to `last`
  pub record IsRow (last : ℕ) (done left : List LratStep) : Type 0 where
    pub parts : kept ≡ done ++ left
    pub least : m ≤ last
    pub low : AllByRecursion (λ l. (m < id_in l) × (id_in l ≤ last)) done

  -- a line that isn't reached
  pub row-skip : {last : ℕ} {done left : List LratStep} → IsRow last done left → IsRow (last + 1) done left
  row-skip {last} {done} {left} row = record {
    parts = row.parts;
    least = omega (arith, row.least);
    low = go done row.low;
  }
    where
      go : (ls : List LratStep) → AllByRecursion (λ l. (m < id_in l) × (id_in l ≤ last)) ls → AllByRecursion (λ l. (m < id_in l) × (id_in l ≤ last + 1)) ls
      go [] all = tt
      go (l ∷ ls) all = ((all.0.0, omega (arith, all.0.1)), go ls all.1)

  module _ {last : ℕ} {done left : List LratStep} (line : LratStep) (is : id_in line ≡ last + 1) (row : IsRow last done (line ∷ left)) where
    -- one that is
    pub row-step : IsRow (last + 1) (done ++ line ∷ []) left
    row-step =
        let wider = row-skip row in
        record {
          parts = row.parts ∙ sym (append_assoc done (line ∷ []) left);
          least = wider.least;
          low =
              all-append (λ l. (m < id_in l) × (id_in l ≤ last + 1)) done (line ∷ []) wider.low
              ((omega (arith, is, row.least), omega (arith, is)), tt);
        }

    -- its new id
    pub row-name : AllByRecursion (λ l. last + 1 < id_in l) left → name (id_in line) ≡ m + length done + 1
    row-name high =
        ap (λ (l : List LratStep). new_id m l (id_in line)) row.parts
        ∙ new_id-next m done left line last is row.least (go done row.low) high
      where
        go : (ls : List LratStep) → AllByRecursion (λ l. (m < id_in l) × (id_in l ≤ last)) ls → AllByRecursion (λ l. id_in l ≤ last) ls
        go [] all = tt
        go (l ∷ ls) all = (all.0.1, go ls all.1)

  -- ids of lines before are above those of the formula
  pub row-ids : {last : ℕ} {done left : List LratStep} → IsRow last done left → AllByRecursion (λ n. m < n) (map id_in done)
  row-ids {last} {done} {left} row = go done row.low
    where
      go : (ls : List LratStep) → AllByRecursion (λ l. (m < id_in l) × (id_in l ≤ last)) ls → AllByRecursion (λ n. m < n) (map id_in ls)
      go [] all = tt
      go (l ∷ ls) all = (all.0.0, go ls all.1)

  module _ (some : 1 ≤ m) (few : m + length kept < 10 ^ 18) where
    -- new ids can be written
    ids-fit : (ids : List ℕ) → AllByRecursion (λ n. 1 ≤ n) ids → AllByRecursion IsId (map name ids)
    ids-fit [] all = tt
    ids-fit (n ∷ ns) all =
        ((new_id-some m kept n some all.0, omega (arith, few, new_id-few m kept n)), ids-fit ns all.1)

    gone-fit : {last : ℕ} {done left : List LratStep} → IsRow last done left → (test : ℕ → Bool) → AllByRecursion IsId (map name (filter test (map id_in done)))
    gone-fit {last} {done} {left} row test =
        ids-fit (filter test (map id_in done)) (go (filter test (map id_in done)) (all-filter (λ n. m < n) test (map id_in done) (row-ids row)))
      where
        go : (ns : List ℕ) → AllByRecursion (λ n. m < n) ns → AllByRecursion (λ n. 1 ≤ n) ns
        go [] all = tt
        go (n ∷ ns) all = (omega (arith, all.0), go ns all.1)

    hints-fit : (last : ℕ) (hints : List ℕ) → AllByRecursion (λ h. (1 ≤ h) × (h ≤ last)) hints → AllByRecursion IsId (map name hints)
    hints-fit last [] all = tt
    hints-fit last (h ∷ hs) all =
        ((new_id-some m kept h some all.0.0, omega (arith, few, new_id-few m kept h)), hints-fit last hs all.1)

    abbrev IsFit : ℕ → List LratStep → Type 0
    IsFit last lines = AreWritable last lines × HaveNoGaps last lines

    -- a deletion, and what stands behind it
    fit-behind : (ids : List ℕ) (last : ℕ) (rest : List LratStep) → AllByRecursion IsId (map name ids) → IsFit last rest
        → IsFit last (map (renamed name) (deletion ids) ++ rest)
    fit-behind [] last rest fit all = all
    fit-behind (n ∷ ns) last rest fit all = ((fit, all.0), all.1)

    pub fit-from : (lines : List LratStep) (last : ℕ) (done : List LratStep) → InRow last lines → IsRow last done (reached asked lines)
        → IsFit (m + length done) (map (renamed name) (with_deletions asked done (reached asked lines)))
    fit-from [] last done in_row row = (tt, tt)
    fit-from (Del ids ∷ lines) last done in_row row = absurd in_row.0
    fit-from (Add id clause hints ∷ lines) last done in_row row =
        go (asked id || is_cited (reached asked lines) id) refl (λ done'. fit-from lines (last + 1) done' in_row.1)
      where
        left : List LratStep
        left = reached asked lines

        line : LratStep
        line = Add id clause hints

        go : (b : Bool) → (asked id || is_cited (reached asked lines) id) ≡ b
            → ((done' : List LratStep) → IsRow (last + 1) done' left → IsFit (m + length done') (map (renamed name) (with_deletions asked done' left)))
            → IsFit (m + length done) (map (renamed name) (with_deletions asked done (reached asked (Add id clause hints ∷ lines))))
        go false e rest =
            rw e (rest done (row-skip (subst (λ (b : Bool). IsRow last done (if b then line ∷ left else left)) e row)))
        go true e rest = rw e (
          (
            (
              omega (arith, next),
              omega (arith, next, few, new_id-few m kept id),
              in_row.0.2,
              hints-fit last hints in_row.0.1,
            ),
            whole.0,
          ),
          (next, whole.1),
        )
          where
            row' : IsRow last done (line ∷ left)
            row' = subst (λ (b : Bool). IsRow last done (if b then line ∷ left else left)) e row

            high : AllByRecursion (λ l. last + 1 < id_in l) left
            high = reached-all (λ l. last + 1 < id_in l) asked lines (all-above (last + 1) lines in_row.1)

            next : name id ≡ m + length done + 1
            next = row-name line in_row.0.0 row' high

            last' : m + length (done ++ line ∷ []) ≡ name id
            last' = omega (arith, next, length-append done (line ∷ []))

            behind : IsFit (name id) (map (renamed name) (with_deletions asked (done ++ line ∷ []) left))
            behind =
                subst (λ (n : ℕ). IsFit n (map (renamed name) (with_deletions asked (done ++ line ∷ []) left))) last'
                (rest (done ++ line ∷ []) (row-step line in_row.0.0 row'))

            whole : IsFit (name id) (map (renamed name) (deletion (last_cited asked done line left) ++ with_deletions asked (done ++ line ∷ []) left))
            whole =
                subst (λ (l : List LratStep). IsFit (name id) l)
                (sym (map-append (renamed name) (deletion (last_cited asked done line left)) (with_deletions asked (done ++ line ∷ []) left)))
                (fit-behind (last_cited asked done line left) (name id) (map (renamed name) (with_deletions asked (done ++ line ∷ []) left))
                (gone-fit row' (λ n. cites line n && not (asked n || is_cited left n))) behind)

-- at the start
pub row-start : (m : ℕ) (asked : ℕ → Bool) (lines : List LratStep) → IsRow m asked (reached asked lines) m [] (reached asked lines)
row-start m asked lines = record { parts = refl; least = omega arith; low = tt }

-- what is written has ids without gaps, and can be written
pub trimmed-fit : (m : ℕ) (asked : ℕ → Bool) (lines : List LratStep) → InRow m lines → 1 ≤ m → m + length lines < 10 ^ 18
    → AreWritable m (trimmed m asked lines) × HaveNoGaps m (trimmed m asked lines)
trimmed-fit m asked lines in_row some few =
    subst (λ (n : ℕ). AreWritable n (trimmed m asked lines) × HaveNoGaps n (trimmed m asked lines)) (add-zero m)
    (fit-from m asked (reached asked lines) some (omega (arith, few, reached-few asked lines)) lines m [] in_row (row-start m asked lines))

-- what is written spells its lines
abbrev pub Spelling : Type 0
Spelling = (m : ℕ) (steps : List LratStep) → m < 2 ^ 64 → AreWritable m steps → SpellsLrat m (text_from m steps) (numbered 1 steps)

-- What is written of lines by which a formula grows.
pub record IsWritten (formula : Formula) (lines : List LratStep) : Type 0 where
  pub spells : SpellsLrat (length formula) (text_from (length formula) lines) (numbered 1 lines)
  pub derives : Derives formula (numbered 1 lines)
  pub ids : HaveNoGaps (length formula) lines

pub trimmed-written : (formula : Formula) (asked : ℕ → Bool) (lines : List LratStep) → Spelling → Grows formula lines
    → 1 ≤ length formula → length formula < 2 ^ 64 → length formula + length lines < 10 ^ 18
    → IsWritten formula (trimmed (length formula) asked lines)
trimmed-written formula asked lines spelling g some low few =
    let fit = trimmed-fit (length formula) asked lines (grows-row formula lines g) some few in
    record {
      spells = spelling (length formula) (trimmed (length formula) asked lines) low fit.0;
      derives = trimmed-derives formula asked lines g;
      ids = fit.1;
    }

-- ---- the empty clause

adds-renamed : (name : ℕ → ℕ) (line : LratStep) → adds_empty (renamed name line) ≡ adds_empty line
adds-renamed name (Add id clause hints) = refl
adds-renamed name (Del ids) = refl

adds-behind : (name : ℕ → ℕ) (ids : List ℕ) (at : ℕ) (rest : List LratStep)
    → ((at' : ℕ) → list_any (λ line. adds_empty line.step) (numbered at' (map (renamed name) rest)) ≡ true)
    → list_any (λ line. adds_empty line.step) (numbered at (map (renamed name) (deletion ids ++ rest))) ≡ true
adds-behind name [] at rest adds = adds at
adds-behind name (n ∷ ns) at rest adds = adds (at + 1)

-- what adds it does so with its deletions
adds-with : (name : ℕ → ℕ) (asked : ℕ → Bool) (done lines : List LratStep) (at : ℕ) → list_any adds_empty lines ≡ true
    → list_any (λ line. adds_empty line.step) (numbered at (map (renamed name) (with_deletions asked done lines))) ≡ true
adds-with name asked done [] at adds = cc
adds-with name asked done (line ∷ lines) at adds = go (adds_empty line) refl (λ at'. adds-with name asked (done ++ line ∷ []) lines at')
  where
    go : (b : Bool) → adds_empty line ≡ b
        → ((at' : ℕ) → list_any adds_empty lines ≡ true
        → list_any (λ line. adds_empty line.step) (numbered at' (map (renamed name) (with_deletions asked (done ++ line ∷ []) lines))) ≡ true)
        → list_any (λ line. adds_empty line.step) (numbered at (map (renamed name) (with_deletions asked done (line ∷ lines)))) ≡ true
    go true e rest = rw (adds-renamed name line ∙ e) refl
    go false e rest =
        rw (adds-renamed name line ∙ e)
        (adds-behind name (last_cited asked done line lines) (at + 1) (with_deletions asked (done ++ line ∷ []) lines)
        (λ at'. rest at' (rw e at adds)))

-- the last line stays where it is asked for
last-reached : (asked : ℕ → Bool) (lines : List LratStep) (last : LratStep) → asked (id_in last) ≡ true → adds_empty last ≡ true
    → list_any adds_empty (reached asked (lines ++ last ∷ [])) ≡ true
last-reached asked [] last wanted adds = rw wanted (rw adds refl)
last-reached asked (l ∷ ls) last wanted adds =
    go (asked (id_in l) || is_cited (reached asked (ls ++ last ∷ [])) (id_in l)) refl (last-reached asked ls last wanted adds)
  where
    go : (b : Bool) → (asked (id_in l) || is_cited (reached asked (ls ++ last ∷ [])) (id_in l)) ≡ b
        → list_any adds_empty (reached asked (ls ++ last ∷ [])) ≡ true
        → list_any adds_empty (reached asked (l ∷ (ls ++ last ∷ []))) ≡ true
    go true e rest = rw e (or_right (adds_empty l) (list_any adds_empty (reached asked (ls ++ last ∷ []))) rest)
    go false e rest = rw e rest

-- what is written of lines that end with the empty clause adds it
pub trimmed-empty : (m : ℕ) (asked : ℕ → Bool) (lines : List LratStep) (last : LratStep) → asked (id_in last) ≡ true → adds_empty last ≡ true
    → list_any (λ line. adds_empty line.step) (numbered 1 (trimmed m asked (lines ++ last ∷ []))) ≡ true
trimmed-empty m asked lines last wanted adds =
    adds-with (new_id m (reached asked (lines ++ last ∷ []))) asked [] (reached asked (lines ++ last ∷ [])) 1
    (last-reached asked lines last wanted adds)

-- ---- how many lines add a clause

additions-behind : (name : ℕ → ℕ) (ids : List ℕ) (rest : List LratStep)
    → length (filter is_addition (map (renamed name) (deletion ids ++ rest))) ≡ length (filter is_addition (map (renamed name) rest))
additions-behind name [] rest = refl
additions-behind name (n ∷ ns) rest = refl

-- all lines that stay
pub additions-with : (name : ℕ → ℕ) (asked : ℕ → Bool) (done lines : List LratStep) → AllByRecursion (λ l. is_addition l ≡ true) lines
    → length (filter is_addition (map (renamed name) (with_deletions asked done lines))) ≡ length lines
additions-with name asked done [] all = refl
additions-with name asked done (Del ids ∷ ls) all = cc
additions-with name asked done (Add id clause hints ∷ ls) all =
    ap suc (additions-behind name (last_cited asked done (Add id clause hints) ls) (with_deletions asked (done ++ Add id clause hints ∷ []) ls)
    ∙ additions-with name asked (done ++ Add id clause hints ∷ []) ls all.1)

pub row-additions : (last : ℕ) (lines : List LratStep) → InRow last lines → AllByRecursion (λ l. is_addition l ≡ true) lines
row-additions last [] row = tt
row-additions last (Add id clause hints ∷ ls) row = (refl, row-additions (last + 1) ls row.1)
row-additions last (Del ids ∷ ls) row = absurd row.0

pub trimmed-additions : (m : ℕ) (asked : ℕ → Bool) (lines : List LratStep) → InRow m lines
    → length (filter is_addition (trimmed m asked lines)) ≡ length (reached asked lines)
trimmed-additions m asked lines row =
    additions-with (new_id m (reached asked lines)) asked [] (reached asked lines)
    (reached-all (λ l. is_addition l ≡ true) asked lines (row-additions m lines row))
