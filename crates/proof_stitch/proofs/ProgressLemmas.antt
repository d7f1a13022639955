-- A writer that goes through lines, one by one.
use Rattle.std.proofs.Common.{◌≡◌, ℕ, ◌+◌, ◌<◌, ◌≤◌, ◌^◌, Bool, true, false, not, ◌&&◌, ◌||◌, eqb, List, [], ◌∷◌, ◌++◌, length, map, if◌then◌else◌, refl, sym, ap, ap₂, ◌∙◌, subst, arith, append_assoc, length-append, take, ◌-◌, ◌⊎◌, inl, inr}
use Rattle.std.specs.Prelude.{filter, OnOk, Result, Ok, Err}
use Rattle.std.proofs.Math.Seq.{take-append_seam}
use Rattle.std.specs.List.{AllByRecursion}
use Rattle.std.proofs.lemmas.Bool.{eqb-true, eq-eqb, ne_eqb, le-leb, lt-leb, cases_eq, or_left, or_right}
use Rattle.std.proofs.lemmas.List.{map-append, append-nil, length-map}
use Rattle.std.proofs.lemmas.List.Folds.{list_any-append}
use Rattle.lits.specs.Dimacs.{DimacsLiteral}
use Rattle.lits.proofs.Facts.{all-append}
use Rattle.lrat_text.specs.declared.step.LratStep.{LratStep}
use Rattle.lrat_text.specs.declared.step.LratStep.TheVariants.{Add, Del}
use Rattle.lrat_text.specs.Writing.{line_text, text_from}
use Rattle.lits.specs.declared.step.Step.{Step}
use Rattle.netlist.specs.Net.{AigPair}
use Rattle.netlist.specs.Miter.{numbered}
use Rattle.proof_stitch.specs.Steps.{addition, id_of}
use Rattle.desk_port.specs.Desk.{DeskState, Sizes}
use Rattle.desk_port.specs.Pieces.{Takes}
use Rattle.desk_port.specs.declared.errors.PutErr.{PutErr}
use Rattle.proof_stitch.specs.Progress.{AreLastCited, Goes, GoesOn, InRow, IsAtLine, Rises, counted, done_before, step_lines, text_left}
use Rattle.proof_stitch.specs.declared.by_step.ByStep.{ByStep}
use Rattle.proof_stitch.specs.Table.{HasMarks, IsPut, IsStepId, KeepsShape, always, last_use, named_in, number_at}
use Rattle.proof_stitch.specs.Trimmed.{id_in, has_id, cites, is_cited, reached, last_cited, deletion, with_deletions, new_id, renamed, trimmed}
use Rattle.proof_stitch.specs.declared.proof_text.ProofText.{ProofText}
use Rattle.proof_stitch.proofs.MarkLemmas.{last_use-append, last_use-none, last_use-some, mark_of, mark-none, mark-some}
use Rattle.proof_stitch.proofs.RowLemmas.{all-above, all-has_id, cites-below, follows-id, has_id-all, reached-all}
use Rattle.proof_stitch.proofs.TrimmedLemmas.{new_id-low, new_id-next}
use Rattle.proof_stitch.proofs.PassLemmas.{moves-none, moves-part, stops-part}
use Rattle.proof_stitch.proofs.RisingLemmas.{has_id-filtered, rises-filter, rises-push}

-- a test of joined lines
cited-append : (xs ys : List LratStep) (n : ℕ) → is_cited (xs ++ ys) n ≡ (is_cited xs n || is_cited ys n)
cited-append xs ys n = list_any-append (λ l. cites l n) xs ys

-- an id of joined lines
has_id-append : (xs ys : List LratStep) (n : ℕ) → has_id (map id_in (xs ++ ys)) n ≡ (has_id (map id_in xs) n || has_id (map id_in ys) n)
has_id-append xs ys n =
    ap (λ (l : List ℕ). has_id l n) (map-append id_in xs ys) ∙ list_any-append (λ id. eqb id n) (map id_in xs) (map id_in ys)

-- maps that agree on a list
map-same : (f g : ℕ → ℕ) (ids : List ℕ) → AllByRecursion (λ n. f n ≡ g n) ids → map f ids ≡ map g ids
map-same f g [] all = refl
map-same f g (i ∷ is) all = ap₂ (λ (n : ℕ) (ns : List ℕ). n ∷ ns) all.0 (map-same f g is all.1)

-- counts of more lines
counted-more : (a b c : ℕ) → counted a ≡ counted b → counted (a + c) ≡ counted (b + c)
counted-more a b c same = omega (arith, same)

-- a deletion by new ids
renamed-deletion : (name : ℕ → ℕ) (ids : List ℕ) → map (renamed name) (deletion ids) ≡ deletion (map name ids)
renamed-deletion name [] = refl
renamed-deletion name (n ∷ ns) = refl

-- the text of a line, its deletion and what stands behind
text-behind : (last id : ℕ) (clause : List DimacsLiteral) (hints ids : List ℕ) (rest : List LratStep)
    → text_from last (Add id clause hints ∷ (deletion ids ++ rest)) ≡ text_from last (Add id clause hints ∷ deletion ids) ++ text_from id rest
text-behind last id clause hints [] rest =
    ap (λ (t : List ℕ). t ++ text_from id rest) (sym (append-nil (line_text last (Add id clause hints))))
text-behind last id clause hints (n ∷ ns) rest =
    let here = line_text last (Add id clause hints) in
    let gone = line_text id (Del (n ∷ ns)) in
    ap (λ (t : List ℕ). here ++ (t ++ text_from id rest)) (sym (append-nil gone))
    ∙ sym (append_assoc here (gone ++ []) (text_from id rest))

-- the new id of a step
named-above : (t : ByStep) (n : ℕ) → t.clauses < n → named_in t n ≡ number_at t n
named-above t n above = ap (λ (b : Bool). if b then n else number_at t n) (lt-leb n t.clauses above)

-- how many lines a step and its deletion are
pub step-lines : (lines lines' lines'' n k : ℕ) → counted lines' ≡ counted (lines + 1) → counted lines'' ≡ counted (lines' + n) → n ≡ k
    → counted lines'' ≡ counted (lines + 1 + k)
step-lines lines lines' lines'' n k p q r = q ∙ counted-more lines' (lines + 1) n p ∙ ap (λ (j : ℕ). counted (lines + 1 + j)) r

-- the text of what is left, by what is reached before it
left-text : (m : ℕ) (asked : ℕ → Bool) (all left done : List LratStep) → reached asked all ≡ done ++ reached asked left
    → text_left m asked all left
    ≡ text_from (m + length done) (map (renamed (new_id m (reached asked all))) (with_deletions asked done (reached asked left)))
left-text m asked all left done parts =
    ap (λ (l : List LratStep). text_from (m + length l) (map (renamed (new_id m (reached asked all))) (with_deletions asked l (reached asked left)))) before
  where
    seam : length (done ++ reached asked left) - length (reached asked left) ≡ length done
    seam = omega (arith, length-append done (reached asked left))

    before : done_before asked all left ≡ done
    before =
        subst (λ (l : List LratStep). take (length l - length (reached asked left)) l ≡ done) (sym parts)
        (ap (λ (n : ℕ). take n (done ++ reached asked left)) seam ∙ take-append_seam done (reached asked left))

-- before the first line it is the whole text, and behind the last one there is none
pub text-start : (m : ℕ) (asked : ℕ → Bool) (all : List LratStep) → text_left m asked all all ≡ text_from m (trimmed m asked all)
text-start m asked all =
    left-text m asked all all [] refl
    ∙ ap (λ (n : ℕ). text_from n (trimmed m asked all)) none
  where
    none : m + 0 ≡ m
    none = omega arith

-- the text of a deletion
pub deletion-text : (last : ℕ) (ids gone : List ℕ) → (length gone ≡ 0 → ⊥) → ids ≡ gone → line_text last (Del ids) ≡ text_from last (deletion gone)
deletion-text last ids [] some is = absurd (some refl)
deletion-text last ids (n ∷ ns) some is = ap (λ (l : List ℕ). line_text last (Del l)) is ∙ sym (append-nil (line_text last (Del (n ∷ ns))))

-- before the first line
pub at-start : (m : ℕ) (asked : ℕ → Bool) (all : List LratStep) (names : ByStep) (proof : ProofText) → InRow m all
    → proof.last ≡ m → proof.lines ≡ 0 → IsAtLine m asked all all (m + 1) names proof
at-start m asked all names proof row last lines = record {
  last = m;
  next_is = refl;
  row = row;
  done = [];
  parts = refl;
  least = omega arith;
  low = tt;
  rises = tt;
  cited = λ n lt. refl;
  known = λ n w le. inl le;
  names_are = λ n h. cc;
  last_is = omega (arith, last);
  lines_is = omega (arith, lines, length-map (with_deletions asked [] (reached asked all)) (renamed (new_id m (reached asked all))));
}

module _ {m : ℕ} {asked : ℕ → Bool} {all left : List LratStep} {next : ℕ} {names : ByStep} {proof : ProofText} (line : LratStep)
    (at : IsAtLine m asked all (line ∷ left) next names proof) where
  abbrev kept : List LratStep
  kept = reached asked all

  abbrev name : ℕ → ℕ
  name = new_id m kept

  abbrev is_wanted : Bool
  is_wanted = asked (id_in line) || is_cited (reached asked left) (id_in line)

  pub line-id : id_in line ≡ next
  line-id = follows-id at.last line at.row.0 ∙ sym at.next_is

  -- the lines behind
  behind-above : AllByRecursion (λ l. at.last + 1 < id_in l) (reached asked left)
  behind-above = reached-all (λ l. at.last + 1 < id_in l) asked left (all-above (at.last + 1) left at.row.1)

  wider : AllByRecursion (λ l. (m < id_in l) × (id_in l ≤ at.last + 1)) at.done
  wider = go at.done at.low
    where
      go : (ls : List LratStep) → AllByRecursion (λ l. (m < id_in l) × (id_in l ≤ at.last)) ls → AllByRecursion (λ l. (m < id_in l) × (id_in l ≤ at.last + 1)) ls
      go [] a = tt
      go (l ∷ ls) a = ((a.0.0, omega (arith, a.0.1)), go ls a.1)

  -- what is left, by the lines before the next one
  left-here : text_left m asked all (line ∷ left)
      ≡ text_from proof.last (map (renamed name) (with_deletions asked at.done (reached asked (line ∷ left))))
  left-here =
      left-text m asked all (line ∷ left) at.done at.parts
      ∙ ap (λ (n : ℕ). text_from n (map (renamed name) (with_deletions asked at.done (reached asked (line ∷ left))))) (sym at.last_is)

  -- a line that isn't reached
  module _ (unwanted : is_wanted ≡ false) where
    behind : reached asked (line ∷ left) ≡ reached asked left
    behind = rw unwanted refl

    pub skip-text : text_left m asked all (line ∷ left) ≡ text_left m asked all left
    skip-text =
        ap (λ (l : List LratStep). (let done = take (length kept - length l) kept in
        text_from (m + length done) (map (renamed name) (with_deletions asked done l)))) behind

    pub at-skip : IsAtLine m asked all left (next + 1) names proof
    at-skip = record {
      last = at.last + 1;
      next_is = omega (arith, at.next_is);
      row = at.row.1;
      done = at.done;
      parts = at.parts ∙ ap (λ (l : List LratStep). at.done ++ l) behind;
      least = omega (arith, at.least);
      low = wider;
      rises = at.rises;
      cited = λ n lt. at.cited n (omega (arith, lt));
      known = λ n w le. known n w le (cases_eq n (id_in line));
      names_are = at.names_are;
      last_is = at.last_is;
      lines_is = subst (λ (l : List LratStep). counted (proof.lines + length (with_deletions asked at.done l)) ≡ counted (length (trimmed m asked all))) behind at.lines_is;
    }
      where
        known : (n : ℕ) → (asked n || is_cited (reached asked left) n) ≡ true → n ≤ at.last + 1 → ((n ≡ id_in line) ⊎ (n ≡ id_in line → ⊥))
            → (n ≤ m) ⊎ (has_id (map id_in at.done) n ≡ true)
        known n w le (inl e) =
            let f : true ≡ false = sym w ∙ ap (λ (k : ℕ). asked k || is_cited (reached asked left) k) e ∙ unwanted in cc
        known n w le (inr ne) =
            at.known n (subst (λ (l : List LratStep). (asked n || is_cited l n) ≡ true) (sym behind) w)
            (omega (arith, le, ne, follows-id at.last line at.row.0))

  -- one that is
  module _ (wanted : is_wanted ≡ true) where
    ahead : reached asked (line ∷ left) ≡ line ∷ reached asked left
    ahead = rw wanted refl

    whole : kept ≡ at.done ++ line ∷ reached asked left
    whole = at.parts ∙ ap (λ (l : List LratStep). at.done ++ l) ahead

    known-before : (n : ℕ) → (asked n || is_cited (line ∷ reached asked left) n) ≡ true → n ≤ at.last → (n ≤ m) ⊎ (has_id (map id_in at.done) n ≡ true)
    known-before n w le = at.known n (subst (λ (l : List LratStep). (asked n || is_cited l n) ≡ true) (sym ahead) w) le

    -- the new id of the line
    next-name : name (id_in line) ≡ proof.last + 1
    next-name =
        ap (λ (l : List LratStep). new_id m l (id_in line)) whole
        ∙ new_id-next m at.done (reached asked left) line at.last (follows-id at.last line at.row.0) at.least (go at.done at.low) behind-above
        ∙ ap (λ (n : ℕ). n + 1) (sym at.last_is)
      where
        go : (ls : List LratStep) → AllByRecursion (λ l. (m < id_in l) × (id_in l ≤ at.last)) ls → AllByRecursion (λ l. id_in l ≤ at.last) ls
        go [] a = tt
        go (l ∷ ls) a = (a.0.1, go ls a.1)

    done-ids : (n : ℕ) → has_id (map id_in at.done) n ≡ true → (m < n) × (n ≤ at.last)
    done-ids n h = has_id-all (λ k. (m < k) × (k ≤ at.last)) (map id_in at.done) n (go at.done at.low) h
      where
        go : (ls : List LratStep) → AllByRecursion (λ l. (m < id_in l) × (id_in l ≤ at.last)) ls → AllByRecursion (λ k. (m < k) × (k ≤ at.last)) (map id_in ls)
        go [] a = tt
        go (l ∷ ls) a = (a.0, go ls a.1)

    -- ids of what stays are above those of the formula
    kept-above : AllByRecursion (λ l. m < id_in l) kept
    kept-above =
        subst (λ (l : List LratStep). AllByRecursion (λ l. m < id_in l) l) (sym whole)
        (all-append (λ l. m < id_in l) at.done (line ∷ reached asked left) (go at.done at.low)
        (omega (arith, follows-id at.last line at.row.0, at.least), over (reached asked left) behind-above))
      where
        go : (ls : List LratStep) → AllByRecursion (λ l. (m < id_in l) × (id_in l ≤ at.last)) ls → AllByRecursion (λ l. m < id_in l) ls
        go [] a = tt
        go (l ∷ ls) a = (a.0.0, go ls a.1)

        over : (ls : List LratStep) → AllByRecursion (λ l. at.last + 1 < id_in l) ls → AllByRecursion (λ l. m < id_in l) ls
        over [] a = tt
        over (l ∷ ls) a = (omega (arith, a.0, at.least), over ls a.1)

    -- the last line of all, which cites only what is asked for
    module _ (clauses : names.clauses ≡ m) (hints : List ℕ) (is : line ≡ Add next [] hints) (none : left ≡ [])
        (asks : (n : ℕ) → cites line n ≡ true → asked n ≡ true) where
      named-now : (n : ℕ) → cites line n ≡ true → named_in names n ≡ name n
      named-now n h =
          let range = cites-below at.last line at.row.0 n h in
          elim (known-before n (or_left (asked n) (is_cited (line ∷ reached asked left) n) (asks n h)) range.1) [
            | inl low ↦ rw (le-leb n names.clauses (omega (arith, low, clauses))) (sym (new_id-low m kept n low kept-above))
            | inr done ↦ at.names_are n done
          ]

      none-behind : reached asked left ≡ []
      none-behind = ap (reached asked) none

      none-falls : last_cited asked at.done line [] ≡ []
      none-falls = filter-none (map id_in at.done)
        where
          fails : (n : ℕ) → (cites line n && not (asked n || is_cited [] n)) ≡ false
          fails n = go (cites line n) refl
            where
              go : (b : Bool) → cites line n ≡ b → (cites line n && not (asked n || is_cited [] n)) ≡ false
              go false e = rw e refl
              go true e = rw (e, asks n e) refl

          filter-none : (ids : List ℕ) → filter (λ n. cites line n && not (asked n || is_cited [] n)) ids ≡ []
          filter-none [] = refl
          filter-none (i ∷ is) = rw (fails i) (filter-none is)

      pub end-text : text_left m asked all (line ∷ left) ≡ line_text proof.last (Add (proof.last + 1) [] (map (named_in names) hints))
      end-text =
          left-here
          ∙ ap (λ (l : List LratStep). text_from proof.last (map (renamed name) (with_deletions asked at.done l))) (ahead ∙ ap (λ (l : List LratStep). line ∷ l) none-behind)
          ∙ ap (λ (l : List ℕ). text_from proof.last (renamed name line ∷ map (renamed name) (deletion l ++ []))) none-falls
          ∙ ap (λ (l : LratStep). text_from proof.last (l ∷ [])) same-line
          ∙ append-nil (line_text proof.last (Add (proof.last + 1) [] (map (named_in names) hints)))
        where
          same-line : renamed name line ≡ Add (proof.last + 1) [] (map (named_in names) hints)
          same-line =
              let id : name next ≡ proof.last + 1 = ap name (sym line-id) ∙ next-name in
              ap (renamed name) is
              ∙ ap₂ (λ (i : ℕ) (hs : List ℕ). Add i [] hs) id
              (map-same name (named_in names) hints
              (all-has_id (λ k. name k ≡ named_in names k) hints
              (λ k h. sym (named-now k (subst (λ (l : LratStep). cites l k ≡ true) (sym is) h)))))

      -- how many lines are written
      pub end-lines : counted (proof.lines + 1) ≡ counted (length (trimmed m asked all))
      end-lines =
          sym (ap (λ (l : List LratStep). counted (proof.lines + length (with_deletions asked at.done l))) (ahead ∙ ap (λ (l : List LratStep). line ∷ l) none-behind)
          ∙ ap (λ (l : List ℕ). counted (proof.lines + length (line ∷ (deletion l ++ [])))) none-falls)
          ∙ at.lines_is

      -- how many lines stay
      pub end-count : length kept ≡ length at.done + 1
      end-count =
          ap length (whole ∙ ap (λ (l : List LratStep). at.done ++ line ∷ l) none-behind)
          ∙ length-append at.done (line ∷ [])

    module _ (names' : ByStep) (shape : KeepsShape names names') (clauses : names.clauses ≡ m)
        (within : IsStepId names (id_in line)) (put : IsPut (id_in line) (proof.last + 1) names names') where
      clauses' : names'.clauses ≡ m
      clauses' = shape.clauses ∙ clauses

      -- new ids of earlier lines, and of this one
      named-done : (n : ℕ) → has_id (map id_in at.done) n ≡ true → named_in names' n ≡ name n
      named-done n h =
          let range = done-ids n h in
          let is : IsStepId names n = (omega (arith, range.0, clauses), omega (arith, range.1, within.1, follows-id at.last line at.row.0)) in
          let other : eqb n (id_in line) ≡ false = ne_eqb n (id_in line) (λ (e : n ≡ id_in line). omega (arith, e, range.1, follows-id at.last line at.row.0)) in
          named-above names' n (omega (arith, range.0, clauses'))
          ∙ put n is
          ∙ ap (λ (b : Bool). if b then proof.last + 1 else number_at names n) other
          ∙ sym (named-above names n is.0)
          ∙ at.names_are n h

      named-own : named_in names' (id_in line) ≡ name (id_in line)
      named-own =
          named-above names' (id_in line) (omega (arith, within.0, shape.clauses))
          ∙ put (id_in line) within
          ∙ ap (λ (b : Bool). if b then proof.last + 1 else number_at names (id_in line)) (eq-eqb (id_in line) (id_in line) refl)
          ∙ sym next-name

      -- and of what the line cites
      named-cited : (n : ℕ) → cites line n ≡ true → named_in names' n ≡ name n
      named-cited n h =
          let range = cites-below at.last line at.row.0 n h in
          elim (known-before n (or_right (asked n) (is_cited (line ∷ reached asked left) n) (or_left (cites line n) (is_cited (reached asked left) n) h)) range.1) [
            | inl low ↦ rw (le-leb n names'.clauses (omega (arith, low, clauses'))) (sym (new_id-low m kept n low kept-above))
            | inr done ↦ named-done n done
          ]

      module _ (marks : ByStep) (has : HasMarks asked kept marks) (alike : KeepsShape marks names) (small : id_in line < 2 ^ 63) where
        -- the line is the last to cite a step exactly where its mark says so
        last-mark : (n : ℕ) → cites line n ≡ true → m < n
            → eqb (number_at marks n) (id_in line) ≡ not (asked n || is_cited (reached asked left) n)
        last-mark n h above = rw (has.marks n is) (go (asked n) (is_cited (reached asked left) n) refl refl)
          where
            range : (1 ≤ n) × (n ≤ at.last)
            range = cites-below at.last line at.row.0 n h

            is : IsStepId marks n
            is = (
              omega (arith, above, alike.clauses, clauses),
              omega (arith, range.1, within.1, alike.clauses, alike.steps, follows-id at.last line at.row.0),
            )

            go : (b c : Bool) → asked n ≡ b → is_cited (reached asked left) n ≡ c → eqb (mark_of asked kept n) (id_in line) ≡ not (b || c)
            go true c e f = rw e (ne_eqb always (id_in line) (λ (same : always ≡ id_in line). omega (arith, same, small)))
            go false true e f =
                let some : at.last + 1 < last_use (reached asked left) n = last_use-some (at.last + 1) (reached asked left) n behind-above f in
                let mine : last_use (line ∷ reached asked left) n ≡ last_use (reached asked left) n = last_use-append (line ∷ []) (reached asked left) n (omega (arith, some)) in
                let is_use : last_use kept n ≡ last_use (reached asked left) n =
                ap (λ (l : List LratStep). last_use l n) whole ∙ last_use-append at.done (line ∷ reached asked left) n (omega (arith, some, mine)) ∙ mine in
                rw (e, is_use) (ne_eqb (last_use (reached asked left) n) (id_in line) (λ (same : last_use (reached asked left) n ≡ id_in line). omega (arith, same, some, follows-id at.last line at.row.0)))
            go false false e f =
                let mine : last_use (line ∷ reached asked left) n ≡ id_in line = rw (last_use-none (reached asked left) n f, h) refl in
                let is_use : last_use kept n ≡ id_in line =
                ap (λ (l : List LratStep). last_use l n) whole ∙ last_use-append at.done (line ∷ reached asked left) n (omega (arith, mine, follows-id at.last line at.row.0)) ∙ mine in
                rw (e, is_use) (eq-eqb (id_in line) (id_in line) refl)

        abbrev falls : ℕ → Bool
        falls n = cites line n && not (asked n || is_cited (reached asked left) n)

        -- these it is the last to cite
        abbrev pub fallen : List ℕ
        fallen = last_cited asked at.done line (reached asked left)

        pub fallen-rises : Rises fallen
        fallen-rises = rises-filter falls (map id_in at.done) at.rises

        pub fallen-members : (n : ℕ) → has_id fallen n ≡ (cites line n && eqb (number_at marks n) (id_in line))
        fallen-members n = has_id-filtered falls (map id_in at.done) n ∙ sym (go (cites line n) refl)
          where
            none : (b : Bool) → (b && false) ≡ false
            none true = refl
            none false = refl

            go : (b : Bool) → cites line n ≡ b → (cites line n && eqb (number_at marks n) (id_in line)) ≡ (has_id (map id_in at.done) n && falls n)
            go false e = rw e (sym (none (has_id (map id_in at.done) n)))
            go true e = elim (known-before n wanted-here range.1) [
              | inl low ↦
                  let zero : number_at marks n ≡ 0 = rw (le-leb n marks.clauses (omega (arith, low, clauses, alike.clauses))) refl in
                  let not-done : has_id (map id_in at.done) n ≡ false = done-not low (has_id (map id_in at.done) n) refl in
                  rw (e, zero, not-done) (ne_eqb 0 (id_in line) (λ (f : 0 ≡ id_in line). omega (arith, f, follows-id at.last line at.row.0)))
              | inr done ↦ rw (e, done) (last-mark n e (done-ids n done).0)
            ]
              where
                range : (1 ≤ n) × (n ≤ at.last)
                range = cites-below at.last line at.row.0 n e

                wanted-here : (asked n || is_cited (line ∷ reached asked left) n) ≡ true
                wanted-here = or_right (asked n) (is_cited (line ∷ reached asked left) n) (or_left (cites line n) (is_cited (reached asked left) n) e)

                done-not : n ≤ m → (b : Bool) → has_id (map id_in at.done) n ≡ b → b ≡ false
                done-not low false f = refl
                done-not low true f = absurd (omega (arith, low, (done-ids n f).0))

        -- the line and its deletion
        pub write-text : (clause : List DimacsLiteral) (hints : List ℕ) → line ≡ Add next clause hints
            → text_left m asked all (line ∷ left)
            ≡ text_from proof.last (Add (proof.last + 1) clause (map (named_in names') hints) ∷ deletion (map (named_in names') fallen))
            ++ text_left m asked all left
        write-text clause hints is =
            left-here
            ∙ ap (λ (l : List LratStep). text_from proof.last (map (renamed name) (with_deletions asked at.done l))) ahead
            ∙ ap (text_from proof.last) (sym lines-same)
            ∙ text-behind proof.last (proof.last + 1) clause (map (named_in names') hints) (map (named_in names') fallen) here
            ∙ ap (λ (t : List ℕ). text_from proof.last (Add (proof.last + 1) clause (map (named_in names') hints) ∷ deletion (map (named_in names') fallen)) ++ t)
            (sym left-there)
          where
            here : List LratStep
            here = map (renamed name) (with_deletions asked (at.done ++ line ∷ []) (reached asked left))

            left-there : text_left m asked all left ≡ text_from (proof.last + 1) here
            left-there =
                left-text m asked all left (at.done ++ line ∷ []) (whole ∙ sym (append_assoc at.done (line ∷ []) (reached asked left)))
                ∙ ap (λ (n : ℕ). text_from n here) (omega (arith, at.last_is, length-append at.done (line ∷ [])))

            hints-same : map name hints ≡ map (named_in names') hints
            hints-same =
                map-same name (named_in names') hints
                (all-has_id (λ k. name k ≡ named_in names' k) hints
                (λ k h. sym (named-cited k (subst (λ (l : LratStep). cites l k ≡ true) (sym is) h))))

            fallen-same : map name fallen ≡ map (named_in names') fallen
            fallen-same =
                map-same name (named_in names') fallen
                (all-has_id (λ k. name k ≡ named_in names' k) fallen
                (λ k h. sym (named-cited k (first k (eqb (number_at marks k) (id_in line)) (cites line k) refl (sym (fallen-members k) ∙ h)))))
              where
                first : (k : ℕ) (c b : Bool) → cites line k ≡ b → (b && c) ≡ true → cites line k ≡ true
                first k c true e h = e
                first k c false e h = cc

            line-same : renamed name line ≡ Add (proof.last + 1) clause (map (named_in names') hints)
            line-same =
                let id : name next ≡ proof.last + 1 = ap name (sym line-id) ∙ next-name in
                ap (renamed name) is
                ∙ ap₂ (λ (i : ℕ) (hs : List ℕ). Add i clause hs) id hints-same

            lines-same : Add (proof.last + 1) clause (map (named_in names') hints) ∷ (deletion (map (named_in names') fallen) ++ here)
                ≡ map (renamed name) (with_deletions asked at.done (line ∷ reached asked left))
            lines-same =
                ap₂ (λ (l : LratStep) (ls : List LratStep). l ∷ ls) (sym line-same)
                (ap (λ (l : List ℕ). deletion l ++ here) (sym fallen-same)
                ∙ ap (λ (l : List LratStep). l ++ here) (sym (renamed-deletion name fallen))
                ∙ sym (map-append (renamed name) (deletion fallen) (with_deletions asked (at.done ++ line ∷ []) (reached asked left))))

        pub at-write : (proof' : ProofText) → proof'.last ≡ proof.last + 1
            → counted proof'.lines ≡ counted (proof.lines + 1 + length (deletion fallen))
            → IsAtLine m asked all left (next + 1) names' proof'
        at-write proof' last lines = record {
          last = at.last + 1;
          next_is = omega (arith, at.next_is);
          row = at.row.1;
          done = at.done ++ line ∷ [];
          parts = whole ∙ sym (append_assoc at.done (line ∷ []) (reached asked left));
          least = omega (arith, at.least);
          low =
              all-append (λ l. (m < id_in l) × (id_in l ≤ at.last + 1)) at.done (line ∷ []) wider
              ((omega (arith, at.least, own), omega (arith, own)), tt);
          rises =
              subst Rises (sym (map-append id_in at.done (line ∷ [])))
              (rises-push (map id_in at.done) (id_in line) at.rises
              (all-has_id (λ k. k < id_in line) (map id_in at.done) (λ k h. omega (arith, own, (done-ids k h).1))));
          cited = λ n lt. cited-append at.done (line ∷ []) n ∙ rw (at.cited n (omega (arith, lt))) (beyond n lt (cites line n) refl);
          known = λ n w le. known n w le (cases_eq n (id_in line));
          names_are = λ n h. names_are n (has_id (map id_in at.done) n) refl (sym (has_id-append at.done (line ∷ []) n) ∙ h);
          last_is = omega (arith, last, at.last_is, length-append at.done (line ∷ []));
          lines_is = lines_is;
        }
          where
            own : id_in line ≡ at.last + 1
            own = follows-id at.last line at.row.0

            beyond : (n : ℕ) → at.last + 1 < n → (b : Bool) → cites line n ≡ b → (b || false) ≡ false
            beyond n lt false e = refl
            beyond n lt true e = absurd (omega (arith, lt, (cites-below at.last line at.row.0 n e).1))

            known : (n : ℕ) → (asked n || is_cited (reached asked left) n) ≡ true → n ≤ at.last + 1 → ((n ≡ id_in line) ⊎ (n ≡ id_in line → ⊥))
                → (n ≤ m) ⊎ (has_id (map id_in (at.done ++ line ∷ [])) n ≡ true)
            known n w le (inl e) =
                inr (has_id-append at.done (line ∷ []) n
                ∙ or_right (has_id (map id_in at.done) n) (has_id (id_in line ∷ []) n) (rw (eq-eqb (id_in line) n (sym e)) refl))
            known n w le (inr ne) = more (known-before n still (omega (arith, le, ne, own)))
              where
                still : (asked n || is_cited (line ∷ reached asked left) n) ≡ true
                still = go (asked n) refl
                  where
                    go : (b : Bool) → asked n ≡ b → (asked n || is_cited (line ∷ reached asked left) n) ≡ true
                    go true e = rw e refl
                    go false e = rw e (or_right (cites line n) (is_cited (reached asked left) n) (rw e at w))

                more : ((n ≤ m) ⊎ (has_id (map id_in at.done) n ≡ true)) → (n ≤ m) ⊎ (has_id (map id_in (at.done ++ line ∷ [])) n ≡ true)
                more (inl low) = inl low
                more (inr h) = inr (has_id-append at.done (line ∷ []) n ∙ or_left (has_id (map id_in at.done) n) (has_id (id_in line ∷ []) n) h)

            names_are : (n : ℕ) (b : Bool) → has_id (map id_in at.done) n ≡ b → (has_id (map id_in at.done) n || has_id (id_in line ∷ []) n) ≡ true
                → named_in names' n ≡ name n
            names_are n true e h = named-done n e
            names_are n false e h = go (eqb (id_in line) n) refl
              where
                go : (b : Bool) → eqb (id_in line) n ≡ b → named_in names' n ≡ name n
                go true f = subst (λ (k : ℕ). named_in names' k ≡ name k) (eqb-true (id_in line) n f) named-own
                go false f = let g : false ≡ true = rw (e, f) at h in cc

            lines_is : counted (proof'.lines + length (with_deletions asked (at.done ++ line ∷ []) (reached asked left))) ≡ counted (length (trimmed m asked all))
            lines_is =
                let more : proof.lines + 1 + length (deletion fallen) + length (with_deletions asked (at.done ++ line ∷ []) (reached asked left))
                ≡ proof.lines + length (with_deletions asked at.done (line ∷ reached asked left)) =
                omega (
                  arith,
                  length-append (deletion fallen) (with_deletions asked (at.done ++ line ∷ []) (reached asked left)),
                ) in
                let before : counted (proof.lines + length (with_deletions asked at.done (line ∷ reached asked left))) ≡ counted (length (trimmed m asked all)) =
                subst (λ (l : List LratStep). counted (proof.lines + length (with_deletions asked at.done l)) ≡ counted (length (trimmed m asked all)))
                ahead at.lines_is in
                counted-more proof'.lines (proof.lines + 1 + length (deletion fallen)) (length (with_deletions asked (at.done ++ line ∷ []) (reached asked left))) lines ∙ ap counted more ∙ before

-- what the mark of the next line says
module _ {m : ℕ} {asked : ℕ → Bool} {all left : List LratStep} {next : ℕ} {names : ByStep} {proof : ProofText} (line : LratStep)
    (at : IsAtLine m asked all (line ∷ left) next names proof) (marks : ByStep) (has : HasMarks asked (reached asked all) marks)
    (is : IsStepId marks next) where
  -- no line before it cites it, nor does it itself
  cited-behind : (l : List LratStep) → reached asked (line ∷ left) ≡ l → is_cited (reached asked all) (id_in line) ≡ is_cited l (id_in line)
  cited-behind l e =
      ap (λ (k : List LratStep). is_cited k (id_in line)) (at.parts ∙ ap (λ (k : List LratStep). at.done ++ k) e)
      ∙ cited-append at.done l (id_in line)
      ∙ rw (at.cited (id_in line) (omega (arith, follows-id at.last line at.row.0))) refl

  own-uncited : cites line (id_in line) ≡ false
  own-uncited = go (cites line (id_in line)) refl
    where
      go : (b : Bool) → cites line (id_in line) ≡ b → b ≡ false
      go false e = refl
      go true e = absurd (omega (arith, follows-id at.last line at.row.0, (cites-below at.last line at.row.0 (id_in line) e).1))

  mark-is : number_at marks (id_in line) ≡ mark_of asked (reached asked all) (id_in line)
  mark-is = has.marks (id_in line) (subst (IsStepId marks) (sym (line-id line at)) is)

  test-is : (b : Bool) → (asked (id_in line) || is_cited (reached asked left) (id_in line)) ≡ b
      → (asked (id_in line) || is_cited (reached asked all) (id_in line)) ≡ b
  test-is false e =
      let behind : reached asked (line ∷ left) ≡ reached asked left = rw e refl in
      rw (cited-behind (reached asked left) behind) e
  test-is true e =
      let ahead : reached asked (line ∷ left) ≡ line ∷ reached asked left = rw e refl in
      rw (cited-behind (line ∷ reached asked left) ahead, own-uncited) e

  -- without one the line isn't reached
  pub unwanted-line : number_at marks next ≡ 0 → (asked (id_in line) || is_cited (reached asked left) (id_in line)) ≡ false
  unwanted-line none = go (asked (id_in line) || is_cited (reached asked left) (id_in line)) refl
    where
      go : (b : Bool) → (asked (id_in line) || is_cited (reached asked left) (id_in line)) ≡ b → b ≡ false
      go false e = refl
      go true e =
          let some = mark-some asked (reached asked all) (id_in line) has.ids (test-is true e) in
          absurd (omega (arith, some, mark-is, none, ap (number_at marks) (line-id line at)))

  -- and with one it is
  pub wanted-line : (number_at marks next ≡ 0 → ⊥) → (asked (id_in line) || is_cited (reached asked left) (id_in line)) ≡ true
  wanted-line some = go (asked (id_in line) || is_cited (reached asked left) (id_in line)) refl
    where
      go : (b : Bool) → (asked (id_in line) || is_cited (reached asked left) (id_in line)) ≡ b → b ≡ true
      go true e = refl
      go false e =
          absurd (some (ap (number_at marks) (sym (line-id line at)) ∙ mark-is
          ∙ mark-none asked (reached asked all) (id_in line) (test-is false e)))

-- a step that isn't written
pub skip-goes : {m : ℕ} {asked : ℕ → Bool} {all left : List LratStep} {names : ByStep} {proof : ProofText} (line : LratStep) (marks : ByStep) (id : ℕ)
    (s : DeskState) (z : Sizes) → HasMarks asked (reached asked all) marks → IsStepId marks id → number_at marks id ≡ 0
    → GoesOn m asked all (line ∷ left) left id (id + 1) names names proof proof s s z z
skip-goes {m} {asked} {all} {left} {names} {proof} line marks id s z has is none = record {
  stands = λ at. at-skip line at (unwanted-line line at marks has is none);
  moves = λ at. moves-none (proof.pieces ++ text_left m asked all (line ∷ left)) (proof.pieces ++ text_left m asked all left) s z
      (ap (λ (t : List ℕ). proof.pieces ++ t) (skip-text line at (unwanted-line line at marks has is none)));
}

-- a step that is written
module _ {m : ℕ} {asked : ℕ → Bool} {all left : List LratStep} {names : ByStep} {proof : ProofText}
    (net : AigPair) (shown : List ℕ) (marks : ByStep) (first id : ℕ) (step : Step) (names' : ByStep) (proof' : ProofText)
    (at : IsAtLine m asked all (addition net shown first id step ∷ left) id names proof) (clauses : marks.clauses ≡ m)
    (has : HasMarks asked (reached asked all) marks) (is : IsStepId marks id) (alike : KeepsShape marks names) (small : id < 2 ^ 63)
    (some : number_at marks id ≡ 0 → ⊥) (shape : KeepsShape names names') (put : IsPut id (proof.last + 1) names names') where
  abbrev step-line : LratStep
  step-line = addition net shown first id step

  step-within : IsStepId names id
  step-within = (omega (arith, is.0, alike.clauses), omega (arith, is.1, alike.clauses, alike.steps))

  step-wanted : (asked id || is_cited (reached asked left) id) ≡ true
  step-wanted = wanted-line step-line at marks has is some

  abbrev step-fallen : List ℕ
  step-fallen = last_cited asked at.done step-line (reached asked left)

  step-gone : AreLastCited net shown marks first id step step-fallen
  step-gone = record {
    rises = fallen-rises step-line at step-wanted names' shape (alike.clauses ∙ clauses) step-within put marks has alike small;
    members = fallen-members step-line at step-wanted names' shape (alike.clauses ∙ clauses) step-within put marks has alike small;
  }

  step-text : text_left m asked all (step-line ∷ left)
      ≡ text_from proof.last (step_lines net shown first step names' proof.last step-fallen) ++ text_left m asked all left
  step-text =
      write-text step-line at step-wanted names' shape (alike.clauses ∙ clauses) step-within put marks has alike small
      (map (numbered net) step.clause) (map (id_of net shown first) step.hints) refl

  step-at : proof'.last ≡ proof.last + 1
      → ((gone : List ℕ) → AreLastCited net shown marks first id step gone → counted proof'.lines ≡ counted (proof.lines + 1 + length (deletion gone)))
      → IsAtLine m asked all left (id + 1) names' proof'
  step-at last lines =
      at-write step-line at step-wanted names' shape (alike.clauses ∙ clauses) step-within put marks has alike small
      proof' last (lines step-fallen step-gone)

-- with what it makes of the desk
pub write-goes : {A : Type 0} (m : ℕ) (asked : ℕ → Bool) (all left : List LratStep) (names : ByStep) (proof : ProofText)
    (net : AigPair) (shown : List ℕ) (marks : ByStep) (first id : ℕ) (step : Step) (names' : ByStep) (proof' : ProofText)
    (s0 s1 : DeskState) (z0 z1 : Sizes) (r : Result A PutErr) → marks.clauses ≡ m
    → HasMarks asked (reached asked all) marks → IsStepId marks id → KeepsShape marks names → id < 2 ^ 63
    → (number_at marks id ≡ 0 → ⊥) → KeepsShape names names' → IsPut id (proof.last + 1) names names'
    → ((gone : List ℕ) → AreLastCited net shown marks first id step gone
    → Takes (text_from proof.last (step_lines net shown first step names' proof.last gone)) proof.pieces proof'.pieces s0 s1 z0 z1 r)
    → OnOk r (proof'.last ≡ proof.last + 1)
    → OnOk r ((gone : List ℕ) → AreLastCited net shown marks first id step gone → counted proof'.lines ≡ counted (proof.lines + 1 + length (deletion gone)))
    → Goes m asked all (addition net shown first id step ∷ left) left id (id + 1) names names' proof proof' s0 s1 z0 z1 r
write-goes m asked all left names proof net shown marks first id step names' proof' s0 s1 z0 z1 (Ok a) clauses has is alike small some shape put takes last lines =
    record {
      stands = λ at. step-at net shown marks first id step names' proof' at clauses has is alike small some shape put last lines;
      moves = λ at.
          let gone = last_cited asked at.done (addition net shown first id step) (reached asked left) in
          moves-part (text_from proof.last (step_lines net shown first step names' proof.last gone)) (text_left m asked all left)
          (text_left m asked all (addition net shown first id step ∷ left)) proof.pieces proof'.pieces s0 s1 z0 z1
          (step-text net shown marks first id step names' proof' at clauses has is alike small some shape put)
          (takes gone (step-gone net shown marks first id step names' proof' at clauses has is alike small some shape put));
    }
write-goes m asked all left names proof net shown marks first id step names' proof' s0 s1 z0 z1 (Err e) clauses has is alike small some shape put takes last lines =
    λ at.
    let gone = last_cited asked at.done (addition net shown first id step) (reached asked left) in
    stops-part (text_from proof.last (step_lines net shown first step names' proof.last gone)) (text_left m asked all left)
    (text_left m asked all (addition net shown first id step ∷ left)) proof.pieces e s0 s1 z0 z1
    (step-text net shown marks first id step names' proof' at clauses has is alike small some shape put)
    (takes gone (step-gone net shown marks first id step names' proof' at clauses has is alike small some shape put))
