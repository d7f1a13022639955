-- Marks of steps, as lines set them that are gone through from the last to the first.
use Rattle.std.proofs.Common.{◌≡◌, ◌≢◌, ℕ, ◌<◌, ◌≤◌, Bool, true, false, ◌||◌, List, [], ◌∷◌, ◌++◌, if◌then◌else◌, refl, sym, ap, ◌∙◌, subst, arith}
use Rattle.std.specs.List.{AllByRecursion}
use Rattle.std.proofs.lemmas.Bool.{ne_eqb, or_parts}
use Rattle.lrat_text.specs.declared.step.LratStep.{LratStep}
use Rattle.proof_stitch.specs.Trimmed.{id_in, cites, is_cited, reached}
use Rattle.proof_stitch.specs.declared.by_step.ByStep.{ByStep}
use Rattle.proof_stitch.specs.Table.{HasMarks, IsStepId, KeepsShape, always, last_use, marked, number_at}

-- a mark stays
marked-set : (mark : ℕ) (is_used : Bool) (by : ℕ) → 1 ≤ mark → marked mark is_used by ≡ mark
marked-set mark is_used by some = rw (ne_eqb mark 0 (λ (e : mark ≡ 0). omega (arith, some, e))) refl

-- what no line cites has no last use
pub last_use-none : (lines : List LratStep) (n : ℕ) → is_cited lines n ≡ false → last_use lines n ≡ 0
last_use-none [] n none = refl
last_use-none (l ∷ ls) n none =
    let parts = or_parts (cites l n) (is_cited ls n) none in
    rw (last_use-none ls n parts.1, parts.0) refl

-- what some line cites has one
pub last_use-some : (b : ℕ) (lines : List LratStep) (n : ℕ) → AllByRecursion (λ l. b < id_in l) lines → is_cited lines n ≡ true
    → b < last_use lines n
last_use-some b [] n all h = cc
last_use-some b (l ∷ ls) n all h = go (is_cited ls n) refl (last_use-some b ls n all.1)
  where
    go : (c : Bool) → is_cited ls n ≡ c → (is_cited ls n ≡ true → b < last_use ls n) → b < last_use (l ∷ ls) n
    go true e rest = rw (marked-set (last_use ls n) (cites l n) (id_in l) (omega (arith, rest e))) (rest e)
    go false e rest = here (cites l n) refl
      where
        here : (c : Bool) → cites l n ≡ c → b < last_use (l ∷ ls) n
        here true f = rw (last_use-none ls n e, f) all.0
        here false f = let g : false ≡ true = rw (f, e) at h in cc

-- the last of joined lines are behind the others
pub last_use-append : (xs ys : List LratStep) (n : ℕ) → 1 ≤ last_use ys n → last_use (xs ++ ys) n ≡ last_use ys n
last_use-append [] ys n some = refl
last_use-append (l ∷ ls) ys n some =
    rw (last_use-append ls ys n some) (marked-set (last_use ys n) (cites l n) (id_in l) some)

-- the mark that a step has
abbrev pub mark_of : (ℕ → Bool) → List LratStep → ℕ → ℕ
mark_of asked lines n = if asked n then always else last_use lines n

pub mark-none : (asked : ℕ → Bool) (lines : List LratStep) (n : ℕ) → (asked n || is_cited lines n) ≡ false → mark_of asked lines n ≡ 0
mark-none asked lines n none =
    let parts = or_parts (asked n) (is_cited lines n) none in
    rw parts.0 (last_use-none lines n parts.1)

pub mark-some : (asked : ℕ → Bool) (lines : List LratStep) (n : ℕ) → AllByRecursion (λ l. 1 ≤ id_in l) lines
    → (asked n || is_cited lines n) ≡ true → 1 ≤ mark_of asked lines n
mark-some asked lines n all some = go (asked n) refl
  where
    go : (b : Bool) → asked n ≡ b → 1 ≤ mark_of asked lines n
    go true e = rw e (omega arith)
    go false e = rw e (last_use-some 0 lines n (above lines all) (rw e at some))
      where
        above : (ls : List LratStep) → AllByRecursion (λ l. 1 ≤ id_in l) ls → AllByRecursion (λ l. 0 < id_in l) ls
        above [] a = tt
        above (l ∷ ls) a = (omega (arith, a.0), above ls a.1)

-- the step of a line that isn't reached has no mark
pub unmarked : (asked : ℕ → Bool) (behind : List LratStep) (t : ByStep) (line : LratStep) → HasMarks asked (reached asked behind) t
    → IsStepId t (id_in line) → number_at t (id_in line) ≡ 0 → reached asked (line ∷ behind) ≡ reached asked behind
unmarked asked behind t line has is none = go (asked (id_in line) || is_cited (reached asked behind) (id_in line)) refl
  where
    go : (b : Bool) → (asked (id_in line) || is_cited (reached asked behind) (id_in line)) ≡ b → reached asked (line ∷ behind) ≡ reached asked behind
    go false e = rw e refl
    go true e =
        let some = mark-some asked (reached asked behind) (id_in line) has.ids e in
        absurd (omega (arith, some, has.marks (id_in line) is, none))

-- and that of one that is has one
pub marked-reached : (asked : ℕ → Bool) (behind : List LratStep) (t : ByStep) (line : LratStep) → HasMarks asked (reached asked behind) t
    → IsStepId t (id_in line) → number_at t (id_in line) ≢ 0 → reached asked (line ∷ behind) ≡ line ∷ reached asked behind
marked-reached asked behind t line has is some = go (asked (id_in line) || is_cited (reached asked behind) (id_in line)) refl
  where
    go : (b : Bool) → (asked (id_in line) || is_cited (reached asked behind) (id_in line)) ≡ b → reached asked (line ∷ behind) ≡ line ∷ reached asked behind
    go true e = rw e refl
    go false e = absurd (some (has.marks (id_in line) is ∙ mark-none asked (reached asked behind) (id_in line) e))

-- ids of the same steps
pub same-ids : (old new : ByStep) → KeepsShape old new → (n : ℕ) → IsStepId new n → IsStepId old n
same-ids old new shape n is = (omega (arith, is.0, shape.clauses), omega (arith, is.1, shape.clauses, shape.steps))

-- a line that is reached marks what it cites
pub marks-more : (asked : ℕ → Bool) (kept : List LratStep) (old new : ByStep) (line : LratStep) → HasMarks asked kept old → KeepsShape old new
    → ((n : ℕ) → IsStepId old n → number_at new n ≡ marked (number_at old n) (cites line n) (id_in line)) → 1 ≤ id_in line
    → HasMarks asked (line ∷ kept) new
marks-more asked kept old new line has shape marks least = record {
  marks = λ n is.
      let is' = same-ids old new shape n is in
      marks n is' ∙ ap (λ (u : ℕ). marked u (cites line n) (id_in line)) (has.marks n is') ∙ each n;
  ids = (least, has.ids);
}
  where
    each : (n : ℕ) → marked (mark_of asked kept n) (cites line n) (id_in line) ≡ mark_of asked (line ∷ kept) n
    each n = go (asked n) refl
      where
        go : (b : Bool) → asked n ≡ b → marked (mark_of asked kept n) (cites line n) (id_in line) ≡ mark_of asked (line ∷ kept) n
        go true e = rw e (marked-set always (cites line n) (id_in line) (omega arith))
        go false e = rw e refl

-- marks that nobody changed
pub marks-kept : (asked : ℕ → Bool) (kept kept' : List LratStep) (t : ByStep) → kept' ≡ kept → HasMarks asked kept t → HasMarks asked kept' t
marks-kept asked kept kept' t e has = subst (λ (l : List LratStep). HasMarks asked l t) (sym e) has
