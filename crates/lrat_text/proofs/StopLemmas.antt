-- The lines that are read so far, and where the reading stops.
use Rattle.std.proofs.Common.{◌≡◌, ℕ, ◌+◌, ◌<◌, ◌≤◌, List, [], ◌∷◌, ◌++◌, Option, Some, None, Result, Ok, Err, length, length-append, refl, sym, ap, ◌∙◌, inl, inr, append-nil, append_assoc, subst, arith}
use Rattle.tokens.specs.Reading.{◌>>=◌}
use Rattle.tokens.specs.Words.{lines_in}
use Rattle.lrat_text.specs.declared.error.LratErr.{LratErr}
use Rattle.lrat_text.specs.declared.step.Line.{Line}
use Rattle.lrat_text.specs.declared.step.LratStep.{LratStep}
use Rattle.lrat_text.specs.Reading.{step_of, steps_from, id_behind, with_step, words_in, Gives}
use Rattle.lrat_text.specs.Steps.{id_after, last_id}
use Rattle.lrat_text.specs.Lines.{Rest, AreLeft, IsNext, IsNextLine, IsOf, StopsAt, behind_said, found_at, next_from}
use Rattle.lrat_text.proofs.FaultLemmas.{step-fault}
use Rattle.lrat_text.proofs.TextLemmas.{steps_from-append, last_id-push}

-- the lines read so far say these steps
pub record AreRead (steps : List Line) (start now : Rest) : Type 0 where
  pub before : List (List ℕ)
  pub later : List (List ℕ)
  pub lines : lines_in start.bytes ≡ before ++ later
  pub said : steps_from (start.behind + 1) start.last before ≡ Ok steps
  pub left : AreLeft later now.bytes
  pub behind : now.behind ≡ start.behind + length before
  pub last : now.last ≡ last_id start.last steps
  pub fewer : length now.bytes ≤ length start.bytes

-- none
pub read-nothing : (start : Rest) → AreRead [] start start
read-nothing start = record {
  before = [];
  later = lines_in start.bytes;
  lines = refl;
  said = refl;
  left = inr refl;
  behind = omega arith;
  last = refl;
  fewer = omega arith;
}

-- a line is one of those that are left, and behind it the others are
record IsFirstLeft (line : List ℕ) (later : List (List ℕ)) (mid : Rest) : Type 0 where
  others : List (List ℕ)
  lines : later ≡ line ∷ others
  left : AreLeft others mid.bytes

first-left : (line : List ℕ) (later : List (List ℕ)) (now mid : Rest) → AreLeft later now.bytes → IsNextLine line now mid → IsFirstLeft line later mid
first-left line later now mid left r = elim left [
  | inl (none, end) ↦ let empty = ap (λ (t : List ℕ). length t) end in absurd (omega (arith, r.fewer, empty))
  | inr same ↦ elim r.lines [
    | inl (only, end) ↦ record { others = []; lines = same ∙ only; left = inl (refl, end) }
    | inr more ↦ record { others = lines_in mid.bytes; lines = same ∙ more; left = inr refl }
  ]
]

-- one that says nothing
pub read-blank : (line : List ℕ) (start now mid new : Rest) (said : Option LratStep) → AreRead [] start now → IsNextLine line now mid
    → said ≡ None → step_of mid.behind mid.last (words_in line) ≡ Ok said → new ≡ behind_said mid said → AreRead [] start new
read-blank line start now mid new said read r none says is =
    let f = first-left line read.later now mid read.left r in
    let new_is : new ≡ behind_said mid None = is ∙ ap (behind_said mid) none in
    let number : start.behind + 1 + length read.before ≡ mid.behind = omega (arith, r.behind, read.behind) in
    let here : steps_from (start.behind + 1 + length read.before) start.last (line ∷ []) ≡ Ok [] =
    subst (λ (n : ℕ). steps_from n start.last (line ∷ []) ≡ Ok []) (sym number)
    (subst (λ (l : ℕ). steps_from mid.behind l (line ∷ []) ≡ Ok []) (r.last ∙ read.last) (rw (says, none) refl)) in
    record {
      before = read.before ++ line ∷ [];
      later = f.others;
      lines = read.lines ∙ ap (λ (ls : List (List ℕ)). read.before ++ ls) f.lines ∙ sym (append_assoc read.before (line ∷ []) f.others);
      said = steps_from-append (start.behind + 1 + length read.before) (start.behind + 1) start.last read.before (line ∷ []) refl ∙ rw (read.said, here) refl;
      left = subst (λ (n : Rest). AreLeft f.others n.bytes) (sym new_is) f.left;
      behind = let up = ap (λ (n : Rest). n.behind) new_is in omega (arith, up, r.behind, read.behind, length-append read.before (line ∷ []));
      last = ap (λ (n : Rest). n.last) new_is ∙ (r.last ∙ read.last);
      fewer = let kept = ap (λ (n : Rest). length n.bytes) new_is in omega (arith, kept, r.fewer, read.fewer);
    }

-- one that has a fault
pub read-fault : (line : List ℕ) (steps : List Line) (start now mid new : Rest) (e : LratErr) → AreRead steps start now → IsNextLine line now mid
    → Gives (Err e) (step_of mid.behind mid.last (words_in line)) → new ≡ mid → StopsAt e steps start new
read-fault line steps start now mid new e read r gives is =
    let f = first-left line read.later now mid read.left r in
    record {
      before = read.before;
      later = f.others;
      line = line;
      lines = read.lines ∙ ap (λ (ls : List (List ℕ)). read.before ++ ls) f.lines;
      said = read.said;
      fault = subst (λ (n : Rest). IsOf n.behind e) (sym is) (step-fault mid.behind mid.last (words_in line) e gives);
      left = subst (λ (n : Rest). AreLeft f.others n.bytes) (sym is) f.left;
      behind = let up = ap (λ (n : Rest). n.behind) is in omega (arith, up, r.behind, read.behind);
      last = ap (λ (n : Rest). n.last) is ∙ (r.last ∙ read.last);
      fewer = let kept = ap (λ (n : Rest). length n.bytes) is in omega (arith, kept, r.fewer, read.fewer);
    }

-- ---- steps one after another

-- the lines up to one that says a step
record IsUpTo (at last : ℕ) (lines later : List (List ℕ)) (line : Line) : Type 0 where
  before : List (List ℕ)
  parts : lines ≡ before ++ later
  said : steps_from at last before ≡ Ok (line ∷ [])
  number : line.at + 1 ≡ at + length before

up-to : (at last : ℕ) (lines later : List (List ℕ)) (line : Line) → next_from at last lines ≡ Ok (Some (line, later)) → IsUpTo at last lines later line
up-to at last [] later line e = absurd (cc)
up-to at last (l ∷ ls) later line e = go (step_of at last (words_in l)) refl (up-to (at + 1) last ls later line)
  where
    go : (said : Result (Option LratStep) LratErr) → step_of at last (words_in l) ≡ said
        → (next_from (at + 1) last ls ≡ Ok (Some (line, later)) → IsUpTo (at + 1) last ls later line) → IsUpTo at last (l ∷ ls) later line
    go (Err d) f rest =
        let none : next_from at last (l ∷ ls) ≡ Err d = ap (λ (s : Result (Option LratStep) LratErr). s >>= found_at at ls (next_from (at + 1) last ls)) f in
        absurd (cc)
    go (Ok None) f rest =
        let same : next_from at last (l ∷ ls) ≡ next_from (at + 1) last ls = ap (λ (s : Result (Option LratStep) LratErr). s >>= found_at at ls (next_from (at + 1) last ls)) f in
        let up = rest (sym same ∙ e) in
        record {
          before = l ∷ up.before;
          parts = ap (λ (xs : List (List ℕ)). l ∷ xs) up.parts;
          said = ap (λ (s : Result (Option LratStep) LratErr). s >>= λ step. steps_from (at + 1) (id_behind last step) up.before >>= λ steps. Ok (with_step at step steps)) f
              ∙ ap (λ (r : Result (List Line) LratErr). r >>= λ steps. Ok (with_step at None steps)) up.said;
          number = omega (arith, up.number);
        }
    go (Ok (Some step)) f rest =
        let here : next_from at last (l ∷ ls) ≡ Ok (Some (record { at = at; step = step }, ls)) =
        ap (λ (s : Result (Option LratStep) LratErr). s >>= found_at at ls (next_from (at + 1) last ls)) f in
        let same : ◌≡◌ {A = Line × List (List ℕ)} (record { at = at; step = step }, ls) (line, later) = cc in
        let line_is : record { at = at; step = step } ≡ line = ap (λ (p : Line × List (List ℕ)). p.0) same in
        record {
          before = l ∷ [];
          parts = ap (λ (p : Line × List (List ℕ)). l ∷ p.1) same;
          said = ap (λ (s : Result (Option LratStep) LratErr). s >>= λ step. steps_from (at + 1) (id_behind last step) [] >>= λ steps. Ok (with_step at step steps)) f
              ∙ ap (λ (x : Line). Ok (x ∷ [])) line_is;
          number = let n = ap (λ (x : Line). x.at) line_is in omega (arith, n);
        }

-- what is left has lines where it has bytes
left-lines : (later : List (List ℕ)) (now new : Rest) → AreLeft later now.bytes → length new.bytes < length now.bytes → later ≡ lines_in now.bytes
left-lines later now new left fewer = elim left [
  | inl (none, end) ↦ let empty = ap (λ (t : List ℕ). length t) end in absurd (omega (arith, fewer, empty))
  | inr same ↦ same
]

-- one step more
pub read-more : (steps : List Line) (line : Line) (start now new : Rest) → AreRead steps start now → IsNext line now new → AreRead (steps ++ line ∷ []) start new
read-more steps line start now new read next =
    let up = up-to (now.behind + 1) now.last (lines_in now.bytes) next.lines line next.next in
    let same = left-lines read.later now new read.left next.fewer in
    let number : now.behind + 1 ≡ start.behind + 1 + length read.before = omega (arith, read.behind) in
    let here : steps_from (start.behind + 1 + length read.before) (last_id start.last steps) up.before ≡ Ok (line ∷ []) =
    subst (λ (n : ℕ). steps_from n (last_id start.last steps) up.before ≡ Ok (line ∷ [])) number
    (subst (λ (l : ℕ). steps_from (now.behind + 1) l up.before ≡ Ok (line ∷ [])) read.last up.said) in
    record {
      before = read.before ++ up.before;
      later = next.lines;
      lines = read.lines ∙ ap (λ (ls : List (List ℕ)). read.before ++ ls) (same ∙ up.parts) ∙ sym (append_assoc read.before up.before next.lines);
      said = steps_from-append (start.behind + 1 + length read.before) (start.behind + 1) start.last read.before up.before refl ∙ rw (read.said, here) refl;
      left = next.left;
      behind = omega (arith, next.behind, up.number, read.behind, length-append read.before up.before);
      last = next.last ∙ ap (λ (n : ℕ). id_after n line.step) read.last ∙ sym (last_id-push start.last steps line);
      fewer = omega (arith, next.fewer, read.fewer);
    }

-- a fault behind the steps so far
pub read-stop : (e : LratErr) (steps : List Line) (start now new : Rest) → AreRead steps start now → StopsAt e [] now new → StopsAt e steps start new
read-stop e steps start now new read stop =
    let same = left-lines read.later now new read.left stop.fewer in
    let number : now.behind + 1 ≡ start.behind + 1 + length read.before = omega (arith, read.behind) in
    let here : steps_from (start.behind + 1 + length read.before) (last_id start.last steps) stop.before ≡ Ok [] =
    subst (λ (n : ℕ). steps_from n (last_id start.last steps) stop.before ≡ Ok []) number
    (subst (λ (l : ℕ). steps_from (now.behind + 1) l stop.before ≡ Ok []) read.last stop.said) in
    record {
      before = read.before ++ stop.before;
      later = stop.later;
      line = stop.line;
      lines = read.lines ∙ ap (λ (ls : List (List ℕ)). read.before ++ ls) (same ∙ stop.lines) ∙ sym (append_assoc read.before stop.before (stop.line ∷ stop.later));
      said = steps_from-append (start.behind + 1 + length read.before) (start.behind + 1) start.last read.before stop.before refl
          ∙ rw (read.said, here) (ap (λ (l : List Line). Ok l) (append-nil steps));
      fault = stop.fault;
      left = stop.left;
      behind = omega (arith, stop.behind, read.behind, length-append read.before stop.before);
      last = stop.last ∙ read.last;
      fewer = omega (arith, stop.fewer, read.fewer);
    }
