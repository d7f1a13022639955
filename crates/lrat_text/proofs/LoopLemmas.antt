-- The steps of a text, line by line as they are read.
use Rattle.std.proofs.Common.{◌≡◌, ℕ, ◌+◌, ◌<◌, ◌≤◌, List, [], ◌∷◌, ◌++◌, Option, Some, None, Result, Ok, Err, length, length-drop, refl, sym, ap, ◌∙◌, inl, inr, append-nil, append_assoc, subst, arith}
use Rattle.byte_scan.specs.Scanning.{Place, ahead}
use Rattle.tokens.specs.Reading.{◌>>=◌}
use Rattle.tokens.proofs.Facts.{ReadsLine, gives-fault}
use Rattle.lrat_text.specs.declared.error.LratErr.{LratErr}
use Rattle.lrat_text.specs.declared.step.Line.{Line}
use Rattle.lrat_text.specs.declared.step.LratStep.{LratStep}
use Rattle.lrat_text.specs.Reading.{step_of, steps_from, id_behind, with_step, words_in, is_refusal, Gives}
use Rattle.lrat_text.specs.Steps.{id_after}
use Rattle.lrat_text.specs.Lines.{Rest, Found, steps_left, in_front, found_at, next_from, next_left, AreLeft, IsNext, GivesNext, HasForm, IsNextLine, behind_said}
use Rattle.tokens.specs.Words.{lines_in}

-- ---- one line more

-- a scan that reads a line stands behind it
pub next-line : (p q : Place) (line : List ℕ) (behind last : ℕ) → ReadsLine p q line
    → IsNextLine line (record { behind = behind; last = last; bytes = ahead p }) (record { behind = behind + 1; last = last; bytes = ahead q })
next-line p q line behind last r = record {
  behind = refl;
  last = refl;
  fewer = let same = ap (λ (t : List ℕ). length t) r.whole in omega (arith, length-drop p.at p.bytes, length-drop q.at q.bytes, r.further, r.within, same);
  lines = elim r.lines [
    | inl (only, end) ↦ inl (only, end)
    | inr (others, next) ↦ inr others
  ];
}

-- ---- lines that were read before

pub with_front : List Line → Result (List Line) LratErr → Result (List Line) LratErr
with_front lines read = read >>= λ more. Ok (lines ++ more)

-- none
pub front-nothing : (read : Result (List Line) LratErr) → read ≡ with_front [] read
unfolding with_front
front-nothing (Ok more) = refl
front-nothing (Err d) = refl

-- one more
pub front-more : (lines : List Line) (line : Line) (read : Result (List Line) LratErr)
    → with_front lines (in_front line read) ≡ with_front (lines ++ line ∷ []) read
unfolding with_front
front-more lines line (Ok more) = ap (λ (l : List Line). Ok l) (sym (append_assoc lines (line ∷ []) more))
front-more lines line (Err d) = refl

-- all
pub front-all : (lines : List Line) → with_front lines (Ok []) ≡ Ok lines
unfolding with_front
front-all lines = ap (λ (l : List Line). Ok l) (append-nil lines)

-- all, and others behind them
pub front-rest : (lines more : List Line) → with_front lines (Ok more) ≡ Ok (lines ++ more)
unfolding with_front
front-rest lines more = refl

-- what is left has a fault
pub front-fault : (lines : List Line) (whole read : Result (List Line) LratErr) (d : LratErr)
    → whole ≡ with_front lines read → Gives (Err d) read → Gives (Err d) whole
unfolding with_front
front-fault lines whole read d e = gives-fault is_refusal d read whole (λ f. e ∙ ap (with_front lines) f)

-- ---- what the next line is

-- the steps of a text, of the first line that says something
steps_found : ℕ → Found → Result (List Line) LratErr
steps_found last (Err e) = Err e
steps_found last (Ok None) = Ok []
steps_found last (Ok (Some (line, lines))) = in_front line (steps_from (line.at + 1) (id_after last line.step) lines)

steps-by-next : (at last : ℕ) (lines : List (List ℕ)) → steps_from at last lines ≡ steps_found last (next_from at last lines)
unfolding steps_found
steps-by-next at last [] = refl
steps-by-next at last (line ∷ lines) = go (step_of at last (words_in line)) (steps-by-next (at + 1) last lines)
  where
    same : (read : Result (List Line) LratErr) → (read >>= λ steps. Ok steps) ≡ read
    same (Ok steps) = refl
    same (Err e) = refl

    go : (said : Result (Option LratStep) LratErr) → steps_from (at + 1) last lines ≡ steps_found last (next_from (at + 1) last lines)
        → (said >>= λ step. steps_from (at + 1) (id_behind last step) lines >>= λ steps. Ok (with_step at step steps))
        ≡ steps_found last (said >>= found_at at lines (next_from (at + 1) last lines))
    go (Err e) later = refl
    go (Ok None) later = same (steps_from (at + 1) last lines) ∙ later
    go (Ok (Some step)) later = refl

steps-left : (rest : Rest) → steps_left rest ≡ steps_found rest.last (next_left rest)
steps-left rest = steps-by-next (rest.behind + 1) rest.last (lines_in rest.bytes)

pub next-some : (found : Option Line) (line : Line) (old new : Rest) → found ≡ Some line → GivesNext (Ok found) old new
    → steps_left old ≡ in_front line (steps_left new)
unfolding steps_found
next-some found line old new is gives =
    let next : IsNext line old new = subst (λ (f : Option Line). GivesNext (Ok f) old new) is gives in
    steps-left old ∙ ap (steps_found old.last) next.next
    ∙ ap (λ (n : ℕ). in_front line (steps_from (n + 1) (id_after old.last line.step) next.lines)) (sym next.behind)
    ∙ ap (λ (n : ℕ). in_front line (steps_from (new.behind + 1) n next.lines)) (sym next.last)
    ∙ elim next.left [
      | inl (none, end) ↦ rw (none, end) refl
      | inr same ↦ ap (λ (ls : List (List ℕ)). in_front line (steps_from (new.behind + 1) new.last ls)) same
    ]

pub next-none : (found : Option Line) (old new : Rest) → found ≡ None → GivesNext (Ok found) old new → steps_left old ≡ Ok []
unfolding steps_found
next-none found old new is gives =
    steps-left old ∙ ap (steps_found old.last) (subst (λ (f : Option Line). GivesNext (Ok f) old new) is gives).0

-- a fault of the next line is the first of what is left
pub next-fault : (e : LratErr) (old : Rest) → Gives (Err e) (next_left old) → Gives (Err e) (steps_left old)
unfolding steps_found
next-fault e old = gives-fault is_refusal e (next_left old) (steps_left old) (λ f. steps-left old ∙ ap (steps_found old.last) f)

-- what is left has a form, or a fault, as what its next line stands in front of
pub form-front : (line : Line) (whole read : Result (List Line) LratErr) → whole ≡ in_front line read → HasForm read → HasForm whole
form-front line whole (Ok lines) e h = rw e tt
form-front line whole (Err d) e h = absurd h

pub fault-front : (line : Line) (whole read : Result (List Line) LratErr) (d : LratErr) → whole ≡ in_front line read → Gives (Err d) read → Gives (Err d) whole
fault-front line whole read d e = gives-fault is_refusal d read whole (λ f. e ∙ ap (in_front line) f)

-- ---- one line is read

-- what the next one is, by what the line says
pub record ByLine (line : List ℕ) (old mid : Rest) : Type 0 where
  pub lines : List (List ℕ)
  pub left : AreLeft lines mid.bytes
  pub next : next_left old ≡ (step_of mid.behind mid.last (words_in line) >>= found_at mid.behind lines (next_left mid))

by-line : (line : List ℕ) (old mid : Rest) → IsNextLine line old mid → ByLine line old mid
by-line line old mid r = elim r.lines [
  | inl (only, end) ↦ record {
    lines = [];
    left = inl (refl, end);
    next = rw (r.behind, r.last, only, end) refl;
  }
  | inr more ↦ record { lines = lines_in mid.bytes; left = inr refl; next = rw (r.behind, r.last, more) refl }
]

-- it says nothing
pub next-blank : (line : List ℕ) (start old mid new : Rest) (said : Option LratStep) → next_left start ≡ next_left old → IsNextLine line old mid
    → said ≡ None → step_of mid.behind mid.last (words_in line) ≡ Ok said → new ≡ behind_said mid said → next_left start ≡ next_left new
next-blank line start old mid new said same r none says is =
    let by = by-line line old mid r in
    same ∙ by.next ∙ ap (λ (s : Result (Option LratStep) LratErr). s >>= found_at mid.behind by.lines (next_left mid)) (says ∙ ap (λ (s : Option LratStep). Ok s) none)
    ∙ ap next_left (sym (is ∙ ap (behind_said mid) none))

-- it says a step
pub next-step : (line : List ℕ) (start old mid new : Rest) (said : Option LratStep) (step : LratStep) (at : ℕ) → next_left start ≡ next_left old
    → old.last ≡ start.last → length old.bytes ≤ length start.bytes → IsNextLine line old mid → said ≡ Some step
    → step_of mid.behind mid.last (words_in line) ≡ Ok said → new ≡ behind_said mid said → at ≡ new.behind
    → GivesNext (Ok (Some (record { at = at; step = step }))) start new
next-step line start old mid new said step at same last fewer r some says is place =
    let by = by-line line old mid r in
    let new_is : new ≡ behind_said mid (Some step) = is ∙ ap (behind_said mid) some in
    let number : mid.behind ≡ at = sym (place ∙ ap (λ (t : Rest). t.behind) new_is) in
    let kept : new.bytes ≡ mid.bytes = ap (λ (t : Rest). t.bytes) new_is in
    let count : length new.bytes ≡ length mid.bytes = ap (λ (bs : List ℕ). length bs) kept in
    record {
      lines = by.lines;
      next =
          same ∙ by.next ∙ ap (λ (s : Result (Option LratStep) LratErr). s >>= found_at mid.behind by.lines (next_left mid)) (says ∙ ap (λ (s : Option LratStep). Ok s) some)
          ∙ ap (λ (n : ℕ). Ok (Some (record { at = n; step = step }, by.lines))) number;
      left = subst (λ (bs : List ℕ). AreLeft by.lines bs) (sym kept) by.left;
      behind = sym place;
      last = ap (λ (t : Rest). t.last) new_is ∙ ap (λ (n : ℕ). id_after n step) (r.last ∙ last);
      fewer = omega (arith, count, r.fewer, fewer);
    }

-- it has a fault
pub line-fault : (line : List ℕ) (start old mid : Rest) (e : LratErr) → next_left start ≡ next_left old → IsNextLine line old mid
    → Gives (Err e) (step_of mid.behind mid.last (words_in line)) → Gives (Err e) (next_left start)
line-fault line start old mid e same r =
    let by = by-line line old mid r in
    gives-fault is_refusal e (step_of mid.behind mid.last (words_in line)) (next_left start)
    (λ f. same ∙ by.next ∙ ap (λ (s : Result (Option LratStep) LratErr). s >>= found_at mid.behind by.lines (next_left mid)) f)

-- no line is left
pub next-nothing : (start old : Rest) → next_left start ≡ next_left old → old.bytes ≡ [] → next_left start ≡ Ok None
next-nothing start old same end = same ∙ rw end refl
