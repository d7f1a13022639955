-- A text that is written line by line spells its steps.
use Rattle.std.proofs.Common.{◌≡◌, ℕ, ◌+◌, ◌^◌, ◌<◌, Bool, true, false, eqb, List, [], ◌∷◌, ◌++◌, Option, Some, None, Result, Ok, Err, map, length, decimal, refl, sym, ap, ◌∙◌, subst, append-nil, append_assoc, length-append, arith}
use Rattle.std.specs.List.{flat_map, list_any}
use Rattle.std.proofs.lemmas.Bool.{eqb-true}
use Rattle.std.proofs.lemmas.List.Concat.{flat_map-append}
use Rattle.std.proofs.lemmas.List.Folds.{list_any-append}
use Rattle.lrat_text.specs.declared.error.LratErr.{LratErr}
use Rattle.lrat_text.specs.declared.step.Line.{Line}
use Rattle.tokens.specs.declared.number.Number.{Number}
use Rattle.tokens.specs.Numbers.{numbers_in, plain}
use Rattle.tokens.specs.Reading.{◌>>=◌}
use Rattle.tokens.specs.Text.{literal_text, number_of, ended}
use Rattle.tokens.specs.Words.{lines_in}
use Rattle.tokens.proofs.Facts.{number_in-decimal, number_in-any, lines-ended}
use Rattle.lrat_text.specs.declared.step.LratStep.{LratStep}
use Rattle.lrat_text.specs.declared.step.LratStep.TheVariants.{Add, Del}
use Rattle.lrat_text.specs.Steps.{id_after, last_id}
use Rattle.lrat_text.specs.Reading.{words_in, begins_d, step_of, id_behind, with_step, steps_from, SpellsLrat}
use Rattle.lrat_text.specs.Writing.{words_of, step_text, line_text, text_from, numbered, IsWritable, AreWritable, IsWritten}
use Rattle.lrat_text.proofs.PartLemmas.{numbers_in-both, numbers_in-zero, are_literals, are_ids, addition-written, deletion-written}
use Rattle.lrat_text.proofs.SplitLemmas.{words_in-step, step_text-one_line, id_after-fits}

-- numbers aren't the word that marks a deletion
begins_d-numbers : (words : List (List ℕ)) (ns : List Number) → numbers_in words ≡ Some ns
    → begins_d words ≡ false
begins_d-numbers [] ns e = refl
begins_d-numbers ([] ∷ words) ns e = refl
begins_d-numbers ((b ∷ c ∷ bs) ∷ words) ns e = refl
begins_d-numbers ((b ∷ []) ∷ words) ns e = go (eqb b 100) refl
  where
    go : (t : Bool) → eqb b 100 ≡ t → eqb b 100 ≡ false
    go false f = f
    go true f =
        let same : b ≡ 100 = eqb-true b 100 f in
        let none : numbers_in ((100 ∷ []) ∷ words) ≡ Some ns =
        subst (λ (x : ℕ). numbers_in ((x ∷ []) ∷ words) ≡ Some ns) same e in cc

-- the words of a written step spell it
step_of-written : (at last d : ℕ) (step : LratStep) → IsWritable last step → d < 2 ^ 64
    → step_of at last (decimal (id_after d step) ∷ words_of step) ≡ Ok (Some step)
step_of-written at last d (Add id clause hints) can lt =
    let ls = are_literals clause can.2 in
    let end = numbers_in-zero [] [] refl in
    let hints_are =
    numbers_in-both (map decimal hints) ((48 ∷ []) ∷ []) (map plain hints) (plain 0 ∷ [])
    (are_ids hints can.3).numbers end in
    let behind =
    numbers_in-zero (map decimal hints ++ (48 ∷ []) ∷ [])
    (map plain hints ++ plain 0 ∷ []) hints_are in
    let ns = map number_of clause ++ plain 0 ∷ (map plain hints ++ plain 0 ∷ []) in
    let words = words_of (Add id clause hints) in
    let numbers : numbers_in words ≡ Some ns =
    numbers_in-both (map literal_text clause) ((48 ∷ []) ∷ (map decimal hints ++ (48 ∷ []) ∷ []))
    (map number_of clause)
    (plain 0 ∷ (map plain hints ++ plain 0 ∷ [])) ls.numbers behind in
    let adds = begins_d-numbers words ns numbers in
    let added = addition-written at last id clause hints can in
    rw (number_in-decimal id can.1, adds, numbers, added) refl
step_of-written at last d (Del ids) can lt =
    let numbers =
    numbers_in-both (map decimal ids) ((48 ∷ []) ∷ []) (map plain ids) (plain 0 ∷ [])
    (are_ids ids can).numbers
    (numbers_in-zero [] [] refl) in
    rw (number_in-any d lt, numbers, deletion-written at ids can) refl

-- goes on behind some lines
abbrev pub followed : Result (List Line) LratErr → (List Line → Result (List Line) LratErr)
    → Result (List Line) LratErr
followed read rest = read >>= λ lines. rest lines >>= λ more. Ok (lines ++ more)

followed-nothing : (read : Result (List Line) LratErr) → read ≡ (read >>= λ more. Ok ([] ++ more))
followed-nothing (Ok more) = refl
followed-nothing (Err e) = refl

-- what one line more says in front of all
followed-step : (at : ℕ) (said : Option LratStep) (read : Result (List Line) LratErr)
    (rest : List Line → Result (List Line) LratErr)
    → (followed read (λ lines. rest (with_step at said lines)) >>= λ lines. Ok
    (with_step at said lines))
    ≡ followed (read >>= λ lines. Ok (with_step at said lines)) rest
followed-step at said (Err e) rest = refl
followed-step at said (Ok lines) rest = go said (rest (with_step at said lines))
  where
    go : (said : Option LratStep) (more : Result (List Line) LratErr)
        → ((more >>= λ m. Ok (lines ++ m)) >>= λ l. Ok (with_step at said l)) ≡
        (more >>= λ m. Ok (with_step at said lines ++ m))
    go said (Err e) = refl
    go None (Ok more) = refl
    go (Some step) (Ok more) = refl

pub steps_from-append : (n at last : ℕ) (xs ys : List (List ℕ)) → n ≡ at + length xs
    → steps_from at last (xs ++ ys) ≡ followed (steps_from at last xs)
    (λ lines. steps_from n (last_id last lines) ys)
steps_from-append n at last [] ys e =
    let same : n ≡ at = omega arith in
    rw same (followed-nothing (steps_from at last ys))
steps_from-append n at last (x ∷ xs) ys e =
    go (step_of at last (words_in x)) refl (λ l. steps_from-append n (at + 1) l xs ys (omega arith))
  where
    Rest : Type 0
    Rest = (l : ℕ)
        → steps_from (at + 1) l (xs ++ ys) ≡ followed (steps_from (at + 1) l xs)
        (λ lines. steps_from n (last_id l lines) ys)

    behind : (said : Option LratStep) (lines : List Line)
        → last_id (id_behind last said) lines ≡ last_id last (with_step at said lines)
    behind None lines = refl
    behind (Some step) lines = refl

    go : (read : Result (Option LratStep) LratErr) → step_of at last (words_in x) ≡ read → Rest
        → steps_from at last ((x ∷ xs) ++ ys)
        ≡ followed (steps_from at last (x ∷ xs)) (λ lines. steps_from n (last_id last lines) ys)
    go (Err d) f rest = rw f refl
    go (Ok None) f rest =
        rw (f, rest last)
        (followed-step at None (steps_from (at + 1) last xs)
        (λ lines. steps_from n (last_id last lines) ys))
    go (Ok (Some step)) f rest =
        rw (f, rest (id_after last step))
        (followed-step at (Some step) (steps_from (at + 1) (id_after last step) xs)
        (λ lines. steps_from n (last_id last lines) ys))

-- a written line is its step
steps_from-line : (at last d : ℕ) (step : LratStep) → IsWritable last step → d < 2 ^ 64
    → steps_from at last (step_text d step ∷ []) ≡ Ok (record { at = at; step = step } ∷ [])
steps_from-line at last d step can lt =
    rw (words_in-step last d step can lt, step_of-written at last d step can lt) refl

pub written_nothing : (m : ℕ) → IsWritten m [] []
written_nothing m = record { texts = []; whole = refl; single = refl; spells = refl; count = refl }

-- one line more
pub written_line : (m d : ℕ) (text : List ℕ) (lines : List Line) (step : LratStep)
    → IsWritten m text lines → IsWritable (last_id m lines) step → d < 2 ^ 64
    → IsWritten m (text ++ line_text d step)
    (lines ++ record { at = length lines + 1; step = step } ∷ [])
written_line m d text lines step w can lt =
    let at = length lines + 1 in
    let here = step_text d step in
    record {
      texts = w.texts ++ here ∷ [];
      whole = ap (λ (t : List ℕ). t ++ ended here) w.whole
          ∙ sym (flat_map-append ended w.texts (here ∷ [])
          ∙ ap (λ (t : List ℕ). flat_map ended w.texts ++ t) (append-nil (ended here)));
      single =
          list_any-append (list_any (λ b. eqb b 10)) w.texts (here ∷ [])
          ∙ rw (w.single, step_text-one_line (last_id m lines) d step can lt) refl;
      spells =
          steps_from-append at 1 m w.texts (here ∷ []) (omega (arith, w.count))
          ∙ rw (w.spells, steps_from-line at (last_id m lines) d step can lt) refl;
      count = omega (
        arith,
        w.count,
        length-append w.texts (here ∷ []),
        length-append lines
            (record { at = at; step = step } ∷ []),
      );
    }

pub written_spells : (m : ℕ) (text : List ℕ) (lines : List Line) → IsWritten m text lines
    → SpellsLrat m text lines
written_spells m text lines w =
    ap (λ (t : List ℕ). steps_from 1 m (lines_in t)) w.whole
    ∙ ap (steps_from 1 m) (lines-ended w.texts w.single)
    ∙ steps_from-append (1 + length w.texts) 1 m w.texts ([] ∷ []) refl
    ∙ rw w.spells (ap (λ (l : List Line). Ok l) (append-nil lines))

pub last_id-push : (m : ℕ) (lines : List Line) (line : Line)
    → last_id m (lines ++ line ∷ []) ≡ id_after (last_id m lines) line.step
last_id-push m [] line = refl
last_id-push m (l ∷ lines) line = last_id-push (id_after m l.step) lines line

-- and many lines more
written_more : (m last : ℕ) (text : List ℕ) (lines : List Line) (steps : List LratStep)
    → IsWritten m text lines → last ≡ last_id m lines → last < 2 ^ 64 → AreWritable last steps
    → IsWritten m (text ++ text_from last steps) (lines ++ numbered (length lines + 1) steps)
written_more m last text lines [] w e lt can = rw (append-nil text, append-nil lines) w
written_more m last text lines (step ∷ steps) w e lt can =
    let line : Line = record { at = length lines + 1; step = step } in
    let can_here = subst (λ (l : ℕ). IsWritable l step) e can.0 in
    let next = written_line m last text lines step w can_here lt in
    let after : id_after last step ≡ last_id m (lines ++ line ∷ []) =
    ap (λ (l : ℕ). id_after l step) e ∙ sym (last_id-push m lines line) in
    let count : length (lines ++ line ∷ []) ≡ length lines + 1 =
    omega (arith, length-append lines (line ∷ [])) in
    let all =
    written_more m (id_after last step) (text ++ line_text last step)
    (lines ++ line ∷ []) steps next after (id_after-fits last last step can.0 lt) can.1 in
    subst (λ (t : List ℕ). IsWritten m t (lines ++ line ∷ numbered (length lines + 1 + 1) steps))
    (append_assoc text (line_text last step) (text_from (id_after last step) steps))
    (subst (λ (l : List Line). IsWritten m
    ((text ++ line_text last step) ++ text_from (id_after last step) steps) l)
    (append_assoc lines (line ∷ []) (numbered (length lines + 1 + 1) steps))
    (subst (λ (n : ℕ). IsWritten m
    ((text ++ line_text last step) ++ text_from (id_after last step) steps)
    ((lines ++ line ∷ []) ++ numbered (n + 1) steps)) count all))

pub written_all : (m : ℕ) (steps : List LratStep) → m < 2 ^ 64 → AreWritable m steps
    → IsWritten m (text_from m steps) (numbered 1 steps)
written_all m steps lt can = written_more m m [] [] steps (written_nothing m) refl lt can
