-- A fault of a line has its number.
use Rattle.std.proofs.Common.{◌≡◌, ℕ, Bool, true, false, List, [], ◌∷◌, Option, Some, None, Result, Ok, Err, drop, refl, subst}
use Rattle.std.specs.Prelude.{IfErr, ok_or, not, ◌&&◌, map, nat_lt}
use Rattle.std.specs.List.{list_any, list_all}
use Rattle.tokens.specs.declared.number.Number.{Number}
use Rattle.tokens.specs.Numbers.{number_in, numbers_in}
use Rattle.tokens.specs.Reading.{◌>>=◌}
use Rattle.lrat_text.specs.declared.error.LratErr.{LratErr}
use Rattle.lrat_text.specs.declared.error.LratErr.TheVariants.{BadNumber, Truncated, Order, Rat, NoMemory}
use Rattle.lrat_text.specs.declared.step.LratStep.TheVariants.{Add, Del}
use Rattle.lrat_text.specs.Numbers.{is_zero, is_id, literal_of, up_to_zero, past_zero, in_place}
use Rattle.tokens.specs.Words.{is_empty}
use Rattle.lrat_text.specs.Reading.{judged, numeric, addition, deletion, begins_d, step_behind, step_of, Gives}
use Rattle.lrat_text.specs.Lines.{IsOf}

abbrev FaultsOf : {A : Type 0} → ℕ → Result A LratErr → Type 0
FaultsOf at read = IfErr read (λ e. IsOf at e)

of-bind : {A B : Type 0} (at : ℕ) (read : Result A LratErr) (f : A → Result B LratErr) → FaultsOf at read → ((x : A) → FaultsOf at (f x)) → FaultsOf at (read >>= f)
of-bind at (Ok x) f of rest = rest x
of-bind at (Err e) f of rest = of

of-number : {A : Type 0} (at : ℕ) (found : Option A) → FaultsOf at (ok_or found (BadNumber at))
of-number at None = refl
of-number at (Some x) = tt

of-judged : {A : Type 0} (at : ℕ) (fit ended rises plain : Bool) (said : A) → FaultsOf at (judged at fit ended rises plain said)
of-judged at false ended rises plain said = refl
of-judged at true false rises plain said = refl
of-judged at true true false plain said = refl
of-judged at true true true false said = refl
of-judged at true true true true said = tt

of-addition : (at last : ℕ) (id : Number) (ns : List Number) → FaultsOf at (addition at last id ns)
of-addition at last id ns =
    let hints = up_to_zero (past_zero ns) in
    of-judged at (is_id id && in_place ns) (list_any is_zero ns && list_any is_zero (past_zero ns)) (nat_lt last id.size)
    (not (list_any (λ n. n.minus) hints)) (Add id.size (map literal_of (up_to_zero ns)) (map (λ n. n.size) hints))

of-deletion : (at : ℕ) (ns : List Number) → FaultsOf at (deletion at ns)
of-deletion at ns =
    of-judged at (list_all is_id (up_to_zero ns) && is_empty (past_zero ns)) (list_any is_zero ns) true true (Del (map (λ n. n.size) (up_to_zero ns)))

of-behind : (at last : ℕ) (first : Number) (words : List (List ℕ)) → FaultsOf at (step_behind at last first words)
of-behind at last first words = go (begins_d words) refl
  where
    go : (d : Bool) → begins_d words ≡ d → FaultsOf at (step_behind at last first words)
    go true e = rw e (of-bind at (numeric at (drop 1 words)) (deletion at) (of-number at (numbers_in (drop 1 words))) (of-deletion at))
    go false e = rw e (of-bind at (numeric at words) (addition at last first) (of-number at (numbers_in words)) (of-addition at last first))

of-step : (at last : ℕ) (words : List (List ℕ)) → FaultsOf at (step_of at last words)
of-step at last [] = tt
of-step at last (word ∷ words) =
    of-bind at (ok_or (number_in word) (BadNumber at)) (λ first. step_behind at last first words >>= λ step. Ok (Some step)) (of-number at (number_in word))
    (λ first. of-bind at (step_behind at last first words) (λ step. Ok (Some step)) (of-behind at last first words) (λ step. tt))

of-gives : {A : Type 0} (at : ℕ) (e : LratErr) (read : Result A LratErr) → FaultsOf at read → Gives (Err e) read → IsOf at e
of-gives at (BadNumber n) read of gives = subst (FaultsOf at) gives of
of-gives at (Truncated n) read of gives = subst (FaultsOf at) gives of
of-gives at (Order n) read of gives = subst (FaultsOf at) gives of
of-gives at (Rat n) read of gives = subst (FaultsOf at) gives of
of-gives at NoMemory read of gives = tt

-- what a line's reading answers in place of its step is a fault of that line
pub step-fault : (at last : ℕ) (words : List (List ℕ)) (e : LratErr) → Gives (Err e) (step_of at last words) → IsOf at e
step-fault at last words e = of-gives at e (step_of at last words) (of-step at last words)
