-- A run of events with one more event, and what is left to run.
use Rattle.std.proofs.Common.{◌≡◌, ℕ, ◌+◌, ◌≤◌, List, [], ◌∷◌, ◌++◌, length, take, Result, Ok, Err, OnErr, refl, sym, ap, ◌∙◌, subst, arith}
use Rattle.std.proofs.lemmas.List.{length-append}
use Rattle.lemma_book.specs.Machine.{Machine}
use Rattle.sweep_core.specs.declared.event.Event.{Event}
use Rattle.sweep_core.specs.declared.event.Event.TheVariants.{Draw, Refresh, Offer}
use Rattle.sweep_core.specs.declared.event.Reply.{Reply}
use Rattle.sweep_core.specs.declared.event.Reply.TheVariants.{Task, Known, Offered}
use Rattle.sweep_core.specs.Event.{Core, IsEvent, IsStep}
use Rattle.sweep_core.specs.Run.{IsRun, HasRunFirst}

-- one more event, after a run of events
pub run-last : (events : List Event) (old mid new : Core) (replies : List Reply) (e : Event)
    (r : Reply) → IsRun events old mid replies
    → IsStep e mid new r → IsRun (events ++ e ∷ []) old new (replies ++ r ∷ [])
run-last [] old mid new [] e r run step =
    record {
      between = new;
      first = subst (λ (core : Core). IsStep e core new r) run step;
      rest = refl;
    }
run-last [] old mid new (x ∷ xs) e r run step = absurd run
run-last (x ∷ xs) old mid new [] e r run step = absurd run
run-last (x ∷ xs) old mid new (y ∷ ys) e r run step =
    record {
      between = run.between;
      first = run.first;
      rest = run-last xs run.between mid new ys e r run.rest step;
    }

take-first : (xs ys : List Event) → take (length xs) (xs ++ ys) ≡ xs
take-first [] [] = refl
take-first [] (y ∷ ys) = refl
take-first (x ∷ xs) ys = ap (λ (rest : List Event). x ∷ rest) (take-first xs ys)

-- the first events were done, and these are left
pub run-first : (events done left : List Event) (old new : Core) (replies : List Reply)
    → events ≡ done ++ left → IsRun done old new replies
    → HasRunFirst events old new
run-first events done left old new replies parts run =
    let l = length-append done left in
    let e = ap length parts in
    record {
      done = length done;
      replies = replies;
      within = omega (arith, l, e);
      run =
          subst (λ (es : List Event). IsRun es old new replies)
          (sym (ap (take (length done)) parts ∙ take-first done left)) run;
    }

-- at most one number is drawn at an event
next-most : (tasks : ℕ) (e : Event) (old new : Machine) (r : Reply) → IsEvent tasks e old new r
    → new.next ≤ old.next + 1
next-most tasks (Draw w) old new (Task number) does =
    let n = ap (λ (m : Machine). m.next) does.new_is in omega (arith, n)
next-most tasks (Draw w) old new (Known n) does = absurd does
next-most tasks (Draw w) old new (Offered o) does = absurd does
next-most tasks (Refresh w) old new (Task number) does = absurd does
next-most tasks (Refresh w) old new (Known k) does =
    let n = ap (λ (m : Machine). m.next) does.new_is in omega (arith, n)
next-most tasks (Refresh w) old new (Offered o) does = absurd does
next-most tasks (Offer w e) old new (Task number) does = absurd does
next-most tasks (Offer w e) old new (Known n) does = absurd does
next-most tasks (Offer w e) old new (Offered o) does =
    let n = ap (λ (m : Machine). m.next) does.new_is in omega (arith, n)

pub drawn-left : (e : Event) (old new : Core) (r : Reply) (most left : ℕ) → IsStep e old new r
    → old.machine.next + (left + 1) ≤ most
    → new.machine.next + left ≤ most
drawn-left e old new r most left step drawn =
    let n = next-most old.tasks e old.machine new.machine r step.does in omega (arith, n)

-- what holds is so where a call fails
pub on-err : {T E : Type 0} (answer : Result T E) (P : Type 0) → P → OnErr answer P
on-err (Ok x) P holds = tt
on-err (Err e) P holds = holds
