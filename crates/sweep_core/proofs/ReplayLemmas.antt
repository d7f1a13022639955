-- The turns of a run are a replay: they lead from the book before it to the book after it.
use Rattle.std.proofs.Common.{◌≡◌, ℕ, suc, ◌+◌, ◌<◌, Bool, true, false, Option, None, Some, List, [], ◌∷◌, ◌++◌, length, refl, sym, ap, ◌∙◌, subst, arith}
use Rattle.std.specs.Option.{option_map_or}
use Rattle.std.proofs.lemmas.List.{length-append}
use Rattle.std.proofs.lemmas.Option.{none-some, same_Some}
use Rattle.netlist.specs.Place.{place_of}
use Rattle.lemma_book.specs.declared.entry.Entry.{Entry}
use Rattle.lemma_book.specs.declared.entry.Subject.{Subject}
use Rattle.lemma_book.specs.declared.refused.Offered.{Offered}
use Rattle.lemma_book.specs.declared.turn.Turn.{Turn}
use Rattle.lemma_book.specs.Entry.{Entries, subject_of, is_on, place_on, settled_at}
use Rattle.lemma_book.specs.Book.{answer_to, book_after}
use Rattle.lemma_book.specs.Machine.{Machine, length_after, IsReplay}
use Rattle.sweep_core.specs.declared.event.Event.{Event}
use Rattle.sweep_core.specs.declared.event.Event.TheVariants.{Draw, Refresh, Offer}
use Rattle.sweep_core.specs.declared.event.Reply.{Reply}
use Rattle.sweep_core.specs.declared.event.Reply.TheVariants.{Task, Known, Offered as Answer}
use Rattle.sweep_core.specs.Event.{Core, IsEvent}
use Rattle.sweep_core.specs.Run.{IsRun, what_of, turn_of, turns_of}

-- ---- an entry that settles stands in the book

place-below : (test : Entry → Bool) (es : List Entry) (i : ℕ) → place_of test es ≡ Some i
    → i < length es
place-below test [] i at = absurd (none-some i at)
place-below test (e ∷ es) i at = go (test e) refl (place_of test es) refl (place-below test es)
  where
    go : (b : Bool) → test e ≡ b → (o : Option ℕ) → place_of test es ≡ o
        → ((k : ℕ) → place_of test es ≡ Some k → k < length es)
        → i < suc (length es)
    go true f o g rest = let here : 0 ≡ i = same_Some 0 i (rw f at at) in omega arith
    go false f None g rest = absurd (none-some i (rw (f, g) at at))
    go false f (Some k) g rest =
        let next : k + 1 ≡ i = same_Some (k + 1) i (rw (f, g) at at) in
        let below = rest k g in
        omega arith

pub settled-below : (es : List Entry) (e : Entry) (i : ℕ) → settled_at es e ≡ Some i → i < length es
settled-below es e i at = go (subject_of e) refl
  where
    go : (o : Option Subject) → subject_of e ≡ o → i < length es
    go None f =
        absurd
        (none-some i (sym (ap (λ (s : Option Subject). option_map_or (place_on es) s None) f) ∙ at))
    go (Some s) f =
        place-below (is_on s) es i
        (sym (ap (λ (o : Option Subject). option_map_or (place_on es) o None) f) ∙ at)

-- ---- one event

-- the turn of an offer leads to the book after it
offer-replay : (book : Entries) (e : Entry) (w : ℕ)
    → IsReplay (length book.entries) (record { pass = w; what = what_of (answer_to book e) } ∷ [])
    (length (book_after book e).entries)
offer-replay book e w = go (settled_at book.entries e) refl
  where
    go : (o : Option ℕ) → settled_at book.entries e ≡ o
        → IsReplay (length book.entries)
        (record { pass = w; what = what_of (answer_to book e) } ∷ [])
        (length (book_after book e).entries)
    go None is = rw is (refl, let l = length-append book.entries (e ∷ []) in omega arith)
    go (Some i) is = rw is (settled-below book.entries e i is, refl)

pub event-replay : (tasks : ℕ) (e : Event) (old new : Machine) (r : Reply)
    → IsEvent tasks e old new r
    → IsReplay (length old.book.entries) (turn_of e r) (length new.book.entries)
event-replay tasks (Draw w) old new (Task number) does =
    ap (λ (m : Machine). length m.book.entries) (sym does.new_is)
event-replay tasks (Draw w) old new (Known n) does = absurd does
event-replay tasks (Draw w) old new (Answer o) does = absurd does
event-replay tasks (Refresh w) old new (Task number) does = absurd does
event-replay tasks (Refresh w) old new (Known n) does =
    (does.reply_is, ap (λ (m : Machine). length m.book.entries) (sym does.new_is))
event-replay tasks (Refresh w) old new (Answer o) does = absurd does
event-replay tasks (Offer w e) old new (Task number) does = absurd does
event-replay tasks (Offer w e) old new (Known n) does = absurd does
event-replay tasks (Offer w e) old new (Answer o) does =
    subst
    (λ (a : Offered). IsReplay (length old.book.entries)
    (record { pass = w; what = what_of a } ∷ []) (length new.book.entries))
    (sym does.reply_is)
    (subst
    (λ (m : Machine). IsReplay (length old.book.entries)
    (record { pass = w; what = what_of (answer_to old.book e) } ∷ []) (length m.book.entries))
    (sym does.new_is) (offer-replay old.book e w))

-- ---- events in order

replay-append : (m k n : ℕ) (ts us : List Turn) → IsReplay m ts k → IsReplay k us n
    → IsReplay m (ts ++ us) n
replay-append m k n [] us first second = subst (λ (j : ℕ). IsReplay j us n) (sym first) second
replay-append m k n (t ∷ ts) us first second =
    (first.0, replay-append (length_after m t.what) k n ts us first.1 second)

pub run-replay : (events : List Event) (old new : Core) (replies : List Reply)
    → IsRun events old new replies
    → IsReplay (length old.machine.book.entries) (turns_of events replies)
    (length new.machine.book.entries)
run-replay [] old new [] run = ap (λ (core : Core). length core.machine.book.entries) (sym run)
run-replay [] old new (r ∷ rs) run = absurd run
run-replay (e ∷ es) old new [] run = absurd run
run-replay (e ∷ es) old new (r ∷ rs) run =
    let between = run.between in
    replay-append (length old.machine.book.entries) (length between.machine.book.entries)
    (length new.machine.book.entries) (turn_of e r) (turns_of es rs)
    (event-replay old.tasks e old.machine between.machine r run.first.does)
    (run-replay es between new rs run.rest)
