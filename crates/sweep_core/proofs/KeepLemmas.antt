-- What an event leaves as it was: the book's beginning, and what the workers knew.
use Rattle.std.proofs.Common.{◌≡◌, ℕ, zero, suc, ◌≤◌, Option, None, Some, Result, Ok, Err, OnOk, IfErr, List, [], ◌∷◌, ◌++◌, length, refl, sym, ap, ◌∙◌, subst, append_assoc, arith}
use Rattle.std.specs.Prelude.{slice_get, slice_set}
use Rattle.std.proofs.lemmas.List.{append-nil, length-append, length-set}
use Rattle.std.proofs.lemmas.Option.{none-some, same_Some}
use Rattle.lemma_book.specs.declared.entry.Entry.{Entry}
use Rattle.lemma_book.specs.Entry.{Entries, settled_at}
use Rattle.lemma_book.specs.Book.{StartsWith, answer_to, book_after}
use Rattle.lemma_book.specs.Machine.{Machine, IsRefresh, IsOffer}
use Rattle.lemma_book.specs.declared.refused.Offered.{Offered}
use Rattle.sweep_core.specs.declared.event.Event.{Event}
use Rattle.sweep_core.specs.declared.event.Event.TheVariants.{Draw, Refresh, Offer}
use Rattle.sweep_core.specs.declared.event.Reply.{Reply}
use Rattle.sweep_core.specs.declared.event.Reply.TheVariants.{Task, Known, Offered as Answer}
use Rattle.sweep_core.specs.Event.{Core, AreWithin, IsEvent, KnowsFrom, Keeps}

-- ---- books that begin with a book

-- a book begins with itself
pub starts-self : (book : Entries) → StartsWith book book
starts-self book =
    record { rest = []; entries = sym (append-nil book.entries); sweep = refl; out = refl }

starts-twice : (a b c : Entries) → StartsWith b a → StartsWith c b → StartsWith c a
starts-twice a b c first second = record {
  rest = first.rest ++ second.rest;
  entries =
      second.entries
      ∙ (ap (λ (es : List Entry). es ++ second.rest) first.entries
      ∙ append_assoc a.entries first.rest second.rest);
  sweep = second.sweep ∙ first.sweep;
  out = second.out ∙ first.out;
}

starts-after : (book : Entries) (e : Entry) → StartsWith (book_after book e) book
starts-after book e = go (settled_at book.entries e) refl
  where
    go : (o : Option ℕ) → settled_at book.entries e ≡ o → StartsWith (book_after book e) book
    go None is =
        subst (λ (b : Entries). StartsWith b book) (sym (rw is refl))
        (record { rest = e ∷ []; entries = refl; sweep = refl; out = refl })
    go (Some i) is =
        subst (λ (b : Entries). StartsWith b book) (sym (rw is refl)) (starts-self book)

starts-longer : (old new : Entries) → StartsWith new old → length old.entries ≤ length new.entries
starts-longer old new starts =
    let l = length-append old.entries starts.rest in
    let e = ap length starts.entries in
    omega (arith, l, e)

-- ---- what the workers know

within-longer : (old new : Entries) (known : List ℕ) → length old.entries ≤ length new.entries
    → AreWithin old known → AreWithin new known
within-longer old new [] longer within = tt
within-longer old new (n ∷ ns) longer within =
    (let w = within.0 in omega arith, within-longer old new ns longer within.1)

within-set : (book : Entries) (known : List ℕ) (w : ℕ) → AreWithin book known
    → AreWithin book (slice_set known w (length book.entries))
within-set book [] w within = tt
within-set book (n ∷ ns) zero within = (omega arith, within.1)
within-set book (n ∷ ns) (suc w) within = (within.0, within-set book ns w within.1)

-- a worker knows no less after one of them got to know the whole book
knows-set : (book : Entries) (known : List ℕ) (w v n : ℕ) → AreWithin book known
    → slice_get known v ≡ Some n
    → (m : ℕ) × (slice_get (slice_set known w (length book.entries)) v ≡ Some m) × (n ≤ m)
knows-set book [] w v n within is = absurd (none-some n is)
knows-set book (k ∷ ks) zero zero n within is =
    let same : k ≡ n = same_Some k n is in
    let most = within.0 in
    (length book.entries, refl, omega arith)
knows-set book (k ∷ ks) zero (suc v) n within is = (n, is, omega arith)
knows-set book (k ∷ ks) (suc w) zero n within is = (n, is, omega arith)
knows-set book (k ∷ ks) (suc w) (suc v) n within is = knows-set book ks w v n within.1 is

-- ---- events

knows-same : (w n : ℕ) (state : Machine) → slice_get state.known w ≡ Some n → KnowsFrom n w state
knows-same w n state is = record { known = n; known_is = is; from = omega arith }

pub keeps-self : (state : Machine) → AreWithin state.book state.known → Keeps state state
keeps-self state within = record {
  begins = starts-self state.book;
  within = within;
  workers = refl;
  known = λ w n is. knows-same w n state is;
}

-- the same of a core that is known under two names
pub keeps-start : (core inside : Core) → inside ≡ core
    → AreWithin inside.machine.book inside.machine.known → Keeps core.machine core.machine
keeps-start core inside same within =
    subst (λ (c : Core). Keeps c.machine c.machine) same (keeps-self inside.machine within)

pub keeps-refresh : (worker : ℕ) (old new : Machine) (reply : ℕ) → AreWithin old.book old.known
    → IsRefresh worker old new reply → Keeps old new
keeps-refresh worker old new reply within refresh =
    let all = length old.book.entries in
    let known_is : slice_set old.known worker reply ≡ slice_set old.known worker all =
    ap (slice_set old.known worker) refresh.reply_is in
    let after : List ℕ → Machine = λ known. record { book = old.book; next = old.next; known = known } in
    subst (Keeps old) (sym (refresh.new_is ∙ ap after known_is)) (record {
      begins = starts-self old.book;
      within = within-set old.book old.known worker within;
      workers = length-set old.known worker all;
      known = λ w n is.
          let k = knows-set old.book old.known worker w n within is in
          record { known = k.0; known_is = k.1; from = k.2 };
    })

pub keeps-offer : (e : Entry) (old new : Machine) (reply : Offered) → AreWithin old.book old.known
    → IsOffer e old new reply → Keeps old new
keeps-offer e old new reply within offer =
    let begins = starts-after old.book e in
    subst (Keeps old) (sym offer.new_is) (record {
      begins = begins;
      within =
          within-longer old.book (book_after old.book e) old.known
          (starts-longer old.book (book_after old.book e) begins) within;
      workers = refl;
      known = λ w n is. record { known = n; known_is = is; from = omega arith };
    })

-- a book that took the entry, or refused it for want of memory
pub keeps-append : {E : Type 0} (e : Entry) (old : Machine) (book : Entries)
    (answer : Result Offered E) (P : E → Type 0)
    → AreWithin old.book old.known → OnOk answer (book ≡ book_after old.book e)
    → IfErr answer (λ x. P x × (book ≡ old.book))
    → Keeps old (record { book = book; next = old.next; known = old.known })
keeps-append e old book (Ok o) P within taken refused =
    keeps-offer e old _ (answer_to old.book e) within
    (record {
      reply_is = refl;
      new_is =
          ap (λ (b : Entries). record { book = b; next = old.next; known = old.known }) taken;
    })
keeps-append e old book (Err x) P within taken refused =
    subst (λ (b : Entries). Keeps old (record { book = b; next = old.next; known = old.known }))
    (sym refused.1) (keeps-self old within)

-- what is kept twice is kept
pub keeps-twice : (a b c : Machine) → Keeps a b → Keeps b c → Keeps a c
keeps-twice a b c first second = record {
  begins = starts-twice a.book b.book c.book first.begins second.begins;
  within = second.within;
  workers = second.workers ∙ first.workers;
  known = λ w n is.
      let middle = first.known w n is in
      let last = second.known w middle.known middle.known_is in
      let from = middle.from in
      let further = last.from in
      record { known = last.known; known_is = last.known_is; from = omega arith };
}

-- no worker comes or goes
pub event-workers : (tasks : ℕ) (e : Event) (old new : Machine) (r : Reply)
    → IsEvent tasks e old new r
    → length new.known ≡ length old.known
event-workers tasks (Draw w) old new (Task number) does =
    ap (λ (m : Machine). length m.known) does.new_is
event-workers tasks (Draw w) old new (Known n) does = absurd does
event-workers tasks (Draw w) old new (Answer o) does = absurd does
event-workers tasks (Refresh w) old new (Task number) does = absurd does
event-workers tasks (Refresh w) old new (Known n) does =
    ap (λ (m : Machine). length m.known) does.new_is ∙ length-set old.known w n
event-workers tasks (Refresh w) old new (Answer o) does = absurd does
event-workers tasks (Offer w e) old new (Task number) does = absurd does
event-workers tasks (Offer w e) old new (Known n) does = absurd does
event-workers tasks (Offer w e) old new (Answer o) does =
    ap (λ (m : Machine). length m.known) does.new_is
