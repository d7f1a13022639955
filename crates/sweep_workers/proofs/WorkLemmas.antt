-- What a worker's pass shows, after each of its calls.
use Rattle.std.proofs.Common.{◌≡◌, ℕ, zero, suc, ◌+◌, ◌<◌, ◌≤◌, Bool, true, false, cond, nat_le, List, [], ◌∷◌, ◌++◌, length, map, Option, None, Some, slice_get, refl, sym, ap, ◌∙◌, subst, arith, append_assoc, length-append, get_or}
use Rattle.std.specs.Prelude.{nat_lt, if◌then◌else◌}
use Rattle.std.specs.List.{list_all, AllByRecursion}
use Rattle.std.specs.Option.{option_and_then, option_map_or}
use Rattle.std.proofs.lemmas.Option.{none-some, same_Some}
use Rattle.std.proofs.lemmas.List.{append-nil, map-append}
use Rattle.std.proofs.lemmas.Bool.Decides.{nat_tests}
use Rattle.lits.specs.declared.node.Node.{Node}
use Rattle.lits.proofs.Facts.{all-append}
use Rattle.netlist.specs.Net.{AigPair}
use Rattle.netlist.proofs.Facts.{find-place}
use Rattle.lemma_book.specs.declared.entry.Entry.{Entry}
use Rattle.lemma_book.specs.declared.refused.Offered.{Offered}
use Rattle.lemma_book.specs.declared.refused.Offered.TheVariants as offered
use Rattle.lemma_book.specs.declared.entry.Subject.{Subject}
use Rattle.lemma_book.specs.declared.entry.Subject.TheVariants.{Merged, Output}
use Rattle.lemma_book.specs.Entry.{Entries, Question, OfPair, OfOutput, Answer, Equal, Differ, Open, about, is_on, place_on, question_of, answer_of, settled_at, subject_of}
use Rattle.lemma_book.specs.Root.{IsRoot, merge_in}
use Rattle.lemma_book.specs.Book.{IsLegal, StartsWith}
use Rattle.sweep_core.proofs.Facts.{starts-self}
use Rattle.cone_query.specs.Query.{SeesAll, SeesAllOf}
use Rattle.board_lock.specs.declared.view.Said.TheVariants.{Known}
use Rattle.board_lock.specs.Story.{Root, note_of, said_of}
use Rattle.board_lock.specs.Totals.{times}
use Rattle.board_lock.specs.Views.{longer}
use Rattle.board_lock.specs.Pass.{Held, IsWholePass, Post, DrewOne, OfferedOne, Refreshed, SplitOff, joined, opened}
use Rattle.sweep_workers.specs.declared.asked.Asked.{Asked}
use Rattle.sweep_workers.specs.Asked.{IsAskable, question_in, questions}
use Rattle.sweep_workers.specs.Answered.{HasTwoRoots, OpensTwoRoots, sees, sees_first}
use Rattle.sweep_workers.specs.Working.{drawn_of, offers, with_question, IsAtEnd, IsRound, Owes, Told, Works}
use Rattle.sweep_workers.proofs.OfferLemmas.{offers-append, drawn-append, all-pass_append}
use Rattle.sweep_workers.proofs.RootLemmas.{opens-sooner}

times-append : (p : ℕ) (xs ys : List ℕ) → times p (xs ++ ys) ≡ times p xs + times p ys
times-append p [] ys = omega arith
times-append p (x ∷ xs) ys = let h = times-append p xs ys in omega arith

pub starts-length : (book first : Entries) → StartsWith book first → length first.entries ≤ length book.entries
starts-length book first starts = let l = ap (λ (es : List Entry). length es) starts.entries in omega (arith, l, length-append first.entries starts.rest)

pub starts-twice : (a b c : Entries) → StartsWith a b → StartsWith b c → StartsWith a c
starts-twice a b c first second = record {
  rest = second.rest ++ first.rest;
  entries = first.entries ∙ (ap (λ (es : List Entry). es ++ first.rest) second.entries ∙ append_assoc c.entries second.rest first.rest);
  sweep = first.sweep ∙ second.sweep;
  out = first.out ∙ second.out;
}

-- ---- a draw

module _ (board : Post) (asked : List Question) (old new : Held) (works : Works board asked old) (same : new.table ≡ old.table) where
  pub owes-drawn : (n : ℕ) (q : Question) → DrewOne board.tasks old new (Some n) → slice_get asked n ≡ Some q → Owes board asked q new
  owes-drawn n q drew at =
      let number : drew.number ≡ n = go (nat_lt drew.number board.tasks) refl drew.result_is in
      let draws : drawn_of asked (old.draws ++ drew.number ∷ []) ≡ drawn_of asked old.draws ++ q ∷ [] =
      drawn-append asked old.draws (drew.number ∷ [])
      ∙ ap (λ (k : ℕ). drawn_of asked old.draws ++ drawn_of asked (k ∷ [])) number
      ∙ ap (λ (o : Option Question). drawn_of asked old.draws ++ with_question o []) at in
      record {
        own = same ∙ works.own;
        legal = subst (λ (h : Held). IsLegal board.root.net h.known) (sym drew.new_is) works.legal;
        begins = subst (λ (h : Held). StartsWith h.known board.root.opening) (sym drew.new_is) works.begins;
        offered = ap (λ (h : Held). map question_of (offers h.notes) ++ q ∷ []) drew.new_is
            ∙ (ap (λ (qs : List Question). qs ++ q ∷ []) works.offered ∙ (sym draws ∙ sym (ap (λ (h : Held). drawn_of asked h.draws) drew.new_is)));
        seen = ap (λ (h : Held). list_all (sees_first (length board.root.opening.entries)) (offers h.notes)) drew.new_is ∙ works.seen;
        roots = subst (λ (h : Held). AllByRecursion (OpensTwoRoots board.root.net board.root.opening.entries) (offers h.notes)) (sym drew.new_is) works.roots;
      }
    where
      go : (b : Bool) → nat_lt drew.number board.tasks ≡ b → Some n ≡ (if nat_lt drew.number board.tasks then Some drew.number else None) → drew.number ≡ n
      go true is result = let r : Some n ≡ Some drew.number = rw is at result in sym (same_Some n drew.number r)
      go false is result = let r : Some n ≡ None = rw is at result in cc

  pub works-ended : DrewOne board.tasks old new None → length asked ≡ board.tasks → Works board asked new × IsAtEnd (length asked) new
  works-ended drew count =
      let past : board.tasks ≤ drew.number = go (nat_lt drew.number board.tasks) refl drew.result_is in
      let none : slice_get asked drew.number ≡ None = beyond asked drew.number (omega arith) in
      let draws : drawn_of asked (old.draws ++ drew.number ∷ []) ≡ drawn_of asked old.draws =
      drawn-append asked old.draws (drew.number ∷ [])
      ∙ (ap (λ (o : Option Question). drawn_of asked old.draws ++ with_question o []) none ∙ append-nil (drawn_of asked old.draws)) in (
        record {
          own = same ∙ works.own;
          legal = subst (λ (h : Held). IsLegal board.root.net h.known) (sym drew.new_is) works.legal;
          begins = subst (λ (h : Held). StartsWith h.known board.root.opening) (sym drew.new_is) works.begins;
          offered = ap (λ (h : Held). map question_of (offers h.notes)) drew.new_is
              ∙ (works.offered ∙ (sym draws ∙ sym (ap (λ (h : Held). drawn_of asked h.draws) drew.new_is)));
          seen = ap (λ (h : Held). list_all (sees_first (length board.root.opening.entries)) (offers h.notes)) drew.new_is ∙ works.seen;
          roots = subst (λ (h : Held). AllByRecursion (OpensTwoRoots board.root.net board.root.opening.entries) (offers h.notes)) (sym drew.new_is) works.roots;
        },
        record {
          number = drew.number;
          behind = omega arith;
          drawn = let d = ap (λ (h : Held). times drew.number h.draws) drew.new_is in
              let a = times-append drew.number old.draws (drew.number ∷ []) in
              let one : times drew.number (drew.number ∷ []) ≡ 1 = once drew.number in
              omega arith;
        },
      )
    where
      once : (n : ℕ) → times n (n ∷ []) ≡ 1
      once n = grind (arith, nat_tests)

      beyond : (qs : List Question) (n : ℕ) → length qs ≤ n → slice_get qs n ≡ None
      beyond [] n past = refl
      beyond (q ∷ qs) zero past = absurd (omega arith)
      beyond (q ∷ qs) (suc n) past = beyond qs n (omega arith)

      go : (b : Bool) → nat_lt drew.number board.tasks ≡ b → None ≡ (if nat_lt drew.number board.tasks then Some drew.number else None)
          → board.tasks ≤ drew.number
      go true is result = let r : None ≡ Some drew.number = rw is at result in absurd (none-some drew.number r)
      go false is result = grind (arith, nat_tests)

-- ---- an offer and a look at the book

offer-in : (e : Entry) (o : Offered) (p : ℕ) → offers (note_of p (said_of e o) ∷ []) ≡ e ∷ []
offer-in e (offered.At i) p = refl
offer-in e (offered.Already i) p = refl

pub sees-more : (n : ℕ) (book : Entries) (a : Answer) → n ≤ length book.entries → SeesAllOf book a → sees n a ≡ true
sees-more n book (Equal steps) some all = refl
sees-more n book (Differ input) some all = refl
sees-more n book (Open seen log) some all = grind (arith, nat_tests)

sees-fewer : (m n : ℕ) (a : Answer) → m ≤ n → sees n a ≡ true → sees m a ≡ true
sees-fewer m n (Equal steps) less all = refl
sees-fewer m n (Differ input) less all = refl
sees-fewer m n (Open seen log) less all = grind (arith, nat_tests)

all-fewer : (m n : ℕ) (es : List Entry) → m ≤ n → list_all (sees_first n) es ≡ true → list_all (sees_first m) es ≡ true
all-fewer m n [] less all = refl
all-fewer m n (e ∷ es) less all = go (sees_first n e) refl all (all-fewer m n es less)
  where
    go : (b : Bool) → sees_first n e ≡ b → list_all (sees_first n) (e ∷ es) ≡ true
        → (list_all (sees_first n) es ≡ true → list_all (sees_first m) es ≡ true) → list_all (sees_first m) (e ∷ es) ≡ true
    go true is all rest = let here = sees-fewer m n (answer_of e) less is in let behind = rest (rw is at all) in rw (here, behind) refl
    go false is all rest = let t : false ≡ true = rw is at all in cc

-- entries behind a book that has grown saw the shorter one too
pub all-seen : (old mid : Entries) (xs ys : List Entry) → mid.entries ≡ old.entries ++ xs → list_all (sees_first (length old.entries)) xs ≡ true
    → list_all (sees_first (length mid.entries)) ys ≡ true → list_all (sees_first (length old.entries)) (xs ++ ys) ≡ true
all-seen old mid xs ys grows first second =
    all-pass_append (sees_first (length old.entries)) xs ys first (all-fewer (length old.entries) (length mid.entries) ys fewer second)
  where
    fewer : length old.entries ≤ length mid.entries
    fewer =
        let l = ap (λ (es : List Entry). length es) grows in
        omega (arith, l, length-append old.entries xs)

pub works-settled : (board : Post) (asked : List Question) (q : Question) (old mid new : Held) (e : Entry) (o : Offered) (n : ℕ)
    → Owes board asked q old → mid.table ≡ old.table → new.table ≡ mid.table → question_of e ≡ q → SeesAll old.known e
    → OpensTwoRoots board.root.net old.known.entries e → OfferedOne e old mid o → Refreshed board.root.net mid new n → Works board asked new
works-settled board asked q old mid new e o n owes first second about sees two offer look =
    let opening = board.root.opening in
    let note = note_of old.number (said_of e o) in
    let last = note_of mid.number (Known n) in
    let notes_are : new.notes ≡ (old.notes ++ note ∷ []) ++ last ∷ [] =
    ap (λ (h : Held). h.notes) look.new_is ∙ ap (λ (h : Held). h.notes ++ last ∷ []) offer.new_is in
    let draws_are : new.draws ≡ old.draws = ap (λ (h : Held). h.draws) look.new_is ∙ ap (λ (h : Held). h.draws) offer.new_is in
    let known_is : new.known ≡ look.book = ap (λ (h : Held). h.known) look.new_is in
    let before : mid.known ≡ old.known = ap (λ (h : Held). h.known) offer.new_is in
    let offers_are : offers new.notes ≡ offers old.notes ++ e ∷ [] =
    ap offers notes_are
    ∙ (offers-append (old.notes ++ note ∷ []) (last ∷ [])
    ∙ (append-nil (offers (old.notes ++ note ∷ []))
    ∙ (offers-append old.notes (note ∷ []) ∙ ap (λ (es : List Entry). offers old.notes ++ es) (offer-in e o old.number)))) in
    record {
      own = second ∙ (first ∙ owes.own);
      legal = subst (λ (b : Entries). IsLegal board.root.net b) (sym known_is) look.legal;
      begins = subst (λ (b : Entries). StartsWith b opening) (sym known_is)
          (starts-twice look.book mid.known opening look.begins (subst (λ (b : Entries). StartsWith b opening) (sym before) owes.begins));
      offered = ap (map question_of) offers_are
          ∙ (map-append question_of (offers old.notes) (e ∷ [])
          ∙ (ap (λ (x : Question). map question_of (offers old.notes) ++ x ∷ []) about
          ∙ (owes.offered ∙ sym (ap (drawn_of asked) draws_are))));
      seen = ap (list_all (sees_first (length opening.entries))) offers_are
          ∙ all-pass_append (sees_first (length opening.entries)) (offers old.notes) (e ∷ []) owes.seen
          (let s = sees-more (length opening.entries) old.known (answer_of e) (starts-length old.known opening owes.begins) sees in rw s refl);
      roots = subst (λ (es : List Entry). AllByRecursion (OpensTwoRoots board.root.net opening.entries) es) (sym offers_are)
          (all-append (OpensTwoRoots board.root.net opening.entries) (offers old.notes) (e ∷ []) owes.roots
          (opens-sooner board.root.net old.known opening e owes.legal owes.begins two, tt));
    }

-- the same of what was told of a task
pub works-told : (board : Post) (asked : List Question) (q : Question) (old mid new : Held) (n : ℕ) → Owes board asked q old → mid.table ≡ old.table
    → new.table ≡ mid.table → Told board.root.net q old mid → Refreshed board.root.net mid new n → Works board asked new
works-told board asked q old mid new n owes first second told look =
    works-settled board asked q old mid new told.entry told.answer n owes first second told.about told.seen told.roots told.offered look

-- ---- a task that a book settles, or doesn't

pub told-of : (net : AigPair) (q : Question) (old new : Held) (e : Entry) (o : Offered) → question_of e ≡ q → SeesAll old.known e
    → OpensTwoRoots net old.known.entries e → OfferedOne e old new o → Told net q old new
told-of net q old new e o about seen two offered =
    record { entry = e; answer = o; about = about; seen = seen; roots = two; offered = offered }

pub claim-settled : (es : List Entry) (e : Entry) (s : Subject) (place : ℕ) → subject_of e ≡ Some s → Some place ≡ place_on es s
    → settled_at es e ≡ Some place
claim-settled es e s place on at = ap (λ (o : Option Subject). option_map_or (place_on es) o None) on ∙ sym at

pub claim-sees : (book : Entries) (e : Entry) → answer_of e ≡ Equal [] → SeesAll book e
claim-sees book e equal = subst (SeesAllOf book) (sym equal) tt

pub claim-opens : (net : AigPair) (es : List Entry) (e : Entry) → answer_of e ≡ Equal [] → OpensTwoRoots net es e
claim-opens net es e equal = subst (λ (a : Answer). HasTwoRoots net es (question_of e) a) (sym equal) (go (question_of e))
  where
    go : (q : Question) → HasTwoRoots net es q (Equal [])
    go (OfPair node lit) = tt
    go (OfOutput j) = tt

pub open-root : (es : List Entry) (n : Node) → place_on es (Merged n) ≡ None → IsRoot es n
open-root es n none = ap (option_and_then (λ k. option_and_then (merge_in k) (slice_get es k))) none

pub open-about : (es : List Entry) (j : ℕ) → place_on es (Output j) ≡ None → about es j ≡ None
open-about es j none = find-place (is_on (Output j)) es ∙ ap (option_and_then (slice_get es)) none

-- ---- the first pass, one that was cut off, and one that was taken over

pub works-opened : (board : Post) (asked : List Question) → IsLegal board.root.net board.root.opening → Works board asked (opened board)
works-opened board asked legal =
    record { own = refl; legal = legal; begins = starts-self board.root.opening; offered = refl; seen = refl; roots = tt }

pub works-kept : (board : Post) (asked : List Question) (turns : ℕ) (old new other : Held) → Works board asked old
    → SplitOff turns old new other → Works board asked new
works-kept board asked turns old new other works cut = subst (λ (h : Held). Works board asked h) (sym cut.new_is)
    (record {
      own = works.own;
      legal = works.legal;
      begins = works.begins;
      offered = works.offered;
      seen = works.seen;
      roots = works.roots;
    })

pub works-cut : (board : Post) (asked : List Question) (turns : ℕ) (old new other : Held) → Works board asked old
    → SplitOff turns old new other → Works board asked other
works-cut board asked turns old new other works cut = subst (λ (h : Held). Works board asked h) (sym cut.result_is)
    (record { own = works.own; legal = works.legal; begins = works.begins; offered = refl; seen = refl; roots = tt })

longer-has : (P : Entries → Type 0) (a b : Entries) → P a → P b → P (longer a b)
longer-has P a b one other = go (nat_le (length a.entries) (length b.entries))
  where
    go : (t : Bool) → P (cond t b a)
    go true = other
    go false = one

pub works-joined : (board : Post) (asked : List Question) (a b new : Held) → new ≡ joined a b → Works board asked a → Works board asked b
    → Works board asked new
works-joined board asked a b new is one other = subst (λ (h : Held). Works board asked h) (sym is) (record {
  own = one.own;
  legal = longer-has (IsLegal board.root.net) a.known b.known one.legal other.legal;
  begins = longer-has (λ (k : Entries). StartsWith k board.root.opening) a.known b.known one.begins other.begins;
  offered = ap (map question_of) (offers-append a.notes b.notes)
      ∙ (map-append question_of (offers a.notes) (offers b.notes)
      ∙ (ap (λ (qs : List Question). qs ++ map question_of (offers b.notes)) one.offered
      ∙ (ap (λ (qs : List Question). drawn_of asked a.draws ++ qs) other.offered ∙ sym (drawn-append asked a.draws b.draws))));
  seen = ap (list_all (sees_first (length board.root.opening.entries))) (offers-append a.notes b.notes)
      ∙ all-pass_append (sees_first (length board.root.opening.entries)) (offers a.notes) (offers b.notes) one.seen other.seen;
  roots = subst (λ (es : List Entry). AllByRecursion (OpensTwoRoots board.root.net board.root.opening.entries) es) (sym (offers-append a.notes b.notes))
      (all-append (OpensTwoRoots board.root.net board.root.opening.entries) (offers a.notes) (offers b.notes) one.roots other.roots);
})

pub end-joined : (n : ℕ) (a b new : Held) → new ≡ joined a b → IsAtEnd n a → IsAtEnd n new
end-joined n a b new is end = record {
  number = end.number;
  behind = end.behind;
  drawn = let d = ap (λ (h : Held). times end.number h.draws) is in
      let s = times-append end.number a.draws b.draws in
      let e = end.drawn in
      omega arith;
}

-- the question of a task that was read
pub question-read : (tasks : List Asked) (n : ℕ) (d : Asked) → n < length tasks → slice_get (questions tasks) n ≡ Some (question_in (get_or tasks n d))
question-read [] n d below = absurd (omega arith)
question-read (t ∷ ts) zero d below = refl
question-read (t ∷ ts) (suc n) d below = question-read ts n d (omega arith)

-- ---- a round that begins

pub round-begun : (net : AigPair) (book : Entries) (board : Post) (tasks : List Asked) (n : ℕ) → board.root ≡ record { net = net; opening = book }
    → board.tasks ≡ n → n ≡ length tasks → AllByRecursion (IsAskable net) tasks → IsRound net board tasks
round-begun net book board tasks n root many count askable =
    record { net_is = sym (ap (λ (r : Root). r.net) root); count = sym (many ∙ count); askable = askable }

pub works-begun : (net : AigPair) (book : Entries) (board : Post) (asked : List Question) (pass : Held)
    → board.root ≡ record { net = net; opening = book } → pass ≡ opened board → IsLegal net book → Works board asked pass
works-begun net book board asked pass root is legal =
    subst (λ (h : Held). Works board asked h) (sym is)
    (works-opened board asked (subst (λ (r : Root). IsLegal r.net r.opening) (sym root) legal))

pub whole-begun : (board : Post) (pass : Held) → pass ≡ opened board → IsWholePass pass
whole-begun board pass is = subst (λ (h : Held). IsWholePass h) (sym is) refl

pub drew-below : (tasks : ℕ) (old new : Held) (n : ℕ) → DrewOne tasks old new (Some n) → n < tasks
drew-below tasks old new n drew = go (nat_lt drew.number tasks) refl drew.result_is
  where
    go : (b : Bool) → nat_lt drew.number tasks ≡ b → Some n ≡ (if nat_lt drew.number tasks then Some drew.number else None) → n < tasks
    go true is result =
        let r : Some n ≡ Some drew.number = rw is at result in
        let same : n ≡ drew.number = same_Some n drew.number r in
        grind (arith, nat_tests)
    go false is result = let r : Some n ≡ None = rw is at result in cc
