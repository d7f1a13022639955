-- What the record of a closed board shows of a round whose pass has come to the end of the tasks.
use Rattle.std.proofs.Common.{◌≡◌, ℕ, suc, ◌+◌, ◌≤◌, Bool, true, false, cond, ◌==◌, List, [], ◌∷◌, length, map, inl, inr, Option, None, Some, slice_get, refl, sym, ap, ◌∙◌, subst, arith}
use Rattle.std.specs.List.{list_all, AllByRecursion}
use Rattle.std.specs.Option.{option_map_or}
use Rattle.std.proofs.lemmas.Option.{none-some, slice_get_within}
use Rattle.std.proofs.lemmas.Bool.Decides.{nat_tests}
use Rattle.std.proofs.lemmas.List.{append-nil}
use Rattle.netlist.specs.Net.{AigPair}
use Rattle.netlist.proofs.Facts.{at_place as at-found}
use Rattle.lemma_book.specs.declared.entry.Entry.{Entry}
use Rattle.lemma_book.specs.declared.entry.Entry.TheVariants.{Merge, Apart, Spent, Out, OutApart, OutSpent}
use Rattle.lemma_book.specs.declared.entry.Subject.{Subject}
use Rattle.lemma_book.specs.declared.entry.Subject.TheVariants.{Merged, Output}
use Rattle.lemma_book.specs.declared.turn.Turn.{Turn}
use Rattle.lemma_book.specs.Entry.{Entries, Question, OfPair, OfOutput, question_of, subject_of, is_on, place_on, settled_at}
use Rattle.lemma_book.specs.Book.{IsLegal}
use Rattle.lemma_book.proofs.Facts.{exact-subject}
use Rattle.board_lock.specs.declared.view.Said.{Said}
use Rattle.board_lock.specs.declared.view.Said.TheVariants.{At, Already, Known}
use Rattle.board_lock.specs.declared.view.Note.{Note}
use Rattle.board_lock.specs.Story.{AreSo, IsSo}
use Rattle.board_lock.specs.Totals.{times}
use Rattle.board_lock.specs.Pass.{Held, Post}
use Rattle.board_lock.specs.Closed.{IsClosed}
use Rattle.sweep_workers.specs.Asked.{IsAmong}
use Rattle.sweep_workers.specs.Answered.{AreAnswered, HasAnswer, IsAnswerTo, OpensTwoRoots, many, sees_first}
use Rattle.sweep_workers.specs.Working.{drawn_of, offers, with_offer, with_question, IsAtEnd, Works}
use Rattle.sweep_workers.proofs.WeightLemmas.{weigh, many-weigh, none-passes, all-pass, once-weight, at_place, places-weight, drawn-below, below-drawn}
use Rattle.sweep_workers.proofs.OfferLemmas.{drawn-weight}
use Rattle.sweep_workers.proofs.RootLemmas.{opens_two, opens-test, test-opens}
use Rattle.sweep_workers.proofs.TurnLemmas.{added-weight}

-- ---- each number below was drawn

pub among-drawn : (asked : List Question) (draws : List ℕ) (n : ℕ) (q : Question) → slice_get asked n ≡ Some q → 1 ≤ times n draws
    → IsAmong q (drawn_of asked draws)
among-drawn asked [] n q at drawn = absurd (omega arith)
among-drawn asked (d ∷ ds) n q at drawn = go (d == n) refl drawn (among-drawn asked ds n q at)
  where
    among-with : (o : Option Question) (rest : List Question) → IsAmong q rest → IsAmong q (with_question o rest)
    among-with None rest among = among
    among-with (Some x) rest among = inr among

    go : (b : Bool) → (d == n) ≡ b → 1 ≤ times n (d ∷ ds) → (1 ≤ times n ds → IsAmong q (drawn_of asked ds))
        → IsAmong q (with_question (slice_get asked d) (drawn_of asked ds))
    go true is drawn ih =
        let e : d ≡ n = grind (arith, nat_tests) in
        let here : slice_get asked d ≡ Some q = ap (slice_get asked) e ∙ at in
        subst (λ (o : Option Question). IsAmong q (with_question o (drawn_of asked ds))) (sym here) (inl refl)
    go false is drawn ih =
        let rest : 1 ≤ cond false 1 0 + times n ds = rw is at drawn in
        among-with (slice_get asked d) (drawn_of asked ds) (ih (omega arith))

-- ---- each answer is so

subject-output : (e : Entry) (j : ℕ) → question_of e ≡ OfOutput j → subject_of e ≡ Some (Output j)
subject-output (Merge node lit steps) j is = cc
subject-output (Apart node lit input) j is = cc
subject-output (Spent node lit seen log) j is = cc
subject-output (Out k steps) j is = let same : k ≡ j = cc in ap (λ (i : ℕ). Some (Output i)) same
subject-output (OutApart k input) j is = let same : k ≡ j = cc in ap (λ (i : ℕ). Some (Output i)) same
subject-output (OutSpent k seen log) j is = let same : k ≡ j = cc in ap (λ (i : ℕ). Some (Output i)) same

pub own-answer : (q : Question) (e : Entry) → question_of e ≡ q → IsAnswerTo q e
own-answer (OfPair node lit) e is = inl is
own-answer (OfOutput j) e is = subject-output e j is

pub same-on : (s : Subject) (e : Entry) → is_on s e ≡ true → subject_of e ≡ Some s
same-on s (Merge node lit steps) on = ap (λ (t : Subject). Some t) (exact-subject (Merged node) s on)
same-on s (Apart node lit input) on = cc
same-on s (Spent node lit seen log) on = cc
same-on s (Out j steps) on = ap (λ (t : Subject). Some t) (exact-subject (Output j) s on)
same-on s (OutApart j input) on = ap (λ (t : Subject). Some t) (exact-subject (Output j) s on)
same-on s (OutSpent j seen log) on = ap (λ (t : Subject). Some t) (exact-subject (Output j) s on)

-- an entry on the subject of one that answers the question answers it too
same-answer : (q : Question) (e x : Entry) (s : Subject) → question_of e ≡ q → subject_of e ≡ Some s → subject_of x ≡ Some s → IsAnswerTo q x
same-answer (OfPair node lit) (Merge n l steps) x s is on other =
    let same : n ≡ node = cc in
    inr (other ∙ (sym on ∙ ap (λ (m : _). Some (Merged m)) same))
same-answer (OfPair node lit) (Apart n l input) x s is on other = cc
same-answer (OfPair node lit) (Spent n l seen log) x s is on other = cc
same-answer (OfPair node lit) (Out k steps) x s is on other = cc
same-answer (OfPair node lit) (OutApart k input) x s is on other = cc
same-answer (OfPair node lit) (OutSpent k seen log) x s is on other = cc
same-answer (OfOutput j) e x s is on other = other ∙ (sym on ∙ subject-output e j is)

said-answer : (book : Entries) (q : Question) (e : Entry) (i : ℕ) → question_of e ≡ q → settled_at book.entries e ≡ Some i → HasAnswer book.entries q
said-answer book q e i is at = go (subject_of e) refl
  where
    go : (o : Option Subject) → subject_of e ≡ o → HasAnswer book.entries q
    go None f = absurd (none-some i (sym (ap (λ (s : Option Subject). option_map_or (place_on book.entries) s None) f) ∙ at))
    go (Some s) f =
        let found = at-found (is_on s) book.entries i (sym (ap (λ (o : Option Subject). option_map_or (place_on book.entries) o None) f) ∙ at) in
        record {
          place = i;
          entry = found.0;
          at = found.1;
          answers = same-answer q e found.0 s is f (same-on s found.0 found.2);
        }

among-offers : (book : Entries) (ns : List Note) (q : Question) → AreSo book ns → IsAmong q (map question_of (offers ns)) → HasAnswer book.entries q
among-offers book [] q so among = absurd among
among-offers book (n ∷ ns) q so among = go n.said so.0 among (among-offers book ns q so.1)
  where
    go : (s : Said) → IsSo book s → IsAmong q (map question_of (with_offer s (offers ns)))
        → (IsAmong q (map question_of (offers ns)) → HasAnswer book.entries q) → HasAnswer book.entries q
    go (At i e) here (inl is) ih = record { place = i; entry = e; at = here; answers = own-answer q e is }
    go (At i e) here (inr rest) ih = ih rest
    go (Already i e) here (inl is) ih = said-answer book q e i is here
    go (Already i e) here (inr rest) ih = ih rest
    go (Known k) here rest ih = ih rest

-- what holds of the element at each place holds of all
all-places : (P : Question → Type 0) (qs : List Question) → ((n : ℕ) (q : Question) → slice_get qs n ≡ Some q → P q) → AllByRecursion P qs
all-places P [] each = tt
all-places P (q ∷ qs) each = (each 0 q refl, all-places P qs (λ n x at. each (suc n) x at))

-- ---- the round

module _ (board : Post) (asked : List Question) (pass : Held) (book : Entries) (turns : List Turn) (missed drawn : ℕ)
    (works : Works board asked pass) (end : IsAtEnd (length asked) pass) (closed : IsClosed board.root pass book turns missed drawn) where
  abbrev added : List Entry
  added = closed.replays.begins.rest

  most : (w : Entry → ℕ) → weigh w added ≤ weigh w (offers pass.notes)
  most w = added-weight w board.root.opening book added turns pass.notes closed.replays.begins.entries closed.replays.run closed.each closed.so

  few : (test : Question → Bool) → many test (map question_of added) ≤ many test asked
  few test =
      let one : (qs : List Question) → weigh (λ q. cond (test q) 1 0) qs ≡ many test qs = λ qs. is-weight qs in
      let a = many-weigh question_of test added in
      let b = most (λ e. cond (test (question_of e)) 1 0) in
      let c = many-weigh question_of test (offers pass.notes) in
      let d = ap (many test) works.offered in
      let e = one (drawn_of asked pass.draws) in
      let f = drawn-weight (λ q. cond (test q) 1 0) asked pass.draws in
      let g = once-weight (at_place (λ q. cond (test q) 1 0) asked) pass.draws drawn closed.draws in
      let h = places-weight (λ q. cond (test q) 1 0) asked drawn in
      let i = one asked in
      omega arith
    where
      is-weight : (qs : List Question) → weigh (λ q. cond (test q) 1 0) qs ≡ many test qs
      is-weight [] = refl
      is-weight (q ∷ qs) = ap (λ (n : ℕ). cond (test q) 1 0 + n) (is-weight qs)

  settled : AllByRecursion (HasAnswer book.entries) asked
  settled =
      let last = drawn-below end.number drawn (let d = closed.draws end.number in let e = end.drawn in omega arith) in
      all-places (HasAnswer book.entries) asked
      (λ n q at.
      let less = slice_get_within asked n q at in
      let once = below-drawn n drawn (let b = end.behind in omega arith) in
      let d = closed.draws n in
      among-offers book pass.notes q closed.so
      (subst (IsAmong q) (sym works.offered) (among-drawn asked pass.draws n q at (omega arith))))

  seen : list_all (sees_first (length board.root.opening.entries)) added ≡ true
  seen =
      let test = sees_first (length board.root.opening.entries) in
      let none = none-passes test (offers pass.notes) works.seen in
      let m = most (λ e. cond (test e) 0 1) in
      all-pass test added (omega arith)

  roots : AllByRecursion (OpensTwoRoots board.root.net board.root.opening.entries) added
  roots =
      let test = opens_two board.root.net board.root.opening.entries in
      let none = none-passes test (offers pass.notes) (opens-test board.root.net board.root.opening.entries (offers pass.notes) works.roots) in
      let m = most (λ e. cond (test e) 0 1) in
      test-opens board.root.net board.root.opening.entries added (all-pass test added (omega arith))

  pub answered-closed : AreAnswered board.root.net asked board.root.opening book
  answered-closed = record {
    sweep_budget = closed.replays.begins.sweep;
    out_budget = closed.replays.begins.out;
    added = added;
    begins = closed.replays.begins.entries;
    legal = closed.legal;
    few = few;
    settled = settled;
    seen = seen;
    roots = roots;
  }

-- where nothing is asked, the book answers it as it is
pub answered-none : (net : AigPair) (asked : List Question) (book : Entries) → asked ≡ [] → IsLegal net book → AreAnswered net asked book book
answered-none net asked book none legal = subst (λ (qs : List Question). AreAnswered net qs book book) (sym none) (record {
  sweep_budget = refl;
  out_budget = refl;
  added = [];
  begins = sym (append-nil book.entries);
  legal = legal;
  few = λ test. omega arith;
  settled = tt;
  seen = refl;
  roots = tt;
})
