-- What one worker makes of a book, task by task.
use Rattle.std.proofs.Common.{◌≡◌, ℕ, zero, suc, ◌≤◌, Bool, List, [], ◌∷◌, ◌++◌, length, map, take, drop, Option, Some, slice_get, inr, refl, sym, ap, ◌∙◌, subst, arith, append_assoc}
use Rattle.std.specs.List.{AllByRecursion}
use Rattle.std.specs.Option.{option_map_or}
use Rattle.std.proofs.lemmas.Option.{none-some}
use Rattle.std.proofs.lemmas.List.{append-nil, map-append, take_all, take-append-drop}
use Rattle.lits.proofs.Facts.{all-append, all-parts}
use Rattle.netlist.specs.Net.{AigPair}
use Rattle.netlist.proofs.Facts.{all-weaker, at_place as at-found}
use Rattle.lemma_book.specs.declared.entry.Entry.{Entry}
use Rattle.lemma_book.specs.Entry.{Entries, Question, answer_of, first_entries, is_on, place_on, question_of, subject_of, with_last}
use Rattle.lemma_book.specs.Book.{IsLegal, book_after}
use Rattle.lemma_book.specs.Good.{Already, IsGood}
use Rattle.lemma_book.proofs.Facts.{legal-last}
use Rattle.cone_query.specs.Query.{SeesAll}
use Rattle.sweep_workers.specs.declared.asked.Asked.{Asked}
use Rattle.sweep_workers.specs.declared.asked.Asked.TheVariants.{Pair, Output}
use Rattle.sweep_workers.specs.Asked.{IsAskable, question_in, questions, subject_in}
use Rattle.sweep_workers.specs.Answered.{AreAnswered, HasAnswer, IsAnswerTo, OpensTwoRoots, many}
use Rattle.sweep_workers.proofs.WeightLemmas.{many-append}
use Rattle.sweep_workers.proofs.WorkLemmas.{all-seen, sees-more}
use Rattle.sweep_workers.proofs.ClosedLemmas.{own-answer, same-on}
use Rattle.sweep_workers.proofs.RootLemmas.{opens-before}

-- ---- a task that the book settles

on-answer : (asked : Asked) (e : Entry) → subject_of e ≡ Some (subject_in asked) → IsAnswerTo (question_in asked) e
on-answer (Pair task) e on = inr on
on-answer (Output j) e on = on

pub answered-known : (net : AigPair) (book : Entries) (asked : Asked) (place : ℕ) → IsLegal net book
    → place_on book.entries (subject_in asked) ≡ Some place → AreAnswered net (question_in asked ∷ []) book book
answered-known net book asked place legal at =
    let found = at-found (is_on (subject_in asked)) book.entries place at in
    record {
      sweep_budget = refl;
      out_budget = refl;
      added = [];
      begins = sym (append-nil book.entries);
      legal = legal;
      few = λ test. omega arith;
      settled = (
        record {
          place = place;
          entry = found.0;
          at = found.1;
          answers = on-answer asked found.0 (same-on (subject_in asked) found.0 found.2);
        },
        tt,
      );
      seen = refl;
      roots = tt;
    }

-- ---- a task whose answer is put last

last-there : (es : List Entry) (e : Entry) → slice_get (es ++ e ∷ []) (length es) ≡ Some e
last-there [] e = refl
last-there (x ∷ xs) e = last-there xs e

pub good-whole : (net : AigPair) (book : Entries) (e : Entry) → IsGood net book e → IsGood net (first_entries (length book.entries) book) e
good-whole net book e good =
    subst (λ (es : List Entry). IsGood net (record { sweep_budget = book.sweep_budget; out_budget = book.out_budget; entries = es }) e)
    (sym (take_all (length book.entries) book.entries (omega arith))) good

pub answered-added : (net : AigPair) (book new : Entries) (q : Question) (e : Entry) → IsLegal net book → question_of e ≡ q
    → IsGood net book e → SeesAll book e → OpensTwoRoots net book.entries e → new ≡ book_after book e → AreAnswered net (q ∷ []) book new
answered-added net book new q e legal about good sees two after =
    let last : new ≡ with_last book e = after ∙ ap (λ (o : Option ℕ). option_map_or (λ i. book) o (with_last book e)) (good Already) in
    subst (λ (b : Entries). AreAnswered net (q ∷ []) book b) (sym last) (record {
      sweep_budget = refl;
      out_budget = refl;
      added = e ∷ [];
      begins = refl;
      legal = legal-last net book e legal good;
      few = λ test. let same : many test (question_of e ∷ []) ≡ many test (q ∷ []) = ap (λ (p : Question). many test (p ∷ [])) about in omega arith;
      settled = (
        record { place = length book.entries; entry = e; at = last-there book.entries e; answers = own-answer q e about },
        tt,
      );
      seen = let s = sees-more (length book.entries) book (answer_of e) (omega arith) sees in rw s refl;
      roots = (two, tt);
    })

-- ---- tasks that are settled one after the other

answer-stays : (xs ys : List Entry) (q : Question) → HasAnswer xs q → HasAnswer (xs ++ ys) q
answer-stays xs ys q has =
    record { place = has.place; entry = has.entry; at = there xs has.place has.at; answers = has.answers }
  where
    there : (es : List Entry) (k : ℕ) → slice_get es k ≡ Some has.entry → slice_get (es ++ ys) k ≡ Some has.entry
    there [] k at = absurd (none-some has.entry at)
    there (x ∷ es) zero at = at
    there (x ∷ es) (suc k) at = there es k at

pub answered-twice : (net : AigPair) (xs ys : List Question) (a b c : Entries) → AreAnswered net xs a b → AreAnswered net ys b c
    → AreAnswered net (xs ++ ys) a c
answered-twice net xs ys a b c one two = record {
  sweep_budget = two.sweep_budget ∙ one.sweep_budget;
  out_budget = two.out_budget ∙ one.out_budget;
  added = one.added ++ two.added;
  begins = two.begins ∙ (ap (λ (es : List Entry). es ++ two.added) one.begins ∙ append_assoc a.entries one.added two.added);
  legal = two.legal;
  few = few;
  settled = all-append (HasAnswer c.entries) xs ys
      (all-weaker (HasAnswer b.entries) (HasAnswer c.entries)
      (λ q has. subst (λ (es : List Entry). HasAnswer es q) (sym two.begins) (answer-stays b.entries two.added q has)) xs one.settled) two.settled;
  seen = all-seen a b one.added two.added one.begins one.seen two.seen;
  roots = all-append (OpensTwoRoots net a.entries) one.added two.added one.roots
      (all-weaker (OpensTwoRoots net b.entries) (OpensTwoRoots net a.entries)
      (λ e open_two. opens-before net a.entries one.added b one.legal one.begins e open_two) two.added two.roots);
}
  where
    few : (test : Question → Bool) → many test (map question_of (one.added ++ two.added)) ≤ many test (xs ++ ys)
    few test =
        let parts = ap (many test) (map-append question_of one.added two.added) in
        let left = many-append test (map question_of one.added) (map question_of two.added) in
        let right = many-append test xs ys in
        let f = one.few test in
        let g = two.few test in
        omega arith

-- one more task of a list
pub answered-next : (net : AigPair) (tasks next : List Asked) (asked : Asked) (a b c : Entries) → next ≡ tasks ++ asked ∷ []
    → AreAnswered net (questions tasks) a b → AreAnswered net (question_in asked ∷ []) b c → AreAnswered net (questions next) a c
answered-next net tasks next asked a b c is one two =
    subst (λ (qs : List Question). AreAnswered net qs a c) (sym (ap questions is ∙ map-append question_in tasks (asked ∷ [])))
    (answered-twice net (questions tasks) (question_in asked ∷ []) a b c one two)

-- the tasks behind the first ones
pub answered-rest : (net : AigPair) (tasks rest : List Asked) (n : ℕ) (a b c : Entries) → rest ≡ drop n tasks
    → AreAnswered net (questions (take n tasks)) a b → AreAnswered net (questions rest) b c → AreAnswered net (questions tasks) a c
answered-rest net tasks rest n a b c is one two =
    let parts : questions tasks ≡ questions (take n tasks) ++ questions (drop n tasks) =
    ap questions (sym (take-append-drop n tasks)) ∙ map-append question_in (take n tasks) (drop n tasks) in
    subst (λ (qs : List Question). AreAnswered net qs a c) (sym parts)
    (answered-twice net (questions (take n tasks)) (questions (drop n tasks)) a b c one
    (subst (λ (ts : List Asked). AreAnswered net (questions ts) b c) is two))

pub askable-rest : (net : AigPair) (tasks rest : List Asked) (n : ℕ) → rest ≡ drop n tasks → AllByRecursion (IsAskable net) tasks
    → AllByRecursion (IsAskable net) rest
askable-rest net tasks rest n is all =
    let parts = subst (λ (ts : List Asked). AllByRecursion (IsAskable net) ts) (sym (take-append-drop n tasks)) all in
    subst (λ (ts : List Asked). AllByRecursion (IsAskable net) ts) (sym is) (all-parts (IsAskable net) (take n tasks) (drop n tasks) parts).1
