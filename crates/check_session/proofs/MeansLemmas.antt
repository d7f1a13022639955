-- What a legal book's entries about the outputs mean for the circuits.
use Rattle.std.proofs.Common.{◌≡◌, ℕ, Bool, true, false, List, [], ◌∷◌, ◌++◌, Option, Some, None, refl, subst}
use Rattle.std.specs.Prelude.{◌↔◌}
use Rattle.std.specs.List.{find, AllByRecursion}
use Rattle.std.proofs.lemmas.Option.{none-some, same_Some}
use Rattle.lits.specs.Assignment.{IsSatisfiable}
use Rattle.lits.specs.Same.{opposite_dim}
use Rattle.netlist.specs.Net.{AigPair, AgreesOn, Differ}
use Rattle.netlist.specs.Miter.{miter_of}
use Rattle.unit_prop.specs.Log.{InTurn}
use Rattle.lemma_book.specs.declared.entry.Entry.{Entry}
use Rattle.lemma_book.specs.declared.entry.Entry.TheVariants.{Merge, Apart, Spent, Out, OutApart, OutSpent}
use Rattle.lemma_book.specs.declared.entry.Subject.TheVariants.{Output}
use Rattle.lemma_book.specs.Entry.{Entries, is_on, about, has_out}
use Rattle.lemma_book.specs.Good.{IsGood, NotApart}
use Rattle.lemma_book.specs.Book.{IsLegal}
use Rattle.lemma_book.specs.Agreement.{IsTrue}
use Rattle.check_session.specs.Finding.{Finding, Equivalent, Different, Undecided, Finds, Means, DiffersAt}
use Rattle.check_session.proofs.OutputLemmas.{about-subject}

found-all : (P : Entry → Type 0) (p : Entry → Bool) (es : List Entry) (e : Entry) → AllByRecursion P es → find p es ≡ Some e → P e
found-all P p [] e all found = absurd (none-some e found)
found-all P p (x ∷ xs) e all found = go (p x) refl found (found-all P p xs e all.1)
  where
    go : (b : Bool) → p x ≡ b → find p (x ∷ xs) ≡ Some e → (find p xs ≡ Some e → P e) → P e
    go true is f rest = subst P (same_Some x e (rw is at f)) all.0
    go false is f rest = rest (rw is at f)

found-turn : (P : List Entry → Entry → Type 0) (p : Entry → Bool) (before es : List Entry) (e : Entry) → InTurn P before es → find p es ≡ Some e
    → (earlier : List Entry) × P earlier e
found-turn P p before [] e turn found = absurd (none-some e found)
found-turn P p before (x ∷ xs) e turn found = go (p x) refl found (found-turn P p (before ++ x ∷ []) xs e turn.1)
  where
    go : (b : Bool) → p x ≡ b → find p (x ∷ xs) ≡ Some e → (find p xs ≡ Some e → (earlier : List Entry) × P earlier e)
        → (earlier : List Entry) × P earlier e
    go true is f rest = (before, subst (P before) (same_Some x e (rw is at f)) turn.0)
    go false is f rest = rest (rw is at f)

module _ (net : AigPair) (book : Entries) (legal : IsLegal net book) (true_all : AllByRecursion (IsTrue net) book.entries)
    (exact : IsSatisfiable opposite_dim (miter_of net) ↔ Differ net) where
  out-same : (j : ℕ) → has_out book.entries j ≡ true → AgreesOn net j
  out-same j out = go (about book.entries j) refl
    where
      go : (o : Option Entry) → about book.entries j ≡ o → AgreesOn net j
      go None is = let t : false ≡ true = rw is at out in cc
      go (Some (Merge node lit steps)) is = let t : false ≡ true = rw is at out in cc
      go (Some (Apart node lit input)) is = let t : false ≡ true = rw is at out in cc
      go (Some (Spent node lit seen log)) is = let t : false ≡ true = rw is at out in cc
      go (Some (Out k steps)) is =
          let same : AgreesOn net k =
          found-all (IsTrue net) (is_on (Output j)) book.entries (Out k steps) true_all is in
          let subject : Some (Output k) ≡ Some (Output j) = about-subject book.entries j (Out k steps) is in
          let number : k ≡ j = cc in
          subst (λ (i : ℕ). AgreesOn net i) number same
      go (Some (OutApart k input)) is = let t : false ≡ true = rw is at out in cc
      go (Some (OutSpent k seen log)) is = let t : false ≡ true = rw is at out in cc

  apart-differs : (j : ℕ) (input : List Bool) → about book.entries j ≡ Some (OutApart j input) → DiffersAt net j input
  apart-differs j input is =
      let good = found-turn
      (λ before e. IsGood net (record { sweep_budget = book.sweep_budget; out_budget = book.out_budget; entries = before }) e)
      (is_on (Output j)) [] book.entries (OutApart j input) legal is in
      good.1 NotApart

  -- what the finding means
  pub means-finding : (finding : Finding) → Finds net book.entries finding → Means net book.entries finding
  means-finding Equivalent finds = record { agree = λ j below. out-same j (finds j below); exact = exact }
  means-finding (Different j input) finds = apart-differs j input finds.0
  means-finding Undecided finds = λ j below spent. out-same j (finds.others j below spent)
