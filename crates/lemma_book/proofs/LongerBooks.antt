-- What is good over a book is good over a longer one, unless that settles it.
use Rattle.std.proofs.Common.{◌≡◌, ℕ, ◌+◌, ◌≤◌, Bool, true, false, List, [], ◌∷◌, ◌++◌, length, take, drop, zero, suc, Option, None, Some, refl, sym, ap, ◌∙◌, subst, arith}
use Rattle.std.specs.Prelude.{slice_get}
use Rattle.std.specs.Option.{option_and_then, option_map_or}
use Rattle.std.proofs.lemmas.List.{length-append, take-append-le, take-append-drop}
use Rattle.std.proofs.lemmas.Option.{none-some, same_Some, slice_get_within}
use Rattle.lits.specs.declared.node.Node.TheVariants.{Const, Input, Gate, Xor}
use Rattle.lits.specs.declared.literal.Lit.{Lit}
use Rattle.lits.specs.declared.step.Ref.{Ref}
use Rattle.lits.specs.declared.step.Ref.TheVariants.{Axiom, Entry as Shown, Own, Bound}
use Rattle.lits.specs.declared.step.Named.{Named}
use Rattle.netlist.specs.Net.{AigPair}
use Rattle.netlist.proofs.Facts.{slice_get-left}
use Rattle.unit_prop.proofs.Facts.{in_turn-append}
use Rattle.lemma_book.specs.declared.entry.Entry.{Entry}
use Rattle.lemma_book.specs.declared.entry.Entry.TheVariants.{Merge, Apart, Spent, Out, OutApart, OutSpent}
use Rattle.lemma_book.specs.Entry.{Entries, first_entries, subject_of, is_on, place_on, settled_at, with_last, lemmas_of, Question, OfPair, OfOutput}
use Rattle.lemma_book.specs.declared.entry.Subject.{Subject}
use Rattle.netlist.specs.Place.{place_of}
use Rattle.lemma_book.specs.declared.refused.Offered.TheVariants as Offered
use Rattle.lemma_book.specs.Book.{IsLegal, StartsWith, answer_to}
use Rattle.lemma_book.specs.Good.{NoNode, Already, NotEarlier, NotApart, Shape, Count, Seen, NoStep, NotNew, HasCount, HasSeen, HasStep, HasNew, merge_clause, out_clause, node_clause, OfQuery, IsGood}
use Rattle.lemma_book.proofs.MoreClauses.{step_after-more}

module _ (entries rest : List Entry) where
  -- a merge's clause stays at its place
  pub merge_clause-longer : (i k : ℕ) (c : List Lit) → merge_clause entries i k ≡ Some c → merge_clause (entries ++ rest) i k ≡ Some c
  merge_clause-longer i k c e = go (slice_get entries i) refl
    where
      go : (o : Option Entry) → slice_get entries i ≡ o → merge_clause (entries ++ rest) i k ≡ Some c
      go None f = absurd (none-some c (sym (ap (option_and_then (λ x. slice_get (lemmas_of x) k)) f) ∙ e))
      go (Some x) f =
          ap (option_and_then (λ y. slice_get (lemmas_of y) k)) (slice_get-left entries rest i (slice_get_within entries i x f)) ∙ e

  pub out_clause-longer : (net : AigPair) (n : Ref) (c : List Lit) → out_clause net entries n ≡ Some c → out_clause net (entries ++ rest) n ≡ Some c
  out_clause-longer net (Axiom node k) c e = e
  out_clause-longer net (Shown i k) c e = merge_clause-longer i k c e
  out_clause-longer net (Own k) c e = e
  out_clause-longer net (Bound side k) c e = e

  pub node_clause-longer : (net : AigPair) (n : Ref) (c : List Lit) → node_clause net entries n ≡ Some c → node_clause net (entries ++ rest) n ≡ Some c
  node_clause-longer net (Axiom Const k) c e = e
  node_clause-longer net (Axiom (Input i) k) c e = e
  node_clause-longer net (Axiom (Gate side v) k) c e = e
  node_clause-longer net (Axiom (Xor j) k) c e = e
  node_clause-longer net (Shown i k) c e = merge_clause-longer i k c e
  node_clause-longer net (Own k) c e = e
  node_clause-longer net (Bound side k) c e = e

  -- what a query is over is the same, where the entries are those that were seen
  query-longer : (net : AigPair) (q : Question) (seen : ℕ) (P : List Named → Type 0) → seen ≤ length entries
      → OfQuery net (take seen entries) q P → OfQuery net (take seen (entries ++ rest)) q P
  query-longer net q seen P within o = subst (λ (es : List Entry). OfQuery net es q P) (sym (take-append-le seen entries rest within)) o

  step-longer : (net : AigPair) (k : ℕ) (e : Entry) (book : Entries) → book.entries ≡ entries → HasSeen book e → HasStep net entries k e → HasStep net (entries ++ rest) k e
  step-longer net k (Merge node lit steps) book is seen has =
      λ s at. step_after-more (node_clause net entries) (node_clause net (entries ++ rest)) (node_clause-longer net) (take k steps) s.clause s.hints (has s at)
  step-longer net k (Apart node lit input) book is seen has = tt
  step-longer net k (Spent node lit n log) book is seen has = query-longer net (OfPair node lit) n _ (subst (λ (es : List Entry). n ≤ length es) is seen) has
  step-longer net k (Out j steps) book is seen has =
      λ s at. step_after-more (out_clause net entries) (out_clause net (entries ++ rest)) (out_clause-longer net) (take k steps) s.clause s.hints (has s at)
  step-longer net k (OutApart j input) book is seen has = tt
  step-longer net k (OutSpent j n log) book is seen has = query-longer net (OfOutput j) n _ (subst (λ (es : List Entry). n ≤ length es) is seen) has

  new-longer : (net : AigPair) (k : ℕ) (e : Entry) (book : Entries) → book.entries ≡ entries → HasSeen book e → HasNew net entries k e → HasNew net (entries ++ rest) k e
  new-longer net k (Merge node lit steps) book is seen has = tt
  new-longer net k (Apart node lit input) book is seen has = tt
  new-longer net k (Spent node lit n log) book is seen has = query-longer net (OfPair node lit) n _ (subst (λ (es : List Entry). n ≤ length es) is seen) has
  new-longer net k (Out j steps) book is seen has = tt
  new-longer net k (OutApart j input) book is seen has = tt
  new-longer net k (OutSpent j n log) book is seen has = query-longer net (OfOutput j) n _ (subst (λ (es : List Entry). n ≤ length es) is seen) has

count-longer : (book more : Entries) (e : Entry) → StartsWith more book → HasCount book e → HasCount more e
count-longer book more (Merge node lit steps) starts count = subst (λ (b : ℕ). length steps ≤ b + 2) (sym starts.sweep) count
count-longer book more (Apart node lit input) starts count = tt
count-longer book more (Spent node lit seen log) starts count = count ∙ sym starts.sweep
count-longer book more (Out j steps) starts count = subst (λ (b : ℕ). length steps ≤ b + 2) (sym starts.out) count
count-longer book more (OutApart j input) starts count = tt
count-longer book more (OutSpent j seen log) starts count = count ∙ sym starts.out

seen-longer : (book more : Entries) (e : Entry) → StartsWith more book → HasSeen book e → HasSeen more e
seen-longer book more (Merge node lit steps) starts seen = tt
seen-longer book more (Apart node lit input) starts seen = tt
seen-longer book more (Spent node lit n log) starts seen = let l = length-append book.entries starts.rest in let m = ap length starts.entries in omega (arith, l, m)
seen-longer book more (Out j steps) starts seen = tt
seen-longer book more (OutApart j input) starts seen = tt
seen-longer book more (OutSpent j n log) starts seen = let l = length-append book.entries starts.rest in let m = ap length starts.entries in omega (arith, l, m)

-- what is good over a book is good over a longer one, unless that settles it
pub good-longer : (net : AigPair) (book more : Entries) (e : Entry) → StartsWith more book → settled_at more.entries e ≡ None → IsGood net book e
    → IsGood net more e
good-longer net book more e starts new good NoNode = good NoNode
good-longer net book more e starts new good Already = new
good-longer net book more e starts new good NotEarlier = good NotEarlier
good-longer net book more e starts new good NotApart = good NotApart
good-longer net book more e starts new good Shape = good Shape
good-longer net book more e starts new good Count = count-longer book more e starts (good Count)
good-longer net book more e starts new good Seen = seen-longer book more e starts (good Seen)
good-longer net book more e starts new good (NoStep k) =
    subst (λ (es : List Entry). HasStep net es k e) (sym starts.entries) (step-longer book.entries starts.rest net k e book refl (good Seen) (good (NoStep k)))
good-longer net book more e starts new good (NotNew k) =
    subst (λ (es : List Entry). HasNew net es k e) (sym starts.entries) (new-longer book.entries starts.rest net k e book refl (good Seen) (good (NotNew k)))

-- a legal book with a good entry put last is legal
pub legal-last : (net : AigPair) (book : Entries) (e : Entry) → IsLegal net book → IsGood net book e → IsLegal net (with_last book e)
legal-last net book e legal good =
    in_turn-append (λ before x. IsGood net (record { sweep_budget = book.sweep_budget; out_budget = book.out_budget; entries = before }) x) [] book.entries (e ∷ []) legal (good, tt)

-- a book begins with its first entries
pub starts-first : (book : Entries) (n : ℕ) → StartsWith book (first_entries n book)
starts-first book n = record { rest = drop n book.entries; entries = sym (take-append-drop n book.entries); sweep = refl; out = refl }

-- an entry that settles one which the first entries don't settle is behind these
place-from : (test : Entry → Bool) (es : List Entry) (n i : ℕ) → place_of test (take n es) ≡ None → place_of test es ≡ Some i → n ≤ i
place-from test es zero i none at = omega arith
place-from test [] (suc n) i none at = absurd (none-some i at)
place-from test (e ∷ es) (suc n) i none at = go (test e) refl (place_of test (take n es)) refl (place_of test es) refl (place-from test es n)
  where
    go : (b : Bool) → test e ≡ b → (o : Option ℕ) → place_of test (take n es) ≡ o → (p : Option ℕ) → place_of test es ≡ p
        → ((k : ℕ) → place_of test (take n es) ≡ None → place_of test es ≡ Some k → n ≤ k) → suc n ≤ i
    go true f o g p h rest = absurd (none-some 0 (sym (rw f at none)))
    go false f (Some k) g p h rest = absurd (none-some (k + 1) (sym (rw (f, g) at none)))
    go false f None g None h rest = absurd (none-some i (rw (f, h) at at))
    go false f None g (Some k) h rest =
        let next : k + 1 ≡ i = same_Some (k + 1) i (rw (f, h) at at) in
        let before = rest k g h in
        omega arith

pub settled-from : (es : List Entry) (e : Entry) (n i : ℕ) → settled_at (take n es) e ≡ None → settled_at es e ≡ Some i → n ≤ i
settled-from es e n i none at = go (subject_of e) refl
  where
    go : (o : Option Subject) → subject_of e ≡ o → n ≤ i
    go None f = absurd (none-some i (sym (ap (λ (s : Option Subject). option_map_or (place_on es) s None) f) ∙ at))
    go (Some s) f =
        place-from (is_on s) es n i (sym (ap (λ (o : Option Subject). option_map_or (place_on (take n es)) o None) f) ∙ none)
        (sym (ap (λ (o : Option Subject). option_map_or (place_on es) o None) f) ∙ at)

module _ (net : AigPair) (book : Entries) (known : ℕ) (e : Entry) (good : IsGood net (first_entries known book) e) where
  -- what settles an entry that is good over the first entries stands behind these
  pub answer-settled : (i : ℕ) → settled_at book.entries e ≡ Some i → (Offered.Already i ≡ answer_to book e) × (known ≤ i)
  answer-settled i at = (
    sym (ap (λ (o : Option ℕ). option_map_or Offered.Already o (Offered.At (length book.entries))) at),
    settled-from book.entries e known i (good Already) at,
  )

  -- one that nothing settles may be put last
  pub legal-append : IsLegal net book → settled_at book.entries e ≡ None → IsLegal net (with_last book e)
  legal-append legal new = legal-last net book e legal (good-longer net (first_entries known book) book e (starts-first book known) new good)
