-- Roots over a book that has grown: those that were one stay one, and where nothing was merged all stay.
use Rattle.std.proofs.Common.{◌≡◌, ℕ, zero, suc, ◌+◌, Bool, true, false, not, List, [], ◌∷◌, ◌++◌, length, Option, None, Some, slice_get, refl, sym, ap, ◌∙◌, subst}
use Rattle.std.specs.List.{AllByRecursion, list_all}
use Rattle.std.specs.Option.{option_and_then, option_map, option_map_or}
use Rattle.std.proofs.lemmas.Option.{none-some}
use Rattle.lits.specs.declared.literal.Lit.{Lit}
use Rattle.lits.specs.declared.node.Node.{Node}
use Rattle.lits.specs.declared.node.Side.TheVariants.{A, B}
use Rattle.lits.specs.Same.{same_lit}
use Rattle.lits.proofs.Facts.{exact-lit, same-lit_self}
use Rattle.netlist.specs.Net.{AigPair, output_of}
use Rattle.netlist.specs.Place.{place_of}
use Rattle.netlist.proofs.Facts.{all-weaker, at_place as at-found, or_place, place_of-append}
use Rattle.lemma_book.specs.declared.entry.Entry.{Entry}
use Rattle.lemma_book.specs.declared.entry.Entry.TheVariants.{Merge, Apart, Spent, Out, OutApart, OutSpent}
use Rattle.lemma_book.specs.declared.entry.Subject.TheVariants.{Merged}
use Rattle.lemma_book.specs.Entry.{Entries, Question, OfPair, OfOutput, Answer, Equal, Differ, Open, answer_of, is_on, place_on, question_of}
use Rattle.lemma_book.specs.Root.{IsRoot, MergeAt, carried, follow, merge_in, merge_of, root_of}
use Rattle.lemma_book.specs.Book.{IsLegal, StartsWith}
use Rattle.lemma_book.proofs.Facts.{root-unmerged, root-unsettled}
use Rattle.equal_outputs.specs.EqualRoots.{HaveOtherRoots}
use Rattle.sweep_workers.specs.Answered.{HasTwoRoots, OpensTwoRoots}
use Rattle.sweep_workers.specs.Swept.{is_of_output}

-- ---- a merge stays, and none comes where only outputs are settled

get-more : (es fs : List Entry) (k : ℕ) (x : Entry) → slice_get es k ≡ Some x → slice_get (es ++ fs) k ≡ Some x
get-more [] fs k x at = absurd (none-some x at)
get-more (e ∷ es) fs zero x at = at
get-more (e ∷ es) fs (suc k) x at = get-more es fs k x at

merge-more : (es fs : List Entry) (n : Node) (m : MergeAt) → merge_of es n ≡ Some m → merge_of (es ++ fs) n ≡ Some m
merge-more es fs n m is = go (place_on es (Merged n)) refl
  where
    go : (o : Option ℕ) → place_on es (Merged n) ≡ o → merge_of (es ++ fs) n ≡ Some m
    go None at = let t : None ≡ Some m = rw at at is in absurd (none-some m t)
    go (Some k) at =
        let found = at-found (is_on (Merged n)) es k at in
        let here : place_on (es ++ fs) (Merged n) ≡ Some k =
        place_of-append (is_on (Merged n)) es fs
        ∙ ap (λ (o : Option ℕ). or_place o (option_map (λ j. length es + j) (place_of (is_on (Merged n)) fs))) at in
        let there = get-more es fs k found.0 found.1 in
        let t : merge_in k found.0 ≡ Some m = rw (at, found.1) at is in
        rw (here, there) t

off-merged : (e : Entry) (n : Node) → is_of_output e ≡ true → is_on (Merged n) e ≡ false
off-merged (Merge node lit steps) n output = cc
off-merged (Apart node lit input) n output = cc
off-merged (Spent node lit seen log) n output = cc
off-merged (Out j steps) n output = refl
off-merged (OutApart j input) n output = refl
off-merged (OutSpent j seen log) n output = refl

none-merged : (fs : List Entry) (n : Node) → list_all is_of_output fs ≡ true → place_on fs (Merged n) ≡ None
none-merged [] n all = refl
none-merged (f ∷ fs) n all = go (is_of_output f) refl all (none-merged fs n)
  where
    go : (b : Bool) → is_of_output f ≡ b → list_all is_of_output (f ∷ fs) ≡ true → (list_all is_of_output fs ≡ true → place_on fs (Merged n) ≡ None)
        → place_on (f ∷ fs) (Merged n) ≡ None
    go true is all rest = let off = off-merged f n is in let none = rest (rw is at all) in rw (off, none) refl
    go false is all rest = let t : false ≡ true = rw is at all in cc

root-kept : (es fs : List Entry) (n : Node) → list_all is_of_output fs ≡ true → IsRoot es n → IsRoot (es ++ fs) n
root-kept es fs n all root =
    let none : place_on (es ++ fs) (Merged n) ≡ None =
    place_of-append (is_on (Merged n)) es fs
    ∙ ap (λ (o : Option ℕ). or_place o (option_map (λ j. length es + j) (place_of (is_on (Merged n)) fs))) (root-unsettled es n root)
    ∙ ap (option_map (λ j. length es + j)) (none-merged fs n all) in
    ap (λ (o : Option ℕ). option_and_then (λ k. option_and_then (merge_in k) (slice_get (es ++ fs) k)) o) none

-- ---- ways to the root

-- from an unmerged node one gets no further
stays : (es : List Entry) (k : ℕ) (l : Lit) → IsRoot es l.node → follow k es l ≡ l
stays es zero l root = refl
stays es (suc k) l root = ap (λ (o : Option MergeAt). option_map_or (λ m. follow k es (carried l.neg m.lit)) o l) root

-- once more where one has arrived
once-more : (es : List Entry) (k : ℕ) (l : Lit) → IsRoot es (follow k es l).node → follow (suc k) es l ≡ follow k es l
once-more es zero l root = stays es 1 l root
once-more es (suc k) l root = go (merge_of es l.node) refl (once-more es k)
  where
    go : (o : Option MergeAt) → merge_of es l.node ≡ o → ((n : Lit) → IsRoot es (follow k es n).node → follow (suc k) es n ≡ follow k es n)
        → follow (suc (suc k)) es l ≡ follow (suc k) es l
    go None e rest = stays es (suc (suc k)) l e ∙ sym (stays es (suc k) l e)
    go (Some m) e rest =
        ap (λ (o : Option MergeAt). option_map_or (λ m. follow (suc k) es (carried l.neg m.lit)) o l) e
        ∙ rest (carried l.neg m.lit) (subst (λ (o : Option MergeAt). IsRoot es (option_map_or (λ m. follow k es (carried l.neg m.lit)) o l).node) e root)
        ∙ sym (ap (λ (o : Option MergeAt). option_map_or (λ m. follow k es (carried l.neg m.lit)) o l) e)

module _ (net : AigPair) (es fs : List Entry) (book : Entries) (legal : IsLegal net book) (grows : book.entries ≡ es ++ fs) where
  root-next : (l : Lit) (m : MergeAt) → merge_of book.entries l.node ≡ Some m → root_of book.entries l ≡ root_of book.entries (carried l.neg m.lit)
  root-next l m is =
      sym (once-more book.entries (length book.entries) l (root-unmerged net book legal l))
      ∙ ap (λ (o : Option MergeAt). option_map_or (λ m. follow (length book.entries) book.entries (carried l.neg m.lit)) o l) is

  -- what was followed over the first entries is on the way over all
  root-after : (k : ℕ) (l : Lit) → root_of book.entries (follow k es l) ≡ root_of book.entries l
  root-after zero l = refl
  root-after (suc k) l = go (merge_of es l.node) refl (root-after k)
    where
      go : (o : Option MergeAt) → merge_of es l.node ≡ o → ((t : Lit) → root_of book.entries (follow k es t) ≡ root_of book.entries t)
          → root_of book.entries (follow (suc k) es l) ≡ root_of book.entries l
      go None is rest = ap (λ (o : Option MergeAt). root_of book.entries (option_map_or (λ m. follow k es (carried l.neg m.lit)) o l)) is
      go (Some m) is rest =
          ap (λ (o : Option MergeAt). root_of book.entries (option_map_or (λ m. follow k es (carried l.neg m.lit)) o l)) is
          ∙ rest (carried l.neg m.lit)
          ∙ sym (root-next l m (ap (λ (xs : List Entry). merge_of xs l.node) grows ∙ merge-more es fs l.node m is))

  -- two literals with one root keep one
  roots-more : (a b : Lit) → root_of es a ≡ root_of es b → root_of book.entries a ≡ root_of book.entries b
  roots-more a b same = sym (root-after (length es) a) ∙ ap (root_of book.entries) same ∙ root-after (length es) b

  two-before : (j : ℕ) → HaveOtherRoots net book.entries j → HaveOtherRoots net es j
  two-before j two a b left right same = two a b left right (roots-more a b same)

  two-before_of : (q : Question) (a : Answer) → HasTwoRoots net book.entries q a → HasTwoRoots net es q a
  two-before_of (OfOutput j) (Open seen log) two = two-before j two
  two-before_of (OfOutput j) (Equal steps) two = tt
  two-before_of (OfOutput j) (Differ input) two = tt
  two-before_of (OfPair node lit) a two = tt

  -- so what has two roots over all entries has two over the first ones
  pub opens-before : (e : Entry) → OpensTwoRoots net book.entries e → OpensTwoRoots net es e
  opens-before e two = two-before_of (question_of e) (answer_of e) two

  module _ (old : Entries) (old_is : old.entries ≡ es) (old_legal : IsLegal net old) (outputs : list_all is_of_output fs ≡ true) where
    -- where no merge came each root stays
    root-same : (l : Lit) → root_of book.entries l ≡ root_of es l
    root-same l =
        let root : IsRoot es (root_of es l).node = subst (λ (xs : List Entry). IsRoot xs (root_of xs l).node) old_is (root-unmerged net old old_legal l) in
        let kept : IsRoot book.entries (root_of es l).node = subst (λ (xs : List Entry). IsRoot xs (root_of es l).node) (sym grows) (root-kept es fs (root_of es l).node outputs root) in
        sym (root-after (length es) l) ∙ stays book.entries (length book.entries) (root_of es l) kept

    two-after : (j : ℕ) → HaveOtherRoots net es j → HaveOtherRoots net book.entries j
    two-after j two a b left right same = two a b left right (sym (root-same a) ∙ same ∙ root-same b)

    two-after_of : (q : Question) (a : Answer) → HasTwoRoots net es q a → HasTwoRoots net book.entries q a
    two-after_of (OfOutput j) (Open seen log) two = two-after j two
    two-after_of (OfOutput j) (Equal steps) two = tt
    two-after_of (OfOutput j) (Differ input) two = tt
    two-after_of (OfPair node lit) a two = tt

    -- and what has two over the first ones has two over all
    pub opens-after : (xs : List Entry) → AllByRecursion (OpensTwoRoots net es) xs → AllByRecursion (OpensTwoRoots net book.entries) xs
    opens-after xs all =
        all-weaker (OpensTwoRoots net es) (OpensTwoRoots net book.entries) (λ e two. two-after_of (question_of e) (answer_of e) two) xs all

-- what was left open over a longer book has two roots over the one that it begins with
pub opens-sooner : (net : AigPair) (book first : Entries) (e : Entry) → IsLegal net book → StartsWith book first
    → OpensTwoRoots net book.entries e → OpensTwoRoots net first.entries e
opens-sooner net book first e legal starts two = opens-before net first.entries starts.rest book legal starts.entries e two

-- ---- the same as a test

abbrev parted : List Entry → Option Lit → Option Lit → Bool
parted es (Some a) (Some b) = not (same_lit (root_of es a) (root_of es b))
parted es a b = true

abbrev parted_at : AigPair → List Entry → ℕ → Bool
parted_at net es j = parted es (output_of net A j) (output_of net B j)

abbrev opens_of : AigPair → List Entry → Question → Answer → Bool
opens_of net es (OfOutput j) (Open seen log) = parted_at net es j
opens_of net es q a = true

abbrev pub opens_two : AigPair → List Entry → Entry → Bool
opens_two net es e = opens_of net es (question_of e) (answer_of e)

module _ (net : AigPair) (es : List Entry) where
  two-parted : (j : ℕ) → HaveOtherRoots net es j → parted_at net es j ≡ true
  two-parted j two = go (output_of net A j) refl (output_of net B j) refl
    where
      go : (a : Option Lit) → output_of net A j ≡ a → (b : Option Lit) → output_of net B j ≡ b → parted es a b ≡ true
      go None left b right = refl
      go (Some a) left None right = refl
      go (Some a) left (Some b) right = here (same_lit (root_of es a) (root_of es b)) refl
        where
          here : (t : Bool) → same_lit (root_of es a) (root_of es b) ≡ t → not t ≡ true
          here false same = refl
          here true same = absurd (two a b left right (exact-lit (root_of es a) (root_of es b) same))

  parted-two : (j : ℕ) → parted_at net es j ≡ true → HaveOtherRoots net es j
  parted-two j apart a b left right same =
      let t : parted es (Some a) (Some b) ≡ true = rw (left, right) at apart in
      let one : same_lit (root_of es a) (root_of es b) ≡ true = rw same (same-lit_self (root_of es b)) in
      let f : false ≡ true = rw one at t in
      cc

  test_of : (q : Question) (a : Answer) → HasTwoRoots net es q a → opens_of net es q a ≡ true
  test_of (OfOutput j) (Open seen log) two = two-parted j two
  test_of (OfOutput j) (Equal steps) two = refl
  test_of (OfOutput j) (Differ input) two = refl
  test_of (OfPair node lit) a two = refl

  of-test : (q : Question) (a : Answer) → opens_of net es q a ≡ true → HasTwoRoots net es q a
  of-test (OfOutput j) (Open seen log) is = parted-two j is
  of-test (OfOutput j) (Equal steps) is = tt
  of-test (OfOutput j) (Differ input) is = tt
  of-test (OfPair node lit) a is = tt

  pub opens-test : (xs : List Entry) → AllByRecursion (OpensTwoRoots net es) xs → list_all (opens_two net es) xs ≡ true
  opens-test [] all = refl
  opens-test (x ∷ xs) all =
      let here = test_of (question_of x) (answer_of x) all.0 in
      let rest = opens-test xs all.1 in
      rw (here, rest) refl

  pub test-opens : (xs : List Entry) → list_all (opens_two net es) xs ≡ true → AllByRecursion (OpensTwoRoots net es) xs
  test-opens [] all = tt
  test-opens (x ∷ xs) all = go (opens_two net es x) refl all (test-opens xs)
    where
      go : (b : Bool) → opens_two net es x ≡ b → list_all (opens_two net es) (x ∷ xs) ≡ true
          → (list_all (opens_two net es) xs ≡ true → AllByRecursion (OpensTwoRoots net es) xs) → AllByRecursion (OpensTwoRoots net es) (x ∷ xs)
      go true is all rest = (of-test (question_of x) (answer_of x) is, rest (rw is at all))
      go false is all rest = let t : false ≡ true = rw is at all in cc

-- ---- entries that are of one kind, or about one output

pub opens-pair : (net : AigPair) (es : List Entry) (e : Entry) (node : Node) (lit : Lit) → question_of e ≡ OfPair node lit → OpensTwoRoots net es e
opens-pair net es e node lit about = subst (λ (q : Question). HasTwoRoots net es q (answer_of e)) (sym about) tt

pub opens-output : (net : AigPair) (es : List Entry) (e : Entry) (j : ℕ) → question_of e ≡ OfOutput j → HaveOtherRoots net es j → OpensTwoRoots net es e
opens-output net es e j about two = subst (λ (q : Question). HasTwoRoots net es q (answer_of e)) (sym about) (go (answer_of e))
  where
    go : (a : Answer) → HasTwoRoots net es (OfOutput j) a
    go (Open seen log) = two
    go (Equal steps) = tt
    go (Differ input) = tt
