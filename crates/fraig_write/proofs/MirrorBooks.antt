-- A book with one entry more: what is merged, which root a literal has, and what is known of an output.
use Rattle.std.proofs.Common.{◌≡◌, ℕ, zero, suc, ◌+◌, ◌<◌, Bool, true, false, cond, Option, Some, None, List, [], ◌∷◌, ◌++◌, length, find, refl, sym, ap, ◌∙◌, subst}
use Rattle.std.specs.Prelude.{slice_get}
use Rattle.std.specs.Option.{option_and_then, option_map, option_map_or}
use Rattle.std.specs.List.{list_any}
use Rattle.std.proofs.lemmas.Option.{none-some}
use Rattle.lits.specs.declared.node.Side.TheVariants.{A, B}
use Rattle.lits.specs.declared.node.Node.{Node}
use Rattle.lits.specs.declared.node.Node.TheVariants.{Const, Input, Gate, Xor}
use Rattle.lits.specs.declared.literal.Lit.{Lit}
use Rattle.lits.specs.declared.step.Step.{Step}
use Rattle.lits.specs.Same.{same_node}
use Rattle.lits.proofs.Facts.{same-node_self}
use Rattle.netlist.specs.Place.{place_of}
use Rattle.netlist.proofs.Facts.{at-place, is_some-place, none_from_is_some, or_place, or_place-none, place_of-append, slice_get-left, slice_get-right}
use Rattle.lemma_book.specs.declared.entry.Entry.{Entry}
use Rattle.lemma_book.specs.declared.entry.Entry.TheVariants.{Merge, Apart, Spent, Out, OutApart, OutSpent}
use Rattle.lemma_book.specs.declared.entry.Subject.TheVariants.{Merged, Output}
use Rattle.lemma_book.specs.Entry.{Entries, about, first_entries, is_on, place_on, settled_at, with_last}
use Rattle.lemma_book.specs.Book.{book_after}
use Rattle.lemma_book.specs.Good.{Already, IsGood}
use Rattle.netlist.specs.Net.{AigPair}
use Rattle.std.proofs.Math.Seq.{take-length}
use Rattle.lemma_book.specs.Root.{MergeAt, carried, follow, merge_in, merge_of, root_of, IsRoot}
use Rattle.lemma_book.proofs.Facts.{root-unsettled}
use Rattle.fraig_write.specs.Mirror.{is_of_a, AreOfA, IsOfA}

-- ---- merges
place-last : {X : Type 0} (test : X → Bool) (xs : List X) (x : X) → test x ≡ false → place_of test (xs ++ x ∷ []) ≡ place_of test xs
place-last test xs x e =
    place_of-append test xs (x ∷ [])
    ∙ ap (λ (b : Bool). or_place (place_of test xs) (option_map (λ k. length xs + k) (cond b (Some 0) (option_map (λ k. k + 1) None)))) e
    ∙ or_place-none (place_of test xs)

module _ (es : List Entry) (e : Entry) where
  -- a node that the entry doesn't merge stays as it is
  pub merge-apart : (n : Node) → is_on (Merged n) e ≡ false → merge_of (es ++ e ∷ []) n ≡ merge_of es n
  merge-apart n apart =
      ap (λ (o : Option ℕ). option_and_then (λ k. option_and_then (merge_in k) (slice_get (es ++ e ∷ []) k)) o)
      (place-last (is_on (Merged n)) es e apart)
      ∙ go (place_on es (Merged n)) refl
    where
      go : (o : Option ℕ) → place_on es (Merged n) ≡ o
          → option_and_then (λ k. option_and_then (merge_in k) (slice_get (es ++ e ∷ []) k)) o
          ≡ option_and_then (λ k. option_and_then (merge_in k) (slice_get es k)) o
      go None f = refl
      go (Some k) f =
          let within : k < length es = (at-place (is_on (Merged n)) es k f).3 in
          ap (option_and_then (merge_in k)) (slice_get-left es (e ∷ []) k within)

-- the node that it merges has its target
pub merge-last : (es : List Entry) (n : Node) (t : Lit) (steps : List Step) → IsRoot es n
    → merge_of (es ++ Merge n t steps ∷ []) n ≡ Some (record { entry = length es + 0; lit = t })
merge-last es n t steps root =
    ap (λ (o : Option ℕ). option_and_then (λ k. option_and_then (merge_in k) (slice_get (es ++ Merge n t steps ∷ []) k)) o) place
    ∙ ap (option_and_then (merge_in (length es + 0))) (slice_get-right es (Merge n t steps ∷ []) 0)
  where
    on : is_on (Merged n) (Merge n t steps) ≡ true
    on = same-node_self n

    place : place_on (es ++ Merge n t steps ∷ []) (Merged n) ≡ Some (length es + 0)
    place =
        place_of-append (is_on (Merged n)) es (Merge n t steps ∷ [])
        ∙ ap (λ (b : Bool). or_place (place_on es (Merged n)) (option_map (λ k. length es + k) (cond b (Some 0) (option_map (λ k. k + 1) None)))) on
        ∙ ap (λ (o : Option ℕ). or_place o (Some (length es + 0))) (root-unsettled es n root)

-- ---- a good entry
pub good-all : (net : AigPair) (book : Entries) (e : Entry) → IsGood net book e → IsGood net (first_entries (length book.entries) book) e
good-all net book e good =
    subst (λ (l : List Entry). IsGood net (record { sweep_budget = book.sweep_budget; out_budget = book.out_budget; entries = l }) e)
    (sym (take-length book.entries)) good

-- is settled by no other one
pub after-good : (net : AigPair) (book : Entries) (e : Entry) → IsGood net book e → book_after book e ≡ with_last book e
after-good net book e good = let free : settled_at book.entries e ≡ None = good Already in rw free refl

-- ---- roots

-- a literal whose node isn't merged leads nowhere
follow-root : (k : ℕ) (es : List Entry) (l : Lit) → IsRoot es l.node → follow k es l ≡ l
follow-root zero es l root = refl
follow-root (suc k) es l root = ap (λ (o : Option MergeAt). option_map_or (λ m. follow k es (carried l.neg m.lit)) o l) root

-- a merged node whose target isn't merged has that for a root
pub root-through : (es : List Entry) (n : Node) (m : MergeAt) (k : ℕ) → length es ≡ suc k → merge_of es n ≡ Some m → IsRoot es m.lit.node
    → root_of es (record { node = n; neg = false }) ≡ m.lit
root-through es n m k count at root =
    ap (λ (j : ℕ). follow j es (record { node = n; neg = false })) count
    ∙ ap (λ (o : Option MergeAt). option_map_or (λ x. follow k es (carried false x.lit)) o (record { node = n; neg = false })) at
    ∙ follow-root k es m.lit root

-- ---- outputs
module _ {X : Type 0} (test : X → Bool) where
  pub find-apart : (xs : List X) (x : X) → test x ≡ false → find test (xs ++ x ∷ []) ≡ find test xs
  find-apart [] x e = rw e refl
  find-apart (y ∷ ys) x e = go (test y) (find-apart ys x e)
    where
      go : (b : Bool) → find test (ys ++ x ∷ []) ≡ find test ys → cond b (Some y) (find test (ys ++ x ∷ [])) ≡ cond b (Some y) (find test ys)
      go true rest = refl
      go false rest = rest

  pub find-last : (xs : List X) (x : X) → find test xs ≡ None → test x ≡ true → find test (xs ++ x ∷ []) ≡ Some x
  find-last [] x none e = rw e refl
  find-last (y ∷ ys) x none e = go (test y) refl (find-last ys x)
    where
      go : (b : Bool) → test y ≡ b → (find test ys ≡ None → test x ≡ true → find test (ys ++ x ∷ []) ≡ Some x)
          → cond b (Some y) (find test (ys ++ x ∷ [])) ≡ Some x
      go true f rest = absurd (none-some y (sym (rw f at none)))
      go false f rest = rest (rw f at none) e

  pub find-none : (xs : List X) → list_any test xs ≡ false → find test xs ≡ None
  find-none [] e = refl
  find-none (y ∷ ys) e = go (test y) refl (find-none ys)
    where
      go : (b : Bool) → test y ≡ b → (list_any test ys ≡ false → find test ys ≡ None) → cond b (Some y) (find test ys) ≡ None
      go true f rest = let g : true ≡ false = rw f at e in cc
      go false f rest = rest (rw f at e)

-- ---- entries about A alone
none-of : (test : Entry → Bool) → ((e : Entry) → IsOfA e → test e ≡ false) → (es : List Entry) → AreOfA es → list_any test es ≡ false
none-of test none [] all = refl
none-of test none (e ∷ es) all = rw (none e all.0, none-of test none es all.1) refl

other-gate : (n : Node) (v : ℕ) → is_of_a n ≡ true → same_node n (Gate B v) ≡ false
other-gate Const v is = refl
other-gate (Input k) v is = refl
other-gate (Gate A u) v is = refl
other-gate (Gate B u) v is = cc
other-gate (Xor j) v is = cc

on-gate : (v : ℕ) (e : Entry) → IsOfA e → is_on (Merged (Gate B v)) e ≡ false
on-gate v (Merge n t steps) of = other-gate n v of
on-gate v (Apart n t input) of = refl
on-gate v (Spent n t seen log) of = refl
on-gate v (Out j steps) of = absurd of
on-gate v (OutApart j input) of = absurd of
on-gate v (OutSpent j seen log) of = absurd of

on-output : (j : ℕ) (e : Entry) → IsOfA e → is_on (Output j) e ≡ false
on-output j (Merge n t steps) of = refl
on-output j (Apart n t input) of = refl
on-output j (Spent n t seen log) of = refl
on-output j (Out i steps) of = absurd of
on-output j (OutApart i input) of = absurd of
on-output j (OutSpent i seen log) of = absurd of

-- they merge no gate of B
pub gate-unmerged : (es : List Entry) → AreOfA es → (v : ℕ) → IsRoot es (Gate B v)
gate-unmerged es all v =
    ap (option_and_then (λ k. option_and_then (merge_in k) (slice_get es k)))
    (none_from_is_some (place_on es (Merged (Gate B v)))
    (is_some-place (is_on (Merged (Gate B v))) es ∙ none-of (is_on (Merged (Gate B v))) (on-gate v) es all))

-- and are about no output
pub output-unknown : (es : List Entry) → AreOfA es → (j : ℕ) → about es j ≡ None
output-unknown es all j = find-none (is_on (Output j)) es (none-of (is_on (Output j)) (on-output j) es all)
