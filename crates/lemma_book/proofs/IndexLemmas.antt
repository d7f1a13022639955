-- How the index of a list of entries grows, and what it finds; equal subjects and keys.
use Rattle.std.proofs.Common.{◌≡◌, ℕ, ◌+◌, Bool, true, false, cond, Option, None, Some, List, [], ◌∷◌, ◌++◌, length, refl, sym, ap, ◌∙◌, subst, add-zero, rules}
use Rattle.std.specs.Option.{option_map, option_or, is_some}
use Rattle.netlist.specs.Place.{place_of}
use Rattle.netlist.proofs.Facts.{place_of-append, or_place, find-place, is_some-place, list_any-same}
use Rattle.std.specs.Prelude.{slice_get, option_and_then}
use Rattle.std.specs.List.{AllByRecursion}
use Rattle.std.proofs.lemmas.Option.{none-some, same_Some}
use Rattle.std.proofs.lemmas.Bool.{and_parts}
use Rattle.lits.specs.Same.{same_node, same_lit}
use Rattle.lits.proofs.Facts.{exact-node, exact-lit}
use Rattle.lits.specs.declared.node.Node.{Node}
use Rattle.lits.specs.declared.literal.Lit.{Lit}
use Rattle.lemma_book.specs.declared.entry.Entry.TheVariants.{Merge, Apart, Spent, Out, OutApart, OutSpent}
use Rattle.lemma_book.specs.declared.entry.Subject.{Subject}
use Rattle.lemma_book.specs.declared.entry.Subject.TheVariants.{Merged, Output}
use Rattle.lemma_book.specs.declared.index.Key.TheVariants.{On, SpentOn}
use Rattle.lemma_book.specs.Entry.{same_subject, place_on, is_on, about, is_spent_on, has_spent_on}
use Rattle.lemma_book.specs.declared.entry.Entry.{Entry}
use Rattle.lemma_book.specs.declared.index.Key.{Key}
use Rattle.lemma_book.specs.Shelf.{same_key, key_of, has_key, number_of}
use Rattle.lemma_book.specs.Index.{IsIndex, Notes}
use Rattle.lemma_book.specs.declared.index.Index.{Index}

last_place : {X : Type 0} (test : X → Bool) (xs : List X) (x : X)
    → place_of test (xs ++ x ∷ []) ≡ option_or (place_of test xs) (cond (test x) (Some (length xs)) None)
last_place test xs x = place_of-append test xs (x ∷ []) ∙ go (place_of test xs) (test x)
  where
    go : (o : Option ℕ) (b : Bool)
        → or_place o (option_map (λ k. length xs + k) (cond b (Some 0) (option_map (λ k. k + 1) None))) ≡ option_or o (cond b (Some (length xs)) None)
    go (Some k) b = refl
    go None true = ap Some (add-zero (length xs))
    go None false = refl

index-more : (es : List Entry) (e : Entry) (old new : Index) → IsIndex es old → Notes old (key_of e) (length es) new → IsIndex (es ++ e ∷ []) new
index-more es e old new is notes = record {
  finds = λ k. notes.finds k
      ∙ ap (λ (o : Option ℕ). option_or o (cond (has_key k e) (Some (length es)) None)) (is.finds k)
      ∙ sym (last_place (has_key k) es e);
}

-- the index of one more entry
pub index-put : (es fs : List Entry) (e : Entry) (number : ℕ) (key : Option Key) (old new : Index) → IsIndex es old
    → Notes old key number new → key ≡ key_of e → number ≡ length es → fs ≡ es ++ e ∷ [] → IsIndex fs new
index-put es fs e number key old new is notes of_entry counts more =
    let noted : Notes old (key_of e) (length es) new =
    subst (λ (o : Option Key). Notes old o (length es) new) of_entry (subst (λ (n : ℕ). Notes old key n new) counts notes) in
    subst (λ (l : List Entry). IsIndex l new) (sym more) (index-more es e old new is noted)

is_spent-key : (n : Node) (l : Lit) (e : Entry) → has_key (SpentOn (record { node = n; lit = l })) e ≡ is_spent_on n l e
is_spent-key n l (Merge node lit steps) = refl
is_spent-key n l (Apart node lit input) = refl
is_spent-key n l (Spent node lit seen log) = refl
is_spent-key n l (Out j steps) = refl
is_spent-key n l (OutApart j input) = refl
is_spent-key n l (OutSpent j seen log) = refl

-- an entry is found by node and literal exactly where there is one
pub spent-found : (es : List Entry) (n : Node) (l : Lit) → is_some (number_of es (SpentOn (record { node = n; lit = l }))) ≡ has_spent_on es n l
spent-found es n l =
    is_some-place (has_key (SpentOn (record { node = n; lit = l }))) es
    ∙ list_any-same (has_key (SpentOn (record { node = n; lit = l }))) (is_spent_on n l) (is_spent-key n l) es

-- the entry on an output stands at its place
pub about-at : (es : List Entry) (j : ℕ) (o : Option ℕ) → o ≡ place_on es (Output j) → option_and_then (slice_get es) o ≡ about es j
about-at es j o e = ap (option_and_then (slice_get es)) e ∙ sym (find-place (is_on (Output j)) es)

-- subjects that are found equal are one
pub exact-subject : (x y : Subject) → same_subject x y ≡ true → x ≡ y
exact-subject = search rules

-- a subject equals itself
pub same-subject_self : (x : Subject) → same_subject x x ≡ true
same-subject_self = search rules

pub exact-key : (x y : Key) → same_key x y ≡ true → x ≡ y
exact-key (On (Merged n)) (On (Merged m)) e = ap (λ (x : Node). On (Merged x)) (exact-node n m e)
exact-key (On (Output j)) (On (Output k)) e = ap (λ (x : ℕ). On (Output x)) (search (rules, e))
exact-key (On (Merged n)) (On (Output k)) e = cc
exact-key (On (Output j)) (On (Merged m)) e = cc
exact-key (SpentOn s) (SpentOn t) e =
    let same = and_parts (same_node s.node t.node) (same_lit s.lit t.lit) e in
    ap (λ (n : Node). SpentOn (record { node = n; lit = s.lit })) (exact-node s.node t.node same.0)
    ∙ ap (λ (l : Lit). SpentOn (record { node = t.node; lit = l })) (exact-lit s.lit t.lit same.1)
exact-key (On s) (SpentOn t) e = cc
exact-key (SpentOn s) (On t) e = cc

-- what holds of each entry holds of the one about an output, if there is one
pub about-all : (P : Entry → Type 0) (entries : List Entry) (j : ℕ) (x : Entry) → AllByRecursion P entries → about entries j ≡ Some x → P x
about-all P [] j x all e = absurd (none-some x e)
about-all P (y ∷ ys) j x all e = go (is_on (Output j) y) refl (about-all P ys j x all.1)
  where
    go : (b : Bool) → is_on (Output j) y ≡ b → (about ys j ≡ Some x → P x) → P x
    go true f rest = let g : Some y ≡ Some x = rw f at e in subst P (same_Some y x g) all.0
    go false f rest = rest (rw f at e)
