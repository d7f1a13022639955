-- What was offered and drawn, when more is.
use Rattle.std.proofs.Common.{◌≡◌, ℕ, ◌+◌, Bool, true, false, List, [], ◌∷◌, ◌++◌, Option, None, Some, slice_get, refl, ap, ◌∙◌, arith}
use Rattle.std.specs.List.{list_all}
use Rattle.std.specs.Option.{option_map_or}
use Rattle.lemma_book.specs.declared.entry.Entry.{Entry}
use Rattle.lemma_book.specs.Entry.{Question}
use Rattle.board_lock.specs.declared.view.Said.{Said}
use Rattle.board_lock.specs.declared.view.Said.TheVariants.{At, Already, Known}
use Rattle.board_lock.specs.declared.view.Note.{Note}
use Rattle.sweep_workers.specs.Working.{drawn_of, offers, with_offer, with_question}
use Rattle.sweep_workers.proofs.WeightLemmas.{weigh, at_place}

with-offer : (s : Said) (xs ys : List Entry) → with_offer s (xs ++ ys) ≡ with_offer s xs ++ ys
with-offer (At i e) xs ys = refl
with-offer (Already i e) xs ys = refl
with-offer (Known n) xs ys = refl

pub offers-append : (xs ys : List Note) → offers (xs ++ ys) ≡ offers xs ++ offers ys
offers-append [] ys = refl
offers-append (x ∷ xs) ys = ap (with_offer x.said) (offers-append xs ys) ∙ with-offer x.said (offers xs) (offers ys)

with-question : (o : Option Question) (xs ys : List Question) → with_question o (xs ++ ys) ≡ with_question o xs ++ ys
with-question None xs ys = refl
with-question (Some q) xs ys = refl

pub drawn-append : (asked : List Question) (xs ys : List ℕ) → drawn_of asked (xs ++ ys) ≡ drawn_of asked xs ++ drawn_of asked ys
drawn-append asked [] ys = refl
drawn-append asked (x ∷ xs) ys =
    ap (with_question (slice_get asked x)) (drawn-append asked xs ys) ∙ with-question (slice_get asked x) (drawn_of asked xs) (drawn_of asked ys)

-- the weight of the questions that were drawn
pub drawn-weight : (w : Question → ℕ) (asked : List Question) (ns : List ℕ) → weigh w (drawn_of asked ns) ≡ weigh (at_place w asked) ns
drawn-weight w asked [] = refl
drawn-weight w asked (n ∷ ns) = go (slice_get asked n) (drawn-weight w asked ns)
  where
    go : (o : Option Question) → weigh w (drawn_of asked ns) ≡ weigh (at_place w asked) ns
        → weigh w (with_question o (drawn_of asked ns)) ≡ option_map_or w o 0 + weigh (at_place w asked) ns
    go None ih = let h = ih in omega arith
    go (Some q) ih = ap (λ (k : ℕ). w q + k) ih

pub all-pass_append : {T : Type 0} (test : T → Bool) (xs ys : List T) → list_all test xs ≡ true → list_all test ys ≡ true → list_all test (xs ++ ys) ≡ true
all-pass_append test [] ys first second = second
all-pass_append test (x ∷ xs) ys first second = go (test x) refl first (λ f. all-pass_append test xs ys f second)
  where
    go : (b : Bool) → test x ≡ b → list_all test (x ∷ xs) ≡ true → (list_all test xs ≡ true → list_all test (xs ++ ys) ≡ true)
        → list_all test (x ∷ xs ++ ys) ≡ true
    go true is all rest = rw (is, rest (rw is at all)) refl
    go false is all rest = let t : false ≡ true = rw is at all in cc
