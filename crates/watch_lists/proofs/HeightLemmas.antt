-- How long literals aren't false.
use Rattle.std.proofs.Common.{◌≡◌, ◌≢◌, ℕ, zero, suc, ◌<◌, ◌≤◌, Bool, true, false, List, [], ◌∷◌, length, refl, sym, ap, ◌∙◌, subst, arith, get_or, take, nat_eq, inl, inr, Option}
use Rattle.std.proofs.lemmas.Bool.{or_cases, or_left, or_right}
use Rattle.lits.specs.Clause.{has}
use Rattle.unit_prop.proofs.Facts.{contrary}
use Rattle.watch_lists.specs.Codes.{flip}
use Rattle.watch_lists.specs.State.{height, IsBest, IsLed, IsMarked}
use Rattle.watch_lists.specs.declared.attach.Lead.{Lead}
use Rattle.watch_lists.specs.declared.engine.Level.{Level}
use Rattle.watch_lists.proofs.LevelLemmas.{place_of}
use Rattle.watch_lists.proofs.TrailLemmas.{has-take}
use Rattle.watch_lists.proofs.FlipLemmas.{is_literal-flip, same_exact}
use Rattle.watch_lists.proofs.Facts.{has-at}

-- a literal whose negation stands at k first
pub height-at : (xs : List ℕ) (l k : ℕ) → k < length xs → get_or xs k 0 ≡ flip l → ((j : ℕ) → j < k → get_or xs j 0 ≢ flip l) → height xs l ≡ k
height-at [] l k h e first = absurd (omega arith)
height-at (x ∷ xs) l zero h e first = rw (e, is_literal-flip.equivalence.refl (flip l)) refl
height-at (x ∷ xs) l (suc k) h e first = go (nat_eq x (flip l)) refl (height-at xs l k (omega arith) e (λ j b. first (suc j) (omega arith)))
  where
    go : (b : Bool) → nat_eq x (flip l) ≡ b → height xs l ≡ k → height (x ∷ xs) l ≡ suc k
    go true f rest = absurd (first zero (omega arith) (same_exact x (flip l) f))
    go false f rest = rw (f, rest) refl

pub height-end : (xs : List ℕ) (l : ℕ) → has nat_eq xs (flip l) ≡ false → height xs l ≡ length xs
height-end [] l h = refl
height-end (x ∷ xs) l h = go (nat_eq x (flip l)) refl (height-end xs l)
  where
    go : (b : Bool) → nat_eq x (flip l) ≡ b → (has nat_eq xs (flip l) ≡ false → height xs l ≡ length xs) → height (x ∷ xs) l ≡ length (x ∷ xs)
    go true f rest = contrary _ (or_left _ (has nat_eq xs (flip l)) f) h
    go false f rest = rw f (ap suc (rest (rw f at h)))

-- up to n the negation stands exactly where the height is below n
pub height-below : (xs : List ℕ) (l n : ℕ) → has nat_eq (take n xs) (flip l) ≡ true → height xs l < n
height-below xs l zero h = contrary _ h refl
height-below [] l (suc n) h = contrary _ h refl
height-below (x ∷ xs) l (suc n) h = go (nat_eq x (flip l)) refl (height-below xs l n)
  where
    go : (b : Bool) → nat_eq x (flip l) ≡ b → (has nat_eq (take n xs) (flip l) ≡ true → height xs l < n) → height (x ∷ xs) l < suc n
    go true f rest = rw f (omega arith)
    go false f rest = let r = rest (rw f at h) in rw f (omega arith)

pub below-height : (xs : List ℕ) (l n : ℕ) → n ≤ length xs → height xs l < n → has nat_eq (take n xs) (flip l) ≡ true
below-height xs l zero m h = absurd (omega arith)
below-height [] l (suc n) m h = absurd (omega arith)
below-height (x ∷ xs) l (suc n) m h = go (nat_eq x (flip l)) refl (below-height xs l n (omega arith))
  where
    go : (b : Bool) → nat_eq x (flip l) ≡ b → (height xs l < n → has nat_eq (take n xs) (flip l) ≡ true) → has nat_eq (take (suc n) (x ∷ xs)) (flip l) ≡ true
    go true f rest = or_left _ _ f
    go false f rest = or_right (nat_eq x (flip l)) _ (rest (let k = rw f at h in omega arith))

pub height-placed : {clauses : List (List ℕ)} {truth : List Bool} {places trail : List ℕ} {reasons : List (Option ℕ)} {levels : List Level} {head : ℕ}
    → IsMarked clauses truth places trail reasons levels head → (l : ℕ) → has nat_eq trail (flip l) ≡ true → get_or places (flip l) 0 ≡ height trail l
height-placed {clauses} {truth} {places} {trail} is l h =
    let w = place_of trail (flip l) h in
    let there : get_or places (flip l) 0 ≡ w.place = ap (λ (z : ℕ). get_or places z 0) (sym w.is) ∙ is.placed w.place w.below in
    there ∙ sym (height-at trail l w.place w.below w.is (λ j b e.
    let other : get_or places (flip l) 0 ≡ j = ap (λ (z : ℕ). get_or places z 0) (sym e) ∙ is.placed j (let m = w.below in omega arith) in
    absurd (omega (arith, there, other))))

pub inside-whole : (xs : List ℕ) (i m : ℕ) → 0 < length xs → has nat_eq (get_or xs 0 0 ∷ take i xs) m ≡ true → has nat_eq xs m ≡ true
inside-whole xs i m h inside = elim (or_cases (nat_eq (get_or xs 0 0) m) (has nat_eq (take i xs) m) inside) [
  | inl e ↦ subst (λ (z : ℕ). has nat_eq xs z ≡ true) (same_exact _ m e) (has-at xs 0 h)
  | inr f ↦ has-take i xs m f
]

-- no literal isn't false for longer than the trail is long
pub height-most : (xs : List ℕ) (l : ℕ) → height xs l ≤ length xs
height-most [] l = omega arith
height-most (x ∷ xs) l = go (nat_eq x (flip l)) refl (height-most xs l)
  where
    go : (b : Bool) → nat_eq x (flip l) ≡ b → height xs l ≤ length xs → height (x ∷ xs) l ≤ length (x ∷ xs)
    go true f rest = rw f (omega arith)
    go false f rest = rw f (omega arith)

-- those that lead among the first literals lead the clause, where neither is false
pub best-highest : (trail clause seen : List ℕ) (lead : Lead) → ((m : ℕ) → has nat_eq seen m ≡ true → has nat_eq clause m ≡ true)
    → IsLed trail seen lead → lead.first ≢ lead.second → lead.second_height ≡ length trail
    → IsBest trail clause (record { first = lead.first; second = lead.second })
best-highest trail clause seen lead inside led apart highest = record {
  first_in = inside lead.first led.best.first_in;
  second_in = inside lead.second led.best.second_in;
  rest = λ m _. inr (let most = height-most trail m in omega (arith, led.second_is, highest));
  order = led.best.order;
  alone = λ same. absurd (apart same);
}

-- those that lead among literals that are the clause's lead the clause
pub best-all : (trail clause seen : List ℕ) (lead : Lead) → ((m : ℕ) → has nat_eq seen m ≡ true → has nat_eq clause m ≡ true)
    → ((m : ℕ) → has nat_eq clause m ≡ true → has nat_eq seen m ≡ true)
    → IsLed trail seen lead → IsBest trail clause (record { first = lead.first; second = lead.second })
best-all trail clause seen lead inside back led = record {
  first_in = inside lead.first led.best.first_in;
  second_in = inside lead.second led.best.second_in;
  rest = λ m h. led.best.rest m (back m h);
  order = led.best.order;
  alone = λ same m h. led.best.alone same m (back m h);
}
