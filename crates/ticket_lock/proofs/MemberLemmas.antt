-- The passes as the lock's user sees them, at each change of views, and the counts of the rule.
use Rattle.std.proofs.Common.{◌≡◌, ℕ, zero, suc, ◌+◌, ◌^◌, ◌≤◌, Bool, true, false, cond, List, [], ◌∷◌, ◌++◌, map, set, sym, refl, ap, ◌∙◌, arith}
use mathlib.Core.Option.{some, some-injective, some-ne-none}
use lib.ListN.{get_elem?}
use lib.Seq.{map-set}
use Rattle.atomic_table.proofs.Lists.{at_map, set_again}
use Rattle.ticket_lock.specs.declared.view.View.{View}
use Rattle.ticket_lock.specs.Totals.{total, times, once_below}
use Rattle.ticket_lock.specs.Line.{Line, waiting}
use Rattle.ticket_lock.specs.Views.{Member, member_of}
use Rattle.ticket_lock.specs.Claims.{AreApart}
use Rattle.ticket_lock.specs.Rule.{stand_of, left, splits, numbered, Turns, Numbers}
use Rattle.ticket_lock.proofs.TotalLemmas.{total-set, total-most}
use Rattle.ticket_lock.proofs.TimesLemmas.{once-most}

module _ {V M : Type 0} (f : V → M) where
  pub total-map : (g : M → ℕ) (vs : List V) → total g (map f vs) ≡ total (λ v. g (f v)) vs
  total-map g [] = refl
  total-map g (x ∷ xs) = ap (λ (n : ℕ). g (f x) + n) (total-map g xs)

  pub map-keep : (vs : List V) (id : ℕ) (v w : V) → get_elem? vs id ≡ some v → f w ≡ f v → map f (set vs id w) ≡ map f vs
  map-keep vs id v w at e =
      map-set f vs id w ∙ ap (set (map f vs) id) e ∙ set_again (map f vs) id (f v) (at_map f vs id v at)

  map-snoc : (vs : List V) (w : V) → map f (vs ++ w ∷ []) ≡ map f vs ++ f w ∷ []
  map-snoc [] w = refl
  map-snoc (x ∷ xs) w = ap (λ (l : List M). f x ∷ l) (map-snoc xs w)

  pub map-cut : (vs : List V) (id : ℕ) (l r : V) → map f (set vs id l ++ r ∷ []) ≡ set (map f vs) id (f l) ++ f r ∷ []
  map-cut vs id l r = map-snoc (set vs id l) r ∙ ap (λ (ms : List M). ms ++ f r ∷ []) (map-set f vs id l)

  pub map-join : (vs : List V) (id other : ℕ) (b s : V) → map f (set (set vs id b) other s) ≡ set (set (map f vs) id (f b)) other (f s)
  map-join vs id other b s = map-set f (set vs id b) other s ∙ ap (λ (ms : List M). set ms other (f s)) (map-set f vs id b)

  -- what stands among the images is one's image
  pub at-image : (vs : List V) (j : ℕ) (k : M) → get_elem? (map f vs) j ≡ some k → (v : V) × (get_elem? vs j ≡ some v) × (f v ≡ k)
  at-image [] j k e = absurd (some-ne-none k (sym e))
  at-image (x ∷ xs) zero k e = (x, refl, some-injective (f x) k e)
  at-image (x ∷ xs) (suc j) k e = at-image xs j k e

module _ {S U : Type 0} where
  -- a number is one pass's, and there once
  pub apart : (split : ℕ) (vs : List (View S U)) → Numbers split vs → AreApart (map member_of vs)
  apart split vs numbers p =
      let m : total (λ (v : View S U). times p v.numbers) vs ≤ total (numbered p) vs = total-most (λ (v : View S U). times p v.numbers) (numbered p) vs (λ j u e. omega arith) in
      let t : total (λ (k : Member U). times p k.numbers) (map member_of vs) ≡ total (λ (v : View S U). times p v.numbers) vs = total-map member_of (λ (k : Member U). times p k.numbers) vs in
      let o = numbers.once p in
      let k = once-most p (split + 1) in
      omega arith

  pub turns-set : (served drawn split served' drawn' split' : ℕ) (vs : List (View S U)) (id : ℕ) (v w : View S U) → get_elem? vs id ≡ some v
      → Turns served drawn split vs
      → left w + ((served' + drawn') + split') ≡ left v + ((served + drawn) + split)
      → splits w + split ≡ splits v + split'
      → Turns served' drawn' split' (set vs id w)
  turns-set served drawn split served' drawn' split' vs id v w e old a b = record {
    left = let t = total-set left vs id v w e in let o = old.left in omega arith;
    splits = let t = total-set splits vs id v w e in let o = old.splits in omega arith;
  }

  pub numbers-set : (split split' : ℕ) (vs : List (View S U)) (id : ℕ) (v w : View S U) → get_elem? vs id ≡ some v → Numbers split vs
      → ((p : ℕ) → once_below p (split' + 1) + numbered p v ≡ once_below p (split + 1) + numbered p w)
      → Numbers split' (set vs id w)
  numbers-set split split' vs id v w e old once = record {
    once = λ p. let t = total-set (numbered p) vs id v w e in let o = old.once p in let k = once p in omega arith;
  }

  -- no more tickets are given than there are turns
  pub given-most : (served given drawn split : ℕ) (vs : List (View S U)) → Line stand_of served given vs → Turns served drawn split vs
      → given + (drawn + split) ≤ 2 ^ 62
  given-most served given drawn split vs line turns =
      let m = total-most (waiting stand_of) left vs (λ j u e. go u u.waits refl (line.each j u e).turn) in
      let t = line.tickets in
      let b = turns.left in
      omega arith
    where
      go : (u : View S U) (b : Bool) → u.waits ≡ b → (u.waits ≡ true → 1 ≤ u.left) → cond u.waits 1 0 ≤ u.left
      go u true w h = let k = h w in rw w (omega arith)
      go u false w h = rw w (omega arith)
