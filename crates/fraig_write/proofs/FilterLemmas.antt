-- What a filter keeps: elements, their order, and that they differ.
use Rattle.std.proofs.Common.{◌≡◌, ℕ, zero, suc, ◌+◌, ◌<◌, Bool, true, false, not, ◌||◌, cond, Option, Some, None, List, [], ◌∷◌, ◌++◌, length, refl, sym, ap, ◌∙◌, arith, if◌then◌else◌}
use Rattle.std.specs.Prelude.{◌==◌, filter, slice_get, is_some}
use Rattle.std.specs.Option.{option_map}
use Rattle.std.specs.List.{list_any, AllByRecursion}
use Rattle.std.proofs.lemmas.Bool.{and_parts, or_right}
use Rattle.std.proofs.lemmas.Bool.Decides.{nat_tests}
use Rattle.std.proofs.lemmas.Option.{none-some, same_Some}
use Rattle.lits.specs.Clause.{has, no_repeat}
use Rattle.netlist.specs.declared.gate.And.{And}
use Rattle.netlist.specs.Place.{place_of}
use Rattle.netlist.specs.Circuit.{gate_vars}
use Rattle.netlist.proofs.Facts.{at-place, is_some-place, equal-number}

-- an element that passes has a place
pub place-some : {X : Type 0} (test : X → Bool) (xs : List X) → list_any test xs ≡ true
    → (i : ℕ) × (place_of test xs ≡ Some i) × (i < length xs)
place-some test xs e = go (place_of test xs) refl
  where
    go : (o : Option ℕ) → place_of test xs ≡ o → (i : ℕ) × (place_of test xs ≡ Some i) × (i < length xs)
    go (Some i) f = (i, f, (at-place test xs i f).3)
    go None f = let g : false ≡ true = sym (ap is_some f) ∙ is_some-place test xs ∙ e in cc

-- an element that passes both tests is kept
pub filter-any : {X : Type 0} (test keep : X → Bool) (xs : List X) → ((x : X) → test x ≡ true → list_any test xs ≡ true → keep x ≡ true)
    → list_any test xs ≡ true → list_any test (filter keep xs) ≡ true
filter-any {X} test keep xs kept e = go xs (λ x h. kept x h e) e
  where
    go : (ys : List X) → ((x : X) → test x ≡ true → keep x ≡ true) → list_any test ys ≡ true → list_any test (filter keep ys) ≡ true
    go [] each h = h
    go (y ∷ ys) each h = here (test y) (keep y) refl refl (go ys each)
      where
        here : (b k : Bool) → test y ≡ b → keep y ≡ k → (list_any test ys ≡ true → list_any test (filter keep ys) ≡ true)
            → list_any test (filter keep (y ∷ ys)) ≡ true
        here true k f g rest = let t = sym g ∙ each y f in rw (g, t, f) refl
        here false true f g rest = rw (g, f) (rest (sym (ap (λ (b : Bool). b || list_any test ys) f) ∙ h))
        here false false f g rest = rw g (rest (sym (ap (λ (b : Bool). b || list_any test ys) f) ∙ h))

-- what the filter keeps was there
pub any-filter : {X : Type 0} (test keep : X → Bool) (xs : List X) → list_any test (filter keep xs) ≡ true → list_any test xs ≡ true
any-filter test keep [] e = e
any-filter test keep (x ∷ xs) e = go (keep x) refl (any-filter test keep xs)
  where
    go : (k : Bool) → keep x ≡ k → (list_any test (filter keep xs) ≡ true → list_any test xs ≡ true) → list_any test (x ∷ xs) ≡ true
    go false g rest = or_right (test x) (list_any test xs) (rest (rw g at e))
    go true g rest = here (test x) refl
      where
        here : (b : Bool) → test x ≡ b → list_any test (x ∷ xs) ≡ true
        here true f = rw f refl
        here false f =
            let h : (test x || list_any test (filter keep xs)) ≡ true = rw g at e in
            rw f (rest (sym (ap (λ (b : Bool). b || list_any test (filter keep xs)) f) ∙ h))

-- what holds of each element that is kept, by its place before
pub all-kept : {X : Type 0} (P : X → Type 0) (keep : X → Bool) (xs : List X)
    → ((k : ℕ) (x : X) → slice_get xs k ≡ Some x → keep x ≡ true → P x) → AllByRecursion P (filter keep xs)
all-kept P keep [] each = tt
all-kept {X} P keep (x ∷ xs) each = go (keep x) refl (all-kept P keep xs (λ k y e h. each (suc k) y e h))
  where
    go : (b : Bool) → keep x ≡ b → AllByRecursion P (filter keep xs) → AllByRecursion P (filter keep (x ∷ xs))
    go true e rest = rw e (each 0 x refl e, rest)
    go false e rest = rw e rest

-- filters by tests that agree
pub filter-same : {X : Type 0} (one other : X → Bool) (xs : List X) → ((x : X) → one x ≡ other x) → filter one xs ≡ filter other xs
filter-same one other [] same = refl
filter-same one other (x ∷ xs) same = rw (same x, filter-same one other xs same) refl

-- one element more
pub filter-put : {X : Type 0} (keep : X → Bool) (xs : List X) (x : X) → filter keep (xs ++ x ∷ []) ≡ filter keep xs ++ (if keep x then x ∷ [] else [])
filter-put keep [] x = refl
filter-put {X} keep (y ∷ ys) x = go (keep y) refl (filter-put keep ys x)
  where
    go : (b : Bool) → keep y ≡ b → filter keep (ys ++ x ∷ []) ≡ filter keep ys ++ (if keep x then x ∷ [] else [])
        → filter keep (y ∷ (ys ++ x ∷ [])) ≡ filter keep (y ∷ ys) ++ (if keep x then x ∷ [] else [])
    go true e rest = rw e (ap (λ (l : List X). y ∷ l) rest)
    go false e rest = rw e rest

-- ---- the order of what is kept

later : (b : Bool) (o : Option ℕ) (k : ℕ) → cond b (Some 0) (option_map (λ j. j + 1) o) ≡ Some k → b ≡ false
    → (j : ℕ) × (o ≡ Some j) × (k ≡ j + 1)
later true o k e f = cc
later false None k e f = absurd (none-some k e)
later false (Some j) k e f = (j, refl, sym (same_Some (j + 1) k e))

-- an element that stands before another one does so among those that are kept
pub filter-order : {X : Type 0} (one other keep : X → Bool) (xs : List X) (i j : ℕ)
    → place_of one xs ≡ Some i → place_of other xs ≡ Some j → i < j → ((x : X) → one x ≡ true → keep x ≡ true)
    → (k l : ℕ) → place_of one (filter keep xs) ≡ Some k → place_of other (filter keep xs) ≡ Some l → k < l
filter-order one other keep [] i j e f less passes k l g h = absurd (none-some i e)
filter-order {X} one other keep (x ∷ xs) i j e f less passes k l g h =
    go (one x) (other x) (keep x) refl refl refl (filter-order one other keep xs)
  where
    go : (a b d : Bool) → one x ≡ a → other x ≡ b → keep x ≡ d
        → ((i j : ℕ) → place_of one xs ≡ Some i → place_of other xs ≡ Some j → i < j → ((y : X) → one y ≡ true → keep y ≡ true)
        → (k l : ℕ) → place_of one (filter keep xs) ≡ Some k → place_of other (filter keep xs) ≡ Some l → k < l)
        → k < l
    go a true d p q r rest = let z : 0 ≡ j = same_Some 0 j (rw q at f) in absurd (omega (arith, z, less))
    go true false d p q r rest =
        let kept = passes x p in
        let first : k ≡ 0 = sym (same_Some 0 k (rw (kept, p) at g)) in
        let m = later (other x) (place_of other (filter keep xs)) l (rw kept at h) q in
        omega (arith, first, m.2)
    go false false true p q r rest =
        let a = later (one x) (place_of one xs) i e p in
        let b = later (other x) (place_of other xs) j f q in
        let m = later (one x) (place_of one (filter keep xs)) k (rw r at g) p in
        let n = later (other x) (place_of other (filter keep xs)) l (rw r at h) q in
        let before = rest a.0 b.0 a.1 b.1 (omega (arith, a.2, b.2, less)) passes m.0 n.0 m.1 n.1 in
        omega (arith, before, m.2, n.2)
    go false false false p q r rest =
        let a = later (one x) (place_of one xs) i e p in
        let b = later (other x) (place_of other xs) j f q in
        rest a.0 b.0 a.1 b.1 (omega (arith, a.2, b.2, less)) passes k l (rw r at g) (rw r at h)

-- ---- gates whose variables differ

vars-any : (gs : List And) (v : ℕ) → has ◌==◌ (gate_vars gs) v ≡ list_any (λ g. g.var == v) gs
vars-any [] v = refl
vars-any (g ∷ gs) v = ap (λ (b : Bool). g.var == v || b) (vars-any gs v)

-- no other variable is kept
pub filter-vars : (keep : And → Bool) (gs : List And) (v : ℕ) → has ◌==◌ (gate_vars gs) v ≡ false → has ◌==◌ (gate_vars (filter keep gs)) v ≡ false
filter-vars keep gs v none = go (has ◌==◌ (gate_vars (filter keep gs)) v) refl
  where
    go : (b : Bool) → has ◌==◌ (gate_vars (filter keep gs)) v ≡ b → b ≡ false
    go false e = refl
    go true e =
        let there = any-filter (λ g. g.var == v) keep gs (sym (vars-any (filter keep gs) v) ∙ e) in
        let f : false ≡ true = sym none ∙ vars-any gs v ∙ there in cc

not-false : (b : Bool) → not b ≡ true → b ≡ false
not-false true e = cc
not-false false e = refl

pub no_repeat-filter : (keep : And → Bool) (gs : List And) → no_repeat ◌==◌ (gate_vars gs) ≡ true → no_repeat ◌==◌ (gate_vars (filter keep gs)) ≡ true
no_repeat-filter keep [] e = refl
no_repeat-filter keep (g ∷ gs) e = go (keep g) refl (no_repeat-filter keep gs parts.1)
  where
    parts : (not (has ◌==◌ (gate_vars gs) g.var) ≡ true) × (no_repeat ◌==◌ (gate_vars gs) ≡ true)
    parts = and_parts (not (has ◌==◌ (gate_vars gs) g.var)) (no_repeat ◌==◌ (gate_vars gs)) e

    go : (b : Bool) → keep g ≡ b → no_repeat ◌==◌ (gate_vars (filter keep gs)) ≡ true → no_repeat ◌==◌ (gate_vars (filter keep (g ∷ gs))) ≡ true
    go false f rest = rw f rest
    go true f rest =
        let none = filter-vars keep gs g.var (not-false (has ◌==◌ (gate_vars gs) g.var) parts.0) in
        rw (f, none, rest) refl

-- the gate at a place is found there
pub place-own : (gs : List And) (k : ℕ) (g : And) → no_repeat ◌==◌ (gate_vars gs) ≡ true → slice_get gs k ≡ Some g
    → place_of (λ h. h.var == g.var) gs ≡ Some k
place-own [] k g e at = absurd (none-some g at)
place-own (h ∷ hs) zero g e at =
    let same : h ≡ g = same_Some h g at in
    let one : (h.var == g.var) ≡ true = grind (arith, nat_tests, same) in
    rw one refl
place-own (h ∷ hs) (suc k) g e at = go (h.var == g.var) refl (place-own hs k g parts.1 at)
  where
    parts : (not (has ◌==◌ (gate_vars hs) h.var) ≡ true) × (no_repeat ◌==◌ (gate_vars hs) ≡ true)
    parts = and_parts (not (has ◌==◌ (gate_vars hs) h.var)) (no_repeat ◌==◌ (gate_vars hs)) e

    go : (b : Bool) → (h.var == g.var) ≡ b → place_of (λ i. i.var == g.var) hs ≡ Some k → place_of (λ i. i.var == g.var) (h ∷ hs) ≡ Some (suc k)
    go false f rest = let next : k + 1 ≡ suc k = omega arith in rw (f, rest, next) refl
    go true f rest =
        let same = equal-number h.var g.var f in
        let there = sym (vars-any hs g.var) in
        let found : list_any (λ i. i.var == g.var) hs ≡ true = (at-place (λ i. i.var == g.var) hs k rest).4 in
        let none = not-false (has ◌==◌ (gate_vars hs) h.var) parts.0 in
        let clash : false ≡ true = sym none ∙ ap (has ◌==◌ (gate_vars hs)) same ∙ vars-any hs g.var ∙ found in
        cc
