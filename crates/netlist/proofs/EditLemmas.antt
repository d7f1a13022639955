-- The lists of gates after an edit: still in order, and the same variables but for the one that came or went.
use Rattle.std.proofs.Common.{◌≡◌, ℕ, zero, suc, Bool, true, false, not, cond, Some, List, [], ◌∷◌, ◌++◌, map, take, drop, refl, sym, ap, ◌∙◌, subst, arith}
use Rattle.std.specs.Prelude.{◌==◌, ◌||◌, slice_set}
use Rattle.std.specs.List.{filter, list_any, list_all}
use Rattle.std.proofs.lemmas.Option.{none-some}
use Rattle.std.proofs.lemmas.Bool.{or_parts, and_parts}
use Rattle.std.proofs.lemmas.Bool.Decides.{nat_tests}
use Rattle.lits.specs.Clause.{has}
use Rattle.netlist.specs.declared.gate.And.{And}
use Rattle.netlist.specs.Place.{place_of, before}
use Rattle.netlist.specs.Circuit.{var_of, gate_vars, is_over, AreOrdered}
use Rattle.netlist.specs.Edit.{since}
use Rattle.netlist.proofs.PlaceLemmas.{next_place}
use Rattle.netlist.proofs.RunLemmas.{or_move}

or_false : (b : Bool) → (b || false) ≡ true → b ≡ true
or_false true e = refl
or_false false e = e

pub or_cases : (P : Type 0) (a b : Bool) → (a || b) ≡ true → (a ≡ true → P) → (a ≡ false → b ≡ true → P) → P
or_cases P true b e left right = left refl
or_cases P false b e left right = right refl e

pub or_both : (a b : Bool) → a ≡ false → b ≡ false → (a || b) ≡ false
or_both false b e f = f
or_both true b e f = cc

pub or_skip : (a b : Bool) → b ≡ true → (a || b) ≡ true
or_skip true b e = refl
or_skip false b e = e

pub same_number : (a b : ℕ) → (a == b) ≡ true → a ≡ b
same_number a b e = grind (arith, nat_tests, e)

-- a known variable is defined by no later gate
pub ordered_new : (known : List ℕ) (gs : List And) (v : ℕ) → AreOrdered known gs → has ◌==◌ known v ≡ true → has ◌==◌ (gate_vars gs) v ≡ false
ordered_new known [] v ordered e = refl
ordered_new known (x ∷ xs) v ordered e =
    or_both (x.var == v) (has ◌==◌ (gate_vars xs) v) (go (x.var == v) refl)
    (ordered_new (x.var ∷ known) xs v ordered.1 (or_skip (x.var == v) (has ◌==◌ known v) e))
  where
    go : (b : Bool) → (x.var == v) ≡ b → b ≡ false
    go false t = refl
    go true t =
        let there : has ◌==◌ known x.var ≡ true = subst (λ (n : ℕ). has ◌==◌ known n ≡ true) (sym (same_number x.var v t)) e in
        cc (there, ordered.0.new)

-- the first gate of a list defines none of the variables behind it
ordered_apart : (known : List ℕ) (x : And) (xs : List And) (v : ℕ) → AreOrdered known (x ∷ xs) → (x.var == v) ≡ true → has ◌==◌ (gate_vars xs) v ≡ false
ordered_apart known x xs v ordered e =
    ordered_new (x.var ∷ known) xs v ordered.1 (ap (λ (b : Bool). b || has ◌==◌ known v) e)

-- ---- other fanins
abbrev pub swap : And → And → And
swap g x = cond (x.var == g.var) g x

pub vars-swap : (g : And) (gs : List And) → gate_vars (map (swap g) gs) ≡ gate_vars gs
vars-swap g [] = refl
vars-swap g (x ∷ xs) = go (x.var == g.var) refl (vars-swap g xs)
  where
    go : (b : Bool) → (x.var == g.var) ≡ b → gate_vars (map (swap g) xs) ≡ gate_vars xs
        → (cond b g x).var ∷ gate_vars (map (swap g) xs) ≡ x.var ∷ gate_vars xs
    go true e rest = rw (rest, same_number x.var g.var e) refl
    go false e rest = rw rest refl

swap_none : (g : And) (gs : List And) → has ◌==◌ (gate_vars gs) g.var ≡ false → map (swap g) gs ≡ gs
swap_none g [] e = refl
swap_none g (x ∷ xs) e =
    let parts = or_parts (x.var == g.var) (has ◌==◌ (gate_vars xs) g.var) e in
    rw (parts.0, swap_none g xs parts.1) refl

pub ordered_swap : (known : List ℕ) (gs : List And) (g : And) → AreOrdered known gs
    → (has ◌==◌ known (var_of g.left) || has ◌==◌ (gate_vars (before (λ x. x.var == g.var) gs)) (var_of g.left)) ≡ true
    → (has ◌==◌ known (var_of g.right) || has ◌==◌ (gate_vars (before (λ x. x.var == g.var) gs)) (var_of g.right)) ≡ true
    → AreOrdered known (map (swap g) gs)
ordered_swap known [] g ordered left right = tt
ordered_swap known (x ∷ xs) g ordered left right = go (x.var == g.var) refl left right (ordered_swap (x.var ∷ known) xs g ordered.1)
  where
    first : List And
    first = before (λ y. y.var == g.var) xs

    go : (b : Bool) → (x.var == g.var) ≡ b
        → (has ◌==◌ known (var_of g.left) || has ◌==◌ (gate_vars (cond b [] (x ∷ first))) (var_of g.left)) ≡ true
        → (has ◌==◌ known (var_of g.right) || has ◌==◌ (gate_vars (cond b [] (x ∷ first))) (var_of g.right)) ≡ true
        → ((has ◌==◌ (x.var ∷ known) (var_of g.left) || has ◌==◌ (gate_vars first) (var_of g.left)) ≡ true
        → (has ◌==◌ (x.var ∷ known) (var_of g.right) || has ◌==◌ (gate_vars first) (var_of g.right)) ≡ true
        → AreOrdered (x.var ∷ known) (map (swap g) xs))
        → AreOrdered known (cond b g x ∷ map (swap g) xs)
    go true e left right rest =
        let same = same_number x.var g.var e in (
          record {
            new = subst (λ (n : ℕ). has ◌==◌ known n ≡ false) same ordered.0.new;
            left = or_false (has ◌==◌ known (var_of g.left)) left;
            right = or_false (has ◌==◌ known (var_of g.right)) right;
          },
          subst (λ (ys : List And). AreOrdered (g.var ∷ known) ys) (sym (swap_none g xs (ordered_apart known x xs g.var ordered e)))
              (subst (λ (n : ℕ). AreOrdered (n ∷ known) xs) same ordered.1),
        )
    go false e left right rest = (
      ordered.0,
      rest (or_move (x.var == var_of g.left) (has ◌==◌ known (var_of g.left)) (has ◌==◌ (gate_vars first) (var_of g.left)) ∙ left)
          (or_move (x.var == var_of g.right) (has ◌==◌ known (var_of g.right)) (has ◌==◌ (gate_vars first) (var_of g.right)) ∙ right),
    )

pub set-swap : (known : List ℕ) (gs : List And) (g : And) (i : ℕ) → AreOrdered known gs → place_of (λ x. x.var == g.var) gs ≡ Some i
    → slice_set gs i g ≡ map (swap g) gs
set-swap known [] g i ordered e = absurd (none-some i e)
set-swap known (x ∷ xs) g i ordered e =
    next_place (λ (n : ℕ). slice_set (x ∷ xs) n g ≡ map (swap g) (x ∷ xs)) (x.var == g.var) (place_of (λ y. y.var == g.var) xs) i e
    (λ t. rw (t, swap_none g xs (ordered_apart known x xs g.var ordered t)) refl)
    (λ j f o. rw (f, set-swap (x.var ∷ known) xs g j ordered.1 o) refl)

-- ---- a new gate
pub before-since : {X : Type 0} (test : X → Bool) (xs : List X) → before test xs ++ since test xs ≡ xs
before-since test [] = refl
before-since {X} test (x ∷ xs) = go (test x) (before-since test xs)
  where
    go : (b : Bool) → before test xs ++ since test xs ≡ xs → cond b [] (x ∷ before test xs) ++ cond b (x ∷ xs) (since test xs) ≡ x ∷ xs
    go true e = refl
    go false e = ap (λ (ys : List X). x ∷ ys) e

pub since-drop : {X : Type 0} (test : X → Bool) (xs : List X) (k : ℕ) → place_of test xs ≡ Some k → since test xs ≡ drop k xs
since-drop test [] k e = absurd (none-some k e)
since-drop {X} test (x ∷ xs) k e =
    next_place (λ (n : ℕ). cond (test x) (x ∷ xs) (since test xs) ≡ drop n (x ∷ xs)) (test x) (place_of test xs) k e
    (λ t. rw t refl) (λ j f o. rw (f, since-drop test xs j o) refl)

-- more variables may be known, if no gate of the list defines one of them
ordered_more : (known other : List ℕ) (gs : List And) → ((v : ℕ) → has ◌==◌ known v ≡ true → has ◌==◌ other v ≡ true)
    → ((v : ℕ) → has ◌==◌ (gate_vars gs) v ≡ true → has ◌==◌ known v ≡ false → has ◌==◌ other v ≡ false)
    → AreOrdered known gs → AreOrdered other gs
ordered_more known other [] grows apart ordered = tt
ordered_more known other (x ∷ xs) grows apart ordered = (
  record {
    new = (let here : (x.var == x.var) ≡ true = grind (arith, nat_tests) in
        apart x.var (ap (λ (b : Bool). b || has ◌==◌ (gate_vars xs) x.var) here) ordered.0.new);
    left = grows (var_of x.left) ordered.0.left;
    right = grows (var_of x.right) ordered.0.right;
  },
  ordered_more (x.var ∷ known) (x.var ∷ other) xs
      (λ v e. or_cases (has ◌==◌ (x.var ∷ other) v ≡ true) (x.var == v) (has ◌==◌ known v) e
      (λ t. ap (λ (b : Bool). b || has ◌==◌ other v) t) (λ f h. or_skip (x.var == v) (has ◌==◌ other v) (grows v h)))
      (λ v e f. let parts = or_parts (x.var == v) (has ◌==◌ known v) f in
      or_both (x.var == v) (has ◌==◌ other v) parts.0 (apart v (or_skip (x.var == v) (has ◌==◌ (gate_vars xs) v) e) parts.1))
      ordered.1,
)

pub ordered_put : (known : List ℕ) (xs ys : List And) (g : And) → AreOrdered known (xs ++ ys) → has ◌==◌ known g.var ≡ false
    → has ◌==◌ (gate_vars (xs ++ ys)) g.var ≡ false
    → (has ◌==◌ known (var_of g.left) || has ◌==◌ (gate_vars xs) (var_of g.left)) ≡ true
    → (has ◌==◌ known (var_of g.right) || has ◌==◌ (gate_vars xs) (var_of g.right)) ≡ true
    → AreOrdered known (xs ++ g ∷ ys)
ordered_put known [] ys g ordered new other left right = (
  record {
    new = new;
    left = or_false (has ◌==◌ known (var_of g.left)) left;
    right = or_false (has ◌==◌ known (var_of g.right)) right;
  },
  ordered_more known (g.var ∷ known) ys (λ v e. or_skip (g.var == v) (has ◌==◌ known v) e)
      (λ v e f. or_both (g.var == v) (has ◌==◌ known v) (apart v e (g.var == v) refl) f) ordered,
)
  where
    apart : (v : ℕ) → has ◌==◌ (gate_vars ys) v ≡ true → (b : Bool) → (g.var == v) ≡ b → b ≡ false
    apart v e false t = refl
    apart v e true t =
        let there : has ◌==◌ (gate_vars ys) g.var ≡ true = subst (λ (n : ℕ). has ◌==◌ (gate_vars ys) n ≡ true) (sym (same_number g.var v t)) e in
        cc (there, other)
ordered_put known (x ∷ xs) ys g ordered new other left right =
    let parts = or_parts (x.var == g.var) (has ◌==◌ (gate_vars (xs ++ ys)) g.var) other in (
      ordered.0,
      ordered_put (x.var ∷ known) xs ys g ordered.1 (or_both (x.var == g.var) (has ◌==◌ known g.var) parts.0 new) parts.1
          (or_move (x.var == var_of g.left) (has ◌==◌ known (var_of g.left)) (has ◌==◌ (gate_vars xs) (var_of g.left)) ∙ left)
          (or_move (x.var == var_of g.right) (has ◌==◌ known (var_of g.right)) (has ◌==◌ (gate_vars xs) (var_of g.right)) ∙ right),
    )

or_swap : (a b c : Bool) → (a || (b || c)) ≡ (b || (a || c))
or_swap true true c = refl
or_swap true false c = refl
or_swap false true c = refl
or_swap false false c = refl

pub has-put : (xs ys : List And) (g : And) (w : ℕ) → has ◌==◌ (gate_vars (xs ++ g ∷ ys)) w ≡ ((g.var == w) || has ◌==◌ (gate_vars (xs ++ ys)) w)
has-put [] ys g w = refl
has-put (x ∷ xs) ys g w =
    ap (λ (b : Bool). (x.var == w) || b) (has-put xs ys g w) ∙ or_swap (x.var == w) (g.var == w) (has ◌==◌ (gate_vars (xs ++ ys)) w)

-- ---- a gate less
abbrev pub but : ℕ → List And → List And
but v gs = filter (λ g. not (g.var == v)) gs

but_none : (v : ℕ) (gs : List And) → has ◌==◌ (gate_vars gs) v ≡ false → but v gs ≡ gs
but_none v [] e = refl
but_none v (x ∷ xs) e =
    let parts = or_parts (x.var == v) (has ◌==◌ (gate_vars xs) v) e in
    rw (parts.0, but_none v xs parts.1) refl

pub remove-but : (known : List ℕ) (gs : List And) (v i : ℕ) → AreOrdered known gs → place_of (λ x. x.var == v) gs ≡ Some i
    → take i gs ++ drop (suc i) gs ≡ but v gs
remove-but known [] v i ordered e = absurd (none-some i e)
remove-but known (x ∷ xs) v i ordered e =
    next_place (λ (n : ℕ). take n (x ∷ xs) ++ drop (suc n) (x ∷ xs) ≡ but v (x ∷ xs)) (x.var == v) (place_of (λ y. y.var == v) xs) i e
    (λ t. rw (t, but_none v xs (ordered_apart known x xs v ordered t)) refl)
    (λ j f o. rw (f, sym (remove-but (x.var ∷ known) xs v j ordered.1 o)) refl)

-- what reads a gate's fanins
abbrev pub reads_fanin : ℕ → And → Bool
reads_fanin v g = var_of g.left == v || var_of g.right == v

pub ordered_but : (v : ℕ) (known other : List ℕ) (gs : List And) → ((w : ℕ) → has ◌==◌ known w ≡ false → has ◌==◌ other w ≡ false)
    → ((w : ℕ) → (w == v) ≡ false → has ◌==◌ known w ≡ true → has ◌==◌ other w ≡ true)
    → list_any (reads_fanin v) gs ≡ false → AreOrdered known gs → AreOrdered other (but v gs)
ordered_but v known other [] less keeps unread ordered = tt
ordered_but v known other (x ∷ xs) less keeps unread ordered = go (x.var == v) refl (λ ks os. ordered_but v ks os xs)
  where
    parts : (reads_fanin v x ≡ false) × (list_any (reads_fanin v) xs ≡ false)
    parts = or_parts (reads_fanin v x) (list_any (reads_fanin v) xs) unread

    fanins : ((var_of x.left == v) ≡ false) × ((var_of x.right == v) ≡ false)
    fanins = or_parts (var_of x.left == v) (var_of x.right == v) parts.0

    Rest : Type 0
    Rest = (ks os : List ℕ) → ((w : ℕ) → has ◌==◌ ks w ≡ false → has ◌==◌ os w ≡ false)
        → ((w : ℕ) → (w == v) ≡ false → has ◌==◌ ks w ≡ true → has ◌==◌ os w ≡ true)
        → list_any (reads_fanin v) xs ≡ false → AreOrdered ks xs → AreOrdered os (but v xs)

    go : (b : Bool) → (x.var == v) ≡ b → Rest → AreOrdered other (cond (not b) (x ∷ but v xs) (but v xs))
    go true e rest =
        rest (x.var ∷ known) other
        (λ w f. less w (or_parts (x.var == w) (has ◌==◌ known w) f).1)
        (λ w f t. or_cases (has ◌==◌ other w ≡ true) (x.var == w) (has ◌==◌ known w) t
        (λ same. let here : (w == v) ≡ true = grind (arith, nat_tests, same, e) in cc (here, f))
        (λ not_same there. keeps w f there))
        parts.1 ordered.1
    go false e rest = (
      record {
        new = less x.var ordered.0.new;
        left = keeps (var_of x.left) fanins.0 ordered.0.left;
        right = keeps (var_of x.right) fanins.1 ordered.0.right;
      },
      rest (x.var ∷ known) (x.var ∷ other)
          (λ w f. let both = or_parts (x.var == w) (has ◌==◌ known w) f in or_both (x.var == w) (has ◌==◌ other w) both.0 (less w both.1))
          (λ w f t. or_cases (has ◌==◌ (x.var ∷ other) w ≡ true) (x.var == w) (has ◌==◌ known w) t
          (λ same. ap (λ (b : Bool). b || has ◌==◌ other w) same)
          (λ not_same there. or_skip (x.var == w) (has ◌==◌ other w) (keeps w f there)))
          parts.1 ordered.1,
    )

-- the variables but v
pub has-but : (v : ℕ) (gs : List And) (w : ℕ) → (w == v) ≡ false → has ◌==◌ (gate_vars (but v gs)) w ≡ has ◌==◌ (gate_vars gs) w
has-but v [] w f = refl
has-but v (x ∷ xs) w f = go (x.var == v) refl (has-but v xs w f)
  where
    go : (b : Bool) → (x.var == v) ≡ b → has ◌==◌ (gate_vars (but v xs)) w ≡ has ◌==◌ (gate_vars xs) w
        → has ◌==◌ (gate_vars (cond (not b) (x ∷ but v xs) (but v xs))) w ≡ ((x.var == w) || has ◌==◌ (gate_vars xs) w)
    go true e rest = let apart : (x.var == w) ≡ false = grind (arith, nat_tests, e, f) in rw apart rest
    go false e rest = ap (λ (b : Bool). (x.var == w) || b) rest

pub but-has : (v : ℕ) (gs : List And) (w : ℕ) → has ◌==◌ (gate_vars (but v gs)) w ≡ true → has ◌==◌ (gate_vars gs) w ≡ true
but-has v [] w e = e
but-has v (x ∷ xs) w e = go (x.var == v) e (but-has v xs w)
  where
    go : (b : Bool) → has ◌==◌ (gate_vars (cond (not b) (x ∷ but v xs) (but v xs))) w ≡ true
        → (has ◌==◌ (gate_vars (but v xs)) w ≡ true → has ◌==◌ (gate_vars xs) w ≡ true) → ((x.var == w) || has ◌==◌ (gate_vars xs) w) ≡ true
    go true e rest = or_skip (x.var == w) (has ◌==◌ (gate_vars xs) w) (rest e)
    go false e rest =
        or_cases (((x.var == w) || has ◌==◌ (gate_vars xs) w) ≡ true) (x.var == w) (has ◌==◌ (gate_vars (but v xs)) w) e
        (λ same. ap (λ (b : Bool). b || has ◌==◌ (gate_vars xs) w) same)
        (λ not_same there. or_skip (x.var == w) (has ◌==◌ (gate_vars xs) w) (rest there))

-- ---- literals over other variables
pub list_all-at : (P : ℕ → Bool) (xs : List ℕ) (w : ℕ) → list_all P xs ≡ true → has ◌==◌ xs w ≡ true → P w ≡ true
list_all-at P [] w all e = cc
list_all-at P (x ∷ xs) w all e =
    let parts = and_parts (P x) (list_all P xs) all in
    or_cases (P w ≡ true) (x == w) (has ◌==◌ xs w) e
    (λ same. subst (λ (n : ℕ). P n ≡ true) (same_number x w same) parts.0)
    (λ not_same there. list_all-at P xs w parts.1 there)

pub list_all-from : (P : ℕ → Bool) (xs : List ℕ) → ((w : ℕ) → has ◌==◌ xs w ≡ true → P w ≡ true) → list_all P xs ≡ true
list_all-from P [] each = refl
list_all-from P (x ∷ xs) each =
    let here : (x == x) ≡ true = grind (arith, nat_tests) in
    rw (each x (ap (λ (b : Bool). b || has ◌==◌ xs x) here)) (list_all-from P xs (λ w e. each w (or_skip (x == w) (has ◌==◌ xs w) e)))

pub over_more : (vars other : List ℕ) (lits : List ℕ) → ((w : ℕ) → has ◌==◌ vars w ≡ true → has ◌==◌ other w ≡ true)
    → list_all (is_over vars) lits ≡ true → list_all (is_over other) lits ≡ true
over_more vars other lits grows all = list_all-from (is_over other) lits (λ lit e. grows (var_of lit) (list_all-at (is_over vars) lits lit all e))

pub over_but : (v : ℕ) (vars other : List ℕ) (lits : List ℕ) → ((w : ℕ) → (w == v) ≡ false → has ◌==◌ vars w ≡ true → has ◌==◌ other w ≡ true)
    → list_any (λ lit. var_of lit == v) lits ≡ false → list_all (is_over vars) lits ≡ true → list_all (is_over other) lits ≡ true
over_but v vars other [] keeps unread all = refl
over_but v vars other (l ∷ ls) keeps unread all =
    let free = or_parts (var_of l == v) (list_any (λ lit. var_of lit == v) ls) unread in
    let parts = and_parts (is_over vars l) (list_all (is_over vars) ls) all in
    rw (keeps (var_of l) free.0 parts.0) (over_but v vars other ls keeps free.1 parts.1)

pub list_all-set : (P : ℕ → Bool) (xs : List ℕ) (j x : ℕ) → P x ≡ true → list_all P xs ≡ true → list_all P (slice_set xs j x) ≡ true
list_all-set P [] j x here all = refl
list_all-set P (y ∷ ys) zero x here all = rw here (and_parts (P y) (list_all P ys) all).1
list_all-set P (y ∷ ys) (suc j) x here all =
    let parts = and_parts (P y) (list_all P ys) all in rw parts.0 (list_all-set P ys j x here parts.1)
