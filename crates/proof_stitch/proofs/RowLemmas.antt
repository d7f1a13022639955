-- Lines under ids one behind the other that cite earlier ids, and the new ids of those that are reached.
use Rattle.std.proofs.Common.{◌≡◌, ℕ, suc, ◌+◌, ◌<◌, ◌≤◌, Bool, true, false, ◌||◌, eqb, List, [], ◌∷◌, ◌++◌, length, map, refl, ap, ◌∙◌, subst, arith, length-append, ◌⊎◌, inl, inr}
use Rattle.std.specs.Prelude.{filter, nat_le}
use Rattle.std.specs.List.{AllByRecursion}
use Rattle.std.proofs.lemmas.Bool.{leb-true, leb-false, le-leb, lt-leb, eqb-true, eq-eqb, cases_order, or_right}
use Rattle.std.proofs.lemmas.List.Elements.{filter-append}
use Rattle.lits.specs.Same.{same_dim, opposite_dim}
use Rattle.lrat_text.specs.declared.step.LratStep.{LratStep}
use Rattle.lrat_text.specs.declared.step.LratStep.TheVariants.{Add, Del}
use Rattle.lrat_text.specs.Derivation.{formula_live}
use Rattle.proof_stitch.specs.Progress.{Follows, InRow}
use Rattle.proof_stitch.specs.Trimmed.{id_in, has_id, cites, is_cited, reached, new_id}
use Rattle.proof_stitch.proofs.GrowLemmas.{Formula, Grows, IsFound, live-range, step-found}

hints-below : (formula : Formula) (hints : List ℕ) → AllByRecursion (IsFound (formula_live formula)) hints
    → AllByRecursion (λ h. (1 ≤ h) × (h ≤ length formula)) hints
hints-below formula [] found = tt
hints-below formula (h ∷ hs) found = (live-range formula h found.0.clause found.0.is, hints-below formula hs found.1)

-- additions by which a formula grows are such lines
pub grows-row : (formula : Formula) (steps : List LratStep) → Grows formula steps → InRow (length formula) steps
grows-row formula [] g = tt
grows-row formula (Add id clause hints ∷ steps) g = (
  (g.0.id_is, hints-below formula hints (step-found same_dim opposite_dim (formula_live formula) clause hints g.0.step), g.0.range),
  subst (λ (n : ℕ). InRow n steps) next (grows-row (formula ++ clause ∷ []) steps g.1),
)
  where
    next : length (formula ++ clause ∷ []) ≡ length formula + 1
    next = length-append formula (clause ∷ [])
grows-row formula (Del ids ∷ steps) g = elim g [ ]

-- the next line's id
pub follows-id : (last : ℕ) (line : LratStep) → Follows last line → id_in line ≡ last + 1
follows-id last (Add id clause hints) f = f.0
follows-id last (Del ids) f = absurd f

-- an id that is among some passes what all of them do
pub has_id-all : (P : ℕ → Type 0) (ids : List ℕ) (n : ℕ) → AllByRecursion P ids → has_id ids n ≡ true → P n
has_id-all P [] n all h = cc
has_id-all P (i ∷ is) n all h = go (eqb i n) refl (has_id-all P is n all.1)
  where
    go : (b : Bool) → eqb i n ≡ b → (has_id is n ≡ true → P n) → P n
    go true e rest = subst P (eqb-true i n e) all.0
    go false e rest = rest (rw e at h)

-- and the other way round
pub all-has_id : (P : ℕ → Type 0) (ids : List ℕ) → ((n : ℕ) → has_id ids n ≡ true → P n) → AllByRecursion P ids
all-has_id P [] each = tt
all-has_id P (i ∷ is) each = (
  each i (rw (eq-eqb i i refl) refl),
  all-has_id P is (λ n h. each n (or_right (eqb i n) (has_id is n) h)),
)

-- a line cites what is before it
pub cites-below : (last : ℕ) (line : LratStep) → Follows last line → (n : ℕ) → cites line n ≡ true → (1 ≤ n) × (n ≤ last)
cites-below last (Add id clause hints) f n h = has_id-all (λ k. (1 ≤ k) × (k ≤ last)) hints n f.1 h
cites-below last (Del ids) f n h = absurd f

-- ---- ids of what is reached

pub all-above : (last : ℕ) (lines : List LratStep) → InRow last lines → AllByRecursion (λ l. last < id_in l) lines
all-above last lines row = go last lines row (omega arith)
  where
    go : (k : ℕ) (ls : List LratStep) → InRow k ls → last ≤ k → AllByRecursion (λ l. last < id_in l) ls
    go k [] r le = tt
    go k (l ∷ ls) r le = (omega (arith, le, follows-id k l r.0), go (k + 1) ls r.1 (omega (arith, le)))

-- what all lines have the reached ones have
pub reached-all : (P : LratStep → Type 0) (asked : ℕ → Bool) (lines : List LratStep) → AllByRecursion P lines → AllByRecursion P (reached asked lines)
reached-all P asked [] all = tt
reached-all P asked (l ∷ ls) all = go (asked (id_in l) || is_cited (reached asked ls) (id_in l)) refl (reached-all P asked ls all.1)
  where
    go : (b : Bool) → (asked (id_in l) || is_cited (reached asked ls) (id_in l)) ≡ b → AllByRecursion P (reached asked ls)
        → AllByRecursion P (reached asked (l ∷ ls))
    go true e rest = rw e (all.0, rest)
    go false e rest = rw e rest

-- they are no more
pub reached-few : (asked : ℕ → Bool) (lines : List LratStep) → length (reached asked lines) ≤ length lines
reached-few asked [] = omega arith
reached-few asked (l ∷ ls) = go (asked (id_in l) || is_cited (reached asked ls) (id_in l)) refl (reached-few asked ls)
  where
    go : (b : Bool) → (asked (id_in l) || is_cited (reached asked ls) (id_in l)) ≡ b → length (reached asked ls) ≤ length ls
        → length (reached asked (l ∷ ls)) ≤ length (l ∷ ls)
    go true e rest = rw e (omega (arith, rest))
    go false e rest = rw e (omega (arith, rest))

-- ---- new ids

-- how many of the lines have an id up to that one
abbrev pub upto : ℕ → List LratStep → ℕ
upto n lines = length (filter (λ line. nat_le (id_in line) n) lines)

pub upto-append : (n : ℕ) (xs ys : List LratStep) → upto n (xs ++ ys) ≡ upto n xs + upto n ys
upto-append n xs ys =
    ap length (filter-append (λ line. nat_le (id_in line) n) xs ys)
    ∙ length-append (filter (λ line. nat_le (id_in line) n) xs) (filter (λ line. nat_le (id_in line) n) ys)

pub upto-all : (n : ℕ) (xs : List LratStep) → AllByRecursion (λ l. id_in l ≤ n) xs → upto n xs ≡ length xs
upto-all n [] all = refl
upto-all n (l ∷ ls) all = rw (le-leb (id_in l) n all.0) (ap suc (upto-all n ls all.1))

pub upto-none : (n : ℕ) (xs : List LratStep) → AllByRecursion (λ l. n < id_in l) xs → upto n xs ≡ 0
upto-none n [] all = refl
upto-none n (l ∷ ls) all = rw (lt-leb (id_in l) n all.0) (upto-none n ls all.1)

pub upto-few : (n : ℕ) (xs : List LratStep) → upto n xs ≤ length xs
upto-few n [] = omega arith
upto-few n (l ∷ ls) = go (nat_le (id_in l) n) refl (upto-few n ls)
  where
    go : (b : Bool) → nat_le (id_in l) n ≡ b → upto n ls ≤ length ls → upto n (l ∷ ls) ≤ length (l ∷ ls)
    go true e rest = rw e (omega (arith, rest))
    go false e rest = rw e (omega (arith, rest))

pub upto-more : (a b : ℕ) (xs : List LratStep) → a ≤ b → upto a xs ≤ upto b xs
upto-more a b [] le = omega arith
upto-more a b (l ∷ ls) le = go (nat_le (id_in l) a) (nat_le (id_in l) b) refl refl (upto-more a b ls le)
  where
    go : (p q : Bool) → nat_le (id_in l) a ≡ p → nat_le (id_in l) b ≡ q → upto a ls ≤ upto b ls → upto a (l ∷ ls) ≤ upto b (l ∷ ls)
    go true true e f rest = rw (e, f) (omega (arith, rest))
    go true false e f rest = absurd (omega (arith, le, leb-true (id_in l) a e, leb-false (id_in l) b f))
    go false true e f rest = rw (e, f) (omega (arith, rest))
    go false false e f rest = rw (e, f) rest

pub upto-less : (a b : ℕ) (xs : List LratStep) → a < b → has_id (map id_in xs) b ≡ true → upto a xs < upto b xs
upto-less a b [] lt h = cc
upto-less a b (l ∷ ls) lt h = go (eqb (id_in l) b) refl (upto-less a b ls lt)
  where
    some : (p q : Bool) → nat_le (id_in l) a ≡ p → nat_le (id_in l) b ≡ q → upto a ls < upto b ls → upto a (l ∷ ls) < upto b (l ∷ ls)
    some true true e f rest = rw (e, f) (omega (arith, rest))
    some true false e f rest = absurd (omega (arith, lt, leb-true (id_in l) a e, leb-false (id_in l) b f))
    some false true e f rest = rw (e, f) (omega (arith, rest))
    some false false e f rest = rw (e, f) rest

    go : (p : Bool) → eqb (id_in l) b ≡ p → (has_id (map id_in ls) b ≡ true → upto a ls < upto b ls) → upto a (l ∷ ls) < upto b (l ∷ ls)
    go true e rest =
        let is : id_in l ≡ b = eqb-true (id_in l) b e in
        rw (lt-leb (id_in l) a (omega (arith, is, lt)), le-leb (id_in l) b (omega (arith, is)))
        (omega (arith, upto-more a b ls (omega (arith, lt))))
    go false e rest = some (nat_le (id_in l) a) (nat_le (id_in l) b) refl refl (rest (rw e at h))

-- the id is that of a clause of the formula or of one of the lines
abbrev pub IsNamed : ℕ → List LratStep → ℕ → Type 0
IsNamed m lines n = (n ≤ m) ⊎ (has_id (map id_in lines) n ≡ true)

-- new ids rise with ids
pub new_id-less : (m : ℕ) (lines : List LratStep) (a b : ℕ) → a < b → IsNamed m lines b → new_id m lines a < new_id m lines b
new_id-less m lines a b lt (inl le) = omega (arith, lt, le, upto-more a b lines (omega (arith, lt)))
new_id-less m lines a b lt (inr h) = omega (arith, lt, upto-less a b lines lt h)

-- so none is that of two
pub new_id-same : (m : ℕ) (lines : List LratStep) (a b : ℕ) → IsNamed m lines a → IsNamed m lines b → new_id m lines a ≡ new_id m lines b → a ≡ b
new_id-same m lines a b is is' same =
    elim (cases_order a b) [
      | inl e ↦ e
      | inr (inl lt) ↦ absurd (omega (arith, same, new_id-less m lines a b lt is'))
      | inr (inr lt) ↦ absurd (omega (arith, same, new_id-less m lines b a lt is))
    ]

-- they are as many as there are clauses and lines
pub new_id-few : (m : ℕ) (lines : List LratStep) (n : ℕ) → new_id m lines n ≤ m + length lines
new_id-few m lines n = omega (arith, upto-few n lines)

-- from 1 on
pub new_id-some : (m : ℕ) (lines : List LratStep) (n : ℕ) → 1 ≤ m → 1 ≤ n → 1 ≤ new_id m lines n
new_id-some m lines n some from = omega (arith, some, from)
