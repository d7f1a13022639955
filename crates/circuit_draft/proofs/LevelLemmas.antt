-- Levels: each is below the bound, whatever the bound, and a fanin's level is below the gate's.
use Rattle.std.proofs.Common.{◌≡◌, ◌≢◌, ℕ, zero, suc, ◌+◌, ◌<◌, ◌≤◌, max, Bool, true, false, cond, Option, None, Some, List, [], ◌∷◌, length, refl, sym, ap, ◌∙◌, subst, arith, inl, inr}
use Rattle.std.specs.Prelude.{◌==◌, slice_index, slice_set}
use Rattle.std.proofs.lemmas.Option.{none-some, same_Some}
use Rattle.std.proofs.lemmas.Bool.Decides.{nat_tests}
use Rattle.lits.specs.Clause.{has}
use Rattle.netlist.specs.declared.gate.And.{And}
use Rattle.netlist.specs.Circuit.{Aig, var_of}
use Rattle.netlist.specs.VariableTable.{AreVariables}
use Rattle.circuit_draft.specs.Levels.{above, gate_for, level_within, level_of}
use Rattle.circuit_draft.specs.Steps.{gate_at, open_in, Uses}
use Rattle.circuit_draft.proofs.VariableLemmas.{gate_for-at, no_source}

-- ---- sources

pub level-source : (c : Aig) (n v : ℕ) → has ◌==◌ (0 ∷ c.inputs) v ≡ true → level_within c n v ≡ Some 0
unfolding level_within
level-source c zero v e = rw e refl
level-source c (suc n) v e = rw e refl

-- ---- gates

-- what a level that is there is made of
pub record Parts (a b : Option ℕ) (m : ℕ) : Type 0 where
  pub left : ℕ
  pub right : ℕ
  pub left_is : a ≡ Some left
  pub right_is : b ≡ Some right
  pub sum : m ≡ max left right + 1

pub above-parts : (a b : Option ℕ) (m : ℕ) → above a b ≡ Some m → Parts a b m
above-parts None b m e = absurd (none-some m e)
above-parts (Some l) None m e = absurd (none-some m e)
above-parts (Some l) (Some r) m e =
    record { left = l; right = r; left_is = refl; right_is = refl; sum = sym (same_Some (max l r + 1) m e) }

pub above-made : (a b : Option ℕ) (l r m : ℕ) → a ≡ Some l → b ≡ Some r → m ≡ max l r + 1 → above a b ≡ Some m
above-made a b l r m e f is = rw (e, f, is) refl

pub level-gate : (c : Aig) (n v : ℕ) (g : And) → has ◌==◌ (0 ∷ c.inputs) v ≡ false → gate_for c v ≡ Some g
    → level_within c (suc n) v ≡ above (level_within c n (var_of g.left)) (level_within c n (var_of g.right))
unfolding level_within
level-gate c n v g none e = rw (none, e) refl

pub level-none : (c : Aig) (n v : ℕ) → has ◌==◌ (0 ∷ c.inputs) v ≡ false → gate_for c v ≡ None → level_within c (suc n) v ≡ None
unfolding level_within
level-none c n v none e = rw (none, e) refl

pub level-zero : (c : Aig) (v : ℕ) → has ◌==◌ (0 ∷ c.inputs) v ≡ false → level_within c zero v ≡ None
unfolding level_within
level-zero c v none = rw none refl

-- ---- whatever the bound

-- a level is found under each bound that it doesn't exceed
pub level-low : (c : Aig) (n k v m : ℕ) → level_within c n v ≡ Some m → m ≤ k → level_within c k v ≡ Some m
level-low c zero k v m e le = go (has ◌==◌ (0 ∷ c.inputs) v) refl
  where
    go : (b : Bool) → has ◌==◌ (0 ∷ c.inputs) v ≡ b → level_within c k v ≡ Some m
    go true t = let z : 0 ≡ m = same_Some 0 m (sym (level-source c zero v t) ∙ e) in level-source c k v t ∙ ap Some z
    go false f = absurd (none-some m (sym (level-zero c v f) ∙ e))
level-low c (suc n) k v m e le = go (has ◌==◌ (0 ∷ c.inputs) v) refl (gate_for c v) refl (level-low c n)
  where
    go : (b : Bool) → has ◌==◌ (0 ∷ c.inputs) v ≡ b → (o : Option And) → gate_for c v ≡ o
        → ((j w l : ℕ) → level_within c n w ≡ Some l → l ≤ j → level_within c j w ≡ Some l) → level_within c k v ≡ Some m
    go true t o is rest = let z : 0 ≡ m = same_Some 0 m (sym (level-source c (suc n) v t) ∙ e) in level-source c k v t ∙ ap Some z
    go false f None is rest = absurd (none-some m (sym (level-none c n v f is) ∙ e))
    go false f (Some g) is rest =
        let p = above-parts _ _ m (sym (level-gate c n v g f is) ∙ e) in
        bounded k le g f is p rest
      where
        bounded : (j : ℕ) → m ≤ j → (h : And) → has ◌==◌ (0 ∷ c.inputs) v ≡ false → gate_for c v ≡ Some h
            → Parts (level_within c n (var_of h.left)) (level_within c n (var_of h.right)) m
            → ((i w l : ℕ) → level_within c n w ≡ Some l → l ≤ i → level_within c i w ≡ Some l) → level_within c j v ≡ Some m
        bounded zero le h f is p rest = absurd (omega (arith, p.sum))
        bounded (suc j) le h f is p rest =
            level-gate c j v h f is
            ∙ above-made _ _ p.left p.right m
            (rest j (var_of h.left) p.left p.left_is (omega (arith, p.sum)))
            (rest j (var_of h.right) p.right p.right_is (omega (arith, p.sum)))
            p.sum

-- no level is above its bound
bound-source : (d : Aig) (n v k : ℕ) → has ◌==◌ (0 ∷ d.inputs) v ≡ true → level_within d n v ≡ Some k → k ≤ n
bound-source d n v k t e = let z : 0 ≡ k = same_Some 0 k (sym (level-source d n v t) ∙ e) in omega arith

pub level-bound : (d : Aig) (n v k : ℕ) → level_within d n v ≡ Some k → k ≤ n
level-bound d zero v k e = go (has ◌==◌ (0 ∷ d.inputs) v) refl
  where
    go : (b : Bool) → has ◌==◌ (0 ∷ d.inputs) v ≡ b → k ≤ zero
    go true t = bound-source d zero v k t e
    go false f = absurd (none-some k (sym (level-zero d v f) ∙ e))
level-bound d (suc n) v k e = go (has ◌==◌ (0 ∷ d.inputs) v) refl (gate_for d v) refl (level-bound d n)
  where
    go : (b : Bool) → has ◌==◌ (0 ∷ d.inputs) v ≡ b → (o : Option And) → gate_for d v ≡ o
        → ((w j : ℕ) → level_within d n w ≡ Some j → j ≤ n) → k ≤ suc n
    go true t o is rest = bound-source d (suc n) v k t e
    go false f None is rest = absurd (none-some k (sym (level-none d n v f is) ∙ e))
    go false f (Some g) is rest =
        let p = above-parts _ _ k (sym (level-gate d n v g f is) ∙ e) in
        let a = rest _ p.left p.left_is in
        let b = rest _ p.right p.right_is in omega (arith, p.sum, a, b)

-- ---- gates by their places

above_zero : (n q : ℕ) → q < n → (k : ℕ) × (n ≡ suc k)
above_zero zero q l = absurd (omega arith)
above_zero (suc n) q l = (n, refl)

-- what the level of a gate is made of
pub level-parts : (c : Aig) (q m : ℕ) → AreVariables c.inputs c.gates → q < length c.gates → level_of c (gate_at c q).var ≡ Some m
    → Parts (level_of c (var_of (gate_at c q).left)) (level_of c (var_of (gate_at c q).right)) m
level-parts c q m vars l e =
    let some = above_zero (length c.gates) q l in
    let at : level_within c (suc some.0) (gate_at c q).var ≡ Some m = subst (λ (n : ℕ). level_within c n (gate_at c q).var ≡ Some m) some.1 e in
    let p = above-parts _ _ m (sym (level-gate c some.0 (gate_at c q).var (gate_at c q) (no_source c q vars l) (gate_for-at c q vars l)) ∙ at) in
    let small : m ≤ length c.gates = level-bound c (length c.gates) (gate_at c q).var m e in
    record {
      left = p.left;
      right = p.right;
      left_is = level-low c some.0 (length c.gates) _ p.left p.left_is (omega (arith, p.sum));
      right_is = level-low c some.0 (length c.gates) _ p.right p.right_is (omega (arith, p.sum));
      sum = p.sum;
    }

-- a gate's level from those of its fanins
pub level-made : (c : Aig) (q l r m : ℕ) → AreVariables c.inputs c.gates → q < length c.gates
    → level_of c (var_of (gate_at c q).left) ≡ Some l → level_of c (var_of (gate_at c q).right) ≡ Some r
    → m ≡ max l r + 1 → m ≤ length c.gates → level_of c (gate_at c q).var ≡ Some m
level-made c q l r m vars lt left right is le =
    let some = above_zero (length c.gates) q lt in
    let f = no_source c q vars lt in
    let g = gate_for-at c q vars lt in
    let at : level_within c (suc some.0) (gate_at c q).var ≡ Some m =
    level-gate c some.0 (gate_at c q).var (gate_at c q) f g
    ∙ above-made _ _ l r m
    (level-low c (length c.gates) some.0 _ l left (omega (arith, is, some.1)))
    (level-low c (length c.gates) some.0 _ r right (omega (arith, is, some.1))) is in
    level-low c (suc some.0) (length c.gates) (gate_at c q).var m at le

-- the level of what a gate uses is below its own
pub record Below (o : Option ℕ) (m : ℕ) : Type 0 where
  pub level : ℕ
  pub level_is : o ≡ Some level
  pub below : level < m

pub level-uses : (c : Aig) (p q m : ℕ) → AreVariables c.inputs c.gates → p < length c.gates → Uses c p q
    → level_of c (gate_at c p).var ≡ Some m → Below (level_of c (gate_at c q).var) m
level-uses c p q m vars l uses e =
    let parts = level-parts c p m vars l e in
    elim uses [
      | inl same ↦ record { level = parts.left; level_is = ap (level_of c) (sym same) ∙ parts.left_is; below = omega (arith, parts.sum) }
      | inr same ↦ record { level = parts.right; level_is = ap (level_of c) (sym same) ∙ parts.right_is; below = omega (arith, parts.sum) }
    ]

-- the level of a gate isn't 0
pub level-some : (c : Aig) (p m : ℕ) → AreVariables c.inputs c.gates → p < length c.gates → level_of c (gate_at c p).var ≡ Some m → 0 < m
level-some c p m vars l e = let parts = level-parts c p m vars l e in omega (arith, parts.sum)

-- ---- levels that aren't known yet

pub open-le : (ls : List ℕ) → open_in ls ≤ length ls
open-le [] = omega arith
open-le (l ∷ ls) = go (l == 0) (open-le ls)
  where
    go : (b : Bool) → open_in ls ≤ length ls → cond b 1 0 + open_in ls ≤ length (l ∷ ls)
    go true h = omega arith
    go false h = omega arith

pub open-some : (ls : List ℕ) (p : ℕ) → p < length ls → slice_index ls p ≡ 0 → 0 < open_in ls
open-some [] p lt e = absurd (omega arith)
open-some (l ∷ ls) zero lt e = let t : (l == 0) ≡ true = grind (arith, nat_tests, e) in rw t (omega arith)
open-some (l ∷ ls) (suc p) lt e = let h = open-some ls p (omega arith) e in omega (arith, h)

pub open-set : (ls : List ℕ) (p m : ℕ) → p < length ls → slice_index ls p ≡ 0 → m ≢ 0 → open_in (slice_set ls p m) + 1 ≡ open_in ls
open-set [] p m lt e ne = absurd (omega arith)
open-set (l ∷ ls) zero m lt e ne =
    let t : (l == 0) ≡ true = grind (arith, nat_tests, e) in
    let f : (m == 0) ≡ false = grind (arith, nat_tests, ne) in rw (t, f) (omega arith)
open-set (l ∷ ls) (suc p) m lt e ne = let h = open-set ls p m (omega arith) e ne in omega (arith, h)
