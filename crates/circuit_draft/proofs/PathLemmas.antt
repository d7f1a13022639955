-- A path of gates, each of which uses the next: what the level of its last gate says of the others, and why a path with
-- more gates than the circuit has begins at one without a level.
use Rattle.std.proofs.Common.{◌≡◌, ◌≢◌, ℕ, ◌+◌, ◌<◌, ◌≤◌, Bool, true, false, Option, None, Some, List, [], ◌∷◌, ◌++◌, length, refl, sym, ap, ◌∙◌, subst, arith, get_or-set_same, get_or-set_other, length-set}
use Rattle.std.specs.Prelude.{◌==◌, slice_index, slice_set, ⊤}
use Rattle.std.proofs.lemmas.Bool.Decides.{nat_tests}
use Rattle.std.proofs.lemmas.Option.{none-some, same_Some}
use Rattle.netlist.specs.Circuit.{Aig}
use Rattle.netlist.specs.VariableTable.{AreVariables}
use Rattle.circuit_draft.specs.Levels.{level_of}
use Rattle.circuit_draft.specs.Steps.{gate_at, open_in, AreLevels, Uses, IsOpen, Keeps}
use Rattle.circuit_draft.proofs.LevelLemmas.{level-uses, level-some, open-set, level-bound}

-- each gate is open and uses the next one
abbrev pub IsPath : Aig → List ℕ → List ℕ → Type 0
IsPath c levels [] = ⊤
IsPath c levels (p ∷ []) = IsOpen c levels p
IsPath c levels (p ∷ q ∷ qs) = IsOpen c levels p × Uses c p q × IsPath c levels (q ∷ qs)

-- the walk from a root: the path begins there, and where it is empty the root's level is known
abbrev pub Walks : Aig → List ℕ → ℕ → List ℕ → Type 0
Walks c levels root [] = slice_index levels root ≢ 0
Walks c levels root (p ∷ ps) = (p ≡ root) × IsPath c levels (p ∷ ps)

-- ---- the path grows

pub IsPath-last : (c : Aig) (levels ps : List ℕ) (q : ℕ) → IsPath c levels (ps ++ q ∷ []) → IsOpen c levels q
IsPath-last c levels [] q path = path
IsPath-last c levels (p ∷ []) q path = path.2
IsPath-last c levels (p ∷ p' ∷ ps) q path = IsPath-last c levels (p' ∷ ps) q path.2

IsPath-push : (c : Aig) (levels ps : List ℕ) (q r : ℕ) → IsPath c levels (ps ++ q ∷ []) → Uses c q r → IsOpen c levels r
    → IsPath c levels ((ps ++ q ∷ []) ++ r ∷ [])
IsPath-push c levels [] q r path uses here = (path, uses, here)
IsPath-push c levels (p ∷ []) q r path uses here = (path.0, path.1, IsPath-push c levels [] q r path.2 uses here)
IsPath-push c levels (p ∷ p' ∷ ps) q r path uses here = (path.0, path.1, IsPath-push c levels (p' ∷ ps) q r path.2 uses here)

pub Walks-push : (c : Aig) (levels : List ℕ) (root : ℕ) (ps : List ℕ) (q r : ℕ) → Walks c levels root (ps ++ q ∷ []) → Uses c q r → IsOpen c levels r
    → Walks c levels root ((ps ++ q ∷ []) ++ r ∷ [])
Walks-push c levels root [] q r walk uses here = (walk.0, IsPath-push c levels [] q r walk.1 uses here)
Walks-push c levels root (p ∷ ps) q r walk uses here = (walk.0, IsPath-push c levels (p ∷ ps) q r walk.1 uses here)

pub Walks-last : (c : Aig) (levels : List ℕ) (root : ℕ) (ps : List ℕ) (q : ℕ) → Walks c levels root (ps ++ q ∷ []) → IsOpen c levels q
Walks-last c levels root [] q walk = walk.1
Walks-last c levels root (p ∷ ps) q walk = IsPath-last c levels (p ∷ ps) q walk.1

-- ---- the last gate's level is found

-- no level, or one above m
abbrev IsAbove : ℕ → Option ℕ → Type 0
IsAbove m None = ⊤
IsAbove m (Some k) = m < k

uses-above : (c : Aig) (p q m : ℕ) → AreVariables c.inputs c.gates → p < length c.gates → Uses c p q
    → ((k : ℕ) → level_of c (gate_at c q).var ≡ Some k → m ≤ k) → IsAbove m (level_of c (gate_at c p).var)
uses-above c p q m vars lt uses above = go (level_of c (gate_at c p).var) refl
  where
    go : (o : Option ℕ) → level_of c (gate_at c p).var ≡ o → IsAbove m o
    go None e = tt
    go (Some k) e = let b = level-uses c p q k vars lt uses e in let h = above b.level b.level_is in omega (arith, b.below, h)

apart_above : (c : Aig) (p q m : ℕ) → level_of c (gate_at c q).var ≡ Some m → IsAbove m (level_of c (gate_at c p).var) → p ≢ q
apart_above c p q m e above same =
    let at : level_of c (gate_at c p).var ≡ Some m = subst (λ (x : ℕ). level_of c (gate_at c x).var ≡ Some m) (sym same) e in
    let no : IsAbove m (Some m) = subst (λ (o : Option ℕ). IsAbove m o) at above in absurd (omega (arith, no))

-- with the level of its last gate the path without that gate is a path still, and its gates lie above
record Shortened (c : Aig) (levels ps : List ℕ) (m : ℕ) : Type 0 where
  pub path : IsPath c levels ps
  pub first : (k : ℕ) → level_of c (gate_at c (slice_index ps 0)).var ≡ Some k → 0 < length ps → m < k

above_some : (m : ℕ) (o : Option ℕ) → IsAbove m o → (k : ℕ) → o ≡ Some k → m < k
above_some m None h k e = absurd (none-some k e)
above_some m (Some j) h k e = let same = same_Some j k e in omega (arith, h, same)

still_open : (c : Aig) (levels : List ℕ) (p q m : ℕ) → p ≢ q → IsOpen c levels p → IsOpen c (slice_set levels q m) p
still_open c levels p q m apart here = record { within = here.within; unknown = get_or-set_other levels q p m 0 apart ∙ here.unknown }

IsPath-found : (c : Aig) (levels ps : List ℕ) (q m : ℕ) → AreVariables c.inputs c.gates → IsPath c levels (ps ++ q ∷ [])
    → level_of c (gate_at c q).var ≡ Some m → Shortened c (slice_set levels q m) ps m
IsPath-found c levels [] q m vars path e = record { path = tt; first = λ k f some. absurd (omega arith) }
IsPath-found c levels (p ∷ []) q m vars path e =
    let above = uses-above c p q m vars path.0.within path.1 (λ k f. let same = same_Some m k (sym e ∙ f) in omega arith) in
    record {
      path = still_open c levels p q m (apart_above c p q m e above) path.0;
      first = λ k f some. above_some m _ above k f;
    }
IsPath-found c levels (p ∷ p' ∷ ps) q m vars path e =
    let rest = IsPath-found c levels (p' ∷ ps) q m vars path.2 e in
    let above = uses-above c p p' m vars path.0.within path.1 (λ k f. let h = rest.first k f (omega arith) in omega arith) in
    record {
      path = (still_open c levels p q m (apart_above c p q m e above) path.0, path.1, rest.path);
      first = λ k f some. above_some m _ above k f;
    }

pub Walks-found : (c : Aig) (levels : List ℕ) (root : ℕ) (ps : List ℕ) (q m : ℕ) → AreVariables c.inputs c.gates → length levels ≡ length c.gates
    → Walks c levels root (ps ++ q ∷ []) → level_of c (gate_at c q).var ≡ Some m → m ≢ 0 → Walks c (slice_set levels q m) root ps
Walks-found c levels root [] q m vars count walk e ne =
    let lt : q < length levels = omega (arith, count, walk.1.within) in λ same.
    ne (sym (get_or-set_same levels q m 0 lt) ∙ ap (slice_index (slice_set levels q m)) walk.0 ∙ same)
Walks-found c levels root (p ∷ ps) q m vars count walk e ne = (walk.0, (IsPath-found c levels (p ∷ ps) q m vars walk.1 e).path)

-- ---- a path that is too long

pub path_length : (c : Aig) (levels : List ℕ) (p : ℕ) (ps : List ℕ) (m : ℕ) → AreVariables c.inputs c.gates → IsPath c levels (p ∷ ps)
    → level_of c (gate_at c p).var ≡ Some m → length (p ∷ ps) ≤ m
path_length c levels p [] m vars path e = let h = level-some c p m vars path.within e in omega arith
path_length c levels p (q ∷ qs) m vars path e =
    let b = level-uses c p q m vars path.0.within path.1 e in
    let rest = path_length c levels q qs b.level vars path.2 b.level_is in omega (arith, rest, b.below)

-- where more gates stand on the walk than there are, its root has no level
pub too_long : (c : Aig) (levels : List ℕ) (root : ℕ) (ps : List ℕ) → AreVariables c.inputs c.gates → Walks c levels root ps → 0 < length ps
    → length c.gates < length ps → level_of c (gate_at c root).var ≡ None
too_long c levels root [] vars walk some long = absurd (omega arith)
too_long c levels root (p ∷ ps) vars walk some long = subst (λ (r : ℕ). level_of c (gate_at c r).var ≡ None) walk.0 (go (level_of c (gate_at c p).var) refl)
  where
    go : (o : Option ℕ) → level_of c (gate_at c p).var ≡ o → o ≡ None
    go None e = refl
    go (Some m) e =
        let h = path_length c levels p ps m vars walk.1 e in
        let b = level-bound c (length c.gates) (gate_at c p).var m e in absurd (omega arith)

-- ---- the levels

-- one more level is known
pub AreLevels-found : (c : Aig) (levels : List ℕ) (q m : ℕ) → AreLevels c levels → IsOpen c levels q → level_of c (gate_at c q).var ≡ Some m
    → m ≢ 0 → m + open_in levels ≤ length c.gates + 1 → AreLevels c (slice_set levels q m)
AreLevels-found c levels q m are here e ne low = record {
  count = length-set levels q m ∙ are.count;
  known = λ p lt some. go p (p == q) refl lt some;
  low = λ p lt some. go_low p (p == q) refl lt some;
}
  where
    room : q < length levels
    room = omega (arith, here.within, are.count)

    fewer : open_in (slice_set levels q m) + 1 ≡ open_in levels
    fewer = open-set levels q m room here.unknown ne

    go : (p : ℕ) (b : Bool) → (p == q) ≡ b → p < length c.gates → slice_index (slice_set levels q m) p ≢ 0
        → level_of c (gate_at c p).var ≡ Some (slice_index (slice_set levels q m) p)
    go p true t lt some =
        let same : q ≡ p = grind (arith, nat_tests, t) in
        subst (λ (x : ℕ). level_of c (gate_at c x).var ≡ Some (slice_index (slice_set levels q m) x)) same
        (e ∙ ap Some (sym (get_or-set_same levels q m 0 room)))
    go p false f lt some =
        let apart : p ≢ q = grind (arith, nat_tests, f) in
        let old : slice_index (slice_set levels q m) p ≡ slice_index levels p = get_or-set_other levels q p m 0 apart in
        are.known p lt (λ z. some (old ∙ z)) ∙ ap Some (sym old)

    go_low : (p : ℕ) (b : Bool) → (p == q) ≡ b → p < length c.gates → slice_index (slice_set levels q m) p ≢ 0
        → slice_index (slice_set levels q m) p + open_in (slice_set levels q m) ≤ length c.gates
    go_low p true t lt some =
        let same : q ≡ p = grind (arith, nat_tests, t) in
        let at : slice_index (slice_set levels q m) p ≡ m = subst (λ (x : ℕ). slice_index (slice_set levels q m) x ≡ m) same (get_or-set_same levels q m 0 room) in
        omega (arith, at, fewer, low)
    go_low p false f lt some =
        let apart : p ≢ q = grind (arith, nat_tests, f) in
        let old : slice_index (slice_set levels q m) p ≡ slice_index levels p = get_or-set_other levels q p m 0 apart in
        let h = are.low p lt (λ z. some (old ∙ z)) in
        omega (arith, old, fewer, h)

pub Keeps-found : (levels : List ℕ) (q m : ℕ) → m ≢ 0 → q < length levels → Keeps levels (slice_set levels q m)
Keeps-found levels q m ne room p some z = go (p == q) refl
  where
    go : (b : Bool) → (p == q) ≡ b → ⊥
    go true t =
        let same : q ≡ p = grind (arith, nat_tests, t) in
        ne (sym (get_or-set_same levels q m 0 room) ∙ subst (λ (x : ℕ). slice_index (slice_set levels q m) x ≡ 0) (sym same) z)
    go false f =
        let apart : p ≢ q = grind (arith, nat_tests, f) in some (sym (get_or-set_other levels q p m 0 apart) ∙ z)

pub Keeps-trans : (a b d : List ℕ) → Keeps a b → Keeps b d → Keeps a d
Keeps-trans a b d first second p some = second p (first p some)
