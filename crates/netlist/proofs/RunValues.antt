-- What the gates of a circuit make of the values of its inputs: `run` keeps the known values, meets each gate's
-- definition, and no other values do both.
use Rattle.std.proofs.Common.{◌≡◌, ℕ, Bool, true, false, ◌&&◌, ◌||◌, Some, List, [], ◌∷◌, find, refl, sym, ap, ap₂, ◌∙◌, subst, not, if◌then◌else◌}
use Rattle.std.specs.Prelude.{◌==◌}
use Rattle.std.specs.List.{AllByRecursion}
use Rattle.std.proofs.Math.Bool.{or-false}
use Rattle.lits.specs.Clause.{has}
use Rattle.netlist.specs.declared.gate.And.{And}
use Rattle.netlist.specs.Circuit.{var_of, gate_vars, AreOrdered, lit_value, put, run, is_negated}
use Rattle.netlist.proofs.SameNodes.{equal-number, other-number, same-number, both-all, all-weaker}

-- what the gate gives
abbrev pub and_of : (ℕ → Bool) → And → Bool
and_of v g = lit_value v g.left && lit_value v g.right

-- v has at the gate's variable what the gate gives
abbrev pub Defines : (ℕ → Bool) → And → Type 0
Defines v g = v g.var ≡ and_of v g

-- a known variable, or a gate's
abbrev pub IsAmong : List ℕ → List And → ℕ → Type 0
IsAmong known gs x = (has ◌==◌ known x || has ◌==◌ (gate_vars gs) x) ≡ true

-- a literal's value by its variable's
pub lit_value-same : (v w : ℕ → Bool) (lit : ℕ) → v (var_of lit) ≡ w (var_of lit) → lit_value v lit ≡ lit_value w lit
lit_value-same v w lit e = ap (λ (b : Bool). if is_negated lit then not b else b) e

-- a variable that no gate defines keeps its value
pub run-other : (gs : List And) (v : ℕ → Bool) (x : ℕ) → has ◌==◌ (gate_vars gs) x ≡ false → run gs v x ≡ v x
run-other [] v x h = refl
run-other (g ∷ gs) v x h = go (g.var == x) refl (run-other gs (put v g.var (and_of v g)) x)
  where
    go : (b : Bool) → (g.var == x) ≡ b
        → (has ◌==◌ (gate_vars gs) x ≡ false → run gs (put v g.var (and_of v g)) x ≡ put v g.var (and_of v g) x)
        → run (g ∷ gs) v x ≡ v x
    go true e rest = let f : true ≡ false = rw e at h in cc
    go false e rest = rest (rw e at h) ∙ rw (other-number g.var x e) refl

-- one is in the list and the other isn't
pub apart : (known : List ℕ) (x y : ℕ) → has ◌==◌ known x ≡ true → has ◌==◌ known y ≡ false → (x == y) ≡ false
apart known x y hx hy = go (x == y) refl
  where
    go : (b : Bool) → (x == y) ≡ b → (x == y) ≡ false
    go true e = let same = equal-number x y e in let h : true ≡ false = sym hx ∙ ap (has ◌==◌ known) same ∙ hy in cc
    go false e = e

-- the known variables are not defined again
pub not-defined : (known : List ℕ) (gs : List And) (x : ℕ) → AreOrdered known gs → has ◌==◌ known x ≡ true
    → has ◌==◌ (gate_vars gs) x ≡ false
not-defined known [] x ordered h = refl
not-defined known (g ∷ gs) x ordered h =
    let far : (x == g.var) ≡ false = apart known x g.var h ordered.0.new in
    let there : (g.var == x || has ◌==◌ known x) ≡ true = rw (other-number x g.var far, h) refl in
    rw (other-number x g.var far) (not-defined (g.var ∷ known) gs x ordered.1 there)

-- the gates' variables are new
pub all-new : (known : List ℕ) (gs : List And) → AreOrdered known gs → AllByRecursion (λ g. has ◌==◌ known g.var ≡ false) gs
all-new known [] ordered = tt
all-new known (g ∷ gs) ordered =
    (ordered.0.new, all-weaker (λ h. has ◌==◌ (g.var ∷ known) h.var ≡ false) (λ h. has ◌==◌ known h.var ≡ false) later gs (all-new (g.var ∷ known) gs ordered.1))
  where
    later : (h : And) → (g.var == h.var || has ◌==◌ known h.var) ≡ false → has ◌==◌ known h.var ≡ false
    later h e = go (g.var == h.var) e
      where
        go : (b : Bool) → (b || has ◌==◌ known h.var) ≡ false → has ◌==◌ known h.var ≡ false
        go true f = cc
        go false f = f

-- a variable's gate is the one that defines it
pub all-found : (known : List ℕ) (gs : List And) → AreOrdered known gs
    → AllByRecursion (λ g. find (λ h. h.var == g.var) gs ≡ Some g) gs
all-found known [] ordered = tt
all-found known (g ∷ gs) ordered = (
  rw (same-number g.var) refl,
  both-all (λ h. has ◌==◌ (g.var ∷ known) h.var ≡ false) (λ h. find (λ i. i.var == h.var) gs ≡ Some h)
      (λ h. find (λ i. i.var == h.var) (g ∷ gs) ≡ Some h) later gs (all-new (g.var ∷ known) gs ordered.1) (all-found (g.var ∷ known) gs ordered.1),
)
  where
    later : (h : And) → (g.var == h.var || has ◌==◌ known h.var) ≡ false → find (λ i. i.var == h.var) gs ≡ Some h
        → find (λ i. i.var == h.var) (g ∷ gs) ≡ Some h
    later h new found = go (g.var == h.var) refl
      where
        go : (b : Bool) → (g.var == h.var) ≡ b → find (λ i. i.var == h.var) (g ∷ gs) ≡ Some h
        go true e = let f : true ≡ false = rw e at new in cc
        go false e = rw e found

-- the values after all gates meet each gate's definition
pub run-defines : (known : List ℕ) (gs : List And) (v : ℕ → Bool) → AreOrdered known gs
    → AllByRecursion (Defines (run gs v)) gs
run-defines known [] v ordered = tt
run-defines known (g ∷ gs) v ordered = (here, run-defines (g.var ∷ known) gs next ordered.1)
  where
    next : ℕ → Bool
    next = put v g.var (and_of v g)

    stays : (x : ℕ) → has ◌==◌ known x ≡ true → run gs next x ≡ v x
    stays x h =
        let far : (x == g.var) ≡ false = apart known x g.var h ordered.0.new in
        let there : (g.var == x || has ◌==◌ known x) ≡ true = rw (other-number x g.var far, h) refl in
        run-other gs next x (not-defined (g.var ∷ known) gs x ordered.1 there) ∙ rw far refl

    set : run gs next g.var ≡ and_of v g
    set =
        let there : (g.var == g.var || has ◌==◌ known g.var) ≡ true = rw (same-number g.var) refl in
        run-other gs next g.var (not-defined (g.var ∷ known) gs g.var ordered.1 there) ∙ rw (same-number g.var) refl

    here : Defines (run (g ∷ gs) v) g
    here =
        set ∙ sym (ap₂ ◌&&◌ (lit_value-same (run gs next) v g.left (stays (var_of g.left) ordered.0.left))
        (lit_value-same (run gs next) v g.right (stays (var_of g.right) ordered.0.right)))

-- w meets the gate's definition, and p has its fanins, if p has the gate
abbrev pub Follows : (ℕ → Bool) → (ℕ → Bool) → And → Type 0
Follows p w g = p g.var ≡ true → (p (var_of g.left) ≡ true) × (p (var_of g.right) ≡ true) × Defines w g

-- w has the values of the circuit on a set p of variables: it begins with them and meets the definitions in p
pub run-unique : (known : List ℕ) (gs : List And) (p w v : ℕ → Bool) → AreOrdered known gs
    → ((x : ℕ) → has ◌==◌ known x ≡ true → p x ≡ true → w x ≡ v x) → AllByRecursion (Follows p w) gs
    → (x : ℕ) → IsAmong known gs x → p x ≡ true → w x ≡ run gs v x
run-unique known [] p w v ordered begins meets x h inside = begins x (sym (or-false (has ◌==◌ known x)) ∙ h) inside
run-unique known (g ∷ gs) p w v ordered begins meets x h inside =
    run-unique (g.var ∷ known) gs p w next ordered.1 begun meets.1 x (bits (has ◌==◌ known x) (g.var == x) (has ◌==◌ (gate_vars gs) x) h) inside
  where
    next : ℕ → Bool
    next = put v g.var (and_of v g)

    bits : (a b c : Bool) → (a || (b || c)) ≡ true → ((b || a) || c) ≡ true
    bits true true c e = refl
    bits true false c e = refl
    bits false true c e = refl
    bits false false c e = e

    begun : (y : ℕ) → has ◌==◌ (g.var ∷ known) y ≡ true → p y ≡ true → w y ≡ next y
    begun y there q = go (g.var == y) refl
      where
        set : p g.var ≡ true → w g.var ≡ and_of v g
        set r =
            let m = meets.0 r in
            m.2 ∙ ap₂ ◌&&◌ (lit_value-same w v g.left (begins (var_of g.left) ordered.0.left m.0))
            (lit_value-same w v g.right (begins (var_of g.right) ordered.0.right m.1))

        go : (b : Bool) → (g.var == y) ≡ b → w y ≡ next y
        go true e =
            let same = equal-number g.var y e in
            let here : w y ≡ and_of v g = subst (λ (z : ℕ). p z ≡ true → w z ≡ and_of v g) same set q in
            here ∙ sym (rw (subst (λ (z : ℕ). (z == g.var) ≡ true) same (same-number g.var)) refl)
        go false e = begins y (rw e at there) q ∙ sym (rw (other-number g.var y e) refl)

-- the fanins are over the known variables and the gates'
pub all-over : (known : List ℕ) (gs : List And) → AreOrdered known gs
    → AllByRecursion (λ g. IsAmong known gs (var_of g.left) × IsAmong known gs (var_of g.right)) gs
all-over known [] ordered = tt
all-over known (g ∷ gs) ordered = (
  (rw ordered.0.left refl, rw ordered.0.right refl),
  all-weaker (λ h. IsAmong (g.var ∷ known) gs (var_of h.left) × IsAmong (g.var ∷ known) gs (var_of h.right))
      (λ h. IsAmong known (g ∷ gs) (var_of h.left) × IsAmong known (g ∷ gs) (var_of h.right))
      (λ h o. (wider (var_of h.left) o.0, wider (var_of h.right) o.1)) gs (all-over (g.var ∷ known) gs ordered.1),
)
  where
    bits : (b a c : Bool) → ((b || a) || c) ≡ true → (a || (b || c)) ≡ true
    bits true true c e = refl
    bits true false c e = refl
    bits false true c e = refl
    bits false false c e = e

    wider : (x : ℕ) → IsAmong (g.var ∷ known) gs x → IsAmong known (g ∷ gs) x
    wider x e = bits (g.var == x) (has ◌==◌ known x) (has ◌==◌ (gate_vars gs) x) e
