-- Which gates of a circuit stand before one of them, by the positions of a net.
use Rattle.std.proofs.Common.{◌≡◌, ℕ, ◌+◌, Bool, true, false, ◌||◌, cond, Option, Some, None, List, [], ◌∷◌, ◌++◌, refl, sym, ap, ◌∙◌, nat_lt, arith}
use Rattle.std.specs.Prelude.{◌==◌}
use Rattle.std.specs.Option.{option_map, option_map_or, is_some}
use Rattle.std.proofs.lemmas.Bool.{or_parts}
use Rattle.std.proofs.lemmas.Bool.Decides.{nat_tests}
use Rattle.std.proofs.lemmas.List.Folds.{list_any-append}
use Rattle.lits.specs.Clause.{has}
use Rattle.lits.specs.declared.literal.Lit.{Lit}
use Rattle.lits.specs.declared.node.Side.{Side}
use Rattle.lits.specs.declared.node.Node.{Node}
use Rattle.lits.specs.declared.node.Node.TheVariants.{Const, Input, Gate, Xor}
use Rattle.lits.proofs.Facts.{list_any-map}
use Rattle.netlist.specs.declared.gate.And.{And}
use Rattle.netlist.specs.Place.{place_of, before}
use Rattle.netlist.specs.Circuit.{Aig, gate_vars, is_over, variables_in, var_of}
use Rattle.netlist.specs.Edit.{gates_before, has_gate, is_earlier}
use Rattle.netlist.specs.Net.{AigPair, circuit_of, lit_named, lit_of, position_of}
use Rattle.netlist.specs.Pair.{first_gate}
use Rattle.netlist.proofs.Facts.{position-gate, is_some-place, eq_swap}

-- what has a place stands before what may have another
abbrev is_before : Option ℕ → Option ℕ → Bool
is_before place end = option_map_or (λ p. option_map_or (λ q. nat_lt p q) end true) place false

-- ---- places further on
is_before-shift : (f : ℕ → ℕ) → ((p q : ℕ) → nat_lt (f p) (f q) ≡ nat_lt p q) → (place end : Option ℕ)
    → is_before (option_map f place) (option_map f end) ≡ is_before place end
is_before-shift f same None end = refl
is_before-shift f same (Some p) None = refl
is_before-shift f same (Some p) (Some q) = same p q

less-shift : (n p q : ℕ) → nat_lt (n + p) (n + q) ≡ nat_lt p q
less-shift n p q = grind (arith, nat_tests)

less-next : (p q : ℕ) → nat_lt (p + 1) (q + 1) ≡ nat_lt p q
less-next p q = grind (arith, nat_tests)

is_some-shift : (f : ℕ → ℕ) (place : Option ℕ) → is_some (option_map f place) ≡ is_some place
is_some-shift f None = refl
is_some-shift f (Some p) = refl

-- ---- gates

-- the gates before one are those with a lesser place
before-place : (gates : List And) (v w : ℕ)
    → has ◌==◌ (gate_vars (before (λ g. g.var == v) gates)) w
    ≡ is_before (place_of (λ g. g.var == w) gates) (place_of (λ g. g.var == v) gates)
before-place [] v w = refl
before-place (x ∷ xs) v w = go (x.var == v) (x.var == w) refl (before-place xs v w)
  where
    first : List And
    first = before (λ g. g.var == v) xs

    place : ℕ → Option ℕ
    place u = place_of (λ g. g.var == u) xs

    none : (o : Option ℕ) → is_before (option_map (λ k. k + 1) o) (Some 0) ≡ false
    none None = refl
    none (Some p) = grind (arith, nat_tests)

    front : (o : Option ℕ) → is_before (Some 0) (option_map (λ k. k + 1) o) ≡ true
    front None = refl
    front (Some q) = grind (arith, nat_tests)

    go : (b c : Bool) → (x.var == w) ≡ c → has ◌==◌ (gate_vars first) w ≡ is_before (place w) (place v)
        → has ◌==◌ (gate_vars (cond b [] (x ∷ first))) w
        ≡ is_before (cond c (Some 0) (option_map (λ k. k + 1) (place w))) (cond b (Some 0) (option_map (λ k. k + 1) (place v)))
    go true true e rest = grind (arith, nat_tests)
    go true false e rest = sym (none (place w))
    go false true e rest = rw e (sym (front (place v)))
    go false false e rest = rw e (rest ∙ sym (is_before-shift (λ k. k + 1) less-next (place w) (place v)))

-- a gate has a position exactly where its side has the gate
pub there : (net : AigPair) (side : Side) (v : ℕ) → is_some (position_of net (Gate side v)) ≡ has_gate (circuit_of net side) v
there net side v =
    ap is_some (sym (position-gate net side v))
    ∙ is_some-shift (λ g. first_gate net side + g) (place_of (λ g. g.var == v) gates)
    ∙ is_some-place (λ (g : And). g.var == v) gates
    ∙ sym (list_any-map (λ (y : ℕ). y == v) (λ (g : And). g.var) gates)
  where
    gates : List And
    gates = (circuit_of net side).gates

-- the positions of two gates tell which one stands before the other
pub earlier-position : (net : AigPair) (side : Side) (v w : ℕ)
    → is_before (position_of net (Gate side w)) (position_of net (Gate side v))
    ≡ has ◌==◌ (gate_vars (gates_before (circuit_of net side) (Some v))) w
earlier-position net side v w =
    rw (sym (position-gate net side w), sym (position-gate net side v))
    (is_before-shift (λ g. first_gate net side + g) (less-shift (first_gate net side)) (place w) (place v)
    ∙ sym (before-place (circuit_of net side).gates v w))
  where
    place : ℕ → Option ℕ
    place u = place_of (λ g. g.var == u) (circuit_of net side).gates

-- ---- literals

has-parts : (xs ys : List ℕ) (v : ℕ) → has ◌==◌ (xs ++ ys) v ≡ (has ◌==◌ xs v || has ◌==◌ ys v)
has-parts xs ys v = list_any-append (λ (y : ℕ). y == v) xs ys

-- what a gate is asked, and true for any other node
abbrev pub asked : Node → (ℕ → Bool) → Bool
asked (Gate side w) test = test w
asked Const test = true
asked (Input k) test = true
asked (Xor j) test = true

-- the constant and the inputs are earlier than any gate
pub earlier-node : (side : Side) (c : Aig) (place : Option ℕ) (lit : ℕ)
    → is_earlier c place lit ≡ asked (lit_named side c lit).node (λ w. has ◌==◌ (gate_vars (gates_before c place)) w)
earlier-node side c place lit = go (v == 0) (eq_swap 0 v)
  where
    v : ℕ
    v = var_of lit

    gates : ℕ → Bool
    gates w = has ◌==◌ (gate_vars (gates_before c place)) w

    input : (o : Option ℕ) → is_some o ≡ has ◌==◌ c.inputs v
        → (has ◌==◌ c.inputs v || gates v) ≡ asked (option_map_or Input o (Gate side v)) gates
    input (Some k) e = rw (sym e) refl
    input None e = rw (sym e) refl

    go : (b : Bool) → (0 == v) ≡ b
        → ((0 == v) || has ◌==◌ (c.inputs ++ gate_vars (gates_before c place)) v)
        ≡ asked (cond b Const (option_map_or Input (place_of (λ x. x == v) c.inputs) (Gate side v))) gates
    go true e = rw e refl
    go false e =
        rw e
        (has-parts c.inputs (gate_vars (gates_before c place)) v
        ∙ input (place_of (λ x. x == v) c.inputs) (is_some-place (λ (x : ℕ). x == v) c.inputs))

before-none : (test : And → Bool) (gates : List And) (v : ℕ) → has ◌==◌ (gate_vars gates) v ≡ false
    → has ◌==◌ (gate_vars (before test gates)) v ≡ false
before-none test [] v e = refl
before-none test (x ∷ xs) v e = go (test x) (before-none test xs v)
  where
    parts : ((x.var == v) ≡ false) × (has ◌==◌ (gate_vars xs) v ≡ false)
    parts = or_parts (x.var == v) (has ◌==◌ (gate_vars xs) v) e

    go : (b : Bool) → (has ◌==◌ (gate_vars xs) v ≡ false → has ◌==◌ (gate_vars (before test xs)) v ≡ false)
        → has ◌==◌ (gate_vars (cond b [] (x ∷ before test xs))) v ≡ false
    go true rest = refl
    go false rest = rw parts.0 (rest parts.1)

gates_before-none : (c : Aig) (place : Option ℕ) (v : ℕ) → has ◌==◌ (gate_vars c.gates) v ≡ false
    → has ◌==◌ (gate_vars (gates_before c place)) v ≡ false
gates_before-none c None v e = e
gates_before-none c (Some end) v e = before-none (λ g. g.var == end) c.gates v e

-- what isn't there isn't earlier
earlier-none : (c : Aig) (place : Option ℕ) (lit : ℕ) → is_over (variables_in c) lit ≡ false → is_earlier c place lit ≡ false
earlier-none c place lit e =
    rw (first.0, has-parts c.inputs (gate_vars (gates_before c place)) v, rest.0)
    (gates_before-none c place v rest.1)
  where
    v : ℕ
    v = var_of lit

    first : ((0 == v) ≡ false) × (has ◌==◌ (c.inputs ++ gate_vars c.gates) v ≡ false)
    first = or_parts (0 == v) (has ◌==◌ (c.inputs ++ gate_vars c.gates) v) e

    rest : (has ◌==◌ c.inputs v ≡ false) × (has ◌==◌ (gate_vars c.gates) v ≡ false)
    rest = or_parts (has ◌==◌ c.inputs v) (has ◌==◌ (gate_vars c.gates) v) (sym (has-parts c.inputs (gate_vars c.gates) v) ∙ first.1)

only_false : (b : Bool) (l : Lit) → ◌≡◌ {A = Option Lit} (cond b (Some l) None) None → b ≡ false
only_false true l e = cc
only_false false l e = refl

only_some : (b : Bool) (l m : Lit) → cond b (Some l) None ≡ Some m → l ≡ m
only_some true l m e = cc
only_some false l m e = cc

-- a literal that the circuit hasn't
pub earlier-missing : (net : AigPair) (side : Side) (place : Option ℕ) (lit : ℕ) → ◌≡◌ {A = Option Lit} (lit_of net side lit) None
    → is_earlier (circuit_of net side) place lit ≡ false
earlier-missing net side place lit e =
    earlier-none (circuit_of net side) place lit
    (only_false (is_over (variables_in (circuit_of net side)) lit) (lit_named side (circuit_of net side) lit) e)

-- a literal by its node
pub earlier-found : (net : AigPair) (side : Side) (place : Option ℕ) (lit : ℕ) (found : Lit) → lit_of net side lit ≡ Some found
    → is_earlier (circuit_of net side) place lit
    ≡ asked found.node (λ w. has ◌==◌ (gate_vars (gates_before (circuit_of net side) place)) w)
earlier-found net side place lit found e =
    earlier-node side c place lit
    ∙ ap (λ (l : Lit). asked l.node (λ w. has ◌==◌ (gate_vars (gates_before c place)) w))
    (only_some (is_over (variables_in c) lit) (lit_named side c lit) found e)
  where
    c : Aig
    c = circuit_of net side

pub earlier-gate : (net : AigPair) (side : Side) (place : Option ℕ) (lit : ℕ) (found : Lit) (other : Side) (v : ℕ)
    → lit_of net side lit ≡ Some found → found.node ≡ Gate other v
    → is_earlier (circuit_of net side) place lit ≡ has ◌==◌ (gate_vars (gates_before (circuit_of net side) place)) v
earlier-gate net side place lit found other v e n =
    earlier-found net side place lit found e
    ∙ ap (λ (m : Node). asked m (λ w. has ◌==◌ (gate_vars (gates_before (circuit_of net side) place)) w)) n

pub earlier-other : (net : AigPair) (side : Side) (place : Option ℕ) (lit : ℕ) (found : Lit) → lit_of net side lit ≡ Some found
    → ((other : Side) (v : ℕ) → found.node ≡ Gate other v → ⊥) → is_earlier (circuit_of net side) place lit ≡ true
earlier-other net side place lit found e apart = earlier-found net side place lit found e ∙ go found.node apart
  where
    go : (n : Node) → ((other : Side) (v : ℕ) → n ≡ Gate other v → ⊥)
        → asked n (λ w. has ◌==◌ (gate_vars (gates_before (circuit_of net side) place)) w) ≡ true
    go Const a = refl
    go (Input k) a = refl
    go (Gate other v) a = absurd (a other v refl)
    go (Xor j) a = refl
