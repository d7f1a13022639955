-- The gates of a circuit give their values one after another.
use Rattle.std.proofs.Common.{◌≡◌, ◌≢◌, ℕ, zero, suc, ◌+◌, ◌<◌, Bool, true, false, cond, Option, None, Some, List, [], ◌∷◌, ◌++◌, length, take, drop, get_or, refl, sym, ap, ◌∙◌, subst, arith, length-take}
use Rattle.std.specs.Prelude.{◌==◌, ◌&&◌, ◌||◌, slice_set, slice_get}
use Rattle.std.specs.List.{slice_index_or}
use Rattle.std.specs.Option.{option_map_or, is_some}
use Rattle.std.proofs.Common.{get_or-set_same, get_or-set_other}
use Rattle.std.proofs.Math.Seq.{split_at, take-length}
use Rattle.std.proofs.lemmas.Option.{none-some, get_or_from_slice_get}
use Rattle.std.proofs.lemmas.List.{append_assoc, append-nil, map-append, take_more, take-append-drop}
use Rattle.std.proofs.lemmas.List.Folds.{list_any-append}
use Rattle.std.proofs.lemmas.Bool.Decides.{nat_tests}
use Rattle.std.proofs.lemmas.Bool.{or_parts, not-true, and_parts}
use Rattle.std.proofs.Math.Bool.{or-false, or_assoc}
use Rattle.lits.specs.Clause.{has, no_repeat}
use Rattle.netlist.specs.declared.gate.And.{And}
use Rattle.netlist.specs.declared.gate.Source.{Source}
use Rattle.netlist.specs.declared.gate.Source.TheVariants.{Constant, Input, Gate}
use Rattle.netlist.specs.Place.{place_of}
use Rattle.netlist.specs.Circuit.{Aig, IsCircuit, IsNext, AreOrdered, variables_in, gate_vars, var_of, is_over, lit_value, put, run, given, value_in}
use Rattle.netlist.specs.Source.{input_or, source_of, value_at, read_in, IsComputed}
use Rattle.netlist.proofs.PlaceLemmas.{place_of-append, place_none, is_some-place, at_place}
use Rattle.netlist.proofs.VariableLemmas.{variables, new_gate, vars_more, list_any-vars}
use Rattle.netlist.proofs.RunValues.{lit_value-same}

pub run-append : (xs ys : List And) (v : ℕ → Bool) → run (xs ++ ys) v ≡ run ys (run xs v)
run-append [] ys v = refl
run-append (x ∷ xs) ys v = run-append xs ys (put v x.var (lit_value v x.left && lit_value v x.right))

-- one gate more
pub run-more : (gates : List And) (i : ℕ) (d : And) (v : ℕ → Bool) → i < length gates
    → run (take (i + 1) gates) v
    ≡ put (run (take i gates) v) (get_or gates i d).var
    (lit_value (run (take i gates) v) (get_or gates i d).left && lit_value (run (take i gates) v) (get_or gates i d).right)
run-more gates i d v l =
    ap (λ (gs : List And). run gs v) (take_more gates i d l) ∙ run-append (take i gates) (get_or gates i d ∷ []) v

-- the middle one of three comes first
pub or_move : (a b c : Bool) → ((a || b) || c) ≡ (b || (a || c))
or_move true true c = refl
or_move true false c = refl
or_move false true c = refl
or_move false false c = refl

-- each gate comes next where the earlier gates' variables are known too
pub next_at : (known : List ℕ) (gates : List And) (i : ℕ) (d : And) → AreOrdered known gates → i < length gates
    → (now : List ℕ) × (IsNext now (get_or gates i d)) × ((v : ℕ) → has ◌==◌ now v ≡ (has ◌==◌ known v || has ◌==◌ (gate_vars (take i gates)) v))
next_at known [] i d ordered l = absurd (omega arith)
next_at known (g ∷ gs) zero d ordered l = (known, ordered.0, λ v. sym (or-false (has ◌==◌ known v)))
next_at known (g ∷ gs) (suc i) d ordered l =
    let rest = next_at (g.var ∷ known) gs i d ordered.1 (omega arith) in
    (rest.0, rest.1, λ v. rest.2 v ∙ or_move (g.var == v) (has ◌==◌ known v) (has ◌==◌ (gate_vars (take i gs)) v))

has-known : (c : Aig) (i v : ℕ) → (has ◌==◌ (0 ∷ c.inputs) v || has ◌==◌ (gate_vars (take i c.gates)) v)
    ≡ has ◌==◌ (0 ∷ (c.inputs ++ gate_vars (take i c.gates))) v
has-known c i v =
    or_assoc (0 == v) (has ◌==◌ c.inputs v) (has ◌==◌ (gate_vars (take i c.gates)) v)
    ∙ ap (λ (b : Bool). (0 == v) || b) (sym (list_any-append (λ x. x == v) c.inputs (gate_vars (take i c.gates))))

-- the fanins of gate i are over what is known before it
pub fanins_known : (c : Aig) (i : ℕ) (d : And) → IsCircuit c → i < length c.gates
    → (has ◌==◌ (0 ∷ (c.inputs ++ gate_vars (take i c.gates))) (var_of (get_or c.gates i d).left) ≡ true)
    × (has ◌==◌ (0 ∷ (c.inputs ++ gate_vars (take i c.gates))) (var_of (get_or c.gates i d).right) ≡ true)
fanins_known c i d circuit l =
    let found = next_at (0 ∷ c.inputs) c.gates i d circuit.gates l in
    let over = λ (v : ℕ). sym (has-known c i v) ∙ sym (found.2 v) in
    (over (var_of (get_or c.gates i d).left) ∙ found.1.left, over (var_of (get_or c.gates i d).right) ∙ found.1.right)

-- what is known before a gate is known
known_all : (c : Aig) (i v : ℕ) → has ◌==◌ (0 ∷ (c.inputs ++ gate_vars (take i c.gates))) v ≡ true → has ◌==◌ (variables_in c) v ≡ true
known_all c i v e =
    let whole : gate_vars (take i c.gates) ++ gate_vars (drop i c.gates) ≡ gate_vars c.gates =
    sym (map-append (λ g. g.var) (take i c.gates) (drop i c.gates)) ∙ ap gate_vars (take-append-drop i c.gates) in
    let all : (0 ∷ (c.inputs ++ gate_vars (take i c.gates))) ++ gate_vars (drop i c.gates) ≡ variables_in c =
    ap (λ (vs : List ℕ). 0 ∷ vs) (append_assoc c.inputs (gate_vars (take i c.gates)) (gate_vars (drop i c.gates)) ∙ ap (λ (vs : List ℕ). c.inputs ++ vs) whole) in
    subst (λ (vs : List ℕ). has ◌==◌ vs v ≡ true) all
    (list_any-append (λ x. x == v) (0 ∷ (c.inputs ++ gate_vars (take i c.gates))) (gate_vars (drop i c.gates)) ∙ rw e refl)

-- a gate's fanins are variables of the circuit
pub fanins_over : (c : Aig) (i : ℕ) (d : And) → IsCircuit c → i < length c.gates
    → (is_over (variables_in c) (get_or c.gates i d).left ≡ true) × (is_over (variables_in c) (get_or c.gates i d).right ≡ true)
fanins_over c i d circuit l =
    let known = fanins_known c i d circuit l in
    (known_all c i (var_of (get_or c.gates i d).left) known.0, known_all c i (var_of (get_or c.gates i d).right) known.1)

-- the place of a gate by its variable
pub place-gate : (c : Aig) (i : ℕ) (d : And) → IsCircuit c → i < length c.gates
    → place_of (λ g. g.var == (get_or c.gates i d).var) c.gates ≡ Some i
place-gate c i d circuit l =
    let v : ℕ = (get_or c.gates i d).var in
    let new = new_gate c.inputs c.gates i d (variables c circuit) l in
    let later = or_parts (has ◌==◌ (0 ∷ c.inputs) v) (has ◌==◌ (gate_vars (take i c.gates)) v) (has-known c i v ∙ new) in
    let none = place_none (λ g. g.var == v) (take i c.gates) (sym (list_any-vars (take i c.gates) v) ∙ later.1) in
    let here : (v == v) ≡ true = grind (arith, nat_tests) in
    let len : length (take i c.gates) + 0 ≡ i = omega (arith, length-take i c.gates) in
    ap (place_of (λ g. g.var == v)) (split_at c.gates i d l)
    ∙ place_of-append (λ g. g.var == v) (take i c.gates) (get_or c.gates i d ∷ drop (suc i) c.gates)
    ∙ rw (none, here, len) refl

-- the source of a gate's variable is the gate
pub source-gate : (c : Aig) (i : ℕ) (d : And) → IsCircuit c → i < length c.gates → source_of c (get_or c.gates i d).var ≡ Some (Gate i)
source-gate c i d circuit l =
    let v : ℕ = (get_or c.gates i d).var in
    let new = new_gate c.inputs c.gates i d (variables c circuit) l in
    let early = or_parts (has ◌==◌ (0 ∷ c.inputs) v) (has ◌==◌ (gate_vars (take i c.gates)) v) (has-known c i v ∙ new) in
    let both = or_parts (0 == v) (has ◌==◌ c.inputs v) early.0 in
    let above : (v == 0) ≡ false = grind (arith, nat_tests, both.0) in
    let none = place_none (λ x. x == v) c.inputs both.1 in
    rw (above, none, place-gate c i d circuit l) refl

-- a variable whose source is a gate is the gate's
gate-source : (c : Aig) (v i : ℕ) (d : And) → source_of c v ≡ Some (Gate i) → (get_or c.gates i d).var ≡ v
gate-source c v i d e = go (v == 0) (place_of (λ x. x == v) c.inputs) (place_of (λ g. g.var == v) c.gates) e (λ k. at_place (λ g. g.var == v) c.gates k)
  where
    go : (b : Bool) (inputs gates : Option ℕ) → cond b (Some Constant) (input_or inputs gates) ≡ Some (Gate i)
        → ((k : ℕ) → gates ≡ Some k → (g : And) × (slice_get c.gates k ≡ Some g) × ((g.var == v) ≡ true))
        → (get_or c.gates i d).var ≡ v
    go true inputs gates e found = cc
    go false (Some k) gates e found = cc
    go false None None e found = cc
    go false None (Some k) e found =
        let same : k ≡ i = cc in
        let here = found k refl in
        let read : get_or c.gates i d ≡ here.0 = subst (λ (n : ℕ). get_or c.gates n d ≡ here.0) same (get_or_from_slice_get c.gates k here.0 d here.1) in
        let is : here.0.var ≡ v = grind (arith, nat_tests, here.2) in
        ap (λ (g : And). g.var) read ∙ is

-- a written gate changes only what reads it
read-other : (inputs gates : List Bool) (i : ℕ) (x : Bool) (s : Option Source) → s ≢ Some (Gate i)
    → value_at inputs (slice_set gates i x) s ≡ value_at inputs gates s
read-other inputs gates i x None apart = refl
read-other inputs gates i x (Some Constant) apart = refl
read-other inputs gates i x (Some (Input k)) apart = refl
read-other inputs gates i x (Some (Gate g)) apart = get_or-set_other gates i g x false (λ e. apart (ap (λ (n : ℕ). Some (Gate n)) e))

-- before any gate only inputs have values
pub computed_none : (c : Aig) (inputs gates : List Bool) → IsCircuit c → IsComputed c inputs gates []
computed_none c inputs gates circuit = record { known = λ v e. go v (v == 0) refl (place_of (λ x. x == v) c.inputs) refl e }
  where
    constant : place_of (λ x. x == 0) c.inputs ≡ None
    constant = place_none (λ x. x == 0) c.inputs (not-true (has ◌==◌ c.inputs 0) (and_parts _ (no_repeat ◌==◌ c.inputs) circuit.inputs).0)

    go : (v : ℕ) (b : Bool) → (v == 0) ≡ b → (o : Option ℕ) → place_of (λ x. x == v) c.inputs ≡ o
        → has ◌==◌ (0 ∷ (c.inputs ++ [])) v ≡ true
        → value_at inputs gates (cond b (Some Constant) (input_or o (place_of (λ g. g.var == v) c.gates))) ≡ option_map_or (λ k. slice_index_or inputs k false) o false
    go v true t None f e = refl
    go v true t (Some k) f e =
        let zero : v ≡ 0 = grind (arith, nat_tests, t) in
        let none = subst (λ (n : ℕ). place_of (λ x. x == n) c.inputs ≡ None) (sym zero) constant in
        absurd (none-some k (sym none ∙ f))
    go v false t (Some k) f e = refl
    go v false t None f e =
        let above : (0 == v) ≡ false = grind (arith, nat_tests, t) in
        let out : has ◌==◌ c.inputs v ≡ false = sym (is_some-place (λ x. x == v) c.inputs) ∙ ap is_some f in
        let all : has ◌==◌ (0 ∷ (c.inputs ++ [])) v ≡ false = rw (above, append-nil c.inputs) out in
        cc

-- what is known, but for the last variable
shrink : (xs : List ℕ) (y v : ℕ) → (y == v) ≡ false → has ◌==◌ (0 ∷ (xs ++ y ∷ [])) v ≡ true → has ◌==◌ (0 ∷ xs) v ≡ true
shrink xs y v apart e =
    let parts : has ◌==◌ (xs ++ y ∷ []) v ≡ (has ◌==◌ xs v || ((y == v) || false)) = list_any-append (λ x. x == v) xs (y ∷ []) in
    let last : has ◌==◌ (xs ++ y ∷ []) v ≡ has ◌==◌ xs v = parts ∙ ap (λ (b : Bool). has ◌==◌ xs v || (b || false)) apart ∙ or-false (has ◌==◌ xs v) in
    ap (λ (b : Bool). (0 == v) || b) (sym last) ∙ e

-- one gate more is computed
pub computed_more : (c : Aig) (inputs gates : List Bool) (i : ℕ) (d : And) (x : Bool) → IsCircuit c → i < length c.gates → i < length gates
    → IsComputed c inputs gates (take i c.gates)
    → x ≡ (lit_value (read_in c inputs gates) (get_or c.gates i d).left && lit_value (read_in c inputs gates) (get_or c.gates i d).right)
    → IsComputed c inputs (slice_set gates i x) (take (i + 1) c.gates)
computed_more c inputs gates i d x circuit l room old is = record { known = λ v e. go v (v == g.var) refl e }
  where
    g : And
    g = get_or c.gates i d

    now : ℕ → Bool
    now = run (take i c.gates) (given c.inputs inputs)

    fanins : (has ◌==◌ (0 ∷ (c.inputs ++ gate_vars (take i c.gates))) (var_of g.left) ≡ true)
        × (has ◌==◌ (0 ∷ (c.inputs ++ gate_vars (take i c.gates))) (var_of g.right) ≡ true)
    fanins = fanins_known c i d circuit l

    value : x ≡ (lit_value now g.left && lit_value now g.right)
    value = is
        ∙ ap (λ (b : Bool). b && lit_value (read_in c inputs gates) g.right) (lit_value-same (read_in c inputs gates) now g.left (old.known (var_of g.left) fanins.0))
        ∙ ap (λ (b : Bool). lit_value now g.left && b) (lit_value-same (read_in c inputs gates) now g.right (old.known (var_of g.right) fanins.1))

    next : (v : ℕ) → run (take (i + 1) c.gates) (given c.inputs inputs) v ≡ cond (v == g.var) (lit_value now g.left && lit_value now g.right) (now v)
    next v = ap (λ (f : ℕ → Bool). f v) (run-more c.gates i d (given c.inputs inputs) l)

    go : (v : ℕ) (b : Bool) → (v == g.var) ≡ b → has ◌==◌ (0 ∷ (c.inputs ++ gate_vars (take (i + 1) c.gates))) v ≡ true
        → read_in c inputs (slice_set gates i x) v ≡ run (take (i + 1) c.gates) (given c.inputs inputs) v
    go v true t e =
        let same : g.var ≡ v = grind (arith, nat_tests, t) in
        let source : source_of c v ≡ Some (Gate i) = subst (λ (n : ℕ). source_of c n ≡ Some (Gate i)) same (source-gate c i d circuit l) in
        ap (value_at inputs (slice_set gates i x)) source ∙ get_or-set_same gates i x false room ∙ value ∙ sym (next v ∙ rw t refl)
    go v false f e =
        let other : source_of c v ≢ Some (Gate i) = λ s. (let same : g.var ≡ v = gate-source c v i d s in let t : (v == g.var) ≡ true = grind (arith, nat_tests, same) in none_true t f) in
        let here : (g.var == v) ≡ false = grind (arith, nat_tests, f) in
        let more : has ◌==◌ (0 ∷ ((c.inputs ++ gate_vars (take i c.gates)) ++ g.var ∷ [])) v ≡ true =
        subst (λ (vs : List ℕ). has ◌==◌ (0 ∷ vs) v ≡ true) (sym (vars_more c.inputs c.gates i d l)) e in
        let before : has ◌==◌ (0 ∷ (c.inputs ++ gate_vars (take i c.gates))) v ≡ true =
        shrink (c.inputs ++ gate_vars (take i c.gates)) g.var v here more in
        read-other inputs gates i x (source_of c v) other ∙ old.known v before ∙ sym (next v ∙ rw f refl)
      where
        none_true : {b : Bool} → b ≡ true → b ≡ false → ⊥
        none_true p q = cc

-- once all gates are computed, each literal has its value
pub computed_all : (c : Aig) (inputs gates : List Bool) (i lit : ℕ) → length c.gates ≡ i → IsComputed c inputs gates (take i c.gates)
    → has ◌==◌ (variables_in c) (var_of lit) ≡ true → lit_value (read_in c inputs gates) lit ≡ value_in c inputs lit
computed_all c inputs gates i lit l all e =
    let whole : take i c.gates ≡ c.gates = subst (λ (n : ℕ). take n c.gates ≡ c.gates) l (take-length c.gates) in
    let known = subst (λ (gs : List And). IsComputed c inputs gates gs) whole all in
    lit_value-same (read_in c inputs gates) (run c.gates (given c.inputs inputs)) lit (known.known (var_of lit) e)
