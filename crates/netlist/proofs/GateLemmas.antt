-- What stands at the position of a gate: the AND of its fanins' values; its fanins stand earlier.
use Rattle.std.proofs.Common.{◌≡◌, ◌∙◌, ℕ, zero, suc, ◌+◌, ◌-◌, ◌<◌, ◌≤◌, Bool, true, false, ◌&&◌, ◌||◌, Option, None, Some, List, [], ◌∷◌, ◌++◌, length, map, take, get_or, find, refl, sym, ap, ap₂, subst, arith, add-one, inl, inr, if◌then◌else◌, not}
use Rattle.std.specs.Prelude.{◌==◌, nat_lt, slice_get}
use Rattle.std.specs.Option.{option_map, option_map_or, unwrap_or}
use Rattle.std.specs.List.{list_any, range_with_len}
use Rattle.std.proofs.lemmas.Bool.{cases_lt, or_parts}
use Rattle.std.proofs.lemmas.List.{get_or_append_left}
use Rattle.std.proofs.lemmas.List.FromFn.{length-map-range_with_len, get_or-map-range_with_len}
use Rattle.std.proofs.lemmas.Bool.Decides.{nat_tests}
use Rattle.std.proofs.lemmas.List.{length-map}
use Rattle.std.proofs.lemmas.List.Folds.{list_any-append}
use Rattle.std.proofs.lemmas.Option.{none-some, same_Some, slice_get-map, slice_get_within, get_or_from_slice_get}
use Rattle.lits.specs.Clause.{has}
use Rattle.lits.specs.Same.{same_node}
use Rattle.lits.specs.declared.node.Side.{Side}
use Rattle.lits.specs.declared.node.Side.TheVariants.{A, B}
use Rattle.lits.specs.declared.node.Node.{Node}
use Rattle.lits.specs.declared.node.Node.TheVariants.{Const, Input, Gate}
use Rattle.lits.specs.declared.literal.Lit.{Lit}
use Rattle.lits.proofs.Facts.{exact-node, all-slice_get}
use Rattle.netlist.specs.declared.gate.And.{And}
use Rattle.netlist.specs.declared.gate.Definition.{Definition}
use Rattle.netlist.specs.declared.gate.Fanins.{Fanins}
use Rattle.netlist.specs.Place.{place_of}
use Rattle.netlist.specs.Pair.{first_gate}
use Rattle.netlist.specs.Circuit.{Aig, IsCircuit, gate_vars, var_of}
use Rattle.netlist.specs.Net.{AigPair, IsNet, circuit_of, node_of, lit_named, definition_of, definitions, defined_by, gate_at, nodes_of, node_at, position_of, placed, fanins_of, fanins_at, all_fanins, value_of}
use Rattle.netlist.proofs.PlaceLemmas.{slice_get-left, slice_get-right}
use Rattle.netlist.proofs.VariableLemmas.{list_any-vars, new_gate, variables}
use Rattle.netlist.proofs.RunLemmas.{fanins_known}
use Rattle.netlist.proofs.SameNodes.{same-number, other-number, at-place, place_from_any}
use Rattle.netlist.proofs.RunValues.{all-found}
use Rattle.netlist.proofs.NodeValues.{is_circuit, value-gate}
use Rattle.netlist.proofs.NodesThere.{length-inputs, or_last}
use Rattle.netlist.proofs.NetLemmas.{length-nodes, length-definitions, behind_inputs, position_of-input, position-gate}

-- an element that passes among the first j has a place before j
place-take : {X : Type 0} (test : X → Bool) (xs : List X) (j : ℕ) → list_any test (take j xs) ≡ true
    → (i : ℕ) × (i < j) × (place_of test xs ≡ Some i)
place-take test [] zero h = cc
place-take test [] (suc j) h = cc
place-take test (x ∷ xs) zero h = cc
place-take test (x ∷ xs) (suc j) h = go (test x) refl (place-take test xs j)
  where
    go : (b : Bool) → test x ≡ b → (list_any test (take j xs) ≡ true → (i : ℕ) × (i < j) × (place_of test xs ≡ Some i))
        → (i : ℕ) × (i < suc j) × (place_of test (x ∷ xs) ≡ Some i)
    go true e rest = (0, omega arith, rw e refl)
    go false e rest = let r = rest (rw e at h) in (r.0 + 1, omega (arith, r.1), rw (e, r.2) refl)

-- the node at the position of a node is that node
pub node-at : (net : AigPair) (n : Node) (p : ℕ) → position_of net n ≡ Some p → node_at net p ≡ n
node-at net n p e =
    let r = at-place (λ m. same_node m n) (nodes_of net) p e in
    get_or_from_slice_get (nodes_of net) p r.0 Const r.1 ∙ exact-node r.0 n r.2

-- the literal's node stands before the position
record IsEarlier (net : AigPair) (l : Lit) (position : ℕ) : Type 0 where
  below : (placed net l).position < position
  node : node_at net (placed net l).position ≡ l.node

module _ (net : AigPair) (is : IsNet net) (s : Side) (j : ℕ) where
  abbrev c : Aig
  c = circuit_of net s

  -- a variable that is known before gate j names a node that stands before it
  earlier : (x : ℕ) → has ◌==◌ (0 ∷ (c.inputs ++ gate_vars (take j c.gates))) x ≡ true
      → (p : ℕ) × (position_of net (node_of s c x) ≡ Some p) × (p < first_gate net s + j)
  earlier x known = go (x == 0) refl
    where
      rest : Option ℕ → Node
      rest o = option_map_or Input o (Gate s x)

      positive : (t : Side) → 1 + length net.a.inputs ≤ first_gate net t
      positive A = omega arith
      positive B = omega arith

      behind : (o : Option ℕ) → place_of (λ y. y == x) c.inputs ≡ o → (0 == x) ≡ false
          → (p : ℕ) × (position_of net (rest o) ≡ Some p) × (p < first_gate net s + j)
      behind (Some k) e far =
          let within : k < length c.inputs = (at-place (λ y. y == x) c.inputs k e).3 in
          let same : length c.inputs ≡ length net.a.inputs = length-inputs net is s in
          let t : nat_lt k (length net.a.inputs) ≡ true = grind (arith, nat_tests, within, same) in
          (k + 1, position_of-input net k ∙ rw t refl, omega (arith, positive s))
      behind None e far =
          let r = place-take (λ g. g.var == x) c.gates j (gate (list_any (λ y. y == x) c.inputs) refl) in
          (first_gate net s + r.0, sym (position-gate net s x) ∙ rw r.2 refl, omega (arith, r.1))
        where
          gate : (b : Bool) → list_any (λ y. y == x) c.inputs ≡ b → list_any (λ g. g.var == x) (take j c.gates) ≡ true
          gate true f = let p = place_from_any (λ y. y == x) c.inputs f in absurd (none-some p.0 (sym e ∙ p.1))
          gate false f =
              or_last (0 == x) (list_any (λ y. y == x) c.inputs) (list_any (λ g. g.var == x) (take j c.gates))
              (ap (λ (b : Bool). 0 == x || b) (sym (list_any-append (λ y. y == x) c.inputs (gate_vars (take j c.gates))
              ∙ ap (λ (b : Bool). list_any (λ y. y == x) c.inputs || b) (list_any-vars (take j c.gates) x))) ∙ known) far f

      go : (b : Bool) → (x == 0) ≡ b → (p : ℕ) × (position_of net (node_of s c x) ≡ Some p) × (p < first_gate net s + j)
      go true e = (0, ap (λ (b : Bool). position_of net (if b then Const else rest (place_of (λ y. y == x) c.inputs))) e, omega (arith, positive s))
      go false e =
          let r = behind (place_of (λ y. y == x) c.inputs) refl (other-number x 0 e) in
          (r.0, ap (λ (b : Bool). position_of net (if b then Const else rest (place_of (λ y. y == x) c.inputs))) e ∙ r.1, r.2)

  is-earlier : (lit : ℕ) → has ◌==◌ (0 ∷ (c.inputs ++ gate_vars (take j c.gates))) (var_of lit) ≡ true
      → IsEarlier net (lit_named s c lit) (first_gate net s + j)
  is-earlier lit known =
      let r = earlier (var_of lit) known in
      let place : (placed net (lit_named s c lit)).position ≡ r.0 = ap (λ (o : Option ℕ). unwrap_or o 0) r.1 in
      record {
        below = omega (arith, place, r.2);
        node = ap (node_at net) place ∙ node-at net (node_of s c (var_of lit)) r.0 r.1;
      }

-- the value of a placed literal, where v gives each position's value
abbrev pub placed_value : (ℕ → Bool) → Fanins → Bool
placed_value v f =
    (if f.left.neg then not (v f.left.position) else v f.left.position)
    && (if f.right.neg then not (v f.right.position) else v f.right.position)

-- the fanins stand before the position, and the node there is the AND of them
pub record IsGateAt (net : AigPair) (position : ℕ) (f : Fanins) : Type 0 where
  pub left : f.left.position < position
  pub right : f.right.position < position
  pub value : (bits : List Bool)
      → value_of net bits (node_at net position) ≡ placed_value (λ p. value_of net bits (node_at net p)) f

module _ (net : AigPair) (is : IsNet net) where
  -- what defines gate j of a side, and that its fanins' nodes have lower positions
  pub gate-definition : (s : Side) (j : ℕ) (g : And) → slice_get (circuit_of net s).gates j ≡ Some g
      → (defined_by net (Gate s g.var) ≡ Some (definition_of s (circuit_of net s) g))
      × ((p : ℕ) × (position_of net (node_of s (circuit_of net s) (var_of g.left)) ≡ Some p) × (p < first_gate net s + j))
      × ((p : ℕ) × (position_of net (node_of s (circuit_of net s) (var_of g.right)) ≡ Some p) × (p < first_gate net s + j))
  gate-definition s j g e =
      let c = circuit_of net s in
      let inside : j < length c.gates = slice_get_within c.gates j g e in
      let here : get_or c.gates j g ≡ g = get_or_from_slice_get c.gates j g g e in
      let known = fanins_known c j g (is_circuit net is s) inside in
      let found : gate_at net s g.var ≡ Some g = all-slice_get (λ h. find (λ i. i.var == h.var) c.gates ≡ Some h) c.gates j g (all-found (0 ∷ c.inputs) c.gates (is_circuit net is s).gates) e in (
        ap (option_map (definition_of s c)) found,
        earlier net is s j (var_of g.left) (subst (λ (h : And). has ◌==◌ (0 ∷ (c.inputs ++ gate_vars (take j c.gates))) (var_of h.left) ≡ true) here known.0),
        earlier net is s j (var_of g.right) (subst (λ (h : And). has ◌==◌ (0 ∷ (c.inputs ++ gate_vars (take j c.gates))) (var_of h.right) ≡ true) here known.1),
      )

  gate-of : (s : Side) (j : ℕ) (g : And) → slice_get (circuit_of net s).gates j ≡ Some g
      → slice_get (nodes_of net) (first_gate net s + j) ≡ Some (Gate s g.var)
      → IsGateAt net (first_gate net s + j) (fanins_of net (definition_of s (circuit_of net s) g))
  gate-of s j g e at =
      let c = circuit_of net s in
      let inside : j < length c.gates = slice_get_within c.gates j g e in
      let here : get_or c.gates j g ≡ g = get_or_from_slice_get c.gates j g g e in
      let known = fanins_known c j g (is_circuit net is s) inside in
      let one = is-earlier net is s j g.left (subst (λ (h : And). has ◌==◌ (0 ∷ (c.inputs ++ gate_vars (take j c.gates))) (var_of h.left) ≡ true) here known.0) in
      let two = is-earlier net is s j g.right (subst (λ (h : And). has ◌==◌ (0 ∷ (c.inputs ++ gate_vars (take j c.gates))) (var_of h.right) ≡ true) here known.1) in
      let found : gate_at net s g.var ≡ Some g = all-slice_get (λ h. find (λ i. i.var == h.var) c.gates ≡ Some h) c.gates j g (all-found (0 ∷ c.inputs) c.gates (is_circuit net is s).gates) e in
      record {
        left = one.below;
        right = two.below;
        value = λ bits.
            ap (value_of net bits) (get_or_from_slice_get (nodes_of net) (first_gate net s + j) (Gate s g.var) Const at)
            ∙ value-gate net is bits s g.var g found
            ∙ ap₂ ◌&&◌
            (ap (λ (n : Node). if (lit_named s c g.left).neg then not (value_of net bits n) else value_of net bits n) (sym one.node))
            (ap (λ (n : Node). if (lit_named s c g.right).neg then not (value_of net bits n) else value_of net bits n) (sym two.node));
      }

  -- gate k, the gates counted from 0
  pub gate-at : (k : ℕ) (f : Fanins) → slice_get (all_fanins net) k ≡ Some f → IsGateAt net (1 + length net.a.inputs + k) f
  gate-at k f e = go (slice_get (definitions net) k) refl
    where
      first : List Definition
      first = map (definition_of A net.a) net.a.gates

      second : List Definition
      second = map (definition_of B net.b) net.b.gates

      same : (d : Definition) → slice_get (definitions net) k ≡ Some d → fanins_of net d ≡ f
      same d g = same_Some (fanins_of net d) f (sym (slice_get-map (fanins_of net) (definitions net) k ∙ ap (option_map (fanins_of net)) g) ∙ e)

      node : (d : Definition) → slice_get (definitions net) k ≡ Some d → slice_get (nodes_of net) (1 + length net.a.inputs + k) ≡ Some d.node
      node d g = behind_inputs net (1 + length net.a.inputs + k) k (omega arith) ∙ ap (option_map (λ h. h.node)) g

      at-side : (s : Side) (j : ℕ) (o : Option And) (d : Definition) → slice_get (circuit_of net s).gates j ≡ o
          → first_gate net s + j ≡ 1 + length net.a.inputs + k
          → option_map (definition_of s (circuit_of net s)) o ≡ Some d → slice_get (definitions net) k ≡ Some d
          → IsGateAt net (1 + length net.a.inputs + k) f
      at-side s j None d g place h there = absurd (none-some d h)
      at-side s j (Some a) d g place h there =
          let is_d : definition_of s (circuit_of net s) a ≡ d = same_Some (definition_of s (circuit_of net s) a) d h in
          let at : slice_get (nodes_of net) (first_gate net s + j) ≡ Some (Gate s a.var) =
          ap (slice_get (nodes_of net)) place ∙ node d there ∙ ap (λ (x : Definition). Some x.node) (sym is_d) in
          subst (λ (p : ℕ). IsGateAt net p f) place
          (subst (λ (x : Fanins). IsGateAt net (first_gate net s + j) x) (ap (fanins_of net) is_d ∙ same d there) (gate-of s j a g at))

      side : (d : Definition) → slice_get (definitions net) k ≡ Some d → (b : Bool) → nat_lt k (length net.a.gates) ≡ b
          → IsGateAt net (1 + length net.a.inputs + k) f
      side d g true t =
          let l : k < length net.a.gates = grind (arith, nat_tests, t) in
          let inside : k < length first = omega (arith, length-map net.a.gates (definition_of A net.a)) in
          at-side A k (slice_get net.a.gates k) d refl refl
          (sym (slice_get-map (definition_of A net.a) net.a.gates k) ∙ sym (slice_get-left first second k inside) ∙ g) g
      side d g false t =
          let l : length net.a.gates ≤ k = grind (arith, nat_tests, t) in
          let place : length first + (k - length net.a.gates) ≡ k = omega (arith, length-map net.a.gates (definition_of A net.a)) in
          at-side B (k - length net.a.gates) (slice_get net.b.gates (k - length net.a.gates)) d refl (omega arith)
          (sym (slice_get-map (definition_of B net.b) net.b.gates (k - length net.a.gates))
          ∙ sym (slice_get-right first second (k - length net.a.gates)) ∙ ap (slice_get (definitions net)) place ∙ g) g

      go : (o : Option Definition) → slice_get (definitions net) k ≡ o → IsGateAt net (1 + length net.a.inputs + k) f
      go None g =
          let none : None ≡ Some f = sym (slice_get-map (fanins_of net) (definitions net) k ∙ ap (option_map (fanins_of net)) g) ∙ e in
          absurd (none-some f none)
      go (Some d) g = side d g (nat_lt k (length net.a.gates)) refl

-- the fanins of gate k, read in the list of all
pub fanins_at-all : (net : AigPair) (k : ℕ) → slice_get (all_fanins net) k ≡ fanins_at net k
fanins_at-all net k = slice_get-map (fanins_of net) (definitions net) k

-- no element stands past the end
none-past : {X : Type 0} (xs : List X) (k : ℕ) → slice_get xs k ≡ None → length xs ≤ k
none-past [] k e = omega arith
none-past (x ∷ xs) zero e = absurd (none-some x (sym e))
none-past (x ∷ xs) (suc k) e = omega (arith, none-past xs k e)

-- the first that passes stands at the place, where it passes and none before it does
place-first : {X : Type 0} (test : X → Bool) (xs : List X) (j : ℕ) (x : X) → slice_get xs j ≡ Some x → test x ≡ true
    → list_any test (take j xs) ≡ false → place_of test xs ≡ Some j
place-first test [] j x e here none = absurd (none-some x e)
place-first test (y ∷ ys) zero x e here none = rw (ap test (same_Some y x e) ∙ here) refl
place-first test (y ∷ ys) (suc j) x e here none =
    let parts = or_parts (test y) (list_any test (take j ys)) none in
    rw (parts.0, place-first test ys j x e here parts.1) (ap Some (add-one j))

-- each gate is the first with its variable
gate-place : (c : Aig) → IsCircuit c → (j : ℕ) (g : And) → slice_get c.gates j ≡ Some g → place_of (λ h. h.var == g.var) c.gates ≡ Some j
gate-place c circuit j g e =
    let inside : j < length c.gates = slice_get_within c.gates j g e in
    let here : get_or c.gates j g ≡ g = get_or_from_slice_get c.gates j g g e in
    let new : has ◌==◌ (0 ∷ (c.inputs ++ gate_vars (take j c.gates))) g.var ≡ false =
    ap (λ (h : And). has ◌==◌ (0 ∷ (c.inputs ++ gate_vars (take j c.gates))) h.var) (sym here)
    ∙ new_gate c.inputs c.gates j g (variables c circuit) inside in
    let behind : (has ◌==◌ c.inputs g.var || has ◌==◌ (gate_vars (take j c.gates)) g.var) ≡ false =
    sym (list_any-append (λ x. x == g.var) c.inputs (gate_vars (take j c.gates)))
    ∙ (or_parts (0 == g.var) (has ◌==◌ (c.inputs ++ gate_vars (take j c.gates)) g.var) new).1 in
    place-first (λ h. h.var == g.var) c.gates j g e (same-number g.var)
    (sym (list_any-vars (take j c.gates) g.var) ∙ (or_parts (has ◌==◌ c.inputs g.var) (has ◌==◌ (gate_vars (take j c.gates)) g.var) behind).1)

-- the node at the place after an input's index is that input
pub node-input : (net : AigPair) (k : ℕ) → k < length net.a.inputs → node_at net (k + 1) ≡ Input k
node-input net k below =
    let inputs = map Input (range_with_len 0 (length net.a.inputs)) in
    ap (node_at net) (add-one k)
    ∙ get_or_append_left inputs (map (λ d. d.node) (definitions net)) Const k (omega (arith, length-map-range_with_len Input 0 (length net.a.inputs)))
    ∙ get_or-map-range_with_len Input 0 (length net.a.inputs) k k Const below (omega arith)

module _ (net : AigPair) (is : IsNet net) where
  position-side : (s : Side) (j : ℕ) (g : And) → slice_get (circuit_of net s).gates j ≡ Some g
      → position_of net (Gate s g.var) ≡ Some (first_gate net s + j)
  position-side s j g e = sym (position-gate net s g.var) ∙ rw (gate-place (circuit_of net s) (is_circuit net is s) j g e) refl

  -- gate k stands behind the inputs
  pub position-definition : (k : ℕ) (d : Definition) → slice_get (definitions net) k ≡ Some d
      → position_of net d.node ≡ Some (1 + length net.a.inputs + k)
  position-definition k d e = side (nat_lt k (length net.a.gates)) refl
    where
      first : List Definition
      first = map (definition_of A net.a) net.a.gates

      second : List Definition
      second = map (definition_of B net.b) net.b.gates

      at-side : (s : Side) (j : ℕ) (o : Option And) → slice_get (circuit_of net s).gates j ≡ o
          → option_map (definition_of s (circuit_of net s)) o ≡ Some d → first_gate net s + j ≡ 1 + length net.a.inputs + k
          → position_of net d.node ≡ Some (1 + length net.a.inputs + k)
      at-side s j None g h place = absurd (none-some d h)
      at-side s j (Some a) g h place =
          ap (λ (x : Definition). position_of net x.node) (sym (same_Some (definition_of s (circuit_of net s) a) d h))
          ∙ position-side s j a g ∙ ap Some place

      side : (b : Bool) → nat_lt k (length net.a.gates) ≡ b → position_of net d.node ≡ Some (1 + length net.a.inputs + k)
      side true t =
          let l : k < length net.a.gates = grind (arith, nat_tests, t) in
          let inside : k < length first = omega (arith, length-map net.a.gates (definition_of A net.a)) in
          at-side A k (slice_get net.a.gates k) refl
          (sym (slice_get-map (definition_of A net.a) net.a.gates k) ∙ sym (slice_get-left first second k inside) ∙ e) refl
      side false t =
          let l : length net.a.gates ≤ k = grind (arith, nat_tests, t) in
          let place : length first + (k - length net.a.gates) ≡ k = omega (arith, length-map net.a.gates (definition_of A net.a)) in
          at-side B (k - length net.a.gates) (slice_get net.b.gates (k - length net.a.gates)) refl
          (sym (slice_get-map (definition_of B net.b) net.b.gates (k - length net.a.gates))
          ∙ sym (slice_get-right first second (k - length net.a.gates)) ∙ ap (slice_get (definitions net)) place ∙ e) (omega arith)

  -- the node at a position has that position
  pub position-node : (p : ℕ) → p < length (nodes_of net) → position_of net (node_at net p) ≡ Some p
  position-node p below = elim (cases_lt p (1 + length net.a.inputs)) [
    | inl less ↦ front p less
    | inr more ↦
        let k = p - (1 + length net.a.inputs) in
        let inside : p - (1 + length net.a.inputs) < length (definitions net) = omega (arith, length-nodes net, length-definitions net) in
        let there : (o : Option Definition) → slice_get (definitions net) (p - (1 + length net.a.inputs)) ≡ o → position_of net (node_at net p) ≡ Some p =
        gate (p - (1 + length net.a.inputs)) (omega arith) inside in
        there (slice_get (definitions net) (p - (1 + length net.a.inputs))) refl
  ]
    where
      front : (q : ℕ) → q < 1 + length net.a.inputs → position_of net (node_at net q) ≡ Some q
      front zero l = refl
      front (suc k) l =
          let inside : k < length net.a.inputs = omega arith in
          let t : nat_lt k (length net.a.inputs) ≡ true = grind (arith, nat_tests, inside) in
          ap (λ (q : ℕ). position_of net (node_at net q)) (sym (add-one k))
          ∙ ap (position_of net) (node-input net k inside) ∙ position_of-input net k ∙ rw t (ap Some (add-one k))

      gate : (k : ℕ) → 1 + length net.a.inputs + k ≡ p → k < length (definitions net) → (o : Option Definition)
          → slice_get (definitions net) k ≡ o → position_of net (node_at net p) ≡ Some p
      gate k place inside None e =
          let none : length (definitions net) ≤ k = none-past (definitions net) k e in absurd (omega arith)
      gate k place inside (Some d) e =
          let at : slice_get (nodes_of net) p ≡ Some d.node =
          behind_inputs net p k (omega arith) ∙ ap (option_map (λ h. h.node)) e in
          ap (position_of net) (get_or_from_slice_get (nodes_of net) p d.node Const at) ∙ position-definition k d e ∙ ap Some place
