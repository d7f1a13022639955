-- A gate by its number: its position, what defines it, its clauses, and that its fanins stand earlier.
use Rattle.std.proofs.Common.{◌≡◌, ℕ, ◌+◌, ◌-◌, ◌<◌, ◌≤◌, ◌^◌, Bool, true, false, Option, Some, None, List, [], map, length, refl, sym, ap, ◌∙◌, subst, arith}
use Rattle.std.specs.Prelude.{slice_get, nat_lt}
use Rattle.std.specs.Option.{is_some, option_map, option_map_or, unwrap_or}
use Rattle.std.proofs.lemmas.Bool.Decides.{nat_tests}
use Rattle.std.proofs.lemmas.List.{length-map}
use Rattle.std.proofs.lemmas.Option.{none-some, same_Some, slice_get-map, slice_get_within}
use Rattle.lits.specs.Same.{same_node}
use Rattle.lits.specs.declared.node.Side.{Side}
use Rattle.lits.specs.declared.node.Side.TheVariants.{A, B}
use Rattle.lits.specs.declared.node.Node.{Node}
use Rattle.lits.proofs.Facts.{exact-node}
use Rattle.netlist.specs.declared.gate.And.{And}
use Rattle.netlist.specs.declared.gate.Definition.{Definition}
use Rattle.netlist.specs.declared.gate.Fanins.{Fanins}
use Rattle.lits.specs.declared.literal.Lit.{Lit}
use Rattle.netlist.specs.Pair.{first_gate}
use Rattle.netlist.specs.Net.{AigPair, IsNet, circuit_of, definition_of, definitions, defined_by, fanins_at, fanins_of, gate_at, placed, position_of}
use Rattle.netlist.specs.Miter.{axioms_of, gate_clauses, kept}
use Rattle.netlist.proofs.Facts.{few_gates_of, gate-definition, length-definitions, slice_get-left, slice_get-right, position-definition}

-- two nodes of which one stands earlier differ
pub apart-placed : (net : AigPair) (n m : Node) (q p : ℕ) → position_of net n ≡ Some q → position_of net m ≡ Some p → p < q → same_node n m ≡ false
apart-placed net n m q p e f below = go (same_node n m) refl
  where
    go : (b : Bool) → same_node n m ≡ b → b ≡ false
    go false h = refl
    go true h =
        let same : q ≡ p = same_Some q p (sym e ∙ ap (position_of net) (exact-node n m h) ∙ f) in
        absurd (omega arith)

-- ---- gate k
pub record IsGate (net : AigPair) (k : ℕ) (d : Definition) : Type 0 where
  pub node : position_of net d.node ≡ Some (1 + length net.a.inputs + k)
  pub left : (p : ℕ) × (position_of net d.left.node ≡ Some p) × (p < 1 + length net.a.inputs + k)
  pub right : (p : ℕ) × (position_of net d.right.node ≡ Some p) × (p < 1 + length net.a.inputs + k)
  pub defined : defined_by net d.node ≡ Some d
  pub axioms : axioms_of net d.node ≡ kept (gate_clauses d)

module _ (net : AigPair) (is : IsNet net) where
  clauses : (s : Side) (o : Option And) (d : Definition) → option_map (definition_of s (circuit_of net s)) o ≡ Some d
      → option_map_or (λ g. kept (gate_clauses (definition_of s (circuit_of net s) g))) o [] ≡ kept (gate_clauses d)
  clauses s None d e = absurd (none-some d e)
  clauses s (Some g) d e =
      ap (λ (h : Definition). kept (gate_clauses h)) (same_Some (definition_of s (circuit_of net s) g) d e)

  at-side : (s : Side) (j k : ℕ) (g : And) → slice_get (circuit_of net s).gates j ≡ Some g → first_gate net s + j ≡ 1 + length net.a.inputs + k
      → slice_get (definitions net) k ≡ Some (definition_of s (circuit_of net s) g) → IsGate net k (definition_of s (circuit_of net s) g)
  at-side s j k g e place there =
      let d = gate-definition net is s j g e in
      record {
        node = position-definition net is k (definition_of s (circuit_of net s) g) there;
        left = (d.1.0, d.1.1, omega (arith, d.1.2));
        right = (d.2.0, d.2.1, omega (arith, d.2.2));
        defined = d.0;
        axioms = clauses s (gate_at net s g.var) (definition_of s (circuit_of net s) g) d.0;
      }

  first : List Definition
  first = map (definition_of A net.a) net.a.gates

  second : List Definition
  second = map (definition_of B net.b) net.b.gates

  -- gate j of a side is gate k of all
  pub gate-a : (j : ℕ) (g : And) → slice_get net.a.gates j ≡ Some g → slice_get (definitions net) j ≡ Some (definition_of A net.a g)
  unfolding first second
  gate-a j g e =
      let inside : j < length first = omega (arith, length-map net.a.gates (definition_of A net.a), slice_get_within net.a.gates j g e) in
      slice_get-left first second j inside ∙ slice_get-map (definition_of A net.a) net.a.gates j ∙ ap (option_map (definition_of A net.a)) e

  pub gate-b : (j : ℕ) (g : And) → slice_get net.b.gates j ≡ Some g → slice_get (definitions net) (length net.a.gates + j) ≡ Some (definition_of B net.b g)
  unfolding first second
  gate-b j g e =
      ap (λ (n : ℕ). slice_get (definitions net) (n + j)) (sym (length-map net.a.gates (definition_of A net.a)))
      ∙ slice_get-right first second j ∙ slice_get-map (definition_of B net.b) net.b.gates j ∙ ap (option_map (definition_of B net.b)) e

  pub is-gate : (k : ℕ) (d : Definition) → slice_get (definitions net) k ≡ Some d → IsGate net k d
  unfolding first second
  is-gate k d e = side (nat_lt k (length net.a.gates)) refl
    where
      one : (s : Side) (j : ℕ) (o : Option And) → slice_get (circuit_of net s).gates j ≡ o → first_gate net s + j ≡ 1 + length net.a.inputs + k
          → option_map (definition_of s (circuit_of net s)) o ≡ Some d → IsGate net k d
      one s j None f place g = absurd (none-some d g)
      one s j (Some a) f place g =
          let same : definition_of s (circuit_of net s) a ≡ d = same_Some (definition_of s (circuit_of net s) a) d g in
          subst (IsGate net k) same (at-side s j k a f place (e ∙ ap Some (sym same)))

      side : (b : Bool) → nat_lt k (length net.a.gates) ≡ b → IsGate net k d
      side true t =
          let l : k < length net.a.gates = grind (arith, nat_tests, t) in
          let inside : k < length first = omega (arith, length-map net.a.gates (definition_of A net.a)) in
          one A k (slice_get net.a.gates k) refl refl
          (sym (slice_get-map (definition_of A net.a) net.a.gates k) ∙ sym (slice_get-left first second k inside) ∙ e)
      side false t =
          let l : length net.a.gates ≤ k = grind (arith, nat_tests, t) in
          let place : length first + (k - length net.a.gates) ≡ k = omega (arith, length-map net.a.gates (definition_of A net.a)) in
          one B (k - length net.a.gates) (slice_get net.b.gates (k - length net.a.gates)) refl (omega arith)
          (sym (slice_get-map (definition_of B net.b) net.b.gates (k - length net.a.gates))
          ∙ sym (slice_get-right first second (k - length net.a.gates)) ∙ ap (slice_get (definitions net)) place ∙ e)

  -- the positions of its fanins
  placed-at : (l : Lit) (p : ℕ) → position_of net l.node ≡ Some p → position_of net l.node ≡ Some (placed net l).position
  placed-at l p e = e ∙ ap Some (sym (ap (λ (o : Option ℕ). unwrap_or o 0) e))

  pub fanins-there : (k : ℕ) (d : Definition) → slice_get (definitions net) k ≡ Some d → is_some (fanins_at net k) ≡ true
  fanins-there k d at = ap is_some (ap (option_map (fanins_of net)) at)

  pub fanins-known : (k : ℕ) (d : Definition) (f : Fanins) → slice_get (definitions net) k ≡ Some d → fanins_at net k ≡ Some f
      → (position_of net d.left.node ≡ Some f.left.position) × (position_of net d.right.node ≡ Some f.right.position)
  fanins-known k d f at e =
      let gate = is-gate k d at in
      let same : fanins_of net d ≡ f = same_Some (fanins_of net d) f (sym (ap (option_map (fanins_of net)) at) ∙ e) in
      subst (λ (g : Fanins). (position_of net d.left.node ≡ Some g.left.position) × (position_of net d.right.node ≡ Some g.right.position)) same
      (placed-at d.left gate.left.0 gate.left.1, placed-at d.right gate.right.0 gate.right.1)

-- the constant, the inputs and the gates are few
pub gates-few : (net : AigPair) → IsNet net → (k : ℕ) → k < length (definitions net) → 1 + length net.a.inputs + k < 2 ^ 32
gates-few net is k below =
    omega (arith, below, length-definitions net, few_gates_of net.a is.a, few_gates_of net.b is.b)
