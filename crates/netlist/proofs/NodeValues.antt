-- A circuit's variables and the nodes that they name have one value, a gate's value is the AND of its fanins', and the
-- nodes' values meet all clauses that define the nodes.
use Rattle.std.proofs.Common.{◌≡◌, ℕ, Bool, true, false, not, ◌&&◌, Option, Some, None, List, [], ◌∷◌, refl, sym, ap, ap₂, ◌∙◌, subst, if◌then◌else◌}
use Rattle.std.specs.Prelude.{◌==◌, slice_get, slice_index, ⊤}
use Rattle.std.specs.Option.{option_map_or}
use Rattle.std.proofs.lemmas.Option.{none-some, same_Some, get_or_from_slice_get}
use Rattle.std.proofs.lemmas.Bool.{or_right}
use Rattle.lits.specs.Clause.{has, no_repeat}
use Rattle.lits.specs.Assignment.{Meets}
use Rattle.lits.specs.declared.node.Side.{Side}
use Rattle.lits.specs.declared.node.Side.TheVariants.{A, B}
use Rattle.lits.specs.declared.node.Node.{Node}
use Rattle.lits.specs.declared.node.Node.TheVariants.{Const, Input, Gate, Xor}
use Rattle.lits.specs.declared.literal.Lit.{Lit}
use Rattle.netlist.specs.declared.gate.And.{And}
use Rattle.netlist.specs.Place.{place_of}
use Rattle.netlist.specs.Circuit.{var_of, is_negated, Aig, IsCircuit, lit_value, given, values_in, value_in, output_value}
use Rattle.netlist.specs.Net.{AigPair, IsNet, circuit_of, node_of, lit_named, output_of, definition_of, gate_at, differs, value_of, lit_holds}
use Rattle.netlist.specs.Miter.{axioms_of, xor_axioms, gate_clauses, xor_clauses, kept}
use Rattle.netlist.proofs.PlaceLemmas.{place_none}
use Rattle.netlist.proofs.SameNodes.{equal-number, at-place, found-one, no-facts}
use Rattle.netlist.proofs.RunValues.{Defines, lit_value-same, run-other, not-defined, run-defines}
use Rattle.netlist.proofs.ClauseMeaning.{meets-kept, meets-gate, meets-xor}

-- the values of a side's variables by those of the nodes; variable 0 is the negation of `Const`
abbrev pub at_variables : (Node → Bool) → Side → Aig → ℕ → Bool
at_variables a s c x = if x == 0 then not (a Const) else a (node_of s c x)

pub lit_holds-named : (a : Node → Bool) (s : Side) (c : Aig) (lit : ℕ)
    → lit_holds a (lit_named s c lit) ≡ lit_value (at_variables a s c) lit
lit_holds-named a s c lit =
    go (var_of lit == 0) (is_negated lit) (option_map_or Input (place_of (λ x. x == var_of lit) c.inputs) (Gate s (var_of lit)))
  where
    twice : (b : Bool) → b ≡ not (not b)
    twice true = refl
    twice false = refl

    go : (zero neg : Bool) (other : Node)
        → (if (if zero then not neg else neg) then not (a (if zero then Const else other)) else a (if zero then Const else other))
        ≡ (if neg then not (if zero then not (a Const) else a (if zero then Const else other))
        else (if zero then not (a Const) else a (if zero then Const else other)))
    go true true other = twice (a Const)
    go true false other = refl
    go false neg other = refl

pub is_circuit : (net : AigPair) → IsNet net → (s : Side) → IsCircuit (circuit_of net s)
is_circuit net is A = is.a
is_circuit net is B = is.b

-- the constant is no input
pub zero-no_input : (c : Aig) → IsCircuit c → has ◌==◌ c.inputs 0 ≡ false
zero-no_input c is = bits (has ◌==◌ c.inputs 0) (no_repeat ◌==◌ c.inputs) is.inputs
  where
    bits : (a b : Bool) → (not a && b) ≡ true → a ≡ false
    bits true b e = cc
    bits false b e = refl

-- before any gate the constant is false, and an input has the truth value at its place
pub given-zero : (c : Aig) (bits : List Bool) → IsCircuit c → given c.inputs bits 0 ≡ false
given-zero c bits is = rw (place_none (λ y. y == 0) c.inputs (zero-no_input c is)) refl

-- the value of a gate's node is that of its variable
pub value_of-gate : (net : AigPair) (bits : List Bool) (s : Side) (v : ℕ)
    → value_of net bits (Gate s v) ≡ values_in (circuit_of net s) bits v
value_of-gate net bits A v = refl
value_of-gate net bits B v = refl

module _ (net : AigPair) (is : IsNet net) (bits : List Bool) where
  -- a variable has the value of its node
  pub at_variables-values : (s : Side) (x : ℕ)
      → at_variables (value_of net bits) s (circuit_of net s) x ≡ values_in (circuit_of net s) bits x
  at_variables-values s x = go (x == 0) refl
    where
      c : Aig
      c = circuit_of net s

      stays : (y : ℕ) → has ◌==◌ (0 ∷ c.inputs) y ≡ true → values_in c bits y ≡ given c.inputs bits y
      stays y h = run-other c.gates (given c.inputs bits) y (not-defined (0 ∷ c.inputs) c.gates y (is_circuit net is s).gates h)

      behind : (o : Option ℕ) → place_of (λ y. y == x) c.inputs ≡ o
          → value_of net bits (option_map_or Input o (Gate s x)) ≡ values_in c bits x
      behind None e = value_of-gate net bits s x
      behind (Some k) e =
          let there : has ◌==◌ c.inputs x ≡ true = (at-place (λ y. y == x) c.inputs k e).4 in
          sym (stays x (or_right (0 == x) (has ◌==◌ c.inputs x) there) ∙ rw e refl)

      go : (b : Bool) → (x == 0) ≡ b → at_variables (value_of net bits) s c x ≡ values_in c bits x
      go true e =
          let same = equal-number x 0 e in
          let at_zero : values_in c bits 0 ≡ false = stays 0 refl ∙ given-zero c bits (is_circuit net is s) in
          rw e (sym (ap (values_in c bits) same ∙ at_zero))
      go false e = rw e (behind (place_of (λ y. y == x) c.inputs) refl)

  -- an AIGER literal and the literal that it means have one value
  pub value-named : (s : Side) (lit : ℕ)
      → value_in (circuit_of net s) bits lit ≡ lit_holds (value_of net bits) (lit_named s (circuit_of net s) lit)
  value-named s lit =
      sym (lit_holds-named (value_of net bits) s (circuit_of net s) lit
      ∙ lit_value-same (at_variables (value_of net bits) s (circuit_of net s)) (values_in (circuit_of net s) bits) lit
      (at_variables-values s (var_of lit)))

  -- a gate's value is the AND of its fanins' values
  pub value-gate : (s : Side) (v : ℕ) (g : And) → gate_at net s v ≡ Some g
      → value_of net bits (Gate s v)
      ≡ (lit_holds (value_of net bits) (lit_named s (circuit_of net s) g.left)
      && lit_holds (value_of net bits) (lit_named s (circuit_of net s) g.right))
  value-gate s v g found =
      let c = circuit_of net s in
      let r = found-one (λ h. h.var == v) (Defines (values_in c bits)) c.gates g
      (run-defines (0 ∷ c.inputs) c.gates (given c.inputs bits) (is_circuit net is s).gates) found in
      value_of-gate net bits s v ∙ ap (values_in c bits) (sym (equal-number g.var v r.1)) ∙ r.0
      ∙ ap₂ ◌&&◌ (value-named s g.left) (value-named s g.right)

  -- an output's literal has the output's value
  pub value-output : (s : Side) (j : ℕ) (l : Lit) → output_of net s j ≡ Some l
      → lit_holds (value_of net bits) l ≡ output_value (circuit_of net s) bits j
  value-output s j l found = go (slice_get (circuit_of net s).outputs j) refl
    where
      c : Aig
      c = circuit_of net s

      go : (o : Option ℕ) → slice_get c.outputs j ≡ o → lit_holds (value_of net bits) l ≡ output_value c bits j
      go None e = absurd (none-some l (rw e at found))
      go (Some lit) e =
          let same : lit_named s c lit ≡ l = same_Some (lit_named s c lit) l (rw e at found) in
          let here : slice_index c.outputs j ≡ lit = get_or_from_slice_get c.outputs j lit 0 e in
          sym (ap (value_in c bits) here ∙ value-named s lit ∙ ap (lit_holds (value_of net bits)) same)

  -- the nodes' values meet the clauses that define the nodes
  pub values-meet : (n : Node) → Meets (lit_holds (value_of net bits)) (axioms_of net n)
  values-meet Const = (refl, tt)
  values-meet (Input k) = tt
  values-meet (Gate s v) = go (gate_at net s v) refl
    where
      go : (o : Option And) → gate_at net s v ≡ o
          → Meets (lit_holds (value_of net bits)) (option_map_or (λ g. kept (gate_clauses (definition_of s (circuit_of net s) g))) o [])
      go None e = tt
      go (Some g) e =
          let r = found-one (λ h. h.var == v) (λ h. ⊤) (circuit_of net s).gates g (no-facts (circuit_of net s).gates) e in
          let same = equal-number g.var v r.1 in
          meets-kept (value_of net bits) (gate_clauses (definition_of s (circuit_of net s) g))
          (meets-gate (value_of net bits) (definition_of s (circuit_of net s) g)
          (subst (λ (x : ℕ). value_of net bits (Gate s x) ≡ (lit_holds (value_of net bits) (lit_named s (circuit_of net s) g.left) && lit_holds (value_of net bits) (lit_named s (circuit_of net s) g.right))) (sym same) (value-gate s v g e)))
  values-meet (Xor j) = go (output_of net A j) (output_of net B j) refl refl
    where
      go : (o p : Option Lit) → output_of net A j ≡ o → output_of net B j ≡ p
          → Meets (lit_holds (value_of net bits)) (xor_axioms j o p)
      go (Some a) (Some b) e f =
          meets-kept (value_of net bits) (xor_clauses (Xor j) a b)
          (meets-xor (value_of net bits) (Xor j) a b (ap₂ differs (sym (value-output A j a e)) (sym (value-output B j b f))))
      go None p e f = tt
      go (Some a) None e f = tt
