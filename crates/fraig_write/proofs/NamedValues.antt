-- A literal of circuit A has the value of the literal of a node that it means.
use Rattle.std.proofs.Common.{◌≡◌, ℕ, Bool, true, false, not, ◌&&◌, Option, Some, None, List, [], ◌∷◌, refl, sym, ap, ◌∙◌, if◌then◌else◌}
use Rattle.std.specs.Prelude.{◌==◌}
use Rattle.std.specs.Option.{option_map_or}
use Rattle.std.specs.List.{slice_index_or}
use Rattle.std.proofs.lemmas.Bool.{and_parts, or_right}
use Rattle.lits.specs.Clause.{has, no_repeat}
use Rattle.lits.specs.declared.node.Side.TheVariants.{A}
use Rattle.lits.specs.declared.node.Node.{Node}
use Rattle.lits.specs.declared.node.Node.TheVariants.{Const, Input, Gate}
use Rattle.netlist.specs.declared.gate.And.{And}
use Rattle.netlist.specs.Place.{place_of}
use Rattle.netlist.specs.Circuit.{AreOrdered, given, is_negated, lit_value, put, run, value_in, values_in, var_of}
use Rattle.netlist.specs.Net.{AigPair, IsNet, lit_holds, lit_named, value_of}
use Rattle.netlist.proofs.Facts.{at-place, equal-number, is_some-place, none_from_is_some}

-- gates leave the values of known variables as they are
run-known : (known : List ℕ) (gs : List And) (v : ℕ → Bool) (x : ℕ) → AreOrdered known gs → has ◌==◌ known x ≡ true → run gs v x ≡ v x
run-known known [] v x ordered there = refl
run-known known (g ∷ gs) v x ordered there =
    run-known (g.var ∷ known) gs (put v g.var (lit_value v g.left && lit_value v g.right)) x ordered.1 (or_right (g.var == x) (has ◌==◌ known x) there)
    ∙ go (x == g.var) refl
  where
    go : (b : Bool) → (x == g.var) ≡ b → put v g.var (lit_value v g.left && lit_value v g.right) x ≡ v x
    go false e = rw e refl
    go true e =
        let same = equal-number x g.var e in
        let clash : false ≡ true = sym ordered.0.new ∙ ap (has ◌==◌ known) (sym same) ∙ there in
        cc

module _ (net : AigPair) (is : IsNet net) (bits : List Bool) where
  known-value : (x : ℕ) → has ◌==◌ (0 ∷ net.a.inputs) x ≡ true → values_in net.a bits x ≡ given net.a.inputs bits x
  known-value x there = run-known (0 ∷ net.a.inputs) net.a.gates (given net.a.inputs bits) x is.a.gates there

  zero-apart : has ◌==◌ net.a.inputs 0 ≡ false
  zero-apart = first (has ◌==◌ net.a.inputs 0) (and_parts (not (has ◌==◌ net.a.inputs 0)) (no_repeat ◌==◌ net.a.inputs) is.a.inputs).0
    where
      first : (b : Bool) → not b ≡ true → b ≡ false
      first true e = cc
      first false e = refl

  zero-false : values_in net.a bits 0 ≡ false
  zero-false =
      known-value 0 refl
      ∙ ap (λ (o : Option ℕ). option_map_or (λ k. slice_index_or bits k false) o false)
      (none_from_is_some (place_of (λ y. y == 0) net.a.inputs) (is_some-place (λ y. y == 0) net.a.inputs ∙ zero-apart))

  -- a variable that isn't the constant has the value of its node
  behind : (x : ℕ) (o : Option ℕ) → place_of (λ y. y == x) net.a.inputs ≡ o
      → values_in net.a bits x ≡ value_of net bits (option_map_or Input o (Gate A x))
  behind x None e = refl
  behind x (Some k) e =
      let there : has ◌==◌ net.a.inputs x ≡ true = (at-place (λ y. y == x) net.a.inputs k e).4 in
      known-value x (or_right (0 == x) (has ◌==◌ net.a.inputs x) there)
      ∙ ap (λ (o : Option ℕ). option_map_or (λ i. slice_index_or bits i false) o false) e

  pub named-value : (lit : ℕ) → value_in net.a bits lit ≡ lit_holds (value_of net bits) (lit_named A net.a lit)
  named-value lit = go (var_of lit == 0) (is_negated lit) refl
    where
      x : ℕ
      x = var_of lit

      rest : Node
      rest = option_map_or Input (place_of (λ y. y == x) net.a.inputs) (Gate A x)

      go : (zero neg : Bool) → (x == 0) ≡ zero
          → (if neg then not (values_in net.a bits x) else values_in net.a bits x)
          ≡ (if (if zero then not neg else neg) then not (value_of net bits (if zero then Const else rest)) else value_of net bits (if zero then Const else rest))
      go true neg e = same neg
        where
          none : values_in net.a bits x ≡ false
          none = ap (values_in net.a bits) (equal-number x 0 e) ∙ zero-false

          same : (neg : Bool) → (if neg then not (values_in net.a bits x) else values_in net.a bits x) ≡ (if not neg then false else true)
          same true = ap not none
          same false = none
      go false true e = ap not (behind x (place_of (λ y. y == x) net.a.inputs) refl)
      go false false e = behind x (place_of (λ y. y == x) net.a.inputs) refl
