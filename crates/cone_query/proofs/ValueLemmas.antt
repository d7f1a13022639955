-- The AIGER literal of a gate that has a position.
use Rattle.std.proofs.Common.{◌≡◌, ℕ, ◌*◌, ◌≤◌, Bool, true, false, List, [], ◌∷◌, refl, sym, ap, ◌∙◌, subst, arith}
use Rattle.std.specs.Prelude.{◌==◌, nat_le}
use Rattle.std.specs.Option.{IsSome, is_some}
use Rattle.std.specs.List.{list_all}
use Rattle.std.proofs.Math.Nat.{mul-div_cancel_left}
use Rattle.std.proofs.lemmas.Bool.Decides.{nat_tests}
use Rattle.std.proofs.lemmas.List.Folds.{list_any-append}
use Rattle.std.proofs.lemmas.Bool.{or_right, and_parts}
use Rattle.lits.specs.Clause.{has}
use Rattle.lits.specs.Same.{same_node}
use Rattle.lits.specs.declared.node.Side.{Side}
use Rattle.lits.specs.declared.node.Node.{Node}
use Rattle.lits.specs.declared.node.Node.TheVariants.{Gate}
use Rattle.lits.proofs.Facts.{list_any-map}
use Rattle.netlist.specs.Circuit.{var_of, gate_vars, is_over, variables_in, most}
use Rattle.netlist.specs.Net.{AigPair, IsNet, circuit_of, nodes_of, position_of}
use Rattle.netlist.proofs.Facts.{is_some-place, has-gate, is_circuit, equal-number}

half : (v : ℕ) → var_of (2 * v) ≡ v
half v = mul-div_cancel_left v (omega arith)

within : (xs : List ℕ) (v : ℕ) → list_all (λ x. nat_le x most) xs ≡ true → has ◌==◌ xs v ≡ true → v ≤ most
within [] v all h = cc
within (x ∷ xs) v all h = go (x == v) refl (within xs v parts.1)
  where
    parts : (nat_le x most ≡ true) × (list_all (λ y. nat_le y most) xs ≡ true)
    parts = and_parts (nat_le x most) (list_all (λ y. nat_le y most) xs) all

    go : (b : Bool) → (x == v) ≡ b → (has ◌==◌ xs v ≡ true → v ≤ most) → v ≤ most
    go true e rest = let same = equal-number x v e in let small = parts.0 in grind (arith, nat_tests)
    go false e rest = rest (rw e at h)

module _ (net : AigPair) (is : IsNet net) (n : Node) (placed : IsSome (position_of net n)) (s : Side) (v : ℕ) (e : n ≡ Gate s v) where
  known : has ◌==◌ (variables_in (circuit_of net s)) v ≡ true
  known =
      or_right (0 == v) _
      (list_any-append (λ y. y == v) (circuit_of net s).inputs (gate_vars (circuit_of net s).gates)
      ∙ or_right (has ◌==◌ (circuit_of net s).inputs v) _
      (list_any-map (λ y. y == v) (λ g. g.var) (circuit_of net s).gates ∙ (sym (has-gate net s v) ∙ there)))
    where
      there : has same_node (nodes_of net) (Gate s v) ≡ true
      there = sym (is_some-place (λ m. same_node m (Gate s v)) (nodes_of net)) ∙ subst (λ (m : Node). is_some (position_of net m) ≡ true) e placed

  pub gate-known : is_over (variables_in (circuit_of net s)) (2 * v) ≡ true
  gate-known = ap (has ◌==◌ (variables_in (circuit_of net s))) (half v) ∙ known

  pub gate-small : v ≤ most
  gate-small = within (variables_in (circuit_of net s)) v (is_circuit net is s).range known
