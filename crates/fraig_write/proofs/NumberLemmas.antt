-- What the table of the gates that stay says of new numbers.
use Rattle.std.proofs.Common.{◌≡◌, ℕ, ◌+◌, ◌<◌, Bool, true, false, cond, Option, Some, None, length, refl, sym, ap, ◌∙◌, arith}
use Rattle.std.specs.Prelude.{◌==◌, is_some}
use Rattle.std.specs.Option.{option_map, unwrap_or}
use Rattle.lits.specs.Clause.{has}
use Rattle.lits.specs.declared.node.Side.{Side}
use Rattle.lits.specs.declared.node.Node.TheVariants.{Gate}
use Rattle.lits.proofs.Facts.{list_any-map}
use Rattle.netlist.specs.declared.gate.And.{And}
use Rattle.netlist.specs.Place.{place_of}
use Rattle.netlist.specs.Circuit.{gate_vars}
use Rattle.netlist.specs.VariableTable.{Places, place_in}
use Rattle.netlist.proofs.Facts.{at-place, equal-number, place_of-map}
use Rattle.fraig_write.specs.Reduced.{new_variable}
use Rattle.fraig_write.specs.Renumbering.{HasNumber, IsNumbering, Numbering}

-- a gate that stays is found, and its new number is behind the inputs
pub gate-number : (n : Numbering) (table : Places) → IsNumbering n table → (side : Side) (v : ℕ) → HasNumber n (Gate side v)
    → (k : ℕ) × (place_in table v ≡ Some (k + 1)) × (new_variable n.inputs n.staying (Gate side v) ≡ n.inputs + (k + 1)) × (k < length n.staying)
gate-number n table is side v h = go (place_of (λ g. g.var == v) n.staying) refl h
  where
    go : (o : Option ℕ) → place_of (λ g. g.var == v) n.staying ≡ o → is_some o ≡ true
        → (k : ℕ) × (place_in table v ≡ Some (k + 1)) × (new_variable n.inputs n.staying (Gate side v) ≡ n.inputs + (k + 1)) × (k < length n.staying)
    go None e some = cc
    go (Some k) e some = (
      k,
      is.table_is.finds v ∙ ap (λ (o : Option ℕ). cond (0 == v) (Some 0) (option_map (λ j. j + 1) o)) (place_of-map (λ x. x == v) (λ g. g.var) n.staying ∙ e)
          ∙ ap (λ (b : Bool). cond b (Some 0) (Some (k + 1))) (positive (0 == v) refl),
      ap (λ (o : Option ℕ). n.inputs + 1 + unwrap_or o 0) e ∙ shift,
      (at-place (λ g. g.var == v) n.staying k e).3,
    )
      where
        shift : n.inputs + 1 + k ≡ n.inputs + (k + 1)
        shift = omega arith

        positive : (b : Bool) → (0 == v) ≡ b → (0 == v) ≡ false
        positive false f = f
        positive true f =
            let same : v ≡ 0 = sym (equal-number 0 v f) in
            let there : has ◌==◌ (gate_vars n.staying) v ≡ true =
            list_any-map (λ y. y == v) (λ g. g.var) n.staying ∙ (at-place (λ g. g.var == v) n.staying k e).4 in
            let clash : false ≡ true = sym is.no_constant ∙ ap (has ◌==◌ (gate_vars n.staying)) (sym same) ∙ there in
            cc

-- gates with equal parts
pub same-gate : (v w l m r s : ℕ) → v ≡ w → l ≡ m → r ≡ s
    → ◌≡◌ {A = And} (record { var = v; left = l; right = r }) (record { var = w; left = m; right = s })
same-gate v w l m r s p q t = rw (p, q, t) refl
