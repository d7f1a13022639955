-- The position of a literal's node, by the source of its variable.
use Rattle.std.proofs.Common.{◌≡◌, ℕ, ◌+◌, ◌<◌, Bool, true, false, not, cond, Option, None, Some, length, refl, sym, ap, ◌∙◌, arith}
use Rattle.std.specs.Prelude.{◌==◌, nat_lt}
use Rattle.std.specs.Option.{option_map, option_map_or, unwrap_or, is_some}
use Rattle.std.proofs.lemmas.Bool.Decides.{nat_tests}
use Rattle.lits.specs.declared.node.Side.{Side}
use Rattle.lits.specs.declared.node.Node.TheVariants as node
use Rattle.netlist.specs.declared.gate.Placed.{Placed}
use Rattle.netlist.specs.declared.gate.Source.{Source}
use Rattle.netlist.specs.declared.gate.Source.TheVariants.{Constant, Input, Gate}
use Rattle.netlist.specs.Place.{place_of}
use Rattle.netlist.specs.Circuit.{Aig, var_of, is_negated, is_over, variables_in}
use Rattle.netlist.specs.Net.{AigPair, IsNet, circuit_of, lit_named, placed, position_of}
use Rattle.netlist.specs.Pair.{first_gate}
use Rattle.netlist.specs.Source.{input_or, source_of}
use Rattle.netlist.proofs.NetLemmas.{position_of-input, position-gate}
use Rattle.netlist.proofs.NodesThere.{length-inputs}
use Rattle.netlist.proofs.SourceLemmas.{place_within, is_over-source}

-- by the source of the literal's variable
abbrev pub placed_from : AigPair → Side → Bool → Option Source → Placed
placed_from net side neg (Some (Input k)) = record { position = k + 1; neg = neg }
placed_from net side neg (Some (Gate g)) = record { position = first_gate net side + g; neg = neg }
placed_from net side neg _ = record { position = 0; neg = not neg }

pub placed-source : (net : AigPair) (side : Side) (lit : ℕ) → IsNet net → is_over (variables_in (circuit_of net side)) lit ≡ true
    → placed_from net side (is_negated lit) (source_of (circuit_of net side) (var_of lit)) ≡ placed net (lit_named side (circuit_of net side) lit)
placed-source net side lit is over =
    go (var_of lit == 0) (place_of (λ x. x == var_of lit) c.inputs) (place_of (λ g. g.var == var_of lit) c.gates) refl refl
    (sym (is_over-source c lit) ∙ over)
  where
    c : Aig
    c = circuit_of net side

    input : (k : ℕ) → place_of (λ x. x == var_of lit) c.inputs ≡ Some k → position_of net (node.Input k) ≡ Some (k + 1)
    input k e =
        let below : k < length net.a.inputs = omega (arith, place_within (λ x. x == var_of lit) c.inputs k e, length-inputs net is side) in
        let t : nat_lt k (length net.a.inputs) ≡ true = grind (arith, nat_tests, below) in
        position_of-input net k ∙ rw t refl

    gate : (g : ℕ) → place_of (λ g. g.var == var_of lit) c.gates ≡ Some g → position_of net (node.Gate side (var_of lit)) ≡ Some (first_gate net side + g)
    gate g e = sym (position-gate net side (var_of lit)) ∙ ap (option_map (λ i. first_gate net side + i)) e

    go : (b : Bool) (inputs gates : Option ℕ) → place_of (λ x. x == var_of lit) c.inputs ≡ inputs → place_of (λ g. g.var == var_of lit) c.gates ≡ gates
        → is_some (cond b (Some Constant) (input_or inputs gates)) ≡ true
        → placed_from net side (is_negated lit) (cond b (Some Constant) (input_or inputs gates))
        ≡ placed net (record {
          node = cond b node.Const (option_map_or node.Input inputs (node.Gate side (var_of lit)));
          neg = cond b (not (is_negated lit)) (is_negated lit);
        })
    go true inputs gates e f there = refl
    go false (Some k) gates e f there =
        ap (λ (o : Option ℕ). record { position = unwrap_or o 0; neg = is_negated lit }) (sym (input k e))
    go false None (Some g) e f there =
        ap (λ (o : Option ℕ). record { position = unwrap_or o 0; neg = is_negated lit }) (sym (gate g f))
    go false None None e f there = cc
