-- The room that the tables of an edited net take.
use Rattle.std.proofs.Common.{◌≡◌, ℕ, ◌+◌, ◌≤◌, Bool, true, false, not, cond, Option, List, [], ◌∷◌, length, sym, ap, ◌∙◌, subst, arith, length-append}
use Rattle.std.specs.Prelude.{◌==◌}
use Rattle.std.specs.Vec.{vec_capacity}
use Rattle.std.proofs.lemmas.List.{length-map}
use Rattle.lits.specs.declared.node.Side.{Side}
use Rattle.lits.specs.declared.node.Side.TheVariants.{A, B}
use Rattle.netlist.specs.declared.gate.And.{And}
use Rattle.netlist.specs.declared.tables.Tables.{Tables}
use Rattle.netlist.specs.Circuit.{Aig}
use Rattle.netlist.specs.Net.{AigPair, circuit_of, definitions, fanins_of}
use Rattle.netlist.specs.Miter.{variables_of}
use Rattle.netlist.specs.Tables.{AreTables, HasRoom}
use Rattle.netlist.specs.Edit.{with_side, with_new, without_gate, gates_before, gates_since}
use Rattle.netlist.proofs.NetLemmas.{length-definitions, length-nodes, length-variables}
use Rattle.netlist.proofs.EditLemmas.{but}
use Rattle.netlist.proofs.EditedCircuits.{whole}

length-but : (v : ℕ) (gs : List And) → length (but v gs) ≤ length gs
length-but v [] = omega arith
length-but v (x ∷ xs) = go (x.var == v) (length-but v xs)
  where
    go : (b : Bool) → length (but v xs) ≤ length xs → length (cond (not b) (x ∷ but v xs) (but v xs)) ≤ length (x ∷ xs)
    go true l = omega (arith, l)
    go false l = omega (arith, l)

length-new : (c : Aig) (g : And) (place : Option ℕ) → length (with_new c g place).gates ≡ length c.gates + 1
length-new c g place =
    omega (
      arith,
      length-append (gates_before c place) (g ∷ gates_since c place),
      length-append (gates_before c place) (gates_since c place),
      ap length (whole c place),
    )

-- a pair whose sides have so many gates more or less has so many definitions and variables more or less
sizes : (net : AigPair) → (length (definitions net) ≡ length net.a.gates + length net.b.gates)
    × (length (variables_of net) ≡ 1 + length net.a.inputs + length net.a.gates + length net.b.gates + length net.a.outputs)
sizes net = (length-definitions net, omega (arith, length-nodes net, length-variables net))

less : (net : AigPair) (side : Side) (v : ℕ)
    → (length (definitions (with_side net side (without_gate (circuit_of net side) v))) ≤ length (definitions net))
    × (length (variables_of (with_side net side (without_gate (circuit_of net side) v))) ≤ length (variables_of net))
less net A v =
    let old = sizes net in let new = sizes (with_side net A (without_gate net.a v)) in let fewer = length-but v net.a.gates in
    (omega (arith, old.0, new.0, fewer), omega (arith, old.1, new.1, fewer))
less net B v =
    let old = sizes net in let new = sizes (with_side net B (without_gate net.b v)) in let fewer = length-but v net.b.gates in
    (omega (arith, old.0, new.0, fewer), omega (arith, old.1, new.1, fewer))

more : (net : AigPair) (side : Side) (g : And) (place : Option ℕ)
    → (length (definitions (with_side net side (with_new (circuit_of net side) g place))) ≡ length (definitions net) + 1)
    × (length (variables_of (with_side net side (with_new (circuit_of net side) g place))) ≡ length (variables_of net) + 1)
more net A g place =
    let old = sizes net in let new = sizes (with_side net A (with_new net.a g place)) in let longer = length-new net.a g place in
    (omega (arith, old.0, new.0, longer), omega (arith, old.1, new.1, longer))
more net B g place =
    let old = sizes net in let new = sizes (with_side net B (with_new net.b g place)) in let longer = length-new net.b g place in
    (omega (arith, old.0, new.0, longer), omega (arith, old.1, new.1, longer))

-- how long the tables of a net are
long : (net : AigPair) (t : Tables) → AreTables net t
    → (length t.fanins.items ≡ length (definitions net)) × (length t.starts.items ≡ length (variables_of net) + 1)
long net t tables = (ap length tables.fanins ∙ length-map (definitions net) (fanins_of net), tables.starts.count)

pub room_less : (net new : AigPair) (side : Side) (v : ℕ) (t : Tables) → AreTables net t
    → new ≡ with_side net side (without_gate (circuit_of net side) v) → HasRoom new t
room_less net new side v t tables e =
    subst (λ (n : AigPair). HasRoom n t) (sym e)
    (let counts = less net side v in let lengths = long net t tables in
    record {
      fanins = omega (arith, counts.0, lengths.0, t.fanins.ok.0, t.fanins.ok.1);
      starts = omega (arith, counts.1, lengths.1, t.starts.ok.0, t.starts.ok.1);
    })

pub room_more : (net new : AigPair) (side : Side) (g : And) (place : Option ℕ) (t reserved : Tables) → AreTables net t
    → length t.fanins.items + 1 ≤ vec_capacity reserved.fanins → length t.starts.items + 1 ≤ vec_capacity reserved.starts
    → new ≡ with_side net side (with_new (circuit_of net side) g place) → HasRoom new reserved
room_more net new side g place t reserved tables fanins starts e =
    subst (λ (n : AigPair). HasRoom n reserved) (sym e)
    (let counts = more net side g place in let lengths = long net t tables in
    record { fanins = omega (arith, counts.0, lengths.0, fanins); starts = omega (arith, counts.1, lengths.1, starts) })
