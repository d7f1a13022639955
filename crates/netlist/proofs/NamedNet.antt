-- A pair of circuits whose names have no cause against them is a net when B is put in A's order.
use Rattle.std.proofs.Common.{◌≡◌, Option, None, Some, refl, sym, ◌∙◌}
use Rattle.std.specs.Option.{option_or}
use Rattle.std.proofs.lemmas.Option.{none-some}
use Rattle.netlist.specs.declared.port.Port.TheVariants.{Input, Output}
use Rattle.netlist.specs.Circuit.{Aig, IsCircuit}
use Rattle.netlist.specs.Net.{IsNet}
use Rattle.netlist.specs.ByName.{arranged, unlike_names, unlike_ports}
use Rattle.netlist.proofs.ArrangedLemmas.{ArePaired, IsCircuit-arranged}
use Rattle.netlist.proofs.UnlikeLemmas.{names-paired}

-- of two causes there is none
pub neither : {X : Type 0} (x y : Option X) → option_or x y ≡ None → (x ≡ None) × (y ≡ None)
neither None y e = (refl, e)
neither (Some u) y e = absurd (none-some u (sym e))

module _ (a b : Aig) (net : IsNet (record { a = a; b = b })) (none : unlike_ports a b ≡ None) where
  -- the inputs' names are paired, and the outputs' names
  pub inputs-paired : ArePaired a.names.inputs b.names.inputs
  inputs-paired =
      names-paired Input a.names.inputs b.names.inputs
      (net.a.names.input_places ∙ net.inputs ∙ sym net.b.names.input_places)
      (neither (unlike_names Input a.names.inputs b.names.inputs) (unlike_names Output a.names.outputs b.names.outputs) none).0

  pub outputs-paired : ArePaired a.names.outputs b.names.outputs
  outputs-paired =
      names-paired Output a.names.outputs b.names.outputs
      (net.a.names.output_places ∙ net.outputs ∙ sym net.b.names.output_places)
      (neither (unlike_names Input a.names.inputs b.names.inputs) (unlike_names Output a.names.outputs b.names.outputs) none).1

  circuit : IsCircuit (arranged a b)
  circuit = IsCircuit-arranged a b net.a net.b inputs-paired outputs-paired

  pub IsNet-arranged : IsNet (record { a = a; b = arranged a b })
  IsNet-arranged = record {
    a = net.a;
    b = circuit;
    inputs = sym net.a.names.input_places ∙ circuit.names.input_places;
    outputs = sym net.a.names.output_places ∙ circuit.names.output_places;
  }
