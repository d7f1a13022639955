use Rattle.std.proofs.lemmas.List.FromFn.{length-range_with_len}
use Rattle.workload_gen.specs.Gates.{Draft}
use Rattle.workload_gen.proofs.SequenceLemmas.{IsCircuit-draft, IsInSequence-draft}
use Rattle.workload_gen.proofs.design.Design.new.Goals as goal

pub invariant_of-result : goal.invariant_of-result
invariant_of-result c =
    let d : Draft = record { inputs = c.args.inputs; gates = c.args.gates.items } in
    record {
      circuit = IsCircuit-draft d c.args.outputs.items c.requires.gates c.requires.below c.requires.few;
      sequence = IsInSequence-draft d c.args.outputs.items c.requires.gates;
      count = length-range_with_len 1 c.args.inputs;
      range = c.requires.gates.range;
    }
