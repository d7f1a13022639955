-- The book of a reduced circuit once all gates and all outputs are done.
use Rattle.std.proofs.Common.{List, ◌++◌, length, ap, ◌∙◌}
use Rattle.netlist.specs.declared.gate.And.{And}
use Rattle.netlist.specs.Net.{AigPair, IsNet}
use Rattle.lemma_book.specs.declared.entry.Entry.{Entry}
use Rattle.lemma_book.specs.Entry.{Entries}
use Rattle.lemma_book.specs.Book.{IsLegal}
use Rattle.fraig_write.specs.Reduced.{AreStaying, IsReducedCircuit, reduced_to}
use Rattle.fraig_write.specs.Mirror.{AreOfA, IsMirror}
use Rattle.fraig_write.specs.Mirroring.{IsAsked, IsUpToGate, IsUpToOutput}
use Rattle.fraig_write.proofs.OneCircuit.{staying-one}

-- what is asked for
pub asked-for : (net : AigPair) (given : Entries) (staying : List And) → IsNet net → IsLegal net given → AreOfA given.entries
    → IsReducedCircuit net.a given.entries net.b → AreStaying net.a given.entries staying → IsAsked net given staying
asked-for net given staying net_is legal of_a reduced are = record {
  net_is = net_is;
  legal = legal;
  of_a = of_a;
  are_staying = are;
  circuit =
      reduced.circuit
      ∙ ap (reduced_to net.a given.entries) (staying-one net.a given.entries reduced.staying staying reduced.are_staying are);
}

-- what is made
pub mirror-made : (net : AigPair) (given merged book : Entries) (staying : List And) → AreStaying net.a given.entries staying
    → IsUpToGate net given staying (length net.b.gates) merged → IsUpToOutput net merged (length net.a.outputs) book → IsMirror net given book
mirror-made net given merged book staying are gates outs = record {
  staying = staying;
  are_staying = are;
  merges = gates.merges;
  outs = outs.outs;
  entries = outs.entries ∙ ap (λ (l : List Entry). l ++ outs.outs) gates.entries;
  sweep = outs.sweep ∙ gates.sweep;
  out = outs.out ∙ gates.out;
  merge_count = gates.count;
  mirrored = gates.mirrored;
  out_count = outs.count;
  shown = outs.shown;
}
