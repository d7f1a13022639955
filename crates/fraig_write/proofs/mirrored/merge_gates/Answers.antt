-- A gate of B and its original are twins over the roots that the merges so far give.
use Rattle.std.proofs.Common.{◌∙◌, ◌++◌, ap, sym, subst}
use Rattle.std.specs.Prelude.{slice_index_or}
use Rattle.lits.specs.declared.node.Side.TheVariants.{A, B}
use Rattle.lits.specs.declared.node.Node.TheVariants.{Gate}
use Rattle.netlist.specs.declared.gate.And.{And}
use Rattle.netlist.specs.declared.gate.Definition.{Definition}
use Rattle.netlist.specs.Circuit.{Aig}
use Rattle.netlist.specs.Net.{definition_of}
use Rattle.netlist.specs.Miter.{positive}
use Rattle.lemma_book.specs.Root.{IsRoot}
use Rattle.strash_pass.specs.Strash.{way_of}
use Rattle.strash_pass.specs.Pass.{IsTwin, Merges}
use Rattle.fraig_write.proofs.MirrorGates.{is-twin, twin-unmerged}
use Rattle.fraig_write.proofs.MirrorSteps.{at-gate, at-original, gate-defined, more-merged, none-merged, original-defined}
use Rattle.fraig_write.proofs.mirrored.merge_gates.Goals as goal

-- what is read where an index is too great
abbrev zero : And
zero = record { var = 0; left = 0; right = 0 }

pub loop-k-init : goal.loop-k-init
loop-k-init c = none-merged c.args.net.now c.args.book.now c.args.staying.now c.requires

pub definition-gate-requires : goal.definition-gate-requires
definition-gate-requires c =
    let gates = c.gates-gates.ensures.gates ∙ ap (λ (x : Aig). x.gates) c.circuit.ensures.circuit in
    gate-defined c.args.net.now c.args.book.now c.args.staying.now c.requires c.loop-k.k (slice_index_or c.gates-gates.result.now c.loop-k.k zero)
    (at-gate c.args.net.now c.args.book.now c.args.staying.now c.requires c.gates-gates.result.now zero c.loop-k.k gates c.loop-k-test.true)

pub definition-original-requires : goal.definition-original-requires
definition-original-requires c =
    let gates = c.gates-gates.ensures.gates ∙ ap (λ (x : Aig). x.gates) c.circuit.ensures.circuit in
    original-defined c.args.net.now c.args.book.now c.args.staying.now c.requires c.loop-k.k (slice_index_or c.args.staying.now c.loop-k.k zero)
    (at-original c.args.net.now c.args.book.now c.args.staying.now c.requires c.gates-gates.result.now zero c.loop-k.k gates c.loop-k-test.true)

pub merge_to_twin-requires-clause-unmerged : goal.merge_to_twin-requires-clause-unmerged
merge_to_twin-requires-clause-unmerged c =
    let gates = c.gates-gates.ensures.gates ∙ ap (λ (x : Aig). x.gates) c.circuit.ensures.circuit in
    subst (λ (d : Definition). IsRoot c.loop-k.book.entries d.node) (sym c.definition-gate.ensures)
    (twin-unmerged c.args.net.now c.args.book.now c.args.staying.now c.requires c.loop-k.k c.loop-k.book c.loop-k.invariant
    (slice_index_or c.gates-gates.result.now c.loop-k.k zero) (slice_index_or c.args.staying.now c.loop-k.k zero)
    (at-gate c.args.net.now c.args.book.now c.args.staying.now c.requires c.gates-gates.result.now zero c.loop-k.k gates c.loop-k-test.true)
    (at-original c.args.net.now c.args.book.now c.args.staying.now c.requires c.gates-gates.result.now zero c.loop-k.k gates c.loop-k-test.true))

pub merge_to_twin-requires-clause-twin : goal.merge_to_twin-requires-clause-twin
merge_to_twin-requires-clause-twin c =
    let g = slice_index_or c.gates-gates.result.now c.loop-k.k zero in
    let o = slice_index_or c.args.staying.now c.loop-k.k zero in
    let gates = c.gates-gates.ensures.gates ∙ ap (λ (x : Aig). x.gates) c.circuit.ensures.circuit in
    subst (λ (d : Definition). IsTwin c.args.net.now c.loop-k.book.entries c.definition-original.result d) (sym c.definition-gate.ensures)
    (subst (λ (d : Definition). IsTwin c.args.net.now c.loop-k.book.entries d (definition_of B c.args.net.now.b g)) (sym c.definition-original.ensures)
    (is-twin c.args.net.now c.args.book.now c.args.staying.now c.requires c.loop-k.k c.loop-k.book c.loop-k.invariant g o
    (at-gate c.args.net.now c.args.book.now c.args.staying.now c.requires c.gates-gates.result.now zero c.loop-k.k gates c.loop-k-test.true)
    (at-original c.args.net.now c.args.book.now c.args.staying.now c.requires c.gates-gates.result.now zero c.loop-k.k gates c.loop-k-test.true)))

pub loop-k-preserved : goal.loop-k-preserved
loop-k-preserved c =
    let net = c.args.net.now in
    let es = c.loop-k.book.entries in
    let new = c.merge_to_twin.new.book in
    let g = slice_index_or c.gates-gates.result.now c.loop-k.k zero in
    let o = slice_index_or c.args.staying.now c.loop-k.k zero in
    let gates = c.gates-gates.ensures.gates ∙ ap (λ (x : Aig). x.gates) c.circuit.ensures.circuit in
    more-merged net c.args.book.now c.args.staying.now c.requires c.loop-k.k c.loop-k.book new c.loop-k.invariant g o
    (at-gate net c.args.book.now c.args.staying.now c.requires c.gates-gates.result.now zero c.loop-k.k gates c.loop-k-test.true)
    (at-original net c.args.book.now c.args.staying.now c.requires c.gates-gates.result.now zero c.loop-k.k gates c.loop-k-test.true)
    c.merge_to_twin.ensures.legal
    (subst (λ (d : Definition). Merges net c.loop-k.book new (way_of es d ++ way_of es (definition_of A net.a o)) d.node (positive (Gate A o.var)))
    c.definition-gate.ensures
    (subst (λ (d : Definition). Merges net c.loop-k.book new (way_of es c.definition-gate.result ++ way_of es d) c.definition-gate.result.node (positive d.node))
    c.definition-original.ensures c.in_ok-merge_to_twin.ensures.ok))
