use Rattle.std.proofs.Common.{◌≡◌, ◌≤◌, ◌+◌, length, arith, refl}
use Rattle.symbol_names.specs.Names.{AreNames}
use Rattle.aiger_binary.proofs.StackLemmas.{IsCircuit-stacked}
use Rattle.aiger_binary.proofs.reader.read.Goals as goal

pub of-requires : goal.of-requires
of-requires c =
    let h = c.in_ok-header.header in
    let fits = c.in_ok-header.ensures.fits in
    let gates = c.gates.new.gates.items in
    let outputs = c.read_literals.new.literals.items in
    let constraints = c.read_literals-2.new.literals.items in
    let count : h.m ≡ h.i + length gates = omega (arith, fits.exact refl, c.in_ok-gates.ensures.count) in
    let few : length outputs ≤ 16777216 = omega (arith, c.in_ok-read_literals.ensures.count, fits.outputs) in
    let enough : length constraints ≤ 16777216 = omega (arith, c.in_ok-read_literals-2.ensures.count, fits.constraints) in
    let names : AreNames h.i (length outputs) c.in_ok-names.names = rw c.in_ok-read_literals.ensures.count c.in_ok-names.ensures.names in
    rw c.in_ok-inputs.ensures
    (IsCircuit-stacked h.i h.m gates outputs constraints c.in_ok-names.names count fits.variables c.in_ok-gates.ensures.stacked
    c.in_ok-read_literals.ensures.below few c.in_ok-read_literals-2.ensures.below enough names)
