-- What the map has at the two codes, in order.
use Rattle.strash_pass.proofs.TwinTable.{twin-result, ordered-result}
use Rattle.strash_pass.proofs.twins.Twins.twin_or_note.Goals as goal

pub returns-clause-noted : goal.returns-clause-noted
returns-clause-noted c =
    let first = c.find_or_note.ensures in
    twin-result c.self.inside.gates c.find_or_note.new.gates c.of.result c.args.gate c.args.self.now c.args.one c.args.other c.self.view_is c.self.invariant
    c.of.ensures.ordered c.of.ensures.pair c.find_or_note.result first.first first.noted first.found

pub invariant_of-self : goal.invariant_of-self
invariant_of-self c =
    let first = c.find_or_note.ensures in
    ordered-result c.self.inside.gates c.find_or_note.new.gates c.of.result c.args.gate c.self.invariant
    c.of.ensures.ordered c.find_or_note.result first.first first.noted first.found first.err
