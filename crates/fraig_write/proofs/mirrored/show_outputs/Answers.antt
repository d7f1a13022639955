-- Each output's literals have one root, behind the merges of all gates.
use Rattle.std.proofs.Common.{◌<◌, length, arith}
use Rattle.fraig_write.proofs.MirrorSteps.{more-entry, none-shown, roots-agree, same-roots}
use Rattle.fraig_write.proofs.mirrored.show_outputs.Goals as goal

pub loop-j-init : goal.loop-j-init
loop-j-init c = none-shown c.args.net.now c.requires.asked.net_is c.args.book.now c.requires.up.legal c.requires.up.open_outputs

pub output_entry-requires-clause-output : goal.output_entry-requires-clause-output
output_entry-requires-clause-output c = omega (arith, c.loop-j-test.true, c.outputs-j-end.ensures)

pub output_entry-requires-clause-unsettled : goal.output_entry-requires-clause-unsettled
output_entry-requires-clause-unsettled c = c.loop-j.invariant.open_outputs c.loop-j.j (omega arith)

pub output_entry-requires-clause-roots : goal.output_entry-requires-clause-roots
output_entry-requires-clause-roots c =
    let below : c.loop-j.j < length c.args.net.now.a.outputs = omega (arith, c.loop-j-test.true, c.outputs-j-end.ensures) in
    roots-agree c.args.net.now c.requires.asked.net_is c.args.book.now c.loop-j.j c.loop-j.book c.loop-j.invariant below
    (same-roots c.args.net.now c.requires.given c.requires.staying c.requires.asked c.args.book.now c.requires.up c.loop-j.j below)

pub loop-j-preserved : goal.loop-j-preserved
loop-j-preserved c =
    more-entry c.args.net.now c.requires.asked.net_is c.args.book.now c.loop-j.j c.loop-j.book c.put.new.book c.loop-j.invariant c.in_ok-entry.entry
    c.in_ok-entry.ensures.equal c.in_ok-entry.ensures.few c.in_ok-put.ensures.ok c.put.ensures.legal
