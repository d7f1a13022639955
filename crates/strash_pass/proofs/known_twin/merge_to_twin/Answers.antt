-- The way is the gate's.
use Rattle.std.proofs.Common.{◌++◌, [], List, ap, sym, subst}
use Rattle.std.specs.Prelude.{is_some}
use Rattle.std.proofs.lemmas.Result.{on_ok_weaker}
use Rattle.lits.specs.declared.literal.Lit.{Lit}
use Rattle.netlist.specs.Miter.{positive}
use Rattle.strash_pass.specs.Strash.{way_of}
use Rattle.strash_pass.specs.Pass.{IsWay, Merges}
use Rattle.strash_pass.proofs.GateFacts.{is-gate}
use Rattle.strash_pass.proofs.MergedLemmas.{merges-none}
use Rattle.strash_pass.proofs.WayLemmas.{way-of}
use Rattle.strash_pass.proofs.known_twin.merge_to_twin.Goals as goal

pub roots_of-requires-clause-merged : goal.roots_of-requires-clause-merged
roots_of-requires-clause-merged c = merges-none c.args.net.now c.args.book.now.entries _ c.none-merged.ensures

pub merge_twin-requires-clause-merged : goal.merge_twin-requires-clause-merged
merge_twin-requires-clause-merged c = merges-none c.args.net.now c.args.book.now.entries _ c.none-merged.ensures

pub placed-requires : goal.placed-requires
placed-requires c =
    ap is_some (is-gate c.args.net.now c.is_net.ensures c.requires.twin.second c.args.gate c.requires.twin.at_second).left.1

pub placed-requires-2 : goal.placed-requires-2
placed-requires-2 c =
    ap is_some (is-gate c.args.net.now c.is_net.ensures c.requires.twin.second c.args.gate c.requires.twin.at_second).right.1

pub merge_twin-requires-clause-way : goal.merge_twin-requires-clause-way
merge_twin-requires-clause-way c =
    let es = c.args.book.now.entries in
    let twin = c.requires.twin in
    subst (λ (l : List Lit). IsWay c.args.net.now es l c.args.gate) (sym c.in_ok-roots.ensures.way)
    (way-of c.args.net.now c.args.book.now c.requires.legal [] tt twin.second c.args.gate
    (is-gate c.args.net.now c.is_net.ensures twin.second c.args.gate twin.at_second) c.requires.unmerged)

pub returns-clause-ok : goal.returns-clause-ok
returns-clause-ok c =
    let es = c.args.book.now.entries in
    on_ok_weaker c.merge_twin.result
    (λ m. subst (λ (l : List Lit). Merges c.args.net.now c.args.book.now c.merge_twin.new.book (l ++ way_of es c.args.twin) c.args.gate.node
    (positive c.args.twin.node)) c.in_ok-roots.ensures.way m)
    c.merge_twin.ensures.ok

pub position_of-own-requires : goal.position_of-own-requires
position_of-own-requires c =
    ap is_some (is-gate c.args.net.now c.is_net.ensures c.requires.twin.second c.args.gate c.requires.twin.at_second).node
