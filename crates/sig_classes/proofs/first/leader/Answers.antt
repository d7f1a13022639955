use Rattle.std.proofs.Common.{◌≡◌, ◌∙◌, ◌<◌, ◌&&◌, Bool, true, false, Some, length, sym, subst, arith}
use Rattle.std.proofs.lemmas.Bool.{and_parts}
use Rattle.lits.specs.declared.node.Node.{Node}
use Rattle.lits.specs.declared.literal.Lit.{Lit}
use Rattle.netlist.specs.Net.{nodes_of, position_of}
use Rattle.netlist.proofs.Facts.{node-at}
use Rattle.sig_classes.specs.Leader.{IsLeader}
use Rattle.sig_classes.specs.Chains.{are_alike}
use Rattle.sig_classes.specs.Pass.{root_at, lit_between}
use Rattle.sig_classes.proofs.LeaderLemmas.{place-inside, leader-at}
use Rattle.sig_classes.proofs.RootLemmas.{root-alike}
use Rattle.sig_classes.proofs.first.leader.Goals as goal

second : (a b : Bool) → (a && b) ≡ false → a ≡ true → b ≡ false
second true b e f = e
second false b e f = cc

pub leads-requires-clause-place : goal.leads-requires-clause-place
leads-requires-clause-place c =
    place-inside c.args.net.now c.args.node c.unwrap-place.result (sym c.position.ensures ∙ cc c.unwrap-place.ensures)

pub lit_between-requires-clause-position : goal.lit_between-requires-clause-position
lit_between-requires-clause-position c =
    place-inside c.args.net.now c.args.node c.unwrap-place.result (sym c.position.ensures ∙ cc c.unwrap-place.ensures)

pub returns-then-leads : goal.returns-then-leads
returns-then-leads c = λ patterns are whole.
    let net = c.args.net.now in
    let entries = c.args.book.now.entries in
    let sigs = c.args.sigs.now in
    let place = c.unwrap-place.result in
    let q = c.loop-position.position in
    let found : position_of net c.args.node ≡ Some c.unwrap-place.result = sym c.position.ensures ∙ cc c.unwrap-place.ensures in
    let parts = and_parts (root_at net entries c.loop-position.position) (are_alike sigs c.loop-position.position c.unwrap-place.result) (sym c.leads.ensures ∙ c.if-leads.true) in
    let inside : c.loop-position.position < length (nodes_of net) = omega (arith, c.loop-position-test.true, c.positions-position-end.ensures) in
    subst (λ (l : Lit). IsLeader net entries patterns c.args.node l) (sym c.lit_between.ensures)
    (subst (λ (n : Node). IsLeader net entries patterns n (lit_between net sigs c.loop-position.position c.unwrap-place.result)) (node-at net c.args.node c.unwrap-place.result found)
    (leader-at net c.is_net.ensures entries patterns sigs are c.unwrap-place.result c.loop-position.position (place-inside net c.args.node c.unwrap-place.result found) inside
    parts.0 parts.1 (λ r less root. second (root_at net entries r) (are_alike sigs r c.unwrap-place.result) (c.loop-position.invariant r less) root)))

pub returns : goal.returns
returns c = λ patterns are whole.
    let net = c.args.net.now in
    let found : position_of net c.args.node ≡ Some c.unwrap-place.result = sym c.position.ensures ∙ cc c.unwrap-place.ensures in
    let root = root-alike net c.is_net.ensures c.args.book.now c.requires.legal patterns c.args.sigs.now are whole c.roots_keep_values.ensures c.args.node c.unwrap-place.result found in
    let below : root.0 < c.loop-position.position = omega (arith, root.1, c.loop-position-test.false, c.positions-position-end.ensures) in
    let none : are_alike c.args.sigs.now root.0 c.unwrap-place.result ≡ false =
    second (root_at net c.args.book.now.entries root.0) (are_alike c.args.sigs.now root.0 c.unwrap-place.result) (c.loop-position.invariant root.0 below) root.2 in
    let f : true ≡ false = sym root.3 ∙ none in cc
