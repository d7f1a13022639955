-- The root of a literal over a node of A has a position.
use Rattle.std.proofs.Common.{◌≡◌, ◌<◌, ◌∙◌, Bool, true, Some, List, length, sym, ap, arith}
use Rattle.std.specs.Prelude.{is_some, slice_set}
use Rattle.std.proofs.lemmas.List.{length-set}
use Rattle.lits.specs.Same.{same_node}
use Rattle.lits.specs.declared.literal.Lit.{Lit}
use Rattle.netlist.specs.Net.{nodes_of, position_of}
use Rattle.netlist.proofs.Facts.{at-place}
use Rattle.lemma_book.specs.Root.{root_of}
use Rattle.fraig_write.proofs.NodesOfA.{in-below, root-in}
use Rattle.fraig_write.proofs.MarkLemmas.{mark-one}
use Rattle.fraig_write.proofs.marks.Marks.mark_root.Goals as goal

pub unwrap-position-requires : goal.unwrap-position-requires
unwrap-position-requires c =
    let root = root_of c.args.book.now.entries c.args.lit in
    let place = in-below c.args.net.now root.node (root-in c.args.net.now c.args.book.now c.requires.legal c.args.lit c.requires.there) in
    ap is_some (c.position.ensures ∙ ap (λ (l : Lit). position_of c.args.net.now l.node) c.root.ensures ∙ place.1)

pub index_mut-requires : goal.index_mut-requires
index_mut-requires c =
    let found : c.position.result ≡ Some c.unwrap-position.result = cc c.unwrap-position.ensures in
    let here = at-place (λ n. same_node n c.root.result.node) (nodes_of c.args.net.now) c.unwrap-position.result (sym c.position.ensures ∙ found) in
    omega (arith, here.3, c.requires.room, ap length c.self.view_is, c.self.inside.marks.ok.0)

pub returns : goal.returns
returns c =
    let found : c.position.result ≡ Some c.unwrap-position.result = cc c.unwrap-position.ensures in
    let p = c.unwrap-position.result in
    let here = at-place (λ n. same_node n c.root.result.node) (nodes_of c.args.net.now) p (sym c.position.ensures ∙ found) in
    let root = root_of c.args.book.now.entries c.args.lit in
    let at : position_of c.args.net.now root.node ≡ Some p =
    ap (λ (l : Lit). position_of c.args.net.now l.node) (sym c.root.ensures) ∙ sym c.position.ensures ∙ found in
    let within : p < length c.args.self.now = omega (arith, here.3, c.requires.room) in
    let old = c.self.inside.marks.items in
    mark-one c.args.net.now root.node p c.args.self.now (slice_set old p true) at within
    (ap (λ (l : List Bool). slice_set l p true) c.self.view_is) (length-set old p true ∙ ap length c.self.view_is)
