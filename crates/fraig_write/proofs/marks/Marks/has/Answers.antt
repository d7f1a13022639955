-- A node's position is one of the marks.
use Rattle.std.proofs.Common.{◌<◌, ◌∙◌, ℕ, Bool, false, Option, List, length, sym, ap, arith}
use Rattle.std.specs.Prelude.{slice_index_or}
use Rattle.std.specs.Option.{option_map_or}
use Rattle.lits.specs.Same.{same_node}
use Rattle.netlist.specs.Net.{nodes_of}
use Rattle.netlist.proofs.Facts.{at-place}
use Rattle.fraig_write.proofs.MarkLemmas.{same-default}
use Rattle.fraig_write.proofs.marks.Marks.has.Goals as goal

pub index-requires : goal.index-requires
index-requires c =
    let here = at-place (λ n. same_node n c.args.node) (nodes_of c.args.net.now) c.in-Some.position (sym c.position.ensures ∙ c.in-Some.is) in
    omega (arith, here.3, c.requires, ap length c.self.view_is, c.self.inside.marks.ok.0)

pub returns-in-Some : goal.returns-in-Some
returns-in-Some c =
    let p = c.in-Some.position in
    let items = c.self.inside.marks.items in
    let here = at-place (λ n. same_node n c.args.node) (nodes_of c.args.net.now) p (sym c.position.ensures ∙ c.in-Some.is) in
    let inside : p < length items = omega (arith, here.3, c.requires, ap length c.self.view_is) in
    c.index.ensures ∙ same-default items p _ false inside
    ∙ ap (λ (l : List Bool). slice_index_or l p false) c.self.view_is
    ∙ sym (ap (λ (o : Option ℕ). option_map_or (λ q. slice_index_or c.args.self.now q false) o false) (sym c.position.ensures ∙ c.in-Some.is))
