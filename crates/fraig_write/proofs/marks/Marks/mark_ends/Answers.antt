-- The walk begins with the roots of outputs and constraints.
use Rattle.std.proofs.Common.{ℕ, List, ◌∙◌, map, ap, subst}
use Rattle.lits.specs.declared.node.Side.TheVariants.{A}
use Rattle.netlist.specs.Circuit.{Aig}
use Rattle.netlist.specs.Net.{lit_named}
use Rattle.fraig_write.specs.Marks.{AreMarked}
use Rattle.fraig_write.specs.Reduced.{root_nodes}
use Rattle.fraig_write.proofs.MarkLemmas.{walk-start}
use Rattle.fraig_write.proofs.marks.Marks.mark_ends.Goals as goal

pub returns : goal.returns
returns c =
    let net = c.args.net.now in
    let entries = c.args.book.now.entries in
    let named = lit_named A net.a in
    let mid = c.mark_roots.new.self in
    walk-start net c.requires.net c.args.book.now c.requires.legal c.args.self.now mid c.mark_roots-2.new.self c.requires.room c.requires.none
    (subst (λ (xs : List ℕ). AreMarked net (root_nodes entries (map named xs)) c.args.self.now mid)
    (c.outputs.ensures.outputs ∙ ap (λ (x : Aig). x.outputs) c.circuit-a.ensures.circuit) c.mark_roots.ensures)
    (subst (λ (xs : List ℕ). AreMarked net (root_nodes entries (map named xs)) mid c.mark_roots-2.new.self)
    (c.constraints.ensures.constraints ∙ ap (λ (x : Aig). x.constraints) c.circuit-a.ensures.circuit) c.mark_roots-2.ensures)
