-- The root of one literal more is marked.
use Rattle.std.proofs.Common.{◌∙◌, List, [], ◌∷◌, ◌++◌, map, take, sym, ap, subst}
use Rattle.std.proofs.lemmas.List.{map_more}
use Rattle.lits.specs.declared.node.Side.TheVariants.{A}
use Rattle.lits.specs.declared.node.Node.{Node}
use Rattle.lits.specs.declared.literal.Lit.{Lit}
use Rattle.netlist.specs.Net.{lit_named}
use Rattle.fraig_write.specs.Marks.{AreMarked}
use Rattle.fraig_write.specs.Reduced.{root_nodes}
use Rattle.fraig_write.proofs.NodesOfA.{lit-named}
use Rattle.fraig_write.proofs.MarkLemmas.{marks-more, roots-joined}
use Rattle.fraig_write.proofs.marks.Marks.mark_roots.Goals as goal

pub mark_root-requires-clause-there : goal.mark_root-requires-clause-there
mark_root-requires-clause-there c = (lit-named c.args.net.now _ c.unwrap-lit.result (sym c.lit.ensures ∙ c.unwrap-lit.ensures)).1

pub loop-literal-preserved : goal.loop-literal-preserved
loop-literal-preserved c =
    let net = c.args.net.now in
    let entries = c.args.book.now.entries in
    let named = lit_named A net.a in
    let i = c.loop-literal.literal-index in
    let l = c.unwrap-lit.result in
    let first = map named (take i c.args.literals.now) in
    let same = (lit-named net _ l (sym c.lit.ensures ∙ c.unwrap-lit.ensures)).0 in
    subst (λ (ls : List Lit). AreMarked net (root_nodes entries ls) c.args.self.now c.mark_root.new.self)
    (ap (λ (m : Lit). first ++ m ∷ []) (sym same) ∙ sym (map_more named c.args.literals.now i _ c.loop-literal-test.true))
    (subst (λ (ns : List Node). AreMarked net ns c.args.self.now c.mark_root.new.self) (sym (roots-joined entries first (l ∷ [])))
    (marks-more net (root_nodes entries first) (root_nodes entries (l ∷ [])) c.args.self.now c.loop-literal.self c.mark_root.new.self
    c.loop-literal.invariant c.mark_root.ensures))
