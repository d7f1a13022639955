-- A marked gate is passed when the roots of its fanins are marked.
use Rattle.std.proofs.Common.{◌≡◌, ◌∙◌, true, List, [], ◌∷◌, sym, ap, subst}
use Rattle.std.specs.Prelude.{is_some}
use Rattle.std.specs.List.{AllByRecursion}
use Rattle.std.proofs.lemmas.Option.{same_Some}
use Rattle.lits.specs.declared.node.Side.TheVariants.{A}
use Rattle.lits.specs.declared.node.Node.TheVariants.{Gate}
use Rattle.lits.specs.declared.literal.Lit.{Lit}
use Rattle.netlist.specs.declared.gate.Definition.{Definition}
use Rattle.netlist.specs.Net.{definition_of}
use Rattle.netlist.proofs.Facts.{gate-definition}
use Rattle.lemma_book.specs.Root.{root_of}
use Rattle.fraig_write.specs.Marks.{is_in, AreMarked}
use Rattle.fraig_write.specs.Reduced.{root_nodes}
use Rattle.fraig_write.proofs.NodesOfA.{fanins-at, fanins-in}
use Rattle.fraig_write.proofs.MarkLemmas.{marks-more, walk-next}
use Rattle.fraig_write.proofs.marks.Marks.mark_fanins_of.Goals as goal

pub unwrap-definition-requires : goal.unwrap-definition-requires
unwrap-definition-requires c =
    ap is_some (c.definition.ensures ∙ (gate-definition c.args.net.now c.requires.net A c.args.k c.gate_at-gate.result c.gate_at-gate.ensures).0)

pub mark_root-requires-clause-there : goal.mark_root-requires-clause-there
mark_root-requires-clause-there c =
    let net = c.args.net.now in
    let g = c.gate_at-gate.result in
    let d = definition_of A net.a g in
    let same : d ≡ c.unwrap-definition.result =
    same_Some d c.unwrap-definition.result
    (sym (gate-definition net c.requires.net A c.args.k g c.gate_at-gate.ensures).0 ∙ sym c.definition.ensures ∙ c.unwrap-definition.ensures) in
    let all = subst (λ (ls : List Lit). AllByRecursion (λ l. is_in net.a l.node ≡ true) ls)
    (fanins-at net c.requires.net c.args.k g c.gate_at-gate.ensures) (fanins-in net c.requires.net (Gate A g.var)) in
    subst (λ (x : Definition). is_in net.a x.left.node ≡ true) same all.0

pub mark_root-requires-2-clause-there : goal.mark_root-requires-2-clause-there
mark_root-requires-2-clause-there c =
    let net = c.args.net.now in
    let g = c.gate_at-gate.result in
    let d = definition_of A net.a g in
    let same : d ≡ c.unwrap-definition.result =
    same_Some d c.unwrap-definition.result
    (sym (gate-definition net c.requires.net A c.args.k g c.gate_at-gate.ensures).0 ∙ sym c.definition.ensures ∙ c.unwrap-definition.ensures) in
    let all = subst (λ (ls : List Lit). AllByRecursion (λ l. is_in net.a l.node ≡ true) ls)
    (fanins-at net c.requires.net c.args.k g c.gate_at-gate.ensures) (fanins-in net c.requires.net (Gate A g.var)) in
    subst (λ (x : Definition). is_in net.a x.right.node ≡ true) same all.1.0

pub returns : goal.returns
returns c =
    let net = c.args.net.now in
    let entries = c.args.book.now.entries in
    let g = c.gate_at-gate.result in
    let d = definition_of A net.a g in
    let e = c.unwrap-definition.result in
    let same : d ≡ e =
    same_Some d e (sym (gate-definition net c.requires.net A c.args.k g c.gate_at-gate.ensures).0 ∙ sym c.definition.ensures ∙ c.unwrap-definition.ensures) in
    let marked = marks-more net ((root_of entries e.left).node ∷ []) ((root_of entries e.right).node ∷ [])
    c.args.self.now c.mark_root.new.self c.mark_root-2.new.self c.mark_root.ensures c.mark_root-2.ensures in
    walk-next net c.requires.net c.args.book.now c.requires.legal c.args.k g c.args.self.now c.mark_root-2.new.self c.requires.walked c.gate_at-gate.ensures
    (sym c.has.ensures ∙ c.if-not-has.false)
    (subst (λ (ls : List Lit). AreMarked net (root_nodes entries ls) c.args.self.now c.mark_root-2.new.self)
    (sym (fanins-at net c.requires.net c.args.k g c.gate_at-gate.ensures))
    (subst (λ (x : Definition). AreMarked net (root_nodes entries (x.left ∷ x.right ∷ [])) c.args.self.now c.mark_root-2.new.self) (sym same) marked))
