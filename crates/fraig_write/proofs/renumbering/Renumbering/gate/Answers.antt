-- The gate is found with its fanins.
use Rattle.std.proofs.Common.{◌≡◌, ◌∙◌, ℕ, Some, length, sym, ap, ap₂, subst}
use Rattle.std.specs.Prelude.{is_some, max, min}
use Rattle.std.proofs.lemmas.Option.{same_Some}
use Rattle.lits.specs.declared.node.Side.TheVariants.{A}
use Rattle.lits.specs.declared.node.Node.TheVariants.{Gate}
use Rattle.netlist.specs.declared.gate.Definition.{Definition}
use Rattle.netlist.specs.Net.{definition_of}
use Rattle.netlist.proofs.Facts.{gate-definition}
use Rattle.lemma_book.specs.Root.{root_of}
use Rattle.fraig_write.specs.Reduced.{new_variable, renumbered, root_renumbered}
use Rattle.fraig_write.specs.Renumbering.{HasNumber}
use Rattle.fraig_write.proofs.NumberLemmas.{same-gate}
use Rattle.fraig_write.proofs.renumbering.Renumbering.gate.Goals as goal

pub unwrap-definition-requires : goal.unwrap-definition-requires
unwrap-definition-requires c =
    let n = c.requires.numbers in
    ap is_some (c.definition.ensures ∙ (gate-definition c.args.net.now c.requires.net A n.place c.args.gate n.at).0)

pub root-left-requires : goal.root-left-requires
root-left-requires c =
    let n = c.requires.numbers in
    let found : c.definition.result ≡ Some c.unwrap-definition.result = c.unwrap-definition.ensures in
    let d = definition_of A c.args.net.now.a c.args.gate in
    let same : d ≡ c.unwrap-definition.result =
    same_Some d c.unwrap-definition.result (sym (gate-definition c.args.net.now c.requires.net A n.place c.args.gate n.at).0 ∙ sym c.definition.ensures ∙ found) in
    subst (λ (x : Definition). HasNumber c.args.self.now (root_of c.args.book.now.entries x.left).node) same n.left

pub root-right-requires : goal.root-right-requires
root-right-requires c =
    let n = c.requires.numbers in
    let found : c.definition.result ≡ Some c.unwrap-definition.result = c.unwrap-definition.ensures in
    let d = definition_of A c.args.net.now.a c.args.gate in
    let same : d ≡ c.unwrap-definition.result =
    same_Some d c.unwrap-definition.result (sym (gate-definition c.args.net.now c.requires.net A n.place c.args.gate n.at).0 ∙ sym c.definition.ensures ∙ found) in
    subst (λ (x : Definition). HasNumber c.args.self.now (root_of c.args.book.now.entries x.right).node) same n.right

pub returns : goal.returns
returns c =
    let n = c.requires.numbers in
    let a = c.args.net.now.a in
    let entries = c.args.book.now.entries in
    let staying = c.args.self.now.staying in
    let inputs = length a.inputs in
    let d = definition_of A a c.args.gate in
    let e = c.unwrap-definition.result in
    let same : d ≡ e =
    same_Some d e (sym (gate-definition c.args.net.now c.requires.net A n.place c.args.gate n.at).0 ∙ sym c.definition.ensures ∙ c.unwrap-definition.ensures) in
    let left : c.root-left.result ≡ root_renumbered a entries staying c.args.gate.left =
    c.root-left.ensures ∙ ap (λ (k : ℕ). renumbered k staying (root_of entries e.left)) c.requires.inputs
    ∙ ap (λ (x : Definition). renumbered inputs staying (root_of entries x.left)) (sym same) in
    let right : c.root-right.result ≡ root_renumbered a entries staying c.args.gate.right =
    c.root-right.ensures ∙ ap (λ (k : ℕ). renumbered k staying (root_of entries e.right)) c.requires.inputs
    ∙ ap (λ (x : Definition). renumbered inputs staying (root_of entries x.right)) (sym same) in
    same-gate c.variable.result (new_variable inputs staying (Gate A c.args.gate.var))
    c.max.result (max (root_renumbered a entries staying c.args.gate.left) (root_renumbered a entries staying c.args.gate.right))
    c.min.result (min (root_renumbered a entries staying c.args.gate.left) (root_renumbered a entries staying c.args.gate.right))
    (c.variable.ensures.variable ∙ ap (λ (k : ℕ). new_variable k staying (Gate A c.args.gate.var)) c.requires.inputs)
    (c.max.ensures ∙ ap₂ max left right) (c.min.ensures ∙ ap₂ min left right)
