use Rattle.std.proofs.Common.{◌≡◌, ◌≤◌, ◌∙◌, ◌++◌, ◌∷◌, List, [], Some, length, ap, sym, arith, subst}
use Rattle.std.proofs.lemmas.List.{append-nil, append_assoc}
use Rattle.std.specs.Prelude.{map}
use Rattle.lits.specs.Dimacs.{DimacsLiteral}
use Rattle.lits.specs.declared.literal.Lit.{Lit}
use Rattle.netlist.specs.Miter.{axioms_of, axiom_of, numbered}
use Rattle.netlist.specs.Numbered.{AreThere}
use Rattle.netlist.proofs.MiterLemmas.{numbered_axioms, axioms_none, axioms_some, axioms_all, axiom-at, axiom-there}
use Rattle.netlist.proofs.miter.push_axioms.Goals as goal

pub loop-axiom-init : goal.loop-axiom-init
loop-axiom-init c =
    sym (ap (λ (cs : List (List DimacsLiteral)). c.args.clauses.now.items ++ cs) (axioms_none c.args.pair.now c.args.node)
    ∙ append-nil c.args.clauses.now.items)

pub numbered-requires-clause-there : goal.numbered-requires-clause-there
numbered-requires-clause-there c =
    let whole = c.as_slice-axiom-items.ensures.clauses ∙ c.axioms-axioms.ensures in
    let at : axiom_of c.args.pair.now c.args.node c.loop-axiom.axiom-index ≡ Some c.axiom-item.result =
    axiom-at c.args.pair.now c.args.node c.loop-axiom.axiom-index c.axiom-item.result _ whole (omega arith) c.axiom-item.is in
    subst (λ (ls : List Lit). AreThere c.args.pair.now ls) (sym c.lits.ensures.lits)
    (axiom-there c.args.pair.now c.args.node c.loop-axiom.axiom-index c.axiom-item.result c.requires at)

pub loop-axiom-preserved : goal.loop-axiom-preserved
loop-axiom-preserved c =
    let whole = c.as_slice-axiom-items.ensures.clauses ∙ c.axioms-axioms.ensures in
    let at : axiom_of c.args.pair.now c.args.node c.loop-axiom.axiom-index ≡ Some c.axiom-item.result =
    axiom-at c.args.pair.now c.args.node c.loop-axiom.axiom-index c.axiom-item.result _ whole (omega arith) c.axiom-item.is in
    let step = axioms_some c.args.pair.now c.args.node c.loop-axiom.axiom-index c.axiom-item.result at in
    let clause : c.in_ok-clause.clause ≡ map (numbered c.args.pair.now) c.axiom-item.result =
    c.in_ok-clause.ensures ∙ ap (map (numbered c.args.pair.now)) c.lits.ensures.lits in
    c.in_ok-push.ensures.items
    ∙ ap (λ (cs : List (List DimacsLiteral)). cs ++ c.in_ok-clause.clause ∷ []) c.loop-axiom.invariant
    ∙ append_assoc c.args.clauses.now.items (numbered_axioms c.args.pair.now c.args.node c.loop-axiom.axiom-index) (c.in_ok-clause.clause ∷ [])
    ∙ ap (λ (cs : List (List DimacsLiteral)). c.args.clauses.now.items ++ cs) (rw clause (sym step))

pub returns : goal.returns
returns c =
    let whole = c.as_slice-axiom-items.ensures.clauses ∙ c.axioms-axioms.ensures in
    let all : length (axioms_of c.args.pair.now c.args.node) ≤ c.loop-axiom.axiom-index = omega (arith, ap length whole) in
    c.loop-axiom.invariant
    ∙ ap (λ (cs : List (List DimacsLiteral)). c.args.clauses.now.items ++ cs) (axioms_all c.args.pair.now c.args.node c.loop-axiom.axiom-index all)
