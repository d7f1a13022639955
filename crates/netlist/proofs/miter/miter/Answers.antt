use Rattle.std.proofs.Common.{◌∙◌, ◌++◌, ◌∷◌, List, [], ap, sym, arith}
use Rattle.std.specs.Prelude.{map}
use Rattle.lits.specs.Dimacs.{DimacsLiteral}
use Rattle.lits.specs.declared.node.Side.TheVariants.{A, B}
use Rattle.netlist.specs.Miter.{numbered, unit}
use Rattle.netlist.specs.Net.{bounds_on}
use Rattle.netlist.specs.Numbered.{numbered_at}
use Rattle.netlist.proofs.MiterLemmas.{numbered_at-node, before_none, before_more, before_all}
use Rattle.netlist.proofs.miter.miter.Goals as goal

pub loop-place-init : goal.loop-place-init
loop-place-init c = c.in_ok-clauses.ensures.items ∙ sym (before_none c.args.pair.now)

pub loop-place-preserved : goal.loop-place-preserved
loop-place-preserved c =
    c.in_ok-push_axioms.ensures
    ∙ ap (λ (cs : List (List DimacsLiteral)). c.loop-place.clauses.items ++ cs) (numbered_at-node c.args.pair.now c.node.result c.loop-place.place c.node.ensures)
    ∙ ap (λ (cs : List (List DimacsLiteral)). cs ++ numbered_at c.args.pair.now c.loop-place.place) c.loop-place.invariant
    ∙ sym (before_more c.args.pair.now c.loop-place.place (omega (arith, c.variables-place-end.ensures.count, c.loop-place-test.true)))

pub returns : goal.returns
returns c =
    let net = c.args.pair.now in
    c.in_ok-push.ensures.items
    ∙ ap (λ (cs : List (List DimacsLiteral)). cs ++ c.in_ok-last.last ∷ []) (c.in_ok-push_units-2.ensures
    ∙ ap (λ (cs : List (List DimacsLiteral)). cs ++ map (λ d. map (numbered net) d) (map unit (bounds_on net B))) (c.in_ok-push_units.ensures
    ∙ ap (λ (cs : List (List DimacsLiteral)). cs ++ map (λ d. map (numbered net) d) (map unit (bounds_on net A))) c.loop-place.invariant))
    ∙ rw c.in_ok-last.ensures
    (before_all net c.loop-place.place (omega (arith, c.variables-place-end.ensures.count, c.loop-place-test.false)))
