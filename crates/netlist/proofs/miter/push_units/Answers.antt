use Rattle.std.proofs.Common.{◌≡◌, ◌≤◌, ◌∙◌, ◌++◌, ◌∷◌, Option, Some, List, [], length, refl, ap, sym, subst, arith}
use Rattle.std.specs.Prelude.{IsSome}
use Rattle.std.proofs.lemmas.List.{append-nil, append_assoc}
use Rattle.lits.specs.Dimacs.{DimacsLiteral}
use Rattle.lits.specs.declared.literal.Lit.{Lit}
use Rattle.netlist.specs.Net.{bound_of, circuit_of}
use Rattle.netlist.proofs.BoundLemmas.{bound-below, bound-there}
use Rattle.netlist.proofs.NodesThere.{has-variable}
use Rattle.netlist.proofs.MiterLemmas.{numbered_units, units_none, units_more, units_all}
use Rattle.netlist.proofs.miter.push_units.Goals as goal

pub loop-k-init : goal.loop-k-init
loop-k-init c =
    sym (ap (λ (cs : List (List DimacsLiteral)). c.args.clauses.now.items ++ cs) (units_none c.args.pair.now c.args.side)
    ∙ append-nil c.args.clauses.now.items)

pub unwrap-lit-requires : goal.unwrap-lit-requires
unwrap-lit-requires c =
    let there = bound-below c.args.pair.now c.args.side c.loop-k.k (omega (arith, c.constraints-k-end.ensures.count, c.loop-k-test.true)) in
    subst (λ (o : Option Lit). IsSome o) (sym (c.constraint.ensures ∙ there)) refl

pub numbered-requires-clause-there : goal.numbered-requires-clause-there
numbered-requires-clause-there c =
    let at : bound_of c.args.pair.now c.args.side c.loop-k.k ≡ Some c.unwrap-lit.result = sym c.constraint.ensures ∙ c.unwrap-lit.ensures in
    (has-variable c.args.pair.now c.unwrap-lit.result.node (bound-there c.args.pair.now c.requires c.args.side c.loop-k.k c.unwrap-lit.result at), tt)

pub loop-k-preserved : goal.loop-k-preserved
loop-k-preserved c =
    let at : bound_of c.args.pair.now c.args.side c.loop-k.k ≡ Some c.unwrap-lit.result = sym c.constraint.ensures ∙ c.unwrap-lit.ensures in
    let step = units_more c.args.pair.now c.args.side c.loop-k.k c.unwrap-lit.result at in
    c.in_ok-push.ensures.items
    ∙ ap (λ (cs : List (List DimacsLiteral)). cs ++ c.in_ok-clause.clause ∷ []) c.loop-k.invariant
    ∙ append_assoc c.args.clauses.now.items (numbered_units c.args.pair.now c.args.side c.loop-k.k) (c.in_ok-clause.clause ∷ [])
    ∙ ap (λ (cs : List (List DimacsLiteral)). c.args.clauses.now.items ++ cs) (rw c.in_ok-clause.ensures (sym step))

pub returns : goal.returns
returns c =
    let past : length (circuit_of c.args.pair.now c.args.side).constraints ≤ c.loop-k.k = omega (arith, c.constraints-k-end.ensures.count, c.loop-k-test.false) in
    c.loop-k.invariant
    ∙ ap (λ (cs : List (List DimacsLiteral)). c.args.clauses.now.items ++ cs) (units_all c.args.pair.now c.args.side c.loop-k.k past)
