use Rattle.std.proofs.Common.{◌≡◌, ap, ◌∙◌, map, arith, List, [], ◌<◌, length, get_or, refl}
use Rattle.std.proofs.lemmas.List.{take_all}
use Rattle.flat_base.specs.Flat.{Coded, named_by, clause_at}
use Rattle.flat_base.proofs.FlatLemmas.{listed-next}
use Rattle.flat_base.proofs.flat_base.FlatBase.listed.Goals as goal

pub loop-number-preserved : goal.loop-number-preserved
loop-number-preserved c =
    let nodes = c.args.self.now.nodes in
    let cs = c.args.self.now.clauses in
    let at = c.loop-number.number in
    let none : Coded = record { codes = []; by = c.name-by.result } in
    let below : at < length cs = omega (arith, c.loop-number-test.true, c.len-number-end.ensures) in
    let clause : c.in_ok-clause.clause ≡ clause_at nodes (get_or cs at none).codes =
    c.in_ok-clause.ensures ∙ rw (c.nodes.ensures.nodes, c.codes.ensures.codes none) refl in
    rw (c.in_ok-push.ensures.items, c.loop-number.invariant) (listed-next nodes cs at c.in_ok-clause.clause c.name-by.result none below clause (c.name-by.ensures none))

pub returns : goal.returns
returns c = c.loop-number.invariant
    ∙ ap (λ (cs : List Coded). map (named_by c.args.self.now.nodes) cs) (take_all c.loop-number.number c.args.self.now.clauses (omega (arith, c.loop-number-test.false, c.len-number-end.ensures)))
