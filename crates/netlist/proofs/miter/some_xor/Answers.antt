use Rattle.std.proofs.Common.{◌≡◌, ◌∙◌, ◌++◌, ◌∷◌, List, [], ap, sym, subst, arith}
use Rattle.std.specs.Prelude.{IfOk}
use Rattle.lits.specs.Clause.{IsClause}
use Rattle.lits.specs.Dimacs.{DimacsLiteral}
use Rattle.lits.specs.Same.{same_dim, opposite_dim}
use Rattle.netlist.proofs.MiterLemmas.{xors_none, xors_more, xors_all, xor-there, xors_clause}
use Rattle.netlist.proofs.miter.some_xor.Goals as goal

pub loop-j-init : goal.loop-j-init
loop-j-init c = c.new-numbers.ensures.items ∙ sym (xors_none c.args.pair.now)

pub number-requires : goal.number-requires
number-requires c = xor-there c.args.pair.now c.loop-j.j (omega (arith, c.sizes-j-end.ensures.outputs, c.loop-j-test.true))

pub loop-j-preserved : goal.loop-j-preserved
loop-j-preserved c =
    c.in_ok-push.ensures.items
    ∙ ap (λ (ds : List DimacsLiteral). ds ++ c.number.result ∷ []) c.loop-j.invariant
    ∙ rw c.number.ensures (sym (xors_more c.args.pair.now c.loop-j.j))

pub from_slice-requires : goal.from_slice-requires
from_slice-requires c =
    subst (λ (ds : List DimacsLiteral). IsClause same_dim opposite_dim ds) (sym (c.as_slice.ensures.value ∙ c.loop-j.invariant))
    (xors_clause c.args.pair.now c.loop-j.j c.sizes-j-end.ensures.net_is
    (omega (arith, c.sizes-j-end.ensures.outputs, c.loop-j-test.false)))

pub returns : goal.returns
returns c =
    subst (λ (ds : List DimacsLiteral). IfOk c.from_slice.result (λ d. d ≡ ds))
    (c.as_slice.ensures.value ∙ c.loop-j.invariant
    ∙ xors_all c.args.pair.now c.loop-j.j (omega (arith, c.sizes-j-end.ensures.outputs, c.loop-j-test.false)))
    c.from_slice.ensures
