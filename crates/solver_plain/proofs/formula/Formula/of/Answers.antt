use Rattle.std.proofs.Common.{◌∙◌, refl, sym, ap, arith}
use Rattle.std.proofs.lemmas.List.{take_all}
use Rattle.solver_plain.specs.Formula.{variables_of}
use Rattle.solver_plain.proofs.FormulaLemmas.{variables_of-next, copies-next}
use Rattle.solver_plain.proofs.formula.Formula.of.Goals as goal

pub loop-named-preserved : goal.loop-named-preserved
loop-named-preserved c = record {
  variables = variables_of-next c.args.base.now c.loop-named.variables c.put_variables.new.variables c.loop-named.named-index
      c.named-item.result (omega arith) c.named-item.is c.loop-named.invariant.variables
      (λ seen at. rw c.lits.ensures.lits at (c.in_ok-put_variables.ensures seen at));
  copied = copies-next c.args.base.now c.loop-named.copies.items c.push.new.self.items c.loop-named.named-index c.named-item.result
      c.in_ok-clause.clause (omega arith) c.named-item.is c.loop-named.invariant.copied c.in_ok-clause.ensures c.in_ok-push.ensures.items;
}

pub returns : goal.returns
returns c =
    let all = take_all c.loop-named.named-index c.args.base.now c.loop-named-test.false in
    rw (c.loop-named.invariant.copied ∙ all, c.new.ensures.items) refl

pub invariant_of-result : goal.invariant_of-result
invariant_of-result c =
    let all = take_all c.loop-named.named-index c.args.base.now c.loop-named-test.false in
    let same = c.loop-named.invariant.copied ∙ all in
    record {
      base_is = rw same c.requires;
      variables_are = c.loop-named.invariant.variables ∙ ap variables_of (all ∙ sym same);
      within = rw c.new.ensures.items tt;
    }
