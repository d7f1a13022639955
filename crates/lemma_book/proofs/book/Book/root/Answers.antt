-- One more merge is followed.
use Rattle.std.proofs.Common.{◌-◌, ◌+◌, ◌∙◌, ap, sym, arith, length}
use Rattle.lits.specs.declared.literal.Lit.{Lit}
use Rattle.lemma_book.specs.Root.{follow}
use Rattle.lemma_book.proofs.RootLemmas.{follow-next, follow-end, follow-root}
use Rattle.lemma_book.proofs.book.Book.root.Goals as goal

pub returns-in-None : goal.returns-in-None
returns-in-None c =
    let es = c.args.self.now.entries in
    sym (follow-root es (length es) c.loop-step._step c.loop-step.lit c.merge_of.result c.merge_of.ensures c.in-None.is) ∙ c.loop-step.invariant

pub loop-step-preserved : goal.loop-step-preserved
loop-step-preserved c =
    let es = c.args.self.now.entries in
    ap (λ (l : Lit). follow (length es - (c.loop-step._step + 1)) es l) c.carried-lit.ensures
    ∙ sym (follow-next es (length es) c.loop-step._step c.loop-step.lit c.merge_of.result c.merge_of.ensures (c.in-Some.field-0-0, c.in-Some.target)
    c.in-Some.is (omega (arith, c.len-step-end.ensures)))
    ∙ c.loop-step.invariant

pub returns : goal.returns
returns c =
    let es = c.args.self.now.entries in
    sym (follow-end es (length es) c.loop-step._step c.loop-step.lit (omega (arith, c.len-step-end.ensures))) ∙ c.loop-step.invariant
