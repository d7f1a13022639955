-- One more merge is followed.
use Rattle.std.proofs.Common.{◌-◌, ◌+◌, ◌∙◌, ◌++◌, ap, arith, length}
use Rattle.lits.specs.declared.literal.Lit.{Lit}
use Rattle.lemma_book.specs.Root.{followed}
use Rattle.lemma_book.proofs.RootLemmas.{followed-next, followed-end, followed-root}
use Rattle.lemma_book.proofs.book.Book.path.Goals as goal
use Rattle.lemma_book.proofs.book.Book.path.Goals.{else-loop-step-test, then-loop-step-test+in-None}

pub loop-step-preserved : goal.loop-step-preserved
loop-step-preserved c =
    let es = c.args.self.now.entries in
    ap (λ (l : Lit). c.push.new.self.items ++ followed (length es - (c.loop-step._step + 1)) es l) c.carried-lit.ensures
    ∙ followed-next es (length es) c.loop-step._step c.loop-step.lit _ _ _ c.loop-step.invariant c.merge_of.result c.merge_of.ensures
    (c.in-Some.place, c.in-Some.target) c.in-Some.is (omega (arith, c.len-step-end.ensures)) c.in_ok-push-in-Some.ensures.items

pub returns : goal.returns
returns c =
    let es = c.args.self.now.entries in
    elim c.loop-step-test.branch [
      | else-loop-step-test w ↦ followed-end es (length es) c.loop-step._step c.loop-step.lit _ _ c.loop-step.invariant (omega (arith, c.len-step-end.ensures))
      | then-loop-step-test+in-None w ↦ followed-root es (length es) c.loop-step._step c.loop-step.lit _ _ c.loop-step.invariant w.merge_of.result w.merge_of.ensures
          w.in-None.is
    ]
