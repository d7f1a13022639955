-- One more merge is followed.
use Rattle.std.proofs.Common.{ℕ, ◌-◌, ◌+◌, ◌∙◌, List, [], ◌∷◌, ◌++◌, refl, ap, sym, arith, length, append_assoc}
use Rattle.std.proofs.lemmas.List.{append-nil}
use Rattle.lits.specs.declared.literal.Lit.{Lit}
use Rattle.lemma_book.specs.Root.{follow, passed}
use Rattle.lemma_book.proofs.RootLemmas.{follow-next, follow-end, follow-root, passed-next, passed-end, passed-root}
use Rattle.lemma_book.proofs.book.Book.root_by.Goals as goal

pub loop-step-init : goal.loop-step-init
loop-step-init c = record {
  root = ap (λ (k : ℕ). follow k c.args.self.now.entries c.args.lit) (omega arith);
  way = (
    [],
    sym (append-nil c.args.passed.now.items),
    ap (λ (k : ℕ). passed k c.args.self.now.entries c.args.lit) (omega arith),
  );
}

pub loop-step-preserved : goal.loop-step-preserved
loop-step-preserved c =
    let es = c.args.self.now.entries in
    let way = c.loop-step.invariant.way in
    record {
      root = ap (λ (l : Lit). follow (length es - (c.loop-step._step + 1)) es l) c.carried-lit.ensures
          ∙ sym (follow-next es (length es) c.loop-step._step c.loop-step.lit c.merge_of.result c.merge_of.ensures (c.in-Some.field-0-0, c.in-Some.target)
          c.in-Some.is (omega (arith, c.len-step-end.ensures)))
          ∙ c.loop-step.invariant.root;
      way = (
        way.0 ++ c.loop-step.lit ∷ [],
        c.in_ok-push-in-Some.ensures.items ∙ ap (λ (ls : List Lit). ls ++ c.loop-step.lit ∷ []) way.1
            ∙ append_assoc c.args.passed.now.items way.0 (c.loop-step.lit ∷ []),
        ap (λ (l : Lit). (way.0 ++ c.loop-step.lit ∷ []) ++ passed (length es - (c.loop-step._step + 1)) es l)
            c.carried-lit.ensures
            ∙ passed-next es (length es) c.loop-step._step c.loop-step.lit way.0 (way.0 ++ c.loop-step.lit ∷ []) _ way.2
            c.merge_of.result c.merge_of.ensures (c.in-Some.field-0-0, c.in-Some.target) c.in-Some.is
            (omega (arith, c.len-step-end.ensures)) refl,
      );
    }

pub returns-in-None-clause-root : goal.returns-in-None-clause-root
returns-in-None-clause-root c =
    let es = c.args.self.now.entries in
    sym (follow-root es (length es) c.loop-step._step c.loop-step.lit c.merge_of.result c.merge_of.ensures c.in-None.is) ∙ c.loop-step.invariant.root

pub returns-in-None-clause-passed : goal.returns-in-None-clause-passed
returns-in-None-clause-passed c =
    let es = c.args.self.now.entries in
    let way = c.loop-step.invariant.way in
    way.1
    ∙ ap (λ (ls : List Lit). c.args.passed.now.items ++ ls)
    (passed-root es (length es) c.loop-step._step c.loop-step.lit way.0 _ way.2 c.merge_of.result c.merge_of.ensures
    c.in-None.is)

pub returns-after-loop-step-clause-root : goal.returns-after-loop-step-clause-root
returns-after-loop-step-clause-root c =
    let es = c.args.self.now.entries in
    sym (follow-end es (length es) c.loop-step._step c.loop-step.lit (omega (arith, c.len-step-end.ensures))) ∙ c.loop-step.invariant.root

pub returns-after-loop-step-clause-passed : goal.returns-after-loop-step-clause-passed
returns-after-loop-step-clause-passed c =
    let es = c.args.self.now.entries in
    let way = c.loop-step.invariant.way in
    way.1
    ∙ ap (λ (ls : List Lit). c.args.passed.now.items ++ ls)
    (passed-end es (length es) c.loop-step._step c.loop-step.lit way.0 _ way.2 (omega (arith, c.len-step-end.ensures)))
