-- Each round reads one clause more.
use Rattle.std.specs.Prelude.{IfSome}
use Rattle.std.proofs.Common.{◌∙◌, [], ◌∷◌, ◌++◌, List, take, sym, ap, Some, arith}
use Rattle.std.proofs.lemmas.List.{append-nil}
use Rattle.std.proofs.lemmas.Option.{slice_get-get_or}
use Rattle.lits.specs.declared.literal.Lit.{Lit}
use Rattle.lits.specs.declared.step.Step.{Step}
use Rattle.lits.specs.Same.{same_lit, opposite}
use Rattle.unit_prop.specs.New.{IsNew}
use Rattle.unit_prop.specs.Closure.{IsOpen}
use Rattle.unit_prop.specs.Log.{base_clauses, clauses_of}
use Rattle.lemma_book.proofs.NewClauses.{stale-now, new-now, next-clauses, each-next, each-past}
use Rattle.lemma_book.proofs.newness.first_stale.Goals as goal

pub loop-k-init : goal.loop-k-init
loop-k-init c = (
  c.in_ok-clauses.ensures ∙ sym (append-nil (base_clauses c.args.cone.now)),
  λ j below. absurd (omega arith),
)

pub returns-then-not-branch : goal.returns-then-not-branch
returns-then-not-branch c =
    let s = c.index-log-k.result in
    let at = slice_get-get_or c.args.log.now c.loop-k.k s c.loop-k-test.true ∙ ap (λ (x : Step). Some x) (sym c.index-log-k.is) in (
      c.loop-k.invariant.1,
      stale-now c.args.cone.now c.args.log.now c.loop-k.k s at c.as_slice.result.now (c.as_slice.ensures.value ∙ c.loop-k.invariant.0) c.lits.result.now
          c.lits.ensures.lits c.in_ok-is_fresh.field-0 c.args.lit c.if-not-branch.true
          c.in_ok-is_fresh.ensures,
    )

pub loop-k-preserved : goal.loop-k-preserved
loop-k-preserved c =
    let s = c.index-log-k.result in
    let at = slice_get-get_or c.args.log.now c.loop-k.k s c.loop-k-test.true ∙ ap (λ (x : Step). Some x) (sym c.index-log-k.is) in
    let now = new-now c.args.cone.now c.args.log.now c.loop-k.k s at c.as_slice.result.now (c.as_slice.ensures.value ∙ c.loop-k.invariant.0) c.lits.result.now
    c.lits.ensures.lits c.in_ok-is_fresh.field-0 c.args.lit c.if-not-branch.false
    c.in_ok-is_fresh.ensures in (
      c.in_ok-add_copy.ensures
          ∙ ap (λ (l : List (List Lit)). l ++ s.clause ∷ []) c.loop-k.invariant.0 ∙ sym (next-clauses c.args.cone.now c.args.log.now c.loop-k.k s at),
      λ j below. record {
        new = each-next (λ i t. IsNew same_lit opposite (clauses_of c.args.cone.now (take i c.args.log.now)) t.clause) c.args.log.now c.loop-k.k s at now.0
            (λ i less. (c.loop-k.invariant.1 i less).new) j below;
        undecided = each-next (λ i t. IfSome c.args.lit (λ l. IsOpen same_lit opposite (clauses_of c.args.cone.now (take i c.args.log.now)) (l ∷ []))) c.args.log.now c.loop-k.k s at now.1
            (λ i less. (c.loop-k.invariant.1 i less).undecided) j below;
      },
    )

pub returns : goal.returns
returns c =
    λ j. record {
      new = each-past (λ i t. IsNew same_lit opposite (clauses_of c.args.cone.now (take i c.args.log.now)) t.clause) c.args.log.now c.loop-k.k c.loop-k-test.false
          (λ i less. (c.loop-k.invariant.1 i less).new) j;
      undecided = each-past (λ i t. IfSome c.args.lit (λ l. IsOpen same_lit opposite (clauses_of c.args.cone.now (take i c.args.log.now)) (l ∷ []))) c.args.log.now c.loop-k.k c.loop-k-test.false
          (λ i less. (c.loop-k.invariant.1 i less).undecided) j;
    }
