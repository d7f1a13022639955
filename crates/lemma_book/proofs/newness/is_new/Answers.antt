-- A literal that is lacked makes the clause new; one whose variables are known and of which none is lacked isn't.
use Rattle.std.proofs.Common.{◌∙◌, sym, arith}
use Rattle.std.proofs.lemmas.Option.{slice_get-get_or}
use Rattle.lemma_book.proofs.Telling.{tells-yes, tells-no}
use Rattle.lemma_book.proofs.NewClauses.{IsLacked, strange-old, lacked-new, none-new, lacked-next}
use Rattle.lemma_book.proofs.newness.is_new.Goals as goal

pub returns-then-branch : goal.returns-then-branch
returns-then-branch c =
    lacked-new c.args.clauses.now c.args.clause.now c.loop-lit.lit-index _ (sym c.all_occur.ensures ∙ c.if-not-all_occur.false)
    (slice_get-get_or c.args.clause.now c.loop-lit.lit-index _ c.loop-lit-test.true)
    (tells-yes (IsLacked c.args.clauses.now c.args.clause.now _) c.in_ok-lacks.field-0 c.if-branch.true c.in_ok-lacks.ensures)

pub loop-lit-preserved : goal.loop-lit-preserved
loop-lit-preserved c =
    lacked-next c.args.clauses.now c.args.clause.now c.loop-lit.lit-index _ (slice_get-get_or c.args.clause.now c.loop-lit.lit-index _ c.loop-lit-test.true)
    (tells-no (IsLacked c.args.clauses.now c.args.clause.now _) c.in_ok-lacks.field-0 c.if-branch.false c.in_ok-lacks.ensures) c.loop-lit.invariant

pub returns : goal.returns
returns c = none-new c.args.clauses.now c.args.clause.now (λ i x below at. c.loop-lit.invariant i x (let past = c.loop-lit-test.false in omega (arith, below, past)) at)

pub returns-then-not-all_occur : goal.returns-then-not-all_occur
returns-then-not-all_occur c = strange-old c.args.clauses.now c.args.clause.now (sym c.all_occur.ensures ∙ c.if-not-all_occur.true)
