-- The output's cone is the one over which the log is judged.
use Rattle.std.proofs.Common.{None, Some, take, sym, subst}
use Rattle.lits.specs.declared.literal.Lit.{Lit}
use Rattle.unit_prop.specs.Log.{base_clause}
use Rattle.lemma_book.specs.Cone.{IsOutputCone}
use Rattle.lemma_book.specs.Judging.{IsFirstBad, IsFirstPlace, IsFresh}
use Rattle.lemma_book.proofs.Judged.{output-below, out_spent-bad, out_spent-stale, out_spent-good}
use Rattle.lemma_book.proofs.judge.judge_out_spent.Goals as goal

pub output_cone-requires-clause-there : goal.output_cone-requires-clause-there
output_cone-requires-clause-there c =
    output-below c.args.net.now c.args.book.now c.args.output c.args.seen c.args.log.now c.requires.free

pub returns-in-Some : goal.returns-in-Some
returns-in-Some c =
    let is_cone = subst (IsOutputCone c.args.net.now (take c.args.seen c.args.book.now.entries) c.args.output) (sym c.as_slice-cone.ensures.value) c.in_ok-cone.ensures in
    out_spent-bad c.args.net.now c.args.book.now c.args.output c.args.seen c.args.log.now c.requires.free c.as_slice-cone.result.now is_cone c.in-Some.k c.in-Some.bad
    (subst (IsFirstBad (base_clause c.as_slice-cone.result.now) c.args.log.now) c.in-Some.is c.in_ok-k.ensures)

pub returns-in-Some-2 : goal.returns-in-Some-2
returns-in-Some-2 c =
    let is_cone = subst (IsOutputCone c.args.net.now (take c.args.seen c.args.book.now.entries) c.args.output) (sym c.as_slice-cone.ensures.value) c.in_ok-cone.ensures in
    out_spent-stale c.args.net.now c.args.book.now c.args.output c.args.seen c.args.log.now c.requires.free c.as_slice-cone.result.now is_cone c.in-Some-2.k
    (subst (IsFirstBad (base_clause c.as_slice-cone.result.now) c.args.log.now) c.in_default.is c.in_ok-k.ensures)
    (subst (λ (l : Lit). IsFirstPlace (IsFresh c.as_slice-cone.result.now (Some l) c.args.log.now) (Some c.in-Some-2.k)) c.positive-differs.ensures
    (subst (IsFirstPlace (IsFresh c.as_slice-cone.result.now (Some c.positive-differs.result) c.args.log.now)) c.in-Some-2.is c.in_ok-k-2.ensures))

pub returns : goal.returns
returns c =
    let is_cone = subst (IsOutputCone c.args.net.now (take c.args.seen c.args.book.now.entries) c.args.output) (sym c.as_slice-cone.ensures.value) c.in_ok-cone.ensures in
    out_spent-good c.args.net.now c.args.book.now c.args.output c.args.seen c.args.log.now c.requires.free c.as_slice-cone.result.now is_cone
    (subst (IsFirstBad (base_clause c.as_slice-cone.result.now) c.args.log.now) c.in_default.is c.in_ok-k.ensures)
    (subst (λ (l : Lit). IsFirstPlace (IsFresh c.as_slice-cone.result.now (Some l) c.args.log.now) None) c.positive-differs.ensures
    (subst (IsFirstPlace (IsFresh c.as_slice-cone.result.now (Some c.positive-differs.result) c.args.log.now)) c.in-None.is c.in_ok-k-2.ensures))
