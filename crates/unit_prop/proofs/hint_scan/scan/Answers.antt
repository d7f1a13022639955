use Rattle.std.proofs.Common.{sym}
use Rattle.unit_prop.proofs.HintScanLemmas.{scanning-start, none-settles, asking-found, scanning-next, scanning-falls, scanning-last, scanning-clash, scans-step}
use Rattle.unit_prop.proofs.hint_scan.scan.Goals as goal

pub loop-hints-init : goal.loop-hints-init
loop-hints-init c = rw (c.in_ok-set.ensures, c.lits.ensures.lits, c.new-hints.ensures.items) (scanning-start c.args.base.now c.args.clause.now c.lits.ensures.clause)

pub returns-in-None-clause-open_ : goal.returns-in-None-clause-open_
returns-in-None-clause-open_ c = none-settles c.args.base.now _ c.loop-hints.set c.loop-hints.invariant.round (sym c.in-None.ensures)

pub left_by-requires : goal.left_by-requires
left_by-requires c = asking-found c.args.base.now c.loop-hints.set c.in-Some.named.now (sym c.in-Some.ensures)

pub loop-hints-smaller : goal.loop-hints-smaller
loop-hints-smaller c =
    rw c.in_ok-push-in-Some-left_by.ensures.ok
    (scanning-falls c.args.base.now _ c.loop-hints.set c.loop-hints.hints.items c.loop-hints.invariant c.in-Some.named.now (sym c.in-Some.ensures)
    c.in-Some-left_by.lit c.in-Some-left_by.ensures.one c.in-Some-left_by.ensures.fresh)

pub loop-hints-preserved : goal.loop-hints-preserved
loop-hints-preserved c =
    rw (c.in_ok-push-in-Some-left_by.ensures.ok, c.in_ok-push-in-Some.ensures.items)
    (scanning-next c.args.base.now _ c.loop-hints.set c.loop-hints.hints.items c.loop-hints.invariant c.in-Some.named.now (sym c.in-Some.ensures)
    c.in-Some-left_by.lit c.in-Some-left_by.ensures.one c.in-Some-left_by.ensures.fresh)

pub returns-in-None-left_by-clause-clash : goal.returns-in-None-left_by-clause-clash
returns-in-None-left_by-clause-clash c =
    scanning-clash c.args.base.now _ c.loop-hints.set c.loop-hints.hints.items c.loop-hints.invariant c.in-Some.named.now (sym c.in-Some.ensures)
    c.in-None-left_by.ensures.none

pub returns-in-None-left_by-clause-step : goal.returns-in-None-left_by-clause-step
returns-in-None-left_by-clause-step c =
    scans-step c.args.base.now c.args.clause.now c.push.new.self.items c.requires c.lits.ensures.clause
    (rw c.in_ok-push-in-Some.ensures.items
    (scanning-last c.args.base.now _ c.loop-hints.set c.loop-hints.hints.items c.loop-hints.invariant c.in-Some.named.now (sym c.in-Some.ensures)
    c.in-None-left_by.ensures.none))

pub returns-in-None-left_by-clause-first : goal.returns-in-None-left_by-clause-first
returns-in-None-left_by-clause-first c =
    rw c.in_ok-push-in-Some.ensures.items
    (scanning-last c.args.base.now _ c.loop-hints.set c.loop-hints.hints.items c.loop-hints.invariant c.in-Some.named.now (sym c.in-Some.ensures)
    c.in-None-left_by.ensures.none)
