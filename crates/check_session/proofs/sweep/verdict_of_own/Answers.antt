use Rattle.std.proofs.Common.{Option, Some, inr, sym, subst}
use Rattle.word_sim.specs.Patterns.{Patterns}
use Rattle.check_session.specs.declared.patterns.Difference.{Difference}
use Rattle.check_session.specs.declared.sweep.Checked.{Checked}
use Rattle.check_session.specs.Begun.{MayBegin}
use Rattle.check_session.specs.Blocks.{JoinsTelling}
use Rattle.check_session.specs.Check.{IsFound}
use Rattle.check_session.specs.Pool.{IsAmongOrJoins, IsPoolOf}
use Rattle.check_session.proofs.PoolLemmas.{extends-same, joined-extends}
use Rattle.check_session.proofs.SweptLemmas.{begin-joined, begin-merged, found-merged, found-sooner, goes_on-merged, goes_on-sooner, structure-merges}
use Rattle.check_session.proofs.sweep.verdict_of_own.Goals as goal

pub verdict_at_once-requires-clause-begun : goal.verdict_at_once-requires-clause-begun
verdict_at_once-requires-clause-begun g c =
    let new = c.own_difference.new.pool in
    begin-joined c.args.net.now c.args.options c.args.begun c.args.pool new c.requires.begun
    (joined-extends c.args.pool new c.in-Some.difference.input
    (subst (λ (d : Option Difference). JoinsTelling c.args.pool new d) c.in-Some.is c.in_ok-difference.ensures.joins))
    c.in_ok-difference.ensures.fits

pub returns-in-Some-clause-goes_on : goal.returns-in-Some-clause-goes_on
returns-in-Some-clause-goes_on g c =
    let new = c.own_difference.new.pool in
    goes_on-sooner c.verdict_at_once.result c.args.begun c.args.pool new
    (joined-extends c.args.pool new c.in-Some.difference.input
    (subst (λ (d : Option Difference). JoinsTelling c.args.pool new d) c.in-Some.is c.in_ok-difference.ensures.joins))
    c.verdict_at_once.ensures.goes_on

pub returns-in-Some-clause-found : goal.returns-in-Some-clause-found
returns-in-Some-clause-found g c =
    let net = c.args.net.now in
    let book = c.args.begun in
    let new = c.own_difference.new.pool in
    let d = c.in-Some.difference in
    found-sooner c.verdict_at_once.result (IsPoolOf net c.args.options)
    (λ (p : Patterns). IsAmongOrJoins net p.patterns new.patterns d.input)
    (λ (p : Patterns) (x : Checked). IsFound net c.args.options (record { book = book; pool = p }) (Some x.pool) x.book x.verdict)
    c.args.pool c.requires.begun.pool
    (inr (
      c.requires.none,
      subst (λ (d : Option Difference). JoinsTelling c.args.pool new d) c.in-Some.is c.in_ok-difference.ensures.joins,
    ))
    c.verdict_at_once.ensures.found

pub verdict_of_sweep-requires-clause-begun : goal.verdict_of_sweep-requires-clause-begun
verdict_of_sweep-requires-clause-begun g c κs lives =
    let net = c.args.net.now in
    let new = c.own_difference.new.pool in
    subst (λ (p : Patterns). MayBegin net c.args.options (record { book = c.args.merged; pool = p }))
    (sym (subst (λ (d : Option Difference). JoinsTelling c.args.pool new d) c.in-None.is c.in_ok-difference.ensures.joins))
    (begin-merged net c.args.options c.args.begun c.args.merged c.args.pool c.requires.begun
    (structure-merges net c.args.begun c.args.merged c.requires.structure) c.requires.legal)

pub returns-in-None-clause-goes_on : goal.returns-in-None-clause-goes_on
returns-in-None-clause-goes_on g c =
    let new = c.own_difference.new.pool in
    goes_on-merged c.verdict_of_sweep.result c.args.begun c.args.merged c.args.pool new
    (structure-merges c.args.net.now c.args.begun c.args.merged c.requires.structure)
    (extends-same c.args.pool new
    (subst (λ (d : Option Difference). JoinsTelling c.args.pool new d) c.in-None.is c.in_ok-difference.ensures.joins))
    c.verdict_of_sweep.ensures.goes_on

pub returns-in-None-clause-found : goal.returns-in-None-clause-found
returns-in-None-clause-found g c =
    let new = c.own_difference.new.pool in
    found-merged c.verdict_of_sweep.result c.args.net.now c.args.options c.args.begun c.args.merged c.args.pool new
    (subst (λ (d : Option Difference). JoinsTelling c.args.pool new d) c.in-None.is c.in_ok-difference.ensures.joins)
    c.requires.structure c.requires.begun c.verdict_of_sweep.ensures.found
