use Rattle.std.proofs.Common.{Bool, Ok, ◌≡◌, ◌∙◌, ◌+◌, ◌∷◌, ℕ, List, length, ap, sym, subst, refl, arith}
use Rattle.std.specs.Prelude.{◌⊎◌}
use Rattle.endings.specs.declared.stop.Stop.{Stop}
use Rattle.check_session.specs.declared.options.Options.{Options}
use Rattle.std.proofs.lemmas.Result.{err_from_is_err_and}
use Rattle.endings.specs.declared.stop.Stop.TheVariants.{OutOfMemory}
use Rattle.endings.specs.declared.status.Status.{Status}
use Rattle.byte_scan.specs.Scanning.{ahead}
use Rattle.desk_port.specs.Desk.{DeskState}
use Rattle.check_session.specs.Check.{State}
use Rattle.netlist_edits.specs.Script.{script_lines}
use Rattle.cec_top.specs.declared.kept.Kept.{Kept}
use Rattle.cec_top.specs.Script.{plan_of, turn_of}
use Rattle.cec_top.specs.Check.{How, StopsChecks}
use Rattle.cec_top.specs.Steps.{DoesTurn, NotMade, ToldInPart, ToldWhole, Wanted, how_in, opening_in, wanted_in}
use Rattle.cec_top.proofs.RunLemmas.{Stands, checked-stops, first-stops, line-stops, stands-asked, stands-checked, stands-closed, stands-end, stands-faulty, stands-first, stands-goes, stands-out-before}
use Rattle.cec_top.proofs.ScanLemmas.{scan-end, scan-next, scan-start}
use Rattle.cec_top.proofs.script.run_script.Goals as goal

-- what is wanted of checks that are made so
abbrev wanted : How → Wanted
wanted how = record { out = how.out; witness = how.witness; stats = how.stats; progress = how.progress }

-- a session's options are those of the checks
how-same : (how : How) (s t : State) (number : ℕ) (old new : DeskState) (before after : List Kept) (stop : Stop) → s.options ≡ how.options
    → ToldInPart (how_in s (wanted how)) number s old new before after stop ⊎ NotMade how.progress old new before after stop
    → ToldInPart how number s old new before after stop ⊎ NotMade how.progress old new before after stop
how-same how s t number old new before after stop same w =
    subst (λ (o : Options). ToldInPart (record { options = o; out = how.out; witness = how.witness; stats = how.stats; progress = how.progress }) number s old new before after stop ⊎ NotMade how.progress old new before after stop) same w

how-whole : (how : How) (s t : State) (number : ℕ) (old new : DeskState) (before after : List Kept) (status : Status) → s.options ≡ how.options
    → ToldWhole (how_in s (wanted how)) number s t old new before after status → ToldWhole how number s t old new before after status
how-whole how s t number old new before after status same w =
    subst (λ (o : Options). ToldWhole (record { options = o; out = how.out; witness = how.witness; stats = how.stats; progress = how.progress }) number s t old new before after status) same w

pub returns-in_err-status : goal.returns-in_err-status
returns-in_err-status g c =
    let p = err_from_is_err_and c.from_residual.result c.from_residual.ensures.1 in
    let s = c.args.session.now in
    rw (p.1, p.2)
    (first-stops (how_in s (wanted_in c.args.wants)) s (g.D.Desk.state c.args.desk.now) (g.D.Desk.state c.check.new.desk) c.args.kept.now.items
    c.check.new.kept.items _ (script_lines c.args.script.now) c.requires.unedited c.requires.empty c.in_err-status.ensures)

pub loop-line-init : goal.loop-line-init
loop-line-init g c =
    let s = c.args.session.now in
    let how = how_in s (wanted_in c.args.wants) in
    let lines = script_lines c.args.script.now in
    let ahead_is = scan-start c.new-scan.result c.args.script.now c.new-scan.ensures.bytes c.new-scan.ensures.at in
    record {
      whole = c.new-scan.ensures.bytes;
      count = omega arith;
      within = omega (arith, c.new-scan.ensures.at);
      fewer = omega arith;
      stands = subst (λ (bytes : List ℕ). Stands how (opening_in s) (plan_of s.net lines) (g.D.Desk.state c.args.desk.now) (g.D.Desk.state c.check.new.desk)
          c.check.new.kept.items 0 c.in_ok-status.status c.check.new.session 1 (script_lines bytes)) (sym ahead_is)
          (stands-first how s c.check.new.session (g.D.Desk.state c.args.desk.now) (g.D.Desk.state c.check.new.desk) c.args.kept.now.items
          c.check.new.kept.items c.in_ok-status.status lines c.requires.unedited refl c.requires.empty c.in_ok-status.ensures);
    }

pub returns-in_err-keep_open-in-Ok-true : goal.returns-in_err-keep_open-in-Ok-true
returns-in_err-keep_open-in-Ok-true g c =
    let p = err_from_is_err_and c.from_residual-in_err-keep_open-in-Ok-true.result c.from_residual-in_err-keep_open-in-Ok-true.ensures.1 in
    let s0 = c.args.session.now in
    let how = how_in s0 (wanted_in c.args.wants) in
    let plan = plan_of s0.net (script_lines c.args.script.now) in
    let start = g.D.Desk.state c.args.desk.now in
    let l = c.loop-line in
    let now = g.D.Desk.state l.desk in
    let r = scan-next l.scan c.line.new.self c.in-Some.line.now c.in-Some.ensures.line c.in-Some.ensures.moved in
    let lines = script_lines (ahead c.line.new.self) in
    let at = subst (λ (ls : List (List ℕ)). Stands how (opening_in s0) plan start now l.kept.items l.number l.status l.session (l.at + 1) ls) r.lines
    l.invariant.stands in
    let asked = stands-asked how (opening_in s0) plan start now l.kept.items l.number l.status l.session c.do_line.new.session (l.at + 1) c.in-Some.line.now
    lines at (subst (λ (b : Bool). DoesTurn (turn_of l.session.net c.in-Some.line.now) l.session c.do_line.new.session (Ok b)) c.in-Ok-true.field-0-test c.in-Ok-true.ensures) in
    rw (p.1, p.2)
    (subst (λ (ks : List Kept). StopsChecks how (opening_in s0) plan start ks now OutOfMemory) (sym c.in_err-keep_open-in-Ok-true.ensures)
    (stands-out-before how (opening_in s0) plan start now l.kept.items l.number l.status c.do_line.new.session (l.at + 1) (c.in-Some.line.now ∷ lines) asked.at
    OutOfMemory refl))

pub check-requires-in-Ok-true-clause-started : goal.check-requires-in-Ok-true-clause-started
check-requires-in-Ok-true-clause-started g c κs within =
    let s0 = c.args.session.now in
    let how = how_in s0 (wanted_in c.args.wants) in
    let plan = plan_of s0.net (script_lines c.args.script.now) in
    let start = g.D.Desk.state c.args.desk.now in
    let l = c.loop-line in
    let now = g.D.Desk.state l.desk in
    stands-closed how (opening_in s0) plan start now l.kept.items l.number l.status l.session (l.at + 1) (script_lines (ahead l.scan)) l.invariant.stands
    c.requires.started

pub returns-in_err-status-in-Ok-true : goal.returns-in_err-status-in-Ok-true
returns-in_err-status-in-Ok-true g c =
    let p = err_from_is_err_and c.from_residual-in_err-status-in-Ok-true.result c.from_residual-in_err-status-in-Ok-true.ensures.1 in
    let s0 = c.args.session.now in
    let how = how_in s0 (wanted_in c.args.wants) in
    let plan = plan_of s0.net (script_lines c.args.script.now) in
    let start = g.D.Desk.state c.args.desk.now in
    let l = c.loop-line in
    let now = g.D.Desk.state l.desk in
    let r = scan-next l.scan c.line.new.self c.in-Some.line.now c.in-Some.ensures.line c.in-Some.ensures.moved in
    let lines = script_lines (ahead c.line.new.self) in
    let at = subst (λ (ls : List (List ℕ)). Stands how (opening_in s0) plan start now l.kept.items l.number l.status l.session (l.at + 1) ls) r.lines
    l.invariant.stands in
    let asked = stands-asked how (opening_in s0) plan start now l.kept.items l.number l.status l.session c.do_line.new.session (l.at + 1) c.in-Some.line.now
    lines at (subst (λ (b : Bool). DoesTurn (turn_of l.session.net c.in-Some.line.now) l.session c.do_line.new.session (Ok b)) c.in-Ok-true.field-0-test c.in-Ok-true.ensures) in
    rw (p.1, p.2)
    (checked-stops how (opening_in s0) plan start now l.kept.items l.number l.status c.do_line.new.session (l.at + 1) c.in-Some.line.now lines asked.at asked.asks
    c.keep_open.new.kept.items c.in_ok-keep_open-in-Ok-true.ensures (g.D.Desk.state c.check-in-Ok-true.new.desk) c.check-in-Ok-true.new.kept.items _
    (how-same how c.do_line.new.session c.do_line.new.session (l.number + 1) now (g.D.Desk.state c.check-in-Ok-true.new.desk)
    c.keep_open.new.kept.items c.check-in-Ok-true.new.kept.items _ asked.at.options_are c.in_err-status-in-Ok-true.ensures))

pub loop-line-preserved-in-Ok-true : goal.loop-line-preserved-in-Ok-true
loop-line-preserved-in-Ok-true g c =
    let s0 = c.args.session.now in
    let how = how_in s0 (wanted_in c.args.wants) in
    let plan = plan_of s0.net (script_lines c.args.script.now) in
    let start = g.D.Desk.state c.args.desk.now in
    let l = c.loop-line in
    let now = g.D.Desk.state l.desk in
    let r = scan-next l.scan c.line.new.self c.in-Some.line.now c.in-Some.ensures.line c.in-Some.ensures.moved in
    let lines = script_lines (ahead c.line.new.self) in
    let at = subst (λ (ls : List (List ℕ)). Stands how (opening_in s0) plan start now l.kept.items l.number l.status l.session (l.at + 1) ls) r.lines
    l.invariant.stands in
    let asked = stands-asked how (opening_in s0) plan start now l.kept.items l.number l.status l.session c.do_line.new.session (l.at + 1) c.in-Some.line.now
    lines at (subst (λ (b : Bool). DoesTurn (turn_of l.session.net c.in-Some.line.now) l.session c.do_line.new.session (Ok b)) c.in-Ok-true.field-0-test c.in-Ok-true.ensures) in
    record {
      whole = r.whole ∙ l.invariant.whole;
      count = omega (arith, r.further, l.invariant.count);
      within = omega (arith, r.within, ap (λ (t : List ℕ). length t) l.invariant.whole);
      fewer = omega (arith, l.invariant.fewer);
      stands = stands-checked how (opening_in s0) plan start now l.kept.items l.number l.status c.do_line.new.session (l.at + 1) c.in-Some.line.now lines
          asked.at asked.asks c.keep_open.new.kept.items c.in_ok-keep_open-in-Ok-true.ensures c.check-in-Ok-true.new.session
          (g.D.Desk.state c.check-in-Ok-true.new.desk) c.check-in-Ok-true.new.kept.items c.in_ok-status-in-Ok-true.status
          (how-whole how c.do_line.new.session c.check-in-Ok-true.new.session (l.number + 1) now (g.D.Desk.state c.check-in-Ok-true.new.desk)
          c.keep_open.new.kept.items c.check-in-Ok-true.new.kept.items c.in_ok-status-in-Ok-true.status asked.at.options_are
          c.in_ok-status-in-Ok-true.ensures);
    }

pub loop-line-preserved : goal.loop-line-preserved
loop-line-preserved g c =
    let s0 = c.args.session.now in
    let how = how_in s0 (wanted_in c.args.wants) in
    let plan = plan_of s0.net (script_lines c.args.script.now) in
    let start = g.D.Desk.state c.args.desk.now in
    let l = c.loop-line in
    let now = g.D.Desk.state l.desk in
    let r = scan-next l.scan c.line.new.self c.in-Some.line.now c.in-Some.ensures.line c.in-Some.ensures.moved in
    let lines = script_lines (ahead c.line.new.self) in
    let at = subst (λ (ls : List (List ℕ)). Stands how (opening_in s0) plan start now l.kept.items l.number l.status l.session (l.at + 1) ls) r.lines
    l.invariant.stands in
    record {
      whole = r.whole ∙ l.invariant.whole;
      count = omega (arith, r.further, l.invariant.count);
      within = omega (arith, r.within, ap (λ (t : List ℕ). length t) l.invariant.whole);
      fewer = omega (arith, l.invariant.fewer);
      stands = stands-goes how (opening_in s0) plan start now l.kept.items l.number l.status l.session c.do_line.new.session (l.at + 1) c.in-Some.line.now
          lines at (subst (λ (b : Bool). DoesTurn (turn_of l.session.net c.in-Some.line.now) l.session c.do_line.new.session (Ok b)) c.in-Ok-false.field-0-test c.in-Ok-false.ensures);
    }

pub returns-in_err-keep-in-Err : goal.returns-in_err-keep-in-Err
returns-in_err-keep-in-Err g c =
    let p = err_from_is_err_and c.from_residual-in_err-keep-in-Err.result c.from_residual-in_err-keep-in-Err.ensures.1 in
    let s0 = c.args.session.now in
    let how = how_in s0 (wanted_in c.args.wants) in
    let plan = plan_of s0.net (script_lines c.args.script.now) in
    let start = g.D.Desk.state c.args.desk.now in
    let l = c.loop-line in
    let now = g.D.Desk.state l.desk in
    let r = scan-next l.scan c.line.new.self c.in-Some.line.now c.in-Some.ensures.line c.in-Some.ensures.moved in
    let lines = script_lines (ahead c.line.new.self) in
    let at = subst (λ (ls : List (List ℕ)). Stands how (opening_in s0) plan start now l.kept.items l.number l.status l.session (l.at + 1) ls) r.lines
    l.invariant.stands in
    let faulty = stands-faulty how (opening_in s0) plan start now l.kept.items l.number l.status l.session c.do_line.new.session (l.at + 1)
    c.in-Some.line.now lines c.in-Err.fault at c.in-Err.ensures in
    rw (p.1, p.2)
    (subst (λ (ks : List Kept). StopsChecks how (opening_in s0) plan start ks now OutOfMemory) (sym c.in_err-keep-in-Err.ensures.err)
    (stands-out-before how (opening_in s0) plan start now l.kept.items l.number l.status c.do_line.new.session (l.at + 1) (c.in-Some.line.now ∷ lines) faulty.at
    OutOfMemory refl))

pub returns-in-Err : goal.returns-in-Err
returns-in-Err g c =
    let s0 = c.args.session.now in
    let how = how_in s0 (wanted_in c.args.wants) in
    let plan = plan_of s0.net (script_lines c.args.script.now) in
    let start = g.D.Desk.state c.args.desk.now in
    let l = c.loop-line in
    let now = g.D.Desk.state l.desk in
    let r = scan-next l.scan c.line.new.self c.in-Some.line.now c.in-Some.ensures.line c.in-Some.ensures.moved in
    let lines = script_lines (ahead c.line.new.self) in
    let at = subst (λ (ls : List (List ℕ)). Stands how (opening_in s0) plan start now l.kept.items l.number l.status l.session (l.at + 1) ls) r.lines
    l.invariant.stands in
    let faulty = stands-faulty how (opening_in s0) plan start now l.kept.items l.number l.status l.session c.do_line.new.session (l.at + 1)
    c.in-Some.line.now lines c.in-Err.fault at c.in-Err.ensures in
    line-stops how (opening_in s0) plan start now l.kept.items l.number l.status c.do_line.new.session (l.at + 1) c.in-Some.line.now lines c.in-Err.fault faulty
    c.keep.new.kept.items c.in_ok-keep-in-Err.ensures.ok c.refused_stop.result c.refused_stop.ensures

pub returns-in_err-keep : goal.returns-in_err-keep
returns-in_err-keep g c =
    let p = err_from_is_err_and c.from_residual-in_err-keep.result c.from_residual-in_err-keep.ensures.1 in
    let s0 = c.args.session.now in
    let how = how_in s0 (wanted_in c.args.wants) in
    let plan = plan_of s0.net (script_lines c.args.script.now) in
    let start = g.D.Desk.state c.args.desk.now in
    let l = c.loop-line in
    let now = g.D.Desk.state l.desk in
    rw (p.1, p.2)
    (subst (λ (ks : List Kept). StopsChecks how (opening_in s0) plan start ks now OutOfMemory) (sym c.in_err-keep.ensures.err)
    (stands-out-before how (opening_in s0) plan start now l.kept.items l.number l.status l.session (l.at + 1) (script_lines (ahead l.scan)) l.invariant.stands
    OutOfMemory refl))

pub returns : goal.returns
returns g c =
    let s0 = c.args.session.now in
    let how = how_in s0 (wanted_in c.args.wants) in
    let plan = plan_of s0.net (script_lines c.args.script.now) in
    let start = g.D.Desk.state c.args.desk.now in
    let l = c.loop-line in
    let now = g.D.Desk.state l.desk in
    stands-end how (opening_in s0) plan start now l.kept.items l.number l.status l.session (l.at + 1) (script_lines (ahead l.scan)) l.invariant.stands
    (scan-end l.scan c.in_default.ensures.line) c.keep-2.new.kept.items c.in_ok-keep.ensures.ok
