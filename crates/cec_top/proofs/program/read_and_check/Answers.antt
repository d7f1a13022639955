use Rattle.std.proofs.Common.{Err, subst, ℕ}
use Rattle.std.proofs.lemmas.Result.{err_from_is_err_and}
use Rattle.command_line.specs.Answers.{check_texts}
use Rattle.cec_top.specs.Steps.{LoadsLemmas}
use Rattle.cec_top.proofs.FilesLemmas.{checks-stop, ends-closed, just-opened, load-stops, loads-closed, loads-unedited, read-stops, saves-stop, saves-whole, script-stops}
use Rattle.cec_top.proofs.program.read_and_check.Goals as goal

pub returns-in_err-session-clause-err : goal.returns-in_err-session-clause-err
returns-in_err-session-clause-err g c =
    let p = err_from_is_err_and c.from_residual.result c.from_residual.ensures.1 in
    rw (p.1, p.2)
    (read-stops (check_texts c.args.words) (g.D.Desk.state c.args.desk.now) (g.D.Desk.state c.read_session.new.desk) c.args.kept.now.items _
    c.requires.empty c.in_err-session.ensures)

pub returns-in_err-script-clause-err : goal.returns-in_err-script-clause-err
returns-in_err-script-clause-err g c =
    let p = err_from_is_err_and c.from_residual-in_err-script.result c.from_residual-in_err-script.ensures.1 in
    rw (p.1, p.2)
    (script-stops (check_texts c.args.words) (g.D.Desk.state c.args.desk.now) (g.D.Desk.state c.read_session.new.desk)
    (g.D.Desk.state c.read_script.new.desk) c.in_ok-session.session c.in_ok-session.ensures c.args.kept.now.items _ c.requires.empty
    c.in_err-script.ensures)

pub load_lemmas-requires : goal.load_lemmas-requires
load_lemmas-requires g c = record {
  opened = just-opened (check_texts c.args.words) (g.D.Desk.state c.args.desk.now) (g.D.Desk.state c.read_session.new.desk)
      (g.D.Desk.state c.read_script.new.desk) c.in_ok-session.session c.in_ok-session.ensures;
}

pub returns-in_err-load_lemmas-clause-err : goal.returns-in_err-load_lemmas-clause-err
returns-in_err-load_lemmas-clause-err g c =
    let p = err_from_is_err_and c.from_residual-in_err-load_lemmas.result c.from_residual-in_err-load_lemmas.ensures.1 in
    let w = check_texts c.args.words in
    let s = c.in_ok-session.session in
    let t = c.load_lemmas.new.session in
    let after = g.D.Desk.state c.read_script.new.desk in
    let new = g.D.Desk.state c.load_lemmas.new.desk in
    rw (p.1, p.2)
    (load-stops w (g.D.Desk.state c.args.desk.now) (g.D.Desk.state c.read_session.new.desk) after s c.in_ok-session.ensures
    c.in_ok-script.script c.in_ok-script.ensures t new c.args.kept.now.items _ c.requires.empty
    (subst (λ (k : ℕ). LoadsLemmas w.load k s t after new (Err c.in_err-load_lemmas.field-0.0)) c.lemmas_place-place.ensures c.in_err-load_lemmas.ensures))

pub run_script-requires-clause-started : goal.run_script-requires-clause-started
run_script-requires-clause-started g c κs within =
    loads-closed (check_texts c.args.words) (g.D.Desk.state c.args.desk.now) (g.D.Desk.state c.read_session.new.desk)
    (g.D.Desk.state c.read_script.new.desk) c.in_ok-session.session c.in_ok-session.ensures c.in_ok-script.script c.in_ok-script.ensures
    c.load_lemmas.new.session (g.D.Desk.state c.load_lemmas.new.desk) c.in_ok-load_lemmas.ensures c.as_slice.result.now c.as_slice.ensures.value
    (g.D.Desk.state c.load_lemmas.new.desk) c.args.kept.now.items c.requires.started

pub run_script-requires-clause-unedited : goal.run_script-requires-clause-unedited
run_script-requires-clause-unedited g c κs within =
    loads-unedited (check_texts c.args.words) (g.D.Desk.state c.args.desk.now) (g.D.Desk.state c.read_session.new.desk)
    (g.D.Desk.state c.read_script.new.desk) c.in_ok-session.session c.in_ok-session.ensures c.in_ok-script.script c.in_ok-script.ensures
    c.load_lemmas.new.session (g.D.Desk.state c.load_lemmas.new.desk) c.in_ok-load_lemmas.ensures c.as_slice.result.now c.as_slice.ensures.value
    (g.D.Desk.state c.load_lemmas.new.desk) c.args.kept.now.items

pub returns-in_err-status-clause-err : goal.returns-in_err-status-clause-err
returns-in_err-status-clause-err g c =
    let p = err_from_is_err_and c.from_residual-in_err-status.result c.from_residual-in_err-status.ensures.1 in
    rw (p.1, p.2)
    (checks-stop (check_texts c.args.words) (g.D.Desk.state c.args.desk.now) (g.D.Desk.state c.read_session.new.desk)
    (g.D.Desk.state c.read_script.new.desk) c.in_ok-session.session c.in_ok-session.ensures c.in_ok-script.script c.in_ok-script.ensures
    c.load_lemmas.new.session (g.D.Desk.state c.load_lemmas.new.desk) c.in_ok-load_lemmas.ensures c.as_slice.result.now c.as_slice.ensures.value
    (g.D.Desk.state c.run_script.new.desk) c.run_script.new.kept.items _ c.in_err-status.ensures)

pub save_lemmas-requires : goal.save_lemmas-requires
save_lemmas-requires g c = record {
  started = ends-closed (check_texts c.args.words) (g.D.Desk.state c.args.desk.now) (g.D.Desk.state c.read_session.new.desk)
      (g.D.Desk.state c.read_script.new.desk) c.in_ok-session.session c.in_ok-session.ensures c.in_ok-script.script c.in_ok-script.ensures
      c.load_lemmas.new.session (g.D.Desk.state c.load_lemmas.new.desk) c.in_ok-load_lemmas.ensures c.as_slice.result.now c.as_slice.ensures.value
      (g.D.Desk.state c.run_script.new.desk) c.run_script.new.kept.items c.in_ok-status.status c.in_ok-status.ensures c.requires.started;
}

pub returns-in_err-save_lemmas-clause-err : goal.returns-in_err-save_lemmas-clause-err
returns-in_err-save_lemmas-clause-err g c =
    let p = err_from_is_err_and c.from_residual-in_err-save_lemmas.result c.from_residual-in_err-save_lemmas.ensures.1 in
    rw (p.1, p.2)
    (saves-stop (check_texts c.args.words) (g.D.Desk.state c.args.desk.now) (g.D.Desk.state c.read_session.new.desk)
    (g.D.Desk.state c.read_script.new.desk) c.in_ok-session.session c.in_ok-session.ensures c.in_ok-script.script c.in_ok-script.ensures
    c.load_lemmas.new.session (g.D.Desk.state c.load_lemmas.new.desk) c.in_ok-load_lemmas.ensures c.as_slice.result.now c.as_slice.ensures.value
    (g.D.Desk.state c.run_script.new.desk) c.run_script.new.kept.items c.in_ok-status.status c.in_ok-status.ensures
    (g.D.Desk.state c.save_lemmas.new.desk) _ (rw c.as_slice-2.ensures.value at c.in_err-save_lemmas.ensures))

pub returns-clause-ok : goal.returns-clause-ok
returns-clause-ok g c =
    saves-whole (check_texts c.args.words) (g.D.Desk.state c.args.desk.now) (g.D.Desk.state c.read_session.new.desk)
    (g.D.Desk.state c.read_script.new.desk) c.in_ok-session.session c.in_ok-session.ensures c.in_ok-script.script c.in_ok-script.ensures
    c.load_lemmas.new.session (g.D.Desk.state c.load_lemmas.new.desk) c.in_ok-load_lemmas.ensures c.as_slice.result.now c.as_slice.ensures.value
    (g.D.Desk.state c.run_script.new.desk) c.run_script.new.kept.items c.in_ok-status.status c.in_ok-status.ensures
    (g.D.Desk.state c.save_lemmas.new.desk) (rw c.as_slice-2.ensures.value at c.in_ok-save_lemmas.ensures)
