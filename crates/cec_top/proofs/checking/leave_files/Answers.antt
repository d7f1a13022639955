use Rattle.std.proofs.Common.{◌≡◌, ◌∙◌, ℕ, List, Option, Some, Ok, Err, Bor, inl, inr, option_map, refl, ap}
use Rattle.std.proofs.lemmas.Result.{err_from_is_err_and}
use Rattle.desk_port.specs.Desk.{DeskState}
use Rattle.check_session.specs.Outputs.{finding_of}
use Rattle.proof_stitch.specs.declared.logs.Span.{Span}
use Rattle.cec_top.specs.Check.{text_of}
use Rattle.cec_top.specs.Texts.{open_text_with}
use Rattle.cec_top.proofs.CheckLemmas.{leaves, lines-are, logs-at}
use Rattle.cec_top.proofs.TellLemmas.{lines-text, plain-text}
use Rattle.cec_top.proofs.checking.leave_files.Goals as goal

-- the prefix's bytes
abbrev prefix_in : Option (Bor (List ℕ)) → Option (List ℕ)
prefix_in out = option_map {T = Bor (List ℕ)} {U = List ℕ} (λ s. s.now) out

pub returns-in_err-plain_text-in-None-clause-files : goal.returns-in_err-plain_text-in-None-clause-files
returns-in_err-plain_text-in-None-clause-files g c = λ due.
    let p = err_from_is_err_and c.from_residual.result c.from_residual.ensures.1 in
    rw (p.1, p.2, c.in-None.is) (inr (refl, refl))

pub returns-in_ok-plain_text-in-None-clause-files : goal.returns-in_ok-plain_text-in-None-clause-files
returns-in_ok-plain_text-in-None-clause-files g c = λ due.
    let t = c.args.session.now in
    let v = c.args.verdict.now in
    rw c.in-None.is (refl, c.in_ok-plain_text-in-None.ensures ∙ plain-text t.net t.book.entries v c.requires.open)

pub returns-in_err-text_with_lines-in-Ok-clause-files : goal.returns-in_err-text_with_lines-in-Ok-clause-files
returns-in_err-text_with_lines-in-Ok-clause-files g c = λ due.
    let p = err_from_is_err_and c.from_residual-in_err-text_with_lines-in-Ok.result c.from_residual-in_err-text_with_lines-in-Ok.ensures.1 in
    let t = c.args.session.now in
    let v = c.args.verdict.now in
    rw (p.1, p.2, c.in-Some.is)
    (inr (
      refl,
      leaves t v c.requires.found c.args.number c.in-Some.prefix.now (g.D.Desk.state c.args.desk.now) (g.D.Desk.state c.write_counted.new.desk)
          (Ok c.in-Ok.spans) c.in-Ok.ensures.files,
    ))

pub returns-in_ok-text_with_lines-in-Ok-clause-files : goal.returns-in_ok-text_with_lines-in-Ok-clause-files
returns-in_ok-text_with_lines-in-Ok-clause-files g c = λ due.
    let t = c.args.session.now in
    let v = c.args.verdict.now in
    let spans = c.in-Ok.spans.items in
    rw c.in-Some.is (
      leaves t v c.requires.found c.args.number c.in-Some.prefix.now (g.D.Desk.state c.args.desk.now) (g.D.Desk.state c.write_counted.new.desk)
          (Ok c.in-Ok.spans) c.in-Ok.ensures.files,
      c.in_ok-text_with_lines-in-Ok.ensures
          ∙ ap (λ (l : List Span). text_of (finding_of v) (open_text_with l)) c.as_slice.ensures.value
          ∙ lines-text t.net t.book.entries (finding_of v) spans (logs-at t v c.requires.found spans c.in-Ok.ensures.spans),
    )

pub returns-in_ok-text_with_lines-in-Ok-clause-started : goal.returns-in_ok-text_with_lines-in-Ok-clause-started
returns-in_ok-text_with_lines-in-Ok-clause-started g c =
    let t = c.args.session.now in
    let v = c.args.verdict.now in
    ap (λ (s : DeskState). s.started)
    (leaves t v c.requires.found c.args.number c.in-Some.prefix.now (g.D.Desk.state c.args.desk.now) (g.D.Desk.state c.write_counted.new.desk)
    (Ok c.in-Ok.spans) c.in-Ok.ensures.files)

pub returns-in-Err-clause-files : goal.returns-in-Err-clause-files
returns-in-Err-clause-files g c = λ due.
    let t = c.args.session.now in
    let v = c.args.verdict.now in
    rw (c.stop_of.ensures, c.in-Some.is)
    (inl (leaves t v c.requires.found {A = Unit {0}} c.args.number c.in-Some.prefix.now (g.D.Desk.state c.args.desk.now)
    (g.D.Desk.state c.write_counted.new.desk) (Err c.in-Err.fault) c.in-Err.ensures.files))

pub returns-in_ok-text_with_lines-in-Ok-clause-lines : goal.returns-in_ok-text_with_lines-in-Ok-clause-lines
returns-in_ok-text_with_lines-in-Ok-clause-lines g c = λ due.
    rw c.in-Some.is
    (ap (λ (n : ℕ). Some n) (lines-are c.args.session.now c.args.verdict.now c.requires.found c.write_counted.new.lines c.in-Ok.ensures.lines))

pub returns-in_ok-plain_text-in-None-clause-lines : goal.returns-in_ok-plain_text-in-None-clause-lines
returns-in_ok-plain_text-in-None-clause-lines g c = λ due. rw c.in-None.is refl
