use Rattle.std.proofs.Common.{◌≡◌, ◌+◌, ◌∙◌, List, ℕ, length, All, ap, arith, refl, subst, sym, ◌++◌}
use Rattle.std.proofs.lemmas.Result.{IfOk-weaker, err_from_is_err_and}
use Rattle.desk_port.specs.Pieces.{StopsInPieces}
use Rattle.desk_port.proofs.Facts.{stops-none}
use Rattle.std.proofs.lemmas.List.{length-replicate}
use Rattle.netlist.specs.Miter.{miter_of}
use Rattle.lemma_book.specs.Entry.{outputs_of}
use Rattle.proof_stitch.specs.declared.logs.Span.{Span}
use Rattle.proof_stitch.specs.Derivation.{all_lines, derivation_of, is_for_logs, log_lines, spans_from}
use Rattle.proof_stitch.specs.Text.{proof_text}
use Rattle.proof_stitch.proofs.PassLemmas.{same-goes, takes-rest}
use Rattle.proof_stitch.specs.Progress.{IsAtLine}
use Rattle.proof_stitch.specs.Written.{book_additions}
use Rattle.proof_stitch.proofs.BookLemmas.{legal-book}
use Rattle.proof_stitch.proofs.DerivationLemmas.{spans-whole}
use Rattle.proof_stitch.proofs.LogLemmas.{derivation-start, derivation-last, derivation-lines, derivation-whole}
use Rattle.proof_stitch.proofs.ReachLemmas.{shape-trans}
use Rattle.proof_stitch.proofs.write_derivation.push_derivation.Goals as goal

pub push_entries-requires-clause-all_marks : goal.push_entries-requires-clause-all_marks
push_entries-requires-clause-all_marks g c = omega (arith, c.in_ok-marks.ensures.count)

pub push_entries-requires-clause-alike : goal.push_entries-requires-clause-alike
push_entries-requires-clause-alike g c = record {
  clauses = c.in_ok-names.ensures.clauses;
  steps = omega (
    arith,
    ap length c.in_ok-names.ensures.numbers,
    length-replicate {A = ℕ} c.len.result 0,
    c.len.ensures,
  );
}

pub push_logs-requires-clause-first : goal.push_logs-requires-clause-first
push_logs-requires-clause-first g c = omega (arith, c.in_ok-marks.ensures.clauses, c.written_count.ensures.count)

pub push_logs-requires-clause-alike : goal.push_logs-requires-clause-alike
push_logs-requires-clause-alike g c =
    shape-trans c.in_ok-marks.marks c.in_ok-names.names c.push_entries.new.names
    (record {
      clauses = c.in_ok-names.ensures.clauses;
      steps = omega (
        arith,
        ap length c.in_ok-names.ensures.numbers,
        length-replicate {A = ℕ} c.len.result 0,
        c.len.ensures,
      );
    })
    c.push_entries.ensures.shape

pub push_logs-requires-clause-room : goal.push_logs-requires-clause-room
push_logs-requires-clause-room g c = c.in_ok-marks.ensures.count

pub push_logs-requires-clause-at : goal.push_logs-requires-clause-at
push_logs-requires-clause-at g c =
    let net = c.args.net.now in
    let entries = c.args.book.now.entries in
    let out = c.args.book.now.out_budget in
    let book = legal-book net c.clauses.ensures.net c.args.book.now.sweep_budget out
    (omega (arith, c.sweep_budget.ensures.budget, c.sweep_budget.ensures.range))
    (omega (arith, c.out_budget.ensures.budget, c.out_budget.ensures.range)) entries c.requires.legal in
    let m = length (miter_of net) in
    let first : m + length (book_additions net entries) + 1 ≡ c.in_ok-marks.marks.clauses + c.written_count.result + 1 =
    omega (arith, c.in_ok-marks.ensures.clauses, c.written_count.ensures.count) in
    subst (λ (n : ℕ). IsAtLine m (is_for_logs net entries) (all_lines net entries) (log_lines net entries) n c.push_entries.new.names c.push_entries.new.proof) first
    ((c.in_ok-push_entries.ensures.text (is_for_logs net entries) (all_lines net entries) (log_lines net entries) c.in_ok-marks.ensures.marks).stands
    (derivation-start net out entries book c.in_ok-names.names c.args.proof.now c.requires.last c.requires.lines))

pub push_logs-requires-clause-behind : goal.push_logs-requires-clause-behind
push_logs-requires-clause-behind g c =
    omega (arith, c.in_ok-push_entries.ensures.behind, c.in_ok-marks.ensures.clauses, c.written_count.ensures.count)

pub returns-in_err-shown-clause-takes : goal.returns-in_err-shown-clause-takes
returns-in_err-shown-clause-takes g c =
    let p = err_from_is_err_and c.from_residual.result c.from_residual.ensures.1 in
    rw (p.1, p.2)
    (stops-none (c.args.proof.now.pieces ++ proof_text c.args.net.now (derivation_of c.args.net.now c.args.book.now.entries))
    (g.D.Desk.state c.args.desk.now) (g.D.Desk.sizes c.args.desk.now))

pub returns-in_err-marks-clause-takes : goal.returns-in_err-marks-clause-takes
returns-in_err-marks-clause-takes g c =
    let p = err_from_is_err_and c.from_residual-in_err-marks.result c.from_residual-in_err-marks.ensures.1 in
    rw (p.1, p.2)
    (stops-none (c.args.proof.now.pieces ++ proof_text c.args.net.now (derivation_of c.args.net.now c.args.book.now.entries))
    (g.D.Desk.state c.args.desk.now) (g.D.Desk.sizes c.args.desk.now))

pub returns-in_err-names-clause-takes : goal.returns-in_err-names-clause-takes
returns-in_err-names-clause-takes g c =
    let p = err_from_is_err_and c.from_residual-in_err-names.result c.from_residual-in_err-names.ensures.1 in
    rw (p.1, p.2)
    (stops-none (c.args.proof.now.pieces ++ proof_text c.args.net.now (derivation_of c.args.net.now c.args.book.now.entries))
    (g.D.Desk.state c.args.desk.now) (g.D.Desk.sizes c.args.desk.now))

pub returns-in_err-push_entries-clause-takes : goal.returns-in_err-push_entries-clause-takes
returns-in_err-push_entries-clause-takes g c =
    let p = err_from_is_err_and c.from_residual-in_err-push_entries.result c.from_residual-in_err-push_entries.ensures.1 in
    let net = c.args.net.now in
    let entries = c.args.book.now.entries in
    let out = c.args.book.now.out_budget in
    let book = legal-book net c.clauses.ensures.net c.args.book.now.sweep_budget out
    (omega (arith, c.sweep_budget.ensures.budget, c.sweep_budget.ensures.range))
    (omega (arith, c.out_budget.ensures.budget, c.out_budget.ensures.range)) entries c.requires.legal in
    let start = derivation-start net out entries book c.in_ok-names.names c.args.proof.now c.requires.last c.requires.lines in
    rw (p.1, p.2)
    (subst (λ (l : List ℕ). StopsInPieces (c.args.proof.now.pieces ++ l) c.in_err-push_entries.field-0.0 (g.D.Desk.state c.args.desk.now)
    (g.D.Desk.state c.push_entries.new.desk) (g.D.Desk.sizes c.args.desk.now) (g.D.Desk.sizes c.push_entries.new.desk)) (derivation-whole net entries)
    (c.in_err-push_entries.ensures.text (is_for_logs net entries) (all_lines net entries) (log_lines net entries) c.in_ok-marks.ensures.marks start))

pub returns-clause-takes : goal.returns-clause-takes
returns-clause-takes g c =
    let net = c.args.net.now in
    let entries = c.args.book.now.entries in
    let out = c.args.book.now.out_budget in
    let book = legal-book net c.clauses.ensures.net c.args.book.now.sweep_budget out
    (omega (arith, c.sweep_budget.ensures.budget, c.sweep_budget.ensures.range))
    (omega (arith, c.out_budget.ensures.budget, c.out_budget.ensures.range)) entries c.requires.legal in
    let start = derivation-start net out entries book c.in_ok-names.names c.args.proof.now c.requires.last c.requires.lines in
    let m = length (miter_of net) in
    let first : m + length (book_additions net entries) + 1 ≡ c.in_ok-marks.marks.clauses + c.written_count.result + 1 =
    omega (arith, c.in_ok-marks.ensures.clauses, c.written_count.ensures.count) in
    takes-rest
    (same-goes refl refl refl refl first
    (c.in_ok-push_entries.ensures.text (is_for_logs net entries) (all_lines net entries) (log_lines net entries) c.in_ok-marks.ensures.marks))
    start (proof_text net (derivation_of net entries)) (derivation-whole net entries) c.push_logs.result
    (c.in_ok-marks.marks.clauses + c.written_count.result + 1 + length (log_lines net entries)) c.push_logs.new.names c.push_logs.new.proof
    (g.D.Desk.state c.push_logs.new.desk) (g.D.Desk.sizes c.push_logs.new.desk) c.push_logs.ensures.text

pub returns-clause-spans : goal.returns-clause-spans
returns-clause-spans g c =
    let net = c.args.net.now in
    let entries = c.args.book.now.entries in
    let out = c.args.book.now.out_budget in
    let book = legal-book net c.clauses.ensures.net c.args.book.now.sweep_budget out
    (omega (arith, c.sweep_budget.ensures.budget, c.sweep_budget.ensures.range))
    (omega (arith, c.out_budget.ensures.budget, c.out_budget.ensures.range)) entries c.requires.legal in
    let start = derivation-start net out entries book c.in_ok-names.names c.args.proof.now c.requires.last c.requires.lines in
    let goes = c.in_ok-push_entries.ensures.text (is_for_logs net entries) (all_lines net entries) (log_lines net entries) c.in_ok-marks.ensures.marks in
    IfOk-weaker c.push_logs.result _ _
    (λ spans is.
    is
    ∙ ap (λ (n : ℕ). spans_from entries (n + 1) (outputs_of net))
    (derivation-last net entries (length (miter_of net) + length (book_additions net entries) + 1) c.push_entries.new.names c.push_entries.new.proof
    (goes.stands start)))
    c.push_logs.ensures.spans

pub returns-clause-lines : goal.returns-clause-lines
returns-clause-lines g c =
    let net = c.args.net.now in
    let entries = c.args.book.now.entries in
    let out = c.args.book.now.out_budget in
    let book = legal-book net c.clauses.ensures.net c.args.book.now.sweep_budget out
    (omega (arith, c.sweep_budget.ensures.budget, c.sweep_budget.ensures.range))
    (omega (arith, c.out_budget.ensures.budget, c.out_budget.ensures.range)) entries c.requires.legal in
    let start = derivation-start net out entries book c.in_ok-names.names c.args.proof.now c.requires.last c.requires.lines in
    let m = length (miter_of net) in
    let first : m + length (book_additions net entries) + 1 ≡ c.in_ok-marks.marks.clauses + c.written_count.result + 1 =
    omega (arith, c.in_ok-marks.ensures.clauses, c.written_count.ensures.count) in
    let at = subst (λ (n : ℕ). IsAtLine m (is_for_logs net entries) (all_lines net entries) (log_lines net entries) n c.push_entries.new.names c.push_entries.new.proof) first
    ((c.in_ok-push_entries.ensures.text (is_for_logs net entries) (all_lines net entries) (log_lines net entries) c.in_ok-marks.ensures.marks).stands start) in
    derivation-lines c.push_logs.result net out entries book (c.in_ok-marks.marks.clauses + c.written_count.result + 1)
    (c.in_ok-marks.marks.clauses + c.written_count.result + 1 + length (log_lines net entries))
    c.push_entries.new.names c.push_logs.new.names c.push_entries.new.proof c.push_logs.new.proof (g.D.Desk.state c.push_entries.new.desk)
    (g.D.Desk.state c.push_logs.new.desk) (g.D.Desk.sizes c.push_entries.new.desk) (g.D.Desk.sizes c.push_logs.new.desk)
    (omega (arith, c.clauses.ensures.count)) at c.push_logs.ensures.text

pub returns-clause-whole : goal.returns-clause-whole
returns-clause-whole g c =
    let book = legal-book c.args.net.now c.clauses.ensures.net c.args.book.now.sweep_budget c.args.book.now.out_budget
    (omega (arith, c.sweep_budget.ensures.budget, c.sweep_budget.ensures.range))
    (omega (arith, c.out_budget.ensures.budget, c.out_budget.ensures.range)) c.args.book.now.entries c.requires.legal in
    IfOk-weaker c.push_logs.result _ _
    (λ spans is.
    subst (λ (l : List Span). All (λ s. s.last + 1 ≡ s.first + c.args.book.now.out_budget) l) (sym is)
    (spans-whole c.args.net.now c.args.book.now.out_budget c.args.book.now.entries (c.push_entries.new.proof.last + 1) (outputs_of c.args.net.now)
    (omega (arith, c.out_budget.ensures.budget, c.out_budget.ensures.range)) book))
    c.push_logs.ensures.spans
