use Rattle.std.proofs.Common.{◌≡◌, ℕ, ◌+◌, [], ◌∷◌, ◌++◌, length, map, refl, ap, ◌∙◌, subst, List, arith}
use Rattle.std.specs.Prelude.{replicate}
use Rattle.std.proofs.lemmas.Result.{err_from_is_err_and, on_ok_weaker}
use Rattle.desk_port.specs.Pieces.{Moves, StopsInPieces}
use Rattle.desk_port.specs.declared.errors.PutErr.TheVariants.{NoMemory}
use Rattle.desk_port.proofs.Facts.{stops-none}
use Rattle.netlist.specs.Miter.{miter_of}
use Rattle.lrat_text.specs.Writing.{line_text}
use Rattle.lrat_text.specs.declared.step.LratStep.TheVariants.{Add}
use Rattle.proof_stitch.specs.Progress.{counted, text_left}
use Rattle.proof_stitch.specs.Stitch.{unit_ids, empty_line, is_for_empty, refutation_of}
use Rattle.proof_stitch.specs.Text.{proof_text}
use Rattle.proof_stitch.specs.Table.{named_in}
use Rattle.proof_stitch.specs.Written.{book_additions}
use Rattle.proof_stitch.proofs.BookLemmas.{legal-book}
use Rattle.proof_stitch.proofs.PassLemmas.{goes-refused, takes-last}
use Rattle.proof_stitch.proofs.WholeLemmas.{refutation-count, refutation-end, refutation-lines, refutation-marks, refutation-start, refutation-whole}
use Rattle.proof_stitch.proofs.write_refutation.push_refutation.Goals as goal

pub returns-in_err-shown-clause-takes : goal.returns-in_err-shown-clause-takes
returns-in_err-shown-clause-takes g c =
    let p = err_from_is_err_and c.from_residual.result c.from_residual.ensures.1 in
    rw (p.1, p.2)
    (stops-none (c.args.proof.now.pieces ++ proof_text c.args.net.now (refutation_of c.args.net.now c.args.book.now.entries))
    (g.D.Desk.state c.args.desk.now) (g.D.Desk.sizes c.args.desk.now))

pub returns-in_err-hints-clause-takes : goal.returns-in_err-hints-clause-takes
returns-in_err-hints-clause-takes g c =
    let p = err_from_is_err_and c.from_residual-in_err-hints.result c.from_residual-in_err-hints.ensures.1 in
    rw (p.1, p.2)
    (stops-none (c.args.proof.now.pieces ++ proof_text c.args.net.now (refutation_of c.args.net.now c.args.book.now.entries))
    (g.D.Desk.state c.args.desk.now) (g.D.Desk.sizes c.args.desk.now))

pub returns-in_err-push-clause-takes : goal.returns-in_err-push-clause-takes
returns-in_err-push-clause-takes g c =
    let p = err_from_is_err_and c.from_residual-in_err-push.result c.from_residual-in_err-push.ensures.1 in
    rw (p.1, p.2)
    (stops-none (c.args.proof.now.pieces ++ proof_text c.args.net.now (refutation_of c.args.net.now c.args.book.now.entries))
    (g.D.Desk.state c.args.desk.now) (g.D.Desk.sizes c.args.desk.now))

pub returns-in_err-marks-clause-takes : goal.returns-in_err-marks-clause-takes
returns-in_err-marks-clause-takes g c =
    let p = err_from_is_err_and c.from_residual-in_err-marks.result c.from_residual-in_err-marks.ensures.1 in
    rw (p.1, p.2)
    (stops-none (c.args.proof.now.pieces ++ proof_text c.args.net.now (refutation_of c.args.net.now c.args.book.now.entries))
    (g.D.Desk.state c.args.desk.now) (g.D.Desk.sizes c.args.desk.now))

pub returns-in_err-names-clause-takes : goal.returns-in_err-names-clause-takes
returns-in_err-names-clause-takes g c =
    let p = err_from_is_err_and c.from_residual-in_err-names.result c.from_residual-in_err-names.ensures.1 in
    rw (p.1, p.2)
    (stops-none (c.args.proof.now.pieces ++ proof_text c.args.net.now (refutation_of c.args.net.now c.args.book.now.entries))
    (g.D.Desk.state c.args.desk.now) (g.D.Desk.sizes c.args.desk.now))

pub returns-in_err-push_entries-clause-takes : goal.returns-in_err-push_entries-clause-takes
returns-in_err-push_entries-clause-takes g c =
    let p = err_from_is_err_and c.from_residual-in_err-push_entries.result c.from_residual-in_err-push_entries.ensures.1 in
    let net = c.args.net.now in
    let entries = c.args.book.now.entries in
    let out = c.args.book.now.out_budget in
    let book = legal-book net c.clauses.ensures.net c.args.book.now.sweep_budget out
    (omega (arith, c.sweep_budget.ensures.budget, c.sweep_budget.ensures.range))
    (omega (arith, c.out_budget.ensures.budget, c.out_budget.ensures.range)) entries c.requires.legal in
    let clauses : c.from-clauses.result ≡ length (miter_of net) = c.from-clauses.ensures ∙ c.clauses.ensures.count in
    let hints : c.push.new.self.items ≡ unit_ids net entries ++ length (miter_of net) ∷ [] =
    c.in_ok-push.ensures.items ∙ rw (c.in_ok-hints.ensures, clauses) refl in
    let zeros : c.in_ok-marks.marks.numbers.items ≡ replicate (length (book_additions net entries)) 0 =
    c.in_ok-marks.ensures.numbers ∙ ap (λ (n : ℕ). replicate {A = ℕ} n 0) c.written_count-steps.ensures.count in
    let asks = refutation-marks net out entries book c.requires.outs c.in_ok-marks.marks c.ask.new.marks c.as_slice-2.result.now
    (c.as_slice-2.ensures.value ∙ hints) zeros (c.in_ok-marks.ensures.clauses ∙ clauses) c.ask.ensures.shape c.ask.ensures.marked in
    let has = c.reach.ensures.marks (is_for_empty net entries) (empty_line net entries) asks in
    let start = refutation-start net out entries book c.requires.outs c.in_ok-names.names c.args.proof.now c.requires.last c.requires.lines in
    rw (p.1, p.2)
    (subst (λ (l : List ℕ). StopsInPieces (c.args.proof.now.pieces ++ l) c.in_err-push_entries.field-0.0 (g.D.Desk.state c.args.desk.now)
    (g.D.Desk.state c.push_entries.new.desk) (g.D.Desk.sizes c.args.desk.now) (g.D.Desk.sizes c.push_entries.new.desk)) (refutation-whole net entries)
    (c.in_err-push_entries.ensures.text (is_for_empty net entries) (book_additions net entries ++ empty_line net entries) (empty_line net entries) has start))

pub returns-in_err-hints-2-clause-takes : goal.returns-in_err-hints-2-clause-takes
returns-in_err-hints-2-clause-takes g c =
    let p = err_from_is_err_and c.from_residual-in_err-hints-2.result c.from_residual-in_err-hints-2.ensures.1 in
    let net = c.args.net.now in
    let entries = c.args.book.now.entries in
    let out = c.args.book.now.out_budget in
    let book = legal-book net c.clauses.ensures.net c.args.book.now.sweep_budget out
    (omega (arith, c.sweep_budget.ensures.budget, c.sweep_budget.ensures.range))
    (omega (arith, c.out_budget.ensures.budget, c.out_budget.ensures.range)) entries c.requires.legal in
    let clauses : c.from-clauses.result ≡ length (miter_of net) = c.from-clauses.ensures ∙ c.clauses.ensures.count in
    let hints : c.push.new.self.items ≡ unit_ids net entries ++ length (miter_of net) ∷ [] =
    c.in_ok-push.ensures.items ∙ rw (c.in_ok-hints.ensures, clauses) refl in
    let zeros : c.in_ok-marks.marks.numbers.items ≡ replicate (length (book_additions net entries)) 0 =
    c.in_ok-marks.ensures.numbers ∙ ap (λ (n : ℕ). replicate {A = ℕ} n 0) c.written_count-steps.ensures.count in
    let asks = refutation-marks net out entries book c.requires.outs c.in_ok-marks.marks c.ask.new.marks c.as_slice-2.result.now
    (c.as_slice-2.ensures.value ∙ hints) zeros (c.in_ok-marks.ensures.clauses ∙ clauses) c.ask.ensures.shape c.ask.ensures.marked in
    let has = c.reach.ensures.marks (is_for_empty net entries) (empty_line net entries) asks in
    let start = refutation-start net out entries book c.requires.outs c.in_ok-names.names c.args.proof.now c.requires.last c.requires.lines in
    let goes = c.in_ok-push_entries.ensures.text (is_for_empty net entries) (book_additions net entries ++ empty_line net entries)
    (empty_line net entries) has in
    rw (p.1, p.2)
    (subst (λ (l : List ℕ). StopsInPieces (c.args.proof.now.pieces ++ l) NoMemory (g.D.Desk.state c.args.desk.now)
    (g.D.Desk.state c.push_entries.new.desk) (g.D.Desk.sizes c.args.desk.now) (g.D.Desk.sizes c.push_entries.new.desk)) (refutation-whole net entries)
    (goes-refused goes start))

pub returns-clause-takes : goal.returns-clause-takes
returns-clause-takes g c =
    let net = c.args.net.now in
    let entries = c.args.book.now.entries in
    let out = c.args.book.now.out_budget in
    let book = legal-book net c.clauses.ensures.net c.args.book.now.sweep_budget out
    (omega (arith, c.sweep_budget.ensures.budget, c.sweep_budget.ensures.range))
    (omega (arith, c.out_budget.ensures.budget, c.out_budget.ensures.range)) entries c.requires.legal in
    let clauses : c.from-clauses.result ≡ length (miter_of net) = c.from-clauses.ensures ∙ c.clauses.ensures.count in
    let hints : c.push.new.self.items ≡ unit_ids net entries ++ length (miter_of net) ∷ [] =
    c.in_ok-push.ensures.items ∙ rw (c.in_ok-hints.ensures, clauses) refl in
    let zeros : c.in_ok-marks.marks.numbers.items ≡ replicate (length (book_additions net entries)) 0 =
    c.in_ok-marks.ensures.numbers ∙ ap (λ (n : ℕ). replicate {A = ℕ} n 0) c.written_count-steps.ensures.count in
    let asks = refutation-marks net out entries book c.requires.outs c.in_ok-marks.marks c.ask.new.marks c.as_slice-2.result.now
    (c.as_slice-2.ensures.value ∙ hints) zeros (c.in_ok-marks.ensures.clauses ∙ clauses) c.ask.ensures.shape c.ask.ensures.marked in
    let has = c.reach.ensures.marks (is_for_empty net entries) (empty_line net entries) asks in
    let start = refutation-start net out entries book c.requires.outs c.in_ok-names.names c.args.proof.now c.requires.last c.requires.lines in
    let goes = c.in_ok-push_entries.ensures.text (is_for_empty net entries) (book_additions net entries ++ empty_line net entries)
    (empty_line net entries) has in
    let at = goes.stands start in
    let shape : c.push_entries.new.names.clauses ≡ length (miter_of net) = c.push_entries.ensures.shape.clauses ∙ c.in_ok-names.ensures.clauses ∙ clauses in
    let hints_are : c.of-2.result ≡ map (named_in c.push_entries.new.names) (unit_ids net entries ++ length (miter_of net) ∷ []) =
    c.of-2.ensures ∙ c.in_ok-hints-2.ensures ∙ ap (map (named_in c.push_entries.new.names)) (c.as_slice-5.ensures.value ∙ hints) in
    let line : text_left (length (miter_of net)) (is_for_empty net entries) (book_additions net entries ++ empty_line net entries) (empty_line net entries)
    ≡ line_text c.push_entries.new.proof.last (Add (c.push_entries.new.proof.last + 1) c.of.result c.of-2.result) =
    refutation-end net out entries book c.requires.outs c.push_entries.new.names c.push_entries.new.proof shape at
    ∙ rw (c.of.ensures, c.new-3.ensures.items, hints_are) refl in
    takes-last (proof_text net (refutation_of net entries))
    (line_text c.push_entries.new.proof.last (Add (c.push_entries.new.proof.last + 1) c.of.result c.of-2.result))
    (text_left (length (miter_of net)) (is_for_empty net entries) (book_additions net entries ++ empty_line net entries) (empty_line net entries))
    c.args.proof.now.pieces c.push_entries.new.proof.pieces c.push-2.new.self.pieces
    (g.D.Desk.state c.args.desk.now) (g.D.Desk.state c.push_entries.new.desk) (g.D.Desk.state c.push-2.new.desk)
    (g.D.Desk.sizes c.args.desk.now) (g.D.Desk.sizes c.push_entries.new.desk) (g.D.Desk.sizes c.push-2.new.desk) c.push-2.result line
    (subst (λ (l : List ℕ). Moves [] (c.args.proof.now.pieces ++ l)
    (c.push_entries.new.proof.pieces ++ text_left (length (miter_of net)) (is_for_empty net entries) (book_additions net entries ++ empty_line net entries) (empty_line net entries))
    (g.D.Desk.state c.args.desk.now) (g.D.Desk.state c.push_entries.new.desk) (g.D.Desk.sizes c.args.desk.now) (g.D.Desk.sizes c.push_entries.new.desk))
    (refutation-whole net entries) (goes.moves start))
    c.push-2.ensures.takes

pub returns-clause-last : goal.returns-clause-last
returns-clause-last g c =
    let net = c.args.net.now in
    let entries = c.args.book.now.entries in
    let out = c.args.book.now.out_budget in
    let book = legal-book net c.clauses.ensures.net c.args.book.now.sweep_budget out
    (omega (arith, c.sweep_budget.ensures.budget, c.sweep_budget.ensures.range))
    (omega (arith, c.out_budget.ensures.budget, c.out_budget.ensures.range)) entries c.requires.legal in
    let clauses : c.from-clauses.result ≡ length (miter_of net) = c.from-clauses.ensures ∙ c.clauses.ensures.count in
    let hints : c.push.new.self.items ≡ unit_ids net entries ++ length (miter_of net) ∷ [] =
    c.in_ok-push.ensures.items ∙ rw (c.in_ok-hints.ensures, clauses) refl in
    let zeros : c.in_ok-marks.marks.numbers.items ≡ replicate (length (book_additions net entries)) 0 =
    c.in_ok-marks.ensures.numbers ∙ ap (λ (n : ℕ). replicate {A = ℕ} n 0) c.written_count-steps.ensures.count in
    let asks = refutation-marks net out entries book c.requires.outs c.in_ok-marks.marks c.ask.new.marks c.as_slice-2.result.now
    (c.as_slice-2.ensures.value ∙ hints) zeros (c.in_ok-marks.ensures.clauses ∙ clauses) c.ask.ensures.shape c.ask.ensures.marked in
    let has = c.reach.ensures.marks (is_for_empty net entries) (empty_line net entries) asks in
    let start = refutation-start net out entries book c.requires.outs c.in_ok-names.names c.args.proof.now c.requires.last c.requires.lines in
    let goes = c.in_ok-push_entries.ensures.text (is_for_empty net entries) (book_additions net entries ++ empty_line net entries)
    (empty_line net entries) has in
    let at = goes.stands start in
    let shape : c.push_entries.new.names.clauses ≡ length (miter_of net) = c.push_entries.ensures.shape.clauses ∙ c.in_ok-names.ensures.clauses ∙ clauses in
    on_ok_weaker c.push-2.result
    (λ (last : c.push-2.new.self.last ≡ c.push_entries.new.proof.last + 1).
    refutation-count net out entries book c.requires.outs c.push_entries.new.names c.push_entries.new.proof shape at c.push-2.new.self.last last)
    c.push-2.ensures.last

pub returns-clause-lines : goal.returns-clause-lines
returns-clause-lines g c =
    let net = c.args.net.now in
    let entries = c.args.book.now.entries in
    let out = c.args.book.now.out_budget in
    let book = legal-book net c.clauses.ensures.net c.args.book.now.sweep_budget out
    (omega (arith, c.sweep_budget.ensures.budget, c.sweep_budget.ensures.range))
    (omega (arith, c.out_budget.ensures.budget, c.out_budget.ensures.range)) entries c.requires.legal in
    let clauses : c.from-clauses.result ≡ length (miter_of net) = c.from-clauses.ensures ∙ c.clauses.ensures.count in
    let hints : c.push.new.self.items ≡ unit_ids net entries ++ length (miter_of net) ∷ [] =
    c.in_ok-push.ensures.items ∙ rw (c.in_ok-hints.ensures, clauses) refl in
    let zeros : c.in_ok-marks.marks.numbers.items ≡ replicate (length (book_additions net entries)) 0 =
    c.in_ok-marks.ensures.numbers ∙ ap (λ (n : ℕ). replicate {A = ℕ} n 0) c.written_count-steps.ensures.count in
    let asks = refutation-marks net out entries book c.requires.outs c.in_ok-marks.marks c.ask.new.marks c.as_slice-2.result.now
    (c.as_slice-2.ensures.value ∙ hints) zeros (c.in_ok-marks.ensures.clauses ∙ clauses) c.ask.ensures.shape c.ask.ensures.marked in
    let has = c.reach.ensures.marks (is_for_empty net entries) (empty_line net entries) asks in
    let start = refutation-start net out entries book c.requires.outs c.in_ok-names.names c.args.proof.now c.requires.last c.requires.lines in
    let goes = c.in_ok-push_entries.ensures.text (is_for_empty net entries) (book_additions net entries ++ empty_line net entries)
    (empty_line net entries) has in
    let at = goes.stands start in
    let shape : c.push_entries.new.names.clauses ≡ length (miter_of net) = c.push_entries.ensures.shape.clauses ∙ c.in_ok-names.ensures.clauses ∙ clauses in
    on_ok_weaker c.push-2.result
    (λ (lines : counted c.push-2.new.self.lines ≡ counted (c.push_entries.new.proof.lines + 1)).
    refutation-lines net out entries book c.requires.outs c.push_entries.new.names c.push_entries.new.proof shape at c.push-2.new.self.lines lines)
    c.push-2.ensures.lines
