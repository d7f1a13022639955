use Rattle.std.proofs.Common.{◌≡◌, ◌+◌, ◌-◌, ◌<◌, ◌^◌, ℕ, List, Ok, Err, length, ap, arith, refl, subst, sym, All, ◌∙◌}
use Rattle.std.specs.List.{range_with_len}
use Rattle.std.proofs.lemmas.Result.{err_from_is_err_and}
use Rattle.lemma_book.specs.Entry.{outputs_of}
use Rattle.std.proofs.lemmas.List.{append-nil}
use Rattle.netlist.specs.Miter.{miter_of}
use Rattle.lits.specs.declared.step.Step.{Step}
use Rattle.proof_stitch.specs.Derivation.{all_lines, is_for_logs, log_lines, spent_log}
use Rattle.proof_stitch.specs.Ids.{HasIds}
use Rattle.proof_stitch.proofs.BookLemmas.{legal-book}
use Rattle.proof_stitch.proofs.DerivationLemmas.{length-log_lines}
use Rattle.proof_stitch.proofs.LogLemmas.{log-above, log-done, log-goes, log-ids, log-last, log-next, log-range, log-small, log-start, log-within, logs-none, logs-range, logs_left}
use Rattle.proof_stitch.proofs.PassLemmas.{goes-none, goes-refused, goes-stops, goes-then, same-goes}
use Rattle.proof_stitch.proofs.ReachLemmas.{shape-refl, shape-trans}
use Rattle.proof_stitch.proofs.logs.push_logs.Goals as goal

pub loop-output-init : goal.loop-output-init
loop-output-init g c =
    let whole : c.outputs-output-end.result - 0 ≡ length c.args.net.now.a.outputs = omega (arith, c.outputs-output-end.ensures.count) in
    let net = c.args.net.now in
    let entries = c.args.book.now.entries in
    record {
      shape = shape-refl c.args.names.now;
      started = refl;
      at =
          rw (whole, c.new-spans.ensures.items)
          (log-start net entries c.args.first c.args.names.now c.args.proof.now c.requires.first c.requires.at c.requires.behind);
      goes =
          same-goes refl refl
          (ap (λ (n : ℕ). logs_left net entries n (outputs_of net)) (sym c.requires.first)
          ∙ ap (λ (n : ℕ). logs_left net entries c.args.first (range_with_len 0 n)) (sym whole)) refl refl
          (goes-none (length (miter_of net)) (is_for_logs net entries) (all_lines net entries) (log_lines net entries) c.args.first
          c.args.names.now c.args.proof.now (g.D.Desk.state c.args.desk.now) (g.D.Desk.sizes c.args.desk.now));
    }

pub overflow_add-begin : goal.overflow_add-begin
overflow_add-begin g c =
    let book = legal-book c.args.net.now c.clauses.ensures.net c.args.book.now.sweep_budget c.args.book.now.out_budget
    (omega (arith, c.sweep_budget.ensures.budget, c.sweep_budget.ensures.range))
    (omega (arith, c.out_budget.ensures.budget, c.out_budget.ensures.range)) c.args.book.now.entries c.requires.legal in
    let few : length (miter_of c.args.net.now) < 2 ^ 32 = omega (arith, c.clauses.ensures.count) in
    let at = log-range c.loop-output.output c.outputs-output-end.result c.loop-output-test.true c.loop-output.invariant.at in
    omega (arith, at.behind, log-small at c.args.book.now.out_budget book few c.requires.first)

pub push_steps-requires-clause-ids : goal.push_steps-requires-clause-ids
push_steps-requires-clause-ids g c =
    let book = legal-book c.args.net.now c.clauses.ensures.net c.args.book.now.sweep_budget c.args.book.now.out_budget
    (omega (arith, c.sweep_budget.ensures.budget, c.sweep_budget.ensures.range))
    (omega (arith, c.out_budget.ensures.budget, c.out_budget.ensures.range)) c.args.book.now.entries c.requires.legal in
    let few : length (miter_of c.args.net.now) < 2 ^ 32 = omega (arith, c.clauses.ensures.count) in
    let at = log-range c.loop-output.output c.outputs-output-end.result c.loop-output-test.true c.loop-output.invariant.at in
    subst (λ (l : List Step). All (HasIds c.args.net.now c.args.shown.now c.loop-output.next) l) (sym c.spent_log-log.ensures)
    (log-ids at c.args.book.now.out_budget book few c.requires.first c.args.shown.now c.requires.shown)

pub push_steps-requires-clause-above : goal.push_steps-requires-clause-above
push_steps-requires-clause-above g c =
    let at = log-range c.loop-output.output c.outputs-output-end.result c.loop-output-test.true c.loop-output.invariant.at in
    omega (arith, log-above at, c.requires.clauses)

pub push_steps-requires-clause-within : goal.push_steps-requires-clause-within
push_steps-requires-clause-within g c =
    let at = log-range c.loop-output.output c.outputs-output-end.result c.loop-output-test.true c.loop-output.invariant.at in
    omega (arith, log-within at c.requires.first, c.requires.clauses, c.requires.room, ap length c.spent_log-log.ensures)

pub push_steps-requires-clause-alike : goal.push_steps-requires-clause-alike
push_steps-requires-clause-alike g c = shape-trans c.args.marks.now c.args.names.now c.loop-output.names c.requires.alike c.loop-output.invariant.shape

pub push_steps-requires-clause-small : goal.push_steps-requires-clause-small
push_steps-requires-clause-small g c =
    let book = legal-book c.args.net.now c.clauses.ensures.net c.args.book.now.sweep_budget c.args.book.now.out_budget
    (omega (arith, c.sweep_budget.ensures.budget, c.sweep_budget.ensures.range))
    (omega (arith, c.out_budget.ensures.budget, c.out_budget.ensures.range)) c.args.book.now.entries c.requires.legal in
    let few : length (miter_of c.args.net.now) < 2 ^ 32 = omega (arith, c.clauses.ensures.count) in
    let at = log-range c.loop-output.output c.outputs-output-end.result c.loop-output-test.true c.loop-output.invariant.at in
    omega (arith, log-small at c.args.book.now.out_budget book few c.requires.first, ap length c.spent_log-log.ensures)

pub push_steps-requires-clause-behind : goal.push_steps-requires-clause-behind
push_steps-requires-clause-behind g c = c.loop-output.invariant.at.behind

pub overflow_add-next : goal.overflow_add-next
overflow_add-next g c =
    let book = legal-book c.args.net.now c.clauses.ensures.net c.args.book.now.sweep_budget c.args.book.now.out_budget
    (omega (arith, c.sweep_budget.ensures.budget, c.sweep_budget.ensures.range))
    (omega (arith, c.out_budget.ensures.budget, c.out_budget.ensures.range)) c.args.book.now.entries c.requires.legal in
    let few : length (miter_of c.args.net.now) < 2 ^ 32 = omega (arith, c.clauses.ensures.count) in
    let at = log-range c.loop-output.output c.outputs-output-end.result c.loop-output-test.true c.loop-output.invariant.at in
    omega (arith, log-small at c.args.book.now.out_budget book few c.requires.first, ap length c.spent_log-log.ensures)

pub push_span-requires : goal.push_span-requires
push_span-requires g c =
    let at = log-range c.loop-output.output c.outputs-output-end.result c.loop-output-test.true c.loop-output.invariant.at in
    let asked = is_for_logs c.args.net.now c.args.book.now.entries in
    let all = all_lines c.args.net.now c.args.book.now.entries in
    let here = log-goes {A = Unit {0}} c.args.net.now c.args.book.now.entries c.loop-output.output
    (range_with_len (c.loop-output.output + 1) (c.outputs-output-end.result - (c.loop-output.output + 1))) c.args.marks.now.clauses c.args.shown.now
    c.spent_log-log.result.now c.loop-output.next c.loop-output.names c.push_steps.new.names c.loop-output.proof c.push_steps.new.proof
    (g.D.Desk.state c.loop-output.desk) (g.D.Desk.state c.push_steps.new.desk) (g.D.Desk.sizes c.loop-output.desk) (g.D.Desk.sizes c.push_steps.new.desk)
    (Ok tt) c.requires.clauses c.requires.shown c.spent_log-log.ensures
    (λ left. c.in_ok-push_steps.ensures.text asked all left c.requires.marks) in
    let after = here.stands at.at in
    omega (arith, log-last at after)

pub loop-output-preserved : goal.loop-output-preserved
loop-output-preserved g c =
    let at = log-range c.loop-output.output c.outputs-output-end.result c.loop-output-test.true c.loop-output.invariant.at in
    let asked = is_for_logs c.args.net.now c.args.book.now.entries in
    let all = all_lines c.args.net.now c.args.book.now.entries in
    let here = log-goes {A = Unit {0}} c.args.net.now c.args.book.now.entries c.loop-output.output
    (range_with_len (c.loop-output.output + 1) (c.outputs-output-end.result - (c.loop-output.output + 1))) c.args.marks.now.clauses c.args.shown.now
    c.spent_log-log.result.now c.loop-output.next c.loop-output.names c.push_steps.new.names c.loop-output.proof c.push_steps.new.proof
    (g.D.Desk.state c.loop-output.desk) (g.D.Desk.state c.push_steps.new.desk) (g.D.Desk.sizes c.loop-output.desk) (g.D.Desk.sizes c.push_steps.new.desk)
    (Ok tt) c.requires.clauses c.requires.shown c.spent_log-log.ensures
    (λ left. c.in_ok-push_steps.ensures.text asked all left c.requires.marks) in
    let after = here.stands at.at in
    let count : length c.spent_log-log.result.now ≡ length (spent_log c.args.book.now.entries c.loop-output.output) = ap length c.spent_log-log.ensures in
    record {
      shape = shape-trans c.args.names.now c.loop-output.names c.push_steps.new.names c.loop-output.invariant.shape c.push_steps.ensures.shape;
      started = c.push_steps.ensures.started ∙ c.loop-output.invariant.started;
      at = rw count (log-next at after c.push_span.new.spans.items c.in_ok-push_span.ensures (omega (arith, c.in_ok-push_steps.ensures.behind, count)));
      goes = rw count (goes-then (logs-range c.args.net.now c.args.book.now.entries c.loop-output.next c.loop-output.output c.outputs-output-end.result c.loop-output-test.true c.loop-output.invariant.goes) here);
    }

pub returns-in_err-push_steps-clause-text : goal.returns-in_err-push_steps-clause-text
returns-in_err-push_steps-clause-text g c =
    let p = err_from_is_err_and c.from_residual.result c.from_residual.ensures.1 in
    let asked = is_for_logs c.args.net.now c.args.book.now.entries in
    let all = all_lines c.args.net.now c.args.book.now.entries in
    rw (p.1, p.2)
    (goes-stops (logs-range c.args.net.now c.args.book.now.entries c.loop-output.next c.loop-output.output c.outputs-output-end.result c.loop-output-test.true c.loop-output.invariant.goes) c.in_err-push_steps.field-0.0
    (log-goes {A = Unit {0}} c.args.net.now c.args.book.now.entries c.loop-output.output
    (range_with_len (c.loop-output.output + 1) (c.outputs-output-end.result - (c.loop-output.output + 1))) c.args.marks.now.clauses c.args.shown.now
    c.spent_log-log.result.now c.loop-output.next c.loop-output.names c.push_steps.new.names c.loop-output.proof c.push_steps.new.proof
    (g.D.Desk.state c.loop-output.desk) (g.D.Desk.state c.push_steps.new.desk) (g.D.Desk.sizes c.loop-output.desk) (g.D.Desk.sizes c.push_steps.new.desk)
    (Err c.in_err-push_steps.field-0.0) c.requires.clauses c.requires.shown c.spent_log-log.ensures
    (λ left. c.in_err-push_steps.ensures.text asked all left c.requires.marks)))

pub returns-in_err-push_span-clause-text : goal.returns-in_err-push_span-clause-text
returns-in_err-push_span-clause-text g c =
    let p = err_from_is_err_and c.from_residual-in_err-push_span.result c.from_residual-in_err-push_span.ensures.1 in
    let asked = is_for_logs c.args.net.now c.args.book.now.entries in
    let all = all_lines c.args.net.now c.args.book.now.entries in
    let here = log-goes {A = Unit {0}} c.args.net.now c.args.book.now.entries c.loop-output.output
    (range_with_len (c.loop-output.output + 1) (c.outputs-output-end.result - (c.loop-output.output + 1))) c.args.marks.now.clauses c.args.shown.now
    c.spent_log-log.result.now c.loop-output.next c.loop-output.names c.push_steps.new.names c.loop-output.proof c.push_steps.new.proof
    (g.D.Desk.state c.loop-output.desk) (g.D.Desk.state c.push_steps.new.desk) (g.D.Desk.sizes c.loop-output.desk) (g.D.Desk.sizes c.push_steps.new.desk)
    (Ok tt) c.requires.clauses c.requires.shown c.spent_log-log.ensures
    (λ left. c.in_ok-push_steps.ensures.text asked all left c.requires.marks) in
    rw (p.1, p.2)
    (goes-refused (goes-then (logs-range c.args.net.now c.args.book.now.entries c.loop-output.next c.loop-output.output c.outputs-output-end.result
    c.loop-output-test.true c.loop-output.invariant.goes) here))

pub returns-clause-text : goal.returns-clause-text
returns-clause-text g c =
    let done = log-done c.loop-output.output c.outputs-output-end.result c.loop-output-test.false c.loop-output.invariant.at in
    let end : c.loop-output.next ≡ c.args.first + length (log_lines c.args.net.now c.args.book.now.entries) =
    omega (arith, done.next_is, length-log_lines c.args.net.now c.args.book.now.entries) in
    same-goes refl refl
    (logs-none c.args.net.now c.args.book.now.entries c.loop-output.next c.loop-output.output c.outputs-output-end.result c.loop-output-test.false)
    refl end c.loop-output.invariant.goes

pub returns-clause-spans : goal.returns-clause-spans
returns-clause-spans g c =
    let done = log-done c.loop-output.output c.outputs-output-end.result c.loop-output-test.false c.loop-output.invariant.at in
    sym (append-nil c.loop-output.spans.items) ∙ done.spans_is
