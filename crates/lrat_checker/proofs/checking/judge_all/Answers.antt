use Rattle.std.proofs.Common.{take, drop, suc, refl, sym, ap, ◌∙◌}
use Rattle.lrat_text.specs.Derivation.{Live, formula_live, live_after}
use Rattle.lrat_checker.specs.Live.{clauses_of}
use Rattle.lrat_checker.proofs.LiveLemmas.{fault_over-same, after_step-same, empty-push, lines-whole, lines-more}
use Rattle.lrat_checker.proofs.checking.judge_all.Goals as goal

pub returns-in-Some : goal.returns-in-Some
returns-in-Some c formula start =
    let l = c.loop-line in
    let line = c.line-item.result in
    let before = take l.line-index c.args.lines.now in
    let live = live_after (formula_live formula) before in
    record {
      before = before;
      line = line;
      behind = drop (suc l.line-index) c.args.lines.now;
      whole = lines-whole c.args.lines.now l.line-index line c.loop-line-test.true c.line-item.is;
      derives = l.invariant.derives formula start;
      fault = sym (fault_over-same (clauses_of l.live) live (l.invariant.live formula start) line.step) ∙ sym c.in_ok-fault.ensures ∙ c.in-Some.is;
      numbered = refl;
    }

pub loop-line-preserved : goal.loop-line-preserved
loop-line-preserved c =
    let l = c.loop-line in
    let line = c.line-item.result in
    let before = take l.line-index c.args.lines.now in
    rw (lines-more c.args.lines.now l.line-index line c.loop-line-test.true c.line-item.is)
    (record {
      derives = λ formula start.
          let live = live_after (formula_live formula) before in
          let fault = sym (fault_over-same (clauses_of l.live) live (l.invariant.live formula start) line.step) ∙ sym c.in_ok-fault.ensures ∙ c.in_default.is in
          c.derived_lines.ensures.line formula before line (l.invariant.derives formula start) fault;
      live = λ formula start id.
          let live = live_after (formula_live formula) before in
          c.in_ok-apply.ensures id ∙ after_step-same (clauses_of l.live) live (l.invariant.live formula start) line.step id ∙ ap (λ (f : Live). f id) (sym (c.derived_lines.ensures.live formula before line));
      empty = empty-push before line l.has_empty c.adds_empty.result l.invariant.empty c.adds_empty.ensures;
    })
