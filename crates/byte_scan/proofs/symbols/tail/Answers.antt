use Rattle.std.proofs.Common.{ap, arith, sym, ◌∙◌, Err, ℕ}
use Rattle.byte_scan.specs.declared.errors.AigerErr.TheVariants.{BadSymbol}
use Rattle.byte_scan.specs.Reading.{lines_ahead}
use Rattle.byte_scan.proofs.TailLemmas.{HasNames-start, tail-comment, tail-bad, tail-symbol}
use Rattle.byte_scan.proofs.TailLemmas.{EndsAs-start, ends-comment, ends-bad, ends-symbol}
use Rattle.byte_scan.proofs.symbols.tail.Goals as goal

pub loop-line-init : goal.loop-line-init
loop-line-init c = record {
  at = c.at-at.ensures.at;
  within = omega (arith, c.at-at.ensures.at, c.at-at.ensures.within);
  names = rw c.none-names.ensures (HasNames-start c.args.inputs c.args.outputs (lines_ahead c.args.scan.now));
  ends = EndsAs-start c.args.inputs c.args.outputs c.args.scan.now;
}

pub returns-then-begins_with-clause-reads : goal.returns-then-begins_with-clause-reads
returns-then-begins_with-clause-reads c =
    let l = c.loop-line in
    tail-comment c.args.inputs c.args.outputs (lines_ahead c.args.scan.now) l.scan c.line.new.self c.in-Some.line.now l.names l.invariant.names
    (sym c.in-Some.ensures.line) c.in-Some.ensures.moved (sym c.if-begins_with.ensures)

pub returns-then-not-branch-clause-reads : goal.returns-then-not-branch-clause-reads
returns-then-not-branch-clause-reads c =
    let l = c.loop-line in
    tail-bad c.args.inputs c.args.outputs (lines_ahead c.args.scan.now) l.scan c.line.new.self c.in-Some.line.now l.names l.invariant.names
    (sym c.in-Some.ensures.line) c.in-Some.ensures.moved (sym c.if-begins_with.ensures) (sym c.in_ok-put_symbol.ensures.is ∙ c.if-not-branch.true)
    ∙ ap (λ (at : ℕ). Err (BadSymbol at)) (sym l.invariant.at)

pub loop-line-preserved : goal.loop-line-preserved
loop-line-preserved c =
    let l = c.loop-line in
    record {
      at = c.at-at-in-Some.ensures.at;
      within = omega (arith, c.at-at-in-Some.ensures.at, c.at-at-in-Some.ensures.within);
      names = tail-symbol c.args.inputs c.args.outputs (lines_ahead c.args.scan.now) l.scan c.line.new.self c.in-Some.line.now l.names c.put_symbol.new.names l.invariant.names
          (sym c.in-Some.ensures.line) c.in-Some.ensures.moved (sym c.if-begins_with.ensures) (sym c.in_ok-put_symbol.ensures.is ∙ c.if-not-branch.false)
          (c.in_ok-put_symbol.ensures.put c.if-not-branch.false);
      ends = ends-symbol c.args.inputs c.args.outputs c.args.scan.now l.scan c.line.new.self c.in-Some.line.now l.invariant.ends
          (sym c.in-Some.ensures.line) c.in-Some.ensures.moved (sym c.if-begins_with.ensures) (sym c.in_ok-put_symbol.ensures.is ∙ c.if-not-branch.false);
    }

pub returns-then-begins_with-clause-ends : goal.returns-then-begins_with-clause-ends
returns-then-begins_with-clause-ends c =
    let l = c.loop-line in
    ends-comment c.args.inputs c.args.outputs c.args.scan.now l.scan c.line.new.self c.in-Some.line.now l.invariant.ends
    (sym c.in-Some.ensures.line) c.in-Some.ensures.moved (sym c.if-begins_with.ensures)

pub returns-then-not-branch-clause-ends : goal.returns-then-not-branch-clause-ends
returns-then-not-branch-clause-ends c =
    let l = c.loop-line in
    ends-bad c.args.inputs c.args.outputs c.args.scan.now l.scan c.line.new.self c.in-Some.line.now l.invariant.ends
    (sym c.in-Some.ensures.line) c.in-Some.ensures.moved (sym c.if-begins_with.ensures) (sym c.in_ok-put_symbol.ensures.is ∙ c.if-not-branch.true)
