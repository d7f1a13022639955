use Rattle.std.proofs.Common.{◌≡◌, ℕ, Option, length, filter, arith, sym, subst}
use Rattle.std.specs.List.{range_with_len}
use Rattle.check_session.specs.declared.verdict.Verdict.{Verdict}
use Rattle.lemma_book.specs.Entry.{has_spent}
use Rattle.check_session.specs.Finding.{Finds}
use Rattle.check_session.specs.Outputs.{Looks, finding_of}
use Rattle.check_session.proofs.OutputLemmas.{finds-at, finds-rest, kept-next, none-next}
use Rattle.check_session.proofs.verdict.Verdict.of.Goals as goal

pub loop-output-preserved : goal.loop-output-preserved
loop-output-preserved c =
    let es = c.args.book.now.entries in
    let j = c.loop-output.output in
    let looks = subst (λ (o : Option Verdict). Looks es j c.loop-output.open.items c.at.new.opens.items o) c.in_default.is c.in_ok-verdict.ensures in
    record {
      open_is = kept-next (has_spent es) c.loop-output.open.items c.at.new.opens.items j c.loop-output.invariant.open_is looks.1;
      none = none-next es j c.loop-output.invariant.none looks.0;
    }

pub returns-clause-finds : goal.returns-clause-finds
returns-clause-finds c =
    let net = c.args.net.now in
    let es = c.args.book.now.entries in
    let end : c.loop-output.output ≡ length net.a.outputs = omega (arith, c.outputs-output-end.ensures.count) in
    subst (λ (v : Verdict). Finds net es (finding_of v)) (sym c.of_open.ensures)
    (finds-rest net es c.requires.settled c.requires.seen c.requires.roots c.loop-output.open.items
    (subst (λ (n : ℕ). c.loop-output.open.items ≡ filter (has_spent es) (range_with_len 0 n)) end c.loop-output.invariant.open_is)
    (λ k below. c.loop-output.invariant.none k (omega (arith, end))))

pub returns-in-Some-clause-finds : goal.returns-in-Some-clause-finds
returns-in-Some-clause-finds c =
    let es = c.args.book.now.entries in
    let j = c.loop-output.output in
    finds-at c.args.net.now es j c.loop-output.open.items c.at.new.opens.items c.in-Some.verdict
    (subst (λ (o : Option Verdict). Looks es j c.loop-output.open.items c.at.new.opens.items o) c.in-Some.is c.in_ok-verdict.ensures)
    c.loop-output.invariant.none
