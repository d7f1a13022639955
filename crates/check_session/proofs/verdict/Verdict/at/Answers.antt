use Rattle.std.proofs.Common.{◌∙◌}
use Rattle.check_session.proofs.OutputLemmas.{different-here}
use Rattle.check_session.proofs.verdict.Verdict.at.Goals as goal

pub returns-in_ok-from_slice-in-Some-OutApart : goal.returns-in_ok-from_slice-in-Some-OutApart
returns-in_ok-from_slice-in-Some-OutApart c =
    let h = c.in-Some-OutApart in
    different-here c.args.book.now.entries c.args.output h.field-0-0 h.input c.of-input.result h.field-0.now h.ensures h.field-0-is
    (c.of-input.ensures ∙ (c.in_ok-from_slice-in-Some-OutApart.ensures.items ∙ c.as_slice.ensures))
