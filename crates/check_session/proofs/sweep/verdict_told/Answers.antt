use Rattle.std.proofs.Common.{◌∙◌}
use Rattle.lemma_book.proofs.Facts.{good-out_apart}
use Rattle.check_session.proofs.BegunLemmas.{apart-unsettled}
use Rattle.check_session.proofs.PatternLemmas.{first-differs}
use Rattle.check_session.proofs.SweptLemmas.{tells-difference}
use Rattle.check_session.proofs.sweep.verdict_told.Goals as goal

pub put-requires-clause-good : goal.put-requires-clause-good
put-requires-clause-good c =
    let net = c.args.net.now in
    let d = c.args.difference in
    let differs = first-differs net c.args.pool.patterns d.output d.input c.requires.fits.whole c.requires.first in
    good-out_apart net c.args.book d.output d.input differs.within
    (apart-unsettled net d.output d.input c.args.book.entries differs c.requires.entries c.entries_are_true.ensures) differs

pub returns : goal.returns
returns c =
    let net = c.args.net.now in
    let d = c.args.difference in
    tells-difference net c.args.book c.put.new.book c.args.pool d c.of-told.result c.args.work c.requires.first c.requires.entries c.entries_are_true.ensures
    (first-differs net c.args.pool.patterns d.output d.input c.requires.fits.whole c.requires.first) c.in_ok-put.ensures.ok
    c.in_ok-put.ensures.legal (c.of-told.ensures ∙ (c.in_ok-from_slice.ensures.items ∙ c.as_slice.ensures)) c.means.ensures
