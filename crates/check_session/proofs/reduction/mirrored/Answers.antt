use Rattle.check_session.proofs.ReductionLemmas.{legal-beside, settled-mirror}
use Rattle.check_session.proofs.reduction.mirrored.Goals as goal

pub mirror-requires-clause-legal : goal.mirror-requires-clause-legal
mirror-requires-clause-legal c = legal-beside c.args.net.now c.args.options c.args.book.now c.requires.swept

pub returns-clause-settled : goal.returns-clause-settled
returns-clause-settled c =
    settled-mirror c.args.net.now c.args.options c.args.book.now _ c.requires.swept c.in_ok-mirrored.ensures.mirror
    c.in_ok-mirrored.ensures.legal c.in_ok-mirrored.ensures.equal c.means.ensures
