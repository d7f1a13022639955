use Rattle.check_session.proofs.AdmittedLemmas.{met-both}
use Rattle.check_session.proofs.admitted.keep_admitted.Goals as goal

pub returns-clause-bits : goal.returns-clause-bits
returns-clause-bits c = λ patterns p are below.
    met-both c.args.net.now patterns p _ _ _ (c.keep_met.ensures.bits patterns p are below) (c.keep_met-2.ensures.bits patterns p are below)
