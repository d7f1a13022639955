use Rattle.std.proofs.Common.{rules, ◌≡◌}
use Rattle.check_session.specs.Check.{State, opened}
use Rattle.check_session.specs.contracts.session.Session.{the_view}
use Rattle.check_session.proofs.SessionLemmas.{session-loaded}
use Rattle.check_session.proofs.session.Session.load.Goals as goal

pub invariant_of-self : goal.invariant_of-self
invariant_of-self c =
    let s : State = the_view c.self.inside in
    let fresh : s ≡ opened s.net s.options = search rules in
    session-loaded s c.args.entries.items c.in_ok-book.book c.self.invariant fresh c.in_ok-book.ensures.loaded c.in_ok-book.ensures.legal
