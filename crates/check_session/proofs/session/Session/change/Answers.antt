use Rattle.std.proofs.Common.{rules, ◌≡◌, [], ◌∷◌, ◌++◌}
use Rattle.check_session.specs.contracts.session.Session.{the_view}
use Rattle.check_session.proofs.SessionLemmas.{session-changed}
use Rattle.check_session.proofs.session.Session.change.Goals as goal

pub invariant_of-self-2 : goal.invariant_of-self-2
invariant_of-self-2 c =
    let edits : c.push_reserved.new.self.items ≡ c.self.inside.edits.items ++ c.args.edit ∷ [] = search rules in
    session-changed (the_view c.self.inside) c.args.edit c.make.new.net c.remember.new.last c.push_reserved.new.self.items c.self.invariant
    c.in_ok-make.ensures.ok c.in_ok-remember.ensures.ok edits
