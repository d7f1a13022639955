use Rattle.std.proofs.Common.{rules, ◌≡◌}
use Rattle.std.specs.Prelude.{unwrap_or}
use Rattle.check_session.proofs.SessionLemmas.{begun-parted}
use Rattle.check_session.proofs.session.Session.part.Goals as goal

pub returns-clause-begun : goal.returns-clause-begun
returns-clause-begun c =
    let s = c.args.self.now in
    let last : unwrap_or c.replace.result s.net ≡ s.last = search rules in
    let edits : c.replace-2.result.items ≡ s.edits = search rules in
    let pool : c.replace-3.result ≡ s.pool = search rules in
    let book : c.replace-4.result ≡ s.book = search rules in
    begun-parted s c.replace.result c.replace-2.result.items c.replace-3.result c.replace-4.result last edits pool book
