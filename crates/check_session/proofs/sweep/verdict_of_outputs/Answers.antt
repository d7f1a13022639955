use Rattle.std.proofs.Common.{refl}
use Rattle.check_session.specs.Outputs.{finding_of}
use Rattle.check_session.proofs.SweptLemmas.{asked-opens, asked-seen}
use Rattle.check_session.proofs.sweep.verdict_of_outputs.Goals as goal

pub of-requires-clause-seen : goal.of-requires-clause-seen
of-requires-clause-seen g c = asked-seen c.args.net.now c.args.swept.book c.in_ok-book.book c.requires.entries c.in_ok-book.ensures

pub of-requires-clause-roots : goal.of-requires-clause-roots
of-requires-clause-roots g c = asked-opens c.args.net.now c.args.swept.book c.in_ok-book.book c.requires.entries c.in_ok-book.ensures

pub returns : goal.returns
returns g c =
    let verdict = c.in_ok-verdict in
    record {
      none = c.requires.none;
      pool_is = refl;
      outputs = c.in_ok-book.ensures;
      finds = verdict.ensures.finds;
      open_are = verdict.ensures.open;
      means = c.means.ensures (finding_of verdict.verdict) verdict.ensures.finds;
      within = c.is_within.ensures (finding_of verdict.verdict) verdict.ensures.finds;
    }
