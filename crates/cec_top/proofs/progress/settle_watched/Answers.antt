use Rattle.check_session.specs.Check.{begun_by}
use Rattle.cec_top.proofs.CheckLemmas.{due-now, is-made, proofs-of}
use Rattle.cec_top.specs.Steps.{due_in}
use Rattle.cec_top.proofs.progress.settle_watched.Goals as goal

pub returns-clause-ok : goal.returns-clause-ok
returns-clause-ok g c =
    let s = c.args.session.now in
    let t = c.check_watched.new.self in
    record {
      net_is = c.in_ok-verdict.ensures.net;
      options_are = c.in_ok-verdict.ensures.options;
      due_is = due-now s t c.in_ok-verdict.ensures.net c.in_ok-verdict.ensures.last.1;
      last_is = c.in_ok-verdict.ensures.last.0;
      begins = c.in_ok-verdict.ensures.begins.goes_on.entries;
      found_is = c.in_ok-verdict.ensures.is_kept;
      open_are = c.in_ok-verdict.ensures.found.open_are;
      is_made = is-made (due_in s) t (begun_by s) c.in_ok-verdict.verdict c.in_ok-verdict.ensures.found
          (proofs-of t.net c.net.result.now t.book c.book.result.now c.net.ensures c.book.ensures c.proves.ensures);
    }
