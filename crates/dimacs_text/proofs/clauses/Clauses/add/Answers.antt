use Rattle.dimacs_text.proofs.ClauseLemmas.{read-end}
use Rattle.dimacs_text.proofs.clauses.Clauses.add.Goals as goal

pub returns-in_ok-push-in-None-clause-ok : goal.returns-in_ok-push-in-None-clause-ok
returns-in_ok-push-in-None-clause-ok c es r =
    let s = c.args.self.now in
    let kept = c.in_ok-literals-in-None.ensures in
    let ended = c.in_ok-push-in-None.ensures.items in
    rw (c.in-None.is, ended, c.clear.ensures.items, c.of.ensures, kept, c.as_slice.ensures.value)
    (read-end es s.ended.items s.«open».items r)
