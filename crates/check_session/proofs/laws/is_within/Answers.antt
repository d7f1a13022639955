use Rattle.check_session.proofs.WithinLemmas.{finds-within}
use Rattle.check_session.proofs.laws.is_within.Goals as goal

pub returns : goal.returns
returns c =
    finds-within c.args.net.now c.is_net.ensures c.budget_log_length.ensures c.variables_among.ensures c.args.book.now c.requires
