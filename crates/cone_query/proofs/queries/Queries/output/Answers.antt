use Rattle.std.proofs.lemmas.Result.{IfOk-weaker}
use Rattle.cone_query.proofs.queries.Queries.output.Goals as goal

pub query-requires : goal.query-requires
query-requires g c = record {
  net_is = c.is_net.ensures;
  legal = c.requires.legal;
  all_true = c.entries_are_true.ensures;
  below = c.requires.output;
  unsettled = c.requires.unsettled;
}

pub returns-clause-about : goal.returns-clause-about
returns-clause-about g c = IfOk-weaker c.query.result _ _ (λ e s. s.about) c.query.ensures.settles

pub returns-clause-good : goal.returns-clause-good
returns-clause-good g c = IfOk-weaker c.query.result _ _ (λ e s. s.good) c.query.ensures.settles

pub returns-clause-seen : goal.returns-clause-seen
returns-clause-seen g c = IfOk-weaker c.query.result _ _ (λ e s. s.seen) c.query.ensures.settles

pub returns-clause-outside : goal.returns-clause-outside
returns-clause-outside g c = IfOk-weaker c.query.result _ _ (λ e s. s.outside) c.query.ensures.settles

pub returns-clause-within : goal.returns-clause-within
returns-clause-within g c = IfOk-weaker c.query.result _ _ (λ e s. s.within) c.query.ensures.settles
