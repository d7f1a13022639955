use Rattle.std.proofs.lemmas.Result.{IfOk-weaker}
use Rattle.cone_query.proofs.queries.Queries.pair.Goals as goal

pub settle-requires-clause-pair : goal.settle-requires-clause-pair
settle-requires-clause-pair g c κs within = record {
  net_is = c.is_net.ensures;
  legal = c.requires.legal;
  all_true = c.entries_are_true.ensures;
  root = c.requires.root;
  earlier = c.requires.earlier;
}

pub returns-clause-about : goal.returns-clause-about
returns-clause-about g c = IfOk-weaker c.settle.result _ _ (λ e s. s.about) c.settle.ensures.settles

pub returns-clause-good : goal.returns-clause-good
returns-clause-good g c = IfOk-weaker c.settle.result _ _ (λ e s. s.good) c.settle.ensures.settles

pub returns-clause-seen : goal.returns-clause-seen
returns-clause-seen g c = IfOk-weaker c.settle.result _ _ (λ e s. s.seen) c.settle.ensures.settles

pub returns-clause-outside : goal.returns-clause-outside
returns-clause-outside g c = IfOk-weaker c.settle.result _ _ (λ e s. s.outside) c.settle.ensures.settles

pub returns-clause-within : goal.returns-clause-within
returns-clause-within g c = IfOk-weaker c.settle.result _ _ (λ e s. s.within) c.settle.ensures.settles
