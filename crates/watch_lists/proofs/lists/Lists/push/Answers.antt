use Rattle.std.proofs.Common.{List, ◌++◌, ◌∷◌, []}
use Rattle.watch_lists.specs.declared.lists.Watch.{Watch}
use Rattle.watch_lists.proofs.ListsLemmas.{used-written, used-same, spare-written, on_err}
use Rattle.watch_lists.proofs.lists.Lists.push.Goals as goal

pub returns-in_err-push-clause-err : goal.returns-in_err-push-clause-err
returns-in_err-push-clause-err c =
    on_err _ (used-same (λ v. v.items) c.self.inside.used c.self.inside.lists.items c.args.self.now c.self.view_is c.args.lit _ c.push.new.self c.requires c.index_mut.ensures.value c.in_err-push.ensures.items)

pub returns-clause-ok : goal.returns-clause-ok
returns-clause-ok c =
    used-written (λ v. v.items) c.self.inside.used c.self.inside.lists.items c.args.self.now c.self.view_is (λ (y : List Watch). y ++ c.args.watch ∷ []) c.args.lit _ c.push.new.self [] c.requires c.index_mut.ensures.value c.in_ok-push.ensures.items

pub invariant_of-self : goal.invariant_of-self
invariant_of-self c = spare-written c.self.inside.used c.self.inside.lists.items c.args.self.now c.self.view_is c.self.invariant c.args.lit _ c.requires

pub invariant_of-self-2 : goal.invariant_of-self-2
invariant_of-self-2 c = spare-written c.self.inside.used c.self.inside.lists.items c.args.self.now c.self.view_is c.self.invariant c.args.lit _ c.requires
