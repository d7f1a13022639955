use Rattle.std.proofs.Common.{List, ◌++◌, ◌∷◌, [], ap, ◌∙◌}
use Rattle.watch_lists.specs.declared.lists.Watch.{Watch}
use Rattle.watch_lists.proofs.ListsLemmas.{used-grown, spare-grown}
use Rattle.watch_lists.proofs.lists.Lists.grow.Goals as goal

pub returns-clause-ok : goal.returns-clause-ok
returns-clause-ok c =
    used-grown c.self.inside.used c.add_spare.new.lists.items c.add_spare.ensures.spare c.in_ok-add_spare.ensures.room
    ∙ ap (λ (z : List (List Watch)). z ++ [] ∷ [] ∷ []) (c.add_spare.ensures.same ∙ c.self.view_is)

pub invariant_of-self-2 : goal.invariant_of-self-2
invariant_of-self-2 c = spare-grown c.self.inside.used c.add_spare.new.lists.items c.add_spare.ensures.spare c.in_ok-add_spare.ensures.room
