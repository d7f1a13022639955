use Rattle.std.proofs.Common.{ℕ, List, [], take, length, ◌-◌, ap, ◌∙◌}
use Rattle.watch_lists.specs.declared.lists.Watch.{Watch}
use Rattle.watch_lists.proofs.ListsLemmas.{used-written, spare-written}
use Rattle.watch_lists.proofs.lists.Lists.drop_last.Goals as goal

pub returns : goal.returns
returns c =
    let v = c.index_mut.result.now in
    used-written (λ v. v.items) c.self.inside.used c.self.inside.lists.items c.args.self.now c.self.view_is (λ (y : List Watch). take (length y - 1) y) c.args.lit _ c.pop-last.new.self [] c.requires c.index_mut.ensures.value
    (c.pop-last.ensures.rest ∙ ap (λ (n : ℕ). take (n - 1) v.items) v.ok.0)

pub invariant_of-self : goal.invariant_of-self
invariant_of-self c = spare-written c.self.inside.used c.self.inside.lists.items c.args.self.now c.self.view_is c.self.invariant c.args.lit _ c.requires
