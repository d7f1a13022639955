use Rattle.std.proofs.Common.{List, [], get_or, length, ap, subst, ◌∙◌, ◌<◌}
use Rattle.std.specs.List.{swap_remove}
use Rattle.std.proofs.lemmas.List.{get_or_read}
use Rattle.watch_lists.specs.State.{no_watch}
use Rattle.watch_lists.specs.declared.lists.Watch.{Watch}
use Rattle.watch_lists.proofs.ListsLemmas.{used-written, used-read, spare-written}
use Rattle.watch_lists.proofs.lists.Lists.drop_at.Goals as goal

pub returns : goal.returns
returns c =
    let items = c.index_mut.result.now.items in
    let there = used-read (λ v. v.items) c.self.inside.used c.self.inside.lists.items c.args.self.now c.self.view_is c.args.lit c.index_mut.result.now [] c.requires.lit c.index_mut.ensures.value in
    let within : c.args.at < length items = subst (λ (z : List Watch). c.args.at < length z) there c.requires.at in
    used-written (λ v. v.items) c.self.inside.used c.self.inside.lists.items c.args.self.now c.self.view_is (λ (y : List Watch). swap_remove y c.args.at (get_or y c.args.at no_watch)) c.args.lit _ c.swap_remove.new.self [] c.requires.lit c.index_mut.ensures.value
    (c.swap_remove.ensures.items ∙ ap (λ (d : Watch). swap_remove items c.args.at d) (get_or_read items c.args.at c.swap_remove.result within c.swap_remove.ensures.value no_watch))

pub invariant_of-self : goal.invariant_of-self
invariant_of-self c = spare-written c.self.inside.used c.self.inside.lists.items c.args.self.now c.self.view_is c.self.invariant c.args.lit _ c.requires.lit
