use Rattle.std.proofs.Common.{◌≡◌, ℕ, List, [], length, set, false, sym, ap, ◌∙◌, subst, ◌<◌}
use Rattle.std.proofs.lemmas.List.{get_or_read}
use Rattle.watch_lists.specs.State.{blocked, no_watch, watch_at}
use Rattle.watch_lists.specs.declared.lists.Watch.{Watch}
use Rattle.watch_lists.proofs.ListsLemmas.{used-written, used-read, spare-written}
use Rattle.watch_lists.proofs.lists.Lists.block.Goals as goal

pub returns : goal.returns
returns c =
    let list = c.index.result.now.items in
    let read = used-read (λ v. v.items) c.self.inside.used c.self.inside.lists.items c.args.self.now c.self.view_is c.args.lit c.index.result.now [] c.requires.lit c.index.ensures in
    let written = used-read (λ v. v.items) c.self.inside.used c.self.inside.lists.items c.args.self.now c.self.view_is c.args.lit c.index_mut.result.now [] c.requires.lit c.index_mut.ensures.value in
    let within : c.args.at < length list = subst (λ (z : List Watch). c.args.at < length z) read c.requires.at in
    let clause : c.index-2.result.now.clause ≡ (watch_at c.index_mut.result.now.items c.args.at).clause =
    ap (λ (w : Watch). w.clause) (get_or_read list c.args.at c.index-2.result.now within c.index-2.ensures no_watch)
    ∙ ap (λ (z : List Watch). (watch_at z c.args.at).clause) (sym read ∙ written) in
    used-written (λ v. v.items) c.self.inside.used c.self.inside.lists.items c.args.self.now c.self.view_is (λ (y : List Watch). blocked y c.args.at c.args.blocker) c.args.lit _ _ [] c.requires.lit c.index_mut.ensures.value
    (ap (λ (n : ℕ). set c.index_mut.result.now.items c.args.at (record { clause = n; blocker = c.args.blocker; is_two = false })) clause)

pub invariant_of-self : goal.invariant_of-self
invariant_of-self c = spare-written c.self.inside.used c.self.inside.lists.items c.args.self.now c.self.view_is c.self.invariant c.args.lit _ c.requires.lit
