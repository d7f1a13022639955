use Rattle.std.proofs.Common.{refl, subst, slice_set}
use Rattle.lemma_book.specs.Machine.{Machine, IsRefresh}
use Rattle.sweep_core.specs.Event.{Core, Keeps}
use Rattle.sweep_core.proofs.KeepLemmas.{keeps-refresh}
use Rattle.sweep_core.proofs.state.State.refresh.Goals as goal

pub returns-clause-keeps : goal.returns-clause-keeps
returns-clause-keeps c =
    let own = c.self.inside in
    let worker = c.args.worker in
    let all = c.len-known.result in
    let old : Machine = record { book = own.book; next = own.next; known = own.known.items } in
    let new : Machine = record old { known = slice_set own.known.items worker all } in
    let refreshes : IsRefresh worker old new all =
    record { reply_is = c.len-known.ensures; new_is = refl } in
    subst (λ (core : Core). Keeps core.machine new) c.self.view_is
    (keeps-refresh worker old new all c.self.invariant refreshes)
