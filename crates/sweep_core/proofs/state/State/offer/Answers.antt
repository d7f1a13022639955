use Rattle.std.proofs.Common.{subst}
use Rattle.lemma_book.specs.Machine.{Machine}
use Rattle.sweep_core.specs.Event.{Core, Keeps}
use Rattle.sweep_core.proofs.KeepLemmas.{keeps-append}
use Rattle.sweep_core.proofs.state.State.offer.Goals as goal

pub returns-clause-keeps : goal.returns-clause-keeps
returns-clause-keeps c =
    let own = c.self.inside in
    let old : Machine = record { book = own.book; next = own.next; known = own.known.items } in
    let new : Machine = record old { book = c.append.new.self } in
    let taken = c.append.ensures.after in
    let refused = c.append.ensures.refused in
    subst (λ (core : Core). Keeps core.machine new) c.self.view_is
    (keeps-append c.args.entry old new.book c.append.result _ c.self.invariant taken refused)
