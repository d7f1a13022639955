-- Each of the row's events may come after those before it: there are two workers, and what is offered is
-- good over the opening book, which no draw changes.
use Rattle.std.proofs.Common.{◌≡◌, ◌∙◌, ◌∷◌, [], ◌+◌, ℕ, List, refl, sym, ap, subst, arith}
use Rattle.netlist.specs.Net.{AigPair}
use Rattle.lemma_book.specs.declared.entry.Entry.{Entry}
use Rattle.lemma_book.specs.Entry.{Entries}
use Rattle.lemma_book.specs.Good.{IsGood}
use Rattle.lemma_book.specs.Machine.{Machine, MayOffer, opened}
use Rattle.sweep_core.specs.declared.event.Event.{Event}
use Rattle.sweep_core.specs.declared.event.Event.TheVariants.{Draw, Refresh, Offer}
use Rattle.sweep_core.specs.declared.event.Reply.{Reply}
use Rattle.sweep_core.specs.declared.event.Reply.TheVariants.{Task, Known, Offered}
use Rattle.sweep_core.specs.Event.{Core, IsEvent}
use Rattle.sweep_core.specs.Run.{MayRun}
use Rattle.sweep_core.proofs.Facts.{event-workers}
use Rattle.book_rows.proofs.machine.replies_to.Goals as goal

after-draw : (tasks w : ℕ) (old new : Machine) (r : Reply) → IsEvent tasks (Draw w) old new r
    → new ≡ record { book = old.book; next = old.next + 1; known = old.known }
after-draw tasks w old new (Task number) does = does.new_is
after-draw tasks w old new (Known n) does = absurd does
after-draw tasks w old new (Offered o) does = absurd does

abbrev start : ℕ → ℕ → ℕ → Core
start tasks s o =
    record {
      tasks = tasks;
      machine = opened (record { sweep_budget = s; out_budget = o; entries = [] }) 2;
    }

row : (net : AigPair) (tasks s o : ℕ) (e : Entry)
    → IsGood net (record { sweep_budget = s; out_budget = o; entries = [] }) e
    → MayRun net (Draw 0 ∷ Offer 0 e ∷ Refresh 1 ∷ Draw 1 ∷ []) (start tasks s o)
row net tasks s o e good = (
  omega arith,
  λ a ra da.
      let wa = event-workers tasks (Draw 0) (start tasks s o).machine a.machine ra da.does in (
        subst (λ (m : Machine). MayOffer net m 0 e)
            (sym (after-draw tasks 0 (start tasks s o).machine a.machine ra da.does))
            (record { known = 0; known_is = refl; good = good }),
        λ b rb db.
            let wb = event-workers a.tasks (Offer 0 e) a.machine b.machine rb db.does in (
              omega arith,
              λ d rd dd.
                  let wd = event-workers b.tasks (Refresh 1) b.machine d.machine rd dd.does in
                  (omega arith, λ f rf df. tt),
            ),
      ),
)

pub run-requires-clause-events : goal.run-requires-clause-events
run-requires-clause-events g c =
    let net = c.args.net.now in
    let entry = c.args.entry in
    let good = subst (λ (book : Entries). IsGood net book entry) c.requires.empty c.requires.good in
    let start_is = c.core.ensures
    ∙ ap (λ (book : Entries). record { tasks = 1; machine = opened book 2 }) c.requires.empty in
    subst (λ (events : List Event). MayRun net events c.core.result)
    (sym c.events-events.ensures)
    (subst (MayRun net (Draw 0 ∷ Offer 0 entry ∷ Refresh 1 ∷ Draw 1 ∷ [])) (sym start_is)
    (row net 1 1 1 entry good))
