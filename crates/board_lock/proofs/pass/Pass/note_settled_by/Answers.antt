-- What the pass has seen is a first part of the book, so what is settled there is settled in the book.
use Rattle.std.proofs.Common.{◌≡◌, Some, sym, ap, ◌∙◌, subst}
use Rattle.lemma_book.specs.Entry.{settled_at}
use Rattle.lemma_book.specs.Book.{StartsWith}
use Rattle.board_lock.specs.Views.{View}
use Rattle.board_lock.specs.Story.{Story}
use Rattle.board_lock.specs.Plays.{Place}
use Rattle.board_lock.specs.Pass.{Held}
use Rattle.board_lock.proofs.BookLemmas.{settled-known}
use Rattle.board_lock.proofs.PassLemmas.{tells-settled, offered-settled}
use Rattle.board_lock.proofs.pass.Pass.note_settled_by.Goals as goal

pub note_settled-requires : goal.note_settled-requires
note_settled-requires g c =
    let came = c.come_in.ensures.came in
    let known = c.self.inside.place.me.0.own.known in
    let taken : c.take-history.result ≡ came.slot = c.take-history.ensures.taken ∙ ap (λ (m : Place). m.0.taken) came.is in
    settled-known c.take-history.result.book known c.args.entry.now c.args.place
    (subst (λ (h : Story). StartsWith h.book known) (sym taken) came.fact.begins)
    (subst (λ (p : Held). settled_at p.known.entries c.args.entry.now ≡ Some c.args.place) (sym c.self.view_is) c.requires.settled)

pub leave_offered-requires-clause-tells : goal.leave_offered-requires-clause-tells
leave_offered-requires-clause-tells g c =
    let came = c.come_in.ensures.came in
    let known = c.self.inside.place.me.0.own.known in
    let v : View = c.take-history.new.place.me.0 in
    let left = c.take-history.ensures.left in
    let taken : c.take-history.result ≡ came.slot = c.take-history.ensures.taken ∙ ap (λ (m : Place). m.0.taken) came.is in
    tells-settled c.board.inside.lock.about.net v c.take-history.result c.note_settled.new.self c.args.entry.now g.N.Asked.entry
    c.self.inside.number c.args.place
    (c.take-history.ensures.taken ∙ sym (ap (λ (m : Place). m.0.taken) left))
    (c.self.invariant.number_is ∙ sym (ap (λ (m : Place). m.0.number) left ∙ ap (λ (m : Place). m.0.number) came.is))
    c.requires.asked
    (settled-known c.take-history.result.book known c.args.entry.now c.args.place
    (subst (λ (h : Story). StartsWith h.book known) (sym taken) came.fact.begins)
    (subst (λ (p : Held). settled_at p.known.entries c.args.entry.now ≡ Some c.args.place) (sym c.self.view_is) c.requires.settled))
    c.in-Ok.ensures.noted

pub returns-in-Ok-clause-ok : goal.returns-in-Ok-clause-ok
returns-in-Ok-clause-ok g c =
    let came = c.come_in.ensures.came in
    offered-settled c.self.inside.place.table_id c.leave_offered.new.place.table_id c.self.inside.place.me.0 c.come_in.new.place.me.0
    c.take-history.new.place.me.0 c.leave_offered.new.place.me.0 came.ticket c.args.place came.slot c.args.self.now c.args.entry.now
    g.N.Asked.entry c.self.view_is (ap (λ (m : Place). m.0) came.is) (ap (λ (m : Place). m.0) c.take-history.ensures.left)
    (ap (λ (m : Place). m.0) c.leave_offered.ensures.noted)
    (c.leave_offered.ensures.same ∙ c.take-history.ensures.same ∙ c.come_in.ensures.same) c.requires.asked came.fact.begins c.requires.settled
