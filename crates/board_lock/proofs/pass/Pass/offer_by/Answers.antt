use Rattle.std.proofs.Common.{◌≡◌, sym, ap, ◌∙◌, subst}
use Rattle.lemma_book.specs.Good.{IsGood}
use Rattle.lemma_book.specs.Book.{StartsWith}
use Rattle.board_lock.specs.Story.{Story}
use Rattle.board_lock.specs.Plays.{Place}
use Rattle.board_lock.specs.Pass.{Held}
use Rattle.board_lock.proofs.BookLemmas.{good-first}
use Rattle.board_lock.proofs.pass.Pass.offer_by.Goals as goal

pub append-requires-clause-good : goal.append-requires-clause-good
append-requires-clause-good g c =
    let came = c.come_in.ensures.came in
    let known = c.self.inside.place.me.0.own.known in
    let taken : c.take-history.result ≡ came.slot = c.take-history.ensures.taken ∙ ap (λ (m : Place). m.0.taken) came.is in
    good-first c.args.net.now c.args.entry c.len.result c.take-history.result.book c.self.inside.seen known c.len.ensures c.self.invariant.seen_is
    (subst (λ (h : Story). StartsWith h.book known) (sym taken) came.fact.begins)
    (subst (λ (p : Held). IsGood c.args.net.now p.known c.args.entry) (sym c.self.view_is) c.requires.good)
