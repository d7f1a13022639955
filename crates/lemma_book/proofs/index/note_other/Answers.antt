-- A key that the map has keeps its place.
use Rattle.std.proofs.Common.{◌∙◌, sym, Some, rules}
use Rattle.std.specs.HashMap.{Updates, get}
use Rattle.lemma_book.specs.Shelf.{same_key}
use Rattle.lemma_book.proofs.KeyRoom.{other-known, other-new}
use Rattle.lemma_book.proofs.index.note_other.Goals as goal

pub returns-then-not-contains_key-clause-notes : goal.returns-then-not-contains_key-clause-notes
returns-then-not-contains_key-clause-notes c =
    let put : Updates same_key c.args.others.now c.insert.new.self c.args.key (Some c.args.place) = search rules in
    other-new (get same_key c.args.others.now) (get same_key c.insert.new.self) c.args.key c.args.place
    (sym c.contains_key.ensures ∙ c.if-not-contains_key.true) put.0

pub returns-else-not-contains_key-clause-notes : goal.returns-else-not-contains_key-clause-notes
returns-else-not-contains_key-clause-notes c =
    other-known (get same_key c.args.others.now) c.args.key c.args.place (sym c.contains_key.ensures ∙ c.if-not-contains_key.false)
