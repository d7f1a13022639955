-- The index finds the new entry too.
use Rattle.std.proofs.Common.{◌∙◌, ◌∷◌, [], map, ap, sym}
use Rattle.std.proofs.lemmas.List.{map-append, length-map}
use Rattle.std.specs.Arc.{arc_value}
use Rattle.lemma_book.specs.Shelf.{key_of}
use Rattle.lemma_book.proofs.IndexLemmas.{index-put}
use Rattle.lemma_book.proofs.shelf.put.Goals as goal

pub returns-clause-index : goal.returns-clause-index
returns-clause-index c =
    let before = c.args.entries.now.items in
    index-put (map arc_value before) _ (arc_value c.args.entry) _ _ c.args.index.now c.note.new.self c.requires.index c.note.ensures.notes
    (c.key.ensures ∙ ap key_of c.deref.ensures)
    (c.len.ensures ∙ c.args.entries.now.ok.0 ∙ sym (length-map before arc_value))
    (ap (map arc_value) c.push_reserved.ensures.items ∙ map-append arc_value before (c.args.entry ∷ []))
