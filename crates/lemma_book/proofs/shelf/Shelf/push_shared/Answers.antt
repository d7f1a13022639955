-- The entry that is shared is the last one.
use Rattle.std.proofs.Common.{◌≡◌, ◌∙◌, ◌++◌, ◌∷◌, [], List, Option, Some, length, map, ap, sym, subst, arith}
use Rattle.std.specs.Prelude.{slice_get, IfSome}
use Rattle.std.specs.Option.{option_map}
use Rattle.std.specs.Arc.{arc_value}
use Rattle.std.proofs.lemmas.List.{length-map, map-append}
use Rattle.std.proofs.lemmas.Option.{slice_get-map, slice_get-get_or}
use Rattle.lemma_book.specs.declared.entry.Entry.{Entry}
use Rattle.lemma_book.proofs.shelf.Shelf.push_shared.Goals as goal

pub returns-clause-ok : goal.returns-clause-ok
returns-clause-ok c =
    let all = c.from.inside.entries.items in
    let new = arc_value c.in_ok-shared.shared in
    let at : slice_get c.args.from.now c.args.i ≡ Some new =
    ap (λ (l : List Entry). slice_get l c.args.i) (sym c.from.view_is) ∙ slice_get-map arc_value all c.args.i
    ∙ ap (option_map arc_value)
    (slice_get-get_or all c.args.i c.index.result.now (omega (arith, c.requires, ap length c.from.view_is, length-map all arc_value))
    ∙ ap Some (sym c.index.ensures))
    ∙ ap Some (sym c.in_ok-shared.ensures) in
    subst (λ (o : Option Entry). IfSome o (λ e. map arc_value c.put.new.entries.items ≡ c.args.self.now ++ e ∷ [])) (sym at)
    (ap (map arc_value) c.put.ensures.entries ∙ map-append arc_value c.make_room.new.entries.items (c.in_ok-shared.shared ∷ [])
    ∙ ap (λ (l : List Entry). l ++ new ∷ []) (ap (map arc_value) c.make_room.ensures.entries ∙ c.self.view_is))
