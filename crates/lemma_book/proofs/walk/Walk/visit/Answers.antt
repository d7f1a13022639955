-- A merge's target has a position.
use Rattle.std.proofs.Common.{◌∙◌, ap, sym}
use Rattle.std.specs.Option.{option_map}
use Rattle.lemma_book.proofs.RootLemmas.{merge_at}
use Rattle.lemma_book.proofs.MergedNodes.{merge-placed, placed-there}
use Rattle.lemma_book.proofs.walk.Walk.visit.Goals as goal

pub find-requires-clause-there : goal.find-requires-clause-there
find-requires-clause-there c =
    placed-there c.args.net.now c.in-Some.target.node
    (merge-placed c.args.net.now c.args.book.now c.requires.legal c.args.seen c.args.node (merge_at (c.in-Some.field-0-0, c.in-Some.target))
    (sym c.merge_among.ensures ∙ ap (option_map merge_at) c.in-Some.is)).1
