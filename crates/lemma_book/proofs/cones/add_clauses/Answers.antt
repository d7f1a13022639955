-- A merge's target is earlier than its node.
use Rattle.std.proofs.Common.{◌∙◌, ap, sym}
use Rattle.std.specs.Option.{option_map}
use Rattle.lemma_book.proofs.RootLemmas.{merge_at}
use Rattle.lemma_book.proofs.MergedNodes.{merge-apart}
use Rattle.lemma_book.proofs.cones.add_clauses.Goals as goal

pub add_merge-requires : goal.add_merge-requires
add_merge-requires c =
    merge-apart c.args.net.now c.args.book.now c.requires c.args.seen c.args.node (merge_at (c.in-Some.place, c.in-Some.target))
    (sym c.merge_among.ensures ∙ ap (option_map merge_at) c.in-Some.is)
