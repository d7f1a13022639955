-- In a legal book a merge's target has a position.
use Rattle.strash_pass.specs.Merged.{merge_to}
use Rattle.strash_pass.proofs.MergedLemmas.{target-there}
use Rattle.strash_pass.proofs.merged.known_at.Goals as goal

pub position_of-at-requires : goal.position_of-at-requires
position_of-at-requires c =
    target-there c.args.net.now c.args.book.now c.requires.legal c.args.node (merge_to c.args.place c.args.target) c.requires.merge
