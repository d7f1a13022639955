-- The merge of one more node.
use Rattle.std.proofs.Common.{[], ◌∷◌, ap, sym, subst, length, length-append, arith}
use Rattle.lits.specs.declared.node.Node.{Node}
use Rattle.strash_pass.specs.Merged.{IsMergeOf}
use Rattle.strash_pass.proofs.MergedLemmas.{merges-last, merges-none}
use Rattle.strash_pass.proofs.merged.Merged.of.Goals as goal

pub loop-position-init : goal.loop-position-init
loop-position-init c = record {
  count = ap length c.in_ok-known.ensures.items;
  merges = merges-none c.args.net.now c.args.book.now.entries _ c.in_ok-known.ensures.items;
}

pub loop-position-preserved : goal.loop-position-preserved
loop-position-preserved c =
    let inv = c.loop-position.invariant in
    record {
      count = omega (arith, ap length c.in_ok-push.ensures.items, length-append c.loop-position.known.items (c.merge_in.result ∷ []), inv.count);
      merges = merges-last c.args.net.now c.args.book.now.entries c.loop-position.known.items c.push.new.self.items c.merge_in.result c.loop-position.position
          (sym inv.count) inv.merges
          (subst (λ (n : Node). IsMergeOf c.args.net.now c.args.book.now.entries n c.merge_in.result) c.node.ensures c.merge_in.ensures)
          c.in_ok-push.ensures.items;
    }
