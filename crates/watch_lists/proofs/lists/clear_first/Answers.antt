use Rattle.std.proofs.Common.{◌≡◌, ℕ, map, [], slice_index_or, inl, inr, subst, sym, ◌∙◌, arith, set}
use Rattle.std.proofs.lemmas.List.{length-set}
use Rattle.watch_lists.proofs.ListsLemmas.{emptied}
use Rattle.watch_lists.proofs.WatchLemmas.{decide}
use Rattle.watch_lists.proofs.lists.clear_first.Goals as goal

pub loop-at-preserved : goal.loop-at-preserved
loop-at-preserved c =
    let here = emptied c.loop-at.lists.items c.loop-at.at c.clear.new.self (omega arith) c.clear.ensures.items in
    record {
      size = length-set c.loop-at.lists.items c.loop-at.at c.clear.new.self ∙ c.loop-at.invariant.size;
      below = λ k h. elim (decide k c.loop-at.at) [
        | inl same ↦ subst (λ (n : ℕ). slice_index_or (map (λ v. v.items) (set c.loop-at.lists.items c.loop-at.at c.clear.new.self)) n [] ≡ []) (sym same) here.0
        | inr apart ↦ here.1 k apart ∙ c.loop-at.invariant.below k (omega arith)
      ];
      rest = λ k h. here.1 k (omega arith) ∙ c.loop-at.invariant.rest k (omega arith);
    }
