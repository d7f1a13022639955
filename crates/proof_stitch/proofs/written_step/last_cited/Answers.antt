use Rattle.std.proofs.lemmas.List.Filters.{dedup_is}
use Rattle.std.proofs.lemmas.Map.Keys.{IsStrictlyIncreasing-dedup}
use Rattle.proof_stitch.proofs.RisingLemmas.{sorted-members}
use Rattle.proof_stitch.proofs.written_step.last_cited.Goals as goal

pub returns-clause-rises : goal.returns-clause-rises
returns-clause-rises c =
    let is = dedup_is _ _ _ c.dedup.ensures.filtered in
    rw is (IsStrictlyIncreasing-dedup _ c.sort_unstable.ensures.sorted)

pub returns-clause-members : goal.returns-clause-members
returns-clause-members c = λ n.
    let is = dedup_is _ _ _ c.dedup.ensures.filtered in
    sorted-members _ _ _ _ _ c.in_ok-gone.ensures c.sort_unstable.ensures.permutation is n
