use Rattle.std.proofs.Common.{sym, arith}
use Rattle.std.proofs.lemmas.List.{length-set, take_all}
use Rattle.lits.proofs.IndexLemmas.{index-next}
use Rattle.lits.proofs.chains.Chains.add_all.Goals as goal

pub loop-lit-preserved : goal.loop-lit-preserved
loop-lit-preserved g c = record {
  index =
      index-next c.loop-lit.self.heads.items c.loop-lit.self.links.items c.args.lits.now c.loop-lit.lit-index c.lit-item.result
      (omega arith) c.lit-item.is (omega arith) (rw c.code.ensures at c.in_ok-add.ensures.links) (rw c.code.ensures at c.in_ok-add.ensures.heads) c.loop-lit.invariant.index;
  slots = rw (c.in_ok-add.ensures.heads, length-set) c.loop-lit.invariant.slots;
}

pub returns-clause-index : goal.returns-clause-index
returns-clause-index g c =
    rw (sym (take_all c.loop-lit.lit-index c.args.lits.now c.loop-lit-test.false)) c.loop-lit.invariant.index
