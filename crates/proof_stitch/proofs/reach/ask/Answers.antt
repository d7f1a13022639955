use Rattle.std.proofs.Common.{List, ℕ, [], ◌∷◌, take, get_or, sym, subst, arith}
use Rattle.std.proofs.lemmas.List.{take_all, take_more}
use Rattle.proof_stitch.specs.Table.{AreMarked, always}
use Rattle.proof_stitch.proofs.ReachLemmas.{shape-refl, shape-trans, marks-nothing, marks-next}
use Rattle.proof_stitch.proofs.reach.ask.Goals as goal

pub loop-id-init : goal.loop-id-init
loop-id-init c = record { shape = shape-refl c.args.marks.now; marked = marks-nothing c.args.marks.now always }

pub loop-id-preserved : goal.loop-id-preserved
loop-id-preserved c =
    let i = c.loop-id.id-index in
    let x = get_or c.args.ids.now i 0 in
    record {
      shape = shape-trans c.args.marks.now c.loop-id.marks c.mark.new.marks c.loop-id.invariant.shape c.mark.ensures.shape;
      marked =
          subst (λ (l : List ℕ). AreMarked l always c.args.marks.now c.mark.new.marks) (sym (take_more c.args.ids.now i 0 c.loop-id-test.true))
          (marks-next c.args.marks.now c.loop-id.marks c.mark.new.marks (take i c.args.ids.now) (x ∷ []) always (omega arith)
          c.loop-id.invariant.shape c.loop-id.invariant.marked c.mark.ensures.marked);
    }

pub returns-clause-marked : goal.returns-clause-marked
returns-clause-marked c =
    subst (λ (l : List ℕ). AreMarked l always c.args.marks.now c.loop-id.marks) (take_all c.loop-id.id-index c.args.ids.now c.loop-id-test.false)
    c.loop-id.invariant.marked
