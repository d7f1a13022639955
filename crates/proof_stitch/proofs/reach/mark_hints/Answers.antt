use Rattle.std.proofs.Common.{List, ℕ, [], ◌∷◌, ◌++◌, ◌∙◌, take, ap, sym, subst, map, arith}
use Rattle.std.proofs.lemmas.List.{take_all}
use Rattle.lits.proofs.Facts.{map_next}
use Rattle.proof_stitch.specs.Ids.{HasId}
use Rattle.proof_stitch.specs.Steps.{id_of}
use Rattle.proof_stitch.specs.Table.{AreMarked}
use Rattle.proof_stitch.proofs.ReachLemmas.{hint-has, shape-refl, shape-trans, marks-nothing, marks-next}
use Rattle.proof_stitch.proofs.reach.mark_hints.Goals as goal

pub loop-place-init : goal.loop-place-init
loop-place-init c = record { shape = shape-refl c.args.marks.now; marked = marks-nothing c.args.marks.now c.args.by }

pub id_of-requires : goal.id_of-requires
id_of-requires c = hint-has (HasId c.args.net.now c.args.shown.now c.args.first) c.args.hints.now c.loop-place.place c.at.result c.at.ensures c.requires.ids

pub loop-place-preserved : goal.loop-place-preserved
loop-place-preserved c =
    let i = c.loop-place.place in
    let named = id_of c.args.net.now c.args.shown.now c.args.first in
    record {
      shape = shape-trans c.args.marks.now c.loop-place.marks c.mark.new.marks c.loop-place.invariant.shape c.mark.ensures.shape;
      marked =
          subst (λ (l : List ℕ). AreMarked l c.args.by c.args.marks.now c.mark.new.marks)
          (ap (λ (n : ℕ). map named (take i c.args.hints.now) ++ n ∷ []) c.id_of.ensures
          ∙ sym (map_next named c.args.hints.now i _ c.at.ensures))
          (marks-next c.args.marks.now c.loop-place.marks c.mark.new.marks (map named (take i c.args.hints.now)) (c.id_of.result ∷ [])
          c.args.by c.requires.some c.loop-place.invariant.shape c.loop-place.invariant.marked c.mark.ensures.marked);
    }

pub returns-clause-marked : goal.returns-clause-marked
returns-clause-marked c =
    subst (λ (l : List ℕ). AreMarked l c.args.by c.args.marks.now c.loop-place.marks)
    (ap (map (id_of c.args.net.now c.args.shown.now c.args.first))
    (take_all c.loop-place.place c.args.hints.now (omega (arith, c.loop-place-test.false, c.len-place-end.ensures))))
    c.loop-place.invariant.marked
