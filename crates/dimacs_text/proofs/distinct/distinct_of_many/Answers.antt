use Rattle.std.proofs.Common.{nat_cmp, ap, sym, ◌∙◌, subst}
use Rattle.std.proofs.lemmas.Bool.{not-true, not-false}
use Rattle.std.specs.BTreeSet.{contains, Updates}
use Rattle.dimacs_text.proofs.DistinctLemmas.{first-known, first-new, codes-new, codes-known}
use Rattle.dimacs_text.proofs.distinct.distinct_of_many.Goals as goal
use Rattle.dimacs_text.proofs.distinct.distinct_of_many.Goals.{then-branch+in_ok-push, else-branch}

pub loop-literal-preserved : goal.loop-literal-preserved
loop-literal-preserved c =
    let l = c.loop-literal in
    let x = c.literal-item.result in
    let codes = c.insert.new.self in
    let set = c.in_ok-insert.ensures in
    let had = sym (l.invariant.codes x) ∙ ap (contains nat_cmp l.codes) (sym c.code.ensures) in
    let put = subst (λ n. Updates nat_cmp l.codes codes n _) c.code.ensures set.updates in
    elim c.if-branch.branch [
      | then-branch+in_ok-push w ↦
          let new = had ∙ not-true _ (sym set.added ∙ w.if-branch.true) in
          rw (w.kept-is, w.in_ok-push.ensures.items) (record {
            first = first-new c.args.literals.now l.literal-index x l.kept.items c.loop-literal-test.true c.literal-item.is l.invariant.first new;
            codes = codes-new l.codes codes x l.kept.items put l.invariant.codes;
          })
      | else-branch w ↦
          let known = had ∙ not-false _ (sym set.added ∙ w.if-branch.false) in
          rw w.kept-is (record {
            first = first-known c.args.literals.now l.literal-index x l.kept.items c.loop-literal-test.true c.literal-item.is l.invariant.first known;
            codes = codes-known l.codes codes l.kept.items (rw w.if-branch.false at set.unchanged) l.invariant.codes;
          })
    ]
