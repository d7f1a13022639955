use Rattle.std.proofs.Common.{nat_cmp, sym, subst}
use Rattle.std.specs.BTreeSet.{Updates}
use Rattle.book_file.proofs.CodesLemmas.{codes-next, clause-next}
use Rattle.book_file.proofs.clause.is_clause.Goals as goal

pub loop-lit-preserved : goal.loop-lit-preserved
loop-lit-preserved c =
    let l = c.loop-lit in
    let lits = c.args.lits.now in
    let set = c.in_ok-is_one.ensures in
    let put = subst (λ n. Updates nat_cmp l.codes c.insert.new.self n _) c.code.ensures set.updates in
    record {
      told = rw (l.invariant.told, c.contains.ensures, c.code-opposite.ensures, c.not.ensures, set.added, c.code.ensures)
          (sym (clause-next lits l.lit-index c.loop-lit-test.true _ l.codes l.invariant.codes));
      codes = codes-next lits l.lit-index c.loop-lit-test.true _ l.codes c.insert.new.self put l.invariant.codes;
    }
