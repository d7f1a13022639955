-- Where the closure doesn't clash its list tells.
use Rattle.std.proofs.Common.{List, ap, ◌∙◌, subst}
use Rattle.lits.specs.Clause.{has}
use Rattle.lits.specs.declared.literal.Lit.{Lit}
use Rattle.lits.specs.Same.{same_lit, opposite}
use Rattle.unit_prop.specs.declared.propagation.Closure.TheVariants.{Clash, Free}
use Rattle.unit_prop.specs.Closure.{ClosesTo}
use Rattle.unit_prop.specs.New.{others_negated}
use Rattle.lemma_book.proofs.NewClauses.{found-lacks}
use Rattle.lemma_book.proofs.newness.lacks.Goals as goal

pub returns : goal.returns
returns c =
    let given = c.as_slice.ensures.value ∙ c.in_ok-others.ensures in
    let closes = subst (λ (g : List Lit). ClosesTo same_lit opposite c.args.clauses.now g (Free c.in-Free.found)) given
    (subst (ClosesTo same_lit opposite c.args.clauses.now c.as_slice.result.now) c.in-Free.is c.in_ok-close_under.ensures) in
    found-lacks c.args.clauses.now (others_negated same_lit opposite c.args.clause.now c.args.lit) c.in-Free.found c.args.lit closes c.contains.result
    (c.contains.ensures.value ∙ ap (λ (l : List Lit). has same_lit l c.args.lit) c.as_slice-in-Free.ensures)

pub returns-in-Clash : goal.returns-in-Clash
returns-in-Clash c lacked =
    let given = c.as_slice.ensures.value ∙ c.in_ok-others.ensures in
    let closes = subst (λ (g : List Lit). ClosesTo same_lit opposite c.args.clauses.now g Clash) given
    (subst (ClosesTo same_lit opposite c.args.clauses.now c.as_slice.result.now) c.in-Clash.is c.in_ok-close_under.ensures) in
    lacked.apart (closes lacked.set lacked.closed)
