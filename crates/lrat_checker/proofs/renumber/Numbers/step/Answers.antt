use Rattle.std.proofs.Common.{ℕ, List, map, sym, ap, ap₂, ◌∙◌}
use Rattle.lits.specs.Dimacs.{DimacsLiteral}
use Rattle.lrat_text.specs.declared.step.LratStep.TheVariants.{Add}
use Rattle.lrat_checker.specs.Renamed.{renumbered, renamed_step}
use Rattle.lrat_checker.proofs.renumber.Numbers.step.Goals as goal

pub returns-in_ok-hints-in-Add-clause-step : goal.returns-in_ok-hints-in-Add-clause-step
returns-in_ok-hints-in-Add-clause-step c later count extends =
    let f = renumbered later count in
    ap₂ (λ (clause : List DimacsLiteral) (hints : List ℕ). Add c.in-Add.id clause hints)
    (c.in_ok-clause-in-Add.ensures.clause later count extends ∙ ap (map f) c.as_slice.ensures) c.in_ok-hints-in-Add.ensures
    ∙ ap (renamed_step f) (sym c.in-Add.is)
