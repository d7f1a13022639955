-- What a plain solver is to its callers.
use Rattle.std.specs.Prelude.{Bool, List}
use Rattle.lits.specs.declared.step.Named.{Named}
use Rattle.lits.specs.declared.step.Step.{Step}

-- its base, the steps that it has learned, and whether a query may come
pub record Solver : Type 0 where
  pub base : List Named
  pub log : List Step
  pub ready : Bool
