-- What the search for an answer finds before a learned clause or an answer ends it.
use Rattle.std.specs.Prelude.{List}
use Rattle.lits.specs.declared.literal.Lit.{Lit}
use Rattle.lits.specs.declared.step.Step.{Step}
use Rattle.unit_prop.specs.Step.{IsStep}
use Rattle.unit_prop.specs.Log.{IsLearned}
use Rattle.lits.specs.Same.{same_lit, opposite}
use Rattle.unit_prop.specs.Refuter.{IsOver, IsModel, IsUndecided}
use Rattle.solver_plain.specs.Formula.{Clauses, clause_named}
use Rattle.solver_plain.specs.declared.search.Found.{Found}
use Rattle.solver_plain.specs.declared.search.Found.TheVariants.{Yes, No, Learned}

-- a step over the variables of the base, learned while the target is undecided
pub record IsLearnedFor (f : Clauses) (target : List Lit) (step : Step) : Type 0 where
  pub over : IsOver f.base step.clause
  pub undecided : IsUndecided f.base target f.log
  pub learned : IsLearned f.base f.log step

-- it answers the target, or is a step learned for it
abbrev pub IsFound : Clauses → List Lit → Found → Type 0
IsFound f target (Yes hints) = IsStep same_lit opposite (clause_named f) target hints
IsFound f target (No model) = IsModel f.base target model
IsFound f target (Learned step) = IsLearnedFor f target step
