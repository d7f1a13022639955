-- What a search ends with.
use Rattle.std.specs.Prelude.{◌≡◌, ℕ, ◌<◌, ◌≤◌, ◌*◌, List, [], ◌∷◌, ◌++◌, length}
use Rattle.lits.specs.declared.literal.Lit.{Lit}
use Rattle.lits.specs.declared.step.Step.{Step}
use Rattle.lits.specs.Same.{same_lit, opposite}
use Rattle.unit_prop.specs.Step.{IsStep}
use Rattle.unit_prop.specs.Log.{IsLearned}
use Rattle.unit_prop.specs.Refuter.{IsOver, IsModel}
use Rattle.watch_lists.specs.Trail.{IsTrail, IsQuiet, up_to, back_to}
use Rattle.solver_watch.specs.Assuming.{IsAssuming}
use Rattle.solver_watch.specs.Known.{base_in, IsKnown, clauses_known}
use Rattle.solver_watch.specs.declared.engine.Engine.{Engine}
use Rattle.solver_watch.specs.declared.formula.Formula.{Formula}
use Rattle.solver_watch.specs.declared.learn.Lesson.{Lesson}
use Rattle.solver_plain.specs.Formula.{Clauses, clause_named}
use Rattle.solver_plain.specs.Search.{IsLearnedFor}
use Rattle.solver_watch.specs.declared.engine.Found.{Found}
use Rattle.solver_watch.specs.declared.engine.Found.TheVariants.{Yes, No, Learned}

-- the log has one more step, learned for the target
pub record Learns (old : Clauses) (target : List Lit) (new : Clauses) : Type 0 where
  pub step : Step
  pub learned : IsLearnedFor old target step
  pub is : new ≡ record { base = old.base; log = old.log ++ step ∷ [] }

-- it answers the target, or a step was learned for it
abbrev pub IsFound : Clauses → List Lit → Clauses → Found → Type 0
IsFound old target new (Yes hints) = IsStep same_lit opposite (clause_named old) target hints × (new ≡ old)
IsFound old target new (No model) = IsModel old.base target model × (new ≡ old)
IsFound old target new Learned = Learns old target new

-- a search may go on
pub record IsState (e : Engine) (target : List Lit) : Type 0 where
  pub known : IsKnown e.formula
  pub over : IsOver (base_in e.formula) target
  pub assuming : IsAssuming target e.formula.trail e.assumed

-- one more literal is put
pub record Advances (old new : Engine) : Type 0 where
  pub clauses : clauses_known new.formula ≡ clauses_known old.formula
  pub nodes : new.formula.trail.nodes ≡ old.formula.trail.nodes
  pub more : length old.formula.trail.puts < length new.formula.trail.puts
  pub room : length new.formula.trail.puts ≤ 2 * length new.formula.trail.nodes

-- the later levels are given up
pub record IsBack (level : ℕ) (old new : Engine) : Type 0 where
  pub known : IsKnown new.formula
  pub clauses : clauses_known new.formula ≡ clauses_known old.formula
  pub trail : new.formula.trail ≡ back_to level old.formula.trail
  pub codes : new.codes.items ≡ old.codes.items
  pub assuming : (target : List Lit) → IsAssuming target old.formula.trail old.assumed
      → IsAssuming target new.formula.trail new.assumed
  pub start : level ≡ 0 → (target : List Lit) → IsAssuming target new.formula.trail new.assumed

-- what a conflict teaches: a step that is learned, and a lower level, below which its clause asks for nothing
pub record IsLesson (f : Formula) (lesson : Lesson) : Type 0 where
  pub trail : IsTrail f.trail
  pub over : IsOver (base_in f) lesson.step.clause
  pub learned : IsLearned (base_in f) f.log.items lesson.step
  pub lower : lesson.level < f.trail.last
  pub quiet : (level : ℕ) → level < lesson.level → IsQuiet (up_to level f.trail.puts) lesson.step.clause

-- one more step, learned for each target whose negations are assumed
pub record IsLearnt (old new : Engine) : Type 0 where
  pub known : IsKnown new.formula
  pub step : Step
  pub learned : (target : List Lit) → IsAssuming target old.formula.trail old.assumed
      → IsLearnedFor (clauses_known old.formula) target step
  pub is : clauses_known new.formula
      ≡ record { base = base_in old.formula; log = old.formula.log.items ++ step ∷ [] }
  pub assuming : (target : List Lit) → IsAssuming target old.formula.trail old.assumed
      → IsAssuming target new.formula.trail new.assumed
