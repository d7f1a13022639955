-- The clauses that a learning solver works over, by their names and on its trail.
use Rattle.std.specs.Prelude.{◌≡◌, ◌≤◌, true, List, [], ◌∷◌, length}
use Rattle.std.specs.List.{AllByRecursion}
use Rattle.lits.specs.Clause.{has}
use Rattle.lits.specs.Same.{same_node}
use Rattle.lits.specs.declared.literal.Lit.{Lit}
use Rattle.lits.specs.declared.step.Named.{Named}
use Rattle.lits.specs.declared.step.Ref.{Ref}
use Rattle.flat_base.specs.Flat.{Flat, named_of}
use Rattle.unit_prop.specs.Log.{IsBase, clauses_of}
use Rattle.unit_prop.specs.Refuter.{is_over, IsOver}
use Rattle.solver_plain.specs.Formula.{Clauses}
use Rattle.solver_watch.specs.declared.formula.Formula.{Formula}

-- clauses with names, as far as there are both
abbrev pub named_with : List Ref → List (List Lit) → List Named
named_with [] clauses = []
named_with (by ∷ names) [] = []
named_with (by ∷ names) (clause ∷ clauses) = record { clause = clause; by = by } ∷ named_with names clauses

-- the base: its clauses are the first of the trail
abbrev pub base_in : Formula → List Named
base_in f = named_with f.names.items f.trail.clauses

-- base and log
abbrev pub clauses_known : Formula → Clauses
clauses_known f = record { base = base_in f; log = f.log.items }

-- the trail has the clauses of base and log in their order, and the base's variables alone
pub record IsKnown (f : Formula) : Type 0 where
  pub few : length f.names.items ≤ length f.trail.clauses
  pub names : IsBase (base_in f)
  pub clauses : f.trail.clauses ≡ clauses_of (base_in f) f.log.items
  pub within : AllByRecursion (λ s. IsOver (base_in f) s.clause) f.log.items
  pub nodes : (l : Lit) → has same_node f.trail.nodes l.node ≡ true → is_over (base_in f) l ≡ true

-- each variable stands in a clause
abbrev pub AreUsed : Flat → Type 0
AreUsed f = (l : Lit) → has same_node f.nodes l.node ≡ true → is_over (named_of f) l ≡ true

-- the base is this one, with nothing learned and no literal put
pub record IsStarted (base : List Named) (f : Formula) : Type 0 where
  pub known : IsKnown f
  pub clauses : clauses_known f ≡ record { base = base; log = [] }
  pub puts : f.trail.puts ≡ []
  pub last : f.trail.last ≡ 0
