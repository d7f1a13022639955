-- What a step needs so that it can be written.
use Rattle.std.specs.Prelude.{ℕ, ◌+◌, ◌<◌, ◌^◌, IsSome, List}
use Rattle.std.specs.List.{All, slice_index_or}
use Rattle.lits.specs.declared.literal.Lit.{Lit}
use Rattle.lits.specs.declared.step.Ref.{Ref}
use Rattle.lits.specs.declared.step.Ref.TheVariants.{Axiom, Entry as Shown, Own, Bound}
use Rattle.lits.specs.declared.step.Step.{Step}
use Rattle.netlist.specs.Net.{AigPair}
use Rattle.netlist.specs.Miter.{bound_number_of, cnf_number_of, clause_number_of}

-- the name has an id, where the list's first step has the id `first`
abbrev pub HasId : AigPair → List ℕ → ℕ → Ref → Type 0
HasId net shown first (Axiom node k) = IsSome (clause_number_of net node k)
HasId net shown first (Shown entry k) = slice_index_or shown entry 0 + k < 2 ^ 64
HasId net shown first (Own k) = first + k < 2 ^ 64
HasId net shown first (Bound side k) = IsSome (bound_number_of net side k)

-- each literal has a CNF number
abbrev pub AreNumbered : AigPair → List Lit → Type 0
AreNumbered net lits = All (λ l. IsSome (cnf_number_of net l)) lits

-- so it is in the step's clause, and each hint has an id
pub record HasIds (net : AigPair) (shown : List ℕ) (first : ℕ) (step : Step) : Type 0 where
  pub literals : AreNumbered net step.clause
  pub hints : All (HasId net shown first) step.hints
