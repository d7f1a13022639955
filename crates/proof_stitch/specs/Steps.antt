-- The additions that lists of proof steps make, written one list after the other under ids without gaps. The formula is
-- the miter, whose clauses have the ids from 1 on.
use Rattle.std.specs.Prelude.{ℕ, ◌+◌, List, [], ◌∷◌, ◌++◌, length, map}
use Rattle.std.specs.List.{slice_index_or}
use Rattle.std.specs.Option.{unwrap_or}
use Rattle.lits.specs.declared.step.Ref.{Ref}
use Rattle.lits.specs.declared.step.Ref.TheVariants.{Axiom, Entry as Shown, Own, Bound}
use Rattle.lits.specs.declared.step.Step.{Step}
use Rattle.netlist.specs.Net.{AigPair}
use Rattle.netlist.specs.Miter.{bound_number_of, numbered, clause_number_of}
use Rattle.lrat_text.specs.declared.step.LratStep.{LratStep}
use Rattle.lrat_text.specs.declared.step.LratStep.TheVariants.{Add}

-- The id of a name's clause: a clause of the miter has its number; the clauses that an entry of the book shows have the
-- ids from that one on which `shown` has at the entry's place; step k of the list has the list's first id and k.
abbrev pub id_of : AigPair → List ℕ → ℕ → Ref → ℕ
id_of net shown first (Axiom node k) = unwrap_or (clause_number_of net node k) 0
id_of net shown first (Shown entry k) = slice_index_or shown entry 0 + k
id_of net shown first (Own k) = first + k
id_of net shown first (Bound side k) = unwrap_or (bound_number_of net side k) 0

-- the addition of a step: its clause by the numbers of the miter, its hints by ids, each in the step's order
abbrev pub addition : AigPair → List ℕ → ℕ → ℕ → Step → LratStep
addition net shown first id step = Add id (map (numbered net) step.clause) (map (id_of net shown first) step.hints)

-- the additions of steps that stand from that id on, in a list whose first step has the id `first`
abbrev pub additions_from : AigPair → List ℕ → ℕ → ℕ → List Step → List LratStep
additions_from net shown first id [] = []
additions_from net shown first id (step ∷ steps) =
    addition net shown first id step ∷ additions_from net shown first (id + 1) steps

-- the additions of some lists, from that id on
abbrev pub additions : AigPair → List ℕ → ℕ → List (List Step) → List LratStep
additions net shown id [] = []
additions net shown id (steps ∷ lists) =
    additions_from net shown id id steps ++ additions net shown (id + length steps) lists
