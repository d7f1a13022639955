-- Outputs whose literals have one root, and the steps that show that they are equal.
use Rattle.std.specs.Prelude.{◌≡◌, ◌≢◌, ℕ, ◌<◌, ◌≤◌, None, Some, List, [], ◌∷◌, ◌++◌, length, map}
use Rattle.lits.specs.Clause.{IsClause}
use Rattle.lits.specs.Same.{same_lit, opposite}
use Rattle.lits.specs.declared.literal.Lit.{Lit}
use Rattle.lits.specs.declared.step.Named.{Named}
use Rattle.lits.specs.declared.step.Ref.TheVariants.{Own}
use Rattle.lits.specs.declared.step.Step.{Step}
use Rattle.netlist.specs.Net.{AigPair, IsNet, output_of}
use Rattle.lits.specs.declared.node.Side.TheVariants.{A, B}
use Rattle.unit_prop.specs.Closure.{IsOpen}
use Rattle.unit_prop.specs.HintScan.{IsNamed}
use Rattle.unit_prop.specs.Log.{base_clause, base_clauses}
use Rattle.unit_prop.specs.Step.{IsStep}
use Rattle.lemma_book.specs.declared.entry.Entry.{Entry}
use Rattle.lemma_book.specs.declared.entry.Entry.TheVariants.{Out}
use Rattle.lemma_book.specs.Entry.{Entries, about}
use Rattle.lemma_book.specs.Book.{IsLegal}
use Rattle.lemma_book.specs.Root.{root_of}

-- the output is there, and has no entry
pub record IsUnsettled (net : AigPair) (book : Entries) (j : ℕ) : Type 0 where
  pub net_is : IsNet net
  pub legal : IsLegal net book
  pub below : j < length net.a.outputs
  pub unsettled : about book.entries j ≡ None

-- the entry says that the output is equal
abbrev pub IsOutOf : ℕ → Entry → Type 0
IsOutOf j (Out i steps) = i ≡ j
IsOutOf j _ = ⊥

-- an Out has two steps at most
abbrev pub HasFewSteps : Entry → Type 0
HasFewSteps (Out i steps) = length steps ≤ 2
HasFewSteps _ = ⊥

-- the roots of the output's literals of the two sides differ
abbrev pub HaveOtherRoots : AigPair → List Entry → ℕ → Type 0
HaveOtherRoots net entries j =
    (a b : Lit) → output_of net A j ≡ Some a → output_of net B j ≡ Some b
    → root_of entries a ≢ root_of entries b

-- they are one
abbrev pub HaveOneRoot : AigPair → List Entry → ℕ → Type 0
HaveOneRoot net entries j =
    (a b : Lit) → output_of net A j ≡ Some a → output_of net B j ≡ Some b
    → root_of entries a ≡ root_of entries b

-- unit propagation over the clauses shows the clause: its literals' negations clash with them
abbrev pub Shows : List (List Lit) → List Lit → Type 0
Shows clauses clause = ¬ IsOpen same_lit opposite clauses (map opposite clause)

-- the base with the clause of an entry's first step
abbrev pub with_first : List Named → List Lit → List Named
with_first base clause = base ++ record { clause = clause; by = Own 0 } ∷ []

-- unit propagation over the base shows that one of two literals is true, and from there on that the first one is
pub record IsWayTo (base : List Named) (lit half : Lit) : Type 0 where
  pub clause : IsClause same_lit opposite (lit ∷ half ∷ [])
  pub named : IsNamed base
  pub named_more : IsNamed (with_first base (lit ∷ half ∷ []))
  pub first : Shows (base_clauses base) (lit ∷ half ∷ [])
  pub second : Shows (base_clauses (with_first base (lit ∷ half ∷ []))) (lit ∷ [])

-- one step over the base that shows the literal, or one that either is true and one that goes on from it
abbrev pub AreShown : List Named → Lit → Lit → List Step → Type 0
AreShown base lit half (s ∷ []) =
    (s.clause ≡ lit ∷ []) × IsStep same_lit opposite (base_clause base) s.clause s.hints
AreShown base lit half (r ∷ s ∷ []) =
    ((r.clause ≡ lit ∷ half ∷ []) × IsStep same_lit opposite (base_clause base) r.clause r.hints)
    × ((s.clause ≡ lit ∷ [])
    × IsStep same_lit opposite (base_clause (with_first base r.clause)) s.clause s.hints)
AreShown base lit half _ = ⊥
