-- What the structure alone shows: a gate that its fanins decide (constant propagation), and gates over the same fanins
-- (structural hashing; Kuehlmann, Paruthi, Krohm and Ganai 2002). Fanins are seen by the roots that a book's merges
-- lead them to.
use Rattle.std.specs.Prelude.{◌≡◌, ◌||◌, ◌&&◌, ◌<◌, ◌≤◌, ◌+◌, ℕ, Bool, not, Option, None, Some, is_some, List, [], ◌∷◌, ◌++◌, map, take, length, slice_get, ⊤, ◌⊎◌, if◌then◌else◌}
use Rattle.std.specs.List.{find, AllByRecursion}
use Rattle.std.specs.Option.{option_map, option_map_or}
use Rattle.lits.specs.declared.node.Node.{Node}
use Rattle.lits.specs.declared.node.Node.TheVariants.{Const}
use Rattle.lits.specs.declared.literal.Lit.{Lit}
use Rattle.lits.specs.declared.step.Named.{Named}
use Rattle.lits.specs.declared.step.Step.{Step}
use Rattle.lits.specs.Same.{same_lit, same_node, opposite}
use Rattle.netlist.specs.declared.gate.Definition.{Definition}
use Rattle.netlist.specs.Net.{AigPair, definitions}
use Rattle.netlist.specs.Miter.{positive, negative}
use Rattle.lemma_book.specs.declared.entry.Entry.{Entry}
use Rattle.lemma_book.specs.declared.entry.Entry.TheVariants.{Merge}
use Rattle.lemma_book.specs.Entry.{Entries, merge_clauses}
use Rattle.lemma_book.specs.Root.{merge_of, passed_by, root_of, IsRoot}
use Rattle.lemma_book.specs.Cone.{clauses_on, nodes_in}
use Rattle.unit_prop.specs.HintScan.{ScansTo}

-- the literal that an AND of two literals comes to by itself: false, where one is false or they are complements of each
-- other; one of them, where the other is true or both are the same
abbrev pub folded : Lit → Lit → Option Lit
folded a b =
    if same_lit a (negative Const) || (same_lit b (negative Const) || same_lit a (opposite b)) then Some (negative Const)
    else (if same_lit a (positive Const) then Some b
    else (if same_lit b (positive Const) || same_lit a b then Some a else None))

-- the roots of the gates' fanins are the same pair, in either order
abbrev pub AreTwins : List Entry → Definition → Definition → Type 0
AreTwins entries c d =
    ((root_of entries c.left ≡ root_of entries d.left) × (root_of entries c.right ≡ root_of entries d.right))
    ⊎ ((root_of entries c.left ≡ root_of entries d.right) × (root_of entries c.right ≡ root_of entries d.left))

-- gate k, the gates of A and then of B counted from 0, if it isn't merged, doesn't fold, and no earlier gate that isn't
-- merged is its twin
abbrev pub IsPlain : AigPair → List Entry → ℕ → Definition → Type 0
IsPlain net entries k d =
    IsRoot entries d.node
    → (folded (root_of entries d.left) (root_of entries d.right) ≡ None)
    × ((j : ℕ) (c : Definition) → j < k → slice_get (definitions net) j ≡ Some c → IsRoot entries c.node → ¬ AreTwins entries c d)

-- this holds of the first n gates
abbrev pub ArePlainBelow : AigPair → List Entry → ℕ → Type 0
ArePlainBelow net entries n =
    (k : ℕ) (d : Definition) → k < n → slice_get (definitions net) k ≡ Some d → IsPlain net entries k d

-- and of all of them
abbrev pub ArePlain : AigPair → List Entry → Type 0
ArePlain net entries = ArePlainBelow net entries (length (definitions net))

abbrev pub IsMerge : Entry → Type 0
IsMerge (Merge node lit steps) = ⊤
IsMerge _ = ⊥

-- a book has got more entries, which are merges, and keeps all else
pub record AddsMerges (old new : Entries) : Type 0 where
  pub added : List Entry
  pub entries : new.entries ≡ old.entries ++ added
  pub merges : AllByRecursion IsMerge added
  pub sweep : new.sweep_budget ≡ old.sweep_budget
  pub out : new.out_budget ≡ old.out_budget

-- ---- what the pass merges a gate to, and by which steps. Both are functions of the net and of the entries before, so
-- there is one list of entries that merges gates in rising order and leaves all of them plain.

-- the gate isn't merged, and its fanins' roots are the other gate's, in either order
abbrev pub is_twin : List Entry → Definition → Definition → Bool
is_twin entries d c =
    not (is_some (merge_of entries c.node))
    && ((same_lit (root_of entries c.left) (root_of entries d.left) && same_lit (root_of entries c.right) (root_of entries d.right))
    || (same_lit (root_of entries c.left) (root_of entries d.right) && same_lit (root_of entries c.right) (root_of entries d.left)))

-- the earliest such gate before gate k
abbrev pub twin_of : AigPair → List Entry → ℕ → Definition → Option Definition
twin_of net entries k d = find (is_twin entries d) (take k (definitions net))

-- a gate, and the literals that its fanins pass on the ways to their roots
abbrev pub way_of : List Entry → Definition → List Lit
way_of entries d = positive d.node ∷ passed_by entries d.left ++ passed_by entries d.right

abbrev pub is_const : Lit → Bool
is_const l = same_node l.node Const

-- the constant, where one of these is it
abbrev pub constant_among : Lit → Lit → Lit → List Lit
constant_among a b t = if is_const a || (is_const b || is_const t) then positive Const ∷ [] else []

-- what a gate is merged to, and the literals whose nodes' clauses show it
pub record Finding : Type 0 where
  pub target : Lit
  pub way : List Lit

-- gate k is merged to what its fanins' roots fold to, else to its earliest twin
abbrev pub finding_of : AigPair → List Entry → ℕ → Definition → Option Finding
finding_of net entries k d =
    option_map_or (λ t. Some (record {
      target = t;
      way = way_of entries d ++ constant_among (root_of entries d.left) (root_of entries d.right) t;
    }))
    (folded (root_of entries d.left) (root_of entries d.right))
    (option_map (λ c. record { target = positive c.node; way = way_of entries d ++ way_of entries c }) (twin_of net entries k d))

-- the steps of a merge: its two clauses, each with the hints that scanning finds in the clauses of the way, in a cone's order
pub record AreScanned (base : List Named) (node : Node) (target : Lit) (steps : List Step) : Type 0 where
  pub clauses : map (λ s. s.clause) steps ≡ merge_clauses node target
  pub hints : AllByRecursion (λ s. ScansTo base (map opposite s.clause) s.hints) steps

-- the entry merges gate k, which isn't merged, to what is found, by those steps
pub record IsStructural (net : AigPair) (entries : List Entry) (k : ℕ) (e : Entry) : Type 0 where
  pub gate : Definition
  pub at : slice_get (definitions net) k ≡ Some gate
  pub unmerged : IsRoot entries gate.node
  pub finding : Finding
  pub found : finding_of net entries k gate ≡ Some finding
  pub steps : List Step
  pub entry : e ≡ Merge gate.node finding.target steps
  pub scanned : AreScanned (clauses_on net entries (nodes_in finding.way)) gate.node finding.target steps

-- each entry does so for a gate from k on and before gate n, over the entries before it, and the gates come in rising order
abbrev pub AreStructural : AigPair → ℕ → ℕ → List Entry → List Entry → Type 0
AreStructural net k n entries [] = k ≤ n
AreStructural net k n entries (e ∷ es) =
    (j : ℕ) × (k ≤ j) × IsStructural net entries j e × AreStructural net (j + 1) n (entries ++ e ∷ []) es

-- a book has got more entries, which are the pass's merges of gates from k on and before gate n, and keeps all else
pub record AddsStructural (net : AigPair) (k n : ℕ) (old new : Entries) : Type 0 where
  pub added : List Entry
  pub entries : new.entries ≡ old.entries ++ added
  pub structural : AreStructural net k n old.entries added
  pub sweep : new.sweep_budget ≡ old.sweep_budget
  pub out : new.out_budget ≡ old.out_budget

-- what stands where the pass stops: the merges of the first so many gates from gate k on; the gates before that end are
-- plain, and none from it on was merged
pub record AddsFirstPart (net : AigPair) (k : ℕ) (old new : Entries) : Type 0 where
  pub end : ℕ
  pub adds : AddsStructural net k end old new
  pub plain : ArePlainBelow net new.entries end
