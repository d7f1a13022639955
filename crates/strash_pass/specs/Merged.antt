-- Merges by the positions of their nodes.
use Rattle.std.specs.Prelude.{◌≡◌, ℕ, Option, Some, List, slice_get, IfSome}
use Rattle.std.specs.Option.{option_map}
use Rattle.lits.specs.declared.node.Node.{Node}
use Rattle.lits.specs.declared.literal.Lit.{Lit}
use Rattle.netlist.specs.Net.{AigPair, position_of}
use Rattle.lemma_book.specs.declared.entry.Entry.{Entry}
use Rattle.lemma_book.specs.Root.{MergeAt, merge_of, root_of}
use Rattle.strash_pass.specs.declared.merged.Known.{Known}
use Rattle.strash_pass.specs.declared.merged.Spot.{Spot}

abbrev pub merge_to : ℕ → Lit → MergeAt
merge_to place target = record { entry = place; lit = target }

abbrev pub merge_at : Known → MergeAt
merge_at k = merge_to k.place k.target

-- it is the node's merge, with the position of the target; none where the node isn't merged
pub record IsMergeOf (net : AigPair) (entries : List Entry) (node : Node) (known : Option Known) : Type 0 where
  pub merge : option_map merge_at known ≡ merge_of entries node
  pub placed : IfSome known (λ k. position_of net k.target.node ≡ Some k.at)

-- each of them is that of the node at its position
abbrev pub AreMergesOf : AigPair → List Entry → List (Option Known) → Type 0
AreMergesOf net entries known =
    (node : Node) (p : ℕ) (k : Option Known) → position_of net node ≡ Some p → slice_get known p ≡ Some k → IsMergeOf net entries node k

-- the literal is the root of the first one, and stands at its position
pub record IsRootAt (net : AigPair) (entries : List Entry) (lit : Lit) (spot : Spot) : Type 0 where
  pub root : spot.lit ≡ root_of entries lit
  pub at : position_of net spot.lit.node ≡ Some spot.at
