-- A walk through a cone: the nodes that it has found, and those of them that it hasn't visited yet.
use Rattle.std.specs.Prelude.{◌≡◌, ◌+◌, ℕ, Bool, not, ◌&&◌, ◌||◌, Some, List, length}
use Rattle.std.specs.List.{AllByRecursion}
use Rattle.std.specs.Ordering.{nat_cmp}
use Rattle.std.specs.BTreeMap.{IsOrdered, values}
use Rattle.lits.specs.Clause.{has}
use Rattle.lits.specs.declared.node.Node.{Node}
use Rattle.netlist.specs.Net.{AigPair}
use Rattle.lits.specs.Same.{same_node}
use Rattle.netlist.specs.Miter.{variable_of}
use Rattle.lemma_book.specs.declared.walk.Walk.{Walk}

-- each node stands at its CNF variable
abbrev pub AreNumbered : AigPair → List (ℕ × Node) → Type 0
AreNumbered net entries = AllByRecursion (λ e. variable_of net e.1 ≡ Some e.0) entries

abbrev pub is_found : Walk → Node → Bool
is_found w n = has same_node (values w.found) n

abbrev pub is_pending : Walk → Node → Bool
is_pending w n = has same_node w.pending.items n

pub record IsWalk (net : AigPair) (w : Walk) : Type 0 where
  pub numbered : AreNumbered net w.found.entries
  pub ordered : IsOrdered nat_cmp w.found

-- these nodes are found now too, and those of them that are new are still to be visited
pub record Finds (net : AigPair) (old : Walk) (nodes : List Node) (new : Walk) : Type 0 where
  pub walk : IsWalk net new
  pub found : (n : Node) → is_found new n ≡ (is_found old n || has same_node nodes n)
  pub pending : (n : Node) → is_pending new n ≡ (is_pending old n || (has same_node nodes n && not (is_found old n)))
  pub count : length new.pending.items + length old.found.entries ≡ length old.pending.items + length new.found.entries

-- these nodes are found, and all of them are still to be visited
pub record BeginsAt (net : AigPair) (nodes : List Node) (w : Walk) : Type 0 where
  pub walk : IsWalk net w
  pub found : (n : Node) → is_found w n ≡ has same_node nodes n
  pub pending : (n : Node) → is_pending w n ≡ has same_node nodes n
