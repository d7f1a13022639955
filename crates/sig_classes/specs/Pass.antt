-- What the pass over all positions finds at each of them.
use Rattle.std.specs.Prelude.{◌≡◌, ℕ, Bool, true, false, not, ◌&&◌, Option, None, Some, List, [], MatchOption, if◌then◌else◌}
use Rattle.std.specs.Option.{is_some}
use Rattle.lits.specs.declared.node.Node.{Node}
use Rattle.lits.specs.declared.node.Node.TheVariants.{Const, Input, Gate, Xor}
use Rattle.lits.specs.declared.literal.Lit.{Lit}
use Rattle.netlist.specs.Net.{AigPair, node_at, differs}
use Rattle.word_sim.specs.Rows.{Signatures}
use Rattle.lemma_book.specs.declared.entry.Entry.{Entry}
use Rattle.lemma_book.specs.declared.entry.Task.{Task}
use Rattle.lemma_book.specs.Entry.{has_spent_on}
use Rattle.lemma_book.specs.Root.{merge_of}
use Rattle.sig_classes.specs.Leader.{IsDue}
use Rattle.sig_classes.specs.Alike.{row_of, first_bit}
use Rattle.sig_classes.specs.Chains.{Chains, HasMembers, is_first}

-- the node at the position isn't merged
abbrev pub root_at : AigPair → List Entry → ℕ → Bool
root_at net entries p = not (is_some (merge_of entries (node_at net p)))

abbrev pub is_gate : Node → Bool
is_gate (Gate side v) = true
is_gate Const = false
is_gate (Input k) = false
is_gate (Xor j) = false

-- the node at position q, or its complement where the first bits differ: the literal that may equal the node at p
abbrev pub lit_between : AigPair → Signatures → ℕ → ℕ → Lit
lit_between net sigs q p =
    record { node = node_at net q; neg = differs (first_bit (row_of sigs q)) (first_bit (row_of sigs p)) }

-- the task of the node at p, where that at q leads it
abbrev pub task_at : AigPair → List Entry → Signatures → ℕ → ℕ → Option Task
task_at net entries sigs q p =
    if is_gate (node_at net p) && not (has_spent_on entries (node_at net p) (lit_between net sigs q p))
    then Some (record { node = node_at net p; lit = lit_between net sigs q p }) else None

-- the chains have the first members of the classes of all roots before the position
abbrev pub HasFirsts : AigPair → List Entry → Signatures → ℕ → Chains → Type 0
HasFirsts net entries sigs n t = HasMembers [] sigs (is_first [] sigs (root_at net entries) n) t

-- the one task that is due of the node at the position
pub record IsNext (net : AigPair) (entries : List Entry) (patterns : List (List Bool)) (p : ℕ) (t : Task) : Type 0 where
  pub node : t.node ≡ node_at net p
  pub due : IsDue net entries patterns t
  pub only : (u : Task) → u.node ≡ node_at net p → IsDue net entries patterns u → u ≡ t

-- that task, or none exactly where none is due
abbrev pub IsNextTask : AigPair → List Entry → List (List Bool) → ℕ → Option Task → Type 0
IsNextTask net entries patterns p found = MatchOption found
    ((t : Task) → t.node ≡ node_at net p → IsDue net entries patterns t → ⊥) (IsNext net entries patterns p)
