-- How a trail over literals stands on the engine over codes.
use Rattle.std.specs.Prelude.{◌≡◌, ℕ, ◌*◌, ◌<◌, ◌≤◌, true, List, [], ◌∷◌, ◌++◌, take, map, length, slice_index, slice_index_or, None}
use Rattle.lits.specs.Clause.{has, no_repeat}
use Rattle.std.specs.Prelude.{nat_eq}
use Rattle.lits.specs.Same.{same_node}
use Rattle.lits.specs.declared.node.Node.{Node}
use Rattle.watch_lists.specs.declared.put.Put.{Put}
use Rattle.watch_lists.specs.declared.engine.Engine.{Engine}
use Rattle.flat_base.specs.Codes.{lit_at, IsCode}
use Rattle.watch_lists.specs.State.{codes_at, level_at, IsEngine}
use Rattle.watch_lists.specs.Trail.{TrailState, lits_of, put_at}

-- what contracts see
abbrev pub state_of : List Node → Engine → List Put → TrailState
state_of nodes e puts = record {
  nodes = nodes;
  clauses = map (map (lit_at nodes)) e.clauses;
  puts = puts;
  last = length e.levels.items;
}

-- the puts are the engine's literals with their levels and clauses; there is room for a put of each literal
pub record IsWhole (nodes : List Node) (e : Engine) (puts : List Put) (capacity : ℕ) : Type 0 where
  pub engine : IsEngine e
  pub once : no_repeat same_node nodes ≡ true
  pub size : 2 * length nodes ≤ length e.truth.items
  pub room : length e.truth.items ≤ capacity
  pub clauses : (i c : ℕ) → has nat_eq (codes_at e.clauses i) c ≡ true → IsCode nodes c
  pub codes : (c : ℕ) → has nat_eq e.trail.items c ≡ true → IsCode nodes c
  pub lits : lits_of puts ≡ map (lit_at nodes) e.trail.items
  pub reasons : map (λ p. p.by) puts ≡ e.reasons.items
  pub started : (k i : ℕ) → k < length puts → i < length e.levels.items → (level_at e.levels.items i).start ≤ k → i < (put_at puts k).level
  pub starts : (k i : ℕ) → k < length puts → i < (put_at puts k).level → (level_at e.levels.items i).start ≤ k
  pub most : (k : ℕ) → k < length puts → (put_at puts k).level ≤ length e.levels.items

-- the puts of the engine's further literals stand behind the old ones
pub record IsTold (nodes : List Node) (e : Engine) (old new : List Put) : Type 0 where
  pub size : length new ≡ length e.trail.items
  pub kept : take (length old) new ≡ old
  pub told : (k : ℕ) → length old ≤ k → k < length e.trail.items → put_at new k
      ≡ record { lit = lit_at nodes (slice_index e.trail.items k); level = length e.levels.items; by = slice_index_or e.reasons.items k None }

-- one variable more has a number
pub record IsNumbered (old : TrailState) (node : Node) (new : TrailState) : Type 0 where
  pub nodes : new.nodes ≡ old.nodes ++ node ∷ []
  pub clauses : new.clauses ≡ old.clauses
  pub puts : new.puts ≡ old.puts
  pub last : new.last ≡ old.last
