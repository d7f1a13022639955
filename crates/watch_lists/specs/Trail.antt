-- A trail: clauses, and literals that are put one after another, each decided or forced by a clause. A decision begins
-- a level; level 0 comes before any decision. Sources: Davis, Logemann and Loveland 1962; Marques-Silva and Sakallah
-- 1996; Moskewicz, Madigan, Zhao, Zhang and Malik 2001.
use Rattle.std.specs.Prelude.{◌≡◌, ℕ, ◌+◌, ◌≤◌, ◌<◌, true, false, List, [], ◌∷◌, ◌++◌, map, filter, take, length, nat_le, min, Option, Some, None, slice_index_or, is_none}
use Rattle.std.specs.List.{All, list_any}
use Rattle.lits.specs.Clause.{has, no_repeat}
use Rattle.lits.specs.Same.{same_lit, same_node, opposite}
use Rattle.lits.specs.declared.node.Node.{Node}
use Rattle.lits.specs.declared.node.Node.TheVariants.{Const}
use Rattle.lits.specs.declared.literal.Lit.{Lit}
use Rattle.flat_base.specs.Flat.{Flat, named_of}
use Rattle.unit_prop.specs.Log.{base_clauses}
use Rattle.unit_prop.specs.Closure.{forces, is_negated, IsClosure, Clashes}
use Rattle.unit_prop.specs.Propagation.{IsConsistent, IsSettled}
use Rattle.watch_lists.specs.declared.put.Put.{Put}

-- what contracts see of a trail: the nodes of its variables, in the order of their numbers, its clauses, in the order
-- in which they were added, its literals, in the order in which they were put, and its last level
pub record TrailState : Type 0 where
  pub nodes : List Node
  pub clauses : List (List Lit)
  pub puts : List Put
  pub last : ℕ

-- nothing at all
abbrev pub empty_trail : TrailState
empty_trail = record { nodes = []; clauses = []; puts = []; last = 0 }

-- the variables and clauses of a flat base, and no literal
abbrev pub trail_of : Flat → TrailState
trail_of f = record { nodes = f.nodes; clauses = base_clauses (named_of f); puts = []; last = 0 }

abbrev pub no_lit : Lit
no_lit = record { node = Const; neg = false }

abbrev pub no_put : Put
no_put = record { lit = no_lit; level = 0; by = None }

-- the put at a place, the clause of a number
abbrev pub put_at : List Put → ℕ → Put
put_at puts k = slice_index_or puts k no_put

abbrev pub clause_at : List (List Lit) → ℕ → List Lit
clause_at clauses i = slice_index_or clauses i []

-- the literals
abbrev pub lits_of : List Put → List Lit
lits_of puts = map (λ p. p.lit) puts

-- those that were decided
abbrev pub decisions_of : List Put → List Lit
decisions_of puts = lits_of (filter (λ p. is_none p.by) puts)

-- the puts up to a level
abbrev pub up_to : ℕ → List Put → List Put
up_to level puts = filter (λ p. nat_le p.level level) puts

-- the literals are the closure of the clauses and the decisions among them, without a clash
abbrev pub IsComplete : List (List Lit) → List Put → Type 0
IsComplete clauses puts =
    IsClosure same_lit opposite clauses (decisions_of puts) (lits_of puts)
    × ¬ Clashes opposite clauses (has same_lit (lits_of puts))

-- the clause is wholly negated
abbrev pub IsConflict : List Put → List Lit → Type 0
IsConflict puts clause = is_negated opposite (has same_lit (lits_of puts)) clause ≡ true

-- the clause is not wholly negated and forces no literal that is missing
abbrev pub IsQuiet : List Put → List Lit → Type 0
IsQuiet puts clause =
    (is_negated opposite (has same_lit (lits_of puts)) clause ≡ false) × IsSettled same_lit opposite (lits_of puts) clause

-- the literal is a decision, or that clause has it and besides only negations of the literals before
abbrev pub IsGround : List (List Lit) → List Put → Lit → Option ℕ → Type 0
IsGround clauses before lit None = Unit {0}
IsGround clauses before lit (Some by) =
    (by < length clauses) × (has same_lit (clause_at clauses by) lit ≡ true)
    × (forces same_lit opposite (has same_lit (lits_of before)) (clause_at clauses by) lit ≡ true)

-- a place of the trail where a decision begins the level
pub record Begins (puts : List Put) (level : ℕ) : Type 0 where
  pub place : ℕ
  pub within : place < length puts
  pub at : (put_at puts place).level ≡ level
  pub decided : (put_at puts place).by ≡ None

-- what always holds of a trail
pub record IsTrail (t : TrailState) : Type 0 where
  -- variables have one number each, and clauses and literals are over them
  pub once : no_repeat same_node t.nodes ≡ true
  pub clauses_over : (i : ℕ) (l : Lit) → has same_lit (clause_at t.clauses i) l ≡ true → has same_node t.nodes l.node ≡ true
  pub puts_over : (l : Lit) → has same_lit (lits_of t.puts) l ≡ true → has same_node t.nodes l.node ≡ true
  -- no literal stands twice, none beside its negation
  pub single : no_repeat same_lit (lits_of t.puts) ≡ true
  pub consistent : IsConsistent same_lit opposite (lits_of t.puts)
  -- levels never fall, none is above the last; each but level 0 begins with a decision, and no other literal is one
  pub rising : (j k : ℕ) → j ≤ k → k < length t.puts → (put_at t.puts j).level ≤ (put_at t.puts k).level
  pub most : (k : ℕ) → k < length t.puts → (put_at t.puts k).level ≤ t.last
  pub begun : (level : ℕ) → 1 ≤ level → level ≤ t.last → Begins t.puts level
  pub led : (k : ℕ) → k < length t.puts → (put_at t.puts k).by ≡ None
      → (1 ≤ (put_at t.puts k).level) × ((j : ℕ) → j < k → (put_at t.puts j).level < (put_at t.puts k).level)
  -- each literal names its ground
  pub grounds : (k : ℕ) → k < length t.puts
      → IsGround t.clauses (take k t.puts) (put_at t.puts k).lit (put_at t.puts k).by
  -- at each level below the last the literals are the closure of all clauses and the decisions among them
  pub complete : (level : ℕ) → level < t.last → IsComplete t.clauses (up_to level t.puts)

-- more variables may have numbers, behind those that had one: they are of literals of the list
pub record Numbers (old : List Node) (lits : List Lit) (new : List Node) : Type 0 where
  pub more : List Node
  pub behind : new ≡ old ++ more
  pub from : (n : Node) → has same_node more n ≡ true → list_any (λ l. same_node l.node n) lits ≡ true

-- clauses, literals and levels are as before, but some of the literals of a list may have numbers
pub record Keeps (old : TrailState) (lits : List Lit) (new : TrailState) : Type 0 where
  pub numbers : Numbers old.nodes lits new.nodes
  pub clauses : new.clauses ≡ old.clauses
  pub puts : new.puts ≡ old.puts
  pub last : new.last ≡ old.last

-- the clause is the last one, and nothing else changes
pub record Adds (old : TrailState) (clause : List Lit) (new : TrailState) : Type 0 where
  pub numbers : Numbers old.nodes clause new.nodes
  pub clauses : new.clauses ≡ old.clauses ++ clause ∷ []
  pub puts : new.puts ≡ old.puts
  pub last : new.last ≡ old.last

-- a clause more
abbrev pub with_clause : TrailState → List Lit → TrailState
with_clause t clause = record { nodes = t.nodes; clauses = t.clauses ++ clause ∷ []; puts = t.puts; last = t.last }

-- a new level begins with the literal
pub record Decides (old : TrailState) (lit : Lit) (new : TrailState) : Type 0 where
  pub numbers : Numbers old.nodes (lit ∷ []) new.nodes
  pub clauses : new.clauses ≡ old.clauses
  pub puts : new.puts ≡ old.puts ++ record { lit = lit; level = old.last + 1; by = None } ∷ []
  pub last : new.last ≡ old.last + 1

-- it is put at that level, and not by decision
pub record IsForced (level : ℕ) (put : Put) : Type 0 where
  pub at : put.level ≡ level
  pub clause : is_none put.by ≡ false

-- literals are put behind those that stand, at the last level, and none by decision
pub record Propagates (old new : TrailState) : Type 0 where
  pub nodes : new.nodes ≡ old.nodes
  pub clauses : new.clauses ≡ old.clauses
  pub last : new.last ≡ old.last
  pub more : List Put
  pub behind : new.puts ≡ old.puts ++ more
  pub forced : All (IsForced old.last) more

-- the later levels are given up
abbrev pub back_to : ℕ → TrailState → TrailState
back_to level t = record {
  nodes = t.nodes;
  clauses = t.clauses;
  puts = up_to level t.puts;
  last = min level t.last;
}
