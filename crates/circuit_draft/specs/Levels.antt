-- Levels of gates, and the order of gates that they give. A gate's level is 1 + the greater level of its fanins; the
-- constant and inputs have level 0; a gate on a cycle, or above one, has none.
use Rattle.std.specs.Prelude.{ℕ, zero, suc, ◌+◌, ◌==◌, ◌&&◌, Bool, true, false, Option, None, Some, max, List, [], ◌∷◌, ◌++◌, length, filter, is_none, if◌then◌else◌}
use Rattle.std.specs.List.{find, flat_map, range_with_len}
use Rattle.lits.specs.Clause.{has}
use Rattle.netlist.specs.declared.gate.And.{And}
use Rattle.netlist.specs.Circuit.{Aig, is_over, var_of}

-- one more than the greater of two levels
abbrev pub above : Option ℕ → Option ℕ → Option ℕ
above None right = None
above (Some m) None = None
above (Some m) (Some n) = Some (max m n + 1)

-- the level of the gate with these fanins, where `below` gives those of variables
abbrev pub gate_level : (ℕ → Option ℕ) → Option And → Option ℕ
gate_level below None = None
gate_level below (Some g) = above (below (var_of g.left)) (below (var_of g.right))

-- the gate that defines a variable
abbrev pub gate_for : Aig → ℕ → Option And
gate_for c v = find (λ g. g.var == v) c.gates

-- The level of a variable where it is at most n, and none where it is greater or there is none.
unfoldable pub level_within : Aig → ℕ → ℕ → Option ℕ
level_within c zero v = if has ◌==◌ (0 ∷ c.inputs) v then Some 0 else None
level_within c (suc n) v =
    if has ◌==◌ (0 ∷ c.inputs) v then Some 0 else gate_level (level_within c n) (gate_for c v)

-- The level of a variable. None is above the number of gates.
abbrev pub level_of : Aig → ℕ → Option ℕ
level_of c v = level_within c (length c.gates) v

-- the first gate in the file's order that has no level
abbrev pub on_cycle : Aig → Option And
on_cycle c = find (λ g. is_none (level_of c g.var)) c.gates

abbrev pub is_level : Option ℕ → ℕ → Bool
is_level None n = false
is_level (Some m) n = m == n

-- the gates of one level, in the file's order
abbrev pub gates_at : Aig → ℕ → List And
gates_at c n = filter (λ g. is_level (level_of c g.var) n) c.gates

-- The gates by level, and in one level in the file's order.
abbrev pub by_level : Aig → List And
by_level c = flat_map (gates_at c) (range_with_len 1 (length c.gates))

-- each gate's fanins are known before it
abbrev pub is_in_order : List ℕ → List And → Bool
is_in_order known [] = true
is_in_order known (g ∷ gs) = is_over known g.left && is_over known g.right && is_in_order (known ++ g.var ∷ []) gs

-- The order of gates in a circuit: the file's where that serves, else by level.
abbrev pub ordered : Aig → List And
ordered c = if is_in_order (0 ∷ c.inputs) c.gates then c.gates else by_level c
