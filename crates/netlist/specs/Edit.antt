-- Edits: a gate gets other fanins, a new gate comes, a gate goes, an output gets another literal.
use Rattle.std.specs.Prelude.{◌≡◌, ℕ, ◌≤◌, ◌==◌, Bool, true, false, not, ◌||◌, Option, None, Some, IfSome, List, [], ◌∷◌, ◌++◌, map, slice_set, if◌then◌else◌}
use Rattle.std.specs.List.{filter, list_any}
use Rattle.lits.specs.Clause.{has}
use Rattle.lits.specs.declared.node.Side.{Side}
use Rattle.lits.specs.declared.node.Side.TheVariants.{A, B}
use Rattle.netlist.specs.declared.gate.And.{And}
use Rattle.netlist.specs.Place.{before}
use Rattle.netlist.specs.Circuit.{Aig, var_of, is_over, gate_vars, variables_in, most}
use Rattle.netlist.specs.Net.{AigPair}

-- the first element that passes the test, and those behind it
abbrev pub since : {X : Type 0} → (X → Bool) → List X → List X
since test [] = []
since test (x ∷ xs) = if test x then x ∷ xs else since test xs

-- the circuit has a gate of this variable
abbrev pub has_gate : Aig → ℕ → Bool
has_gate c v = has ◌==◌ (gate_vars c.gates) v

-- the gates before the gate of a variable; all of them where none is named
abbrev pub gates_before : Aig → Option ℕ → List And
gates_before c None = c.gates
gates_before c (Some v) = before (λ g. g.var == v) c.gates

-- the gate of a variable and those behind it; none where none is named
abbrev pub gates_since : Aig → Option ℕ → List And
gates_since c None = []
gates_since c (Some v) = since (λ g. g.var == v) c.gates

-- the literal is a constant, an input or a gate that stands before that place
abbrev pub is_earlier : Aig → Option ℕ → ℕ → Bool
is_earlier c place lit = is_over (0 ∷ (c.inputs ++ gate_vars (gates_before c place))) lit

-- some gate, some output or some constraint has a literal of the variable
abbrev pub reads : Aig → ℕ → Bool
reads c v =
    list_any (λ g. var_of g.left == v || var_of g.right == v) c.gates
    || (list_any (λ lit. var_of lit == v) c.outputs || list_any (λ lit. var_of lit == v) c.constraints)

-- g in the place of the gate of its variable
abbrev pub with_gate : Aig → And → Aig
with_gate c g = record c { gates = map (λ x. if x.var == g.var then g else x) c.gates }

-- g as a new gate, right before the gate of a variable, or last
abbrev pub with_new : Aig → And → Option ℕ → Aig
with_new c g place = record c { gates = gates_before c place ++ g ∷ gates_since c place }

-- the gate of a variable gone
abbrev pub without_gate : Aig → ℕ → Aig
without_gate c v = record c { gates = filter (λ g. not (g.var == v)) c.gates }

-- output j with another literal
abbrev pub with_output : Aig → ℕ → ℕ → Aig
with_output c j lit = record c { outputs = slice_set c.outputs j lit }

-- the pair with this circuit on one side
abbrev pub with_side : AigPair → Side → Aig → AigPair
with_side net A c = record net { a = c }
with_side net B c = record net { b = c }

-- the circuit has the gate, and both fanins stand before it
pub record CanSet (c : Aig) (g : And) : Type 0 where
  pub gate : has_gate c g.var ≡ true
  pub left : is_earlier c (Some g.var) g.left ≡ true
  pub right : is_earlier c (Some g.var) g.right ≡ true

-- the variable is new and in range, so a circuit has fewer gates than `most`; the gate that is named is there; and both
-- fanins stand before the new gate's place
pub record CanPut (c : Aig) (g : And) (place : Option ℕ) : Type 0 where
  pub new : has ◌==◌ (variables_in c) g.var ≡ false
  pub range : g.var ≤ most
  pub place_there : IfSome place (λ v. has_gate c v ≡ true)
  pub left : is_earlier c place g.left ≡ true
  pub right : is_earlier c place g.right ≡ true

-- the circuit has the gate, and nothing reads it
pub record CanDrop (c : Aig) (v : ℕ) : Type 0 where
  pub gate : has_gate c v ≡ true
  pub unread : reads c v ≡ false
