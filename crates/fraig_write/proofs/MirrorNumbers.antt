-- The literals of the reduced circuit: by its numbers one comes back to the literal that was renumbered, with a gate of B in place of
-- the gate of A.
use Rattle.std.proofs.Common.{◌≡◌, ℕ, zero, suc, ◌+◌, ◌*◌, ◌%◌, ◌<◌, ◌≤◌, Bool, true, false, not, cond, Some, None, List, length, refl, ap, ◌∙◌, arith}
use Rattle.std.specs.Prelude.{◌==◌, ⊤}
use Rattle.std.specs.List.{range_with_len}
use Rattle.std.proofs.lemmas.Bool.Decides.{nat_tests}
use Rattle.lits.specs.declared.node.Side.TheVariants.{A, B}
use Rattle.lits.specs.declared.node.Node.{Node}
use Rattle.lits.specs.declared.node.Node.TheVariants.{Const, Input, Gate, Xor}
use Rattle.netlist.specs.declared.gate.And.{And}
use Rattle.netlist.specs.Place.{place_of}
use Rattle.netlist.specs.Circuit.{Aig, is_negated, var_of}
use Rattle.netlist.specs.Net.{lit_named, node_of}
use Rattle.fraig_write.specs.Reduced.{new_variable, renumbered}

-- ---- a number among numbers from a on
range-in : (n a q k : ℕ) → q ≡ a + k → k < n → place_of (λ x. x == q) (range_with_len a n) ≡ Some k
range-in zero a q k e l = absurd (omega arith)
range-in (suc n) a q zero e l = let t : (a == q) ≡ true = grind (arith, nat_tests) in rw t refl
range-in (suc n) a q (suc k) e l =
    let f : (a == q) ≡ false = grind (arith, nat_tests) in
    let next : k + 1 ≡ suc k = omega arith in
    let rest : place_of (λ x. x == q) (range_with_len (a + 1) n) ≡ Some k = range-in n (a + 1) q k (omega arith) (omega arith) in
    rw (f, rest) (ap Some next)

range-out : (n a q : ℕ) → a + n ≤ q → place_of (λ x. x == q) (range_with_len a n) ≡ None
range-out zero a q l = refl
range-out (suc n) a q l =
    let f : (a == q) ≡ false = grind (arith, nat_tests) in
    rw (f, range-out n (a + 1) q (omega arith)) refl

-- ---- a literal by its variable and its sign
abbrev signed : Bool → ℕ
signed s = cond s 1 0

half : (v : ℕ) (s : Bool) → var_of (2 * v + signed s) ≡ v
half v true = omega arith
half v false = omega arith

parity : (v : ℕ) (s : Bool) → is_negated (2 * v + signed s) ≡ s
parity v true = let e : (2 * v + 1) % 2 ≡ 1 = omega arith in rw e refl
parity v false = let e : (2 * v + 0) % 2 ≡ 0 = omega arith in rw e refl

pub named-by : (b : Aig) (v : ℕ) (s : Bool)
    → lit_named B b (2 * v + signed s) ≡ record { node = node_of B b v; neg = cond (v == 0) (not s) s }
named-by b v s = rw (half v s, parity v s) refl

-- B's node in the place of a node of A
abbrev pub new_node : Aig → List And → Node → Node
new_node a staying (Gate side v) = Gate B (new_variable (length a.inputs) staying (Gate side v))
new_node a staying n = n

-- the nodes that have new variables, if they stay
abbrev pub IsNumbered : Aig → Node → Type 0
IsNumbered a Const = ⊤
IsNumbered a (Input k) = k < length a.inputs
IsNumbered a (Gate A v) = ⊤
IsNumbered a (Gate B v) = ⊥
IsNumbered a (Xor j) = ⊥

-- ---- the node of a variable of B
module _ (a b : Aig) (inputs : b.inputs ≡ range_with_len 1 (length a.inputs)) where
  node-input : (k : ℕ) → k < length a.inputs → node_of B b (k + 1) ≡ Input k
  node-input k below =
      let zero_not : (k + 1 == 0) ≡ false = grind (arith, nat_tests) in
      let place : place_of (λ x. x == k + 1) (range_with_len 1 (length a.inputs)) ≡ Some k =
      range-in (length a.inputs) 1 (k + 1) k (omega arith) below in
      rw (zero_not, inputs, place) refl

  node-gate : (v : ℕ) → length a.inputs + 1 ≤ v → node_of B b v ≡ Gate B v
  node-gate v above =
      let zero_not : (v == 0) ≡ false = grind (arith, nat_tests) in
      let place : place_of (λ x. x == v) (range_with_len 1 (length a.inputs)) ≡ None = range-out (length a.inputs) 1 v (omega arith) in
      rw (zero_not, inputs, place) refl

  -- the literal that a renumbered one names
  pub named-renumbered : (staying : List And) (n : Node) (s : Bool) → IsNumbered a n
      → lit_named B b (renumbered (length a.inputs) staying (record { node = n; neg = s })) ≡ record { node = new_node a staying n; neg = s }
  named-renumbered staying Const s is = named-by b 0 (not s) ∙ ap (λ (x : Bool). record { node = Const; neg = x }) (twice s)
    where
      twice : (s : Bool) → not (not s) ≡ s
      twice true = refl
      twice false = refl
  named-renumbered staying (Input k) s is =
      let zero_not : (k + 1 == 0) ≡ false = grind (arith, nat_tests) in
      named-by b (k + 1) s
      ∙ ap (λ (n : Node). record { node = n; neg = cond (k + 1 == 0) (not s) s }) (node-input k is)
      ∙ ap (λ (c : Bool). record { node = Input k; neg = cond c (not s) s }) zero_not
  named-renumbered staying (Gate A v) s is =
      let n = new_variable (length a.inputs) staying (Gate A v) in
      let above : length a.inputs + 1 ≤ n = omega arith in
      let zero_not : (n == 0) ≡ false = grind (arith, nat_tests) in
      named-by b n s
      ∙ ap (λ (m : Node). record { node = m; neg = cond (n == 0) (not s) s }) (node-gate n above)
      ∙ ap (λ (c : Bool). record { node = Gate B n; neg = cond c (not s) s }) zero_not
  named-renumbered staying (Gate B v) s is = absurd is
  named-renumbered staying (Xor j) s is = absurd is
