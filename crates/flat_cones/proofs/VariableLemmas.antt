-- The node of a CNF variable, and that it has this variable.
use Rattle.std.proofs.Common.{◌≡◌, ℕ, zero, suc, ◌+◌, ◌-◌, ◌<◌, ◌≤◌, Bool, true, false, ◌==◌, Option, Some, length, refl, ap, ◌∙◌, arith, length-append, add-one}
use Rattle.std.specs.Prelude.{slice_get, nat_lt}
use Rattle.std.specs.Option.{option_map}
use Rattle.std.specs.List.{range_with_len}
use Rattle.std.proofs.lemmas.Bool.Decides.{nat_tests}
use Rattle.std.proofs.lemmas.List.{get_or_append_left}
use Rattle.std.proofs.lemmas.List.FromFn.{length-map-range_with_len}
use Rattle.std.proofs.lemmas.Option.{slice_get-map, get_or_from_slice_get, slice_get-get_or}
use Rattle.lits.specs.Same.{same_node}
use Rattle.lits.specs.declared.node.Node.TheVariants.{Const, Xor}
use Rattle.netlist.specs.Net.{AigPair, IsNet, nodes_of, node_at}
use Rattle.netlist.specs.Miter.{variables_of, variable_of, xors_of}
use Rattle.netlist.specs.Place.{place_of}
use Rattle.netlist.proofs.Facts.{or_place, place_of-append, place_of-map, slice_get-right, position-node, position_of-xor}
use Rattle.flat_cones.specs.Walk.{node_by, IsVariable}

range-get : (n a k : ℕ) → k < n → slice_get (range_with_len a n) k ≡ Some (a + k)
range-get zero a k l = absurd (omega arith)
range-get (suc n) a zero l = let e : a ≡ a + 0 = omega arith in ap Some e
range-get (suc n) a (suc k) l = let e : (a + 1) + k ≡ a + suc k = omega arith in range-get n (a + 1) k (omega arith) ∙ ap Some e

range-place : (n a q k : ℕ) → q ≡ a + k → k < n → place_of (λ x. x == q) (range_with_len a n) ≡ Some k
range-place zero a q k e l = absurd (omega arith)
range-place (suc n) a q zero e l = let t : (a == q) ≡ true = grind (arith, nat_tests) in rw t refl
range-place (suc n) a q (suc k) e l =
    let t : (a == q) ≡ false = grind (arith, nat_tests) in
    let rest : place_of (λ x. x == q) (range_with_len (a + 1) n) ≡ Some k = range-place n (a + 1) q k (omega arith) (omega arith) in
    rw (t, rest) (ap Some (add-one k))

pub count-xors : (net : AigPair) → length (xors_of net) ≡ length net.a.outputs
count-xors net = length-map-range_with_len Xor 0 (length net.a.outputs)

pub xor-at : (net : AigPair) (j : ℕ) → j < length net.a.outputs → slice_get (variables_of net) (length (nodes_of net) + j) ≡ Some (Xor j)
xor-at net j l =
    let start : 0 + j ≡ j = omega arith in
    slice_get-right (nodes_of net) (xors_of net) j ∙ slice_get-map Xor (range_with_len 0 (length net.a.outputs)) j
    ∙ ap (option_map Xor) (range-get (length net.a.outputs) 0 j l ∙ ap Some start)

-- behind the nodes with a position stand the XORs
pub variable-xor : (net : AigPair) (v : ℕ) → IsVariable net v → length (nodes_of net) ≤ v - 1
    → slice_get (variables_of net) (v - 1) ≡ Some (Xor (v - 1 - length (nodes_of net)))
variable-xor net v is behind =
    let place : v - 1 ≡ length (nodes_of net) + (v - 1 - length (nodes_of net)) = omega arith in
    ap (slice_get (variables_of net)) place
    ∙ xor-at net (v - 1 - length (nodes_of net))
    (omega (arith, is.0, is.1, behind, length-append (nodes_of net) (xors_of net), count-xors net))

-- before them those with a position
pub variable-node : (net : AigPair) (v : ℕ) → IsVariable net v → v - 1 < length (nodes_of net)
    → slice_get (variables_of net) (v - 1) ≡ Some (node_at net (v - 1))
variable-node net v is before =
    slice_get-get_or (variables_of net) (v - 1) Const (omega (arith, is.0, is.1))
    ∙ ap Some (get_or_append_left (nodes_of net) (xors_of net) Const (v - 1) before)

-- the node of a variable has this variable
pub variable-place : (net : AigPair) → IsNet net → (v : ℕ) → IsVariable net v → variable_of net (node_by net v) ≡ Some v
variable-place net is v range = by (nat_lt (v - 1) (length (nodes_of net))) refl
  where
    positions : ℕ
    positions = length (nodes_of net)

    next : v - 1 + 1 ≡ v
    next = omega (arith, range.0)

    by : (b : Bool) → nat_lt (v - 1) (length (nodes_of net)) ≡ b → variable_of net (node_by net v) ≡ Some v
    by true t =
        let below : v - 1 < length (nodes_of net) = grind (arith, nat_tests, t) in
        let node : node_by net v ≡ node_at net (v - 1) = get_or_from_slice_get (variables_of net) (v - 1) (node_at net (v - 1)) Const (variable-node net v range below) in
        let place : place_of (λ m. same_node m (node_at net (v - 1))) (nodes_of net) ≡ Some (v - 1) = position-node net is (v - 1) below in
        ap (variable_of net) node
        ∙ ap (option_map (λ k. k + 1)) (place_of-append (λ m. same_node m (node_at net (v - 1))) (nodes_of net) (xors_of net)
        ∙ ap (λ (o : Option ℕ). or_place o (option_map (λ k. length (nodes_of net) + k) (place_of (λ m. same_node m (node_at net (v - 1))) (xors_of net)))) place)
        ∙ ap Some next
    by false t =
        let behind : length (nodes_of net) ≤ v - 1 = grind (arith, nat_tests, t) in
        let j = v - 1 - length (nodes_of net) in
        let below : v - 1 - length (nodes_of net) < length net.a.outputs =
        omega (arith, range.0, range.1, behind, length-append (nodes_of net) (xors_of net), count-xors net) in
        let node : node_by net v ≡ Xor (v - 1 - length (nodes_of net)) = get_or_from_slice_get (variables_of net) (v - 1) (Xor j) Const (variable-xor net v range behind) in
        let place : place_of (λ m. same_node m (Xor j)) (xors_of net) ≡ Some j =
        place_of-map (λ m. same_node m (Xor j)) Xor (range_with_len 0 (length net.a.outputs)) ∙ range-place (length net.a.outputs) 0 j j (omega arith) below in
        let sum : length (nodes_of net) + (v - 1 - length (nodes_of net)) + 1 ≡ v = omega (arith, range.0, behind) in
        ap (variable_of net) node
        ∙ ap (option_map (λ k. k + 1)) (place_of-append (λ m. same_node m (Xor j)) (nodes_of net) (xors_of net)
        ∙ ap (λ (o : Option ℕ). or_place o (option_map (λ k. length (nodes_of net) + k) (place_of (λ m. same_node m (Xor j)) (xors_of net)))) (position_of-xor net j)
        ∙ ap (option_map (λ k. length (nodes_of net) + k)) place)
        ∙ ap Some sum
