-- How many clauses a gate has, by its AIGER literals: each variable of a circuit has its own node.
use Rattle.std.proofs.Common.{◌≡◌, ℕ, ◌/◌, Bool, true, false, not, cond, Option, None, Some, List, length, refl, sym, ap, ◌∙◌, subst, arith}
use Rattle.std.specs.Prelude.{◌==◌, ◌&&◌, slice_get}
use Rattle.std.specs.Option.{option_map, option_map_or}
use Rattle.std.proofs.lemmas.Bool.{and_parts}
use Rattle.std.proofs.lemmas.Bool.Decides.{nat_tests}
use Rattle.std.proofs.lemmas.Option.{get_or_from_slice_get, slice_get-map, slice_get_within}
use Rattle.lits.specs.declared.node.Side.{Side}
use Rattle.lits.specs.declared.node.Node.{Node}
use Rattle.lits.specs.declared.node.Node.TheVariants.{Const, Input, Gate}
use Rattle.lits.specs.declared.literal.Lit.{Lit}
use Rattle.lits.specs.Same.{same_lit, opposite}
use Rattle.lits.proofs.Facts.{exact-lit, same-lit_self}
use Rattle.netlist.specs.declared.gate.And.{And}
use Rattle.netlist.specs.declared.gate.Definition.{Definition}
use Rattle.netlist.specs.Place.{place_of}
use Rattle.netlist.specs.Circuit.{Aig, is_negated, gate_vars}
use Rattle.netlist.specs.Net.{AigPair, IsNet, circuit_of, node_of, lit_named, definition_of, defined_by}
use Rattle.netlist.specs.Miter.{axioms_of}
use Rattle.netlist.specs.Pair.{gate_node}
use Rattle.netlist.proofs.PlaceLemmas.{at_place}
use Rattle.netlist.proofs.EditLemmas.{same_number}
use Rattle.netlist.proofs.RunLemmas.{place-gate}
use Rattle.netlist.proofs.NetLemmas.{circuit_at}
use Rattle.netlist.proofs.AxiomLemmas.{length-gate, defined-gate, gate_axioms_of, apart-some}

index_of : Node → ℕ
index_of (Input k) = k
index_of (Gate side v) = v
index_of _ = 0

-- the same place, the same variable
same_place : (xs : List ℕ) (v w k : ℕ) → place_of (λ x. x == v) xs ≡ Some k → place_of (λ x. x == w) xs ≡ Some k → v ≡ w
same_place xs v w k e f =
    let first = at_place (λ x. x == v) xs k e in
    let second = at_place (λ x. x == w) xs k f in
    let one : Some first.0 ≡ Some second.0 = sym first.1 ∙ second.1 in
    let same : first.0 ≡ second.0 = cc one in
    sym (same_number first.0 v first.2) ∙ same ∙ same_number second.0 w second.2

-- the same node, the same variable
pub same_variable : (side : Side) (c : Aig) (v w : ℕ) → node_of side c v ≡ node_of side c w → v ≡ w
unfolding index_of
same_variable side c v w =
    go (v == 0) (w == 0) (place_of (λ x. x == v) c.inputs) (place_of (λ x. x == w) c.inputs) refl refl refl refl
  where
    go : (a b : Bool) (o p : Option ℕ) → (v == 0) ≡ a → (w == 0) ≡ b → place_of (λ x. x == v) c.inputs ≡ o → place_of (λ x. x == w) c.inputs ≡ p
        → cond a Const (option_map_or Input o (Gate side v)) ≡ cond b Const (option_map_or Input p (Gate side w)) → v ≡ w
    go true true o p e f g h same = same_number v 0 e ∙ sym (same_number w 0 f)
    go true false o (Some k) e f g h same = cc
    go true false o None e f g h same = cc
    go false true (Some k) p e f g h same = cc
    go false true None p e f g h same = cc
    go false false (Some j) (Some k) e f g h same = same_place c.inputs v w k (g ∙ ap Some (ap index_of same)) h
    go false false (Some j) None e f g h same = cc
    go false false None (Some k) e f g h same = cc
    go false false None None e f g h same = ap index_of same

-- AIGER literals that are complementary
abbrev pub is_pair : ℕ → ℕ → Bool
is_pair left right = (left / 2 == right / 2) && not (left == right)

flipped : (b m n : Bool) → m ≡ not n → cond b (not m) m ≡ not (cond b (not n) n)
flipped true m n e = ap not e
flipped false m n e = e

parted : (b m n : Bool) → cond b (not m) m ≡ not (cond b (not n) n) → m ≡ not n
parted true true true e = cc
parted true true false e = refl
parted true false true e = refl
parted true false false e = cc
parted false m n e = e

pub pair-named : (side : Side) (c : Aig) (left right : ℕ) (b : Bool) → is_pair left right ≡ b
    → same_lit (lit_named side c right) (opposite (lit_named side c left)) ≡ b
pair-named side c left right true e =
    subst (λ (l : Lit). same_lit (lit_named side c right) l ≡ true) equal (same-lit_self (lit_named side c right))
  where
    parts : ((left / 2 == right / 2) ≡ true) × (not (left == right) ≡ true)
    parts = and_parts (left / 2 == right / 2) (not (left == right)) e

    same : right / 2 ≡ left / 2
    same = sym (same_number (left / 2) (right / 2) parts.0)

    signs : is_negated right ≡ not (is_negated left)
    signs = grind (arith, nat_tests, same, parts.1)

    equal : lit_named side c right ≡ opposite (lit_named side c left)
    equal =
        ap (λ (v : ℕ). record { node = node_of side c v; neg = cond (v == 0) (not (is_negated right)) (is_negated right) }) same
        ∙ ap (λ (n : Bool). record { node = node_of side c (left / 2); neg = n })
        (flipped (left / 2 == 0) (is_negated right) (is_negated left) signs)
pair-named side c left right false e = go (same_lit (lit_named side c right) (opposite (lit_named side c left))) refl
  where
    go : (b : Bool) → same_lit (lit_named side c right) (opposite (lit_named side c left)) ≡ b → b ≡ false
    go false t = refl
    go true t =
        let equal = exact-lit (lit_named side c right) (opposite (lit_named side c left)) t in
        let same : right / 2 ≡ left / 2 = same_variable side c (right / 2) (left / 2) (ap (λ (l : Lit). l.node) equal) in
        let signs : is_negated right ≡ not (is_negated left) =
        parted (left / 2 == 0) (is_negated right) (is_negated left)
        (ap (λ (v : ℕ). cond (v == 0) (not (is_negated right)) (is_negated right)) (sym same) ∙ ap (λ (l : Lit). l.neg) equal) in
        let halves : (left / 2 == right / 2) ≡ true = grind (arith, nat_tests, same) in
        let apart : (left == right) ≡ false = unequal left right signs (left == right) refl in
        let pair : is_pair left right ≡ true = rw (halves, apart) refl in
        cc (pair, e)
      where
        unequal : (l r : ℕ) → is_negated r ≡ not (is_negated l) → (b : Bool) → (l == r) ≡ b → b ≡ false
        unequal l r s false t = refl
        unequal l r s true t =
            let one : is_negated l ≡ is_negated r = ap is_negated (same_number l r t) in
            flip (is_negated r) (is_negated l) s (sym one)
          where
            flip : (m n : Bool) → m ≡ not n → m ≡ n → true ≡ false
            flip true true s e = cc
            flip true false s e = cc
            flip false true s e = cc
            flip false false s e = cc

-- how many clauses the gate with an index has
pub count-gate : (net : AigPair) (side : Side) (index : ℕ) (g : And) (b : Bool) → IsNet net → slice_get (circuit_of net side).gates index ≡ Some g
    → is_pair g.left g.right ≡ b → length (axioms_of net (gate_node net side index)) ≡ cond b 2 3
count-gate net side index g b is at e =
    ap (λ (n : Node). length (axioms_of net n)) node
    ∙ ap length (sym (gate_axioms_of net (Gate side g.var) side g.var d refl (sym defined)))
    ∙ length-gate d (apart-some net (Gate side g.var) (Some d) is (sym defined)) b (pair-named side (circuit_of net side) g.left g.right b e)
  where
    d : Definition
    d = definition_of side (circuit_of net side) g

    node : gate_node net side index ≡ Gate side g.var
    node = ap (Gate side) (get_or_from_slice_get (gate_vars (circuit_of net side).gates) index g.var 0
        (slice_get-map (λ x. x.var) (circuit_of net side).gates index ∙ ap (option_map (λ x. x.var)) at))

    place : place_of (λ x. x.var == g.var) (circuit_of net side).gates ≡ Some index
    place = subst (λ (x : And). place_of (λ y. y.var == x.var) (circuit_of net side).gates ≡ Some index)
        (get_or_from_slice_get (circuit_of net side).gates index g g at)
        (place-gate (circuit_of net side) index g (circuit_at net side is) (slice_get_within (circuit_of net side).gates index g at))

    defined : defined_by net (Gate side g.var) ≡ Some d
    defined = defined-gate net side g.var index g at place
