-- A gate stands at a position behind those of its fanins.
use Rattle.std.proofs.Common.{◌≡◌, ℕ, zero, suc, ◌+◌, ◌<◌, Bool, true, false, Option, Some, None, List, [], ◌∷◌, map, length, refl, sym, ap, ◌∙◌, if◌then◌else◌, arith}
use Rattle.std.specs.Prelude.{◌==◌, slice_get}
use Rattle.std.specs.List.{range_with_len, find}
use Rattle.std.specs.Option.{option_map, option_map_or, option_and_then, unwrap_or, is_some}
use Rattle.std.proofs.lemmas.Option.{none-some, same_Some, slice_get_within}
use Rattle.lits.specs.Clause.{has}
use Rattle.lits.specs.Same.{same_node}
use Rattle.lits.specs.declared.node.Side.{Side}
use Rattle.lits.specs.declared.node.Side.TheVariants.{A, B}
use Rattle.lits.specs.declared.node.Node.{Node}
use Rattle.lits.specs.declared.node.Node.TheVariants.{Const, Input, Gate, Xor}
use Rattle.netlist.specs.declared.gate.And.{And}
use Rattle.netlist.specs.declared.gate.Definition.{Definition}
use Rattle.netlist.specs.Place.{place_of}
use Rattle.netlist.specs.Circuit.{Aig, var_of}
use Rattle.netlist.specs.Net.{AigPair, IsNet, circuit_of, node_of, definition_of, definitions, gate_at, nodes_of, position_of, fanins_of}
use Rattle.netlist.specs.Miter.{variables_of}
use Rattle.netlist.proofs.Facts.{find-place, place_of-append, or_place, slice_get-left, slice_get-right, is_some-place, length-range, equal-number, has-position, has-variable, variables-fanins, gate-at, IsGateAt, place_of-map}
use Rattle.lemma_book.specs.Good.{IsBefore}

-- ---- places in mapped lists
map-length : {X Y : Type 0} (f : X → Y) (xs : List X) → length (map f xs) ≡ length xs
map-length f [] = refl
map-length f (x ∷ xs) = ap suc (map-length f xs)

get-map : {X Y : Type 0} (f : X → Y) (xs : List X) (k : ℕ) (x : X) → slice_get xs k ≡ Some x → slice_get (map f xs) k ≡ Some (f x)
get-map f [] k x e = absurd (none-some x e)
get-map f (y ∷ ys) zero x e = ap Some (ap f (same_Some y x e))
get-map f (y ∷ ys) (suc k) x e = get-map f ys k x e

module _ (net : AigPair) where
  abbrev first : List Definition
  first = map (definition_of A net.a) net.a.gates

  abbrev second : List Definition
  second = map (definition_of B net.b) net.b.gates

  -- the number of a side's gate among all gates
  abbrev number : Side → ℕ → ℕ
  number A k = k
  number B k = length first + k

  definition-at : (s : Side) (k : ℕ) (g : And) → slice_get (circuit_of net s).gates k ≡ Some g
      → slice_get (definitions net) (number s k) ≡ Some (definition_of s (circuit_of net s) g)
  definition-at A k g e =
      let within = slice_get_within net.a.gates k g e in
      slice_get-left first second k (omega (arith, within, map-length (definition_of A net.a) net.a.gates)) ∙ get-map (definition_of A net.a) net.a.gates k g e
  definition-at B k g e = slice_get-right first second k ∙ get-map (definition_of B net.b) net.b.gates k g e

  -- the place of a side's variable among all gates
  place-gate : (s : Side) (v k : ℕ) → place_of (λ g. g.var == v) (circuit_of net s).gates ≡ Some k
      → place_of (λ m. same_node m (Gate s v)) (map (λ d. d.node) (definitions net)) ≡ Some (number s k)
  place-gate s v k e =
      place_of-map (λ m. same_node m (Gate s v)) (λ d. d.node) (definitions net)
      ∙ (place_of-append (λ d. same_node d.node (Gate s v)) first second ∙ here s v k e)
    where
      here : (t : Side) (w j : ℕ) → place_of (λ g. g.var == w) (circuit_of net t).gates ≡ Some j
          → or_place (place_of (λ d. same_node d.node (Gate t w)) first) (option_map (λ i. length first + i) (place_of (λ d. same_node d.node (Gate t w)) second)) ≡ Some (number t j)
      here A w j f = rw (place_of-map (λ d. same_node d.node (Gate A w)) (definition_of A net.a) net.a.gates ∙ f) refl
      here B w j f =
          rw (
            none w net.a.gates,
            place_of-map (λ d. same_node d.node (Gate B w)) (definition_of B net.b) net.b.gates ∙ f,
          ) refl
        where
          none : (w : ℕ) (gs : List And) → place_of (λ d. same_node d.node (Gate B w)) (map (definition_of A net.a) gs) ≡ None
          none w [] = refl
          none w (g ∷ gs) = rw (none w gs) refl

  abbrev inputs : List Node
  inputs = map Input (range_with_len 0 (length net.a.inputs))

  -- the position of a side's gate
  position-number : (s : Side) (v k : ℕ) → place_of (λ g. g.var == v) (circuit_of net s).gates ≡ Some k
      → position_of net (Gate s v) ≡ Some (1 + length net.a.inputs + number s k)
  position-number s v k e =
      let count : length inputs ≡ length net.a.inputs = map-length Input (range_with_len 0 (length net.a.inputs)) ∙ length-range (length net.a.inputs) 0 in
      let place : (length inputs + number s k) + 1 ≡ 1 + length net.a.inputs + number s k = omega (arith, count) in
      ap (option_map (λ j. j + 1)) (place_of-append (λ m. same_node m (Gate s v)) inputs (map (λ d. d.node) (definitions net)))
      ∙ rw (none (range_with_len 0 (length net.a.inputs)), place-gate s v k e) (ap Some place)
    where
      none : (ks : List ℕ) → place_of (λ m. same_node m (Gate s v)) (map Input ks) ≡ None
      none [] = refl
      none (j ∷ js) = rw (none js) refl

-- no variable of a side is named by an XOR
pub node_of-no_xor : (s : Side) (c : Aig) (x j : ℕ) → same_node (Xor j) (node_of s c x) ≡ false
node_of-no_xor s c x j = go (x == 0) (place_of (λ y. y == x) c.inputs)
  where
    go : (b : Bool) (o : Option ℕ) → same_node (Xor j) (if b then Const else option_map_or Input o (Gate s x)) ≡ false
    go true o = refl
    go false None = refl
    go false (Some k) = refl

-- a gate's variable is the one by which it is found
pub found-var : (net : AigPair) (s : Side) (v : ℕ) (g : And) → gate_at net s v ≡ Some g → g.var ≡ v
found-var net s v g found = go (circuit_of net s).gates found
  where
    go : (gs : List And) → find (λ h. h.var == v) gs ≡ Some g → g.var ≡ v
    go [] e = absurd (none-some g e)
    go (h ∷ hs) e = here (h.var == v) refl (go hs)
      where
        here : (b : Bool) → (h.var == v) ≡ b → (find (λ i. i.var == v) hs ≡ Some g → g.var ≡ v) → g.var ≡ v
        here true f rest =
            let same : h ≡ g = same_Some h g (rw f at e) in
            ap (λ (x : And). x.var) (sym same) ∙ equal-number h.var v f
        here false f rest = rest (rw f at e)

module _ (net : AigPair) (is : IsNet net) (s : Side) (v : ℕ) (g : And) (found : gate_at net s v ≡ Some g) where
  abbrev c : Aig
  c = circuit_of net s

  -- the place of the gate in its circuit
  at-place : (k : ℕ) × (place_of (λ h. h.var == v) c.gates ≡ Some k) × (slice_get c.gates k ≡ Some g)
  at-place = go (place_of (λ h. h.var == v) c.gates) refl
    where
      known : option_and_then (slice_get c.gates) (place_of (λ h. h.var == v) c.gates) ≡ Some g
      known = sym (find-place (λ h. h.var == v) c.gates) ∙ found

      go : (o : Option ℕ) → place_of (λ h. h.var == v) c.gates ≡ o → (k : ℕ) × (place_of (λ h. h.var == v) c.gates ≡ Some k) × (slice_get c.gates k ≡ Some g)
      go None e = let f : None ≡ Some g = rw e at known in absurd (none-some g f)
      go (Some k) e = (k, e, rw e at known)

  -- the gate has a position
  pub gate-there : has same_node (nodes_of net) (Gate s v) ≡ true
  gate-there =
      sym (is_some-place (λ m. same_node m (Gate s v)) (nodes_of net))
      ∙ ap is_some (position-number net s v at-place.0 at-place.1)

  fanin-earlier : (x : ℕ) → has same_node (variables_of net) (node_of s c x) ≡ true
      → unwrap_or (position_of net (node_of s c x)) 0 < 1 + length net.a.inputs + number net s at-place.0
      → IsBefore (position_of net (node_of s c x)) (position_of net (Gate s v))
  fanin-earlier x there below = go (position_of net (node_of s c x)) refl
    where
      placed : is_some (position_of net (node_of s c x)) ≡ true
      placed =
          is_some-place (λ m. same_node m (node_of s c x)) (nodes_of net)
          ∙ has-position net (node_of s c x) (node_of-no_xor s c x) there

      go : (o : Option ℕ) → position_of net (node_of s c x) ≡ o → IsBefore (position_of net (node_of s c x)) (position_of net (Gate s v))
      go None e = let f : false ≡ true = rw e at placed in cc
      go (Some p) e =
          let less : p < 1 + length net.a.inputs + number net s at-place.0 = rw e at below in
          rw (e, position-number net s v at-place.0 at-place.1) less

  stands : IsGateAt net (1 + length net.a.inputs + number net s at-place.0) (fanins_of net (definition_of s c g))
  stands = gate-at net is (number net s at-place.0) (fanins_of net (definition_of s c g))
      (get-map (fanins_of net) (definitions net) (number net s at-place.0) (definition_of s c g) (definition-at net s at-place.0 g at-place.2))

  -- so have its fanins, before it
  pub left-earlier : IsBefore (position_of net (node_of s c (var_of g.left))) (position_of net (Gate s v))
  left-earlier = fanin-earlier (var_of g.left) ((variables-fanins net is).left s v g found (has-variable net (Gate s v) gate-there)) stands.left

  pub right-earlier : IsBefore (position_of net (node_of s c (var_of g.right))) (position_of net (Gate s v))
  right-earlier = fanin-earlier (var_of g.right) ((variables-fanins net is).right s v g found (has-variable net (Gate s v) gate-there)) stands.right
