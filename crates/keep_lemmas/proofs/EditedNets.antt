-- What edits leave of a net: whatever no edit touches is defined as before, and stands in its order.
use Rattle.std.proofs.Common.{◌≡◌, ℕ, zero, suc, Bool, true, false, not, cond, Option, Some, None, List, [], ◌∷◌, ◌++◌, length, map, find, refl, sym, ap, ◌∙◌, subst, arith}
use Rattle.std.specs.Prelude.{◌==◌, slice_get, slice_set}
use Rattle.std.specs.Option.{option_map, option_map_or, IsSome, is_some}
use Rattle.std.specs.List.{list_any, range_with_len}
use Rattle.std.proofs.lemmas.List.{append-nil, map-append, length-set}
use Rattle.std.proofs.lemmas.Option.{none-some, same_Some, slice_get_within, get_or_from_slice_get}
use Rattle.std.proofs.lemmas.Bool.{or_left, or_right}
use Rattle.std.proofs.lemmas.Bool.Decides.{nat_tests}
use Rattle.lits.specs.Same.{same_node}
use Rattle.lits.specs.Clause.{has}
use Rattle.lits.specs.declared.node.Side.{Side}
use Rattle.lits.specs.declared.node.Side.TheVariants.{A, B}
use Rattle.lits.specs.declared.node.Node.{Node}
use Rattle.lits.specs.declared.node.Node.TheVariants.{Const, Input, Gate, Xor}
use Rattle.lits.specs.declared.literal.Lit.{Lit}
use Rattle.lits.proofs.Facts.{exact-node}
use Rattle.netlist.specs.declared.gate.And.{And}
use Rattle.netlist.specs.Place.{before}
use Rattle.netlist.specs.Circuit.{Aig, var_of}
use Rattle.netlist.specs.Edit.{since, with_gate, with_new, without_gate, with_output, with_side}
use Rattle.netlist.specs.Net.{AigPair, IsNet, bound_of, bounds_on, circuit_of, definition_of, definitions, defined_by, gate_at, output_of, nodes_of, position_of, lit_named}
use Rattle.netlist.specs.Miter.{axioms_of, axiom_of, kept, gate_clauses, xor_axioms, variables_of, variable_of}
use Rattle.netlist.proofs.Facts.{equal-number, at-place, gate-definition, position-node, is_some-place, has-xor, has-position}
use Rattle.lemma_book.proofs.Facts.{is_some-variable, placed-there}
use Rattle.lemma_book.specs.Good.{IsBefore, IsEarlier}
use Rattle.netlist_edits.specs.declared.edit.Edit.{Edit}
use Rattle.netlist_edits.specs.declared.edit.Edit.TheVariants.{Set, New, Remove, Out}
use Rattle.netlist_edits.specs.Edited.{gate, edited, edited_all, touched, touched_by}
use Rattle.keep_lemmas.proofs.ElementsStay.{Stays, both, all-stay, stays-then, stays-fewer, stays-map, stays-append, stays-one_more, stays-filter, stays-swap, stays-at, stays-before}

-- of a side's circuit d has what c has, but for what is touched and for gates that came
pub record CircuitStays (t : Node → Bool) (s : Side) (c d : Aig) : Type 0 where
  pub inputs : d.inputs ≡ c.inputs
  pub count : length d.outputs ≡ length c.outputs
  pub outputs : (j : ℕ) → t (Xor j) ≡ false → slice_get d.outputs j ≡ slice_get c.outputs j
  pub constraints : d.constraints ≡ c.constraints
  pub gates : Stays (λ g. not (t (Gate s g.var))) c.gates d.gates

pub record NetStays (t : Node → Bool) (m n : AigPair) : Type 0 where
  pub a : CircuitStays t A m.a n.a
  pub b : CircuitStays t B m.b n.b

-- ---- no edit, one after the other, and fewer touched nodes

circuit-same : (t : Node → Bool) (s : Side) (c : Aig) → CircuitStays t s c c
circuit-same t s c = record { inputs = refl; count = refl; outputs = λ j e. refl; constraints = refl; gates = all-stay (λ g. not (t (Gate s g.var))) c.gates }

circuit-then : (t : Node → Bool) (s : Side) (c d e : Aig) → CircuitStays t s c d → CircuitStays t s d e → CircuitStays t s c e
circuit-then t s c d e p q = record {
  inputs = q.inputs ∙ p.inputs;
  count = q.count ∙ p.count;
  outputs = λ j f. q.outputs j f ∙ p.outputs j f;
  constraints = q.constraints ∙ p.constraints;
  gates = stays-then p.gates q.gates;
}

net-then : (t : Node → Bool) (m n o : AigPair) → NetStays t m n → NetStays t n o → NetStays t m o
net-then t m n o p q = record { a = circuit-then t A m.a n.a o.a p.a q.a; b = circuit-then t B m.b n.b o.b p.b q.b }

-- what isn't touched by more isn't touched by less
less-touched : (b d : Bool) → (b ≡ true → d ≡ true) → d ≡ false → b ≡ false
less-touched true d more e = let f : d ≡ true = more refl in cc
less-touched false d more e = refl

not-touched : (b d : Bool) → (b ≡ true → d ≡ true) → not b ≡ false → not d ≡ false
not-touched true d more e = ap not (more refl)
not-touched false d more e = cc

circuit-more : (t u : Node → Bool) (s : Side) (c d : Aig) → ((n : Node) → t n ≡ true → u n ≡ true) → CircuitStays t s c d → CircuitStays u s c d
circuit-more t u s c d more p = record {
  inputs = p.inputs;
  count = p.count;
  outputs = λ j e. p.outputs j (less-touched (t (Xor j)) (u (Xor j)) (more (Xor j)) e);
  constraints = p.constraints;
  gates = stays-fewer (λ g. not-touched (t (Gate s g.var)) (u (Gate s g.var)) (more (Gate s g.var))) p.gates;
}

net-more : (t u : Node → Bool) (m n : AigPair) → ((k : Node) → t k ≡ true → u k ≡ true) → NetStays t m n → NetStays u m n
net-more t u m n more p = record { a = circuit-more t u A m.a n.a more p.a; b = circuit-more t u B m.b n.b more p.b }

-- ---- one edit

same-gate : (s : Side) (x y : ℕ) → same_node (Gate s x) (Gate s y) ≡ (x == y)
same-gate A x y = refl
same-gate B x y = refl

before-since : {X : Type 0} (test : X → Bool) (xs : List X) → before test xs ++ since test xs ≡ xs
before-since test [] = refl
before-since {X} test (x ∷ xs) = go (test x) (before-since test xs)
  where
    go : (b : Bool) → before test xs ++ since test xs ≡ xs → cond b [] (x ∷ before test xs) ++ cond b (x ∷ xs) (since test xs) ≡ x ∷ xs
    go true e = refl
    go false e = ap (λ (ys : List X). x ∷ ys) e

-- other elements than that at the place are as they were
get-set : {X : Type 0} (xs : List X) (j k : ℕ) (x : X) → (k == j) ≡ false → slice_get (slice_set xs j x) k ≡ slice_get xs k
get-set [] j k x e = refl
get-set (y ∷ ys) zero zero x e = cc
get-set (y ∷ ys) zero (suc k) x e = refl
get-set (y ∷ ys) (suc j) zero x e = refl
get-set (y ∷ ys) (suc j) (suc k) x e = let f : (k == j) ≡ false = grind (arith, nat_tests, e) in get-set ys j k x f

module _ (s : Side) (c : Aig) where
  set-stays : (g : And) → CircuitStays (λ n. same_node n (Gate s g.var)) s c (with_gate c g)
  set-stays g = record {
    inputs = refl;
    count = refl;
    outputs = λ j e. refl;
    constraints = refl;
    gates = stays-swap (λ x. not (same_node (Gate s x.var) (Gate s g.var))) (λ x. x.var == g.var) g
        (λ x e. ap not (same-gate s x.var g.var ∙ e)) c.gates;
  }

  new-stays : (g : And) (place : Option ℕ) → CircuitStays (λ n. false) s c (with_new c g place)
  new-stays g None = record {
    inputs = refl;
    count = refl;
    outputs = λ j e. refl;
    constraints = refl;
    gates = subst (λ (gs : List And). Stays (λ x. true) gs (c.gates ++ g ∷ [])) (append-nil c.gates) (stays-one_more (λ x. true) c.gates [] g);
  }
  new-stays g (Some v) = record {
    inputs = refl;
    count = refl;
    outputs = λ j e. refl;
    constraints = refl;
    gates = subst (λ (gs : List And). Stays (λ x. true) gs (before (λ x. x.var == v) c.gates ++ g ∷ since (λ x. x.var == v) c.gates))
        (before-since (λ x. x.var == v) c.gates)
        (stays-one_more (λ x. true) (before (λ x. x.var == v) c.gates) (since (λ x. x.var == v) c.gates) g);
  }

  drop-stays : (v : ℕ) → CircuitStays (λ n. same_node n (Gate s v)) s c (without_gate c v)
  drop-stays v = record {
    inputs = refl;
    count = refl;
    outputs = λ j e. refl;
    constraints = refl;
    gates = stays-filter (λ x. not (same_node (Gate s x.var) (Gate s v))) (λ x. not (x.var == v))
        (λ x e. ap not (same-gate s x.var v) ∙ e) c.gates;
  }

  output-stays : (j lit : ℕ) → CircuitStays (λ n. same_node n (Xor j)) s c (with_output c j lit)
  output-stays j lit = record {
    inputs = refl;
    count = length-set c.outputs j lit;
    outputs = λ k e. get-set c.outputs j k lit e;
    constraints = refl;
    gates = all-stay (λ g. not (same_node (Gate s g.var) (Xor j))) c.gates;
  }

on-side : (t : Node → Bool) (net : AigPair) (s : Side) (c : Aig) → CircuitStays t s (circuit_of net s) c → NetStays t net (with_side net s c)
on-side t net A c p = record { a = p; b = circuit-same t B net.b }
on-side t net B c p = record { a = circuit-same t A net.a; b = p }

edit-stays : (net : AigPair) (edit : Edit) → NetStays (touched edit) net (edited net edit)
edit-stays net (Set side lhs r0 r1) = on-side _ net side _ (set-stays side (circuit_of net side) (gate lhs r0 r1))
edit-stays net (New side lhs r0 r1 place) = on-side _ net side _ (new-stays side (circuit_of net side) (gate lhs r0 r1) (option_map var_of place))
edit-stays net (Remove side lhs) = on-side _ net side _ (drop-stays side (circuit_of net side) (var_of lhs))
edit-stays net (Out side j lit) = on-side _ net side _ (output-stays side (circuit_of net side) j lit)

-- what no edit touches stays, whether the edits have faults or not
pub edits-stay : (net : AigPair) (edits : List Edit) → NetStays (touched_by edits) net (edited_all net edits)
edits-stay net [] = record { a = circuit-same _ A net.a; b = circuit-same _ B net.b }
edits-stay net (e ∷ es) =
    net-then (touched_by (e ∷ es)) net (edited net e) (edited_all (edited net e) es)
    (net-more (touched e) (touched_by (e ∷ es)) net (edited net e) (λ n t. or_left (touched e n) (touched_by es n) t) (edit-stays net e))
    (net-more (touched_by es) (touched_by (e ∷ es)) (edited net e) (edited_all (edited net e) es) (λ n t. or_right (touched e n) (touched_by es n) t)
    (edits-stay (edited net e) es))

-- ---- what so stays

find-at : {X : Type 0} (test : X → Bool) (xs : List X) (x : X) → find test xs ≡ Some x → (i : ℕ) × (slice_get xs i ≡ Some x) × (test x ≡ true)
find-at test [] x e = absurd (none-some x e)
find-at {X} test (y ∷ ys) x e = go (test y) refl (find-at test ys x)
  where
    go : (b : Bool) → test y ≡ b → (find test ys ≡ Some x → (i : ℕ) × (slice_get ys i ≡ Some x) × (test x ≡ true))
        → (i : ℕ) × (slice_get (y ∷ ys) i ≡ Some x) × (test x ≡ true)
    go true f rest = let same : y ≡ x = same_Some y x (rw f at e) in (0, ap Some same, subst (λ (z : X). test z ≡ true) same f)
    go false f rest = let r = rest (rw f at e) in (suc r.0, r.1, r.2)

-- the clauses of what is defined
clauses-defined : {X Y Z : Type 0} (f : X → Y) (k : Y → List Z) (o : Option X) (y : Y) → option_map f o ≡ Some y → option_map_or (λ x. k (f x)) o [] ≡ k y
clauses-defined f k None y e = absurd (none-some y e)
clauses-defined f k (Some x) y e = ap k (same_Some (f x) y e)

gates-made : (s : Side) (c : Aig) (gs : List And) → map (λ d. d.node) (map (definition_of s c) gs) ≡ map (λ g. Gate s g.var) gs
gates-made s c [] = refl
gates-made s c (g ∷ gs) = ap (λ (l : List Node). Gate s g.var ∷ l) (gates-made s c gs)

module _ (t : Node → Bool) (old new : AigPair) (stays : NetStays t old new) where
  at-side : (s : Side) → CircuitStays t s (circuit_of old s) (circuit_of new s)
  at-side A = stays.a
  at-side B = stays.b

  -- with the same inputs literals have the same nodes
  same-definition : (s : Side) (g : And) → definition_of s (circuit_of new s) g ≡ definition_of s (circuit_of old s) g
  same-definition s g = rw (at-side s).inputs refl

  same-lit_named : (s : Side) (lit : ℕ) → lit_named s (circuit_of new s) lit ≡ lit_named s (circuit_of old s) lit
  same-lit_named s lit = rw (at-side s).inputs refl

  output-same : (s : Side) (j : ℕ) → t (Xor j) ≡ false → output_of new s j ≡ output_of old s j
  output-same s j e =
      ap (option_map (lit_named s (circuit_of new s))) ((at-side s).outputs j e) ∙ go (slice_get (circuit_of old s).outputs j)
    where
      go : (o : Option ℕ) → option_map (lit_named s (circuit_of new s)) o ≡ option_map (lit_named s (circuit_of old s)) o
      go None = refl
      go (Some lit) = ap Some (same-lit_named s lit)

  -- the same constraints, of which each has the literal that it had
  bounds-same : (s : Side) → bounds_on new s ≡ bounds_on old s
  bounds-same s = ap (map (lit_named s (circuit_of new s))) (at-side s).constraints ∙ go (circuit_of old s).constraints
    where
      go : (lits : List ℕ) → map (lit_named s (circuit_of new s)) lits ≡ map (lit_named s (circuit_of old s)) lits
      go [] = refl
      go (lit ∷ lits) =
          ap (λ (l : Lit). l ∷ map (lit_named s (circuit_of new s)) lits) (same-lit_named s lit)
          ∙ ap (λ (ls : List Lit). lit_named s (circuit_of old s) lit ∷ ls) (go lits)

  pub bound-same : (s : Side) (k : ℕ) → bound_of new s k ≡ bound_of old s k
  bound-same s k = ap (λ (ls : List Lit). slice_get ls k) (bounds-same s)

  nodes-stay : Stays (λ n. not (t n)) (nodes_of old) (nodes_of new)
  nodes-stay =
      both Const _ _ (stays-append
      (subst (λ (k : ℕ). Stays (λ n. not (t n)) (map Input (range_with_len 0 (length old.a.inputs))) (map Input (range_with_len 0 k)))
      (ap length (sym stays.a.inputs)) (all-stay (λ n. not (t n)) (map Input (range_with_len 0 (length old.a.inputs)))))
      (subst (λ (l : List Node). Stays (λ n. not (t n)) l (map (λ d. d.node) (definitions new))) (sym (gates old))
      (subst (λ (l : List Node). Stays (λ n. not (t n)) (map (λ g. Gate A g.var) old.a.gates ++ map (λ g. Gate B g.var) old.b.gates) l) (sym (gates new))
      (stays-append (stays-map (λ n. not (t n)) (λ g. Gate A g.var) (λ g. refl) stays.a.gates)
      (stays-map (λ n. not (t n)) (λ g. Gate B g.var) (λ g. refl) stays.b.gates)))))
    where
      gates : (net : AigPair) → map (λ d. d.node) (definitions net) ≡ map (λ g. Gate A g.var) net.a.gates ++ map (λ g. Gate B g.var) net.b.gates
      gates net =
          map-append (λ d. d.node) (map (definition_of A net.a) net.a.gates) (map (definition_of B net.b) net.b.gates)
          ∙ ap (λ (l : List Node). l ++ map (λ d. d.node) (map (definition_of B net.b) net.b.gates)) (gates-made A net.a net.a.gates)
          ∙ ap (λ (l : List Node). map (λ g. Gate A g.var) net.a.gates ++ l) (gates-made B net.b net.b.gates)

  module _ (is : IsNet new) where
    gate-axioms : (s : Side) (v : ℕ) (g : And) → t (Gate s v) ≡ false → gate_at old s v ≡ Some g → axioms_of new (Gate s v) ≡ axioms_of old (Gate s v)
    gate-axioms s v g e at =
        let here = find-at (λ x. x.var == v) (circuit_of old s).gates g at in
        let same : g.var ≡ v = equal-number g.var v here.2 in
        let free : not (t (Gate s g.var)) ≡ true = ap (λ (x : ℕ). not (t (Gate s x))) same ∙ ap not e in
        let there = stays-at here.0 g (at-side s).gates here.1 free in
        let defined : defined_by new (Gate s v) ≡ Some (definition_of s (circuit_of old s) g) =
        ap (λ (x : ℕ). defined_by new (Gate s x)) (sym same) ∙ (gate-definition new is s there.place g there.at).0 ∙ ap Some (same-definition s g) in
        clauses-defined (definition_of s (circuit_of new s)) (λ d. kept (gate_clauses d)) (gate_at new s v) (definition_of s (circuit_of old s) g) defined
        ∙ sym (ap (λ (o : Option And). option_map_or (λ x. kept (gate_clauses (definition_of s (circuit_of old s) x))) o []) at)

    -- an axiom of a node that isn't touched is one still
    pub axiom-stays : (n : Node) (k : ℕ) (c : List Lit) → t n ≡ false → axiom_of old n k ≡ Some c → axiom_of new n k ≡ Some c
    axiom-stays Const k c e at = at
    axiom-stays (Input i) k c e at = at
    axiom-stays (Gate s v) k c e at = go (gate_at old s v) refl
      where
        go : (o : Option And) → gate_at old s v ≡ o → axiom_of new (Gate s v) k ≡ Some c
        go None f = absurd (none-some c (sym (ap (λ (o : Option And). slice_get (option_map_or (λ x. kept (gate_clauses (definition_of s (circuit_of old s) x))) o []) k) f) ∙ at))
        go (Some g) f = ap (λ (cs : List (List Lit)). slice_get cs k) (gate-axioms s v g e f) ∙ at
    axiom-stays (Xor j) k c e at =
        ap (λ (o : Option Lit). slice_get (xor_axioms j o (output_of new B j)) k) (output-same A j e)
        ∙ ap (λ (o : Option Lit). slice_get (xor_axioms j (output_of old A j) o) k) (output-same B j e)
        ∙ at

    -- the place of a node, and what stands there
    node-place : (net : AigPair) (n : Node) (i : ℕ) → position_of net n ≡ Some i → slice_get (nodes_of net) i ≡ Some n
    node-place net n i e = let r = at-place (λ m. same_node m n) (nodes_of net) i e in r.1 ∙ ap Some (exact-node r.0 n r.2)

    place-node : (n : Node) (i : ℕ) → slice_get (nodes_of new) i ≡ Some n → position_of new n ≡ Some i
    place-node n i e =
        ap (position_of new) (sym (get_or_from_slice_get (nodes_of new) i n Const e))
        ∙ position-node new is i (slice_get_within (nodes_of new) i n e)

    -- a node that isn't touched has a position still
    pub position-stays : (n : Node) → t n ≡ false → IsSome (position_of old n) → IsSome (position_of new n)
    position-stays n e there = go (position_of old n) refl
      where
        go : (o : Option ℕ) → position_of old n ≡ o → IsSome (position_of new n)
        go None f = let g : false ≡ true = sym (ap is_some f) ∙ there in cc
        go (Some i) f =
            let r = stays-at i n nodes-stay (node-place old n i f) (ap not e) in
            ap is_some (place-node n r.place r.at)

    -- two that aren't touched are in their order still
    pub earlier-stays : (n : Node) (l : Lit) → t n ≡ false → t l.node ≡ false → IsEarlier old n l → IsEarlier new n l
    earlier-stays n l e f less = go (position_of old l.node) (position_of old n) refl refl less
      where
        go : (o p : Option ℕ) → position_of old l.node ≡ o → position_of old n ≡ p → IsBefore o p → IsEarlier new n l
        go None p g h less = absurd less
        go (Some i) None g h less = absurd less
        go (Some i) (Some j) g h less =
            let r = stays-before i j l.node n nodes-stay (node-place old l.node i g) (node-place old n j h) less (ap not f) (ap not e) in
            rw (place-node l.node r.first r.at_first, place-node n r.second r.at_second) r.before

    -- a node that isn't touched has a variable still
    pub variable-stays : (n : Node) → t n ≡ false → IsSome (variable_of old n) → IsSome (variable_of new n)
    variable-stays n e there = go n refl
      where
        placed : ((j : ℕ) → same_node (Xor j) n ≡ false) → IsSome (variable_of new n)
        placed none =
            let has_place = is_some-place (λ m. same_node m n) (nodes_of old) ∙ has-position old n none (sym (is_some-variable old n) ∙ there) in
            placed-there new n (position-stays n e has_place)

        go : (m : Node) → n ≡ m → IsSome (variable_of new n)
        go Const f = placed (λ j. ap (same_node (Xor j)) f)
        go (Input k) f = placed (λ j. ap (same_node (Xor j)) f)
        go (Gate s v) f = placed (λ j. ap (same_node (Xor j)) f)
        go (Xor j) f =
            is_some-variable new n ∙ ap (has same_node (variables_of new)) f ∙ has-xor new j
            ∙ ap (λ (k : ℕ). list_any (λ i. i == j) (range_with_len 0 k)) stays.a.count
            ∙ sym (has-xor old j) ∙ sym (ap (has same_node (variables_of old)) f) ∙ sym (is_some-variable old n) ∙ there

    -- the outputs are as many
    pub count-stays : length new.a.outputs ≡ length old.a.outputs
    count-stays = stays.a.count
