-- A gate by its variable: its fanins have lower ones, and which clauses define it.
use Rattle.std.proofs.Common.{◌≡◌, ◌≢◌, ℕ, ◌+◌, ◌-◌, ◌<◌, ◌≤◌, ◌^◌, Bool, true, false, Option, Some, None, List, [], ◌∷◌, map, length, refl, sym, ap, ap₂, ◌∙◌, subst, arith, length-append}
use Rattle.std.specs.Prelude.{slice_get, nat_lt}
use Rattle.std.specs.Option.{option_map, option_map_or, unwrap_or}
use Rattle.std.specs.List.{slice_index_or}
use Rattle.std.proofs.lemmas.Bool.Decides.{nat_tests}
use Rattle.std.proofs.lemmas.List.{length-map}
use Rattle.std.proofs.lemmas.Option.{none-some, same_Some, slice_get-map, slice_get_within, slice_get-get_or, get_or_from_slice_get}
use Rattle.lits.specs.Clause.{IsClause}
use Rattle.lits.specs.Dimacs.{DimacsLiteral}
use Rattle.lits.specs.Same.{same_node, same_lit, opposite}
use Rattle.lits.specs.declared.node.Side.{Side}
use Rattle.lits.specs.declared.node.Side.TheVariants.{A, B}
use Rattle.lits.specs.declared.node.Node.{Node}
use Rattle.lits.specs.declared.node.Node.TheVariants.{Const}
use Rattle.lits.specs.declared.literal.Lit.{Lit}
use Rattle.lits.proofs.Facts.{exact-lit, exact-node, same-node_self}
use Rattle.netlist.specs.declared.gate.And.{And}
use Rattle.netlist.specs.declared.gate.Definition.{Definition}
use Rattle.netlist.specs.declared.gate.Fanins.{Fanins}
use Rattle.netlist.specs.Pair.{first_gate}
use Rattle.netlist.specs.Net.{AigPair, IsNet, fanins_at, circuit_of, definition_of, definitions, defined_by, fanins_of, gate_at, nodes_of, placed, position_of}
use Rattle.netlist.specs.Miter.{variables_of, variable_of, xors_of, positive, negative, axioms_of, gate_clauses, kept, cnf_number_of}
use Rattle.netlist.proofs.Facts.{at-place, few_gates_of, gate-definition, length-definitions, length-nodes, slice_get-left, slice_get-right, position-definition, variable_at}
use Rattle.unit_prop.proofs.Facts.{contrary}
use Rattle.flat_cones.specs.Walk.{lit_by, node_by, IsVariable, IsLower, IsGateOf}
use Rattle.flat_cones.proofs.VariableLemmas.{count-xors, variable-place}

-- ---- variables
-- there are few of them
pub variable-small : (net : AigPair) → IsNet net → (v : ℕ) → IsVariable net v → v < 2 ^ 31
variable-small net is v range =
    omega (
      arith,
      range.1,
      length-append (nodes_of net) (xors_of net),
      count-xors net,
      length-nodes net,
      few_gates_of net.a is.a,
      few_gates_of net.b is.b,
      is.a.count,
    )

-- the node of a variable stands at its place
pub variable-node_by : (net : AigPair) (v : ℕ) → IsVariable net v → slice_get (variables_of net) (v - 1) ≡ Some (node_by net v)
variable-node_by net v range = slice_get-get_or (variables_of net) (v - 1) Const (omega (arith, range.0, range.1))

-- the node that has a variable is that variable's
pub node_by-variable : (net : AigPair) (n : Node) (v : ℕ) → variable_of net n ≡ Some v → node_by net v ≡ n
node_by-variable net n v e = get_or_from_slice_get (variables_of net) (v - 1) n Const (variable_at net n v e)

-- what a literal's number says of it
pub number-lit : (net : AigPair) (l : Lit) (d : DimacsLiteral) → cnf_number_of net l ≡ Some d → (variable_of net l.node ≡ Some d.var) × (d.neg ≡ l.neg)
number-lit net l d e = go (variable_of net l.node) refl
  where
    go : (o : Option ℕ) → variable_of net l.node ≡ o → (variable_of net l.node ≡ Some d.var) × (d.neg ≡ l.neg)
    go None f =
        let none : None ≡ Some d = sym (ap (option_map (λ (v : ℕ). let x : DimacsLiteral = record { var = v; neg = l.neg } in x)) f) ∙ e in
        absurd (none-some d none)
    go (Some v) f =
        let x : DimacsLiteral = record { var = v; neg = l.neg } in
        let same : x ≡ d = same_Some x d (sym (ap (option_map (λ (v : ℕ). let y : DimacsLiteral = record { var = v; neg = l.neg } in y)) f) ∙ e) in
        (f ∙ ap (λ (y : DimacsLiteral). Some y.var) same, sym (ap (λ (y : DimacsLiteral). y.neg) same))

-- so the literal is that of its number
pub lit_by-number : (net : AigPair) (l : Lit) (d : DimacsLiteral) → cnf_number_of net l ≡ Some d → lit_by net d ≡ l
lit_by-number net l d e =
    let r = number-lit net l d e in
    ap₂ (λ (n : Node) (b : Bool). let x : Lit = record { node = n; neg = b } in x) (node_by-variable net l.node d.var r.0) r.1

-- a node with a position has the next variable
node_by-position : (net : AigPair) (n : Node) (p : ℕ) → position_of net n ≡ Some p → node_by net (p + 1) ≡ n
node_by-position net n p e =
    let r = at-place (λ m. same_node m n) (nodes_of net) p e in
    let place : p + 1 - 1 ≡ p = omega arith in
    ap (λ (k : ℕ). slice_index_or (variables_of net) k Const) place
    ∙ get_or_from_slice_get (variables_of net) p r.0 Const (slice_get-left (nodes_of net) (xors_of net) p r.3 ∙ r.1)
    ∙ exact-node r.0 n r.2

-- the nodes of two variables differ
pub nodes-apart : (net : AigPair) → IsNet net → (v w : ℕ) → IsVariable net v → IsVariable net w → v ≢ w → node_by net v ≢ node_by net w
nodes-apart net is v w there other apart same =
    apart (same_Some v w (sym (variable-place net is v there) ∙ ap (variable_of net) same ∙ variable-place net is w other))

-- a variable below another one
pub lower-variable : (net : AigPair) (v : ℕ) (d : DimacsLiteral) → IsVariable net v → IsLower v d → IsVariable net d.var
lower-variable net v d there lower = (lower.0, omega (arith, lower.1, there.1))

-- ---- gates
-- a literal whose node has a position, by its variable
record IsPlaced (net : AigPair) (l : Lit) (d : DimacsLiteral) (position : ℕ) : Type 0 where
  is : l ≡ lit_by net d
  lower : IsLower (position + 1) d

placed-lit : (net : AigPair) (l : Lit) (position p : ℕ) → position_of net l.node ≡ Some p → p < position
    → (d : DimacsLiteral) → d ≡ record { var = (placed net l).position + 1; neg = l.neg } → IsPlaced net l d position
placed-lit net l position p at below d e =
    let place : (placed net l).position ≡ p = ap (λ (o : Option ℕ). unwrap_or o 0) at in
    let var : d.var ≡ p + 1 = ap (λ (x : DimacsLiteral). x.var) e ∙ ap (λ (k : ℕ). k + 1) place in
    let neg : d.neg ≡ l.neg = ap (λ (x : DimacsLiteral). x.neg) e in
    record {
      is = sym (ap₂ (λ (n : Node) (b : Bool). let x : Lit = record { node = n; neg = b } in x)
          (ap (node_by net) var ∙ node_by-position net l.node p at) neg);
      lower = (omega (arith, var), omega (arith, var, below));
    }

module _ (net : AigPair) (is : IsNet net) where
  clauses : (s : Side) (o : Option And) (d : Definition) → option_map (definition_of s (circuit_of net s)) o ≡ Some d
      → option_map_or (λ g. kept (gate_clauses (definition_of s (circuit_of net s) g))) o [] ≡ kept (gate_clauses d)
  clauses s None d e = absurd (none-some d e)
  clauses s (Some g) d e =
      ap (λ (h : Definition). kept (gate_clauses h)) (same_Some (definition_of s (circuit_of net s) g) d e)

  module _ (v k : ℕ) (place : v ≡ 1 + length net.a.inputs + k + 1) (left right : DimacsLiteral) where
    -- gate j of a side, by its variable
    at-side : (s : Side) (j : ℕ) (g : And) → slice_get (circuit_of net s).gates j ≡ Some g → first_gate net s + j ≡ 1 + length net.a.inputs + k
        → slice_get (definitions net) k ≡ Some (definition_of s (circuit_of net s) g)
        → left ≡ record { var = (fanins_of net (definition_of s (circuit_of net s) g)).left.position + 1; neg = (fanins_of net (definition_of s (circuit_of net s) g)).left.neg }
        → right ≡ record { var = (fanins_of net (definition_of s (circuit_of net s) g)).right.position + 1; neg = (fanins_of net (definition_of s (circuit_of net s) g)).right.neg }
        → IsGateOf net v left right
    at-side s j g e begins there one two =
        let def : Definition = definition_of s (circuit_of net s) g in
        let d = gate-definition net is s j g e in
        let node : node_by net v ≡ def.node =
        ap (node_by net) place ∙ node_by-position net def.node (1 + length net.a.inputs + k) (position-definition net is k def there) in
        let l = placed-lit net def.left (first_gate net s + j) d.1.0 d.1.1 d.1.2 left one in
        let r = placed-lit net def.right (first_gate net s + j) d.2.0 d.2.1 d.2.2 right two in
        record {
          gate = def;
          node = sym node;
          left_is = l.is;
          right_is = r.is;
          left_lower = (l.lower.0, omega (arith, l.lower.1, begins, place));
          right_lower = (r.lower.0, omega (arith, r.lower.1, begins, place));
          defined = ap (defined_by net) node ∙ d.0;
          axioms = ap (axioms_of net) node ∙ clauses s (gate_at net s g.var) def d.0;
        }

    -- the gate of these fanins
    pub gate-of : (f : Fanins) → fanins_at net k ≡ Some f → left ≡ record { var = f.left.position + 1; neg = f.left.neg }
        → right ≡ record { var = f.right.position + 1; neg = f.right.neg } → IsGateOf net v left right
    gate-of f e one two = go (slice_get (definitions net) k) refl
      where
        first : List Definition
        first = map (definition_of A net.a) net.a.gates

        second : List Definition
        second = map (definition_of B net.b) net.b.gates

        found : (d : Definition) → slice_get (definitions net) k ≡ Some d → fanins_of net d ≡ f
        found d g = same_Some (fanins_of net d) f (sym (ap (option_map (fanins_of net)) g) ∙ e)

        by : (s : Side) (j : ℕ) (o : Option And) (d : Definition) → slice_get (circuit_of net s).gates j ≡ o
            → first_gate net s + j ≡ 1 + length net.a.inputs + k → option_map (definition_of s (circuit_of net s)) o ≡ Some d
            → slice_get (definitions net) k ≡ Some d → IsGateOf net v left right
        by s j None d h begins g there = absurd (none-some d g)
        by s j (Some a) d h begins g there =
            let same : definition_of s (circuit_of net s) a ≡ d = same_Some (definition_of s (circuit_of net s) a) d g in
            let fan : f ≡ fanins_of net (definition_of s (circuit_of net s) a) = sym (ap (fanins_of net) same ∙ found d there) in
            at-side s j a h begins (there ∙ ap Some (sym same))
            (one ∙ ap (λ (x : Fanins). let y : DimacsLiteral = record { var = x.left.position + 1; neg = x.left.neg } in y) fan)
            (two ∙ ap (λ (x : Fanins). let y : DimacsLiteral = record { var = x.right.position + 1; neg = x.right.neg } in y) fan)

        side : (d : Definition) → slice_get (definitions net) k ≡ Some d → (b : Bool) → nat_lt k (length net.a.gates) ≡ b → IsGateOf net v left right
        side d g true t =
            let l : k < length net.a.gates = grind (arith, nat_tests, t) in
            let inside : k < length first = omega (arith, length-map net.a.gates (definition_of A net.a)) in
            by A k (slice_get net.a.gates k) d refl refl
            (sym (slice_get-map (definition_of A net.a) net.a.gates k) ∙ sym (slice_get-left first second k inside) ∙ g) g
        side d g false t =
            let l : length net.a.gates ≤ k = grind (arith, nat_tests, t) in
            let at : length first + (k - length net.a.gates) ≡ k = omega (arith, length-map net.a.gates (definition_of A net.a)) in
            by B (k - length net.a.gates) (slice_get net.b.gates (k - length net.a.gates)) d refl (omega arith)
            (sym (slice_get-map (definition_of B net.b) net.b.gates (k - length net.a.gates))
            ∙ sym (slice_get-right first second (k - length net.a.gates)) ∙ ap (slice_get (definitions net)) at ∙ g) g

        go : (o : Option Definition) → slice_get (definitions net) k ≡ o → IsGateOf net v left right
        go None g =
            let none : None ≡ Some f = sym (ap (option_map (fanins_of net)) g) ∙ e in
            absurd (none-some f none)
        go (Some d) g = side d g (nat_lt k (length net.a.gates)) refl

-- ---- clauses of literals over nodes that differ
apart-lit : (x y : Lit) → x.node ≢ y.node → same_lit x y ≡ false
apart-lit x y apart = go (same_lit x y) refl
  where
    go : (b : Bool) → same_lit x y ≡ b → b ≡ false
    go true e = absurd (apart (ap (λ (l : Lit). l.node) (exact-lit x y e)))
    go false e = refl

turned : {X : Type 0} (x y : X) → x ≢ y → y ≢ x
turned x y apart e = apart (sym e)

pub clause-two : (x y : Lit) → x.node ≢ y.node → IsClause same_lit opposite (x ∷ y ∷ [])
clause-two x y apart = record {
  once = rw (apart-lit y x (turned x.node y.node apart)) refl;
  apart = rw (apart-lit y (opposite x) (turned x.node y.node apart)) refl;
}

pub clause-three : (x y z : Lit) → x.node ≢ y.node → x.node ≢ z.node → y.node ≢ z.node → IsClause same_lit opposite (x ∷ y ∷ z ∷ [])
clause-three x y z xy xz yz = record {
  once = rw (apart-lit y x (turned x.node y.node xy), apart-lit z x (turned x.node z.node xz), apart-lit z y (turned y.node z.node yz)) refl;
  apart = rw (
    apart-lit y (opposite x) (turned x.node y.node xy),
    apart-lit z (opposite x) (turned x.node z.node xz),
    apart-lit z (opposite y) (turned y.node z.node yz),
  ) refl;
}

-- nodes that aren't the same differ
pub nodes-differ : (n m : Node) → same_node n m ≡ false → n ≢ m
nodes-differ n m apart e = contrary (same_node n m) (subst (λ (x : Node). same_node n x ≡ true) e (same-node_self n)) apart

-- so two literals by their variables make a clause where their nodes differ
pub clause-by : (net : AigPair) (x y : DimacsLiteral) (l m : Lit) → lit_by net x ≡ l → lit_by net y ≡ m → l.node ≢ m.node
    → IsClause same_lit opposite (lit_by net x ∷ lit_by net y ∷ [])
clause-by net x y l m ex ey apart =
    clause-two (lit_by net x) (lit_by net y)
    (λ e. apart (sym (ap (λ (k : Lit). k.node) ex) ∙ (e ∙ ap (λ (k : Lit). k.node) ey)))

kept-two : (x y : Lit) (cs : List (List Lit)) → x.node ≢ y.node → kept ((x ∷ y ∷ []) ∷ cs) ≡ (x ∷ y ∷ []) ∷ kept cs
kept-two x y cs apart = rw (apart-lit y (opposite x) (turned x.node y.node apart), apart-lit x y apart) refl

kept-three : (x y z : Lit) (cs : List (List Lit)) → x.node ≢ y.node → x.node ≢ z.node → y.node ≢ z.node
    → kept ((x ∷ y ∷ z ∷ []) ∷ cs) ≡ (x ∷ y ∷ z ∷ []) ∷ kept cs
kept-three x y z cs xy xz yz =
    rw (
      apart-lit y (opposite x) (turned x.node y.node xy),
      apart-lit z (opposite x) (turned x.node z.node xz),
      apart-lit z (opposite y) (turned y.node z.node yz),
      apart-lit y z yz,
      apart-lit x y xy,
      apart-lit x z xz,
    ) refl

-- the clauses of a gate whose fanins are over two nodes all stay
pub kept-gate : (d : Definition) → d.node ≢ d.left.node → d.node ≢ d.right.node → d.left.node ≢ d.right.node → kept (gate_clauses d) ≡ gate_clauses d
kept-gate d left right apart =
    kept-two (negative d.node) d.left ((negative d.node ∷ d.right ∷ []) ∷ (positive d.node ∷ opposite d.left ∷ opposite d.right ∷ []) ∷ []) left
    ∙ ap (λ (cs : List (List Lit)). (negative d.node ∷ d.left ∷ []) ∷ cs)
    (kept-two (negative d.node) d.right ((positive d.node ∷ opposite d.left ∷ opposite d.right ∷ []) ∷ []) right
    ∙ ap (λ (cs : List (List Lit)). (negative d.node ∷ d.right ∷ []) ∷ cs)
    (kept-three (positive d.node) (opposite d.left) (opposite d.right) [] left right apart))

-- what is known of a gate's clauses by variables
module _ (net : AigPair) (is : IsNet net) (v : ℕ) (there : IsVariable net v) (left right : DimacsLiteral) (g : IsGateOf net v left right) (apart : left.var ≢ right.var) where
  own : DimacsLiteral
  own = record { var = v; neg = false }

  pub left-there : IsVariable net left.var
  left-there = lower-variable net v left there g.left_lower

  pub right-there : IsVariable net right.var
  right-there = lower-variable net v right there g.right_lower

  pub own-left : node_by net v ≢ node_by net left.var
  own-left = nodes-apart net is v left.var there left-there (λ e. omega (arith, e, g.left_lower.1))

  pub own-right : node_by net v ≢ node_by net right.var
  own-right = nodes-apart net is v right.var there right-there (λ e. omega (arith, e, g.right_lower.1))

  pub left-right : node_by net left.var ≢ node_by net right.var
  left-right = nodes-apart net is left.var right.var left-there right-there apart

  -- the clauses of the gate, over the literals by their variables
  pub gate-axioms : axioms_of net (node_by net v)
      ≡ (negative (node_by net v) ∷ lit_by net left ∷ []) ∷ (negative (node_by net v) ∷ lit_by net right ∷ [])
      ∷ (positive (node_by net v) ∷ opposite (lit_by net left) ∷ opposite (lit_by net right) ∷ []) ∷ []
  gate-axioms =
      g.axioms ∙ ap (λ (d : Definition). kept (gate_clauses d)) same
      ∙ kept-gate (record { node = node_by net v; left = lit_by net left; right = lit_by net right }) own-left own-right left-right
    where
      same : g.gate ≡ record { node = node_by net v; left = lit_by net left; right = lit_by net right }
      same =
          ap (λ (n : Node). let x : Definition = record { node = n; left = g.gate.left; right = g.gate.right } in x) g.node
          ∙ ap (λ (l : Lit). let x : Definition = record { node = node_by net v; left = l; right = g.gate.right } in x) g.left_is
          ∙ ap (λ (r : Lit). let x : Definition = record { node = node_by net v; left = lit_by net left; right = r } in x) g.right_is
