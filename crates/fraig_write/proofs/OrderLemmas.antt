-- The reduced circuit is a circuit in AIGER's order: what a gate that stays rests on has lower new numbers.
use Rattle.std.proofs.Common.{◌≡◌, ℕ, suc, ◌+◌, ◌*◌, ◌/◌, ◌<◌, ◌≤◌, min, Bool, true, false, not, ◌&&◌, Option, Some, None, List, [], ◌∷◌, ◌++◌, length, map, refl, sym, ap, ◌∙◌, subst, arith, if◌then◌else◌}
use Rattle.std.specs.Prelude.{◌==◌, max, nat_le, slice_get, filter, is_some}
use Rattle.std.specs.Option.{option_map, unwrap_or}
use Rattle.std.specs.List.{list_all, range_with_len, AllByRecursion}
use Rattle.std.proofs.lemmas.Bool.{and_parts, or_parts}
use Rattle.std.proofs.lemmas.List.{length-map}
use Rattle.std.proofs.lemmas.List.Folds.{list_any-append}
use Rattle.std.proofs.lemmas.Option.{none-some, same_Some, slice_get-map}
use Rattle.lits.specs.Clause.{has, no_repeat}
use Rattle.lits.specs.Same.{same_node}
use Rattle.lits.specs.declared.node.Side.TheVariants.{A, B}
use Rattle.lits.specs.declared.node.Node.{Node}
use Rattle.lits.specs.declared.node.Node.TheVariants.{Const, Input, Gate, Xor}
use Rattle.lits.specs.declared.literal.Lit.{Lit}
use Rattle.lits.proofs.Facts.{all-parts, all-slice_get}
use Rattle.symbol_names.specs.declared.names.Names.{Names}
use Rattle.symbol_names.specs.Names.{AreNames}
use Rattle.netlist.specs.declared.gate.And.{And}
use Rattle.netlist.specs.Pair.{first_gate}
use Rattle.netlist.specs.Place.{place_of}
use Rattle.netlist.specs.Circuit.{Aig, gate_vars, most, var_of, IsCircuit}
use Rattle.netlist.specs.VariableTable.{AreVariables}
use Rattle.netlist.specs.Net.{AigPair, IsNet, lit_named, position_of}
use Rattle.netlist.proofs.Facts.{at-place, equal-number, few_gates_of, length-range, position-gate, variables}
use Rattle.lemma_book.specs.Entry.{Entries}
use Rattle.lemma_book.specs.Root.{root_of}
use Rattle.lemma_book.specs.Cone.{AreIn}
use Rattle.lemma_book.specs.Book.{IsLegal}
use Rattle.circuit_text.specs.BinaryText.{AreInSequence, IsInSequence}
use Rattle.aiger_binary.specs.Binary.{AreBelow, AreStacked}
use Rattle.aiger_binary.proofs.Facts.{IsCircuit-stacked}
use Rattle.fraig_write.specs.Reduced.{is_own_root, new_variable, reduced_gate, reduced_to, renumbered, root_nodes, root_renumbered, AreStaying, IsReducedCircuit}
use Rattle.fraig_write.specs.Renumbering.{HasNumber, Numbering, RootHasNumber}
use Rattle.fraig_write.proofs.FilterLemmas.{all-kept, filter-order, filter-vars, no_repeat-filter, place-own}
use Rattle.fraig_write.proofs.NodesOfA.{fanins-before, root-before, IsBelow}
use Rattle.fraig_write.proofs.ReachedNodes.{ends-number, next-reached, reached-in, reached-number, stays-reached}
use Rattle.fraig_write.proofs.MarkLemmas.{vars-differ}

-- ---- lists

length-filter : {X : Type 0} (keep : X → Bool) (xs : List X) → length (filter keep xs) ≤ length xs
length-filter keep [] = omega arith
length-filter keep (x ∷ xs) = go (keep x) refl (length-filter keep xs)
  where
    go : (b : Bool) → keep x ≡ b → length (filter keep xs) ≤ length xs → length (filter keep (x ∷ xs)) ≤ length (x ∷ xs)
    go true e rest = rw e (omega (arith, rest))
    go false e rest = rw e (omega (arith, rest))

list_all-filter : (test : ℕ → Bool) (keep : And → Bool) (gs : List And) → list_all test (gate_vars gs) ≡ true
    → list_all test (gate_vars (filter keep gs)) ≡ true
list_all-filter test keep [] e = refl
list_all-filter test keep (g ∷ gs) e = go (keep g) refl (list_all-filter test keep gs parts.1)
  where
    parts : (test g.var ≡ true) × (list_all test (gate_vars gs) ≡ true)
    parts = and_parts (test g.var) (list_all test (gate_vars gs)) e

    go : (b : Bool) → keep g ≡ b → list_all test (gate_vars (filter keep gs)) ≡ true → list_all test (gate_vars (filter keep (g ∷ gs))) ≡ true
    go true f rest = rw (f, parts.0, rest) refl
    go false f rest = rw f rest

list_all-behind : (test : ℕ → Bool) (xs ys : List ℕ) → list_all test (xs ++ ys) ≡ true → list_all test ys ≡ true
list_all-behind test [] ys e = e
list_all-behind test (x ∷ xs) ys e = list_all-behind test xs ys (and_parts (test x) (list_all test (xs ++ ys)) e).1

-- the element at a place of a mapped list
from-map : {X Y : Type 0} (f : X → Y) (xs : List X) (k : ℕ) (y : Y) → slice_get (map f xs) k ≡ Some y
    → (x : X) × (slice_get xs k ≡ Some x) × (f x ≡ y)
from-map {X} {Y} f xs k y e = go (slice_get xs k) refl (sym (slice_get-map f xs k) ∙ e)
  where
    go : (o : Option X) → slice_get xs k ≡ o → option_map f o ≡ Some y → (x : X) × (slice_get xs k ≡ Some x) × (f x ≡ y)
    go None g h = absurd (none-some y h)
    go (Some x) g h = (x, g, same_Some (f x) y h)

-- ---- literals and gates in order

abbrev bit : Bool → ℕ
bit b = if b then 1 else 0

bit-least : (b : Bool) → bit b ≤ 1
bit-least true = omega arith
bit-least false = omega arith

half : (x b : ℕ) → b ≤ 1 → (2 * x + b) / 2 ≡ x
half x b le = omega (arith, le)

greater-below : (l r bound : ℕ) → l < bound → r < bound → max l r < bound
greater-below l r bound p q = omega (arith, p, q)

lesser-first : (l r : ℕ) → min l r ≤ max l r
lesser-first l r = omega arith

-- gates that define the variables from v on, from the fact of each
in-sequence : (gs : List And) (v : ℕ)
    → ((k : ℕ) (g : And) → slice_get gs k ≡ Some g → (g.var ≡ v + k) × (g.left < 2 * (v + k)) × (g.right ≤ g.left))
    → AreInSequence v gs
in-sequence [] v each = tt
in-sequence (g ∷ gs) v each =
    let r = each 0 g refl in (
      omega (arith, r.0),
      omega (arith, r.1),
      r.2,
      in-sequence gs (v + 1)
          (λ k h e. let s = each (suc k) h e in (omega (arith, s.0), omega (arith, s.1), s.2)),
    )

stacked : (gs : List And) (v : ℕ) → AreInSequence v gs → AreStacked v gs
stacked [] v seq = tt
stacked (g ∷ gs) v seq = (seq.0, omega (arith, seq.1), omega (arith, seq.1, seq.2), stacked gs (v + 1) seq.3)

-- ---- the gates that stay

module _ (net : AigPair) (is : IsNet net) (staying : List And) (keep : And → Bool) (gates : staying ≡ filter keep net.a.gates) where
  -- their variables differ
  pub staying-differ : no_repeat ◌==◌ (gate_vars staying) ≡ true
  staying-differ =
      subst (λ (gs : List And). no_repeat ◌==◌ (gate_vars gs) ≡ true) (sym gates) (no_repeat-filter keep net.a.gates (vars-differ net is))

  -- there are few of them
  pub staying-few : length net.a.inputs + length staying ≤ most
  staying-few = omega (arith, few_gates_of net.a is.a, length-filter keep net.a.gates, ap length gates)

  -- none has the constant's variable
  pub staying-constant : has ◌==◌ (gate_vars staying) 0 ≡ false
  staying-constant = ap (λ (gs : List And). has ◌==◌ (gate_vars gs) 0) gates ∙ filter-vars keep net.a.gates 0 zero-apart
    where
      all : AreVariables net.a.inputs net.a.gates
      all = variables net.a is.a

      not-false : (b : Bool) → not b ≡ true → b ≡ false
      not-false true e = cc
      not-false false e = refl

      zero-new : has ◌==◌ (net.a.inputs ++ gate_vars net.a.gates) 0 ≡ false
      zero-new =
          not-false (has ◌==◌ (net.a.inputs ++ gate_vars net.a.gates) 0)
          (and_parts (not (has ◌==◌ (net.a.inputs ++ gate_vars net.a.gates) 0)) (no_repeat ◌==◌ (net.a.inputs ++ gate_vars net.a.gates)) all.distinct).0

      zero-apart : has ◌==◌ (gate_vars net.a.gates) 0 ≡ false
      zero-apart =
          (or_parts (has ◌==◌ net.a.inputs 0) (has ◌==◌ (gate_vars net.a.gates) 0)
          (sym (list_any-append (λ y. y == 0) net.a.inputs (gate_vars net.a.gates)) ∙ zero-new)).1

  -- so a table may find them
  pub staying-variables : AreVariables [] staying
  staying-variables = record { distinct = distinct; range = range }
    where
      all : AreVariables net.a.inputs net.a.gates
      all = variables net.a is.a

      distinct : no_repeat ◌==◌ (0 ∷ ([] ++ gate_vars staying)) ≡ true
      distinct = rw (staying-constant, staying-differ) refl

      range : list_all (λ v. nat_le v most) (0 ∷ ([] ++ gate_vars staying)) ≡ true
      range =
          subst (λ (gs : List And). list_all (λ v. nat_le v most) (gate_vars gs) ≡ true) (sym gates)
          (list_all-filter (λ v. nat_le v most) keep net.a.gates
          (list_all-behind (λ v. nat_le v most) (0 ∷ net.a.inputs) (gate_vars net.a.gates) all.range))

module _ (net : AigPair) (is : IsNet net) (book : Entries) (legal : IsLegal net book) (staying : List And) (s : AreStaying net.a book.entries staying) where
  abbrev inputs : ℕ
  inputs = length net.a.inputs

  abbrev numbering : Numbering
  numbering = record { inputs = length net.a.inputs; staying = staying }

  abbrev keep : And → Bool
  keep g = is_own_root book.entries g && s.reached (Gate A g.var)

  -- a gate that stays is one of A's, and is reached
  record IsStaying (g : And) : Type 0 where
    place : ℕ
    at : slice_get net.a.gates place ≡ Some g
    there : s.reached (Gate A g.var) ≡ true

  each-staying : AllByRecursion IsStaying staying
  each-staying =
      subst (λ (gs : List And). AllByRecursion IsStaying gs) (sym s.gates)
      (all-kept IsStaying keep net.a.gates
      (λ k g at h. record { place = k; at = at; there = sym (stays-reached net is book legal s.reached s.are_reached g) ∙ h }))

  pub staying-at : (k : ℕ) (g : And) → slice_get staying k ≡ Some g → (j : ℕ) × (slice_get net.a.gates j ≡ Some g)
  staying-at k g e = let one = all-slice_get IsStaying staying k g each-staying e in (one.place, one.at)

  -- the roots of outputs and constraints are reached
  roots-reached : (xs : List ℕ) → AreIn s.reached (root_nodes book.entries (map (lit_named A net.a) xs))
      → AllByRecursion (λ x. s.reached (root_of book.entries (lit_named A net.a x)).node ≡ true) xs
  roots-reached [] all = tt
  roots-reached (x ∷ xs) all = (all.0, roots-reached xs all.1)

  pub ends-reached : AllByRecursion (λ x. s.reached (root_of book.entries (lit_named A net.a x)).node ≡ true) net.a.outputs
      × AllByRecursion (λ x. s.reached (root_of book.entries (lit_named A net.a x)).node ≡ true) net.a.constraints
  ends-reached =
      all-parts (λ x. s.reached (root_of book.entries (lit_named A net.a x)).node ≡ true) net.a.outputs net.a.constraints
      (roots-reached (net.a.outputs ++ net.a.constraints) s.are_reached.closed.starts)

  -- the place of gate k
  place-staying : (k : ℕ) (g : And) → slice_get staying k ≡ Some g → place_of (λ h. h.var == g.var) staying ≡ Some k
  place-staying k g e = place-own staying k g (staying-differ net is staying keep s.gates) e

  -- a new variable is within the circuit
  pub number-within : (n : Node) → HasNumber numbering n → new_variable inputs staying n < inputs + 1 + length staying
  number-within Const h = omega arith
  number-within (Input k) h = omega (arith, h)
  number-within (Xor j) h = absurd h
  number-within (Gate side v) h = go (place_of (λ g. g.var == v) staying) refl h
    where
      go : (o : Option ℕ) → place_of (λ g. g.var == v) staying ≡ o → is_some o ≡ true → inputs + 1 + unwrap_or o 0 < inputs + 1 + length staying
      go None e some = cc
      go (Some k) e some = let within = (at-place (λ g. g.var == v) staying k e).3 in omega (arith, within)

  literal-within : (l : Lit) → HasNumber numbering l.node → var_of (renumbered inputs staying l) < inputs + length staying + 1
  literal-within l h =
      let b = if same_node l.node Const then not l.neg else l.neg in
      let same = half (new_variable inputs staying l.node) (bit b) (bit-least b) in
      omega (arith, same, number-within l.node h)

  -- what is reached and stands before gate k has a lower number
  number-before : (k : ℕ) (g : And) → slice_get staying k ≡ Some g → (j : ℕ) → slice_get net.a.gates j ≡ Some g
      → (l : Lit) → s.reached l.node ≡ true → IsBelow net (first_gate net A + j) l → new_variable inputs staying l.node < inputs + 1 + k
  number-before k g at j from l there below = go l.node there below.1
    where
      has_number : (n : Node) → s.reached n ≡ true → HasNumber numbering n
      has_number n h = reached-number net is book legal s.reached s.are_reached numbering refl s.gates n h

      go : (n : Node) → s.reached n ≡ true → position_of net n ≡ Some below.0 → new_variable inputs staying n < inputs + 1 + k
      go Const h e = omega arith
      go (Input i) h e = let lt : i < inputs = has_number (Input i) h in omega (arith, lt)
      go (Xor i) h e = absurd (has_number (Xor i) h)
      go (Gate B v) h e = let f : false ≡ true = reached-in net is book legal s.reached s.are_reached (Gate B v) h in cc
      go (Gate A v) h e = old (place_of (λ g. g.var == v) net.a.gates) refl
        where
          new : (i : ℕ) → place_of (λ g. g.var == v) net.a.gates ≡ Some i → i < j
              → (o : Option ℕ) → place_of (λ g. g.var == v) staying ≡ o → is_some o ≡ true → inputs + 1 + unwrap_or o 0 < inputs + 1 + k
          new i f less None p some = cc
          new i f less (Some m) p some =
              let order = filter-order (λ g. g.var == v) (λ h. h.var == g.var) keep net.a.gates i j f
              (place-own net.a.gates j g (vars-differ net is) from) less passes m k
              (ap (place_of (λ g. g.var == v)) (sym s.gates) ∙ p)
              (ap (place_of (λ h. h.var == g.var)) (sym s.gates) ∙ place-staying k g at) in
              omega (arith, order)
            where
              passes : (x : And) → (x.var == v) ≡ true → keep x ≡ true
              passes x q =
                  stays-reached net is book legal s.reached s.are_reached x
                  ∙ ap (λ (y : ℕ). s.reached (Gate A y)) (equal-number x.var v q) ∙ h

          old : (o : Option ℕ) → place_of (λ g. g.var == v) net.a.gates ≡ o → new_variable inputs staying (Gate A v) < inputs + 1 + k
          old None f =
              let none : None ≡ Some below.0 = sym (ap (option_map (λ i. first_gate net A + i)) f) ∙ position-gate net A v ∙ e in
              absurd (none-some below.0 none)
          old (Some i) f =
              let at_i : Some (first_gate net A + i) ≡ Some below.0 = sym (ap (option_map (λ i. first_gate net A + i)) f) ∙ position-gate net A v ∙ e in
              let same : first_gate net A + i ≡ below.0 = same_Some (first_gate net A + i) below.0 at_i in
              new i f (omega (arith, same, below.2)) (place_of (λ g. g.var == v) staying) refl (has_number (Gate A v) h)

  -- the roots of the fanins of gate k are reached, and have lower numbers than the gate
  pub fanins-lower : (k : ℕ) (g : And) → slice_get staying k ≡ Some g
      → AllByRecursion (λ l. (s.reached (root_of book.entries l).node ≡ true) × (new_variable inputs staying (root_of book.entries l).node < inputs + 1 + k))
      (lit_named A net.a g.left ∷ lit_named A net.a g.right ∷ [])
  fanins-lower k g at =
      let one = all-slice_get IsStaying staying k g each-staying at in
      let next = next-reached net is book legal s.reached s.are_reached numbering refl s.gates one.place g one.at one.there in
      let before = fanins-before net is one.place g one.at in (
        (
          next.0,
          number-before k g at one.place one.at (root_of book.entries (lit_named A net.a g.left)) next.0
              (root-before net book legal (first_gate net A + one.place) (lit_named A net.a g.left) before.0),
        ),
        (
          (
            next.1.0,
            number-before k g at one.place one.at (root_of book.entries (lit_named A net.a g.right)) next.1.0
                (root-before net book legal (first_gate net A + one.place) (lit_named A net.a g.right) before.1.0),
          ),
          tt,
        ),
      )

  -- its own number
  pub own-number : (k : ℕ) (g : And) → slice_get staying k ≡ Some g → new_variable inputs staying (Gate A g.var) ≡ inputs + 1 + k
  own-number k g at = ap (λ (o : Option ℕ). inputs + 1 + unwrap_or o 0) (place-staying k g at)

  abbrev reduced : And → And
  reduced = reduced_gate net.a book.entries staying

  lower : (l : Lit) (k : ℕ) → new_variable inputs staying l.node < inputs + 1 + k → renumbered inputs staying l < 2 * (inputs + 1 + k)
  lower l k less =
      let b = if same_node l.node Const then not l.neg else l.neg in
      omega (arith, less, bit-least b)

  gates-in-sequence : AreInSequence (inputs + 1) (map reduced staying)
  gates-in-sequence = in-sequence (map reduced staying) (inputs + 1) each
    where
      each : (k : ℕ) (h : And) → slice_get (map reduced staying) k ≡ Some h
          → (h.var ≡ inputs + 1 + k) × (h.left < 2 * (inputs + 1 + k)) × (h.right ≤ h.left)
      each k h e =
          let r = from-map reduced staying k h e in
          let g = r.0 in
          let fanins = fanins-lower k g r.1 in
          let left = root_renumbered net.a book.entries staying g.left in
          let right = root_renumbered net.a book.entries staying g.right in
          subst (λ (x : And). (x.var ≡ inputs + 1 + k) × (x.left < 2 * (inputs + 1 + k)) × (x.right ≤ x.left)) r.2 (
            own-number k g r.1,
            greater-below left right (2 * (inputs + 1 + k)) (lower (root_of book.entries (lit_named A net.a g.left)) k fanins.0.1)
                (lower (root_of book.entries (lit_named A net.a g.right)) k fanins.1.0.1),
            lesser-first left right,
          )

  -- it is in AIGER's order
  pub reduced-in-sequence : IsInSequence (reduced_to net.a book.entries staying)
  reduced-in-sequence = record {
    inputs = ap (range_with_len 1) (sym (length-range inputs 1));
    gates = subst (λ (n : ℕ). AreInSequence (n + 1) (map reduced staying)) (sym (length-range inputs 1)) gates-in-sequence;
  }

  literals-below : (xs : List ℕ) → AllByRecursion (RootHasNumber net.a book.entries numbering) xs
      → AreBelow (inputs + length staying + 1) (map (root_renumbered net.a book.entries staying) xs)
  literals-below [] all = tt
  literals-below (x ∷ xs) all = (literal-within (root_of book.entries (lit_named A net.a x)) all.0, literals-below xs all.1)

  -- and it is a circuit
  pub reduced-circuit : IsCircuit (reduced_to net.a book.entries staying)
  reduced-circuit =
      let ends = ends-number net is book legal s.reached s.are_reached numbering refl s.gates in
      let literal = root_renumbered net.a book.entries staying in
      let few = staying-few net is staying keep s.gates in
      let outputs = length-map net.a.outputs literal in
      let constraints = length-map net.a.constraints literal in
      IsCircuit-stacked inputs (inputs + length staying) (map reduced staying) (map literal net.a.outputs) (map literal net.a.constraints) net.a.names
      (omega (arith, length-map staying reduced)) few (stacked (map reduced staying) (inputs + 1) gates-in-sequence)
      (literals-below net.a.outputs ends.0) (omega (arith, outputs, is.a.count))
      (literals-below net.a.constraints ends.1) (omega (arith, constraints, is.a.constraint_count))
      (subst (λ (n : ℕ). AreNames inputs n net.a.names) (sym outputs) is.a.names)

-- so it is with every circuit that is A reduced
pub is-in-sequence : (net : AigPair) → IsNet net → (book : Entries) → IsLegal net book → (c : Aig) → IsReducedCircuit net.a book.entries c → IsInSequence c
is-in-sequence net is book legal c r = subst IsInSequence (sym r.circuit) (reduced-in-sequence net is book legal r.staying r.are_staying)

-- its parts make it
pub made : (a : Aig) (book : Entries) (staying : List And) (inputs : List ℕ) (gates : List And) (outputs constraints : List ℕ) (names : Names)
    → inputs ≡ range_with_len 1 (length a.inputs) → gates ≡ map (reduced_gate a book.entries staying) staying
    → outputs ≡ map (root_renumbered a book.entries staying) a.outputs → constraints ≡ map (root_renumbered a book.entries staying) a.constraints
    → names ≡ a.names
    → ◌≡◌ {A = Aig} (record { inputs = inputs; gates = gates; outputs = outputs; constraints = constraints; names = names }) (reduced_to a book.entries staying)
made a book staying inputs gates outputs constraints names p q r s t = rw (p, q, r, s, t) refl
