-- Over which nodes the clauses are that define a node: the node itself and its fanins or outputs. All of them have CNF
-- variables if the node has one.
use Rattle.std.proofs.Common.{◌≡◌, ℕ, ◌<◌, Bool, true, false, not, ◌||◌, Option, Some, None, List, [], ◌∷◌, ◌++◌, map, flat_map, length, refl, sym, ap, ◌∙◌, subst, arith}
use Rattle.std.specs.Prelude.{◌==◌, slice_get, slice_index, ⊤}
use Rattle.std.specs.Option.{option_map, option_map_or}
use Rattle.std.specs.List.{AllByRecursion}
use Rattle.std.proofs.lemmas.Bool.{or_left, or_right}
use Rattle.std.proofs.lemmas.List.Folds.{list_any-append}
use Rattle.std.proofs.lemmas.Option.{none-some, same_Some, slice_get_within}
use Rattle.std.proofs.Math.Bool.{or_assoc}
use Rattle.lits.specs.Clause.{has, firsts, has_pair}
use Rattle.lits.specs.declared.node.Side.{Side}
use Rattle.lits.specs.declared.node.Side.TheVariants.{A, B}
use Rattle.lits.specs.declared.node.Node.{Node}
use Rattle.lits.specs.declared.node.Node.TheVariants.{Const, Input, Gate, Xor}
use Rattle.lits.specs.declared.literal.Lit.{Lit}
use Rattle.netlist.specs.declared.gate.And.{And}
use Rattle.netlist.specs.Circuit.{var_of, gate_vars, variables_in, Aig}
use Rattle.netlist.specs.Net.{AigPair, IsNet, bounds_of, circuit_of, node_of, lit_named, output_of, definition_of, gate_at, nodes_of}
use Rattle.lits.specs.Same.{same_node, same_lit, opposite}
use Rattle.lits.proofs.Facts.{exact-node, same-node_self, all-append, all-parts, all-filter, all-map}
use Rattle.netlist.specs.Miter.{positive, axioms_of, xor_axioms, gate_clauses, xor_clauses, kept, xors_of, variables_of, defining_clauses, units_of, clauses_of}
use Rattle.netlist.proofs.SameNodes.{equal-number, found-one, no-facts}
use Rattle.netlist.proofs.RunValues.{IsAmong, all-over}
use Rattle.netlist.proofs.NodeValues.{is_circuit}
use Rattle.netlist.proofs.NodesThere.{has-variable, length-outputs, has-named, output-there}
use Rattle.netlist.proofs.ConeValues.{HasFanins}
use Rattle.netlist.proofs.ConeModels.{HasOutputs}
use Rattle.netlist.proofs.BoundLemmas.{bounds-variables, over-units}

-- each literal of the clauses is over the set
abbrev pub AreOver : (Node → Bool) → List (List Lit) → Type 0
AreOver p clauses = AllByRecursion (λ c. AllByRecursion (λ l. p l.node ≡ true) c) clauses

all-firsts : {X : Type 0} (P : X → Type 0) (eq : X → X → Bool) (xs : List X) → AllByRecursion P xs → AllByRecursion P (firsts eq xs)
all-firsts P eq [] all = tt
all-firsts P eq (x ∷ xs) all = (all.0, all-filter P (λ y. not (eq x y)) (firsts eq xs) (all-firsts P eq xs all.1))

-- what holds of each element of a list holds of all of them
pub all-members : (P : Node → Type 0) (xs : List Node) → ((n : Node) → has same_node xs n ≡ true → P n) → AllByRecursion P xs
all-members P [] each = tt
all-members P (x ∷ xs) each = (
  each x (or_left (same_node x x) (has same_node xs x) (same-node_self x)),
  all-members P xs (λ n h. each n (or_right (same_node x n) (has same_node xs n) h)),
)

pub all-flat_map : {X Y : Type 0} (P : Y → Type 0) (f : X → List Y) (xs : List X) → AllByRecursion (λ x. AllByRecursion P (f x)) xs
    → AllByRecursion P (flat_map f xs)
all-flat_map P f [] all = tt
all-flat_map P f (x ∷ xs) all = all-append P (f x) (flat_map f xs) all.0 (all-flat_map P f xs all.1)

pub flat_map-member : {Y : Type 0} (P : Y → Type 0) (f : Node → List Y) (xs : List Node) → AllByRecursion P (flat_map f xs)
    → (n : Node) → has same_node xs n ≡ true → AllByRecursion P (f n)
flat_map-member P f [] all n h = cc
flat_map-member P f (x ∷ xs) all n h = go (same_node x n) refl (flat_map-member P f xs)
  where
    parts : AllByRecursion P (f x) × AllByRecursion P (flat_map f xs)
    parts = all-parts P (f x) (flat_map f xs) all

    go : (b : Bool) → same_node x n ≡ b
        → (AllByRecursion P (flat_map f xs) → (m : Node) → has same_node xs m ≡ true → AllByRecursion P (f m)) → AllByRecursion P (f n)
    go true e rest = subst (λ (m : Node). AllByRecursion P (f m)) (exact-node x n e) parts.0
    go false e rest = rest parts.1 n (ap (λ (b : Bool). b || has same_node xs n) (sym e) ∙ h)

module _ (p : Node → Bool) where
  pub over-kept : (cs : List (List Lit)) → AreOver p cs → AreOver p (kept cs)
  over-kept [] over = tt
  over-kept (c ∷ cs) over = go (has_pair same_lit opposite c) refl (over-kept cs over.1)
    where
      go : (b : Bool) → has_pair same_lit opposite c ≡ b → AreOver p (kept cs) → AreOver p (kept (c ∷ cs))
      go true e rest = rw e rest
      go false e rest = rw e (all-firsts (λ l. p l.node ≡ true) same_lit c over.0, rest)

  -- the clauses that define a node of the set are over the set
  pub over-axioms : (net : AigPair) → HasFanins net p → HasOutputs net p → (n : Node) → p n ≡ true → AreOver p (axioms_of net n)
  over-axioms net fanins outputs Const q = ((q, tt), tt)
  over-axioms net fanins outputs (Input k) q = tt
  over-axioms net fanins outputs (Gate s v) q = go (gate_at net s v) refl
    where
      go : (o : Option And) → gate_at net s v ≡ o
          → AreOver p (option_map_or (λ g. kept (gate_clauses (definition_of s (circuit_of net s) g))) o [])
      go None e = tt
      go (Some g) e =
          let left = fanins.left s v g e q in
          let right = fanins.right s v g e q in
          let here : p (Gate s g.var) ≡ true = subst (λ (x : ℕ). p (Gate s x) ≡ true) (sym same) q in
          over-kept (gate_clauses (definition_of s (circuit_of net s) g))
          ((here, (left, tt)), ((here, (right, tt)), ((here, (left, (right, tt))), tt)))
        where
          same : g.var ≡ v
          same = equal-number g.var v (found-one (λ h. h.var == v) (λ h. ⊤) (circuit_of net s).gates g (no-facts (circuit_of net s).gates) e).1
  over-axioms net fanins outputs (Xor j) q = go (output_of net A j) (output_of net B j) refl refl
    where
      go : (o r : Option Lit) → output_of net A j ≡ o → output_of net B j ≡ r → AreOver p (xor_axioms j o r)
      go (Some a) (Some b) e f =
          let left = outputs.output A j a e q in
          let right = outputs.output B j b f q in
          over-kept (xor_clauses (Xor j) a b)
          ((q, (left, (right, tt))), ((q, (left, (right, tt))), ((q, (left, (right, tt))), ((q, (left, (right, tt))), tt))))
      go None r e f = tt
      go (Some a) None e f = tt

module _ (net : AigPair) (is : IsNet net) where
  -- the fanins of a gate have positions
  fanins_there : (s : Side) (v : ℕ) (g : And) → gate_at net s v ≡ Some g
      → (has same_node (nodes_of net) (node_of s (circuit_of net s) (var_of g.left)) ≡ true)
      × (has same_node (nodes_of net) (node_of s (circuit_of net s) (var_of g.right)) ≡ true)
  fanins_there s v g found = (has-named net is s (var_of g.left) (in_circuit (var_of g.left) among.0), has-named net is s (var_of g.right) (in_circuit (var_of g.right) among.1))
    where
      c : Aig
      c = circuit_of net s

      among : IsAmong (0 ∷ c.inputs) c.gates (var_of g.left) × IsAmong (0 ∷ c.inputs) c.gates (var_of g.right)
      among =
          (found-one (λ h. h.var == v) (λ h. IsAmong (0 ∷ c.inputs) c.gates (var_of h.left) × IsAmong (0 ∷ c.inputs) c.gates (var_of h.right))
          c.gates g (all-over (0 ∷ c.inputs) c.gates (is_circuit net is s).gates) found).0

      in_circuit : (x : ℕ) → IsAmong (0 ∷ c.inputs) c.gates x → has ◌==◌ (variables_in c) x ≡ true
      in_circuit x h =
          ap (λ (b : Bool). 0 == x || b) (list_any-append (λ y. y == x) c.inputs (gate_vars c.gates))
          ∙ sym (or_assoc (0 == x) (has ◌==◌ c.inputs x) (has ◌==◌ (gate_vars c.gates) x)) ∙ h

  -- so are those with CNF variables, which have also each XOR's outputs
  pub variables-fanins : HasFanins net (has same_node (variables_of net))
  variables-fanins = record {
    left = λ s v g found q. has-variable net (node_of s (circuit_of net s) (var_of g.left)) (fanins_there s v g found).0;
    right = λ s v g found q. has-variable net (node_of s (circuit_of net s) (var_of g.right)) (fanins_there s v g found).1;
  }

  output_node : (s : Side) (j : ℕ) (l : Lit) → output_of net s j ≡ Some l → has same_node (nodes_of net) l.node ≡ true
  output_node s j l found = go (slice_get c.outputs j) refl
    where
      c : Aig
      c = circuit_of net s

      go : (o : Option ℕ) → slice_get c.outputs j ≡ o → has same_node (nodes_of net) l.node ≡ true
      go None e = absurd (none-some l (rw e at found))
      go (Some lit) e =
          let within : j < length c.outputs = slice_get_within c.outputs j lit e in
          let count : length c.outputs ≡ length net.a.outputs = length-outputs net is s in
          let r = output-there net is s j (omega arith) in
          let same : lit_named s c (slice_index c.outputs j) ≡ l =
          same_Some (lit_named s c (slice_index c.outputs j)) l (sym (ap (option_map (lit_named s c)) r.0) ∙ found) in
          subst (λ (m : Lit). has same_node (nodes_of net) m.node ≡ true) same
          (has-named net is s (var_of (slice_index c.outputs j)) r.1)

  pub variables-outputs : HasOutputs net (has same_node (variables_of net))
  variables-outputs = record { output = λ s j l found q. has-variable net l.node (output_node s j l found) }

  -- each literal of a clause that defines a node with a CNF variable has one
  pub over-variables : (n : Node) → has same_node (variables_of net) n ≡ true
      → AreOver (has same_node (variables_of net)) (axioms_of net n)
  over-variables n q = over-axioms (has same_node (variables_of net)) net variables-fanins variables-outputs n q

  -- each literal of the miter has a CNF variable
  pub over-clauses : AreOver (has same_node (variables_of net)) (clauses_of net)
  over-clauses =
      all-append (λ c. AllByRecursion (λ l. has same_node (variables_of net) l.node ≡ true) c) (defining_clauses net ++ units_of net) (map positive (xors_of net) ∷ [])
      (all-append (λ c. AllByRecursion (λ l. has same_node (variables_of net) l.node ≡ true) c) (defining_clauses net) (units_of net)
      (all-flat_map (λ c. AllByRecursion (λ l. has same_node (variables_of net) l.node ≡ true) c) (axioms_of net) (variables_of net)
      (all-members (λ n. AreOver (has same_node (variables_of net)) (axioms_of net n)) (variables_of net) over-variables))
      (over-units (λ l. has same_node (variables_of net) l.node ≡ true) (bounds_of net) (bounds-variables net is))) (
        all-map (λ l. has same_node (variables_of net) l.node ≡ true) positive (xors_of net)
            (all-members (λ n. has same_node (variables_of net) n ≡ true) (xors_of net)
            (λ n h. list_any-append (λ y. same_node y n) (nodes_of net) (xors_of net) ∙ or_right (has same_node (nodes_of net) n) (has same_node (xors_of net) n) h)),
        tt,
      )

-- what holds of the clauses that stay holds of the first where it stays, without its repeated literals, and of those after it
pub kept-head : (P : List Lit → Type 0) (c : List Lit) (cs : List (List Lit)) → has_pair same_lit opposite c ≡ false
    → AllByRecursion P (kept (c ∷ cs)) → P (firsts same_lit c)
kept-head P c cs stays all = let both : AllByRecursion P (firsts same_lit c ∷ kept cs) = rw stays at all in both.0

pub kept-rest : (P : List Lit → Type 0) (c : List Lit) (cs : List (List Lit)) → AllByRecursion P (kept (c ∷ cs)) → AllByRecursion P (kept cs)
kept-rest P c cs all = go (has_pair same_lit opposite c) refl
  where
    go : (b : Bool) → has_pair same_lit opposite c ≡ b → AllByRecursion P (kept cs)
    go true e = rw e at all
    go false e = let both : AllByRecursion P (firsts same_lit c ∷ kept cs) = rw e at all in both.1
