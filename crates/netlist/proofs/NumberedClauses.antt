-- Numbering is one to one on the nodes that are there, so assignments of nodes and of CNF variables meet the same clauses.
use Rattle.std.proofs.Common.{◌≡◌, ℕ, ◌+◌, ◌-◌, Bool, true, false, not, ◌||◌, Option, Some, None, List, [], ◌∷◌, map, refl, sym, ap, ap₂, ◌∙◌, subst, rules, if◌then◌else◌, arith}
use Rattle.std.specs.Prelude.{slice_get, ◌↔◌}
use Rattle.std.specs.Option.{option_map, option_map_or, unwrap_or}
use Rattle.std.specs.List.{AllByRecursion, list_any}
use Rattle.std.proofs.lemmas.Option.{none-some, same_Some}
use Rattle.lits.specs.Clause.{has}
use Rattle.lits.specs.Assignment.{IsAssignment, Meets, IsSatisfiable}
use Rattle.lits.specs.Dimacs.{DimacsLiteral}
use Rattle.lits.specs.declared.node.Node.{Node}
use Rattle.lits.specs.declared.literal.Lit.{Lit}
use Rattle.netlist.specs.Place.{place_of}
use Rattle.netlist.specs.Net.{AigPair, lit_holds}
use Rattle.lits.specs.Same.{same_node, same_lit, same_dim, opposite_dim}
use Rattle.lits.proofs.Facts.{exact-node, exact-lit, same-lit_self}
use Rattle.netlist.specs.Miter.{positive, variables_of, variable_of, numbered}
use Rattle.netlist.proofs.SameNodes.{place_from_any, at-place}
use Rattle.netlist.proofs.ClausesOver.{AreOver}

exact-number : (x y : DimacsLiteral) → same_dim x y ≡ true → x ≡ y
exact-number = search rules

same-number_self : (x : DimacsLiteral) → same_dim x x ≡ true
same-number_self = search rules

-- the node at its own place
node_at : (xs : List Node) (n : Node) (k : ℕ) → place_of (λ m. same_node m n) xs ≡ Some k → slice_get xs k ≡ Some n
node_at xs n k e =
    let r = at-place (λ m. same_node m n) xs k e in
    r.1 ∙ ap Some (exact-node r.0 n r.2)

-- a node with CNF variable k stands at place k - 1
pub variable_at : (net : AigPair) (n : Node) (k : ℕ) → variable_of net n ≡ Some k → slice_get (variables_of net) (k - 1) ≡ Some n
variable_at net n k e = go (place_of (λ m. same_node m n) (variables_of net)) refl
  where
    go : (o : Option ℕ) → place_of (λ m. same_node m n) (variables_of net) ≡ o → slice_get (variables_of net) (k - 1) ≡ Some n
    go None f = absurd (none-some k (rw f at e))
    go (Some i) f =
        let next : i + 1 ≡ k = same_Some (i + 1) k (rw f at e) in
        let here : k - 1 ≡ i = omega arith in
        ap (slice_get (variables_of net)) here ∙ node_at (variables_of net) n i f

-- two nodes with one CNF variable are one
pub variable-one : (net : AigPair) (x y : Node) (k : ℕ) → variable_of net x ≡ Some k → variable_of net y ≡ Some k → x ≡ y
variable-one net x y k e f = same_Some x y (sym (variable_at net x k e) ∙ variable_at net y k f)

-- the nodes that have a CNF variable
pub variable-some : (net : AigPair) (n : Node) → has same_node (variables_of net) n ≡ true → (k : ℕ) × (variable_of net n ≡ Some k)
variable-some net n h =
    let r = place_from_any (λ m. same_node m n) (variables_of net) h in (r.0 + 1, ap (option_map (λ k. k + 1)) r.1)

-- a node with a CNF variable is there
pub variable-has : (net : AigPair) (n : Node) (k : ℕ) → variable_of net n ≡ Some k → has same_node (variables_of net) n ≡ true
variable-has net n k e = go (place_of (λ m. same_node m n) (variables_of net)) refl
  where
    go : (o : Option ℕ) → place_of (λ m. same_node m n) (variables_of net) ≡ o → has same_node (variables_of net) n ≡ true
    go None f = absurd (none-some k (rw f at e))
    go (Some i) f = (at-place (λ m. same_node m n) (variables_of net) i f).4

-- two literals of the miter with one number are one
pub numbered-one : (net : AigPair) (x y : Lit) → has same_node (variables_of net) x.node ≡ true
    → has same_node (variables_of net) y.node ≡ true → numbered net x ≡ numbered net y → x ≡ y
numbered-one net x y hx hy e =
    let rx = variable-some net x.node hx in
    let ry = variable-some net y.node hy in
    let number : rx.0 ≡ ry.0 =
    ap (λ (o : Option ℕ). unwrap_or o 0) (sym rx.1) ∙ ap (λ (d : DimacsLiteral). d.var) e ∙ ap (λ (o : Option ℕ). unwrap_or o 0) ry.1 in
    let node : x.node ≡ y.node = variable-one net x.node y.node rx.0 rx.1 (ry.1 ∙ ap Some (sym number)) in
    let neg : x.neg ≡ y.neg = ap (λ (d : DimacsLiteral). d.neg) e in
    ap₂ (λ (n : Node) (b : Bool). record { node = n; neg = b }) node neg

-- so numbering keeps which literals are equal
pub numbered-same : (net : AigPair) (x y : Lit) → has same_node (variables_of net) x.node ≡ true
    → has same_node (variables_of net) y.node ≡ true → same_dim (numbered net x) (numbered net y) ≡ same_lit x y
numbered-same net x y hx hy = go (same_dim (numbered net x) (numbered net y)) (same_lit x y) refl refl
  where
    go : (b c : Bool) → same_dim (numbered net x) (numbered net y) ≡ b → same_lit x y ≡ c → b ≡ c
    go true true e f = refl
    go false false e f = refl
    go true false e f =
        let one = numbered-one net x y hx hy (exact-number (numbered net x) (numbered net y) e) in
        sym (subst (λ (z : Lit). same_lit x z ≡ true) one (same-lit_self x)) ∙ f
    go false true e f =
        let one = exact-lit x y f in
        sym e ∙ subst (λ (z : Lit). same_dim (numbered net x) (numbered net z) ≡ true) one (same-number_self (numbered net x))

-- the values of nodes by those of DIMACS literals
abbrev pub values_by_number : AigPair → (DimacsLiteral → Bool) → Node → Bool
values_by_number net u n = u (numbered net (positive n))

-- a literal has the value of its number
pub values_by_number-literal : (net : AigPair) (u : DimacsLiteral → Bool) → IsAssignment opposite_dim u → (l : Lit)
    → lit_holds (values_by_number net u) l ≡ u (numbered net l)
values_by_number-literal net u assigns l = go l.neg (unwrap_or (variable_of net l.node) 0)
  where
    go : (neg : Bool) (k : ℕ) → (if neg then not (u (record { var = k; neg = false })) else u (record { var = k; neg = false })) ≡ u (record { var = k; neg = neg })
    go true k = sym (assigns.negates (record { var = k; neg = false }))
    go false k = refl

-- the values of DIMACS literals by those of nodes
abbrev pub value_at_number : AigPair → (Node → Bool) → ℕ → Bool
value_at_number net v k = option_map_or v (slice_get (variables_of net) (k - 1)) false

abbrev pub numbers_by_node : AigPair → (Node → Bool) → DimacsLiteral → Bool
numbers_by_node net v d = if d.neg then not (value_at_number net v d.var) else value_at_number net v d.var

-- they are an assignment
pub numbers_by_node-assigns : (net : AigPair) (v : Node → Bool) → IsAssignment opposite_dim (numbers_by_node net v)
numbers_by_node-assigns net v = record { negates = λ d. go d.neg (value_at_number net v d.var) }
  where
    go : (neg value : Bool) → (if not neg then not value else value) ≡ not (if neg then not value else value)
    go true true = refl
    go true false = refl
    go false value = refl

-- the number of a literal that is there has its value
pub numbers_by_node-literal : (net : AigPair) (v : Node → Bool) (l : Lit) → has same_node (variables_of net) l.node ≡ true
    → numbers_by_node net v (numbered net l) ≡ lit_holds v l
numbers_by_node-literal net v l there =
    let r = variable-some net l.node there in
    let at : value_at_number net v (unwrap_or (variable_of net l.node) 0) ≡ v l.node =
    ap (λ (o : Option ℕ). value_at_number net v (unwrap_or o 0)) r.1
    ∙ ap (λ (o : Option Node). option_map_or v o false) (variable_at net l.node r.0 r.1) in
    ap (λ (b : Bool). if l.neg then not b else b) at

-- clauses hold after each literal of theirs is replaced by one of the same value
holds-replaced : {X Y : Type 0} (u : Y → Bool) (w : X → Bool) (f : X → Y) (c : List X) → AllByRecursion (λ x. u (f x) ≡ w x) c
    → list_any u (map f c) ≡ list_any w c
holds-replaced u w f [] same = refl
holds-replaced u w f (x ∷ xs) same = ap₂ ◌||◌ same.0 (holds-replaced u w f xs same.1)

meets-replaced : {X Y : Type 0} (u : Y → Bool) (w : X → Bool) (f : X → Y) (cs : List (List X))
    → AllByRecursion (AllByRecursion (λ x. u (f x) ≡ w x)) cs → (Meets w cs ↔ Meets u (map (λ c. map f c) cs))
meets-replaced u w f [] same = (λ m. tt, λ m. tt)
meets-replaced u w f (c ∷ cs) same =
    let here = holds-replaced u w f c same.0 in
    let rest = meets-replaced u w f cs same.1 in
    (λ m. (here ∙ m.0, rest.0 m.1), λ m. (sym here ∙ m.0, rest.1 m.1))

all-all : {X : Type 0} (P : X → Type 0) → ((x : X) → P x) → (xs : List X) → AllByRecursion P xs
all-all P each [] = tt
all-all P each (x ∷ xs) = (each x, all-all P each xs)

over-weaker : {X : Type 0} (P Q : X → Type 0) → ((x : X) → P x → Q x) → (cs : List (List X)) → AllByRecursion (AllByRecursion P) cs → AllByRecursion (AllByRecursion Q) cs
over-weaker P Q f [] all = tt
over-weaker P Q f (c ∷ cs) all = (go c all.0, over-weaker P Q f cs all.1)
  where
    go : (xs : List _) → AllByRecursion P xs → AllByRecursion Q xs
    go [] a = tt
    go (x ∷ xs) a = (f x a.0, go xs a.1)

module _ (net : AigPair) (cs : List (List Lit)) where
  -- an assignment of numbers that meets the numbered clauses meets them as one of nodes
  pub nodes-meet : (u : DimacsLiteral → Bool) → IsAssignment opposite_dim u → Meets u (map (λ c. map (numbered net) c) cs)
      → Meets (lit_holds (values_by_number net u)) cs
  nodes-meet u assigns m =
      let same = λ (l : Lit). sym (values_by_number-literal net u assigns l) in
      (meets-replaced u (lit_holds (values_by_number net u)) (numbered net) cs
      (all-all (AllByRecursion (λ l. u (numbered net l) ≡ lit_holds (values_by_number net u) l))
      (λ c. all-all (λ l. u (numbered net l) ≡ lit_holds (values_by_number net u) l) same c) cs)).1 m

  -- values of nodes that meet clauses over nodes that are there meet them as an assignment of numbers
  pub numbers-meet : AreOver (has same_node (variables_of net)) cs → (v : Node → Bool) → Meets (lit_holds v) cs
      → Meets (numbers_by_node net v) (map (λ c. map (numbered net) c) cs)
  numbers-meet over v m =
      (meets-replaced (numbers_by_node net v) (lit_holds v) (numbered net) cs
      (over-weaker (λ l. has same_node (variables_of net) l.node ≡ true) (λ l. numbers_by_node net v (numbered net l) ≡ lit_holds v l)
      (numbers_by_node-literal net v) cs over)).0 m

  -- the numbered clauses are satisfiable exactly where some values of the nodes meet the clauses
  pub satisfiable-numbers : AreOver (has same_node (variables_of net)) cs
      → (IsSatisfiable opposite_dim (map (λ c. map (numbered net) c) cs) ↔ ((v : Node → Bool) × Meets (lit_holds v) cs))
  satisfiable-numbers over = (
    λ s. (values_by_number net s.values, nodes-meet s.values s.assigns s.meets),
    λ s. record {
      values = numbers_by_node net s.0;
      assigns = numbers_by_node-assigns net s.0;
      meets = numbers-meet over s.0 s.1;
    },
  )
