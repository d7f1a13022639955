-- The reduced circuit has A's values: each new variable has the value of its node.
use Rattle.std.proofs.Common.{◌≡◌, ℕ, zero, suc, ◌+◌, ◌*◌, ◌%◌, ◌<◌, min, Bool, true, false, not, ◌&&◌, Option, Some, None, List, [], ◌∷◌, length, map, refl, sym, ap, ap₂, ◌∙◌, subst, arith, if◌then◌else◌}
use Rattle.std.specs.Prelude.{◌==◌, max, slice_get, slice_index, is_some}
use Rattle.std.specs.Option.{option_map, option_map_or, unwrap_or}
use Rattle.std.specs.List.{range_with_len, slice_index_or, AllByRecursion}
use Rattle.std.proofs.lemmas.Bool.{cases_lt}
use Rattle.std.proofs.Common.{inl, inr}
use Rattle.std.proofs.lemmas.Bool.Decides.{nat_tests}
use Rattle.std.proofs.lemmas.List.{length-map}
use Rattle.std.proofs.lemmas.Option.{none-some, same_Some, slice_get-map, slice_get-get_or, get_or_from_slice_get}
use Rattle.lits.specs.Same.{same_node}
use Rattle.lits.specs.declared.node.Side.TheVariants.{A, B}
use Rattle.lits.specs.declared.node.Node.{Node}
use Rattle.lits.specs.declared.node.Node.TheVariants.{Const, Input, Gate, Xor}
use Rattle.lits.specs.declared.literal.Lit.{Lit}
use Rattle.lits.specs.Assignment.{Meets}
use Rattle.lits.proofs.Facts.{all-slice_get, exact-node}
use Rattle.netlist.specs.declared.gate.And.{And}
use Rattle.netlist.specs.declared.gate.Definition.{Definition}
use Rattle.netlist.specs.Miter.{gate_clauses, kept}
use Rattle.netlist.specs.Place.{place_of}
use Rattle.netlist.specs.Circuit.{Aig, given, is_negated, lit_value, put, run, value_in, values_in, var_of}
use Rattle.netlist.specs.Net.{AigPair, IsNet, definition_of, gate_at, lit_holds, lit_named, value_of}
use Rattle.netlist.proofs.Facts.{at-place, equal-number, gate-definition, gate_from_meets, length-range, meets_from_kept, values-meet}
use Rattle.lemma_book.specs.Agreement.{HaveOneValue}
use Rattle.lemma_book.specs.Entry.{Entries}
use Rattle.lemma_book.specs.Root.{root_of}
use Rattle.lemma_book.specs.Book.{IsLegal}
use Rattle.fraig_write.specs.Reduced.{new_variable, reduced_gate, reduced_to, renumbered, root_renumbered, AreStaying, HasValuesOf, IsReducedCircuit}
use Rattle.fraig_write.specs.Renumbering.{HasNumber}
use Rattle.fraig_write.proofs.ReachedNodes.{reached-in, reached-number}
use Rattle.fraig_write.proofs.OrderLemmas.{ends-reached, fanins-lower, number-within, own-number, staying-at}
use Rattle.fraig_write.proofs.NamedValues.{named-value}

-- ---- literals as numbers

abbrev bit : Bool → ℕ
bit b = if b then 1 else 0

literal-variable : (x : ℕ) (b : Bool) → var_of (2 * x + bit b) ≡ x
literal-variable x true = omega arith
literal-variable x false = omega arith

literal-sign : (x : ℕ) (b : Bool) → is_negated (2 * x + bit b) ≡ b
literal-sign x true = let r : (2 * x + 1) % 2 ≡ 1 = omega arith in rw r refl
literal-sign x false = let r : (2 * x + 0) % 2 ≡ 0 = omega arith in rw r refl

literal-value : (v : ℕ → Bool) (x : ℕ) (b : Bool) → lit_value v (2 * x + bit b) ≡ (if b then not (v x) else v x)
literal-value v x b =
    ap (λ (n : Bool). if n then not (v (var_of (2 * x + bit b))) else v (var_of (2 * x + bit b))) (literal-sign x b)
    ∙ ap (λ (y : ℕ). if b then not (v y) else v y) (literal-variable x b)

and-swap : (a b : Bool) → (a && b) ≡ (b && a)
and-swap true true = refl
and-swap true false = refl
and-swap false true = refl
and-swap false false = refl

-- the greater of two fanins may stand first
both-fanins : (v : ℕ → Bool) (l r : ℕ) → (lit_value v (max l r) && lit_value v (min l r)) ≡ (lit_value v l && lit_value v r)
both-fanins v l r = elim (cases_lt l r) [
  | inl less ↦
      let high : max l r ≡ r = omega (arith, less) in
      let low : min l r ≡ l = omega (arith, less) in
      rw (high, low) (and-swap (lit_value v r) (lit_value v l))
  | inr more ↦
      let high : max l r ≡ l = omega (arith, more) in
      let low : min l r ≡ r = omega (arith, more) in
      rw (high, low) refl
]

-- ---- the inputs

place-range : (n a k : ℕ) → k < n → place_of (λ y. y == a + k) (range_with_len a n) ≡ Some k
place-range zero a k less = absurd (omega (arith, less))
place-range (suc n) a zero less =
    let same : a == a + 0 ≡ true = grind (arith, nat_tests) in
    rw same refl
place-range (suc n) a (suc k) less =
    let other : a == a + suc k ≡ false = grind (arith, nat_tests) in
    let shift : a + suc k ≡ (a + 1) + k = omega arith in
    let rest : place_of (λ y. y == a + suc k) (range_with_len (a + 1) n) ≡ Some k =
    ap (λ (x : ℕ). place_of (λ y. y == x) (range_with_len (a + 1) n)) shift ∙ place-range n (a + 1) k (omega (arith, less)) in
    let next : k + 1 ≡ suc k = omega arith in
    rw (other, rest, next) refl

place-before : (n a x : ℕ) → x < a → place_of (λ y. y == x) (range_with_len a n) ≡ None
place-before zero a x less = refl
place-before (suc n) a x less =
    let other : a == x ≡ false = grind (arith, nat_tests, less) in
    rw (other, place-before n (a + 1) x (omega (arith, less))) refl

-- the value of a gate is the AND of its fanins'
gate-value : (net : AigPair) → IsNet net → (bits : List Bool) (j : ℕ) (g : And) → slice_get net.a.gates j ≡ Some g
    → value_of net bits (Gate A g.var)
    ≡ (lit_holds (value_of net bits) (lit_named A net.a g.left) && lit_holds (value_of net bits) (lit_named A net.a g.right))
gate-value net is bits j g e = go (gate_at net A g.var) (gate-definition net is A j g e).0 (values-meet net is bits (Gate A g.var))
  where
    d : Definition
    d = definition_of A net.a g

    go : (o : Option And) → option_map (definition_of A net.a) o ≡ Some d
        → Meets (lit_holds (value_of net bits)) (option_map_or (λ h. kept (gate_clauses (definition_of A net.a h))) o [])
        → value_of net bits (Gate A g.var) ≡ (lit_holds (value_of net bits) d.left && lit_holds (value_of net bits) d.right)
    go None f m = absurd (none-some d f)
    go (Some h) f m =
        let same : definition_of A net.a h ≡ d = same_Some (definition_of A net.a h) d f in
        gate_from_meets (value_of net bits) d
        (meets_from_kept (value_of net bits) (gate_clauses d)
        (subst (λ (x : Definition). Meets (lit_holds (value_of net bits)) (kept (gate_clauses x))) same m))

module _ (net : AigPair) (is : IsNet net) (book : Entries) (legal : IsLegal net book)
    (roots : (l : Lit) → HaveOneValue net l (root_of book.entries l))
    (staying : List And) (s : AreStaying net.a book.entries staying)
    (bits : List Bool) (whole : length bits ≡ length net.a.inputs) where
  abbrev inputs : ℕ
  inputs = length net.a.inputs

  abbrev number : Node → ℕ
  number = new_variable inputs staying

  abbrev reduced : And → And
  reduced = reduced_gate net.a book.entries staying

  -- the value of a node as that of an AIGER variable: the constant's is false
  abbrev node_value : Node → Bool
  node_value n = if same_node n Const then false else value_of net bits n

  -- v gives each reached node whose number is below the bound its value
  abbrev Agrees : (ℕ → Bool) → ℕ → Type 0
  Agrees v bound = (n : Node) → s.reached n ≡ true → number n < bound → v (number n) ≡ node_value n

  has_number : (n : Node) → s.reached n ≡ true → HasNumber (record { inputs = inputs; staying = staying }) n
  has_number n h = reached-number net is book legal s.reached s.are_reached (record { inputs = inputs; staying = staying }) refl s.gates n h

  -- a literal has its value by the new variables
  literal-agrees : (v : ℕ → Bool) (bound : ℕ) → Agrees v bound → (l : Lit) → s.reached l.node ≡ true → number l.node < bound
      → lit_value v (renumbered inputs staying l) ≡ lit_holds (value_of net bits) l
  literal-agrees v bound agrees l there below =
      literal-value v (number l.node) (if same_node l.node Const then not l.neg else l.neg)
      ∙ ap (λ (b : Bool). if (if same_node l.node Const then not l.neg else l.neg) then not b else b) (agrees l.node there below)
      ∙ go (same_node l.node Const) l.neg refl
    where
      go : (c neg : Bool) → same_node l.node Const ≡ c
          → (if (if c then not neg else neg) then not (if c then false else value_of net bits l.node) else (if c then false else value_of net bits l.node))
          ≡ (if neg then not (value_of net bits l.node) else value_of net bits l.node)
      go false neg e = refl
      go true neg e = here neg
        where
          one : value_of net bits l.node ≡ true
          one = ap (value_of net bits) (exact-node l.node Const e)

          here : (neg : Bool) → (if not neg then true else false) ≡ (if neg then not (value_of net bits l.node) else value_of net bits l.node)
          here true = sym (ap not one)
          here false = sym one

  -- before any gate
  given-agrees : Agrees (given (range_with_len 1 inputs) bits) (inputs + 1)
  given-agrees Const h below =
      ap (λ (o : Option ℕ). option_map_or (λ k. slice_index_or bits k false) o false) (place-before inputs 1 0 (omega arith))
  given-agrees (Input k) h below =
      let lt : k < inputs = has_number (Input k) h in
      let shift : k + 1 ≡ 1 + k = omega arith in
      ap (given (range_with_len 1 inputs) bits) shift
      ∙ ap (λ (o : Option ℕ). option_map_or (λ i. slice_index_or bits i false) o false) (place-range inputs 1 k lt)
  given-agrees (Gate side v) h below = absurd (omega (arith, below))
  given-agrees (Xor j) h below = absurd (has_number (Xor j) h)

  -- what has the number of gate k is that gate
  gate-number : (k : ℕ) (g : And) → slice_get staying k ≡ Some g → (n : Node) → s.reached n ≡ true → number n ≡ inputs + 1 + k → n ≡ Gate A g.var
  gate-number k g at Const h e = absurd (omega (arith, e))
  gate-number k g at (Input i) h e = let lt : i < inputs = has_number (Input i) h in absurd (omega (arith, e, lt))
  gate-number k g at (Xor j) h e = absurd (has_number (Xor j) h)
  gate-number k g at (Gate B v) h e = let f : false ≡ true = reached-in net is book legal s.reached s.are_reached (Gate B v) h in cc
  gate-number k g at (Gate A v) h e = go (place_of (λ i. i.var == v) staying) refl (has_number (Gate A v) h)
    where
      go : (o : Option ℕ) → place_of (λ i. i.var == v) staying ≡ o → is_some o ≡ true → Gate A v ≡ Gate A g.var
      go None f some = cc
      go (Some m) f some =
          let r = at-place (λ i. i.var == v) staying m f in
          let same : m ≡ k = omega (arith, sym (ap (λ (o : Option ℕ). inputs + 1 + unwrap_or o 0) f) ∙ e) in
          let one : r.0 ≡ g = same_Some r.0 g (sym r.1 ∙ ap (slice_get staying) same ∙ at) in
          ap (Gate A) (sym (equal-number r.0.var v r.2) ∙ ap (λ (x : And). x.var) one)

  -- one gate more
  gate-agrees : (k : ℕ) (g : And) → slice_get staying k ≡ Some g → (v : ℕ → Bool) → Agrees v (inputs + 1 + k)
      → Agrees (put v (reduced g).var (lit_value v (reduced g).left && lit_value v (reduced g).right)) (inputs + 1 + (k + 1))
  gate-agrees k g at v agrees n there below = go (number n == (reduced g).var) refl
    where
      own : (reduced g).var ≡ inputs + 1 + k
      own = own-number net is book legal staying s k g at

      new : Bool
      new = lit_value v (reduced g).left && lit_value v (reduced g).right

      left : Lit
      left = lit_named A net.a g.left

      right : Lit
      right = lit_named A net.a g.right

      value : new ≡ value_of net bits (Gate A g.var)
      value =
          let fanins = fanins-lower net is book legal staying s k g at in
          both-fanins v (root_renumbered net.a book.entries staying g.left) (root_renumbered net.a book.entries staying g.right)
          ∙ ap₂ ◌&&◌
          (literal-agrees v (inputs + 1 + k) agrees (root_of book.entries left) fanins.0.0 fanins.0.1 ∙ sym (roots left bits whole))
          (literal-agrees v (inputs + 1 + k) agrees (root_of book.entries right) fanins.1.0.0 fanins.1.0.1 ∙ sym (roots right bits whole))
          ∙ sym (gate-value net is bits (staying-at net is book legal staying s k g at).0 g (staying-at net is book legal staying s k g at).1)

      go : (b : Bool) → (number n == (reduced g).var) ≡ b → (if b then new else v (number n)) ≡ node_value n
      go true e =
          let one : n ≡ Gate A g.var = gate-number k g at n there (equal-number (number n) (reduced g).var e ∙ own) in
          value ∙ ap node_value (sym one)
      go false e =
          let apart : (number n ≡ inputs + 1 + k → ⊥) = λ (f : number n ≡ inputs + 1 + k).
          let t : (number n == (reduced g).var) ≡ true = grind (arith, nat_tests, f, own) in
          let clash : false ≡ true = sym e ∙ t in cc in
          agrees n there (omega (arith, below, apart))

  -- the gates that stay, from gate k on
  gates-agree : (gs : List And) (k : ℕ) → ((i : ℕ) (g : And) → slice_get gs i ≡ Some g → slice_get staying (k + i) ≡ Some g)
      → length staying ≡ k + length gs → (v : ℕ → Bool) → Agrees v (inputs + 1 + k) → Agrees (run (map reduced gs) v) (inputs + 1 + length staying)
  gates-agree [] k from count v agrees =
      let same : k ≡ length staying = omega (arith, count) in subst (λ (n : ℕ). Agrees v (inputs + 1 + n)) same agrees
  gates-agree (g ∷ gs) k from count v agrees =
      let first : k + 0 ≡ k = omega arith in
      let at : slice_get staying k ≡ Some g = ap (slice_get staying) (sym first) ∙ from 0 g refl in
      gates-agree gs (k + 1)
      (λ i h e. let shift : k + 1 + i ≡ k + suc i = omega arith in ap (slice_get staying) shift ∙ from (suc i) h e)
      (omega (arith, count)) (put v (reduced g).var (lit_value v (reduced g).left && lit_value v (reduced g).right)) (gate-agrees k g at v agrees)

  abbrev c : Aig
  c = reduced_to net.a book.entries staying

  values-agree : Agrees (values_in c bits) (inputs + 1 + length staying)
  values-agree =
      gates-agree staying 0 (λ i g e. let none : 0 + i ≡ i = omega arith in ap (slice_get staying) none ∙ e) (omega arith)
      (given (range_with_len 1 inputs) bits)
      (let none : inputs + 1 ≡ inputs + 1 + 0 = omega arith in subst (λ (n : ℕ). Agrees (given (range_with_len 1 inputs) bits) n) none given-agrees)

  -- a literal whose root is reached has its value in the reduced circuit
  root-value : (lit : ℕ) → s.reached (root_of book.entries (lit_named A net.a lit)).node ≡ true
      → value_in c bits (root_renumbered net.a book.entries staying lit) ≡ value_in net.a bits lit
  root-value lit there =
      let l = lit_named A net.a lit in
      let root = root_of book.entries l in
      literal-agrees (values_in c bits) (inputs + 1 + length staying) values-agree root there
      (number-within net is book legal staying s root.node (has_number root.node there))
      ∙ sym (roots l bits whole) ∙ sym (named-value net is bits lit)

  -- so have the literals of a list, each at its place
  pub values-at : (xs : List ℕ) → AllByRecursion (λ x. s.reached (root_of book.entries (lit_named A net.a x)).node ≡ true) xs
      → (j : ℕ) → j < length xs
      → value_in c bits (slice_index (map (root_renumbered net.a book.entries staying) xs) j) ≡ value_in net.a bits (slice_index xs j)
  values-at xs all j less =
      let renumbered_at = root_renumbered net.a book.entries staying in
      let at : slice_get xs j ≡ Some (slice_index xs j) = slice_get-get_or xs j 0 less in
      let mapped : slice_get (map renumbered_at xs) j ≡ Some (renumbered_at (slice_index xs j)) =
      slice_get-map renumbered_at xs j ∙ ap (option_map renumbered_at) at in
      ap (value_in c bits) (get_or_from_slice_get (map renumbered_at xs) j (renumbered_at (slice_index xs j)) 0 mapped)
      ∙ root-value (slice_index xs j)
      (all-slice_get (λ x. s.reached (root_of book.entries (lit_named A net.a x)).node ≡ true) xs j (slice_index xs j) all at)

-- the reduced circuit has A's values
pub reduced-values : (net : AigPair) → IsNet net → (book : Entries) → IsLegal net book
    → ((l : Lit) → HaveOneValue net l (root_of book.entries l)) → (c : Aig) → IsReducedCircuit net.a book.entries c → HasValuesOf net.a c
reduced-values net is book legal roots c r =
    let renumbered_at = root_renumbered net.a book.entries r.staying in
    let ends = ends-reached net is book legal r.staying r.are_staying in
    subst (HasValuesOf net.a) (sym r.circuit) (record {
      inputs = length-range (length net.a.inputs) 1;
      outputs = length-map net.a.outputs renumbered_at;
      constraints = length-map net.a.constraints renumbered_at;
      at_outputs = λ bits whole. values-at net is book legal roots r.staying r.are_staying bits whole net.a.outputs ends.0;
      at_constraints = λ bits whole. values-at net is book legal roots r.staying r.are_staying bits whole net.a.constraints ends.1;
    })
