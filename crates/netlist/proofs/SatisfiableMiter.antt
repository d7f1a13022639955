-- The miter is satisfiable exactly if the two circuits differ on an admitted input.
use Rattle.std.proofs.Common.{◌≡◌, ◌≢◌, ℕ, ◌<◌, Bool, true, false, not, ◌||◌, List, [], ◌∷◌, ◌++◌, map, arith, length, refl, sym, ap, ◌∙◌, if◌then◌else◌}
use Rattle.std.specs.Prelude.{◌↔◌, ◌==◌}
use Rattle.std.specs.List.{AllByRecursion, list_any, range_with_len}
use Rattle.std.proofs.lemmas.Bool.{or_left, or_right}
use Rattle.lits.specs.Clause.{has}
use Rattle.lits.specs.Assignment.{Holds, Meets, IsSatisfiable}
use Rattle.lits.specs.declared.node.Node.{Node}
use Rattle.lits.specs.declared.node.Node.TheVariants.{Xor}
use Rattle.netlist.specs.Circuit.{output_value}
use Rattle.netlist.specs.Net.{AigPair, IsNet, DiffersOn, Agree, Differ, bounds_of, nodes_of, value_of, lit_holds, differs}
use Rattle.lits.specs.Same.{same_node, opposite_dim}
use Rattle.lits.proofs.Facts.{list_any-map, all-append, all-parts}
use Rattle.netlist.specs.Miter.{positive, axioms_of, xors_of, variables_of, defining_clauses, units_of, clauses_of, miter_of}
use Rattle.netlist.proofs.SameNodes.{both-all, equal-number, same-number, range-has}
use Rattle.netlist.proofs.NodeValues.{values-meet}
use Rattle.netlist.proofs.NodesThere.{has-variable, has-xor, xor-below}
use Rattle.netlist.proofs.ConeValues.{inputs_under, length-inputs_under, inputs_under-at}
use Rattle.netlist.proofs.ConeModels.{IsModelOver, model-all, model-node}
use Rattle.netlist.proofs.BoundLemmas.{admitted-bounds, bounds-admitted, bounds-there, hold-units, units-hold}
use Rattle.netlist.proofs.ClausesOver.{all-members, all-flat_map, flat_map-member, variables-fanins, variables-outputs, over-clauses}
use Rattle.netlist.proofs.NumberedClauses.{satisfiable-numbers}

-- a number of the list that passes
any_number : (test : ℕ → Bool) (xs : List ℕ) → list_any test xs ≡ true
    → (x : ℕ) × (test x ≡ true) × (list_any (λ y. y == x) xs ≡ true)
any_number test [] h = cc
any_number test (x ∷ xs) h = go (test x) refl (any_number test xs)
  where
    go : (b : Bool) → test x ≡ b
        → (list_any test xs ≡ true → (y : ℕ) × (test y ≡ true) × (list_any (λ z. z == y) xs ≡ true))
        → (y : ℕ) × (test y ≡ true) × (list_any (λ z. z == y) (x ∷ xs) ≡ true)
    go true e rest = (x, e, or_left (x == x) (list_any (λ z. z == x) xs) (same-number x))
    go false e rest =
        let r = rest (ap (λ (b : Bool). b || list_any test xs) (sym e) ∙ h) in
        (r.0, r.1, or_right (x == r.0) (list_any (λ z. z == r.0) xs) r.2)

any_from_number : (test : ℕ → Bool) (xs : List ℕ) (x : ℕ) → list_any (λ y. y == x) xs ≡ true → test x ≡ true → list_any test xs ≡ true
any_from_number test [] x h t = cc
any_from_number test (y ∷ ys) x h t = go (y == x) refl (any_from_number test ys x)
  where
    go : (b : Bool) → (y == x) ≡ b → (list_any (λ z. z == x) ys ≡ true → test x ≡ true → list_any test ys ≡ true)
        → list_any test (y ∷ ys) ≡ true
    go true e rest = or_left (test y) (list_any test ys) (ap test (equal-number y x e) ∙ t)
    go false e rest =
        or_right (test y) (list_any test ys) (rest (ap (λ (b : Bool). b || list_any (λ z. z == x) ys) (sym e) ∙ h) t)

apart_from_differs : (x y : Bool) → differs x y ≡ true → x ≢ y
apart_from_differs true true e = λ s. cc
apart_from_differs true false e = λ s. cc
apart_from_differs false true e = λ s. cc
apart_from_differs false false e = λ s. cc

differs_from_apart : (x y : Bool) → x ≢ y → differs x y ≡ true
differs_from_apart true true h = absurd (h refl)
differs_from_apart true false h = refl
differs_from_apart false true h = refl
differs_from_apart false false h = absurd (h refl)

-- the clause of all XORs says that some XOR is true
any-xors : (net : AigPair) (v : Node → Bool)
    → list_any (lit_holds v) (map positive (xors_of net)) ≡ list_any (λ j. v (Xor j)) (range_with_len 0 (length net.a.outputs))
any-xors net v =
    list_any-map (lit_holds v) positive (xors_of net)
    ∙ list_any-map (λ n. lit_holds v (positive n)) Xor (range_with_len 0 (length net.a.outputs))

module _ (net : AigPair) (is : IsNet net) where
  -- values that meet the miter's clauses are those of an admitted input on which two outputs differ
  pub differ_from_model : (v : Node → Bool) → Meets (lit_holds v) (clauses_of net) → Differ net
  differ_from_model v m = record {
    output = xor.0;
    bits = bits;
    differs = record {
      admitted = bounds-admitted net is bits (length-inputs_under net v) all;
      within = xor-below net xor.0 there;
      apart = apart_from_differs (output_value net.a bits xor.0) (output_value net.b bits xor.0)
          (sym (model-all net is (has same_node (variables_of net)) v bits model (variables-outputs net is) (Xor xor.0) there there)
          ∙ xor.1);
    };
  }
    where
      bits : List Bool
      bits = inputs_under net v

      parts : Meets (lit_holds v) (defining_clauses net ++ units_of net) × Meets (lit_holds v) (map positive (xors_of net) ∷ [])
      parts = all-parts (Holds (lit_holds v)) (defining_clauses net ++ units_of net) (map positive (xors_of net) ∷ []) m

      first_parts : Meets (lit_holds v) (defining_clauses net) × Meets (lit_holds v) (units_of net)
      first_parts = all-parts (Holds (lit_holds v)) (defining_clauses net) (units_of net) parts.0

      model : IsModelOver net (has same_node (variables_of net)) v bits
      model = record {
        fanins = variables-fanins net is;
        meets = flat_map-member (Holds (lit_holds v)) (axioms_of net) (variables_of net) first_parts.0;
        inputs = λ k below q. inputs_under-at net v k below;
      }

      xor : (j : ℕ) × (v (Xor j) ≡ true) × (list_any (λ i. i == j) (range_with_len 0 (length net.a.outputs)) ≡ true)
      xor = any_number (λ j. v (Xor j)) (range_with_len 0 (length net.a.outputs)) (sym (any-xors net v) ∙ parts.1.0)

      there : has same_node (variables_of net) (Xor xor.0) ≡ true
      there = has-xor net xor.0 ∙ xor.2

      -- the units hold, and so the values of the constraints' literals are true
      all : AllByRecursion (λ l. lit_holds (value_of net bits) l ≡ true) (bounds_of net)
      all =
          both-all (λ l. has same_node (nodes_of net) l.node ≡ true) (λ l. lit_holds v l ≡ true) (λ l. lit_holds (value_of net bits) l ≡ true)
          (λ l there holds.
          let same = model-node net is (has same_node (variables_of net)) v bits model l.node there (has-variable net l.node there) in
          ap (λ (b : Bool). if l.neg then not b else b) (sym same) ∙ holds)
          (bounds_of net) (bounds-there net is) (units-hold (lit_holds v) (bounds_of net) first_parts.1)

  -- an admitted input on which two outputs differ meets the miter's clauses
  pub model_from_differ : (d : Differ net) → Meets (lit_holds (value_of net d.bits)) (clauses_of net)
  model_from_differ d =
      all-append (Holds (lit_holds v)) (defining_clauses net ++ units_of net) (map positive (xors_of net) ∷ [])
      (all-append (Holds (lit_holds v)) (defining_clauses net) (units_of net)
      (all-flat_map (Holds (lit_holds v)) (axioms_of net) (variables_of net)
      (all-members (λ n. Meets (lit_holds v) (axioms_of net n)) (variables_of net) (λ n h. values-meet net is d.bits n)))
      (hold-units (lit_holds v) (bounds_of net) (admitted-bounds net is d.bits d.differs.admitted)))
      (any-xors net v ∙ any_from_number (λ j. v (Xor j)) (range_with_len 0 (length net.a.outputs)) d.output there apart, tt)
    where
      v : Node → Bool
      v = value_of net d.bits

      there : list_any (λ i. i == d.output) (range_with_len 0 (length net.a.outputs)) ≡ true
      there =
          let within : d.output < length net.a.outputs = d.differs.within in
          range-has 0 (length net.a.outputs) d.output (omega arith) (omega arith)

      apart : v (Xor d.output) ≡ true
      apart =
          differs_from_apart (output_value net.a d.bits d.output) (output_value net.b d.bits d.output) d.differs.apart

  -- the law
  pub satisfiable : IsSatisfiable opposite_dim (miter_of net) ↔ Differ net
  satisfiable =
      let numbers = satisfiable-numbers net (clauses_of net) (over-clauses net is) in
      (λ s. let r = numbers.0 s in differ_from_model r.0 r.1, λ d. numbers.1 (value_of net d.bits, model_from_differ d))

  agree_from_same : ¬ Differ net → Agree net
  agree_from_same none j within bits admitted = go (output_value net.a bits j) (output_value net.b bits j) refl refl
    where
      apart : output_value net.a bits j ≢ output_value net.b bits j
          → output_value net.a bits j ≡ output_value net.b bits j
      apart d =
          let differs : DiffersOn net j bits = record { admitted = admitted; within = within; apart = d } in
          absurd (none (record { output = j; bits = bits; differs = differs }))

      go : (x y : Bool) → output_value net.a bits j ≡ x → output_value net.b bits j ≡ y → output_value net.a bits j ≡ output_value net.b bits j
      go true true e f = e ∙ sym f
      go false false e f = e ∙ sym f
      go true false e f = apart (λ s. let h : true ≡ false = sym e ∙ s ∙ f in cc)
      go false true e f = apart (λ s. let h : false ≡ true = sym e ∙ s ∙ f in cc)

  -- the law, the other way round
  pub unsatisfiable : (¬ IsSatisfiable opposite_dim (miter_of net)) ↔ Agree net
  unsatisfiable = (
    λ none. agree_from_same (λ d. none (satisfiable.1 d)),
    λ agree s. let d = satisfiable.0 s in d.differs.apart (agree d.output d.differs.within d.bits d.differs.admitted),
  )
