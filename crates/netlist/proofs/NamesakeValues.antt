-- B in A's order has the values of B, each input and output being the one of the same name, and its constraints are B's.
use Rattle.std.proofs.Common.{◌≡◌, ℕ, zero, suc, ◌<◌, Bool, true, false, not, Option, None, Some, List, [], ◌∷◌, length, get_or, refl, sym, ap, ◌∙◌, subst, arith, add-one}
use Rattle.std.specs.Prelude.{◌==◌}
use Rattle.std.specs.List.{list_all, slice_index_or}
use Rattle.std.specs.Option.{option_map_or, unwrap_or, is_some}
use Rattle.std.proofs.Math.Path.{fun_ext}
use Rattle.std.proofs.lemmas.Bool.{and_parts}
use Rattle.std.proofs.lemmas.Bool.Decides.{nat_tests}
use Rattle.std.proofs.lemmas.List.FromFn.{get_or-map-range_with_len}
use Rattle.std.proofs.lemmas.Map.Keys.{apart_from_distinct}
use Rattle.std.proofs.lemmas.Option.{none-some, get_or_from_slice_get}
use Rattle.lits.specs.Clause.{has, no_repeat}
use Rattle.symbol_names.specs.NameList.{name_at}
use Rattle.netlist.specs.Place.{place_of}
use Rattle.netlist.specs.Circuit.{Aig, IsCircuit, run, given, lit_value, value_in, output_value}
use Rattle.netlist.specs.Net.{IsNet, meets_constraints}
use Rattle.netlist.specs.Unlike.{unlike_of}
use Rattle.netlist.specs.declared.unlike.Unlike.TheVariants.{Inputs, Outputs}
use Rattle.netlist.specs.ByName.{same_name, place_named, arranged, at_name, in_order, put_back, namesake_value, unlike_ports, unlike_by_name, HasNamesake}
use Rattle.netlist.proofs.ArrangedLemmas.{ArePaired, place_in_b, place-within, name-is, name-there, names-apart, same_name-one, get_or-in_order, has-in_order, length-in_order}
use Rattle.netlist.proofs.IndexLemmas.{name_at-get_or}
use Rattle.netlist.proofs.NamedNet.{neither, inputs-paired, outputs-paired}
use Rattle.netlist.proofs.PlaceLemmas.{at_place, place_none, is_some-place}
use Rattle.netlist.proofs.SourceLemmas.{place_within}
use Rattle.netlist.proofs.VariableLemmas.{IsDistinct_from}

-- the place of an element that passes, where none before it does
place-first : {X : Type 0} (test : X → Bool) (xs : List X) (i : ℕ) (d : X) → i < length xs → test (get_or xs i d) ≡ true
    → ((j : ℕ) → j < i → test (get_or xs j d) ≡ false) → place_of test xs ≡ Some i
place-first test [] i d below here before = absurd (omega arith)
place-first test (x ∷ xs) zero d below here before = rw here refl
place-first test (x ∷ xs) (suc i) d below here before =
    let first : test x ≡ false = before 0 (omega arith) in
    let rest : place_of test xs ≡ Some i = place-first test xs i d (omega arith) here (λ j less. before (suc j) (omega arith)) in
    rw (first, rest) (ap Some (add-one i))

-- an element of a list without repeats has its own place
place-own : (xs : List ℕ) (i x : ℕ) → no_repeat ◌==◌ xs ≡ true → i < length xs → get_or xs i 0 ≡ x → place_of (λ y. y == x) xs ≡ Some i
place-own xs i x once below is =
    let here : (get_or xs i 0 == x) ≡ true = grind (arith, nat_tests, is) in
    place-first (λ y. y == x) xs i 0 below here
    (λ j less. subst (λ (n : ℕ). (get_or xs j 0 == n) ≡ false) is (apart_from_distinct ◌==◌ xs j i 0 (IsDistinct_from xs once) less below))

-- and so has a name of A
name-own : (a b : List (Option (List ℕ))) → ArePaired a b → (k : ℕ) → k < length a → place_named a (name_at a k) ≡ Some k
name-own a b paired k below = place-first (same_name (name_at a k)) a k None below here (λ j less. other j less (same_name (name_at a k) (get_or a j None)) refl)
  where
    here : same_name (name_at a k) (get_or a k None) ≡ true
    here =
        subst (λ (x : Option (List ℕ)). same_name (name_at a k) x ≡ true) (sym (name-is a b paired k below) ∙ name_at-get_or a k)
        (name-there a b paired k below)

    other : (j : ℕ) → j < k → (t : Bool) → same_name (name_at a k) (get_or a j None) ≡ t → same_name (name_at a k) (get_or a j None) ≡ false
    other j less true e =
        absurd (names-apart a b paired j k less below (name_at-get_or a j ∙ sym (same_name-one (name_at a k) (get_or a j None) e)))
    other j less false e = e

-- what stands at a place of the new order has a namesake
pub has-namesake : (a b : List (Option (List ℕ))) (xs : List ℕ) → ArePaired a b → length xs ≡ length b → (k : ℕ) → k < length a → HasNamesake a b xs (in_order a b xs) k
has-namesake a b xs paired few k below = record {
  place = place_in_b a b k;
  within = omega (arith, place-within a b paired k below, few);
  name = sym (name-is a b paired k below);
  same = get_or-in_order a b paired xs few k below;
}

module _ (a b : Aig) (net : IsNet (record { a = a; b = b })) (none : unlike_ports a b ≡ None) where
  inputs : ArePaired a.names.inputs b.names.inputs
  inputs = inputs-paired a b net none

  outputs : ArePaired a.names.outputs b.names.outputs
  outputs = outputs-paired a b net none

  few : length b.inputs ≡ length b.names.inputs
  few = sym net.b.names.input_places

  once : no_repeat ◌==◌ b.inputs ≡ true
  once = (and_parts (not (has ◌==◌ b.inputs 0)) (no_repeat ◌==◌ b.inputs) net.b.inputs).1

  -- a bit that was put back is that of A's input of the name
  back-at : (bits : List Bool) (k : ℕ) → k < length a.names.inputs → slice_index_or (put_back a b bits) (place_in_b a.names.inputs b.names.inputs k) false ≡ slice_index_or bits k false
  back-at bits k below =
      let p : ℕ = place_in_b a.names.inputs b.names.inputs k in
      let named : place_named a.names.inputs (name_at b.names.inputs p) ≡ Some k =
      ap (place_named a.names.inputs) (sym (name-is a.names.inputs b.names.inputs inputs k below)) ∙ name-own a.names.inputs b.names.inputs inputs k below in
      get_or-map-range_with_len (λ i. slice_index_or bits (unwrap_or (place_named a.names.inputs (name_at b.names.inputs i)) 0) false) 0 (length b.names.inputs) p p false
      (place-within a.names.inputs b.names.inputs inputs k below) (omega arith)
      ∙ rw named refl

  -- each variable is given the same
  given-same : (bits : List Bool) (x : ℕ) → given (arranged a b).inputs bits x ≡ given b.inputs (put_back a b bits) x
  given-same bits x = go (place_of (λ y. y == x) (arranged a b).inputs) refl
    where
      bit : List Bool → Option ℕ → Bool
      bit bs o = option_map_or (λ k. slice_index_or bs k false) o false

      go : (o : Option ℕ) → place_of (λ y. y == x) (arranged a b).inputs ≡ o → given (arranged a b).inputs bits x ≡ given b.inputs (put_back a b bits) x
      go (Some k) e =
          let within = place_within (λ y. y == x) (arranged a b).inputs k e in
          let below : k < length a.names.inputs = omega (arith, within, length-in_order a.names.inputs b.names.inputs inputs b.inputs few) in
          let p : ℕ = place_in_b a.names.inputs b.names.inputs k in
          let at = at_place (λ y. y == x) (arranged a b).inputs k e in
          let same : at.0 ≡ x = grind (arith, nat_tests, at.2) in
          let is : get_or b.inputs p 0 ≡ x =
          sym (get_or-in_order a.names.inputs b.names.inputs inputs b.inputs few k below) ∙ get_or_from_slice_get (arranged a b).inputs k at.0 0 at.1 ∙ same in
          let in_b : p < length b.inputs = omega (arith, place-within a.names.inputs b.names.inputs inputs k below, few) in
          ap (bit bits) e ∙ sym (back-at bits k below) ∙ sym (ap (bit (put_back a b bits)) (place-own b.inputs p x once in_b is))
      go None e =
          let out : has ◌==◌ b.inputs x ≡ false =
          sym (has-in_order a.names.inputs b.names.inputs inputs b.inputs few once x) ∙ sym (is_some-place (λ y. y == x) (arranged a b).inputs) ∙ ap is_some e in
          ap (bit bits) e ∙ sym (ap (bit (put_back a b bits)) (place_none (λ y. y == x) b.inputs out))

  -- so each output of B in A's order has the value of its namesake
  pub namesake-values : (bits : List Bool) (j : ℕ) → j < length a.outputs → output_value (arranged a b) bits j ≡ namesake_value a b bits j
  namesake-values bits j below =
      let lit = get_or-in_order a.names.outputs b.names.outputs outputs b.outputs (sym net.b.names.output_places) j (omega (arith, below, net.a.names.output_places)) in
      ap (value_in (arranged a b) bits) lit
      ∙ ap (λ (v : ℕ → Bool). lit_value (run b.gates v) (at_name a.names.outputs b.names.outputs b.outputs j)) (fun_ext (given-same bits))

  -- and its constraints are true exactly where B's are
  pub namesake-constraints : (bits : List Bool) → meets_constraints (arranged a b) bits ≡ meets_constraints b (put_back a b bits)
  namesake-constraints bits =
      ap (λ (v : ℕ → Bool). list_all (lit_value (run b.gates v)) b.constraints) (fun_ext (given-same bits))

  pub namesake-inputs : (k : ℕ) → k < length a.inputs → HasNamesake a.names.inputs b.names.inputs b.inputs (arranged a b).inputs k
  namesake-inputs k below = has-namesake a.names.inputs b.names.inputs b.inputs inputs few k (omega (arith, below, net.a.names.input_places))

  pub namesake-outputs : (k : ℕ) → k < length a.outputs → HasNamesake a.names.outputs b.names.outputs b.outputs (arranged a b).outputs k
  namesake-outputs k below =
      has-namesake a.names.outputs b.names.outputs b.outputs outputs (sym net.b.names.output_places) k (omega (arith, below, net.a.names.output_places))

-- without a cause against them two circuits make a net, and their names have none either
pub net-by_name : (a b : Aig) → IsCircuit a → IsCircuit b → unlike_by_name a b ≡ None → IsNet (record { a = a; b = b }) × (unlike_ports a b ≡ None)
net-by_name a b is_a is_b none =
    let both = neither (unlike_of a b) (unlike_ports a b) none in
    let counts = go (length a.inputs == length b.inputs) (length a.outputs == length b.outputs) refl refl both.0 in
    (record { a = is_a; b = is_b; inputs = counts.0; outputs = counts.1 }, both.1)
  where
    go : (s t : Bool) → (length a.inputs == length b.inputs) ≡ s → (length a.outputs == length b.outputs) ≡ t → unlike_of a b ≡ None
        → (length a.inputs ≡ length b.inputs) × (length a.outputs ≡ length b.outputs)
    go true true e f h =
        let one : length a.inputs ≡ length b.inputs = grind (arith, nat_tests, e) in
        let two : length a.outputs ≡ length b.outputs = grind (arith, nat_tests, f) in
        (one, two)
    go true false e f h = absurd (none-some (Outputs (length a.outputs) (length b.outputs)) (sym (rw (e, f) at h)))
    go false t e f h = absurd (none-some (Inputs (length a.inputs) (length b.inputs)) (sym (rw e at h)))
