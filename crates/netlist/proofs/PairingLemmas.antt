-- A pairing by name is what it means: no cause against the names is left exactly where names tell the places of both sides
-- apart and each one of B stands where A has its name, and then B's order is A's.
use Rattle.std.proofs.Common.{◌≡◌, ◌≢◌, ℕ, zero, suc, ◌<◌, Bool, true, false, not, Option, None, Some, List, length, length-take, take, get_or, refl, sym, ap, ap₂, ◌∙◌, subst, arith, add-one, inl, inr}
use Rattle.std.specs.Prelude.{◌==◌}
use Rattle.std.specs.Option.{option_map, option_or, is_some}
use Rattle.std.proofs.lemmas.Bool.{cases_lt}
use Rattle.std.proofs.lemmas.List.{ext_get_or, get_or-take}
use Rattle.std.proofs.lemmas.List.Folds.{list_any_at}
use Rattle.std.proofs.lemmas.Option.{none-some, get_or_from_slice_get}
use Rattle.std.proofs.Math.Nat.{eq-or-lt_of_le}
use Rattle.lits.specs.declared.node.Side.TheVariants.{A, B}
use Rattle.symbol_names.specs.NameList.{name_at}
use Rattle.netlist.specs.declared.port.Port.{Port}
use Rattle.netlist.specs.declared.port.Port.TheVariants.{Input, Output}
use Rattle.netlist.specs.declared.unlike.Unlike.{Unlike}
use Rattle.netlist.specs.declared.unlike.Unlike.TheVariants.{NoName, Doubled, Missing}
use Rattle.netlist.specs.Place.{place_of}
use Rattle.netlist.specs.Circuit.{Aig}
use Rattle.netlist.specs.Unlike.{unlike_of}
use Rattle.netlist.specs.ByName.{same_name, has_name, least, is_nameless, is_doubled, is_missing, nameless, doubled, missing, unlike_sides, unlike_names, unlike_ports, unlike_by_name, in_order, arranged}
use Rattle.netlist.specs.Pairing.{TellApart, ArePlaced, IsPlaced, IsMatched, matched_to, unlike_in}
use Rattle.netlist.proofs.LeastLemmas.{least-next, least-none}
use Rattle.netlist.proofs.IndexLemmas.{bytes_eq-self, name_at-get_or}
use Rattle.netlist.proofs.PlaceLemmas.{is_some-place, at_place}
use Rattle.netlist.proofs.SameNodes.{equal-number}
use Rattle.netlist.proofs.SourceLemmas.{place_within}
use Rattle.netlist.proofs.ArrangedLemmas.{ArePaired, same_name-one, place_in_b, place-within, name-is, length-in_order, get_or-in_order}

abbrev NamesOf : Type 0
NamesOf = List (Option (List ℕ))

-- ---- names that tell places apart

none-left : (test : ℕ → Bool) (n : ℕ) → ((k : ℕ) → k < n → test k ≡ false) → least test n ≡ None
none-left test zero each = refl
none-left test (suc n) each =
    ap (least test) (sym (add-one n)) ∙ least-next test n (none-left test n (λ k below. each k (omega arith))) (each n (omega arith))

same_name-self : (x : Option (List ℕ)) → x ≢ None → same_name x x ≡ true
same_name-self (Some xs) some = bytes_eq-self xs
same_name-self None none = absurd (none refl)

some-name : (x : Option (List ℕ)) → not (is_some x) ≡ false → x ≢ None
some-name (Some xs) e = λ none. none-some xs (sym none)
some-name None e = cc

name-some : (x : Option (List ℕ)) → x ≢ None → not (is_some x) ≡ false
name-some (Some xs) some = refl
name-some None none = absurd (none refl)

module _ (names : NamesOf) where
  -- a name that an earlier place has, too
  doubles : (j k : ℕ) → j < k → k < length names → name_at names j ≡ name_at names k → name_at names k ≢ None
      → is_doubled names k ≡ true
  doubles j k less below same named =
      let at : get_or (take k names) j None ≡ name_at names k = get_or-take k names j None less ∙ sym (name_at-get_or names j) ∙ same in
      let count : j < length (take k names) = omega (arith, less, below, length-take k names) in
      list_any_at (same_name (name_at names k)) (take k names) j None count
      (subst (λ (x : Option (List ℕ)). same_name (name_at names k) x ≡ true) (sym at) (same_name-self (name_at names k) named))

  pub tells-apart : nameless names ≡ None → doubled names ≡ None → TellApart names
  tells-apart no_nameless no_doubled = record {
    named = has;
    apart = λ j k in_j in_k same. elim (cases_lt j k) [
      | inl less ↦ absurd (earlier j k less in_k same)
      | inr more ↦ elim (eq-or-lt_of_le more) [
        | inl equal ↦ sym equal
        | inr less ↦ absurd (earlier k j less in_j (sym same))
      ]
    ];
  }
    where
      has : (k : ℕ) → k < length names → name_at names k ≢ None
      has k below = some-name (name_at names k) (least-none (is_nameless names) (length names) k no_nameless below)

      earlier : (j k : ℕ) → j < k → k < length names → name_at names j ≡ name_at names k → ⊥
      earlier j k less below same =
          let twice = doubles j k less below same (has k below) in
          let once = least-none (is_doubled names) (length names) k no_doubled below in
          cc

  -- the place of a name among the first ones
  place-before : (k : ℕ) → k < length names → is_doubled names k ≡ true
      → (j : ℕ) × (j < k) × (name_at names j ≡ name_at names k)
  place-before k below twice = go (place_of test (take k names)) refl (is_some-place test (take k names) ∙ twice)
    where
      test : Option (List ℕ) → Bool
      test x = same_name (name_at names k) x

      go : (o : Option ℕ) → place_of test (take k names) ≡ o → is_some o ≡ true
          → (j : ℕ) × (j < k) × (name_at names j ≡ name_at names k)
      go None is some = cc
      go (Some j) is some =
          let inside : j < length (take k names) = place_within test (take k names) j is in
          let less : j < k = omega (arith, inside, below, length-take k names) in
          let at = at_place test (take k names) j is in
          let here : get_or (take k names) j None ≡ at.0 = get_or_from_slice_get (take k names) j at.0 None at.1 in
          let name : name_at names j ≡ at.0 = name_at-get_or names j ∙ sym (get_or-take k names j None less) ∙ here in
          (j, less, name ∙ sym (same_name-one (name_at names k) at.0 at.2))

  pub none-nameless : TellApart names → nameless names ≡ None
  none-nameless t = none-left (is_nameless names) (length names) (λ k below. name-some (name_at names k) (t.named k below))

  pub none-doubled : TellApart names → doubled names ≡ None
  none-doubled t = none-left (is_doubled names) (length names) (λ k below. go k below (is_doubled names k) refl)
    where
      go : (k : ℕ) → k < length names → (b : Bool) → is_doubled names k ≡ b → is_doubled names k ≡ false
      go k below false is = is
      go k below true is =
          let p = place-before k below is in
          let less : p.0 < k = p.1 in
          let same : p.0 ≡ k = t.apart p.0 k (omega (arith, less, below)) below p.2 in
          absurd (omega (arith, less, same))

-- ---- the names of both sides

-- no cause against them is left
pub record Passed (a b : NamesOf) : Type 0 where
  pub named_a : nameless a ≡ None
  pub named_b : nameless b ≡ None
  pub distinct_a : doubled a ≡ None
  pub distinct_b : doubled b ≡ None
  pub there : missing b a ≡ None

module _ (port : Port) (a b : NamesOf) where
  passed : unlike_names port a b ≡ None → Passed a b
  unfolding unlike_names unlike_sides
  passed none =
      let top = both (unlike_sides port a b) _ none in
      let one = both (option_map (NoName A port) (nameless a)) _ top.0 in
      let two = both (option_map (NoName B port) (nameless b)) _ one.1 in
      let three = both (option_map (Doubled A port) (doubled a)) _ two.1 in
      record {
        named_a = plain (nameless a) (NoName A port) one.0;
        named_b = plain (nameless b) (NoName B port) two.0;
        distinct_a = plain (doubled a) (Doubled A port) three.0;
        distinct_b = plain (doubled b) (Doubled B port) three.1;
        there = plain (missing b a) (Missing port) top.1;
      }
    where
      both : (x y : Option Unlike) → option_or x y ≡ None → (x ≡ None) × (y ≡ None)
      both None y e = (refl, e)
      both (Some u) y e = absurd (none-some u (sym e))

      plain : (o : Option ℕ) (f : ℕ → Unlike) → option_map f o ≡ None → o ≡ None
      plain None f e = refl
      plain (Some k) f e = absurd (none-some (f k) (sym e))

  none-unlike : Passed a b → unlike_names port a b ≡ None
  unfolding unlike_names unlike_sides
  none-unlike p = rw (p.named_a, p.named_b, p.distinct_a, p.distinct_b, p.there) refl

  module _ (xs : List ℕ) (count_a : length a ≡ length xs) (count_b : length b ≡ length xs) where
    are-placed : unlike_names port a b ≡ None → ArePlaced a b xs (in_order a b xs)
    are-placed none =
        let p = passed none in
        let paired : ArePaired a b = record { distinct = p.distinct_a; there = p.there; count = count_a ∙ sym count_b } in
        record {
          count = length-in_order a b paired xs (sym count_b) ∙ count_a;
          count_a = count_a;
          count_b = count_b;
          apart_a = tells-apart a p.named_a p.distinct_a;
          apart_b = tells-apart b p.named_b p.distinct_b;
          each = λ k below. record {
            place = place_in_b a b k;
            inside = place-within a b paired k below;
            same = sym (name-is a b paired k below);
            stands = get_or-in_order a b paired xs (sym count_b) k below;
          };
        }

  module _ (xs ys : List ℕ) (placed : ArePlaced a b xs ys) where
    placed-passed : Passed a b
    placed-passed = record {
      named_a = none-nameless a placed.apart_a;
      named_b = none-nameless b placed.apart_b;
      distinct_a = none-doubled a placed.apart_a;
      distinct_b = none-doubled b placed.apart_b;
      there = none-left (is_missing b a) (length a) found;
    }
      where
        found : (k : ℕ) → k < length a → is_missing b a k ≡ false
        found k below =
            let s = placed.each k below in
            let at : get_or b s.place None ≡ name_at a k = sym (name_at-get_or b s.place) ∙ s.same in
            let has : has_name b (name_at a k) ≡ true =
            list_any_at (same_name (name_at a k)) b s.place None s.inside
            (subst (λ (x : Option (List ℕ)). same_name (name_at a k) x ≡ true) (sym at)
            (same_name-self (name_at a k) (placed.apart_a.named k below))) in
            rw has refl

    placed-unlike : unlike_names port a b ≡ None
    placed-unlike = none-unlike placed-passed

    placed-order : ys ≡ in_order a b xs
    placed-order =
        let p = placed-passed in
        let paired : ArePaired a b = record { distinct = p.distinct_a; there = p.there; count = placed.count_a ∙ sym placed.count_b } in
        let many : length (in_order a b xs) ≡ length a = length-in_order a b paired xs (sym placed.count_b) in
        ext_get_or 0 ys (in_order a b xs) (placed.count ∙ sym placed.count_a ∙ sym many)
        (λ k below. stands paired k (omega (arith, below, placed.count, placed.count_a)))
      where
        stands : (paired : ArePaired a b) (k : ℕ) → k < length a → get_or ys k 0 ≡ get_or (in_order a b xs) k 0
        stands paired k below =
            let s = placed.each k below in
            let same : s.place ≡ place_in_b a b k =
            placed.apart_b.apart s.place (place_in_b a b k) s.inside (place-within a b paired k below)
            (s.same ∙ name-is a b paired k below) in
            s.stands ∙ ap (λ (j : ℕ). get_or xs j 0) same ∙ sym (get_or-in_order a b paired xs (sym placed.count_b) k below)

-- ---- circuits

-- each input and output of the circuit has a place for its name
pub record HasPlaces (c : Aig) : Type 0 where
  pub inputs : length c.names.inputs ≡ length c.inputs
  pub outputs : length c.names.outputs ≡ length c.outputs

first-none : (x y : Option Unlike) → option_or x y ≡ None → (x ≡ None) × (y ≡ None)
first-none None y e = (refl, e)
first-none (Some u) y e = absurd (none-some u (sym e))

module _ (a b : Aig) where
  -- circuits that are a pair have as many inputs and outputs
  pub equal-counts : unlike_of a b ≡ None → (length a.inputs ≡ length b.inputs) × (length a.outputs ≡ length b.outputs)
  equal-counts none = go (length a.inputs == length b.inputs) refl (length a.outputs == length b.outputs) refl none
    where
      go : (p : Bool) → (length a.inputs == length b.inputs) ≡ p → (q : Bool) → (length a.outputs == length b.outputs) ≡ q
          → unlike_of a b ≡ None → (length a.inputs ≡ length b.inputs) × (length a.outputs ≡ length b.outputs)
      go true e true f h = (equal-number _ _ e, equal-number _ _ f)
      go true e false f h = cc
      go false e q f h = cc

  module _ (places_a : HasPlaces a) (places_b : HasPlaces b) where
    is-placed : unlike_by_name a b ≡ None → IsPlaced a b (arranged a b)
    is-placed none =
        let both = first-none (unlike_of a b) (unlike_ports a b) none in
        let counts = equal-counts both.0 in
        let parts = first-none (unlike_names Input a.names.inputs b.names.inputs) (unlike_names Output a.names.outputs b.names.outputs) both.1 in
        record {
          inputs = are-placed Input a.names.inputs b.names.inputs b.inputs (places_a.inputs ∙ counts.0) places_b.inputs parts.0;
          outputs = are-placed Output a.names.outputs b.names.outputs b.outputs (places_a.outputs ∙ counts.1) places_b.outputs parts.1;
          others = refl;
        }

    -- what stands in the pair is so matched
    pub is-matched : (by_name : Bool) → unlike_in by_name a b ≡ None → IsMatched by_name a b (matched_to by_name a b)
    is-matched true none = is-placed none
    is-matched false none = refl

  module _ (placed : Aig) (is : IsPlaced a b placed) where
    placed-ports : unlike_ports a b ≡ None
    placed-ports =
        rw (
          placed-unlike Input a.names.inputs b.names.inputs b.inputs placed.inputs is.inputs,
          placed-unlike Output a.names.outputs b.names.outputs b.outputs placed.outputs is.outputs,
        ) refl

    placed-is : placed ≡ arranged a b
    placed-is =
        is.others
        ∙ ap₂ (λ (i o : List ℕ). record b { inputs = i; outputs = o; names = a.names })
        (placed-order Input a.names.inputs b.names.inputs b.inputs placed.inputs is.inputs)
        (placed-order Output a.names.outputs b.names.outputs b.outputs placed.outputs is.outputs)

  -- what is so matched is what stands in the pair
  pub matched-is : (by_name : Bool) (placed : Aig) → IsMatched by_name a b placed → placed ≡ matched_to by_name a b
  matched-is true placed is = placed-is placed is
  matched-is false placed is = is

  -- it has as many inputs and outputs as the first circuit, and the second one's constraints
  pub matched-counts : (by_name : Bool) (placed : Aig) → IsMatched by_name a b placed → unlike_in by_name a b ≡ None
      → (length a.inputs ≡ length placed.inputs) × (length a.outputs ≡ length placed.outputs)
  matched-counts true placed is none =
      let counts = equal-counts (first-none (unlike_of a b) (unlike_ports a b) none).0 in
      (counts.0 ∙ sym is.inputs.count, counts.1 ∙ sym is.outputs.count)
  matched-counts false placed is none =
      let counts = equal-counts none in
      (counts.0 ∙ ap (λ (x : Aig). length x.inputs) (sym is), counts.1 ∙ ap (λ (x : Aig). length x.outputs) (sym is))

  pub matched-constraints : (by_name : Bool) (placed : Aig) → IsMatched by_name a b placed → placed.constraints ≡ b.constraints
  matched-constraints true placed is = ap (λ (x : Aig). x.constraints) is.others
  matched-constraints false placed is = ap (λ (x : Aig). x.constraints) is

  -- and nothing is against the pair
  pub none-against : (by_name : Bool) (placed : Aig) → IsMatched by_name a b placed → unlike_of a placed ≡ None → unlike_in by_name a b ≡ None
  none-against false placed is none = ap (unlike_of a) (sym is) ∙ none
  none-against true placed is none =
      let counts : unlike_of a b ≡ None = rw (← is.inputs.count, ← is.outputs.count) none in
      rw (counts, placed-ports placed is) refl
