-- A circuit stays one when its inputs and outputs are put into another order.
use Rattle.std.proofs.Common.{length-take, ◌≡◌, ◌≢◌, ℕ, zero, suc, ◌<◌, ◌≤◌, Bool, true, false, not, Option, None, Some, List, [], ◌∷◌, length, map, take, get_or, refl, sym, ap, ◌∙◌, subst, arith, add-one, inl, inr}
use Rattle.std.specs.Prelude.{◌==◌, ◌||◌, nat_le}
use Rattle.std.specs.List.{list_any, list_all, range_with_len}
use Rattle.std.specs.Option.{unwrap_or, is_some}
use Rattle.std.proofs.lemmas.Bool.{cases_lt, not-true, and_parts}
use Rattle.std.proofs.lemmas.Bool.Decides.{nat_tests}
use Rattle.std.proofs.lemmas.Cmp.{nat_eq_equiv}
use Rattle.std.proofs.lemmas.List.{get_or-take}
use Rattle.std.proofs.lemmas.List.Folds.{list_any-append, list_any_at, list_all-append, list_all_at}
use Rattle.std.proofs.lemmas.List.FromFn.{map-range_with_len_more, length-map-range_with_len, get_or-map-range_with_len}
use Rattle.std.proofs.lemmas.Map.Keys.{apart_from_distinct}
use Rattle.std.proofs.lemmas.Map.Made.{length-le_from_is_member}
use Rattle.std.proofs.lemmas.Option.{get_or_from_slice_get}
use Rattle.std.proofs.Math.Nat.{eq-or-lt_of_le}
use Rattle.lits.specs.Clause.{has, no_repeat}
use Rattle.symbol_names.specs.NameList.{name_at}
use Rattle.symbol_names.specs.declared.names.Names.{Names}
use Rattle.netlist.specs.declared.gate.And.{And}
use Rattle.netlist.specs.Circuit.{Aig, IsCircuit, AreOrdered, is_over, var_of, variables_in, gate_vars, most}
use Rattle.netlist.specs.ByName.{same_name, place_named, has_name, is_doubled, is_missing, doubled, missing, at_name, in_order, arranged}
use Rattle.netlist.proofs.LeastLemmas.{least-none}
use Rattle.netlist.proofs.IndexLemmas.{bytes_eq-same, name_at-get_or}
use Rattle.netlist.proofs.PlaceLemmas.{is_some-place, at_place}
use Rattle.netlist.proofs.SameNodes.{list_any-same}
use Rattle.netlist.proofs.SourceLemmas.{place_within}
use Rattle.netlist.proofs.VariableLemmas.{eq_swap, no_repeat_push, IsDistinct_from}

-- ---- lists that are made from numbers

-- which elements of a made list are v
has_not-made : (f : ℕ → ℕ) (m v : ℕ) → ((j : ℕ) → j < m → (f j == v) ≡ false) → has ◌==◌ (map f (range_with_len 0 m)) v ≡ false
has_not-made f zero v none = refl
has_not-made f (suc m) v none =
    ap (λ (n : ℕ). has ◌==◌ (map f (range_with_len 0 n)) v) (sym (add-one m))
    ∙ ap (λ (xs : List ℕ). has ◌==◌ xs v) (map-range_with_len_more f 0 m m (omega arith))
    ∙ list_any-append (λ y. y == v) (map f (range_with_len 0 m)) (f m ∷ [])
    ∙ rw (has_not-made f m v (λ j below. none j (omega arith)), none m (omega arith)) refl

-- no two are one
no_repeat-made : (f : ℕ → ℕ) (m : ℕ) → ((j k : ℕ) → j < k → k < m → (f j == f k) ≡ false) → no_repeat ◌==◌ (map f (range_with_len 0 m)) ≡ true
no_repeat-made f zero apart = refl
no_repeat-made f (suc m) apart =
    ap (λ (n : ℕ). no_repeat ◌==◌ (map f (range_with_len 0 n))) (sym (add-one m))
    ∙ ap (no_repeat ◌==◌) (map-range_with_len_more f 0 m m (omega arith))
    ∙ no_repeat_push (map f (range_with_len 0 m)) (f m) (no_repeat-made f m (λ j k less below. apart j k less (omega arith)))
    (has_not-made f m (f m) (λ j below. apart j m below (omega arith)))

-- all pass
list_all-made : (test : ℕ → Bool) (f : ℕ → ℕ) (m : ℕ) → ((j : ℕ) → j < m → test (f j) ≡ true) → list_all test (map f (range_with_len 0 m)) ≡ true
list_all-made test f zero all = refl
list_all-made test f (suc m) all =
    ap (λ (n : ℕ). list_all test (map f (range_with_len 0 n))) (sym (add-one m))
    ∙ ap (list_all test) (map-range_with_len_more f 0 m m (omega arith))
    ∙ list_all-append test (map f (range_with_len 0 m)) (f m ∷ [])
    ∙ rw (list_all-made test f m (λ j below. all j (omega arith)), all m (omega arith)) refl

-- what all pass, each passes
all_at : (test : ℕ → Bool) (xs : List ℕ) (i : ℕ) → list_all test xs ≡ true → i < length xs → test (get_or xs i 0) ≡ true
all_at test xs i all below = go (test (get_or xs i 0)) refl
  where
    go : (b : Bool) → test (get_or xs i 0) ≡ b → test (get_or xs i 0) ≡ true
    go true e = e
    go false e = let none = list_all_at test xs i 0 below e in cc

-- ---- the places of A's names among B's

-- two names that are the same are one
pub same_name-one : (x y : Option (List ℕ)) → same_name x y ≡ true → x ≡ y
same_name-one (Some xs) (Some ys) e = ap Some (bytes_eq-same xs ys e)
same_name-one (Some xs) None e = cc
same_name-one None y e = cc

-- each name of A is one of B's, and no two of A are the same
pub record ArePaired (a b : List (Option (List ℕ))) : Type 0 where
  pub distinct : doubled a ≡ None
  pub there : missing b a ≡ None
  pub count : length a ≡ length b

-- the place of A's name k among B's names
abbrev pub place_in_b : List (Option (List ℕ)) → List (Option (List ℕ)) → ℕ → ℕ
place_in_b a b k = unwrap_or (place_named b (name_at a k)) 0

module _ (a b : List (Option (List ℕ))) (paired : ArePaired a b) where
  pub found : (k : ℕ) → k < length a → place_named b (name_at a k) ≡ Some (place_in_b a b k)
  found k below = go (place_named b (name_at a k)) there
    where
      flip : (t : Bool) → not t ≡ false → t ≡ true
      flip true e = refl
      flip false e = cc

      there : is_some (place_named b (name_at a k)) ≡ true
      there = is_some-place (same_name (name_at a k)) b ∙ flip (has_name b (name_at a k)) (least-none (is_missing b a) (length a) k paired.there below)

      go : (o : Option ℕ) → is_some o ≡ true → o ≡ Some (unwrap_or o 0)
      go None e = cc
      go (Some j) e = refl

  pub place-within : (k : ℕ) → k < length a → place_in_b a b k < length b
  place-within k below = place_within (same_name (name_at a k)) b (place_in_b a b k) (found k below)

  -- the name there is the same
  pub name-there : (k : ℕ) → k < length a → same_name (name_at a k) (name_at b (place_in_b a b k)) ≡ true
  name-there k below =
      let at = at_place (same_name (name_at a k)) b (place_in_b a b k) (found k below) in
      let name : name_at b (place_in_b a b k) ≡ at.0 = name_at-get_or b (place_in_b a b k) ∙ get_or_from_slice_get b (place_in_b a b k) at.0 None at.1 in
      rw name at.2

  pub name-is : (k : ℕ) → k < length a → name_at a k ≡ name_at b (place_in_b a b k)
  name-is k below = same_name-one (name_at a k) (name_at b (place_in_b a b k)) (name-there k below)

  -- two places of A have two names
  pub names-apart : (j k : ℕ) → j < k → k < length a → name_at a j ≢ name_at a k
  names-apart j k less below same =
      let self : same_name (name_at a k) (name_at a k) ≡ true =
      subst (λ (x : Option (List ℕ)). same_name (name_at a k) x ≡ true) (sym (name-is k below)) (name-there k below) in
      let at : get_or (take k a) j None ≡ name_at a k = get_or-take k a j None less ∙ sym (name_at-get_or a j) ∙ same in
      let count : j < length (take k a) = omega (arith, length-take k a) in
      let has : has_name (take k a) (name_at a k) ≡ true =
      list_any_at (same_name (name_at a k)) (take k a) j None count (subst (λ (x : Option (List ℕ)). same_name (name_at a k) x ≡ true) (sym at) self) in
      let none = least-none (is_doubled a) (length a) k paired.distinct below in
      cc

  -- so two places of A are at two places of B
  pub places-apart : (j k : ℕ) → j < k → k < length a → place_in_b a b j ≢ place_in_b a b k
  places-apart j k less below same =
      names-apart j k less below (name-is j (omega arith) ∙ ap (name_at b) same ∙ sym (name-is k below))

  module _ (xs : List ℕ) (few : length xs ≡ length b) where
    inside : (k : ℕ) → k < length a → place_in_b a b k < length xs
    inside k below = omega (arith, place-within k below, few)

    -- as many as there are names
    pub length-in_order : length (in_order a b xs) ≡ length a
    unfolding in_order
    length-in_order = length-map-range_with_len (at_name a b xs) 0 (length a)

    pub get_or-in_order : (k : ℕ) → k < length a → get_or (in_order a b xs) k 0 ≡ get_or xs (place_in_b a b k) 0
    unfolding in_order
    get_or-in_order k below = get_or-map-range_with_len (at_name a b xs) 0 (length a) k k 0 below (omega arith)

    -- what all pass, all in the other order pass
    pub all-in_order : (test : ℕ → Bool) → list_all test xs ≡ true → list_all test (in_order a b xs) ≡ true
    unfolding in_order
    all-in_order test all = list_all-made test (at_name a b xs) (length a) (λ j below. all_at test xs (place_in_b a b j) all (inside j below))

    -- nothing is new
    only-old : (v : ℕ) → has ◌==◌ xs v ≡ false → has ◌==◌ (in_order a b xs) v ≡ false
    unfolding in_order
    only-old v none = has_not-made (at_name a b xs) (length a) v (λ j below. go j below (at_name a b xs j == v) refl)
      where
        go : (j : ℕ) → j < length a → (t : Bool) → (at_name a b xs j == v) ≡ t → (at_name a b xs j == v) ≡ false
        go j below true e = let there = list_any_at (λ y. y == v) xs (place_in_b a b j) 0 (inside j below) e in cc
        go j below false e = e

    module _ (once : no_repeat ◌==◌ xs ≡ true) where
      -- elements at two places differ
      elements-apart : (i j : ℕ) → i < length xs → j < length xs → i ≢ j → (get_or xs i 0 == get_or xs j 0) ≡ false
      elements-apart i j in_i in_j apart =
          elim (cases_lt i j) [
            | inl less ↦ apart_from_distinct ◌==◌ xs i j 0 (IsDistinct_from xs once) less in_j
            | inr more ↦ eq_swap (get_or xs i 0) (get_or xs j 0) ∙ apart_from_distinct ◌==◌ xs j i 0 (IsDistinct_from xs once) (above more) in_i
          ]
        where
          above : j ≤ i → j < i
          above le = elim (eq-or-lt_of_le le) [ inl same ↦ absurd (apart (sym same)) | inr less ↦ less ]

      pub once-in_order : no_repeat ◌==◌ (in_order a b xs) ≡ true
      unfolding in_order
      once-in_order =
          no_repeat-made (at_name a b xs) (length a)
          (λ j k less below. elements-apart (place_in_b a b j) (place_in_b a b k) (inside j (omega arith)) (inside k below) (places-apart j k less below))

      -- nothing is lost: else the new order with what is lost were longer than the old one
      all-there : (v : ℕ) → has ◌==◌ xs v ≡ true → has ◌==◌ (in_order a b xs) v ≡ true
      all-there v there = go (has ◌==◌ (in_order a b xs) v) refl
        where
          flipped : (ys : List ℕ) (q : ℕ) → list_any (λ y. q == y) ys ≡ has ◌==◌ ys q
          flipped ys q = list_any-same (λ y. q == y) (λ y. y == q) (λ y. eq_swap q y) ys

          member : has ◌==◌ (in_order a b xs) v ≡ false → (q : ℕ) → list_any (λ y. q == y) (v ∷ in_order a b xs) ≡ true → list_any (λ y. q == y) xs ≡ true
          member none q e = flipped xs q ∙ at (has ◌==◌ xs q) (v == q) refl refl (sym (flipped (v ∷ in_order a b xs) q) ∙ e)
            where
              at : (t s : Bool) → has ◌==◌ xs q ≡ t → (v == q) ≡ s → has ◌==◌ (v ∷ in_order a b xs) q ≡ true → has ◌==◌ xs q ≡ true
              at true s e is h = e
              at false true e is h =
                  let same : v ≡ q = grind (arith, nat_tests, is) in
                  subst (λ (n : ℕ). has ◌==◌ xs n ≡ true) same there
              at false false e is h = let old = only-old q e in cc

          go : (t : Bool) → has ◌==◌ (in_order a b xs) v ≡ t → has ◌==◌ (in_order a b xs) v ≡ true
          go true e = e
          go false e =
              let longer : no_repeat ◌==◌ (v ∷ in_order a b xs) ≡ true = rw (e, once-in_order) refl in
              let short = length-le_from_is_member nat_eq_equiv (v ∷ in_order a b xs) xs (IsDistinct_from (v ∷ in_order a b xs) longer) (member e) in
              absurd (omega (arith, short, length-in_order, few, paired.count))

      -- both orders have the same elements
      pub has-in_order : (v : ℕ) → has ◌==◌ (in_order a b xs) v ≡ has ◌==◌ xs v
      has-in_order v = go (has ◌==◌ xs v) refl
        where
          go : (t : Bool) → has ◌==◌ xs v ≡ t → has ◌==◌ (in_order a b xs) v ≡ has ◌==◌ xs v
          go true e = all-there v e ∙ sym e
          go false e = only-old v e ∙ sym e

-- ---- circuits

-- gates that are in order after some variables are so after the same in another order
AreOrdered-same : (known other : List ℕ) (gates : List And) → ((v : ℕ) → has ◌==◌ known v ≡ has ◌==◌ other v) → AreOrdered known gates → AreOrdered other gates
AreOrdered-same known other [] same ordered = tt
AreOrdered-same known other (g ∷ gs) same ordered = (
  record { new = sym (same g.var) ∙ ordered.0.new; left = sym (same (var_of g.left)) ∙ ordered.0.left; right = sym (same (var_of g.right)) ∙ ordered.0.right },
  AreOrdered-same (g.var ∷ known) (g.var ∷ other) gs (λ v. ap (λ (t : Bool). (g.var == v) || t) (same v)) ordered.1,
)

list_all-same : (test other : ℕ → Bool) (xs : List ℕ) → ((x : ℕ) → test x ≡ other x) → list_all test xs ≡ list_all other xs
list_all-same test other [] same = refl
list_all-same test other (x ∷ xs) same = rw (same x, list_all-same test other xs same) refl

module _ (a b : Aig) (is_a : IsCircuit a) (is_b : IsCircuit b) (inputs : ArePaired a.names.inputs b.names.inputs) (outputs : ArePaired a.names.outputs b.names.outputs) where
  few_inputs : length b.inputs ≡ length b.names.inputs
  few_inputs = sym is_b.names.input_places

  few_outputs : length b.outputs ≡ length b.names.outputs
  few_outputs = sym is_b.names.output_places

  once : no_repeat ◌==◌ b.inputs ≡ true
  once = (and_parts (not (has ◌==◌ b.inputs 0)) (no_repeat ◌==◌ b.inputs) is_b.inputs).1

  same_inputs : (v : ℕ) → has ◌==◌ b.inputs v ≡ has ◌==◌ (arranged a b).inputs v
  same_inputs v = sym (has-in_order a.names.inputs b.names.inputs inputs b.inputs few_inputs once v)

  same_variables : (v : ℕ) → has ◌==◌ (variables_in (arranged a b)) v ≡ has ◌==◌ (variables_in b) v
  same_variables v =
      ap (λ (t : Bool). (0 == v) || t)
      (list_any-append (λ y. y == v) (arranged a b).inputs (gate_vars b.gates)
      ∙ ap (λ (t : Bool). t || has ◌==◌ (gate_vars b.gates) v) (sym (same_inputs v))
      ∙ sym (list_any-append (λ y. y == v) b.inputs (gate_vars b.gates)))

  over : (lits : List ℕ) → list_all (is_over (variables_in (arranged a b))) lits ≡ list_all (is_over (variables_in b)) lits
  over lits = list_all-same (is_over (variables_in (arranged a b))) (is_over (variables_in b)) lits (λ lit. same_variables (var_of lit))

  small : list_all (λ v. nat_le v most) (variables_in (arranged a b)) ≡ true
  small =
      let old = and_parts (nat_le 0 most) _ is_b.range in
      let parts = and_parts (list_all (λ v. nat_le v most) b.inputs) (list_all (λ v. nat_le v most) (gate_vars b.gates)) (sym (list_all-append (λ v. nat_le v most) b.inputs (gate_vars b.gates)) ∙ old.1) in
      let new = all-in_order a.names.inputs b.names.inputs inputs b.inputs few_inputs (λ v. nat_le v most) parts.0 in
      list_all-append (λ v. nat_le v most) (arranged a b).inputs (gate_vars b.gates) ∙ rw (new, parts.1) refl

  -- B in A's order is a circuit, and as large as A
  pub IsCircuit-arranged : IsCircuit (arranged a b)
  IsCircuit-arranged = record {
    inputs = let first = not-true (has ◌==◌ b.inputs 0) (and_parts (not (has ◌==◌ b.inputs 0)) (no_repeat ◌==◌ b.inputs) is_b.inputs).0 in
        let new : has ◌==◌ (arranged a b).inputs 0 ≡ false = sym (same_inputs 0) ∙ first in
        rw (new, once-in_order a.names.inputs b.names.inputs inputs b.inputs few_inputs once) refl;
    gates = AreOrdered-same (0 ∷ b.inputs) (0 ∷ (arranged a b).inputs) b.gates (λ v. ap (λ (t : Bool). (0 == v) || t) (same_inputs v)) is_b.gates;
    outputs = all-in_order a.names.outputs b.names.outputs outputs b.outputs few_outputs (is_over (variables_in (arranged a b))) (over b.outputs ∙ is_b.outputs);
    range = small;
    count = subst (λ (n : ℕ). n ≤ most) (sym (length-outputs ∙ is_a.names.output_places)) is_a.count;
    constraints = over b.constraints ∙ is_b.constraints;
    constraint_count = is_b.constraint_count;
    names = record {
      input_places = sym length-inputs;
      output_places = sym length-outputs;
      of_inputs = is_a.names.of_inputs;
      of_outputs = is_a.names.of_outputs;
    };
  }
    where
      length-inputs : length (arranged a b).inputs ≡ length a.names.inputs
      length-inputs = length-in_order a.names.inputs b.names.inputs inputs b.inputs few_inputs

      length-outputs : length (arranged a b).outputs ≡ length a.names.outputs
      length-outputs = length-in_order a.names.outputs b.names.outputs outputs b.outputs few_outputs

-- parts of B with what was put in A's order
pub arranged-is : (a b parts made : Aig) (inputs outputs : List ℕ) (names : Names) → made ≡ record parts { inputs = inputs; outputs = outputs; names = names }
    → parts ≡ b → inputs ≡ (arranged a b).inputs → outputs ≡ (arranged a b).outputs → names ≡ a.names → made ≡ arranged a b
arranged-is a b parts made inputs outputs names is of_b same_in same_out same = is ∙ rw (of_b, same_in, same_out, same) refl
