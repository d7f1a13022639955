-- What rows of simulation show of the outputs: the first pattern that tells one apart.
use Rattle.std.proofs.Common.{◌≡◌, ◌≢◌, ℕ, zero, suc, ◌+◌, ◌*◌, ◌/◌, ◌%◌, ◌^◌, ◌<◌, ◌≤◌, ◌==◌, ◌⊎◌, nat_lt, Bool, true, false, not, List, [], ◌∷◌, length, map, Option, Some, None, inl, inr, refl, sym, ap, ap₂, ◌∙◌, subst, arith}
use Rattle.std.specs.Prelude.{◌++◌, ◌-◌, IsSome, slice_index, ◌&&◌, if◌then◌else◌}
use Rattle.std.specs.Option.{is_some, option_map_or}
use Rattle.std.specs.List.{find, range_with_len, slice_index_or, AllByRecursion}
use Rattle.std.specs.Int.{bit_at, trailing_zeros, w64}
use Rattle.std.specs.Int.RustNames.{bit_and, bit_xor}
use Rattle.std.proofs.lemmas.Bool.{cases_lt, lt-ltb, and_parts}
use Rattle.std.proofs.lemmas.Option.{same_Some}
use Rattle.std.proofs.lemmas.Nat.Bits.{bit_at_xor, bit_at-lt, bit_at-trailing_zeros}
use Rattle.std.proofs.lemmas.List.FromFn.{fill_by_all, map-range_with_len_more}
use Rattle.lits.specs.Same.{same_node}
use Rattle.lits.specs.declared.node.Side.{Side}
use Rattle.lits.specs.declared.node.Side.TheVariants.{A, B}
use Rattle.lits.specs.declared.node.Node.{Node}
use Rattle.lits.specs.declared.node.Node.TheVariants.{Const, Input, Gate, Xor}
use Rattle.lits.specs.declared.literal.Lit.{Lit}
use Rattle.netlist.specs.Place.{place_of}
use Rattle.netlist.specs.Circuit.{var_of, output_value}
use Rattle.netlist.specs.Net.{AigPair, IsNet, circuit_of, differs, lit_holds, meets_constraints, node_at, nodes_of, output_of, position_of, value_of}
use Rattle.lits.specs.Clause.{has}
use Rattle.lits.specs.Assignment.{Meets}
use Rattle.netlist.specs.Miter.{kept, variables_of, xor_axioms, xor_clauses}
use Rattle.netlist.proofs.Facts.{found-one, at-place, node-at, output_lit, output_of-below, values-meet, meets_from_kept, xor_from_meets, node-input, length-nodes, is_some-place, has-position, has-xor, range-has, variables-outputs}
use Rattle.word_sim.specs.Patterns.{is_set}
use Rattle.word_sim.specs.Rows.{AreSignatures, HasBits, IsRow, Signatures, mask_of, turned, value_on}
use Rattle.word_sim.proofs.Facts.{and-bit, turned-bit}
use Rattle.check_session.specs.Finding.{DiffersAt}
use Rattle.check_session.specs.Pool.{HasBitsFor, HasBitsOf, IsFirstApart, IsFirstOf, IsLeast, admits, bit_of, tells_apart}

-- ---- bits of two rows

bit-cases : (word b : ℕ) → (bit_at word b ≡ 0) ⊎ (bit_at word b ≡ 1)
bit-cases word b = elim (cases_lt (bit_at word b) 1) [ inl h ↦ inl (omega arith) | inr h ↦ inr (omega (arith, bit_at-lt word b)) ]

xor-bit : (x y b : ℕ) → is_set (bit_xor x y) b ≡ differs (is_set x b) (is_set y b)
xor-bit x y b = rw (bit_at_xor x y b) (elim (bit-cases x b) [
  | inl p ↦ elim (bit-cases y b) [ inl q ↦ rw (p, q) refl | inr q ↦ rw (p, q) refl ]
  | inr p ↦ elim (bit-cases y b) [ inl q ↦ rw (p, q) refl | inr q ↦ rw (p, q) refl ]
])

-- the test of two rows' bits that count, one of which is turned first where they are opposite
abbrev pub apart_at : List ℕ → List ℕ → Bool → List ℕ → ℕ → Bool
apart_at first second opposite counting p = bit_of counting p && differs opposite (differs (bit_of first p) (bit_of second p))

-- a word of both rows as the program compares it
abbrev pub word_apart : List ℕ → List ℕ → Bool → List ℕ → ℕ → ℕ
word_apart first second opposite counting w =
    bit_and (slice_index_or counting w 0)
    (bit_xor (bit_xor (slice_index_or first w 0) (slice_index_or second w 0)) (mask_of opposite))

turned-test : (opposite t : Bool) → turned opposite t ≡ differs opposite t
turned-test true t = refl
turned-test false t = refl

-- its bits
word-bit : (first second : List ℕ) (opposite : Bool) (counting : List ℕ) (w b : ℕ) → b < 64
    → is_set (word_apart first second opposite counting w) b ≡ apart_at first second opposite counting (64 * w + b)
word-bit first second opposite counting w b within =
    let at : (64 * w + b) / 64 ≡ w = omega arith in
    let bit : (64 * w + b) % 64 ≡ b = omega arith in
    and-bit (slice_index_or counting w 0) (bit_xor (bit_xor (slice_index_or first w 0) (slice_index_or second w 0)) (mask_of opposite)) b
    ∙ ap (λ (t : Bool). is_set (slice_index_or counting w 0) b && t)
    (turned-bit (bit_xor (slice_index_or first w 0) (slice_index_or second w 0)) opposite b within
    ∙ turned-test opposite (is_set (bit_xor (slice_index_or first w 0) (slice_index_or second w 0)) b)
    ∙ ap (differs opposite) (xor-bit (slice_index_or first w 0) (slice_index_or second w 0) b))
    ∙ rw (at, bit) refl

-- the lowest bit that is set
pub lowest-set : (word : ℕ) → 0 < word → word < 2 ^ 64 → IsLeast 64 (λ b. is_set word b) (trailing_zeros w64 word)
lowest-set word some fits =
    let found = bit_at-trailing_zeros w64 word some fits in
    record {
      below = found.0;
      passes = ap (λ (b : ℕ). b == 1) found.1;
      least = λ p less. ap (λ (b : ℕ). b == 1) (found.2 p less);
    }

module _ (first second : List ℕ) (opposite : Bool) (counting : List ℕ) (word w : ℕ)
    (is : word ≡ word_apart first second opposite counting w)
    (before : (p : ℕ) → p < 64 * w → apart_at first second opposite counting p ≡ false) where
  in-word : (b : ℕ) → b < 64 → is_set word b ≡ apart_at first second opposite counting (64 * w + b)
  in-word b within = ap (λ (n : ℕ). is_set n b) is ∙ word-bit first second opposite counting w b within

  -- the words up to this one are equal
  pub none-more : ((b : ℕ) → b < 64 → is_set word b ≡ false) → (p : ℕ) → p < 64 * (w + 1) → apart_at first second opposite counting p ≡ false
  none-more none p below = elim (cases_lt p (64 * w)) [
    | inl less ↦ before p less
    | inr more ↦
        let within : p - 64 * w < 64 = omega arith in
        let here : 64 * w + (p - 64 * w) ≡ p = omega arith in
        subst (λ (n : ℕ). apart_at first second opposite counting n ≡ false) here
        (sym (in-word (p - 64 * w) within) ∙ none (p - 64 * w) within)
  ]

  -- this bit of the word is the first that differs
  pub least-here : (count bit : ℕ) → IsLeast 64 (λ b. is_set word b) bit → 64 * w + bit < count
      → IsLeast count (apart_at first second opposite counting) (64 * w + bit)
  least-here count bit least below = record {
    below = below;
    passes = sym (in-word bit least.below) ∙ least.passes;
    least = λ p less. elim (cases_lt p (64 * w)) [
      | inl front ↦ before p front
      | inr more ↦
          let within : p - 64 * w < bit = omega arith in
          let below : p - 64 * w < 64 = omega (arith, within, least.below) in
          let here : 64 * w + (p - 64 * w) ≡ p = omega arith in
          subst (λ (n : ℕ). apart_at first second opposite counting n ≡ false) here
          (sym (in-word (p - 64 * w) below) ∙ least.least (p - 64 * w) within)
    ];
  }

  -- it stands behind the last one that counts
  pub none-here : (count bit : ℕ) → IsLeast 64 (λ b. is_set word b) bit → count ≤ 64 * w + bit
      → (p : ℕ) → p < count → apart_at first second opposite counting p ≡ false
  none-here count bit least past p below = (least-here (64 * w + bit + 1) bit least (omega arith)).least p (omega arith)

-- ---- tests that agree, and the first element of a list

pub first-same : (count : ℕ) (t u : ℕ → Bool) → ((p : ℕ) → p < count → t p ≡ u p) → (o : Option ℕ) → IsFirstOf count t o → IsFirstOf count u o
first-same count t u same None none = λ p below. sym (same p below) ∙ none p below
first-same count t u same (Some n) first = record {
  below = first.below;
  passes = sym (same n first.below) ∙ first.passes;
  least = λ p less. sym (same p (omega (arith, less, first.below))) ∙ first.least p less;
}

module _ {X : Type 0} (test : X → Bool) (d : X) where
  pub find-none : (xs : List X) → ((p : ℕ) → p < length xs → test (slice_index_or xs p d) ≡ false) → find test xs ≡ None
  find-none [] none = refl
  find-none (x ∷ xs) none =
      let first : test x ≡ false = none 0 (omega arith) in
      rw first (find-none xs (λ p below. none (suc p) (omega arith)))

  pub find-at : (xs : List X) (n : ℕ) → IsLeast (length xs) (λ p. test (slice_index_or xs p d)) n
      → find test xs ≡ Some (slice_index_or xs n d)
  find-at [] n least = absurd (omega (arith, least.below))
  find-at (x ∷ xs) zero least = let first : test x ≡ true = least.passes in rw first refl
  find-at (x ∷ xs) (suc n) least =
      let first : test x ≡ false = least.least 0 (omega arith) in
      rw first (find-at xs n (record {
        below = omega (arith, least.below);
        passes = least.passes;
        least = λ p less. least.least (suc p) (omega arith);
      }))

-- ---- outputs

-- the node of an AIGER literal is no XOR
no-xor_named : (i : ℕ) (b : Bool) (o : Option ℕ) (s : Side) (v : ℕ)
    → same_node (Xor i) (if b then Const else option_map_or Input o (Gate s v)) ≡ false
no-xor_named i true o s v = refl
no-xor_named i false None s v = refl
no-xor_named i false (Some k) s v = refl

pub some-is : (o : Option ℕ) → is_some o ≡ true → IsSome o
some-is None e = cc
some-is (Some k) e = refl

pub some-of : {X : Type 0} (o : Option X) (x : X) → o ≡ Some x → IsSome o
some-of None x e = cc
some-of (Some y) x e = refl

module _ (net : AigPair) (is : IsNet net) (j : ℕ) (below : j < length net.a.outputs) where
  -- each side has the output
  pub output-there : (s : Side) → IsSome (output_of net s j)
  output-there s = some-of (output_of net s j) (output_lit net s j) (output_of-below net is s j below)

  -- and its node has a position
  pub output-placed : (s : Side) (l : Lit) → output_of net s j ≡ Some l → IsSome (position_of net l.node)
  output-placed s l found =
      let same : output_lit net s j ≡ l = same_Some (output_lit net s j) l (sym (output_of-below net is s j below) ∙ found) in
      subst (λ (m : Lit). IsSome (position_of net m.node)) same (some-is (position_of net (output_lit net s j).node) placed)
    where
      lit : ℕ
      lit = slice_index (circuit_of net s).outputs j

      there : has same_node (variables_of net) (output_lit net s j).node ≡ true
      there =
          (variables-outputs net is).output s j (output_lit net s j) (output_of-below net is s j below)
          (has-xor net j ∙ range-has 0 (length net.a.outputs) j (omega arith) (omega (arith, below)))

      placed : is_some (position_of net (output_lit net s j).node) ≡ true
      placed =
          is_some-place (λ n. same_node n (output_lit net s j).node) (nodes_of net)
          ∙ has-position net (output_lit net s j).node
          (λ i. no-xor_named i (var_of lit == 0) (place_of (λ x. x == var_of lit) (circuit_of net s).inputs) s (var_of lit)) there

  -- the outputs' literals differ exactly where the outputs do
  pub lits-differ : (bits : List Bool)
      → differs (lit_holds (value_of net bits) (output_lit net A j)) (lit_holds (value_of net bits) (output_lit net B j))
      ≡ differs (output_value net.a bits j) (output_value net.b bits j)
  lits-differ bits =
      sym (xor_from_meets (value_of net bits) (Xor j) (output_lit net A j) (output_lit net B j)
      (meets_from_kept (value_of net bits) (xor_clauses (Xor j) (output_lit net A j) (output_lit net B j)) meets))
    where
      meets : Meets (lit_holds (value_of net bits)) (kept (xor_clauses (Xor j) (output_lit net A j) (output_lit net B j)))
      meets =
          subst (λ (o : Option Lit). Meets (lit_holds (value_of net bits)) (xor_axioms j (Some (output_lit net A j)) o))
          (output_of-below net is B j below)
          (subst (λ (o : Option Lit). Meets (lit_holds (value_of net bits)) (xor_axioms j o (output_of net B j)))
          (output_of-below net is A j below) (values-meet net is bits (Xor j)))

-- a node with a position stands below their number
pub position-below : (net : AigPair) (n : Node) (p : ℕ) → position_of net n ≡ Some p → p < length (nodes_of net)
position-below net n p found = (at-place (λ m. same_node m n) (nodes_of net) p found).3

-- the row at a node's position is the node's
pub placed-row : (net : AigPair) (n : Node) (p : ℕ) (sigs : Signatures) (row : List ℕ) → position_of net n ≡ Some p
    → length sigs.rows ≡ length (nodes_of net) → row ≡ slice_index_or sigs.rows p []
    → (patterns : List (List Bool)) → AreSignatures net patterns sigs → IsRow net patterns n row
placed-row net n p sigs row place rows is patterns are =
    let inside : p < length sigs.rows = omega (arith, rows, position-below net n p place) in
    subst (λ (r : List ℕ). IsRow net patterns n r) (sym is)
    (subst (λ (m : Node). IsRow net patterns m (slice_index_or sigs.rows p [])) (node-at net n p place) (are.each p inside))

-- so that of an output's literal
pub output-row : (net : AigPair) (s : Side) (j : ℕ) (l lit : Lit) (p : ℕ) (sigs : Signatures) (row : List ℕ)
    → output_of net s j ≡ Some l → position_of net l.node ≡ Some p → length sigs.rows ≡ length (nodes_of net)
    → row ≡ slice_index_or sigs.rows p [] → (patterns : List (List Bool)) → AreSignatures net patterns sigs
    → output_of net s j ≡ Some lit → IsRow net patterns lit.node row
output-row net s j l lit p sigs row found place rows is patterns are again =
    subst (λ (m : Lit). IsRow net patterns m.node row) (same_Some l lit (sym found ∙ again))
    (placed-row net l.node p sigs row place rows is patterns are)

-- a bit of a row
pub row-bit : (count : ℕ) (truth : ℕ → Bool) (row : List ℕ) → HasBits count truth row → (p : ℕ) → p < count → bit_of row p ≡ truth p
row-bit count truth row has p below =
    let inside : p / 64 < length row = omega (arith, has.size, below) in
    let whole : 64 * (p / 64) + p % 64 ≡ p = omega arith in
    let counts : nat_lt p count ≡ true = lt-ltb p count below in
    has.bits (p / 64) (p % 64) inside (omega arith) ∙ rw (whole, counts) refl

-- which literal differs of which node's values and signs
signs : (m n x y : Bool) → differs (differs m n) (differs x y)
    ≡ differs (if m then not x else x) (if n then not y else y)
signs false false x y = refl
signs false true false y = refl
signs false true true false = refl
signs false true true true = refl
signs true false false y = refl
signs true false true false = refl
signs true false true true = refl
signs true true false false = refl
signs true true false true = refl
signs true true true false = refl
signs true true true true = refl

-- where the rows of an output's literals differ and an admitted pattern's bit counts, the output is told apart
pub rows-differ : (net : AigPair) → IsNet net → (j : ℕ) → j < length net.a.outputs → (patterns : List (List Bool))
    → (first second counting : List ℕ) → IsRow net patterns (output_lit net A j).node first
    → IsRow net patterns (output_lit net B j).node second → HasBitsFor patterns (admits net) counting → (p : ℕ) → p < length patterns
    → apart_at first second (differs (output_lit net A j).neg (output_lit net B j).neg) counting p
    ≡ tells_apart net j (slice_index_or patterns p [])
rows-differ net is j below patterns first second counting one two admitted p within =
    let bits : List Bool = slice_index_or patterns p [] in
    let a : Lit = output_lit net A j in
    let b : Lit = output_lit net B j in
    let x : bit_of first p ≡ value_of net bits a.node = row-bit (length patterns) (value_on net patterns a.node) first one p within in
    let y : bit_of second p ≡ value_of net bits b.node = row-bit (length patterns) (value_on net patterns b.node) second two p within in
    let counts : bit_of counting p ≡ admits net bits = admitted p within in
    ap₂ ◌&&◌ counts
    (rw (x, y) (signs a.neg b.neg (value_of net bits a.node) (value_of net bits b.node)) ∙ lits-differ net is j below bits)

pub first-told : (net : AigPair) → IsNet net → (j : ℕ) → j < length net.a.outputs → (patterns : List (List Bool))
    → (first second : List ℕ) (opposite : Bool) (counting : List ℕ) (count : ℕ) (o : Option ℕ)
    → IsRow net patterns (output_lit net A j).node first → IsRow net patterns (output_lit net B j).node second
    → HasBitsFor patterns (admits net) counting → opposite ≡ differs (output_lit net A j).neg (output_lit net B j).neg
    → count ≡ length patterns → IsFirstOf count (apart_at first second opposite counting) o
    → IsFirstOf (length patterns) (λ p. tells_apart net j (slice_index_or patterns p [])) o
first-told net is j below patterns first second opposite counting count o one two admitted sign size found =
    first-same (length patterns) (apart_at first second opposite counting) (λ p. tells_apart net j (slice_index_or patterns p []))
    (λ p within. ap (λ (t : Bool). apart_at first second t counting p) sign
    ∙ rows-differ net is j below patterns first second counting one two admitted p within)
    o (subst (λ (n : ℕ). IsFirstOf n (apart_at first second opposite counting) o) size found)

-- one output more that none tells apart
pub none-next-output : (net : AigPair) (patterns : List (List Bool)) (n : ℕ)
    → ((k : ℕ) → k < n → find (tells_apart net k) patterns ≡ None) → find (tells_apart net n) patterns ≡ None
    → (k : ℕ) → k < n + 1 → find (tells_apart net k) patterns ≡ None
none-next-output net patterns n before here k below = elim (cases_lt k n) [
  | inl less ↦ before k less
  | inr more ↦
      let same : n ≡ k = omega arith in
      subst (λ (j : ℕ). find (tells_apart net j) patterns ≡ None) same here
]

-- ---- inputs

-- an input's truth value in a pattern
pub input-bit : (net : AigPair) (patterns : List (List Bool)) (sigs : Signatures) → AreSignatures net patterns sigs → (k p : ℕ)
    → k < length net.a.inputs → p < sigs.patterns
    → bit_of (slice_index_or sigs.rows (k + 1) []) p ≡ slice_index_or (slice_index_or patterns p []) k false
input-bit net patterns sigs are k p below within =
    let inside : k + 1 < length sigs.rows = omega (arith, are.count, length-nodes net, below) in
    row-bit (length patterns) (value_on net patterns (node_at net (k + 1))) (slice_index_or sigs.rows (k + 1) []) (are.each (k + 1) inside) p
    (omega (arith, are.size, within))
    ∙ ap (value_of net (slice_index_or patterns p [])) (node-input net k below)

-- each pattern has as many truth values
pub whole-at : (n : ℕ) (patterns : List (List Bool)) → AllByRecursion (λ bits. length bits ≡ n) patterns → (k : ℕ)
    → k < length patterns → length (slice_index_or patterns k []) ≡ n
whole-at n [] whole k below = absurd (omega (arith, below))
whole-at n (p ∷ ps) whole zero below = whole.0
whole-at n (p ∷ ps) whole (suc k) below = whole-at n ps whole.1 k (omega (arith, below))

-- one input more
pub bits-more : (sigs : Signatures) (p k : ℕ) (old new : List Bool) (v : Bool) → HasBitsOf sigs p k old → new ≡ old ++ v ∷ []
    → v ≡ bit_of (slice_index_or sigs.rows (k + 1) []) p → HasBitsOf sigs p (k + 1) new
bits-more sigs p k old new v before is last =
    is ∙ ap (λ (bs : List Bool). bs ++ v ∷ []) before
    ∙ ap (λ (b : Bool). map (λ i. bit_of (slice_index_or sigs.rows (i + 1) []) p) (range_with_len 0 k) ++ b ∷ []) last
    ∙ sym (map-range_with_len_more (λ i. bit_of (slice_index_or sigs.rows (i + 1) []) p) 0 k k (omega arith))

-- the inputs' bits on a pattern are the pattern
pub bits-are : (net : AigPair) (patterns : List (List Bool)) (sigs : Signatures) → AreSignatures net patterns sigs
    → AllByRecursion (λ bits. length bits ≡ length net.a.inputs) patterns → (p inputs : ℕ) → p < length patterns
    → inputs ≡ length net.a.inputs → (bits : List Bool) → HasBitsOf sigs p inputs bits → bits ≡ slice_index_or patterns p []
bits-are net patterns sigs are whole p inputs below same bits has =
    has ∙ sym (fill_by_all (λ k. bit_of (slice_index_or sigs.rows (k + 1) []) p) (slice_index_or patterns p []) inputs false
    (whole-at (length net.a.inputs) patterns whole p below ∙ sym same)
    (λ k inside. sym (input-bit net patterns sigs are k p (omega (arith, same, inside)) (omega (arith, are.size, below)))))

-- ---- what is told

distinct : (x y : Bool) → differs x y ≡ true → x ≢ y
distinct false false d = cc
distinct false true d = λ e. cc
distinct true false d = λ e. cc
distinct true true d = cc

-- an output differs on the pattern that tells it apart
pub first-differs : (net : AigPair) (patterns : List (List Bool)) (j : ℕ) (input : List Bool)
    → AllByRecursion (λ bits. length bits ≡ length net.a.inputs) patterns → IsFirstApart net patterns j input → DiffersAt net j input
first-differs net patterns j input whole first =
    let found = found-one (tells_apart net j) (λ bits. length bits ≡ length net.a.inputs) patterns input whole first.first in
    let told = and_parts (admits net input) (differs (output_value net.a input j) (output_value net.b input j)) found.1 in
    let met = and_parts (meets_constraints net.a input) (meets_constraints net.b input) told.0 in
    record {
      admitted = record { whole = found.0; of_a = met.0; of_b = met.1 };
      within = first.within;
      apart = distinct (output_value net.a input j) (output_value net.b input j) told.1;
    }
