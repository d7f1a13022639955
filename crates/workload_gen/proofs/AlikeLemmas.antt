-- The circuits of a workload have equally many inputs, and equally many outputs.
use Rattle.std.proofs.Common.{◌≡◌, ℕ, zero, suc, ◌+◌, ◌-◌, ◌*◌, ◌/◌, ◌≤◌, min, List, [], ◌∷◌, ◌++◌}
use Rattle.std.proofs.Common.{length, length-append, map, refl, sym, ap, ◌∙◌, arith}
use Rattle.std.specs.List.{range_with_len}
use Rattle.std.proofs.lemmas.List.FromFn.{length-map-range_with_len}
use Rattle.workload_gen.specs.Gates.{Draft, start, input_literal, and_gate, or_gate, xor_gate}
use Rattle.workload_gen.specs.Gates.{mux_gate, full_adder}
use Rattle.workload_gen.specs.Adder.{summed, chosen, selected, blocks, ripple_adder, select_adder}
use Rattle.workload_gen.specs.Parity.{chained, joined, rounds, parity_tree}
use Rattle.workload_gen.specs.Comparator.{raised_bit, raised, lowered_bit, lowered}
use Rattle.workload_gen.specs.Workload.{first_circuit, second_circuit}
use Rattle.workload_gen.specs.declared.kind.Kind.{Kind}
use Rattle.workload_gen.specs.declared.kind.Kind.TheVariants.{Adder, Parity, Comparator}

-- ---- no gate adds an input

xor-inputs : (x y : ℕ) (d : Draft) → (xor_gate x y d).1.inputs ≡ d.inputs
unfolding xor_gate or_gate and_gate
xor-inputs x y d = refl

mux-inputs : (s x y : ℕ) (d : Draft) → (mux_gate s x y d).1.inputs ≡ d.inputs
unfolding mux_gate or_gate and_gate
mux-inputs s x y d = refl

full-inputs : (x y c : ℕ) (d : Draft) → (full_adder x y c d).1.inputs ≡ d.inputs
unfolding full_adder xor_gate or_gate and_gate
full-inputs x y c d = refl

raised_bit-inputs : (n k less : ℕ) (d : Draft) → (raised_bit n k less d).1.inputs ≡ d.inputs
unfolding raised_bit xor_gate mux_gate or_gate and_gate
raised_bit-inputs n k less d = refl

lowered_bit-inputs : (n k equal less : ℕ) (d : Draft)
    → (lowered_bit n k equal less d).1.inputs ≡ d.inputs
unfolding lowered_bit xor_gate or_gate and_gate
lowered_bit-inputs n k equal less d = refl

-- ---- adders

abbrev bit : ℕ → ℕ → ℕ → Draft → (ℕ × ℕ) × Draft
bit n k c d = full_adder (input_literal k) (input_literal (n + k)) c d

summed-inputs : (n count k : ℕ) (sums : List ℕ) (c : ℕ) (d : Draft)
    → (summed n count k sums c d).1.inputs ≡ d.inputs
unfolding summed
summed-inputs n zero k sums c d = refl
summed-inputs n (suc count) k sums c d =
    let s = bit n k c d in
    summed-inputs n count (k + 1) (sums ++ s.0.0 ∷ []) s.0.1 s.1
    ∙ full-inputs (input_literal k) (input_literal (n + k)) c d

summed-length : (n count k : ℕ) (sums : List ℕ) (c : ℕ) (d : Draft)
    → length (summed n count k sums c d).0.0 ≡ length sums + count
unfolding summed
summed-length n zero k sums c d = omega arith
summed-length n (suc count) k sums c d =
    let s = bit n k c d in
    omega (
      arith,
      summed-length n count (k + 1) (sums ++ s.0.0 ∷ []) s.0.1 s.1,
      length-append sums (s.0.0 ∷ []),
    )

chosen-inputs : (c : ℕ) (xs ys sums : List ℕ) (d : Draft)
    → (chosen c xs ys sums d).1.inputs ≡ d.inputs
unfolding chosen
chosen-inputs c [] ys sums d = refl
chosen-inputs c (x ∷ xs) [] sums d = refl
chosen-inputs c (x ∷ xs) (y ∷ ys) sums d =
    let z = mux_gate c x y d in
    chosen-inputs c xs ys (sums ++ z.0 ∷ []) z.1 ∙ mux-inputs c x y d

chosen-length : (c : ℕ) (xs ys sums : List ℕ) (d : Draft) → length xs ≡ length ys
    → length (chosen c xs ys sums d).0 ≡ length sums + length xs
unfolding chosen
chosen-length c [] ys sums d same = omega arith
chosen-length c (x ∷ xs) [] sums d same = absurd (omega (arith, same))
chosen-length c (x ∷ xs) (y ∷ ys) sums d same =
    let z = mux_gate c x y d in
    let rest : length xs ≡ length ys = omega (arith, same) in
    omega (
      arith,
      chosen-length c xs ys (sums ++ z.0 ∷ []) z.1 rest,
      length-append sums (z.0 ∷ []),
    )

module _ (n count k : ℕ) (sums : List ℕ) (c : ℕ) (d : Draft) where
  abbrev without : (List ℕ × ℕ) × Draft
  without = summed n count k [] 0 d

  abbrev with_carry : (List ℕ × ℕ) × Draft
  with_carry = summed n count k [] 1 without.1

  abbrev more : List ℕ × Draft
  more = chosen c with_carry.0.0 without.0.0 sums with_carry.1

  selected-inputs : (selected n count k sums c d).1.inputs ≡ d.inputs
  unfolding selected
  selected-inputs =
      mux-inputs c with_carry.0.1 without.0.1 more.1
      ∙ chosen-inputs c with_carry.0.0 without.0.0 sums with_carry.1
      ∙ summed-inputs n count k [] 1 without.1 ∙ summed-inputs n count k [] 0 d

  selected-length : length (selected n count k sums c d).0.0 ≡ length sums + count
  unfolding selected
  selected-length =
      let zeros : length without.0.0 ≡ count = omega (arith, summed-length n count k [] 0 d) in
      let ones : length with_carry.0.0 ≡ count =
      omega (arith, summed-length n count k [] 1 without.1) in
      chosen-length c with_carry.0.0 without.0.0 sums with_carry.1 (ones ∙ sym zeros)
      ∙ ap (λ (m : ℕ). length sums + m) ones

blocks-inputs : (n count k : ℕ) (sums : List ℕ) (c : ℕ) (d : Draft)
    → (blocks n count k sums c d).1.inputs ≡ d.inputs
unfolding blocks
blocks-inputs n zero k sums c d = refl
blocks-inputs n (suc count) k sums c d =
    let s = selected n (min 4 (n - k)) k sums c d in
    blocks-inputs n count (k + 4) s.0.0 s.0.1 s.1 ∙ selected-inputs n (min 4 (n - k)) k sums c d

blocks-length : (n count k : ℕ) (sums : List ℕ) (c : ℕ) (d : Draft)
    → length (blocks n count k sums c d).0.0 ≡ length sums + min (4 * count) (n - k)
unfolding blocks
blocks-length n zero k sums c d = omega arith
blocks-length n (suc count) k sums c d =
    let s = selected n (min 4 (n - k)) k sums c d in
    omega (
      arith,
      blocks-length n count (k + 4) s.0.0 s.0.1 s.1,
      selected-length n (min 4 (n - k)) k sums c d,
    )

ripple-length : (n : ℕ) → length (ripple_adder n (start (2 * n))).0 ≡ n + 1
ripple-length n =
    let s = summed n n 0 [] 0 (start (2 * n)) in
    omega (arith, length-append s.0.0 (s.0.1 ∷ []), summed-length n n 0 [] 0 (start (2 * n)))

select-length : (n : ℕ) → length (select_adder n (start (2 * n))).0 ≡ n + 1
select-length n =
    let s = blocks n ((n + 3) / 4) 0 [] 0 (start (2 * n)) in
    omega (
      arith,
      length-append s.0.0 (s.0.1 ∷ []),
      blocks-length n ((n + 3) / 4) 0 [] 0 (start (2 * n)),
    )

-- ---- parities

chained-inputs : (count k c : ℕ) (d : Draft) → (chained count k c d).1.inputs ≡ d.inputs
unfolding chained
chained-inputs zero k c d = refl
chained-inputs (suc count) k c d =
    let x = xor_gate c (input_literal k) d in
    chained-inputs count (k + 1) x.0 x.1 ∙ xor-inputs c (input_literal k) d

joined-inputs : (done row : List ℕ) (d : Draft) → (joined done row d).1.inputs ≡ d.inputs
unfolding joined
joined-inputs done [] d = refl
joined-inputs done (x ∷ []) d = refl
joined-inputs done (x ∷ y ∷ rest) d =
    let z = xor_gate x y d in
    joined-inputs (done ++ z.0 ∷ []) rest z.1 ∙ xor-inputs x y d

joined-length : (done row : List ℕ) (d : Draft)
    → length (joined done row d).0 ≡ length done + (length row + 1) / 2
unfolding joined
joined-length done [] d = omega arith
joined-length done (x ∷ []) d = omega (arith, length-append done (x ∷ []))
joined-length done (x ∷ y ∷ rest) d =
    let z = xor_gate x y d in
    omega (arith, joined-length (done ++ z.0 ∷ []) rest z.1, length-append done (z.0 ∷ []))

rounds-inputs : (count : ℕ) (row : List ℕ) (d : Draft) → (rounds count row d).1.inputs ≡ d.inputs
unfolding rounds
rounds-inputs zero row d = refl
rounds-inputs (suc count) row d =
    let s = joined [] row d in
    rounds-inputs count s.0 s.1 ∙ joined-inputs [] row d

-- enough rounds leave one
rounds-length : (count : ℕ) (row : List ℕ) (d : Draft) → 1 ≤ length row → length row ≤ count + 1
    → length (rounds count row d).0 ≡ 1
unfolding rounds
rounds-length zero row d some few = omega (arith, some, few)
rounds-length (suc count) row d some few =
    let s = joined [] row d in
    let size : length s.0 ≡ (length row + 1) / 2 = omega (arith, joined-length [] row d) in
    rounds-length count s.0 s.1 (omega (arith, size, some)) (omega (arith, size, some, few))

abbrev inputs_row : ℕ → List ℕ
inputs_row n = map input_literal (range_with_len 0 n)

tree-length : (n : ℕ) → 1 ≤ n → length (parity_tree n (start n)).0 ≡ 1
tree-length n some =
    let size : length (inputs_row n) ≡ n = length-map-range_with_len input_literal 0 n in
    rounds-length n (inputs_row n) (start n) (omega (arith, size, some)) (omega (arith, size))

-- ---- comparators

raised-inputs : (n count k less : ℕ) (d : Draft) → (raised n count k less d).1.inputs ≡ d.inputs
unfolding raised
raised-inputs n zero k less d = refl
raised-inputs n (suc count) k less d =
    let l = raised_bit n k less d in
    raised-inputs n count (k + 1) l.0 l.1 ∙ raised_bit-inputs n k less d

lowered-inputs : (n k equal less : ℕ) (d : Draft) → (lowered n k equal less d).1.inputs ≡ d.inputs
unfolding lowered
lowered-inputs n zero equal less d = refl
lowered-inputs n (suc k) equal less d =
    let s = lowered_bit n k equal less d in
    lowered-inputs n k s.0.0 s.0.1 s.1 ∙ lowered_bit-inputs n k equal less d

-- ---- the circuits of a kind

same-inputs : (m i j : ℕ) → i ≡ m → j ≡ m
    → length (range_with_len 1 i) ≡ length (range_with_len 1 j)
same-inputs m i j first second =
    ap (λ (k : ℕ). length (range_with_len 1 k)) (first ∙ sym second)

pub inputs-alike : (kind : Kind) (n : ℕ)
    → length (first_circuit kind n).inputs ≡ length (second_circuit kind n).inputs
unfolding first_circuit second_circuit
inputs-alike Adder n = same-inputs (2 * n) _ _ (summed-inputs n n 0 [] 0 (start (2 * n)))
    (blocks-inputs n ((n + 3) / 4) 0 [] 0 (start (2 * n)))
inputs-alike Parity n = same-inputs n _ _ (chained-inputs (n - 1) 1 (input_literal 0) (start n))
    (rounds-inputs n (inputs_row n) (start n))
inputs-alike Comparator n = same-inputs (2 * n) _ _ (raised-inputs n n 0 0 (start (2 * n)))
    (lowered-inputs n n 1 0 (start (2 * n)))

pub outputs-alike : (kind : Kind) (n : ℕ) → 1 ≤ n
    → length (first_circuit kind n).outputs ≡ length (second_circuit kind n).outputs
unfolding first_circuit second_circuit
outputs-alike Adder n some = ripple-length n ∙ sym (select-length n)
outputs-alike Parity n some = sym (tree-length n some)
outputs-alike Comparator n some = refl
