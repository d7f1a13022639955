-- Whether the first of two numbers of n bits is less than the second, in two architectures. Input k is bit k of the first
-- number, input n + k that of the second.
use Rattle.std.specs.Prelude.{ℕ, zero, suc, ◌+◌, List, [], ◌∷◌}
use Rattle.workload_gen.specs.Gates.{Draft, ◌>>=◌, done, input_literal, negated, and_gate, or_gate, xor_gate, mux_gate}

-- Bit k upwards: where the bits differ, the second number's decides, else what was found below.
unfoldable pub raised_bit : ℕ → ℕ → ℕ → Draft → ℕ × Draft
raised_bit n k less = do
  d ← xor_gate (input_literal k) (input_literal (n + k))
  mux_gate d (input_literal (n + k)) less

-- so many bits from bit k up
unfoldable pub raised : ℕ → ℕ → ℕ → ℕ → Draft → ℕ × Draft
raised n zero k less = done less
raised n (suc count) k less = do
  l ← raised_bit n k less
  raised n count (k + 1) l

-- Bit k downwards: the first number is less where it is at the first bits that differ, and `equal` tells that none did
-- above. Both are answered, `equal` first.
unfoldable pub lowered_bit : ℕ → ℕ → ℕ → ℕ → Draft → (ℕ × ℕ) × Draft
lowered_bit n k equal less = do
  p ← and_gate (negated (input_literal k)) (input_literal (n + k))
  q ← and_gate equal p
  l ← or_gate less q
  d ← xor_gate (input_literal k) (input_literal (n + k))
  e ← and_gate equal (negated d)
  done (e, l)

-- the bits below k
unfoldable pub lowered : ℕ → ℕ → ℕ → ℕ → Draft → ℕ × Draft
lowered n zero equal less = done less
lowered n (suc k) equal less = do
  s ← lowered_bit n k equal less
  lowered n k s.0 s.1

-- from the lowest bit up
abbrev pub comparator_up : ℕ → Draft → List ℕ × Draft
comparator_up n = do
  l ← raised n n 0 0
  done (l ∷ [])

-- from the highest bit down
abbrev pub comparator_down : ℕ → Draft → List ℕ × Draft
comparator_down n = do
  l ← lowered n n 1 0
  done (l ∷ [])
