-- The sum of two numbers of n bits, in two architectures. Input k is bit k of the first number, input n + k that of the
-- second; the outputs are the bits of the sum from the lowest up, and then the carry.
use Rattle.std.specs.Prelude.{ℕ, zero, suc, ◌+◌, ◌-◌, ◌/◌, min, List, [], ◌∷◌, ◌++◌}
use Rattle.workload_gen.specs.Gates.{Draft, ◌>>=◌, done, input_literal, full_adder, mux_gate}

-- the sums of so many bits from bit k on, behind those before them, and the carry
unfoldable pub summed : ℕ → ℕ → ℕ → List ℕ → ℕ → Draft → (List ℕ × ℕ) × Draft
summed n zero k sums c = done (sums, c)
summed n (suc count) k sums c = do
  s ← full_adder (input_literal k) (input_literal (n + k)) c
  summed n count (k + 1) (sums ++ s.0 ∷ []) s.1

-- of two rows the bits of the first where c is true, else those of the second, behind those before them
unfoldable pub chosen : ℕ → List ℕ → List ℕ → List ℕ → Draft → List ℕ × Draft
chosen c (x ∷ xs) (y ∷ ys) sums = do
  z ← mux_gate c x y
  chosen c xs ys (sums ++ z ∷ [])
chosen c xs ys sums = done sums

-- A block of bits from bit k on: both sums, with carry 0 and with carry 1, of which the carry before it chooses.
unfoldable pub selected : ℕ → ℕ → ℕ → List ℕ → ℕ → Draft → (List ℕ × ℕ) × Draft
selected n count k sums c = do
  without ← summed n count k [] 0
  with_carry ← summed n count k [] 1
  more ← chosen c with_carry.0 without.0 sums
  carry ← mux_gate c with_carry.1 without.1
  done (more, carry)

-- so many blocks from bit k on, of four bits each, of which the last may be shorter
unfoldable pub blocks : ℕ → ℕ → ℕ → List ℕ → ℕ → Draft → (List ℕ × ℕ) × Draft
blocks n zero k sums c = done (sums, c)
blocks n (suc count) k sums c = do
  s ← selected n (min 4 (n - k)) k sums c
  blocks n count (k + 4) s.0 s.1

abbrev pub with_last : List ℕ × ℕ → List ℕ
with_last s = s.0 ++ s.1 ∷ []

-- the carry goes from bit to bit
abbrev pub ripple_adder : ℕ → Draft → List ℕ × Draft
ripple_adder n = do
  s ← summed n n 0 [] 0
  done (with_last s)

-- the carry goes from block to block (carry select, O. J. Bedrij, 1962)
abbrev pub select_adder : ℕ → Draft → List ℕ × Draft
select_adder n = do
  s ← blocks n ((n + 3) / 4) 0 [] 0
  done (with_last s)
