-- The parity of some inputs, in two architectures: whether an odd number of them is true.
use Rattle.std.specs.Prelude.{ℕ, zero, suc, ◌+◌, ◌-◌, List, [], ◌∷◌, ◌++◌, map}
use Rattle.std.specs.List.{range_with_len}
use Rattle.workload_gen.specs.Gates.{Draft, ◌>>=◌, done, input_literal, xor_gate}

-- the XOR of c and so many inputs from input k on, one after the other
unfoldable pub chained : ℕ → ℕ → ℕ → Draft → ℕ × Draft
chained zero k c = done c
chained (suc count) k c = do
  d ← xor_gate c (input_literal k)
  chained count (k + 1) d

-- Neighbours of a row joined from the left by XOR, behind those that were; an odd last one stays.
unfoldable pub joined : List ℕ → List ℕ → Draft → List ℕ × Draft
joined row [] = done row
joined row (x ∷ []) = done (row ++ x ∷ [])
joined row (x ∷ y ∷ rest) = do
  z ← xor_gate x y
  joined (row ++ z ∷ []) rest

-- the row after so many rounds, each of which joins all neighbours; a row of one stays
unfoldable pub rounds : ℕ → List ℕ → Draft → List ℕ × Draft
rounds zero row = done row
rounds (suc count) row = do
  shorter ← joined [] row
  rounds count shorter

-- the inputs from left to right
abbrev pub parity_chain : ℕ → Draft → List ℕ × Draft
parity_chain n = do
  c ← chained (n - 1) 1 (input_literal 0)
  done (c ∷ [])

-- as a tree: after as many rounds as there are inputs, one is left
abbrev pub parity_tree : ℕ → Draft → List ℕ × Draft
parity_tree n = rounds n (map input_literal (range_with_len 0 n))
