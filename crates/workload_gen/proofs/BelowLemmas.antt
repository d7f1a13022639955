-- Literals of variables below a number.
use Rattle.std.proofs.Common.{◌≡◌, ℕ, zero, suc, ◌+◌, ◌<◌, ◌≤◌, List, [], ◌∷◌, ◌++◌, length, get_or, drop, Result, Ok, Err, OnOk, arith}
use Rattle.std.specs.declared.alloc.AllocError.{AllocError}
use Rattle.netlist.specs.Circuit.{var_of}
use Rattle.aiger_binary.specs.Binary.{AreBelow}

-- below a greater number too
pub AreBelow-more : (n m : ℕ) (lits : List ℕ) → AreBelow n lits → n ≤ m → AreBelow m lits
AreBelow-more n m [] below le = tt
AreBelow-more n m (l ∷ ls) below le = (omega (arith, below.0), AreBelow-more n m ls below.1 le)

-- where a call answered, and more variables are there
pub AreBelow-more_ok : (r : Result ℕ AllocError) (n m k : ℕ) (lits : List ℕ) → AreBelow n lits → OnOk r (m ≡ n + k) → OnOk r (AreBelow m lits)
AreBelow-more_ok (Ok x) n m k lits below is = AreBelow-more n m lits below (omega (arith, is))
AreBelow-more_ok (Err e) n m k lits below is = tt

-- each of them is
pub AreBelow-at : (n : ℕ) (lits : List ℕ) (i : ℕ) → AreBelow n lits → i < length lits → var_of (get_or lits i 0) < n
AreBelow-at n [] i below lt = absurd (omega arith)
AreBelow-at n (l ∷ ls) zero below lt = below.0
AreBelow-at n (l ∷ ls) (suc i) below lt = AreBelow-at n ls i below.1 (omega arith)

pub AreBelow-append : (n : ℕ) (xs ys : List ℕ) → AreBelow n xs → AreBelow n ys → AreBelow n (xs ++ ys)
AreBelow-append n [] ys a b = b
AreBelow-append n (x ∷ xs) ys a b = (a.0, AreBelow-append n xs ys a.1 b)

pub AreBelow-drop : (n i : ℕ) (lits : List ℕ) → AreBelow n lits → AreBelow n (drop i lits)
AreBelow-drop n zero lits below = below
AreBelow-drop n (suc i) [] below = tt
AreBelow-drop n (suc i) (l ∷ ls) below = AreBelow-drop n i ls below.1
