-- One more output or gate, and the fault of one.
use Rattle.std.proofs.Common.{◌≡◌, ◌≢◌, ℕ, zero, suc, ◌+◌, ◌-◌, ◌*◌, ◌<◌, ◌≤◌, min, false, List, [], ◌∷◌, ◌++◌, length, drop, Some, None, Ok, Err, refl, sym, ap, ◌∙◌, arith, length-drop}
use Rattle.std.specs.Prelude.{nat_lt, slice_get}
use Rattle.std.proofs.lemmas.Option.{none-some, same_Some}
use Rattle.lits.proofs.Facts.{left-more, left-none}
use Rattle.byte_scan.specs.declared.errors.AigerErr.{AigerErr}
use Rattle.byte_scan.specs.declared.errors.AigerErr.TheVariants.{Truncated}
use Rattle.byte_scan.specs.Scanning.{Place, ahead, moved}
use Rattle.byte_scan.specs.Reading.{IsFault, literal_line_at}
use Rattle.byte_scan.proofs.Facts.{IsFault-bind}
use Rattle.netlist.specs.declared.gate.And.{And}
use Rattle.aiger_binary.specs.Binary.{literals_at, gate_at, gates_at, groups_at}
use Rattle.circuit_text.specs.BinaryText.{power_of}

pub literals-step : (n k m : ℕ) (lits : List ℕ) (p : Place) (lit : ℕ) (q : Place) → k < n → literal_line_at m p ≡ Ok (lit, q)
    → literals_at (n - k) m lits p ≡ literals_at (n - (k + 1)) m (lits ++ lit ∷ []) q
literals-step n k m lits p lit q lt e = rw (left-more n k lt, e) refl

pub literals-fault : (n k m : ℕ) (lits : List ℕ) (p : Place) (e : AigerErr) → k < n → IsFault e (literal_line_at m p) → IsFault e (literals_at (n - k) m lits p)
literals-fault n k m lits p e lt fault =
    rw (left-more n k lt) (IsFault-bind e (literal_line_at m p) (λ lit. literals_at (n - (k + 1)) m (lits ++ lit.0 ∷ []) lit.1) fault)

pub literals-end : (n k m : ℕ) (lits : List ℕ) (p : Place) → n ≤ k → literals_at (n - k) m lits p ≡ Ok (lits, p)
literals-end n k m lits p le = rw (left-none n k le) refl

pub gates-step : (n k i : ℕ) (gs : List And) (p : Place) (g : And) (q : Place) → k < n → length gs ≡ k → gate_at k (i + k + 1) p ≡ Ok (g, q)
    → gates_at (n - k) i gs p ≡ gates_at (n - (k + 1)) i (gs ++ g ∷ []) q
gates-step n k i gs p g q lt count e = rw (left-more n k lt, count, e) refl

pub gates-fault : (n k i : ℕ) (gs : List And) (p : Place) (e : AigerErr) → k < n → length gs ≡ k → IsFault e (gate_at k (i + k + 1) p) → IsFault e (gates_at (n - k) i gs p)
gates-fault n k i gs p e lt count fault =
    rw (left-more n k lt, count) (IsFault-bind e (gate_at k (i + k + 1) p) (λ g. gates_at (n - (k + 1)) i (gs ++ g.0 ∷ []) g.1) fault)

pub gates-end : (n k i : ℕ) (gs : List And) (p : Place) → n ≤ k → gates_at (n - k) i gs p ≡ Ok (gs, p)
gates-end n k i gs p le = rw (left-none n k le) refl

pub power-small : (n : ℕ) → n ≤ 4 → power_of n ≤ 268435456
power-small zero le = omega arith
power-small (suc zero) le = omega arith
power-small (suc (suc zero)) le = omega arith
power-small (suc (suc (suc zero))) le = omega arith
power-small (suc (suc (suc (suc zero)))) le = omega arith
power-small (suc (suc (suc (suc (suc n))))) le = absurd (omega arith)

-- ---- groups of 7 bits

pub power-some : (n : ℕ) → 1 ≤ power_of n
power-some zero = omega arith
power-some (suc n) = let h = power-some n in omega (arith, h)

pub power-first : (n : ℕ) → n ≢ 0 → 128 ≤ power_of n
power-first zero ne = absurd (ne refl)
power-first (suc n) ne = let h = power-some n in omega (arith, h)

none_nil : (xs : List ℕ) → None ≡ slice_get xs 0 → xs ≡ []
none_nil [] e = refl
none_nil (x ∷ xs) e = absurd (none-some x e)

some_cons : (xs : List ℕ) (b : ℕ) → Some b ≡ slice_get xs 0 → xs ≡ b ∷ drop 1 xs
some_cons [] b e = absurd (none-some b (sym e))
some_cons (x ∷ xs) b e = let same = same_Some b x e in rw same refl

pub groups-end : (n g : ℕ) (p q : Place) (at : ℕ) → n ≢ 0 → None ≡ slice_get (ahead p) 0 → q ≡ moved p 1 → at ≡ q.at → groups_at n g p ≡ Err (Truncated at)
groups-end zero g p q at ne e is here = absurd (ne refl)
groups-end (suc n) g p q at ne e is here =
    let nil : ahead p ≡ [] = none_nil (ahead p) e in
    let past : length p.bytes - p.at ≡ 0 = sym (length-drop p.at p.bytes) ∙ ap length nil in
    let end : length p.bytes ≡ at = let m : q.at ≡ min (p.at + 1) (length p.bytes) = ap (λ (r : Place). r.at) is in omega (arith, past, m, here) in
    rw (nil, end) refl

pub groups-fault : (n g b : ℕ) (p q : Place) (e : AigerErr) → n ≢ 0 → Some b ≡ slice_get (ahead p) 0 → nat_lt b 128 ≡ false → q ≡ moved p 1
    → IsFault e (groups_at (n - 1) g q) → IsFault e (groups_at n g p)
groups-fault zero g b p q e ne at big is fault = absurd (ne refl)
groups-fault (suc n) g b p q e ne at big is fault =
    let back : suc n - 1 ≡ n = omega arith in
    let rest : IsFault e (groups_at n g (moved p 1)) = rw (is, back) at fault in
    rw (some_cons (ahead p) b at, big) (IsFault-bind e (groups_at n g (moved p 1)) (λ more. Ok (b - 128 + 128 * more.0, more.1)) rest)
