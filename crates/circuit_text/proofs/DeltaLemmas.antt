-- A gate in AIGER's order, and one more group.
use Rattle.std.proofs.Common.{◌≡◌, ◌≢◌, ℕ, zero, suc, ◌+◌, ◌-◌, ◌*◌, ◌/◌, ◌%◌, ◌<◌, ◌≤◌, false, List, [], ◌∷◌, ◌++◌, length, get_or, refl, sym, ap, ◌∙◌, arith, append_assoc}
use Rattle.std.specs.Prelude.{nat_lt}
use Rattle.std.proofs.lemmas.Bool.Decides.{nat_tests}
use Rattle.netlist.specs.declared.gate.And.{And}
use Rattle.netlist.specs.Circuit.{Aig, IsCircuit, most}
use Rattle.netlist.proofs.Facts.{few_gates_of}
use Rattle.circuit_text.specs.BinaryText.{AreInSequence, IsInSequence, groups, power_of}

-- a gate's variable is in range, and its literal is above its first fanin, which is no lower than the second
pub record IsInOrder (m : ℕ) (g : And) : Type 0 where
  pub var : g.var ≤ m
  pub left : g.left < 2 * g.var
  pub right : g.right ≤ g.left

IsInOrder-at : (v m : ℕ) (gs : List And) (i : ℕ) (d : And) → AreInSequence v gs → v + length gs ≤ m + 1 → i < length gs
    → IsInOrder m (get_or gs i d)
IsInOrder-at v m [] i d all le lt = absurd (omega arith)
IsInOrder-at v m (g ∷ gs) zero d all le lt =
    record { var = omega (arith, all.0); left = omega (arith, all.0, all.1); right = all.2 }
IsInOrder-at v m (g ∷ gs) (suc i) d all le lt = IsInOrder-at (v + 1) m gs i d all.3 (omega arith) (omega arith)

-- each gate of a circuit in AIGER's order
pub IsInOrder-gate : (c : Aig) (gates : List And) (i : ℕ) (d : And) → IsCircuit c → IsInSequence c → gates ≡ c.gates → i < length gates
    → IsInOrder most (get_or gates i d)
IsInOrder-gate c gates i d circuit is same lt =
    let few = few_gates_of c circuit in
    let sequence : AreInSequence (length c.inputs + 1) gates = rw same is.gates in
    IsInOrder-at (length c.inputs + 1) most gates i d sequence (omega (arith, few, ap length same)) lt

pub groups-fit : (number more : ℕ) → more ≢ 0 → number < power_of (more + 1) → number / 128 < power_of (more - 1 + 1)
groups-fit number zero some fits = absurd (some refl)
groups-fit number (suc m) some fits =
    let up : suc m + 1 ≡ suc (suc m) = omega arith in
    let down : suc m - 1 + 1 ≡ suc m = omega arith in
    let h : number < 128 * power_of (suc m) = rw up at fits in
    rw down (omega (arith, h))

groups-is : (number more : ℕ) → more ≢ 0 → 128 ≤ number → groups more number ≡ (128 + number % 128) ∷ groups (more - 1) (number / 128)
groups-is number zero some big = absurd (some refl)
groups-is number (suc m) some big =
    let large : nat_lt number 128 ≡ false = grind (arith, nat_tests) in
    let down : suc m - 1 ≡ m = omega arith in
    rw (large, down) refl

pub groups-more : (old new : List ℕ) (byte number more : ℕ) → more ≢ 0 → 128 ≤ number → new ≡ old ++ byte ∷ [] → byte ≡ number % 128 + 128
    → new ++ groups (more - 1) (number / 128) ≡ old ++ groups more number
groups-more old new byte number more some big is at =
    let same : byte ≡ 128 + number % 128 = omega arith in
    ap (λ (t : List ℕ). t ++ groups (more - 1) (number / 128)) is
    ∙ append_assoc old (byte ∷ []) (groups (more - 1) (number / 128))
    ∙ ap (λ (b : ℕ). old ++ (b ∷ groups (more - 1) (number / 128))) same
    ∙ ap (λ (t : List ℕ). old ++ t) (sym (groups-is number more some big))
