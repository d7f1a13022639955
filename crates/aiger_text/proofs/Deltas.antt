-- The deltas of gates are read as they are written.
use Rattle.std.proofs.Common.{◌≡◌, ℕ, zero, suc, ◌+◌, ◌-◌, ◌*◌, ◌/◌, ◌%◌, ◌<◌, ◌≤◌, Bool, true, false, eqb, List, [], ◌∷◌, ◌++◌, length, Result, Ok, refl, sym, ap, ◌∙◌, subst, append_assoc, append-nil, length-append, arith}
use Rattle.std.specs.Prelude.{nat_lt}
use Rattle.std.specs.List.{flat_map, AllByRecursion}
use Rattle.std.proofs.lemmas.Bool.Decides.{nat_tests}
use Rattle.byte_scan.specs.declared.errors.AigerErr.{AigerErr}
use Rattle.byte_scan.specs.Scanning.{Place, ahead, moved}
use Rattle.netlist.specs.declared.gate.And.{And}
use Rattle.aiger_binary.specs.Binary.{group_in, groups_at, delta_at, first_fanin, second_fanin, gate_at, gates_at, literals_at}
use Rattle.circuit_text.specs.Lines.{literal_line}
use Rattle.circuit_text.specs.BinaryText.{AreInSequence, groups, delta_text, gate_deltas, power_of}
use Rattle.aiger_text.proofs.Reading.{Finds, behind-part, literal-found}

-- a byte below 128 is a number
last-group : (p : Place) (x : ℕ) (rest : List ℕ) (more : Place → Result (ℕ × Place) AigerErr)
    → x < 128
    → ahead p ≡ x ∷ rest
    → Finds (group_in (ahead p) p more) x rest
last-group p x rest more lt e =
    let small : nat_lt x 128 ≡ true = grind (arith, nat_tests) in
    record {
      place = moved p 1;
      is = ap (λ (l : List ℕ). group_in l p more) e ∙ rw small refl;
      behind = behind-part p (x ∷ []) rest e;
    }

groups-found : (n gate x : ℕ) (p : Place) (rest : List ℕ) → x < power_of (suc n)
    → ahead p ≡ groups n x ++ rest
    → Finds (groups_at (suc n) gate p) x rest
groups-found zero gate x p rest lt e = last-group p x rest (groups_at zero gate) lt e
groups-found (suc n) gate x p rest lt e =
    go (nat_lt x 128) refl (λ q f. groups-found n gate (x / 128) q rest (omega arith) f)
  where
    go : (b : Bool) → nat_lt x 128 ≡ b
        → ((q : Place) → ahead q ≡ groups n (x / 128) ++ rest
        → Finds (groups_at (suc n) gate q) (x / 128) rest)
        → Finds (groups_at (suc (suc n)) gate p) x rest
    go true t later =
        let front : groups (suc n) x ++ rest ≡ x ∷ rest = rw t refl in
        last-group p x rest (groups_at (suc n) gate) (grind (arith, nat_tests, t)) (e ∙ front)
    go false t later =
        let front : groups (suc n) x ++ rest ≡ (128 + x % 128) ∷ (groups n (x / 128)
        ++ rest) = rw t refl in
        let part = e ∙ front in
        let big : nat_lt (128 + x % 128) 128 ≡ false = grind (arith, nat_tests) in
        let behind = behind-part p ((128 + x % 128) ∷ []) (groups n (x / 128) ++ rest) part in
        let more = later (moved p 1) behind in
        let whole : 128 + x % 128 - 128 + 128 * (x / 128) ≡ x = omega arith in
        record {
          place = more.place;
          is =
              ap (λ (l : List ℕ). group_in l p (groups_at (suc n) gate)) part
              ∙ rw (big, more.is) (ap (λ (k : ℕ). Ok (k, more.place)) whole);
          behind = more.behind;
        }

delta-found : (gate x : ℕ) (p : Place) (rest : List ℕ) → x < 34359738368
    → ahead p ≡ delta_text x ++ rest
    → Finds (delta_at gate p) x rest
unfolding delta_text
delta-found gate x p rest lt e = groups-found 4 gate x p rest lt e

first-small : (gate v left : ℕ) → left < 2 * v → first_fanin gate (2 * v) (2 * v - left) ≡ Ok left
first-small gate v left lt =
    let some : eqb (2 * v - left) 0 ≡ false = grind (arith, nat_tests) in
    let within : nat_lt (2 * v) (2 * v - left) ≡ false = grind (arith, nat_tests) in
    let back : 2 * v - (2 * v - left) ≡ left = omega arith in
    rw (some, within) (ap (λ (k : ℕ). Ok k) back)

second-small : (gate left right : ℕ) → right ≤ left → second_fanin gate left (left - right)
    ≡ Ok right
second-small gate left right le =
    let within : nat_lt left (left - right) ≡ false = grind (arith, nat_tests) in
    let back : left - (left - right) ≡ right = omega arith in
    rw within (ap (λ (k : ℕ). Ok k) back)

gate-found : (gate v : ℕ) (g : And) (p : Place) (rest : List ℕ) → g.var ≡ v → g.left < 2 * v
    → g.right ≤ g.left → v ≤ 16777216
    → ahead p ≡ gate_deltas g ++ rest
    → Finds (gate_at gate v p) g rest
gate-found gate v g p rest same left right most e =
    let text = e ∙ append_assoc (delta_text (2 * g.var - g.left)) (delta_text (g.left - g.right))
    rest
    ∙ ap (λ (w : ℕ). delta_text (2 * w - g.left)
    ++ (delta_text (g.left - g.right) ++ rest)) same in
    let first = delta-found gate (2 * v - g.left) p (delta_text (g.left - g.right)
    ++ rest) (omega arith) text in
    let second = delta-found gate (g.left - g.right) first.place rest (omega arith) first.behind in
    record {
      place = second.place;
      is =
          rw (
            first.is,
            first-small gate v g.left left,
            second.is,
            second-small gate g.left g.right right,
          ) (ap (λ (w : ℕ). Ok (
            record { var = w; left = g.left; right = g.right },
            second.place,
          )) (sym same));
      behind = second.behind;
    }

-- ---- lists

pub literals-found : (p : Place) (m : ℕ) (done lits rest : List ℕ) → m ≤ 16777216
    → AllByRecursion (λ n. n ≤ 2 * m + 1) lits
    → ahead p ≡ flat_map literal_line lits ++ rest
    → Finds (literals_at (length lits) m done p) (done ++ lits) rest
literals-found p m done [] rest most all e =
    record { place = p; is = rw (append-nil done) refl; behind = e }
literals-found p m done (n ∷ ns) rest most all e =
    let front = e ∙ append_assoc (literal_line n) (flat_map literal_line ns) rest in
    let seam = append_assoc done (n ∷ []) ns in
    let here = literal-found p m n (flat_map literal_line ns ++ rest) all.0 most front in
    let more = literals-found here.place m (done ++ n ∷ []) ns rest most all.1 here.behind in
    record {
      place = more.place;
      is = rw here.is (more.is ∙ ap (λ (l : List ℕ). Ok (l, more.place)) seam);
      behind = more.behind;
    }

pub gates-found : (p : Place) (inputs : ℕ) (done gs : List And) (rest : List ℕ)
    → inputs + length done + length gs ≤ 16777216 → AreInSequence (inputs + length done + 1) gs
    → ahead p ≡ flat_map gate_deltas gs ++ rest
    → Finds (gates_at (length gs) inputs done p) (done ++ gs) rest
gates-found p inputs done [] rest most all e =
    record { place = p; is = rw (append-nil done) refl; behind = e }
gates-found p inputs done (g ∷ gs) rest most all e =
    let front = e ∙ append_assoc (gate_deltas g) (flat_map gate_deltas gs) rest in
    let seam = append_assoc done (g ∷ []) gs in
    let here = gate-found (length done) (inputs + length done + 1) g p (flat_map gate_deltas gs
    ++ rest)
    all.0 all.1 all.2 (omega arith) front in
    let longer = length-append done (g ∷ []) in
    let next : inputs + length done + 1 + 1 ≡ inputs + length (done
    ++ g ∷ []) + 1 = omega (arith, longer) in
    let more = gates-found here.place inputs (done ++ g ∷ []) gs rest (omega (arith, longer))
    (subst (λ (v : ℕ). AreInSequence v gs) next all.3) here.behind in
    record {
      place = more.place;
      is = rw here.is (more.is ∙ ap (λ (l : List And). Ok (l, more.place)) seam);
      behind = more.behind;
    }
