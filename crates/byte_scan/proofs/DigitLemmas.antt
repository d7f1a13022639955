-- The digits in front, as a loop over the bytes finds them.
use Rattle.std.proofs.Common.{◌≡◌, ℕ, suc, ◌+◌, ◌-◌, ◌*◌, ◌^◌, ◌<◌, ◌≤◌, min, true, false, List, [], ◌∷◌, ◌++◌, length, get_or, take, drop, refl, sym, ◌∙◌, append_assoc, append-nil, add-one, drop-cons, length-take, arith}
use Rattle.std.proofs.Math.Seq.{take-suc}
use Rattle.std.proofs.Math.ListN.{drop_of_length-le}
use Rattle.std.specs.Char.{is_ascii_digit}
use Rattle.byte_scan.specs.Scanning.{digits, value_from, value}

-- what the loop knows before byte i: the i bytes so far are digits, with this value
pub record HasRead (bytes : List ℕ) (i n : ℕ) : Type 0 where
  pub front : digits bytes ≡ take i bytes ++ digits (drop i bytes)
  pub so_far : n ≡ value (take i bytes)
  pub most : n ≤ 10 ^ 18

value_from-push : (n : ℕ) (ds : List ℕ) (d : ℕ) → value_from n (ds ++ d ∷ []) ≡ value_from n ds * 10 + (d - 48)
unfolding value_from
value_from-push n [] d = refl
value_from-push n (x ∷ ds) d = value_from-push (n * 10 + (x - 48)) ds d

pub HasRead-none : (bytes : List ℕ) → HasRead bytes 0 0
unfolding value_from
HasRead-none bytes = record { front = refl; so_far = refl; most = omega arith }

pub HasRead-digit : (bytes : List ℕ) (i n : ℕ) → HasRead bytes i n → i < length bytes → is_ascii_digit (get_or bytes i 0) ≡ true → HasRead bytes (i + 1) (min (n * 10 + (get_or bytes i 0 - 48)) (10 ^ 18))
HasRead-digit bytes i n read lt digit =
    let begins : digits (drop i bytes) ≡ get_or bytes i 0 ∷ digits (drop (suc i) bytes) = rw (drop-cons bytes i 0, digit) refl in
    let taken = take-suc bytes i 0 lt in
    rw add-one (record {
      front = read.front ∙ rw (begins, taken) (sym (append_assoc (take i bytes) (get_or bytes i 0 ∷ []) (digits (drop (suc i) bytes))));
      so_far = rw (taken, value_from-push 0 (take i bytes) (get_or bytes i 0)) (omega (arith, read.so_far));
      most = omega arith;
    })

-- where no digit follows, the bytes so far are all the digits in front
pub HasRead-end : (bytes : List ℕ) (i n : ℕ) → HasRead bytes i n → i ≤ length bytes → digits (drop i bytes) ≡ [] → (n ≡ value (digits bytes)) × (i ≡ length (digits bytes))
HasRead-end bytes i n read le none =
    let e : digits bytes ≡ take i bytes = read.front ∙ rw none (append-nil (take i bytes)) in
    (read.so_far ∙ rw e refl, rw e (omega (arith, length-take i bytes)))

-- none follows at the end, and none at a byte that is no digit
pub digits-at_end : (bytes : List ℕ) (i : ℕ) → length bytes ≤ i → digits (drop i bytes) ≡ []
digits-at_end bytes i le = rw (drop_of_length-le bytes le) refl

pub digits-at_other : (bytes : List ℕ) (i : ℕ) → i < length bytes → is_ascii_digit (get_or bytes i 0) ≡ false → digits (drop i bytes) ≡ []
digits-at_other bytes i lt other = rw (drop-cons bytes i 0, other) refl
