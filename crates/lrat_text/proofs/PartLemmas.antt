-- The parts of a line between its zeros, and the steps that written numbers spell.
use Rattle.std.proofs.Common.{◌≡◌, append-nil, ℕ, ◌^◌, Bool, true, false, eqb, ltb, List, [], ◌∷◌, ◌++◌, Option, Some, None, Ok, map, decimal, refl, ap, ◌∙◌, ne_eqb, arith}
use Rattle.std.specs.Prelude.{if◌then◌else◌, option_map}
use Rattle.std.specs.List.{list_any, list_all, AllByRecursion}
use Rattle.std.proofs.lemmas.Bool.{lt-ltb}
use Rattle.std.proofs.lemmas.List.Folds.{list_any-append}
use Rattle.std.proofs.Math.Bool.{or-true}
use Rattle.byte_scan.specs.Scanning.{value_from}
use Rattle.lits.specs.Dimacs.{DimacsLiteral}
use Rattle.tokens.specs.declared.number.Number.{Number}
use Rattle.tokens.specs.Numbers.{number_in, numbers_in, plain}
use Rattle.tokens.specs.Text.{literal_text, number_of, IsInRange}
use Rattle.tokens.proofs.Facts.{number_in-decimal, number_in-literal}
use Rattle.lrat_text.specs.declared.step.LratStep.TheVariants.{Add, Del}
use Rattle.lrat_text.specs.Numbers.{is_zero, is_id, is_literal, is_hint, literal_of, up_to_zero, past_zero}
use Rattle.lrat_text.specs.Reading.{addition, deletion}
use Rattle.lrat_text.specs.Writing.{IsId, IsWritable}

pub up_to_zero-append : (xs ys : List Number)
    → up_to_zero (xs ++ ys) ≡ (if list_any is_zero xs then up_to_zero xs else xs ++ up_to_zero ys)
up_to_zero-append [] ys = refl
up_to_zero-append (x ∷ xs) ys =
    go (is_zero x) (list_any is_zero xs) refl refl (up_to_zero-append xs ys)
  where
    go : (b c : Bool) → is_zero x ≡ b → list_any is_zero xs ≡ c
        → up_to_zero (xs ++ ys) ≡
        (if list_any is_zero xs then up_to_zero xs else xs ++ up_to_zero ys)
        → up_to_zero ((x ∷ xs) ++ ys) ≡
        (if list_any is_zero (x ∷ xs) then up_to_zero (x ∷ xs) else (x ∷ xs) ++ up_to_zero ys)
    go true c e f rest = rw e refl
    go false true e f rest = rw (e, rest, f) refl
    go false false e f rest = rw (e, rest, f) refl

pub past_zero-append : (xs ys : List Number)
    → past_zero (xs ++ ys) ≡ (if list_any is_zero xs then past_zero xs ++ ys else past_zero ys)
past_zero-append [] ys = refl
past_zero-append (x ∷ xs) ys = go (is_zero x) refl (past_zero-append xs ys)
  where
    go : (b : Bool) → is_zero x ≡ b
        → past_zero (xs ++ ys) ≡ (if list_any is_zero xs then past_zero xs ++ ys else past_zero ys)
        → past_zero ((x ∷ xs) ++ ys) ≡
        (if list_any is_zero (x ∷ xs) then past_zero (x ∷ xs) ++ ys else past_zero ys)
    go true e rest = rw e refl
    go false e rest = rw e rest

-- what written numbers are like: the literals of a clause
pub record AreLiterals (literals : List DimacsLiteral) : Type 0 where
  pub numbers : numbers_in (map literal_text literals) ≡ Some (map number_of literals)
  pub no_zero : list_any is_zero (map number_of literals) ≡ false
  pub in_range : list_all is_literal (map number_of literals) ≡ true
  pub back : map literal_of (map number_of literals) ≡ literals

pub are_literals : (literals : List DimacsLiteral) → AllByRecursion IsInRange literals
    → AreLiterals literals
are_literals [] all = record { numbers = refl; no_zero = refl; in_range = refl; back = refl }
are_literals (l ∷ ls) all =
    let rest = are_literals ls all.1 in
    let apart : eqb l.var 0 ≡ false = ne_eqb _ _ (λ f. omega arith) in
    let below : ltb l.var (2 ^ 31) ≡ true = lt-ltb _ _ (all.0.1) in
    record {
      numbers = rw (number_in-literal l all.0, rest.numbers) refl;
      no_zero = rw (apart, rest.no_zero) refl;
      in_range = rw (below, rest.in_range) refl;
      back = ap (λ (t : List DimacsLiteral). l ∷ t) rest.back;
    }

-- and ids
pub record AreIds (ids : List ℕ) : Type 0 where
  pub numbers : numbers_in (map decimal ids) ≡ Some (map plain ids)
  pub no_zero : list_any is_zero (map plain ids) ≡ false
  pub in_range : list_all is_id (map plain ids) ≡ true
  pub as_hints : list_all is_hint (map plain ids) ≡ true
  pub no_minus : list_any (λ n. n.minus) (map plain ids) ≡ false
  pub back : map (λ n. n.size) (map plain ids) ≡ ids

pub is_id-plain : (id : ℕ) → IsId id → is_id (plain id) ≡ true
is_id-plain id range =
    let some : ltb 0 id ≡ true = lt-ltb _ _ range.0 in
    let below : ltb id (10 ^ 18) ≡ true = lt-ltb _ _ range.1 in
    rw (some, below) refl

pub are_ids : (ids : List ℕ) → AllByRecursion IsId ids → AreIds ids
are_ids [] all =
    record {
      numbers = refl;
      no_zero = refl;
      in_range = refl;
      as_hints = refl;
      no_minus = refl;
      back = refl;
    }
are_ids (id ∷ ids) all =
    let rest = are_ids ids all.1 in
    let apart : eqb id 0 ≡ false = ne_eqb _ _ (λ f. omega arith) in
    let below : ltb id (10 ^ 18) ≡ true = lt-ltb _ _ (all.0.1) in
    record {
      numbers = rw (number_in-decimal id all.0.1, rest.numbers) refl;
      no_zero = rw (apart, rest.no_zero) refl;
      in_range = rw (is_id-plain id all.0, rest.in_range) refl;
      as_hints = rw (below, rest.as_hints) refl;
      no_minus = rest.no_minus;
      back = ap (λ (t : List ℕ). id ∷ t) rest.back;
    }

-- what is found in two lists of words, one behind the other
abbrev pub joined : Option (List Number) → Option (List Number) → Option (List Number)
joined None more = None
joined (Some ns) more = option_map (λ ms. ns ++ ms) more

pub numbers_in-append : (ws vs : List (List ℕ))
    → numbers_in (ws ++ vs) ≡ joined (numbers_in ws) (numbers_in vs)
numbers_in-append [] vs = go (numbers_in vs)
  where
    go : (o : Option (List Number)) → o ≡ option_map (λ ms. [] ++ ms) o
    go None = refl
    go (Some ms) = refl
numbers_in-append (w ∷ ws) vs =
    go (number_in w) (numbers_in ws) (numbers_in vs) refl refl (numbers_in-append ws vs)
  where
    go : (n : Option Number) (a b : Option (List Number)) → number_in w ≡ n → numbers_in ws ≡ a
        → numbers_in (ws ++ vs) ≡ joined a b
        → numbers_in ((w ∷ ws) ++ vs) ≡ joined (numbers_in (w ∷ ws)) b
    go None a b e f rest = rw (e) refl
    go (Some n) None b e f rest = rw (e, rest, f) refl
    go (Some n) (Some ns) None e f rest = rw (e, rest, f) refl
    go (Some n) (Some ns) (Some ms) e f rest = rw (e, rest, f) refl

pub numbers_in-both : (ws vs : List (List ℕ)) (ns ms : List Number) → numbers_in ws ≡ Some ns
    → numbers_in vs ≡ Some ms → numbers_in (ws ++ vs) ≡ Some (ns ++ ms)
numbers_in-both ws vs ns ms e f = numbers_in-append ws vs ∙ rw (e, f) refl

-- the word 0, and others behind it
pub numbers_in-zero : (words : List (List ℕ)) (ns : List Number) → numbers_in words ≡ Some ns
    → numbers_in ((48 ∷ []) ∷ words) ≡ Some (plain 0 ∷ ns)
unfolding value_from
numbers_in-zero words ns e = rw e refl

-- the numbers up to a written zero, and those behind it
up_to : (xs ys : List Number) → list_any is_zero xs ≡ false → up_to_zero (xs ++ plain 0 ∷ ys) ≡ xs
up_to xs ys e = up_to_zero-append xs (plain 0 ∷ ys) ∙ rw e (append-nil xs)

past : (xs ys : List Number) → list_any is_zero xs ≡ false → past_zero (xs ++ plain 0 ∷ ys) ≡ ys
past xs ys e = past_zero-append xs (plain 0 ∷ ys) ∙ rw e refl

any_zero : (xs ys : List Number) → list_any is_zero (xs ++ plain 0 ∷ ys) ≡ true
any_zero xs ys = list_any-append is_zero xs (plain 0 ∷ ys) ∙ or-true (list_any is_zero xs)

-- the numbers of a written addition spell it
pub addition-written : (at last id : ℕ) (clause : List DimacsLiteral) (hints : List ℕ)
    → IsWritable last (Add id clause hints)
    → addition at last (plain id)
    (map number_of clause ++ plain 0 ∷ (map plain hints ++ plain 0 ∷ [])) ≡ Ok (Add id clause hints)
addition-written at last id clause hints can =
    let ls = are_literals clause can.2 in
    let hs = are_ids hints can.3 in
    let more = map plain hints ++ plain 0 ∷ [] in
    let lits = up_to (map number_of clause) more ls.no_zero in
    let past1 = past (map number_of clause) more ls.no_zero in
    let any1 = any_zero (map number_of clause) more in
    let up2 = up_to (map plain hints) [] hs.no_zero in
    let past2 = past (map plain hints) [] hs.no_zero in
    let any2 = any_zero (map plain hints) [] in
    let id_fits : is_id (plain id) ≡ true = is_id-plain id (omega arith, can.1) in
    let above : ltb last id ≡ true = lt-ltb _ _ can.0 in
    rw (past1, lits, any1, up2, past2, any2, ls.in_range, hs.as_hints)
    (rw (id_fits, above, hs.no_minus, ls.back, hs.back) refl)

-- and those of a written deletion
pub deletion-written : (at : ℕ) (ids : List ℕ) → AllByRecursion IsId ids
    → deletion at (map plain ids ++ plain 0 ∷ []) ≡ Ok (Del ids)
deletion-written at ids can =
    let hs = are_ids ids can in
    let up1 = up_to (map plain ids) [] hs.no_zero in
    let past1 = past (map plain ids) [] hs.no_zero in
    let any1 = any_zero (map plain ids) [] in
    rw (past1, up1, any1, hs.in_range, hs.back) refl
