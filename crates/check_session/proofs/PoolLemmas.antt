-- Patterns that join a pool, and what they tell of outputs.
use Rattle.std.proofs.Common.{◌≡◌, ℕ, ◌+◌, ◌*◌, ◌/◌, ◌<◌, Bool, true, false, List, [], ◌∷◌, ◌++◌, append_assoc, length, map, take, drop, Option, Some, None, inl, inr, refl, sym, ap, ◌∙◌, subst, arith}
use Rattle.std.specs.List.{AllByRecursion, find, range_with_len}
use Rattle.std.proofs.lemmas.List.{append-nil, take-append-drop}
use Rattle.std.proofs.lemmas.List.Folds.{find-append}
use Rattle.std.proofs.lemmas.List.FromFn.{length-map-range_with_len}
use Rattle.std.specs.Option.{option_or}
use Rattle.std.specs.Prelude.{IfSome, unwrap_or}
use Rattle.netlist.specs.Net.{AigPair}
use Rattle.word_sim.specs.Patterns.{Patterns, part_from, seeded, seeded_pattern}
use Rattle.sweep_workers.specs.Swept.{IsPoolFor}
use Rattle.check_session.specs.declared.options.Options.{Options}
use Rattle.check_session.specs.declared.patterns.Difference.{Difference}
use Rattle.check_session.specs.Pool.{Extends, IsFirstApart, IsPoolOf, MayJoin, NoneApart, first_pool, tells_apart}

-- ---- pools that are longer

pub extends-same : (old new : Patterns) → new ≡ old → Extends old new
extends-same old new same = record { added = []; is = ap (λ (p : Patterns). p.patterns) same ∙ sym (append-nil old.patterns) }

pub extends-twice : (old mid new : Patterns) → Extends old mid → Extends mid new → Extends old new
extends-twice old mid new first second = record {
  added = first.added ++ second.added;
  is = second.is ∙ (ap (λ (ps : List (List Bool)). ps ++ second.added) first.is ∙ append_assoc old.patterns first.added second.added);
}

-- ---- patterns that are drawn

all-patterns : (n : ℕ) (f : ℕ → List Bool) (xs : List ℕ) → ((k : ℕ) → length (f k) ≡ n) → AllByRecursion (λ bits. length bits ≡ n) (map f xs)
all-patterns n f [] each = tt
all-patterns n f (x ∷ xs) each = (each x, all-patterns n f xs each)

-- the first pool fits
fits-seeded : (net : AigPair) (seed words inputs : ℕ) → inputs ≡ length net.a.inputs → IsPoolFor net (seeded seed words inputs)
fits-seeded net seed words inputs same = record {
  inputs = same;
  whole = all-patterns (length net.a.inputs) (seeded_pattern seed words inputs) (range_with_len 0 (64 * words))
      (λ p. length-map-range_with_len _ 0 inputs ∙ same);
}

-- it is the one that its seed draws
pool-first : (net : AigPair) (o : Options) → IsPoolOf net o (first_pool net o)
pool-first net o = record {
  fits = fits-seeded net o.seed o.words (length net.a.inputs) refl;
  begins = extends-same (first_pool net o) (first_pool net o) refl;
}

-- so are patterns, or it where there are none
pub pool-or_first : (net : AigPair) (o : Options) (pool : Option Patterns) → IfSome pool (IsPoolOf net o)
    → IsPoolOf net o (unwrap_or pool (first_pool net o))
pool-or_first net o None of = pool-first net o
pool-or_first net o (Some p) of = of

find-front : (test : List Bool → Bool) (xs ys : List (List Bool)) → find test (xs ++ ys) ≡ None → find test xs ≡ None
find-front test [] ys none = refl
find-front test (x ∷ xs) ys none = go (test x) refl none (find-front test xs ys)
  where
    go : (b : Bool) → test x ≡ b → find test (x ∷ xs ++ ys) ≡ None → (find test (xs ++ ys) ≡ None → find test xs ≡ None)
        → find test (x ∷ xs) ≡ None
    go true is n rest = let t : Some x ≡ None = rw is at n in cc
    go false is n rest = rw is (rest (rw is at n))

find-back : (test : List Bool → Bool) (xs ys : List (List Bool)) → find test (xs ++ ys) ≡ None → find test ys ≡ None
find-back test xs ys none =
    sym (find-append test xs ys ∙ ap (λ (o : Option (List Bool)). option_or o (find test ys)) (find-front test xs ys none)) ∙ none

find-neither : (test : List Bool → Bool) (xs ys : List (List Bool)) → find test xs ≡ None → find test ys ≡ None → find test (xs ++ ys) ≡ None
find-neither test xs ys first second =
    find-append test xs ys ∙ ap (λ (o : Option (List Bool)). option_or o (find test ys)) first ∙ second

pub find-halves : (test : List Bool → Bool) (n : ℕ) (xs : List (List Bool)) → find test xs ≡ None
    → (find test (take n xs) ≡ None) × (find test (drop n xs) ≡ None)
find-halves test n xs none =
    let whole : find test (take n xs ++ drop n xs) ≡ None = ap (find test) (take-append-drop n xs) ∙ none in
    (find-front test (take n xs) (drop n xs) whole, find-back test (take n xs) (drop n xs) whole)

-- where no pattern tells an output apart, none of a part of them does
pub none-part : (net : AigPair) (seen words : ℕ) (ps : List (List Bool)) → NoneApart net ps → NoneApart net (part_from seen words ps)
none-part net seen words ps none j below =
    let test = tells_apart net j in
    let end = 64 * (seen / 64 + words) in
    find-neither test (take 64 ps) (drop (64 * (seen / 64)) (take end ps)) (find-halves test 64 ps (none j below)).0
    (find-halves test (64 * (seen / 64)) (take end ps) (find-halves test end ps (none j below)).0).1

-- where none of the first patterns passes the test, the one that is found behind them is the last
last-found : (test : List Bool → Bool) (xs : List (List Bool)) (y found : List Bool) → find test xs ≡ None
    → find test (xs ++ y ∷ []) ≡ Some found → found ≡ y
last-found test xs y found none some = go (test y) refl (rw (find-append test xs (y ∷ []), none) at some)
  where
    go : (b : Bool) → test y ≡ b → find test (y ∷ []) ≡ Some found → found ≡ y
    go true is s = let t : Some y ≡ Some found = rw is at s in cc
    go false is s = let t : None ≡ Some found = rw is at s in cc

-- ---- a pattern that joins

pub whole-last : (n : ℕ) (xs : List (List Bool)) (x : List Bool) → AllByRecursion (λ bits. length bits ≡ n) xs → length x ≡ n
    → AllByRecursion (λ bits. length bits ≡ n) (xs ++ x ∷ [])
whole-last n [] x all last = (last, tt)
whole-last n (y ∷ ys) x all last = (all.0, whole-last n ys x all.1 last)

pub joined-fits : (net : AigPair) (input : List Bool) (old new : Patterns) → MayJoin input old new → IsPoolFor net old → IsPoolFor net new
joined-fits net input old new (inl same) fits = subst (λ (p : Patterns). IsPoolFor net p) (sym same) fits
joined-fits net input old new (inr joins) fits =
    subst (λ (p : Patterns). IsPoolFor net p) (sym joins.1) (record {
      inputs = fits.inputs;
      whole = whole-last (length net.a.inputs) old.patterns input fits.whole (joins.0 ∙ fits.inputs);
    })

-- the input that tells an output apart where none of the first patterns does is the one that joined
joined-told : (net : AigPair) (j : ℕ) (before : List (List Bool)) (joined input : List Bool) → NoneApart net before
    → IsFirstApart net (before ++ joined ∷ []) j input → input ≡ joined
joined-told net j before joined input none first = last-found (tells_apart net j) before joined input (none j first.within) first.first

-- ---- an input that is evaluated behind a part of the patterns, and joins if it tells an output apart

-- behind patterns of which none passes the test one more is found as if it were alone
find-last : (test : List Bool → Bool) (xs : List (List Bool)) (y : List Bool) → find test xs ≡ None → find test (xs ++ y ∷ []) ≡ find test (y ∷ [])
find-last test xs y none =
    find-append test xs (y ∷ []) ∙ ap (λ (o : Option (List Bool)). option_or o (find test (y ∷ []))) none

-- so it tells the same output apart behind whatever patterns tell none
first-behind : (net : AigPair) (few all : List (List Bool)) (joined : List Bool) (j : ℕ) (input : List Bool) → NoneApart net few
    → NoneApart net all → IsFirstApart net (few ++ joined ∷ []) j input → IsFirstApart net (all ++ joined ∷ []) j input
first-behind net few all joined j input none_few none_all first = record {
  within = first.within;
  first = sym (same j first.within) ∙ first.first;
  least = λ k less. sym (same k (omega (arith, less, first.within))) ∙ first.least k less;
}
  where
    same : (k : ℕ) → k < length net.a.outputs → find (tells_apart net k) (few ++ joined ∷ []) ≡ find (tells_apart net k) (all ++ joined ∷ [])
    same k below =
        find-last (tells_apart net k) few joined (none_few k below) ∙ sym (find-last (tells_apart net k) all joined (none_all k below))

module _ (net : AigPair) (input : List Bool) (old part few new : Patterns) (whole : length input ≡ old.inputs)
    (part_is : part ≡ record { inputs = old.inputs; patterns = part_from 0 1 old.patterns })
    (few_is : few ≡ record { inputs = part.inputs; patterns = part.patterns ++ input ∷ [] }) where
  few-are : few.patterns ≡ part_from 0 1 old.patterns ++ input ∷ []
  few-are =
      ap (λ (p : Patterns). p.patterns) few_is ∙ ap (λ (p : Patterns). p.patterns ++ input ∷ []) part_is

  pub few-fit : IsPoolFor net part → IsPoolFor net few
  few-fit fits = joined-fits net input part few (inr (whole ∙ sym (ap (λ (p : Patterns). p.inputs) part_is), few_is)) fits

  module _ (none : NoneApart net old.patterns) (new_is : new ≡ record { inputs = old.inputs; patterns = old.patterns ++ input ∷ [] })
      (d : Difference) (first : IsFirstApart net few.patterns d.output d.input) where
    found-few : IsFirstApart net (part_from 0 1 old.patterns ++ input ∷ []) d.output d.input
    found-few = subst (λ (ps : List (List Bool)). IsFirstApart net ps d.output d.input) few-are first

    none-few : NoneApart net (part_from 0 1 old.patterns)
    none-few = none-part net 0 1 old.patterns none

    pub joins-first : IsFirstApart net new.patterns d.output d.input
    joins-first =
        subst (λ (p : Patterns). IsFirstApart net p.patterns d.output d.input) (sym new_is)
        (first-behind net (part_from 0 1 old.patterns) old.patterns input d.output d.input none-few none found-few)

    pub joins-telling : new.patterns ≡ old.patterns ++ d.input ∷ []
    joins-telling =
        ap (λ (p : Patterns). p.patterns) new_is
        ∙ ap (λ (bits : List Bool). old.patterns ++ bits ∷ []) (sym (joined-told net d.output (part_from 0 1 old.patterns) input d.input none-few found-few))

pub joined-extends : (old new : Patterns) (input : List Bool) → new.patterns ≡ old.patterns ++ input ∷ [] → Extends old new
joined-extends old new input joins = record { added = input ∷ []; is = joins }
