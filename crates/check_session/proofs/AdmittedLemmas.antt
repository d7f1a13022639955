-- The row of the patterns that are admitted: rows of constraints that are taken together.
use Rattle.std.proofs.Common.{◌≡◌, ℕ, ◌+◌, ◌*◌, ◌/◌, ◌%◌, ◌<◌, ◌≤◌, Bool, true, false, Option, Some, None, List, [], ◌∷◌, length, get_or, replicate, take, take_all, slice_set, refl, sym, ap, ap₂, ◌∙◌, subst, inl, inr, arith}
use Rattle.std.specs.Prelude.{◌&&◌, ◌==◌, IsSome, slice_index}
use Rattle.std.specs.List.{list_all, slice_index_or, AllByRecursion}
use Rattle.std.specs.Int.RustNames.{bit_and, bit_xor}
use Rattle.std.proofs.lemmas.Bool.{and_parts, cases_lt}
use Rattle.std.proofs.lemmas.List.{get_or-replicate, length-map, length-set, get_or-set_same, get_or-set_other}
use Rattle.std.proofs.lemmas.List.Folds.{list_all-append, list_all_more}
use Rattle.std.proofs.lemmas.Option.{same_Some, slice_get-get_or}
use Rattle.std.proofs.lemmas.Nat.Bits.{bit_at_ones}
use Rattle.lits.specs.Same.{same_node}
use Rattle.lits.specs.declared.node.Side.{Side}
use Rattle.lits.specs.declared.node.Side.TheVariants.{A, B}
use Rattle.lits.specs.declared.literal.Lit.{Lit}
use Rattle.netlist.specs.Net.{AigPair, IsNet, bound_of, bounds_of, bounds_on, circuit_of, lit_holds, lit_named, meets_constraints, nodes_of, position_of, value_of}
use Rattle.netlist.proofs.Facts.{admitted-bounds, bound-below, bound-there, bounds-admitted, is_some-place}
use Rattle.word_sim.specs.Patterns.{is_set, words_of}
use Rattle.word_sim.specs.Rows.{AreSignatures, IsRow, Signatures, mask_of, turned, value_on}
use Rattle.word_sim.proofs.Facts.{and-bit, turned-bit}
use Rattle.check_session.specs.Pool.{HasBitsFor, admits, bit_of}
use Rattle.check_session.proofs.PatternLemmas.{placed-row, row-bit, some-is, whole-at}

-- the words before n have the bits that another row has too, those behind are as they were
pub record IsKept (old other : List ℕ) (neg : Bool) (n : ℕ) (new : List ℕ) : Type 0 where
  pub size : length new ≡ length old
  pub words : (w : ℕ) → w < n → slice_index_or new w 0 ≡ bit_and (slice_index_or old w 0) (bit_xor (slice_index_or other w 0) (mask_of neg))
  pub rest : (w : ℕ) → n ≤ w → slice_index_or new w 0 ≡ slice_index_or old w 0

pub kept-none : (old other : List ℕ) (neg : Bool) → IsKept old other neg 0 old
kept-none old other neg = record { size = refl; words = λ w below. absurd (omega (arith, below)); rest = λ w from. refl }

pub kept-next : (old other : List ℕ) (neg : Bool) (n : ℕ) (now : List ℕ) (value : ℕ) → IsKept old other neg n now → n < length now
    → value ≡ bit_and (slice_index_or now n 0) (bit_xor (slice_index_or other n 0) (mask_of neg))
    → IsKept old other neg (n + 1) (slice_set now n value)
kept-next old other neg n now value so inside is = record {
  size = length-set now n value ∙ so.size;
  words = λ w below. elim (cases_lt w n) [
    | inl less ↦ get_or-set_other now n w value 0 (λ e. absurd (omega (arith, e))) ∙ so.words w less
    | inr more ↦
        let same : w ≡ n = omega arith in
        rw same (get_or-set_same now n value 0 inside ∙ is
        ∙ ap (λ (k : ℕ). bit_and k (bit_xor (slice_index_or other n 0) (mask_of neg))) (so.rest n (omega arith)))
  ];
  rest = λ w from. get_or-set_other now n w value 0 (λ e. absurd (omega (arith, e))) ∙ so.rest w (omega arith);
}

-- the bits of such a row
pub kept-bit : (old other new : List ℕ) (neg : Bool) (n p : ℕ) → IsKept old other neg n new → p < 64 * n
    → bit_of new p ≡ (bit_of old p && turned neg (bit_of other p))
kept-bit old other new neg n p so below =
    let inside : p / 64 < n = omega (arith, below) in
    ap (λ (k : ℕ). is_set k (p % 64)) (so.words (p / 64) inside)
    ∙ and-bit (slice_index_or old (p / 64) 0) (bit_xor (slice_index_or other (p / 64) 0) (mask_of neg)) (p % 64)
    ∙ ap (λ (t : Bool). bit_of old p && t) (turned-bit (slice_index_or other (p / 64) 0) neg (p % 64) (omega arith))

-- each bit of words that have all bits is set
pub all-ones : (row : List ℕ) (p : ℕ) → slice_index_or row (p / 64) 0 ≡ 18446744073709551615 → bit_of row p ≡ true
all-ones row p is =
    ap (λ (k : ℕ). is_set k (p % 64)) is ∙ ap (λ (k : ℕ). k == 1) (bit_at_ones 64 (p % 64) (omega arith))

-- ---- the row of a constraint

-- its node has a position
pub bound-placed : (net : AigPair) → IsNet net → (s : Side) (k : ℕ) (l : Lit) → bound_of net s k ≡ Some l → IsSome (position_of net l.node)
bound-placed net is s k l found =
    some-is (position_of net l.node)
    (is_some-place (λ n. same_node n l.node) (nodes_of net) ∙ bound-there net is s k l found)

-- the row of a literal at its node's position is that of the same literal
pub bound-row : (net : AigPair) (s : Side) (k : ℕ) (l lit : Lit) (p : ℕ) (sigs : Signatures) (row : List ℕ)
    → bound_of net s k ≡ Some l → position_of net l.node ≡ Some p → length sigs.rows ≡ length (nodes_of net)
    → row ≡ slice_index_or sigs.rows p [] → (patterns : List (List Bool)) → AreSignatures net patterns sigs
    → bound_of net s k ≡ Some lit → IsRow net patterns lit.node row
bound-row net s k l lit p sigs row found place rows is patterns are again =
    subst (λ (m : Lit). IsRow net patterns m.node row) (same_Some l lit (sym found ∙ again))
    (placed-row net l.node p sigs row place rows is patterns are)

-- its bits, turned by the literal's sign, are the literal's values
bound-bit : (net : AigPair) (patterns : List (List Bool)) (l : Lit) (row : List ℕ) (neg : Bool) → IsRow net patterns l.node row → neg ≡ l.neg
    → (p : ℕ) → p < length patterns → turned neg (bit_of row p) ≡ lit_holds (value_of net (slice_index_or patterns p [])) l
bound-bit net patterns l row neg is sign p below =
    ap₂ turned sign (row-bit (length patterns) (value_on net patterns l.node) row is p below)

-- ---- all constraints of one side

and-assoc : (a b c : Bool) → ((a && b) && c) ≡ (a && (b && c))
and-assoc true b c = refl
and-assoc false b c = refl

and-true : (a : Bool) → a ≡ (a && true)
and-true true = refl
and-true false = refl

-- on a pattern all of these literals are true
abbrev pub all_hold : AigPair → List (List Bool) → ℕ → List Lit → Bool
all_hold net patterns p lits = list_all (lit_holds (value_of net (slice_index_or patterns p []))) lits

-- a row after the first so many constraints of one side: it has the bits that it had where all of them are true
pub record AreMet (net : AigPair) (sigs : Signatures) (side : Side) (old : List ℕ) (k : ℕ) (new : List ℕ) : Type 0 where
  pub size : length new ≡ length old
  pub bits : (patterns : List (List Bool)) (p : ℕ) → AreSignatures net patterns sigs → p < length patterns
      → bit_of new p ≡ (bit_of old p && all_hold net patterns p (take k (bounds_on net side)))

pub met-none : (net : AigPair) (sigs : Signatures) (side : Side) (old : List ℕ) → AreMet net sigs side old 0 old
met-none net sigs side old = record { size = refl; bits = λ patterns p are below. and-true (bit_of old p) }

pub met-next : (net : AigPair) (sigs : Signatures) (side : Side) (old : List ℕ) (k : ℕ) (now other new : List ℕ) (neg : Bool)
    → k < length (circuit_of net side).constraints → length old ≡ words_of sigs.patterns → AreMet net sigs side old k now
    → ((patterns : List (List Bool)) (lit : Lit) → AreSignatures net patterns sigs → bound_of net side k ≡ Some lit → IsRow net patterns lit.node other)
    → ((lit : Lit) → bound_of net side k ≡ Some lit → neg ≡ lit.neg)
    → length new ≡ length now
    → ((p : ℕ) → p < 64 * length now → bit_of new p ≡ (bit_of now p && turned neg (bit_of other p)))
    → AreMet net sigs side old (k + 1) new
met-next net sigs side old k now other new neg below words met row sign size kept = record {
  size = size ∙ met.size;
  bits = λ patterns p are within.
      let v = value_of net (slice_index_or patterns p []) in
      let inside : p < 64 * length now = omega (arith, met.size, words, are.size, within) in
      kept p inside
      ∙ ap (λ (t : Bool). t && turned neg (bit_of other p)) (met.bits patterns p are within)
      ∙ ap (λ (t : Bool). (bit_of old p && all_hold net patterns p (take k (bounds_on net side))) && t)
      (bound-bit net patterns lit other neg (row patterns lit are found) (sign lit found) p within)
      ∙ and-assoc (bit_of old p) (all_hold net patterns p (take k (bounds_on net side))) (lit_holds v lit)
      ∙ ap (λ (t : Bool). bit_of old p && t) (sym (list_all_more (lit_holds v) (bounds_on net side) k lit there
      ∙ ap (λ (l : Lit). all_hold net patterns p (take k (bounds_on net side)) && lit_holds v l) at));
}
  where
    lit : Lit
    lit = lit_named side (circuit_of net side) (slice_index (circuit_of net side).constraints k)

    found : bound_of net side k ≡ Some lit
    found = bound-below net side k below

    there : k < length (bounds_on net side)
    there = omega (arith, below, length-map (circuit_of net side).constraints (lit_named side (circuit_of net side)))

    at : get_or (bounds_on net side) k lit ≡ lit
    at = same_Some _ lit (sym (slice_get-get_or (bounds_on net side) k lit there) ∙ found)

pub met-all : (net : AigPair) (sigs : Signatures) (side : Side) (old : List ℕ) (k : ℕ) (new : List ℕ)
    → length (circuit_of net side).constraints ≤ k → AreMet net sigs side old k new
    → (patterns : List (List Bool)) (p : ℕ) → AreSignatures net patterns sigs → p < length patterns
    → bit_of new p ≡ (bit_of old p && all_hold net patterns p (bounds_on net side))
met-all net sigs side old k new most met patterns p are below =
    met.bits patterns p are below
    ∙ ap (λ (ls : List Lit). bit_of old p && all_hold net patterns p ls)
    (take_all k (bounds_on net side) (omega (arith, most, length-map (circuit_of net side).constraints (lit_named side (circuit_of net side)))))

-- ---- those of both sides

pub met-both : (net : AigPair) (patterns : List (List Bool)) (p : ℕ) (was mid new : Bool)
    → mid ≡ (was && all_hold net patterns p (bounds_on net A)) → new ≡ (mid && all_hold net patterns p (bounds_on net B))
    → new ≡ (was && all_hold net patterns p (bounds_of net))
met-both net patterns p was mid new first second =
    second ∙ ap (λ (t : Bool). t && all_hold net patterns p (bounds_on net B)) first
    ∙ and-assoc was (all_hold net patterns p (bounds_on net A)) (all_hold net patterns p (bounds_on net B))
    ∙ ap (λ (t : Bool). was && t)
    (sym (list_all-append (lit_holds (value_of net (slice_index_or patterns p []))) (bounds_on net A) (bounds_on net B)))

all-true : {X : Type 0} (test : X → Bool) (xs : List X) → list_all test xs ≡ true → AllByRecursion (λ x. test x ≡ true) xs
all-true test [] all = tt
all-true test (x ∷ xs) all = let r = and_parts (test x) (list_all test xs) all in (r.0, all-true test xs r.1)

true-all : {X : Type 0} (test : X → Bool) (xs : List X) → AllByRecursion (λ x. test x ≡ true) xs → list_all test xs ≡ true
true-all test [] all = refl
true-all test (x ∷ xs) all = ap₂ ◌&&◌ all.0 (true-all test xs all.1)

-- two tests each of which passes where the other does
same-tests : (a b : Bool) → (a ≡ true → b ≡ true) → (b ≡ true → a ≡ true) → a ≡ b
same-tests true b to from = sym (to refl)
same-tests false true to from = from refl
same-tests false false to from = refl

-- an input is admitted where all constraints' literals are true on it
all-admitted : (net : AigPair) → IsNet net → (bits : List Bool) → length bits ≡ length net.a.inputs
    → list_all (lit_holds (value_of net bits)) (bounds_of net) ≡ admits net bits
all-admitted net is bits whole =
    same-tests (list_all (lit_holds (value_of net bits)) (bounds_of net)) (admits net bits)
    (λ all.
    let admitted = bounds-admitted net is bits whole (all-true (lit_holds (value_of net bits)) (bounds_of net) all) in
    ap₂ ◌&&◌ admitted.of_a admitted.of_b)
    (λ both.
    let met = and_parts (meets_constraints net.a bits) (meets_constraints net.b bits) both in
    true-all (lit_holds (value_of net bits)) (bounds_of net)
    (admitted-bounds net is bits (record { whole = whole; of_a = met.0; of_b = met.1 })))

-- where all bits were set, those are left of patterns that are admitted
pub admitted-all : (net : AigPair) → IsNet net → (patterns : List (List Bool)) (old new : List ℕ) (words : ℕ)
    → old ≡ replicate words 18446744073709551615 → length patterns ≤ 64 * words
    → AllByRecursion (λ bits. length bits ≡ length net.a.inputs) patterns
    → ((p : ℕ) → p < length patterns → bit_of new p ≡ (bit_of old p && all_hold net patterns p (bounds_of net)))
    → HasBitsFor patterns (admits net) new
admitted-all net is patterns old new words set enough whole kept p below =
    let inside : p / 64 < words = omega (arith, enough, below) in
    kept p below
    ∙ ap (λ (t : Bool). t && all_hold net patterns p (bounds_of net))
    (all-ones old p (ap (λ (row : List ℕ). slice_index_or row (p / 64) 0) set ∙ get_or-replicate words (p / 64) 18446744073709551615 0 inside))
    ∙ all-admitted net is (slice_index_or patterns p []) (whole-at (length net.a.inputs) patterns whole p below)
