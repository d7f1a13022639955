-- How the table of a circuit's variables grows.
use Rattle.std.proofs.Common.{◌≡◌, ◌≢◌, ℕ, ◌+◌, ◌<◌, Bool, true, false, Option, None, Some, List, [], ◌∷◌, ◌++◌, length, refl, sym, ap, ◌∙◌, subst, arith, length-append, get_or-set_same, get_or-set_other}
use Rattle.std.specs.Prelude.{◌==◌, slice_index, slice_set}
use Rattle.std.specs.Option.{is_some}
use Rattle.std.proofs.lemmas.Bool.Decides.{nat_tests}
use Rattle.lits.specs.Clause.{has}
use Rattle.netlist.specs.Place.{place_of}
use Rattle.netlist.specs.VariableTable.{Places, place_in, IsTable}
use Rattle.netlist.proofs.PlaceLemmas.{or_place, place_of-append, place_none, is_some-place}

pub or_place-none : (o : Option ℕ) → or_place o None ≡ o
or_place-none None = refl
or_place-none (Some k) = refl

-- a table has the constant
has_constant : (t : Places) (vars : List ℕ) → IsTable t vars → has ◌==◌ vars 0 ≡ true
has_constant t vars table = sym (is_some-place (λ x. x == 0) vars) ∙ sym (ap is_some (table.finds 0))

few_none : (vars : List ℕ) → has ◌==◌ vars 0 ≡ true → 0 < length vars
few_none [] e = cc
few_none (v ∷ vars) e = omega arith

true_false : (vars : List ℕ) (v : ℕ) → has ◌==◌ vars 0 ≡ true → has ◌==◌ vars v ≡ false → v ≢ 0
true_false vars v e f same = let g : has ◌==◌ vars v ≡ true = rw same e in cc

pub push_table : (t : Places) (vars : List ℕ) (v : ℕ) → IsTable t vars → v < length t.by_variable → has ◌==◌ vars v ≡ false
    → IsTable (record { by_variable = slice_set t.by_variable v t.count; count = t.count + 1 }) (vars ++ v ∷ [])
push_table t vars v table room new = record {
  finds = λ q. go q (v == q) refl;
  count = rw table.count (sym (length-append vars (v ∷ [])));
}
  where
    some : 0 < t.count
    some = let n = few_none vars (has_constant t vars table) in omega (arith, table.count)

    above : v ≢ 0
    above = true_false vars v (has_constant t vars table) new

    go : (q : ℕ) (b : Bool) → (v == q) ≡ b
        → place_in (record { by_variable = slice_set t.by_variable v t.count; count = t.count + 1 }) q
        ≡ place_of (λ x. x == q) (vars ++ v ∷ [])
    go q true e =
        let same : v ≡ q = grind (arith, nat_tests, e) in
        let zero_not : (q == 0) ≡ false = grind (arith, nat_tests, above, same) in
        let written : slice_index (slice_set t.by_variable v t.count) q ≡ t.count =
        subst (λ (w : ℕ). slice_index (slice_set t.by_variable v t.count) w ≡ t.count) same (get_or-set_same t.by_variable v t.count 0 room) in
        let counted : (t.count == 0) ≡ false = grind (arith, nat_tests, some) in
        let none : place_of (λ x. x == q) vars ≡ None =
        place_none (λ x. x == q) vars (subst (λ (w : ℕ). has ◌==◌ vars w ≡ false) same new) in
        let last : length vars + 0 ≡ t.count = omega (arith, table.count) in
        rw (zero_not, written, counted, place_of-append (λ x. x == q) vars (v ∷ []), none, e, last) refl
    go q false e =
        let apart : q ≢ v = grind (arith, nat_tests, e) in
        let old : slice_index (slice_set t.by_variable v t.count) q ≡ slice_index t.by_variable q =
        get_or-set_other t.by_variable v q t.count 0 apart in
        rw (old, place_of-append (λ x. x == q) vars (v ∷ []), e, or_place-none (place_of (λ x. x == q) vars)) (table.finds q)
