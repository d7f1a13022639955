-- A table of a circuit's variables has room for them.
use Rattle.std.proofs.Common.{◌≡◌, ℕ, zero, suc, ◌<◌, ◌≤◌, Bool, true, false, All, List, [], ◌∷◌, ◌++◌, length, refl, sym, ap, ◌∙◌, subst, arith}
use Rattle.std.specs.Prelude.{◌==◌, ◌||◌, slice_index, slice_index_or}
use Rattle.std.specs.Option.{is_some}
use Rattle.std.proofs.lemmas.List.{get_or_past}
use Rattle.std.proofs.lemmas.Bool.Decides.{nat_tests}
use Rattle.std.proofs.lemmas.List.Folds.{list_any-append}
use Rattle.lits.specs.Clause.{has}
use Rattle.netlist.specs.declared.gate.And.{And}
use Rattle.netlist.specs.Circuit.{gate_vars}
use Rattle.netlist.specs.VariableTable.{Places, place_in, IsTable}
use Rattle.netlist.proofs.PlaceLemmas.{is_some-place}
use Rattle.netlist.proofs.EditLemmas.{or_cases, or_skip, same_number}

-- an element of a list is in it
pub has-item : (xs : List ℕ) (i d : ℕ) → i < length xs → has ◌==◌ xs (slice_index_or xs i d) ≡ true
has-item [] i d l = absurd (omega arith)
has-item (x ∷ xs) zero d l = let here : (x == x) ≡ true = grind (arith, nat_tests) in ap (λ (b : Bool). b || has ◌==◌ xs x) here
has-item (x ∷ xs) (suc i) d l =
    or_skip (x == slice_index_or xs i d) (has ◌==◌ xs (slice_index_or xs i d)) (has-item xs i d (omega arith))

pub has-left : (xs ys : List ℕ) (v : ℕ) → has ◌==◌ xs v ≡ true → has ◌==◌ (xs ++ ys) v ≡ true
has-left xs ys v e = list_any-append (λ x. x == v) xs ys ∙ ap (λ (b : Bool). b || has ◌==◌ ys v) e

pub has-right : (xs ys : List ℕ) (v : ℕ) → has ◌==◌ ys v ≡ true → has ◌==◌ (xs ++ ys) v ≡ true
has-right xs ys v e = list_any-append (λ x. x == v) xs ys ∙ or_skip (has ◌==◌ xs v) (has ◌==◌ ys v) e

pub has-gate_item : (gates : List And) (i : ℕ) (d : And) → i < length gates → has ◌==◌ (gate_vars gates) (slice_index_or gates i d).var ≡ true
has-gate_item [] i d l = absurd (omega arith)
has-gate_item (g ∷ gs) zero d l =
    let here : (g.var == g.var) ≡ true = grind (arith, nat_tests) in ap (λ (b : Bool). b || has ◌==◌ (gate_vars gs) g.var) here
has-gate_item (g ∷ gs) (suc i) d l =
    or_skip (g.var == (slice_index_or gs i d).var) (has ◌==◌ (gate_vars gs) (slice_index_or gs i d).var) (has-gate_item gs i d (omega arith))

-- a bound of all variables is one of each
pub below_vars : (xs : List ℕ) (n v : ℕ) → All (λ x. x ≤ n) xs → has ◌==◌ xs v ≡ true → v ≤ n
below_vars [] n v all e = cc
below_vars (x ∷ xs) n v all e =
    or_cases (v ≤ n) (x == v) (has ◌==◌ xs v) e
    (λ same. subst (λ (w : ℕ). w ≤ n) (same_number x v same) (all 0 0 (omega arith)))
    (λ not_same there. below_vars xs n v (λ k d l. all (suc k) d (omega arith)) there)

pub below_gates : (gs : List And) (n v : ℕ) → All (λ g. g.var ≤ n) gs → has ◌==◌ (gate_vars gs) v ≡ true → v ≤ n
below_gates [] n v all e = cc
below_gates (g ∷ gs) n v all e =
    or_cases (v ≤ n) (g.var == v) (has ◌==◌ (gate_vars gs) v) e
    (λ same. subst (λ (w : ℕ). w ≤ n) (same_number g.var v same) (all 0 g (omega arith)))
    (λ not_same there. below_gates gs n v (λ k d l. all (suc k) d (omega arith)) there)

pub below_both : (xs : List ℕ) (gs : List And) (n v : ℕ) → All (λ x. x ≤ n) xs → All (λ g. g.var ≤ n) gs
    → has ◌==◌ (xs ++ gate_vars gs) v ≡ true → v ≤ n
below_both xs gs n v inputs gates e =
    or_cases (v ≤ n) (has ◌==◌ xs v) (has ◌==◌ (gate_vars gs) v) (sym (list_any-append (λ x. x == v) xs (gate_vars gs)) ∙ e)
    (λ first. below_vars xs n v inputs first) (λ not_first second. below_gates gs n v gates second)

-- a table reaches as far as each of its variables but the constant
pub table_room : (t : Places) (vars : List ℕ) (v : ℕ) → IsTable t vars → has ◌==◌ vars v ≡ true → (v == 0) ≡ false → v < length t.by_variable
table_room t vars v table e f = go (slice_index t.by_variable v == 0) refl found
  where
    found : is_some (place_in t v) ≡ true
    found = ap is_some (table.finds v) ∙ is_some-place (λ x. x == v) vars ∙ e

    go : (b : Bool) → (slice_index t.by_variable v == 0) ≡ b → is_some (place_in t v) ≡ true → v < length t.by_variable
    go true z some = let none : is_some (place_in t v) ≡ false = rw (f, z) refl in cc (none, some)
    go false z some = grind (arith, nat_tests, z, get_or_past t.by_variable v 0)
