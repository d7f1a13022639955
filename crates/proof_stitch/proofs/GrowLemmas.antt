-- A formula that grows by what is derived: additions under ids without gaps, each a step over the formula so far.
use Rattle.std.proofs.Common.{◌≡◌, ℕ, ◌+◌, ◌-◌, ◌<◌, ◌≤◌, ◌^◌, Bool, true, false, eqb, Option, None, Some, Result, Ok, Err, List, [], ◌∷◌, ◌++◌, length, refl, sym, ap, ◌∙◌, subst, arith, length-append, ◌⊎◌, inl, inr}
use Rattle.std.specs.Prelude.{slice_get}
use Rattle.std.specs.List.{AllByRecursion}
use Rattle.std.proofs.lemmas.Bool.{cases_lt, eq-eqb}
use Rattle.std.proofs.lemmas.Bool.Decides.{nat_tests}
use Rattle.std.proofs.lemmas.Option.{none-some, slice_get_within, slice_get_past}
use mathlib.Core.Path.{fun_ext}
use Rattle.lits.specs.Dimacs.{DimacsLiteral}
use Rattle.lits.specs.Clause.{has_pair}
use Rattle.unit_prop.specs.declared.why.Why.{Why}
use Rattle.unit_prop.specs.Step.{State, start_of, after_hint, fault_from, IsStep}
use Rattle.netlist.proofs.Facts.{slice_get-left, slice_get-right}
use Rattle.lrat_text.specs.declared.step.LratStep.{LratStep}
use Rattle.lrat_text.specs.declared.step.LratStep.TheVariants.{Add, Del}
use Rattle.lrat_text.specs.Writing.{numbered, IsId, IsInRange, AreWritable}
use Rattle.lrat_text.specs.Derivation.{Live, formula_live, after_step, DerivesFrom, Derives}
use Rattle.lits.specs.Same.{same_dim, opposite_dim}

abbrev pub Formula : Type 0
Formula = List (List DimacsLiteral)

-- the addition under the next id is a step over the formula, with literals in range
pub record IsNext (formula : Formula) (id : ℕ) (clause : List DimacsLiteral) (hints : List ℕ) : Type 0 where
  pub id_is : id ≡ length formula + 1
  pub step : IsStep same_dim opposite_dim (formula_live formula) clause hints
  pub range : AllByRecursion IsInRange clause

-- each of the additions is the next one over the formula and the clauses that were added before it
abbrev pub Grows : Formula → List LratStep → Type 0
Grows formula [] = Unit {0}
Grows formula (Add id clause hints ∷ steps) = IsNext formula id clause hints × Grows (formula ++ clause ∷ []) steps
Grows formula (Del ids ∷ steps) = ⊥

pub test_other : (a b : ℕ) → (a < b) ⊎ (b < a) → eqb a b ≡ false
test_other a b (inl h) = grind (arith, nat_tests)
test_other a b (inr h) = grind (arith, nat_tests)

-- the formula's clause of an id
pub live-is : (formula : Formula) (id : ℕ) → 1 ≤ id → formula_live formula id ≡ slice_get formula (id - 1)
live-is formula id least = rw (test_other id 0 (inr (omega arith))) refl

-- a clause more is live under the next id
live-at : (formula : Formula) (clause : List DimacsLiteral) (hints : List ℕ) (id : ℕ)
    → after_step (formula_live formula) (Add (length formula + 1) clause hints) id ≡ formula_live (formula ++ clause ∷ []) id
live-at formula clause hints id =
    elim (cases_lt id 1) [
      | inl none ↦
          let zero : id ≡ 0 = omega arith in
          rw (zero, test_other 0 (length formula + 1) (inl (omega arith))) refl
      | inr least ↦ elim (cases_lt (length formula + 1) id) [
        | inl past ↦
            rw (test_other id (length formula + 1) (inr past))
            (live-is formula id least
            ∙ slice_get_past formula (id - 1) (omega arith)
            ∙ sym (live-is (formula ++ clause ∷ []) id least
            ∙ slice_get_past (formula ++ clause ∷ []) (id - 1) (omega (arith, length-append formula (clause ∷ [])))))
        | inr upto ↦ elim (cases_lt id (length formula + 1)) [
          | inl within ↦
              rw (test_other id (length formula + 1) (inl within))
              (live-is formula id least
              ∙ sym (slice_get-left formula (clause ∷ []) (id - 1) (omega arith))
              ∙ sym (live-is (formula ++ clause ∷ []) id least))
          | inr next ↦
              let at : id - 1 ≡ length formula + 0 = omega arith in
              rw (eq-eqb id (length formula + 1) (omega arith))
              (sym (live-is (formula ++ clause ∷ []) id least ∙ ap (slice_get (formula ++ clause ∷ [])) at
              ∙ slice_get-right formula (clause ∷ []) 0))
        ]
      ]
    ]

live-push : (formula : Formula) (clause : List DimacsLiteral) (hints : List ℕ)
    → after_step (formula_live formula) (Add (length formula + 1) clause hints) ≡ formula_live (formula ++ clause ∷ [])
live-push formula clause hints = fun_ext (live-at formula clause hints)

-- what a formula grows by derives from it
pub grows-derives : (formula : Formula) (steps : List LratStep) (at : ℕ) → Grows formula steps → Derives formula (numbered at steps)
grows-derives formula [] at g = tt
grows-derives formula (Add id clause hints ∷ steps) at g = (
  g.0.step,
  subst (λ (i : ℕ). DerivesFrom (after_step (formula_live formula) (Add i clause hints)) (numbered (at + 1) steps)) (sym g.0.id_is)
      (subst (λ (live : Live). DerivesFrom live (numbered (at + 1) steps)) (sym (live-push formula clause hints))
      (grows-derives (formula ++ clause ∷ []) steps (at + 1) g.1)),
)
grows-derives formula (Del ids ∷ steps) at g = elim g [ ]

-- the name has a clause
pub record IsFound {N L : Type 0} (find : N → Option (List L)) (name : N) : Type 0 where
  pub clause : List L
  pub is : find name ≡ Some clause

module _ {N L : Type 0} (eq : L → L → Bool) (opposite : L → L) (find : N → Option (List L)) where
  fault_from-found : (place : ℕ) (s : State L) (hints : List N) → fault_from eq opposite find place s hints ≡ None
      → AllByRecursion (IsFound find) hints
  fault_from-found place s [] e = tt
  fault_from-found place s (n ∷ ns) e = named (λ t. fault_from-found (place + 1) t ns) (find n) refl
    where
      go : ((t : State L) → fault_from eq opposite find (place + 1) t ns ≡ None → AllByRecursion (IsFound find) ns)
          → (c : List L) (r : Result (State L) Why) → find n ≡ Some c → after_hint eq opposite s c ≡ r → AllByRecursion (IsFound find) (n ∷ ns)
      go rest c (Ok t) f g = (record { clause = c; is = f }, rest t (rw (f, g) at e))
      go rest c (Err why) f g = let h : Some _ ≡ None = rw (f, g) at e in cc

      named : ((t : State L) → fault_from eq opposite find (place + 1) t ns ≡ None → AllByRecursion (IsFound find) ns)
          → (o : Option (List L)) → find n ≡ o → AllByRecursion (IsFound find) (n ∷ ns)
      named rest None f = let h : Some _ ≡ None = rw f at e in cc
      named rest (Some c) f = go rest c (after_hint eq opposite s c) f refl

  -- each hint of a step names a clause
  pub step-found : (clause : List L) (hints : List N) → IsStep eq opposite find clause hints → AllByRecursion (IsFound find) hints
  step-found clause hints step = go (has_pair eq opposite clause) refl
    where
      go : (b : Bool) → has_pair eq opposite clause ≡ b → AllByRecursion (IsFound find) hints
      go true f = let h : Some _ ≡ None = rw f at step in cc
      go false f = fault_from-found 1 (start_of eq opposite clause) hints (rw f at step)

-- the ids of a formula's clauses count from 1
pub live-range : (formula : Formula) (id : ℕ) (clause : List DimacsLiteral) → formula_live formula id ≡ Some clause
    → (1 ≤ id) × (id ≤ length formula)
live-range formula id clause e =
    elim (cases_lt id 1) [
      | inl none ↦
          let zero : id ≡ 0 = omega arith in
          absurd (none-some clause (rw zero at e))
      | inr least ↦
          let within = slice_get_within formula (id - 1) clause (sym (live-is formula id least) ∙ e) in
          (least, omega arith)
    ]

ids : (formula : Formula) (names : List ℕ) → length formula < 10 ^ 18 → AllByRecursion (IsFound (formula_live formula)) names
    → AllByRecursion IsId names
ids formula [] few found = tt
ids formula (n ∷ ns) few found =
    let r = live-range formula n found.0.clause found.0.is in ((r.0, omega arith), ids formula ns few found.1)

-- and it can be written, if it isn't too long
pub grows-writable : (formula : Formula) (steps : List LratStep) → length formula + length steps < 10 ^ 18 → Grows formula steps
    → AreWritable (length formula) steps
grows-writable formula [] few g = tt
grows-writable formula (Add id clause hints ∷ steps) few g = (
  (
    omega (arith, g.0.id_is),
    omega (arith, g.0.id_is),
    g.0.range,
    ids formula hints (omega arith) (step-found same_dim opposite_dim (formula_live formula) clause hints g.0.step),
  ),
  subst (λ (n : ℕ). AreWritable n steps) next
      (grows-writable (formula ++ clause ∷ []) steps (omega (arith, length-append formula (clause ∷ []))) g.1),
)
  where
    next : length (formula ++ clause ∷ []) ≡ id
    next = omega (arith, length-append formula (clause ∷ []), g.0.id_is)
grows-writable formula (Del ids ∷ steps) few g = elim g [ ]
