-- Live clauses and the lines so far, one clause or line more.
use Rattle.std.proofs.Math.Seq.{split_at}
use Rattle.std.proofs.lemmas.List.{take_more}
use Rattle.std.proofs.Common.{◌≡◌, ℕ, zero, suc, ◌+◌, ◌-◌, ◌<◌, ◌≤◌, get_or, take, drop, Bool, true, false, cond, eqb, ltb, ◌||◌, List, [], ◌∷◌, ◌++◌, map, Option, Some, None, unwrap_or, length, refl, sym, ap, ◌∙◌, set, if◌then◌else◌, arith}
use Rattle.std.proofs.Math.Dec.{eqb-suc-zero, eqb-suc-suc}
use Rattle.std.proofs.Math.Bool.{or-false}
use Rattle.std.proofs.lemmas.List.Folds.{list_any-append}
use Rattle.std.proofs.Math.Path.{fun_ext}
use Rattle.std.proofs.lemmas.Option.{slice_get-map, slice_get_past}
use Rattle.std.specs.Option.{option_map}
use Rattle.std.specs.BTreeMap.{is_at}
use Rattle.std.specs.Ordering.{nat_cmp, is_eq}
use Rattle.std.specs.declared.cmp.Ordering.TheVariants.{Less, Equal, Greater}
use Rattle.std.proofs.lemmas.Bool.{eqb-true, eqb-false, ltb-true}
use Rattle.std.specs.List.{slice_get, list_any}
use Rattle.lits.specs.Dimacs.{DimacsLiteral}
use Rattle.lrat_text.specs.declared.step.Line.{Line}
use Rattle.lrat_text.specs.declared.step.LratStep.{LratStep}
use Rattle.lrat_text.specs.Derivation.{Live, formula_live, after_step, fault_over, adds_empty}
use Rattle.lrat_checker.specs.declared.live.Slot.{Slot}
use Rattle.lrat_checker.specs.declared.live.Slot.TheVariants.{Empty}
use Rattle.lrat_checker.specs.Live.{held_in}

-- a formula's clauses behind a slot for 0
module _ (formula : List (List DimacsLiteral)) (slots : List Slot) where
  pub slots-formula : (other : Option Slot) (id : ℕ) → map held_in slots ≡ None ∷ map Some formula → other ≡ None
      → held_in (unwrap_or (slice_get slots id) (unwrap_or other Empty)) ≡ formula_live formula id
  slots-formula other id same none =
      rw (none, outside (slice_get slots id), sym (slice_get-map held_in slots id), same) (at id)
    where
      outside : (o : Option Slot) → held_in (unwrap_or o Empty) ≡ unwrap_or (option_map held_in o) None
      outside None = refl
      outside (Some o) = refl

      at : (id : ℕ) → unwrap_or (slice_get (None ∷ map Some formula) id) None ≡ formula_live formula id
      at zero = refl
      at (suc k) =
          let f : suc k - 1 ≡ k = omega arith in
          rw (eqb-suc-zero k, f) (go formula k)
        where
          go : (xs : List (List DimacsLiteral)) (n : ℕ) → unwrap_or (slice_get (map Some xs) n) None ≡ slice_get xs n
          go [] n = refl
          go (x ∷ xs) zero = refl
          go (x ∷ xs) (suc n) = go xs n

-- a number is found in an ordered map where it is the same
pub at-number : (id name : ℕ) → is_at (nat_cmp id) name ≡ eqb id name
at-number id name = go (ltb id name) (eqb id name) refl refl
  where
    go : (l e : Bool) → ltb id name ≡ l → eqb id name ≡ e → is_eq (cond l Less (cond e Equal Greater)) ≡ e
    go true true p q = absurd (omega (arith, ltb-true id name p, eqb-true id name q))
    go true false p q = refl
    go false true p q = refl
    go false false p q = refl

-- which of two numbers is asked for makes no difference
flip : (a b : ℕ) → eqb a b ≡ eqb b a
flip a b = go (eqb a b) (eqb b a) refl refl
  where
    go : (x y : Bool) → eqb a b ≡ x → eqb b a ≡ y → x ≡ y
    go true true p q = refl
    go true false p q = absurd (eqb-false b a q (sym (eqb-true a b p)))
    go false true p q = absurd (eqb-false a b p (sym (eqb-true b a q)))
    go false false p q = refl

-- the entry of an id is taken out, or put in
pub taken-out : (old new : Option Slot) (id name : ℕ) → new ≡ cond (is_at (nat_cmp id) name) None old → new ≡ (if eqb id name then None else old)
taken-out old new id name e = e ∙ rw (at-number id name) refl

pub put-in : (old new : Option Slot) (slot : Slot) (id name : ℕ) → new ≡ cond (is_at (nat_cmp id) name) (Some slot) old
    → new ≡ (if eqb name id then Some slot else old)
put-in old new slot id name e = e ∙ rw (at-number id name, flip id name) refl

-- the clause of an id: in its slot, or in the entry beside the slots
abbrev clause_at : List Slot → ℕ → Option Slot → Option (List DimacsLiteral)
clause_at slots name other = held_in (unwrap_or (slice_get slots name) (unwrap_or other Empty))

-- a slot is filled anew
pub filled : (slots : List Slot) (id : ℕ) (slot : Slot) (name : ℕ) (other : Option Slot) → id < length slots
    → clause_at (set slots id slot) name other ≡ (if eqb name id then held_in slot else clause_at slots name other)
filled [] id slot name other within = absurd (omega (arith, within))
filled (s ∷ slots) zero slot zero other within = refl
filled (s ∷ slots) zero slot (suc n) other within = rw (eqb-suc-zero n) refl
filled (s ∷ slots) (suc i) slot zero other within = rw (flip zero (suc i), eqb-suc-zero i) refl
filled (s ∷ slots) (suc i) slot (suc n) other within = rw (eqb-suc-suc n i) (filled slots i slot n other (omega (arith, within)))

-- one slot more
pub added : (slots : List Slot) (slot : Slot) (name : ℕ) (other : Option Slot)
    → clause_at (slots ++ slot ∷ []) name other ≡ (if eqb name (length slots) then held_in slot else clause_at slots name other)
added [] slot zero other = refl
added [] slot (suc n) other = rw (eqb-suc-zero n) refl
added (s ∷ slots) slot zero other = rw (flip zero (suc (length slots)), eqb-suc-zero (length slots)) refl
added (s ∷ slots) slot (suc n) other = rw (eqb-suc-suc n (length slots)) (added slots slot n other)

-- an entry behind the slots
pub beside : (slots : List Slot) (slot : Slot) (id name : ℕ) (other new : Option Slot) → length slots ≤ id → new ≡ (if eqb name id then Some slot else other)
    → clause_at slots name new ≡ (if eqb name id then held_in slot else clause_at slots name other)
beside slots slot id name other new past is = go (eqb name id) refl is
  where
    go : (b : Bool) → eqb name id ≡ b → new ≡ (if b then Some slot else other)
        → clause_at slots name new ≡ (if b then held_in slot else clause_at slots name other)
    go true e o = rw (slice_get_past slots name (omega (arith, past, eqb-true name id e)), o) refl
    go false e o = rw o refl

-- Live clauses that are the same by each id have the same faults and are the same after each step.
pub fault_over-same : (live other : Live) → ((id : ℕ) → live id ≡ other id) → (step : LratStep) → fault_over live step ≡ fault_over other step
fault_over-same live other same step = ap (λ (l : Live). fault_over l step) (fun_ext same)

pub after_step-same : (live other : Live) → ((id : ℕ) → live id ≡ other id) → (step : LratStep) (id : ℕ) → after_step live step id ≡ after_step other step id
after_step-same live other same step id = ap (λ (l : Live). after_step l step id) (fun_ext same)

-- whether one of the lines so far adds the empty clause, or the next one does
pub empty-push : (lines : List Line) (line : Line) (has is : Bool) → has ≡ list_any (λ l. adds_empty l.step) lines → is ≡ adds_empty line.step
    → (has || is) ≡ list_any (λ l. adds_empty l.step) (lines ++ line ∷ [])
empty-push lines line has is h i =
    rw (h, i) (sym (list_any-append (λ l. adds_empty l.step) lines (line ∷ []) ∙ ap (λ (b : Bool). list_any (λ l. adds_empty l.step) lines || b) (or-false (adds_empty line.step))))

-- the lines are those so far, the next one and those behind it
module _ (lines : List Line) (i : ℕ) (line : Line) (within : i < length lines) (is : line ≡ get_or lines i line) where
  pub lines-whole : lines ≡ take i lines ++ line ∷ drop (suc i) lines
  lines-whole = split_at lines i line within ∙ ap (λ (l : Line). take i lines ++ l ∷ drop (suc i) lines) (sym is)

  pub lines-more : take (i + 1) lines ≡ take i lines ++ line ∷ []
  lines-more = take_more lines i line within ∙ ap (λ (l : Line). take i lines ++ l ∷ []) (sym is)
