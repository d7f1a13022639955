-- What a step shows: its clause holds wherever the clauses that its hints name hold.
use Rattle.std.proofs.Common.{◌≡◌, ℕ, ◌+◌, ◌<◌, ◌≤◌, Bool, true, false, not, ◌&&◌, ◌||◌, List, [], ◌∷◌, ◌++◌, Option, Some, None, Result, Ok, Err, length, drop, get_or, cond, refl, sym, ap, ◌∙◌, subst, inl, inr}
use Rattle.std.specs.Prelude.{filter, map}
use Rattle.std.specs.List.{list_any}
use Rattle.std.proofs.lemmas.Bool.{or_cases}
use Rattle.std.proofs.lemmas.List.{at_drop_more, at_drop_all}
use Rattle.lits.specs.Clause.{has, has_pair, firsts}
use Rattle.lits.specs.Assignment.{IsAssignment, Holds}
use Rattle.lits.proofs.Facts.{IsLiteral, has-firsts, has-append}
use Rattle.unit_prop.specs.declared.why.Why.{Why}
use Rattle.unit_prop.specs.declared.why.Why.TheVariants.{NotFalse, Satisfied}
use Rattle.unit_prop.specs.Step.{State, start_of, open_in, is_satisfied, after_open, after_hint, after_found, go_on, fault_from, IsStep}
use Rattle.unit_prop.proofs.LiteralLemmas.{alone, witness, passes, has-filter, has-map-opposite}

-- every literal of the set is true under v
pub record AreTrue {L : Type 0} (eq : L → L → Bool) (v : L → Bool) (set : List L) : Type 0 where
  pub are_true : (l : L) → has eq set l ≡ true → v l ≡ true

module _ {L : Type 0} {eq : L → L → Bool} {opposite : L → L} (laws : IsLiteral eq opposite) where
  -- a literal is open in a clause where it is in it and its negation isn't in the set
  pub has-open_in : (set clause : List L) (q : L) → has eq (open_in eq opposite set clause) q ≡ (has eq clause q && not (has eq set (opposite q)))
  has-open_in set clause q = has-firsts laws (filter (λ l. not (has eq set (opposite l))) clause) q ∙ has-filter laws (λ l. not (has eq set (opposite l))) clause q

  -- after a hint whose clause holds, all that the step has found is true, and no clause was wholly false
  pub after_hint-true : (v : L → Bool) → IsAssignment opposite v → (s t : State L) (clause : List L)
      → s.clashed ≡ false → AreTrue eq v s.set → Holds v clause → after_hint eq opposite s clause ≡ Ok t
      → (t.clashed ≡ false) × AreTrue eq v t.set
  after_hint-true v assigns s t clause quiet true_so_far holds e =
      satisfied (is_satisfied eq s.set clause) refl
    where
      w : (m : L) × (has eq clause m ≡ true) × (v m ≡ true)
      w = witness laws v clause holds

      free : not (has eq s.set (opposite w.0)) ≡ true
      free = go (has eq s.set (opposite w.0)) refl
        where
          go : (b : Bool) → has eq s.set (opposite w.0) ≡ b → not b ≡ true
          go false f = refl
          go true f =
              let g : v (opposite w.0) ≡ true = true_so_far.are_true _ f in
              let h : v (opposite w.0) ≡ not (v w.0) = assigns.negates w.0 in
              let k : not (v w.0) ≡ false = ap not w.2 in cc

      found : has eq (open_in eq opposite s.set clause) w.0 ≡ true
      found = has-open_in s.set clause w.0 ∙ rw (w.1, free) refl

      opened : (os : List L) → open_in eq opposite s.set clause ≡ os → after_open s.set os ≡ Ok t
          → (t.clashed ≡ false) × AreTrue eq v t.set
      opened [] f g = let h = sym (ap (λ (l : List L). has eq l w.0) f) ∙ found in cc
      opened (l ∷ []) f g =
          let h : (eq l w.0 || false) ≡ true = sym (ap (λ (o : List L). has eq o w.0) f) ∙ found in
          let same : l ≡ w.0 = laws.exact l w.0 (alone _ h) in
          let at : t ≡ record { set = s.set ++ l ∷ []; clashed = false } = cc in
          (ap (λ (z : State L). z.clashed) at, subst (λ (z : State L). AreTrue eq v z.set) (sym at) (more same))
        where
          more : l ≡ w.0 → AreTrue eq v (s.set ++ l ∷ [])
          more same = record {
            are_true = λ q k. elim (or_cases (has eq s.set q) (has eq (l ∷ []) q) (sym (has-append laws s.set (l ∷ []) q) ∙ k)) [
              | inl a ↦ true_so_far.are_true q a
              | inr b ↦ let here = laws.exact l q (alone _ b) in ap v (sym here ∙ same) ∙ w.2
            ];
          }
      opened (l ∷ m ∷ ls) f g = cc

      satisfied : (b : Bool) → is_satisfied eq s.set clause ≡ b → (t.clashed ≡ false) × AreTrue eq v t.set
      satisfied true f = let g : Err Satisfied ≡ Ok t = rw (quiet, f) at e in cc
      satisfied false f = opened (open_in eq opposite s.set clause) refl (rw (quiet, f) at e)

  -- a step without a fault can't be one of a clause that is false where all that is named holds
  pub fault_from-none : {N : Type 0} (v : L → Bool) → IsAssignment opposite v → (find : N → Option (List L))
      → ((n : N) (c : List L) → find n ≡ Some c → Holds v c) → (place : ℕ) (s : State L) (hints : List N)
      → s.clashed ≡ false → AreTrue eq v s.set → fault_from eq opposite find place s hints ≡ None → ⊥
  fault_from-none v assigns find holds place s [] quiet so_far e = let f : Some _ ≡ None = rw quiet at e in cc
  fault_from-none v assigns find holds place s (n ∷ ns) quiet so_far e = named (λ t. fault_from-none v assigns find holds (place + 1) t ns) (find n) refl
    where
      go : ((t : State L) → t.clashed ≡ false → AreTrue eq v t.set → fault_from eq opposite find (place + 1) t ns ≡ None → ⊥)
          → (c : List L) (r : Result (State L) Why) → find n ≡ Some c → after_hint eq opposite s c ≡ r → ⊥
      go rest c (Ok t) f g =
          let next = after_hint-true v assigns s t c quiet so_far (holds n c f) g in
          rest t next.0 next.1 (rw (f, g) at e)
      go rest c (Err why) f g = let h : Some _ ≡ None = rw (f, g) at e in cc

      named : ((t : State L) → t.clashed ≡ false → AreTrue eq v t.set → fault_from eq opposite find (place + 1) t ns ≡ None → ⊥)
          → (o : Option (List L)) → find n ≡ o → ⊥
      named rest None f = let h : Some _ ≡ None = rw f at e in cc
      named rest (Some c) f = go rest c (after_hint eq opposite s c) f refl

  -- a step's clause holds where the clauses that it is a step over hold
  pub step-holds : {N : Type 0} (v : L → Bool) → IsAssignment opposite v → (find : N → Option (List L))
      → ((n : N) (c : List L) → find n ≡ Some c → Holds v c) → (clause : List L) (hints : List N)
      → IsStep eq opposite find clause hints → Holds v clause
  step-holds v assigns find holds clause hints step = go (list_any v clause) refl
    where
      no_pair : has_pair eq opposite clause ≡ false
      no_pair = pair (has_pair eq opposite clause) refl
        where
          pair : (b : Bool) → has_pair eq opposite clause ≡ b → b ≡ false
          pair true f = let h : Some _ ≡ None = rw f at step in cc
          pair false f = refl

      go : (b : Bool) → list_any v clause ≡ b → list_any v clause ≡ true
      go true f = f
      go false f = absurd (fault_from-none v assigns find holds 1 (start_of eq opposite clause) hints refl start (rw no_pair at step))
        where
          start : AreTrue eq v (map opposite (firsts eq clause))
          start = record { are_true = λ l h. flipped l (sym (has-map-opposite laws (firsts eq clause) l ∙ has-firsts laws clause (opposite l)) ∙ h) }
            where
              flipped : (l : L) → has eq clause (opposite l) ≡ true → v l ≡ true
              flipped l h = value (v l) (v (opposite l)) refl refl
                where
                  value : (a b : Bool) → v l ≡ a → v (opposite l) ≡ b → v l ≡ true
                  value true b g k = g
                  value false true g k = let p = passes laws v clause (opposite l) h k in cc
                  value false false g k =
                      let n = assigns.negates l in let q : not (v l) ≡ true = ap not g in cc

module _ {N L : Type 0} (eq : L → L → Bool) (opposite : L → L) (find : N → Option (List L)) where
  -- the first fault from a hint on that isn't refused is that of the hints behind it
  pub fault-behind : (hints : List N) (i place : ℕ) (n : N) (s t : State L) → i < length hints → n ≡ get_or hints i n
      → after_found eq opposite s (find n) ≡ Ok t
      → fault_from eq opposite find place s (drop i hints) ≡ fault_from eq opposite find (place + 1) t (drop (i + 1) hints)
  fault-behind hints i place n s t below at found =
      at_drop_more (fault_from eq opposite find place s) hints i n below
      ∙ ap (λ m. fault_from eq opposite find place s (m ∷ drop (i + 1) hints)) (sym at)
      ∙ ap (λ r. go_on r place (λ u. fault_from eq opposite find (place + 1) u (drop (i + 1) hints))) found

  -- behind the last hint it is that no clause was wholly false
  pub fault-behind_all : (hints : List N) (i place : ℕ) (s : State L) (b : Bool) → length hints ≤ i → s.clashed ≡ b
      → fault_from eq opposite find place s (drop i hints) ≡ cond b None (Some (record { hint = 0; why = NotFalse }))
  fault-behind_all hints i place s b past clashed =
      at_drop_all (fault_from eq opposite find place s) hints i past
      ∙ ap (λ c. cond c None (Some (record { hint = 0; why = NotFalse }))) clashed
