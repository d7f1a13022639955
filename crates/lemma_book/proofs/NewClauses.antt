-- When clauses are new, as it is found out: by closures, clause by clause.
use Rattle.std.proofs.Common.{◌≡◌, ℕ, ◌+◌, ◌<◌, ◌≤◌, Bool, true, false, not, ◌||◌, List, [], ◌∷◌, ◌++◌, map, length, take, zero, suc, Some, refl, inl, inr, sym, ap, ◌∙◌, subst, append_assoc, arith}
use Rattle.std.specs.Prelude.{slice_get, ◌&&◌, Option, IfSome}
use Rattle.std.proofs.lemmas.Bool.{cases_lt, or_right}
use Rattle.std.proofs.lemmas.Option.{none-some, same_Some, slice_get_within}
use Rattle.std.specs.List.{list_all, AllByRecursion}
use Rattle.lits.specs.Clause.{has}
use Rattle.lits.specs.declared.literal.Lit.{Lit}
use Rattle.lits.specs.Same.{same_lit, opposite}
use Rattle.unit_prop.specs.Closure.{IsOpen, IsClosure, Clashes, ClosesTo}
use Rattle.unit_prop.specs.declared.propagation.Closure.TheVariants.{Free}
use Rattle.unit_prop.specs.New.{occurs, others_negated, Lacks, IsNew}
use Rattle.lits.specs.declared.step.Named.{Named}
use Rattle.lits.specs.declared.step.Step.{Step}
use Rattle.unit_prop.specs.Log.{base_clauses, clauses_of}
use Rattle.lits.proofs.Facts.{exact-lit, lit_laws}
use Rattle.lemma_book.specs.Judging.{Tells, IsFresh}
use Rattle.lemma_book.proofs.Telling.{tells-yes, tells-no}

module _ (clauses : List (List Lit)) where
  -- the closure lacks what its list lacks
  pub closure-lacks : (given found : List Lit) (l : Lit) → IsClosure same_lit opposite clauses given found → ¬ Clashes opposite clauses (has same_lit found)
      → Tells (Lacks same_lit opposite clauses given l) (not (has same_lit found l))
  closure-lacks given found l is apart = go (has same_lit found l) refl
    where
      go : (b : Bool) → has same_lit found l ≡ b → Tells (Lacks same_lit opposite clauses given l) (not b)
      go false e = record { set = has same_lit found; closed = is.closed; apart = apart; lacks = e }
      go true e = λ lacks. let f = is.least lacks.set lacks.closed l e in let g = lacks.lacks in cc

  pub found-lacks : (given found : List Lit) (l : Lit) → ClosesTo same_lit opposite clauses given (Free found) → (b : Bool) → b ≡ has same_lit found l
      → Tells (Lacks same_lit opposite clauses given l) (not b)
  found-lacks given found l closes b e =
      subst (λ (x : Bool). Tells (Lacks same_lit opposite clauses given l) (not x)) (sym e) (closure-lacks given found l closes.0 closes.1)

  -- the literal is in the clause and lacked
  abbrev pub IsLacked : List Lit → Lit → Type 0
  IsLacked clause l = Lacks same_lit opposite clauses (others_negated same_lit opposite clause l) l

  all-occur : (ls : List Lit) → list_all (occurs same_lit opposite clauses) ls ≡ true → AllByRecursion (λ l. occurs same_lit opposite clauses l ≡ true) ls
  all-occur [] e = tt
  all-occur (l ∷ ls) e = go (occurs same_lit opposite clauses l) refl (all-occur ls) e
    where
      go : (b : Bool) → occurs same_lit opposite clauses l ≡ b
          → (list_all (occurs same_lit opposite clauses) ls ≡ true → AllByRecursion (λ m. occurs same_lit opposite clauses m ≡ true) ls)
          → (b && list_all (occurs same_lit opposite clauses) ls) ≡ true → AllByRecursion (λ m. occurs same_lit opposite clauses m ≡ true) (l ∷ ls)
      go true f rest g = (f, rest g)
      go false f rest g = cc

  occur-all : (ls : List Lit) → AllByRecursion (λ l. occurs same_lit opposite clauses l ≡ true) ls → list_all (occurs same_lit opposite clauses) ls ≡ true
  occur-all [] all = refl
  occur-all (l ∷ ls) all = rw (all.0, occur-all ls all.1) refl

  pub strange-old : (clause : List Lit) → list_all (occurs same_lit opposite clauses) clause ≡ false → ¬ IsNew same_lit opposite clauses clause
  strange-old clause e new = let f = occur-all clause new.known in cc

  pub lacked-new : (clause : List Lit) (i : ℕ) (l : Lit) → list_all (occurs same_lit opposite clauses) clause ≡ true → slice_get clause i ≡ Some l
      → IsLacked clause l → IsNew same_lit opposite clauses clause
  lacked-new clause i l all at lacked = record { known = all-occur clause all; lit = l; inside = inside clause i at; missed = lacked }
    where
      inside : (ls : List Lit) (k : ℕ) → slice_get ls k ≡ Some l → has same_lit ls l ≡ true
      inside [] k e = absurd (none-some l e)
      inside (m ∷ ms) zero e = let same = same_Some m l e in rw (ap (λ (x : Lit). same_lit x l) same ∙ lit_laws.equivalence.refl l) refl
      inside (m ∷ ms) (suc k) e = or_right (same_lit m l) (has same_lit ms l) (inside ms k e)

  pub none-new : (clause : List Lit) → ((i : ℕ) (l : Lit) → i < length clause → slice_get clause i ≡ Some l → ¬ IsLacked clause l) → ¬ IsNew same_lit opposite clauses clause
  none-new clause none new = let at = place clause new.inside in none at.0 new.lit (slice_get_within clause at.0 new.lit at.1) at.1 new.missed
    where
      place : (ls : List Lit) → has same_lit ls new.lit ≡ true → (i : ℕ) × (slice_get ls i ≡ Some new.lit)
      place [] h = cc
      place (m ∷ ms) h = go (same_lit m new.lit) refl (place ms) h
        where
          go : (b : Bool) → same_lit m new.lit ≡ b → (has same_lit ms new.lit ≡ true → (i : ℕ) × (slice_get ms i ≡ Some new.lit))
              → (b || has same_lit ms new.lit) ≡ true → (i : ℕ) × (slice_get (m ∷ ms) i ≡ Some new.lit)
          go true f rest g = (0, ap (λ (x : Lit). Some x) (exact-lit m new.lit f))
          go false f rest g = let at = rest g in (suc at.0, at.1)

  -- literals so far, and one more
  pub lacked-next : (clause : List Lit) (n : ℕ) (l : Lit) → slice_get clause n ≡ Some l → ¬ IsLacked clause l
      → ((i : ℕ) (x : Lit) → i < n → slice_get clause i ≡ Some x → ¬ IsLacked clause x)
      → (i : ℕ) (x : Lit) → i < n + 1 → slice_get clause i ≡ Some x → ¬ IsLacked clause x
  lacked-next clause n l at not_lacked before i x below there lacked = elim (cases_lt i n) [
    | inl less ↦ before i x less there lacked
    | inr past ↦
        let same_place : i ≡ n = omega (arith, below, past) in
        let same : l ≡ x = same_Some l x (sym at ∙ sym (ap (slice_get clause) same_place) ∙ there) in
        not_lacked (subst (IsLacked clause) (sym same) lacked)
  ]

-- the clauses of a base and of the steps so far, and one more
pub next-clauses : (base : List Named) (log : List Step) (k : ℕ) (s : Step) → slice_get log k ≡ Some s
    → clauses_of base (take (k + 1) log) ≡ clauses_of base (take k log) ++ s.clause ∷ []
next-clauses base log k s at =
    ap (λ (l : List (List Lit)). base_clauses base ++ l) (go log k at) ∙ sym (append_assoc (base_clauses base) (map (λ t. t.clause) (take k log)) (s.clause ∷ []))
  where
    one_more : (t : Step) (ts : List Step) (n : ℕ) → take (suc n + 1) (t ∷ ts) ≡ t ∷ take (n + 1) ts
    one_more t ts n = let e : suc n + 1 ≡ suc (n + 1) = omega arith in ap (λ (m : ℕ). take m (t ∷ ts)) e

    go : (ss : List Step) (n : ℕ) → slice_get ss n ≡ Some s → map (λ t. t.clause) (take (n + 1) ss) ≡ map (λ t. t.clause) (take n ss) ++ s.clause ∷ []
    go [] n e = absurd (none-some s e)
    go (t ∷ ts) zero e = ap (λ (x : Step). x.clause ∷ []) (same_Some t s e)
    go (t ∷ ts) (suc n) e = ap (map (λ (x : Step). x.clause)) (one_more t ts n) ∙ ap (λ (l : List (List Lit)). t.clause ∷ l) (go ts n e)

-- the next clause, as it is read, and the clauses before it
module _ (cone : List Named) (log : List Step) (k : ℕ) (s : Step) (at : slice_get log k ≡ Some s) (cs : List (List Lit)) (is : cs ≡ clauses_of cone (take k log))
    (read : List Lit) (read_is : read ≡ s.clause) (b : Bool) where
  back : IsNew same_lit opposite (clauses_of cone (take k log)) s.clause → IsNew same_lit opposite cs read
  back new = subst (IsNew same_lit opposite cs) (sym read_is) (subst (λ (l : List (List Lit)). IsNew same_lit opposite l s.clause) (sym is) new)

  module _ (x : Option Lit) where
    abbrev At : List (List Lit) → Type 0
    At l = IfSome x (λ m. IsOpen same_lit opposite l (m ∷ []))

    abbrev IsFine : Type 0
    IsFine = IsNew same_lit opposite cs read × At cs

    pub stale-now : b ≡ false → Tells IsFine b → ¬ IsFresh cone x log k
    stale-now e t all = tells-no IsFine b e t (back (all.new s at), subst At (sym is) (all.undecided s at))

    pub new-now : b ≡ true → Tells IsFine b → IsNew same_lit opposite (clauses_of cone (take k log)) s.clause × At (clauses_of cone (take k log))
    new-now e t =
        let both = tells-yes IsFine b e t in (
          subst (λ (l : List (List Lit)). IsNew same_lit opposite l s.clause) is (subst (IsNew same_lit opposite cs) read_is both.0),
          subst At is both.1,
        )

module _ (P : ℕ → Step → Type 0) (log : List Step) where
  -- what holds of the steps so far and of the next one
  pub each-next : (k : ℕ) (s : Step) → slice_get log k ≡ Some s → P k s → ((j : ℕ) → j < k → (t : Step) → slice_get log j ≡ Some t → P j t)
      → (j : ℕ) → j < k + 1 → (t : Step) → slice_get log j ≡ Some t → P j t
  each-next k s at here before j below t there = elim (cases_lt j k) [
    | inl less ↦ before j less t there
    | inr past ↦
        let same_place : k ≡ j = omega (arith, below, past) in
        let same : s ≡ t = same_Some s t (sym at ∙ ap (slice_get log) same_place ∙ there) in
        subst (λ (x : Step). P j x) same (subst (λ (n : ℕ). P n s) same_place here)
  ]

  -- and of all steps where there are no more
  pub each-past : (k : ℕ) → length log ≤ k → ((j : ℕ) → j < k → (t : Step) → slice_get log j ≡ Some t → P j t)
      → (j : ℕ) (t : Step) → slice_get log j ≡ Some t → P j t
  each-past k past before j t there = let within = slice_get_within log j t there in before j (omega (arith, past, within)) t there
