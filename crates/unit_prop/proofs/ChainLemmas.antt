-- What a chain of steps shows: each of its clauses holds wherever the clauses that it stands on hold.
use Rattle.std.proofs.Common.{◌≡◌, ℕ, Bool, true, false, List, [], ◌∷◌, ◌++◌, Option, Some, None, refl, sym, subst, append_assoc}
use Rattle.std.proofs.lemmas.List.{append-nil}
use Rattle.std.specs.List.{slice_get, AllByRecursion}
use Rattle.lits.specs.Assignment.{IsAssignment, Holds, Meets, Follows}
use Rattle.lits.specs.declared.literal.Lit.{Lit}
use Rattle.lits.specs.declared.step.Named.{Named}
use Rattle.lits.specs.declared.step.Step.{Step}
use Rattle.lits.specs.declared.step.Ref.{Ref}
use Rattle.lits.specs.declared.step.Ref.TheVariants.{Axiom, Entry, Own, Bound}
use Rattle.lits.proofs.Facts.{IsLiteral, all-slice_get, all-append}
use Rattle.unit_prop.specs.Step.{IsStep, AllHold}
use Rattle.unit_prop.specs.Log.{same_name, base_clause, base_clauses, with_own, InTurn, IsStepAfter, IsChain, IsLearned, IsLog}
use Rattle.lits.specs.Same.{same_lit, opposite}
use Rattle.unit_prop.specs.Refuter.{Answers}
use Rattle.unit_prop.specs.declared.refuter.Refuted.{Refuted}
use Rattle.unit_prop.proofs.StepLemmas.{step-holds}

pub in_turn-map : {X : Type 0} (P Q : List X → X → Type 0) (before xs : List X) → ((b : List X) (x : X) → P b x → Q b x)
    → InTurn P before xs → InTurn Q before xs
in_turn-map P Q before [] f p = tt
in_turn-map P Q before (x ∷ xs) f p = (f before x p.0, in_turn-map P Q (before ++ x ∷ []) xs f p.1)

pub in_turn-append : {X : Type 0} (P : List X → X → Type 0) (before xs ys : List X) → InTurn P before xs
    → InTurn P (before ++ xs) ys → InTurn P before (xs ++ ys)
in_turn-append P before [] ys p q = subst (λ (b : List _). InTurn P b ys) (append-nil before) q
in_turn-append P before (x ∷ xs) ys p q =
    (p.0, in_turn-append P (before ++ x ∷ []) xs ys p.1 (subst (λ (b : List _). InTurn P b ys) (sym (append_assoc before (x ∷ []) xs)) q))

pub all-base : (v : Lit → Bool) (base : List Named) → Meets v (base_clauses base) → AllByRecursion (λ n. Holds v n.clause) base
all-base v [] meets = tt
all-base v (n ∷ ns) meets = (meets.0, all-base v ns meets.1)

pub base_clause-holds : (v : Lit → Bool) (base : List Named) → AllByRecursion (λ n. Holds v n.clause) base
    → (name : Ref) (c : List Lit) → base_clause base name ≡ Some c → Holds v c
base_clause-holds v [] all name c e = let f : None ≡ Some c = e in cc
base_clause-holds v (n ∷ ns) all name c e = go (same_name n.by name) refl (base_clause-holds v ns all.1 name c)
  where
    go : (b : Bool) → same_name n.by name ≡ b → (base_clause ns name ≡ Some c → Holds v c) → Holds v c
    go true f rest = let g : Some n.clause ≡ Some c = rw f at e in let h : n.clause ≡ c = cc in subst (λ (l : List Lit). Holds v l) h all.0
    go false f rest = rest (rw f at e)

module _ (laws : IsLiteral same_lit opposite) (v : Lit → Bool) (assigns : IsAssignment opposite v) (find : Ref → Option (List Lit))
    (holds : (n : Ref) (c : List Lit) → find n ≡ Some c → Holds v c) where
  pub with_own-holds : (steps : List Step) → AllByRecursion (λ s. Holds v s.clause) steps → (n : Ref) (c : List Lit)
      → with_own find steps n ≡ Some c → Holds v c
  with_own-holds steps all (Axiom node k) c e = holds (Axiom node k) c e
  with_own-holds steps all (Entry entry k) c e = holds (Entry entry k) c e
  with_own-holds steps all (Bound side k) c e = holds (Bound side k) c e
  with_own-holds steps all (Own k) c e = go (slice_get steps k) refl
    where
      go : (o : Option Step) → slice_get steps k ≡ o → Holds v c
      go None f = let g : None ≡ Some c = rw f at e in cc
      go (Some s) f =
          let g : Some s.clause ≡ Some c = rw f at e in let h : s.clause ≡ c = cc in
          subst (λ (l : List Lit). Holds v l) h (all-slice_get (λ (t : Step). Holds v t.clause) steps k s all f)

  pub chain-holds : (before steps : List Step) → AllByRecursion (λ s. Holds v s.clause) before
      → InTurn (IsStepAfter find) before steps → AllByRecursion (λ s. Holds v s.clause) (before ++ steps)
  chain-holds before [] all chain = subst (λ (l : List Step). AllByRecursion (λ s. Holds v s.clause) l) (sym (append-nil before)) all
  chain-holds before (s ∷ ss) all chain =
      let here : Holds v s.clause = step-holds laws v assigns (with_own find before) (with_own-holds before all) s.clause s.hints chain.0 in
      let more = all-append (λ (t : Step). Holds v t.clause) before (s ∷ []) all (here, tt) in
      subst (λ (l : List Step). AllByRecursion (λ t. Holds v t.clause) l) (append_assoc before (s ∷ []) ss)
      (chain-holds (before ++ s ∷ []) ss more chain.1)

module _ (laws : IsLiteral same_lit opposite) where
  -- what is a step over base and log follows from the base
  pub base-implies : (base : List Named) (log : List Step) (clause : List Lit) (hints : List Ref)
      → IsLog base log → IsStep same_lit opposite (with_own (base_clause base) log) clause hints
      → Follows opposite (base_clauses base) clause
  base-implies base log clause hints learned step v assigns meets =
      let all : AllByRecursion (λ n. Holds v n.clause) base = all-base v base meets in
      let found = base_clause-holds v base all in
      let chain = in_turn-map (IsLearned base) (IsStepAfter (base_clause base)) [] log (λ b x p. p.step) learned in
      step-holds laws v assigns (with_own (base_clause base) log)
      (with_own-holds laws v assigns (base_clause base) found log (chain-holds laws v assigns (base_clause base) found [] log tt chain))
      clause hints step

-- what a query makes of a log is a log again
pub log-grows : (base : List Named) (target : List Lit) (log : List Step) (left : ℕ) (log' : List Step) (left' : ℕ) (r : Refuted)
    → IsLog base log → Answers base target log left log' left' r → IsLog base log'
log-grows base target log left log' left' r learned a =
    subst (λ (l : List Step). IsLog base l) (sym a.grows) (in_turn-append (IsLearned base) [] log a.steps learned a.learned)

module _ (laws : IsLiteral same_lit opposite) where
  -- the clauses of a chain hold where those hold that it stands on
  pub steps-hold : (find : Ref → Option (List Lit)) (steps : List Step) (v : Lit → Bool) → IsAssignment opposite v → AllHold v find
      → IsChain find steps → AllByRecursion (λ s. Holds v s.clause) steps
  steps-hold find steps v assigns holds chain = chain-holds laws v assigns find holds [] steps tt chain
