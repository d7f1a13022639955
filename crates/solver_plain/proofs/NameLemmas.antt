-- What the clauses of names are.
use Rattle.std.proofs.Common.{◌≡◌, ℕ, ◌<◌, zero, suc, length, get_or, arith, Bool, true, false, not, List, [], ◌∷◌, Option, Some, None, refl, sym, ap, ◌∙◌, subst}
use Rattle.std.specs.Prelude.{map, IfSome, IfNone}
use Rattle.std.specs.List.{list_any, slice_get, AllByRecursion}
use Rattle.std.proofs.lemmas.Option.{slice_get_read}
use Rattle.std.proofs.lemmas.Bool.{and_parts, or_left, or_right, not-true}
use Rattle.lits.specs.Clause.{has, no_repeat}
use Rattle.lits.specs.declared.literal.Lit.{Lit}
use Rattle.lits.specs.declared.step.Named.{Named}
use Rattle.lits.specs.declared.step.Step.{Step}
use Rattle.lits.specs.declared.step.Ref.{Ref}
use Rattle.lits.specs.declared.step.Ref.TheVariants.{Axiom, Entry, Own, Bound}
use Rattle.lits.specs.contracts.step.RefEq.TheImpl.Laws as ref_eq
use Rattle.lits.proofs.Facts.{all-slice_get, all-append}
use Rattle.solver_plain.specs.Effect.{IsHint}
use Rattle.solver_plain.specs.declared.formula.Hint.{Hint}
use Rattle.unit_prop.specs.Log.{same_name, is_own, IsBase, base_clause, base_clauses, with_own, clauses_of}
use Rattle.unit_prop.proofs.Facts.{all-back}
use Rattle.solver_plain.proofs.ListLemmas.{all-left, all-fail}

-- what holds of each clause of a base holds of the one of a name
pub all-base : (P : List Lit → Type 0) (base : List Named) (name : Ref) (c : List Lit) → AllByRecursion P (base_clauses base)
    → base_clause base name ≡ Some c → P c
all-base P [] name c all e = let f : None ≡ Some c = e in cc
all-base P (n ∷ ns) name c all e = go (same_name n.by name) refl (all-base P ns name c all.1)
  where
    go : (b : Bool) → same_name n.by name ≡ b → (base_clause ns name ≡ Some c → P c) → P c
    go true f rest = let g : Some n.clause ≡ Some c = rw f at e in let h : n.clause ≡ c = cc in subst P h all.0
    go false f rest = rest (rw f at e)

all-steps : (P : List Lit → Type 0) (steps : List Step) → AllByRecursion P (map (λ s. s.clause) steps)
    → AllByRecursion (λ s. P s.clause) steps
all-steps P [] all = tt
all-steps P (s ∷ ss) all = (all.0, all-steps P ss all.1)

-- the same over a base and a log
pub all-named : (P : List Lit → Type 0) (base : List Named) (log : List Step) (name : Ref) (c : List Lit)
    → AllByRecursion P (clauses_of base log) → with_own (base_clause base) log name ≡ Some c → P c
all-named P base log (Axiom node k) c all e = all-base P base (Axiom node k) c (all-left P (base_clauses base) (map (λ s. s.clause) log) all) e
all-named P base log (Entry entry k) c all e = all-base P base (Entry entry k) c (all-left P (base_clauses base) (map (λ s. s.clause) log) all) e
all-named P base log (Bound side k) c all e = all-base P base (Bound side k) c (all-left P (base_clauses base) (map (λ s. s.clause) log) all) e
all-named P base log (Own k) c all e = go (slice_get log k) refl
  where
    go : (o : Option Step) → slice_get log k ≡ o → P c
    go None f = let g : None ≡ Some c = rw f at e in cc
    go (Some s) f =
        let g : Some s.clause ≡ Some c = rw f at e in
        let h : s.clause ≡ c = cc in
        subst P h (all-slice_get (λ (t : Step). P t.clause) log k s
        (all-steps P log (all-back P (base_clauses base) (map (λ s. s.clause) log) all)) f)

-- a clause with a name that passes a test is one among all
pub any-named : (p : List Lit → Bool) (base : List Named) (log : List Step) (name : Ref) (c : List Lit)
    → with_own (base_clause base) log name ≡ Some c → p c ≡ true → list_any p (clauses_of base log) ≡ true
any-named p base log name c e passes = go (list_any p (clauses_of base log)) refl
  where
    go : (b : Bool) → list_any p (clauses_of base log) ≡ b → list_any p (clauses_of base log) ≡ true
    go true f = f
    go false f = let g = all-named (λ (d : List Lit). p d ≡ false) base log name c (all-fail p (clauses_of base log) f) e in cc

same_refl : (n : Ref) → same_name n n ≡ true
same_refl = ref_eq.laws-law.refl

name-at : (base : List Named) (i : ℕ) (n : Named) (name : Ref) → i < length base → n ≡ get_or base i n
    → same_name n.by name ≡ true → has same_name (map (λ m. m.by) base) name ≡ true
name-at [] i n name below at e = absurd (omega arith)
name-at (x ∷ xs) zero n name below at e = let here : n ≡ x = at in or_left _ _ (ap (λ (z : Named). same_name z.by name) (sym here) ∙ e)
name-at (x ∷ xs) (suc i) n name below at e =
    let within : i < length xs = omega (arith, below) in or_right (same_name x.by name) _ (name-at xs i n name within at e)

-- the clause of a name is the one that bears it
pub base_clause-at : (base : List Named) → no_repeat same_name (map (λ n. n.by) base) ≡ true → (i : ℕ) (n : Named)
    → i < length base → n ≡ get_or base i n → base_clause base n.by ≡ Some n.clause
base_clause-at [] differ i n below at = absurd (omega arith)
base_clause-at (x ∷ xs) differ zero n below at =
    let here : n ≡ x = at in
    subst (λ (z : Named). base_clause (x ∷ xs) z.by ≡ Some z.clause) (sym here) (rw (same_refl x.by) refl)
base_clause-at (x ∷ xs) differ (suc i) n below at = go (same_name x.by n.by) refl (base_clause-at xs both.1 i n within at)
  where
    both : (not (has same_name (map (λ m. m.by) xs) x.by) ≡ true) × (no_repeat same_name (map (λ m. m.by) xs) ≡ true)
    both = and_parts _ _ differ

    within : i < length xs
    within = omega (arith, below)

    go : (b : Bool) → same_name x.by n.by ≡ b → base_clause xs n.by ≡ Some n.clause → base_clause (x ∷ xs) n.by ≡ Some n.clause
    go false e rest = rw e rest
    go true e rest =
        let again = name-at xs i n x.by within at (ref_eq.laws-law.symm n.by x.by ∙ e) in
        let once = not-true _ both.0 in cc

-- no clause of a base has the name of an own step
foreign-none : (base : List Named) (k : ℕ) → list_any (λ n. is_own n.by) base ≡ false → base_clause base (Own k) ≡ None
foreign-none [] k e = refl
foreign-none (x ∷ xs) k e = go x.by refl (foreign-none xs k)
  where
    go : (r : Ref) → x.by ≡ r → (list_any (λ n. is_own n.by) xs ≡ false → base_clause xs (Own k) ≡ None)
        → base_clause (x ∷ xs) (Own k) ≡ None
    go (Axiom node j) f rest = let g = rw f at e in rw f (rest g)
    go (Entry entry j) f rest = let g = rw f at e in rw f (rest g)
    go (Bound side j) f rest = let g = rw f at e in rw f (rest g)
    go (Own j) f rest = let g : true ≡ false = rw f at e in cc

-- a clause of the base keeps its name beside a log
pub named-base : (base : List Named) (log : List Step) (name : Ref) (c : List Lit) → list_any (λ n. is_own n.by) base ≡ false
    → base_clause base name ≡ Some c → with_own (base_clause base) log name ≡ Some c
named-base base log (Axiom node k) c foreign e = e
named-base base log (Entry entry k) c foreign e = e
named-base base log (Bound side k) c foreign e = e
named-base base log (Own k) c foreign e = let f = foreign-none base k foreign in cc

-- a clause of the log is the one of its own step
pub named-log : (base : List Named) (log : List Step) (name : Ref) (c : List Lit)
    → with_own (λ _. None) log name ≡ Some c → with_own (base_clause base) log name ≡ Some c
named-log base log (Axiom node k) c e = let f : None ≡ Some c = e in cc
named-log base log (Entry entry k) c e = let f : None ≡ Some c = e in cc
named-log base log (Bound side k) c e = let f : None ≡ Some c = e in cc
named-log base log (Own k) c e = e

pub own-at : (log : List Step) (i : ℕ) (s : Step) → i < length log → s ≡ get_or log i s
    → with_own (λ _. None) log (Own i) ≡ Some s.clause
own-at log i s below at = rw (slice_get_read log (length log) i s refl below at) refl

pub hint-base : (base : List Named) (log : List Step) (set : List Lit) (h : Hint) → IsBase base
    → IsHint (base_clause base) set h → IsHint (with_own (base_clause base) log) set h
hint-base base log set h names hint =
    record { clause = hint.clause; named = named-base base log h.by hint.clause names.foreign hint.named; acts = hint.acts }

pub hint-log : (base : List Named) (log : List Step) (set : List Lit) (o : Option Hint)
    → IfSome o (IsHint (with_own (λ _. None) log) set) → IfSome o (IsHint (with_own (base_clause base) log) set)
hint-log base log set None hint = tt
hint-log base log set (Some h) hint =
    record { clause = hint.clause; named = named-log base log h.by hint.clause hint.named; acts = hint.acts }

pub quiet-both : (P : List Lit → Type 0) (base : List Named) (log : List Step) (o : Option Hint) → AllByRecursion P (base_clauses base)
    → IfNone o (AllByRecursion P (map (λ s. s.clause) log)) → IfNone o (AllByRecursion P (clauses_of base log))
quiet-both P base log None first second = all-append P (base_clauses base) (map (λ s. s.clause) log) first second
quiet-both P base log (Some h) first second = tt
