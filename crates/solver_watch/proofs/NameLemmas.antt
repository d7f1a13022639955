-- The names of a trail's clauses.
use Rattle.std.proofs.Common.{◌≡◌, ◌<◌, ◌≤◌, ◌+◌, ◌-◌, ℕ, zero, suc, arith, List, [], ◌∷◌, Some, get_or, length, length-append, refl, sym, ap, subst, ◌∙◌}
use Rattle.std.specs.Prelude.{map}
use Rattle.std.proofs.lemmas.List.{get_or-map, get_or_default, get_or-append_right}
use Rattle.std.proofs.Math.ListN.{get_or-append}
use Rattle.lits.specs.declared.literal.Lit.{Lit}
use Rattle.lits.specs.declared.step.Named.{Named}
use Rattle.lits.specs.declared.step.Step.{Step}
use Rattle.lits.specs.declared.step.Ref.{Ref}
use Rattle.lits.specs.declared.step.Ref.TheVariants.{Own}
use Rattle.unit_prop.specs.Log.{base_clauses, clauses_of}
use Rattle.solver_plain.specs.Formula.{clause_named}
use Rattle.solver_plain.proofs.Facts.{base_clause-at, named-base, named-log, own-at}
use Rattle.watch_lists.specs.Trail.{clause_at}
use Rattle.solver_watch.specs.declared.formula.Formula.{Formula}
use Rattle.solver_watch.specs.Known.{base_in, IsKnown, clauses_known}

base-size : (base : List Named) → length (base_clauses base) ≡ length base
base-size [] = refl
base-size (n ∷ ns) = ap (λ (k : ℕ). suc k) (base-size ns)

log-size : (log : List Step) → length (map (λ (s : Step). s.clause) log) ≡ length log
log-size [] = refl
log-size (s ∷ ss) = ap (λ (k : ℕ). suc k) (log-size ss)

-- the clause of a number
named-at : (f : Formula) (i : ℕ) (n : Named) → IsKnown f → i < length (base_in f) → n ≡ get_or (base_in f) i n
    → clause_named (clauses_known f) n.by ≡ Some (clause_at f.trail.clauses i)
named-at f i n known within at =
    named-base (base_in f) f.log.items n.by n.clause known.names.foreign (base_clause-at (base_in f) known.names.differ i n within at)
    ∙ ap (λ (c : List Lit). Some c) (sym same)
  where
    same : clause_at f.trail.clauses i ≡ n.clause
    same =
        ap (λ (cs : List (List Lit)). get_or cs i []) known.clauses
        ∙ get_or-append (base_clauses (base_in f)) (map (λ s. s.clause) f.log.items) [] i
        (let size = base-size (base_in f) in omega arith)
        ∙ get_or-map (λ (m : Named). m.clause) (base_in f) i n [] within
        ∙ ap (λ (m : Named). m.clause) (sym at)

-- its name, as the base tells it
pub name-base : (f : Formula) (i : ℕ) (by : Ref) → IsKnown f → i < length (base_in f) → ((d : Named) → by ≡ (get_or (base_in f) i d).by)
    → clause_named (clauses_known f) by ≡ Some (clause_at f.trail.clauses i)
name-base f i by known within is =
    let none : Named = record { clause = []; by = by } in
    subst (λ (r : Ref). clause_named (clauses_known f) r ≡ Some (clause_at f.trail.clauses i)) (sym (is none))
    (named-at f i (get_or (base_in f) i none) known within (get_or_default (base_in f) i none (get_or (base_in f) i none) within))

pub name-own : (f : Formula) (i : ℕ) (s : Step) → IsKnown f → length (base_in f) ≤ i → i - length (base_in f) < length f.log.items
    → s ≡ get_or f.log.items (i - length (base_in f)) s
    → clause_named (clauses_known f) (Own (i - length (base_in f))) ≡ Some (clause_at f.trail.clauses i)
name-own f i s known past within at =
    named-log (base_in f) f.log.items (Own (i - length (base_in f))) s.clause (own-at f.log.items (i - length (base_in f)) s within at)
    ∙ ap (λ (c : List Lit). Some c) (sym same)
  where
    same : clause_at f.trail.clauses i ≡ s.clause
    same =
        ap (λ (cs : List (List Lit)). get_or cs i []) known.clauses
        ∙ get_or-append_right (base_clauses (base_in f)) (map (λ (t : Step). t.clause) f.log.items) (length (base_in f)) i []
        (base-size (base_in f)) past
        ∙ get_or-map (λ (t : Step). t.clause) f.log.items (i - length (base_in f)) s [] within
        ∙ ap (λ (t : Step). t.clause) (sym at)

-- the log has the step of a number past the base
pub own-within : (f : Formula) (i : ℕ) → IsKnown f → i < length f.trail.clauses → length (base_in f) ≤ i
    → i - length (base_in f) < length f.log.items
own-within f i known within past =
    omega (arith, ap (λ (cs : List (List Lit)). length cs) known.clauses, sizes)
  where
    sizes : length (clauses_of (base_in f) f.log.items) ≡ length (base_in f) + length f.log.items
    sizes = length-append (base_clauses (base_in f)) (map (λ (t : Step). t.clause) f.log.items) ∙ rw (base-size (base_in f), log-size f.log.items) refl

-- the name of a number past the base
pub name-past : (f : Formula) (i : ℕ) → IsKnown f → i < length f.trail.clauses → length (base_in f) ≤ i
    → clause_named (clauses_known f) (Own (i - length (base_in f))) ≡ Some (clause_at f.trail.clauses i)
name-past f i known within past = go f.log.items (i - length (base_in f)) (own-within f i known within past)
    (λ s e. name-own f i s known past (own-within f i known within past) e)
  where
    go : (log : List Step) (k : ℕ) → k < length log
        → ((s : Step) → s ≡ get_or log k s → clause_named (clauses_known f) (Own (i - length (base_in f))) ≡ Some (clause_at f.trail.clauses i))
        → clause_named (clauses_known f) (Own (i - length (base_in f))) ≡ Some (clause_at f.trail.clauses i)
    go [] k h give = absurd (omega arith)
    go (s ∷ ss) zero h give = give s refl
    go (s ∷ ss) (suc k) h give = go ss k (omega arith) (λ t e. give t e)
