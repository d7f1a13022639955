-- The base that names and clauses make.
use Rattle.std.proofs.Common.{◌≡◌, ◌<◌, ◌≤◌, ◌+◌, ℕ, zero, suc, arith, List, [], ◌∷◌, ◌++◌, map, take, length, get_or, refl, sym, ap, ◌∙◌}
use Rattle.std.proofs.lemmas.List.{take_more, map-append}
use Rattle.std.specs.Prelude.{slice_index_or}
use Rattle.lits.specs.declared.literal.Lit.{Lit}
use Rattle.lits.specs.declared.node.Node.{Node}
use Rattle.lits.specs.declared.step.Named.{Named}
use Rattle.lits.specs.declared.step.Ref.{Ref}
use Rattle.flat_base.specs.Flat.{Coded, named_by}
use Rattle.unit_prop.specs.Log.{base_clauses}
use Rattle.watch_lists.specs.Trail.{TrailState}
use Rattle.solver_plain.specs.Formula.{Clauses}
use Rattle.solver_watch.specs.declared.formula.Formula.{Formula}
use Rattle.solver_watch.specs.Known.{named_with, base_in, clauses_known, IsKnown}

-- clauses behind those that have names are of no matter
pub with-more : (names : List Ref) (clauses more : List (List Lit)) → length names ≤ length clauses → named_with names (clauses ++ more) ≡ named_with names clauses
with-more [] clauses more h = refl
with-more (by ∷ names) [] more h = absurd (omega arith)
with-more (by ∷ names) (c ∷ cs) more h = ap (λ (ns : List Named). record { clause = c; by = by } ∷ ns) (with-more names cs more (omega arith))

-- one clause and its name more
pub with-push : (names : List Ref) (clauses : List (List Lit)) (by : Ref) (clause : List Lit) → length names ≡ length clauses
    → named_with (names ++ by ∷ []) (clauses ++ clause ∷ []) ≡ named_with names clauses ++ record { clause = clause; by = by } ∷ []
with-push [] [] by clause h = refl
with-push [] (c ∷ cs) by clause h = absurd (omega arith)
with-push (b ∷ names) [] by clause h = absurd (omega arith)
with-push (b ∷ names) (c ∷ cs) by clause h = ap (λ (ns : List Named). record { clause = c; by = b } ∷ ns) (with-push names cs by clause (omega arith))

pub with-length : (names : List Ref) (clauses : List (List Lit)) → length names ≤ length clauses → length (named_with names clauses) ≡ length names
with-length [] clauses h = refl
with-length (by ∷ names) [] h = absurd (omega arith)
with-length (by ∷ names) (c ∷ cs) h = ap (λ (n : ℕ). suc n) (with-length names cs (omega arith))

-- a name that was read
pub with-name : (names : List Ref) (clauses : List (List Lit)) (i : ℕ) (by : Ref) → length names ≤ length clauses → i < length names
    → by ≡ slice_index_or names i by → (d : Named) → by ≡ (get_or (named_with names clauses) i d).by
with-name [] clauses i by few h read d = absurd (omega arith)
with-name (b ∷ names) [] i by few h read d = absurd (omega arith)
with-name (b ∷ names) (c ∷ cs) zero by few h read d = read
with-name (b ∷ names) (c ∷ cs) (suc i) by few h read d = with-name names cs i by (omega arith) (omega arith) read d

-- the names and the clauses of a flat base make the list that it stands for
pub with-flat : (nodes : List Node) (cs : List Coded) → named_with (map (λ d. d.by) cs) (base_clauses (map (named_by nodes) cs)) ≡ map (named_by nodes) cs
with-flat nodes [] = refl
with-flat nodes (c ∷ cs) = ap (λ (ns : List Named). named_by nodes c ∷ ns) (with-flat nodes cs)

-- one name of a flat base more
pub names-next : (cs : List Coded) (names : List Ref) (i : ℕ) (by : Ref) (d : Coded) → i < length cs → names ≡ map (λ e. e.by) (take i cs) → by ≡ (get_or cs i d).by
    → names ++ by ∷ [] ≡ map (λ e. e.by) (take (i + 1) cs)
names-next cs names i by d h so_far read =
    rw (so_far, read) (sym (ap (map (λ (e : Coded). e.by)) (take_more cs i d h) ∙ map-append (λ (e : Coded). e.by) (take i cs) (get_or cs i d ∷ [])))

-- a base stays where its clauses and names do
pub known-at : (f : Formula) (t : TrailState) → t.clauses ≡ f.trail.clauses → clauses_known (record f { trail = t }) ≡ clauses_known f
known-at f t same = ap (λ (cs : List (List Lit)). let k : Clauses = record { base = named_with f.names.items cs; log = f.log.items } in k) same

-- and where a clause comes behind
pub base-learn : (f g : Formula) (clause : List Lit) → IsKnown f → g.names.items ≡ f.names.items → g.trail.clauses ≡ f.trail.clauses ++ clause ∷ []
    → base_in g ≡ base_in f
base-learn f g clause known names clauses =
    ap (λ (ns : List Ref). named_with ns g.trail.clauses) names
    ∙ (ap (λ (cs : List (List Lit)). named_with f.names.items cs) clauses ∙ with-more f.names.items f.trail.clauses (clause ∷ []) known.few)
