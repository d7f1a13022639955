-- The steps of a search.
use Rattle.std.proofs.Common.{◌≡◌, ◌<◌, ◌≤◌, ◌+◌, ◌*◌, ℕ, suc, arith, Bool, true, false, not, ◌||◌, ◌⊎◌, inl, inr, List, [], ◌∷◌, ◌++◌, get_or, take, length, append_assoc, length-append, Some, None, refl, sym, ap, subst, ◌∙◌}
use Rattle.std.specs.Prelude.{map}
use Rattle.std.specs.List.{list_any, AllByRecursion}
use Rattle.std.proofs.lemmas.List.{map-append}
use Rattle.std.proofs.Math.ListN.{get_or-append}
use Rattle.std.proofs.lemmas.Bool.{or_cases, or_left, or_right}
use Rattle.lits.specs.Clause.{has}
use Rattle.lits.specs.Same.{same_lit, same_node, opposite}
use Rattle.lits.specs.declared.node.Node.{Node}
use Rattle.lits.specs.declared.literal.Lit.{Lit}
use Rattle.lits.specs.declared.step.Named.{Named}
use Rattle.lits.specs.declared.step.Step.{Step}
use Rattle.unit_prop.specs.Closure.{is_negated, IsOpen}
use Rattle.unit_prop.specs.Log.{IsBase, base_clauses, clauses_of}
use Rattle.unit_prop.specs.Refuter.{is_over, IsOver, IsModel}
use Rattle.solver_plain.proofs.Facts.{each-of, each-at, all-fail, all-left, pair-none, all-occur, all-both}
use Rattle.solver_watch.specs.declared.engine.Engine.{Engine}
use Rattle.solver_watch.proofs.AssumeLemmas.{assuming-propagates}
use Rattle.unit_prop.proofs.Facts.{contrary, has-map-opposite, all-true, all-at}
use Rattle.solver_plain.specs.Formula.{Clauses}
use Rattle.solver_plain.specs.Search.{IsLearnedFor}
use Rattle.watch_lists.specs.Trail.{TrailState, IsTrail, IsComplete, IsConflict, IsGround, IsQuiet, Decides, Propagates, put_at, clause_at, lits_of, up_to, with_clause, back_to}
use Rattle.watch_lists.specs.declared.put.Put.{Put}
use Rattle.solver_watch.specs.declared.formula.Formula.{Formula}
use Rattle.solver_watch.specs.declared.learn.Lesson.{Lesson}
use Rattle.solver_watch.specs.Assuming.{IsChosen, IsAssuming}
use Rattle.solver_watch.proofs.BaseLemmas.{known-at, base-learn}
use Rattle.solver_watch.specs.Known.{base_in, IsKnown, clauses_known}
use Rattle.solver_watch.specs.Search.{IsLesson, IsState, Advances}
use Rattle.solver_watch.proofs.TrailLemmas.{has-at, place-before, place-up_to, up_to-up_to}
use Rattle.solver_watch.specs.Choice.{AreTaken}
use Rattle.solver_watch.specs.Marked.{IsRefuted}
use Rattle.solver_watch.proofs.CodeLemmas.{lit_at-variable}
use Rattle.solver_watch.proofs.WalkLemmas.{ground-of}
use Rattle.unit_prop.specs.Propagation.{IsFree}
use Rattle.lits.specs.declared.node.Node.TheVariants.{Const}
use Rattle.lits.proofs.Facts.{all-append, exact-node, lit_laws}
use Rattle.flat_base.specs.Codes.{lit_at}

-- the trail of a formula may change where clauses and variables stay
pub known-trail : (f : Formula) (t : TrailState) → IsKnown f → t.clauses ≡ f.trail.clauses → t.nodes ≡ f.trail.nodes
    → IsKnown (record f { trail = t })
known-trail f t known clauses nodes = record {
  few = omega (arith, known.few, ap length clauses);
  names = subst (λ (k : Clauses). IsBase k.base) (sym same) known.names;
  clauses = clauses ∙ (known.clauses ∙ ap (λ (k : Clauses). clauses_of k.base k.log) (sym same));
  within = subst (λ (k : Clauses). AllByRecursion (λ (s : Step). IsOver k.base s.clause) k.log) (sym same) known.within;
  nodes = λ l h. ap (λ (k : Clauses). is_over k.base l) same
      ∙ known.nodes l (ap (λ (ns : List Node). has same_node ns l.node) (sym nodes) ∙ h);
}
  where
    same : clauses_known (record f { trail = t }) ≡ clauses_known f
    same = known-at f t clauses

-- a lesson is learned for each target whose negations are assumed
pub learned-for : (f : Formula) (lesson : Lesson) (assumed : ℕ) → IsKnown f → IsLesson f lesson → assumed < f.trail.last → (target : List Lit)
    → IsAssuming target f.trail assumed → IsLearnedFor (clauses_known f) target lesson.step
learned-for f lesson assumed known is below target assuming = record {
  over = is.over;
  undecided = subst (λ (cs : List (List Lit)). IsOpen same_lit opposite cs (map opposite target)) known.clauses (record {
    set = has same_lit (lits_of (up_to assumed f.trail.puts));
    closed = record {
      starts = λ l h.
          ap (has same_lit (lits_of (up_to assumed f.trail.puts))) (sym (lit_laws.twice l))
          ∙ assuming.whole below (opposite l) (sym (has-map-opposite lit_laws target l) ∙ h);
      units = (is.trail.complete assumed below).0.closed.units;
    };
    apart = (is.trail.complete assumed below).1;
  });
  learned = is.learned;
}

pub same-variable : (m l : Lit) → m.node ≡ l.node → (m ≡ l) ⊎ (m ≡ opposite l)
same-variable m l e = go m.neg l.neg refl refl
  where
    same_neg : m.neg ≡ l.neg → m ≡ l
    same_neg f = ap (λ (n : Node). let k : Lit = record { node = n; neg = m.neg } in k) e
        ∙ ap (λ (b : Bool). let k : Lit = record { node = l.node; neg = b } in k) f

    other_neg : m.neg ≡ not l.neg → m ≡ opposite l
    other_neg f = ap (λ (n : Node). let k : Lit = record { node = n; neg = m.neg } in k) e
        ∙ ap (λ (b : Bool). let k : Lit = record { node = l.node; neg = b } in k) f

    go : (a b : Bool) → m.neg ≡ a → l.neg ≡ b → (m ≡ l) ⊎ (m ≡ opposite l)
    go true true f g = inl (same_neg (f ∙ sym g))
    go false false f g = inl (same_neg (f ∙ sym g))
    go true false f g = inr (other_neg (f ∙ sym (ap (λ (b : Bool). not b) g)))
    go false true f g = inr (other_neg (f ∙ sym (ap (λ (b : Bool). not b) g)))

-- the clause's step joins the log
pub known-learn : (f : Formula) (g : Formula) (step : Step) → IsKnown f → IsOver (base_in f) step.clause
    → g.names.items ≡ f.names.items → g.log.items ≡ f.log.items ++ step ∷ [] → g.trail ≡ with_clause f.trail step.clause → IsKnown g
known-learn f g step known over names_same log is = record {
  few = omega (arith, known.few, ap length names_same, ap length clauses, length-append f.trail.clauses (step.clause ∷ []));
  names = subst (λ (b : List Named). IsBase b) (sym base) known.names;
  clauses = clauses ∙ grown;
  within = within_now;
  nodes = λ l h. subst (λ (b : List Named). is_over b l ≡ true) (sym base) (known.nodes l (ap (λ (t : TrailState). has same_node t.nodes l.node) (sym is) ∙ h));
}
  where
    clauses : g.trail.clauses ≡ f.trail.clauses ++ step.clause ∷ []
    clauses = ap (λ (t : TrailState). t.clauses) is

    base : base_in g ≡ base_in f
    base = base-learn f g step.clause known names_same clauses

    grown : f.trail.clauses ++ step.clause ∷ [] ≡ clauses_of (base_in g) g.log.items
    grown = ap (λ (cs : List (List Lit)). cs ++ step.clause ∷ []) known.clauses
        ∙ (append_assoc (base_clauses (base_in f)) (map (λ (s : Step). s.clause) f.log.items) (step.clause ∷ [])
        ∙ rw (base, log, map-append (λ (s : Step). s.clause) f.log.items (step ∷ [])) refl)

    within_now : AllByRecursion (λ s. IsOver (base_in g) s.clause) g.log.items
    within_now = subst (λ (b : List Named). AllByRecursion (λ (s : Step). IsOver b s.clause) g.log.items) (sym base)
        (subst (λ (ss : List Step). AllByRecursion (λ (s : Step). IsOver (base_in f) s.clause) ss) (sym log)
        (all-append (λ (s : Step). IsOver (base_in f) s.clause) f.log.items (step ∷ []) known.within (over, tt)))

any-place : (p : List Lit → Bool) (cs : List (List Lit)) → list_any p cs ≡ true → (i : ℕ) × (i < length cs) × (p (clause_at cs i) ≡ true)
any-place p [] e = cc
any-place p (c ∷ cs) e = elim (or_cases (p c) (list_any p cs) e) [
  | inl h ↦ (0, omega arith, h)
  | inr h ↦ let w = any-place p cs h in (suc w.0, omega (arith, w.1), w.2)
]

-- a variable of the base has a number
pub over-numbered : (f : Formula) → IsKnown f → IsTrail f.trail → (l : Lit) → is_over (base_in f) l ≡ true → has same_node f.trail.nodes l.node ≡ true
over-numbered f known trail l h =
    let w = any-place (λ c. has same_lit c l || has same_lit c (opposite l)) (base_clauses (base_in f)) h in
    let same : clause_at f.trail.clauses w.0 ≡ clause_at (base_clauses (base_in f)) w.0 =
    ap (λ (cs : List (List Lit)). clause_at cs w.0) known.clauses
    ∙ get_or-append (base_clauses (base_in f)) (map (λ (s : Step). s.clause) f.log.items) [] w.0 w.1 in
    elim (or_cases (has same_lit (clause_at (base_clauses (base_in f)) w.0) l) (has same_lit (clause_at (base_clauses (base_in f)) w.0) (opposite l)) w.2) [
      | inl e ↦ trail.clauses_over w.0 l (ap (λ (c : List Lit). has same_lit c l) same ∙ e)
      | inr e ↦ trail.clauses_over w.0 (opposite l) (ap (λ (c : List Lit). has same_lit c (opposite l)) same ∙ e)
    ]

-- each variable of the base has a value: a model
module _ (f : Formula) (target : List Lit) (known : IsKnown f) (trail : IsTrail f.trail)
    (complete : IsComplete f.trail.clauses f.trail.puts)
    (taken : (l : Lit) → has same_node f.trail.nodes l.node ≡ true
    → (has same_lit (lits_of f.trail.puts) l ≡ true) ⊎ (has same_lit (lits_of f.trail.puts) (opposite l) ≡ true)) where
  valued : (l : Lit) → is_over (base_in f) l ≡ true
      → (has same_lit (lits_of f.trail.puts) l ≡ true) ⊎ (has same_lit (lits_of f.trail.puts) (opposite l) ≡ true)
  valued l h = taken l (over-numbered f known trail l h)

  clause-met : (c : List Lit) → IsOver (base_in f) c → is_negated opposite (has same_lit (lits_of f.trail.puts)) c ≡ false
      → list_any (has same_lit (lits_of f.trail.puts)) c ≡ true
  clause-met c over e = go (list_any (has same_lit (lits_of f.trail.puts)) c) refl
    where
      go : (b : Bool) → list_any (has same_lit (lits_of f.trail.puts)) c ≡ b → list_any (has same_lit (lits_of f.trail.puts)) c ≡ true
      go true g = g
      go false g = contrary _ (all-true lit_laws (λ m. has same_lit (lits_of f.trail.puts) (opposite m)) c (λ m h. which m h (valued m
          (each-at lit_laws (λ (k : Lit). is_over (base_in f) k ≡ true) c m over h)))) e
        where
          which : (m : Lit) → has same_lit c m ≡ true
              → (has same_lit (lits_of f.trail.puts) m ≡ true) ⊎ (has same_lit (lits_of f.trail.puts) (opposite m) ≡ true)
              → has same_lit (lits_of f.trail.puts) (opposite m) ≡ true
          which m h (inl k) = contrary _ k (each-at lit_laws (λ (n : Lit). has same_lit (lits_of f.trail.puts) n ≡ false) c m
              (all-fail (has same_lit (lits_of f.trail.puts)) c g) h)
          which m h (inr k) = k

  not-negated : AllByRecursion (λ c. is_negated opposite (has same_lit (lits_of f.trail.puts)) c ≡ false) (base_clauses (base_in f))
  not-negated = all-left (λ c. is_negated opposite (has same_lit (lits_of f.trail.puts)) c ≡ false) (base_clauses (base_in f))
      (map (λ (s : Step). s.clause) f.log.items)
      (subst (λ (cs : List (List Lit)). AllByRecursion (λ c. is_negated opposite (has same_lit (lits_of f.trail.puts)) c ≡ false) cs) known.clauses
      (all-fail (is_negated opposite (has same_lit (lits_of f.trail.puts))) f.trail.clauses (go _ refl)))
    where
      go : (b : Bool) → list_any (is_negated opposite (has same_lit (lits_of f.trail.puts))) f.trail.clauses ≡ b
          → list_any (is_negated opposite (has same_lit (lits_of f.trail.puts))) f.trail.clauses ≡ false
      go false e = e
      go true e = absurd (complete.1 (inl e))

  pub model-is : ((l : Lit) → has same_lit target l ≡ true → has same_lit (lits_of f.trail.puts) (opposite l) ≡ true)
      → IsModel (base_in f) target (lits_of f.trail.puts)
  model-is refuted = record {
    once = record { once = trail.single; apart = pair-none lit_laws (lits_of f.trail.puts) trail.consistent.apart };
    within = each-of lit_laws (λ (l : Lit). is_over (base_in f) l ≡ true) (lits_of f.trail.puts) (λ l h. known.nodes l (trail.puts_over l h));
    whole = λ l over. elim (valued l over) [
      | inl h ↦ or_left _ _ h
      | inr h ↦ or_right (has same_lit (lits_of f.trail.puts) l) _ h
    ];
    meets = all-both (IsOver (base_in f)) (λ c. is_negated opposite (has same_lit (lits_of f.trail.puts)) c ≡ false)
        (λ c. list_any (has same_lit (lits_of f.trail.puts)) c ≡ true) (base_clauses (base_in f)) clause-met
        (all-occur lit_laws (base_clauses (base_in f))) not-negated;
    refutes = all-true lit_laws (λ l. has same_lit (lits_of f.trail.puts) (opposite l)) target (λ l h. refuted l h);
  }

-- the clause of a lesson may be added where the later levels are given up
pub lesson-quiet : (f : Formula) (lesson : Lesson) (t : TrailState) → IsLesson f lesson → t ≡ back_to lesson.level f.trail
    → (level : ℕ) → level < t.last → IsQuiet (up_to level t.puts) lesson.step.clause
lesson-quiet f lesson t is e level below = subst (λ (u : TrailState). level < u.last → IsQuiet (up_to level u.puts) lesson.step.clause) (sym e)
    (λ less. subst (λ (ps : List Put). IsQuiet ps lesson.step.clause) (sym (up_to-up_to f.trail.puts level lesson.level (omega arith)))
    (is.quiet level (omega arith))) below

pub clauses-both : (b c : List Named) (l m : List Step) → b ≡ c → l ≡ m
    → (let k : Clauses = record { base = b; log = l } in k) ≡ (let k : Clauses = record { base = c; log = m } in k)
clauses-both b c l m e f = ap (λ (x : List Named). let k : Clauses = record { base = x; log = l } in k) e
    ∙ ap (λ (x : List Step). let k : Clauses = record { base = c; log = x } in k) f

pub assuming-same : (target : List Lit) (t u : TrailState) (assumed : ℕ) → IsAssuming target t assumed → u.puts ≡ t.puts → u.last ≡ t.last
    → IsAssuming target u assumed
assuming-same target t u assumed is puts last = record {
  most = (let m = is.most in omega arith);
  chosen = subst (λ (ps : List Put). AllByRecursion (IsChosen target assumed) ps) (sym puts) is.chosen;
  whole = λ more l h. subst (λ (ps : List Put). has same_lit (lits_of (up_to assumed ps)) (opposite l) ≡ true) (sym puts)
      (is.whole (omega arith) l h);
}

pub known-same : (f g : Formula) → IsKnown f → clauses_known g ≡ clauses_known f → g.names.items ≡ f.names.items → g.trail.clauses ≡ f.trail.clauses
    → g.trail.nodes ≡ f.trail.nodes → IsKnown g
known-same f g known same names_same clauses nodes = record {
  few = omega (arith, known.few, ap length names_same, ap length clauses);
  names = subst (λ (b : List Named). IsBase b) (sym (ap (λ (k : Clauses). k.base) same)) known.names;
  clauses = clauses ∙ known.clauses ∙ ap (λ (k : Clauses). clauses_of k.base k.log) (sym same);
  within = subst (λ (k : Clauses). AllByRecursion (λ (s : Step). IsOver k.base s.clause) k.log) (sym same) known.within;
  nodes = λ l h. ap (λ (k : Clauses). is_over k.base l) same
      ∙ known.nodes l (ap (λ (ns : List Node). has same_node ns l.node) (sym nodes) ∙ h);
}

pub over-same : (f g : Formula) (target : List Lit) → clauses_known g ≡ clauses_known f → IsOver (base_in f) target → IsOver (base_in g) target
over-same f g target same over = subst (λ (k : Clauses). IsOver k.base target) (sym same) over

-- a conflict where all decisions are of the target's negations
pub refuted-conflict : (t : TrailState) (target : List Lit) (assumed i : ℕ) → IsAssuming target t assumed → t.last ≡ assumed → i < length t.clauses
    → IsConflict t.puts (clause_at t.clauses i) → IsRefuted t target i
refuted-conflict t target assumed i is at number conflict = record {
  number = number;
  negated = λ l inside. inr (all-at lit_laws (λ m. has same_lit (lits_of t.puts) (opposite m)) (clause_at t.clauses i) l conflict inside);
  chosen = subst (λ (n : ℕ). AllByRecursion (IsChosen target n) t.puts) (sym at) is.chosen;
}

pub refuted-reason : (t : TrailState) (target : List Lit) (assumed by k : ℕ) → IsTrail t → IsAssuming target t assumed → t.last ≡ assumed
    → k < length t.puts → (put_at t.puts k).by ≡ Some by → has same_lit target (put_at t.puts k).lit ≡ true → IsRefuted t target by
refuted-reason t target assumed by k trail is at h forced inside = record {
  number = ground.0;
  negated = λ l in_clause. negated_at l (or_cases _ _ (all-at lit_laws
      (λ m. same_lit m (put_at t.puts k).lit || has same_lit (lits_of (take k t.puts)) (opposite m)) (clause_at t.clauses by) l ground.2 in_clause));
  chosen = subst (λ (n : ℕ). AllByRecursion (IsChosen target n) t.puts) (sym at) is.chosen;
}
  where
    ground : IsGround t.clauses (take k t.puts) (put_at t.puts k).lit (Some by)
    ground = ground-of t k by trail h forced

    negated_at : (l : Lit) → (same_lit l (put_at t.puts k).lit ≡ true) ⊎ (has same_lit (lits_of (take k t.puts)) (opposite l) ≡ true)
        → (has same_lit target l ≡ true) ⊎ (has same_lit (lits_of t.puts) (opposite l) ≡ true)
    negated_at l (inl e) = inl (ap (has same_lit target) (lit_laws.exact _ _ e) ∙ inside)
    negated_at l (inr b) = let w = place-before t.puts k (opposite l) b in
        inr (ap (has same_lit (lits_of t.puts)) (sym w.3) ∙ has-at t.puts w.0 w.2)

-- where each variable has a value, so has each literal
pub taken-lits : (t : TrailState) → AreTaken t → (l : Lit) → has same_node t.nodes l.node ≡ true
    → (has same_lit (lits_of t.puts) l ≡ true) ⊎ (has same_lit (lits_of t.puts) (opposite l) ≡ true)
taken-lits t taken l h =
    let w = index-of t.nodes l.node h in
    let at : (lit_at t.nodes (2 * w.0 + 1)).node ≡ l.node = lit_at-variable t.nodes w.0 ∙ w.2 in
    elim (same-variable (lit_at t.nodes (2 * w.0 + 1)) l at) [
      | inl e ↦ valued_at (lit_at t.nodes (2 * w.0 + 1)) l (inl e) (taken w.0 w.1) _ _ refl refl
      | inr e ↦ valued_at (lit_at t.nodes (2 * w.0 + 1)) l (inr e) (taken w.0 w.1) _ _ refl refl
    ]
  where
    index-of : (nodes : List Node) (n : Node) → has same_node nodes n ≡ true → (i : ℕ) × (i < length nodes) × (get_or nodes i Const ≡ n)
    index-of [] n e = cc
    index-of (m ∷ ms) n e = elim (or_cases (same_node m n) (has same_node ms n) e) [
      | inl f ↦ (0, omega arith, exact-node m n f)
      | inr f ↦ let w = index-of ms n f in (suc w.0, omega (arith, w.1), w.2)
    ]

    valued_at : (x m : Lit) → (x ≡ m) ⊎ (x ≡ opposite m) → ¬ IsFree same_lit opposite (lits_of t.puts) x
        → (a b : Bool) → has same_lit (lits_of t.puts) x ≡ a → has same_lit (lits_of t.puts) (opposite x) ≡ b
        → (has same_lit (lits_of t.puts) m ≡ true) ⊎ (has same_lit (lits_of t.puts) (opposite m) ≡ true)
    valued_at x m (inl e) not_free true b f g = inl (ap (has same_lit (lits_of t.puts)) (sym e) ∙ f)
    valued_at x m (inr e) not_free true b f g = inr (ap (has same_lit (lits_of t.puts)) (sym e) ∙ f)
    valued_at x m (inl e) not_free false true f g = inr (ap (λ (y : Lit). has same_lit (lits_of t.puts) (opposite y)) (sym e) ∙ g)
    valued_at x m (inr e) not_free false true f g =
        inl (ap (has same_lit (lits_of t.puts)) (sym (lit_laws.twice m) ∙ ap opposite (sym e)) ∙ g)
    valued_at x m which not_free false false f g = absurd (not_free (record { fresh = f; apart = g }))

-- all of the target's negations are true where a level of another kind has begun
pub whole-here : (t : TrailState) (target : List Lit) (assumed : ℕ) → IsAssuming target t assumed → assumed < t.last → (l : Lit)
    → has same_lit target l ≡ true → has same_lit (lits_of t.puts) (opposite l) ≡ true
whole-here t target assumed is below l h =
    let w = place-up_to t.puts assumed (opposite l) (is.whole below l h) in
    ap (has same_lit (lits_of t.puts)) (sym w.2) ∙ has-at t.puts w.0 w.1

pub over-base : (f g : Formula) (target : List Lit) (log : List Step)
    → clauses_known g ≡ (let k : Clauses = record { base = base_in f; log = log } in k) → IsOver (base_in f) target → IsOver (base_in g) target
over-base f g target log same over = subst (λ (b : List Named). IsOver b target) (sym (ap (λ (k : Clauses). k.base) same)) over

-- a search goes on where clauses have propagated
pub state-propagates : (e : Engine) (target : List Lit) (t : TrailState) → IsState e target → Propagates e.formula.trail t
    → IsState (record e { formula = record e.formula { trail = t } }) target
state-propagates e target t s p = record {
  known = known-trail e.formula t s.known p.clauses p.nodes;
  over = subst (λ (k : Clauses). IsOver k.base target) (sym (known-at e.formula t p.clauses)) s.over;
  assuming = assuming-propagates target e.formula.trail t e.assumed p s.assuming;
}

-- one more decision
pub advances : (old new : Engine) (l : Lit) → clauses_known new.formula ≡ clauses_known old.formula → Decides old.formula.trail l new.formula.trail
    → new.formula.trail.nodes ≡ old.formula.trail.nodes → length new.formula.trail.puts ≤ 2 * length new.formula.trail.nodes → Advances old new
advances old new l clauses decides nodes room = record {
  clauses = clauses;
  nodes = nodes;
  more = omega (arith, ap length decides.puts, length-append old.formula.trail.puts (record { lit = l; level = old.formula.trail.last + 1; by = None } ∷ []));
  room = room;
}
