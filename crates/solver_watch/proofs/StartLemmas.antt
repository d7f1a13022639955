-- How a base is taken.
use Rattle.std.proofs.Common.{◌≡◌, ◌<◌, ◌≤◌, ◌+◌, ℕ, true, ◌||◌, ◌⊎◌, inl, inr, List, [], ◌∷◌, ◌++◌, map, take, get_or, length, length-append, arith, sym, ap, subst, ◌∙◌}
use Rattle.std.specs.List.{list_any}
use Rattle.std.proofs.lemmas.List.{map-append, take_all, append-nil, length-map}
use Rattle.std.proofs.lemmas.List.Folds.{list_any-append}
use Rattle.std.proofs.lemmas.Bool.{or_cases, or_left, or_right}
use Rattle.lits.specs.Clause.{has}
use Rattle.lits.specs.Same.{same_lit, same_node, opposite}
use Rattle.lits.specs.declared.node.Node.{Node}
use Rattle.lits.specs.declared.literal.Lit.{Lit}
use Rattle.lits.specs.declared.step.Named.{Named}
use Rattle.lits.specs.declared.step.Ref.{Ref}
use Rattle.flat_base.specs.Flat.{Flat, named_of, named_by}
use Rattle.lits.proofs.Facts.{exact-node, has-append, lit_laws, node_laws, take_one}
use Rattle.unit_prop.specs.Log.{IsBase, base_clauses}
use Rattle.unit_prop.specs.Refuter.{is_over}
use Rattle.unit_prop.proofs.Facts.{witness}
use Rattle.solver_plain.proofs.Facts.{over-opposite}
use Rattle.watch_lists.specs.Trail.{TrailState, Adds, trail_of}
use Rattle.solver_watch.specs.declared.formula.Formula.{Formula}
use Rattle.solver_watch.specs.Known.{named_with, base_in, AreUsed, IsStarted}
use Rattle.solver_watch.proofs.BaseLemmas.{with-push, with-flat}
use Rattle.solver_watch.proofs.EngineLemmas.{same-variable, clauses-both}

-- the first clauses of a base are taken
pub record IsStarting (base : List Named) (f : Formula) : Type 0 where
  pub size : length f.names.items ≡ length f.trail.clauses
  pub base_is : base_in f ≡ base
  pub log_is : f.log.items ≡ []
  pub clauses : f.trail.clauses ≡ base_clauses base
  pub puts : f.trail.puts ≡ []
  pub last : f.trail.last ≡ 0
  pub nodes : (l : Lit) → has same_node f.trail.nodes l.node ≡ true → is_over base l ≡ true

over-more : (base more : List Named) (l : Lit) → is_over (base ++ more) l ≡ (is_over base l || is_over more l)
over-more base more l =
    ap (λ (cs : List (List Lit)). list_any (λ c. has same_lit c l || has same_lit c (opposite l)) cs) (map-append (λ (n : Named). n.clause) base more)
    ∙ list_any-append (λ c. has same_lit c l || has same_lit c (opposite l)) (base_clauses base) (base_clauses more)

pub starting-next : (base : List Named) (i : ℕ) (n : Named) (f g : Formula) → i < length base → n ≡ get_or base i n → IsStarting (take i base) f
    → Adds f.trail n.clause g.trail → g.names.items ≡ f.names.items ++ n.by ∷ [] → g.log.items ≡ f.log.items → IsStarting (take (i + 1) base) g
starting-next base i n f g below at so_far adds names_new log_new =
    subst (λ (b : List Named). IsStarting b g) (sym (take_one base i n below at)) (record {
      size = omega (arith, so_far.size, ap length names_new, ap length adds.clauses, length-append f.names.items (n.by ∷ []), length-append f.trail.clauses (n.clause ∷ []));
      base_is = base_new ∙ ap (λ (b : List Named). b ++ n ∷ []) so_far.base_is;
      log_is = log_new ∙ so_far.log_is;
      clauses = adds.clauses ∙ ap (λ (cs : List (List Lit)). cs ++ n.clause ∷ []) so_far.clauses
          ∙ sym (map-append (λ (m : Named). m.clause) (take i base) (n ∷ []));
      puts = adds.puts ∙ so_far.puts;
      last = adds.last ∙ so_far.last;
      nodes = λ l h. over-more (take i base) (n ∷ []) l ∙ nodes_at l (or_cases _ _ (sym (has-append node_laws f.trail.nodes adds.numbers.more l.node)
          ∙ ap (λ (ns : List Node). has same_node ns l.node) (sym adds.numbers.behind) ∙ h));
    })
  where
    base_new : base_in g ≡ base_in f ++ n ∷ []
    base_new = ap (λ (ns : List Ref). named_with ns g.trail.clauses) names_new
        ∙ (ap (λ (cs : List (List Lit)). named_with (f.names.items ++ n.by ∷ []) cs) adds.clauses
        ∙ with-push f.names.items f.trail.clauses n.by n.clause so_far.size)

    in-clause : (l m : Lit) → has same_lit n.clause m ≡ true → (l ≡ m) ⊎ (l ≡ opposite m) → is_over (n ∷ []) l ≡ true
    in-clause l m h (inl e) = ap (λ (k : Lit). is_over (n ∷ []) k) e ∙ or_left _ _ (or_left _ _ h)
    in-clause l m h (inr e) = ap (λ (k : Lit). is_over (n ∷ []) k) e ∙ (over-opposite (n ∷ []) m ∙ or_left _ _ (or_left _ _ h))

    nodes_at : (l : Lit) → (has same_node f.trail.nodes l.node ≡ true) ⊎ (has same_node adds.numbers.more l.node ≡ true)
        → (is_over (take i base) l || is_over (n ∷ []) l) ≡ true
    nodes_at l (inl h) = or_left _ _ (so_far.nodes l h)
    nodes_at l (inr h) =
        let w = witness lit_laws (λ m. same_node m.node l.node) n.clause (adds.numbers.from l.node h) in
        or_right (is_over (take i base) l) _ (in-clause l w.0 w.1 (same-variable l w.0 (sym (exact-node w.0.node l.node w.2))))

pub started : (base : List Named) (i : ℕ) (f : Formula) → IsBase base → length base ≤ i → IsStarting (take i base) f → IsStarted base f
started base i f names past s = go (subst (λ (b : List Named). IsStarting b f) (take_all i base past) s)
  where
    go : IsStarting base f → IsStarted base f
    go all = record {
      known = record {
        few = omega (arith, all.size);
        names = subst (λ (b : List Named). IsBase b) (sym all.base_is) names;
        clauses = all.clauses ∙ rw (all.base_is, all.log_is) (sym (append-nil (base_clauses base)));
        within = rw all.log_is tt;
        nodes = λ l h. ap (λ (b : List Named). is_over b l) all.base_is ∙ all.nodes l h;
      };
      clauses = clauses-both (base_in f) base f.log.items [] all.base_is all.log_is;
      puts = all.puts;
      last = all.last;
    }

-- a flat base is taken
pub flat-started : (base : Flat) (f : Formula) → IsBase (named_of base) → AreUsed base → f.names.items ≡ map (λ d. d.by) base.clauses → f.log.items ≡ []
    → f.trail ≡ trail_of base → IsStarted (named_of base) f
flat-started base f names used named log trail = record {
  known = record {
    few = omega (arith, ap length named, ap length clauses, length-map base.clauses (λ d. d.by), length-map (named_of base) (λ n. n.clause), length-map base.clauses (named_by base.nodes));
    names = subst (λ (b : List Named). IsBase b) (sym base_is) names;
    clauses = clauses ∙ rw (base_is, log) (sym (append-nil (base_clauses (named_of base))));
    within = rw log tt;
    nodes = λ l h. ap (λ (b : List Named). is_over b l) base_is ∙ used l (ap (λ (t : TrailState). has same_node t.nodes l.node) (sym trail) ∙ h);
  };
  clauses = clauses-both (base_in f) (named_of base) f.log.items [] base_is log;
  puts = ap (λ (t : TrailState). t.puts) trail;
  last = ap (λ (t : TrailState). t.last) trail;
}
  where
    clauses : f.trail.clauses ≡ base_clauses (named_of base)
    clauses = ap (λ (t : TrailState). t.clauses) trail

    base_is : base_in f ≡ named_of base
    base_is = ap (λ (ns : List Ref). named_with ns f.trail.clauses) named
        ∙ (ap (λ (cs : List (List Lit)). named_with (map (λ d. d.by) base.clauses) cs) clauses ∙ with-flat base.nodes base.clauses)
