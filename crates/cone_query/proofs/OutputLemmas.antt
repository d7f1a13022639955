-- What each answer over an output's cone shows of the output.
use Rattle.std.proofs.Common.{◌≡◌, ℕ, ◌+◌, ◌≤◌, ◌^◌, Bool, true, false, ◌||◌, Some, List, [], ◌∷◌, ◌++◌, length, map, take, refl, sym, ap, ap₂, ◌∙◌, subst, length-append, arith}
use Rattle.std.specs.Prelude.{slice_index}
use Rattle.std.specs.Option.{IsSome, option_to_list}
use Rattle.std.specs.List.{list_any, AllByRecursion}
use Rattle.std.proofs.lemmas.Bool.{and_parts, not-false, or_right}
use Rattle.std.proofs.Math.Seq.{take-length}
use Rattle.std.proofs.Math.Bool.{or-false}
use Rattle.lits.specs.Assignment.{Holds, Meets}
use Rattle.lits.specs.Clause.{has, has_pair, firsts}
use Rattle.lits.specs.declared.node.Side.{Side}
use Rattle.lits.specs.declared.node.Side.TheVariants.{A, B}
use Rattle.lits.specs.declared.node.Node.{Node}
use Rattle.lits.specs.declared.node.Node.TheVariants.{Xor}
use Rattle.lits.specs.declared.literal.Lit.{Lit}
use Rattle.lits.specs.declared.step.Named.{Named}
use Rattle.lits.specs.declared.step.Step.{Step}
use Rattle.lits.specs.declared.step.Ref.{Ref}
use Rattle.lits.specs.declared.step.Ref.TheVariants.{Axiom, Bound}
use Rattle.lits.specs.Same.{same_node, same_lit, opposite}
use Rattle.lits.specs.contracts.literal.LitLiteral.TheImpl.Laws as lit
use Rattle.lits.proofs.Facts.{exact-lit, all-append, all-parts, same-lit_self}
use Rattle.netlist.specs.Circuit.{var_of, output_value}
use Rattle.netlist.specs.Net.{AigPair, bounds_of, bounds_on, circuit_of, output_of, nodes_of, position_of, differs, value_of, lit_holds}
use Rattle.netlist.specs.Miter.{positive, negative, unit, kept, xor_clauses, axioms_of, variables_of}
use Rattle.netlist.proofs.Facts.{has-position, is_some-place, values-meet, output_lit, output_of-below, bounds-there, bounds-admitted}
use Rattle.unit_prop.specs.declared.refuter.Refuted.{Refuted}
use Rattle.unit_prop.specs.declared.refuter.Refuted.TheVariants.{Yes, No, Spent as Gone}
use Rattle.unit_prop.specs.New.{occurs}
use Rattle.unit_prop.specs.Log.{base_clause, base_clauses, with_own, IsStepAfter, IsLog, IsBudgetLog}
use Rattle.unit_prop.specs.Refuter.{is_over, IsOver, IsModel, Answers, StaysUndecided}
use Rattle.unit_prop.specs.Step.{IsStep}
use Rattle.unit_prop.specs.Variables.{variables}
use Rattle.unit_prop.proofs.Facts.{in_turn-append, log-grows, all-base}
use Rattle.lemma_book.specs.declared.entry.Entry.{Entry}
use Rattle.lemma_book.specs.declared.entry.Entry.TheVariants.{Out, OutApart, OutSpent}
use Rattle.lemma_book.specs.Cone.{AreThere, AreIn, named_from, named_clauses, named_bounds, named_units, nodes_in, next_of, IsReach, IsOutputCone}
use Rattle.lemma_book.specs.Entry.{Entries, OfOutput, seeds_of, equal_clause}
use Rattle.lemma_book.specs.Good.{AreOver, out_clause}
use Rattle.lemma_book.proofs.Facts.{apart-lits, good-out, good-out_apart, good-out_spent, step_after-more, reach-there, found-clause}
use Rattle.lemma_book.proofs.Facts.{output_cone-named, output_cone-over, bounds-reached, seeds-there}
use Rattle.lemma_book.proofs.Facts.{xor-there, xor-variable, xor-unmerged, output-no_xor, xor-axioms_are, output-unsettled}
use Rattle.cone_query.specs.Input.{input_from}
use Rattle.cone_query.specs.Answered.{IsOutput, SettlesOutput}
use Rattle.cone_query.proofs.ConeModel.{agree-lit, cone-at, named-meets}
use Rattle.cone_query.proofs.GateClauses.{xor_from_axioms}
use Rattle.cone_query.proofs.GateOrder.{node_of-no_xor}
use Rattle.cone_query.proofs.InputLemmas.{length-input_from, input_from-at}
use Rattle.cone_query.proofs.LogLemmas.{log-over, over-there, log-chain}
use Rattle.cone_query.proofs.ModelLiterals.{true_in, true-clauses, false-literal}
use Rattle.cone_query.proofs.OccursLemmas.{speaks_of, occurs-at}
use Rattle.cone_query.proofs.ReachedLemmas.{cone-reached, false-outside}

-- a test passes for the clauses that stay
module _ (test : List Lit → Bool) where
  kept-here : (c : List Lit) (cs : List (List Lit)) → has_pair same_lit opposite c ≡ false → test (firsts same_lit c) ≡ true → list_any test (kept (c ∷ cs)) ≡ true
  kept-here c cs stays passes = rw (stays, passes) refl

  kept-later : (c : List Lit) (cs : List (List Lit)) → list_any test (kept cs) ≡ true → list_any test (kept (c ∷ cs)) ≡ true
  kept-later c cs passes = go (has_pair same_lit opposite c) refl
    where
      go : (b : Bool) → has_pair same_lit opposite c ≡ b → list_any test (kept (c ∷ cs)) ≡ true
      go true e = rw e passes
      go false e = rw e (or_right (test (firsts same_lit c)) (list_any test (kept cs)) passes)

-- an XOR's variable occurs in its clauses
xor-kept : (x : Node) (a b : Lit) → same_node a.node x ≡ false → same_node b.node x ≡ false
    → occurs same_lit opposite (kept (xor_clauses x a b)) (negative x) ≡ true
xor-kept x a b p q = go (same_lit b (opposite a)) refl
  where
    test : List Lit → Bool
    test c = has same_lit c (negative x) || has same_lit c (opposite (negative x))

    go : (c : Bool) → same_lit b (opposite a) ≡ c → occurs same_lit opposite (kept (xor_clauses x a b)) (negative x) ≡ true
    go false e =
        kept-here test (negative x ∷ a ∷ b ∷ [])
        ((negative x ∷ opposite a ∷ opposite b ∷ []) ∷ (positive x ∷ opposite a ∷ b ∷ []) ∷ (positive x ∷ a ∷ opposite b ∷ []) ∷ [])
        (rw (apart-lits a (positive x) p, apart-lits b (positive x) q, e) refl) (rw (same-lit_self (negative x)) refl)
    go true e =
        let flipped : same_lit b (opposite (opposite a)) ≡ false =
        subst (λ (l : Lit). same_lit l (opposite (opposite a)) ≡ false) (sym (exact-lit b (opposite a) e)) (lit.differs-law (opposite a)) in
        kept-later test (negative x ∷ a ∷ b ∷ [])
        ((negative x ∷ opposite a ∷ opposite b ∷ []) ∷ (positive x ∷ opposite a ∷ b ∷ []) ∷ (positive x ∷ a ∷ opposite b ∷ []) ∷ [])
        (kept-later test (negative x ∷ opposite a ∷ opposite b ∷ []) ((positive x ∷ opposite a ∷ b ∷ []) ∷ (positive x ∷ a ∷ opposite b ∷ []) ∷ [])
        (kept-here test (positive x ∷ opposite a ∷ b ∷ []) ((positive x ∷ a ∷ opposite b ∷ []) ∷ [])
        (rw (apart-lits (opposite a) (negative x) p, apart-lits b (negative x) q, flipped) refl)
        (or_right (has same_lit (firsts same_lit (positive x ∷ opposite a ∷ b ∷ [])) (negative x)) (has same_lit (firsts same_lit (positive x ∷ opposite a ∷ b ∷ [])) (positive x))
        (rw (same-lit_self (positive x)) refl))))

-- clauses that don't speak of a variable that occurs in them
spoken : (cs : List (List Lit)) (l : Lit) (name : ℕ → Ref) (k : ℕ) → occurs same_lit opposite cs l ≡ true
    → ¬ AllByRecursion (λ m. speaks_of l m.clause ≡ false) (named_from name k cs)
spoken [] l name k e all = cc
spoken (c ∷ cs) l name k e all = spoken cs l name (k + 1) (rw all.0 at e) all.1

-- what occurs in the first ones of named clauses occurs in all
over-first : (xs ys : List Named) (l : Lit) → is_over xs l ≡ true → is_over (xs ++ ys) l ≡ true
over-first [] ys l e = cc
over-first (x ∷ xs) ys l e = go (speaks_of l x.clause) refl (over-first xs ys l)
  where
    go : (b : Bool) → speaks_of l x.clause ≡ b → (is_over xs l ≡ true → is_over (xs ++ ys) l ≡ true) → is_over ((x ∷ xs) ++ ys) l ≡ true
    go true f rest = rw f refl
    go false f rest = rw f (rest (rw f at e))

-- the unit of a literal holds where the literal does, and is over its node
module _ (name : ℕ → Ref) where
  units-hold : (v : Lit → Bool) (k : ℕ) (ls : List Lit) → AllByRecursion (λ n. Holds v n.clause) (named_from name k (map unit ls))
      → AllByRecursion (λ l. v l ≡ true) ls
  units-hold v k [] all = tt
  units-hold v k (l ∷ ls) all = (sym (or-false (v l)) ∙ all.0, units-hold v (k + 1) ls all.1)

  units-over : (p : Node → Bool) (k : ℕ) (ls : List Lit) → AllByRecursion (λ l. p l.node ≡ true) ls
      → AllByRecursion (λ n. AllByRecursion (λ l. p l.node ≡ true) n.clause) (named_from name k (map unit ls))
  units-over p k [] all = tt
  units-over p k (l ∷ ls) all = ((all.0, tt), units-over p (k + 1) ls all.1)

module _ (net : AigPair) where
  bounds-hold : (v : Lit → Bool) → AllByRecursion (λ n. Holds v n.clause) (named_units net) → AllByRecursion (λ l. v l ≡ true) (bounds_of net)
  bounds-hold v all =
      let sides = all-parts (λ n. Holds v n.clause) (named_bounds net A) (named_bounds net B) all in
      all-append (λ l. v l ≡ true) (bounds_on net A) (bounds_on net B)
      (units-hold (Bound A) v 0 (bounds_on net A) sides.0) (units-hold (Bound B) v 0 (bounds_on net B) sides.1)

  bounds-over : (p : Node → Bool) → AllByRecursion (λ l. p l.node ≡ true) (bounds_of net)
      → AllByRecursion (λ n. AllByRecursion (λ l. p l.node ≡ true) n.clause) (named_units net)
  bounds-over p all =
      let sides = all-parts (λ l. p l.node ≡ true) (bounds_on net A) (bounds_on net B) all in
      all-append (λ n. AllByRecursion (λ l. p l.node ≡ true) n.clause) (named_bounds net A) (named_bounds net B)
      (units-over (Bound A) p 0 (bounds_on net A) sides.0) (units-over (Bound B) p 0 (bounds_on net B) sides.1)

module _ (net : AigPair) (book : Entries) (j : ℕ) (asks : IsOutput net book j) where
  abbrev es : List Entry
  es = take (length book.entries) book.entries

  abbrev seeds : List Node
  seeds = seeds_of net (OfOutput j)

  module _ (cone : List Named) (is_cone : IsOutputCone net es j cone) where
    abbrev nodes : List Named
    nodes = is_cone.nodes

    abbrev reached : Node → Bool
    reached = is_cone.is_cone.reached

    starts : AreIn (has same_node (variables_of net)) seeds
    starts = seeds-there net asks.net_is j asks.below

    xor-reached : reached (Xor j) ≡ true
    xor-reached = is_cone.is_cone.reach.closed.starts.0

    -- its variable occurs in the cone
    pub target-over : IsOver cone (equal_clause j)
    target-over = (
      subst (λ (b : List Named). is_over b (negative (Xor j)) ≡ true) (sym is_cone.clauses)
          (over-first nodes (named_units net) (negative (Xor j))
          (occurs-at net es seeds nodes is_cone.is_cone (negative (Xor j)) (Xor j) xor-reached (xor-there net asks.net_is j asks.below) none)),
      tt,
    )
      where
        none : ¬ AllByRecursion (λ m. speaks_of (negative (Xor j)) m.clause ≡ false) (named_clauses net es (Xor j))
        none all =
            spoken (kept (xor_clauses (Xor j) (output_lit net A j) (output_lit net B j))) (negative (Xor j)) (Axiom (Xor j)) 0
            (xor-kept (Xor j) (output_lit net A j) (output_lit net B j) (output-no_xor net A j j) (output-no_xor net B j j))
            (subst (λ (cs : List (List Lit)). AllByRecursion (λ m. speaks_of (negative (Xor j)) m.clause ≡ false) (named_from (Axiom (Xor j)) 0 cs)) (xor-axioms_are net asks.net_is j asks.below)
            (rw (xor-unmerged net book asks.legal (length book.entries) j) at all))

    -- the literals of the cone are over nodes that have variables, and over those that are reached
    cone_there : AllByRecursion (λ m. AllByRecursion (λ l. has same_node (variables_of net) l.node ≡ true) m.clause) cone
    cone_there = output_cone-over net asks.net_is book asks.legal (length book.entries) j cone is_cone

    cone_reached : AllByRecursion (λ m. AllByRecursion (λ l. reached l.node ≡ true) m.clause) cone
    cone_reached =
        subst (AllByRecursion (λ m. AllByRecursion (λ l. reached l.node ≡ true) m.clause)) (sym is_cone.clauses)
        (all-append (λ m. AllByRecursion (λ l. reached l.node ≡ true) m.clause) nodes (named_units net) (cone-reached net es seeds nodes is_cone.is_cone)
        (bounds-over net reached (bounds-reached net es j cone is_cone)))

    module _ (log : List Step) (left : ℕ) (result : Refuted) (a : Answers cone (equal_clause j) [] book.out_budget log left result) where
      learned : IsLog cone log
      learned = log-grows cone (equal_clause j) [] book.out_budget log left result tt a

      over : AreOver net log
      over = log-over net cone cone_there log learned

      count : left + length log ≡ book.out_budget
      count = omega (arith, a.spends, ap length a.grows)

      -- a proof shows that the output is the same in both circuits
      pub proof-settles : (hints : List Ref) (e : Entry) → result ≡ Yes hints → e ≡ Out j (log ++ record { clause = equal_clause j; hints = hints } ∷ [])
          → SettlesOutput net book j e
      proof-settles hints e is made = subst (SettlesOutput net book j) (sym made) (record {
        about = refl;
        good = good-out net book j (log ++ last ∷ []) asks.below
            (all-append (λ s. AreThere net s.clause) log (last ∷ []) over ((xor-variable net asks.net_is j asks.below, tt), tt))
            (output-unsettled book.entries j asks.unsettled)
            (record { before = log; last = last ∷ []; parts = refl; clauses_are = refl })
            (omega (arith, count, length-append log (last ∷ [])))
            (in_turn-append (IsStepAfter (out_clause net book.entries)) [] log (last ∷ [])
            (log-chain (out_clause net book.entries) cone log found learned)
            (step_after-more (base_clause cone) (out_clause net book.entries) found log (equal_clause j) hints shown, tt));
        seen = tt;
        outside = tt;
        within = tt;
      })
        where
          last : Step
          last = record { clause = equal_clause j; hints = hints }

          found : (name : Ref) (c : List Lit) → base_clause cone name ≡ Some c → out_clause net book.entries name ≡ Some c
          found =
              subst (λ (l : List Entry). (name : Ref) (c : List Lit) → base_clause cone name ≡ Some c → out_clause net l name ≡ Some c) (take-length book.entries)
              (found-clause (out_clause net es) cone (output_cone-named net es j cone is_cone))

          shown : IsStep same_lit opposite (with_own (base_clause cone) log) (equal_clause j) hints
          shown = (subst (λ (r : Refuted). Answers cone (equal_clause j) [] book.out_budget log left r) is a).answer.1

      -- a model is over nodes that the miter has variables for
      pub output_model-there : (model : List Lit) → result ≡ No model → AreThere net model
      output_model-there model is =
          over-there net cone cone_there model (subst (λ (r : Refuted). Answers cone (equal_clause j) [] book.out_budget log left r) is a).answer.1.within

      -- and it gives an admitted input on which the output differs
      pub model-settles_output : (model : List Lit) (e : Entry) → result ≡ No model → e ≡ OutApart j (input_from net model) → SettlesOutput net book j e
      model-settles_output model e is made = subst (SettlesOutput net book j) (sym made) (record {
        about = refl;
        good = good-out_apart net book j bits asks.below (output-unsettled book.entries j asks.unsettled)
            (record {
              admitted = bounds-admitted net asks.net_is bits (length-input_from net model)
                  (same-values (bounds_of net) (bounds-reached net es j cone is_cone) (bounds-there net asks.net_is) (bounds-hold net (lit_holds (true_in model)) parts.1));
              within = asks.below;
              apart = λ same. unequal (output_value net.a bits j) (output_value net.b bits j) same differ;
            });
        seen = tt;
        outside = record {
          reached = reached;
          reach = subst (λ (l : List Entry). IsReach (next_of net l) seeds reached) (take-length book.entries) is_cone.is_cone.reach;
          outside = false-outside reached cone cone_reached net model m.within;
        };
        within = tt;
      })
        where
          bits : List Bool
          bits = input_from net model

          m : IsModel cone (equal_clause j) model
          m = (subst (λ (r : Refuted). Answers cone (equal_clause j) [] book.out_budget log left r) is a).answer.1

          -- the model meets the clauses of the nodes and the units
          parts : AllByRecursion (λ n. Holds (lit_holds (true_in model)) n.clause) nodes × AllByRecursion (λ n. Holds (lit_holds (true_in model)) n.clause) (named_units net)
          parts =
              all-parts (λ n. Holds (lit_holds (true_in model)) n.clause) nodes (named_units net)
              (subst (AllByRecursion (λ n. Holds (lit_holds (true_in model)) n.clause)) is_cone.clauses
              (all-base (lit_holds (true_in model)) cone (true-clauses model m.once.apart (base_clauses cone) m.meets)))

          -- a reached literal has its value in the circuits
          value : (l : Lit) → IsSome (position_of net l.node) → reached l.node ≡ true → lit_holds (true_in model) l ≡ lit_holds (value_of net bits) l
          value =
              agree-lit net asks.net_is book asks.legal (length book.entries) asks.all_true seeds nodes is_cone.is_cone starts (true_in model) parts.0 bits
              (length-input_from net model) (λ k inside q. sym (input_from-at net model k false inside))

          -- so have the constraints
          same-values : (ls : List Lit) → AllByRecursion (λ l. reached l.node ≡ true) ls → AllByRecursion (λ l. has same_node (nodes_of net) l.node ≡ true) ls
              → AllByRecursion (λ l. lit_holds (true_in model) l ≡ true) ls → AllByRecursion (λ l. lit_holds (value_of net bits) l ≡ true) ls
          same-values [] r p all = tt
          same-values (l ∷ ls) r p all =
              (sym (value l (is_some-place (λ n. same_node n l.node) (nodes_of net) ∙ p.0) r.0) ∙ all.0, same-values ls r.1 p.1 all.1)

          nexts : AreIn reached (nodes_in (option_to_list (output_of net A j) ++ option_to_list (output_of net B j)))
          nexts = rw (xor-unmerged net book asks.legal (length book.entries) j) at (is_cone.is_cone.reach.closed.nexts (Xor j) xor-reached)

          both : (reached (output_lit net A j).node ≡ true) × (reached (output_lit net B j).node ≡ true)
          both =
              let known : AreIn reached ((output_lit net A j).node ∷ (output_lit net B j).node ∷ []) =
              rw (output_of-below net asks.net_is A j asks.below, output_of-below net asks.net_is B j asks.below) at nexts in
              (known.0, known.1.0)

          placed : (s : Side) → reached (output_lit net s j).node ≡ true → IsSome (position_of net (output_lit net s j).node)
          placed s r =
              let there = reach-there net asks.net_is book asks.legal (length book.entries) seeds starts reached is_cone.is_cone.reach (output_lit net s j).node r in
              is_some-place (λ n. same_node n (output_lit net s j).node) (nodes_of net)
              ∙ has-position net (output_lit net s j).node (node_of-no_xor s (circuit_of net s) (var_of (slice_index (circuit_of net s).outputs j))) there

          xor_axioms-hold : Meets (lit_holds (true_in model)) (axioms_of net (Xor j))
          xor_axioms-hold =
              named-meets (lit_holds (true_in model)) (Axiom (Xor j)) 0 (axioms_of net (Xor j))
              (rw (xor-unmerged net book asks.legal (length book.entries) j) at (cone-at net es seeds nodes is_cone.is_cone (λ n. Holds (lit_holds (true_in model)) n.clause) (Xor j) xor-reached (xor-there net asks.net_is j asks.below) parts.0))

          is_true : true_in model (Xor j) ≡ true
          is_true = not-false (true_in model (Xor j)) (false-literal model (negative (Xor j)) m.once.apart (and_parts (has same_lit model (positive (Xor j))) true m.refutes).0)

          differ : differs (output_value net.a bits j) (output_value net.b bits j) ≡ true
          differ =
              xor_from_axioms net (value_of net bits) asks.net_is j asks.below (values-meet net asks.net_is bits (Xor j))
              ∙ (sym (xor_from_axioms net (true_in model) asks.net_is j asks.below xor_axioms-hold
              ∙ ap₂ differs (value (output_lit net A j) (placed A both.0) both.0) (value (output_lit net B j) (placed B both.1) both.1)) ∙ is_true)

          unequal : (x y : Bool) → x ≡ y → differs x y ≡ true → ⊥
          unequal true true e f = cc
          unequal true false e f = cc
          unequal false true e f = cc
          unequal false false e f = cc

      -- a budget that is spent has its log
      pub log-settles_output : (e : Entry) → ((b : List Named) (budget : ℕ) (l : List Step) → IsBudgetLog b budget l → budget ≤ 3 ^ variables b)
          → result ≡ Gone → e ≡ OutSpent j (length book.entries) log → SettlesOutput net book j e
      log-settles_output e law is made = subst (SettlesOutput net book j) (sym made) (record {
        about = refl;
        good = good-out_spent net book j (length book.entries) log cone asks.below over (output-unsettled book.entries j asks.unsettled) (omega arith) is_cone spent
            (subst (StaysUndecided cone (equal_clause j) []) (sym a.grows) a.undecided);
        seen = refl;
        outside = tt;
        within = record {
          cone = cone;
          is_cone = subst (λ (l : List Entry). IsOutputCone net l j cone) (take-length book.entries) is_cone;
          holds = law cone book.out_budget log spent;
        };
      })
        where
          none : left ≡ 0
          none = (subst (λ (r : Refuted). Answers cone (equal_clause j) [] book.out_budget log left r) is a).answer

          spent : IsBudgetLog cone book.out_budget log
          spent = record { whole = omega (arith, none, count); learned = learned }

-- the query was made of the output's clause, with an empty log and the whole budget
pub made-answer : (net : AigPair) (book : Entries) (j : ℕ) (cone : List Named) (target : List Lit) (log : List Step) (budget : ℕ)
    → target ≡ equal_clause j → log ≡ [] → budget ≡ book.out_budget
    → (grown : List Step) (left : ℕ) (result : Refuted) → Answers cone target log budget grown left result
    → Answers cone (equal_clause j) [] book.out_budget grown left result
made-answer net book j cone target log budget target_is log_is budget_is grown left result answers =
    subst (λ (n : ℕ). Answers cone (equal_clause j) [] n grown left result) budget_is
    (subst (λ (l : List Step). Answers cone (equal_clause j) l budget grown left result) log_is
    (subst (λ (t : List Lit). Answers cone t log budget grown left result) target_is answers))
