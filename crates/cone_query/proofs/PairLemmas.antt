-- What each answer about an implication between a pair shows of the pair.
use Rattle.std.proofs.Common.{◌≡◌, ◌≢◌, ℕ, ◌+◌, ◌≤◌, ◌^◌, Bool, true, false, not, ◌||◌, ◌&&◌, Option, Some, None, List, [], ◌∷◌, ◌++◌, length, take, refl, sym, ap, ◌∙◌, subst, inl, inr, append_assoc, length-append, arith}
use Rattle.std.specs.Prelude.{slice_get, Result, Ok, Err, IfOk, OnOk}
use Rattle.std.specs.Option.{IsSome, option_map}
use Rattle.std.specs.List.{list_all, AllByRecursion}
use Rattle.std.proofs.lemmas.Bool.{and_parts}
use Rattle.std.proofs.lemmas.Option.{none-some, slice_get_within}
use Rattle.std.proofs.Math.Seq.{take-length}
use Rattle.std.proofs.Math.Bool.{or_comm}
use Rattle.lits.specs.Assignment.{Holds}
use Rattle.lits.specs.Clause.{has}
use Rattle.lits.specs.declared.literal.Lit.{Lit}
use Rattle.lits.specs.declared.step.Named.{Named}
use Rattle.lits.specs.declared.step.Step.{Step}
use Rattle.lits.specs.declared.step.Ref.{Ref}
use Rattle.lits.specs.declared.step.Ref.TheVariants.{Axiom, Entry as Shown, Own, Bound}
use Rattle.lits.specs.Same.{same_node, same_lit, opposite}
use Rattle.lits.specs.contracts.literal.LitLiteral.TheImpl.Laws as lit
use Rattle.lits.proofs.Facts.{all-append}
use Rattle.netlist.specs.Net.{AigPair, position_of, value_of, lit_holds}
use Rattle.netlist.specs.Miter.{positive, negative, variables_of}
use Rattle.netlist.proofs.Facts.{slice_get-left, lit_holds-opposite}
use Rattle.unit_prop.specs.declared.refuter.Refuted.{Refuted}
use Rattle.unit_prop.specs.declared.refuter.Refuted.TheVariants.{No, Spent as Gone}
use Rattle.unit_prop.specs.New.{occurs}
use Rattle.unit_prop.specs.Log.{base_clause, base_clauses, with_own, IsStepAfter, IsChain, IsBudgetLog}
use Rattle.unit_prop.specs.Refuter.{is_over, IsOver, IsModel, Answers}
use Rattle.unit_prop.specs.Step.{IsStep}
use Rattle.unit_prop.specs.Variables.{variables}
use Rattle.unit_prop.proofs.Facts.{in_turn-append, log-grows, step-more, all-base}
use Rattle.lemma_book.specs.declared.entry.Task.{Task}
use Rattle.lemma_book.specs.declared.entry.Entry.{Entry}
use Rattle.lemma_book.specs.declared.entry.Entry.TheVariants.{Merge, Apart, Spent, Out, OutApart, OutSpent}
use Rattle.lemma_book.specs.Cone.{AreThere, AreIn, next_of, IsReach, IsCone}
use Rattle.lemma_book.specs.Entry.{Entries, merge_clauses}
use Rattle.lemma_book.specs.Good.{ArePlaced, IsBefore, AreOver, EndsIn, node_clause}
use Rattle.lemma_book.proofs.Facts.{cone-over, good-merge, good-apart, good-spent, is_some-variable, placed-there, step_after-more, root-unsettled}
use Rattle.cone_query.specs.Input.{input_from}
use Rattle.cone_query.specs.Query.{IsBuilt, IsSetAlone}
use Rattle.cone_query.specs.declared.pair_query.Asked.{Asked}
use Rattle.cone_query.specs.declared.pair_query.Asked.TheVariants.{Shown as Asks_shown}
use Rattle.cone_query.specs.Asked.{IsPair, IsBaseOf, IsQuery, IsImplication, IsShown, IsAsked, Settles, seeds_of, forth, back}
use Rattle.cone_query.proofs.ConeModel.{agree, agree-lit}
use Rattle.cone_query.proofs.InputLemmas.{length-input_from, input_from-at}
use Rattle.cone_query.proofs.LogLemmas.{log-over, over-there, node-found, log-chain}
use Rattle.cone_query.proofs.ModelLiterals.{true_in, true-clauses, false-literal}
use Rattle.cone_query.proofs.ReachedLemmas.{cone-reached, false-outside}

-- what holds of the value that an answer has holds of the answer
pub if_ok-same : {T E : Type 0} (P : T → Type 0) (x : T) (r : Result T E) → IfOk r (λ e. e ≡ x) → P x → IfOk r P
if_ok-same P x (Ok t) same p = subst P (sym same) p
if_ok-same P x (Err e) same p = tt

-- what holds of all values holds of the one that an answer has
pub if_ok-all : {T E : Type 0} (P : T → Type 0) (r : Result T E) → ((t : T) → P t) → IfOk r P
if_ok-all P (Ok t) all = all t
if_ok-all P (Err e) all = tt

pub on_ok-all : {T E : Type 0} (P : Type 0) (r : Result T E) → P → OnOk r P
on_ok-all P (Ok t) p = p
on_ok-all P (Err e) p = tt

-- an entry that is settled without a query is an Apart, so nothing is asked of how it is built
pub alone-built : (log : List Step) (e : Entry) → IsSetAlone e → IsBuilt log e
alone-built log (Apart node lit input) alone = tt
alone-built log (Merge node lit steps) alone = absurd alone
alone-built log (Spent node lit seen steps) alone = absurd alone
alone-built log (Out j steps) alone = absurd alone
alone-built log (OutApart j input) alone = absurd alone
alone-built log (OutSpent j seen steps) alone = absurd alone

-- a literal's variable occurs where its negation's does
pub over-opposite : (base : List Named) (l : Lit) → is_over base l ≡ true → is_over base (opposite l) ≡ true
over-opposite base l e = go (base_clauses base) e
  where
    go : (cs : List (List Lit)) → occurs same_lit opposite cs l ≡ true → occurs same_lit opposite cs (opposite l) ≡ true
    go [] f = f
    go (c ∷ cs) f = here (has same_lit c l || has same_lit c (opposite l)) refl (go cs)
      where
        turned : (has same_lit c (opposite l) || has same_lit c (opposite (opposite l))) ≡ (has same_lit c l || has same_lit c (opposite l))
        turned = ap (λ (m : Lit). has same_lit c (opposite l) || has same_lit c m) (lit.twice-law l) ∙ or_comm (has same_lit c (opposite l)) (has same_lit c l)

        here : (b : Bool) → (has same_lit c l || has same_lit c (opposite l)) ≡ b → (occurs same_lit opposite cs l ≡ true → occurs same_lit opposite cs (opposite l) ≡ true)
            → occurs same_lit opposite (c ∷ cs) (opposite l) ≡ true
        here true g rest = rw (turned, g) refl
        here false g rest = rw (turned, g) (rest (rw g at f))

module _ (net : AigPair) (book : Entries) (task : Task) (pair : IsPair net book task) where
  before-some : (p q : Option ℕ) → IsBefore p q → IsSome p × IsSome q
  before-some (Some p) (Some q) e = (refl, refl)
  before-some (Some p) None e = absurd e
  before-some None q e = absurd e

  pub pair-placed : ArePlaced net task.node task.lit
  pair-placed = let r = before-some (position_of net task.lit.node) (position_of net task.node) pair.earlier in (r.1, r.0)

  -- node and literal have variables
  pub pair-there : AreThere net (positive task.node ∷ task.lit ∷ [])
  pair-there = (placed-there net task.node pair-placed.0, (placed-there net task.lit.node pair-placed.1, tt))

  pub pair-starts : AreIn (has same_node (variables_of net)) (seeds_of task)
  pair-starts = (
    sym (is_some-variable net task.node) ∙ placed-there net task.node pair-placed.0,
    (sym (is_some-variable net task.lit.node) ∙ placed-there net task.lit.node pair-placed.1, tt),
  )

  -- the literals of the base are over nodes that have variables
  base-over : {base : List Named} → IsBaseOf net book task base → AllByRecursion (λ m. AllByRecursion (λ l. has same_node (variables_of net) l.node ≡ true) m.clause) base
  base-over is_base = cone-over net pair.net_is book pair.legal (length book.entries) (seeds_of task) _ is_base

  module _ (base : List Named) (log : List Step) (left : ℕ) (query : IsQuery net book task base log left) where
    -- both implications are over the base
    pub implication-over : (clause : List Lit) → IsImplication task clause → IsOver base clause
    implication-over clause (inl e) = subst (IsOver base) (sym e) query.over
    implication-over clause (inr e) =
        subst (IsOver base) (sym e) (over-opposite base (negative task.node) query.over.0, (over-opposite base task.lit query.over.1.0, tt))

    module _ (clause : List Lit) (implication : IsImplication task clause) (log' : List Step) (left' : ℕ) (result : Refuted)
        (a : Answers base clause log left log' left' result) where
      -- the query goes on
      pub query-next : IsQuery net book task base log' left'
      query-next = record {
        cone = query.cone;
        over = query.over;
        learned = log-grows base clause log left log' left' result query.learned a;
        spends = omega (arith, a.spends, query.spends, ap length a.grows, length-append log a.steps);
      }

      -- a model is over nodes that the miter has variables for
      pub model-there : (model : List Lit) → result ≡ No model → AreThere net model
      model-there model is =
          over-there net base (base-over query.cone) model
          (subst (λ (r : Refuted). Answers base clause log left log' left' r) is a).answer.1.within

      -- and it gives an input on which node and literal differ
      pub model-settles : (model : List Lit) (e : Entry) → result ≡ No model → e ≡ Apart task.node task.lit (input_from net model) → Settles net book task e
      model-settles model e is made = subst (Settles net book task) (sym made) (record {
        about = refl;
        good = good-apart net book task.node task.lit bits pair-placed pair.earlier (record { whole = length-input_from net model; apart = apart });
        seen = tt;
        outside = record {
          reached = query.cone.reached;
          reach = subst (λ (es : List Entry). IsReach (next_of net es) (seeds_of task) query.cone.reached) (take-length book.entries) query.cone.reach;
          outside = false-outside query.cone.reached base (cone-reached net (take (length book.entries) book.entries) (seeds_of task) base query.cone) net model m.within;
        };
        within = tt;
      })
        where
          bits : List Bool
          bits = input_from net model

          m : IsModel base clause model
          m = (subst (λ (r : Refuted). Answers base clause log left log' left' r) is a).answer.1

          meets : AllByRecursion (λ n. Holds (lit_holds (true_in model)) n.clause) base
          meets = all-base (lit_holds (true_in model)) base (true-clauses model m.once.apart (base_clauses base) m.meets)

          node_is : true_in model task.node ≡ value_of net bits task.node
          node_is =
              agree net pair.net_is book pair.legal (length book.entries) pair.all_true (seeds_of task) base query.cone pair-starts (true_in model) meets bits
              (length-input_from net model) (λ k inside q. sym (input_from-at net model k false inside)) task.node pair-placed.0 query.cone.reach.closed.starts.0

          lit_is : lit_holds (true_in model) task.lit ≡ lit_holds (value_of net bits) task.lit
          lit_is =
              agree-lit net pair.net_is book pair.legal (length book.entries) pair.all_true (seeds_of task) base query.cone pair-starts (true_in model) meets bits
              (length-input_from net model) (λ k inside q. sym (input_from-at net model k false inside)) task.lit pair-placed.1 query.cone.reach.closed.starts.1.0

          false-both : (l k : Lit) → list_all (λ q. has same_lit model (opposite q)) (l ∷ k ∷ []) ≡ true
              → (lit_holds (true_in model) l ≡ false) × (lit_holds (true_in model) k ≡ false)
          false-both l k h =
              let one = and_parts (has same_lit model (opposite l)) (has same_lit model (opposite k) && true) h in
              let two = and_parts (has same_lit model (opposite k)) true one.1 in
              (false-literal model l m.once.apart one.0, false-literal model k m.once.apart two.0)

          differ : IsImplication task clause → true_in model task.node ≢ lit_holds (true_in model) task.lit
          differ (inl f) same =
              let r = false-both (negative task.node) task.lit (subst (λ (c : List Lit). list_all (λ q. has same_lit model (opposite q)) c ≡ true) f m.refutes) in
              go (true_in model task.node) (lit_holds (true_in model) task.lit) same r.0 r.1
            where
              go : (x y : Bool) → x ≡ y → not x ≡ false → y ≡ false → ⊥
              go true true g h i = cc
              go true false g h i = cc
              go false y g h i = cc
          differ (inr f) same =
              let r = false-both (positive task.node) (opposite task.lit) (subst (λ (c : List Lit). list_all (λ q. has same_lit model (opposite q)) c ≡ true) f m.refutes) in
              go (true_in model task.node) (lit_holds (true_in model) task.lit) same r.0
              (sym (lit_holds-opposite (true_in model) task.lit) ∙ r.1)
            where
              go : (x y : Bool) → x ≡ y → x ≡ false → not y ≡ false → ⊥
              go true y g h i = cc
              go false true g h i = cc
              go false false g h i = cc

          apart : value_of net bits task.node ≢ lit_holds (value_of net bits) task.lit
          apart same = differ implication (node_is ∙ (same ∙ sym lit_is))

      -- a budget that is spent has its log
      pub log-settles : (e : Entry) → ((b : List Named) (budget : ℕ) (l : List Step) → IsBudgetLog b budget l → budget ≤ 3 ^ variables b)
          → result ≡ Gone → e ≡ Spent task.node task.lit (length book.entries) log' → Settles net book task e
      log-settles e law is made = subst (Settles net book task) (sym made) (record {
        about = refl;
        good = good-spent net book task.node task.lit (length book.entries) log' base pair-placed
            (log-over net base (base-over query.cone) log' query-next.learned)
            pair.earlier (omega arith) query.cone spent;
        seen = refl;
        outside = tt;
        within = record {
          cone = base;
          is_cone = subst (λ (es : List Entry). IsCone net es (seeds_of task) base) (take-length book.entries) query.cone;
          holds = law base book.sweep_budget log' spent;
        };
      })
        where
          none : left' ≡ 0
          none = (subst (λ (r : Refuted). Answers base clause log left log' left' r) is a).answer

          spent : IsBudgetLog base book.sweep_budget log'
          spent = record { whole = omega (arith, none, query-next.spends); learned = query-next.learned }

  -- own steps that are there stay there
  own-more : (find : Ref → Option (List Lit)) (steps rest : List Step) (n : Ref) (c : List Lit) → with_own find steps n ≡ Some c
      → with_own find (steps ++ rest) n ≡ Some c
  own-more find steps rest (Axiom node k) c e = e
  own-more find steps rest (Shown entry k) c e = e
  own-more find steps rest (Bound side k) c e = e
  own-more find steps rest (Own k) c e = go (slice_get steps k) refl
    where
      go : (o : Option Step) → slice_get steps k ≡ o → option_map (λ s. s.clause) (slice_get (steps ++ rest) k) ≡ Some c
      go None f = let g : None ≡ Some c = rw f at e in absurd (none-some c g)
      go (Some s) f =
          let g : Some s.clause ≡ Some c = rw f at e in
          rw (slice_get-left steps rest k (slice_get_within steps k s f), f) g

  step-longer : (find : Ref → Option (List Lit)) (steps rest : List Step) (clause : List Lit) (hints : List Ref)
      → IsStep same_lit opposite (with_own find steps) clause hints → IsStep same_lit opposite (with_own find (steps ++ rest)) clause hints
  step-longer find steps rest clause hints step =
      step-more same_lit opposite (with_own find steps) (with_own find (steps ++ rest)) (own-more find steps rest) clause hints step

  -- two implications that are shown make a merge
  pub shown-settles : (base : List Named) (log mid end : List Step) (left left' left'' : ℕ) (there again : Step) (e : Entry)
      → IsShown base log (forth task) mid left' there → IsShown base mid (back task) end left'' again
      → IsQuery net book task base end left'' → e ≡ Merge task.node task.lit ((end ++ there ∷ []) ++ again ∷ []) → Settles net book task e
  shown-settles base log mid end left left' left'' there again e first second query made = subst (Settles net book task) (sym made) (record {
    about = refl;
    good = good-merge net book task.node task.lit steps pair-placed over (root-unsettled book.entries task.node pair.root) pair.earlier ends
        (omega (arith, query.spends, count)) chain;
    seen = tt;
    outside = tt;
    within = tt;
  })
    where
      steps : List Step
      steps = (end ++ there ∷ []) ++ again ∷ []

      count : length steps ≡ length end + 2
      count = omega (arith, length-append (end ++ there ∷ []) (again ∷ []), length-append end (there ∷ []))

      ends : EndsIn (merge_clauses task.node task.lit) steps
      ends = record {
        before = end;
        last = there ∷ again ∷ [];
        parts = append_assoc end (there ∷ []) (again ∷ []);
        clauses_are = rw (first.clause_is, second.clause_is) refl;
      }

      over : AreOver net steps
      over =
          all-append (λ s. AreThere net s.clause) (end ++ there ∷ []) (again ∷ [])
          (all-append (λ s. AreThere net s.clause) end (there ∷ [])
          (log-over net base (base-over query.cone) end query.learned)
          (rw first.clause_is (pair-there.0, (pair-there.1.0, tt)), tt))
          (rw second.clause_is (pair-there.0, (pair-there.1.0, tt)), tt)

      found : (name : Ref) (c : List Lit) → base_clause base name ≡ Some c → node_clause net book.entries name ≡ Some c
      found =
          subst (λ (es : List Entry). (name : Ref) (c : List Lit) → base_clause base name ≡ Some c → node_clause net es name ≡ Some c) (take-length book.entries)
          (node-found net pair.net_is book pair.legal (length book.entries) (seeds_of task) base query.cone (pair-placed.0, (pair-placed.1, tt)))

      one : IsStepAfter (node_clause net book.entries) end there
      one =
          step_after-more (base_clause base) (node_clause net book.entries) found end there.clause there.hints
          (subst (λ (l : List Step). IsStep same_lit opposite (with_own (base_clause base) l) there.clause there.hints) (sym second.grows)
          (step-longer (base_clause base) mid second.rest there.clause there.hints first.step))

      two : IsStepAfter (node_clause net book.entries) (end ++ there ∷ []) again
      two =
          step_after-more (base_clause base) (node_clause net book.entries) found (end ++ there ∷ []) again.clause again.hints
          (step-longer (base_clause base) end (there ∷ []) again.clause again.hints second.step)

      chain : IsChain (node_clause net book.entries) steps
      chain =
          in_turn-append (IsStepAfter (node_clause net book.entries)) [] (end ++ there ∷ []) (again ∷ [])
          (in_turn-append (IsStepAfter (node_clause net book.entries)) [] end (there ∷ [])
          (log-chain (node_clause net book.entries) base end found query.learned) (one, tt))
          (two, tt)

  -- the entry that is made of two implications that were shown
  pub merged-settles : {E : Type 0} (base base' base'' : List Named) (log mid end lent : List Step) (left' left'' : ℕ) (clause clause' : List Lit)
      (a a' : Asked) (there again : Step) (r : Result Entry E) → base' ≡ base → base'' ≡ base'
      → IsAsked net book task base log clause mid left' a → a ≡ Asks_shown there → clause ≡ forth task
      → IsAsked net book task base' mid clause' end left'' a' → a' ≡ Asks_shown again → clause' ≡ back task
      → IsQuery net book task base'' end left'' → lent ≡ end
      → IfOk r (λ e. e ≡ Merge task.node task.lit ((lent ++ there ∷ []) ++ again ∷ []))
      → IfOk r (Settles net book task)
  merged-settles base base' base'' log mid end lent left' left'' clause clause' a a' there again (Err e) same same' asked shown is asked' shown' is' query lend made = tt
  merged-settles base base' base'' log mid end lent left' left'' clause clause' a a' there again (Ok e) same same' asked shown is asked' shown' is' query lend made =
      shown-settles base log mid end 0 left' left'' there again e
      (subst (λ (c : List Lit). IsShown base log c mid left' there) is (subst (λ (x : Asked). IsAsked net book task base log clause mid left' x) shown asked))
      (subst (λ (c : List Lit). IsShown base mid c end left'' again) is'
      (subst (λ (b : List Named). IsShown b mid clause' end left'' again) same (subst (λ (x : Asked). IsAsked net book task base' mid clause' end left'' x) shown' asked')))
      (subst (λ (b : List Named). IsQuery net book task b end left'') (same' ∙ same) query)
      (made ∙ ap (λ (l : List Step). Merge task.node task.lit ((l ++ there ∷ []) ++ again ∷ [])) lend)

  -- the step that an answer shows is one of the clause that was asked about
  shown-clause : (base : List Named) (log log' : List Step) (left' : ℕ) (clause : List Lit) (a : Asked) (step : Step)
      → IsAsked net book task base log clause log' left' a → a ≡ Asks_shown step → step.clause ≡ clause
  shown-clause base log log' left' clause a step asked shown =
      (subst (λ (x : Asked). IsAsked net book task base log clause log' left' x) shown asked).clause_is

  -- that entry is built of the log and the two steps
  pub merged-built : {E : Type 0} (base base' : List Named) (log mid end lent : List Step) (left' left'' : ℕ) (clause clause' : List Lit)
      (a a' : Asked) (there again : Step) (r : Result Entry E)
      → IsAsked net book task base log clause mid left' a → a ≡ Asks_shown there → clause ≡ forth task
      → IsAsked net book task base' mid clause' end left'' a' → a' ≡ Asks_shown again → clause' ≡ back task → lent ≡ end
      → IfOk r (λ e. e ≡ Merge task.node task.lit ((lent ++ there ∷ []) ++ again ∷ []))
      → IfOk r (IsBuilt end)
  merged-built base base' log mid end lent left' left'' clause clause' a a' there again r asked shown is asked' shown' is' lend made =
      if_ok-same (IsBuilt end) (Merge task.node task.lit ((lent ++ there ∷ []) ++ again ∷ [])) r made (
        there ∷ again ∷ [],
        append_assoc lent (there ∷ []) (again ∷ []) ∙ ap (λ (l : List Step). l ++ there ∷ again ∷ []) lend,
        rw (shown-clause base log mid left' clause a there asked shown ∙ is, shown-clause base' mid end left'' clause' a' again asked' shown' ∙ is') refl,
      )
