-- Lists of steps over the axioms of a net and the merges of some entries, written as additions, grow the miter.
use Rattle.std.proofs.Common.{◌≡◌, ℕ, ◌+◌, ◌-◌, ◌≤◌, true, Option, None, Some, List, [], ◌∷◌, ◌++◌, length, map, refl, sym, ap, ◌∙◌, subst, arith, length-append, append_assoc}
use Rattle.std.specs.Prelude.{slice_get, IsSome, option_map}
use Rattle.std.specs.List.{slice_index_or, AllByRecursion}
use Rattle.std.proofs.lemmas.List.{append-nil, map-append, length-map}
use Rattle.std.proofs.lemmas.Option.{none-some, same_Some, slice_get_within, slice_get-map}
use Rattle.lits.specs.declared.node.Side.{Side}
use Rattle.lits.specs.declared.node.Node.{Node}
use Rattle.lits.specs.declared.literal.Lit.{Lit}
use Rattle.lits.specs.declared.step.Ref.{Ref}
use Rattle.lits.specs.declared.step.Ref.TheVariants.{Axiom, Entry as Shown, Own, Bound}
use Rattle.lits.specs.declared.step.Step.{Step}
use Rattle.lits.specs.Dimacs.{DimacsLiteral}
use Rattle.netlist.specs.Net.{AigPair, IsNet, bound_of}
use Rattle.netlist.specs.Miter.{axiom_of, unit, variable_of, clauses_of, numbered, miter_of}
use Rattle.lits.specs.Same.{same_lit, opposite, same_dim, opposite_dim}
use Rattle.lits.proofs.Facts.{all-slice_get, all-append}
use Rattle.netlist.proofs.Facts.{slice_get-left, slice_get-right, bound-there, has-variable, variable-has, numbered-same}
use Rattle.unit_prop.specs.Step.{IsStep}
use Rattle.unit_prop.specs.Log.{with_own, InTurn, IsStepAfter, IsChain}
use Rattle.proof_stitch.proofs.RenameLemmas.{IsRenaming, step-renamed}
use Rattle.lemma_book.specs.declared.entry.Entry.{Entry}
use Rattle.lemma_book.specs.Good.{AreOver, merge_clause, out_clause}
use Rattle.lrat_text.specs.declared.step.LratStep.{LratStep}
use Rattle.lrat_text.specs.Writing.{IsInRange}
use Rattle.lrat_text.specs.Derivation.{formula_live}
use Rattle.proof_stitch.specs.Steps.{id_of, additions_from, additions}
use Rattle.proof_stitch.proofs.AxiomLemmas.{there, axiom-over, axiom-numbered, unit-numbered}
use Rattle.proof_stitch.proofs.GrowLemmas.{Formula, live-is, Grows}

-- the literal is over a node that has a CNF variable
abbrev pub IsThere : AigPair → Lit → Type 0
IsThere net l = there net l.node ≡ true

numbering : (net : AigPair) → IsRenaming same_lit opposite same_dim opposite_dim (numbered net) (IsThere net)
numbering net = record { same = λ x y. numbered-same net x y; flips = λ x. refl; closed = λ x h. h }

is_there : (net : AigPair) (l : Lit) → IsSome (variable_of net l.node) → IsThere net l
is_there net l some = go (variable_of net l.node) refl some
  where
    go : (o : Option ℕ) → variable_of net l.node ≡ o → IsSome o → IsThere net l
    go None e h = cc
    go (Some k) e h = variable-has net l.node k e

pub all_there : (net : AigPair) (c : List Lit) → AllByRecursion (λ l. IsSome (variable_of net l.node)) c → AllByRecursion (IsThere net) c
all_there net [] all = tt
all_there net (l ∷ ls) all = (is_there net l all.0, all_there net ls all.1)

-- the clause of a step by numbers
abbrev pub clause_of : AigPair → Step → List DimacsLiteral
clause_of net step = map (numbered net) step.clause

-- the clauses of lists of steps
abbrev pub clauses_in : AigPair → List (List Step) → Formula
clauses_in net [] = []
clauses_in net (steps ∷ lists) = map (clause_of net) steps ++ clauses_in net lists

-- the formula begins with the miter
pub record HasMiter (net : AigPair) (formula : Formula) : Type 0 where
  pub more : Formula
  pub is : formula ≡ miter_of net ++ more

-- the steps are over the net's nodes, and each is one over its axioms, the merges of the entries and the steps before it
pub record IsDerived (net : AigPair) (known : List Entry) (steps : List Step) : Type 0 where
  pub over : AreOver net steps
  pub chain : IsChain (out_clause net known) steps

-- the merges' clauses are live under the ids that `shown` says, whatever stands behind the formula
pub record AreLive (net : AigPair) (shown : List ℕ) (known : List Entry) (formula : Formula) : Type 0 where
  pub live : (i k : ℕ) (c : List Lit) → merge_clause known i k ≡ Some c → (more : Formula)
      → AllByRecursion (IsThere net) c
      × (formula_live (formula ++ more) (slice_index_or shown i 0 + k) ≡ Some (map (numbered net) c))

pub live-more : {net : AigPair} {shown : List ℕ} {known : List Entry} (formula more f : Formula) → f ≡ formula ++ more
    → AreLive net shown known formula → AreLive net shown known f
live-more {net} {shown} formula more f e lives = record {
  live = λ i k c g rest.
      let here = lives.live i k c g (more ++ rest) in (
        here.0,
        ap (λ (h : Formula). formula_live h (slice_index_or shown i 0 + k)) (ap (λ (h : Formula). h ++ rest) e ∙ append_assoc formula more rest) ∙ here.1,
      );
}

-- each literal that has a node with a variable is in the range of DIMACS
abbrev pub FitsDimacs : AigPair → Type 0
FitsDimacs net = (l : Lit) → IsThere net l → IsInRange (numbered net l)

-- the next id behind a list of steps
pub next-id : (net : AigPair) (formula : Formula) (steps : List Step) (f : Formula) (id : ℕ) → id ≡ length formula + 1
    → f ≡ formula ++ map (clause_of net) steps → id + length steps ≡ length f + 1
next-id net formula steps f id e g =
    let h : length f ≡ length (formula ++ map (clause_of net) steps) = ap length g in
    omega (arith, e, length-append formula (map (clause_of net) steps), length-map steps (clause_of net))

module _ (net : AigPair) (is : IsNet net) (fits : FitsDimacs net) (shown : List ℕ) (known : List Entry) where
  range : (c : List Lit) → AllByRecursion (IsThere net) c → AllByRecursion IsInRange (map (numbered net) c)
  range [] all = tt
  range (l ∷ ls) all = (fits l all.0, range ls all.1)

  -- a clause of the miter is live under its number
  number-live : (formula : Formula) → HasMiter net formula → (number : ℕ) → 1 ≤ number → (c : List Lit)
      → slice_get (clauses_of net) (number - 1) ≡ Some c → formula_live formula number ≡ Some (map (numbered net) c)
  number-live formula begins number least c at_clauses =
      let at : slice_get (miter_of net) (number - 1) ≡ Some (map (numbered net) c) =
      slice_get-map (λ (d : List Lit). map (numbered net) d) (clauses_of net) (number - 1) ∙ ap (option_map (λ (d : List Lit). map (numbered net) d)) at_clauses in
      live-is formula number least
      ∙ ap (λ (f : Formula). slice_get f (number - 1)) begins.is
      ∙ slice_get-left (miter_of net) begins.more (number - 1) (slice_get_within (miter_of net) (number - 1) (map (numbered net) c) at)
      ∙ at

  -- an axiom is live under its number
  axiom-live : (formula : Formula) → HasMiter net formula → (node : Node) (k : ℕ) (c : List Lit) → axiom_of net node k ≡ Some c
      → formula_live formula (id_of net shown 0 (Axiom node k)) ≡ Some (map (numbered net) c)
  axiom-live formula begins node k c e =
      let n = axiom-numbered net node k c e in
      rw n.is (number-live formula begins n.number n.least c n.at)

  -- a constraint's unit is live under its number
  bound-live : (formula : Formula) → HasMiter net formula → (side : Side) (k : ℕ) (l : Lit) → bound_of net side k ≡ Some l
      → formula_live formula (id_of net shown 0 (Bound side k)) ≡ Some (map (numbered net) (unit l))
  bound-live formula begins side k l e =
      let n = unit-numbered net side k l e in
      rw n.is (number-live formula begins n.number n.least (unit l) n.at)

  module _ (base : Formula) (begins : HasMiter net base) (lives : AreLive net shown known base) (steps : List Step)
      (derived : IsDerived net known steps) where
    -- with some steps behind it the formula begins with the miter still
    begun : (before : List Step) → HasMiter net (base ++ map (clause_of net) before)
    begun before = record {
      more = begins.more ++ map (clause_of net) before;
      is = ap (λ (f : Formula). f ++ map (clause_of net) before) begins.is ∙ append_assoc (miter_of net) begins.more (map (clause_of net) before);
    }

    -- what the names of a step find is live, by number
    finds : (before : List Step) → AreOver net before → (name : Ref) (c : List Lit) → with_own (out_clause net known) before name ≡ Some c
        → AllByRecursion (IsThere net) c
        × (formula_live (base ++ map (clause_of net) before) (id_of net shown (length base + 1) name) ≡ Some (map (numbered net) c))
    finds before over (Axiom node k) c e = (axiom-over net is node k c e, axiom-live (base ++ map (clause_of net) before) (begun before) node k c e)
    finds before over (Bound side k) c e = go (bound_of net side k) refl
      where
        go : (o : Option Lit) → bound_of net side k ≡ o → AllByRecursion (IsThere net) c
            × (formula_live (base ++ map (clause_of net) before) (id_of net shown 0 (Bound side k)) ≡ Some (map (numbered net) c))
        go None f = let g : None ≡ Some c = rw f at e in absurd (none-some c g)
        go (Some l) f =
            let g : unit l ≡ c = same_Some (unit l) c (rw f at e) in (
              subst (λ (d : List Lit). AllByRecursion (IsThere net) d) g (has-variable net l.node (bound-there net is side k l f), tt),
              bound-live (base ++ map (clause_of net) before) (begun before) side k l f ∙ ap (λ (d : List Lit). Some (map (numbered net) d)) g,
            )
    finds before over (Shown entry k) c e = lives.live entry k c e (map (clause_of net) before)
    finds before over (Own k) c e = go (slice_get before k) refl
      where
        go : (o : Option Step) → slice_get before k ≡ o → AllByRecursion (IsThere net) c
            × (formula_live (base ++ map (clause_of net) before) (length base + 1 + k) ≡ Some (map (numbered net) c))
        go None f = let g : None ≡ Some c = rw f at e in absurd (none-some c g)
        go (Some s) f =
            let g : s.clause ≡ c = same_Some s.clause c (rw f at e) in
            let at : length base + 1 + k - 1 ≡ length base + k = omega arith in (
              subst (λ (d : List Lit). AllByRecursion (IsThere net) d) g
                  (all_there net s.clause (all-slice_get (λ (t : Step). AllByRecursion (λ l. IsSome (variable_of net l.node)) t.clause) before k s over f)),
              live-is (base ++ map (clause_of net) before) (length base + 1 + k) (omega arith)
                  ∙ ap (slice_get (base ++ map (clause_of net) before)) at
                  ∙ slice_get-right base (map (clause_of net) before) k
                  ∙ slice_get-map (clause_of net) before k ∙ ap (option_map (clause_of net)) f ∙ ap (λ (d : List Lit). Some (map (numbered net) d)) g,
            )

    -- the steps behind some first ones are additions by which the formula grows
    grows-from : (before left : List Step) (rest : List LratStep) (id : ℕ) (formula : Formula) → id ≡ length base + 1 + length before
        → formula ≡ base ++ map (clause_of net) before → AreOver net before → AreOver net left → InTurn (IsStepAfter (out_clause net known)) before left
        → ((f : Formula) → f ≡ base ++ map (clause_of net) (before ++ left) → Grows f rest)
        → Grows formula (additions_from net shown (length base + 1) id left ++ rest)
    grows-from before [] rest id formula e f over left_over chain cont =
        cont formula (f ∙ ap (λ (l : List Step). base ++ map (clause_of net) l) (sym (append-nil before)))
    grows-from before (s ∷ ss) rest id formula e f over left_over chain cont = (
      record {
        id_is = id_is;
        step = subst (λ (g : Formula). IsStep same_dim opposite_dim (formula_live g) (clause_of net s) (map (id_of net shown (length base + 1)) s.hints)) (sym f) step;
        range = range s.clause (all_there net s.clause left_over.0);
      },
      grows-from (before ++ s ∷ []) ss rest (id + 1) (formula ++ clause_of net s ∷ []) next grown
          (all-append (λ (t : Step). AllByRecursion (λ l. IsSome (variable_of net l.node)) t.clause) before (s ∷ []) over (left_over.0, tt))
          left_over.1 chain.1
          (λ g h. cont g (h ∙ ap (λ (l : List Step). base ++ map (clause_of net) l) (append_assoc before (s ∷ []) ss))),
    )
      where
        step : IsStep same_dim opposite_dim (formula_live (base ++ map (clause_of net) before)) (clause_of net s) (map (id_of net shown (length base + 1)) s.hints)
        step =
            step-renamed (numbering net) (id_of net shown (length base + 1)) (with_own (out_clause net known) before)
            (formula_live (base ++ map (clause_of net) before)) (finds before over) s.clause s.hints (all_there net s.clause left_over.0) chain.0

        id_is : id ≡ length formula + 1
        id_is =
            let g : length formula ≡ length (base ++ map (clause_of net) before) = ap length f in
            omega (arith, e, length-append base (map (clause_of net) before), length-map before (clause_of net))

        next : id + 1 ≡ length base + 1 + length (before ++ s ∷ [])
        next = omega (arith, e, length-append before (s ∷ []))

        grown : formula ++ clause_of net s ∷ [] ≡ base ++ map (clause_of net) (before ++ s ∷ [])
        grown =
            ap (λ (g : Formula). g ++ clause_of net s ∷ []) f
            ∙ append_assoc base (map (clause_of net) before) (clause_of net s ∷ [])
            ∙ ap (λ (g : Formula). base ++ g) (sym (map-append (clause_of net) before (s ∷ [])))

    -- all steps
    pub grows-steps : (rest : List LratStep) (id : ℕ) → id ≡ length base + 1
        → ((f : Formula) → f ≡ base ++ map (clause_of net) steps → Grows f rest) → Grows base (additions_from net shown id id steps ++ rest)
    grows-steps rest id e cont =
        subst (λ (n : ℕ). Grows base (additions_from net shown n n steps ++ rest)) (sym e)
        (grows-from [] steps rest (length base + 1) base (omega arith) (sym (append-nil base)) tt derived.over derived.chain cont)

  -- the formula behind a list of steps
  pub begins-more : (formula : Formula) (steps : List Step) (f : Formula) → f ≡ formula ++ map (clause_of net) steps → HasMiter net formula → HasMiter net f
  begins-more formula steps f g begins = record {
    more = begins.more ++ map (clause_of net) steps;
    is = g ∙ ap (λ (h : Formula). h ++ map (clause_of net) steps) begins.is ∙ append_assoc (miter_of net) begins.more (map (clause_of net) steps);
  }

  -- and the steps of some lists, one behind the other
  pub grows-lists : (lists : List (List Step)) (formula : Formula) → HasMiter net formula → AreLive net shown known formula
      → (rest : List LratStep) (id : ℕ) → id ≡ length formula + 1 → AllByRecursion (IsDerived net known) lists
      → ((f : Formula) → f ≡ formula ++ clauses_in net lists → Grows f rest) → Grows formula (additions net shown id lists ++ rest)
  grows-lists [] formula begins lives rest id e derived cont = cont formula (sym (append-nil formula))
  grows-lists (steps ∷ lists) formula begins lives rest id e derived cont =
      subst (λ (l : List LratStep). Grows formula l)
      (sym (append_assoc (additions_from net shown id id steps) (additions net shown (id + length steps) lists) rest))
      (grows-steps formula begins lives steps derived.0 (additions net shown (id + length steps) lists ++ rest) id e
      (λ f g. grows-lists lists f (begins-more formula steps f g begins) (live-more formula (map (clause_of net) steps) f g lives)
      rest (id + length steps) (next-id net formula steps f id e g) derived.1
      (λ h k. cont h (k ∙ ap (λ (l : Formula). l ++ clauses_in net lists) g ∙ append_assoc formula (map (clause_of net) steps) (clauses_in net lists)))))
