-- What the first bad step and the first clause that isn't new make of an entry.
use Rattle.std.proofs.Common.{◌≡◌, ℕ, ◌<◌, List, [], ◌∷◌, take, length, Option, None, Some, Result, Ok, Err, IfOk, IfErr, OnErr, inl, refl, sym, ◌∙◌, subst, arith}
use Rattle.std.specs.Option.{IsSome}
use Rattle.std.proofs.lemmas.Option.{none-some}
use Rattle.lits.specs.declared.node.Node.{Node}
use Rattle.lits.specs.declared.node.Node.TheVariants.{Xor}
use Rattle.lits.specs.declared.literal.Lit.{Lit}
use Rattle.lits.specs.declared.step.Ref.{Ref}
use Rattle.lits.specs.declared.step.Step.{Step}
use Rattle.lits.specs.declared.step.Named.{Named}
use Rattle.netlist.specs.Net.{AigPair}
use Rattle.netlist.specs.Miter.{positive, variable_of}
use Rattle.unit_prop.specs.declared.why.BadStep.{BadStep}
use Rattle.unit_prop.specs.Log.{base_clause}
use Rattle.lemma_book.specs.declared.entry.Entry.{Entry}
use Rattle.lemma_book.specs.declared.entry.Entry.TheVariants.{Merge, Spent, Out, OutSpent}
use Rattle.lemma_book.specs.declared.refused.Fault.TheVariants as fault
use Rattle.lemma_book.specs.declared.refused.Refused.{Refused}
use Rattle.lemma_book.specs.declared.refused.Refused.TheVariants.{NoMemory}
use Rattle.lemma_book.specs.declared.refused.Refused.TheVariants as refused
use Rattle.lemma_book.specs.declared.refused.Judgement.{Judgement}
use Rattle.lemma_book.specs.declared.refused.Judgement.TheVariants as judged
use Rattle.std.specs.declared.alloc.AllocError.{AllocError}
use Rattle.lemma_book.specs.declared.refused.Offered.{Offered}
use Rattle.lemma_book.specs.declared.refused.Offered.TheVariants.{At}
use Rattle.lemma_book.specs.Entry.{Entries, Question, OfPair, OfOutput, with_last}
use Rattle.lemma_book.specs.Book.{IsLegal}
use Rattle.lemma_book.specs.Cone.{IsCone, IsOutputCone, IsConeOf}
use Rattle.lemma_book.specs.Good.{NoNode, NoStep, node_clause, out_clause, IsStepAt, IsNewAt, IsUndecidedAt, OfQuery, IsGood}
use Rattle.lemma_book.specs.Fault.{IsFreeBefore, FailsAt, IsFault, IsSettled, IsJudgement, IsRefusal, Takes}
use Rattle.lemma_book.specs.Judging.{IsFirstBad, IsFirstPlace, IsFresh, standing_of}
use Rattle.lemma_book.proofs.OutputCones.{cone_of-one}
use Rattle.lemma_book.proofs.MergedNodes.{placed-there}
use Rattle.lemma_book.proofs.LongerBooks.{legal-last}
use Rattle.lemma_book.proofs.CauseOrder.{first-step, first-new, good-all}

fails-stands : (find : Ref → Option (List Lit)) (steps : List Step) (k : ℕ) (bad : BadStep) → FailsAt find steps k bad → ¬ IsStepAt find steps k
fails-stands find steps k bad fails is = none-some bad (sym (is fails.step fails.place) ∙ fails.fails)

module _ (net : AigPair) (book : Entries) where
  pub merge-bad : (node : Node) (lit : Lit) (steps : List Step) (k : ℕ) (bad : BadStep) → IsFreeBefore net book (Merge node lit steps) (NoStep 0)
      → IsFirstBad (node_clause net book.entries) steps (Some (k, bad)) → IsFault net book (Merge node lit steps) (fault.Step k bad)
  merge-bad node lit steps k bad free first =
      (first-step net book (Merge node lit steps) free k first.0 (fails-stands (node_clause net book.entries) steps k bad first.1), first.1)

  pub merge-good : (node : Node) (lit : Lit) (steps : List Step) → IsFreeBefore net book (Merge node lit steps) (NoStep 0)
      → IsFirstBad (node_clause net book.entries) steps None → IsGood net book (Merge node lit steps)
  merge-good node lit steps free first = good-all net book (Merge node lit steps) free first (λ j. tt)

  pub out-bad : (j : ℕ) (steps : List Step) (k : ℕ) (bad : BadStep) → IsFreeBefore net book (Out j steps) (NoStep 0)
      → IsFirstBad (out_clause net book.entries) steps (Some (k, bad)) → IsFault net book (Out j steps) (fault.Step k bad)
  out-bad j steps k bad free first =
      (first-step net book (Out j steps) free k first.0 (fails-stands (out_clause net book.entries) steps k bad first.1), first.1)

  pub out-good : (j : ℕ) (steps : List Step) → IsFreeBefore net book (Out j steps) (NoStep 0)
      → IsFirstBad (out_clause net book.entries) steps None → IsGood net book (Out j steps)
  out-good j steps free first = good-all net book (Out j steps) free first (λ k. tt)

  module _ (seen : ℕ) (q : Question) (cone : List Named) (is_cone : IsConeOf net (take seen book.entries) q cone) where
    of : (P : List Named → Type 0) → P cone → OfQuery net (take seen book.entries) q P
    of P holds = record { cone = cone; is_cone = is_cone; holds = holds }

    not-of : (P : List Named → Type 0) → ¬ P cone → ¬ OfQuery net (take seen book.entries) q P
    not-of P never o = never (subst P (cone_of-one net (take seen book.entries) q o.cone cone o.is_cone is_cone) o.holds)

  module _ (node : Node) (lit : Lit) (seen : ℕ) (log : List Step) (free : IsFreeBefore net book (Spent node lit seen log) (NoStep 0))
      (cone : List Named) (is_cone : IsCone net (take seen book.entries) (node ∷ lit.node ∷ []) cone) where
    pub spent-bad : (k : ℕ) (bad : BadStep) → IsFirstBad (base_clause cone) log (Some (k, bad)) → IsFault net book (Spent node lit seen log) (fault.Step k bad)
    spent-bad k bad first = (
      first-step net book (Spent node lit seen log) free k
          (λ j less. of seen (OfPair node lit) cone is_cone (λ c. IsStepAt (base_clause c) log j) (first.0 j less))
          (not-of seen (OfPair node lit) cone is_cone (λ c. IsStepAt (base_clause c) log k) (fails-stands (base_clause cone) log k bad first.1)),
      of seen (OfPair node lit) cone is_cone (λ c. FailsAt (base_clause c) log k bad) first.1,
    )

    pub spent-stale : (k : ℕ) → IsFirstBad (base_clause cone) log None → IsFirstPlace (IsFresh cone None log) (Some k)
        → IsFault net book (Spent node lit seen log) (fault.NotNew k)
    spent-stale k steps first =
        first-new net book (Spent node lit seen log) free k
        (λ j. of seen (OfPair node lit) cone is_cone (λ c. IsStepAt (base_clause c) log j) (steps j))
        (λ j less. of seen (OfPair node lit) cone is_cone (λ c. IsNewAt c log j) (first.0 j less).new)
        (not-of seen (OfPair node lit) cone is_cone (λ c. IsNewAt c log k) (λ new. first.1 (record { new = new; undecided = λ s at. tt })))

    pub spent-good : IsFirstBad (base_clause cone) log None → IsFirstPlace (IsFresh cone None log) None → IsGood net book (Spent node lit seen log)
    spent-good steps news =
        good-all net book (Spent node lit seen log) free
        (λ j. of seen (OfPair node lit) cone is_cone (λ c. IsStepAt (base_clause c) log j) (steps j))
        (λ j. of seen (OfPair node lit) cone is_cone (λ c. IsNewAt c log j) (news j).new)

  module _ (j seen : ℕ) (log : List Step) (free : IsFreeBefore net book (OutSpent j seen log) (NoStep 0))
      (cone : List Named) (is_cone : IsOutputCone net (take seen book.entries) j cone) where
    pub out_spent-bad : (k : ℕ) (bad : BadStep) → IsFirstBad (base_clause cone) log (Some (k, bad)) → IsFault net book (OutSpent j seen log) (fault.Step k bad)
    out_spent-bad k bad first = (
      first-step net book (OutSpent j seen log) free k
          (λ i less. of seen (OfOutput j) cone is_cone (λ c. IsStepAt (base_clause c) log i) (first.0 i less))
          (not-of seen (OfOutput j) cone is_cone (λ c. IsStepAt (base_clause c) log k) (fails-stands (base_clause cone) log k bad first.1)),
      of seen (OfOutput j) cone is_cone (λ c. FailsAt (base_clause c) log k bad) first.1,
    )

    pub out_spent-stale : (k : ℕ) → IsFirstBad (base_clause cone) log None → IsFirstPlace (IsFresh cone (Some (positive (Xor j))) log) (Some k)
        → IsFault net book (OutSpent j seen log) (fault.NotNew k)
    out_spent-stale k steps first =
        first-new net book (OutSpent j seen log) free k
        (λ i. of seen (OfOutput j) cone is_cone (λ c. IsStepAt (base_clause c) log i) (steps i))
        (λ i less. of seen (OfOutput j) cone is_cone (λ c. IsNewAt c log i × IsUndecidedAt c j log i) ((first.0 i less).new, (first.0 i less).undecided))
        (not-of seen (OfOutput j) cone is_cone (λ c. IsNewAt c log k × IsUndecidedAt c j log k) (λ both. first.1 (record { new = both.0; undecided = both.1 })))

    pub out_spent-good : IsFirstBad (base_clause cone) log None → IsFirstPlace (IsFresh cone (Some (positive (Xor j))) log) None
        → IsGood net book (OutSpent j seen log)
    out_spent-good steps news =
        good-all net book (OutSpent j seen log) free
        (λ i. of seen (OfOutput j) cone is_cone (λ c. IsStepAt (base_clause c) log i) (steps i))
        (λ i. of seen (OfOutput j) cone is_cone (λ c. IsNewAt c log i × IsUndecidedAt c j log i) ((news i).new, (news i).undecided))

-- the nodes of what is judged have CNF variables, and its output is there
pub pair-there : (net : AigPair) (book : Entries) (node : Node) (lit : Lit) (seen : ℕ) (log : List Step)
    → IsFreeBefore net book (Spent node lit seen log) (NoStep 0) → IsSome (variable_of net node) × IsSome (variable_of net lit.node)
pair-there net book node lit seen log free =
    let there = free NoNode (inl (omega arith)) in
    (placed-there net node there.0.0, placed-there net lit.node there.0.1)

pub output-below : (net : AigPair) (book : Entries) (j seen : ℕ) (log : List Step) → IsFreeBefore net book (OutSpent j seen log) (NoStep 0)
    → j < length net.a.outputs
output-below net book j seen log free = let there = free NoNode (inl (omega arith)) in there.0

-- a book that took a good entry, or stayed as it was
pub legal-taken : (net : AigPair) (old new : Entries) (e : Entry) (r : Result Offered (Entry × Refused)) → IsLegal net old → IsGood net old e
    → IfOk r (λ o. (o ≡ At (length old.entries)) × (new ≡ with_last old e)) → OnErr r (new ≡ old) → IsLegal net new
legal-taken net old new e (Ok o) legal good taken same = subst (IsLegal net) (sym taken.1) (legal-last net old e legal good)
legal-taken net old new e (Err x) legal good taken same = subst (IsLegal net) (sym same) legal

-- a good entry that is the last one is taken
pub last-taken : (net : AigPair) (old new : Entries) (e : Entry) (r : Result Offered (Entry × Refused)) → IsGood net old e
    → IfOk r (λ o. (o ≡ At (length old.entries)) × (new ≡ with_last old e)) → IfOk r (Takes net old e new)
last-taken net old new e (Ok o) good taken = subst (Takes net old e new) (sym taken.0) (good, refl, taken.1)
last-taken net old new e (Err x) good taken = tt

-- an entry that comes back for want of memory
pub given-back : (net : AigPair) (old : Entries) (e : Entry) (r : Result Offered (Entry × Refused)) → IfErr r (λ x. (x.0 ≡ e) × (x.1 ≡ NoMemory))
    → IfErr r (λ x. (x.0 ≡ e) × IsRefusal net old e x.1)
given-back net old e (Ok o) back = tt
given-back net old e (Err x) back = (back.0, subst (IsRefusal net old e) (sym back.1) tt)

-- what an entry's judgement comes to
module _ (net : AigPair) (book : Entries) (e : Entry) where
  pub standing-good : (r : Result Judgement AllocError) → IfOk r (IsJudgement net book e) → standing_of r ≡ Ok None → IsGood net book e
  standing-good (Ok judged.Good) is told = is
  standing-good (Ok (judged.Settled i)) is told = cc
  standing-good (Ok judged.NotApart) is told = cc
  standing-good (Ok (judged.Bad f)) is told = cc
  standing-good (Err x) is told = cc

  pub standing-settled : (r : Result Judgement AllocError) (place : ℕ) → IfOk r (IsJudgement net book e) → standing_of r ≡ Ok (Some place)
      → IsSettled net book e place
  standing-settled (Ok judged.Good) place is told = cc
  standing-settled (Ok (judged.Settled i)) place is told = let same : i ≡ place = cc in subst (IsSettled net book e) same is
  standing-settled (Ok judged.NotApart) place is told = cc
  standing-settled (Ok (judged.Bad f)) place is told = cc
  standing-settled (Err x) place is told = cc

  pub standing-refused : (r : Result Judgement AllocError) (x : Refused) → IfOk r (IsJudgement net book e) → standing_of r ≡ Err x → IsRefusal net book e x
  standing-refused (Ok judged.Good) x is told = cc
  standing-refused (Ok (judged.Settled i)) x is told = cc
  standing-refused (Ok judged.NotApart) x is told = let same : refused.NotApart ≡ x = cc in subst (IsRefusal net book e) same is
  standing-refused (Ok (judged.Bad f)) x is told = let same : refused.Bad f ≡ x = cc in subst (IsRefusal net book e) same is
  standing-refused (Err y) x is told = let same : NoMemory ≡ x = cc in subst (IsRefusal net book e) same tt
