-- A proof that can be checked comes to a verdict, where the desk has no fault and memory suffices.
use Rattle.std.proofs.Common.{◌≡◌, ℕ, ◌<◌, inl, inr, List, [], ◌∷◌, length, Option, Some, None, refl, sym, ap, ◌∙◌, subst, arith}
use Rattle.std.specs.Prelude.{◌⊎◌, IfSome, IsSomeAnd}
use Rattle.std.proofs.lemmas.Option.{none-some, same_Some}
use Rattle.desk_port.specs.Desk.{DeskState, Files, Rose, HasMore, after_read}
use Rattle.dimacs_text.specs.Reading.{formula_in}
use Rattle.lrat_text.specs.Reading.{steps_in}
use Rattle.endings.specs.declared.status.Status.{Status}
use Rattle.endings.specs.declared.status.Status.TheVariants as ends
use Rattle.endings.specs.declared.stop.Stop.{Stop}
use Rattle.endings.specs.declared.stop.Stop.TheVariants.{CannotRead, TooLong, BadFile, NotAlike, CannotWrite, OutOfMemory}
use Rattle.endings.specs.Reading.{Input, FileIs, StopsAt, ReadsUpTo, after_reads, limit}
use Rattle.endings.specs.Stops.{EndsBy}
use Rattle.endings.specs.Status.{code_of}
use Rattle.lrat_run.specs.Files.{cnf_fault, proof_fault, clauses_of, clauses_in, cnf_input, proof_input, inputs_of}
use Rattle.lrat_run.specs.Texts.{verdict_line}
use Rattle.lrat_run.specs.Answers.{AnswersLrat, Stops}
use Rattle.command_line.specs.Words.{LratCommand, Request, CheckIt, FraigIt, LratIt, SelfIt, Asks, WantInfo, AreRefused}
use Rattle.cec_top.specs.declared.kept.Kept.{Kept}
use Rattle.cec_top.specs.Answers.{Answers}
use Rattle.cec_top.specs.Complete.{NoFault, IsWithinLimit, CanVerify, HasJudged, HasVerdict}
use Rattle.cec_top.proofs.CompleteLemmas.{IsExcused, excused-read, too-long, leaves-stops, excused-verdict, at-once}
use Rattle.cec_top.proofs.HeadlineLemmas.{ends-code}
use Rattle.cec_top.proofs.WordsLemmas.{lrat_or, same_request}

-- a status that isn't that of a verdict is that of want of memory, where no other is left
memory-alone : (status : Status) → HasVerdict status → 3 < code_of status → HasJudged status
memory-alone status (inl below) above = absurd (omega (arith, below, above))
memory-alone status (inr memory) above = inr memory

-- bytes of a file that is there
there : (P : List ℕ → Type 0) (o : Option (List ℕ)) → IsSomeAnd o P → (bytes : List ℕ) → o ≡ Some bytes → P bytes
there P None p bytes e = absurd p
there P (Some b) p bytes e = subst P (same_Some b bytes e) p

-- a file whose bytes have no fault stops a command for a fault of the desk alone
module _ (s : DeskState) (files : Files) (told : s.files ≡ Some files) (i : Input) (earlier : List (List ℕ)) (within : IsWithinLimit files i.name)
    (none : (bytes : List ℕ) → FileIs s i.name bytes → i.fault earlier bytes ≡ None) where
  stops-input : (k : ℕ) (t : DeskState) (stop : Stop) → StopsAt k i earlier s t stop → (stop ≡ OutOfMemory) ⊎ Rose s.read_faults t.read_faults
  stops-input k t (CannotRead j) p = inr p.1.rose
  stops-input k t (TooLong j) p =
      absurd (too-long (files i.name) (subst (λ (o : Option Files). IfSome o (λ f. HasMore f i.name limit)) told p.1) within)
  stops-input k t (BadFile j text) p = absurd (none-some _ (sym (none p.1.0 p.1.1) ∙ p.1.2))
  stops-input k t OutOfMemory p = inl refl
  stops-input k t (NotAlike text) p = absurd p
  stops-input k t CannotWrite p = absurd p

module _ (c : LratCommand) (old : DeskState) (can : CanVerify c old) where
  bytes-of : (s : DeskState) → s.files ≡ Some can.files → (name bytes : List ℕ) → FileIs s name bytes → can.files name ≡ Some bytes
  bytes-of s told name bytes is = subst (λ (o : Option Files). IfSome o (λ f. f name ≡ Some bytes)) told is.0

  no-cnf-fault : (bytes : List ℕ) → FileIs old c.cnf bytes → cnf_fault (formula_in bytes) ≡ None
  no-cnf-fault bytes is = ap cnf_fault (there _ (can.files c.cnf) can.spells_formula bytes (bytes-of old can.told c.cnf bytes is))

  clauses-are : (bytes : List ℕ) → FileIs old c.cnf bytes → clauses_in (bytes ∷ []) ≡ length can.formula.clauses
  clauses-are bytes is = ap clauses_of (there _ (can.files c.cnf) can.spells_formula bytes (bytes-of old can.told c.cnf bytes is))

  no-proof-fault : (cnf : List ℕ) → FileIs old c.cnf cnf → (bytes : List ℕ) → FileIs (after_read old c.cnf) c.proof bytes
      → proof_fault (steps_in (clauses_in (cnf ∷ [])) bytes) ≡ None
  no-proof-fault cnf first bytes is =
      ap (λ (m : ℕ). proof_fault (steps_in m bytes)) (clauses-are cnf first)
      ∙ ap proof_fault (there _ (can.files c.proof) can.spells_lines bytes (bytes-of (after_read old c.cnf) can.told c.proof bytes is))

  stops-lrat : (new : DeskState) (stop : Stop) → Stops c.cnf c.proof old new stop → IsExcused old new stop
  stops-lrat new stop (inl (inl p)) =
      excused-read old new stop (stops-input old can.files can.told (cnf_input c.cnf) [] can.cnf no-cnf-fault 0 new stop p)
  stops-lrat new stop (inl (inr p)) = second p.3
    where
      second : ReadsUpTo 1 (p.0 ∷ []) (proof_input c.proof ∷ []) (after_read old c.cnf) new stop → IsExcused old new stop
      second (inl q) =
          excused-read old new stop (stops-input (after_read old c.cnf) can.files can.told (proof_input c.proof) (p.0 ∷ []) can.proof (no-proof-fault p.0 p.1) 1 new stop q)
      second (inr q) = absurd q.3
  stops-lrat new stop (inr p) = told (leaves-stops [] (verdict_line p.verdict) (after_reads old (inputs_of c.cnf c.proof)) new stop p.leaves)
    where
      told : (stop ≡ OutOfMemory) ⊎ Rose old.write_faults new.write_faults → IsExcused old new stop
      told (inl e) = inl e
      told (inr r) = inr (inr r)

  ends-lrat : (new : DeskState) (status : Status) → NoFault old new → EndsBy (c.cnf ∷ c.proof ∷ []) (Stops c.cnf c.proof old) new status → HasJudged status
  ends-lrat new status none p =
      memory-alone status (excused-verdict _ old p.mid new p.stop status none p.warns (stops-lrat p.mid p.stop p.cause)) (ends-code _ _ new status p)

  pub lrat-complete : (new : DeskState) (status : Status) → NoFault old new → AnswersLrat c.cnf c.proof old new status → HasJudged status
  lrat-complete new ends.Done none p = inl (omega arith)
  lrat-complete new ends.No none p = inl (omega arith)
  lrat-complete new ends.Undecided none p = absurd p
  lrat-complete new ends.BadUsage none p = absurd p
  lrat-complete new ends.BadInput none p = ends-lrat new ends.BadInput none p
  lrat-complete new ends.CannotRead none p = ends-lrat new ends.CannotRead none p
  lrat-complete new ends.CannotWrite none p = ends-lrat new ends.CannotWrite none p
  lrat-complete new ends.OutOfMemory none p = ends-lrat new ends.OutOfMemory none p

module _ (words : List (List ℕ)) (old new : DeskState) (status : Status) (kept : List Kept)
    (asked : (words : List (List ℕ)) (r : Request) → Asks words r → ¬ (WantInfo words ⊎ AreRefused words))
    (answers : Answers words old new status kept) where
  pub complete-lrat : (c : LratCommand) → Asks words (LratIt c) → CanVerify c old → NoFault old new → HasJudged status
  complete-lrat c asks can none = elim answers [
    | inl p ↦ let t : CheckIt p.command ≡ LratIt c = same_request words (CheckIt p.command) (LratIt c) p.asked asks in cc
    | inr (inl p) ↦
        let same : p.command ≡ c = ap (lrat_or c) (same_request words (LratIt p.command) (LratIt c) p.asked asks) in
        lrat-complete c old can new status none (subst (λ (d : LratCommand). AnswersLrat d.cnf d.proof old new status) same p.answers)
    | inr (inr (inl p)) ↦ let t : SelfIt p.command ≡ LratIt c = same_request words (SelfIt p.command) (LratIt c) p.asked asks in cc
    | inr (inr (inr (inl p))) ↦ let t : FraigIt p.command ≡ LratIt c = same_request words (FraigIt p.command) (LratIt c) p.asked asks in cc
    | inr (inr (inr (inr (inl p)))) ↦ absurd (asked words (LratIt c) asks (inl p.wanted))
    | inr (inr (inr (inr (inr (inl p))))) ↦ absurd (asked words (LratIt c) asks (inr p.refused))
    | inr (inr (inr (inr (inr (inr p))))) ↦
        memory-alone status (at-once old new status p.ends.stop p.ends.mid p.ends.cause p.ends.warns) (ends-code _ _ new status p.ends)
  ]
