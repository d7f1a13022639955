-- What the program answers to arguments that ask for a check, of files or of its own, or for the check of a proof.
use Rattle.std.proofs.Common.{◌≡◌, ℕ, ◌<◌, inl, inr, false, List, [], Some, Option, refl, sym, ap, ◌∙◌, subst, arith}
use Rattle.std.specs.Prelude.{◌⊎◌, IfSome, IsSomeAnd, codes, option_map, ◌++◌}
use Rattle.std.proofs.lemmas.Option.{same_Some}
use Rattle.desk_port.specs.Desk.{Files, DeskState}
use Rattle.endings.specs.declared.status.Status.{Status}
use Rattle.endings.specs.declared.status.Status.TheVariants as ends
use Rattle.endings.specs.Status.{code_of}
use Rattle.endings.specs.declared.stop.Stop.{Stop}
use Rattle.endings.specs.Stops.{EndsBy, Warns, status_of, stop_line}
use Rattle.lrat_run.specs.Answers.{AnswersLrat}
use Rattle.endings.specs.Reading.{FileIs}
use Rattle.command_line.specs.Words.{CheckCommand, FraigCommand, LratCommand, SelfCommand, Request, CheckIt, FraigIt, LratIt, SelfIt, Asks, WantInfo, AreRefused, Outcome, Requested, Misuses}
use Rattle.cec_top.specs.declared.kept.Kept.{Kept}
use Rattle.cec_top.specs.Headline.{IsVerified, Shows}
use Rattle.cec_top.specs.Answers.{Answers, AnswersCheck, IsAtOnce, KnowsNothing}
use Rattle.cec_top.specs.SelfCheck.{AnswersSelf}
use Rattle.cec_top.specs.Fraig.{AnswersFraig}
use Rattle.cec_top.proofs.HeadlineLemmas.{ends-code}

abbrev request_or : Request → Outcome → Request
request_or d (Requested r) = r
request_or d (Misuses misuse) = d

-- words ask for one thing at most
pub same_request : (words : List (List ℕ)) (x y : Request) → Asks words x → Asks words y → x ≡ y
same_request words x y p q = ap (request_or x) (same_Some (Requested x) (Requested y) (sym p ∙ q))

-- the command of a request, where it asks for a check
abbrev pub check_or : CheckCommand → Request → CheckCommand
check_or d (CheckIt c) = c
check_or d (FraigIt c) = d
check_or d (LratIt c) = d
check_or d (SelfIt c) = d

abbrev pub lrat_or : LratCommand → Request → LratCommand
lrat_or d (CheckIt c) = d
lrat_or d (FraigIt c) = d
lrat_or d (LratIt c) = c
lrat_or d (SelfIt c) = d

abbrev pub self_or : SelfCommand → Request → SelfCommand
self_or d (CheckIt c) = d
self_or d (FraigIt c) = d
self_or d (LratIt c) = d
self_or d (SelfIt c) = c

abbrev pub fraig_or : FraigCommand → Request → FraigCommand
fraig_or d (CheckIt c) = d
fraig_or d (FraigIt c) = c
fraig_or d (LratIt c) = d
fraig_or d (SelfIt c) = d

-- what ends before it is known what the words ask for ends for want of memory
pub once-code : (old new : DeskState) (status : Status) → EndsBy [] (IsAtOnce old) new status → code_of status ≡ 7
once-code old new status p = go p.warns
  where
    go : Warns (stop_line [] p.stop) (status_of p.stop) p.mid new status → code_of status ≡ 7
    go (inl w) = ap code_of w.0 ∙ ap (λ (s : Stop). code_of (status_of s)) p.cause.0
    go (inr w) = ap code_of w.0

module _ (words : List (List ℕ)) (old new : DeskState) (status : Status) (kept : List Kept)
    (asked : (words : List (List ℕ)) (r : Request) → Asks words r → ¬ (WantInfo words ⊎ AreRefused words))
    (answers : Answers words old new status kept) where
  pub answers-check : (c : CheckCommand) → Asks words (CheckIt c) → code_of status < 7 → AnswersCheck c old new status kept
  answers-check c asks below = elim answers [
    | inl p ↦
        let same : p.command ≡ c = ap (check_or c) (same_request words (CheckIt p.command) (CheckIt c) p.asked asks) in
        subst (λ (d : CheckCommand). AnswersCheck d old new status kept) same p.answers
    | inr (inl p) ↦ let t : LratIt p.command ≡ CheckIt c = same_request words (LratIt p.command) (CheckIt c) p.asked asks in cc
    | inr (inr (inl p)) ↦ let t : SelfIt p.command ≡ CheckIt c = same_request words (SelfIt p.command) (CheckIt c) p.asked asks in cc
    | inr (inr (inr (inl p))) ↦ let t : FraigIt p.command ≡ CheckIt c = same_request words (FraigIt p.command) (CheckIt c) p.asked asks in cc
    | inr (inr (inr (inr (inl p)))) ↦ absurd (asked words (CheckIt c) asks (inl p.wanted))
    | inr (inr (inr (inr (inr (inl p))))) ↦ absurd (asked words (CheckIt c) asks (inr p.refused))
    | inr (inr (inr (inr (inr (inr p))))) ↦ absurd (omega (arith, below, once-code old new status p.ends))
  ]

  pub answers-lrat : (c : LratCommand) → Asks words (LratIt c) → code_of status < 4 → AnswersLrat c.cnf c.proof old new status
  answers-lrat c asks below = elim answers [
    | inl p ↦ let t : CheckIt p.command ≡ LratIt c = same_request words (CheckIt p.command) (LratIt c) p.asked asks in cc
    | inr (inl p) ↦
        let same : p.command ≡ c = ap (lrat_or c) (same_request words (LratIt p.command) (LratIt c) p.asked asks) in
        subst (λ (d : LratCommand). AnswersLrat d.cnf d.proof old new status) same p.answers
    | inr (inr (inl p)) ↦ let t : SelfIt p.command ≡ LratIt c = same_request words (SelfIt p.command) (LratIt c) p.asked asks in cc
    | inr (inr (inr (inl p))) ↦ let t : FraigIt p.command ≡ LratIt c = same_request words (FraigIt p.command) (LratIt c) p.asked asks in cc
    | inr (inr (inr (inr (inl p)))) ↦ absurd (asked words (LratIt c) asks (inl p.wanted))
    | inr (inr (inr (inr (inr (inl p))))) ↦ absurd (asked words (LratIt c) asks (inr p.refused))
    | inr (inr (inr (inr (inr (inr p))))) ↦ absurd (omega (arith, below, ends-code _ _ new status p.ends))
  ]

-- the same of arguments that ask for a check of circuits that the program makes, whatever the status
pub answers-self : (words : List (List ℕ)) (old new : DeskState) (status : Status) (kept : List Kept)
    → ((words : List (List ℕ)) (r : Request) → Asks words r → ¬ (WantInfo words ⊎ AreRefused words))
    → Answers words old new status kept → (c : SelfCommand) → Asks words (SelfIt c)
    → AnswersSelf c old new status kept ⊎ EndsBy [] (IsAtOnce old) new status
answers-self words old new status kept asked answers c asks = elim answers [
  | inl p ↦ let t : CheckIt p.command ≡ SelfIt c = same_request words (CheckIt p.command) (SelfIt c) p.asked asks in cc
  | inr (inl p) ↦ let t : LratIt p.command ≡ SelfIt c = same_request words (LratIt p.command) (SelfIt c) p.asked asks in cc
  | inr (inr (inl p)) ↦
      let same : p.command ≡ c = ap (self_or c) (same_request words (SelfIt p.command) (SelfIt c) p.asked asks) in
      inl (subst (λ (d : SelfCommand). AnswersSelf d old new status kept) same p.answers)
  | inr (inr (inr (inl p))) ↦ let t : FraigIt p.command ≡ SelfIt c = same_request words (FraigIt p.command) (SelfIt c) p.asked asks in cc
  | inr (inr (inr (inr (inl p)))) ↦ absurd (asked words (SelfIt c) asks (inl p.wanted))
  | inr (inr (inr (inr (inr (inl p))))) ↦ absurd (asked words (SelfIt c) asks (inr p.refused))
  | inr (inr (inr (inr (inr (inr p))))) ↦ inr p.ends
]

-- and of arguments that ask for a reduced circuit
pub answers-fraig : (words : List (List ℕ)) (old new : DeskState) (status : Status) (kept : List Kept)
    → ((words : List (List ℕ)) (r : Request) → Asks words r → ¬ (WantInfo words ⊎ AreRefused words))
    → Answers words old new status kept → (c : FraigCommand) → Asks words (FraigIt c)
    → AnswersFraig c old new status kept ⊎ KnowsNothing old new status kept
answers-fraig words old new status kept asked answers c asks = elim answers [
  | inl p ↦ let t : CheckIt p.command ≡ FraigIt c = same_request words (CheckIt p.command) (FraigIt c) p.asked asks in cc
  | inr (inl p) ↦ let t : LratIt p.command ≡ FraigIt c = same_request words (LratIt p.command) (FraigIt c) p.asked asks in cc
  | inr (inr (inl p)) ↦ let t : SelfIt p.command ≡ FraigIt c = same_request words (SelfIt p.command) (FraigIt c) p.asked asks in cc
  | inr (inr (inr (inl p))) ↦
      let same : p.command ≡ c = ap (fraig_or c) (same_request words (FraigIt p.command) (FraigIt c) p.asked asks) in
      inl (subst (λ (d : FraigCommand). AnswersFraig d old new status kept) same p.answers)
  | inr (inr (inr (inr (inl p)))) ↦ absurd (asked words (FraigIt c) asks (inl p.wanted))
  | inr (inr (inr (inr (inr (inl p))))) ↦ absurd (asked words (FraigIt c) asks (inr p.refused))
  | inr (inr (inr (inr (inr (inr p))))) ↦ inr p
]

-- the named file holds bytes of which the fact holds
file-has : (s : DeskState) (files : Files) → s.files ≡ Some files → (name bytes : List ℕ) (P : List ℕ → Type 0) → FileIs s name bytes → P bytes
    → IsSomeAnd (files name) P
file-has s files told name bytes P is holds =
    let there : files name ≡ Some bytes = subst (λ (o : Option Files). IfSome o (λ f. f name ≡ Some bytes)) told is.0 in
    subst (λ (o : Option (List ℕ)). IsSomeAnd o P) (sym there) holds

pub verified : (c : LratCommand) (old new : DeskState) (status : Status) → AnswersLrat c.cnf c.proof old new status → code_of status ≡ 0
    → Shows false false (IsVerified c) old new
verified c old new ends.Done p code before earlier told heard = record {
  after = before;
  said = codes "VERIFIED\n";
  left = ap (λ (s : DeskState). s.files) p.says ∙ told;
  heard = ap (λ (s : DeskState). s.said) p.says ∙ ap (option_map (λ x. x ++ codes "VERIFIED\n")) heard;
  quiet = (ap (λ (s : DeskState). s.warned) p.says, ap (λ (s : DeskState). s.warn_faults) p.says);
  closed = λ none. ap (λ (s : DeskState). s.started) p.says ∙ none;
  promise = record {
    formula = p.judged.formula;
    lines = p.judged.lines;
    spells_formula = file-has old before told c.cnf p.judged.cnf_bytes _ p.judged.cnf_is p.judged.spells_formula;
    spells_lines = file-has old before told c.proof p.judged.proof_bytes _ p.judged.proof_is p.judged.spells_lines;
    refutes = p.judged.right;
    unsatisfiable = p.unsatisfiable;
    says = refl;
    files = refl;
  };
}
verified c old new ends.No p code before earlier told heard = cc
verified c old new ends.Undecided p code before earlier told heard = cc
verified c old new ends.BadUsage p code before earlier told heard = cc
verified c old new ends.BadInput p code before earlier told heard = cc
verified c old new ends.CannotRead p code before earlier told heard = cc
verified c old new ends.CannotWrite p code before earlier told heard = cc
verified c old new ends.OutOfMemory p code before earlier told heard = cc
