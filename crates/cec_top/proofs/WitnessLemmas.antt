-- What stands of the witness of checks, and of their other files beside it.
use Rattle.std.proofs.Common.{◌≡◌, ◌≢◌, ℕ, ◌+◌, ◌<◌, ◌^◌, List, [], ◌∷◌, ◌++◌, length, Option, Some, None, refl, sym, ap, ◌∙◌, subst, arith}
use Rattle.std.specs.Prelude.{IfSome}
use Rattle.std.specs.List.{AllByRecursion}
use Rattle.desk_port.specs.Desk.{Files}
use Rattle.netlist.specs.Net.{AigPair}
use Rattle.check_session.specs.Finding.{Finding, Equivalent, Different, Undecided}
use Rattle.check_session.specs.Files.{cnf_name, proof_name}
use Rattle.command_line.specs.Saved.{IsLeftUnder}
use Rattle.cec_top.specs.Check.{Made}
use Rattle.cec_top.specs.Headline.{Told, HasFiles, LeavesBoth, LeavesUnder, witness_left}
use Rattle.cec_top.specs.Witness.{witness_behind, witness_text}
use Rattle.cec_top.proofs.SavingLemmas.{cnf-left, proof-left}
use Rattle.cec_top.proofs.ToldLemmas.{IsOther, both-other, left_all, leaves-under, shown_all, shown_in, tolds, under_by, with_witness}
use Rattle.cec_top.proofs.WrittenLemmas.{put-other, put-there}

-- ---- every other file

under-same : (out : Option (List ℕ)) (t : Told) (f g : Files) (q : List ℕ) → f q ≡ g q → under_by out t f q ≡ under_by out t g q
under-same None t f g q same = same
under-same (Some prefix) t f g q same = rw same refl

shown-other : (name : List ℕ) (net : AigPair) (found : Finding) (before : Files) (q : List ℕ) → q ≢ name → shown_in name net found before q ≡ before q
shown-other name net Equivalent before q other = refl
shown-other name net (Different j input) before q other = put-other name (witness_text net.a input) q before other
shown-other name net Undecided before q other = refl

-- is as the checks leave it without a witness
pub others-same : (out : Option (List ℕ)) (name : List ℕ) (ts : List Told) (f g : Files) (q : List ℕ) → q ≢ name → f q ≡ g q
    → shown_all out (Some name) ts f q ≡ left_all out ts g q
others-same out name [] f g q other same = same
others-same out name (t ∷ ts) f g q other same =
    others-same out name ts (with_witness (Some name) t (under_by out t f)) (under_by out t g) q other
    (shown-other name t.net t.finding (under_by out t f) q other ∙ under-same out t f g q same)

-- without one, all are
pub none-shown : (out : Option (List ℕ)) (ts : List Told) (before : Files) → shown_all out None ts before ≡ left_all out ts before
none-shown out [] before = refl
none-shown out (t ∷ ts) before = none-shown out ts (under_by out t before)

-- ---- the witness

-- the name is that of none of a check's files
abbrev IsNone : Option (List ℕ) → List ℕ → Told → Type 0
IsNone out name t = IfSome out (λ prefix. IsOther prefix name t)

under-none : (out : Option (List ℕ)) (t : Told) (before : Files) (name : List ℕ) → IsNone out name t → under_by out t before name ≡ before name
under-none None t before name other = refl
under-none (Some prefix) t before name other = both-other prefix t before name other

shown-there : (name : List ℕ) (net : AigPair) (found : Finding) (before : Files) → shown_in name net found before name ≡ witness_behind net.a found (before name)
shown-there name net Equivalent before = refl
shown-there name net (Different j input) before = put-there name (witness_text net.a input) before
shown-there name net Undecided before = refl

all-there : (out : Option (List ℕ)) (name : List ℕ) (ts : List Told) (before : Files) → AllByRecursion (IsNone out name) ts
    → shown_all out (Some name) ts before name ≡ witness_left ts (before name)
all-there out name [] before others = refl
all-there out name (t ∷ ts) before others =
    all-there out name ts (with_witness (Some name) t (under_by out t before)) others.1
    ∙ ap (witness_left ts)
    (shown-there name t.net t.finding (under_by out t before)
    ∙ ap (witness_behind t.net.a t.finding) (under-none out t before name others.0))

-- which is none of the files that are left
abbrev pub IsOutside : Option (List ℕ) → Option (List ℕ) → Type 0
IsOutside out witness = (prefix name : List ℕ) → out ≡ Some prefix → witness ≡ Some name → ¬ IsLeftUnder prefix name

none-outside : (out : Option (List ℕ)) (name : List ℕ) → IsOutside out (Some name) → (number : ℕ) (ms : List Made) → number + length ms < 2 ^ 64
    → AllByRecursion (IsNone out name) (tolds out number ms)
none-outside out name outside number [] small = tt
none-outside out name outside number (m ∷ ms) small =
    let below : number < 2 ^ 64 = omega (arith, small) in
    (first out outside below, none-outside out name outside (number + 1) ms (omega (arith, small)))
  where
    first : (o : Option (List ℕ)) → IsOutside o (Some name) → number < 2 ^ 64
        → IfSome o (λ prefix. (name ≢ cnf_name prefix number) × (name ≢ proof_name prefix number))
    first None outside below = tt
    first (Some prefix) outside below = (
      λ is. outside prefix name refl refl (subst (IsLeftUnder prefix) (sym is) (cnf-left prefix number below)),
      λ is. outside prefix name refl refl (subst (IsLeftUnder prefix) (sym is) (proof-left prefix number below)),
    )

-- so it stands behind checks
pub witness-there : (out : Option (List ℕ)) (name : List ℕ) → IsOutside out (Some name) → (ms : List Made) (before : Files) → length ms < 2 ^ 64
    → shown_all out (Some name) (tolds out 0 ms) before name ≡ witness_left (tolds out 0 ms) (before name)
witness-there out name outside ms before small =
    all-there out name (tolds out 0 ms) before (none-outside out name outside 0 ms (omega (arith, small)))

pub leaves-all : (out witness : Option (List ℕ)) → IsOutside out witness → (ms : List Made) (before : Files) → length ms < 2 ^ 64
    → LeavesBoth out witness (tolds out 0 ms) before (shown_all out witness (tolds out 0 ms) before)
leaves-all out None outside ms before small =
    subst (LeavesUnder out (tolds out 0 ms) before) (sym (none-shown out (tolds out 0 ms) before)) (leaves-under out ms before small)
leaves-all out (Some name) outside ms before small = record {
  without = left_all out (tolds out 0 ms) before;
  under = leaves-under out ms before small;
  there = witness-there out name outside ms before small;
  others = λ q other. others-same out name (tolds out 0 ms) before before q other refl;
}

-- ---- files of checks

-- beside it they stand as without it
module _ (out witness : Option (List ℕ)) (outside : IsOutside out witness) (prefix : List ℕ) (is : out ≡ Some prefix) (before after : Files)
    (same : (q : List ℕ) → ((name : List ℕ) → witness ≡ Some name → q ≢ name) → after q ≡ before q) where
  pub still-beside : (number : ℕ) (ms : List Made) → number + length ms < 2 ^ 64 → AllByRecursion (HasFiles prefix before) (tolds (Some prefix) number ms)
      → AllByRecursion (HasFiles prefix after) (tolds (Some prefix) number ms)
  still-beside number [] small each = tt
  still-beside number (m ∷ ms) small each =
      let below : number < 2 ^ 64 = omega (arith, small) in (
        (
          same (cnf_name prefix number)
              (λ name shown e. outside prefix name is shown (subst (IsLeftUnder prefix) e (cnf-left prefix number below))) ∙ each.0.0,
          same (proof_name prefix number)
              (λ name shown e. outside prefix name is shown (subst (IsLeftUnder prefix) e (proof-left prefix number below))) ∙ each.0.1,
        ),
        still-beside (number + 1) ms (omega (arith, small)) each.1,
      )

pub shown-same : (out witness : Option (List ℕ)) (ts : List Told) (before : Files) (q : List ℕ)
    → ((name : List ℕ) → witness ≡ Some name → q ≢ name) → shown_all out witness ts before q ≡ left_all out ts before q
shown-same out None ts before q other = ap (λ (f : Files). f q) (none-shown out ts before)
shown-same out (Some name) ts before q other = others-same out name ts before before q (other name refl) refl
