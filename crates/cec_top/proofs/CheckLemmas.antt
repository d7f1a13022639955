-- How one check answers, from what was found and told.
use Rattle.std.proofs.Common.{◌≡◌, ℕ, List, [], ◌∷◌, ◌++◌, length, Bool, Option, Some, Ok, Err, refl, sym, ap, ap₂, ◌∙◌, subst}
use Rattle.std.specs.Prelude.{Result, IfSome}
use Rattle.desk_port.specs.Desk.{DeskState}
use Rattle.netlist.specs.Net.{AigPair}
use Rattle.endings.specs.declared.status.Status.{Status}
use Rattle.endings.specs.declared.stop.Stop.{Stop}
use Rattle.endings.specs.declared.stop.Stop.TheVariants.{OutOfMemory}
use Rattle.lemma_book.specs.Entry.{Entries}
use Rattle.proof_stitch.specs.declared.stitch_err.StitchErr.{StitchErr}
use Rattle.proof_stitch.specs.declared.logs.Span.{Span}
use Rattle.check_session.specs.declared.options.Options.{Options}
use Rattle.check_session.specs.declared.verdict.Verdict.{Verdict}
use Rattle.check_session.specs.Finding.{Finding, Finds}
use Rattle.check_session.specs.Outputs.{finding_of}
use Rattle.check_session.specs.Begun.{Begun}
use Rattle.check_session.specs.Check.{State, IsFound}
use Rattle.netlist_edits.specs.declared.edit.Edit.{Edit}
use Rattle.check_session.specs.Files.{files_of, LeavesAll, WritesFiles, TellsLines, TellsSpans, AreSpansIn, proof_lines}
use Rattle.cec_top.specs.declared.kept.Kept.{Kept}
use Rattle.cec_top.specs.Script.{Due, due_behind}
use Rattle.cec_top.specs.Check.{Made, IsMade, IsProof, due_of, kept_of, lines_of}
use Rattle.cec_top.specs.Progress.{WarnsProgress}
use Rattle.cec_top.specs.Stats.{Reports}
use Rattle.cec_top.proofs.WarnedLemmas.{progress-none}
use Rattle.cec_top.specs.Steps.{NotMade, SaysStatus, Settles, ToldWhole, ToldInPart, Wanted, due_in, how_in, made_in}

-- ---- one check

-- a check that was found is right, whatever files it leaves
pub is-made : (due : Due) (t : State) (begun : Begun) (v : Verdict) → IsFound t.net t.options begun t.pool t.book v
    → ((f : Finding) → Finds t.net t.book.entries f → IsProof t.net t.book.entries f)
    → (wanted : Wanted) → IsMade (how_in t wanted) (made_in due t v)
is-made due t begun v found proves wanted = record {
  settled = found.settled;
  proof = proves (finding_of v) found.settled.finds;
}

-- what shows the proofs of one book over one pair shows them of the same
pub proofs-of : (net one : AigPair) (book same : Entries) → one ≡ net → same ≡ book
    → ((f : Finding) → Finds one same.entries f → IsProof one same.entries f)
    → (f : Finding) → Finds net book.entries f → IsProof net book.entries f
proofs-of net one book same net_is book_is proves =
    subst (λ (b : Entries). (f : Finding) → Finds net b.entries f → IsProof net b.entries f) book_is
    (subst (λ (n : AigPair). (f : Finding) → Finds n same.entries f → IsProof n same.entries f) net_is proves)

-- what would be checked behind a check
pub due-now : (s t : State) → t.net ≡ s.net → t.edits ≡ [] → due_in t ≡ due_behind s.net
due-now s t net none = ap₂ (λ (n : AigPair) (es : List Edit). let d : Due = record { net = n; edits = es } in d) net none

-- a check of the session as it is
module _ (s t : State) (wanted : Wanted) (number : ℕ) (v : Verdict) (settles : Settles s t v) where
  abbrev check_made : Made
  check_made = made_in (due_in s) t v

  made : IsMade (how_in s wanted) check_made
  made = subst (λ (o : Options). IsMade (record { options = o; out = wanted.out; witness = wanted.witness; stats = wanted.stats; progress = wanted.progress }) check_made) settles.options_are
      (settles.is_made wanted)

  due-is : due_of check_made ≡ due_in s
  due-is = ap (λ (n : AigPair). record { net = n; edits = s.edits }) settles.net_is

  module _ (old new : DeskState) (before after : List Kept) where
    -- it is told whole, and its status is its own
    pub told-whole : (begun mid : DeskState) (status : Status) → after ≡ before → WarnsProgress wanted.progress old begun
        → SaysStatus wanted number check_made begun mid (Ok status)
        → Reports wanted.stats check_made.net check_made.book.entries (lines_of wanted.out check_made) mid new → ToldWhole (how_in s wanted) number s t old new before after status
    told-whole begun mid status keeps warns p reports = record {
      made = check_made;
      due_is = due-is;
      begins = settles.begins;
      told = (new, made, (begun, mid, warns, p.0, reports), refl);
      status_is = p.1;
      keeps = keeps;
      holds = record { last_is = settles.last_is ∙ sym settles.net_is; book_is = refl };
      behind = settles.due_is ∙ ap due_behind (sym settles.net_is);
      options_are = settles.options_are;
    }

    -- or in part, and its book is kept
    pub told-in-part : (begun : DeskState) (stop : Stop) → after ≡ before ++ kept_of number check_made ∷ []
        → WarnsProgress wanted.progress old begun → SaysStatus wanted number check_made begun new (Err stop)
        → ToldInPart (how_in s wanted) number s old new before after stop
    told-in-part begun stop keeps warns p = record {
      half = check_made;
      due_is = due-is;
      begins = settles.begins;
      is_made = made;
      breaks = (begun, warns, p);
      keeps = keeps;
    }

-- memory ran out before the check was begun
pub not-begun : (progress : Bool) (s : DeskState) (before after : List Kept) → after ≡ before → NotMade progress s s before after OutOfMemory
not-begun progress s before after keeps = record { out = refl; warns = progress-none progress s; keeps = keeps }

-- behind a check that found something
module _ (t : State) (v : Verdict) (found_is : t.found ≡ Some (finding_of v)) where
  -- the session leaves the files of that
  pub leaves : {A : Type 0} (number : ℕ) (prefix : List ℕ) (old new : DeskState) (r : Result A StitchErr)
      → WritesFiles t prefix number old new r
      → LeavesAll (files_of prefix number t.net t.book.entries (finding_of v)) old new r
  leaves number prefix old new r p =
      let Left : Finding → Type 0 = λ f. LeavesAll (files_of prefix number t.net t.book.entries f) old new r in
      subst (λ (o : Option Finding). IfSome o Left) found_is p

  -- and tells where its logs stand
  pub logs-at : (spans : List Span) → TellsSpans t spans → AreSpansIn t.net t.book.entries (finding_of v) spans
  logs-at spans p =
      subst (λ (o : Option Finding). IfSome o (λ f. AreSpansIn t.net t.book.entries f spans)) found_is p

  -- and how many lines the proof has
  pub lines-are : (n : ℕ) → TellsLines t n → n ≡ length (proof_lines t.net t.book.entries (finding_of v))
  lines-are n p =
      subst (λ (o : Option Finding). IfSome o (λ f. n ≡ length (proof_lines t.net t.book.entries f))) found_is p
