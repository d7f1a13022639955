-- How a check goes on from its files to its verdict.
use Rattle.std.proofs.Common.{◌≡◌, ℕ, inl, inr, List, [], ◌∷◌, ◌++◌, Ok, Err, Result, refl, sym, ap, ◌∙◌, subst}
use Rattle.desk_port.specs.Desk.{DeskState}
use Rattle.endings.specs.declared.stop.Stop.{Stop}
use Rattle.endings.specs.declared.stop.Stop.TheVariants.{OutOfMemory}
use Rattle.endings.specs.Writing.{Output, Says, Leaves, StopsAmong, after_file, after_files}
use Rattle.netlist.specs.Net.{AigPair}
use Rattle.lemma_book.specs.declared.entry.Entry.{Entry}
use Rattle.proof_stitch.specs.declared.logs.Span.{Span}
use Rattle.proof_stitch.specs.Derivation.{spans_of}
use Rattle.check_session.specs.declared.verdict.Verdict.{Verdict}
use Rattle.check_session.specs.declared.verdict.Verdict.TheVariants as verdict
use Rattle.check_session.specs.Finding.{Finding, Equivalent, Different, Undecided, open_outputs}
use Rattle.check_session.specs.Outputs.{ListsOpen, finding_of}
use Rattle.check_session.specs.Files.{AreSpansIn}
use Rattle.cec_top.specs.Texts.{open_text, open_text_with}
use Rattle.cec_top.specs.Check.{Made, left_of, outputs_of, text_of, text_of_check, witness_in}
use Rattle.std.specs.Global.{Vec}
use Rattle.cec_top.proofs.WrittenLemmas.{after-append}
use Rattle.cec_top.specs.Steps.{WritesOutputs, LeavesText, SaysStatus, Wanted, opens_in}

-- memory runs out behind all files
pub runs-out : (os : List Output) (old new : DeskState) → new ≡ after_files old os
    → (any : List ℕ) → Leaves os any old new (Err OutOfMemory)
runs-out [] old new at any = at
runs-out (o ∷ os) old new at any = inr (runs-out os (after_file old o) new at any)

-- one of them isn't written whole, whatever was to be said
pub stops-among : (os : List Output) (old new : DeskState) (stop : Stop) → StopsAmong os old new stop
    → (any : List ℕ) → Leaves os any old new (Err stop)
stops-among [] old new stop p any = absurd p
stops-among (o ∷ os) old new stop (inl p) any = inl p
stops-among (o ∷ os) old new stop (inr p) any = inr (stops-among os (after_file old o) new stop p any)

-- what is said behind the files
pub says-behind : (os : List Output) (text : List ℕ) (old mid new : DeskState) (result : Result (Unit {0}) Stop) → mid ≡ after_files old os
    → Says text mid new result → Leaves os text old new result
says-behind [] text old mid new result at p = subst (λ (s : DeskState). Says text s new result) at p
says-behind (o ∷ os) text old mid new (Ok u) at p = says-behind os text (after_file old o) mid new (Ok u) at p
says-behind (o ∷ os) text old mid new (Err stop) at p = inr (says-behind os text (after_file old o) mid new (Err stop) at p)

-- ---- files, and behind them others

-- memory runs out behind the first ones
runs-between : (os ps : List Output) (old new : DeskState) → new ≡ after_files old os
    → (any : List ℕ) → Leaves (os ++ ps) any old new (Err OutOfMemory)
runs-between [] [] old new at any = at
runs-between [] (p ∷ ps) old new at any = inl (inl at)
runs-between (o ∷ os) ps old new at any = inr (runs-between os ps (after_file old o) new at any)

-- one of them isn't written whole
stops-first : (os ps : List Output) (old new : DeskState) (stop : Stop) → StopsAmong os old new stop → StopsAmong (os ++ ps) old new stop
stops-first [] ps old new stop p = absurd p
stops-first (o ∷ os) ps old new stop (inl p) = inl p
stops-first (o ∷ os) ps old new stop (inr p) = inr (stops-first os ps (after_file old o) new stop p)

-- or one of the others isn't
stops-behind : (os ps : List Output) (old new : DeskState) (stop : Stop) → StopsAmong ps (after_files old os) new stop → StopsAmong (os ++ ps) old new stop
stops-behind [] ps old new stop p = p
stops-behind (o ∷ os) ps old new stop p = inr (stops-behind os ps (after_file old o) new stop p)

module _ (w : Wanted) (number : ℕ) (m : Made) (old mid new : DeskState) where
  abbrev files : List Output
  files = outputs_of w.out number m

  abbrev shown : List Output
  shown = witness_in w.witness m.net m.finding

  abbrev text : List ℕ
  text = text_of_check w.out m

  -- the files aren't left, or memory runs out behind them
  pub not-left : (stop : Stop) → LeavesText files text old new (Err stop) → SaysStatus w number m old new (Err stop)
  not-left stop (inl p) = stops-among (files ++ shown) old new stop (stops-first files shown old new stop p) text
  not-left stop (inr p) =
      subst (λ (s : Stop). SaysStatus w number m old new (Err s)) (sym p.0) (runs-between files shown old new p.1 text)

  module _ (v : Vec ℕ) (left : LeavesText files text old mid (Ok v)) where
    -- they are, but the witness isn't
    pub not-shown : (stop : Stop) → WritesOutputs shown mid new (Err stop) → SaysStatus w number m old new (Err stop)
    not-shown stop p =
        stops-among (files ++ shown) old new stop
        (stops-behind files shown old new stop (subst (λ (s : DeskState). StopsAmong shown s new stop) left.0 p)) text

    -- it is too, and the verdict is said, or not
    pub is-said : (behind : DeskState) → WritesOutputs shown mid behind (Ok tt) → (said : List ℕ) → said ≡ v.items → (r : Result (Unit {0}) Stop)
        → Says said behind new r → Leaves (left_of w.out w.witness number m) text old new r
    is-said behind p said said_is r says =
        says-behind (files ++ shown) text old behind new r
        (p ∙ ap (λ (s : DeskState). after_files s shown) left.0 ∙ sym (after-append files shown old))
        (subst (λ (x : List ℕ). Says x behind new r) (said_is ∙ left.1) says)

-- a verdict names the outputs that are open
pub plain-text : (net : AigPair) (entries : List Entry) (v : Verdict) → ListsOpen net entries v
    → text_of (finding_of v) (open_text (opens_in v)) ≡ text_of (finding_of v) (open_text (open_outputs net entries))
plain-text net entries verdict.Equivalent lists = refl
plain-text net entries (verdict.Different output input) lists = refl
plain-text net entries (verdict.Undecided outputs) lists = ap open_text lists

-- and with its files the lines of their logs
pub lines-text : (net : AigPair) (entries : List Entry) (f : Finding) (spans : List Span) → AreSpansIn net entries f spans
    → text_of f (open_text_with spans) ≡ text_of f (open_text_with (spans_of net entries))
lines-text net entries Equivalent spans are = refl
lines-text net entries (Different output input) spans are = refl
lines-text net entries Undecided spans are = ap open_text_with are
