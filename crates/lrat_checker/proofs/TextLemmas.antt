-- The lines of a text, judged as they are read.
use Rattle.std.proofs.Common.{◌≡◌, ℕ, ◌||◌, Bool, true, false, List, [], ◌∷◌, ◌++◌, Some, None, Result, Ok, Err, length, refl, sym, ap, ◌∙◌, subst, if◌then◌else◌}
use Rattle.std.specs.Prelude.{IfOk}
use Rattle.std.specs.List.{list_any}
use Rattle.lits.specs.Assignment.{IsSatisfiable}
use Rattle.lits.specs.Same.{opposite_dim}
use Rattle.lits.specs.Dimacs.{DimacsLiteral}
use Rattle.unit_prop.specs.declared.why.BadStep.{BadStep}
use Rattle.lrat_text.specs.declared.error.LratErr.{LratErr}
use Rattle.lrat_text.specs.declared.step.Line.{Line}
use Rattle.lrat_text.specs.Reading.{steps_in, Gives}
use Rattle.lrat_text.specs.Lines.{in_front, HasForm}
use Rattle.lrat_text.specs.Derivation.{Live, formula_live, after_step, live_after, fault_over, Derives, adds_empty, Refutes}
use Rattle.lrat_text.proofs.Facts.{with_front, front-nothing, front-more, front-all, front-rest, front-fault, derives-push, live_after-push}
use Rattle.lrat_checker.specs.declared.verdict.Verdict.{Verdict}
use Rattle.lrat_checker.specs.declared.verdict.Verdict.TheVariants.{Refuted, NoEmpty, Bad}
use Rattle.lrat_checker.specs.Verdict.{IsVerdict}
use Rattle.lrat_checker.specs.Text.{IsVerdictOfText, JudgesText}
use Rattle.lrat_checker.proofs.LiveLemmas.{fault_over-same, after_step-same, empty-push}

-- the lines that were read are steps, and these clauses are live behind them
pub record AreJudged (formula : List (List DimacsLiteral)) (text : List ℕ) (left : Result (List Line) LratErr) (live : Live) (has_empty : Bool) : Type 0 where
  pub front : List Line
  pub reads : steps_in (length formula) text ≡ with_front front left
  pub derives : Derives formula front
  pub live_is : (id : ℕ) → live id ≡ live_after (formula_live formula) front id
  pub empty_is : has_empty ≡ list_any (λ line. adds_empty line.step) front

module _ (formula : List (List DimacsLiteral)) (text : List ℕ) (left : Result (List Line) LratErr) (live : Live) where
  -- no line was read
  pub judged-nothing : (m : ℕ) → m ≡ length formula → left ≡ steps_in m text → ((id : ℕ) → live id ≡ formula_live formula id)
      → AreJudged formula text left live false
  judged-nothing m count whole start = record {
    front = [];
    reads = ap (λ (n : ℕ). steps_in n text) (sym count) ∙ sym whole ∙ front-nothing left;
    derives = tt;
    live_is = start;
    empty_is = refl;
  }

  module _ (has_empty : Bool) (so_far : AreJudged formula text left live has_empty) where
    behind : Live
    behind = live_after (formula_live formula) so_far.front

    same_fault : (line : Line) → fault_over live line.step ≡ fault_over behind line.step
    unfolding behind
    same_fault line = fault_over-same live behind so_far.live_is line.step

    -- a fault of form
    pub judged-fault : (d : LratErr) → Gives (Err d) left → Gives (Err d) (steps_in (length formula) text)
    judged-fault d gives = front-fault so_far.front (steps_in (length formula) text) left d so_far.reads gives

    -- all lines were read
    judged-all : left ≡ Ok [] → IsVerdictOfText formula text (if has_empty then Refuted else NoEmpty)
    judged-all end = record {
      lines = so_far.front;
      spells = so_far.reads ∙ ap (with_front so_far.front) end ∙ front-all so_far.front;
      right = go has_empty so_far.empty_is;
    }
      where
        go : (has : Bool) → has ≡ list_any (λ line. adds_empty line.step) so_far.front → IsVerdict formula so_far.front (if has then Refuted else NoEmpty)
        go true is = record { derives = so_far.derives; empty = sym is }
        go false is = record { derives = so_far.derives; no_empty = sym is }

    -- and this is what is said then
    pub judged-end : (verdict : Verdict) (b : Bool) → has_empty ≡ b → verdict ≡ (if b then Refuted else NoEmpty) → left ≡ Ok []
        → IsVerdictOfText formula text verdict
    judged-end verdict b has is end =
        rw is (subst (λ (c : Bool). IsVerdictOfText formula text (if c then Refuted else NoEmpty)) has (judged-all end))

    -- the next line
    module _ (line : Line) (rest : Result (List Line) LratErr) (next : left ≡ in_front line rest) where
      reads_more : steps_in (length formula) text ≡ with_front (so_far.front ++ line ∷ []) rest
      reads_more = so_far.reads ∙ ap (with_front so_far.front) next ∙ front-more so_far.front line rest

      -- is a step
      pub judged-more : (after : Live) (is : Bool) → fault_over live line.step ≡ None → ((id : ℕ) → after id ≡ after_step live line.step id)
          → is ≡ adds_empty line.step → AreJudged formula text rest after (has_empty || is)
      unfolding behind
      judged-more after is none moved empty = record {
        front = so_far.front ++ line ∷ [];
        reads = reads_more;
        derives = derives-push (formula_live formula) so_far.front line so_far.derives (sym (same_fault line) ∙ none);
        live_is = λ id. moved id ∙ after_step-same live behind so_far.live_is line.step id
            ∙ ap (λ (f : Live). f id) (sym (live_after-push (formula_live formula) so_far.front line));
        empty_is = empty-push so_far.front line has_empty is so_far.empty_is empty;
      }

      -- is none, and has others of form behind it
      pub judged-bad : (bad : BadStep) → fault_over live line.step ≡ Some bad → HasForm rest → IsVerdictOfText formula text (Bad line.at bad)
      unfolding behind
      judged-bad bad fault form = go rest next form
        where
          go : (read : Result (List Line) LratErr) → left ≡ in_front line read → HasForm read → IsVerdictOfText formula text (Bad line.at bad)
          go (Err d) e has = absurd has
          go (Ok more) e has = record {
            lines = so_far.front ++ line ∷ more;
            spells = so_far.reads ∙ ap (with_front so_far.front) e ∙ front-rest so_far.front (line ∷ more);
            right = record {
              before = so_far.front;
              line = line;
              behind = more;
              whole = refl;
              derives = so_far.derives;
              fault = sym (same_fault line) ∙ fault;
              numbered = refl;
            };
          }

      -- a fault of form behind it
      pub judged-fault_behind : (d : LratErr) → Gives (Err d) rest → Gives (Err d) (steps_in (length formula) text)
      judged-fault_behind d gives = front-fault (so_far.front ++ line ∷ []) (steps_in (length formula) text) rest d reads_more gives

-- a text that refutes a formula leaves no assignment
pub refuted-text : (formula : List (List DimacsLiteral)) (text : List ℕ) (answer : Result Verdict LratErr) → JudgesText formula text answer
    → ((f : List (List DimacsLiteral)) (lines : List Line) → Refutes f lines → ¬ IsSatisfiable opposite_dim f)
    → IfOk answer (λ v. v ≡ Refuted → ¬ IsSatisfiable opposite_dim formula)
refuted-text formula text (Ok v) is law = λ e. law formula is.lines (subst (IsVerdict formula is.lines) e is.right)
refuted-text formula text (Err d) is law = tt
