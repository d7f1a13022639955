-- One verdict at most is right.
use Rattle.std.proofs.Common.{◌≡◌, ℕ, true, false, List, [], ◌∷◌, ◌++◌, Option, Some, None, refl, sym, ◌∙◌, ap}
use Rattle.lits.specs.Dimacs.{DimacsLiteral}
use Rattle.unit_prop.specs.declared.why.BadStep.{BadStep}
use Rattle.lrat_text.specs.declared.step.Line.{Line}
use Rattle.lrat_text.specs.Derivation.{Live, formula_live, after_step, live_after, fault_over, DerivesFrom}
use Rattle.lrat_checker.specs.declared.verdict.Verdict.{Verdict}
use Rattle.lrat_checker.specs.declared.verdict.Verdict.TheVariants.{Refuted, NoEmpty, Bad}
use Rattle.lrat_checker.specs.Verdict.{FirstBad, IsVerdict}

-- the fault of a line, or what stands behind it
abbrev pub bad_or : Option BadStep → ℕ → Option Verdict → Option Verdict
bad_or None number rest = rest
bad_or (Some bad) number rest = Some (Bad number bad)

-- the first line that is no step, if there is one
abbrev pub first_bad : Live → List Line → Option Verdict
first_bad live [] = None
first_bad live (line ∷ lines) = bad_or (fault_over live line.step) line.at (first_bad (after_step live line.step) lines)

pub first_bad-none : (live : Live) (lines : List Line) → DerivesFrom live lines → first_bad live lines ≡ None
first_bad-none live [] derives = refl
first_bad-none live (line ∷ lines) derives = rw derives.0 (first_bad-none (after_step live line.step) lines derives.1)

first_bad-some : (live : Live) (before : List Line) (line : Line) (behind : List Line) (bad : BadStep) → DerivesFrom live before
    → fault_over (live_after live before) line.step ≡ Some bad → first_bad live (before ++ line ∷ behind) ≡ Some (Bad line.at bad)
first_bad-some live [] line behind bad derives fault = rw fault refl
first_bad-some live (l ∷ before) line behind bad derives fault =
    rw derives.0 (first_bad-some (after_step live l.step) before line behind bad derives.1 fault)

pub first_bad-is : (formula : List (List DimacsLiteral)) (lines : List Line) (number : ℕ) (bad : BadStep) → FirstBad formula lines number bad
    → first_bad (formula_live formula) lines ≡ Some (Bad number bad)
first_bad-is formula lines number bad f =
    ap (first_bad (formula_live formula)) f.whole
    ∙ first_bad-some (formula_live formula) f.before f.line f.behind bad f.derives f.fault
    ∙ ap (λ (n : ℕ). Some (Bad n bad)) f.numbered

pub verdict-unique : (formula : List (List DimacsLiteral)) (lines : List Line) (v w : Verdict) → IsVerdict formula lines v → IsVerdict formula lines w → v ≡ w
verdict-unique formula lines Refuted Refuted p q = refl
verdict-unique formula lines Refuted NoEmpty p q = let e : true ≡ false = sym p.empty ∙ q.no_empty in cc
verdict-unique formula lines Refuted (Bad n b) p q =
    let e : None ≡ Some (Bad n b) = sym (first_bad-none (formula_live formula) lines p.derives) ∙ first_bad-is formula lines n b q in cc
verdict-unique formula lines NoEmpty Refuted p q = let e : true ≡ false = sym q.empty ∙ p.no_empty in cc
verdict-unique formula lines NoEmpty NoEmpty p q = refl
verdict-unique formula lines NoEmpty (Bad n b) p q =
    let e : None ≡ Some (Bad n b) = sym (first_bad-none (formula_live formula) lines p.derives) ∙ first_bad-is formula lines n b q in cc
verdict-unique formula lines (Bad n b) Refuted p q =
    let e : None ≡ Some (Bad n b) = sym (first_bad-none (formula_live formula) lines q.derives) ∙ first_bad-is formula lines n b p in cc
verdict-unique formula lines (Bad n b) NoEmpty p q =
    let e : None ≡ Some (Bad n b) = sym (first_bad-none (formula_live formula) lines q.derives) ∙ first_bad-is formula lines n b p in cc
verdict-unique formula lines (Bad n b) (Bad m c) p q =
    let e : Some (Bad n b) ≡ Some (Bad m c) = sym (first_bad-is formula lines n b p) ∙ first_bad-is formula lines m c q in cc
