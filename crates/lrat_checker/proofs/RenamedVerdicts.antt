-- The verdict on formula and lines in other names is that on them in their own.
use Rattle.std.proofs.Common.{◌≡◌, ℕ, ◌-◌, Bool, true, false, ◌||◌, List, [], ◌∷◌, ◌++◌, map, Option, Some, None, eqb, refl, sym, ap, ap₂, ◌∙◌, subst, if◌then◌else◌}
use Rattle.std.specs.Option.{option_map}
use Rattle.std.specs.List.{list_any, slice_get}
use Rattle.std.proofs.lemmas.Option.{slice_get-map}
use Rattle.lits.specs.Dimacs.{DimacsLiteral}
use Rattle.unit_prop.specs.declared.why.BadStep.{BadStep}
use Rattle.lrat_text.specs.declared.step.Line.{Line}
use Rattle.lrat_text.specs.declared.step.LratStep.{LratStep}
use Rattle.lrat_text.specs.declared.step.LratStep.TheVariants.{Add, Del}
use Rattle.lrat_text.specs.Derivation.{Live, formula_live, after_step, live_after, fault_over, DerivesFrom, adds_empty}
use Rattle.lrat_checker.specs.declared.verdict.Verdict.{Verdict}
use Rattle.lrat_checker.specs.declared.verdict.Verdict.TheVariants.{Refuted, NoEmpty, Bad}
use Rattle.lrat_checker.specs.Verdict.{IsVerdict}
use Rattle.lrat_checker.specs.Renamed.{IsRenaming, AreRenamed, renamed_step, renamed_line}
use Rattle.lrat_checker.proofs.VerdictLemmas.{first_bad, bad_or, first_bad-none, first_bad-is}
use Rattle.lrat_checker.proofs.RenamedSteps.{first_fault-map}

-- no line is bad: the lines derive
derives-first_bad : (live : Live) (lines : List Line) → first_bad live lines ≡ None → DerivesFrom live lines
derives-first_bad live [] none = tt
derives-first_bad live (line ∷ lines) none = go (derives-first_bad (after_step live line.step) lines) (fault_over live line.step) refl
  where
    go : (first_bad (after_step live line.step) lines ≡ None → DerivesFrom (after_step live line.step) lines)
        → (o : Option BadStep) → fault_over live line.step ≡ o → DerivesFrom live (line ∷ lines)
    go rest None e = (e, rest (rw e at none))
    go rest (Some bad) e = let f : Some (Bad line.at bad) ≡ None = rw e at none in cc

-- the first bad line, and what stands before and behind it
record Found (live : Live) (lines : List Line) (number : ℕ) (bad : BadStep) : Type 0 where
  before : List Line
  line : Line
  behind : List Line
  whole : lines ≡ before ++ line ∷ behind
  derives : DerivesFrom live before
  fault : fault_over (live_after live before) line.step ≡ Some bad
  numbered : line.at ≡ number

found : (live : Live) (lines : List Line) (number : ℕ) (bad : BadStep) → first_bad live lines ≡ Some (Bad number bad) → Found live lines number bad
found live [] number bad is = cc
found live (line ∷ lines) number bad is = go (found (after_step live line.step) lines number bad) (fault_over live line.step) refl
  where
    go : (first_bad (after_step live line.step) lines ≡ Some (Bad number bad) → Found (after_step live line.step) lines number bad)
        → (o : Option BadStep) → fault_over live line.step ≡ o → Found live (line ∷ lines) number bad
    go rest None e =
        let r = rest (rw e at is) in
        record {
          before = line ∷ r.before;
          line = r.line;
          behind = r.behind;
          whole = ap (λ (ls : List Line). line ∷ ls) r.whole;
          derives = (e, r.derives);
          fault = r.fault;
          numbered = r.numbered;
        }
    go rest (Some b) e =
        let f : Some (Bad line.at b) ≡ Some (Bad number bad) = rw e at is in
        let same : b ≡ bad = cc in
        let at : line.at ≡ number = cc in
        record { before = []; line = line; behind = lines; whole = refl; derives = tt; fault = e ∙ ap Some same; numbered = at }

module _ {f : DimacsLiteral → DimacsLiteral} (renames : IsRenaming f) where
  -- the clauses that are live, renamed
  abbrev Renamed : Live → Live → Type 0
  Renamed live live' = (id : ℕ) → live' id ≡ option_map (map f) (live id)

  fault_over-map : (live live' : Live) → Renamed live live' → (step : LratStep) → fault_over live' (renamed_step f step) ≡ fault_over live step
  fault_over-map live live' same (Add id clause hints) = first_fault-map renames live live' same clause hints
  fault_over-map live live' same (Del ids) = refl

  after_step-map : (live live' : Live) → Renamed live live' → (step : LratStep) → Renamed (after_step live step) (after_step live' (renamed_step f step))
  after_step-map live live' same (Add id clause hints) name = go (eqb name id) refl
    where
      go : (b : Bool) → eqb name id ≡ b
          → (if eqb name id then Some (map f clause) else live' name) ≡ option_map (map f) (if eqb name id then Some clause else live name)
      go true e = rw e refl
      go false e = rw e (same name)
  after_step-map live live' same (Del ids) name = go (list_any (λ id. eqb id name) ids) refl
    where
      go : (b : Bool) → list_any (λ id. eqb id name) ids ≡ b
          → (if list_any (λ id. eqb id name) ids then None else live' name) ≡ option_map (map f) (if list_any (λ id. eqb id name) ids then None else live name)
      go true e = rw e refl
      go false e = rw e (same name)

  first_bad-map : (live live' : Live) → Renamed live live' → (lines : List Line) → first_bad live' (map (renamed_line f) lines) ≡ first_bad live lines
  first_bad-map live live' same [] = refl
  first_bad-map live live' same (line ∷ lines) =
      ap₂ (λ (o : Option BadStep) (rest : Option Verdict). bad_or o line.at rest) (fault_over-map live live' same line.step)
      (first_bad-map (after_step live line.step) (after_step live' (renamed_step f line.step)) (after_step-map live live' same line.step) lines)

  formula_live-map : (formula : List (List DimacsLiteral)) → Renamed (formula_live formula) (formula_live (map (map f) formula))
  formula_live-map formula id = go (eqb id 0) refl
    where
      go : (b : Bool) → eqb id 0 ≡ b
          → (if eqb id 0 then None else slice_get (map (map f) formula) (id - 1)) ≡ option_map (map f) (if eqb id 0 then None else slice_get formula (id - 1))
      go true e = rw e refl
      go false e = rw e (slice_get-map (map f) formula (id - 1))

  empty-map : (lines : List Line) → list_any (λ line. adds_empty line.step) (map (renamed_line f) lines) ≡ list_any (λ line. adds_empty line.step) lines
  empty-map [] = refl
  empty-map (line ∷ lines) = ap₂ (λ (a b : Bool). a || b) (same line.step) (empty-map lines)
    where
      same : (step : LratStep) → adds_empty (renamed_step f step) ≡ adds_empty step
      same (Add id [] hints) = refl
      same (Add id (l ∷ ls) hints) = refl
      same (Del ids) = refl

  module _ (formula : List (List DimacsLiteral)) (lines : List Line) where
    same_bad : first_bad (formula_live (map (map f) formula)) (map (renamed_line f) lines) ≡ first_bad (formula_live formula) lines
    same_bad = first_bad-map (formula_live formula) (formula_live (map (map f) formula)) (formula_live-map formula) lines

    derived : DerivesFrom (formula_live (map (map f) formula)) (map (renamed_line f) lines) → DerivesFrom (formula_live formula) lines
    derived d = derives-first_bad (formula_live formula) lines (sym same_bad ∙ first_bad-none (formula_live (map (map f) formula)) (map (renamed_line f) lines) d)

    verdict-map : (v : Verdict) → IsVerdict (map (map f) formula) (map (renamed_line f) lines) v → IsVerdict formula lines v
    verdict-map Refuted is = record { derives = derived is.derives; empty = sym (empty-map lines) ∙ is.empty }
    verdict-map NoEmpty is = record { derives = derived is.derives; no_empty = sym (empty-map lines) ∙ is.no_empty }
    verdict-map (Bad number bad) is =
        let r = found (formula_live formula) lines number bad (sym same_bad ∙ first_bad-is (map (map f) formula) (map (renamed_line f) lines) number bad is) in
        record {
          before = r.before;
          line = r.line;
          behind = r.behind;
          whole = r.whole;
          derives = r.derives;
          fault = r.fault;
          numbered = r.numbered;
        }

pub verdict-renamed : (formula : List (List DimacsLiteral)) (lines : List Line) (formula' : List (List DimacsLiteral)) (lines' : List Line)
    → AreRenamed formula lines formula' lines' → (v : Verdict) → IsVerdict formula' lines' v → IsVerdict formula lines v
verdict-renamed formula lines formula' lines' renamed v is =
    verdict-map renamed.renames formula lines v
    (subst (λ (ls : List Line). IsVerdict (map (map renamed.rename) formula) ls v) renamed.lines_are
    (subst (λ (clauses : List (List DimacsLiteral)). IsVerdict clauses lines' v) renamed.formula_is is))
