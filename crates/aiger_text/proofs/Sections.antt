-- The lines of inputs, of outputs, of constraints and of gates, one behind the other.
use Rattle.std.proofs.Common.{◌≡◌, ℕ, ◌+◌, ◌*◌, ◌<◌, ◌≤◌, true, false, List, [], ◌∷◌, ◌++◌, length, Ok, refl, sym, ap, ◌∙◌, subst, append_assoc, append-nil}
use Rattle.std.proofs.lemmas.List.{map-append}
use Rattle.std.specs.Prelude.{◌==◌}
use Rattle.std.specs.List.{flat_map, AllByRecursion}
use Rattle.byte_scan.specs.Scanning.{Place, ahead}
use Rattle.lits.specs.Clause.{has, no_repeat}
use Rattle.netlist.specs.declared.gate.And.{And}
use Rattle.netlist.specs.Circuit.{Aig, no_parts, gate_vars}
use Rattle.netlist.proofs.Facts.{no_repeat-split}
use Rattle.aiger_ascii.specs.Ascii.{input_at, output_at, constraint_at, gate_at, lines_at}
use Rattle.circuit_text.specs.Lines.{literal_line}
use Rattle.circuit_text.specs.AsciiText.{input_line, gate_line}
use Rattle.aiger_text.proofs.Reading.{Finds}
use Rattle.aiger_text.proofs.Lines.{IsWithin, input-found, output-found, constraint-found, gate-found}

-- what is read so far
abbrev pub aig : List ℕ → List And → List ℕ → List ℕ → Aig
aig inputs gates outputs constraints = record no_parts { inputs = inputs; gates = gates; outputs = outputs; constraints = constraints }

-- a variable that an input may define
abbrev pub IsInput : ℕ → ℕ → Type 0
IsInput m v = (0 < v) × (v ≤ m)

pub inputs-found : (p : Place) (m : ℕ) (done vs rest : List ℕ) → m ≤ 16777216
    → AllByRecursion (IsInput m) vs → no_repeat ◌==◌ (0 ∷ (done ++ vs)) ≡ true
    → ahead p ≡ flat_map input_line vs ++ rest
    → Finds (lines_at input_at (length vs) m (aig done [] [] []) p) (aig (done ++ vs) [] [] []) rest
inputs-found p m done [] rest most all once e =
    record { place = p; is = rw (append-nil done) refl; behind = e }
inputs-found p m done (v ∷ vs) rest most all once e =
    let front = e ∙ append_assoc (input_line v) (flat_map input_line vs) rest in
    let new : has ◌==◌ (0 ∷ (done ++ [])) v ≡ false = rw (append-nil done)
    (no_repeat-split (0 ∷ done) vs v once) in
    let seam = append_assoc done (v ∷ []) vs in
    let here = input-found p m v (aig done [] [] []) (flat_map input_line vs
    ++ rest) all.0.0 all.0.1 most new front in
    let more = inputs-found here.place m (done
    ++ v ∷ []) vs rest most all.1 (rw seam once) here.behind in
    record {
      place = more.place;
      is = rw here.is (more.is ∙ rw seam refl);
      behind = more.behind;
    }

pub outputs-found : (p : Place) (m : ℕ) (inputs done lits rest : List ℕ) → m ≤ 16777216
    → AllByRecursion (λ n. n ≤ 2 * m + 1) lits
    → ahead p ≡ flat_map literal_line lits ++ rest
    → Finds (lines_at output_at (length lits) m (aig inputs [] done []) p) (aig inputs [] (done ++ lits) []) rest
outputs-found p m inputs done [] rest most all e =
    record { place = p; is = rw (append-nil done) refl; behind = e }
outputs-found p m inputs done (n ∷ ns) rest most all e =
    let front = e ∙ append_assoc (literal_line n) (flat_map literal_line ns) rest in
    let seam = append_assoc done (n ∷ []) ns in
    let here = output-found p m n (aig inputs [] done []) (flat_map literal_line ns
    ++ rest) all.0 most front in
    let more = outputs-found here.place m inputs (done ++ n ∷ []) ns rest most all.1 here.behind in
    record {
      place = more.place;
      is = rw here.is (more.is ∙ rw seam refl);
      behind = more.behind;
    }

pub constraints-found : (p : Place) (m : ℕ) (inputs outputs done lits rest : List ℕ) → m ≤ 16777216
    → AllByRecursion (λ n. n ≤ 2 * m + 1) lits
    → ahead p ≡ flat_map literal_line lits ++ rest
    → Finds (lines_at constraint_at (length lits) m (aig inputs [] outputs done) p) (aig inputs [] outputs (done ++ lits)) rest
constraints-found p m inputs outputs done [] rest most all e =
    record { place = p; is = rw (append-nil done) refl; behind = e }
constraints-found p m inputs outputs done (n ∷ ns) rest most all e =
    let front = e ∙ append_assoc (literal_line n) (flat_map literal_line ns) rest in
    let seam = append_assoc done (n ∷ []) ns in
    let here = constraint-found p m n (aig inputs [] outputs done) (flat_map literal_line ns
    ++ rest) all.0 most front in
    let more = constraints-found here.place m inputs outputs (done ++ n ∷ []) ns rest most all.1 here.behind in
    record {
      place = more.place;
      is = rw here.is (more.is ∙ rw seam refl);
      behind = more.behind;
    }

pub gates-found : (p : Place) (m : ℕ) (inputs outputs constraints : List ℕ) (done gs : List And) (rest : List ℕ)
    → m ≤ 16777216 → AllByRecursion (IsWithin m) gs
    → no_repeat ◌==◌ (0 ∷ (inputs ++ gate_vars (done ++ gs))) ≡ true
    → ahead p ≡ flat_map gate_line gs ++ rest
    → Finds (lines_at gate_at (length gs) m (aig inputs done outputs constraints) p) (aig inputs (done
    ++ gs) outputs constraints) rest
gates-found p m inputs outputs constraints done [] rest most all once e =
    record { place = p; is = rw (append-nil done) refl; behind = e }
gates-found p m inputs outputs constraints done (g ∷ gs) rest most all once e =
    let front = e ∙ append_assoc (gate_line g) (flat_map gate_line gs) rest in
    let seam = append_assoc done (g ∷ []) gs in
    let split : inputs ++ gate_vars (done ++ g ∷ gs) ≡ (inputs ++ gate_vars done)
    ++ g.var ∷ gate_vars gs =
    ap (λ (vs : List ℕ). inputs ++ vs) (map-append (λ (h : And). h.var) done (g ∷ gs))
    ∙ sym (append_assoc inputs (gate_vars done) (g.var ∷ gate_vars gs)) in
    let new : has ◌==◌ (0 ∷ (inputs ++ gate_vars done)) g.var ≡ false =
    no_repeat-split (0 ∷ (inputs ++ gate_vars done)) (gate_vars gs) g.var
    (subst (λ (vs : List ℕ). no_repeat ◌==◌ (0 ∷ vs) ≡ true) split once) in
    let here = gate-found p m g (aig inputs done outputs constraints) (flat_map gate_line gs
    ++ rest) all.0 most new front in
    let again : no_repeat ◌==◌ (0 ∷ (inputs ++ gate_vars ((done ++ g ∷ []) ++ gs))) ≡ true =
    subst (λ (hs : List And). no_repeat ◌==◌ (0 ∷ (inputs ++ gate_vars hs))
    ≡ true) (sym seam) once in
    let more = gates-found here.place m inputs outputs constraints (done ++ g ∷ []) gs rest most all.1 again
    here.behind in
    record {
      place = more.place;
      is = rw here.is (more.is ∙ ap (λ (hs : List And).
          Ok (aig inputs hs outputs constraints, more.place)) seam);
      behind = more.behind;
    }
