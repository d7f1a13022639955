-- The lines of the ASCII form, one by one.
use Rattle.std.proofs.Common.{◌≡◌, ℕ, ◌+◌, ◌*◌, ◌/◌, ◌%◌, ◌<◌, ◌≤◌, Bool, false, eqb, List, [], ◌∷◌, ◌++◌, decimal, Result, Ok, Err, refl, ap, ◌∙◌, append_assoc, append-nil, arith}
use Rattle.std.specs.Prelude.{nat_lt, ◌==◌, if◌then◌else◌}
use Rattle.byte_scan.specs.declared.errors.AigerErr.{AigerErr}
use Rattle.byte_scan.specs.declared.errors.AigerErr.TheVariants.{DefinedTwice}
use Rattle.std.proofs.lemmas.Bool.Decides.{nat_tests}
use Rattle.byte_scan.specs.Scanning.{Place, ahead}
use Rattle.lits.specs.Clause.{has}
use Rattle.netlist.specs.declared.gate.And.{And}
use Rattle.netlist.specs.Circuit.{Aig, variables_in}
use Rattle.aiger_ascii.specs.Ascii.{defined, input_at, output_at, constraint_at, gate_at}
use Rattle.circuit_text.specs.Lines.{number_line, literal_line}
use Rattle.circuit_text.specs.AsciiText.{input_line, gate_line}
use Rattle.aiger_text.proofs.Reading.{Finds, number-found, space-found, number_line-found, used-small, literal-found, line_of_one}

-- a variable that isn't there yet may be defined
pub defined-new : (m v : ℕ) (c : Aig) → 0 < v → v ≤ m → has ◌==◌ (variables_in c) v ≡ false
    → defined m c (2 * v) ≡ Ok v
defined-new m v c some le new =
    let even : eqb (2 * v % 2) 1 ≡ false = grind (arith, nat_tests) in
    let above : eqb (2 * v) 0 ≡ false = grind (arith, nat_tests) in
    let within : nat_lt (2 * m) (2 * v) ≡ false = grind (arith, nat_tests) in
    let half : 2 * v / 2 ≡ v = omega arith in
    rw (even, above, within)
    (ap (λ (w : ℕ). judged (has ◌==◌ (variables_in c) w) w) half
    ∙ ap (λ (b : Bool). judged b v) new)
  where
    judged : Bool → ℕ → Result ℕ AigerErr
    judged b w = if b then Err (DefinedTwice (2 * v)) else Ok w

pub input-found : (p : Place) (m v : ℕ) (c : Aig) (rest : List ℕ) → 0 < v → v ≤ m → m ≤ 16777216
    → has ◌==◌ (variables_in c) v ≡ false → ahead p ≡ input_line v ++ rest
    → Finds (input_at m c p) (record c { inputs = c.inputs ++ v ∷ [] }) rest
input-found p m v c rest some le most new e =
    let line = number_line-found p (2 * v) rest (omega arith) (e ∙ line_of_one (2 * v) rest) in
    record {
      place = line.place;
      is = rw (line.is, defined-new m v c some le new) refl;
      behind = line.behind;
    }

pub output-found : (p : Place) (m n : ℕ) (c : Aig) (rest : List ℕ) → n ≤ 2 * m + 1
    → m ≤ 16777216
    → ahead p ≡ literal_line n ++ rest
    → Finds (output_at m c p) (record c { outputs = c.outputs ++ n ∷ [] }) rest
output-found p m n c rest le most e =
    let line = literal-found p m n rest le most e in
    record { place = line.place; is = rw line.is refl; behind = line.behind }

pub constraint-found : (p : Place) (m n : ℕ) (c : Aig) (rest : List ℕ) → n ≤ 2 * m + 1
    → m ≤ 16777216
    → ahead p ≡ literal_line n ++ rest
    → Finds (constraint_at m c p) (record c { constraints = c.constraints ++ n ∷ [] }) rest
constraint-found p m n c rest le most e =
    let line = literal-found p m n rest le most e in
    record { place = line.place; is = rw line.is refl; behind = line.behind }

line_of_three : (a b d : ℕ) (rest : List ℕ)
    → number_line (a ∷ b ∷ d ∷ []) ++ rest
    ≡ decimal a ++ 32 ∷ (decimal b ++ 32 ∷ (decimal d ++ 10 ∷ rest))
unfolding number_line
line_of_three a b d rest = three (decimal a) (decimal b) (decimal d)
  where
    three : (x y z : List ℕ) → ((x ++ 32 ∷ (y ++ 32 ∷ (z ++ []))) ++ 10 ∷ []) ++ rest
        ≡ x ++ 32 ∷ (y ++ 32 ∷ (z ++ 10 ∷ rest))
    three x y z =
        append_assoc (x ++ 32 ∷ (y ++ 32 ∷ (z ++ []))) (10 ∷ []) rest
        ∙ append_assoc x (32 ∷ (y ++ 32 ∷ (z ++ []))) (10 ∷ rest)
        ∙ ap (λ (l : List ℕ). x ++ 32 ∷ l)
        (append_assoc y (32 ∷ (z ++ [])) (10 ∷ rest)
        ∙ ap (λ (l : List ℕ). y ++ 32 ∷ (l ++ 10 ∷ rest)) (append-nil z))

-- what a gate of a circuit with variables up to m has
pub record IsWithin (m : ℕ) (g : And) : Type 0 where
  pub some : 0 < g.var
  pub var : g.var ≤ m
  pub left : g.left ≤ 2 * m + 1
  pub right : g.right ≤ 2 * m + 1

pub gate-found : (p : Place) (m : ℕ) (g : And) (c : Aig) (rest : List ℕ) → IsWithin m g
    → m ≤ 16777216
    → has ◌==◌ (variables_in c) g.var ≡ false → ahead p ≡ gate_line g ++ rest
    → Finds (gate_at m c p) (record c { gates = c.gates ++ g ∷ [] }) rest
gate-found p m g c rest within most new e =
    let lhs = number-found p (2 * g.var) 32 _ (omega arith) refl
    (e ∙ line_of_three (2 * g.var) g.left g.right rest) in
    let first = space-found lhs.place _ lhs.behind in
    let rhs0 = number-found first.place g.left 32 _ (omega arith) refl first.behind in
    let second = space-found rhs0.place _ rhs0.behind in
    let rhs1 = number_line-found second.place g.right rest (omega arith) second.behind in
    record {
      place = rhs1.place;
      is = rw (
        lhs.is,
        first.is,
        rhs0.is,
        second.is,
        rhs1.is,
        defined-new m g.var c within.some within.var new,
        used-small m g.left within.left,
        used-small m g.right within.right,
      ) refl;
      behind = rhs1.behind;
    }
