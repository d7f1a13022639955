-- Each literal has a code of its own.
use Rattle.std.proofs.Common.{◌≡◌, ℕ, ◌+◌, ◌*◌, Bool, true, false, refl, ap, ap₂, arith, if◌then◌else◌}
use Rattle.lits.specs.Dimacs.{DimacsLiteral}
use Rattle.lits.specs.declared.node.Node.{Node}
use Rattle.lits.specs.declared.node.Node.TheVariants.{Const, Input, Gate, Xor}
use Rattle.lits.specs.declared.node.Side.TheVariants.{A, B}
use Rattle.lits.specs.declared.literal.Lit.{Lit}
use Rattle.lits.specs.Code.{code_of_node, code_of_lit, code_of_dim}

-- a number and a sign from the number of both
halves : (m n : ℕ) (b c : Bool) → 2 * m + (if b then 1 else 0) ≡ 2 * n + (if c then 1 else 0) → (m ≡ n) × (b ≡ c)
halves m n true true e = (omega arith, refl)
halves m n false false e = (omega arith, refl)
halves m n true false e = absurd (let f : ⊥ = omega arith in f)
halves m n false true e = absurd (let f : ⊥ = omega arith in f)

own-code_of_node : (x y : Node) → code_of_node x ≡ code_of_node y → x ≡ y
own-code_of_node Const Const e = refl
own-code_of_node Const (Input j) e = absurd (let f : ⊥ = omega arith in f)
own-code_of_node Const (Gate A w) e = absurd (let f : ⊥ = omega arith in f)
own-code_of_node Const (Gate B w) e = absurd (let f : ⊥ = omega arith in f)
own-code_of_node Const (Xor j) e = absurd (let f : ⊥ = omega arith in f)
own-code_of_node (Input i) Const e = absurd (let f : ⊥ = omega arith in f)
own-code_of_node (Input i) (Input j) e = ap Input (omega arith)
own-code_of_node (Input i) (Gate A w) e = absurd (let f : ⊥ = omega arith in f)
own-code_of_node (Input i) (Gate B w) e = absurd (let f : ⊥ = omega arith in f)
own-code_of_node (Input i) (Xor j) e = absurd (let f : ⊥ = omega arith in f)
own-code_of_node (Gate A v) Const e = absurd (let f : ⊥ = omega arith in f)
own-code_of_node (Gate A v) (Input j) e = absurd (let f : ⊥ = omega arith in f)
own-code_of_node (Gate A v) (Gate A w) e = ap (Gate A) (omega arith)
own-code_of_node (Gate A v) (Gate B w) e = absurd (let f : ⊥ = omega arith in f)
own-code_of_node (Gate A v) (Xor j) e = absurd (let f : ⊥ = omega arith in f)
own-code_of_node (Gate B v) Const e = absurd (let f : ⊥ = omega arith in f)
own-code_of_node (Gate B v) (Input j) e = absurd (let f : ⊥ = omega arith in f)
own-code_of_node (Gate B v) (Gate A w) e = absurd (let f : ⊥ = omega arith in f)
own-code_of_node (Gate B v) (Gate B w) e = ap (Gate B) (omega arith)
own-code_of_node (Gate B v) (Xor j) e = absurd (let f : ⊥ = omega arith in f)
own-code_of_node (Xor i) Const e = absurd (let f : ⊥ = omega arith in f)
own-code_of_node (Xor i) (Input j) e = absurd (let f : ⊥ = omega arith in f)
own-code_of_node (Xor i) (Gate A w) e = absurd (let f : ⊥ = omega arith in f)
own-code_of_node (Xor i) (Gate B w) e = absurd (let f : ⊥ = omega arith in f)
own-code_of_node (Xor i) (Xor j) e = ap Xor (omega arith)

pub own-code_of_lit : (x y : Lit) → code_of_lit x ≡ code_of_lit y → x ≡ y
own-code_of_lit x y e =
    let same = halves (code_of_node x.node) (code_of_node y.node) x.neg y.neg e in
    ap₂ (λ (n : Node) (b : Bool). record { node = n; neg = b }) (own-code_of_node x.node y.node same.0) same.1

pub own-code_of_dim : (x y : DimacsLiteral) → code_of_dim x ≡ code_of_dim y → x ≡ y
own-code_of_dim x y e =
    let same = halves x.var y.var x.neg y.neg e in
    ap₂ (λ (n : ℕ) (b : Bool). record { var = n; neg = b }) same.0 same.1
