-- The code of a literal stands for it alone.
use Rattle.std.proofs.Common.{◌≡◌, ℕ, ◌+◌, ◌*◌, ◌<◌, ◌^◌, Bool, true, false, Option, Some, None, refl, sym, ap, ◌∙◌, arith, if◌then◌else◌}
use Rattle.std.specs.Option.{option_map}
use Rattle.std.proofs.lemmas.Option.{none-some, same_Some}
use Rattle.lits.specs.declared.literal.Lit.{Lit}
use Rattle.lits.specs.declared.node.Node.{Node}
use Rattle.lits.specs.Same.{same_node}
use Rattle.netlist.specs.Net.{AigPair, IsNet, node_at, nodes_of, position_of}
use Rattle.netlist.proofs.Facts.{at-place, few_gates_of, length-definitions, length-nodes, node-at}
use Rattle.strash_pass.specs.declared.merged.Spot.{Spot}
use Rattle.strash_pass.specs.Codes.{code_at, code_of}

-- the position and the sign of a literal that has a code
record HasCode (net : AigPair) (l : Lit) (c : ℕ) : Type 0 where
  position : ℕ
  at : position_of net l.node ≡ Some position
  is : c ≡ 2 * position + (if l.neg then 1 else 0)

has-code : (net : AigPair) (l : Lit) (c : ℕ) → code_of net l ≡ Some c → HasCode net l c
has-code net l c e = go (position_of net l.node) refl
  where
    go : (o : Option ℕ) → position_of net l.node ≡ o → HasCode net l c
    go None f = absurd (none-some c (sym (ap (option_map (λ p. 2 * p + (if l.neg then 1 else 0))) f) ∙ e))
    go (Some p) f = record {
      position = p;
      at = f;
      is = sym (same_Some (2 * p + (if l.neg then 1 else 0)) c (sym (ap (option_map (λ p. 2 * p + (if l.neg then 1 else 0))) f) ∙ e));
    }

same-parts : (l m : Lit) → l.node ≡ m.node → l.neg ≡ m.neg → l ≡ m
same-parts l m e f = ap (λ (n : Node). record { node = n; neg = l.neg }) e ∙ ap (λ (b : Bool). record { node = m.node; neg = b }) f

pub code-one : (net : AigPair) (l m : Lit) (c : ℕ) → code_of net l ≡ Some c → code_of net m ≡ Some c → l ≡ m
code-one net l m c e f = go l.neg m.neg refl refl
  where
    x : HasCode net l c
    x = has-code net l c e

    y : HasCode net m c
    y = has-code net m c f

    node : x.position ≡ y.position → l.node ≡ m.node
    node same = sym (node-at net l.node x.position x.at) ∙ ap (node_at net) same ∙ node-at net m.node y.position y.at

    go : (a b : Bool) → l.neg ≡ a → m.neg ≡ b → l ≡ m
    go true true p q =
        let one : c ≡ 2 * x.position + 1 = x.is ∙ ap (λ (b : Bool). 2 * x.position + (if b then 1 else 0)) p in
        let two : c ≡ 2 * y.position + 1 = y.is ∙ ap (λ (b : Bool). 2 * y.position + (if b then 1 else 0)) q in
        same-parts l m (node (omega (arith, one, two))) (p ∙ sym q)
    go false false p q =
        let one : c ≡ 2 * x.position + 0 = x.is ∙ ap (λ (b : Bool). 2 * x.position + (if b then 1 else 0)) p in
        let two : c ≡ 2 * y.position + 0 = y.is ∙ ap (λ (b : Bool). 2 * y.position + (if b then 1 else 0)) q in
        same-parts l m (node (omega (arith, one, two))) (p ∙ sym q)
    go true false p q =
        let one : c ≡ 2 * x.position + 1 = x.is ∙ ap (λ (b : Bool). 2 * x.position + (if b then 1 else 0)) p in
        let two : c ≡ 2 * y.position + 0 = y.is ∙ ap (λ (b : Bool). 2 * y.position + (if b then 1 else 0)) q in
        absurd (omega (arith, one, two))
    go false true p q =
        let one : c ≡ 2 * x.position + 0 = x.is ∙ ap (λ (b : Bool). 2 * x.position + (if b then 1 else 0)) p in
        let two : c ≡ 2 * y.position + 1 = y.is ∙ ap (λ (b : Bool). 2 * y.position + (if b then 1 else 0)) q in
        absurd (omega (arith, one, two))

-- the code of a literal by its position
pub coded-at : (net : AigPair) (s : Spot) (c : ℕ) → position_of net s.lit.node ≡ Some s.at → c ≡ code_at s → code_of net s.lit ≡ Some c
coded-at net s c at e = ap (option_map (λ p. 2 * p + (if s.lit.neg then 1 else 0))) at ∙ ap Some (sym e)

-- positions are small
pub position-small : (net : AigPair) → IsNet net → (n : Node) (p : ℕ) → position_of net n ≡ Some p → p < 2 ^ 26
position-small net is n p e =
    omega (
      arith,
      (at-place (λ m. same_node m n) (nodes_of net) p e).3,
      length-nodes net,
      length-definitions net,
      few_gates_of net.a is.a,
      few_gates_of net.b is.b,
    )
