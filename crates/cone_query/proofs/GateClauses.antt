-- What values of nodes that meet the clauses which define a node say of it: it is true, the AND of its fanins, or true
-- exactly where its outputs differ.
use Rattle.std.proofs.Common.{◌≡◌, ℕ, ◌<◌, length, Bool, true, ◌&&◌, Option, Some, [], subst, sym, ◌∙◌}
use Rattle.std.specs.Option.{option_map_or}
use Rattle.std.proofs.Math.Bool.{or-false}
use Rattle.lits.specs.Assignment.{Meets}
use Rattle.lits.specs.declared.node.Side.{Side}
use Rattle.lits.specs.declared.node.Side.TheVariants.{A, B}
use Rattle.lits.specs.declared.node.Node.{Node}
use Rattle.lits.specs.declared.node.Node.TheVariants.{Const, Gate, Xor}
use Rattle.lits.specs.declared.literal.Lit.{Lit}
use Rattle.netlist.specs.declared.gate.And.{And}
use Rattle.netlist.specs.Net.{AigPair, IsNet, circuit_of, definition_of, gate_at, lit_named, output_of, differs, lit_holds}
use Rattle.netlist.specs.Miter.{gate_clauses, xor_clauses, xor_axioms, kept, axioms_of}
use Rattle.netlist.proofs.Facts.{output_lit, output_of-below, meets_from_kept, gate_from_meets, xor_from_meets}

module _ (net : AigPair) (a : Node → Bool) where
  -- the clause of the constant says that it is true
  pub constant_from_axioms : Meets (lit_holds a) (axioms_of net Const) → a Const ≡ true
  constant_from_axioms m = sym (or-false (a Const)) ∙ m.0

  -- those of a gate say that it is the AND of its fanins
  pub gate_from_axioms : (s : Side) (v : ℕ) (g : And) → gate_at net s v ≡ Some g → g.var ≡ v → Meets (lit_holds a) (axioms_of net (Gate s v))
      → a (Gate s v) ≡ (lit_holds a (lit_named s (circuit_of net s) g.left) && lit_holds a (lit_named s (circuit_of net s) g.right))
  gate_from_axioms s v g found same m =
      subst (λ (x : ℕ). a (Gate s x) ≡ (lit_holds a (lit_named s (circuit_of net s) g.left) && lit_holds a (lit_named s (circuit_of net s) g.right))) same
      (gate_from_meets a (definition_of s (circuit_of net s) g) (meets_from_kept a (gate_clauses (definition_of s (circuit_of net s) g))
      (subst (λ (o : Option And). Meets (lit_holds a) (option_map_or (λ h. kept (gate_clauses (definition_of s (circuit_of net s) h))) o [])) found m)))

  -- those of an XOR say that it is true exactly where its outputs differ
  pub xor_from_axioms : IsNet net → (j : ℕ) → j < length net.a.outputs → Meets (lit_holds a) (axioms_of net (Xor j))
      → a (Xor j) ≡ differs (lit_holds a (output_lit net A j)) (lit_holds a (output_lit net B j))
  xor_from_axioms is j below m =
      xor_from_meets a (Xor j) (output_lit net A j) (output_lit net B j)
      (meets_from_kept a (xor_clauses (Xor j) (output_lit net A j) (output_lit net B j))
      (subst (λ (o : Option Lit). Meets (lit_holds a) (xor_axioms j (Some (output_lit net A j)) o)) (output_of-below net is B j below)
      (subst (λ (o : Option Lit). Meets (lit_holds a) (xor_axioms j o (output_of net B j))) (output_of-below net is A j below) m)))
