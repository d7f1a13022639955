-- Values that meet the clauses that define the nodes of a cone are the nodes' values there, so a model of a cone's
-- clauses is a real counterexample.
use Rattle.std.proofs.Common.{◌≡◌, ℕ, ◌<◌, Bool, true, false, ◌&&◌, Option, Some, List, [], length, refl, ap, ap₂, ◌∙◌, subst, sym}
use Rattle.std.specs.Prelude.{◌==◌, slice_index, slice_index_or, ⊤}
use Rattle.std.specs.Option.{option_map, option_map_or}
use Rattle.std.proofs.Math.Bool.{or-false}
use Rattle.lits.specs.Clause.{has}
use Rattle.lits.specs.Assignment.{Meets}
use Rattle.lits.specs.declared.node.Side.{Side}
use Rattle.lits.specs.declared.node.Side.TheVariants.{A, B}
use Rattle.lits.specs.declared.node.Node.{Node}
use Rattle.lits.specs.declared.node.Node.TheVariants.{Const, Input, Gate, Xor}
use Rattle.lits.specs.declared.literal.Lit.{Lit}
use Rattle.netlist.specs.declared.gate.And.{And}
use Rattle.netlist.specs.Circuit.{Aig, output_value}
use Rattle.netlist.specs.Net.{AigPair, IsNet, nodes_of, circuit_of, lit_named, output_of, definition_of, gate_at, differs, value_of, lit_holds}
use Rattle.lits.specs.Same.{same_node}
use Rattle.netlist.specs.Miter.{axioms_of, xor_axioms, gate_clauses, xor_clauses, kept, variables_of}
use Rattle.netlist.proofs.SameNodes.{equal-number, found-one, no-facts}
use Rattle.netlist.proofs.ClauseMeaning.{meets_from_kept, gate_from_meets, xor_from_meets}
use Rattle.netlist.proofs.NodesThere.{has-position, xor-below, output-there}
use Rattle.netlist.proofs.ConeValues.{HasFanins, IsEvaluation, evaluation-node, evaluation-output}

-- the set has with each XOR the nodes of its two outputs
pub record HasOutputs (net : AigPair) (p : Node → Bool) : Type 0 where
  pub output : (s : Side) (j : ℕ) (l : Lit) → output_of net s j ≡ Some l → p (Xor j) ≡ true → p l.node ≡ true

-- on the set a has the inputs' truth values, and meets the clauses that define each node
pub record IsModelOver (net : AigPair) (p a : Node → Bool) (bits : List Bool) : Type 0 where
  pub fanins : HasFanins net p
  pub inputs : (k : ℕ) → k < length net.a.inputs → p (Input k) ≡ true → a (Input k) ≡ slice_index_or bits k false
  pub meets : (n : Node) → p n ≡ true → Meets (lit_holds a) (axioms_of net n)

-- the clause of the constant says that it is true
pub constant_from_axioms : (net : AigPair) (a : Node → Bool) → Meets (lit_holds a) (axioms_of net Const) → a Const ≡ true
constant_from_axioms net a m = sym (or-false (a Const)) ∙ m.0

-- those of a gate say that it is the AND of its fanins
pub gate_from_axioms : (net : AigPair) (a : Node → Bool) (s : Side) (v : ℕ) (g : And) → gate_at net s v ≡ Some g
    → Meets (lit_holds a) (axioms_of net (Gate s v))
    → a (Gate s v) ≡ (lit_holds a (lit_named s (circuit_of net s) g.left) && lit_holds a (lit_named s (circuit_of net s) g.right))
gate_from_axioms net a s v g found m =
    subst (λ (x : ℕ). a (Gate s x) ≡ (lit_holds a (lit_named s c g.left) && lit_holds a (lit_named s c g.right))) same
    (gate_from_meets a (definition_of s c g) (meets_from_kept a (gate_clauses (definition_of s c g)) meets))
  where
    c : Aig
    c = circuit_of net s

    same : g.var ≡ v
    same = equal-number g.var v (found-one (λ h. h.var == v) (λ h. ⊤) c.gates g (no-facts c.gates) found).1

    meets : Meets (lit_holds a) (kept (gate_clauses (definition_of s c g)))
    meets = subst (λ (o : Option And). Meets (lit_holds a) (option_map_or (λ h. kept (gate_clauses (definition_of s c h))) o [])) found m

-- the literal of an output
abbrev pub output_lit : AigPair → Side → ℕ → Lit
output_lit net s j = lit_named s (circuit_of net s) (slice_index (circuit_of net s).outputs j)

module _ (net : AigPair) (is : IsNet net) where
  -- each output has one
  pub output_of-below : (s : Side) (j : ℕ) → j < length net.a.outputs → output_of net s j ≡ Some (output_lit net s j)
  output_of-below s j below = ap (option_map (lit_named s (circuit_of net s))) (output-there net is s j below).0

  -- the clauses of an XOR say that it is true exactly where its outputs differ
  pub xor_from_axioms : (a : Node → Bool) (j : ℕ) → j < length net.a.outputs → Meets (lit_holds a) (axioms_of net (Xor j))
      → a (Xor j) ≡ differs (lit_holds a (output_lit net A j)) (lit_holds a (output_lit net B j))
  xor_from_axioms a j below m =
      xor_from_meets a (Xor j) (output_lit net A j) (output_lit net B j)
      (meets_from_kept a (xor_clauses (Xor j) (output_lit net A j) (output_lit net B j)) meets)
    where
      meets : Meets (lit_holds a) (kept (xor_clauses (Xor j) (output_lit net A j) (output_lit net B j)))
      meets =
          subst (λ (o : Option Lit). Meets (lit_holds a) (xor_axioms j (Some (output_lit net A j)) o)) (output_of-below B j below)
          (subst (λ (o : Option Lit). Meets (lit_holds a) (xor_axioms j o (output_of net B j))) (output_of-below A j below) m)

-- values that meet the clauses make each gate the AND of its fanins
pub evaluation_from_model : (net : AigPair) (p a : Node → Bool) (bits : List Bool) → IsModelOver net p a bits → IsEvaluation net p a bits
evaluation_from_model net p a bits model = record {
  fanins = model.fanins;
  constant = λ q. constant_from_axioms net a (model.meets Const q);
  inputs = model.inputs;
  gates = λ s v g found q. gate_from_axioms net a s v g found (model.meets (Gate s v) q);
}

module _ (net : AigPair) (is : IsNet net) (p a : Node → Bool) (bits : List Bool) (model : IsModelOver net p a bits) where
  -- an XOR is true exactly where its outputs differ, if both outputs' nodes are in the set
  pub model-xor : (j : ℕ) → j < length net.a.outputs → p (Xor j) ≡ true
      → ((s : Side) (l : Lit) → output_of net s j ≡ Some l → p l.node ≡ true) → a (Xor j) ≡ value_of net bits (Xor j)
  model-xor j below q outputs =
      xor_from_axioms net is a j below (model.meets (Xor j) q) ∙ ap₂ differs (value A) (value B)
    where
      value : (s : Side) → lit_holds a (output_lit net s j) ≡ output_value (circuit_of net s) bits j
      value s =
          let at = output_of-below net is s j below in
          evaluation-output net is p a bits (evaluation_from_model net p a bits model) s j (output_lit net s j) below at
          (outputs s (output_lit net s j) at)

  -- each node with a position has its value
  pub model-node : (n : Node) → has same_node (nodes_of net) n ≡ true → p n ≡ true → a n ≡ value_of net bits n
  model-node = evaluation-node net is p a bits (evaluation_from_model net p a bits model)

  -- each node with a CNF variable has its value, if the set has with each XOR its outputs
  pub model-all : HasOutputs net p → (n : Node) → has same_node (variables_of net) n ≡ true → p n ≡ true → a n ≡ value_of net bits n
  model-all outputs Const there q = model-node Const refl q
  model-all outputs (Input k) there q = model-node (Input k) (has-position net (Input k) (λ j. refl) there) q
  model-all outputs (Gate s v) there q = model-node (Gate s v) (has-position net (Gate s v) (λ j. refl) there) q
  model-all outputs (Xor j) there q =
      model-xor j (xor-below net j there) q (λ s l found. outputs.output s j l found q)
