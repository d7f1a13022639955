-- Unit propagation through an XOR that is true: its outputs differ.
use Rattle.std.proofs.Common.{◌≡◌, Bool, true, false, List, [], ◌∷◌, refl, ap, ◌∙◌}
use Rattle.std.specs.List.{AllByRecursion}
use Rattle.lits.specs.Same.{same_node, same_lit, opposite}
use Rattle.lits.specs.declared.node.Node.{Node}
use Rattle.lits.specs.declared.literal.Lit.{Lit}
use Rattle.lits.specs.contracts.literal.LitLiteral.TheImpl.Laws as laws
use Rattle.lits.proofs.Facts.{eq-opposite, lit_laws}
use Rattle.netlist.specs.Miter.{positive, negative, xor_clauses, kept}
use Rattle.netlist.proofs.Facts.{kept-head, kept-rest}
use Rattle.unit_prop.proofs.Facts.{Takes, takes-firsts, take-third}
use Rattle.lemma_book.proofs.Facts.{apart-lits}

module _ (p : Lit → Bool) (x : Node) (a b : Lit) (far_a : same_node a.node x ≡ false) (far_b : same_node b.node x ≡ false) (apart : same_lit b (opposite a) ≡ false)
    (all : AllByRecursion (Takes p) (kept (xor_clauses x a b))) (on : p (positive x) ≡ true) where
  abbrev others : List (List Lit)
  others = (positive x ∷ opposite a ∷ b ∷ []) ∷ (positive x ∷ a ∷ opposite b ∷ []) ∷ []

  pub xor-other : p (opposite a) ≡ true → p b ≡ true
  xor-other off =
      take-third p (negative x) a b (takes-firsts p (negative x ∷ a ∷ b ∷ []) (kept-head (Takes p) (negative x ∷ a ∷ b ∷ [])
      ((negative x ∷ opposite a ∷ opposite b ∷ []) ∷ others)
      (rw (apart-lits a (positive x) far_a, apart-lits b (positive x) far_b, apart) refl) all)) on off

  pub xor-same : p a ≡ true → p (opposite b) ≡ true
  xor-same h =
      take-third p (negative x) (opposite a) (opposite b)
      (takes-firsts p (negative x ∷ opposite a ∷ opposite b ∷ []) (kept-head (Takes p) (negative x ∷ opposite a ∷ opposite b ∷ []) others
      (rw (apart-lits (opposite a) (positive x) far_a, apart-lits (opposite b) (positive x) far_b, flipped) refl)
      (kept-rest (Takes p) (negative x ∷ a ∷ b ∷ []) ((negative x ∷ opposite a ∷ opposite b ∷ []) ∷ others) all))) on (ap p (laws.twice-law a) ∙ h)
    where
      flipped : same_lit (opposite b) (opposite (opposite a)) ≡ false
      flipped = ap (same_lit (opposite b)) (laws.twice-law a) ∙ eq-flip
        where
          eq-flip : same_lit (opposite b) a ≡ false
          eq-flip =
              lit_laws.equivalence.symm (opposite b) a
              ∙ eq-opposite lit_laws a b ∙ apart
