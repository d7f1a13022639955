-- Unit propagation through a gate.
use Rattle.std.proofs.Common.{◌≡◌, Bool, true, false, [], ◌∷◌, refl, sym, ap, ◌∙◌}
use Rattle.std.specs.List.{AllByRecursion}
use Rattle.lits.specs.Clause.{has_pair, firsts}
use Rattle.lits.specs.Same.{same_node, same_lit, opposite}
use Rattle.lits.specs.declared.node.Node.{Node}
use Rattle.lits.specs.declared.literal.Lit.{Lit}
use Rattle.lits.specs.contracts.literal.LitLiteral.TheImpl.Laws as laws
use Rattle.lits.proofs.Facts.{exact-node, exact-lit, same-node_self, same-lit_self}
use Rattle.netlist.specs.Miter.{positive, negative, gate_clauses, kept}
use Rattle.netlist.proofs.Facts.{kept-head, kept-rest}
use Rattle.unit_prop.proofs.Facts.{Takes, take-first, take-second, take-head}
use Rattle.lemma_book.proofs.Facts.{apart-lits}

module _ (p : Lit → Bool) (n : Node) (l r : Lit) (far_l : same_node n l.node ≡ false) (far_r : same_node n r.node ≡ false)
    (all : AllByRecursion (Takes p) (kept (gate_clauses (record { node = n; left = l; right = r })))) where
  near : (x : Lit) → same_node n x.node ≡ false → same_node x.node n ≡ false
  near x far = go (same_node x.node n) refl
    where
      go : (b : Bool) → same_node x.node n ≡ b → b ≡ false
      go false e = refl
      go true e =
          let f : same_node n x.node ≡ true = ap (same_node n) (exact-node x.node n e) ∙ same-node_self n in
          let g : true ≡ false = sym f ∙ far in cc

  first_two : (x : Lit) → same_node n x.node ≡ false → Takes p (firsts same_lit (negative n ∷ x ∷ [])) → p (positive n) ≡ true → p x ≡ true
  first_two x far takes e =
      let whole : Takes p (negative n ∷ x ∷ []) = rw (apart-lits (negative n) x far) at takes in
      take-second p (negative n) x whole e

  two-stays : (x : Lit) → same_node n x.node ≡ false → has_pair same_lit opposite (negative n ∷ x ∷ []) ≡ false
  two-stays x far = rw (apart-lits x (positive n) (near x far)) refl

  -- where it is true its fanins are
  pub gate-left : p (positive n) ≡ true → p l ≡ true
  gate-left =
      first_two l far_l (kept-head (Takes p) (negative n ∷ l ∷ [])
      ((negative n ∷ r ∷ []) ∷ (positive n ∷ opposite l ∷ opposite r ∷ []) ∷ []) (two-stays l far_l) all)

  pub gate-right : p (positive n) ≡ true → p r ≡ true
  gate-right =
      first_two r far_r (kept-head (Takes p) (negative n ∷ r ∷ []) ((positive n ∷ opposite l ∷ opposite r ∷ []) ∷ []) (two-stays r far_r)
      (kept-rest (Takes p) (negative n ∷ l ∷ []) ((negative n ∷ r ∷ []) ∷ (positive n ∷ opposite l ∷ opposite r ∷ []) ∷ []) all))

  -- and where its fanins are true it is, if they aren't complements of each other
  pub gate-both : same_lit l (opposite r) ≡ false → p l ≡ true → p r ≡ true → p (positive n) ≡ true
  gate-both apart e f = go (same_lit (opposite l) (opposite r)) refl
    where
      flipped : (x y : Lit) → same_lit x (opposite y) ≡ false → same_lit (opposite y) (opposite (opposite x)) ≡ false
      flipped x y h = here (same_lit (opposite y) (opposite (opposite x))) refl
        where
          here : (b : Bool) → same_lit (opposite y) (opposite (opposite x)) ≡ b → b ≡ false
          here false g = refl
          here true g =
              let same : opposite y ≡ x = exact-lit (opposite y) (opposite (opposite x)) g ∙ laws.twice-law x in
              let k : true ≡ false = sym (same-lit_self x) ∙ ap (same_lit x) (sym same) ∙ h in cc

      stays : has_pair same_lit opposite (positive n ∷ opposite l ∷ opposite r ∷ []) ≡ false
      stays =
          rw (apart-lits (opposite l) (negative n) (near l far_l), apart-lits (opposite r) (negative n) (near r far_r), flipped l r apart) refl

      takes : Takes p (firsts same_lit (positive n ∷ opposite l ∷ opposite r ∷ []))
      takes =
          kept-head (Takes p) (positive n ∷ opposite l ∷ opposite r ∷ []) [] stays
          (kept-rest (Takes p) (negative n ∷ r ∷ []) ((positive n ∷ opposite l ∷ opposite r ∷ []) ∷ [])
          (kept-rest (Takes p) (negative n ∷ l ∷ []) ((negative n ∷ r ∷ []) ∷ (positive n ∷ opposite l ∷ opposite r ∷ []) ∷ []) all))

      back : (x : Lit) → p x ≡ true → p (opposite (opposite x)) ≡ true
      back x h = ap p (laws.twice-law x) ∙ h

      go : (b : Bool) → same_lit (opposite l) (opposite r) ≡ b → p (positive n) ≡ true
      go true s =
          let two : Takes p (positive n ∷ opposite l ∷ []) = rw (s, apart-lits (positive n) (opposite l) far_l) at takes in
          take-first p (positive n) (opposite l) two (back l e)
      go false s =
          let three : Takes p (positive n ∷ opposite l ∷ opposite r ∷ []) =
          rw (s, apart-lits (positive n) (opposite l) far_l, apart-lits (positive n) (opposite r) far_r) at takes in
          take-head p (positive n) (opposite l) (opposite r) three (back l e) (back r f)
