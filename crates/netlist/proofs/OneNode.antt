-- The clauses' numbers of two nets that differ in one node's clauses.
use Rattle.std.proofs.Common.{◌≡◌, ℕ, zero, suc, ◌+◌, ◌<◌, ◌≤◌, Bool, true, false, Some, List, [], ◌∷◌, length, add-one, refl, sym, ap, ◌∙◌, subst, arith}
use Rattle.std.specs.Prelude.{slice_get}
use Rattle.std.proofs.lemmas.Option.{none-some, same_Some}
use Rattle.lits.specs.declared.node.Node.{Node}
use Rattle.lits.specs.Same.{same_node}
use Rattle.lits.proofs.Facts.{exact-node}
use Rattle.netlist.specs.Place.{place_of}
use Rattle.netlist.specs.Net.{AigPair}
use Rattle.netlist.specs.Miter.{axioms_of, variables_of}
use Rattle.netlist.specs.Starts.{first_clause, AreStarts, WereStarts}
use Rattle.netlist.proofs.PlaceLemmas.{next_place, at_place}
use Rattle.netlist.proofs.SourceLemmas.{place_within}
use Rattle.netlist.proofs.StartLemmas.{first_clause-none, first_clause-more}

-- a list has an element at each place within it
pub element : {X : Type 0} (xs : List X) (k : ℕ) → k < length xs → (x : X) × (slice_get xs k ≡ Some x)
element [] k l = absurd (omega (arith, l))
element (x ∷ xs) zero l = (x, refl)
element (x ∷ xs) (suc k) l = element xs k (omega (arith, l))

-- what stands before the first that passes doesn't pass
before_place : {X : Type 0} (test : X → Bool) (xs : List X) (k j : ℕ) (x : X) → place_of test xs ≡ Some k → j < k → slice_get xs j ≡ Some x
    → test x ≡ false
before_place test [] k j x at l e = absurd (none-some x e)
before_place test (y ∷ ys) k zero x at l e =
    next_place (λ (n : ℕ). zero < n → test x ≡ false) (test y) (place_of test ys) k at
    (λ t m. absurd (omega (arith, m)))
    (λ i f o m. subst (λ z. test z ≡ false) (same_Some y x e) f) l
before_place test (y ∷ ys) k (suc j) x at l e =
    next_place (λ (n : ℕ). suc j < n → test x ≡ false) (test y) (place_of test ys) k at
    (λ t m. absurd (omega (arith, m)))
    (λ i f o m. before_place test ys i j x o (omega (arith, m)) e) l

-- both have the same nodes, and all but one have the same clauses
pub record DifferAt (net new : AigPair) (node : Node) : Type 0 where
  pub variables : variables_of new ≡ variables_of net
  pub axioms : (n : Node) → same_node n node ≡ false → axioms_of new n ≡ axioms_of net n

module _ (net new : AigPair) (node : Node) (differ : DifferAt net new node) where
  long : length (variables_of new) ≡ length (variables_of net)
  long = ap length differ.variables

  -- numbers are the same up to a place if the nodes before it have as many clauses in both
  up_to : (k : ℕ) → k ≤ length (variables_of net)
      → ((p : ℕ) (n : Node) → p < k → slice_get (variables_of net) p ≡ Some n → length (axioms_of new n) ≡ length (axioms_of net n))
      → first_clause new k ≡ first_clause net k
  up_to zero l each = first_clause-none new ∙ sym (first_clause-none net)
  up_to (suc k) l each =
      let found = element (variables_of net) k (omega (arith, l)) in
      let there = ap (λ (ns : List Node). slice_get ns k) differ.variables ∙ found.1 in
      let was = first_clause-more net k found.0 found.1 in
      let is = first_clause-more new k found.0 there in
      let same = up_to k (omega (arith, l)) (λ p n m e. each p n (omega (arith, m)) e) in
      let step : first_clause new (k + 1) ≡ first_clause net (k + 1) = omega (arith, was, is, same, each k found.0 (omega arith) found.1) in
      ap (first_clause new) (sym (add-one k)) ∙ step ∙ ap (first_clause net) (add-one k)

  counted : length (axioms_of new node) ≡ length (axioms_of net node) → (n : Node) → length (axioms_of new n) ≡ length (axioms_of net n)
  counted e n = go (same_node n node) refl
    where
      go : (b : Bool) → same_node n node ≡ b → length (axioms_of new n) ≡ length (axioms_of net n)
      go true t = subst (λ (m : Node). length (axioms_of new m) ≡ length (axioms_of net m)) (sym (exact-node n node t)) e
      go false f = ap length (differ.axioms n f)

  module _ (place : ℕ) (at : place_of (λ n. same_node n node) (variables_of net) ≡ Some place) where
    within : place < length (variables_of net)
    within = place_within (λ n. same_node n node) (variables_of net) place at

    found : slice_get (variables_of net) place ≡ Some node
    found = let r = at_place (λ n. same_node n node) (variables_of net) place at in r.1 ∙ ap Some (exact-node r.0 node r.2)

    before : (p : ℕ) → p ≤ place → first_clause new p ≡ first_clause net p
    before p l =
        up_to p (omega (arith, l, within))
        (λ q n m e. ap length (differ.axioms n (before_place (λ n. same_node n node) (variables_of net) place q n at (omega (arith, m, l)) e)))

    as_many : first_clause net (place + 1) ≡ first_clause new (place + 1) → length (axioms_of new node) ≡ length (axioms_of net node)
    as_many e =
        let was = first_clause-more net place node found in
        let is = first_clause-more new place node (ap (λ (ns : List Node). slice_get ns place) differ.variables ∙ found) in
        omega (arith, was, is, e, before place (omega arith))

    pub were_starts : (starts : List ℕ) → AreStarts net starts → WereStarts new place starts
    were_starts starts table = record {
      count = omega (arith, table.count, long);
      few = λ p l. table.few p (omega (arith, l, long));
      before = λ p l. table.each p (omega (arith, l, within)) ∙ sym (before p l);
      behind = λ e p l.
          table.each p (omega (arith, l, long))
          ∙ sym (up_to p (omega (arith, l, long)) (λ q n m f. counted (as_many (sym (table.each (place + 1) (omega (arith, within))) ∙ e)) n));
    }
