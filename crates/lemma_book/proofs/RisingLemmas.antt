-- Nodes that are found by their CNF variables stand in the order of the miter.
use Rattle.std.proofs.Common.{◌≡◌, ℕ, ◌+◌, ◌-◌, ◌≤◌, Bool, true, false, ◌||◌, Some, List, [], ◌∷◌, ◌++◌, filter, length, refl, sym, ap, ◌∙◌, subst, arith, length-append, ◌⊎◌, inl, inr}
use Rattle.std.specs.Prelude.{slice_get, nat_lt, not, if◌then◌else◌, ⊤}
use Rattle.std.specs.Ordering.{nat_cmp}
use Rattle.std.specs.declared.cmp.Ordering.TheVariants.{Less}
use Rattle.std.specs.Map.{keys_of, values_of}
use Rattle.std.specs.List.{AllByRecursion}
use Rattle.std.specs.List.Sorted.{IsStrictlySortedBy}
use Rattle.std.proofs.lemmas.Option.{none-some, same_Some}
use Rattle.std.proofs.lemmas.List.{append_assoc}
use Rattle.std.proofs.lemmas.Map.Keys.{sorted_head, sorted_tail}
use Rattle.std.proofs.lemmas.Bool.Decides.{nat_tests}
use Rattle.std.proofs.lemmas.Bool.{and_parts, not-true, or_parts}
use Rattle.lits.specs.Clause.{has, no_repeat}
use Rattle.lits.specs.declared.node.Node.{Node}
use Rattle.netlist.specs.Net.{AigPair, IsNet}
use Rattle.lits.specs.Same.{same_node}
use Rattle.lits.proofs.Facts.{same-node_self, exact-node}
use Rattle.netlist.specs.Miter.{variables_of}
use Rattle.netlist.proofs.Facts.{slice_get-right, variable_at}
use Rattle.unit_prop.proofs.Facts.{contrary}
use Rattle.lemma_book.specs.Walk.{AreNumbered}
use Rattle.lemma_book.proofs.RepeatLemmas.{filter-agree, filter-nothing, has_from_filter}
use Rattle.lemma_book.proofs.ThereLemmas.{variable-positive, variables-distinct}

-- the entries' numbers rise from low on, and each is the variable of its node
abbrev IsRising : List Node → ℕ → List (ℕ × Node) → Type 0
IsRising vars low [] = ⊤
IsRising vars low (e ∷ es) = (low ≤ e.0) × (slice_get vars (e.0 - 1) ≡ Some e.1) × IsRising vars (e.0 + 1) es

-- whose own number is the next place
split : (a b : ℕ) → a ≤ b → (b ≡ a) ⊎ (a + 1 ≤ b)
split a b le = go (nat_lt a b) refl
  where
    go : (c : Bool) → nat_lt a b ≡ c → (b ≡ a) ⊎ (a + 1 ≤ b)
    go true e = inr (grind (arith, nat_tests))
    go false e = inl (grind (arith, nat_tests))

other-node : (x y : Node) → same_node y x ≡ false → same_node x y ≡ false
other-node x y e = go (same_node x y) refl
  where
    go : (b : Bool) → same_node x y ≡ b → b ≡ false
    go false f = refl
    go true f = contrary (same_node y x) (subst (λ (z : Node). same_node z x ≡ true) (exact-node x y f) (same-node_self x)) e

-- entries that rise through the rest of the nodes, each at its place, are those of the rest that they have
rising-filter : (before rest : List Node) (es : List (ℕ × Node)) → no_repeat same_node rest ≡ true
    → IsRising (before ++ rest) (length before + 1) es → values_of es ≡ filter (has same_node (values_of es)) rest
rising-filter before [] [] distinct rising = refl
rising-filter before [] (e ∷ es) distinct rising =
    let at : e.0 - 1 ≡ length before + (e.0 - 1 - length before) = omega arith in
    absurd (none-some e.1 (sym (slice_get-right before [] (e.0 - 1 - length before)) ∙ ap (slice_get (before ++ [])) (sym at) ∙ rising.1))
rising-filter before (v ∷ vs) [] distinct rising = sym (filter-nothing (v ∷ vs))
rising-filter before (v ∷ vs) (e ∷ es) distinct rising =
    go (split (length before + 1) e.0 rising.0) (rising-filter (before ++ v ∷ []) vs)
  where
    new : has same_node vs v ≡ false
    new = not-true (has same_node vs v) (and_parts (not (has same_node vs v)) (no_repeat same_node vs) distinct).0

    distinct_rest : no_repeat same_node vs ≡ true
    distinct_rest = (and_parts (not (has same_node vs v)) (no_repeat same_node vs) distinct).1

    whole : (before ++ v ∷ []) ++ vs ≡ before ++ v ∷ vs
    whole = append_assoc before (v ∷ []) vs

    count : length (before ++ v ∷ []) ≡ length before + 1
    count = length-append before (v ∷ [])

    others : (ws : List Node) → has same_node ws v ≡ false → AllByRecursion (λ w. (same_node v w || has same_node (values_of es) w) ≡ has same_node (values_of es) w) ws
    others [] none = tt
    others (w ∷ ws) none =
        let parts = or_parts (same_node w v) (has same_node ws v) none in
        (ap (λ (b : Bool). b || has same_node (values_of es) w) (other-node v w parts.0), others ws parts.1)

    go : (e.0 ≡ length before + 1) ⊎ (length before + 1 + 1 ≤ e.0)
        → ((fs : List (ℕ × Node)) → no_repeat same_node vs ≡ true → IsRising ((before ++ v ∷ []) ++ vs) (length (before ++ v ∷ []) + 1) fs
        → values_of fs ≡ filter (has same_node (values_of fs)) vs)
        → values_of (e ∷ es) ≡ filter (has same_node (values_of (e ∷ es))) (v ∷ vs)
    go (inl here) rest =
        let at : e.0 - 1 ≡ length before + 0 = omega arith in
        let same : v ≡ e.1 = same_Some v e.1 (sym (slice_get-right before (v ∷ vs) 0) ∙ ap (slice_get (before ++ v ∷ vs)) (sym at) ∙ rising.1) in
        let low : e.0 + 1 ≡ length (before ++ v ∷ []) + 1 = omega (arith, count) in
        let next = rest es distinct_rest (subst (λ (l : List Node). IsRising l (length (before ++ v ∷ []) + 1) es) (sym whole)
        (subst (λ (n : ℕ). IsRising (before ++ v ∷ vs) n es) low rising.2)) in
        subst (λ (n : Node). n ∷ values_of es ≡ filter (has same_node (n ∷ values_of es)) (v ∷ vs)) same
        (rw (same-node_self v) (ap (λ (l : List Node). v ∷ l) (next ∙ sym (filter-agree (λ w. same_node v w || has same_node (values_of es) w) (has same_node (values_of es)) vs (others vs new)))))
    go (inr later) rest =
        let low : length (before ++ v ∷ []) + 1 ≤ e.0 = omega (arith, count) in
        let next = rest (e ∷ es) distinct_rest (subst (λ (l : List Node). IsRising l (length (before ++ v ∷ []) + 1) (e ∷ es)) (sym whole) (low, rising.1, rising.2)) in
        let none : has same_node (values_of (e ∷ es)) v ≡ false =
        ap (λ (l : List Node). has same_node l v) next ∙ has_from_filter same_node (has same_node (values_of (e ∷ es))) vs v new in
        next ∙ sym (ap (λ (b : Bool). if b then v ∷ filter (has same_node (values_of (e ∷ es))) vs else filter (has same_node (values_of (e ∷ es))) vs) none)

module _ (net : AigPair) where
  rising_from_sorted : (low : ℕ) (es : List (ℕ × Node)) → 1 ≤ low → AllByRecursion (λ k. low ≤ k) (keys_of es) → IsStrictlySortedBy nat_cmp (keys_of es)
      → AreNumbered net es → IsRising (variables_of net) low es
  rising_from_sorted low [] one from sorted numbered = tt
  rising_from_sorted low (e ∷ es) one from sorted numbered = (
    from.0,
    variable_at net e.1 e.0 numbered.0,
    rising_from_sorted (e.0 + 1) es (omega (arith, from.0)) (above (keys_of es) (sorted_head nat_cmp e.0 (keys_of es) sorted)) (sorted_tail nat_cmp e.0 (keys_of es) sorted) numbered.1,
  )
    where
      above : (ks : List ℕ) → AllByRecursion (λ k. nat_cmp e.0 k ≡ Less) ks → AllByRecursion (λ k. e.0 + 1 ≤ k) ks
      above [] all = tt
      above (k ∷ ks) all = (grind (arith, nat_tests, all.0), above ks all.1)

  -- nodes in the order of their variables are those of the miter's nodes that are among them
  pub values-filter : IsNet net → (es : List (ℕ × Node)) → IsStrictlySortedBy nat_cmp (keys_of es) → AreNumbered net es
      → values_of es ≡ filter (has same_node (values_of es)) (variables_of net)
  values-filter is es sorted numbered =
      rising-filter [] (variables_of net) es (variables-distinct net is) (rising_from_sorted 1 es (omega arith) (positive es numbered) sorted numbered)
    where
      positive : (fs : List (ℕ × Node)) → AreNumbered net fs → AllByRecursion (λ k. 1 ≤ k) (keys_of fs)
      positive [] all = tt
      positive (f ∷ fs) all = (variable-positive net f.1 f.0 all.0, positive fs all.1)
