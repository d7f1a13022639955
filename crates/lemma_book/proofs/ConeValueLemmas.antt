-- What stands at a position, and that each value that is found leaves less to find.
use Rattle.std.proofs.Common.{◌≡◌, ◌≢◌, ◌∙◌, ℕ, zero, suc, ◌+◌, ◌-◌, ◌<◌, ◌≤◌, Bool, true, false, Option, None, Some, List, [], ◌∷◌, drop, get_or, length, refl, sym, ap, ap₂, subst, arith, nat_eq}
use Rattle.std.specs.Prelude.{slice_index_or, IfSome, ◌==◌}
use Rattle.std.proofs.lemmas.List.{drop_more, drop_all}
use Rattle.lits.specs.Clause.{has}
use Rattle.std.specs.Option.{option_map}
use Rattle.std.proofs.lemmas.Bool.Decides.{nat_tests}
use Rattle.std.proofs.lemmas.Option.{none-some, slice_get-map, slice_get-get_or}
use Rattle.lits.specs.declared.node.Node.TheVariants.{Const}
use Rattle.netlist.specs.declared.gate.Definition.{Definition}
use Rattle.netlist.specs.declared.gate.Fanins.{Fanins}
use Rattle.netlist.specs.Net.{AigPair, IsNet, definitions, fanins_of, fanins_at, nodes_of, value_of}
use Rattle.netlist.proofs.Facts.{IsGateAt, gate-at, node-input, length-nodes, length-definitions}
use Rattle.lemma_book.specs.ConeValue.{known_at, value_at, AreValues, IsAndAt, IsNext}

-- an input's value stands at its place
pub value-input : (net : AigPair) (bits : List Bool) (p : ℕ) → 0 < p → p ≤ length net.a.inputs
    → slice_index_or bits (p - 1) false ≡ value_at net bits p
value-input net bits p above within =
    let place : p - 1 + 1 ≡ p = omega arith in
    sym (ap (value_at net bits) (sym place) ∙ ap (value_of net bits) (node-input net (p - 1) (omega arith)))

module _ (net : AigPair) (p : ℕ) (behind : length net.a.inputs < p) where
  place : 1 + length net.a.inputs + (p - 1 - length net.a.inputs) ≡ p
  place = omega arith

  -- a gate is the AND of its fanins, which stand before it
  pub and-at : IsNet net → (bits : List Bool) (f : Fanins) → fanins_at net (p - 1 - length net.a.inputs) ≡ Some f → IsAndAt net bits p f
  and-at is bits f e =
      let k = p - 1 - length net.a.inputs in
      let gate = subst (λ (q : ℕ). IsGateAt net q f) place (gate-at net is k f (slice_get-map (fanins_of net) (definitions net) k ∙ e)) in
      record { left = gate.left; right = gate.right; value = gate.value bits }

  -- behind the inputs each position is that of a gate
  pub gate-there : p < length (nodes_of net) → fanins_at net (p - 1 - length net.a.inputs) ≡ None → ⊥
  gate-there within e =
      let k = p - 1 - length net.a.inputs in
      let d : Definition = slice_index_or (definitions net) k none in
      none-some (fanins_of net d) (sym e ∙ ap (option_map (fanins_of net)) (slice_get-get_or (definitions net) k none inside))
    where
      none : Definition
      none = record { node = Const; left = record { node = Const; neg = false }; right = record { node = Const; neg = false } }

      inside : p - 1 - length net.a.inputs < length (definitions net)
      inside = omega (arith, length-nodes net, length-definitions net)

weight : ℕ → Option Bool → ℕ
weight w None = w
weight w (Some b) = 0

-- w for each position below n whose value isn't known
pub unknown_below : ℕ → List (Option Bool) → ℕ → ℕ
unknown_below w known zero = 0
unknown_below w known (suc n) = weight w (known_at known n) + unknown_below w known n

-- the position to look at next, from 1
abbrev pub rank : Option ℕ → ℕ
rank None = 0
rank (Some p) = p + 1

module _ (old new : List (Option Bool)) (p : ℕ) (b : Bool)
    (value : known_at new p ≡ Some b) (others : (q : ℕ) → q ≢ p → known_at new q ≡ known_at old q) where
  at-key : (q : ℕ) → nat_eq p q ≡ true → known_at new q ≡ Some b
  at-key q e = let same : p ≡ q = grind (arith, nat_tests, e) in subst (λ (r : ℕ). known_at new r ≡ Some b) same value

  at-other : (q : ℕ) → nat_eq p q ≡ false → known_at new q ≡ known_at old q
  at-other q e = others q (λ same. let f : ⊥ = grind (arith, nat_tests, e, same) in f)

  -- where the value that joins is right, so are all that are known
  pub values-noted : (net : AigPair) (bits : List Bool) → b ≡ value_at net bits p → AreValues old net bits → AreValues new net bits
  values-noted net bits right are q = go (nat_eq p q) refl
    where
      go : (t : Bool) → nat_eq p q ≡ t → IfSome (known_at new q) (λ c. c ≡ value_at net bits q)
      go true e =
          let same : p ≡ q = grind (arith, nat_tests, e) in
          subst (λ (o : Option Bool). IfSome o (λ c. c ≡ value_at net bits q)) (sym (at-key q e)) (right ∙ ap (value_at net bits) same)
      go false e = subst (λ (o : Option Bool). IfSome o (λ c. c ≡ value_at net bits q)) (sym (at-other q e)) (are q)

  same-below : (w n : ℕ) → n ≤ p → unknown_below w new n ≡ unknown_below w old n
  unfolding unknown_below
  same-below w zero l = refl
  same-below w (suc n) l =
      let apart : nat_eq p n ≡ false = grind (arith, nat_tests) in
      ap₂ (λ o k. weight w o + k) (at-other n apart) (same-below w n (omega arith))

  -- one position less is unknown
  pub fewer-unknown : known_at old p ≡ None → (w n : ℕ) → p < n → unknown_below w new n + w ≡ unknown_below w old n
  unfolding unknown_below weight
  fewer-unknown none w zero l = absurd (let e : ⊥ = omega arith in e)
  fewer-unknown none w (suc n) l = go (nat_eq p n) refl (fewer-unknown none w n)
    where
      go : (t : Bool) → nat_eq p n ≡ t → (p < n → unknown_below w new n + w ≡ unknown_below w old n)
          → weight w (known_at new n) + unknown_below w new n + w ≡ weight w (known_at old n) + unknown_below w old n
      go true e rest =
          let same : p ≡ n = grind (arith, nat_tests, e) in
          let now : weight w (known_at new n) ≡ 0 = ap (weight w) (at-key n e) in
          let before : weight w (known_at old n) ≡ w = ap (weight w) (ap (known_at old) (sym same) ∙ none) in
          omega (arith, now, before, same-below w n (omega arith))
      go false e rest =
          let apart : weight w (known_at new n) ≡ weight w (known_at old n) = ap (weight w) (at-other n e) in
          let less : p < n = grind (arith, nat_tests, e, l) in
          omega (arith, apart, rest less)

  -- so what is left becomes less, whatever is looked at next
  pub found-smaller : (sought : ℕ) (o : Option ℕ) → known_at old p ≡ None → p ≤ sought → IsNext new sought o
      → unknown_below (sought + 1) new (sought + 1) + rank o < unknown_below (sought + 1) old (sought + 1) + rank (Some p)
  found-smaller sought o none below next = omega (arith, fewer-unknown none (sought + 1) (sought + 1) (omega arith), low o next)
    where
      low : (o : Option ℕ) → IsNext new sought o → rank o ≤ sought + 1
      low None next = omega arith
      low (Some q) next = omega (arith, next.0)

-- a position that was listed is known no more: what is still known stands in the rest of the list
pub listed-rest : (old new : List (Option Bool)) (listed : List ℕ) (i x : ℕ) → i < length listed → x ≡ get_or listed i x
    → known_at new x ≡ None → ((p : ℕ) → p ≢ x → known_at new p ≡ known_at old p)
    → ((p : ℕ) (b : Bool) → known_at old p ≡ Some b → has ◌==◌ (drop i listed) p ≡ true)
    → (p : ℕ) (b : Bool) → known_at new p ≡ Some b → has ◌==◌ (drop (i + 1) listed) p ≡ true
listed-rest old new listed i x below at cleared others before p b e = go (x == p) refl
  where
    parts : drop i listed ≡ x ∷ drop (i + 1) listed
    parts = drop_more listed i x below ∙ ap (λ (y : ℕ). y ∷ drop (i + 1) listed) (sym at)

    go : (t : Bool) → (x == p) ≡ t → has ◌==◌ (drop (i + 1) listed) p ≡ true
    go true f =
        let same : x ≡ p = grind (arith, nat_tests, f) in
        absurd (none-some b (sym cleared ∙ ap (known_at new) same ∙ e))
    go false f =
        let was : known_at old p ≡ Some b = sym (others p (λ same. let g : ⊥ = grind (arith, nat_tests, f, same) in g)) ∙ e in
        let here : has ◌==◌ (x ∷ drop (i + 1) listed) p ≡ true = subst (λ (l : List ℕ). has ◌==◌ l p ≡ true) parts (before p b was) in
        rw f at here

-- where no listed position is left, nothing is known
pub none-known : (values : List (Option Bool)) (listed : List ℕ) (i : ℕ) → length listed ≤ i
    → ((p : ℕ) (b : Bool) → known_at values p ≡ Some b → has ◌==◌ (drop i listed) p ≡ true) → (p : ℕ) → known_at values p ≡ None
none-known values listed i past left p = go (known_at values p) refl
  where
    go : (o : Option Bool) → known_at values p ≡ o → o ≡ None
    go None e = refl
    go (Some b) e = let here = left p b e in let empty : drop i listed ≡ [] = drop_all i listed past in cc (subst (λ (l : List ℕ). has ◌==◌ l p ≡ true) empty here)
