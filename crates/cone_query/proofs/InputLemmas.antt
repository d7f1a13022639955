-- The input of a model, literal by literal.
use Rattle.std.proofs.Common.{◌≡◌, ◌≢◌, ℕ, ◌+◌, ◌<◌, Bool, true, false, ◌&&◌, ◌||◌, List, [], ◌∷◌, ◌++◌, length, set, take, drop, get_or, zero, suc, replicate, refl, sym, ap, ◌∙◌, subst, arith, length-set, get_or-set_same, get_or-set_other}
use Rattle.std.specs.Prelude.{◌==◌, if◌then◌else◌}
use Rattle.std.specs.Option.{IsSome}
use Rattle.std.proofs.lemmas.Bool.Decides.{nat_tests}
use Rattle.std.proofs.lemmas.List.{same_lists, take_more, take_at, get_or-replicate, length-replicate}
use Rattle.std.proofs.lemmas.List.Folds.{list_any-append}
use Rattle.std.proofs.lemmas.List.FromFn.{length-map-range_with_len, get_or-map-range_with_len}
use Rattle.std.proofs.Math.Bool.{and-false, or-false, or-true}
use Rattle.lits.specs.Clause.{has}
use Rattle.lits.specs.declared.node.Node.{Node}
use Rattle.lits.specs.declared.node.Node.TheVariants.{Const, Input, Gate, Xor}
use Rattle.lits.specs.declared.literal.Lit.{Lit}
use Rattle.netlist.specs.Net.{AigPair}
use Rattle.lits.specs.Same.{same_node, same_lit}
use Rattle.netlist.specs.Miter.{positive, variable_of}
use Rattle.netlist.proofs.Facts.{has-position, input-below}
use Rattle.lemma_book.specs.Cone.{AreThere}
use Rattle.lemma_book.proofs.Facts.{is_some-variable}
use Rattle.cone_query.specs.Input.{input_from, marked, marked_at, IsBelow}

module _ (net : AigPair) where
  pub length-input_from : (model : List Lit) → length (input_from net model) ≡ length net.a.inputs
  length-input_from model = length-map-range_with_len (λ k. has same_lit model (positive (Input k))) 0 (length net.a.inputs)

  pub input_from-at : (model : List Lit) (k : ℕ) (d : Bool) → k < length net.a.inputs → get_or (input_from net model) k d ≡ has same_lit model (positive (Input k))
  input_from-at model k d below =
      get_or-map-range_with_len (λ i. has same_lit model (positive (Input i))) 0 (length net.a.inputs) k k d below (omega arith)

  -- at the start all inputs are false
  pub input_from-nothing : (n : ℕ) → n ≡ length net.a.inputs → replicate n false ≡ input_from net []
  input_from-nothing n count =
      same_lists (replicate n false) (input_from net []) (length-replicate n false ∙ count ∙ sym (length-input_from []))
      (λ k d below.
      let inside : k < n = omega (arith, length-replicate n false) in
      get_or-replicate n k false d inside ∙ sym (input_from-at [] k d (omega arith)))

  -- an input with a variable is below the number of inputs
  pub there-below : (n : Node) → IsSome (variable_of net n) → IsBelow (length net.a.inputs) n
  there-below Const there = tt
  there-below (Gate s v) there = tt
  there-below (Xor j) there = tt
  there-below (Input k) there = input-below net k (has-position net (Input k) (λ j. refl) (sym (is_some-variable net (Input k)) ∙ there))

  -- one more literal that isn't that of an input
  input_from-other : (model : List Lit) (l : Lit) → ((k : ℕ) → same_lit l (positive (Input k)) ≡ false)
      → input_from net model ≡ input_from net (model ++ l ∷ [])
  input_from-other model l apart =
      same_lists (input_from net model) (input_from net (model ++ l ∷ [])) (length-input_from model ∙ sym (length-input_from (model ++ l ∷ [])))
      (λ k d below.
      let inside : k < length net.a.inputs = omega (arith, length-input_from model) in
      input_from-at model k d inside ∙ sym (input_from-at (model ++ l ∷ []) k d inside
      ∙ list_any-append (λ y. same_lit y (positive (Input k))) model (l ∷ []) ∙ rw (apart k) (or-false (has same_lit model (positive (Input k))))))

  input_from-input : (model : List Lit) (i : ℕ) → i < length net.a.inputs
      → set (input_from net model) i true ≡ input_from net (model ++ positive (Input i) ∷ [])
  input_from-input model i below =
      same_lists (set (input_from net model) i true) (input_from net (model ++ positive (Input i) ∷ []))
      (length-set (input_from net model) i true ∙ length-input_from model ∙ sym (length-input_from (model ++ positive (Input i) ∷ [])))
      (λ k d at.
      let inside : k < length net.a.inputs = omega (arith, length-set (input_from net model) i true, length-input_from model) in
      go k d inside (i == k) refl
      ∙ sym (input_from-at (model ++ positive (Input i) ∷ []) k d inside ∙ list_any-append (λ y. same_lit y (positive (Input k))) model (positive (Input i) ∷ [])))
    where
      go : (k : ℕ) (d : Bool) → k < length net.a.inputs → (b : Bool) → (i == k) ≡ b
          → get_or (set (input_from net model) i true) k d ≡ (has same_lit model (positive (Input k)) || (same_lit (positive (Input i)) (positive (Input k)) || false))
      go k d inside true e =
          let same : i ≡ k = grind (arith, nat_tests) in
          let within : i < length (input_from net model) = omega (arith, length-input_from model) in
          subst (λ (n : ℕ). get_or (set (input_from net model) i true) n d ≡ true) same (get_or-set_same (input_from net model) i true d within)
          ∙ sym (ap (λ (b : Bool). has same_lit model (positive (Input k)) || ((b && true) || false)) e ∙ or-true (has same_lit model (positive (Input k))))
      go k d inside false e =
          let other : k ≢ i = grind (arith, nat_tests) in
          get_or-set_other (input_from net model) i k true d other ∙ input_from-at model k d inside
          ∙ sym (ap (λ (b : Bool). has same_lit model (positive (Input k)) || ((b && true) || false)) e ∙ or-false (has same_lit model (positive (Input k))))

  -- one more literal
  pub input_from-more : (model : List Lit) (l : Lit) → IsBelow (length net.a.inputs) l.node
      → marked l (input_from net model) ≡ input_from net (model ++ l ∷ [])
  input_from-more model l below = go l.neg l.node below
    where
      go : (neg : Bool) (n : Node) → IsBelow (length net.a.inputs) n
          → (if neg then input_from net model else marked_at n (input_from net model)) ≡ input_from net (model ++ record { node = n; neg = neg } ∷ [])
      go true n at = input_from-other model (record { node = n; neg = true }) (λ k. and-false (same_node n (Input k)))
      go false Const at = input_from-other model (positive Const) (λ k. refl)
      go false (Gate s v) at = input_from-other model (positive (Gate s v)) (λ k. refl)
      go false (Xor j) at = input_from-other model (positive (Xor j)) (λ k. refl)
      go false (Input i) at = input_from-input model i at

  -- each literal's input is below, where the literals are over nodes with variables
  pub below-at : (model : List Lit) (k : ℕ) (d : Lit) (bits : List Bool) → AreThere net model → k < length model → length bits ≡ length net.a.inputs
      → IsBelow (length bits) (get_or model k d).node
  below-at model k d bits there inside count =
      subst (λ (n : ℕ). IsBelow n (get_or model k d).node) (sym count) (there-below (get_or model k d).node (at model k there inside))
    where
      at : (ls : List Lit) (i : ℕ) → AreThere net ls → i < length ls → IsSome (variable_of net (get_or ls i d).node)
      at [] i all l = absurd (omega arith)
      at (l ∷ ls) zero all h = all.0
      at (l ∷ ls) (suc i) all h = at ls i all.1 (omega arith)

  -- the input so far, with that of the next literal
  pub input_from-next : (model : List Lit) (k : ℕ) (d : Lit) (old lent new : List Bool) (len : ℕ) → AreThere net model → k < length model
      → old ≡ input_from net (take k model) → lent ≡ old → len ≡ length old → new ≡ marked (get_or model k d) lent
      → take len (new ++ drop (length new) old) ≡ input_from net (take (k + 1) model)
  input_from-next model k d old lent new len there inside so_far lend count mark =
      take_at new (drop (length new) old) len (same_length ∙ sym count)
      ∙ marks ∙ ap (input_from net) (sym (take_more model k d inside))
    where
      length_old : length old ≡ length net.a.inputs
      length_old = ap length so_far ∙ length-input_from (take k model)

      marks : new ≡ input_from net (take k model ++ get_or model k d ∷ [])
      marks =
          mark ∙ ap (marked (get_or model k d)) (lend ∙ so_far)
          ∙ input_from-more (take k model) (get_or model k d)
          (subst (λ (n : ℕ). IsBelow n (get_or model k d).node) length_old (below-at model k d old there inside length_old))

      same_length : length new ≡ length old
      same_length = ap length marks ∙ length-input_from (take k model ++ get_or model k d ∷ []) ∙ sym length_old
