-- Which cause against names is the first, after the places that were passed.
use Rattle.std.proofs.Common.{◌≡◌, ℕ, ◌+◌, true, false, not, Option, None, Some, List, [], ◌∷◌, ◌++◌, length, map, get_or, refl, sym, ap, ◌∙◌, arith, inl, inr, Result, Ok, Err, MatchResult}
use Rattle.std.specs.List.{range_with_len}
use Rattle.std.specs.Option.{option_map, option_or, is_some}
use Rattle.std.proofs.lemmas.List.FromFn.{map-range_with_len_more}
use Rattle.std.proofs.lemmas.Option.{none-some}
use Rattle.lits.specs.declared.node.Side.TheVariants.{A, B}
use Rattle.symbol_names.specs.NameList.{name_at}
use Rattle.netlist.specs.declared.port.Port.{Port}
use Rattle.netlist.specs.declared.unlike.Unlike.{Unlike}
use Rattle.netlist.specs.declared.unlike.Unlike.TheVariants.{NoName, Doubled, Missing}
use Rattle.netlist.specs.ByName.{same_name, place_named, has_name, nameless, doubled, missing, unlike_sides, unlike_names, at_name, in_order, IsTold}
use Rattle.netlist.proofs.ArrangedLemmas.{ArePaired}
use Rattle.netlist.proofs.PlaceLemmas.{is_some-place}

module _ (port : Port) (a b : List (Option (List ℕ))) where
  pub sides-unnamed_a : (e : Unlike) → option_map (NoName A port) (nameless a) ≡ Some e → IsTold (unlike_sides port a b) e
  unfolding unlike_sides
  sides-unnamed_a e h = inl (rw h refl)

  pub sides-unnamed_b : (e : Unlike) → nameless a ≡ None → option_map (NoName B port) (nameless b) ≡ Some e → IsTold (unlike_sides port a b) e
  unfolding unlike_sides
  sides-unnamed_b e named h = inl (rw (named, h) refl)

  pub sides-doubled_a : (e : Unlike) → nameless a ≡ None → nameless b ≡ None → IsTold (option_map (Doubled A port) (doubled a)) e → IsTold (unlike_sides port a b) e
  unfolding unlike_sides
  sides-doubled_a e named_a named_b told = elim told [ inl h ↦ inl (rw (named_a, named_b, h) refl) | inr free ↦ inr free ]

  pub sides-doubled_b : {T : Type 0} (P : T → Type 0) (r : Result T Unlike) → nameless a ≡ None → nameless b ≡ None → doubled a ≡ None
      → MatchResult r (λ t. (doubled b ≡ None) × P t) (IsTold (option_map (Doubled B port) (doubled b)))
      → MatchResult r (λ t. (unlike_sides port a b ≡ None) × P t) (IsTold (unlike_sides port a b))
  unfolding unlike_sides
  sides-doubled_b P (Ok t) named_a named_b distinct h = (rw (named_a, named_b, distinct, h.0) refl, h.1)
  sides-doubled_b P (Err e) named_a named_b distinct h = rw (named_a, named_b, distinct) h

  pub names-sides : (e : Unlike) → IsTold (unlike_sides port a b) e → IsTold (unlike_names port a b) e
  unfolding unlike_names
  names-sides e told = elim told [ inl h ↦ inl (rw h refl) | inr free ↦ inr free ]

  pub names-missing : (k : ℕ) → unlike_sides port a b ≡ None → missing b a ≡ Some k → IsTold (unlike_names port a b) (Missing port k)
  unfolding unlike_names
  names-missing k sides there = inl (rw (sides, there) refl)

  pub names-none : unlike_sides port a b ≡ None → missing b a ≡ None → unlike_names port a b ≡ None
  unfolding unlike_names
  names-none sides there = rw (sides, there) refl

  -- names without a cause against them are paired
  pub names-paired : length a ≡ length b → unlike_names port a b ≡ None → ArePaired a b
  unfolding unlike_names unlike_sides
  names-paired count none =
      let top = both (unlike_sides port a b) _ none in
      let one = both (option_map (NoName A port) (nameless a)) _ top.0 in
      let two = both (option_map (NoName B port) (nameless b)) _ one.1 in
      let three = both (option_map (Doubled A port) (doubled a)) _ two.1 in
      record { distinct = plain (doubled a) (Doubled A port) three.0; there = plain (missing b a) (Missing port) top.1; count = count }
    where
      both : (x y : Option Unlike) → option_or x y ≡ None → (x ≡ None) × (y ≡ None)
      both None y e = (refl, e)
      both (Some u) y e = absurd (none-some u (sym e))

      plain : (o : Option ℕ) (f : ℕ → Unlike) → option_map f o ≡ None → o ≡ None
      plain None f e = refl
      plain (Some k) f e = absurd (none-some (f k) (sym e))

-- a name that has no place is missing, one that has a place isn't
pub missing-none : (b : List (Option (List ℕ))) (name : Option (List ℕ)) → place_named b name ≡ None → not (has_name b name) ≡ true
missing-none b name none = rw (sym (is_some-place (same_name name) b) ∙ ap is_some none) refl

pub missing-some : (b : List (Option (List ℕ))) (name : Option (List ℕ)) (p : ℕ) → place_named b name ≡ Some p → not (has_name b name) ≡ false
missing-some b name p some = rw (sym (is_some-place (same_name name) b) ∙ ap is_some some) refl

-- one more element in A's order
pub ordered-next : (a b : List (Option (List ℕ))) (xs old new : List ℕ) (k p : ℕ) → place_named b (name_at a k) ≡ Some p
    → old ≡ map (at_name a b xs) (range_with_len 0 k) → new ≡ old ++ get_or xs p 0 ∷ []
    → new ≡ map (at_name a b xs) (range_with_len 0 (k + 1))
ordered-next a b xs old new k p at before pushed =
    let here : at_name a b xs k ≡ get_or xs p 0 = rw at refl in
    pushed ∙ ap (λ (ys : List ℕ). ys ++ get_or xs p 0 ∷ []) before
    ∙ ap (λ (x : ℕ). map (at_name a b xs) (range_with_len 0 k) ++ x ∷ []) (sym here)
    ∙ sym (map-range_with_len_more (at_name a b xs) 0 k k (omega arith))

pub ordered-all : (a b : List (Option (List ℕ))) (xs old : List ℕ) (k : ℕ) → length a ≡ k → old ≡ map (at_name a b xs) (range_with_len 0 k) → old ≡ in_order a b xs
unfolding in_order
ordered-all a b xs old k count is = is ∙ ap (λ (n : ℕ). map (at_name a b xs) (range_with_len 0 n)) (sym count)
