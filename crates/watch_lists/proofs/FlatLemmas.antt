-- Pieces of a flat list.
use Rattle.std.proofs.Common.{◌≡◌, ℕ, ◌+◌, ◌-◌, ◌<◌, ◌≤◌, List, [], ◌∷◌, ◌++◌, length, refl, sym, ap, ◌∙◌, subst, arith, take, drop, map, ◌⊎◌, inl, inr}
use Rattle.std.proofs.lemmas.List.{same_lists, length-append, get_or-map, length-map, take-append-le, drop-append-le, drop_at, take_all, length-drop, map-append, get_or_append_left, get_or_push, length_push}
use Rattle.watch_lists.specs.Flat.{piece, span_at, no_span, AreSpans}
use Rattle.watch_lists.specs.declared.flat.Span.{Span}

cases3 : (a b : ℕ) → (a < b) ⊎ ((a ≡ b) ⊎ (b < a))
cases3 a b = grind arith

-- one piece more
pub pieces-push : (lits more : List ℕ) (spans : List Span) → AreSpans spans lits
    → map (piece (lits ++ more)) (spans ++ record { start = length lits; end = length lits + length more } ∷ []) ≡ map (piece lits) spans ++ more ∷ []
pieces-push lits more spans are =
    map-append (piece (lits ++ more)) spans _ ∙ (ap (λ (l : List (List ℕ)). l ++ piece (lits ++ more) (record { start = length lits; end = length lits + length more }) ∷ []) old ∙ ap (λ (l : List ℕ). map (piece lits) spans ++ l ∷ []) new)
  where
    new : piece (lits ++ more) (record { start = length lits; end = length lits + length more }) ≡ more
    new = ap (λ (l : List ℕ). take (length lits + length more - length lits) l) (drop_at lits more (length lits) refl) ∙ take_all (length lits + length more - length lits) more (omega arith)

    old : map (piece (lits ++ more)) spans ≡ map (piece lits) spans
    old = same_lists _ _ (omega (arith, length-map spans (piece (lits ++ more)), length-map spans (piece lits)))
        (λ j d h. let b : j < length spans = omega (arith, length-map spans (piece (lits ++ more))) in
        get_or-map (piece (lits ++ more)) spans j no_span d b ∙ (same j b ∙ sym (get_or-map (piece lits) spans j no_span d b)))
      where
        same : (j : ℕ) → j < length spans → piece (lits ++ more) (span_at spans j) ≡ piece lits (span_at spans j)
        same j b =
            let w = are.within j b in
            let low : (span_at spans j).start ≤ length lits = omega (arith, w.0, w.1) in
            ap (λ (l : List ℕ). take ((span_at spans j).end - (span_at spans j).start) l) (drop-append-le (span_at spans j).start lits more low)
            ∙ take-append-le ((span_at spans j).end - (span_at spans j).start) (drop (span_at spans j).start lits) more (omega (arith, length-drop (span_at spans j).start lits, w.0, w.1))

-- its span stands behind those that were there
module _ (lits more : List ℕ) (spans : List Span) (are : AreSpans spans lits) where
  abbrev next : Span
  next = record { start = length lits; end = length lits + length more }

  span-old : (i : ℕ) → i < length spans → span_at (spans ++ next ∷ []) i ≡ span_at spans i
  span-old i h = get_or_append_left spans (next ∷ []) no_span i h

  span-next : (i : ℕ) → i ≡ length spans → span_at (spans ++ next ∷ []) i ≡ next
  span-next i e = subst (λ (k : ℕ). span_at (spans ++ next ∷ []) k ≡ next) (sym e) (get_or_push spans next no_span (length spans) refl)

  within-more : (i : ℕ) → i < length (spans ++ next ∷ []) → (i < length spans) ⊎ ((i ≡ length spans) ⊎ (length spans < i))
      → ((span_at (spans ++ next ∷ []) i).start ≤ (span_at (spans ++ next ∷ []) i).end) × ((span_at (spans ++ next ∷ []) i).end ≤ length (lits ++ more))
  within-more i h (inl less) = subst (λ (s : Span). (s.start ≤ s.end) × (s.end ≤ length (lits ++ more))) (sym (span-old i less))
      ((are.within i less).0, omega (arith, (are.within i less).1, length-append lits more))
  within-more i h (inr (inl same)) = subst (λ (s : Span). (s.start ≤ s.end) × (s.end ≤ length (lits ++ more))) (sym (span-next i same))
      (omega arith, omega (arith, length-append lits more))
  within-more i h (inr (inr past)) = absurd (omega (arith, h, past, length_push spans next))

  pub spans-push : AreSpans (spans ++ record { start = length lits; end = length lits + length more } ∷ []) (lits ++ more)
  spans-push = record {
    within = λ i h. within-more i h (cases3 i (length spans));
  }
