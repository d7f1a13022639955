-- The constraints of a side, one after another: those so far with the next one, and that a place without one is behind
-- them all.
use Rattle.std.proofs.Common.{◌≡◌, ℕ, ◌+◌, ◌<◌, ◌≤◌, Some, None, List, [], ◌∷◌, ◌++◌, map, take, length, sym, ap, ◌∙◌, inl, inr, arith}
use Rattle.std.specs.Prelude.{slice_get}
use Rattle.std.specs.Option.{option_map}
use Rattle.std.proofs.lemmas.List.{append_assoc, length-map, take_all}
use Rattle.std.proofs.lemmas.Option.{none-some, slice_get_cases, slice_get_within, slice_get-map}
use Rattle.lits.specs.declared.node.Side.{Side}
use Rattle.lits.specs.declared.literal.Lit.{Lit}
use Rattle.lits.specs.declared.step.Ref.TheVariants.{Bound}
use Rattle.lits.specs.declared.step.Named.{Named}
use Rattle.lits.proofs.Facts.{take_next}
use Rattle.netlist.specs.Circuit.{most}
use Rattle.netlist.specs.Net.{AigPair, IsNet, circuit_of, lit_named, bounds_on, bound_of}
use Rattle.netlist.specs.Miter.{unit}
use Rattle.netlist.proofs.Facts.{is_circuit}
use Rattle.lemma_book.specs.Cone.{named_from, named_bounds}
use Rattle.lemma_book.proofs.AxiomLemmas.{named-next}

past : {X : Type 0} (xs : List X) (k : ℕ) → slice_get xs k ≡ None → length xs ≤ k
past xs k none = elim (slice_get_cases xs k).1 [
  | inl found ↦ absurd (none-some found.0 (sym none ∙ found.2))
  | inr behind ↦ behind.0
]

module _ (net : AigPair) (side : Side) (k : ℕ) where
  -- a constraint's place is below their number, which is small
  pub bound-below : (l : Lit) → bound_of net side k ≡ Some l → k < length (bounds_on net side)
  bound-below l at = slice_get_within (bounds_on net side) k l at

  pub bound-few : IsNet net → (l : Lit) → bound_of net side k ≡ Some l → k < most
  bound-few is l at =
      let below = bound-below l at in
      let count = length-map (circuit_of net side).constraints (lit_named side (circuit_of net side)) in
      let few = (is_circuit net is side).constraint_count in
      omega (arith, below, count, few)

  -- the literals so far, and the next one
  pub bounds-next : (l : Lit) (before old new : List Lit) → bound_of net side k ≡ Some l → old ≡ before ++ take k (bounds_on net side)
      → new ≡ old ++ l ∷ [] → new ≡ before ++ take (k + 1) (bounds_on net side)
  bounds-next l before old new at so_far pushed =
      pushed ∙ ap (λ (ls : List Lit). ls ++ l ∷ []) so_far ∙ append_assoc before (take k (bounds_on net side)) (l ∷ [])
      ∙ ap (λ (ls : List Lit). before ++ ls) (sym (take_next (bounds_on net side) k l at))

  pub bounds-end : (before all : List Lit) → bound_of net side k ≡ None → all ≡ before ++ take k (bounds_on net side) → all ≡ before ++ bounds_on net side
  bounds-end before all none so_far =
      so_far ∙ ap (λ (ls : List Lit). before ++ ls) (take_all k (bounds_on net side) (past (bounds_on net side) k none))

  -- so with the units and their names
  pub units-next : (l : Lit) (before old new : List Named) → bound_of net side k ≡ Some l
      → old ≡ before ++ named_from (Bound side) 0 (take k (map unit (bounds_on net side)))
      → new ≡ old ++ record { clause = unit l; by = Bound side k } ∷ []
      → new ≡ before ++ named_from (Bound side) 0 (take (k + 1) (map unit (bounds_on net side)))
  units-next l before old new at so_far pushed =
      named-next (Bound side) (map unit (bounds_on net side)) k (unit l) before old new
      (slice_get-map unit (bounds_on net side) k ∙ ap (option_map unit) at) so_far pushed

  pub units-end : (before all : List Named) → bound_of net side k ≡ None
      → all ≡ before ++ named_from (Bound side) 0 (take k (map unit (bounds_on net side))) → all ≡ before ++ named_bounds net side
  units-end before all none so_far =
      let behind = past (bounds_on net side) k none in
      let count = length-map (bounds_on net side) unit in
      so_far
      ∙ ap (λ (cs : List (List Lit)). before ++ named_from (Bound side) 0 cs) (take_all k (map unit (bounds_on net side)) (omega (arith, behind, count)))
