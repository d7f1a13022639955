-- The clause's span is in the list of all codes.
use Rattle.std.proofs.Common.{◌≡◌, ℕ, ◌-◌, ◌<◌, ◌≤◌, List, [], length, map, take, drop, get_or, ap, sym, subst, ◌∙◌, arith}
use Rattle.std.proofs.lemmas.List.{get_or_read, get_or-map, length-map}
use Rattle.watch_lists.specs.Flat.{AreSpans, piece, no_span}
use Rattle.watch_lists.specs.declared.flat.Span.{Span}
use Rattle.watch_lists.proofs.flat.Flat.get.Goals as goal

module _ (lits : List ℕ) (spans : List Span) (now : List (List ℕ)) (at : ℕ) (span : Span) (view : map (piece lits) spans ≡ now) (below : at < length now) where
  inside : at < length spans
  inside = omega (arith, below, ap length view, length-map spans (piece lits))

  span-inside : AreSpans spans lits → span ≡ get_or spans at span → (span.start ≤ span.end) × (span.end ≤ length lits)
  span-inside are read =
      subst (λ (s : Span). (s.start ≤ s.end) × (s.end ≤ length lits)) (sym (get_or_read spans at span inside read no_span)) (are.within at inside)

  span-piece : span ≡ get_or spans at span → piece lits span ≡ get_or now at []
  span-piece read =
      ap (piece lits) (get_or_read spans at span inside read no_span)
      ∙ (sym (get_or-map (piece lits) spans at no_span [] inside) ∙ ap (λ (z : List (List ℕ)). get_or z at []) view)

pub index-span-requires : goal.index-span-requires
index-span-requires c =
    omega (arith, inside c.self.inside.lits.items c.self.inside.spans.items c.args.self.now c.args.at no_span c.self.view_is c.requires, c.self.inside.spans.ok.0)

pub offset_bounds-as_slice-span : goal.offset_bounds-as_slice-span
offset_bounds-as_slice-span c =
    let here = span-inside c.self.inside.lits.items c.self.inside.spans.items c.args.self.now c.args.at c.index-span.result.now c.self.view_is c.requires c.self.invariant c.index-span.ensures in
    omega (arith, here.0, here.1, ap length c.as_slice.ensures.value, c.as_slice.type_inv.1)

pub slice_bounds-result-count : goal.slice_bounds-result-count
slice_bounds-result-count c =
    (span-inside c.self.inside.lits.items c.self.inside.spans.items c.args.self.now c.args.at c.index-span.result.now c.self.view_is c.requires c.self.invariant c.index-span.ensures).0

pub slice_bounds-result-start : goal.slice_bounds-result-start
slice_bounds-result-start c =
    (span-inside c.self.inside.lits.items c.self.inside.spans.items c.args.self.now c.args.at c.index-span.result.now c.self.view_is c.requires c.self.invariant c.index-span.ensures).0

pub slice_bounds-result-end : goal.slice_bounds-result-end
slice_bounds-result-end c =
    subst (λ (l : List ℕ). c.index-span.result.now.end ≤ length l) (sym c.as_slice.ensures.value)
    (span-inside c.self.inside.lits.items c.self.inside.spans.items c.args.self.now c.args.at c.index-span.result.now c.self.view_is c.requires c.self.invariant c.index-span.ensures).1

pub returns : goal.returns
returns c =
    let span = c.index-span.result.now in
    ap (λ (z : List ℕ). take (span.end - span.start) (drop span.start z)) c.as_slice.ensures.value
    ∙ span-piece c.self.inside.lits.items c.self.inside.spans.items c.args.self.now c.args.at span c.self.view_is c.requires c.index-span.ensures
