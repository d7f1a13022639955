use Rattle.std.proofs.Common.{◌≡◌, ◌<◌, ◌≤◌, ◌+◌, ◌∙◌, ℕ, List, [], ◌∷◌, ◌++◌, Option, None, inl, inr, length, sym, ap, subst, arith, slice_index_or}
use Rattle.std.specs.Prelude.{slice_index}
use Rattle.std.proofs.lemmas.Bool.{cases_lt}
use Rattle.std.proofs.lemmas.List.{get_or_append_left, get_or_push, get_or_read, length_push, take-append-le}
use Rattle.lits.specs.declared.literal.Lit.{Lit}
use Rattle.flat_base.specs.Codes.{lit_at}
use Rattle.watch_lists.specs.Trail.{put_at, no_put}
use Rattle.watch_lists.specs.declared.put.Put.{Put}
use Rattle.watch_lists.proofs.trail.tell.Goals as goal

abbrev made : Lit → ℕ → Option ℕ → Put
made lit level by = record { lit = lit; level = level; by = by }

same-put : (l m : Lit) (u v : ℕ) (a b : Option ℕ) → l ≡ m → u ≡ v → a ≡ b → made l u a ≡ made m v b
same-put l m u v a b e f g = cc

-- one more put is told
told-more : (puts : List Put) (x : Put) (f : ℕ → Put) (from place : ℕ) → length puts ≡ place → x ≡ f place
    → ((k : ℕ) → from ≤ k → k < place → put_at puts k ≡ f k) → (k : ℕ) → from ≤ k → k < place + 1 → put_at (puts ++ x ∷ []) k ≡ f k
told-more puts x f from place size is told k a b = elim (cases_lt k place) [
  | inl before ↦ get_or_append_left puts (x ∷ []) no_put k (omega arith) ∙ told k a before
  | inr past ↦ let same : k ≡ place = omega arith in
      subst (λ (n : ℕ). put_at (puts ++ x ∷ []) n ≡ f n) (sym same) (get_or_push puts x no_put place size ∙ is)
]

pub loop-place-preserved : goal.loop-place-preserved
loop-place-preserved c =
    let e = c.args.engine.now in
    let old = c.args.puts.now.items in
    let puts = c.loop-place.puts.items in
    let place = c.loop-place.place in
    let is = c.loop-place.invariant in
    let within : place < length e.trail.items = omega (arith, c.loop-place-test.true, c.len-place-end.ensures, e.trail.ok.0) in
    let x = made c.lit_of-lit.result c.len-level.result c.wide-by.result in
    let f : ℕ → Put = λ k. made (lit_at c.args.numbers.now (slice_index e.trail.items k)) (length e.levels.items) (slice_index_or e.reasons.items k None) in
    let next : x ≡ f place = same-put _ _ _ _ _ _
    (c.lit_of-lit.ensures ∙ ap (lit_at c.args.numbers.now) (get_or_read e.trail.items place c.index.result.now within c.index.ensures 0))
    (c.len-level.ensures ∙ e.levels.ok.0)
    (c.wide-by.ensures ∙ get_or_read e.reasons.items place c.index-in-loop-place.result.now (omega (arith, within, c.requires.reasons)) c.index-in-loop-place.ensures None) in
    rw c.push_reserved.ensures.items (record {
      size = omega (arith, length_push puts x, is.size);
      most = omega (arith, is.most);
      kept = take-append-le (length old) puts (x ∷ []) (omega (arith, is.size, is.most)) ∙ is.kept;
      told = told-more puts x f (length old) place is.size next is.told;
      room = c.push_reserved.ensures.capacity ∙ is.room;
    })
