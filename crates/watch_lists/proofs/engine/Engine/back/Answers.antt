use Rattle.std.proofs.Common.{refl, ℕ, List, ◌≡◌, ◌-◌, true, false, ap, sym, ◌∙◌, subst, length, take, drop, nat_eq}
use Rattle.std.specs.Prelude.{slice_index_or, not, ◌&&◌}
use Rattle.std.proofs.lemmas.List.{take_rest, get_or_read}
use Rattle.lits.specs.Clause.{has}
use Rattle.watch_lists.specs.State.{no_level}
use Rattle.watch_lists.proofs.TrailLemmas.{trail-below}
use Rattle.watch_lists.proofs.BackLemmas.{engine-cut, has-drop}
use Rattle.watch_lists.proofs.engine.Engine.back.Goals as goal

pub unmark-requires : goal.unmark-requires
unmark-requires c = λ l h.
    let e = c.args.self.now in
    let start = c.index-level.result.now.start in
    let inside : has nat_eq (drop start e.trail.items) l ≡ true =
    subst (λ (z : List ℕ). has nat_eq z l ≡ true) (ap (λ (z : List ℕ). take (length z - start) (drop start z)) c.as_slice.ensures.value ∙ take_rest e.trail.items start) h in
    trail-below c.requires.engine.trail l (has-drop start e.trail.items l inside)

pub returns-clause-engine : goal.returns-clause-engine
returns-clause-engine c =
    let e = c.args.self.now in
    let level = c.index-level.result.now in
    let start = level.start in
    let is = get_or_read e.levels.items c.args.count level c.requires.count c.index-level.ensures no_level in
    let same : take (length c.as_slice.result.now - start) (drop start c.as_slice.result.now) ≡ drop start e.trail.items =
    ap (λ (z : List ℕ). take (length z - start) (drop start z)) c.as_slice.ensures.value ∙ take_rest e.trail.items start in
    engine-cut e _ c.args.count level c.requires.engine (record {
      clauses = refl;
      pairs = refl;
      lists = refl;
      size = c.unmark.ensures.len;
      marks = λ l. c.unmark.ensures.marks l ∙ ap (λ (z : List ℕ). slice_index_or e.truth.items l false && not (has nat_eq z l)) same;
      places = refl;
      trail = c.truncate.ensures.items;
      reasons = c.truncate-2.ensures.items;
      levels = c.truncate-3.ensures.items;
      head = refl;
    }) c.requires.count is

pub returns-clause-cut : goal.returns-clause-cut
returns-clause-cut c =
    let e = c.args.self.now in
    let level = c.index-level.result.now in
    let start = level.start in
    let is = get_or_read e.levels.items c.args.count level c.requires.count c.index-level.ensures no_level in
    let same : take (length c.as_slice.result.now - start) (drop start c.as_slice.result.now) ≡ drop start e.trail.items =
    ap (λ (z : List ℕ). take (length z - start) (drop start z)) c.as_slice.ensures.value ∙ take_rest e.trail.items start in
    rw (sym is) (record {
      clauses = refl;
      pairs = refl;
      lists = refl;
      size = c.unmark.ensures.len;
      marks = λ l. c.unmark.ensures.marks l ∙ ap (λ (z : List ℕ). slice_index_or e.truth.items l false && not (has nat_eq z l)) same;
      places = refl;
      trail = c.truncate.ensures.items;
      reasons = c.truncate-2.ensures.items;
      levels = c.truncate-3.ensures.items;
      head = refl;
    })
