use Rattle.std.proofs.Common.{◌≡◌, ◌∙◌, ℕ, ◌+◌, ◌<◌, ◌++◌, Bool, true, false, List, [], ◌∷◌, cond, not, get_or, length, map, take, sym, ap}
use Rattle.std.specs.List.{filter}
use Rattle.std.proofs.lemmas.List.{take_all, map-append, append-nil}
use Rattle.std.proofs.lemmas.List.Elements.{filter_more}
use Rattle.lits.specs.Same.{same_lit, opposite}
use Rattle.lits.specs.declared.literal.Lit.{Lit}
use Rattle.unit_prop.specs.New.{others_negated}
use Rattle.lemma_book.proofs.newness.others_negated.Goals.{then-ne+in_ok-push, else-ne}
use Rattle.lemma_book.proofs.newness.others_negated.Goals as goal

-- the negations of one literal more
others-more : (xs : List Lit) (lit d : Lit) (i : ℕ) (b : Bool) → i < length xs → b ≡ not (same_lit (get_or xs i d) lit)
    → others_negated same_lit opposite (take (i + 1) xs) lit
    ≡ others_negated same_lit opposite (take i xs) lit ++ map opposite (cond b (get_or xs i d ∷ []) [])
others-more xs lit d i b below is =
    ap (map opposite) (filter_more (λ m. not (same_lit m lit)) xs i d below)
    ∙ map-append opposite (filter (λ m. not (same_lit m lit)) (take i xs)) (cond (not (same_lit (get_or xs i d) lit)) (get_or xs i d ∷ []) [])
    ∙ ap (λ c. others_negated same_lit opposite (take i xs) lit ++ map opposite (cond c (get_or xs i d ∷ []) [])) (sym is)

pub returns : goal.returns
returns c =
    c.loop-other.invariant ∙ ap (λ xs. others_negated same_lit opposite xs c.args.lit) (take_all c.loop-other.other-index c.args.clause.now c.loop-other-test.false)

pub loop-other-preserved : goal.loop-other-preserved
loop-other-preserved c =
    let more = λ (b : Bool) (is : c.ne.result ≡ b). others-more c.args.clause.now c.args.lit _ c.loop-other.other-index b c.loop-other-test.true (sym is ∙ c.ne.ensures) in
    elim c.if-ne.branch [
      | then-ne+in_ok-push w ↦ cc (more true w.if-ne.true, w.in_ok-push.ensures.items, w.not.ensures)
      | else-ne w ↦ cc (more false w.if-ne.false, append-nil c.loop-other.others.items)
    ]
