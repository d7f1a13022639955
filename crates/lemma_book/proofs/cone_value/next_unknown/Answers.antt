-- What is left of the list waits no higher, and the position that is taken was in it.
use Rattle.std.proofs.Common.{◌≡◌, ◌≤◌, ◌<◌, ◌++◌, ℕ, List, [], ◌∷◌, length, get_or, ap, ◌∙◌, length-append, arith}
use Rattle.std.proofs.lemmas.List.{get_or_append_left}
use Rattle.lemma_book.proofs.cone_value.next_unknown.Goals as goal

-- the positions before the last one
fewer : (all less : List ℕ) (last most : ℕ) → all ≡ less ++ last ∷ [] → ((k d : ℕ) → k < length all → get_or all k d ≤ most)
    → (k d : ℕ) → k < length less → get_or less k d ≤ most
fewer all less last most is below k d short =
    let count = ap length is ∙ length-append less (last ∷ []) in
    let same = ap (λ (l : List ℕ). get_or l k d) is ∙ get_or_append_left less (last ∷ []) d k short in
    let small = below k d (omega (arith, count, short)) in
    omega (arith, same, small)

pub loop-at-init : goal.loop-at-init
loop-at-init c = c.requires.waiting

pub loop-at-preserved : goal.loop-at-preserved
loop-at-preserved c = fewer c.loop-at.waiting.items c.pop.new.self.items c.in-Some.at c.args.sought c.in-Some.ensures.items c.loop-at.invariant
