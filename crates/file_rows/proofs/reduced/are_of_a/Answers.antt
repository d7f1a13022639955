use Rattle.std.proofs.Common.{◌≡◌, ℕ, zero, suc, ◌+◌, ◌<◌, List, [], ◌∷◌, take, length, arith}
use Rattle.std.specs.Prelude.{slice_get, IfSome}
use Rattle.std.specs.List.{AllByRecursion}
use Rattle.fraig_write.specs.Mirror.{IsOfA}
use Rattle.file_rows.proofs.reduced.are_of_a.Goals as goal

-- one more of the first elements
next : {X : Type 0} (P : X → Type 0) (xs : List X) (k : ℕ) → k < length xs → IfSome (slice_get xs k) P
    → AllByRecursion P (take k xs) → AllByRecursion P (take (k + 1) xs)
next P [] k below one all = absurd (omega (arith, below))
next P (x ∷ xs) zero below one all = (one, tt)
next P (x ∷ xs) (suc k) below one all =
    let more : suc k + 1 ≡ suc (k + 1) = omega arith in
    rw more (all.0, next P xs k (omega (arith, below)) one all.1)

pub loop-place-preserved : goal.loop-place-preserved
loop-place-preserved c =
    next IsOfA c.args.book.now.entries c.loop-place.place (omega (arith, c.loop-place-test.true, c.len-place-end.ensures))
    c.if-not-is_of_a.ensures c.loop-place.invariant
