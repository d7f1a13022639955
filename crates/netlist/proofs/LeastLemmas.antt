-- The least number that passes a test.
use Rattle.std.proofs.Common.{◌≡◌, ℕ, zero, suc, ◌+◌, ◌-◌, ◌<◌, Bool, true, false, cond, Option, None, Some, [], ◌∷◌, refl, sym, ap, ◌∙◌, subst, arith, add-one, zero-add}
use Rattle.std.specs.List.{find, range_with_len}
use Rattle.std.specs.Option.{option_or}
use Rattle.std.proofs.lemmas.Option.{none-some}
use Rattle.std.proofs.lemmas.List.Folds.{find-append}
use Rattle.lits.proofs.Facts.{range-more}
use Rattle.netlist.specs.ByName.{least}

-- one number more
least-more : (test : ℕ → Bool) (n : ℕ) → least test (suc n) ≡ option_or (least test n) (cond (test n) (Some n) None)
least-more test n =
    ap (find test) (range-more 0 n)
    ∙ find-append test (range_with_len 0 n) ((0 + n) ∷ [])
    ∙ ap (λ (k : ℕ). option_or (least test n) (cond (test k) (Some k) None)) (zero-add n)

-- none of the first n passes, nor does n
pub least-next : (test : ℕ → Bool) (n : ℕ) → least test n ≡ None → test n ≡ false → least test (n + 1) ≡ None
least-next test n before here = ap (least test) (add-one n) ∙ least-more test n ∙ rw (before, here) refl

-- none of the first k passes, and k does
pub least-here : (test : ℕ → Bool) (k n : ℕ) → k < n → least test k ≡ None → test k ≡ true → least test n ≡ Some k
least-here test k n below before here =
    let whole : (n - suc k) + suc k ≡ n = omega arith in subst (λ (m : ℕ). least test m ≡ Some k) whole (from (n - suc k))
  where
    from : (d : ℕ) → least test (d + suc k) ≡ Some k
    from zero = ap (least test) (zero-add (suc k)) ∙ least-more test k ∙ rw (before, here) refl
    from (suc d) =
        let next : suc d + suc k ≡ suc (d + suc k) = omega arith in
        ap (least test) next ∙ least-more test (d + suc k) ∙ rw (from d) refl

-- where none passes, each fails
pub least-none : (test : ℕ → Bool) (n k : ℕ) → least test n ≡ None → k < n → test k ≡ false
least-none test n k none below = go (test k) refl
  where
    earlier : (m : ℕ) → least test (m + suc k) ≡ None → least test (suc k) ≡ None
    earlier zero e = ap (least test) (sym (zero-add (suc k))) ∙ e
    earlier (suc m) e =
        let next : suc m + suc k ≡ suc (m + suc k) = omega arith in
        earlier m (first (least test (m + suc k)) _ (sym (least-more test (m + suc k)) ∙ ap (least test) (sym next) ∙ e))
      where
        first : (a b : Option ℕ) → option_or a b ≡ None → a ≡ None
        first None b f = refl
        first (Some j) b f = absurd (none-some j (sym f))

    until : least test (suc k) ≡ None
    until = let whole : (n - suc k) + suc k ≡ n = omega arith in earlier (n - suc k) (ap (least test) whole ∙ none)

    last : (a : Option ℕ) (b : Bool) → option_or a (cond b (Some k) None) ≡ None → b ≡ false
    last None true e = absurd (none-some k (sym e))
    last None false e = refl
    last (Some j) b e = absurd (none-some j (sym e))

    go : (b : Bool) → test k ≡ b → test k ≡ false
    go b is = last (least test k) (test k) (sym (least-more test k) ∙ until)
