-- A book's entries place by place, as they are numbered and written.
use Rattle.std.proofs.Common.{◌≡◌, ℕ, zero, suc, ◌+◌, ◌≤◌, Bool, true, false, Option, Some, None, List, [], ◌∷◌, ◌++◌, map, filter, length, take, drop, refl, sym, ap, ◌∙◌, subst, append_assoc, append-nil, arith}
use Rattle.std.specs.Prelude.{slice_get, codes, if◌then◌else◌}
use Rattle.std.specs.List.{flat_map, AllByRecursion}
use Rattle.std.proofs.lemmas.Option.{none-some, same_Some}
use Rattle.std.proofs.lemmas.List.{take_all}
use Rattle.std.proofs.lemmas.List.Concat.{flat_map-append}
use Rattle.std.proofs.Math.ListN.{drop_of_length-le}
use Rattle.lits.proofs.Facts.{take_next, all-append}
use Rattle.lemma_book.specs.declared.entry.Entry.{Entry}
use Rattle.lemma_book.specs.declared.entry.Entry.TheVariants.{Merge, Apart, Spent, Out, OutApart, OutSpent}
use Rattle.lits.specs.declared.step.Step.{Step}
use Rattle.keep_lemmas.specs.Kept.{renewed_step}
use Rattle.tokens.specs.Text.{ended, joined}
use Rattle.book_file.specs.Loaded.{number_in, renumbered}
use Rattle.book_file.specs.Writing.{is_lemma, numbers_from, entry_lines, step_words, step_lines, lines_of, book_text}

-- ---- numbers

drop-next : {X : Type 0} (xs : List X) (p : ℕ) (x : X) → slice_get xs p ≡ Some x → drop p xs ≡ x ∷ drop (p + 1) xs
drop-next [] p x at = absurd (none-some x at)
drop-next (y ∷ ys) zero x at = ap (λ (z : _). z ∷ ys) (same_Some y x at)
drop-next (y ∷ ys) (suc p) x at = let k : suc p + 1 ≡ suc (p + 1) = omega arith in rw k (drop-next ys p x at)

module _ (es : List Entry) (numbers : List (Option ℕ)) (next p : ℕ) (e : Entry) (at : slice_get es p ≡ Some e)
    (so_far : numbers_from 0 es ≡ numbers ++ numbers_from next (drop p es)) where
  -- a lemma has the next number, and another entry none
  pub numbers-step : (numbers' : List (Option ℕ)) (number : Option ℕ) (count : ℕ) → numbers' ≡ numbers ++ number ∷ []
      → number ≡ (if is_lemma e then Some next else None) → count ≡ (if is_lemma e then 1 else 0)
      → numbers_from 0 es ≡ numbers' ++ numbers_from (next + count) (drop (p + 1) es)
  numbers-step numbers' number count more is is' =
      so_far ∙ ap (λ (l : List Entry). numbers ++ numbers_from next l) (drop-next es p e at) ∙ go (is_lemma e) refl
    where
      go : (b : Bool) → is_lemma e ≡ b → numbers ++ numbers_from next (e ∷ drop (p + 1) es) ≡ numbers' ++ numbers_from (next + count) (drop (p + 1) es)
      go true f =
          let one : count ≡ 1 = is' ∙ rw f refl in
          let own : number ≡ Some next = is ∙ rw f refl in
          rw (f, more, one, own) (sym (append_assoc numbers (Some next ∷ []) (numbers_from (next + 1) (drop (p + 1) es))))
      go false f =
          let none : count ≡ 0 = is' ∙ rw f refl in
          let same : next + count ≡ next = omega arith in
          let own : number ≡ None = is ∙ rw f refl in
          rw (f, more, same, own) (sym (append_assoc numbers (None ∷ []) (numbers_from next (drop (p + 1) es))))

pub numbers-all : (es : List Entry) (numbers : List (Option ℕ)) (next p : ℕ) → length es ≤ p
    → numbers_from 0 es ≡ numbers ++ numbers_from next (drop p es) → numbers ≡ numbers_from 0 es
numbers-all es numbers next p end so_far =
    sym (so_far ∙ ap (λ (l : List Entry). numbers ++ numbers_from next l) (drop_of_length-le es end) ∙ append-nil numbers)

-- ---- text

-- what is written of one entry more
pub text-next : {X : Type 0} (f : X → List ℕ) (xs : List X) (p : ℕ) (x : X) (text more before : List ℕ) → slice_get xs p ≡ Some x
    → text ≡ before ++ flat_map f (take p xs) → more ≡ text ++ f x → more ≡ before ++ flat_map f (take (p + 1) xs)
text-next f xs p x text more before at so_far put =
    put ∙ ap (λ (t : List ℕ). t ++ f x) so_far ∙ append_assoc before (flat_map f (take p xs)) (f x)
    ∙ ap (λ (t : List ℕ). before ++ t)
    (ap (λ (t : List ℕ). flat_map f (take p xs) ++ t) (sym (append-nil (f x))) ∙ sym (flat_map-append f (take p xs) (x ∷ []))
    ∙ ap (flat_map f) (sym (take_next xs p x at)))

pub fit-next : {X : Type 0} (P : X → Type 0) (xs : List X) (p : ℕ) (x : X) → slice_get xs p ≡ Some x → AllByRecursion P (take p xs) → P x
    → AllByRecursion P (take (p + 1) xs)
fit-next P xs p x at all fits = subst (AllByRecursion P) (sym (take_next xs p x at)) (all-append P (take p xs) (x ∷ []) all (fits, tt))

with_lines : (number : ℕ → ℕ) (e : Entry) (es : List Entry)
    → flat_map (λ x. flat_map ended (entry_lines (renumbered number x))) es ≡ flat_map ended (flat_map entry_lines (map (renumbered number) (filter is_lemma es)))
    → flat_map ended (entry_lines (renumbered number e)) ++ flat_map (λ x. flat_map ended (entry_lines (renumbered number x))) es
    ≡ flat_map ended (entry_lines (renumbered number e) ++ flat_map entry_lines (map (renumbered number) (filter is_lemma es)))
with_lines number e es rest =
    ap (λ (t : List ℕ). flat_map ended (entry_lines (renumbered number e)) ++ t) rest
    ∙ sym (flat_map-append ended (entry_lines (renumbered number e)) (flat_map entry_lines (map (renumbered number) (filter is_lemma es))))

-- entries that are no lemmas write nothing
lemmas-lines : (number : ℕ → ℕ) (es : List Entry)
    → flat_map (λ e. flat_map ended (entry_lines (renumbered number e))) es ≡ flat_map ended (flat_map entry_lines (map (renumbered number) (filter is_lemma es)))
lemmas-lines number [] = refl
lemmas-lines number (Merge node lit steps ∷ es) = with_lines number (Merge node lit steps) es (lemmas-lines number es)
lemmas-lines number (Out j steps ∷ es) = with_lines number (Out j steps) es (lemmas-lines number es)
lemmas-lines number (Apart node lit input ∷ es) = lemmas-lines number es
lemmas-lines number (Spent node lit seen log ∷ es) = lemmas-lines number es
lemmas-lines number (OutApart j input ∷ es) = lemmas-lines number es
lemmas-lines number (OutSpent j seen log ∷ es) = lemmas-lines number es

-- all entries are written
pub text-all : (es : List Entry) (numbers : List (Option ℕ)) (text : List ℕ) → numbers ≡ numbers_from 0 es
    → text ≡ codes "lemmas 1\n" ++ flat_map (lines_of numbers) es → text ≡ book_text es
text-all es numbers text is written =
    written
    ∙ ap (λ (ns : List (Option ℕ)). codes "lemmas 1\n" ++ flat_map (lines_of ns) es) is
    ∙ ap (λ (t : List ℕ). codes "lemmas 1\n" ++ t) (lemmas-lines (number_in (numbers_from 0 es)) es)

pub some-all : {X : Type 0} (f : X → List ℕ) (xs : List X) (p : ℕ) (text before : List ℕ) → length xs ≤ p
    → text ≡ before ++ flat_map f (take p xs) → text ≡ before ++ flat_map f xs
some-all f xs p text before end written = written ∙ ap (λ (l : List _). before ++ flat_map f l) (take_all p xs end)

pub fit-all : {X : Type 0} (P : X → Type 0) (xs : List X) (p : ℕ) → length xs ≤ p → AllByRecursion P (take p xs) → AllByRecursion P xs
fit-all P xs p end all = subst (AllByRecursion P) (take_all p xs end) all

-- ---- steps

steps-lines : (number : ℕ → ℕ) (steps : List Step)
    → flat_map (λ s. ended (joined (step_words (renewed_step number s)))) steps ≡ flat_map ended (map (λ s. joined (step_words s)) (map (renewed_step number) steps))
steps-lines number [] = refl
steps-lines number (s ∷ ss) = ap (λ (t : List ℕ). ended (joined (step_words (renewed_step number s))) ++ t) (steps-lines number ss)

-- all steps are written, and the end of their entry
pub steps-all : (number : ℕ → ℕ) (steps : List Step) (i : ℕ) (before text more : List ℕ) → length steps ≤ i
    → text ≡ before ++ flat_map (λ s. ended (joined (step_words (renewed_step number s)))) (take i steps) → more ≡ text ++ codes ".\n"
    → more ≡ before ++ flat_map ended (step_lines (map (renewed_step number) steps))
steps-all number steps i before text more end written put =
    put
    ∙ ap (λ (t : List ℕ). t ++ codes ".\n") (written ∙ ap (λ (l : List Step). before ++ flat_map (λ s. ended (joined (step_words (renewed_step number s)))) l)
    (take_all i steps end) ∙ ap (λ (t : List ℕ). before ++ t) (steps-lines number steps))
    ∙ append_assoc before (flat_map ended (map (λ s. joined (step_words s)) (map (renewed_step number) steps))) (codes ".\n")
    ∙ ap (λ (t : List ℕ). before ++ t)
    (sym (flat_map-append ended (map (λ s. joined (step_words s)) (map (renewed_step number) steps)) (codes "." ∷ [])))
