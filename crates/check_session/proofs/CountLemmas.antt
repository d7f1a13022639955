-- Numbers that are counted entry by entry.
use Rattle.std.proofs.Common.{◌≡◌, ℕ, ◌+◌, ◌<◌, ◌≤◌, Bool, true, false, Option, Some, None, List, [], ◌∷◌, ◌++◌, length, take, Bor, refl, sym, ap, ◌∙◌, subst, arith, add-one, length-append}
use Rattle.std.specs.Prelude.{filter, slice_get, IsSome}
use Rattle.std.specs.Option.{option_copied}
use Rattle.std.proofs.lemmas.Option.{none-some, slice_get_within, get_or_from_slice_get, slice_get-get_or}
use Rattle.std.proofs.lemmas.List.{take_all}
use Rattle.std.proofs.lemmas.List.Elements.{filter-append}
use Rattle.std.proofs.Math.Seq.{take-suc}
use Rattle.lemma_book.specs.declared.entry.Entry.{Entry}
use Rattle.lemma_book.specs.Entry.{Answer, Equal, Differ, Open, answer_of, is_spent}
use Rattle.check_session.specs.declared.counts.Counts.{Counts}
use Rattle.check_session.specs.Counts.{AreCountsUpTo, CountsEntry, after_answer, after_one, all_steps, counted, entries_with, is_pair_apart, is_pair_open, steps_with}

-- one more entry that may pass a test
one-more : (test : Entry → Bool) (es : List Entry) (e : Entry) (old new : ℕ) → new ≡ after_one (test e) old → old ≡ counted (entries_with test es)
    → new ≡ counted (entries_with test (es ++ e ∷ []))
one-more test es e old new is at =
    go (test e) refl is ∙ ap (λ (l : List Entry). counted (length l)) (sym (filter-append test es (e ∷ [])))
  where
    go : (b : Bool) → test e ≡ b → new ≡ after_one (test e) old → new ≡ counted (length (filter test es ++ filter test (e ∷ [])))
    go true f p = rw f (omega (arith, rw f at p, at, length-append (filter test es) (e ∷ [])))
    go false f p = rw f (omega (arith, rw f at p, at, length-append (filter test es) []))

-- the steps of one more entry
steps-append : (es : List Entry) (e : Entry) → all_steps (es ++ e ∷ []) ≡ all_steps es + length (steps_with (answer_of e))
steps-append [] e = omega arith
steps-append (d ∷ ds) e = omega (arith, steps-append ds e)

steps-more : (es : List Entry) (e : Entry) (old new : ℕ) → new ≡ after_answer (answer_of e) old → old ≡ counted (all_steps es)
    → new ≡ counted (all_steps (es ++ e ∷ []))
steps-more es e old new is at = go (answer_of e) is ∙ ap counted (sym (steps-append es e))
  where
    go : (a : Answer) → new ≡ after_answer a old → new ≡ counted (all_steps es + length (steps_with a))
    go (Equal steps) p = omega (arith, p, at)
    go (Differ input) p = omega (arith, p, at)
    go (Open seen log) p = omega (arith, p, at)

-- the numbers of one more entry
entry-more : (patterns : ℕ) (es : List Entry) (e : Entry) (old new : Counts) → CountsEntry e old new → AreCountsUpTo patterns es old
    → AreCountsUpTo patterns (es ++ e ∷ []) new
entry-more patterns es e old new next counts =
    let at = counts.entries_are in
    record {
      patterns_are = next.patterns_are ∙ counts.patterns_are;
      entries_are = record {
        apart_are = one-more is_pair_apart es e old.apart new.apart next.apart_are at.apart_are;
        open_pairs_are = one-more is_pair_open es e old.open_pairs new.open_pairs next.open_pairs_are at.open_pairs_are;
        open_outputs_are = one-more is_spent es e old.open_outputs new.open_outputs next.open_outputs_are at.open_outputs_are;
        steps_are = steps-more es e old.steps new.steps next.steps_are at.steps_are;
      };
    }

-- the entries up to the next place
take-more : (es : List Entry) (i : ℕ) (e : Entry) → slice_get es i ≡ Some e → take (i + 1) es ≡ take i es ++ e ∷ []
take-more es i e at =
    ap (λ (n : ℕ). take n es) (add-one i)
    ∙ take-suc es i e (slice_get_within es i e at)
    ∙ ap (λ (x : Entry). take i es ++ x ∷ []) (get_or_from_slice_get es i e e at)

-- an entry that is lent by its place
pub entry-some : (o : Option (Bor Entry)) (es : List Entry) (i : ℕ) → option_copied o ≡ slice_get es i → i < length es → IsSome o
entry-some (Some e) es i at lt = refl
entry-some None [] i at lt = absurd (omega arith)
entry-some None (e ∷ es) i at lt = absurd (none-some _ (at ∙ slice_get-get_or (e ∷ es) i e lt))

pub counts-next : (patterns : ℕ) (es : List Entry) (i : ℕ) (o : Option (Bor Entry)) (r : Bor Entry) (old new : Counts)
    → option_copied o ≡ slice_get es i → o ≡ Some r → CountsEntry r.now old new → AreCountsUpTo patterns (take i es) old
    → AreCountsUpTo patterns (take (i + 1) es) new
counts-next patterns es i o r old new at is next counts =
    subst (λ (l : List Entry). AreCountsUpTo patterns l new) (sym (take-more es i r.now (sym at ∙ ap option_copied is)))
    (entry-more patterns (take i es) r.now old new next counts)

pub counts-done : (patterns : ℕ) (es : List Entry) (i : ℕ) (c : Counts) → length es ≤ i → AreCountsUpTo patterns (take i es) c
    → AreCountsUpTo patterns es c
counts-done patterns es i c past counts = subst (λ (l : List Entry). AreCountsUpTo patterns l c) (take_all i es past) counts
