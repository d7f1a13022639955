-- The next entry is put last.
use Rattle.std.proofs.Common.{◌≡◌, ◌∙◌, ◌<◌, ◌+◌, ℕ, inl, inr, Option, Some, None, List, length, take, refl, sym, ap, arith}
use Rattle.std.specs.Prelude.{slice_get, IfSome}
use Rattle.std.proofs.lemmas.Option.{none-some, slice_get_cases}
use Rattle.lits.proofs.Facts.{take_next}
use Rattle.lemma_book.specs.declared.entry.Entry.{Entry}
use Rattle.lemma_book.specs.Entry.{Entries, with_last}
use Rattle.lemma_book.proofs.book.Book.first.Goals as goal

abbrev first_of : Entries → ℕ → Entries
first_of book i = record { sweep_budget = book.sweep_budget; out_budget = book.out_budget; entries = take i book.entries }

one-more : (book old new : Entries) (i : ℕ) → i < length book.entries → old ≡ first_of book i
    → IfSome (slice_get book.entries i) (λ e. new ≡ with_last old e) → new ≡ first_of book (i + 1)
one-more book old new i below is put = go (slice_get book.entries i) refl put
  where
    go : (o : Option Entry) → slice_get book.entries i ≡ o → IfSome o (λ e. new ≡ with_last old e) → new ≡ first_of book (i + 1)
    go (Some e) at last =
        last ∙ ap (λ (b : Entries). with_last b e) is
        ∙ ap (λ (l : List Entry). record { sweep_budget = book.sweep_budget; out_budget = book.out_budget; entries = l }) (sym (take_next book.entries i e at))
    go None at last =
        elim (slice_get_cases book.entries i).1 [
          | inl w ↦ absurd (none-some w.0 (sym at ∙ w.2))
          | inr w ↦ absurd (let f : ⊥ = omega (arith, w.0) in f)
        ]

pub loop-i-preserved : goal.loop-i-preserved
loop-i-preserved c =
    one-more c.args.self.now c.loop-i.book c.push_shared.new.self c.loop-i.i (omega (arith, c.loop-i-test.true, c.requires)) c.loop-i.invariant
    c.in_ok-push_shared.ensures.ok
