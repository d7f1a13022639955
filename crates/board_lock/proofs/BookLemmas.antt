-- A book whose first entries are known: the entry that is good over these, and the answer to it.
use Rattle.std.proofs.Common.{◌≡◌, ℕ, Option, None, Some, List, [], ◌∷◌, ◌++◌, length, take, drop, sym, refl, ap, ◌∙◌, subst}
use Rattle.std.specs.Option.{option_map_or}
use Rattle.std.proofs.lemmas.List.{take-append-drop}
use Rattle.netlist.specs.Net.{AigPair}
use Rattle.lemma_book.specs.declared.entry.Entry.{Entry}
use Rattle.lemma_book.specs.declared.refused.Offered.{Offered}
use Rattle.lemma_book.specs.declared.refused.Offered.TheVariants as offered
use Rattle.lemma_book.specs.Entry.{Entries, first_entries, settled_at}
use Rattle.lemma_book.specs.Good.{IsGood}
use Rattle.lemma_book.specs.Book.{StartsWith, answer_to}
use Rattle.lemma_book.proofs.Facts.{good-longer}
use Rattle.board_lock.specs.Story.{IsAnswer, said_of}
use Rattle.board_lock.proofs.StoryLemmas.{settled-longer}

take-all : {X : Type 0} (xs ys : List X) → take (length xs) (xs ++ ys) ≡ xs
take-all [] [] = refl
take-all [] (y ∷ ys) = refl
take-all {X} (x ∷ xs) ys = ap (λ (zs : List X). x ∷ zs) (take-all xs ys)

pub first-known : (book known : Entries) → StartsWith book known → first_entries (length known.entries) book ≡ known
first-known book known h =
    let all : take (length known.entries) book.entries ≡ known.entries =
    ap (take (length known.entries)) h.entries ∙ take-all known.entries h.rest in
    ap (λ (b : ℕ). record { sweep_budget = b; out_budget = book.out_budget; entries = take (length known.entries) book.entries }) h.sweep
    ∙ ap (λ (b : ℕ). record { sweep_budget = known.sweep_budget; out_budget = b; entries = take (length known.entries) book.entries }) h.out
    ∙ ap (λ (es : List Entry). record { sweep_budget = known.sweep_budget; out_budget = known.out_budget; entries = es }) all

-- an entry that is good over the first ones gets the machine's answer
pub answer-good : (net : AigPair) (book : Entries) (known : ℕ) (e : Entry) (o : Offered) → IsGood net (first_entries known book) e
    → o ≡ answer_to book e → IsAnswer net book (said_of e o)
answer-good net book known e o good is = go (settled_at book.entries e) refl
  where
    starts : StartsWith book (first_entries known book)
    starts = record { rest = drop known book.entries; entries = sym (take-append-drop known book.entries); sweep = refl; out = refl }

    told : (p : Option ℕ) → settled_at book.entries e ≡ p → o ≡ option_map_or offered.Already p (offered.At (length book.entries))
    told p f = is ∙ ap (λ (q : Option ℕ). option_map_or offered.Already q (offered.At (length book.entries))) f

    go : (p : Option ℕ) → settled_at book.entries e ≡ p → IsAnswer net book (said_of e o)
    go None f = subst (λ (a : Offered). IsAnswer net book (said_of e a)) (sym (told None f)) (refl, good-longer net (first_entries known book) book e starts f good)
    go (Some i) f = subst (λ (a : Offered). IsAnswer net book (said_of e a)) (sym (told (Some i) f)) f

-- what is good over the part that is known is good over as many first entries
pub good-first : (net : AigPair) (e : Entry) (n : ℕ) (book seen known : Entries) → n ≡ length seen.entries → seen ≡ known
    → StartsWith book known → IsGood net known e → IsGood net (first_entries n book) e
good-first net e n book seen known count same starts good =
    subst (λ (k : ℕ). IsGood net (first_entries k book) e) (sym (count ∙ ap (λ (x : Entries). length x.entries) same))
    (subst (λ (x : Entries). IsGood net x e) (sym (first-known book known starts)) good)

-- ---- an entry that is settled by one of the part that is known

-- so it is in the book
pub settled-known : (book known : Entries) (e : Entry) (i : ℕ) → StartsWith book known → settled_at known.entries e ≡ Some i
    → settled_at book.entries e ≡ Some i
settled-known book known e i starts at =
    subst (λ (es : List Entry). settled_at es e ≡ Some i) (sym starts.entries) (settled-longer known.entries starts.rest e i at)

-- and it gets the machine's answer
pub answer-settled : (book : Entries) (e : Entry) (i : ℕ) → settled_at book.entries e ≡ Some i → offered.Already i ≡ answer_to book e
answer-settled book e i at = sym (ap (λ (o : Option ℕ). option_map_or offered.Already o (offered.At (length book.entries))) at)
