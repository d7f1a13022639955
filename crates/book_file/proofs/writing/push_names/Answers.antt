use Rattle.std.proofs.Common.{◌≡◌, ℕ, List, [], ◌∷◌, ◌++◌, ◌∙◌, ap, sym, subst, map}
use Rattle.std.specs.List.{AllByRecursion}
use Rattle.std.proofs.lemmas.List.{append_assoc, flat_map_more, map-append}
use Rattle.lits.proofs.Facts.{all-append, map_next, take_next}
use Rattle.tokens.specs.Text.{spaced}
use Rattle.keep_lemmas.specs.Kept.{renewed_hint}
use Rattle.book_file.specs.Loaded.{number_in}
use Rattle.book_file.specs.Writing.{name_text, FitsName}
use Rattle.book_file.proofs.writing.push_names.Goals as goal

-- a space and a word behind words
word-more : (text : List ℕ) (words : List (List ℕ)) (word : List ℕ)
    → ((text ++ spaced words) ++ 32 ∷ []) ++ word ≡ text ++ spaced (words ++ word ∷ [])
word-more text words word = append_assoc (text ++ spaced words) (32 ∷ []) word ∙ flat_map_more (λ w. 32 ∷ w) text words word

pub loop-place-preserved : goal.loop-place-preserved
loop-place-preserved c =
    let new = renewed_hint (number_in c.args.numbers.now) in
    let i = c.loop-place.place in
    record {
      written =
          rw (c.in_ok-push_name.ensures.text, c.in_ok-push.ensures.items, c.loop-place.invariant.written)
          (word-more c.args.text.now.items _ _
          ∙ ap (λ (words : List (List ℕ)). c.args.text.now.items ++ spaced words)
          (sym (ap (map name_text) (map_next new c.args.hints.now i _ c.at.ensures) ∙ map-append name_text _ _)));
      fit =
          subst (AllByRecursion FitsName) (sym (take_next c.args.hints.now i _ c.at.ensures))
          (all-append FitsName _ _ c.loop-place.invariant.fit (c.in_ok-push_name.ensures.fits, tt));
    }
