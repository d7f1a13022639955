-- What a loop over `split` at spaces has yielded: the first words of the text, and at its end all of them.
use Rattle.std.proofs.Common.{◌≡◌, ℕ, ◌<◌, Bool, false, eqb, List, length, get_or, map, Option, Some, None}
use Rattle.std.specs.Fn.{CalledAt}
use Rattle.std.specs.Iterator.{Yields}
use Rattle.std.specs.declared.slice.Split.{Split}
use Rattle.std.specs.Slice.Iter.{split_rest, split_done, split_callee, split_steps}
use Rattle.std.proofs.lemmas.Iterator.Consumers.{YieldsList-at, YieldsList-turn, YieldsList-end}
use Rattle.std.proofs.lemmas.Iterator.Splits.{YieldsList-from_slice_split}
use Rattle.std.proofs.lemmas.List.{length-map}
use denote.Param.Members.{Mut}
use denote.Ref.{Bor}
use Rattle.byte_scan.specs.HeaderLine.{words_of}

-- the texts that these references point to
abbrev pub texts : List (Bor (List ℕ)) → List (List ℕ)
texts xs = map (λ x. x.now) xs

module _ {F : Type 0} (g : Mut F (Bor ℕ × Unit {0}) Bool) (text : List ℕ) (from start t u : Split ℕ F) (xs : List (Bor (List ℕ))) (f : F) (r : Option (Bor (List ℕ))) (yields : Yields (split_steps g) from xs t) (same : from ≡ start) (rest : split_rest start ≡ text) (done : split_done start ≡ false) (callee : split_callee start ≡ f) (steps : split_steps g t r u) (test : (b : ℕ) (answer : Bool) (q : F) → CalledAt g f b answer q → (q ≡ f) × (answer ≡ eqb b 32)) where
  pub next_word : (x : Bor (List ℕ)) → r ≡ Some x → (length (texts xs) < length (words_of text)) × (x.now ≡ get_or (words_of text) (length (texts xs)) x.now)
  next_word x is =
      let turn = YieldsList-turn (YieldsList-at same (YieldsList-from_slice_split g (λ b. eqb b 32) text rest done callee test)) xs t yields r u x is steps in
      rw (length-map xs (λ x. x.now)) turn

  pub all_words : r ≡ None → texts xs ≡ words_of text
  all_words is = (YieldsList-end (YieldsList-at same (YieldsList-from_slice_split g (λ b. eqb b 32) text rest done callee test)) xs t yields r u is steps).0
