-- What the longer list has behind is appended.
use Rattle.std.proofs.Common.{◌≡◌, ◌∙◌, ◌++◌, List, map, ap, sym, length, drop, take, ◌-◌, ℕ}
use Rattle.std.proofs.lemmas.List.{length-map, drop-map, take_rest}
use Rattle.std.specs.Arc.{arc_value}
use Rattle.lemma_book.specs.declared.entry.Entry.{Entry}
use Rattle.lemma_book.proofs.shelf.Shelf.catch_up.Goals as goal

joined : (a b x y : List Entry) → a ≡ x → b ≡ y → a ++ b ≡ x ++ y
joined a b x y e f = ap (λ (l : List Entry). l ++ b) e ∙ ap (λ (l : List Entry). x ++ l) f

behind : {X Y : Type 0} (f : X → Y) (xs : List X) (ys zs : List Y) (n : ℕ) → map f xs ≡ ys → n ≡ length zs
    → map f (take (length xs - n) (drop n xs)) ≡ drop (length zs) ys
behind f xs ys zs n e counts = ap (map f) (take_rest xs n) ∙ sym (drop-map f n xs) ∙ ap (drop n) e ∙ ap (λ (k : ℕ). drop k ys) counts

pub returns-clause-ok : goal.returns-clause-ok
returns-clause-ok c =
    c.put_all.ensures.entries
    ∙ joined _ _ _ _ (ap (map arc_value) c.reserve.ensures.items ∙ c.self.view_is)
    (c.in_ok-more.ensures ∙ behind _ _ _ _ c.len-known.result (ap (map arc_value) c.deref.ensures.value ∙ c.longer.view_is)
    (c.len-known.ensures ∙ c.self.inside.entries.ok.0 ∙ sym (length-map c.self.inside.entries.items arc_value) ∙ ap length c.self.view_is))
