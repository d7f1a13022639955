-- What several writes do together to the bytes that a writer tells.
use Rattle.std.proofs.Common.{ℕ, ◌+◌, List, [], take, drop, Option, Some, None, sym, ◌∙◌, append_assoc, append-nil}
use Rattle.std.proofs.Math.Seq.{take-add}
use Rattle.std.proofs.lemmas.List.{take-append-drop}
use Rattle.std.specs.Io.KnownBytes.{Appends}
use Rattle.desk_port.specs.Desk.{OfSomePrefix}

-- one more write of n bytes after the first i
pub Appends-more : (a b c : Option (List ℕ)) (i n : ℕ) (xs : List ℕ) →
    Appends a b (take i xs) → Appends b c (take n (drop i xs)) → Appends a c (take (i + n) xs)
Appends-more None b c i n xs h k = tt
Appends-more (Some x) None c i n xs h k = absurd h
Appends-more (Some x) (Some y) None i n xs h k = absurd k
Appends-more (Some x) (Some y) (Some z) i n xs h k =
    rw (k, h, take-add i n xs) (append_assoc x (take i xs) (take n (drop i xs)))

-- a write of nothing after the first i bytes
pub Appends-part : (a b c : Option (List ℕ)) (i : ℕ) (xs : List ℕ) →
    Appends a b (take i xs) → Appends b c [] → OfSomePrefix xs (λ part. Appends a c part)
Appends-part a b c i xs h k =
    (take i xs, (drop i xs, sym (take-append-drop i xs)), at a b c h k) where
      at : (a b c : Option (List ℕ)) →
          Appends a b (take i xs) → Appends b c [] → Appends a c (take i xs)
      at None b c h k = tt
      at (Some x) None c h k = absurd h
      at (Some x) (Some y) None h k = absurd k
      at (Some x) (Some y) (Some z) h k = k ∙ append-nil y ∙ h
