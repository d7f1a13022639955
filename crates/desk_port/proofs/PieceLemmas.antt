-- Bytes that go out in pieces, call after call: for who proves what a file got.
use Rattle.std.proofs.Common.{◌≡◌, ℕ, zero, suc, ◌+◌, ◌*◌, ◌/◌, ◌%◌, ◌<◌, ◌≤◌, List, [], ◌∷◌, ◌++◌, length, replicate, Result, Ok, Err, refl, sym, ap, ◌∙◌, subst, append_assoc, append-nil, length-append, arith}
use Rattle.std.proofs.Common.{get_or, take, drop, take-append-drop}
use Rattle.std.specs.List.{flat_map}
use Rattle.std.proofs.lemmas.Grind.{flat_map-append}
use Rattle.std.proofs.lemmas.List.{replicate-append-replicate, take_more, take_all}
use Rattle.std.proofs.lemmas.Nat.{div-mul-add, mod-mul-add}
use Rattle.desk_port.specs.Desk.{DeskState, NoCountFalls, OfSomePrefix, Rose, Sizes, SizesAfterWrite, WriteFault, Writes, after_write, and_sizes}
use Rattle.desk_port.specs.Pieces.{Ends, IsRefused, Moves, StopsInPieces, Takes, WritesInPieces, piece, piece_sizes, rest_sizes}
use Rattle.desk_port.specs.declared.errors.PutErr.{PutErr}
use Rattle.desk_port.specs.declared.errors.PutErr.TheVariants as not_put
use Rattle.desk_port.proofs.WriteLemmas.{after_write-append, after_write-nil, and_sizes-append, and_sizes-nil}

-- ---- one call

-- bytes that are held make no write
pub moves-held : (bytes held : List ℕ) (s : DeskState) (z : Sizes) → Moves bytes held (held ++ bytes) s s z z
moves-held bytes held s z = record {
  out = [];
  split = refl;
  desk = sym (after_write-nil s);
  pieces = 0;
  whole = refl;
  counted = sym (and_sizes-nil z);
}

-- a piece that becomes whole is written
pub moves-piece : (bytes held : List ℕ) (old new : DeskState) (z told : Sizes) → length (held ++ bytes) ≡ piece
    → new ≡ after_write old (held ++ bytes) → told ≡ and_sizes z (length (held ++ bytes) ∷ [])
    → Moves bytes held [] old new z told
moves-piece bytes held old new z told whole written counted = record {
  out = held ++ bytes;
  split = sym (append-nil (held ++ bytes));
  desk = written;
  pieces = 1;
  whole = omega (arith, whole);
  counted = counted ∙ ap (λ n. and_sizes z (n ∷ [])) whole;
}

-- a write of at most a piece that was refused
pub stops-write : (bytes : List ℕ) (e : PutErr) (old new : DeskState) (z told : Sizes) → length bytes ≤ piece
    → Writes old new bytes (Err e) → told ≡ z → StopsInPieces bytes e old new z told
stops-write bytes not_put.Failed old new z told most h same =
    let (part, (rest, split), fault) = h in record {
      part = part;
      rest = rest;
      split = split;
      desk = fault;
      pieces = 0;
      whole = omega arith;
      next = omega (arith, most, ap length split, length-append part rest);
      counted = same ∙ sym (and_sizes-nil z);
    }
stops-write bytes not_put.NoMemory old new z told most h same = record {
  part = [];
  rest = bytes;
  split = refl;
  desk = h ∙ sym (after_write-nil old);
  pieces = 0;
  whole = omega arith;
  next = omega arith;
  counted = same ∙ sym (and_sizes-nil z);
}

-- what is left is written, and is no whole piece
pub ends-write : (held : List ℕ) (old new : DeskState) (z told : Sizes) (r : Result (Unit {0}) PutErr)
    → (length held ≡ 0 → ⊥) → length held ≤ piece → Writes old new held r → SizesAfterWrite z told held r
    → Ends held old new z told r
ends-write [] old new z told r some most h counted = absurd (some refl)
ends-write (b ∷ bs) old new z told (Ok _) some most h counted = (h, counted)
ends-write (b ∷ bs) old new z told (Err e) some most h counted = stops-write (b ∷ bs) e old new z told most h counted

-- memory ran out before a write
pub stops-none : (bytes : List ℕ) (s : DeskState) (z : Sizes) → StopsInPieces bytes not_put.NoMemory s s z z
stops-none bytes s z = record {
  part = [];
  rest = bytes;
  split = refl;
  desk = sym (after_write-nil s);
  pieces = 0;
  whole = omega arith;
  next = omega arith;
  counted = sym (and_sizes-nil z);
}

-- nothing is left, and nothing is written
pub ends-nothing : {A : Type 0} (a : A) (held : List ℕ) (s : DeskState) (z : Sizes) → length held ≡ 0 → Ends held s s z z (Ok a)
ends-nothing a [] s z none = (sym (after_write-nil s), sym (and_sizes-nil z))
ends-nothing a (b ∷ bs) s z none = cc

-- ---- calls that follow each other

module _ (a b h0 h1 h2 : List ℕ) (s0 s1 s2 : DeskState) (z0 z1 z2 : Sizes) where
  pub moves-then : Moves a h0 h1 s0 s1 z0 z1 → Moves b h1 h2 s1 s2 z1 z2 → Moves (a ++ b) h0 h2 s0 s2 z0 z2
  moves-then p q = record {
    out = p.out ++ q.out;
    split =
        sym (append_assoc h0 a b)
        ∙ ap (λ (l : List ℕ). l ++ b) p.split
        ∙ append_assoc p.out h1 b
        ∙ ap (λ (l : List ℕ). p.out ++ l) q.split
        ∙ sym (append_assoc p.out q.out h2);
    desk =
        q.desk
        ∙ ap (λ (s : DeskState). after_write s q.out) p.desk
        ∙ after_write-append s0 p.out q.out;
    pieces = p.pieces + q.pieces;
    whole = omega (arith, length-append p.out q.out, p.whole, q.whole);
    counted =
        q.counted
        ∙ ap (λ (z : Sizes). and_sizes z (replicate q.pieces piece)) p.counted
        ∙ and_sizes-append z0 (replicate p.pieces piece) (replicate q.pieces piece)
        ∙ ap (and_sizes z0) (replicate-append-replicate p.pieces q.pieces piece);
  }

  -- what was refused behind earlier bytes
  pub stops-then : (e : PutErr) → Moves a h0 h1 s0 s1 z0 z1 → StopsInPieces (h1 ++ b) e s1 s2 z1 z2
      → StopsInPieces (h0 ++ (a ++ b)) e s0 s2 z0 z2
  stops-then e p q = record {
    part = p.out ++ q.part;
    rest = q.rest;
    split =
        sym (append_assoc h0 a b)
        ∙ ap (λ (l : List ℕ). l ++ b) p.split
        ∙ append_assoc p.out h1 b
        ∙ ap (λ (l : List ℕ). p.out ++ l) q.split
        ∙ sym (append_assoc p.out q.part q.rest);
    desk = subst (λ (s : DeskState). IsRefused e s s2)
        (ap (λ (s : DeskState). after_write s q.part) p.desk ∙ after_write-append s0 p.out q.part) q.desk;
    pieces = p.pieces + q.pieces;
    whole = omega (arith, length-append p.out q.part, p.whole, q.whole);
    next = omega (arith, length-append p.out q.part, p.whole, q.next);
    counted =
        q.counted
        ∙ ap (λ (z : Sizes). and_sizes z (replicate q.pieces piece)) p.counted
        ∙ and_sizes-append z0 (replicate p.pieces piece) (replicate q.pieces piece)
        ∙ ap (and_sizes z0) (replicate-append-replicate p.pieces q.pieces piece);
  }

  pub takes-then : {A : Type 0} (r : Result A PutErr) → Moves a h0 h1 s0 s1 z0 z1 → Takes b h1 h2 s1 s2 z1 z2 r
      → Takes (a ++ b) h0 h2 s0 s2 z0 z2 r
  takes-then (Ok u) p q = moves-then p q
  takes-then (Err e) p q = stops-then e p q

-- what was refused is refused with more bytes behind
pub stops-longer : (a b : List ℕ) (e : PutErr) (old new : DeskState) (z told : Sizes)
    → StopsInPieces a e old new z told → StopsInPieces (a ++ b) e old new z told
stops-longer a b e old new z told p = record {
  part = p.part;
  rest = p.rest ++ b;
  split = ap (λ (l : List ℕ). l ++ b) p.split ∙ append_assoc p.part p.rest b;
  desk = p.desk;
  pieces = p.pieces;
  whole = p.whole;
  next = p.next;
  counted = p.counted;
}

pub stops-first : (a b held : List ℕ) (e : PutErr) (old new : DeskState) (z told : Sizes)
    → StopsInPieces (held ++ a) e old new z told → StopsInPieces (held ++ (a ++ b)) e old new z told
stops-first a b held e old new z told p =
    subst (λ (l : List ℕ). StopsInPieces l e old new z told) (append_assoc held a b) (stops-longer (held ++ a) b e old new z told p)

-- ---- the whole file

-- so many whole pieces and less than one more
sizes-whole : (count rest size : ℕ) → rest < piece → size ≡ count * piece + rest
    → piece_sizes size ≡ replicate count piece ++ rest_sizes rest
unfolding piece_sizes
sizes-whole count rest size less is =
    rw (is, div-mul-add count piece rest less, mod-mul-add count piece rest less) refl

module _ (bytes held : List ℕ) (s0 s1 s2 : DeskState) (z0 z1 z2 : Sizes) (less : length held < piece)
    (p : Moves bytes [] held s0 s1 z0 z1) where
  pub whole-file : {A : Type 0} (a : A) → s2 ≡ after_write s1 held → z2 ≡ and_sizes z1 (rest_sizes (length held))
      → WritesInPieces bytes s0 s2 z0 z2 (Ok a)
  whole-file a written counted = (
    written
        ∙ ap (λ (s : DeskState). after_write s held) p.desk
        ∙ after_write-append s0 p.out held
        ∙ ap (after_write s0) (sym p.split),
    counted
        ∙ ap (λ (z : Sizes). and_sizes z (rest_sizes (length held))) p.counted
        ∙ and_sizes-append z0 (replicate p.pieces piece) (rest_sizes (length held))
        ∙ ap (and_sizes z0) (sym (sizes-whole p.pieces (length held) (length bytes) less
        (ap length p.split ∙ omega (arith, length-append p.out held, p.whole)))),
  )

  pub stopped-file : (e : PutErr) → StopsInPieces held e s1 s2 z1 z2 → StopsInPieces bytes e s0 s2 z0 z2
  stopped-file e q =
      subst (λ (l : List ℕ). StopsInPieces l e s0 s2 z0 z2) (append-nil bytes)
      (stops-then bytes [] [] held [] s0 s1 s2 z0 z1 z2 e p
      (subst (λ (l : List ℕ). StopsInPieces l e s1 s2 z1 z2) (sym (append-nil held)) q))

  pub in_pieces : {A : Type 0} (r : Result A PutErr) → Ends held s1 s2 z1 z2 r → WritesInPieces bytes s0 s2 z0 z2 r
  in_pieces (Ok a) q = whole-file a q.0 q.1
  in_pieces (Err e) q = stopped-file e q

-- a file of no bytes has no write
pub nothing-out : {A : Type 0} (a : A) (s : DeskState) (z : Sizes) → WritesInPieces [] s s z z (Ok a)
nothing-out a s z = whole-file [] [] s s s z z z less (moves-held [] [] s z) a (sym (after_write-nil s)) (sym (and_sizes-nil z))
  where
    less : 0 < piece
    less = omega arith

-- ---- a call that gives bytes piece after piece

-- the bytes before the rest are taken
pub record Half (bytes rest held left : List ℕ) (old new : DeskState) (sizes told : Sizes) : Type 0 where
  pub taken : List ℕ
  pub split : bytes ≡ taken ++ rest
  pub moves : Moves taken held left old new sizes told
  pub started : new.started ≡ old.started

pub half-none : (bytes held : List ℕ) (s : DeskState) (z : Sizes) → Half bytes bytes held held s s z z
half-none bytes held s z = record {
  taken = [];
  split = refl;
  moves = subst (λ (l : List ℕ). Moves [] held l s s z z) (append-nil held) (moves-held [] held s z);
  started = refl;
}

module _ (bytes rest first others h0 h1 h2 : List ℕ) (s0 s1 s2 : DeskState) (z0 z1 z2 : Sizes)
    (p : Half bytes rest h0 h1 s0 s1 z0 z1) (cut : rest ≡ first ++ others) where
  whole-is : bytes ≡ (p.taken ++ first) ++ others
  whole-is = p.split ∙ ap (λ (l : List ℕ). p.taken ++ l) cut ∙ sym (append_assoc p.taken first others)

  pub half-more : Moves first h1 h2 s1 s2 z1 z2 → s2.started ≡ s1.started → Half bytes others h0 h2 s0 s2 z0 z2
  half-more q started = record {
    taken = p.taken ++ first;
    split = whole-is;
    moves = moves-then p.taken first h0 h1 h2 s0 s1 s2 z0 z1 z2 p.moves q;
    started = started ∙ p.started;
  }

  pub half-stops : (e : PutErr) → StopsInPieces (h1 ++ first) e s1 s2 z1 z2 → StopsInPieces (h0 ++ bytes) e s0 s2 z0 z2
  half-stops e q =
      subst (λ (l : List ℕ). StopsInPieces l e s0 s2 z0 z2)
      (append_assoc h0 (p.taken ++ first) others ∙ ap (λ (l : List ℕ). h0 ++ l) (sym whole-is))
      (stops-longer (h0 ++ (p.taken ++ first)) others e s0 s2 z0 z2
      (stops-then p.taken first h0 h1 h2 s0 s1 s2 z0 z1 z2 e p.moves q))

-- and the rest is held
pub half-held : (bytes rest h0 h1 : List ℕ) (s0 s1 : DeskState) (z0 z1 : Sizes) → Half bytes rest h0 h1 s0 s1 z0 z1
    → Moves bytes h0 (h1 ++ rest) s0 s1 z0 z1
half-held bytes rest h0 h1 s0 s1 z0 z1 p =
    subst (λ (l : List ℕ). Moves l h0 (h1 ++ rest) s0 s1 z0 z1) (sym p.split)
    (moves-then p.taken rest h0 h1 (h1 ++ rest) s0 s1 s1 z0 z1 z1 p.moves (moves-held rest h1 s1 z1))

-- ---- a text that is put part by part

-- the text so far is taken, and the file is still started
pub record Taken (text held left : List ℕ) (old new : DeskState) (sizes told : Sizes) : Type 0 where
  pub moves : Moves text held left old new sizes told
  pub started : new.started ≡ old.started

pub taken-none : (held : List ℕ) (s : DeskState) (z : Sizes) → Taken [] held held s s z z
taken-none held s z = record {
  moves = subst (λ (l : List ℕ). Moves [] held l s s z z) (append-nil held) (moves-held [] held s z);
  started = refl;
}

-- the texts of the elements up to the next one
flat_more : {X : Type 0} (f : X → List ℕ) (xs : List X) (i : ℕ) (x : X) → i < length xs → x ≡ get_or xs i x
    → flat_map f (take (i + 1) xs) ≡ flat_map f (take i xs) ++ f x
flat_more f xs i x within is =
    ap (flat_map f) (take_more xs i x within)
    ∙ flat_map-append f (take i xs) (get_or xs i x ∷ [])
    ∙ ap (λ (l : List ℕ). flat_map f (take i xs) ++ l) (append-nil (f (get_or xs i x)))
    ∙ ap (λ y. flat_map f (take i xs) ++ f y) (sym is)

flat_split : {X : Type 0} (f : X → List ℕ) (xs : List X) (i : ℕ) → flat_map f xs ≡ flat_map f (take i xs) ++ flat_map f (drop i xs)
flat_split f xs i =
    ap (flat_map f) (sym (take-append-drop i xs)) ∙ flat_map-append f (take i xs) (drop i xs)

module _ {X : Type 0} (f : X → List ℕ) (xs : List X) (i : ℕ) (h0 h1 : List ℕ) (s0 s1 : DeskState) (z0 z1 : Sizes)
    (p : Taken (flat_map f (take i xs)) h0 h1 s0 s1 z0 z1) where
  -- all of them
  pub taken-all : length xs ≤ i → Moves (flat_map f xs) h0 h1 s0 s1 z0 z1
  taken-all all = subst (λ (l : List X). Moves (flat_map f l) h0 h1 s0 s1 z0 z1) (take_all i xs all) p.moves

  module _ (x : X) (h2 : List ℕ) (s2 : DeskState) (z2 : Sizes) (within : i < length xs) (is : x ≡ get_or xs i x) where
    -- one more
    pub taken-more : Moves (f x) h1 h2 s1 s2 z1 z2 → s2.started ≡ s1.started
        → Taken (flat_map f (take (i + 1) xs)) h0 h2 s0 s2 z0 z2
    taken-more q started = record {
      moves = subst (λ (l : List ℕ). Moves l h0 h2 s0 s2 z0 z2) (sym (flat_more f xs i x within is))
          (moves-then (flat_map f (take i xs)) (f x) h0 h1 h2 s0 s1 s2 z0 z1 z2 p.moves q);
      started = started ∙ p.started;
    }

    -- one was refused
    pub taken-stops : (e : PutErr) → StopsInPieces (h1 ++ f x) e s1 s2 z1 z2 → StopsInPieces (h0 ++ flat_map f xs) e s0 s2 z0 z2
    taken-stops e q =
        subst (λ (l : List ℕ). StopsInPieces l e s0 s2 z0 z2)
        (append_assoc h0 (flat_map f (take i xs) ++ f x) (flat_map f (drop (i + 1) xs))
        ∙ ap (λ (l : List ℕ). h0 ++ l) (sym (flat_split f xs (i + 1)
        ∙ ap (λ (l : List ℕ). l ++ flat_map f (drop (i + 1) xs)) (flat_more f xs i x within is))))
        (stops-longer (h0 ++ (flat_map f (take i xs) ++ f x)) (flat_map f (drop (i + 1) xs)) e s0 s2 z0 z2
        (stops-then (flat_map f (take i xs)) (f x) h0 h1 h2 s0 s1 s2 z0 z1 z2 e p.moves q))

-- ---- the counts of faults

falls-same : (s : DeskState) → NoCountFalls s s
falls-same s = record { reads = omega arith; writes = omega arith; warns = omega arith }

falls-written : (s : DeskState) (bytes : List ℕ) → NoCountFalls s (after_write s bytes)
falls-written s bytes = record { reads = omega arith; writes = omega arith; warns = omega arith }

rose-le : (m n : ℕ) → Rose m n → m ≤ n
rose-le m n rose = grind arith

falls-fault : (old new : DeskState) → WriteFault old new → NoCountFalls old new
falls-fault old new fault = subst (λ (s : DeskState). NoCountFalls old s) (sym fault.stays)
    (record { reads = omega arith; writes = rose-le _ _ fault.rose; warns = omega arith })

-- none falls while a file is written
refused-counts : (e : PutErr) (old new : DeskState) → IsRefused e old new → NoCountFalls old new
refused-counts not_put.Failed old new p = falls-fault old new p
refused-counts not_put.NoMemory old new p = subst (λ (s : DeskState). NoCountFalls old s) (sym p) (falls-same old)

pub in_pieces-counts : {A : Type 0} (bytes : List ℕ) (old new : DeskState) (z told : Sizes) (r : Result A PutErr)
    → WritesInPieces bytes old new z told r → NoCountFalls old new
in_pieces-counts bytes old new z told (Ok a) p = subst (λ (s : DeskState). NoCountFalls old s) (sym p.0) (falls-written old bytes)
in_pieces-counts bytes old new z told (Err e) p =
    let q = refused-counts e (after_write old p.part) new p.desk in
    record { reads = q.reads; writes = q.writes; warns = q.warns }
