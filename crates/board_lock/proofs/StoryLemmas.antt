-- The story after one more turn: what it says of the book stays so.
use Rattle.std.proofs.Common.{◌≡◌, ℕ, zero, suc, ◌+◌, Option, None, Some, List, [], ◌∷◌, ◌++◌, length, slice_get, sym, refl, ap, ◌∙◌, subst, append_assoc, length-append, arith}
use Rattle.std.specs.Option.{option_map, option_map_or}
use Rattle.std.proofs.lemmas.Option.{none-some, slice_get_within}
use Rattle.netlist.specs.Net.{AigPair}
use Rattle.netlist.specs.Place.{place_of}
use Rattle.netlist.proofs.Facts.{slice_get-left, or_place, place_of-append}
use Rattle.lemma_book.specs.declared.entry.Entry.{Entry}
use Rattle.lemma_book.specs.declared.entry.Subject.{Subject}
use Rattle.lemma_book.specs.declared.turn.Turn.{Turn}
use Rattle.lemma_book.specs.Entry.{Entries, subject_of, is_on, place_on, settled_at, with_last}
use Rattle.lemma_book.specs.Book.{IsLegal, StartsWith}
use Rattle.lemma_book.specs.Machine.{MayFollow, length_after, IsReplay}
use Rattle.lemma_book.proofs.Facts.{legal-last}
use Rattle.sweep_core.proofs.Facts.{settled-below, starts-self}
use Rattle.board_lock.specs.declared.view.Said.{Said}
use Rattle.board_lock.specs.declared.view.Said.TheVariants.{At, Already, Known}
use Rattle.board_lock.specs.declared.view.Note.{Note}
use Rattle.board_lock.specs.declared.view.Own.{Own}
use Rattle.board_lock.specs.Story.{Story, Root, what_of, turn_of, IsAnswer, IsSo, AreSo, book_after, story_after, story_missed}
use Rattle.board_lock.specs.Rule.{Tale}
use Rattle.board_lock.specs.Views.{learned}

-- ---- a longer book

-- an entry settles what it settled before
pub settled-longer : (xs ys : List Entry) (e : Entry) (i : ℕ) → settled_at xs e ≡ Some i → settled_at (xs ++ ys) e ≡ Some i
settled-longer xs ys e i at = go (subject_of e) refl
  where
    on : (es : List Entry) (o : Option Subject) → subject_of e ≡ o → settled_at es e ≡ option_map_or (place_on es) o None
    on es o f = ap (λ (s : Option Subject). option_map_or (place_on es) s None) f

    go : (o : Option Subject) → subject_of e ≡ o → settled_at (xs ++ ys) e ≡ Some i
    go None f = absurd (none-some i (sym (on xs None f) ∙ at))
    go (Some s) f =
        on (xs ++ ys) (Some s) f
        ∙ place_of-append (is_on s) xs ys
        ∙ ap (λ (o : Option ℕ). or_place o (option_map (λ k. length xs + k) (place_of (is_on s) ys))) (sym (on xs (Some s) f) ∙ at)

pub is_so-longer : (book : Entries) (x : Entry) (s : Said) → IsSo book s → IsSo (with_last book x) s
is_so-longer book x (At i e) h = slice_get-left book.entries (x ∷ []) i (slice_get_within book.entries i e h) ∙ h
is_so-longer book x (Already i e) h = settled-longer book.entries (x ∷ []) e i h
is_so-longer book x (Known n) h = let l = length-append book.entries (x ∷ []) in omega arith

are_so-longer : (book : Entries) (x : Entry) (ns : List Note) → AreSo book ns → AreSo (with_last book x) ns
are_so-longer book x [] h = tt
are_so-longer book x (n ∷ ns) h = (is_so-longer book x n.said h.0, are_so-longer book x ns h.1)

pub are_so-append : (book : Entries) (xs ys : List Note) → AreSo book xs → AreSo book ys → AreSo book (xs ++ ys)
are_so-append book [] ys h k = k
are_so-append book (x ∷ xs) ys h k = (h.0, are_so-append book xs ys h.1 k)

starts-longer : (book first : Entries) (x : Entry) → StartsWith book first → StartsWith (with_last book x) first
starts-longer book first x h = record {
  rest = h.rest ++ x ∷ [];
  entries = ap (λ (l : List Entry). l ++ x ∷ []) h.entries ∙ append_assoc first.entries h.rest (x ∷ []);
  sweep = h.sweep;
  out = h.out;
}

-- ---- the book after an answer

pub starts-after : (book first : Entries) (s : Said) → StartsWith book first → StartsWith (book_after book s) first
starts-after book first (At i e) h = starts-longer book first e h
starts-after book first (Already i e) h = h
starts-after book first (Known n) h = h

pub are_so-after : (book : Entries) (s : Said) (ns : List Note) → AreSo book ns → AreSo (book_after book s) ns
are_so-after book (At i e) ns h = are_so-longer book e ns h
are_so-after book (Already i e) ns h = h
are_so-after book (Known n) ns h = h

get-last : (xs : List Entry) (i : ℕ) (e : Entry) → i ≡ length xs → slice_get (xs ++ e ∷ []) i ≡ Some e
get-last [] i e h = ap (slice_get (e ∷ [])) h
get-last (x ∷ xs) zero e h = absurd (omega arith)
get-last (x ∷ xs) (suc i) e h = get-last xs i e (omega arith)

pub is_so-after : (net : AigPair) (book : Entries) (s : Said) → IsAnswer net book s → IsSo (book_after book s) s
is_so-after net book (At i e) h = get-last book.entries i e h.0
is_so-after net book (Already i e) h = h
is_so-after net book (Known n) h = omega arith

pub learned-after : (o : Own) (h : Story) (s : Said) → StartsWith h.book o.known → StartsWith (book_after h.book s) (learned o h s)
learned-after o h (At i e) k = starts-longer h.book o.known e k
learned-after o h (Already i e) k = k
learned-after o h (Known n) k = starts-self h.book

legal-after : (net : AigPair) (book : Entries) (s : Said) → IsAnswer net book s → IsLegal net book → IsLegal net (book_after book s)
legal-after net book (At i e) h l = legal-last net book e l h.1
legal-after net book (Already i e) h l = l
legal-after net book (Known n) h l = l

-- ---- the turns

may-follow : (net : AigPair) (book : Entries) (s : Said) → IsAnswer net book s → MayFollow (length book.entries) (what_of s)
may-follow net book (At i e) h = h.0
may-follow net book (Already i e) h = settled-below book.entries e i h
may-follow net book (Known n) h = h

after-length : (book : Entries) (s : Said) → length_after (length book.entries) (what_of s) ≡ length (book_after book s).entries
after-length book (At i e) = let l = length-append book.entries (e ∷ []) in omega arith
after-length book (Already i e) = refl
after-length book (Known n) = refl

replay-last : (m n : ℕ) (ts : List Turn) (t : Turn) → IsReplay m ts n → MayFollow n t.what → IsReplay m (ts ++ t ∷ []) (length_after n t.what)
replay-last m n [] t h may = (subst (λ (k : ℕ). MayFollow k t.what) (sym h) may, ap (λ (k : ℕ). length_after k t.what) h)
replay-last m n (u ∷ us) t h may = (h.0, replay-last (length_after m u.what) n us t h.1 may)

-- ---- the story

pub tale-after : (root : Root) (served : ℕ) (h : Story) (n : Note) → IsAnswer root.net h.book n.said → Tale root served h
    → Tale root (served + 1) (story_after h n)
tale-after root served h n answer old = record {
  legal = legal-after root.net h.book n.said answer old.legal;
  replays = record {
    begins = starts-after h.book root.opening n.said old.replays.begins;
    run =
        subst (IsReplay (length root.opening.entries) (h.turns ++ turn_of n ∷ [])) (after-length h.book n.said)
        (replay-last (length root.opening.entries) (length h.book.entries) h.turns (turn_of n) old.replays.run
        (may-follow root.net h.book n.said answer));
  };
  count = let c = old.count in omega (arith, length-append h.turns (turn_of n ∷ []));
}

pub tale-missed : (root : Root) (served : ℕ) (h : Story) → Tale root served h → Tale root (served + 1) (story_missed h)
tale-missed root served h old = record { legal = old.legal; replays = old.replays; count = let c = old.count in omega arith }
