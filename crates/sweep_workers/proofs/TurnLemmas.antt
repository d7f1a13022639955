-- The turns of a board's record, and the entries that they put into the book.
use Rattle.std.proofs.Common.{◌≡◌, ℕ, zero, suc, ◌+◌, ◌<◌, ◌≤◌, List, [], ◌∷◌, ◌++◌, length, map, drop, Option, Some, slice_get, refl, sym, ap, ◌∙◌, arith}
use Rattle.std.specs.Option.{option_map_or}
use Rattle.std.proofs.lemmas.Option.{none-some, same_Some}
use Rattle.std.proofs.lemmas.List.{drop_all}
use Rattle.lemma_book.specs.declared.entry.Entry.{Entry}
use Rattle.lemma_book.specs.declared.turn.What.{What}
use Rattle.lemma_book.specs.declared.turn.What.TheVariants as what
use Rattle.lemma_book.specs.declared.turn.Turn.{Turn}
use Rattle.lemma_book.specs.Entry.{Entries}
use Rattle.lemma_book.specs.Machine.{IsReplay, MayFollow, length_after}
use Rattle.board_lock.specs.declared.view.Said.{Said}
use Rattle.board_lock.specs.declared.view.Said.TheVariants.{At, Already, Known}
use Rattle.board_lock.specs.declared.view.Note.{Note}
use Rattle.board_lock.specs.Story.{AreSo, IsSo, turn_of, under, what_of}
use Rattle.sweep_workers.specs.Working.{offers, with_offer}
use Rattle.sweep_workers.proofs.WeightLemmas.{weigh, at_place, same-weight}

-- the weight of what a turn put into the book
abbrev what_weight : (Entry → ℕ) → List Entry → What → ℕ
what_weight w es (what.At i) = at_place w es i
what_weight w es (what.Already i) = 0
what_weight w es (what.Known n) = 0

abbrev turn_weight : (Entry → ℕ) → List Entry → Turn → ℕ
turn_weight w es t = what_weight w es t.what

replay-most : (m n : ℕ) (ts : List Turn) → IsReplay m ts n → m ≤ n
replay-most m n [] run = omega (arith, run)
replay-most m n (t ∷ ts) run = go t.what refl (replay-most (length_after m t.what) n ts run.1)
  where
    go : (x : What) → t.what ≡ x → length_after m t.what ≤ n → m ≤ n
    go (what.At i) is most = let h : m + 1 ≤ n = rw is at most in omega arith
    go (what.Already i) is most = rw is at most
    go (what.Known k) is most = rw is at most

there : (es : List Entry) (m : ℕ) → m < length es → (x : Entry) × (slice_get es m ≡ Some x)
there [] m below = absurd (omega arith)
there (x ∷ xs) zero below = (x, refl)
there (x ∷ xs) (suc m) below = there xs m (omega arith)

drop-at : (es : List Entry) (m : ℕ) (x : Entry) → slice_get es m ≡ Some x → drop m es ≡ x ∷ drop (m + 1) es
drop-at [] m x at = absurd (none-some x at)
drop-at (y ∷ ys) zero x at = ap (λ (z : Entry). z ∷ ys) (same_Some y x at)
drop-at (y ∷ ys) (suc m) x at = let e : suc m + 1 ≡ suc (m + 1) = omega arith in rw e (drop-at ys m x at)

replay-weight : (w : Entry → ℕ) (es : List Entry) (m : ℕ) (ts : List Turn) → IsReplay m ts (length es)
    → weigh w (drop m es) ≡ weigh (turn_weight w es) ts
replay-weight w es m [] run = ap (weigh w) (drop_all m es (omega (arith, run)))
replay-weight w es m (t ∷ ts) run = go t.what refl run.0 run.1 (replay-weight w es (length_after m t.what) ts run.1)
  where
    go : (x : What) → t.what ≡ x → MayFollow m t.what → IsReplay (length_after m t.what) ts (length es)
        → weigh w (drop (length_after m t.what) es) ≡ weigh (turn_weight w es) ts
        → weigh w (drop m es) ≡ what_weight w es t.what + weigh (turn_weight w es) ts
    go (what.At i) is may rest ih =
        let here : i ≡ m = rw is at may in
        let next : IsReplay (m + 1) ts (length es) = rw is at rest in
        let tail : weigh w (drop (m + 1) es) ≡ weigh (turn_weight w es) ts = rw is at ih in
        let most = replay-most (m + 1) (length es) ts next in
        let x = there es m (omega arith) in
        let placed : at_place w es i ≡ w x.0 = ap (at_place w es) here ∙ ap (λ (o : Option Entry). option_map_or w o 0) x.1 in
        ap (weigh w) (drop-at es m x.0 x.1) ∙ rw (is, placed) (ap (λ (k : ℕ). w x.0 + k) tail)
    go (what.Already i) is may rest ih =
        let same : weigh w (drop m es) ≡ weigh (turn_weight w es) ts = rw is at ih in
        let z : weigh (turn_weight w es) ts ≡ 0 + weigh (turn_weight w es) ts = omega arith in
        rw is (same ∙ z)
    go (what.Known n) is may rest ih =
        let same : weigh w (drop m es) ≡ weigh (turn_weight w es) ts = rw is at ih in
        let z : weigh (turn_weight w es) ts ≡ 0 + weigh (turn_weight w es) ts = omega arith in
        rw is (same ∙ z)

drop-front : (xs ys : List Entry) → drop (length xs) (xs ++ ys) ≡ ys
drop-front [] ys = refl
drop-front (x ∷ xs) ys = drop-front xs ys

-- what a pass's answers put into a book weighs no more than what was offered
notes-weight : (w : Entry → ℕ) (book : Entries) (ns : List Note) → AreSo book ns
    → weigh (turn_weight w book.entries) (map turn_of ns) ≤ weigh w (offers ns)
notes-weight w book [] so = omega arith
notes-weight w book (n ∷ ns) so = go n.said so.0 (notes-weight w book ns so.1)
  where
    go : (s : Said) → IsSo book s → weigh (turn_weight w book.entries) (map turn_of ns) ≤ weigh w (offers ns)
        → what_weight w book.entries (what_of s) + weigh (turn_weight w book.entries) (map turn_of ns) ≤ weigh w (with_offer s (offers ns))
    go (At i e) here ih =
        let placed : at_place w book.entries i ≡ w e = ap (λ (o : Option Entry). option_map_or w o 0) here in
        omega arith
    go (Already i e) here ih = omega arith
    go (Known n) here ih = let h = ih in omega arith

-- the entries behind the opening book weigh no more than those that were offered
pub added-weight : (w : Entry → ℕ) (opening book : Entries) (rest : List Entry) (ts : List Turn) (ns : List Note)
    → book.entries ≡ opening.entries ++ rest → IsReplay (length opening.entries) ts (length book.entries)
    → ((p : ℕ) → under p ts ≡ under p (map turn_of ns)) → AreSo book ns
    → weigh w rest ≤ weigh w (offers ns)
added-weight w opening book rest ts ns begins run each so =
    let front : drop (length opening.entries) book.entries ≡ rest = ap (drop (length opening.entries)) begins ∙ drop-front opening.entries rest in
    let put : weigh w rest ≡ weigh (turn_weight w book.entries) ts = ap (weigh w) (sym front) ∙ replay-weight w book.entries (length opening.entries) ts run in
    let noted : weigh (turn_weight w book.entries) ts ≡ weigh (turn_weight w book.entries) (map turn_of ns) =
    same-weight (λ (t : Turn). t.pass) (turn_weight w book.entries) ts (map turn_of ns) each in
    let most = notes-weight w book ns so in
    omega arith
