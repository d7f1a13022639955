-- What the entries that are kept say, and what the inputs that are handed out are.
use Rattle.std.proofs.Common.{◌≡◌, ℕ, suc, Bool, true, false, ◌&&◌, Some, List, [], ◌∷◌, ◌++◌, length, map, refl, sym, ◌∙◌}
use Rattle.std.specs.Prelude.{slice_get}
use Rattle.std.specs.List.{list_all, AllByRecursion}
use Rattle.lits.specs.declared.node.Node.{Node}
use Rattle.netlist.specs.Net.{AigPair}
use Rattle.unit_prop.specs.Log.{InTurn}
use Rattle.lemma_book.specs.declared.entry.Entry.{Entry}
use Rattle.lemma_book.specs.declared.entry.Entry.TheVariants.{Merge, Apart, Spent, Out, OutApart, OutSpent}
use Rattle.lemma_book.specs.Entry.{Entries, answer_of, says_equal}
use Rattle.lemma_book.specs.Good.{IsGood, NotApart}
use Rattle.lemma_book.specs.Book.{IsLegal}
use Rattle.netlist_edits.specs.declared.edit.Edit.{Edit}
use Rattle.netlist_edits.specs.Edited.{touched_by}
use Rattle.keep_lemmas.specs.Kept.{entry_stays, stays, stays_among, count_before, at_places, renewed, kept, handed_out}
use Rattle.keep_lemmas.proofs.KeptPlaces.{stays-at_place}

-- ---- what is kept says that values are equal

-- what each element at a chosen place passes, all of them pass
places-all : {X : Type 0} (p : X → Bool) (set : ℕ → Bool) (xs : List X)
    → ((i : ℕ) (x : X) → set i ≡ true → slice_get xs i ≡ Some x → p x ≡ true) → list_all p (at_places set xs) ≡ true
places-all p set [] each = refl
places-all {X} p set (x ∷ xs) each = go (set 0) refl (places-all p (λ k. set (suc k)) xs (λ i y s at. each (suc i) y s at))
  where
    go : (b : Bool) → set 0 ≡ b → list_all p (at_places (λ k. set (suc k)) xs) ≡ true → list_all p (at_places set (x ∷ xs)) ≡ true
    go true is rest = rw (is, each 0 x is refl) rest
    go false is rest = rw is rest

renewed-equal : (number : ℕ → ℕ) (e : Entry) → says_equal (answer_of (renewed number e)) ≡ says_equal (answer_of e)
renewed-equal number (Merge node lit steps) = refl
renewed-equal number (Apart node lit input) = refl
renewed-equal number (Spent node lit seen log) = refl
renewed-equal number (Out j steps) = refl
renewed-equal number (OutApart j input) = refl
renewed-equal number (OutSpent j seen log) = refl

all-renewed : (number : ℕ → ℕ) (es : List Entry) → list_all (λ e. says_equal (answer_of e)) es ≡ true
    → list_all (λ e. says_equal (answer_of e)) (map (renewed number) es) ≡ true
all-renewed number [] all = refl
all-renewed number (e ∷ es) all = go (says_equal (answer_of e)) refl all (all-renewed number es)
  where
    go : (b : Bool) → says_equal (answer_of e) ≡ b → (says_equal (answer_of e) && list_all (λ x. says_equal (answer_of x)) es) ≡ true
        → (list_all (λ x. says_equal (answer_of x)) es ≡ true → list_all (λ x. says_equal (answer_of x)) (map (renewed number) es) ≡ true)
        → list_all (λ x. says_equal (answer_of x)) (map (renewed number) (e ∷ es)) ≡ true
    go true is all rest = rw (renewed-equal number e ∙ is) (rest (rw is at all))
    go false is all rest = let t : false ≡ true = rw is at all in cc

stays-equal : (net : AigPair) (t : Node → Bool) (set : ℕ → Bool) (e : Entry) → entry_stays net t set e ≡ true → says_equal (answer_of e) ≡ true
stays-equal net t set (Merge node lit steps) stay = refl
stays-equal net t set (Apart node lit input) stay = cc
stays-equal net t set (Spent node lit seen log) stay = cc
stays-equal net t set (Out j steps) stay = refl
stays-equal net t set (OutApart j input) stay = cc
stays-equal net t set (OutSpent j seen log) stay = cc

-- each entry that is kept says that two values are equal
pub kept-equal : (net : AigPair) (edits : List Edit) (book : Entries)
    → list_all (λ e. says_equal (answer_of e)) (kept net edits book).entries ≡ true
kept-equal net edits book =
    let set : ℕ → Bool = stays net (touched_by edits) book.entries in
    all-renewed (count_before set) (at_places set book.entries)
    (places-all (λ e. says_equal (answer_of e)) set book.entries
    (λ i e is at. stays-equal net (touched_by edits) (stays_among net (touched_by edits) book.entries i) e
    (sym (stays-at_place net (touched_by edits) book.entries i e at) ∙ is)))

-- ---- what is handed out

handed-turn : (net : AigPair) (sweep out : ℕ) (before es : List Entry)
    → InTurn (λ b e. IsGood net (record { sweep_budget = sweep; out_budget = out; entries = b }) e) before es
    → AllByRecursion (λ bits. length bits ≡ length net.a.inputs) (handed_out es)
handed-turn net sweep out before [] turn = tt
handed-turn net sweep out before (Merge node lit steps ∷ es) turn = handed-turn net sweep out (before ++ Merge node lit steps ∷ []) es turn.1
handed-turn net sweep out before (Apart node lit input ∷ es) turn =
    ((turn.0 NotApart).whole, handed-turn net sweep out (before ++ Apart node lit input ∷ []) es turn.1)
handed-turn net sweep out before (Spent node lit seen log ∷ es) turn = handed-turn net sweep out (before ++ Spent node lit seen log ∷ []) es turn.1
handed-turn net sweep out before (Out j steps ∷ es) turn = handed-turn net sweep out (before ++ Out j steps ∷ []) es turn.1
handed-turn net sweep out before (OutApart j input ∷ es) turn =
    ((turn.0 NotApart).admitted.whole, handed-turn net sweep out (before ++ OutApart j input ∷ []) es turn.1)
handed-turn net sweep out before (OutSpent j seen log ∷ es) turn = handed-turn net sweep out (before ++ OutSpent j seen log ∷ []) es turn.1

-- each input that a legal book hands out has a truth value for each input of the circuits
pub handed-whole : (net : AigPair) (book : Entries) → IsLegal net book
    → AllByRecursion (λ bits. length bits ≡ length net.a.inputs) (handed_out book.entries)
handed-whole net book legal = handed-turn net book.sweep_budget book.out_budget [] book.entries legal
