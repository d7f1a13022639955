-- What scanning finds by words holds of any clauses that have these words.
use Rattle.std.proofs.Common.{◌≡◌, ℕ, zero, suc, ◌+◌, ◌<◌, ◌≤◌, ◌^◌, Bool, true, false, Some, List, [], ◌∷◌, ◌++◌, map, length, get_or, take, refl, sym, ap, ◌∙◌, subst, arith, w64}
use Rattle.std.specs.Prelude.{slice_index}
use Rattle.std.specs.Int.{trailing_zeros}
use Rattle.std.specs.List.{find, position, position_from, AllByRecursion}
use Rattle.std.proofs.lemmas.List.{map-append, take_all}
use Rattle.std.proofs.lemmas.List.Quantifiers.{position-Some}
use Rattle.std.proofs.lemmas.Iterator.Adapters.{position_from-zero}
use Rattle.std.proofs.lemmas.Option.{none-some, same_Some, slice_get-get_or}
use Rattle.lits.proofs.Facts.{take_next}
use Rattle.lits.specs.declared.literal.Lit.{Lit}
use Rattle.lits.specs.declared.node.Node.{Node}
use Rattle.lits.specs.declared.step.Named.{Named}
use Rattle.lits.specs.declared.step.Ref.{Ref}
use Rattle.strash_pass.specs.declared.coded.Coded.{Coded}
use Rattle.strash_pass.specs.declared.marks.Marks.{Marks}
use Rattle.strash_pass.specs.Coded.{bit_of, asks_word, open_word, turned, AreCoded, AreMarks, Sets}
use Rattle.strash_pass.specs.Shapes.{name_at, words_in, AreStraight}
use Rattle.unit_prop.specs.HintScan.{ScansTo}
use Rattle.strash_pass.proofs.WordLemmas.{numbering}
use Rattle.strash_pass.proofs.HintLemmas.{hinting-last, hinting-next, hinting-start, IsHinting}

-- the clause at a place is the first whose word asks
record IsFirst (marks : Marks) (cs : List Coded) (place : ℕ) : Type 0 where
  clause : Coded
  found : find (λ x. asks_word marks x.word) cs ≡ Some clause
  name : name_at cs place ≡ clause.by
  word : slice_index (words_in cs) place ≡ clause.word
  within : place < length (words_in cs)

first-from : (marks : Marks) (cs : List Coded) (from i : ℕ) → position_from (asks_word marks) from (words_in cs) ≡ Some i
    → (j : ℕ) × (i ≡ from + j) × IsFirst marks cs j
first-from marks [] from i e = absurd (none-some i e)
first-from marks (x ∷ xs) from i e = go (asks_word marks x.word) refl (first-from marks xs (from + 1) i)
  where
    go : (b : Bool) → asks_word marks x.word ≡ b
        → (position_from (asks_word marks) (from + 1) (words_in xs) ≡ Some i → (j : ℕ) × (i ≡ from + 1 + j) × IsFirst marks xs j)
        → (j : ℕ) × (i ≡ from + j) × IsFirst marks (x ∷ xs) j
    go true f rest =
        let g : Some from ≡ Some i = rw f at e in
        let same : from ≡ i = same_Some from i g in
        (0, omega (arith, same), record { clause = x; found = rw f refl; name = refl; word = refl; within = omega arith })
    go false f rest =
        let r = rest (rw f at e) in (
          suc r.0,
          omega (arith, r.1),
          record { clause = r.2.clause; found = rw f r.2.found; name = r.2.name; word = r.2.word; within = omega (arith, r.2.within) },
        )

is-first : (marks : Marks) (cs : List Coded) (i : ℕ) → position (asks_word marks) (words_in cs) ≡ Some i → IsFirst marks cs i
is-first marks cs i e =
    let r = first-from marks cs 0 i (sym (position_from-zero (asks_word marks) (words_in cs)) ∙ e) in
    let same : r.0 ≡ i = omega (arith, r.1) in
    subst (IsFirst marks cs) same r.2

-- it is there
pub place-inside : (marks : Marks) (words : List ℕ) (place : ℕ) → position (asks_word marks) words ≡ Some place → place < length words
place-inside marks words place found = (position-Some (asks_word marks) words place 0 found).0

-- one more element has what the others have
pub all-push : {X : Type 0} (P : X → Type 0) (xs : List X) (x : X) → AllByRecursion P xs → P x → AllByRecursion P (xs ++ x ∷ [])
all-push P [] x all one = (one, tt)
all-push P (y ∷ ys) x all one = (all.0, all-push P ys x all.1 one)

-- the places so far are those of hints that lead on from the marks
pub record IsStraightTo (words : List ℕ) (given marks : Marks) (places : List ℕ) : Type 0 where
  pub inside : AllByRecursion (λ p. p < length words) places
  pub leads : (coded : List Coded) (nodes : List Node) (base : List Named) (set : List Lit) → words_in coded ≡ words
      → length nodes ≤ 32 → AreCoded (bit_of nodes) base coded → AreMarks (bit_of nodes) set given
      → IsHinting (bit_of nodes) base set marks (map (name_at coded) places)

pub straight-start : (words : List ℕ) (marks : Marks) (places : List ℕ) → places ≡ [] → IsStraightTo words marks marks places
straight-start words marks places e =
    subst (IsStraightTo words marks marks) (sym e) (record {
      inside = tt;
      leads = λ coded nodes base set are few all marked. hinting-start (bit_of nodes) base set marks marked;
    })

module _ (words : List ℕ) (given marks : Marks) (places more : List ℕ) (is : IsStraightTo words given marks places) (place word : ℕ)
    (found : position (asks_word marks) words ≡ Some place) (word_is : word ≡ open_word marks (slice_index words place))
    (grown : more ≡ places ++ place ∷ []) where
  below : place < length words
  below = place-inside marks words place found

  first-in : (coded : List Coded) → words_in coded ≡ words → IsFirst marks coded place
  first-in coded are = is-first marks coded place (ap (position (asks_word marks)) are ∙ found)

  open-in : (coded : List Coded) (are : words_in coded ≡ words) → word ≡ open_word marks (first-in coded are).clause.word
  open-in coded are =
      word_is ∙ ap (λ (ws : List ℕ). open_word marks (slice_index ws place)) (sym are) ∙ ap (open_word marks) (first-in coded are).word

  names-in : (coded : List Coded) (are : words_in coded ≡ words)
      → map (name_at coded) (places ++ place ∷ []) ≡ map (name_at coded) places ++ (first-in coded are).clause.by ∷ []
  names-in coded are =
      map-append (name_at coded) places (place ∷ [])
      ∙ ap (λ (r : Ref). map (name_at coded) places ++ r ∷ []) (first-in coded are).name

  pub straight-next : (new : Marks) → (word ≡ 0 → ⊥) → Sets marks.yes (trailing_zeros w64 word) new.yes
      → Sets marks.no (turned (trailing_zeros w64 word)) new.no → new.no < 2 ^ 64 → IsStraightTo words given new more
  straight-next new some sets_true sets_false small = subst (IsStraightTo words given new) (sym grown) (record {
    inside = all-push (λ p. p < length words) places place is.inside below;
    leads = λ coded nodes base set are few all marked.
        let first = first-in coded are in
        subst (IsHinting (bit_of nodes) base set new) (sym (names-in coded are))
        (hinting-next (bit_of nodes) (numbering nodes few) base set marks (map (name_at coded) places) (is.leads coded nodes base set are few all marked)
        coded first.clause all first.found new word (open-in coded are) some sets_true sets_false small);
  })

  pub straight-last : word ≡ 0 → AreStraight words given more
  straight-last nothing = subst (AreStraight words given) (sym grown) (record {
    inside = all-push (λ p. p < length words) places place is.inside below;
    leads = λ coded nodes base set are few all marked.
        let first = first-in coded are in
        subst (ScansTo base set) (sym (names-in coded are))
        (hinting-last (bit_of nodes) (numbering nodes few) base set marks (map (name_at coded) places) (is.leads coded nodes base set are few all marked)
        coded first.clause all first.found (sym (open-in coded are) ∙ nothing));
  })

-- ---- lists that are made element by element
-- what stands at a place of a list of small numbers is small
pub all-at : (n : ℕ) (xs : List ℕ) (i : ℕ) → AllByRecursion (λ p. p < n) xs → i < length xs → get_or xs i 0 < n
all-at n [] i all below = absurd (omega (arith, below))
all-at n (x ∷ xs) zero all below = all.0
all-at n (x ∷ xs) (suc i) all below = all-at n xs i all.1 (omega (arith, below))

pub map-next : {X Y : Type 0} (f : X → Y) (xs : List X) (i : ℕ) (d : X) (old new : List Y) → i < length xs → old ≡ map f (take i xs)
    → new ≡ old ++ f (get_or xs i d) ∷ [] → new ≡ map f (take (i + 1) xs)
map-next {X} {Y} f xs i d old new below so_far e =
    let x = get_or xs i d in
    e ∙ ap (λ (ys : List Y). ys ++ f x ∷ []) so_far ∙ sym (map-append f (take i xs) (x ∷ []))
    ∙ ap (map f) (sym (take_next xs i x (slice_get-get_or xs i d below)))

pub map-all : {X Y : Type 0} (f : X → Y) (xs : List X) (i : ℕ) (ys : List Y) → length xs ≤ i → ys ≡ map f (take i xs) → ys ≡ map f xs
map-all f xs i ys le e = e ∙ ap (map f) (take_all i xs le)
