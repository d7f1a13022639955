-- How an index by chains grows, and what its chains come to.
use Rattle.std.proofs.Common.{◌≡◌, ◌≢◌, ℕ, ◌⊎◌, inl, inr, zero, suc, ◌+◌, ◌*◌, ◌%◌, ◌^◌, ◌<◌, ◌≤◌, length, take, set, get_or, Bool, true, false, List, [], ◌∷◌, ◌++◌, refl, sym, ap, ◌∙◌, subst, arith, length-append}
use Rattle.std.specs.Prelude.{Option, Some, None, IfSome, IfNone, is_some, ◌||◌, if◌then◌else◌, nat_le}
use Rattle.std.specs.List.{slice_get}
use Rattle.std.proofs.lemmas.Bool.{le-leb}
use Rattle.std.proofs.lemmas.Option.{slice_get_read, get_or_from_slice_get}
use Rattle.std.proofs.lemmas.List.{take_more, length-set, get_or-set_same, get_or-set_other, get_or_append_left, get_or_past}
use Rattle.std.proofs.lemmas.Bool.Decides.{leb_tells, eqb_tells}
use Rattle.std.proofs.Math.Seq.{get_or-append_seam}
use Rattle.std.proofs.Math.Nat.{mod-lt, div-lt_iff_lt-mul, mul-lt-mul_of_pos_right}
use Rattle.lits.specs.Clause.{has}
use Rattle.lits.specs.Chains.{slot_of, first_of, Leads, here, there, IsIndex}

-- no chain begins at 0
pub leads-nothing : (links : List ℕ) (place name : ℕ) → name ≡ 0 → Leads links place name → ⊥
leads-nothing links place name none (here n e) = omega arith
leads-nothing links place name none (there n i e within rest) = omega arith

-- links that are put behind change no chain
pub leads-push : (links : List ℕ) (y place name : ℕ) → Leads links place name → Leads (links ++ y ∷ []) place name
leads-push links y place name (here n e) = here n e
leads-push links y place name (there n i e within rest) =
    there n i e (rw (length-append links (y ∷ [])) (omega arith))
    (rw (get_or_append_left links (y ∷ []) 0 i within) (leads-push links y place (get_or links i 0) rest))

-- what leads to another place leads on
pub leads-on : (links : List ℕ) (place name i : ℕ) → name ≡ i + 1 → place ≢ i → Leads links place name
    → Leads links place (get_or links i 0)
leads-on links place name i is other (here n e) = elim (other (omega arith)) [ ]
leads-on links place name i is other (there n j e within rest) =
    let same : j ≡ i = omega arith in
    subst (λ (k : ℕ). Leads links place (get_or links k 0)) same rest

module _ {L : Type 0} {eq : L → L → Bool} (exact : (x y : L) → eq x y ≡ true → x ≡ y) where
  -- a literal of the list stands somewhere
  pub has-place : (xs : List L) (x : L) → has eq xs x ≡ true → (place : ℕ) × (slice_get xs place ≡ Some x)
  has-place [] x h = cc
  has-place (y ∷ ys) x h = go (eq y x) refl (has-place ys x)
    where
      go : (b : Bool) → eq y x ≡ b → (has eq ys x ≡ true → (place : ℕ) × (slice_get ys place ≡ Some x))
          → (place : ℕ) × (slice_get (y ∷ ys) place ≡ Some x)
      go true e rest = (0, ap Some (exact y x e))
      go false e rest =
          let found = rest (rw e at h) in
          (suc found.0, found.1)

  -- a literal at a place is in the list
  pub has-at : ((x : L) → eq x x ≡ true) → (xs : List L) (place : ℕ) (x : L) → slice_get xs place ≡ Some x → has eq xs x ≡ true
  has-at self [] place x h = cc
  has-at self (y ∷ ys) zero x h =
      let same : y ≡ x = cc in
      rw (ap (λ (z : L). eq z x) same ∙ self x) refl
  has-at self (y ∷ ys) (suc place) x h = go (eq y x) (has-at self ys place x h)
    where
      go : (b : Bool) → has eq ys x ≡ true → (b || has eq ys x) ≡ true
      go true e = refl
      go false e = e

  pub has-place_of : ((x : L) → eq x x ≡ true) → (xs : List L) (x : L) (o : Option ℕ)
      → IfSome o (λ place. slice_get xs place ≡ Some x) → IfNone o (has eq xs x ≡ false) → is_some o ≡ has eq xs x
  has-place_of self xs x (Some place) some none = sym (has-at self xs place x some)
  has-place_of self xs x None some none = sym none

  -- no chain from the literal's first place leads to it
  pub not-had : (links : List ℕ) (xs : List L) (x : L) (name : ℕ) → name ≡ 0
      → ((place : ℕ) → slice_get xs place ≡ Some x → Leads links place name) → has eq xs x ≡ false
  not-had links xs x name none leads = go (has eq xs x) refl
    where
      go : (b : Bool) → has eq xs x ≡ b → has eq xs x ≡ false
      go false e = e
      go true e =
          let found = has-place xs x e in
          elim (leads-nothing links found.0 name none (leads found.0 found.1)) [ ]

-- an element that is read is that at its place, whatever stands for none
pub read-else : {X : Type 0} (xs : List X) (i : ℕ) (x d : X) → i < length xs → x ≡ get_or xs i x → x ≡ get_or xs i d
read-else xs i x d lt is = sym (get_or_from_slice_get xs i x d (slice_get_read xs _ i x refl lt is))

-- a place of a literal is still ahead behind the place of another one
pub leads-behind : {L : Type 0} (eq : L → L → Bool) → ((x : L) → eq x x ≡ true) → (links : List ℕ) (xs : List L) (x other : L) (name i next : ℕ)
    → name ≡ i + 1 → i < length links → other ≡ get_or xs i other → eq other x ≡ false → next ≡ get_or links i next
    → ((place : ℕ) → slice_get xs place ≡ Some x → Leads links place name) → (place : ℕ) → slice_get xs place ≡ Some x → Leads links place next
leads-behind {L} eq self links xs x other name i next is below at differs read ahead place found =
    subst (λ (n : ℕ). Leads links place n) (sym (read-else links i next 0 below read)) (leads-on links place name i is apart (ahead place found))
  where
    apart : place ≢ i
    apart same =
        let there : other ≡ x = at ∙ get_or_from_slice_get xs i x other (subst (λ (p : ℕ). slice_get xs p ≡ Some x) same found) in
        let equal : eq other x ≡ true = subst (λ (y : L). eq y x ≡ true) (sym there) (self x) in
        cc (equal, differs)

slice_get-push : {L : Type 0} → (xs : List L) (x y : L) (place : ℕ) → slice_get (xs ++ x ∷ []) place ≡ Some y
    → ((place < length xs) × (slice_get xs place ≡ Some y)) ⊎ ((place ≡ length xs) × (x ≡ y))
slice_get-push [] x y zero h = inr (refl, grind arith)
slice_get-push [] x y (suc place) h = cc
slice_get-push (z ∷ zs) x y zero h = inl (omega arith, h)
slice_get-push (z ∷ zs) x y (suc place) h =
    elim (slice_get-push zs x y place h) [ inl w ↦ inl (omega arith, w.1) | inr w ↦ inr (omega arith, w.1) ]

-- the slot is one of those that there are
slot-below : (code count : ℕ) → 0 < count → slot_of code count < count
unfolding slot_of
slot-below code count positive =
    let below : (code * 11400714819323198485 % 2 ^ 64) * count < 2 ^ 64 * count =
    mul-lt-mul_of_pos_right (mod-lt (code * 11400714819323198485) {m = 2 ^ 64} (omega arith)) positive in
    (div-lt_iff_lt-mul {k = 2 ^ 64} (omega arith)).1 (omega (arith, below))

-- the head of a slot counts only where it is a place's
abbrev kept : ℕ → ℕ → ℕ
kept head count = if nat_le head count then head else 0

kept-within : (head count : ℕ) → head ≤ count → kept head count ≡ head
kept-within head count h = rw (le-leb head count h) refl

kept-past : (head count : ℕ) → count < head → kept head count ≡ 0
kept-past head count h = grind (arith, leb_tells)

kept-le : (head count : ℕ) → kept head count ≤ count
kept-le head count = grind (arith, leb_tells)

links-back : (links : List ℕ) (first i : ℕ) → first ≤ length links → ((k : ℕ) → get_or links k 0 ≤ k)
    → get_or (links ++ first ∷ []) i 0 ≤ i
links-back links first i within back =
    elim (leb_tells (i + 1) (length links)) [
      | inl w ↦ rw (get_or_append_left links (first ∷ []) 0 i (omega arith)) (back i)
      | inr w ↦ elim (leb_tells i (length links)) [
        | inl v ↦ let here : i ≡ length links = omega arith in rw (here, get_or-append_seam links first [] 0) within
        | inr v ↦
            let past : length (links ++ first ∷ []) ≤ i = rw (length-append links (first ∷ [])) (omega arith) in
            rw (get_or_past (links ++ first ∷ []) i 0 past) (omega arith)
      ]
    ]

-- The heads and links behind one place more, at the front of the chain of the code c: which chain a code d then has.
module _ (heads links : List ℕ) (c : ℕ) (positive : 0 < length heads) where
  first-front : (first d : ℕ) → slot_of d (length heads) ≡ slot_of c (length heads)
      → first_of (set heads (slot_of c (length heads)) (length links + 1)) (links ++ first ∷ []) d ≡ length links + 1
  first-front first d same =
      let v : ℕ = length links + 1 in
      let heads' : List ℕ = set heads (slot_of c (length heads)) v in
      let count : ℕ = length (links ++ first ∷ []) in
      ap (λ (m : ℕ). kept (get_or heads' (slot_of d m) 0) count) (length-set heads (slot_of c (length heads)) v)
      ∙ ap (λ (t : ℕ). kept (get_or heads' t 0) count) same
      ∙ ap (λ (h : ℕ). kept h count) (get_or-set_same heads (slot_of c (length heads)) v 0 (slot-below c (length heads) positive))
      ∙ kept-within v count (rw (length-append links (first ∷ [])) (omega arith))

  first-other : (first d : ℕ) → slot_of d (length heads) ≢ slot_of c (length heads)
      → first_of (set heads (slot_of c (length heads)) (length links + 1)) (links ++ first ∷ []) d
      ≡ kept (get_or heads (slot_of d (length heads)) 0) (length links + 1)
  first-other first d other =
      let v : ℕ = length links + 1 in
      let heads' : List ℕ = set heads (slot_of c (length heads)) v in
      let count : ℕ = length (links ++ first ∷ []) in
      ap (λ (m : ℕ). kept (get_or heads' (slot_of d m) 0) count) (length-set heads (slot_of c (length heads)) v)
      ∙ ap (λ (h : ℕ). kept h count) (get_or-set_other heads (slot_of c (length heads)) (slot_of d (length heads)) v 0 other)
      ∙ ap (λ (m : ℕ). kept (get_or heads (slot_of d (length heads)) 0) m) (length-append links (first ∷ []))

  -- a place that the code's chain led to is still on it
  leads-old : (d place : ℕ) → place < length links → Leads links place (first_of heads links d)
      → Leads (links ++ first_of heads links c ∷ []) place
      (first_of (set heads (slot_of c (length heads)) (length links + 1)) (links ++ first_of heads links c ∷ []) d)
  leads-old d place below leads =
      elim (eqb_tells (slot_of d (length heads)) (slot_of c (length heads))) [
        | inl w ↦ subst (λ (name : ℕ). Leads links' place name) (sym (first-front first d w.1)) (behind w.1)
        | inr w ↦ subst (λ (name : ℕ). Leads links' place name) (sym (first-other first d w.1)) (beside (get_or heads (slot_of d (length heads)) 0) refl)
      ]
    where
      first : ℕ
      first = first_of heads links c

      links' : List ℕ
      links' = links ++ first_of heads links c ∷ []

      behind : slot_of d (length heads) ≡ slot_of c (length heads) → Leads (links ++ first_of heads links c ∷ []) place (length links + 1)
      behind same =
          let rest : Leads links place (first_of heads links c) =
          subst (λ (t : ℕ). Leads links place (kept (get_or heads t 0) (length links))) same leads in
          there (length links + 1) (length links) refl (rw (length-append links (first_of heads links c ∷ [])) (omega arith))
          (rw (get_or-append_seam links (first_of heads links c) [] 0) (leads-push links (first_of heads links c) place (first_of heads links c) rest))

      beside : (head : ℕ) → get_or heads (slot_of d (length heads)) 0 ≡ head
          → Leads (links ++ first_of heads links c ∷ []) place (kept (get_or heads (slot_of d (length heads)) 0) (length links + 1))
      beside head is =
          elim (leb_tells (get_or heads (slot_of d (length heads)) 0) (length links)) [
            | inl w ↦
                subst (λ (name : ℕ). Leads (links ++ first_of heads links c ∷ []) place name)
                (kept-within _ (length links) w.1 ∙ sym (kept-within _ (length links + 1) (omega arith)))
                (leads-push links (first_of heads links c) place _ leads)
            | inr w ↦ elim (leads-nothing links place _ (kept-past _ (length links) w.1) leads) [ ]
          ]

  -- the new place is on it
  leads-new : (d place : ℕ) → place ≡ length links → d ≡ c
      → Leads (links ++ first_of heads links c ∷ []) place
      (first_of (set heads (slot_of c (length heads)) (length links + 1)) (links ++ first_of heads links c ∷ []) d)
  leads-new d place at same =
      subst (λ (name : ℕ). Leads (links ++ first_of heads links c ∷ []) place name)
      (sym (first-front (first_of heads links c) d (ap (λ (e : ℕ). slot_of e (length heads)) same)))
      (here (length links + 1) (omega arith))

module _ {L : Type 0} {code : L → ℕ} where
  -- one literal more
  pub index-push : (heads links : List ℕ) (lits : List L) (x : L) (heads' links' : List ℕ) → 0 < length heads
      → links' ≡ links ++ first_of heads links (code x) ∷ []
      → heads' ≡ set heads (slot_of (code x) (length heads)) (length links + 1)
      → IsIndex code heads links lits → IsIndex code heads' links' (lits ++ x ∷ [])
  index-push heads links lits x heads' links' positive links_is heads_is index =
      rw (links_is, heads_is) (record {
        each = rw (length-append links (first_of heads links (code x) ∷ []), length-append lits (x ∷ [])) (ap (λ (n : ℕ). n + 1) index.each);
        back = λ i. links-back links (first_of heads links (code x)) i (kept-le _ (length links)) index.back;
        finds = finds;
      })
    where
      finds : (place : ℕ) (y : L) → slice_get (lits ++ x ∷ []) place ≡ Some y
          → Leads (links ++ first_of heads links (code x) ∷ []) place
          (first_of (set heads (slot_of (code x) (length heads)) (length links + 1)) (links ++ first_of heads links (code x) ∷ []) (code y))
      finds place y h =
          elim (slice_get-push lits x y place h) [
            | inl w ↦ leads-old heads links (code x) positive (code y) place (rw index.each w.0) (index.finds place y w.1)
            | inr w ↦ leads-new heads links (code x) positive (code y) place (w.0 ∙ sym index.each) (ap code (sym w.1))
          ]

  -- the next literal of the list joins the index
  pub index-next : (heads links : List ℕ) (lits : List L) (i : ℕ) (x : L) {heads' links' : List ℕ} → i < length lits → x ≡ get_or lits i x
      → 0 < length heads → links' ≡ links ++ first_of heads links (code x) ∷ []
      → heads' ≡ set heads (slot_of (code x) (length heads)) (length links + 1)
      → IsIndex code heads links (take i lits) → IsIndex code heads' links' (take (i + 1) lits)
  index-next heads links lits i x {heads'} {links'} below at positive links_is heads_is index =
      let next : take (i + 1) lits ≡ take i lits ++ x ∷ [] =
      take_more lits i x below ∙ ap (λ (y : L). take i lits ++ y ∷ []) (sym at) in
      rw next (index-push heads links (take i lits) x heads' links' positive links_is heads_is index)
