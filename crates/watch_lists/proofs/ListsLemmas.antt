-- Lists of lists: what one place holds.
use Rattle.std.proofs.Common.{Vec, Global, append_assoc, ◌≢◌, ◌+◌, ◌≤◌, take, ◌≡◌, ℕ, zero, suc, ◌<◌, List, [], ◌∷◌, ◌++◌, length, refl, sym, ap, ◌∙◌, subst, arith, get_or, map, set, Ok, Err}
use Rattle.std.specs.Prelude.{Result, OnErr}
use Rattle.std.proofs.lemmas.List.{take_more, length-take, get_or-take, get_or-set_other, get_or-set_same, length-set, length-append, map-append, take-append-le, get_or-map}
use Rattle.watch_lists.specs.Lists.{AreSpare}
use Rattle.watch_lists.specs.declared.lists.Watch.{Watch}
use Rattle.std.proofs.lemmas.List.{map-set, length-map, set-get_or}

pub on_err : {T E : Type 0} {P : Type 0} (r : Result T E) → P → OnErr r P
on_err (Ok x) p = tt
on_err (Err e) p = p

pub map-read : {A B : Type 0} (f : A → B) (ls : List A) (now : List B) (i : ℕ) (x : A) (d : B)
    → map f ls ≡ now → i < length now → x ≡ get_or ls i x → get_or now i d ≡ f x
map-read {A} {B} f ls now i x d e h read =
    let within : i < length ls = omega (arith, length-map {A = A} {B = B} ls f, ap length e) in
    sym (ap (λ (z : List B). get_or z i d) e) ∙ (get_or-map f ls i x d within ∙ ap f (sym read))

-- a place that is read, changed and written back
pub map-written : {A B : Type 0} (f : A → B) (F : B → B) (ls : List A) (now : List B) (i : ℕ) (x v : A) (d : B)
    → map f ls ≡ now → i < length now → x ≡ get_or ls i x → f v ≡ F (f x) → map f (set ls i v) ≡ set now i (F (get_or now i d))
map-written {A} {B} f F ls now i x v d e h read is =
    map-set f ls i v ∙ (ap (λ (z : List B). set z i (f v)) e ∙ ap (λ (y : B). set now i y) (is ∙ ap F (sym (map-read f ls now i x d e h read))))

-- written back as it was
pub map-same : {A B : Type 0} (f : A → B) (ls : List A) (now : List B) (i : ℕ) (x v : A)
    → map f ls ≡ now → i < length now → x ≡ get_or ls i x → f v ≡ f x → map f (set ls i v) ≡ now
map-same {A} {B} f ls now i x v e h read is =
    map-written f (λ (y : B). y) ls now i x v (f x) e h read is ∙ set-get_or now i (f x)

take-set-within : {X : Type 0} (n : ℕ) (xs : List X) (k : ℕ) (v : X) → k < n → take n (set xs k v) ≡ set (take n xs) k v
take-set-within zero xs k v h = absurd (omega arith)
take-set-within (suc n) [] k v h = refl
take-set-within (suc n) (x ∷ xs) zero v h = refl
take-set-within {X} (suc n) (x ∷ xs) (suc k) v h = ap (λ (l : List X). x ∷ l) (take-set-within n xs k v (omega arith))

-- the same of the first of them
module _ {A B : Type 0} (f : A → B) (used : ℕ) (ls : List A) (now : List B) (e : take used (map f ls) ≡ now) where
  pub used-below : (i : ℕ) → i < length now → i < used
  used-below i h = omega (arith, ap length e, length-take used (map f ls), length-map ls f)

  pub used-inside : (i : ℕ) → i < length now → i < length ls
  used-inside i h = omega (arith, ap length e, length-take used (map f ls), length-map ls f)

  pub used-read : (i : ℕ) (x : A) (d : B) → i < length now → x ≡ get_or ls i x → get_or now i d ≡ f x
  used-read i x d h read =
      sym (ap (λ (z : List B). get_or z i d) e) ∙ (get_or-take used (map f ls) i d (used-below i h)
      ∙ map-read f ls (map f ls) i x d refl (omega (arith, used-inside i h, length-map ls f)) read)

  pub used-written : (F : B → B) (i : ℕ) (x v : A) (d : B) → i < length now → x ≡ get_or ls i x → f v ≡ F (f x)
      → take used (map f (set ls i v)) ≡ set now i (F (get_or now i d))
  used-written F i x v d h read is =
      ap (λ (z : List B). take used z) (map-set f ls i v)
      ∙ (take-set-within used (map f ls) i (f v) (used-below i h)
      ∙ (ap (λ (z : List B). set z i (f v)) e ∙ ap (λ (y : B). set now i y) (is ∙ ap F (sym (used-read i x d h read)))))

  pub used-same : (i : ℕ) (x v : A) → i < length now → x ≡ get_or ls i x → f v ≡ f x → take used (map f (set ls i v)) ≡ now
  used-same i x v h read is = used-written (λ (y : B). y) i x v (f x) h read is ∙ set-get_or now i (f x)

pub spare-set : (lists : List (List Watch)) (used i : ℕ) (v : List Watch) → AreSpare lists used → i < used → AreSpare (set lists i v) used
spare-set lists used i v are h = record {
  within = omega (arith, are.within, length-set lists i v);
  spare = λ k b. get_or-set_other lists i k v [] (omega arith) ∙ are.spare k b;
}

-- an empty list more
pub spare-push : (lists : List (List Watch)) (used : ℕ) → AreSpare lists used → AreSpare (lists ++ [] ∷ []) used
spare-push lists used are = record {
  within = omega (arith, are.within, length-append lists ([] ∷ []));
  spare = λ k b. behind lists k ∙ are.spare k b;
}
  where
    behind : (xs : List (List Watch)) (k : ℕ) → get_or (xs ++ [] ∷ []) k [] ≡ get_or xs k []
    behind [] zero = refl
    behind [] (suc k) = refl
    behind (x ∷ xs) zero = refl
    behind (x ∷ xs) (suc k) = behind xs k

pub spare-same : (lists : List (List Watch)) (used : ℕ) → AreSpare lists used → take used (lists ++ [] ∷ []) ≡ take used lists
spare-same lists used are = take-append-le used lists ([] ∷ []) are.within

-- two of the spare lists are taken into use
pub spare-used : (lists : List (List Watch)) (used : ℕ) → AreSpare lists used → used + 2 ≤ length lists → take (used + 2) lists ≡ take used lists ++ [] ∷ [] ∷ []
spare-used lists used are room =
    let n : used + 2 ≡ used + 1 + 1 = omega arith in
    let one = take_more lists used [] (omega arith) in
    let two = take_more lists (used + 1) [] (omega arith) in
    ap (λ (k : ℕ). take k lists) n
    ∙ (two ∙ (ap (λ (z : List (List Watch)). z ++ get_or lists (used + 1) [] ∷ []) one
    ∙ (ap (λ (z : List Watch). (take used lists ++ z ∷ []) ++ get_or lists (used + 1) [] ∷ []) (are.spare used (omega arith))
    ∙ (ap (λ (z : List Watch). (take used lists ++ [] ∷ []) ++ z ∷ []) (are.spare (used + 1) (omega arith))
    ∙ append_assoc (take used lists) ([] ∷ []) ([] ∷ [])))))

pub spare-more : (lists : List (List Watch)) (used : ℕ) → AreSpare lists used → used + 2 ≤ length lists → AreSpare lists (used + 2)
spare-more lists used are room = record { within = room; spare = λ k b. are.spare k (omega arith) }

-- a list in use is written
pub spare-written : (used : ℕ) (ls : List (Vec Watch Global)) (now : List (List Watch)) → take used (map (λ v. v.items) ls) ≡ now
    → AreSpare (map (λ v. v.items) ls) used → (i : ℕ) (v : Vec Watch Global) → i < length now → AreSpare (map (λ v. v.items) (set ls i v)) used
spare-written used ls now e are i v h =
    subst (λ (z : List (List Watch)). AreSpare z used) (sym (map-set (λ (v : Vec Watch Global). v.items) ls i v))
    (spare-set (map (λ (v : Vec Watch Global). v.items) ls) used i v.items are (used-below (λ (v : Vec Watch Global). v.items) used ls now e i h))

pub used-grown : (used : ℕ) (ls : List (Vec Watch Global)) → AreSpare (map (λ v. v.items) ls) used → used + 2 ≤ length ls
    → take (used + 2) (map (λ v. v.items) ls) ≡ take used (map (λ v. v.items) ls) ++ [] ∷ [] ∷ []
used-grown used ls are room = spare-used (map (λ (v : Vec Watch Global). v.items) ls) used are (omega (arith, length-map ls (λ (v : Vec Watch Global). v.items)))

pub spare-grown : (used : ℕ) (ls : List (Vec Watch Global)) → AreSpare (map (λ v. v.items) ls) used → used + 2 ≤ length ls → AreSpare (map (λ v. v.items) ls) (used + 2)
spare-grown used ls are room = spare-more (map (λ (v : Vec Watch Global). v.items) ls) used are (omega (arith, length-map ls (λ (v : Vec Watch Global). v.items)))

-- one list is emptied
pub emptied : (ls : List (Vec Watch Global)) (i : ℕ) (v : Vec Watch Global) → i < length ls → v.items ≡ []
    → (get_or (map (λ v. v.items) (set ls i v)) i [] ≡ []) × ((k : ℕ) → k ≢ i → get_or (map (λ v. v.items) (set ls i v)) k [] ≡ get_or (map (λ v. v.items) ls) k [])
emptied ls i v h e =
    let f : Vec Watch Global → List Watch = λ (v : Vec Watch Global). v.items in (
      ap (λ (z : List (List Watch)). get_or z i []) (map-set f ls i v) ∙ (get_or-set_same (map f ls) i v.items [] (omega (arith, length-map ls f)) ∙ e),
      λ k apart. ap (λ (z : List (List Watch)). get_or z k []) (map-set f ls i v) ∙ get_or-set_other (map f ls) i k v.items [] apart,
    )

-- one more is empty
pub pushed-empty : (ls : List (Vec Watch Global)) (v : Vec Watch Global) → v.items ≡ [] → map (λ v. v.items) (ls ++ v ∷ []) ≡ map (λ v. v.items) ls ++ [] ∷ []
pushed-empty ls v e = map-append (λ (v : Vec Watch Global). v.items) ls (v ∷ []) ∙ ap (λ (z : List Watch). map (λ (v : Vec Watch Global). v.items) ls ++ z ∷ []) e
