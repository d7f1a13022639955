-- What a change of one entry of a map of files does to the files.
use Rattle.std.proofs.Common.{◌≡◌, ℕ, List, ◌++◌, Option, Some, None, Bool, true, false, refl, String, string_bytes, if◌then◌else◌}
use Rattle.std.proofs.Math.Path.{fun_ext}
use Rattle.std.proofs.lemmas.Map.Text.{btree_map_updates_text}
use Rattle.std.proofs.lemmas.Slice.Eq.{bytes_eq-Decides}
use Rattle.std.specs.BTreeMap.{BTreeMap, get_by_text, UpdatesBy}
use Rattle.std.specs.Cmp.Lexicographic.{slice_cmp}
use Rattle.std.specs.Global.{Vec}
use Rattle.std.specs.Option.{option_map}
use Rattle.std.specs.Ordering.{nat_cmp}
use Rattle.std.specs.Str.{bytes_eq}
use Rattle.std.specs.String.{string_cmp}
use Rattle.std.specs.declared.alloc.Global.{Global}
use Rattle.desk_port.specs.Desk.{extended, put}
use Rattle.desk_port.specs.MemFiles.{files_of}

-- texts that test equal are equal
bytes_eq-true : (xs ys : List ℕ) → bytes_eq xs ys ≡ true → xs ≡ ys
bytes_eq-true xs ys same = (bytes_eq-Decides xs ys).0 same

-- what an entry with the value v for a found one does to the files
found-put : (b : Bool) (v : Vec ℕ) (found : Option (Vec ℕ)) →
    option_map (λ w. w.items) (if b then Some v else found)
    ≡ (if b then Some v.items else option_map (λ w. w.items) found)
found-put true v found = refl
found-put false v found = refl

-- a value of these bytes at the key is the file of that name
pub files_of-put : (m n : BTreeMap (String Global) (Vec ℕ)) (key : String Global) (v : Vec ℕ) {name bytes : List ℕ} →
    string_bytes key ≡ name → v.items ≡ bytes →
    UpdatesBy string_cmp (string_cmp key) m n (Some v) →
    files_of n ≡ put name bytes (files_of m)
files_of-put m n key v is_name are_bytes updates =
    let bs : List ℕ = string_bytes key in
    rw (← is_name, ← are_bytes)
    (fun_ext (λ q. rw (btree_map_updates_text bs m n (Some v) updates q) (found-put (bytes_eq bs q) v (get_by_text m q))))

module _ (m n : BTreeMap (String Global) (Vec ℕ)) (name : List ℕ) (v before : Vec ℕ) where
  -- the map had a value under the name, and has the value v there now
  abbrev pub Changes : Type 0
  Changes =
      (get_by_text m name ≡ Some before)
      × UpdatesBy string_cmp (λ k. slice_cmp nat_cmp name (string_bytes k)) m n (Some v)

  -- such a change is one of the file of that name alone
  files_of-change : (g : List ℕ → List ℕ) → v.items ≡ g before.items → Changes →
      (q : List ℕ) → files_of n q ≡ (if bytes_eq name q then option_map g (files_of m q) else files_of m q)
  files_of-change g changed changes q =
      rw (btree_map_updates_text name m n (Some v) changes.1 q) (at (bytes_eq name q) refl) where
        at : (b : Bool) → bytes_eq name q ≡ b →
            option_map (λ w. w.items) (if b then Some v else get_by_text m q)
            ≡ (if b then option_map g (files_of m q) else files_of m q)
        at true same = rw (changed, ← bytes_eq-true name q same, changes.0) refl
        at false same = refl

  pub files_of-extended : (bytes : List ℕ) → v.items ≡ before.items ++ bytes → Changes →
      files_of n ≡ extended name bytes (files_of m)
  files_of-extended bytes longer changes = fun_ext (files_of-change (λ old. old ++ bytes) longer changes)

  pub files_of-same : v.items ≡ before.items → Changes → files_of n ≡ files_of m
  files_of-same same changes =
      fun_ext (λ q. rw (files_of-change (λ old. old) same changes q) (at (bytes_eq name q) (files_of m q))) where
        at : (b : Bool) (file : Option (List ℕ)) → (if b then option_map (λ old. old) file else file) ≡ file
        at true None = refl
        at true (Some bytes) = refl
        at false file = refl
