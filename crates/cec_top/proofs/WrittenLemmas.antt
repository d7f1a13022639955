-- What files that are written leave on the desk.
use Rattle.std.proofs.Common.{◌≡◌, ◌≢◌, ℕ, Bool, true, false, List, [], ◌∷◌, ◌++◌, option_map, Some, None, refl, sym, ap}
use Rattle.std.specs.Str.{bytes_eq}
use Rattle.std.proofs.lemmas.Slice.Eq.{bytes_eq-Decides}
use Rattle.desk_port.specs.Desk.{DeskState, Files, put}
use Rattle.endings.specs.Writing.{Output, after_file, after_files}

-- ---- one file

pub eq-same : (q : List ℕ) → bytes_eq q q ≡ true
eq-same q = (bytes_eq-Decides q q).1 refl

pub eq-other : (n q : List ℕ) → q ≢ n → bytes_eq n q ≡ false
eq-other n q other = go (bytes_eq n q) refl
  where
    go : (b : Bool) → bytes_eq n q ≡ b → b ≡ false
    go false e = refl
    go true e = absurd (other (sym ((bytes_eq-Decides n q).0 e)))

pub put-other : (name bytes q : List ℕ) (files : Files) → q ≢ name → put name bytes files q ≡ files q
put-other name bytes q files other = rw (eq-other name q other) refl

pub put-there : (name bytes : List ℕ) (files : Files) → put name bytes files name ≡ Some bytes
put-there name bytes files = rw (eq-same name) refl

-- ---- files

abbrev pub with_saved : List Output → Files → Files
with_saved [] before = before
with_saved (o ∷ os) before = with_saved os (put o.name o.bytes before)

-- what writing files leaves
pub record IsSaved (os : List Output) (old new : DeskState) : Type 0 where
  pub files : (before : Files) → old.files ≡ Some before → new.files ≡ Some (with_saved os before)
  pub said : new.said ≡ old.said
  pub warned : new.warned ≡ old.warned
  pub warns : new.warn_faults ≡ old.warn_faults
  pub closed : old.started ≡ None → new.started ≡ None
  pub reads : new.read_faults ≡ old.read_faults
  pub writes : new.write_faults ≡ old.write_faults

pub files-saved : (os : List Output) (s : DeskState) → IsSaved os s (after_files s os)
files-saved [] s = record { files = λ before told. told; said = refl; warned = refl; warns = refl; closed = λ none. none; reads = refl; writes = refl }
files-saved (o ∷ os) s =
    let k = files-saved os (after_file s o) in
    record {
      files = λ before told. k.files (put o.name o.bytes before) (ap (option_map (put o.name o.bytes)) told);
      said = k.said;
      warned = k.warned;
      warns = k.warns;
      closed = λ none. k.closed refl;
      reads = k.reads;
      writes = k.writes;
    }

-- and others behind them
pub saved-append : (xs ys : List Output) (before : Files) → with_saved (xs ++ ys) before ≡ with_saved ys (with_saved xs before)
saved-append [] ys before = refl
saved-append (x ∷ xs) ys before = saved-append xs ys (put x.name x.bytes before)

pub after-append : (xs ys : List Output) (s : DeskState) → after_files s (xs ++ ys) ≡ after_files (after_files s xs) ys
after-append [] ys s = refl
after-append (x ∷ xs) ys s = after-append xs ys (after_file s x)
