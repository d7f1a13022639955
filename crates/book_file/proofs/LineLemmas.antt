-- What the lines of a text spell, line by line.
use Rattle.std.proofs.Common.{◌≡◌, ℕ, true, false, ◌+◌, ◌<◌, eqb, List, [], ◌∷◌, Option, Some, None, Result, Ok, Err, length, refl, sym, ap, ◌∙◌, arith}
use Rattle.std.proofs.lemmas.List.Splits.{length-slice_split}
use Rattle.lemma_book.specs.declared.entry.Entry.{Entry}
use Rattle.tokens.specs.Reading.{◌>>=◌}
use Rattle.tokens.specs.Words.{lines_in}
use Rattle.book_file.specs.declared.error.BookErr.{BookErr}
use Rattle.book_file.specs.declared.error.BookErr.TheVariants.{BadLine, Truncated, NoMemory}
use Rattle.book_file.specs.declared.said.Said.{Said}
use Rattle.book_file.specs.declared.said.Said.TheVariants.{Header, Merge, Out, Shows, Ends}
use Rattle.book_file.specs.declared.reading.Draft.{Draft}
use Rattle.book_file.specs.Lines.{said_in, is_header}
use Rattle.book_file.specs.Reading.{Due, Opening, AnEntry, due_behind, Spelled, with_line, spelled_from, entries_in, Gives}
use Rattle.book_file.specs.Drafts.{due_of, entries_with, entries_from, ReadsLine, RefusesLine, IsBegun}

-- a text has a line, which may be empty
pub some_line : (text : List ℕ) → 0 < length (lines_in text)
some_line text = let count = length-slice_split (λ b. eqb b 10) text in omega arith

module _ (due : Due) (at : ℕ) (line : List ℕ) (lines : List (List ℕ)) (some : 0 < length lines) where
  -- a line that is due
  pub spelled-line : (said : Said) (behind : Due) → said_in line ≡ Some said → due_behind due said ≡ Some behind
      → spelled_from due at (line ∷ lines) ≡ (spelled_from behind (at + 1) lines >>= λ rest. Ok (with_line said rest))
  spelled-line said behind is next = go lines some
    where
      go : (ls : List (List ℕ)) → 0 < length ls
          → spelled_from due at (line ∷ ls) ≡ (spelled_from behind (at + 1) ls >>= λ rest. Ok (with_line said rest))
      go [] none = absurd (omega arith)
      go (l ∷ ls) more = rw (is, next) refl

  spelled-no_line : said_in line ≡ None → spelled_from due at (line ∷ lines) ≡ Err (BadLine at)
  spelled-no_line is = go lines some
    where
      go : (ls : List (List ℕ)) → 0 < length ls → spelled_from due at (line ∷ ls) ≡ Err (BadLine at)
      go [] none = absurd (omega arith)
      go (l ∷ ls) more = rw is refl

  spelled-not_due : (said : Said) → said_in line ≡ Some said → due_behind due said ≡ None
      → spelled_from due at (line ∷ lines) ≡ Err (BadLine at)
  spelled-not_due said is other = go lines some
    where
      go : (ls : List (List ℕ)) → 0 < length ls → spelled_from due at (line ∷ ls) ≡ Err (BadLine at)
      go [] none = absurd (omega arith)
      go (l ∷ ls) more = rw (is, other) refl

  -- a line that isn't due, whatever it says
  pub spelled-bad : ((said : Said) → said_in line ≡ Some said → due_behind due said ≡ None)
      → spelled_from due at (line ∷ lines) ≡ Err (BadLine at)
  spelled-bad none = go (said_in line) refl
    where
      go : (o : Option Said) → said_in line ≡ o → spelled_from due at (line ∷ lines) ≡ Err (BadLine at)
      go None is = spelled-no_line is
      go (Some said) is = spelled-not_due said is (none said is)

module _ (bytes : List ℕ) (draft : Draft) (at : ℕ) (line text behind : List ℕ) (cut : lines_in text ≡ line ∷ lines_in behind)
    (so_far : entries_in bytes ≡ entries_from draft at (lines_in text)) where
  -- one line more is read
  pub read-line : (new : Draft) → ReadsLine draft line new → entries_in bytes ≡ entries_from new (at + 1) (lines_in behind)
  read-line new r =
      so_far
      ∙ ap (entries_from draft at) cut
      ∙ ap (λ (s : Result Spelled BookErr). s >>= λ rest. Ok (entries_with draft rest))
      (spelled-line (due_of draft) at line (lines_in behind) (some_line behind) r.said (due_of new) r.said_is r.reads.due)
      ∙ go (spelled_from (due_of new) (at + 1) (lines_in behind))
    where
      go : (s : Result Spelled BookErr)
          → (s >>= (λ rest. Ok (with_line r.said rest)) >>= λ rest. Ok (entries_with draft rest)) ≡ (s >>= λ rest. Ok (entries_with new rest))
      go (Ok rest) = ap (λ (es : List Entry). Ok es) (r.reads.entries rest)
      go (Err e) = refl

  fault : (e : BookErr) → e ≡ BadLine at → ((said : Said) → said_in line ≡ Some said → due_behind (due_of draft) said ≡ None)
      → entries_in bytes ≡ Err e
  fault e is none =
      so_far ∙ ap (entries_from draft at) cut
      ∙ ap (λ (s : Result Spelled BookErr). s >>= λ rest. Ok (entries_with draft rest)) (spelled-bad (due_of draft) at line (lines_in behind) (some_line behind) none)
      ∙ ap (λ (d : BookErr). Err d) (sym is)

  -- or it is the first one that can't stand where it stands
  pub read-fault : (e : BookErr) → RefusesLine draft at line e → Gives {A = List Entry} (Err e) (entries_in bytes)
  read-fault NoMemory r = tt
  read-fault (BadLine n) r = fault (BadLine n) r.0 r.1
  read-fault (Truncated n) r = fault (Truncated n) r.0 r.1

-- ---- the first line

no_header : (said : Said) → is_header (Some said) ≡ false → due_behind Opening said ≡ None
no_header Header is = cc
no_header (Merge node lit) is = refl
no_header (Out j) is = refl
no_header (Shows step) is = refl
no_header Ends is = refl

pub first_line : (bytes line behind : List ℕ) → lines_in bytes ≡ line ∷ lines_in behind → is_header (said_in line) ≡ true → IsBegun bytes behind
first_line bytes line behind cut is = go (said_in line) refl
  where
    go : (o : Option Said) → said_in line ≡ o → IsBegun bytes behind
    go None f = let g : false ≡ true = rw f at is in cc
    go (Some said) f = by_said said f (rw f at is)
      where
        by_said : (x : Said) → said_in line ≡ Some x → is_header (Some x) ≡ true → IsBegun bytes behind
        by_said Header f is' =
            ap (λ (ls : List (List ℕ)). spelled_from Opening 1 ls >>= λ spelled. Ok spelled.entries) cut
            ∙ ap (λ (s : Result Spelled BookErr). s >>= λ spelled. Ok spelled.entries)
            (spelled-line Opening 1 line (lines_in behind) (some_line behind) Header AnEntry f refl)
            ∙ same (spelled_from AnEntry 2 (lines_in behind))
          where
            same : (s : Result Spelled BookErr) → (s >>= (λ rest. Ok (with_line Header rest)) >>= λ spelled. Ok spelled.entries)
                ≡ (s >>= λ spelled. Ok spelled.entries)
            same (Ok rest) = refl
            same (Err e) = refl
        by_said (Merge node lit) f is' = cc
        by_said (Out j) f is' = cc
        by_said (Shows step) f is' = cc
        by_said Ends f is' = cc

pub first_bad : (bytes line behind : List ℕ) → lines_in bytes ≡ line ∷ lines_in behind → is_header (said_in line) ≡ false
    → entries_in bytes ≡ Err (BadLine 1)
first_bad bytes line behind cut is =
    ap (λ (ls : List (List ℕ)). spelled_from Opening 1 ls >>= λ spelled. Ok spelled.entries) cut
    ∙ ap (λ (s : Result Spelled BookErr). s >>= λ spelled. Ok spelled.entries)
    (spelled-bad Opening 1 line (lines_in behind) (some_line behind) (λ said f. no_header said (rw f at is)))

pub first_early : (bytes : List ℕ) → lines_in bytes ≡ bytes ∷ [] → entries_in bytes ≡ Err (Truncated 1)
first_early bytes only = ap (λ (ls : List (List ℕ)). spelled_from Opening 1 ls >>= λ spelled. Ok spelled.entries) only
