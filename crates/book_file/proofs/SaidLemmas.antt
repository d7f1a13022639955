-- One word more of a step.
use Rattle.std.proofs.Common.{◌≡◌, ℕ, true, false, Option, Some, None, List, [], ◌∷◌, ◌++◌, refl, sym, ap, ◌∙◌, append_assoc, append-nil}
use Rattle.std.specs.Prelude.{codes, option_map}
use Rattle.lits.specs.declared.literal.Lit.{Lit}
use Rattle.lits.specs.declared.step.Ref.{Ref}
use Rattle.book_file.specs.Words.{literal_in, name_in}
use Rattle.book_file.specs.Lines.{is_word, literals_in, names_in}

-- literals that were read before
abbrev pub behind_literals : List Lit → Option (List Lit × List (List ℕ)) → Option (List Lit × List (List ℕ))
behind_literals lits read = option_map (λ r. (lits ++ r.0, r.1)) read

-- the words have these literals, and then those of what is left
abbrev pub AreLiterals : List (List ℕ) → List Lit → List (List ℕ) → Type 0
AreLiterals words lits left = literals_in words ≡ behind_literals lits (literals_in left)

pub no_literals : (words : List (List ℕ)) → AreLiterals words [] words
no_literals words = go (literals_in words)
  where
    go : (o : Option (List Lit × List (List ℕ))) → o ≡ behind_literals [] o
    go None = refl
    go (Some r) = refl

module _ (words : List (List ℕ)) (lits : List Lit) (word : List ℕ) (left : List (List ℕ)) (so_far : AreLiterals words lits (word ∷ left)) where
  pub literals-end : is_word (codes ";") word ≡ true → literals_in words ≡ Some (lits, left)
  literals-end e = so_far ∙ rw e (ap (λ (ls : List Lit). Some (ls, left)) (append-nil lits))

  pub literals-more : is_word (codes ";") word ≡ false → (l : Lit) → literal_in word ≡ Some l → AreLiterals words (lits ++ l ∷ []) left
  literals-more e l is = so_far ∙ rw (e, is) (go (literals_in left))
    where
      go : (o : Option (List Lit × List (List ℕ))) → behind_literals lits (option_map (λ r. (l ∷ r.0, r.1)) o) ≡ behind_literals (lits ++ l ∷ []) o
      go None = refl
      go (Some r) = ap (λ (ls : List Lit). Some (ls, r.1)) (sym (append_assoc lits (l ∷ []) r.0))

  pub literals-none : is_word (codes ";") word ≡ false → literal_in word ≡ None → literals_in words ≡ None
  literals-none e is = so_far ∙ rw (e, is) refl

-- the words have these names, and then those of what is left
abbrev pub AreNames : List (List ℕ) → List Ref → List (List ℕ) → Type 0
AreNames words names left = names_in words ≡ option_map (λ rs. names ++ rs) (names_in left)

pub no_names : (words : List (List ℕ)) → AreNames words [] words
no_names words = go (names_in words)
  where
    go : (o : Option (List Ref)) → o ≡ option_map (λ rs. [] ++ rs) o
    go None = refl
    go (Some r) = refl

pub names-all : (words : List (List ℕ)) (names : List Ref) → AreNames words names [] → names_in words ≡ Some names
names-all words names so_far = so_far ∙ ap (λ (rs : List Ref). Some rs) (append-nil names)

module _ (words : List (List ℕ)) (names : List Ref) (word : List ℕ) (left : List (List ℕ)) (so_far : AreNames words names (word ∷ left)) where
  pub names-more : (r : Ref) → name_in word ≡ Some r → AreNames words (names ++ r ∷ []) left
  names-more r is = so_far ∙ rw is (go (names_in left))
    where
      go : (o : Option (List Ref)) → option_map (λ rs. names ++ rs) (option_map (λ rs. r ∷ rs) o) ≡ option_map (λ rs. (names ++ r ∷ []) ++ rs) o
      go None = refl
      go (Some rs) = ap (λ (l : List Ref). Some l) (sym (append_assoc names (r ∷ []) rs))

  pub names-none : name_in word ≡ None → names_in words ≡ None
  names-none is = so_far ∙ rw is refl
