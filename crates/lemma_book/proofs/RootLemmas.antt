-- One more merge is followed.
use Rattle.std.proofs.Common.{◌≡◌, ℕ, zero, suc, ◌+◌, ◌-◌, ◌<◌, Bool, true, false, not, Option, None, Some, List, [], ◌∷◌, ◌++◌, length, refl, sym, ap, ◌∙◌, append_assoc, append-nil}
use Rattle.std.specs.Option.{option_map, option_map_or}
use Rattle.lits.specs.declared.literal.Lit.{Lit}
use Rattle.lits.specs.Same.{opposite}
use Rattle.lits.specs.contracts.literal.LitLiteral.TheImpl.Laws as laws
use Rattle.lits.proofs.Facts.{left-more}
use Rattle.lemma_book.specs.declared.entry.Entry.{Entry}
use Rattle.lemma_book.specs.Root.{MergeAt, merge_of, carried, follow, followed, passed, root_of}

-- a merge as the program has it
abbrev pub merge_at : ℕ × Lit → MergeAt
merge_at m = record { entry = m.0; lit = m.1 }

none_at : (o : Option (ℕ × Lit)) → o ≡ None → option_map merge_at o ≡ None
none_at o e = ap (option_map merge_at) e

module _ (es : List Entry) (n i : ℕ) (l : Lit) where
  pub follow-end : n - i ≡ 0 → follow (n - i) es l ≡ l
  follow-end e = ap (λ (k : ℕ). follow k es l) e

  pub follow-root : (o : Option (ℕ × Lit)) → option_map merge_at o ≡ merge_of es l.node → o ≡ None → follow (n - i) es l ≡ l
  follow-root o is none = go (n - i)
    where
      unmerged : merge_of es l.node ≡ None
      unmerged = sym is ∙ none_at o none

      go : (k : ℕ) → follow k es l ≡ l
      go zero = refl
      go (suc k) = ap (λ (m : Option MergeAt). option_map_or (λ m. follow k es (carried l.neg m.lit)) m l) unmerged

  pub follow-next : (o : Option (ℕ × Lit)) → option_map merge_at o ≡ merge_of es l.node → (m : ℕ × Lit) → o ≡ Some m → i < n
      → follow (n - i) es l ≡ follow (n - (i + 1)) es (carried l.neg m.1)
  follow-next o is m some lt =
      ap (λ (k : ℕ). follow k es l) (left-more n i lt)
      ∙ ap (λ (q : Option MergeAt). option_map_or (λ q. follow (n - (i + 1)) es (carried l.neg q.lit)) q l) (sym is ∙ ap (option_map merge_at) some)

  pub followed-end : (xs whole : List ℕ) → xs ++ followed (n - i) es l ≡ whole → n - i ≡ 0 → xs ≡ whole
  followed-end xs whole so e = sym (ap (λ (k : ℕ). xs ++ followed k es l) e ∙ append-nil xs) ∙ so

  pub followed-root : (xs whole : List ℕ) → xs ++ followed (n - i) es l ≡ whole → (o : Option (ℕ × Lit)) → option_map merge_at o ≡ merge_of es l.node → o ≡ None
      → xs ≡ whole
  followed-root xs whole so o is none = sym (ap (λ (ys : List ℕ). xs ++ ys) (go (n - i)) ∙ append-nil xs) ∙ so
    where
      go : (k : ℕ) → followed k es l ≡ []
      go zero = refl
      go (suc k) = ap (λ (m : Option MergeAt). option_map_or (λ m. m.entry ∷ followed k es (carried l.neg m.lit)) m []) (sym is ∙ none_at o none)

  pub followed-next : (xs ys whole : List ℕ) → xs ++ followed (n - i) es l ≡ whole → (o : Option (ℕ × Lit)) → option_map merge_at o ≡ merge_of es l.node
      → (m : ℕ × Lit) → o ≡ Some m → i < n → ys ≡ xs ++ m.0 ∷ [] → ys ++ followed (n - (i + 1)) es (carried l.neg m.1) ≡ whole
  followed-next xs ys whole so o is m some lt push =
      ap (λ (zs : List ℕ). zs ++ rest) push ∙ append_assoc xs (m.0 ∷ []) rest ∙ sym (ap (λ (zs : List ℕ). xs ++ zs) next) ∙ so
    where
      rest : List ℕ
      rest = followed (n - (i + 1)) es (carried l.neg m.1)

      next : followed (n - i) es l ≡ m.0 ∷ rest
      next =
          ap (λ (k : ℕ). followed k es l) (left-more n i lt)
          ∙ ap (λ (q : Option MergeAt). option_map_or (λ q. q.entry ∷ followed (n - (i + 1)) es (carried l.neg q.lit)) q []) (sym is ∙ ap (option_map merge_at) some)

  pub passed-end : (xs whole : List Lit) → xs ++ passed (n - i) es l ≡ whole → n - i ≡ 0 → xs ≡ whole
  passed-end xs whole so e = sym (ap (λ (k : ℕ). xs ++ passed k es l) e ∙ append-nil xs) ∙ so

  pub passed-root : (xs whole : List Lit) → xs ++ passed (n - i) es l ≡ whole → (o : Option (ℕ × Lit)) → option_map merge_at o ≡ merge_of es l.node → o ≡ None
      → xs ≡ whole
  passed-root xs whole so o is none = sym (ap (λ (ys : List Lit). xs ++ ys) (go (n - i)) ∙ append-nil xs) ∙ so
    where
      go : (k : ℕ) → passed k es l ≡ []
      go zero = refl
      go (suc k) = ap (λ (m : Option MergeAt). option_map_or (λ m. l ∷ passed k es (carried l.neg m.lit)) m []) (sym is ∙ none_at o none)

  pub passed-next : (xs ys whole : List Lit) → xs ++ passed (n - i) es l ≡ whole → (o : Option (ℕ × Lit)) → option_map merge_at o ≡ merge_of es l.node
      → (m : ℕ × Lit) → o ≡ Some m → i < n → ys ≡ xs ++ l ∷ [] → ys ++ passed (n - (i + 1)) es (carried l.neg m.1) ≡ whole
  passed-next xs ys whole so o is m some lt push =
      ap (λ (zs : List Lit). zs ++ rest) push ∙ append_assoc xs (l ∷ []) rest ∙ sym (ap (λ (zs : List Lit). xs ++ zs) next) ∙ so
    where
      rest : List Lit
      rest = passed (n - (i + 1)) es (carried l.neg m.1)

      next : passed (n - i) es l ≡ l ∷ rest
      next =
          ap (λ (k : ℕ). passed k es l) (left-more n i lt)
          ∙ ap (λ (q : Option MergeAt). option_map_or (λ q. l ∷ passed (n - (i + 1)) es (carried l.neg q.lit)) q []) (sym is ∙ ap (option_map merge_at) some)

-- the root of a negation is the negation of the root
pub carried-opposite : (b : Bool) (t : Lit) → carried (not b) t ≡ opposite (carried b t)
carried-opposite true t = sym (laws.twice-law t)
carried-opposite false t = refl

follow-opposite : (k : ℕ) (es : List Entry) (l : Lit) → follow k es (opposite l) ≡ opposite (follow k es l)
follow-opposite zero es l = refl
follow-opposite (suc k) es l = go (merge_of es l.node) (λ t. follow-opposite k es t)
  where
    go : (o : Option MergeAt) → ((t : Lit) → follow k es (opposite t) ≡ opposite (follow k es t))
        → option_map_or (λ m. follow k es (carried (not l.neg) m.lit)) o (opposite l) ≡ opposite (option_map_or (λ m. follow k es (carried l.neg m.lit)) o l)
    go None rest = refl
    go (Some m) rest = ap (follow k es) (carried-opposite l.neg m.lit) ∙ rest (carried l.neg m.lit)

pub root-opposite : (es : List Entry) (l : Lit) → root_of es (opposite l) ≡ opposite (root_of es l)
root-opposite es l = follow-opposite (length es) es l
