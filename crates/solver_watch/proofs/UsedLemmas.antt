-- Which variables of a flat base stand in its clauses.
use Rattle.std.proofs.Common.{◌≡◌, ◌<◌, ◌≤◌, ◌+◌, ◌/◌, ◌⊎◌, ℕ, suc, arith, Bool, true, ◌||◌, inl, inr, List, [], ◌∷◌, map, take, get_or, length, nat_eq, ap, subst, ◌∙◌}
use Rattle.std.specs.List.{list_any}
use Rattle.std.proofs.lemmas.List.{take_more}
use Rattle.std.proofs.lemmas.List.Folds.{list_any-append}
use Rattle.std.proofs.lemmas.Bool.{or_cases, or_left, or_right, cases_lt}
use Rattle.lits.specs.Clause.{has}
use Rattle.lits.specs.Same.{same_lit, same_node, opposite}
use Rattle.lits.specs.declared.node.Node.{Node}
use Rattle.lits.specs.declared.node.Node.TheVariants.{Const}
use Rattle.lits.specs.declared.literal.Lit.{Lit}
use Rattle.lits.proofs.Facts.{exact-node, lit_laws}
use Rattle.flat_base.specs.Codes.{lit_at}
use Rattle.flat_base.specs.Flat.{Coded, Flat, named_by}
use Rattle.unit_prop.specs.Refuter.{is_over}
use Rattle.watch_lists.proofs.Facts.{lit_at-node, same_exact, same_refl}
use Rattle.solver_watch.specs.Known.{AreUsed}
use Rattle.solver_watch.proofs.EngineLemmas.{same-variable}

-- one of the codes is of the variable
abbrev pub has_variable : ℕ → List ℕ → Bool
has_variable k codes = list_any (λ c. nat_eq (c / 2) k) codes

-- one code more
pub seen-code : (codes : List ℕ) (i k d : ℕ) → i < length codes → (has_variable k (take i codes) ≡ true) ⊎ (get_or codes i d / 2 ≡ k)
    → has_variable k (take (i + 1) codes) ≡ true
seen-code codes i k d h which =
    ap (has_variable k) (take_more codes i d h) ∙ (list_any-append (λ c. nat_eq (c / 2) k) (take i codes) (get_or codes i d ∷ []) ∙ go which)
  where
    go : (has_variable k (take i codes) ≡ true) ⊎ (get_or codes i d / 2 ≡ k) → (has_variable k (take i codes) || has_variable k (get_or codes i d ∷ [])) ≡ true
    go (inl e) = or_left _ _ e
    go (inr e) = or_right (has_variable k (take i codes)) _ (or_left _ _ (subst (λ (n : ℕ). nat_eq (get_or codes i d / 2) n ≡ true) e (same_refl (get_or codes i d / 2))))

pub seen-step : (codes : List ℕ) (i before seen next : ℕ) → i < length codes → ((k : ℕ) → before ≤ k → k < seen → has_variable k (take i codes) ≡ true)
    → (next ≡ seen) ⊎ ((get_or codes i 0 / 2 ≡ seen) × (next ≡ seen + 1)) → (k : ℕ) → before ≤ k → k < next → has_variable k (take (i + 1) codes) ≡ true
seen-step codes i before seen next h so_far (inl e) k low below = seen-code codes i k 0 h (inl (so_far k low (omega arith)))
seen-step codes i before seen next h so_far (inr w) k low below = elim (cases_lt k seen) [
  | inl less ↦ seen-code codes i k 0 h (inl (so_far k low less))
  | inr past ↦ seen-code codes i k 0 h (inr (omega (arith, w.0, w.1)))
]

-- one clause more
pub seen-clause : (cs : List Coded) (i before after : ℕ) (codes : List ℕ) (d : Coded) → i < length cs → codes ≡ (get_or cs i d).codes
    → ((k : ℕ) → k < before → list_any (λ c. has_variable k c.codes) (take i cs) ≡ true) → ((k : ℕ) → before ≤ k → k < after → has_variable k codes ≡ true)
    → (k : ℕ) → k < after → list_any (λ c. has_variable k c.codes) (take (i + 1) cs) ≡ true
seen-clause cs i before after codes d h read so_far here k below =
    ap (list_any (λ c. has_variable k c.codes)) (take_more cs i d h) ∙ (list_any-append (λ c. has_variable k c.codes) (take i cs) (get_or cs i d ∷ []) ∙ elim (cases_lt k before) [
      | inl first ↦ or_left _ _ (so_far k first)
      | inr past ↦ or_right (list_any (λ c. has_variable k c.codes) (take i cs)) _ (or_left _ _ (subst (λ (xs : List ℕ). has_variable k xs ≡ true) read (here k past below)))
    ])

-- a literal of the variable stands in the clause
in-codes : (nodes : List Node) (k : ℕ) (l : Lit) (codes : List ℕ) → get_or nodes k Const ≡ l.node → has_variable k codes ≡ true
    → (has same_lit (map (lit_at nodes) codes) l || has same_lit (map (lit_at nodes) codes) (opposite l)) ≡ true
in-codes nodes k l [] at h = cc
in-codes nodes k l (c ∷ cs) at h = elim (or_cases (nat_eq (c / 2) k) (has_variable k cs) h) [
  | inl e ↦
      let node : (lit_at nodes c).node ≡ l.node = lit_at-node nodes c ∙ (ap (λ (n : ℕ). get_or nodes n Const) (same_exact (c / 2) k e) ∙ at) in
      elim (same-variable (lit_at nodes c) l node) [
        | inl f ↦ or_left _ _ (or_left _ _ (is f))
        | inr f ↦ or_right (has same_lit (map (lit_at nodes) (c ∷ cs)) l) _ (or_left _ _ (is f))
      ]
  | inr e ↦ elim (or_cases _ _ (in-codes nodes k l cs at e)) [
    | inl f ↦ or_left _ _ (or_right (same_lit (lit_at nodes c) l) _ f)
    | inr f ↦ or_right (has same_lit (map (lit_at nodes) (c ∷ cs)) l) _ (or_right (same_lit (lit_at nodes c) (opposite l)) _ f)
  ]
]
  where
    is : {x m : Lit} → x ≡ m → same_lit x m ≡ true
    is {x} {m} e = subst (λ (y : Lit). same_lit x y ≡ true) e (lit_laws.equivalence.refl x)

in-clauses : (nodes : List Node) (k : ℕ) (l : Lit) (cs : List Coded) → get_or nodes k Const ≡ l.node → list_any (λ c. has_variable k c.codes) cs ≡ true
    → is_over (map (named_by nodes) cs) l ≡ true
in-clauses nodes k l [] at h = cc
in-clauses nodes k l (c ∷ cs) at h = elim (or_cases (has_variable k c.codes) (list_any (λ d. has_variable k d.codes) cs) h) [
  | inl e ↦ or_left _ _ (in-codes nodes k l c.codes at e)
  | inr e ↦ or_right (has same_lit (map (lit_at nodes) c.codes) l || has same_lit (map (lit_at nodes) c.codes) (opposite l)) _ (in-clauses nodes k l cs at e)
]

place-of : (nodes : List Node) (n : Node) → has same_node nodes n ≡ true → (k : ℕ) × (k < length nodes) × (get_or nodes k Const ≡ n)
place-of [] n h = cc
place-of (m ∷ ms) n h = elim (or_cases (same_node m n) (has same_node ms n) h) [
  | inl e ↦ (0, omega arith, exact-node m n e)
  | inr e ↦ let w = place-of ms n e in (suc w.0, omega (arith, w.1), w.2)
]

-- each variable was seen
pub all-used : (f : Flat) → ((k : ℕ) → k < length f.nodes → list_any (λ c. has_variable k c.codes) f.clauses ≡ true) → AreUsed f
all-used f all l h = let w = place-of f.nodes l.node h in in-clauses f.nodes w.0 l f.clauses w.2 (all w.0 w.1)
