-- The code of a numbered variable's literal.
use Rattle.std.proofs.Common.{◌≡◌, ℕ, ◌+◌, ◌*◌, ◌/◌, ◌%◌, ◌==◌, Bool, true, false, if◌then◌else◌, List, [], ◌∷◌, ◌++◌, length, get_or, refl, ap, ◌∙◌, sym, subst, arith, ◌⊎◌, inl, inr, ◌<◌, take}
use Rattle.std.proofs.lemmas.Bool.Decides.{nat_tests}
use Rattle.std.specs.List.{AllByRecursion}
use Rattle.std.proofs.lemmas.List.{length-append, get_or_append_left, map-append, take_more}
use Rattle.lits.proofs.Facts.{all-append}
use Rattle.flat_base.specs.Flat.{clause_at}
use Rattle.lits.specs.declared.node.Node.{Node}
use Rattle.lits.specs.declared.node.Node.TheVariants.{Const}
use Rattle.lits.specs.declared.literal.Lit.{Lit}
use Rattle.flat_base.specs.Codes.{lit_at, IsCode}

even_sign : (a : ℕ) → a % 2 ≡ 0 → (a % 2 == 1) ≡ false
even_sign a e = grind (arith, nat_tests)

odd_sign : (a : ℕ) → a % 2 ≡ 1 → (a % 2 == 1) ≡ true
odd_sign a e = grind (arith, nat_tests)

pub lit_at_number : (nodes : List Node) (n : ℕ) (l : Lit) → get_or nodes n Const ≡ l.node → lit_at nodes (2 * n + (if l.neg then 1 else 0)) ≡ l
unfolding lit_at
lit_at_number nodes n l here = go l.neg refl
  where
    go : (b : Bool) → l.neg ≡ b → lit_at nodes (2 * n + (if l.neg then 1 else 0)) ≡ l
    go true e =
        let half : (2 * n + 1) / 2 ≡ n = omega arith in
        let odd : (2 * n + 1) % 2 ≡ 1 = omega arith in
        rw (e, half, odd_sign (2 * n + 1) odd, here) refl
    go false e =
        let half : (2 * n + 0) / 2 ≡ n = omega arith in
        let even : (2 * n + 0) % 2 ≡ 0 = omega arith in
        rw (e, half, even_sign (2 * n + 0) even, here) refl

-- more nodes change nothing of codes that were there
pub within_more : (old new : List Node) (node : Node) → (new ≡ old) ⊎ (new ≡ old ++ node ∷ []) → (codes : List ℕ)
    → AllByRecursion (IsCode old) codes → AllByRecursion (IsCode new) codes
within_more old new node (inl e) codes all = subst (λ (ns : List Node). AllByRecursion (IsCode ns) codes) (sym e) all
within_more old new node (inr e) codes all = subst (λ (ns : List Node). AllByRecursion (IsCode ns) codes) (sym e) (codes_more codes all)
  where
    codes_more : (cs : List ℕ) → AllByRecursion (IsCode old) cs → AllByRecursion (IsCode (old ++ node ∷ [])) cs
    codes_more [] h = tt
    codes_more (c ∷ cs) h = (omega (arith, h.0, length-append old (node ∷ [])), codes_more cs h.1)

pub kept_more : (old new : List Node) (node : Node) → (new ≡ old) ⊎ (new ≡ old ++ node ∷ []) → (codes : List ℕ)
    → AllByRecursion (IsCode old) codes → clause_at new codes ≡ clause_at old codes
unfolding lit_at
kept_more old new node (inl e) codes all = ap (λ (ns : List Node). clause_at ns codes) e
kept_more old new node (inr e) codes all = ap (λ (ns : List Node). clause_at ns codes) e ∙ same codes all
  where
    at : (c : ℕ) → IsCode old c → lit_at (old ++ node ∷ []) c ≡ lit_at old c
    at c h = rw (get_or_append_left old (node ∷ []) Const (c / 2) (omega arith)) refl

    same : (cs : List ℕ) → AllByRecursion (IsCode old) cs → clause_at (old ++ node ∷ []) cs ≡ clause_at old cs
    same [] h = refl
    same (c ∷ cs) h = rw (at c h.0, same cs h.1) refl

-- the codes of the first literals and of the next one
pub codes_next : (old new : List Node) (codes : List ℕ) (lits : List Lit) (i code : ℕ) (d : Lit) → i < length lits
    → AllByRecursion (IsCode old) codes → clause_at old codes ≡ take i lits
    → ((cs : List ℕ) → AllByRecursion (IsCode old) cs → AllByRecursion (IsCode new) cs)
    → ((cs : List ℕ) → AllByRecursion (IsCode old) cs → clause_at new cs ≡ clause_at old cs)
    → IsCode new code → lit_at new code ≡ get_or lits i d
    → AllByRecursion (IsCode new) (codes ++ code ∷ []) × (clause_at new (codes ++ code ∷ []) ≡ take (i + 1) lits)
codes_next old new codes lits i code d below all so_far within kept is here = (
  all-append (IsCode new) codes (code ∷ []) (within codes all) (is, tt),
  map-append (lit_at new) codes (code ∷ [])
      ∙ (ap (λ (l : List Lit). l ++ lit_at new code ∷ []) (kept codes all ∙ so_far)
      ∙ (ap (λ (l : Lit). take i lits ++ l ∷ []) here ∙ sym (take_more lits i d below))),
)
