-- Codes and literals: what a crate above may cite.
use Rattle.std.proofs.Common.{◌≡◌, ℕ, zero, suc, ◌*◌, ◌/◌, ◌%◌, ◌<◌, Bool, true, false, not, List, [], ◌∷◌, ◌++◌, length, map, refl, sym, ap, ◌∙◌, subst, arith, get_or, nat_eq, inl, inr, ◌≤◌, nat_le}
use Rattle.std.specs.Prelude.{◌==◌, slice_index_or}
use Rattle.std.proofs.lemmas.List.{get_or_append_left, length-append}
use Rattle.std.proofs.lemmas.List.Folds.{list_any_at}
use Rattle.std.proofs.lemmas.Bool.Decides.{nat_tests}
use Rattle.std.proofs.lemmas.Bool.{or_cases, or_left, or_right, and_parts, cases_order}
use Rattle.lits.proofs.Facts.{same-node_self, lit_laws}
use Rattle.lits.specs.Clause.{has, no_repeat}
use Rattle.lits.specs.Same.{same_lit, same_node, opposite}
use Rattle.lits.specs.declared.node.Node.{Node}
use Rattle.lits.specs.declared.node.Node.TheVariants.{Const}
use Rattle.lits.specs.declared.literal.Lit.{Lit}
use Rattle.unit_prop.proofs.Facts.{contrary}
use Rattle.flat_base.specs.Codes.{lit_at, IsCode}
use Rattle.watch_lists.specs.Codes.{flip}
use Rattle.watch_lists.proofs.FlipLemmas.{parity, flip-even, flip-odd, flip-below, is_literal-flip}
-- codes are equal exactly where their test says so
pub use Rattle.watch_lists.proofs.FlipLemmas.{same_refl, same_exact}

pub lit_at-node : (nodes : List Node) (c : ℕ) → (lit_at nodes c).node ≡ slice_index_or nodes (c / 2) Const
unfolding lit_at
lit_at-node nodes c = refl

pub lit_at-neg : (nodes : List Node) (c : ℕ) → (lit_at nodes c).neg ≡ (c % 2 == 1)
unfolding lit_at
lit_at-neg nodes c = refl

same_sign : (a : ℕ) → a % 2 ≡ 0 → (a % 2 == 1) ≡ false
same_sign a e = grind (arith, nat_tests)

other_sign : (a : ℕ) → a % 2 ≡ 1 → (a % 2 == 1) ≡ true
other_sign a e = grind (arith, nat_tests)

-- the literal of the negation's code
pub lit_at-flip : (nodes : List Node) (c : ℕ) → lit_at nodes (flip c) ≡ opposite (lit_at nodes c)
unfolding lit_at
lit_at-flip nodes c = elim (parity c) [
  | inl e ↦
      let f = flip-even c e in
      let half : flip c / 2 ≡ c / 2 = omega arith in
      let odd : flip c % 2 ≡ 1 = omega arith in
      rw (half, same_sign c e, other_sign (flip c) odd) refl
  | inr e ↦
      let f = flip-odd c e in
      let half : flip c / 2 ≡ c / 2 = omega arith in
      let even : flip c % 2 ≡ 0 = omega arith in
      rw (half, other_sign c e, same_sign (flip c) even) refl
]

pub flip-code : (nodes : List Node) (c : ℕ) → IsCode nodes c → IsCode nodes (flip c)
flip-code nodes c h = flip-below (2 * length nodes) c (omega arith) h

-- codes stay where variables come after
pub lit_at-more : (nodes more : List Node) (c : ℕ) → IsCode nodes c → lit_at (nodes ++ more) c ≡ lit_at nodes c
unfolding lit_at
lit_at-more nodes more c h = rw (get_or_append_left nodes more Const (c / 2) (omega arith)) refl

pub code-more : (nodes more : List Node) (c : ℕ) → IsCode nodes c → IsCode (nodes ++ more) c
code-more nodes more c h = omega (arith, length-append nodes more)

pub node-at : (nodes : List Node) (k : ℕ) → k < length nodes → has same_node nodes (get_or nodes k Const) ≡ true
node-at nodes k h = list_any_at (λ y. same_node y (get_or nodes k Const)) nodes k Const h (same-node_self (get_or nodes k Const))

-- the variable of a code has a number
pub lit_at-over : (nodes : List Node) (c : ℕ) → IsCode nodes c → has same_node nodes (lit_at nodes c).node ≡ true
lit_at-over nodes c h = subst (λ (n : Node). has same_node nodes n ≡ true) (sym (lit_at-node nodes c)) (node-at nodes (c / 2) (omega arith))

no_other : (nodes : List Node) (a b : ℕ) → no_repeat same_node nodes ≡ true → a < b → b < length nodes → get_or nodes a Const ≡ get_or nodes b Const → ⊥
no_other [] a b once h g e = absurd (omega arith)
no_other (n ∷ ns) zero zero once h g e = absurd (omega arith)
no_other (n ∷ ns) zero (suc b) once h g e =
    let parts = and_parts (not (has same_node ns n)) (no_repeat same_node ns) once in
    let there : has same_node ns n ≡ true = subst (λ (m : Node). has same_node ns m ≡ true) (sym e) (node-at ns b (omega arith)) in
    contrary _ parts.0 (rw there refl)
no_other (n ∷ ns) (suc a) zero once h g e = absurd (omega arith)
no_other (n ∷ ns) (suc a) (suc b) once h g e =
    let parts = and_parts (not (has same_node ns n)) (no_repeat same_node ns) once in
    no_other ns a b parts.1 (omega arith) (omega arith) e

-- a node has one number
pub node-exact : (nodes : List Node) (a b : ℕ) → no_repeat same_node nodes ≡ true → a < length nodes → b < length nodes → get_or nodes a Const ≡ get_or nodes b Const → a ≡ b
node-exact nodes a b once h g e = elim (cases_order a b) [
  | inl same ↦ same
  | inr other ↦ elim other [
    | inl less ↦ absurd (no_other nodes a b once less g e)
    | inr more ↦ absurd (no_other nodes b a once more h (sym e))
  ]
]

-- a literal has one code
pub lit_at-exact : (nodes : List Node) (a b : ℕ) → no_repeat same_node nodes ≡ true → IsCode nodes a → IsCode nodes b → lit_at nodes a ≡ lit_at nodes b → a ≡ b
lit_at-exact nodes a b once h g e =
    let half : a / 2 ≡ b / 2 = node-exact nodes (a / 2) (b / 2) once (omega arith) (omega arith) (sym (lit_at-node nodes a) ∙ (ap (λ (l : Lit). l.node) e ∙ lit_at-node nodes b)) in
    let sign : (a % 2 == 1) ≡ (b % 2 == 1) = sym (lit_at-neg nodes a) ∙ (ap (λ (l : Lit). l.neg) e ∙ lit_at-neg nodes b) in
    elim (parity a) [
      | inl p ↦ elim (parity b) [
        | inl q ↦ omega arith
        | inr q ↦ contrary _ (other_sign b q) (sym sign ∙ same_sign a p)
      ]
      | inr p ↦ elim (parity b) [
        | inl q ↦ contrary _ (other_sign a p) (sign ∙ same_sign b q)
        | inr q ↦ omega arith
      ]
    ]

-- a number that isn't above another passes the test
pub le-test : (a b : ℕ) → a ≤ b → nat_le a b ≡ true
le-test a b h = grind (arith, nat_tests)

-- a list has what stands at its places
pub has-at : (xs : List ℕ) (i : ℕ) → i < length xs → has nat_eq xs (get_or xs i 0) ≡ true
has-at xs i h = list_any_at (λ y. nat_eq y (get_or xs i 0)) xs i 0 h (is_literal-flip.equivalence.refl (get_or xs i 0))

-- what stands among codes stands among their literals
pub has-lits : (nodes : List Node) (codes : List ℕ) (c : ℕ) → has nat_eq codes c ≡ true → has same_lit (map (lit_at nodes) codes) (lit_at nodes c) ≡ true
has-lits nodes [] c h = contrary _ h refl
has-lits nodes (x ∷ xs) c h = elim (or_cases (nat_eq x c) _ h) [
  | inl e ↦ or_left _ _ (subst (λ (z : ℕ). same_lit (lit_at nodes z) (lit_at nodes c) ≡ true) (sym (same_exact x c e)) (lit_laws.equivalence.refl (lit_at nodes c)))
  | inr f ↦ or_right (same_lit (lit_at nodes x) (lit_at nodes c)) _ (has-lits nodes xs c f)
]

-- a literal among those of codes has one of the codes
pub code-of : (nodes : List Node) (codes : List ℕ) (l : Lit) → has same_lit (map (lit_at nodes) codes) l ≡ true → (c : ℕ) × (has nat_eq codes c ≡ true) × (lit_at nodes c ≡ l)
code-of nodes [] l h = contrary _ h refl
code-of nodes (x ∷ xs) l h = elim (or_cases (same_lit (lit_at nodes x) l) _ h) [
  | inl e ↦ (x, or_left _ _ (is_literal-flip.equivalence.refl x), lit_laws.exact _ _ e)
  | inr f ↦ let w = code-of nodes xs l f in (w.0, or_right (nat_eq x w.0) _ w.1, w.2)
]

-- and the converse, where they are codes of variables
pub has-codes : (nodes : List Node) (codes : List ℕ) (c : ℕ) → no_repeat same_node nodes ≡ true → ((x : ℕ) → has nat_eq codes x ≡ true → IsCode nodes x) → IsCode nodes c
    → has same_lit (map (lit_at nodes) codes) (lit_at nodes c) ≡ true → has nat_eq codes c ≡ true
has-codes nodes codes c once within h inside =
    let w = code-of nodes codes (lit_at nodes c) inside in
    subst (λ (z : ℕ). has nat_eq codes z ≡ true) (lit_at-exact nodes w.0 c once (within w.0 w.1) h w.2) w.1

pub has-same : (nodes : List Node) (codes : List ℕ) (c : ℕ) → no_repeat same_node nodes ≡ true → ((x : ℕ) → has nat_eq codes x ≡ true → IsCode nodes x) → IsCode nodes c
    → has same_lit (map (lit_at nodes) codes) (lit_at nodes c) ≡ has nat_eq codes c
has-same nodes codes c once within h = both (has same_lit (map (lit_at nodes) codes) (lit_at nodes c)) (has nat_eq codes c) (has-codes nodes codes c once within h) (has-lits nodes codes c)
  where
    both : (a b : Bool) → (a ≡ true → b ≡ true) → (b ≡ true → a ≡ true) → a ≡ b
    both true b f g = sym (f refl)
    both false true f g = g refl
    both false false f g = refl
