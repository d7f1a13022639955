-- What a model's literals make true.
use Rattle.std.proofs.Common.{◌≡◌, Bool, true, false, not, ◌||◌, List, [], ◌∷◌, refl, sym, ap, ◌∙◌, subst, if◌then◌else◌}
use Rattle.std.specs.List.{list_any}
use Rattle.std.proofs.lemmas.Bool.{not-true, or_parts, or_right}
use Rattle.lits.specs.Assignment.{Meets}
use Rattle.lits.specs.Clause.{has, has_pair}
use Rattle.lits.specs.declared.node.Node.{Node}
use Rattle.lits.specs.declared.literal.Lit.{Lit}
use Rattle.lits.specs.Same.{same_lit, opposite}
use Rattle.lits.specs.contracts.literal.LitLiteral.TheImpl.Laws as laws
use Rattle.lits.proofs.Facts.{exact-lit}
use Rattle.netlist.specs.Net.{lit_holds}
use Rattle.netlist.specs.Miter.{positive, negative}
use Rattle.netlist.proofs.Facts.{lit_holds-opposite}
use Rattle.unit_prop.proofs.Facts.{contrary}

-- a list without a complementary pair has no literal beside its negation
apart-literal : (ls : List Lit) (q : Lit) → has_pair same_lit opposite ls ≡ false → has same_lit ls q ≡ true → has same_lit ls (opposite q) ≡ false
apart-literal [] q apart h = refl
apart-literal (l ∷ ls) q apart h = go (same_lit l q) refl (apart-literal ls q parts.1)
  where
    parts : (has same_lit ls (opposite l) ≡ false) × (has_pair same_lit opposite ls ≡ false)
    parts = or_parts (has same_lit ls (opposite l)) (has_pair same_lit opposite ls) apart

    other : same_lit l (opposite q) ≡ true → has same_lit ls (opposite l) ≡ has same_lit ls q
    other e = ap (has same_lit ls) (ap opposite (exact-lit l (opposite q) e) ∙ laws.twice-law q)

    go : (b : Bool) → same_lit l q ≡ b → (has same_lit ls q ≡ true → has same_lit ls (opposite q) ≡ false) → has same_lit (l ∷ ls) (opposite q) ≡ false
    go true e rest = subst (λ (m : Lit). has same_lit (l ∷ ls) (opposite m) ≡ false) (exact-lit l q e) (rw (laws.differs-law l, parts.0) refl)
    go false e rest =
        let there : has same_lit ls q ≡ true = sym (ap (λ (b : Bool). b || has same_lit ls q) e) ∙ h in
        rw (no_pair there (same_lit l (opposite q)) refl, rest there) refl
      where
        no_pair : has same_lit ls q ≡ true → (b : Bool) → same_lit l (opposite q) ≡ b → same_lit l (opposite q) ≡ false
        no_pair there false f = f
        no_pair there true f = contrary (has same_lit ls (opposite l)) (other f ∙ there) parts.0

-- a node is true in a model that has its literal
abbrev pub true_in : List Lit → Node → Bool
true_in model n = has same_lit model (positive n)

-- the literals of a model are true there
pub true-literal : (model : List Lit) (l : Lit) → has_pair same_lit opposite model ≡ false → has same_lit model l ≡ true → lit_holds (true_in model) l ≡ true
true-literal model l apart h = go l.neg l.node h
  where
    go : (neg : Bool) (n : Node) → has same_lit model (record { node = n; neg = neg }) ≡ true
        → (if neg then not (true_in model n) else true_in model n) ≡ true
    go false n e = e
    go true n e = ap not (apart-literal model (negative n) apart e)

-- so are the clauses that it meets
pub true-clauses : (model : List Lit) → has_pair same_lit opposite model ≡ false → (cs : List (List Lit)) → Meets (has same_lit model) cs → Meets (lit_holds (true_in model)) cs
true-clauses model apart [] meets = tt
true-clauses model apart (c ∷ cs) meets = (clause c meets.0, true-clauses model apart cs meets.1)
  where
    clause : (ls : List Lit) → list_any (has same_lit model) ls ≡ true → list_any (lit_holds (true_in model)) ls ≡ true
    clause [] h = cc
    clause (l ∷ ls) h = go (has same_lit model l) refl (clause ls)
      where
        go : (b : Bool) → has same_lit model l ≡ b → (list_any (has same_lit model) ls ≡ true → list_any (lit_holds (true_in model)) ls ≡ true)
            → list_any (lit_holds (true_in model)) (l ∷ ls) ≡ true
        go true e rest = rw (true-literal model l apart e) refl
        go false e rest = or_right (lit_holds (true_in model) l) _ (rest (sym (ap (λ (b : Bool). b || list_any (has same_lit model) ls) e) ∙ h))

-- a literal whose negation a model has is false there
pub false-literal : (model : List Lit) (l : Lit) → has_pair same_lit opposite model ≡ false → has same_lit model (opposite l) ≡ true
    → lit_holds (true_in model) l ≡ false
false-literal model l apart h = not-true (lit_holds (true_in model) l) (sym (lit_holds-opposite (true_in model) l) ∙ true-literal model (opposite l) apart h)
