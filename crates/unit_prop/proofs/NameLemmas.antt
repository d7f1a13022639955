-- Bases whose clauses all stand under their names: each name has the clause that it has everywhere.
use Rattle.std.proofs.Common.{rules, ◌≡◌, Bool, true, false, List, [], ◌∷◌, Option, Some, None, refl, sym, ap, ◌∙◌, subst}
use Rattle.std.specs.Prelude.{map}
use Rattle.std.specs.Bool.{OnTrue}
use Rattle.std.specs.List.{list_any, AllByRecursion}
use Rattle.std.proofs.lemmas.Bool.{or_left, or_right, or_parts}
use Rattle.lits.specs.Clause.{has}
use Rattle.lits.specs.declared.literal.Lit.{Lit}
use Rattle.lits.specs.declared.step.Named.{Named}
use Rattle.lits.specs.declared.step.Ref.{Ref}
use Rattle.lits.specs.contracts.step.RefEq.TheImpl.Laws as ref_eq
use Rattle.unit_prop.specs.Log.{same_name, base_clause}
use Rattle.unit_prop.specs.HintScan.{IsNamed}

-- names that are found equal are one
pub exact-name : (x y : Ref) → same_name x y ≡ true → x ≡ y
exact-name = search rules

module _ (clause_of : Ref → Option (List Lit)) where
  -- each clause of the list is the one of its name
  abbrev pub AreNamed : List Named → Type 0
  AreNamed base = AllByRecursion (λ n. clause_of n.by ≡ Some n.clause) base

  -- the clause that such a base has under a name is the one of that name
  pub base_clause-is : (base : List Named) → AreNamed base → (name : Ref) (c : List Lit) → base_clause base name ≡ Some c
      → clause_of name ≡ Some c
  base_clause-is [] all name c e = let f : None ≡ Some c = e in cc
  base_clause-is (n ∷ ns) all name c e = go (same_name n.by name) refl (base_clause-is ns all.1 name c)
    where
      go : (b : Bool) → same_name n.by name ≡ b → (base_clause ns name ≡ Some c → clause_of name ≡ Some c) → clause_of name ≡ Some c
      go true f rest =
          let g : Some n.clause ≡ Some c = rw f at e in
          subst (λ (x : Ref). clause_of x ≡ Some c) (exact-name n.by name f) (all.0 ∙ g)
      go false f rest = rest (rw f at e)

  -- and it has one under each of its names
  base_clause-there : (base : List Named) → AreNamed base → (name : Ref) (c : List Lit) → clause_of name ≡ Some c
      → has same_name (map (λ n. n.by) base) name ≡ true → base_clause base name ≡ Some c
  base_clause-there [] all name c e h = cc
  base_clause-there (n ∷ ns) all name c e h = go (same_name n.by name) refl (base_clause-there ns all.1 name c e)
    where
      go : (b : Bool) → same_name n.by name ≡ b → (has same_name (map (λ m. m.by) ns) name ≡ true → base_clause ns name ≡ Some c)
          → base_clause (n ∷ ns) name ≡ Some c
      go true f rest = rw f (sym all.0 ∙ (ap clause_of (exact-name n.by name f) ∙ e))
      go false f rest = rw f (rest (rw f at h))

  -- in such a base clauses of one name are the same clause
  pub named-all : (base : List Named) → AreNamed base → IsNamed base
  named-all base all = each base all (λ name h. h)
    where
      each : (ns : List Named) → AreNamed ns
          → ((name : Ref) → has same_name (map (λ n. n.by) ns) name ≡ true → has same_name (map (λ n. n.by) base) name ≡ true)
          → AllByRecursion (λ n. base_clause base n.by ≡ Some n.clause) ns
      each [] here within = tt
      each (n ∷ ns) here within = (
        base_clause-there base all n.by n.clause here.0 (within n.by (or_left _ _ (ref_eq.laws-law.refl n.by))),
        each ns here.1 (λ name h. within name (or_right (same_name n.by name) _ h)),
      )

-- a clause in front whose name no other has
pub named-cons : (result : Bool) (base : List Named) (first : Named) (rest : List Named) → base ≡ first ∷ rest
    → list_any (λ n. same_name n.by first.by) rest ≡ false → OnTrue result (IsNamed rest) → OnTrue result (IsNamed base)
named-cons false base first rest e new named = tt
named-cons true base first rest e new named =
    rw e (rw (ref_eq.laws-law.refl first.by) refl, each rest new named)
  where
    each : (ns : List Named) → list_any (λ n. same_name n.by first.by) ns ≡ false
        → AllByRecursion (λ n. base_clause rest n.by ≡ Some n.clause) ns
        → AllByRecursion (λ n. base_clause (first ∷ rest) n.by ≡ Some n.clause) ns
    each [] none all = tt
    each (n ∷ ns) none all =
        let parts = or_parts (same_name n.by first.by) (list_any (λ m. same_name m.by first.by) ns) none in
        (rw (ref_eq.laws-law.symm first.by n.by ∙ parts.0) all.0, each ns parts.1 all.1)
