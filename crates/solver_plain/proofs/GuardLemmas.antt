-- What the tests' guards show.
use Rattle.std.proofs.Common.{◌≡◌, Bool, true, false, ◌||◌, List, ◌∷◌, sym, ◌∙◌, subst}
use Rattle.std.specs.Bool.{OnTrue}
use Rattle.std.specs.List.{list_any}
use Rattle.lits.specs.Clause.{has}
use Rattle.lits.specs.declared.literal.Lit.{Lit}
use Rattle.lits.specs.declared.step.Named.{Named}
use Rattle.unit_prop.specs.Log.{same_name, is_own, IsBase}
use Rattle.lits.specs.Same.{same_lit, opposite}
use Rattle.lits.proofs.Facts.{list_any-map}
use Rattle.unit_prop.specs.Refuter.{IsOver}

-- one more name that isn't there and isn't that of an own step
pub base-cons : (b : Bool) (base : List Named) (n : Named) (ns : List Named) → base ≡ n ∷ ns → is_own n.by ≡ false
    → list_any (λ m. same_name m.by n.by) ns ≡ false → OnTrue b (IsBase ns) → OnTrue b (IsBase base)
base-cons false base n ns e own named rest = tt
base-cons true base n ns e own named rest = subst (λ (ms : List Named). IsBase ms) (sym e) (record {
  differ = rw (list_any-map (λ y. same_name y n.by) (λ m. m.by) ns ∙ named) rest.differ;
  foreign = rw own rest.foreign;
})

pub over-cons : (b : Bool) (base : List Named) (lits : List Lit) (l : Lit) (ls : List Lit) → lits ≡ l ∷ ls
    → list_any (λ n. has same_lit n.clause l || has same_lit n.clause (opposite l)) base ≡ true
    → OnTrue b (IsOver base ls) → OnTrue b (IsOver base lits)
over-cons false base lits l ls e here rest = tt
over-cons true base lits l ls e here rest =
    subst (λ (ms : List Lit). IsOver base ms) (sym e)
    (list_any-map (λ c. has same_lit c l || has same_lit c (opposite l)) (λ n. n.clause) base ∙ here, rest)
