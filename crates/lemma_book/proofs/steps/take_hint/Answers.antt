-- An own step's clause is that at its place, and any other name is the sources' to find.
use Rattle.std.proofs.Common.{◌≡◌, ◌∙◌, ℕ, ap, refl, sym, subst, length, List, Option, Some, Ok, Err, ◌⊎◌, inl, inr}
use Rattle.std.specs.Prelude.{IfErr, OnOk, slice_get}
use Rattle.std.specs.Option.{option_map}
use Rattle.std.proofs.lemmas.Bool.{ltb-false}
use Rattle.std.proofs.lemmas.Option.{slice_get_read, slice_get_past}
use Rattle.lits.specs.Same.{same_lit, opposite}
use Rattle.lits.specs.declared.literal.Lit.{Lit}
use Rattle.lits.specs.declared.node.Node.{Node}
use Rattle.lits.specs.declared.node.Side.{Side}
use Rattle.lits.specs.declared.step.Ref.{Ref}
use Rattle.lits.specs.declared.step.Ref.TheVariants.{Axiom, Entry, Own, Bound}
use Rattle.lits.specs.declared.step.Step.{Step}
use Rattle.unit_prop.specs.Step.{after_found, IfBad}
use Rattle.unit_prop.specs.Log.{with_own}
use Rattle.lemma_book.proofs.steps.take_hint.Goals as goal

-- a name that isn't that of an own step
from-sources : (find : Ref → Option (List Lit)) (before : List Step) (name : Ref)
    → (((x : Node) × (k : ℕ) × (name ≡ Axiom x k)) ⊎ (((e : ℕ) × (k : ℕ) × (name ≡ Entry e k)) ⊎ ((s : Side) × (k : ℕ) × (name ≡ Bound s k))))
    → find name ≡ with_own find before name
from-sources find before name (inl (x, k, e)) = ap find e ∙ sym (ap (with_own find before) e)
from-sources find before name (inr (inl (i, k, e))) = ap find e ∙ sym (ap (with_own find before) e)
from-sources find before name (inr (inr (s, k, e))) = ap find e ∙ sym (ap (with_own find before) e)

pub returns-in-Axiom : goal.returns-in-Axiom
returns-in-Axiom g c =
    let found = from-sources (g.S.Sources.find c.args.sources.now) c.args.before.now c.args.name c.in-Axiom.is in record {
      ok = subst (λ o. OnOk c.hint-in-Axiom.result (after_found same_lit opposite c.args.check.now o ≡ Ok c.hint-in-Axiom.new.check)) found c.hint-in-Axiom.ensures.ok;
      bad = subst (λ o. IfErr c.hint-in-Axiom.result (λ e. IfBad e (λ w. after_found same_lit opposite c.args.check.now o ≡ Err w))) found c.hint-in-Axiom.ensures.bad;
    }

pub returns-in-None-clause-bad : goal.returns-in-None-clause-bad
returns-in-None-clause-bad g c =
    let past = slice_get_past c.args.before.now c.in-Own.k (ltb-false c.in-Own.k (length c.args.before.now) (sym c.in-None.ensures.lookup.0)) in
    ap (after_found same_lit opposite c.args.check.now)
    (ap (with_own (g.S.Sources.find c.args.sources.now) c.args.before.now) c.in-Own.is ∙ ap (option_map (λ (s : Step). s.clause)) past)

-- the clause of an own step's name
own-clause : (find : Ref → Option (List Lit)) (before : List Step) (name : Ref) (k : ℕ) (s : Step) (clause : List Lit)
    → name ≡ Own k → slice_get before k ≡ Some s → clause ≡ s.clause → Some clause ≡ with_own find before name
own-clause find before name k s clause e at is = ap Some is ∙ sym (ap (option_map (λ (t : Step). t.clause)) at) ∙ sym (ap (with_own find before) e)

pub returns-in-Some-clause-ok : goal.returns-in-Some-clause-ok
returns-in-Some-clause-ok g c =
    let at = slice_get_read c.args.before.now _ c.in-Own.k c.in-Some.step.now refl c.in-Some.ensures.lookup.3.0 c.in-Some.ensures.lookup.1 in
    subst (λ o. OnOk c.hint.result (after_found same_lit opposite c.args.check.now o ≡ Ok c.hint.new.self))
    (own-clause (g.S.Sources.find c.args.sources.now) c.args.before.now c.args.name c.in-Own.k c.in-Some.step.now c.lits.result.now c.in-Own.is at c.lits.ensures.lits)
    c.hint.ensures.ok

pub returns-in-Some-clause-bad : goal.returns-in-Some-clause-bad
returns-in-Some-clause-bad g c =
    let at = slice_get_read c.args.before.now _ c.in-Own.k c.in-Some.step.now refl c.in-Some.ensures.lookup.3.0 c.in-Some.ensures.lookup.1 in
    subst (λ o. IfErr c.hint.result (λ e. IfBad e (λ w. after_found same_lit opposite c.args.check.now o ≡ Err w)))
    (own-clause (g.S.Sources.find c.args.sources.now) c.args.before.now c.args.name c.in-Own.k c.in-Some.step.now c.lits.result.now c.in-Own.is at c.lits.ensures.lits)
    c.hint.ensures.bad
