use Rattle.std.proofs.Common.{◌≡◌, ◌∙◌, Some, true, false, sym, ap, subst, refl, arith}
use Rattle.lits.specs.declared.literal.Lit.{Lit}
use Rattle.lits.specs.Same.{same_lit, opposite}
use Rattle.netlist.proofs.AxiomLemmas.{clause-three, kept-three}
use Rattle.netlist.proofs.short.Short.of_three.Goals as goal

pub returns-then-eq : goal.returns-then-eq
returns-then-eq c =
    let pair : same_lit c.args.third (opposite c.args.second) ≡ true = subst (λ (l : Lit). same_lit c.args.third l ≡ true) c.not.ensures (sym c.if-eq.ensures) in
    sym (kept-three c.args.first c.args.second c.args.third c.requires.second c.requires.third ∙ rw pair refl)

pub returns-then-eq-2 : goal.returns-then-eq-2
returns-then-eq-2 c =
    let apart : same_lit c.args.third (opposite c.args.second) ≡ false = subst (λ (l : Lit). same_lit c.args.third l ≡ false) c.not.ensures (sym c.if-eq.ensures) in
    let same : same_lit c.args.second c.args.third ≡ true = sym c.if-eq-2.ensures in
    sym (kept-three c.args.first c.args.second c.args.third c.requires.second c.requires.third ∙ rw (apart, same) (ap Some (sym c.of_two.ensures)))

pub invariant_of-result : goal.invariant_of-result
invariant_of-result c =
    let apart : same_lit c.args.third (opposite c.args.second) ≡ false = subst (λ (l : Lit). same_lit c.args.third l ≡ false) c.not.ensures (sym c.if-eq.ensures) in
    (omega arith, clause-three c.args.first c.args.second c.args.third c.requires.second c.requires.third apart (sym c.if-eq-2.ensures))

pub returns : goal.returns
returns c =
    let apart : same_lit c.args.third (opposite c.args.second) ≡ false = subst (λ (l : Lit). same_lit c.args.third l ≡ false) c.not.ensures (sym c.if-eq.ensures) in
    let others : same_lit c.args.second c.args.third ≡ false = sym c.if-eq-2.ensures in
    sym (kept-three c.args.first c.args.second c.args.third c.requires.second c.requires.third ∙ rw (apart, others) refl)
