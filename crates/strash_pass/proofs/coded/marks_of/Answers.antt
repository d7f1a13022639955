-- One literal is true, and then the other too.
use Rattle.std.proofs.Common.{[], ◌∷◌, ◌∙◌, not, sym, subst}
use Rattle.lits.specs.declared.literal.Lit.{Lit}
use Rattle.strash_pass.specs.Coded.{AreMarks, bit_of}
use Rattle.strash_pass.proofs.WordLemmas.{marks-none, marks-push, numbering}
use Rattle.strash_pass.proofs.coded.marks_of.Goals as goal

pub returns : goal.returns
returns c =
    let bit = bit_of c.args.nodes.now in
    let numbers = numbering c.args.nodes.now c.requires in
    let first =
    marks-push bit numbers [] c.not.result _ c.with.result c.in_ok-first.first (marks-none bit) (sym c.bit.ensures.value ∙ c.in_ok-first.was)
    c.with.ensures.yes c.with.ensures.no c.with.ensures.small in
    let second =
    marks-push bit numbers (c.not.result ∷ []) c.not-2.result c.with.result c.with-2.result c.in_ok-second.second first
    (sym c.bit-2.ensures.value ∙ c.in_ok-second.was) c.with-2.ensures.yes c.with-2.ensures.no c.with-2.ensures.small in
    subst (λ (l : Lit). AreMarks bit (l ∷ record { node = c.args.other.node; neg = not c.args.other.neg } ∷ []) c.with-2.result) c.not.ensures
    (subst (λ (l : Lit). AreMarks bit (c.not.result ∷ l ∷ []) c.with-2.result) c.not-2.ensures second)
