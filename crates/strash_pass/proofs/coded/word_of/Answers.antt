-- One literal more.
use Rattle.std.proofs.Common.{List, sym, subst, arith, ◌∙◌}
use Rattle.std.proofs.lemmas.List.{take_all}
use Rattle.lits.specs.declared.literal.Lit.{Lit}
use Rattle.strash_pass.specs.Coded.{AreBits, bit_of}
use Rattle.strash_pass.proofs.WordLemmas.{bits-next, bits-none}
use Rattle.strash_pass.proofs.coded.word_of.Goals as goal

pub loop-lit-init : goal.loop-lit-init
loop-lit-init c = bits-none (bit_of c.args.nodes.now)

pub loop-lit-preserved : goal.loop-lit-preserved
loop-lit-preserved c =
    bits-next c.args.nodes.now c.requires c.args.lits.now c.loop-lit.lit-index _ c.loop-lit.word c.set-word.result c.in-Some.bit (omega arith)
    c.loop-lit.invariant (sym c.bit.ensures.value ∙ c.in-Some.is) c.set-word.ensures

pub returns : goal.returns
returns c =
    subst (λ (ls : List Lit). AreBits (bit_of c.args.nodes.now) ls c.loop-lit.word)
    (take_all c.loop-lit.lit-index c.args.lits.now (omega (arith, c.loop-lit-test.false))) c.loop-lit.invariant
