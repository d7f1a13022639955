use Rattle.std.proofs.Common.{◌<◌, ◌+◌, ◌*◌, ◌%◌, ◌^◌, ℕ, length, take, get_or, sym, ap, ◌∙◌, arith}
use Rattle.std.proofs.lemmas.List.{take_all}
use Rattle.netlist.specs.NameIndex.{number}
use Rattle.netlist.proofs.IndexLemmas.{number-none, number-next, with_digit-is}
use Rattle.netlist.proofs.name_index.number.Goals as goal

pub loop-k-init : goal.loop-k-init
loop-k-init c = sym number-none

pub loop-k-preserved : goal.loop-k-preserved
loop-k-preserved c =
    let name = c.args.name.now in
    let byte = get_or name c.loop-k.k 0 in
    let below : c.loop-k.k < length name = omega (arith, c.loop-k-test.true) in
    ap (λ (n : ℕ). (n * 257 % 2 ^ 64 + byte) % 2 ^ 64) c.loop-k.invariant
    ∙ sym (number-next name c.loop-k.k below ∙ with_digit-is (number (take c.loop-k.k name)) byte)

pub returns : goal.returns
returns c = c.loop-k.invariant ∙ ap number (take_all c.loop-k.k c.args.name.now (omega (arith, c.loop-k-test.false)))
