-- Behind the inputs there are gates.
use Rattle.std.proofs.Common.{◌<◌, ◌∙◌, ℕ, length, subst, sym, ap, ◌-◌}
use Rattle.netlist.specs.Net.{fanins_at}
use Rattle.lemma_book.proofs.ConeValueLemmas.{and-at, gate-there}
use Rattle.lemma_book.proofs.cone_value.value_or_needed.Goals as goal

pub both-requires-clause-gate : goal.both-requires-clause-gate
both-requires-clause-gate c =
    let net = c.args.net.now in
    let whole = c.requires.whole in
    let behind : length net.a.inputs < c.args.position = subst (λ (n : ℕ). n < c.args.position) whole c.if-position-input.false in
    let at = ap (λ (n : ℕ). fanins_at net (c.args.position - 1 - n)) (sym whole) ∙ sym c.fanins.ensures ∙ c.in-Some.is in
    and-at net c.args.position behind c.requires.net c.args.input.now c.in-Some.fanins at

pub unreachable-requires : goal.unreachable-requires
unreachable-requires c =
    let net = c.args.net.now in
    let whole = c.requires.whole in
    let behind : length net.a.inputs < c.args.position = subst (λ (n : ℕ). n < c.args.position) whole c.if-position-input.false in
    let at = ap (λ (n : ℕ). fanins_at net (c.args.position - 1 - n)) (sym whole) ∙ sym c.fanins.ensures ∙ c.in-None.is in
    gate-there net c.args.position behind c.requires.there at
