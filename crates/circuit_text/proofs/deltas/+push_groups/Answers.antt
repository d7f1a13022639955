use Rattle.std.proofs.Common.{◌≡◌, List, ℕ, OnOk, subst, arith}
use Rattle.circuit_text.proofs.DeltaLemmas.{groups-fit, groups-more}
use Rattle.circuit_text.proofs.deltas.+push_groups.Goals as goal

pub push_groups-requires : goal.push_groups-requires
push_groups-requires t c =
    (omega arith, (omega arith, groups-fit c.args.number c.args.more c.if-more-eq0.false c.requires.fits))

pub returns-clause-ok : goal.returns-clause-ok
returns-clause-ok t c =
    subst (λ (text : List ℕ). OnOk c.push_groups.result (c.push_groups.new.text.items ≡ text))
    (groups-more _ _ _ c.args.number c.args.more c.if-more-eq0.false c.if-number-lt128.false c.in_ok-push-2.ensures.items (omega arith))
    c.push_groups.ensures.ok
