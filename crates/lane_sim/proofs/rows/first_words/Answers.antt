use Rattle.std.proofs.Common.{◌≡◌, ◌∙◌, ◌+◌, ◌*◌, ◌-◌, ℕ, take, drop, ap, sym, arith}
use Rattle.std.proofs.lemmas.List.{take-take}
use Rattle.lane_sim.proofs.rows.first_words.Goals as goal

pub returns : goal.returns
returns c =
    let from = c.args.position * c.args.known.stride in
    let behind = drop from c.args.known.rows.now in
    let count : from + c.args.known.words - from ≡ c.args.known.words = omega arith in
    ap (λ (n : ℕ). take n behind) count ∙ sym (take-take c.args.known.words c.args.known.stride behind c.requires.wide)
