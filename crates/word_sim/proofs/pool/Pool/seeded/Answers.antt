use Rattle.std.proofs.Common.{◌∙◌, List, Bool, ap}
use native.Mathlib.Omega.{arith}
use Rattle.std.proofs.lemmas.List.{append-nil, get_or_past}
use Rattle.std.proofs.lemmas.Nat.Bits.{bit_at-zero}
use Rattle.std.specs.Int.{bit_at}
use Rattle.word_sim.proofs.PoolLemmas.{drawn-seeded, drawn-size}
use Rattle.word_sim.proofs.pool.Pool.seeded.Goals as goal

pub invariant_of-result : goal.invariant_of-result
invariant_of-result c = (
  drawn-size c.args.seed c.args.words c.args.inputs _ c.in_ok-draws.ensures,
  omega arith,
  c.requires.0,
  c.requires.1,
  omega arith,
  λ w i b inside within behind. ap (λ k. bit_at k b) (get_or_past c.new.result.items _ 0 (omega arith)) ∙ bit_at-zero b,
)

pub returns : goal.returns
returns c = ap (λ (ps : List (List Bool)). record { inputs = c.args.inputs; patterns = ps })
    (append-nil _ ∙ drawn-seeded c.args.seed c.args.words c.args.inputs _ c.in_ok-draws.ensures)
