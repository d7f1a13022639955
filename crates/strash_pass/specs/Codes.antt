-- Literals as numbers: twice the position of the node, and one more for a negation.
use Rattle.std.specs.Prelude.{ℕ, ◌+◌, ◌*◌, Option, if◌then◌else◌}
use Rattle.std.specs.Option.{option_map}
use Rattle.lits.specs.declared.literal.Lit.{Lit}
use Rattle.netlist.specs.Net.{AigPair, position_of}
use Rattle.strash_pass.specs.declared.merged.Spot.{Spot}

-- the code of a literal; none where its node has no position
abbrev pub code_of : AigPair → Lit → Option ℕ
code_of net l = option_map (λ p. 2 * p + (if l.neg then 1 else 0)) (position_of net l.node)

-- that of a literal whose node stands at this position
abbrev pub code_at : Spot → ℕ
code_at s = 2 * s.at + (if s.lit.neg then 1 else 0)
