-- What a block of patterns shows of the outputs, and several blocks one after another.
use Rattle.std.specs.Prelude.{◌≡◌, nat_lt, List, [], ◌∷◌, ◌++◌, Bool, Option, None, Some, MatchOption, if◌then◌else◌}
use Rattle.netlist.specs.Net.{AigPair}
use Rattle.word_sim.specs.Patterns.{Patterns}
use Rattle.check_session.specs.declared.patterns.Difference.{Difference}
use Rattle.check_session.specs.Pool.{IsFirstApart, NoneApart}

-- the least output that one of these patterns tells apart, with the first such pattern; none where there is none
abbrev pub IsFirstIn : AigPair → List (List Bool) → Option Difference → Type 0
IsFirstIn net patterns found =
    MatchOption found (NoneApart net patterns) (λ d. IsFirstApart net patterns d.output d.input)

-- the one of the lesser output, the first where both are of one
abbrev pub lesser : Option Difference → Option Difference → Option Difference
lesser None second = second
lesser (Some d) None = Some d
lesser (Some d) (Some e) = if nat_lt e.output d.output then Some e else Some d

-- the input that tells an output apart joined behind the patterns; where none does, none joined
abbrev pub JoinsTelling : Patterns → Patterns → Option Difference → Type 0
JoinsTelling old new None = new ≡ old
JoinsTelling old new (Some d) = new.patterns ≡ old.patterns ++ d.input ∷ []
