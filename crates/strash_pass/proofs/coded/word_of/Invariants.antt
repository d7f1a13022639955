-- The word has the bits of the literals so far.
use Rattle.std.proofs.Common.{take}
use Rattle.strash_pass.specs.Coded.{AreBits, bit_of}
use Rattle.strash_pass.proofs.coded.word_of.Given as goal

abbrev pub invariant-loop-lit : goal.invariant-loop-lit
invariant-loop-lit l = AreBits (bit_of l.nodes) (take l.lit-index l.lits) l.word
