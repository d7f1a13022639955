-- The numbers by which literals over numbered variables are known: variable v has the literals 2 v, the variable itself,
-- and 2 v + 1, its negation.
use Rattle.std.specs.Prelude.{ℕ, Bool, ◌+◌, ◌*◌, ◌/◌, ◌%◌, ◌<◌, List, length, ◌==◌, if◌then◌else◌, slice_index_or}
use Rattle.lits.specs.declared.node.Node.{Node}
use Rattle.lits.specs.declared.node.Node.TheVariants.{Const}
use Rattle.lits.specs.declared.literal.Lit.{Lit}

-- the code of a variable's number with a sign
abbrev pub code_of : ℕ → Bool → ℕ
code_of number neg = 2 * number + (if neg then 1 else 0)

-- the literal of a code, where variables are these nodes
unfoldable pub lit_at : List Node → ℕ → Lit
lit_at nodes code = record { node = slice_index_or nodes (code / 2) Const; neg = code % 2 == 1 }

-- the code is that of a literal
abbrev pub IsCode : List Node → ℕ → Type 0
IsCode nodes code = code < 2 * length nodes
