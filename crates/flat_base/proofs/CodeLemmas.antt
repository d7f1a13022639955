-- Codes stay where variables come after.
use Rattle.std.proofs.Common.{◌≡◌, ℕ, ◌/◌, List, [], ◌∷◌, ◌++◌, refl, arith}
use Rattle.std.specs.List.{AllByRecursion}
use Rattle.std.proofs.lemmas.List.{length-append, get_or_append_left}
use Rattle.lits.specs.declared.node.Node.{Node}
use Rattle.lits.specs.declared.node.Node.TheVariants.{Const}
use Rattle.flat_base.specs.Codes.{lit_at, IsCode}
use Rattle.flat_base.specs.Flat.{clause_at}

pub lit_at-more : (nodes more : List Node) (c : ℕ) → IsCode nodes c → lit_at (nodes ++ more) c ≡ lit_at nodes c
unfolding lit_at
lit_at-more nodes more c h = rw (get_or_append_left nodes more Const (c / 2) (omega arith)) refl

pub code-more : (nodes more : List Node) (c : ℕ) → IsCode nodes c → IsCode (nodes ++ more) c
code-more nodes more c h = omega (arith, length-append nodes more)

pub clause_at-more : (nodes more : List Node) (codes : List ℕ) → AllByRecursion (IsCode nodes) codes
    → clause_at (nodes ++ more) codes ≡ clause_at nodes codes
clause_at-more nodes more [] all = refl
clause_at-more nodes more (c ∷ cs) all = rw (lit_at-more nodes more c all.0, clause_at-more nodes more cs all.1) refl

pub codes-more : (nodes more : List Node) (codes : List ℕ) → AllByRecursion (IsCode nodes) codes
    → AllByRecursion (IsCode (nodes ++ more)) codes
codes-more nodes more [] all = tt
codes-more nodes more (c ∷ cs) all = (code-more nodes more c all.0, codes-more nodes more cs all.1)
