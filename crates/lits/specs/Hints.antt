-- How a list of names is kept in few bytes: a name as one number, of a kind (3 bits), which clause of its kind it is (2 bits),
-- and an index.
use Rattle.std.specs.Prelude.{ℕ, ◌/◌, ◌%◌, ◌==◌, List, map, if◌then◌else◌}
use Rattle.lits.specs.declared.node.Node.TheVariants.{Const, Input, Gate, Xor}
use Rattle.lits.specs.declared.node.Side.TheVariants.{A, B}
use Rattle.lits.specs.declared.step.Ref.{Ref}
use Rattle.lits.specs.declared.step.Ref.TheVariants.{Axiom, Entry, Own, Bound}
use Rattle.lits.specs.declared.hints.Form.{Form}
use Rattle.lits.specs.declared.hints.Form.TheVariants.{Packed, Wide}

-- the name of a kind, a clause and an index
abbrev pub named : ℕ → ℕ → ℕ → Ref
named kind k index =
    if kind == 0 then Axiom Const k
    else if kind == 1 then Axiom (Input index) k
    else if kind == 2 then Axiom (Gate A index) k
    else if kind == 3 then Axiom (Gate B index) k
    else if kind == 4 then Axiom (Xor index) k
    else if kind == 5 then Entry index k
    else if kind == 6 then Own index
    else Bound (if k == 0 then A else B) index

-- the name that a number stands for
abbrev pub name_of : ℕ → Ref
name_of code = named (code % 8) (code / 8 % 4) (code / 32)

-- the names that are kept
abbrev pub names_in : Form → List Ref
names_in (Packed codes) = map name_of codes.items
names_in (Wide names) = names.items
