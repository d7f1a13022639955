-- Literals as variables and as members of a set. A variable is its literal without a minus sign.
use Rattle.std.specs.Prelude.{Bool, false, not, ◌&&◌, List, [], ◌∷◌, ◌++◌, if◌then◌else◌}
use Rattle.lits.specs.Clause.{has}
use Rattle.lits.specs.declared.literal.Lit.{Lit}
use Rattle.lits.specs.Same.{same_lit, opposite}

-- the variable of a literal
abbrev pub variable_of : Lit → Lit
variable_of l = record { node = l.node; neg = false }

-- neither the literal nor its negation is in the set
abbrev pub is_free : List Lit → Lit → Bool
is_free set lit = not (has same_lit set lit) && not (has same_lit set (opposite lit))

-- the literal where the set has it, else its negation
abbrev pub value_in : List Lit → Lit → Lit
value_in set lit = if has same_lit set lit then lit else opposite lit

-- the set with the literal last, unless it is there
abbrev pub with_lit : List Lit → Lit → List Lit
with_lit set lit = if has same_lit set lit then set else set ++ lit ∷ []
