-- What entries say of all inputs, or of all admitted ones.
use Rattle.std.specs.Prelude.{◌≡◌, Bool, ⊤, List, length}
use Rattle.lits.specs.declared.node.Node.{Node}
use Rattle.lits.specs.declared.literal.Lit.{Lit}
use Rattle.netlist.specs.Net.{AigPair, AgreesOn, value_of, lit_holds}
use Rattle.lemma_book.specs.declared.entry.Entry.{Entry}
use Rattle.lemma_book.specs.Entry.{Question, OfPair, OfOutput, Answer, Equal, Differ, Open, question_of, answer_of}

-- the node has the literal's value, for all truth values of the inputs
abbrev pub HasValueOf : AigPair → Node → Lit → Type 0
HasValueOf net node lit = (bits : List Bool) → length bits ≡ length net.a.inputs
    → value_of net bits node ≡ lit_holds (value_of net bits) lit

-- two literals have one value, for all truth values of the inputs
abbrev pub HaveOneValue : AigPair → Lit → Lit → Type 0
HaveOneValue net l m = (bits : List Bool) → length bits ≡ length net.a.inputs
    → lit_holds (value_of net bits) l ≡ lit_holds (value_of net bits) m

-- the values of the question are equal: those of a pair for all truth values of the inputs, an output's on each admitted
-- input
abbrev pub AreEqual : AigPair → Question → Type 0
AreEqual net (OfPair node lit) = HasValueOf net node lit
AreEqual net (OfOutput j) = AgreesOn net j

abbrev pub IsTrueOf : AigPair → Question → Answer → Type 0
IsTrueOf net q (Equal steps) = AreEqual net q
IsTrueOf net q (Differ input) = ⊤
IsTrueOf net q (Open seen log) = ⊤

-- where the entry says that values are equal, they are
abbrev pub IsTrue : AigPair → Entry → Type 0
IsTrue net e = IsTrueOf net (question_of e) (answer_of e)
