-- The clauses so far are put last.
use Rattle.std.proofs.Common.{take}
use Rattle.netlist.specs.Miter.{axioms_of}
use Rattle.lits.specs.declared.step.Ref.TheVariants.{Axiom}
use Rattle.lemma_book.specs.Cone.{named_from}
use Rattle.flat_cones.specs.Numbered.{Adds}
use Rattle.flat_cones.proofs.clauses.Clauses.add_axioms.Given as goal

abbrev pub invariant-loop-k : goal.invariant-loop-k
invariant-loop-k l =
    Adds l.net l.fn.self.base (named_from (Axiom l.fn.node) 0 (take l.k (axioms_of l.net l.fn.node))) l.spots l.self.base
