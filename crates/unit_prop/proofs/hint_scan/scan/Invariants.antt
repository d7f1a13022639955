-- Scanning goes on from the set, and each literal leaves fewer places of the clauses.
use Rattle.std.specs.Prelude.{map}
use Rattle.lits.specs.Same.{same_lit, opposite}
use Rattle.unit_prop.specs.Log.{base_clauses}
use Rattle.unit_prop.proofs.ClosureLemmas.{missing_places}
use Rattle.unit_prop.proofs.HintScanLemmas.{IsScanning}
use Rattle.unit_prop.proofs.hint_scan.scan.Given as goal

abbrev pub invariant-loop-hints : goal.invariant-loop-hints
invariant-loop-hints l = IsScanning l.base (map opposite l.clause) l.set l.hints.items

abbrev pub decreases-loop-hints : goal.decreases-loop-hints
decreases-loop-hints l = missing_places same_lit l.set (base_clauses l.base)
