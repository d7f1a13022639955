-- The set has the codes of the literals so far, and it is said whether these are a clause.
use Rattle.std.proofs.Common.{◌≡◌, take}
use Rattle.book_file.specs.Lines.{is_clause}
use Rattle.book_file.proofs.CodesLemmas.{HasCodes}
use Rattle.book_file.proofs.clause.is_clause.Given as goal

abbrev pub invariant-loop-lit : goal.invariant-loop-lit
invariant-loop-lit l = record {
  told : l.is_one ≡ is_clause (take l.lit-index l.lits);
  codes : HasCodes l.codes (take l.lit-index l.lits);
}
