use Rattle.std.proofs.Common.{◌≡◌, ℕ, List, take}
use Rattle.std.specs.List.{list_any}
use Rattle.lits.specs.Dimacs.{DimacsLiteral}
use Rattle.lrat_text.specs.Derivation.{formula_live, live_after, Derives, adds_empty}
use Rattle.lrat_checker.specs.Live.{clauses_of}
use Rattle.lrat_checker.proofs.checking.judge_all.Given as goal

abbrev pub invariant-loop-line : goal.invariant-loop-line
invariant-loop-line l = record {
  derives : (formula : List (List DimacsLiteral)) → ((id : ℕ) → clauses_of l.fn.live id ≡ formula_live formula id)
      → Derives formula (take l.line-index l.lines);
  live : (formula : List (List DimacsLiteral)) → ((id : ℕ) → clauses_of l.fn.live id ≡ formula_live formula id)
      → (id : ℕ) → clauses_of l.live id ≡ live_after (formula_live formula) (take l.line-index l.lines) id;
  empty : l.has_empty ≡ list_any (λ line. adds_empty line.step) (take l.line-index l.lines);
}
