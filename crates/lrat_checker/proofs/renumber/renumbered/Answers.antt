use Rattle.std.proofs.Common.{ℕ, List, length, subst}
use Rattle.lrat_checker.specs.Renamed.{IsNumbering, renumbered, number_in}
use Rattle.lrat_checker.proofs.Numberings.{renumbered-renames}
use Rattle.lrat_checker.proofs.renumber.renumbered.Goals as goal

pub returns : goal.returns
returns c =
    let numbers = c.lines.new.self in
    record {
      rename = renumbered (number_in numbers) (length numbers);
      renames = renumbered-renames (number_in numbers) (length numbers)
          (subst (λ (n : List (ℕ × ℕ)). IsNumbering (number_in n) (length n)) c.numbers-2.view_is c.numbers-2.invariant);
      formula_is = c.in_ok-formula.ensures.clauses (number_in numbers) (length numbers) c.in_ok-lines.ensures.others;
      lines_are = c.in_ok-lines.ensures.lines (number_in numbers) (length numbers) (λ v n e. e);
    }
