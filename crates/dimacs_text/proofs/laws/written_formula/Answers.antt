use Rattle.dimacs_text.proofs.TextLemmas.{written-lists, written-clauses}
use Rattle.dimacs_text.proofs.laws.written_formula.Goals as goal

pub returns : goal.returns
returns c = record {
  lists = λ variables lists fits few all. written-lists variables fits lists few all;
  clauses =
      λ variables clauses fits few all are. written-clauses variables fits clauses few all are;
}
