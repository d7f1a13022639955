use Rattle.lrat_text.specs.Derivation.{formula_live}
use Rattle.lrat_text.proofs.DerivationLemmas.{refutes-unsatisfiable, live-follows, live_after-push, derives-push, refutes-push}
use Rattle.lrat_text.proofs.laws.derived_lines.Goals as goal

pub returns : goal.returns
returns c = record {
  unsatisfiable = refutes-unsatisfiable;
  follows = λ formula lines id clause derives e. live-follows formula lines derives id clause e;
  live = λ formula. live_after-push (formula_live formula);
  line = λ formula. derives-push (formula_live formula);
  empty = refutes-push;
}
