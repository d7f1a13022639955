use Rattle.std.proofs.Common.{refl}
use Rattle.command_line.specs.Commands.{budget_option, seed_option, sweep_budget_option, words_option, workers_option}
use Rattle.command_line.proofs.RangeLemmas.{in_range-check, in_range-fraig}
use Rattle.command_line.proofs.laws.given_numbers.Goals as goal

pub returns : goal.returns
returns c = record {
  workers = in_range-check workers_option refl;
  seed = in_range-check seed_option refl;
  words = in_range-check words_option refl;
  sweep_budget = in_range-check sweep_budget_option refl;
  budget = in_range-check budget_option refl;
  fraig_workers = in_range-fraig workers_option refl;
  fraig_seed = in_range-fraig seed_option refl;
  fraig_words = in_range-fraig words_option refl;
  fraig_sweep_budget = in_range-fraig sweep_budget_option refl;
}
