use Rattle.command_line.proofs.PlainLemmas.{asks-check, asks-fraig, asks-lrat, asks-self, fraig-seed, fraig-sweep_budget, fraig-words, fraig-workers, misnames-match, saves-behind, sets-edits, sets-budget, sets-budget_out, sets-match_names, sets-load, sets-match_position, sets-out, sets-out_budget, sets-progress, sets-save, sets-seed, sets-stats, sets-sweep_budget, sets-witness, sets-words, sets-workers, witness-behind, witness-beside, writes-behind}
use Rattle.std.proofs.Common.{◌∙◌, ap, refl, Bool, Some}
use Rattle.std.specs.Prelude.{if◌then◌else◌}
use Rattle.std.proofs.lemmas.Bool.{false_from_ne_true}
use Rattle.std.proofs.lemmas.Slice.Eq.{bytes_eq-Decides}
use Rattle.command_line.specs.Words.{CheckIt, FraigIt, Misuses, Requested, SavesOver, WritesOver, WitnessOver, WitnessSaved, plain_check, plain_fraig}
use Rattle.command_line.proofs.SavedLemmas.{first-told, left-told, told-first, told-left}
use Rattle.command_line.proofs.laws.plain_words.Goals as goal

pub returns : goal.returns
returns c = record {
  check = λ a b plain_a plain_b program. asks-check program a b plain_a plain_b;
  edits = sets-edits;
  out = sets-out;
  load = sets-load;
  save = sets-save;
  witness = sets-witness;
  workers = sets-workers;
  seed = sets-seed;
  words = sets-words;
  sweep_budget = sets-sweep_budget;
  budget = sets-budget;
  match_position = sets-match_position;
  match_names = sets-match_names;
  stats = sets-stats;
  progress = sets-progress;
  no_pairing = misnames-match;
  saves_over = λ program a b p word plain_a plain_b plain_p plain_word left.
      saves-behind program a b p word plain_a plain_b plain_p plain_word
      ∙ ap (λ (over : Bool). Some (if over then Misuses SavesOver else Requested (CheckIt (record (plain_check a b) { out = Some p; save = Some word }))))
      (left-told p word left);
  out_save = λ a b p word plain_a plain_b plain_p plain_word apart program.
      saves-behind program a b p word plain_a plain_b plain_p plain_word
      ∙ ap (λ (over : Bool). Some (if over then Misuses SavesOver else Requested (CheckIt (record (plain_check a b) { out = Some p; save = Some word }))))
      (false_from_ne_true _ (λ is. apart (told-left p word is)));
  witness_over = λ program a b p word plain_a plain_b plain_p plain_word left.
      witness-behind program a b p word plain_a plain_b plain_p plain_word
      ∙ ap (λ (over : Bool). Some (if over then Misuses WitnessOver else Requested (CheckIt (record (plain_check a b) { out = Some p; witness = Some word }))))
      (left-told p word left);
  out_witness = λ a b p word plain_a plain_b plain_p plain_word apart program.
      witness-behind program a b p word plain_a plain_b plain_p plain_word
      ∙ ap (λ (over : Bool). Some (if over then Misuses WitnessOver else Requested (CheckIt (record (plain_check a b) { out = Some p; witness = Some word }))))
      (false_from_ne_true _ (λ is. apart (told-left p word is)));
  witness_saved = λ program a b word plain_a plain_b plain_word.
      witness-beside program a b word word plain_a plain_b plain_word plain_word
      ∙ ap (λ (one : Bool). Some (if one then Misuses WitnessSaved else Requested (CheckIt (record (plain_check a b) { save = Some word; witness = Some word }))))
      ((bytes_eq-Decides word word).1 refl);
  save_witness = λ a b f word plain_a plain_b plain_f plain_word apart program.
      witness-beside program a b f word plain_a plain_b plain_f plain_word
      ∙ ap (λ (one : Bool). Some (if one then Misuses WitnessSaved else Requested (CheckIt (record (plain_check a b) { save = Some f; witness = Some word }))))
      (false_from_ne_true _ (λ same. apart ((bytes_eq-Decides f word).0 same)));
  out_budget = λ a b p word n plain_a plain_b plain_p writes program.
      sets-out_budget program a b p word n plain_a plain_b plain_p writes;
  budget_out = λ a b p word n plain_a plain_b plain_p writes program.
      sets-budget_out program a b p word n plain_a plain_b plain_p writes;
  fraig = λ a reduced plain_a plain_r program. asks-fraig program a reduced plain_a plain_r;
  fraig_out = λ a reduced p plain_a plain_r plain_p apart program.
      writes-behind program a reduced p plain_a plain_r plain_p
      ∙ ap (λ (over : Bool). Some (if over then Misuses WritesOver else Requested (FraigIt (record (plain_fraig a reduced) { out = Some p }))))
      (false_from_ne_true _ (λ is. apart (told-first p reduced is)));
  writes_over = λ program a reduced p plain_a plain_r plain_p first.
      writes-behind program a reduced p plain_a plain_r plain_p
      ∙ ap (λ (over : Bool). Some (if over then Misuses WritesOver else Requested (FraigIt (record (plain_fraig a reduced) { out = Some p }))))
      (first-told p reduced first);
  fraig_workers = fraig-workers;
  fraig_seed = fraig-seed;
  fraig_words = fraig-words;
  fraig_sweep_budget = fraig-sweep_budget;
  lrat = λ program cnf proof plain_a plain_b. asks-lrat program cnf proof plain_a plain_b;
  own = λ program word kind n writes. asks-self program word n writes kind;
}
