use Rattle.std.proofs.Common.{◌∙◌, Some, ap, codes, sym}
use Rattle.clap.proofs.WalkLemmas.{first_value-rows}
use Rattle.clap.specs.Words.{found_of, rows_of}
use Rattle.command_line.specs.Answers.{fraig_texts}
use Rattle.command_line.specs.Words.{with_fraig_options}
use Rattle.command_line.proofs.GetterLemmas.{fraig_made, fraig_options_given}
use Rattle.command_line.proofs.matches.fraig_words.Goals as goal

pub returns : goal.returns
returns c =
    let found = found_of c.args.matches.now in
    let rows = rows_of found in
    fraig_made rows _ _ c.text.ensures c.text-2.ensures
    ∙ ap Some
    (ap (with_fraig_options rows) (sym c.plain-plain.ensures)
    ∙ fraig_options_given rows (fraig_texts c.plain-plain.result) _ _ _ _ _
    (sym (first_value-rows found (codes "out")) ∙ sym c.get_str.ensures)
    c.number_or.ensures.value c.number_or-2.ensures.value c.number_or-3.ensures.value c.number_or-4.ensures.value)
