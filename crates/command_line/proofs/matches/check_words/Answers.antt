use Rattle.std.proofs.Common.{◌∙◌, Some, ap, codes, sym}
use Rattle.clap.proofs.WalkLemmas.{first_value-rows}
use Rattle.clap.specs.Words.{found_of, rows_of}
use Rattle.command_line.specs.Answers.{check_texts}
use Rattle.command_line.specs.Words.{with_options}
use Rattle.command_line.proofs.GetterLemmas.{check_made, options_given}
use Rattle.command_line.proofs.matches.check_words.Goals as goal

pub returns : goal.returns
returns c =
    let found = found_of c.args.matches.now in
    let rows = rows_of found in
    check_made rows _ _ c.text.ensures c.text-2.ensures
    ∙ ap Some
    (ap (with_options rows) (sym c.plain-plain.ensures)
    ∙ options_given rows (check_texts c.plain-plain.result) _ _ _ _ _ _ _ _ _ _ _ _
    (sym (first_value-rows found (codes "edits")) ∙ sym c.get_str.ensures)
    (sym (first_value-rows found (codes "out")) ∙ sym c.get_str-2.ensures)
    (sym (first_value-rows found (codes "load")) ∙ sym c.get_str-3.ensures)
    (sym (first_value-rows found (codes "save")) ∙ sym c.get_str-4.ensures)
    (sym (first_value-rows found (codes "witness")) ∙ sym c.get_str-5.ensures)
    c.number_or.ensures.value c.number_or-2.ensures.value c.number_or-3.ensures.value c.number_or-4.ensures.value
    c.number_or-5.ensures.value c.is_set.ensures c.is_set-2.ensures)
