use Rattle.std.proofs.Common.{◌≡◌, ◌∙◌, None, Some, codes, sym}
use Rattle.clap.proofs.WalkLemmas.{first_value-rows}
use Rattle.clap.specs.Words.{first_of, found_of, rows_of}
use Rattle.command_line.proofs.GetterLemmas.{check_matched, command_there}
use Rattle.command_line.proofs.matches.check_in.Goals as goal

pub check_words-check-requires : goal.check_words-check-requires
check_words-check-requires c = command_there _ _ c.requires

pub returns-in-Some : goal.returns-in-Some
returns-in-Some c =
    let found = found_of c.args.matches.now in
    let there : first_of (codes "match") (rows_of found) ≡ Some c.in-Some.word.now =
    sym (first_value-rows found (codes "match")) ∙ sym c.in-Some.ensures in
    check_matched (rows_of found) _ _ _ there c.check_words-check.ensures c.matched.ensures

pub returns-in-None : goal.returns-in-None
returns-in-None c =
    let found = found_of c.args.matches.now in
    let none : first_of (codes "match") (rows_of found) ≡ None =
    sym (first_value-rows found (codes "match")) ∙ sym c.in-None.ensures in
    check_matched (rows_of found) _ _ _ none c.check_words-check.ensures c.saved.ensures
