use Rattle.std.proofs.Common.{◌≡◌, ◌∙◌, None, Some, refl, sym}
use Rattle.clap.proofs.WalkLemmas.{first_value-rows}
use Rattle.clap.specs.Words.{first_of, found_of, rows_of}
use Rattle.command_line.proofs.matches.is_set.Goals as goal

pub returns-in-Some : goal.returns-in-Some
returns-in-Some c =
    let found = found_of c.args.matches.now in
    let there : first_of c.args.id.now (rows_of found) ≡ Some c.in-Some.text.now =
    sym (first_value-rows found c.args.id.now) ∙ sym c.in-Some.ensures in
    rw there c.eq.ensures

pub returns-in-None : goal.returns-in-None
returns-in-None c =
    let found = found_of c.args.matches.now in
    let none : first_of c.args.id.now (rows_of found) ≡ None =
    sym (first_value-rows found c.args.id.now) ∙ sym c.in-None.ensures in
    rw none refl
