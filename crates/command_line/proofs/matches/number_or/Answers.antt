use Rattle.std.proofs.Common.{◌≡◌, ◌∙◌, None, Some, ap, refl, sym, unwrap_or}
use Rattle.clap.proofs.WalkLemmas.{first_value-rows}
use Rattle.clap.specs.Words.{first_of, found_of, rows_of}
use Rattle.command_line.proofs.matches.number_or.Goals as goal

pub returns-in-Some-clause-value : goal.returns-in-Some-clause-value
returns-in-Some-clause-value c =
    let found = found_of c.args.matches.now in
    let there : first_of c.args.id.now (rows_of found) ≡ Some c.in-Some.text.now =
    sym (first_value-rows found c.args.id.now) ∙ sym c.in-Some.ensures in
    rw there (c.unwrap_or.ensures ∙ ap (λ o. unwrap_or o c.args.default) c.number_in.ensures.value)

pub returns-in-None-clause-value : goal.returns-in-None-clause-value
returns-in-None-clause-value c =
    let found = found_of c.args.matches.now in
    let none : first_of c.args.id.now (rows_of found) ≡ None =
    sym (first_value-rows found c.args.id.now) ∙ sym c.in-None.ensures in
    rw none refl
