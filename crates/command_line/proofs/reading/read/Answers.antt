use Rattle.std.proofs.Common.{map, string_bytes, sym}
use Rattle.command_line.proofs.AnswerLemmas.{answer_asks, answer_refuses, help_refused, outcome_there, refusal_told}
use Rattle.command_line.proofs.reading.read.Goals as goal

pub returns-then-names_help-clause-refused : goal.returns-then-names_help-clause-refused
returns-then-names_help-clause-refused c =
    help_refused (map string_bytes c.args.words.now) _ (sym c.if-names_help.ensures) c.no_command_help.ensures

pub answer_to-requires : goal.answer_to-requires
answer_to-requires c = outcome_there (map string_bytes c.args.words.now) _ c.in-Ok.ensures.kinds c.in-Ok.ensures.values

pub returns-in-Ok-clause-asked : goal.returns-in-Ok-clause-asked
returns-in-Ok-clause-asked c =
    answer_asks (map string_bytes c.args.words.now) _ _ (sym c.if-names_help.ensures) c.in-Ok.ensures.kinds c.in-Ok.ensures.values
    c.answer_to.ensures.asked

pub returns-in-Ok-clause-refused : goal.returns-in-Ok-clause-refused
returns-in-Ok-clause-refused c =
    answer_refuses (map string_bytes c.args.words.now) _ _ (sym c.if-names_help.ensures) c.in-Ok.ensures.kinds c.in-Ok.ensures.values
    c.answer_to.ensures.refused

pub returns-in-Err-clause-refused : goal.returns-in-Err-clause-refused
returns-in-Err-clause-refused c =
    refusal_told (map string_bytes c.args.words.now) _ _ (sym c.if-names_help.ensures) c.in-Err.ensures.kinds c.refusal_of.ensures
