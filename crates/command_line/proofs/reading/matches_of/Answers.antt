use Rattle.std.proofs.Common.{◌≡◌, ap, map, string_bytes, subst}
use Rattle.clap.specs.Words.{FailsBy, HasMatchesOf, app_of, fault_of, is_simple_and_free}
use Rattle.std.specs.Prelude.{IfOk}
use Rattle.command_line.specs.Commands.{cec_app}
use Rattle.command_line.specs.Words.{faults}
use Rattle.command_line.proofs.reading.matches_of.Goals as goal

pub returns-clause-kinds : goal.returns-clause-kinds
unfolding faults
returns-clause-kinds c =
    let app : app_of c.in_ok-cec_command.field-0 ≡ cec_app = c.in_ok-cec_command.ensures in
    subst (λ app. FailsBy (fault_of app (map string_bytes c.args.words.now)) c.try_get_matches_from.result) app
    (c.try_get_matches_from.ensures.kinds (ap is_simple_and_free app))

pub returns-clause-values : goal.returns-clause-values
returns-clause-values c =
    let app : app_of c.in_ok-cec_command.field-0 ≡ cec_app = c.in_ok-cec_command.ensures in
    subst (λ app. IfOk c.try_get_matches_from.result (HasMatchesOf app (map string_bytes c.args.words.now))) app
    c.try_get_matches_from.ensures.matches
