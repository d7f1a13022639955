use Rattle.std.proofs.lemmas.Result.{IfOk-weaker}
use Rattle.check_session.proofs.SweptLemmas.{adds-none, found-asked, found-told, goes_on-asked, goes_on-told, none-known, swept-plain}
use Rattle.check_session.proofs.sweep.verdict_of_sweep.Goals as goal

pub difference_behind-requires-clause-none : goal.difference_behind-requires-clause-none
difference_behind-requires-clause-none g c =
    let begun = c.args.begun in
    none-known c.args.net.now begun.book c.in_ok-swept.swept.book begun.pool c.in_ok-swept.swept.pool c.patterns-known.result
    c.in_ok-swept.ensures.sweeps c.patterns-known.ensures.count c.requires.none

pub verdict_told-requires-clause-entries : goal.verdict_told-requires-clause-entries
verdict_told-requires-clause-entries g c =
    swept-plain c.args.net.now c.args.begun.book c.in_ok-swept.swept.book c.args.begun.pool c.in_ok-swept.swept.pool c.requires.begun.equal
    c.in_ok-swept.ensures.sweeps

pub returns-in-Some-clause-goes_on : goal.returns-in-Some-clause-goes_on
returns-in-Some-clause-goes_on g c =
    let net = c.args.net.now in
    let begun = c.args.begun in
    IfOk-weaker c.verdict_told.result _ _
    (λ x tells. goes_on-told net c.args.options begun.book begun.book c.in_ok-swept.swept.book begun.pool c.in_ok-swept.swept.pool
    (adds-none net begun.book c.requires.plain) c.in_ok-swept.ensures.sweeps _ x tells) c.verdict_told.ensures

pub returns-in-Some-clause-found : goal.returns-in-Some-clause-found
returns-in-Some-clause-found g c =
    let net = c.args.net.now in
    let begun = c.args.begun in
    let swept = c.in_ok-swept.swept in
    IfOk-weaker c.verdict_told.result _ _
    (λ x tells old adds may. found-told net c.args.options old begun.book swept.book begun.pool swept.pool adds c.in_ok-swept.ensures.sweeps
    may c.in_ok-swept.ensures.pool c.in_ok-swept.ensures.reduced _ x c.requires.none tells) c.verdict_told.ensures

pub verdict_of_outputs-requires-clause-entries : goal.verdict_of_outputs-requires-clause-entries
verdict_of_outputs-requires-clause-entries g c κs within =
    swept-plain c.args.net.now c.args.begun.book c.in_ok-swept.swept.book c.args.begun.pool c.in_ok-swept.swept.pool c.requires.begun.equal
    c.in_ok-swept.ensures.sweeps

pub returns-clause-goes_on : goal.returns-clause-goes_on
returns-clause-goes_on g c =
    let net = c.args.net.now in
    let begun = c.args.begun in
    IfOk-weaker c.verdict_of_outputs.result _ _
    (λ x asks. goes_on-asked net c.args.options begun.book begun.book c.in_ok-swept.swept.book begun.pool c.in_ok-swept.swept.pool
    (adds-none net begun.book c.requires.plain) c.in_ok-swept.ensures.sweeps x asks) c.verdict_of_outputs.ensures

pub returns-clause-found : goal.returns-clause-found
returns-clause-found g c =
    let net = c.args.net.now in
    let begun = c.args.begun in
    let swept = c.in_ok-swept.swept in
    IfOk-weaker c.verdict_of_outputs.result _ _
    (λ x asks old adds may. found-asked net c.args.options old begun.book swept.book begun.pool swept.pool adds c.in_ok-swept.ensures.sweeps
    may c.in_ok-swept.ensures.pool c.in_ok-swept.ensures.reduced x asks c.is_swept.ensures) c.verdict_of_outputs.ensures
