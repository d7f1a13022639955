use Rattle.std.proofs.Common.{rules, ◌≡◌, length}
use Rattle.std.proofs.lemmas.Result.{err_from_is_err_and}
use Rattle.cec_top.proofs.SavingLemmas.{loads-err, loads-none, loads-out, loads-said}
use Rattle.cec_top.proofs.lemmas.load_lemmas.Goals as goal

pub returns-in_err-entries-in-Some : goal.returns-in_err-entries-in-Some
returns-in_err-entries-in-Some g c =
    let p = err_from_is_err_and c.from_residual.result c.from_residual.ensures.1 in
    let s = c.args.session.now in
    rw (p.1, p.2, c.in-Some.is)
    (loads-err s c.requires.opened c.in-Some.name.now c.args.file (g.D.Desk.state c.args.desk.now) (g.D.Desk.state c.read_entries.new.desk) s _
    c.in_err-entries-in-Some.ensures)

pub returns-in_err-taken-in-Some : goal.returns-in_err-taken-in-Some
returns-in_err-taken-in-Some g c =
    let p = err_from_is_err_and c.from_residual-in_err-taken-in-Some.result c.from_residual-in_err-taken-in-Some.ensures.1 in
    let s = c.args.session.now in
    rw (p.1, p.2, c.in-Some.is)
    (loads-out s c.requires.opened c.in-Some.name.now c.args.file (g.D.Desk.state c.args.desk.now) (g.D.Desk.state c.read_entries.new.desk)
    c.in_ok-entries-in-Some.entries c.in_ok-entries-in-Some.ensures c.load.new.self)

pub returns-in_ok-taken-in-Some : goal.returns-in_ok-taken-in-Some
returns-in_ok-taken-in-Some g c =
    let s = c.args.session.now in
    let given : c.len-given.result ≡ length c.in_ok-entries-in-Some.entries.items = search rules in
    rw c.in-Some.is
    (loads-said s c.requires.opened c.in-Some.name.now c.args.file (g.D.Desk.state c.args.desk.now) (g.D.Desk.state c.read_entries.new.desk)
    c.in_ok-entries-in-Some.entries c.in_ok-entries-in-Some.ensures c.load.new.self c.in_ok-taken-in-Some.taken c.len-given.result c.in_ok-taken-in-Some.ensures.loaded given
    (g.D.Desk.state c.say_lemmas.new.desk) c.say_lemmas.result c.say_lemmas.ensures)

pub returns-in-None : goal.returns-in-None
returns-in-None g c =
    let s = c.args.session.now in
    rw c.in-None.is (loads-none s c.requires.opened c.args.file (g.D.Desk.state c.args.desk.now))
