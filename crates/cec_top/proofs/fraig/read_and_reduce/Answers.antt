use Rattle.std.proofs.Common.{◌∙◌, ◌++◌, List, [], ◌∷◌, ap, refl}
use Rattle.std.proofs.lemmas.Result.{err_from_is_err_and}
use Rattle.command_line.specs.Answers.{fraig_texts}
use Rattle.cec_top.specs.declared.kept.Kept.{Kept}
use Rattle.cec_top.proofs.FraigLemmas.{fraig-err, fraig-ok, not-read, out-behind, read-closed}
use Rattle.cec_top.proofs.fraig.read_and_reduce.Goals as goal

pub returns-in_err-a-clause-err : goal.returns-in_err-a-clause-err
returns-in_err-a-clause-err g c =
    let p = err_from_is_err_and c.from_residual.result c.from_residual.ensures.1 in
    rw (p.1, p.2)
    (not-read (fraig_texts c.args.words) (g.D.Desk.state c.args.desk.now) (g.D.Desk.state c.read_circuit.new.desk) c.args.kept.now.items _
    c.requires.empty c.in_err-a.ensures)

pub returns-in_err-reserve-clause-err : goal.returns-in_err-reserve-clause-err
returns-in_err-reserve-clause-err g c =
    let p = err_from_is_err_and c.from_residual-in_err-reserve.result c.from_residual-in_err-reserve.ensures.1 in
    rw (p.1, p.2)
    (out-behind (fraig_texts c.args.words) (g.D.Desk.state c.args.desk.now) (g.D.Desk.state c.read_circuit.new.desk) c.in_ok-a.a c.in_ok-a.ensures
    c.reserve.new.self.items _ (c.in_err-reserve.ensures.items ∙ c.requires.empty) refl)

pub returns-in_err-circuit-clause-err : goal.returns-in_err-circuit-clause-err
returns-in_err-circuit-clause-err g c =
    let p = err_from_is_err_and c.from_residual-in_err-circuit.result c.from_residual-in_err-circuit.ensures.1 in
    rw (p.1, p.2)
    (out-behind (fraig_texts c.args.words) (g.D.Desk.state c.args.desk.now) (g.D.Desk.state c.read_circuit.new.desk) c.in_ok-a.a c.in_ok-a.ensures
    c.reserve.new.self.items _ (c.in_ok-reserve.ensures.items ∙ c.requires.empty) c.in_err-circuit.ensures.err)

pub tell-told-requires-clause-started : goal.tell-told-requires-clause-started
tell-told-requires-clause-started g c =
    read-closed (fraig_texts c.args.words) (g.D.Desk.state c.args.desk.now) (g.D.Desk.state c.read_circuit.new.desk) c.in_ok-a.a c.in_ok-a.ensures
    c.requires.started

pub returns-clause-ok : goal.returns-clause-ok
returns-clause-ok g c =
    let book = c.in_ok-circuit.book in
    fraig-ok (fraig_texts c.args.words) (g.D.Desk.state c.args.desk.now) (g.D.Desk.state c.read_circuit.new.desk) c.in_ok-a.a c.in_ok-a.ensures
    c.in_ok-circuit.circuit book c.in_ok-circuit.session c.in_ok-circuit.ensures.ok (g.D.Desk.state c.tell-told.new.desk)
    c.push_reserved.new.self.items
    (c.push_reserved.ensures.items
    ∙ ap (λ (ks : List Kept). ks ++ record { check = 0; book = book } ∷ []) (c.in_ok-reserve.ensures.items ∙ c.requires.empty))
    c.tell-told.result (c.tell-told.ensures book)

pub returns-clause-err : goal.returns-clause-err
returns-clause-err g c =
    let book = c.in_ok-circuit.book in
    fraig-err (fraig_texts c.args.words) (g.D.Desk.state c.args.desk.now) (g.D.Desk.state c.read_circuit.new.desk) c.in_ok-a.a c.in_ok-a.ensures
    c.in_ok-circuit.circuit book c.in_ok-circuit.session c.in_ok-circuit.ensures.ok (g.D.Desk.state c.tell-told.new.desk)
    c.push_reserved.new.self.items
    (c.push_reserved.ensures.items
    ∙ ap (λ (ks : List Kept). ks ++ record { check = 0; book = book } ∷ []) (c.in_ok-reserve.ensures.items ∙ c.requires.empty))
    c.tell-told.result (c.tell-told.ensures book)
