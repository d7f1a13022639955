use Rattle.std.proofs.Common.{List, [], ◌∷◌, ◌++◌, ℕ, Option, inl, inr, ap₂, ◌∙◌, subst}
use Rattle.std.proofs.lemmas.Result.{err_from_is_err_and}
use Rattle.lemma_book.specs.Entry.{Entries}
use Rattle.cec_top.specs.declared.kept.Kept.{Kept}
use Rattle.cec_top.specs.Stats.{Reports}
use Rattle.cec_top.specs.Steps.{due_in, wanted_in}
use Rattle.cec_top.proofs.CheckLemmas.{not-begun, told-whole, told-in-part}
use Rattle.cec_top.proofs.WarnedLemmas.{progress-else}
use Rattle.cec_top.proofs.checking.check.Goals as goal

pub returns-in_err-reserve : goal.returns-in_err-reserve
returns-in_err-reserve g c =
    let p = err_from_is_err_and c.from_residual.result c.from_residual.ensures.1 in
    rw (p.1, p.2)
    (inr (not-begun c.args.wants.progress (g.D.Desk.state c.args.desk.now) c.args.kept.now.items c.reserve.new.self.items
    c.in_err-reserve.ensures.items))

pub tell-requires-clause-started : goal.tell-requires-clause-started
tell-requires-clause-started g c =
    (progress-else c.args.wants.progress (g.D.Desk.state c.args.desk.now) (g.D.Desk.state c.settle.new.desk) c.settle.ensures.warns).started
    ∙ c.requires.started

pub returns-in-Ok : goal.returns-in-Ok
returns-in-Ok g c =
    let s = c.args.session.now in
    let t = c.settle.new.session in
    told-whole s c.settle.new.session (wanted_in c.args.wants) c.args.number c.in_ok-verdict.verdict c.in_ok-verdict.ensures.ok
    (g.D.Desk.state c.args.desk.now) (g.D.Desk.state c.report.new.desk) c.args.kept.now.items c.reserve.new.self.items
    (g.D.Desk.state c.settle.new.desk) (g.D.Desk.state c.tell.new.desk) c.in-Ok.status c.in_ok-reserve.ensures.items c.settle.ensures.warns
    (c.in-Ok.ensures.says (due_in s))
    (subst (λ (n : Option ℕ). Reports c.args.wants.stats t.net t.book.entries n (g.D.Desk.state c.tell.new.desk) (g.D.Desk.state c.report.new.desk))
    (c.in-Ok.ensures.lines (due_in s)) c.report.ensures)

pub returns : goal.returns
returns g c =
    let s = c.args.session.now in
    inl (told-in-part s c.settle.new.session (wanted_in c.args.wants) c.args.number c.in_ok-verdict.verdict c.in_ok-verdict.ensures.ok
    (g.D.Desk.state c.args.desk.now) (g.D.Desk.state c.tell.new.desk) c.args.kept.now.items c.push_reserved.new.self.items
    (g.D.Desk.state c.settle.new.desk) c.in-Err.stop
    (c.push_reserved.ensures.items
    ∙ ap₂ (λ (ks : List Kept) (b : Entries). ks ++ record { check = c.args.number; book = b } ∷ []) c.in_ok-reserve.ensures.items
    c.take_book.ensures.taken) c.settle.ensures.warns (c.in-Err.ensures.says (due_in s)))
