use Rattle.std.proofs.Common.{◌≡◌, None, ap, ◌∙◌, subst}
use Rattle.std.specs.Prelude.{◌⊎◌, IfNone, IfSome}
use Rattle.netlist.specs.declared.unlike.Unlike.TheVariants as unlike
use Rattle.check_session.specs.Check.{State}
use Rattle.check_session.specs.declared.options.Options.{Options}
use Rattle.netlist.specs.Pairing.{paired, unlike_in}
use Rattle.std.proofs.lemmas.Result.{err_from_is_err_and}
use Rattle.command_line.specs.Answers.{check_texts}
use Rattle.cec_top.specs.Answers.{how_of}
use Rattle.cec_top.proofs.ReadLemmas.{opened-by, stops-a, stops-b, reads-both, unlike-pair, pair-there, err_is}
use Rattle.cec_top.proofs.reading.read_session.Goals as goal

pub returns-in_err-a : goal.returns-in_err-a
returns-in_err-a g c =
    let p = err_from_is_err_and c.from_residual.result c.from_residual.ensures.1 in
    rw (p.1, p.2) (stops-a (check_texts c.args.words) (g.D.Desk.state c.args.desk.now) _ _ c.in_err-a.ensures)

pub returns-in_err-b : goal.returns-in_err-b
returns-in_err-b g c =
    let p = err_from_is_err_and c.from_residual-in_err-b.result c.from_residual-in_err-b.ensures.1 in
    rw (p.1, p.2) (stops-b (check_texts c.args.words) (g.D.Desk.state c.args.desk.now) c.in_ok-a.a _ c.in_ok-a.ensures _ _ c.in_err-b.ensures)

pub returns-in-Ok : goal.returns-in-Ok
returns-in-Ok g c =
    let p = pair-there _ _ _ c.in-Ok.ensures.unlike c.in-Ok.ensures.like in
    let words = check_texts c.args.words in
    let a = c.in_ok-a.a in
    let b = c.in_ok-b.b in
    let alike : unlike_in words.by_name a b ≡ None =
    subst (λ (o : Options). unlike_in o.by_name a b ≡ None) c.options_of.ensures.options p.0 in (
      reads-both (check_texts c.args.words) (g.D.Desk.state c.args.desk.now) c.in_ok-a.a _ c.in_ok-a.ensures c.in_ok-b.b _ c.in_ok-b.ensures
          c.in-Ok.session.net
          (ap (λ (s : State). s.net) p.1 ∙ ap (λ (o : Options). paired o.by_name a b) c.options_of.ensures.options) alike
          (c.pairs_are_matched.ensures.stands words.by_name alike),
      opened-by c.in-Ok.session _ c.options_of.result (how_of words).options p.1 c.options_of.ensures.options,
    )

pub returns-in-Err : goal.returns-in-Err
returns-in-Err g c =
    let words = check_texts c.args.words in
    let a = c.in_ok-a.a in
    let b = c.in_ok-b.b in
    let e = c.in-Err.unlike in
    unlike-pair words (g.D.Desk.state c.args.desk.now) a _ c.in_ok-a.ensures b _ c.in_ok-b.ensures
    e _ c.unlike_stop.ensures
    (subst (λ (o : Options). IfSome (unlike_in o.by_name a b) (λ v. err_is e v ⊎ err_is e unlike.NoMemory)) c.options_of.ensures.options c.in-Err.ensures.unlike)
    (subst (λ (o : Options). IfNone (unlike_in o.by_name a b) (e ≡ unlike.NoMemory)) c.options_of.ensures.options c.in-Err.ensures.like)
