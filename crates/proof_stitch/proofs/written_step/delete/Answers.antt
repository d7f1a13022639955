use Rattle.std.proofs.Common.{◌≡◌, ◌++◌, ◌∙◌, ℕ, List, length, map, sym, subst}
use Rattle.std.proofs.lemmas.Bool.{eqb-false}
use Rattle.std.proofs.lemmas.List.{length-map}
use Rattle.std.proofs.lemmas.Result.{err_from_is_err_and}
use Rattle.desk_port.specs.Pieces.{Takes}
use Rattle.desk_port.proofs.Facts.{stops-none}
use Rattle.lrat_text.specs.Writing.{text_from}
use Rattle.proof_stitch.specs.Table.{named_in}
use Rattle.proof_stitch.specs.Trimmed.{deletion}
use Rattle.proof_stitch.proofs.ProgressLemmas.{deletion-text}
use Rattle.proof_stitch.proofs.written_step.delete.Goals as goal

pub returns-in_err-ids-clause-takes : goal.returns-in_err-ids-clause-takes
returns-in_err-ids-clause-takes g c =
    let p = err_from_is_err_and c.from_residual.result c.from_residual.ensures.1 in
    rw (p.1, p.2)
    (stops-none (c.args.proof.now.pieces ++ text_from c.args.proof.now.last (deletion (map (named_in c.args.names.now) c.args.gone.now)))
    (g.D.Desk.state c.args.desk.now) (g.D.Desk.sizes c.args.desk.now))

pub returns-clause-takes : goal.returns-clause-takes
returns-clause-takes g c =
    let some : length (map (named_in c.args.names.now) c.args.gone.now) ≡ 0 → ⊥ =
    λ none. eqb-false _ _ (sym c.is_empty.ensures ∙ c.if-is_empty.false) (sym (length-map c.args.gone.now (named_in c.args.names.now)) ∙ none) in
    subst (λ (l : List ℕ). Takes l c.args.proof.now.pieces c.push.new.self.pieces (g.D.Desk.state c.args.desk.now) (g.D.Desk.state c.push.new.desk)
    (g.D.Desk.sizes c.args.desk.now) (g.D.Desk.sizes c.push.new.desk) c.push.result)
    (deletion-text c.args.proof.now.last c.of.result (map (named_in c.args.names.now) c.args.gone.now) some (c.of.ensures ∙ c.in_ok-ids.ensures))
    c.push.ensures.takes
