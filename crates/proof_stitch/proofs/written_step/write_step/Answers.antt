use Rattle.std.proofs.Common.{◌≡◌, ◌+◌, ◌++◌, ◌∙◌, ℕ, List, length, map, sym, ap, ap₂}
use Rattle.std.specs.Prelude.{◌==◌, ◌&&◌}
use Rattle.std.proofs.lemmas.Result.{err_from_is_err_and, on_ok_weaker}
use Rattle.lits.specs.declared.literal.Lit.{Lit}
use Rattle.netlist.specs.Miter.{numbered}
use Rattle.desk_port.proofs.Facts.{stops-none}
use Rattle.lrat_text.specs.Steps.{id_after}
use Rattle.lrat_text.specs.Writing.{text_from}
use Rattle.lrat_text.specs.declared.step.LratStep.TheVariants.{Add}
use Rattle.proof_stitch.specs.Progress.{AreLastCited, counted, step_lines}
use Rattle.proof_stitch.specs.Steps.{id_of}
use Rattle.proof_stitch.specs.Table.{named_in, number_at}
use Rattle.proof_stitch.specs.Trimmed.{deletion, has_id}
use Rattle.proof_stitch.proofs.PassLemmas.{step-stops, step-takes}
use Rattle.proof_stitch.proofs.ProgressLemmas.{step-lines}
use Rattle.proof_stitch.proofs.RisingLemmas.{rises-from, same-members}
use Rattle.proof_stitch.proofs.written_step.write_step.Goals as goal

pub returns-in_err-cited-clause-takes : goal.returns-in_err-cited-clause-takes
returns-in_err-cited-clause-takes g c = λ gone are.
    let p = err_from_is_err_and c.from_residual.result c.from_residual.ensures.1 in
    rw (p.1, p.2)
    (stops-none
    (c.args.proof.now.pieces
    ++ text_from c.args.proof.now.last
    (step_lines c.args.net.now c.args.shown.now c.args.first c.args.step.now c.set.new.self c.args.proof.now.last gone))
    (g.D.Desk.state c.args.desk.now) (g.D.Desk.sizes c.args.desk.now))

pub returns-in_err-gone-clause-takes : goal.returns-in_err-gone-clause-takes
returns-in_err-gone-clause-takes g c = λ gone are.
    let p = err_from_is_err_and c.from_residual-in_err-gone.result c.from_residual-in_err-gone.ensures.1 in
    rw (p.1, p.2)
    (stops-none
    (c.args.proof.now.pieces
    ++ text_from c.args.proof.now.last
    (step_lines c.args.net.now c.args.shown.now c.args.first c.args.step.now c.set.new.self c.args.proof.now.last gone))
    (g.D.Desk.state c.args.desk.now) (g.D.Desk.sizes c.args.desk.now))

pub returns-in_err-addition-clause-takes : goal.returns-in_err-addition-clause-takes
returns-in_err-addition-clause-takes g c = λ gone are.
    let p = err_from_is_err_and c.from_residual-in_err-addition.result c.from_residual-in_err-addition.ensures.1 in
    rw (p.1, p.2)
    (stops-none
    (c.args.proof.now.pieces
    ++ text_from c.args.proof.now.last
    (step_lines c.args.net.now c.args.shown.now c.args.first c.args.step.now c.set.new.self c.args.proof.now.last gone))
    (g.D.Desk.state c.args.desk.now) (g.D.Desk.sizes c.args.desk.now))

pub returns-in_err-push-clause-takes : goal.returns-in_err-push-clause-takes
returns-in_err-push-clause-takes g c = λ gone are.
    let p = err_from_is_err_and c.from_residual-in_err-push.result c.from_residual-in_err-push.ensures.1 in
    let name = named_in c.set.new.self in
    let cited : c.in_ok-cited.cited.items ≡ map (id_of c.args.net.now c.args.shown.now c.args.first) c.args.step.now.hints =
    c.in_ok-cited.ensures in
    let line : c.in_ok-addition.addition
    ≡ Add (c.args.proof.now.last + 1) (map (numbered c.args.net.now) c.args.step.now.clause)
    (map name (map (id_of c.args.net.now c.args.shown.now c.args.first) c.args.step.now.hints)) =
    c.in_ok-addition.ensures
    ∙ ap₂ (λ (ls : List Lit) (ns : List ℕ). Add (c.args.proof.now.last + 1) (map (numbered c.args.net.now) ls) (map name ns)) c.lits.ensures.lits
    (c.as_slice-2.ensures.value ∙ cited) in
    rw (p.1, p.2)
    (step-stops c.args.proof.now.last c.in_ok-addition.addition _ line (map name gone) (map name gone) c.args.proof.now.pieces c.push.new.self.pieces
    c.push.new.self.pieces
    (g.D.Desk.state c.args.desk.now) (g.D.Desk.state c.push.new.desk) (g.D.Desk.state c.push.new.desk) (g.D.Desk.sizes c.args.desk.now)
    (g.D.Desk.sizes c.push.new.desk) (g.D.Desk.sizes c.push.new.desk) c.in_err-push.field-0.0 c.in_err-push.ensures.takes)

pub returns-clause-takes : goal.returns-clause-takes
returns-clause-takes g c = λ gone are.
    let name = named_in c.set.new.self in
    let cited : c.in_ok-cited.cited.items ≡ map (id_of c.args.net.now c.args.shown.now c.args.first) c.args.step.now.hints =
    c.in_ok-cited.ensures in
    let line : c.in_ok-addition.addition
    ≡ Add (c.args.proof.now.last + 1) (map (numbered c.args.net.now) c.args.step.now.clause)
    (map name (map (id_of c.args.net.now c.args.shown.now c.args.first) c.args.step.now.hints)) =
    c.in_ok-addition.ensures
    ∙ ap₂ (λ (ls : List Lit) (ns : List ℕ). Add (c.args.proof.now.last + 1) (map (numbered c.args.net.now) ls) (map name ns)) c.lits.ensures.lits
    (c.as_slice-2.ensures.value ∙ cited) in
    let same : c.as_slice-3.result.now ≡ gone =
    c.as_slice-3.ensures.value
    ∙ same-members c.in_ok-gone.gone.items gone (rises-from c.in_ok-gone.gone.items c.in_ok-gone.ensures.rises) are.rises
    (λ n. c.in_ok-gone.ensures.members n
    ∙ ap (λ (l : List ℕ). has_id l n && (number_at c.args.marks.now n == c.args.id)) (c.as_slice.ensures.value ∙ cited) ∙ sym (are.members n)) in
    step-takes c.args.proof.now.last c.in_ok-addition.addition _ line (map name c.as_slice-3.result.now) (map name gone) c.args.proof.now.pieces c.push.new.self.pieces
    c.delete.new.proof.pieces
    (g.D.Desk.state c.args.desk.now) (g.D.Desk.state c.push.new.desk) (g.D.Desk.state c.delete.new.desk) (g.D.Desk.sizes c.args.desk.now)
    (g.D.Desk.sizes c.push.new.desk) (g.D.Desk.sizes c.delete.new.desk) c.delete.result c.push.new.self.last c.in_ok-push.ensures.last
    (ap (map name) same) c.in_ok-push.ensures.takes c.delete.ensures.takes

pub returns-clause-last : goal.returns-clause-last
returns-clause-last g c =
    on_ok_weaker c.delete.result
    (λ (last : c.delete.new.proof.last ≡ c.push.new.self.last).
    last ∙ c.in_ok-push.ensures.last ∙ ap (id_after c.args.proof.now.last) c.in_ok-addition.ensures)
    c.delete.ensures.last

pub returns-clause-lines : goal.returns-clause-lines
returns-clause-lines g c =
    let cited : c.in_ok-cited.cited.items ≡ map (id_of c.args.net.now c.args.shown.now c.args.first) c.args.step.now.hints =
    c.in_ok-cited.ensures in
    on_ok_weaker c.delete.result
    (λ (lines : counted c.delete.new.proof.lines ≡ counted (c.push.new.self.lines + length (deletion c.as_slice-3.result.now))) gone
    (are : AreLastCited c.args.net.now c.args.shown.now c.args.marks.now c.args.first c.args.id c.args.step.now gone).
    step-lines c.args.proof.now.lines c.push.new.self.lines c.delete.new.proof.lines _ _ c.in_ok-push.ensures.lines lines
    (ap (λ (l : List ℕ). length (deletion l))
    (c.as_slice-3.ensures.value
    ∙ same-members c.in_ok-gone.gone.items gone (rises-from c.in_ok-gone.gone.items c.in_ok-gone.ensures.rises) are.rises
    (λ n. c.in_ok-gone.ensures.members n
    ∙ ap (λ (l : List ℕ). has_id l n && (number_at c.args.marks.now n == c.args.id)) (c.as_slice.ensures.value ∙ cited) ∙ sym (are.members n)))))
    c.delete.ensures.lines
