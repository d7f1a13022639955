use Rattle.std.proofs.Common.{◌≡◌, ◌++◌, List, ℕ, sym, ap, ◌∙◌, subst, take-append-drop}
use Rattle.std.proofs.lemmas.Result.{err_from_is_err_and}
use Rattle.desk_port.specs.Pieces.{Moves}
use Rattle.desk_port.proofs.PieceLemmas.{half-none, half-more, half-stops, half-held}
use Rattle.desk_port.proofs.pieces.Pieces.put.Goals as goal

pub loop-rest-init : goal.loop-rest-init
loop-rest-init g c =
    half-none c.args.bytes.now c.args.self.now (g.D.Desk.state c.args.desk.now) (g.D.Desk.sizes c.args.desk.now)

pub loop-rest-preserved : goal.loop-rest-preserved
loop-rest-preserved g c =
    let cut : c.loop-rest.rest.now ≡ c.split_at.result.0.now ++ c.split_at.result.1.now =
    rw (c.split_at.ensures.front, c.split_at.ensures.back) (sym (take-append-drop _ c.loop-rest.rest.now)) in
    half-more c.args.bytes.now c.loop-rest.rest.now c.split_at.result.0.now c.split_at.result.1.now c.args.self.now c.loop-rest.self c.fill.new.self
    (g.D.Desk.state c.args.desk.now) (g.D.Desk.state c.loop-rest.desk) (g.D.Desk.state c.fill.new.desk)
    (g.D.Desk.sizes c.args.desk.now) (g.D.Desk.sizes c.loop-rest.desk) (g.D.Desk.sizes c.fill.new.desk)
    c.loop-rest.invariant cut c.in_ok-fill.ensures.takes c.in_ok-fill.ensures.started

pub returns-in_err-fill-clause-takes : goal.returns-in_err-fill-clause-takes
returns-in_err-fill-clause-takes g c =
    let p = err_from_is_err_and c.from_residual.result c.from_residual.ensures.1 in
    let cut : c.loop-rest.rest.now ≡ c.split_at.result.0.now ++ c.split_at.result.1.now =
    rw (c.split_at.ensures.front, c.split_at.ensures.back) (sym (take-append-drop _ c.loop-rest.rest.now)) in
    rw (p.1, p.2)
    (half-stops c.args.bytes.now c.loop-rest.rest.now c.split_at.result.0.now c.split_at.result.1.now c.args.self.now c.loop-rest.self c.fill.new.self
    (g.D.Desk.state c.args.desk.now) (g.D.Desk.state c.loop-rest.desk) (g.D.Desk.state c.fill.new.desk)
    (g.D.Desk.sizes c.args.desk.now) (g.D.Desk.sizes c.loop-rest.desk) (g.D.Desk.sizes c.fill.new.desk)
    c.loop-rest.invariant cut c.in_err-fill.field-0.0 c.in_err-fill.ensures.takes)

pub returns-clause-takes : goal.returns-clause-takes
returns-clause-takes g c =
    let held : c.hold.new.held.items ≡ c.loop-rest.self ++ c.loop-rest.rest.now =
    c.hold.ensures.items ∙ ap (λ (l : List ℕ). l ++ c.loop-rest.rest.now) c.self-2.view_is in
    subst (λ (l : List ℕ). Moves c.args.bytes.now c.args.self.now l (g.D.Desk.state c.args.desk.now) (g.D.Desk.state c.loop-rest.desk)
    (g.D.Desk.sizes c.args.desk.now) (g.D.Desk.sizes c.loop-rest.desk)) (sym held)
    (half-held c.args.bytes.now c.loop-rest.rest.now c.args.self.now c.loop-rest.self
    (g.D.Desk.state c.args.desk.now) (g.D.Desk.state c.loop-rest.desk) (g.D.Desk.sizes c.args.desk.now) (g.D.Desk.sizes c.loop-rest.desk)
    c.loop-rest.invariant)
