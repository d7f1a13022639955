use Rattle.std.proofs.Common.{◌++◌, ℕ, List, Ok, Err, subst}
use Rattle.std.proofs.lemmas.Result.{err_from_is_err_and}
use Rattle.desk_port.specs.Pieces.{Moves, StopsInPieces}
use Rattle.desk_port.proofs.Facts.{in_pieces, stops-none}
use Rattle.proof_stitch.specs.Text.{proof_text}
use Rattle.proof_stitch.specs.Stitch.{refutation_of}
use Rattle.proof_stitch.proofs.DeskLemmas.{stops-told}
use Rattle.proof_stitch.proofs.write_refutation.refutation_counted.Goals as goal

pub returns-in_err-proof-clause-writes : goal.returns-in_err-proof-clause-writes
returns-in_err-proof-clause-writes g c =
    let p = err_from_is_err_and c.from_residual.result c.from_residual.ensures.1 in
    rw (p.1, p.2)
    (stops-none (proof_text c.args.net.now (refutation_of c.args.net.now c.args.book.now.entries)) (g.D.Desk.state c.args.desk.now)
    (g.D.Desk.sizes c.args.desk.now))

pub returns-in_err-push_refutation-clause-writes : goal.returns-in_err-push_refutation-clause-writes
returns-in_err-push_refutation-clause-writes g c =
    let p = err_from_is_err_and c.from_residual-in_err-push_refutation.result c.from_residual-in_err-push_refutation.ensures.1 in
    rw (p.1, p.2)
    (stops-told (proof_text c.args.net.now (refutation_of c.args.net.now c.args.book.now.entries)) c.in_err-push_refutation.field-0.0
    (g.D.Desk.state c.args.desk.now) (g.D.Desk.state c.push_refutation.new.desk) (g.D.Desk.sizes c.args.desk.now) (g.D.Desk.sizes c.push_refutation.new.desk)
    (subst (λ (h : List ℕ). StopsInPieces (h ++ proof_text c.args.net.now (refutation_of c.args.net.now c.args.book.now.entries)) c.in_err-push_refutation.field-0.0
    (g.D.Desk.state c.args.desk.now) (g.D.Desk.state c.push_refutation.new.desk) (g.D.Desk.sizes c.args.desk.now) (g.D.Desk.sizes c.push_refutation.new.desk))
    c.in_ok-proof.ensures.pieces c.in_err-push_refutation.ensures.takes))

pub returns-in_err-finish-clause-writes : goal.returns-in_err-finish-clause-writes
returns-in_err-finish-clause-writes g c =
    let p = err_from_is_err_and c.from_residual-in_err-finish.result c.from_residual-in_err-finish.ensures.1 in
    rw (p.1, p.2)
    (stops-told (proof_text c.args.net.now (refutation_of c.args.net.now c.args.book.now.entries)) c.in_err-finish.field-0.0
    (g.D.Desk.state c.args.desk.now) (g.D.Desk.state c.finish.new.desk) (g.D.Desk.sizes c.args.desk.now) (g.D.Desk.sizes c.finish.new.desk)
    (in_pieces (proof_text c.args.net.now (refutation_of c.args.net.now c.args.book.now.entries)) c.push_refutation.new.proof.pieces
    (g.D.Desk.state c.args.desk.now) (g.D.Desk.state c.push_refutation.new.desk) (g.D.Desk.state c.finish.new.desk)
    (g.D.Desk.sizes c.args.desk.now) (g.D.Desk.sizes c.push_refutation.new.desk) (g.D.Desk.sizes c.finish.new.desk) c.finish.ensures.less
    (subst (λ (h : List ℕ). Moves (proof_text c.args.net.now (refutation_of c.args.net.now c.args.book.now.entries)) h c.push_refutation.new.proof.pieces
    (g.D.Desk.state c.args.desk.now) (g.D.Desk.state c.push_refutation.new.desk) (g.D.Desk.sizes c.args.desk.now) (g.D.Desk.sizes c.push_refutation.new.desk))
    c.in_ok-proof.ensures.pieces c.in_ok-push_refutation.ensures.takes)
    {A = Unit {0}} (Err c.in_err-finish.field-0.0) c.in_err-finish.ensures.ends))

pub returns-clause-writes : goal.returns-clause-writes
returns-clause-writes g c =
    in_pieces (proof_text c.args.net.now (refutation_of c.args.net.now c.args.book.now.entries)) c.push_refutation.new.proof.pieces
    (g.D.Desk.state c.args.desk.now) (g.D.Desk.state c.push_refutation.new.desk) (g.D.Desk.state c.finish.new.desk)
    (g.D.Desk.sizes c.args.desk.now) (g.D.Desk.sizes c.push_refutation.new.desk) (g.D.Desk.sizes c.finish.new.desk) c.finish.ensures.less
    (subst (λ (h : List ℕ). Moves (proof_text c.args.net.now (refutation_of c.args.net.now c.args.book.now.entries)) h c.push_refutation.new.proof.pieces
    (g.D.Desk.state c.args.desk.now) (g.D.Desk.state c.push_refutation.new.desk) (g.D.Desk.sizes c.args.desk.now) (g.D.Desk.sizes c.push_refutation.new.desk))
    c.in_ok-proof.ensures.pieces c.in_ok-push_refutation.ensures.takes)
    {A = Unit {0}} (Ok tt) c.in_ok-finish.ensures.ends
