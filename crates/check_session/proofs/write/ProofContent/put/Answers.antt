use Rattle.std.proofs.Common.{◌≡◌, List, ℕ, [], Ok, ap, sym, subst}
use Rattle.desk_port.specs.Pieces.{WritesInPieces}
use Rattle.desk_port.proofs.Facts.{nothing-out}
use Rattle.check_session.specs.declared.verdict.Verdict.{Verdict}
use Rattle.check_session.specs.Files.{proof_bytes}
use Rattle.check_session.specs.Outputs.{finding_of}
use Rattle.check_session.proofs.write.ProofContent.put.Goals as goal

pub returns-in-Different-clause-puts : goal.returns-in-Different-clause-puts
returns-in-Different-clause-puts g c =
    let proof = c.args.self.now in
    let none : proof_bytes proof.net.now proof.book.now.entries (finding_of proof.verdict.now) ≡ [] =
    ap (λ (v : Verdict). proof_bytes proof.net.now proof.book.now.entries (finding_of v)) c.in-Different.is in
    subst (λ (l : List ℕ). WritesInPieces {A = Unit {0}} l (g.D.Desk.state c.args.desk.now) (g.D.Desk.state c.args.desk.now)
    (g.D.Desk.sizes c.args.desk.now) (g.D.Desk.sizes c.args.desk.now) (Ok (tt {0}))) (sym none)
    (nothing-out (tt {0}) (g.D.Desk.state c.args.desk.now) (g.D.Desk.sizes c.args.desk.now))
