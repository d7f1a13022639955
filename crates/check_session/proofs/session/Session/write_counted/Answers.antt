use Rattle.std.proofs.Common.{rules, ◌≡◌, ap, ap₂}
use Rattle.std.specs.Global.{Vec}
use Rattle.std.proofs.lemmas.Result.{err_from_is_err_and}
use Rattle.netlist.specs.Net.{AigPair}
use Rattle.lemma_book.specs.Entry.{Entries}
use Rattle.proof_stitch.specs.declared.logs.Span.{Span}
use Rattle.check_session.specs.Files.{cnf_text_of, proof_bytes}
use Rattle.check_session.specs.Outputs.{finding_of}
use Rattle.check_session.proofs.FilesLemmas.{stops-cnf, stops-proof, leaves-both, sizes-both}
use Rattle.check_session.proofs.session.Session.write_counted.Goals as goal

pub returns-in_err-write_file-clause-files : goal.returns-in_err-write_file-clause-files
returns-in_err-write_file-clause-files g c =
    let p = err_from_is_err_and c.from_residual-in_err-write_file.result c.from_residual-in_err-write_file.ensures.1 in
    rw (p.1, p.2)
    (stops-cnf c.args.self.now (finding_of c.in-Some.verdict) (search rules) c.args.prefix.now c.args.check
    (g.D.Desk.state c.args.desk.now) (g.D.Desk.state c.write_file.new.desk) _ _ (search rules) (search rules) (Vec Span) c.in_err-write_file.field-0.0
    c.in_err-write_file.ensures.writes)

pub returns-in_err-told-clause-files : goal.returns-in_err-told-clause-files
returns-in_err-told-clause-files g c =
    let net : c.self.inside.net ≡ c.args.self.now.net = search rules in
    let book : c.self.inside.book ≡ c.args.self.now.book = search rules in
    let p = err_from_is_err_and c.from_residual-in_err-told.result c.from_residual-in_err-told.ensures.1 in
    rw (p.1, p.2)
    (stops-proof c.args.self.now (finding_of c.in-Some.verdict) (search rules) c.args.prefix.now c.args.check
    (g.D.Desk.state c.args.desk.now) (g.D.Desk.state c.write_file.new.desk) _ _ (search rules) (search rules) c.in_ok-write_file.ensures.writes
    (g.D.Desk.state c.write_file-2.new.desk) _ _ (search rules) (ap₂ (λ (n : AigPair) (b : Entries). proof_bytes n b.entries (finding_of c.in-Some.verdict)) net book) (Vec Span) c.in_err-told.field-0.0
    c.in_err-told.ensures.writes)

pub returns-clause-files : goal.returns-clause-files
returns-clause-files g c =
    let net : c.self.inside.net ≡ c.args.self.now.net = search rules in
    let book : c.self.inside.book ≡ c.args.self.now.book = search rules in
    leaves-both c.args.self.now (finding_of c.in-Some.verdict) (search rules) c.args.prefix.now c.args.check
    (g.D.Desk.state c.args.desk.now) (g.D.Desk.state c.write_file.new.desk) _ _ (search rules) (search rules) c.in_ok-write_file.ensures.writes
    (g.D.Desk.state c.write_file-2.new.desk) _ _ (search rules) (ap₂ (λ (n : AigPair) (b : Entries). proof_bytes n b.entries (finding_of c.in-Some.verdict)) net book) c.in_ok-told.told.spans
    c.in_ok-told.ensures.writes

pub returns-clause-sizes : goal.returns-clause-sizes
returns-clause-sizes g c =
    let net : c.self.inside.net ≡ c.args.self.now.net = search rules in
    let book : c.self.inside.book ≡ c.args.self.now.book = search rules in
    sizes-both c.args.self.now (finding_of c.in-Some.verdict) (search rules) c.args.prefix.now c.args.check _ _
    (ap cnf_text_of net) (ap₂ (λ (n : AigPair) (b : Entries). proof_bytes n b.entries (finding_of c.in-Some.verdict)) net book)
    (g.D.Desk.sizes c.args.desk.now) (g.D.Desk.sizes c.write_file.new.desk) (g.D.Desk.sizes c.write_file-2.new.desk)
    c.in_ok-write_file.ensures.sizes c.in_ok-told.ensures.sizes
