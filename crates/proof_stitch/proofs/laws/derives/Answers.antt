use Rattle.std.proofs.Common.{◌<◌, ◌^◌, length, arith}
use Rattle.netlist.specs.Miter.{miter_of}
use Rattle.proof_stitch.proofs.BookLemmas.{legal-book}
use Rattle.proof_stitch.proofs.DerivationLemmas.{derivation-derives}
use Rattle.proof_stitch.proofs.SpanLemmas.{spans-are}
use Rattle.proof_stitch.proofs.laws.derives.Goals as goal

pub returns-clause-derives : goal.returns-clause-derives
returns-clause-derives c =
    let book = legal-book c.args.net.now c.clauses.ensures.net c.args.book.now.sweep_budget c.args.book.now.out_budget
    (omega (arith, c.sweep_budget.ensures.budget, c.sweep_budget.ensures.range))
    (omega (arith, c.out_budget.ensures.budget, c.out_budget.ensures.range)) c.args.book.now.entries c.requires in
    let few : length (miter_of c.args.net.now) < 2 ^ 32 = omega (arith, c.clauses.ensures.count) in
    derivation-derives c.args.net.now c.args.book.now.out_budget c.args.book.now.entries book c.written_text.ensures.all few

pub returns-clause-spans : goal.returns-clause-spans
returns-clause-spans c =
    let book = legal-book c.args.net.now c.clauses.ensures.net c.args.book.now.sweep_budget c.args.book.now.out_budget
    (omega (arith, c.sweep_budget.ensures.budget, c.sweep_budget.ensures.range))
    (omega (arith, c.out_budget.ensures.budget, c.out_budget.ensures.range)) c.args.book.now.entries c.requires in
    let few : length (miter_of c.args.net.now) < 2 ^ 32 = omega (arith, c.clauses.ensures.count) in
    let derived = derivation-derives c.args.net.now c.args.book.now.out_budget c.args.book.now.entries book c.written_text.ensures.all few in
    spans-are c.args.net.now c.args.book.now.out_budget c.args.book.now.entries book derived.ids
