use Rattle.std.proofs.Common.{arith}
use Rattle.std.proofs.lemmas.Result.{err_from_is_err_and}
use Rattle.book_file.proofs.LineLemmas.{read-line, read-fault}
use Rattle.book_file.proofs.reading.read.Goals as goal

pub returns-in_err-read_line : goal.returns-in_err-read_line
returns-in_err-read_line c =
    let l = c.loop-line in
    let p = err_from_is_err_and c.from_residual-in_err-read_line.result c.from_residual-in_err-read_line.ensures.1 in
    rw (p.1, p.2)
    (read-fault c.args.bytes.now l.draft l.at c.in-Some.line.now l.rest.now c.in-Some.behind.now c.in-Some.ensures.parts l.invariant.read
    c.in_err-read_line.field-0.0 c.in_err-read_line.ensures.err)

pub loop-line-preserved : goal.loop-line-preserved
loop-line-preserved c =
    let l = c.loop-line in
    let less = c.in-Some.ensures.shorter in
    record {
      count = omega (arith, l.invariant.count, less);
      read = read-line c.args.bytes.now l.draft l.at c.in-Some.line.now l.rest.now c.in-Some.behind.now c.in-Some.ensures.parts l.invariant.read
          c.read_line.new.self c.in_ok-read_line.ensures.ok;
    }
