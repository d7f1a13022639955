use Rattle.std.proofs.lemmas.Result.{err_from_is_err_and}
use Rattle.tokens.specs.Numbers.{numbers_in}
use Rattle.tokens.proofs.Facts.{gives-same}
use Rattle.lrat_text.specs.Reading.{words_in, deletion_in, is_refusal}
use Rattle.lrat_text.specs.Parts.{deletion_of}
use Rattle.lrat_text.proofs.ReadLemmas.{deletion-misread, deletion-read, fault-same}
use Rattle.lrat_text.proofs.reading.deletion.Goals as goal

pub returns-in_err-parts : goal.returns-in_err-parts
returns-in_err-parts c =
    let p = err_from_is_err_and c.from_residual.result c.from_residual.ensures.1 in
    let words = words_in c.args.rest.now in
    rw (p.1, p.2)
    (fault-same c.args.at c.in_err-parts.field-0.0 (deletion_in c.args.at words)
    (deletion-misread c.args.at (numbers_in words)) c.in_err-parts.ensures.err)

pub returns : goal.returns
returns c =
    let parts = c.in_ok-parts.parts in
    let words = words_in c.args.rest.now in
    rw c.deletion_of.ensures
    (gives-same is_refusal (deletion_of c.args.at parts) (deletion_in c.args.at words)
    (deletion-read c.args.at (numbers_in words) parts c.in_ok-parts.ensures.ok))
