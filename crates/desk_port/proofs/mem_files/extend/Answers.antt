-- The map's entry is the old file with the bytes behind it, or the old file.
use Rattle.std.proofs.Common.{sym, rules}
use Rattle.std.proofs.lemmas.Result.{err_from_is_err_and}
use Rattle.desk_port.proofs.FilesLemmas.{files_of-extended, files_of-same}
use Rattle.desk_port.proofs.mem_files.extend.Goals as goal

pub returns-clause-ok : goal.returns-clause-ok
returns-clause-ok c =
    let w = c.extend_from_slice.new.self in
    files_of-extended c.args.files.now (c.get_mut.follows.lender w) c.args.name.now w c.unwrap.result.now c.args.bytes.now
    c.in_ok-extend_from_slice.ensures.items
    (sym (rw c.unwrap.ensures at c.get_mut.ensures.value), (c.get_mut.follows.holds w).3 (search rules))

pub returns-in_err-extend_from_slice-clause-no_memory :
    goal.returns-in_err-extend_from_slice-clause-no_memory
returns-in_err-extend_from_slice-clause-no_memory c =
    let w = c.extend_from_slice.new.self in
    let p = err_from_is_err_and c.from_residual.result c.from_residual.ensures.1 in
    rw p.1
    (files_of-same c.args.files.now (c.get_mut.follows.lender w) c.args.name.now w c.unwrap.result.now
    c.in_err-extend_from_slice.ensures.items
    (sym (rw c.unwrap.ensures at c.get_mut.ensures.value), (c.get_mut.follows.holds w).3 (search rules)))
