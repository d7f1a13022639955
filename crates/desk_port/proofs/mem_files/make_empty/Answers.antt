-- The map's new entry is the empty file.
use Rattle.desk_port.proofs.FilesLemmas.{files_of-put}
use Rattle.desk_port.proofs.mem_files.make_empty.Goals as goal

pub returns-clause-ok : goal.returns-clause-ok
returns-clause-ok c =
    files_of-put c.args.files.now c.insert.new.self c.in_ok-key.key c.new.result
    c.in_ok-key.ensures.ok c.new.ensures.items c.in_ok-insert.ensures.updates
