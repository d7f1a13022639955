use Rattle.std.proofs.Common.{◌≡◌, ◌++◌, take, map, decimal}
use Rattle.tokens.specs.Text.{spaced}
use Rattle.lrat_text.proofs.writing.push_ids.Given as goal

abbrev pub invariant-loop-id : goal.invariant-loop-id
invariant-loop-id l = l.buf.items ≡ l.fn.buf.items ++ spaced (map decimal (take l.id-index l.ids))
