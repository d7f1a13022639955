use Rattle.std.proofs.Common.{inl, inr}
use Rattle.cec_top.proofs.fraig.reduce_file.Goals as goal

pub returns-in-Ok : goal.returns-in-Ok
returns-in-Ok g c = inl c.in-Ok.ensures.ok

pub returns-in-Err : goal.returns-in-Err
returns-in-Err g c = inr (record {
  stop = c.in-Err.stop;
  mid = g.D.Desk.state c.read_and_reduce.new.desk;
  cause = c.in-Err.ensures.err;
  warns = c.end.ensures;
})
