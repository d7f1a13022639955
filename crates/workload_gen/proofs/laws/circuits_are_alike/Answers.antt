use Rattle.workload_gen.proofs.AlikeLemmas.{inputs-alike, outputs-alike}
use Rattle.workload_gen.proofs.laws.circuits_are_alike.Goals as goal

pub returns : goal.returns
returns c = record { inputs = inputs-alike; outputs = outputs-alike }
