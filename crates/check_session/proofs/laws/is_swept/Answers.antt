use Rattle.check_session.proofs.laws.is_swept.Goals as goal

pub returns : goal.returns
returns c = λ entries patterns whole reduced.
    c.reduced_is_swept.ensures c.args.net.now entries patterns c.is_net.ensures whole reduced
