use Rattle.check_session.proofs.ReductionLemmas.{reduction}
use Rattle.check_session.proofs.reduction.reduce.Goals as goal

pub returns : goal.returns
returns g c =
    reduction c.args.a c.in_ok-circuit.circuit c.args.options c.in_ok-alone.alone c.in_ok-net.net c.in_ok-book.book
    c.in_ok-mirrored.mirrored c.of_equal-session.result c.in_ok-alone.ensures c.in_ok-net.ensures c.in_ok-book.ensures
    c.in_ok-circuit.ensures c.reduced_has_values.ensures.values c.reduced_is_in_sequence.ensures c.in_ok-mirrored.ensures.mirror
    c.in_ok-mirrored.ensures.settled c.of_equal-session.ensures
