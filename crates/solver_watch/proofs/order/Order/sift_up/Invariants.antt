use Rattle.solver_watch.proofs.order.Order.sift_up.Given as goal

abbrev pub decreases-loop-at : goal.decreases-loop-at
decreases-loop-at l = l.at
