use Rattle.aiger_binary.proofs.gates.+groups.Given as goal

abbrev pub decreases-groups : goal.decreases-groups
decreases-groups l = l.left
