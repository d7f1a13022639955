use Rattle.std.proofs.Common.{ℕ, List, sym, subst}
use Rattle.netlist.specs.Starts.{AreFirst}
use Rattle.netlist.proofs.StartLemmas.{first_none}
use Rattle.netlist.proofs.starts.fill_starts.Goals as goal

pub fill_behind-requires-clause-first : goal.fill_behind-requires-clause-first
fill_behind-requires-clause-first c =
    subst (λ (ns : List ℕ). AreFirst c.args.pair.now ns 0 1) (sym c.clear.ensures.items) (first_none c.args.pair.now)
