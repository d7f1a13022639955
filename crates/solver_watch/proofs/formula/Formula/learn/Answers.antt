use Rattle.std.proofs.Common.{List, sym, subst}
use Rattle.lits.specs.declared.literal.Lit.{Lit}
use Rattle.watch_lists.specs.Trail.{IsQuiet, up_to}
use Rattle.solver_watch.proofs.formula.Formula.learn.Goals as goal

pub add_codes-requires-clause-quiet : goal.add_codes-requires-clause-quiet
add_codes-requires-clause-quiet c = λ level h.
    subst (λ (l : List Lit). IsQuiet (up_to level c.args.self.now.trail.puts) l) (sym c.requires.same) (c.requires.quiet level h)
