-- There are few gates, and one more was visited.
use Rattle.std.proofs.Common.{ℕ, ◌+◌, arith, sym, subst}
use Rattle.strash_pass.specs.Pass.{IsPass}
use Rattle.strash_pass.proofs.PassLemmas.{few-gates}
use Rattle.strash_pass.proofs.visit.Pass.visit.Goals as goal

pub overflow_add-self : goal.overflow_add-self
overflow_add-self c = omega (arith, few-gates c.args.net.now c.requires.net c.args.self.now.visited c.args.gate c.requires.gate, c.in_ok-settle.ensures.visited)

pub returns-clause-pass : goal.returns-clause-pass
returns-clause-pass c =
    subst (λ (n : ℕ). IsPass c.args.net.now c.settle.new.book.entries c.settle.new.self.twins (n + 1)) (sym c.in_ok-settle.ensures.visited) c.in_ok-settle.ensures.pass
