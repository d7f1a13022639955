use Rattle.std.proofs.Common.{◌≡◌, ◌∙◌, Bool, List, ap, length, subst, sym}
use native.Mathlib.Omega.{arith}
use Rattle.std.specs.List.{AllByRecursion}
use Rattle.word_sim.specs.Patterns.{Patterns}
use Rattle.word_sim.proofs.PoolLemmas.{all-as-long, patterns-count}
use Rattle.word_sim.proofs.pool.Pool.patterns.Goals as goal

pub overflow_add-result : goal.overflow_add-result
overflow_add-result c = omega (arith, c.from.ensures, c.from-2.ensures, c.self.invariant.3, c.self.invariant.4)

pub returns-clause-count : goal.returns-clause-count
returns-clause-count c =
    let i = c.self.inside in
    let count = patterns-count i.inputs i.drawn_words i.drawn.items i.added_count i.added.items in
    rw (c.from.ensures, c.from-2.ensures) (sym count ∙ ap (λ (p : Patterns). length p.patterns) c.self.view_is)

pub returns-clause-some : goal.returns-clause-some
returns-clause-some c = omega (arith, c.from.ensures, c.self.invariant.2)

pub returns-clause-whole : goal.returns-clause-whole
returns-clause-whole c =
    let i = c.self.inside in
    subst (λ (p : Patterns). AllByRecursion (λ (bits : List Bool). length bits ≡ p.inputs) p.patterns) c.self.view_is
    (all-as-long i.inputs i.drawn_words i.drawn.items i.added_count i.added.items)
