use Rattle.std.proofs.Common.{List, ◌≡◌, ◌++◌, ◌∷◌, [], Ok, Err, sym, ap, ◌∙◌, subst}
use Rattle.std.specs.Prelude.{Result, OnOk, OnErr}
use Rattle.lits.specs.Clause.{has}
use Rattle.lits.specs.Same.{same_node}
use Rattle.lits.specs.declared.node.Node.{Node}
use Rattle.lits.specs.declared.literal.Lit.{Lit}
use Rattle.watch_lists.specs.Numbers.{AreVariables}
use Rattle.watch_lists.proofs.NumberLemmas.{has-variables, variables-push}
use Rattle.watch_lists.proofs.numbers.Numbers.push.Goals as goal

pub push-requires : goal.push-requires
push-requires c = has-variables c.self.inside.set c.args.node c.self.invariant ∙ (ap (λ (ns : List Node). has same_node ns c.args.node) c.self.view_is ∙ c.requires)

-- by what the push answered
pushed : {T E : Type 0} (r : Result T E) (old new : List Lit) (l : Lit) → AreVariables old → AreVariables (old ++ l ∷ []) → OnOk r (new ≡ old ++ l ∷ []) → OnErr r (new ≡ old) → AreVariables new
pushed (Ok x) old new l are more e f = subst (λ (z : List Lit). AreVariables z) (sym e) more
pushed (Err x) old new l are more e f = subst (λ (z : List Lit). AreVariables z) (sym f) are

pub invariant_of-self : goal.invariant_of-self
invariant_of-self c = pushed c.push.result c.self.inside.set c.push.new.self _ c.self.invariant (variables-push c.self.inside.set c.args.node c.self.invariant) c.push.ensures.ok c.push.ensures.err
