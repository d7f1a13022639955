use Rattle.std.proofs.Common.{◌≡◌, List, ◌++◌, ◌∷◌, [], subst, sym, ◌∙◌, false}
use Rattle.lits.specs.Clause.{has}
use Rattle.lits.specs.Same.{same_node}
use Rattle.lits.specs.declared.node.Node.{Node}
use Rattle.std.specs.Prelude.{vec_capacity}
use Rattle.watch_lists.specs.Trail.{TrailState}
use Rattle.watch_lists.specs.Whole.{IsWhole, IsNumbered, state_of}
use Rattle.watch_lists.proofs.PutsLemmas.{whole-numbered, state-numbered}
use Rattle.watch_lists.proofs.trail.Trail.number_node.Goals as goal

pub invariant_of-self-in_err-push : goal.invariant_of-self-in_err-push
invariant_of-self-in_err-push c =
    subst (λ (ns : List Node). IsWhole ns c.make_room.new.engine c.make_room.new.puts.items (vec_capacity c.make_room.new.puts)) (sym c.in_err-push.ensures.err) c.make_room.ensures.whole

pub invariant_of-self-2 : goal.invariant_of-self-2
invariant_of-self-2 c =
    let fresh : has same_node c.self.inside.numbers c.args.node ≡ false = subst (λ (t : TrailState). has same_node t.nodes c.args.node ≡ false) (sym c.self.view_is) c.requires in
    subst (λ (ns : List Node). IsWhole ns c.make_room.new.engine c.make_room.new.puts.items (vec_capacity c.make_room.new.puts)) (sym c.in_ok-push.ensures.ok)
    (whole-numbered c.make_room.ensures.whole c.args.node fresh c.in_ok-make_room.ensures.room)

pub returns-clause-ok : goal.returns-clause-ok
returns-clause-ok c =
    subst (λ (ns : List Node). IsNumbered c.args.self.now c.args.node (state_of ns c.make_room.new.engine c.make_room.new.puts.items)) (sym c.in_ok-push.ensures.ok)
    (subst (λ (t : TrailState). IsNumbered t c.args.node (state_of (c.self.inside.numbers ++ c.args.node ∷ []) c.make_room.new.engine c.make_room.new.puts.items)) (c.make_room.ensures.same ∙ c.self.view_is)
    (state-numbered c.make_room.ensures.whole c.args.node))
