use Rattle.std.proofs.Common.{subst, arith}
use Rattle.std.specs.Prelude.{vec_capacity}
use Rattle.watch_lists.specs.Trail.{TrailState, Propagates}
use Rattle.watch_lists.specs.Whole.{state_of}
use Rattle.watch_lists.proofs.TrailLemmas.{trail-most}
use Rattle.watch_lists.proofs.PutsLemmas.{stays-codes, whole-told, told-propagates, ends-none, ends-some, ends-clash}
use Rattle.watch_lists.proofs.trail.Trail.propagate.Goals as goal

pub tell-requires-clause-room : goal.tell-requires-clause-room
tell-requires-clause-room c =
    let p = c.propagate-found.ensures in
    let most = trail-most p.engine.trail in
    let room = c.self.invariant.room in
    let size = p.stays.size in
    omega arith

pub tell-requires-clause-codes : goal.tell-requires-clause-codes
tell-requires-clause-codes c = λ k d h. stays-codes c.self.invariant c.propagate-found.new.self c.propagate-found.ensures.engine c.propagate-found.ensures.stays d k h

pub invariant_of-self : goal.invariant_of-self
invariant_of-self c =
    whole-told c.self.invariant c.propagate-found.new.self c.propagate-found.ensures.engine c.propagate-found.ensures.stays c.tell.new.puts.items c.tell.ensures.told _ c.tell.ensures.capacity

pub invariant_of-self-2 : goal.invariant_of-self-2
invariant_of-self-2 c =
    whole-told c.self.invariant c.propagate-found.new.self c.propagate-found.ensures.engine c.propagate-found.ensures.stays c.tell.new.puts.items c.tell.ensures.told _ c.tell.ensures.capacity

pub returns-in_err-found-clause-rest : goal.returns-in_err-found-clause-rest
returns-in_err-found-clause-rest c =
    subst (λ (t : TrailState). Propagates t (state_of c.self.inside.numbers c.propagate-found.new.self c.tell.new.puts.items)) c.self.view_is
    (told-propagates c.self.invariant c.propagate-found.new.self c.propagate-found.ensures.engine c.propagate-found.ensures.stays c.tell.new.puts.items c.tell.ensures.told)

pub returns-clause-rest : goal.returns-clause-rest
returns-clause-rest c =
    subst (λ (t : TrailState). Propagates t (state_of c.self.inside.numbers c.propagate-found.new.self c.tell.new.puts.items)) c.self.view_is
    (told-propagates c.self.invariant c.propagate-found.new.self c.propagate-found.ensures.engine c.propagate-found.ensures.stays c.tell.new.puts.items c.tell.ensures.told)

pub returns-clause-none : goal.returns-clause-none
returns-clause-none c =
    let told = whole-told c.self.invariant c.propagate-found.new.self c.propagate-found.ensures.engine c.propagate-found.ensures.stays c.tell.new.puts.items c.tell.ensures.told (vec_capacity c.tell.new.puts) c.tell.ensures.capacity in
    rw c.wide.ensures (ends-none told c.in_ok-found.field-0 c.in_ok-found.ensures.none)

pub returns-clause-some : goal.returns-clause-some
returns-clause-some c =
    let told = whole-told c.self.invariant c.propagate-found.new.self c.propagate-found.ensures.engine c.propagate-found.ensures.stays c.tell.new.puts.items c.tell.ensures.told (vec_capacity c.tell.new.puts) c.tell.ensures.capacity in
    rw c.wide.ensures (ends-some told c.in_ok-found.field-0 c.in_ok-found.ensures.some)

pub returns-clause-clash : goal.returns-clause-clash
returns-clause-clash c =
    let told = whole-told c.self.invariant c.propagate-found.new.self c.propagate-found.ensures.engine c.propagate-found.ensures.stays c.tell.new.puts.items c.tell.ensures.told (vec_capacity c.tell.new.puts) c.tell.ensures.capacity in
    rw c.wide.ensures (ends-clash told c.in_ok-found.field-0 c.in_ok-found.ensures.clash)
