use Rattle.std.proofs.Common.{◌≡◌, ◌<◌, ◌++◌, ◌∷◌, [], List, ℕ, arith, subst, ap, length, length-set, length-append}
use Rattle.netlist.specs.Circuit.{Aig}
use Rattle.netlist.specs.VariableTable.{AreVariables}
use Rattle.circuit_draft.proofs.LevelLemmas.{open-set}
use Rattle.circuit_draft.proofs.PathLemmas.{Walks, Walks-last, Walks-push, Walks-found, AreLevels-found, Keeps-found, Keeps-trans, too_long}
use Rattle.circuit_draft.proofs.draft.Draft.climb.Goals as goal

pub step-requires-clause-open : goal.step-requires-clause-open
step-requires-clause-open c =
    let l = c.loop-gate in
    let walk = subst (λ (ps : List ℕ). Walks c.args.self.now l.levels c.args.root ps) c.in-Some.ensures.items l.invariant.walk in
    Walks-last c.args.self.now l.levels c.args.root c.pop.new.self.items c.in-Some.gate walk

pub step-requires-clause-left : goal.step-requires-clause-left
step-requires-clause-left c =
    let l = c.loop-gate in
    let walk = subst (λ (ps : List ℕ). Walks c.args.self.now l.levels c.args.root ps) c.in-Some.ensures.items l.invariant.walk in
    let here = Walks-last c.args.self.now l.levels c.args.root c.pop.new.self.items c.in-Some.gate walk in
    c.requires.defined.left c.in-Some.gate here.within

pub step-requires-clause-right : goal.step-requires-clause-right
step-requires-clause-right c =
    let l = c.loop-gate in
    let walk = subst (λ (ps : List ℕ). Walks c.args.self.now l.levels c.args.root ps) c.in-Some.ensures.items l.invariant.walk in
    let here = Walks-last c.args.self.now l.levels c.args.root c.pop.new.self.items c.in-Some.gate walk in
    c.requires.defined.right c.in-Some.gate here.within

pub bounds-levels-gate : goal.bounds-levels-gate
bounds-levels-gate c =
    let l = c.loop-gate in
    let walk = subst (λ (ps : List ℕ). Walks c.args.self.now l.levels c.args.root ps) c.in-Some.ensures.items l.invariant.walk in
    let here = Walks-last c.args.self.now l.levels c.args.root c.pop.new.self.items c.in-Some.gate walk in
    omega (arith, here.within, l.invariant.levels.count)

pub loop-gate-smaller-in-At : goal.loop-gate-smaller-in-At
loop-gate-smaller-in-At c =
    let l = c.loop-gate in
    let walk = subst (λ (ps : List ℕ). Walks c.args.self.now l.levels c.args.root ps) c.in-Some.ensures.items l.invariant.walk in
    let here = Walks-last c.args.self.now l.levels c.args.root c.pop.new.self.items c.in-Some.gate walk in
    let room : c.in-Some.gate < length l.levels = omega (arith, here.within, l.invariant.levels.count) in
    omega (arith, open-set l.levels c.in-Some.gate c.in-At.level room here.unknown c.in-At.ensures.1, length-set l.levels c.in-Some.gate c.in-At.level, c.in-Some.ensures.len)

pub loop-gate-preserved-in-At : goal.loop-gate-preserved-in-At
loop-gate-preserved-in-At c =
    let l = c.loop-gate in
    let d = c.args.self.now in
    let vars : AreVariables d.inputs d.gates = subst (λ (a : Aig). AreVariables a.inputs a.gates) c.self.view_is c.self.invariant.draft.variables in
    let walk = subst (λ (ps : List ℕ). Walks d l.levels c.args.root ps) c.in-Some.ensures.items l.invariant.walk in
    let here = Walks-last d l.levels c.args.root c.pop.new.self.items c.in-Some.gate walk in
    let room : c.in-Some.gate < length l.levels = omega (arith, here.within, l.invariant.levels.count) in
    let popped : length l.path.items ≡ length (c.pop.new.self.items ++ c.in-Some.gate ∷ []) = ap length c.in-Some.ensures.items in
    record {
      levels = AreLevels-found d l.levels c.in-Some.gate c.in-At.level l.invariant.levels here c.in-At.ensures.0 c.in-At.ensures.1 c.in-At.ensures.2;
      keeps = Keeps-trans c.args.levels.now l.levels _ l.invariant.keeps (Keeps-found l.levels c.in-Some.gate c.in-At.level c.in-At.ensures.1 room);
      walk = Walks-found d l.levels c.args.root c.pop.new.self.items c.in-Some.gate c.in-At.level vars l.invariant.levels.count walk c.in-At.ensures.0 c.in-At.ensures.1;
      short = omega (arith, l.invariant.short, popped, length-append c.pop.new.self.items (c.in-Some.gate ∷ []), length-set l.levels c.in-Some.gate c.in-At.level);
    }

pub returns-then-len-count-clause-found : goal.returns-then-len-count-clause-found
returns-then-len-count-clause-found c =
    let l = c.loop-gate in
    let d = c.args.self.now in
    let vars : AreVariables d.inputs d.gates = subst (λ (a : Aig). AreVariables a.inputs a.gates) c.self.view_is c.self.invariant.draft.variables in
    let count : length c.self.inside.parts.gates ≡ length d.gates = ap (λ (a : Aig). length a.gates) c.self.view_is in
    let walk = subst (λ (ps : List ℕ). Walks d l.levels c.args.root ps) c.in-Some.ensures.items l.invariant.walk in
    let grown = Walks-push d l.levels c.args.root c.pop.new.self.items c.in-Some.gate c.in-First.fanin walk c.in-First.ensures.1 c.in-First.ensures.0 in
    let items = c.push-in-First-2.new.self.items in
    let long : length d.gates < length items = omega (arith, c.if-len-count.true, c.len.ensures, c.push-in-First-2.new.self.ok.0, ap length c.gates-count.ensures, count) in
    too_long d l.levels c.args.root items vars (rw (c.in_ok-push-in-First-2.ensures.items, c.in_ok-push-in-First.ensures.items) grown) (omega arith) long

pub loop-gate-preserved : goal.loop-gate-preserved
loop-gate-preserved c =
    let l = c.loop-gate in
    let d = c.args.self.now in
    let walk = subst (λ (ps : List ℕ). Walks d l.levels c.args.root ps) c.in-Some.ensures.items l.invariant.walk in
    let grown = Walks-push d l.levels c.args.root c.pop.new.self.items c.in-Some.gate c.in-First.fanin walk c.in-First.ensures.1 c.in-First.ensures.0 in
    let count : length c.self.inside.parts.gates ≡ length d.gates = ap (λ (a : Aig). length a.gates) c.self.view_is in
    record {
      levels = l.invariant.levels;
      keeps = l.invariant.keeps;
      walk = rw (c.in_ok-push-in-First-2.ensures.items, c.in_ok-push-in-First.ensures.items) grown;
      short = omega (arith, c.if-len-count.false, c.len.ensures, c.push-in-First-2.new.self.ok.0, ap length c.gates-count.ensures, count, l.invariant.levels.count);
    }
