use Rattle.std.proofs.Common.{◌≡◌, ◌+◌, subst, sym, ap, ◌∙◌, length, map, arith, refl}
use Rattle.std.proofs.lemmas.List.{length_push}
use Rattle.lits.specs.Same.{same_lit, opposite}
use Rattle.unit_prop.specs.Propagation.{IsFree}
use Rattle.flat_base.specs.Codes.{lit_at, IsCode}
use Rattle.watch_lists.specs.Trail.{TrailState, Decides, IsComplete, lits_of}
use Rattle.watch_lists.specs.Whole.{state_of}
use Rattle.watch_lists.proofs.ListsLemmas.{on_err}
use Rattle.watch_lists.proofs.NumbersLemmas.{numbers-refl}
use Rattle.watch_lists.proofs.TrailLemmas.{trail-most}
use Rattle.watch_lists.proofs.WholeLemmas.{same-length}
use Rattle.watch_lists.proofs.PutsLemmas.{complete-asks, whole-decided, whole-room, whole-same}
use Rattle.watch_lists.proofs.ReadLemmas.{free-codes}
use Rattle.watch_lists.proofs.trail.Trail.decide_code.Goals as goal

pub decide-requires-clause-settled : goal.decide-requires-clause-settled
decide-requires-clause-settled c = complete-asks c.self.invariant (subst (λ (t : TrailState). IsComplete t.clauses t.puts) (sym c.self.view_is) c.requires.complete)

pub decide-requires-clause-free : goal.decide-requires-clause-free
decide-requires-clause-free c =
    free-codes c.self.invariant c.args.code (subst (λ (t : TrailState). IsCode t.nodes c.args.code) (sym c.self.view_is) c.requires.code)
    (subst (λ (t : TrailState). IsFree same_lit opposite (lits_of t.puts) (lit_at t.nodes c.args.code)) (sym c.self.view_is) c.requires.free)

pub push_reserved-requires : goal.push_reserved-requires
push_reserved-requires c =
    let d = c.in_ok-decide.ensures.ok in
    let most = trail-most c.decide.ensures.engine.trail in
    let room = c.self.invariant.room in
    omega (arith, ap length d.trail, length_push c.self.inside.engine.trail.items c.args.code, d.size, same-length c.self.invariant, c.self.inside.puts.ok.0)

pub invariant_of-self-2 : goal.invariant_of-self-2
invariant_of-self-2 c =
    let d = c.in_ok-decide.ensures.ok in
    let is = subst (λ (t : TrailState). IsCode t.nodes c.args.code) (sym c.self.view_is) c.requires.code in
    let level : c.len-level.result ≡ length c.self.inside.engine.levels.items + 1 = c.len-level.ensures ∙ (c.decide.new.self.levels.ok.0 ∙ (ap length d.levels ∙ length_push c.self.inside.engine.levels.items _)) in
    whole-room (whole-decided c.self.invariant c.decide.new.self c.args.code c.decide.ensures.engine d is) c.push_reserved.new.self.items _
    (rw (c.push_reserved.ensures.items, c.lit_of-lit.ensures, level) refl) (omega (arith, c.push_reserved.ensures.capacity))

pub lit_of-lit-requires : goal.lit_of-lit-requires
lit_of-lit-requires c = subst (λ (t : TrailState). IsCode t.nodes c.args.code) (sym c.self.view_is) c.requires.code

pub invariant_of-self : goal.invariant_of-self
invariant_of-self c = whole-same c.self.invariant c.decide.new.self _ c.in_err-decide.ensures.err (omega arith)

pub returns-in_err-decide-clause-err : goal.returns-in_err-decide-clause-err
returns-in_err-decide-clause-err c =
    let same = c.in_err-decide.ensures.err in
    let kept : state_of c.self.inside.numbers c.decide.new.self c.self.inside.puts.items ≡ c.args.self.now = rw (same.clauses, same.levels) c.self.view_is in
    on_err _ kept

pub returns-clause-nodes : goal.returns-clause-nodes
returns-clause-nodes c = ap (λ (t : TrailState). t.nodes) c.self.view_is

pub returns-clause-ok : goal.returns-clause-ok
returns-clause-ok c =
    let e = c.self.inside.engine in
    let d = c.in_ok-decide.ensures.ok in
    let last : length c.decide.new.self.levels.items ≡ length e.levels.items + 1 = ap length d.levels ∙ length_push e.levels.items _ in
    let level : c.len-level.result ≡ length e.levels.items + 1 = c.len-level.ensures ∙ (c.decide.new.self.levels.ok.0 ∙ last) in
    subst (λ (t : TrailState). Decides t (lit_at t.nodes c.args.code) (state_of c.self.inside.numbers c.decide.new.self c.push_reserved.new.self.items)) c.self.view_is
    (record {
      numbers = numbers-refl c.self.inside.numbers _;
      clauses = ap (map (map (lit_at c.self.inside.numbers))) d.clauses;
      puts = rw (c.push_reserved.ensures.items, c.lit_of-lit.ensures, level) refl;
      last = last;
    })
