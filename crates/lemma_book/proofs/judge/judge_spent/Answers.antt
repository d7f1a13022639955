-- The cone of the two is the one over which the log is judged.
use Rattle.std.proofs.Common.{[], ◌∷◌, None, take, sym, subst}
use Rattle.std.specs.Option.{IsSome}
use Rattle.lits.specs.declared.literal.Lit.{Lit}
use Rattle.netlist.specs.Miter.{variable_of}
use Rattle.unit_prop.specs.Log.{base_clause}
use Rattle.lemma_book.specs.Cone.{IsCone}
use Rattle.lemma_book.specs.Judging.{IsFirstBad, IsFirstPlace, IsFresh}
use Rattle.lemma_book.proofs.Judged.{pair-there, spent-bad, spent-stale, spent-good}
use Rattle.lemma_book.proofs.judge.judge_spent.Goals as goal

pub cone-requires-clause-there : goal.cone-requires-clause-there
cone-requires-clause-there c =
    let both = pair-there c.args.net.now c.args.book.now c.args.node c.args.lit c.args.seen c.args.log.now c.requires.free in
    (subst (λ (l : Lit). IsSome (variable_of c.args.net.now l.node)) (sym c.positive.ensures) both.0, (both.1, tt))

pub returns-in-Some : goal.returns-in-Some
returns-in-Some c =
    let is_cone = subst (IsCone c.args.net.now (take c.args.seen c.args.book.now.entries) (c.args.node ∷ c.args.lit.node ∷ [])) (sym c.as_slice-cone.ensures.value)
    (subst (λ (l : Lit). IsCone c.args.net.now (take c.args.seen c.args.book.now.entries) (l.node ∷ c.args.lit.node ∷ []) c.in_ok-cone.cone.items) c.positive.ensures c.in_ok-cone.ensures) in
    spent-bad c.args.net.now c.args.book.now c.args.node c.args.lit c.args.seen c.args.log.now c.requires.free c.as_slice-cone.result.now is_cone c.in-Some.k c.in-Some.bad
    (subst (IsFirstBad (base_clause c.as_slice-cone.result.now) c.args.log.now) c.in-Some.is c.in_ok-k.ensures)

pub returns-in-Some-2 : goal.returns-in-Some-2
returns-in-Some-2 c =
    let is_cone = subst (IsCone c.args.net.now (take c.args.seen c.args.book.now.entries) (c.args.node ∷ c.args.lit.node ∷ [])) (sym c.as_slice-cone.ensures.value)
    (subst (λ (l : Lit). IsCone c.args.net.now (take c.args.seen c.args.book.now.entries) (l.node ∷ c.args.lit.node ∷ []) c.in_ok-cone.cone.items) c.positive.ensures c.in_ok-cone.ensures) in
    spent-stale c.args.net.now c.args.book.now c.args.node c.args.lit c.args.seen c.args.log.now c.requires.free c.as_slice-cone.result.now is_cone c.in-Some-2.k
    (subst (IsFirstBad (base_clause c.as_slice-cone.result.now) c.args.log.now) c.in_default.is c.in_ok-k.ensures)
    (subst (IsFirstPlace (IsFresh c.as_slice-cone.result.now None c.args.log.now)) c.in-Some-2.is c.in_ok-k-2.ensures)

pub returns : goal.returns
returns c =
    let is_cone = subst (IsCone c.args.net.now (take c.args.seen c.args.book.now.entries) (c.args.node ∷ c.args.lit.node ∷ [])) (sym c.as_slice-cone.ensures.value)
    (subst (λ (l : Lit). IsCone c.args.net.now (take c.args.seen c.args.book.now.entries) (l.node ∷ c.args.lit.node ∷ []) c.in_ok-cone.cone.items) c.positive.ensures c.in_ok-cone.ensures) in
    spent-good c.args.net.now c.args.book.now c.args.node c.args.lit c.args.seen c.args.log.now c.requires.free c.as_slice-cone.result.now is_cone
    (subst (IsFirstBad (base_clause c.as_slice-cone.result.now) c.args.log.now) c.in_default.is c.in_ok-k.ensures)
    (subst (IsFirstPlace (IsFresh c.as_slice-cone.result.now None c.args.log.now)) c.in-None.is c.in_ok-k-2.ensures)
