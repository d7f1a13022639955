use Rattle.std.proofs.Common.{◌<◌, length, List, sym, subst}
use Rattle.std.specs.Prelude.{filter}
use Rattle.lits.specs.declared.literal.Lit.{Lit}
use Rattle.solver_plain.specs.Literals.{is_free}
use Rattle.solver_plain.specs.Formula.{variables_of}
use Rattle.solver_plain.proofs.ScanLemmas.{scanning-next, scanning-less, scanning-clash, scanning-quiet}
use Rattle.solver_plain.proofs.scan.scan.Goals as goal

pub returns-in-Clashes : goal.returns-in-Clashes
returns-in-Clashes c =
    rw (c.of.ensures, c.in_ok-push.ensures.items)
    (scanning-clash c.args.formula.now c.args.set.now c.loop-hint.set c.loop-hint.hints.items c.in-Some.hint c.loop-hint.invariant
    c.in-Some.ensures.hint c.in-Clashes.is)

pub loop-hint-smaller : goal.loop-hint-smaller
loop-hint-smaller c =
    let f = c.args.formula.now in
    subst (λ (s : List Lit). length (filter (is_free s) (variables_of f.base)) < length (filter (is_free c.loop-hint.set) (variables_of f.base)))
    (sym c.in_ok-push-in-Forces.ensures.ok)
    (scanning-less f c.in-Some.ensures.over c.loop-hint.set c.in-Some.hint c.in-Forces.lit c.in-Some.ensures.hint c.in-Forces.is)

pub loop-hint-preserved : goal.loop-hint-preserved
loop-hint-preserved c =
    rw (c.in_ok-push-in-Forces.ensures.ok, c.in_ok-push.ensures.items)
    (scanning-next c.args.formula.now c.in-Some.ensures.over c.args.set.now c.loop-hint.set c.loop-hint.hints.items c.in-Some.hint
    c.in-Forces.lit c.loop-hint.invariant c.in-Some.ensures.hint c.in-Forces.is)

pub returns : goal.returns
returns c =
    scanning-quiet c.args.formula.now c.args.set.now c.loop-hint.set c.loop-hint.hints.items c.loop-hint.invariant c.in_default.ensures.quiet
