use Rattle.std.proofs.Common.{◌≡◌, Option, Some, ℕ, ◌∙◌, arith, sym, subst}
use Rattle.std.specs.Prelude.{IsSome}
use Rattle.netlist.specs.Net.{bound_of, position_of}
use Rattle.netlist.proofs.Facts.{bound-below}
use Rattle.lits.specs.declared.literal.Lit.{Lit}
use Rattle.check_session.proofs.PatternLemmas.{position-below, some-of}
use Rattle.check_session.proofs.AdmittedLemmas.{bound-placed, bound-row}
use Rattle.check_session.proofs.admitted.constraint_row.Goals as goal

pub unwrap-lit-requires : goal.unwrap-lit-requires
unwrap-lit-requires c =
    subst (λ (o : Option Lit). IsSome o) (sym c.constraint.ensures)
    (some-of (bound_of c.args.net.now c.args.side c.args.k) _ (bound-below c.args.net.now c.args.side c.args.k c.requires.constraint))

pub unwrap-position-requires : goal.unwrap-position-requires
unwrap-position-requires c =
    let found : bound_of c.args.net.now c.args.side c.args.k ≡ Some c.unwrap-lit.result = sym c.constraint.ensures ∙ cc c.unwrap-lit.ensures in
    subst (λ (o : Option ℕ). IsSome o) (sym c.position.ensures)
    (bound-placed c.args.net.now c.is_net.ensures c.args.side c.args.k c.unwrap-lit.result found)

pub row-requires : goal.row-requires
row-requires c =
    let place : position_of c.args.net.now c.unwrap-lit.result.node ≡ Some c.unwrap-position.result =
    sym c.position.ensures ∙ cc c.unwrap-position.ensures in
    omega (arith, c.requires.rows, position-below c.args.net.now c.unwrap-lit.result.node c.unwrap-position.result place)

pub returns-clause-row : goal.returns-clause-row
returns-clause-row c = λ patterns lit are again.
    let found : bound_of c.args.net.now c.args.side c.args.k ≡ Some c.unwrap-lit.result = sym c.constraint.ensures ∙ cc c.unwrap-lit.ensures in
    let place : position_of c.args.net.now c.unwrap-lit.result.node ≡ Some c.unwrap-position.result =
    sym c.position.ensures ∙ cc c.unwrap-position.ensures in
    bound-row c.args.net.now c.args.side c.args.k c.unwrap-lit.result lit c.unwrap-position.result c.args.sigs.now c.row.result.now
    found place c.requires.rows c.row.ensures.row patterns are again
