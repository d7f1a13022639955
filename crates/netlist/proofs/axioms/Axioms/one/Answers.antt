use Rattle.std.proofs.Common.{◌≡◌, ◌∙◌, ◌≤◌, ℕ, length, Some, List, refl, sym, ap}
use Rattle.std.specs.Prelude.{slice_get}
use Rattle.std.proofs.lemmas.Bool.{ltb-false}
use Rattle.std.proofs.lemmas.Option.{slice_get_read, slice_get_past}
use Rattle.lits.specs.declared.literal.Lit.{Lit}
use Rattle.netlist.proofs.axioms.Axioms.one.Goals as goal

pub returns-in-Some : goal.returns-in-Some
returns-in-Some c =
    let clauses = c.as_slice.result.now in
    let found : slice_get clauses c.from.result ≡ Some c.in-Some.clause.now =
    slice_get_read clauses _ c.from.result c.in-Some.clause.now refl c.in-Some.ensures.lookup.3.0 c.in-Some.ensures.lookup.1 in
    ap Some c.copy.ensures ∙ sym found
    ∙ ap (λ (k : ℕ). slice_get clauses k) c.from.ensures
    ∙ ap (λ (cs : List (List Lit)). slice_get cs c.args.k) c.as_slice.ensures.clauses

pub returns-in-None : goal.returns-in-None
returns-in-None c =
    let clauses = c.as_slice.result.now in
    let past : length clauses ≤ c.from.result = ltb-false c.from.result (length clauses) (sym c.in-None.ensures.lookup.0) in
    sym (slice_get_past clauses c.from.result past)
    ∙ ap (λ (k : ℕ). slice_get clauses k) c.from.ensures
    ∙ ap (λ (cs : List (List Lit)). slice_get cs c.args.k) c.as_slice.ensures.clauses
