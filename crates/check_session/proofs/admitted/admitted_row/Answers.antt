use Rattle.std.proofs.Common.{◌≡◌, ◌∙◌, ℕ, List, length, arith, sym, subst}
use Rattle.std.proofs.lemmas.List.{with_items_is}
use Rattle.check_session.specs.Pool.{HasBitsFor, admits}
use Rattle.check_session.proofs.AdmittedLemmas.{admitted-all}
use Rattle.check_session.proofs.admitted.admitted_row.Goals as goal

pub returns-clause-bits : goal.returns-clause-bits
returns-clause-bits c = λ patterns are whole-patterns.
    let net = c.args.net.now in
    let whole : length c.keep_admitted.new.row ≡ c.in_ok-row.row.len = omega (arith, c.keep_admitted.ensures.size, c.as_mut_slice.ensures.len) in
    subst (λ (row : List ℕ). HasBitsFor patterns (admits net) row) (sym (with_items_is c.in_ok-row.row c.keep_admitted.new.row whole))
    (admitted-all net c.is_net.ensures patterns c.as_mut_slice.result.now c.keep_admitted.new.row _
    (c.as_mut_slice.ensures.value ∙ c.in_ok-row.ensures.items_if_clones_equal (λ y same. same))
    (omega (arith, c.patterns.ensures, c.div_ceil.ensures, are.size)) whole-patterns (λ p below. c.keep_admitted.ensures.bits patterns p are below))
