use Rattle.std.proofs.Common.{◌≡◌, ◌≤◌, List, ℕ, length, sym, ap, ◌∙◌, subst, arith}
use Rattle.std.specs.Prelude.{vec_len}
use Rattle.std.proofs.lemmas.Bool.{eqb-false}
use Rattle.desk_port.specs.Desk.{Writes, SizesAfterWrite}
use Rattle.desk_port.specs.Pieces.{piece}
use Rattle.desk_port.proofs.PieceLemmas.{ends-write}
use Rattle.desk_port.proofs.pieces.Pieces.finish.Goals as goal

pub returns-clause-ends : goal.returns-clause-ends
returns-clause-ends g c =
    let old = g.D.Desk.state c.args.desk.now in
    let new = g.D.Desk.state c.write.new.self in
    let sizes = g.D.Desk.sizes c.args.desk.now in
    let told = g.D.Desk.sizes c.write.new.self in
    let all : c.as_slice.result.now ≡ c.args.self = c.as_slice.ensures.value ∙ c.self.view_is in
    let len : length c.args.self ≡ vec_len c.self.inside.held =
    sym (ap (λ (l : List ℕ). length l) all) ∙ c.as_slice.ensures.len in
    let most : length c.args.self ≤ piece = omega (arith, len, c.self.invariant.0) in
    ends-write c.args.self old new sizes told c.write.result
    (λ none. eqb-false _ _ (sym c.is_empty.ensures ∙ c.if-is_empty.false) (sym len ∙ none)) most
    (subst (λ (l : List ℕ). Writes old new l c.write.result) all c.write.ensures.answer)
    (subst (λ (l : List ℕ). SizesAfterWrite sizes told l c.write.result) all c.write.ensures.sizes)
