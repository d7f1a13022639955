use Rattle.std.proofs.Common.{◌≡◌, ◌≤◌, ◌++◌, ◌∷◌, [], List, ℕ, Err, length, length-append, sym, ap, ◌∙◌, subst, arith}
use Rattle.desk_port.specs.Desk.{Writes, after_write, and_sizes}
use Rattle.desk_port.specs.Pieces.{piece}
use Rattle.desk_port.proofs.PieceLemmas.{moves-piece, stops-write}
use Rattle.desk_port.proofs.pieces.Pieces.fill.Goals as goal

pub returns-in-Ok-clause-takes : goal.returns-in-Ok-clause-takes
returns-in-Ok-clause-takes g c =
    let old = g.D.Desk.state c.args.desk.now in
    let sizes = g.D.Desk.sizes c.args.desk.now in
    let all : c.as_slice.result.now ≡ c.args.self.now ++ c.args.bytes.now =
    c.as_slice.ensures.value ∙ c.hold.ensures.items ∙ ap (λ (l : List ℕ). l ++ c.args.bytes.now) c.self.view_is in
    rw (c.in-Ok.is, c.clear.ensures.items)
    (moves-piece c.args.bytes.now c.args.self.now old (g.D.Desk.state c.write-answer.new.self)
    sizes (g.D.Desk.sizes c.write-answer.new.self)
    (length-append c.args.self.now c.args.bytes.now ∙ c.requires.whole)
    (c.in-Ok.ensures.answer ∙ ap (λ (l : List ℕ). after_write old l) all)
    (c.in-Ok.ensures.sizes ∙ ap (λ (l : List ℕ). and_sizes sizes (length l ∷ [])) all))

pub returns-in-Err-clause-takes : goal.returns-in-Err-clause-takes
returns-in-Err-clause-takes g c =
    let old = g.D.Desk.state c.args.desk.now in
    let new = g.D.Desk.state c.write-answer.new.self in
    let all : c.as_slice.result.now ≡ c.args.self.now ++ c.args.bytes.now =
    c.as_slice.ensures.value ∙ c.hold.ensures.items ∙ ap (λ (l : List ℕ). l ++ c.args.bytes.now) c.self.view_is in
    let most : length (c.args.self.now ++ c.args.bytes.now) ≤ piece =
    omega (arith, length-append c.args.self.now c.args.bytes.now, c.requires.whole) in
    rw c.in-Err.is
    (stops-write (c.args.self.now ++ c.args.bytes.now) c.in-Err.field-0 old new
    (g.D.Desk.sizes c.args.desk.now) (g.D.Desk.sizes c.write-answer.new.self) most
    (subst (λ (l : List ℕ). Writes old new l (Err c.in-Err.field-0)) all c.in-Err.ensures.answer) c.in-Err.ensures.sizes)
