use Rattle.std.proofs.Common.{refl, ◌≡◌, ◌∙◌, ◌&&◌, ℕ, List, ap, sym, subst, drop}
use Rattle.word_sim.specs.Rows.{HasBits, row_at, turned}
use Rattle.word_sim.proofs.RowLemmas.{part-kept, put-part, row-kept, row-there}
use Rattle.word_sim.proofs.rows.fill_gate.Goals as goal

pub returns-clause-put : goal.returns-clause-put
returns-clause-put c =
    let parts = c.split_at_mut-done in
    put-part c.args.words c.args.position c.args.words c.args.buf.now parts.result.0.now parts.result.1.now c.put_gate.new.words
    parts.ensures.value parts.ensures.front_len c.requires.room (c.put_gate.ensures.size ∙ sym c.requires.words) refl

pub returns-clause-rest : goal.returns-clause-rest
returns-clause-rest c =
    let parts = c.split_at_mut-done in
    part-kept c.args.words c.args.position c.args.words c.args.buf.now parts.result.0.now parts.result.1.now c.put_gate.new.words
    parts.ensures.value parts.ensures.front_len (c.put_gate.ensures.size ∙ sym c.requires.words) refl

pub returns-clause-row : goal.returns-clause-row
returns-clause-row c = λ f g first second.
    let parts = c.split_at_mut-done in
    let left : row_at c.args.words c.args.gate.left.position c.args.buf.now ≡ c.row-left.result.now =
    ap (λ (xs : List ℕ). row_at c.args.words c.args.gate.left.position xs) parts.ensures.value
    ∙ row-kept c.args.words c.args.position c.args.gate.left.position parts.result.0.now parts.result.1.now parts.ensures.front_len c.requires.left
    ∙ sym c.row-left.ensures in
    let right : row_at c.args.words c.args.gate.right.position c.args.buf.now ≡ c.row-right.result.now =
    ap (λ (xs : List ℕ). row_at c.args.words c.args.gate.right.position xs) parts.ensures.value
    ∙ row-kept c.args.words c.args.position c.args.gate.right.position parts.result.0.now parts.result.1.now parts.ensures.front_len c.requires.right
    ∙ sym c.row-right.ensures in
    subst (λ (row : List ℕ). HasBits c.args.count (λ (p : ℕ). turned c.args.gate.left.neg (f p) && turned c.args.gate.right.neg (g p)) row)
    (sym (row-there c.args.words c.args.position parts.result.0.now c.put_gate.new.words (drop c.args.words parts.result.1.now) parts.ensures.front_len (c.put_gate.ensures.size ∙ sym c.requires.words)))
    (c.put_gate.ensures.bits f g (subst (λ (row : List ℕ). HasBits c.args.count f row) left first) (subst (λ (row : List ℕ). HasBits c.args.count g row) right second))
