-- The code of a literal whose node has a number.
use Rattle.std.proofs.Common.{◌≡◌, ◌∙◌, ◌+◌, ◌*◌, ℕ, Bool, true, false, Some, ap, refl}
use Rattle.std.specs.Prelude.{if◌then◌else◌}
use mir.Val.{bool_byte}
use Rattle.flat_cones.specs.Walk.{lit_by, node_by}
use Rattle.flat_cones.proofs.NumberLemmas.{puts-code}
use Rattle.flat_cones.proofs.clauses.Clauses.put_code.Goals as goal

sign : (b : Bool) → bool_byte b ≡ (if b then 1 else 0)
sign true = refl
sign false = refl

pub returns-clause-code : goal.returns-clause-code
returns-clause-code c =
    puts-code c.args.self.now.codes.items c.number.new.self.codes.items c.push.new.self.items (lit_by c.args.net.now c.args.dim) c.number.new.self.base.nodes
    c.in_ok-number.number (2 * c.in_ok-number.number + c.from.result) (c.in_ok-number.ensures.number ∙ ap (λ (v : ℕ). Some (node_by c.args.net.now v)) c.var.ensures.var)
    (ap (λ (x : ℕ). 2 * c.in_ok-number.number + x) (c.from.ensures ∙ (ap bool_byte c.is_negated.ensures ∙ sign c.args.dim.neg))) (rw c.number.ensures.codes refl) c.in_ok-push.ensures.items
