-- The three clauses, one after another.
use Rattle.std.proofs.Common.{◌≡◌, ◌∙◌, ◌∷◌, [], List, ap, refl, subst, sym}
use Rattle.lits.specs.Same.{opposite}
use Rattle.lits.specs.declared.literal.Lit.{Lit}
use Rattle.lits.specs.declared.step.Ref.TheVariants.{Axiom}
use Rattle.netlist.specs.Miter.{positive, negative, axioms_of}
use Rattle.lemma_book.specs.Cone.{named_from}
use Rattle.flat_cones.specs.Numbered.{Adds}
use Rattle.flat_cones.specs.Walk.{lit_by, node_by}
use Rattle.flat_cones.proofs.GateLemmas.{left-there, right-there, clause-two, clause-three, own-left, own-right, left-right, gate-axioms}
use Rattle.flat_cones.proofs.NumberLemmas.{adds-more}
use Rattle.flat_cones.proofs.clauses.Clauses.add_gate.Goals as goal

pub add_two-requires-clause-first : goal.add_two-requires-clause-first
add_two-requires-clause-first c = rw (c.not.ensures, c.dim-gate.ensures) c.requires.there

pub add_two-requires-clause-second : goal.add_two-requires-clause-second
add_two-requires-clause-second c =
    left-there c.args.net.now c.requires.net c.args.variable c.requires.there c.args.left c.args.right c.requires.gate c.requires.apart

pub add_two-requires-clause-clause : goal.add_two-requires-clause-clause
add_two-requires-clause-clause c =
    rw (c.not.ensures, c.dim-gate.ensures)
    (clause-two (negative (node_by c.args.net.now c.args.variable)) (lit_by c.args.net.now c.args.left)
    (own-left c.args.net.now c.requires.net c.args.variable c.requires.there c.args.left c.args.right c.requires.gate c.requires.apart))

pub add_two-requires-2-clause-first : goal.add_two-requires-2-clause-first
add_two-requires-2-clause-first c = rw (c.not-2.ensures, c.dim-gate.ensures) c.requires.there

pub add_two-requires-2-clause-second : goal.add_two-requires-2-clause-second
add_two-requires-2-clause-second c =
    right-there c.args.net.now c.requires.net c.args.variable c.requires.there c.args.left c.args.right c.requires.gate c.requires.apart

pub add_two-requires-2-clause-clause : goal.add_two-requires-2-clause-clause
add_two-requires-2-clause-clause c =
    rw (c.not-2.ensures, c.dim-gate.ensures)
    (clause-two (negative (node_by c.args.net.now c.args.variable)) (lit_by c.args.net.now c.args.right)
    (own-right c.args.net.now c.requires.net c.args.variable c.requires.there c.args.left c.args.right c.requires.gate c.requires.apart))

pub add_two-requires-2-clause-numbered : goal.add_two-requires-2-clause-numbered
add_two-requires-2-clause-numbered c = c.in_ok-add_two.ensures.numbered

pub add_three-requires-clause-first : goal.add_three-requires-clause-first
add_three-requires-clause-first c = rw c.dim-gate.ensures c.requires.there

pub add_three-requires-clause-second : goal.add_three-requires-clause-second
add_three-requires-clause-second c =
    rw c.not-3.ensures
    (left-there c.args.net.now c.requires.net c.args.variable c.requires.there c.args.left c.args.right c.requires.gate c.requires.apart)

pub add_three-requires-clause-third : goal.add_three-requires-clause-third
add_three-requires-clause-third c =
    rw c.not-4.ensures
    (right-there c.args.net.now c.requires.net c.args.variable c.requires.there c.args.left c.args.right c.requires.gate c.requires.apart)

pub add_three-requires-clause-clause : goal.add_three-requires-clause-clause
add_three-requires-clause-clause c =
    let net = c.args.net.now in
    rw (c.not-3.ensures, c.not-4.ensures, c.dim-gate.ensures)
    (clause-three (positive (node_by net c.args.variable)) (opposite (lit_by net c.args.left)) (opposite (lit_by net c.args.right))
    (own-left net c.requires.net c.args.variable c.requires.there c.args.left c.args.right c.requires.gate c.requires.apart)
    (own-right net c.requires.net c.args.variable c.requires.there c.args.left c.args.right c.requires.gate c.requires.apart)
    (left-right net c.requires.net c.args.variable c.requires.there c.args.left c.args.right c.requires.gate c.requires.apart))

pub add_three-requires-clause-numbered : goal.add_three-requires-clause-numbered
add_three-requires-clause-numbered c = c.in_ok-add_two-2.ensures.numbered

pub returns : goal.returns
returns c =
    let net = c.args.net.now in
    let whole : axioms_of net c.args.node
    ≡ (lit_by net c.not.result ∷ lit_by net c.args.left ∷ []) ∷ (lit_by net c.not-2.result ∷ lit_by net c.args.right ∷ [])
    ∷ (lit_by net c.dim-gate.result ∷ lit_by net c.not-3.result ∷ lit_by net c.not-4.result ∷ []) ∷ [] =
    rw (c.not.ensures, c.not-2.ensures, c.not-3.ensures, c.not-4.ensures, c.dim-gate.ensures)
    (ap (axioms_of net) c.requires.node
    ∙ gate-axioms net c.requires.net c.args.variable c.requires.there c.args.left c.args.right c.requires.gate c.requires.apart) in
    subst (λ (cs : List (List Lit)). Adds net c.args.self.now.base (named_from (Axiom c.args.node) 0 cs) c.add_three.new.spots c.add_three.new.self.base)
    (sym whole)
    (adds-more net c.args.self.now.base c.add_two-2.new.self.base c.add_three.new.self.base _ _ c.add_two-2.new.spots c.add_three.new.spots
    (adds-more net c.args.self.now.base c.add_two.new.self.base c.add_two-2.new.self.base _ _ c.add_two.new.spots c.add_two-2.new.spots
    c.in_ok-add_two.ensures c.in_ok-add_two-2.ensures) c.in_ok-add_three.ensures)
