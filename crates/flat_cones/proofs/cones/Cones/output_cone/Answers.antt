-- The cone over what the XOR and the constraints reach, and behind it the units of both sides.
use Rattle.std.proofs.Common.{◌∙◌, ◌∷◌, ◌++◌, [], List, ap, sym, subst, append_assoc}
use Rattle.std.proofs.lemmas.List.{map-append}
use Rattle.lits.specs.declared.literal.Lit.{Lit}
use Rattle.lits.specs.declared.node.Node.{Node}
use Rattle.lits.specs.declared.node.Node.TheVariants.{Xor}
use Rattle.lits.specs.declared.node.Side.TheVariants.{A, B}
use Rattle.lits.specs.declared.step.Named.{Named}
use Rattle.netlist.specs.Net.{bounds_on}
use Rattle.flat_base.specs.Flat.{named_of}
use Rattle.lemma_book.specs.Cone.{nodes_in, named_bounds}
use Rattle.lemma_book.specs.Entry.{OfOutput, seeds_of}
use Rattle.lemma_book.proofs.Facts.{xor-variable}
use Rattle.flat_cones.specs.Walk.{Finds}
use Rattle.flat_cones.proofs.WalkLemmas.{fresh-walk, begins-at, finds-more}
use Rattle.flat_cones.proofs.cones.Cones.output_cone.Goals as goal

pub find-requires-clause-walk : goal.find-requires-clause-walk
find-requires-clause-walk c = fresh-walk c.args.net.now c.begin.new.self c.begin.ensures

pub find-requires-clause-there : goal.find-requires-clause-there
find-requires-clause-there c = xor-variable c.args.net.now c.is_net.ensures c.args.output c.requires.there

pub find_bounds-requires-clause-walk : goal.find_bounds-requires-clause-walk
find_bounds-requires-clause-walk c = c.in_ok-find.ensures.walk

pub find_bounds-requires-2-clause-walk : goal.find_bounds-requires-2-clause-walk
find_bounds-requires-2-clause-walk c = c.in_ok-find_bounds.ensures.walk

pub gather-requires-clause-walk : goal.gather-requires-clause-walk
gather-requires-clause-walk c = c.in_ok-find_bounds-2.ensures.walk

pub add_units-requires-clause-numbered : goal.add_units-requires-clause-numbered
add_units-requires-clause-numbered c = c.in_ok-gather.ensures.numbered

pub add_units-requires-2-clause-numbered : goal.add_units-requires-2-clause-numbered
add_units-requires-2-clause-numbered c = c.in_ok-add_units.ensures.numbered

pub returns-clause-cone : goal.returns-clause-cone
returns-clause-cone c =
    let net = c.args.net.now in
    let j = c.args.output in
    let whole = subst (λ (ns : List Node). Finds net c.begin.new.self (Xor j ∷ ns) c.find_bounds-2.new.self)
    (sym (map-append (λ (l : Lit). l.node) (bounds_on net A) (bounds_on net B)))
    (finds-more net c.begin.new.self c.find_bounds.new.self c.find_bounds-2.new.self (Xor j ∷ nodes_in (bounds_on net A)) (nodes_in (bounds_on net B))
    (finds-more net c.begin.new.self c.find.new.self c.find_bounds.new.self (Xor j ∷ []) (nodes_in (bounds_on net A)) c.in_ok-find.ensures c.in_ok-find_bounds.ensures)
    c.in_ok-find_bounds-2.ensures) in
    record {
      nodes = named_of c.gather.new.clauses.base;
      is_cone = c.in_ok-gather.ensures.cone (seeds_of net (OfOutput j))
          (begins-at net c.begin.new.self c.find_bounds-2.new.self (seeds_of net (OfOutput j)) c.begin.ensures whole);
      clauses = c.in_ok-add_units-2.ensures.named
          ∙ ap (λ (l : List Named). l ++ named_bounds net B) c.in_ok-add_units.ensures.named
          ∙ append_assoc (named_of c.gather.new.clauses.base) (named_bounds net A) (named_bounds net B);
    }

pub returns-clause-numbered : goal.returns-clause-numbered
returns-clause-numbered c = c.in_ok-add_units-2.ensures.numbered
