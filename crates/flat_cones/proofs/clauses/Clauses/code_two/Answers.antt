-- One code, and then the other.
use Rattle.std.proofs.Common.{◌∷◌, [], List, ℕ, subst}
use Rattle.flat_cones.specs.Numbered.{PutsCode}
use Rattle.flat_cones.specs.Walk.{lit_by, node_by}
use Rattle.flat_cones.proofs.NumberLemmas.{takes-more, codes-none, codes-next}
use Rattle.flat_cones.proofs.clauses.Clauses.code_two.Goals as goal

pub put_code-requires-2-clause-places : goal.put_code-requires-2-clause-places
put_code-requires-2-clause-places c = c.in_ok-put_code.ensures.takes.places

pub returns-clause-takes : goal.returns-clause-takes
returns-clause-takes c =
    takes-more c.args.net.now c.args.self.now.base c.put_code.new.self.base c.put_code-2.new.self.base (node_by c.args.net.now c.args.first.var ∷ [])
    (node_by c.args.net.now c.args.second.var ∷ []) c.put_code.new.spots c.put_code-2.new.spots
    c.in_ok-put_code.ensures.takes c.in_ok-put_code-2.ensures.takes

pub returns-clause-codes : goal.returns-clause-codes
returns-clause-codes c =
    let net = c.args.net.now in
    let first = lit_by net c.args.first in
    codes-next c.put_code.new.self.base.nodes c.put_code-2.new.self.base.nodes c.in_ok-put_code-2.ensures.takes.more (first ∷ [])
    (lit_by net c.args.second) c.put_code.new.self.codes.items c.put_code-2.new.self.codes.items c.in_ok-put_code-2.ensures.takes.grows
    (codes-next c.args.self.now.base.nodes c.put_code.new.self.base.nodes c.in_ok-put_code.ensures.takes.more [] first [] c.put_code.new.self.codes.items
    c.in_ok-put_code.ensures.takes.grows (codes-none c.args.self.now.base.nodes)
    (subst (λ (cs : List ℕ). PutsCode cs first c.put_code.new.self.base.nodes c.put_code.new.self.codes.items) c.clear.ensures.items
    c.in_ok-put_code.ensures.code))
    c.in_ok-put_code-2.ensures.code
