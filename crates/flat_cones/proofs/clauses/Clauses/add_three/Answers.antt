-- A clause whose nodes are numbered is put last.
use Rattle.std.proofs.Common.{◌≡◌, ◌∷◌, ◌++◌, [], ℕ, List, subst, sym}
use Rattle.flat_base.specs.Flat.{IsCoded, clause_at, named_of}
use Rattle.flat_cones.specs.Numbered.{Takes, AreCodes}
use Rattle.flat_cones.specs.Walk.{lit_by, node_by}
use Rattle.flat_cones.proofs.NumberLemmas.{coded, codes-next, takes-more, adds-clause}
use Rattle.flat_cones.proofs.clauses.Clauses.add_three.Goals as goal

pub code_two-requires-clause-places : goal.code_two-requires-clause-places
code_two-requires-clause-places c = c.requires.numbered.places

pub put_code-requires-clause-places : goal.put_code-requires-clause-places
put_code-requires-clause-places c = c.in_ok-code_two.ensures.takes.places

pub push-requires : goal.push-requires
push-requires c =
    let net = c.args.net.now in
    let nodes = c.put_code.new.self.base.nodes in
    subst (IsCoded nodes) (sym c.as_slice.ensures.value)
    (coded nodes (lit_by net c.args.first ∷ lit_by net c.args.second ∷ lit_by net c.args.third ∷ []) c.put_code.new.self.codes.items
    (codes-next c.code_two.new.self.base.nodes nodes c.in_ok-put_code.ensures.takes.more (lit_by net c.args.first ∷ lit_by net c.args.second ∷ [])
    (lit_by net c.args.third) c.code_two.new.self.codes.items c.put_code.new.self.codes.items c.in_ok-put_code.ensures.takes.grows
    c.in_ok-code_two.ensures.codes c.in_ok-put_code.ensures.code) c.requires.clause)

pub returns : goal.returns
returns c =
    let net = c.args.net.now in
    let nodes = c.put_code.new.self.base.nodes in
    adds-clause net c.args.self.now.base c.put_code.new.self.base c.push.new.self
    (lit_by net c.args.first ∷ lit_by net c.args.second ∷ lit_by net c.args.third ∷ []) c.put_code.new.self.codes.items c.args.by
    c.args.spots.now c.put_code.new.spots c.requires.numbered
    (takes-more net c.args.self.now.base c.code_two.new.self.base c.put_code.new.self.base
    (node_by net c.args.first.var ∷ node_by net c.args.second.var ∷ []) (node_by net c.args.third.var ∷ []) c.code_two.new.spots c.put_code.new.spots
    c.in_ok-code_two.ensures.takes c.in_ok-put_code.ensures.takes)
    (codes-next c.code_two.new.self.base.nodes nodes c.in_ok-put_code.ensures.takes.more (lit_by net c.args.first ∷ lit_by net c.args.second ∷ [])
    (lit_by net c.args.third) c.code_two.new.self.codes.items c.put_code.new.self.codes.items c.in_ok-put_code.ensures.takes.grows
    c.in_ok-code_two.ensures.codes c.in_ok-put_code.ensures.code)
    c.in_ok-push.ensures.nodes
    (subst (λ (codes : List ℕ). named_of c.push.new.self ≡ named_of c.put_code.new.self.base ++ record { clause = clause_at nodes codes; by = c.args.by } ∷ [])
    c.as_slice.ensures.value c.in_ok-push.ensures.named)
