-- A clause whose nodes are numbered is put last.
use Rattle.std.proofs.Common.{◌≡◌, ◌∷◌, ◌++◌, [], ℕ, List, subst, sym}
use Rattle.flat_base.specs.Flat.{IsCoded, clause_at, named_of}
use Rattle.flat_cones.specs.Walk.{lit_by}
use Rattle.flat_cones.proofs.NumberLemmas.{coded, adds-clause}
use Rattle.flat_cones.proofs.clauses.Clauses.add_two.Goals as goal

pub code_two-requires-clause-places : goal.code_two-requires-clause-places
code_two-requires-clause-places c = c.requires.numbered.places

pub push-requires : goal.push-requires
push-requires c =
    subst (IsCoded c.code_two.new.self.base.nodes) (sym c.as_slice.ensures.value)
    (coded c.code_two.new.self.base.nodes (lit_by c.args.net.now c.args.first ∷ lit_by c.args.net.now c.args.second ∷ []) c.code_two.new.self.codes.items
    c.in_ok-code_two.ensures.codes c.requires.clause)

pub returns : goal.returns
returns c =
    adds-clause c.args.net.now c.args.self.now.base c.code_two.new.self.base c.push.new.self
    (lit_by c.args.net.now c.args.first ∷ lit_by c.args.net.now c.args.second ∷ []) c.code_two.new.self.codes.items c.args.by
    c.args.spots.now c.code_two.new.spots c.requires.numbered c.in_ok-code_two.ensures.takes c.in_ok-code_two.ensures.codes c.in_ok-push.ensures.nodes
    (subst (λ (codes : List ℕ). named_of c.push.new.self ≡ named_of c.code_two.new.self.base ++ record { clause = clause_at c.code_two.new.self.base.nodes codes; by = c.args.by } ∷ [])
    c.as_slice.ensures.value c.in_ok-push.ensures.named)
