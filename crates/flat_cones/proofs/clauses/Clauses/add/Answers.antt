-- A clause whose nodes are numbered is put last.
use Rattle.std.proofs.Common.{◌≡◌, ◌∷◌, ◌++◌, [], ℕ, List, subst, sym}
use Rattle.flat_base.specs.Flat.{IsCoded, clause_at, named_of}
use Rattle.flat_cones.proofs.NumberLemmas.{coded, adds-clause}
use Rattle.flat_cones.proofs.clauses.Clauses.add.Goals as goal

pub code-requires-clause-places : goal.code-requires-clause-places
code-requires-clause-places c = c.requires.numbered.places

pub push-requires : goal.push-requires
push-requires c =
    subst (IsCoded c.code.new.self.base.nodes) (sym c.as_slice.ensures.value)
    (coded c.code.new.self.base.nodes c.args.lits.now c.code.new.self.codes.items c.in_ok-code.ensures.codes c.requires.clause)

pub returns : goal.returns
returns c =
    adds-clause c.args.net.now c.args.self.now.base c.code.new.self.base c.push.new.self c.args.lits.now c.code.new.self.codes.items c.args.by
    c.args.spots.now c.code.new.spots c.requires.numbered c.in_ok-code.ensures.takes c.in_ok-code.ensures.codes c.in_ok-push.ensures.nodes
    (subst (λ (codes : List ℕ). named_of c.push.new.self ≡ named_of c.code.new.self.base ++ record { clause = clause_at c.code.new.self.base.nodes codes; by = c.args.by } ∷ [])
    c.as_slice.ensures.value c.in_ok-push.ensures.named)
