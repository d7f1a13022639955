use Rattle.std.proofs.Common.{◌≡◌, sym, ap, ◌∙◌, map}
use Rattle.flat_base.specs.Codes.{lit_at}
use Rattle.watch_lists.proofs.NumbersLemmas.{quiet-kept}
use Rattle.watch_lists.proofs.trail.Trail.add.Goals as goal

pub add_codes-requires-clause-quiet : goal.add_codes-requires-clause-quiet
add_codes-requires-clause-quiet c =
    let same : map (lit_at c.codes_of.new.self.nodes) c.as_slice.result.now ≡ c.args.clause.now =
    ap (map (lit_at c.codes_of.new.self.nodes)) c.as_slice.ensures.value ∙ (c.in_ok-codes.ensures.codes.0 ∙ c.lits.ensures.lits) in
    quiet-kept c.args.self.now c.codes_of.new.self c.lits.result.now c.args.clause.now _ c.codes_of.ensures.keeps (sym same) c.requires
