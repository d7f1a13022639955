use Rattle.std.proofs.Common.{◌+◌, ◌*◌, Option, take, sym, subst}
use Rattle.word_sim.specs.Patterns.{Patterns}
use Rattle.check_session.specs.declared.patterns.Difference.{Difference}
use Rattle.check_session.specs.Blocks.{IsFirstIn}
use Rattle.check_session.proofs.BlockLemmas.{first-lesser, none-before, part-fits}
use Rattle.check_session.proofs.patterns.difference_behind.Goals as goal

pub difference_of-requires : goal.difference_of-requires
difference_of-requires c = part-fits c.args.net.now c.args.pool.now c.in_ok-part.part (256 * c.loop-block.block) 4 c.requires.fits c.in_ok-part.ensures

pub loop-block-preserved : goal.loop-block-preserved
loop-block-preserved c =
    let net = c.args.net.now in
    let patterns = c.args.pool.now.patterns in
    let b = c.loop-block.block in
    let other = c.in_ok-other.other in
    subst (λ (d : Option Difference). IsFirstIn net (take (256 * (b + 1)) patterns) d) (sym c.lesser-first.ensures)
    (first-lesser patterns b net c.loop-block.first other c.loop-block.invariant
    (subst (λ (p : Patterns). IsFirstIn net p.patterns other) c.in_ok-part.ensures c.in_ok-other.ensures))

pub loop-block-init : goal.loop-block-init
loop-block-init c = none-before c.args.net.now c.args.pool.now.patterns c.args.seen c.requires.none
