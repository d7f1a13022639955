use Rattle.std.proofs.Common.{Option, subst}
use Rattle.check_session.specs.declared.patterns.Difference.{Difference}
use Rattle.check_session.specs.Blocks.{IsFirstIn}
use Rattle.check_session.proofs.BlockLemmas.{part-fits}
use Rattle.check_session.proofs.PoolLemmas.{few-fit, joins-first, joins-telling}
use Rattle.check_session.proofs.patterns.join_telling.Goals as goal

pub difference_in-requires : goal.difference_in-requires
difference_in-requires c =
    let net = c.args.net.now in
    let pool = c.args.pool.now in
    few-fit net c.args.input.now pool c.in_ok-few.few c.add.new.self pool c.requires.whole c.in_ok-few.ensures c.in_ok-add.ensures.ok
    (part-fits net pool c.in_ok-few.few 0 1 c.requires.fits c.in_ok-few.ensures)

pub returns-in-Some-clause-joins : goal.returns-in-Some-clause-joins
returns-in-Some-clause-joins c =
    let net = c.args.net.now in
    let pool = c.args.pool.now in
    let few = c.add.new.self in
    joins-telling net c.args.input.now pool c.in_ok-few.few few c.add-in-Some.new.self c.requires.whole c.in_ok-few.ensures
    c.in_ok-add.ensures.ok c.requires.none c.in_ok-add-in-Some.ensures.ok c.in-Some.difference
    (subst (λ (d : Option Difference). IsFirstIn net few.patterns d) c.in-Some.is c.in_ok-difference.ensures)

pub returns-in-Some-clause-first : goal.returns-in-Some-clause-first
returns-in-Some-clause-first c =
    let net = c.args.net.now in
    let pool = c.args.pool.now in
    let few = c.add.new.self in
    joins-first net c.args.input.now pool c.in_ok-few.few few c.add-in-Some.new.self c.requires.whole c.in_ok-few.ensures
    c.in_ok-add.ensures.ok c.requires.none c.in_ok-add-in-Some.ensures.ok c.in-Some.difference
    (subst (λ (d : Option Difference). IsFirstIn net few.patterns d) c.in-Some.is c.in_ok-difference.ensures)
