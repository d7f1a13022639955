use Rattle.std.proofs.Common.{◌≡◌, ◌<◌, ◌≤◌, ◌++◌, ◌∷◌, [], List, ℕ, length, get_or, ap, sym, ◌∙◌, subst, arith}
use Rattle.std.proofs.lemmas.Result.{err_from_is_err_and}
use Rattle.std.proofs.lemmas.Option.{slice_get-get_or}
use Rattle.std.specs.Prelude.{true, false}
use Rattle.lits.specs.Clause.{has}
use Rattle.lits.specs.Same.{same_node}
use Rattle.lits.specs.declared.literal.Lit.{Lit}
use Rattle.lits.specs.declared.node.Node.TheVariants.{Const}
use Rattle.lits.proofs.Facts.{all-slice_get}
use Rattle.netlist.specs.Miter.{variables_of}
use Rattle.check_session.specs.MiterText.{word_of}
use Rattle.check_session.proofs.MiterTextLemmas.{lit-is}
use Rattle.desk_port.specs.Pieces.{Moves, StopsInPieces}
use Rattle.desk_port.proofs.Facts.{taken-none, taken-more, taken-all, taken-stops}
use Rattle.check_session.proofs.miter_text.put_words.Goals as goal

pub loop-lit-init : goal.loop-lit-init
loop-lit-init g c = taken-none c.args.text.now (g.D.Desk.state c.args.desk.now) (g.D.Desk.sizes c.args.desk.now)

pub put_word-requires-clause-there : goal.put_word-requires-clause-there
put_word-requires-clause-there g c =
    all-slice_get (λ (l : Lit). has same_node (variables_of c.args.net.now) l.node ≡ true) c.args.lits.now c.loop-lit.lit-index
    (get_or c.args.lits.now c.loop-lit.lit-index (record { node = Const; neg = false }))
    c.requires.there (slice_get-get_or c.args.lits.now c.loop-lit.lit-index (record { node = Const; neg = false }) c.loop-lit-test.true)

pub loop-lit-preserved : goal.loop-lit-preserved
loop-lit-preserved g c =
    let within : c.loop-lit.lit-index < length (c.args.lits.now) = c.loop-lit-test.true in
    let is : (get_or c.args.lits.now c.loop-lit.lit-index (record { node = Const; neg = false })) ≡ get_or (c.args.lits.now) c.loop-lit.lit-index (get_or c.args.lits.now c.loop-lit.lit-index (record { node = Const; neg = false })) = lit-is c.args.lits.now c.loop-lit.lit-index (record { node = Const; neg = false }) within in
    taken-more (word_of c.args.net.now) (c.args.lits.now) c.loop-lit.lit-index c.args.text.now c.loop-lit.text
    (g.D.Desk.state c.args.desk.now) (g.D.Desk.state c.loop-lit.desk) (g.D.Desk.sizes c.args.desk.now) (g.D.Desk.sizes c.loop-lit.desk)
    c.loop-lit.invariant
    (get_or c.args.lits.now c.loop-lit.lit-index (record { node = Const; neg = false })) c.put_word.new.text (g.D.Desk.state c.put_word.new.desk) (g.D.Desk.sizes c.put_word.new.desk)
    within is
    c.in_ok-put_word.ensures.takes c.in_ok-put_word.ensures.started

pub returns-in_err-put_word-clause-takes : goal.returns-in_err-put_word-clause-takes
returns-in_err-put_word-clause-takes g c =
    let p = err_from_is_err_and c.from_residual.result c.from_residual.ensures.1 in
    let within : c.loop-lit.lit-index < length (c.args.lits.now) = c.loop-lit-test.true in
    let is : (get_or c.args.lits.now c.loop-lit.lit-index (record { node = Const; neg = false })) ≡ get_or (c.args.lits.now) c.loop-lit.lit-index (get_or c.args.lits.now c.loop-lit.lit-index (record { node = Const; neg = false })) = lit-is c.args.lits.now c.loop-lit.lit-index (record { node = Const; neg = false }) within in
    rw (p.1, p.2)
    (taken-stops (word_of c.args.net.now) (c.args.lits.now) c.loop-lit.lit-index c.args.text.now c.loop-lit.text
    (g.D.Desk.state c.args.desk.now) (g.D.Desk.state c.loop-lit.desk) (g.D.Desk.sizes c.args.desk.now) (g.D.Desk.sizes c.loop-lit.desk)
    c.loop-lit.invariant
    (get_or c.args.lits.now c.loop-lit.lit-index (record { node = Const; neg = false })) c.put_word.new.text (g.D.Desk.state c.put_word.new.desk) (g.D.Desk.sizes c.put_word.new.desk)
    within is c.in_err-put_word.field-0.0
    c.in_err-put_word.ensures.takes)

pub returns-clause-takes : goal.returns-clause-takes
returns-clause-takes g c =
    taken-all (word_of c.args.net.now) (c.args.lits.now) c.loop-lit.lit-index c.args.text.now c.loop-lit.text
    (g.D.Desk.state c.args.desk.now) (g.D.Desk.state c.loop-lit.desk) (g.D.Desk.sizes c.args.desk.now) (g.D.Desk.sizes c.loop-lit.desk)
    c.loop-lit.invariant
    (c.loop-lit-test.false)
