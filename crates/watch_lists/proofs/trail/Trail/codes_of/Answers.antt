use Rattle.std.proofs.Common.{◌+◌, [], map, ap, subst, sym, ◌∙◌, arith}
use Rattle.std.specs.List.{All}
use Rattle.std.proofs.lemmas.List.{take_all}
use Rattle.std.proofs.lemmas.List.Elements.{All-nil}
use Rattle.flat_base.specs.Codes.{lit_at, IsCode}
use Rattle.watch_lists.specs.Trail.{TrailState, Keeps}
use Rattle.watch_lists.proofs.NumbersLemmas.{keeps-refl, keeps-next_at, keeps-first, codes-next_at}
use Rattle.watch_lists.proofs.trail.Trail.codes_of.Goals as goal

pub returns-in_err-code-clause-keeps : goal.returns-in_err-code-clause-keeps
returns-in_err-code-clause-keeps c =
    subst (λ (t : TrailState). Keeps c.args.self.now c.args.lits.now t) (sym c.in_err-code.ensures.err)
    (keeps-first c.args.self.now c.loop-lit.self c.args.lits.now c.loop-lit.lit-index c.loop-lit.invariant.keeps)

pub returns-in_err-push-clause-keeps : goal.returns-in_err-push-clause-keeps
returns-in_err-push-clause-keeps c =
    keeps-first c.args.self.now c.number.new.self c.args.lits.now (c.loop-lit.lit-index + 1)
    (keeps-next_at c.args.self.now c.loop-lit.self c.number.new.self c.args.lits.now c.loop-lit.lit-index _ (omega arith) c.loop-lit.invariant.keeps c.number.ensures.keeps)

pub loop-lit-preserved : goal.loop-lit-preserved
loop-lit-preserved c =
    let next = codes-next_at c.loop-lit.self c.number.new.self c.args.lits.now c.loop-lit.codes.items c.loop-lit.lit-index c.in_ok-code.code _ (omega arith) c.number.ensures.keeps c.loop-lit.invariant.lits c.loop-lit.invariant.codes
    c.in_ok-code.ensures.code.0 c.in_ok-code.ensures.code.1 in
    rw c.in_ok-push.ensures.items (record {
      keeps = keeps-next_at c.args.self.now c.loop-lit.self c.number.new.self c.args.lits.now c.loop-lit.lit-index _ (omega arith) c.loop-lit.invariant.keeps c.number.ensures.keeps;
      lits = next.0;
      codes = next.1;
    })

pub loop-lit-init : goal.loop-lit-init
loop-lit-init c = record {
  keeps = keeps-refl c.args.self.now [];
  lits = ap (map (lit_at c.args.self.now.nodes)) c.in_ok-codes.ensures.items;
  codes = subst (All (IsCode c.args.self.now.nodes)) (sym c.in_ok-codes.ensures.items) (All-nil (IsCode c.args.self.now.nodes));
}

pub returns-clause-codes : goal.returns-clause-codes
returns-clause-codes c =
    (c.loop-lit.invariant.lits ∙ take_all c.loop-lit.lit-index c.args.lits.now c.loop-lit-test.false, c.loop-lit.invariant.codes)

pub returns-clause-keeps : goal.returns-clause-keeps
returns-clause-keeps c = keeps-first c.args.self.now c.loop-lit.self c.args.lits.now c.loop-lit.lit-index c.loop-lit.invariant.keeps
