-- A good entry is settled by none, and a legal book stays legal with it.
use Rattle.std.proofs.Common.{ℕ, Option, Ok, ap, refl, sym, ◌∙◌}
use Rattle.lemma_book.specs.Good.{Already}
use Rattle.lemma_book.proofs.Judged.{legal-taken, last-taken, given-back, standing-good, standing-settled, standing-refused}
use Rattle.lemma_book.proofs.book.Book.offer.Goals as goal

pub take-requires : goal.take-requires
take-requires c =
    (standing-good c.args.net.now c.args.self.now c.args.entry c.judge.result c.judge.ensures (sym c.standing.ensures ∙ c.in-Ok-None.is ∙ ap (λ (o : Option ℕ). Ok o) c.in-Ok-None.field-0-is)) Already

pub returns-in-Ok-None : goal.returns-in-Ok-None
returns-in-Ok-None c =
    let good = (standing-good c.args.net.now c.args.self.now c.args.entry c.judge.result c.judge.ensures (sym c.standing.ensures ∙ c.in-Ok-None.is ∙ ap (λ (o : Option ℕ). Ok o) c.in-Ok-None.field-0-is)) in
    record {
      taken = last-taken c.args.net.now c.args.self.now c.take.new.self c.args.entry c.take.result good c.take.ensures.taken;
      refused = given-back c.args.net.now c.args.self.now c.args.entry c.take.result c.take.ensures.refused;
      unchanged = c.take.ensures.unchanged;
      stays_legal =
          legal-taken c.args.net.now c.args.self.now c.take.new.self c.args.entry c.take.result c.requires.legal good c.take.ensures.taken c.take.ensures.unchanged;
    }

pub returns-in-Ok-Some : goal.returns-in-Ok-Some
returns-in-Ok-Some c = record {
  taken = (
    standing-settled c.args.net.now c.args.self.now c.args.entry c.judge.result c.in-Ok-Some.place c.judge.ensures
        (sym c.standing.ensures ∙ c.in-Ok-Some.is ∙ ap (λ (o : Option ℕ). Ok o) c.in-Ok-Some.field-0-is),
    refl,
  );
  refused = tt;
  unchanged = tt;
  stays_legal = c.requires.legal;
}

pub returns-in-Err : goal.returns-in-Err
returns-in-Err c = record {
  taken = tt;
  refused = (refl, standing-refused c.args.net.now c.args.self.now c.args.entry c.judge.result c.in-Err.refused c.judge.ensures (sym c.standing.ensures ∙ c.in-Err.is));
  unchanged = refl;
  stays_legal = c.requires.legal;
}
