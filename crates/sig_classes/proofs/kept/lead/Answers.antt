use Rattle.std.proofs.Common.{◌≡◌, ◌∙◌, true, refl, sym, arith}
use Rattle.sig_classes.specs.Alike.{row_of}
use Rattle.sig_classes.specs.Chains.{is_first, with_member}
use Rattle.sig_classes.specs.Kept.{counts}
use Rattle.sig_classes.proofs.AlikeLemmas.{alike-self}
use Rattle.sig_classes.proofs.ChainLemmas.{chains-same, one-from}
use Rattle.sig_classes.proofs.FirstLemmas.{first-grows, first-least, first-parts, first-stays, none-alike, not-first-found}
use Rattle.sig_classes.proofs.kept.lead.Goals as goal

pub returns-in-Some-clause-members : goal.returns-in-Some-clause-members
returns-in-Some-clause-members c = λ chains.
    let found = c.in-Some.ensures.found (is_first c.args.classes.now c.args.sigs.now (counts c.args.classes.now) c.args.position) chains in
    chains-same _ (is_first c.args.classes.now c.args.sigs.now (counts c.args.classes.now) c.args.position) _ _ _
    (first-stays c.args.classes.now c.args.sigs.now (counts c.args.classes.now) c.args.position
    (not-first-found c.args.classes.now c.args.sigs.now (counts c.args.classes.now) c.args.position c.in-Some.first found.0 found.1)) chains

pub returns-in-Some-clause-least : goal.returns-in-Some-clause-least
returns-in-Some-clause-least c = λ chains here.
    let found = c.in-Some.ensures.found (is_first c.args.classes.now c.args.sigs.now (counts c.args.classes.now) c.args.position) chains in
    let parts = first-parts c.args.classes.now c.args.sigs.now (counts c.args.classes.now) c.args.position c.in-Some.first found.0 in
    record {
      low = omega (arith, parts.0);
      own = parts.1;
      one = found.1;
      least = λ r less counting.
          first-least c.args.classes.now c.args.sigs.now (counts c.args.classes.now) c.args.position c.in-Some.first c.args.position found.0 found.1 r less counting;
    }

pub returns-in-None-clause-members : goal.returns-in-None-clause-members
returns-in-None-clause-members c = λ chains.
    let own : counts c.args.classes.now c.args.position ≡ true = sym c.counts.ensures ∙ c.if-not-counts.false in
    let none = c.in-None.ensures.found (is_first c.args.classes.now c.args.sigs.now (counts c.args.classes.now) c.args.position) chains in
    chains-same _ (with_member c.args.position (is_first c.args.classes.now c.args.sigs.now (counts c.args.classes.now) c.args.position)) _ _ _
    (first-grows c.args.classes.now c.args.sigs.now (counts c.args.classes.now) c.args.position own
    (none-alike c.args.classes.now c.args.sigs.now (counts c.args.classes.now) c.args.position c.args.position none))
    (c.put.ensures.members (is_first c.args.classes.now c.args.sigs.now (counts c.args.classes.now) c.args.position)
    (λ q is. (first-parts c.args.classes.now c.args.sigs.now (counts c.args.classes.now) c.args.position q is).0) chains)

pub returns-in-None-clause-least : goal.returns-in-None-clause-least
returns-in-None-clause-least c = λ chains here.
    let none = c.in-None.ensures.found (is_first c.args.classes.now c.args.sigs.now (counts c.args.classes.now) c.args.position) chains in
    record {
      low = omega arith;
      own = here;
      one = one-from c.args.classes.now c.args.sigs.now c.args.position c.args.position refl
          (alike-self c.args.sigs.now.patterns (row_of c.args.sigs.now c.args.position));
      least = λ r less counting. none-alike c.args.classes.now c.args.sigs.now (counts c.args.classes.now) c.args.position c.args.position none r less counting;
    }
