use Rattle.std.proofs.Common.{rules, ◌≡◌, Some, refl, ap₂, subst, ◌∙◌}
use Rattle.netlist.specs.Net.{AigPair}
use Rattle.check_session.specs.declared.options.Options.{Options}
use Rattle.check_session.specs.Begun.{Begun, GoesOn, begun_after}
use Rattle.check_session.specs.Check.{IsFound, begun_by}
use Rattle.check_session.proofs.session.Session.check_watched.Goals as goal

pub returns-clause-begins : goal.returns-clause-begins
returns-clause-begins g c =
    let net : c.self.inside.net ≡ c.args.self.now.net = search rules in
    let options : c.self.inside.options ≡ c.args.self.now.options = search rules in
    let begun : begun_after c.self.inside.net c.self.inside.options c.part-past.result ≡ begun_by c.args.self.now =
    ap₂ (λ (n : AigPair) (o : Options). begun_after n o c.part-past.result) net options ∙ c.part-past.ensures.begun in
    record {
      patterns = c.in_ok-checked.checked.pool;
      pool_is = refl;
      goes_on =
          subst (λ (b : Begun). GoesOn b c.in_ok-checked.checked.book c.in_ok-checked.checked.pool) begun c.in_ok-checked.ensures.goes_on;
    }

pub returns-clause-found : goal.returns-clause-found
returns-clause-found g c =
    let net : c.self.inside.net ≡ c.args.self.now.net = search rules in
    let options : c.self.inside.options ≡ c.args.self.now.options = search rules in
    let begun : begun_after c.self.inside.net c.self.inside.options c.part-past.result ≡ begun_by c.args.self.now =
    ap₂ (λ (n : AigPair) (o : Options). begun_after n o c.part-past.result) net options ∙ c.part-past.ensures.begun in
    let checked = c.in_ok-checked.checked in
    subst (λ (b : Begun). IsFound c.self.inside.net c.self.inside.options b (Some checked.pool) checked.book checked.verdict) begun
    c.in_ok-checked.ensures.found
