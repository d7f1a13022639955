use Rattle.std.proofs.Common.{◌≡◌, List, ℕ, refl, sym, ◌∙◌, subst}
use Rattle.std.specs.Prelude.{Option, Some, IsSome}
use Rattle.std.proofs.lemmas.Option.{same_Some}
use Rattle.lits.specs.Dimacs.{DimacsLiteral}
use Rattle.netlist.specs.Miter.{cnf_number_of, numbered}
use Rattle.desk_port.specs.Pieces.{Takes}
use Rattle.dimacs_text.specs.CnfText.{literal_word}
use Rattle.check_session.proofs.MiterTextLemmas.{number-there}
use Rattle.check_session.proofs.miter_text.put_word.Goals as goal

pub unwrap-requires : goal.unwrap-requires
unwrap-requires g c =
    subst (λ (o : Option DimacsLiteral). IsSome o)
    (sym (c.cnf_number.ensures ∙ number-there c.args.net.now c.args.lit c.requires.there)) refl

pub returns-clause-takes : goal.returns-clause-takes
returns-clause-takes g c =
    let is : c.unwrap.result ≡ numbered c.args.net.now c.args.lit =
    same_Some c.unwrap.result (numbered c.args.net.now c.args.lit)
    (sym c.unwrap.ensures ∙ c.cnf_number.ensures ∙ number-there c.args.net.now c.args.lit c.requires.there) in
    subst (λ (d : DimacsLiteral). Takes (literal_word d) c.args.text.now c.literal.new.self (g.D.Desk.state c.args.desk.now)
    (g.D.Desk.state c.literal.new.desk) (g.D.Desk.sizes c.args.desk.now) (g.D.Desk.sizes c.literal.new.desk) c.literal.result) is
    c.literal.ensures.takes
