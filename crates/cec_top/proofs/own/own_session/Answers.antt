use Rattle.std.proofs.Common.{ℕ, List, sym, ap, ◌∙◌, subst}
use Rattle.aiger_file.specs.File.{SpellsAiger}
use Rattle.workload_gen.specs.Workload.{first_circuit, second_circuit}
use Rattle.command_line.specs.Answers.{self_texts}
use Rattle.check_session.specs.Check.{State}
use Rattle.cec_top.proofs.OwnLemmas.{made-own}
use Rattle.check_session.specs.declared.options.Options.{Options}
use Rattle.netlist.specs.Pairing.{paired}
use Rattle.cec_top.proofs.ReadLemmas.{opened-by, pair-there}
use Rattle.cec_top.specs.SelfCheck.{own_how}
use Rattle.cec_top.proofs.own.own_session.Goals as goal

pub read_back-requires : goal.read_back-requires
read_back-requires c = (
  first_circuit c.args.words.kind c.args.words.n,
  subst (λ (x : List ℕ). SpellsAiger x (first_circuit c.args.words.kind c.args.words.n)) (sym c.as_slice.ensures.value)
      c.in_ok-first.ensures.circuits.0,
)

pub read_back-requires-2 : goal.read_back-requires-2
read_back-requires-2 c = (
  second_circuit c.args.words.kind c.args.words.n,
  subst (λ (x : List ℕ). SpellsAiger x (second_circuit c.args.words.kind c.args.words.n)) (sym c.as_slice-2.ensures.value)
      c.in_ok-first.ensures.circuits.1,
)

pub returns-in-Ok : goal.returns-in-Ok
returns-in-Ok c =
    let p = pair-there _ _ _ c.in-Ok.ensures.unlike c.in-Ok.ensures.like in (
      made-own (self_texts c.args.words) _ _ c.in_ok-a.a c.in_ok-b.b c.in-Ok.session.net
          (c.as_slice.ensures.value ∙ c.in_ok-first.ensures.bytes.0) (c.as_slice-2.ensures.value ∙ c.in_ok-first.ensures.bytes.1)
          c.in_ok-a.ensures c.in_ok-b.ensures
          (ap (λ (s : State). s.net) p.1 ∙ ap (λ (o : Options). paired o.by_name c.in_ok-a.a c.in_ok-b.b) c.default_options.ensures.options),
      opened-by c.in-Ok.session _ c.default_options.result own_how.options p.1 c.default_options.ensures.options,
    )
