use Rattle.lrat_text.proofs.TextLemmas.{written_nothing, written_line, written_spells, written_all}
use Rattle.lrat_text.proofs.laws.written_text.Goals as goal

pub returns : goal.returns
returns c = record {
  nothing = written_nothing;
  line = λ m last text lines step w can lt. written_line m last text lines step w can lt;
  spells = written_spells;
  all = λ m steps lt can. written_spells m _ _ (written_all m steps lt can);
}
