use Rattle.std.proofs.Common.{◌≡◌, ◌∙◌, Some, sym}
use Rattle.command_line.specs.Words.{number_in}
use Rattle.command_line.proofs.GetterLemmas.{is_there, number_within}
use Rattle.command_line.proofs.matches.number.Goals as goal

pub unwrap-requires : goal.unwrap-requires
unwrap-requires c = is_there _ _ c.number_in.ensures.value (rw c.text.ensures at c.requires)

pub returns : goal.returns
returns c =
    let is : number_in c.args.least c.args.most c.text.result.now ≡ Some c.unwrap.result =
    sym c.number_in.ensures.value ∙ c.unwrap.ensures in
    record {
      value = rw c.text.ensures is;
      range = number_within c.args.least c.args.most c.unwrap.result c.text.result.now is;
    }
