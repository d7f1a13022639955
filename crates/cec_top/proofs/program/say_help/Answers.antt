use Rattle.std.proofs.Common.{◌≡◌, inr, rules}
use Rattle.endings.specs.declared.stop.Stop.TheVariants.{CannotWrite, OutOfMemory}
use Rattle.endings.specs.Stops.{stop_line}
use Rattle.cec_top.proofs.HelpLemmas.{unsaid, ran-out}
use Rattle.cec_top.proofs.program.say_help.Goals as goal

pub returns-in-Err-Failed : goal.returns-in-Err-Failed
unfolding stop_line
returns-in-Err-Failed g c =
    let bytes : c.as_bytes.result.now ≡ c.args.text.now = search rules in
    inr (record {
      stop = CannotWrite;
      mid = g.D.Desk.state c.say.new.self;
      cause = unsaid c.args.text.now c.as_bytes.result.now _ _ _ bytes c.in-Err-Failed.field-0-is c.in-Err-Failed.ensures.answer;
      warns = c.warn.ensures;
    })

pub returns-in-Err-NoMemory : goal.returns-in-Err-NoMemory
unfolding stop_line
returns-in-Err-NoMemory g c = inr (record {
  stop = OutOfMemory;
  mid = g.D.Desk.state c.say.new.self;
  cause = ran-out c.as_bytes.result.now _ _ _ c.in-Err-NoMemory.field-0-is c.in-Err-NoMemory.ensures.answer;
  warns = c.warn-in-Err-NoMemory.ensures;
})
