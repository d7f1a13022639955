-- What the program answers to arguments that ask for the check of two circuits that it makes.
use Rattle.std.specs.Prelude.{◌≡◌, ◌⊎◌, false, List, [], None, Err}
use Rattle.desk_port.specs.Desk.{DeskState, after_say}
use Rattle.netlist.specs.Net.{AigPair}
use Rattle.aiger_file.specs.File.{SpellsAiger}
use Rattle.workload_gen.specs.Workload.{first_bytes, second_bytes}
use Rattle.command_line.specs.Words.{SelfCommand}
use Rattle.endings.specs.Writing.{Says}
use Rattle.endings.specs.Stops.{EndsBy}
use Rattle.endings.specs.declared.status.Status.{Status}
use Rattle.endings.specs.declared.stop.Stop.{Stop}
use Rattle.endings.specs.declared.stop.Stop.TheVariants.{OutOfMemory}
use Rattle.cec_top.specs.declared.kept.Kept.{Kept}
use Rattle.cec_top.specs.Script.{Plan, plan_of}
use Rattle.check_session.specs.Check.{empty_book}
use Rattle.cec_top.specs.Check.{How, Opening, Ends, StopsChecks}
use Rattle.cec_top.specs.Texts.{workload_text}

-- how it is made: under the numbers of a check without an option, inputs and outputs matched by position; no file is left
abbrev pub own_how : How
own_how = record {
  options = record { workers = 4; seed = 1; words = 4; sweep_budget = 100; out_budget = 100000; by_name = false };
  out = None;
  witness = None;
  stats = false;
  progress = false;
}

-- the generator's bytes spell them
pub record AreWorkload (c : SelfCommand) (net : AigPair) : Type 0 where
  pub a : SpellsAiger (first_bytes c.kind c.n) net.a
  pub b : SpellsAiger (second_bytes c.kind c.n) net.b

-- check 0 is of them, and there is no other
abbrev pub only : AigPair → Plan
only net = plan_of net []

-- it goes on from an empty book
abbrev pub own_opening : AigPair → Opening
own_opening net = record { net = net; book = empty_book own_how.options }

-- the desk after it was said which circuits they are
abbrev pub after_workload : SelfCommand → AigPair → DeskState → DeskState
after_workload c net s = after_say s (workload_text c net)

-- it is said which circuits they are, and then the check of them is made and told whole
pub record EndsSelf (c : SelfCommand) (old new : DeskState) (status : Status) (kept : List Kept) : Type 0 where
  pub net : AigPair
  pub circuits : AreWorkload c net
  pub ends : Ends own_how (own_opening net) (only net) (after_workload c net old) new status kept

-- it isn't said whole which circuits they are
pub record BreaksBefore (c : SelfCommand) (old new : DeskState) (kept : List Kept) (stop : Stop) : Type 0 where
  pub none : kept ≡ []
  pub net : AigPair
  pub circuits : AreWorkload c net
  pub breaks : Says (workload_text c net) old new (Err stop)

-- the check isn't told whole, or has no verdict
pub record StopsAfter (c : SelfCommand) (old new : DeskState) (kept : List Kept) (stop : Stop) : Type 0 where
  pub net : AigPair
  pub circuits : AreWorkload c net
  pub stops : StopsChecks own_how (own_opening net) (only net) (after_workload c net old) kept new stop

-- memory runs out before the circuits are there
pub record RunsOutBefore (old new : DeskState) (kept : List Kept) (stop : Stop) : Type 0 where
  pub none : kept ≡ []
  pub out : stop ≡ OutOfMemory
  pub at : new ≡ old

-- why it ends without a verdict that was said whole
abbrev pub StopsSelf : SelfCommand → DeskState → List Kept → DeskState → Stop → Type 0
StopsSelf c old kept new stop =
    BreaksBefore c old new kept stop ⊎ StopsAfter c old new kept stop ⊎ RunsOutBefore old new kept stop

abbrev pub AnswersSelf : SelfCommand → DeskState → DeskState → Status → List Kept → Type 0
AnswersSelf c old new status kept = EndsSelf c old new status kept ⊎ EndsBy [] (StopsSelf c old kept) new status
