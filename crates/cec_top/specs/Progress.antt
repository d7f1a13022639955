-- What is warned of a check while it goes on, where that is asked for.
use Rattle.std.specs.Prelude.{◌≡◌, ℕ, Bool, true, false, List, [], ◌∷◌, ◌++◌, codes, decimal}
use Rattle.desk_port.specs.Desk.{DeskState}
use Rattle.endings.specs.Stops.{IsWarned}
use Rattle.sweep_workers.specs.declared.watch.Part.{Part}
use Rattle.sweep_workers.specs.declared.watch.Part.TheVariants.{Structure, Sweep, Outputs}
use Rattle.cec_top.specs.declared.progress.Progress.{Progress}

abbrev pub part_text : Part → List ℕ
part_text Structure = codes "structure"
part_text Sweep = codes "sweep"
part_text Outputs = codes "outputs"

-- The line of a check that is so far. Nothing is claimed of the numbers: they are what its threads had told by then.
unfoldable pub progress_line : Progress → List ℕ
progress_line p =
    codes "cec: progress " ++ part_text p.part ++ codes " round " ++ decimal p.round ++ codes ", " ++ decimal p.settled ++ codes " of "
    ++ decimal p.tasks ++ codes " settled, " ++ decimal p.open ++ codes " open, " ++ decimal p.seconds ++ codes " s\n"

-- these lines are warned, one after another; and a first part of each whose warning failed
abbrev pub AreWarned : List Progress → DeskState → DeskState → Type 0
AreWarned [] old new = new ≡ old
AreWarned (p ∷ ps) old new = (mid : DeskState) × IsWarned old mid (progress_line p) × AreWarned ps mid new

-- Lines of that form are warned and nothing else is done, if that is asked for. Without being asked for, nothing is warned.
abbrev pub WarnsProgress : Bool → DeskState → DeskState → Type 0
WarnsProgress false old new = new ≡ old
WarnsProgress true old new = (ps : List Progress) × AreWarned ps old new
