-- What is warned of several checks on request.
use Rattle.std.specs.Prelude.{◌≡◌, ◌⊎◌, ℕ, ◌≤◌, Bool, true, false, List, [], ◌∷◌, ◌++◌}
use Rattle.std.specs.List.{AllByRecursion}
use Rattle.desk_port.specs.Desk.{DeskState, Rose, followed_by}
use Rattle.cec_top.specs.declared.progress.Progress.{Progress}
use Rattle.cec_top.specs.declared.stats.Numbers.{Numbers}
use Rattle.cec_top.specs.Progress.{progress_line}
use Rattle.cec_top.specs.Stats.{stats_text}

-- a text that is asked for: the statistics of a check, or a line of its progress
abbrev pub IsText : Bool → Bool → List ℕ → Type 0
IsText stats progress text =
    ((stats ≡ true) × ((n : Numbers) × (text ≡ stats_text n))) ⊎ ((progress ≡ true) × ((p : Progress) × (text ≡ progress_line p)))

-- a first part of one
abbrev pub IsTextPart : Bool → Bool → List ℕ → Type 0
IsTextPart stats progress part = (text : List ℕ) × IsText stats progress text × ((rest : List ℕ) × (text ≡ part ++ rest))

-- texts, one after another
abbrev pub joined : List (List ℕ) → List ℕ
joined [] = []
joined (text ∷ texts) = text ++ joined texts

-- What is warned is such texts, one after another, and nothing else. All are whole, unless a warning failed.
pub record WarnsTexts (stats progress : Bool) (old new : DeskState) : Type 0 where
  pub parts : List (List ℕ)
  pub warned : new.warned ≡ followed_by old.warned (joined parts)
  pub each : AllByRecursion (IsTextPart stats progress) parts
  pub whole : AllByRecursion (IsText stats progress) parts ⊎ Rose old.warn_faults new.warn_faults
  pub counts : old.warn_faults ≤ new.warn_faults

-- that where statistics or progress are asked for, and else nothing is warned
abbrev pub WarnsOnly : Bool → Bool → DeskState → DeskState → Type 0
WarnsOnly false false old new = (new.warned ≡ old.warned) × (new.warn_faults ≡ old.warn_faults)
WarnsOnly false true old new = WarnsTexts false true old new
WarnsOnly true progress old new = WarnsTexts true progress old new
