-- What is warned of a check behind its verdict, where its statistics are asked for.
use Rattle.std.specs.Prelude.{◌≡◌, ◌⊎◌, ℕ, ◌/◌, ◌%◌, Bool, true, false, List, [], ◌++◌, length, codes, decimal, Option, None, Some}
use Rattle.desk_port.specs.Desk.{DeskState}
use Rattle.endings.specs.Stops.{IsWarned}
use Rattle.netlist.specs.Net.{AigPair}
use Rattle.netlist.specs.Miter.{miter_of}
use Rattle.lemma_book.specs.declared.entry.Entry.{Entry}
use Rattle.check_session.specs.declared.counts.Counts.{Counts}
use Rattle.check_session.specs.Counts.{AreCountsOf}
use Rattle.cec_top.specs.declared.stats.Numbers.{Numbers}
use Rattle.cec_top.specs.declared.stats.Sizes.{Sizes}
use Rattle.cec_top.specs.declared.stats.Times.{Times}

-- the line of a number, by its name
unfoldable pub count_line : List ℕ → ℕ → List ℕ
count_line name n = codes "cec: " ++ name ++ codes " " ++ decimal n ++ codes "\n"

-- the line of a number, which isn't there where the number isn't known
abbrev pub known_line : List ℕ → Option ℕ → List ℕ
known_line name None = []
known_line name (Some n) = count_line name n

-- the line of a time that is given in thousandths of a second: its seconds, with three decimals
unfoldable pub seconds_line : List ℕ → ℕ → List ℕ
seconds_line name n =
    codes "cec: " ++ name ++ codes " " ++ decimal (n / 1000) ++ codes "." ++ decimal ((n / 100) % 10) ++ decimal ((n / 10) % 10)
    ++ decimal (n % 10) ++ codes "\n"

-- which isn't there where the time isn't known
abbrev pub time_line : List ℕ → Option ℕ → List ℕ
time_line name None = []
time_line name (Some n) = seconds_line name n

-- what was checked
unfoldable pub sizes_text : Sizes → List ℕ
sizes_text s =
    count_line (codes "gates_a") s.gates_a ++ count_line (codes "gates_b") s.gates_b
    ++ count_line (codes "levels_a") s.levels_a ++ count_line (codes "levels_b") s.levels_b
    ++ count_line (codes "clauses") s.clauses

-- what was merged
unfoldable pub merges_text : Counts → List ℕ
merges_text c =
    count_line (codes "patterns") c.patterns ++ count_line (codes "rounds") c.rounds
    ++ count_line (codes "kept") c.kept ++ count_line (codes "merges_by_structure") c.by_structure
    ++ count_line (codes "merges_by_search") c.by_search ++ count_line (codes "merges_by_cone") c.by_cone

-- and what wasn't, and what all of it took
unfoldable pub others_text : Counts → List ℕ
others_text c =
    count_line (codes "pairs_apart") c.apart ++ count_line (codes "pairs_open") c.open_pairs
    ++ count_line (codes "outputs_open") c.open_outputs ++ count_line (codes "conflicts") c.conflicts
    ++ count_line (codes "steps") c.steps

-- how long its parts took
unfoldable pub parts_text : Times → List ℕ
parts_text t =
    time_line (codes "seconds_structure") t.structure ++ time_line (codes "seconds_sweep") t.sweep
    ++ time_line (codes "seconds_outputs") t.outputs

-- how long that took
unfoldable pub times_text : Times → List ℕ
times_text t =
    time_line (codes "seconds_reading") t.reading ++ time_line (codes "seconds_check") t.checking ++ parts_text t
    ++ time_line (codes "seconds_files") t.telling

-- The lines of a check's statistics: these names in this order, each with its number, but for the lines of a proof that wasn't
-- written and times that aren't known.
abbrev pub stats_text : Numbers → List ℕ
stats_text n =
    sizes_text n.sizes ++ merges_text n.counts ++ others_text n.counts ++ known_line (codes "proof_lines") n.proof_lines
    ++ times_text n.times

-- these are how many gates both circuits have, and how many clauses the CNF of their miter has. Of the levels nothing is claimed.
pub record AreSizesOf (net : AigPair) (s : Sizes) : Type 0 where
  pub gates_a : s.gates_a ≡ length net.a.gates
  pub gates_b : s.gates_b ≡ length net.b.gates
  pub clauses : s.clauses ≡ length (miter_of net)

-- The numbers of a check of these circuits, whose book has these entries, and whose proof has so many lines, where one was
-- written: they count what they are named for. Of the levels, of how the check went about it (patterns, rounds, kept entries, merges,
-- conflicts) and of times nothing is claimed.
pub record AreNumbersOf (net : AigPair) (entries : List Entry) (lines : Option ℕ) (n : Numbers) : Type 0 where
  pub sizes_are : AreSizesOf net n.sizes
  pub counts_are : AreCountsOf entries n.counts
  pub lines_are : n.proof_lines ≡ lines

-- The statistics of such a check are warned, if they are asked for; where the warning failed, a first part of them, and nothing
-- where memory ran out for them. Without being asked for, nothing is warned.
abbrev pub Reports : Bool → AigPair → List Entry → Option ℕ → DeskState → DeskState → Type 0
Reports false net entries lines old new = new ≡ old
Reports true net entries lines old new =
    (new ≡ old) ⊎ ((n : Numbers) × AreNumbersOf net entries lines n × IsWarned old new (stats_text n))
