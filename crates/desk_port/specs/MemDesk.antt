-- What a desk in memory shows, and at which calls it fails.
use Rattle.std.specs.Prelude.{◌≡◌, ℕ, ◌+◌, ◌≤◌, ◌⊎◌, Bool, true, false, List, length, map, min}
use Rattle.std.specs.Prelude.{nat_eq, String, string_bytes, refl}
use Rattle.std.specs.Prelude.{Option, Some, None, IfSome, Result, Ok, Err}
use Rattle.std.specs.Global.{Vec}
use Rattle.std.specs.List.{list_any}
use Rattle.std.specs.Option.{ForSome, option_map}
use Rattle.std.specs.declared.alloc.Global.{Global}
use Rattle.desk_port.specs.Desk.{DeskState, HasMore, Sizes, StartedIsThere, after_read, last_count}
use Rattle.desk_port.specs.MemFiles.{files_of}
use Rattle.desk_port.specs.declared.errors.ReadErr.{ReadErr}
use Rattle.desk_port.specs.declared.errors.ReadErr.TheVariants as not_read
use Rattle.desk_port.specs.declared.errors.PutErr.{PutErr}
use Rattle.desk_port.specs.declared.errors.PutErr.TheVariants as not_put
use Rattle.desk_port.specs.declared.mem_desk.MemDesk.{MemDesk}

-- It tells all.
abbrev pub state_of : MemDesk → DeskState
state_of d = record {
  files = Some (files_of d.files);
  started = option_map string_bytes d.started;
  said = Some d.said.items;
  warned = Some d.warned.items;
  asked = Some (map string_bytes d.asked.items);
  read_faults = d.read_faults;
  write_faults = d.write_faults;
  warn_faults = d.warn_faults;
}

-- How many bytes each write that was done had.
abbrev pub sizes_of : MemDesk → Sizes
sizes_of d = Some d.sizes.items

-- The number of the call that comes next, and those of the calls that fail.
abbrev pub next_call : MemDesk → ℕ
next_call d = d.calls

abbrev pub failing_calls : MemDesk → List ℕ
failing_calls d = d.fails.items

-- The number of the next call is one of those that fail.
abbrev pub is_due : MemDesk → Bool
is_due d = list_any (λ n. nat_eq n (next_call d)) (failing_calls d)

-- The next value of a count, which stands still at its last one.
abbrev pub next_count : ℕ → ℕ
next_count n = min (n + 1) last_count

-- A call was counted, so that the next one has the next number.
pub record CountsCall (old new : MemDesk) : Type 0 where
  pub next : next_call new ≡ next_count (next_call old)
  pub failing : failing_calls new ≡ failing_calls old

-- No call was counted, since want of memory changes nothing.
pub record CountsNoCall (old new : MemDesk) : Type 0 where
  pub next : next_call new ≡ next_call old
  pub failing : failing_calls new ≡ failing_calls old

-- The state with one more fault of the kind.
abbrev pub with_read_fault : DeskState → DeskState
with_read_fault s = record s { read_faults = next_count s.read_faults }

abbrev pub with_write_fault : DeskState → DeskState
with_write_fault s = record s { write_faults = next_count s.write_faults }

abbrev pub with_warn_fault : DeskState → DeskState
with_warn_fault s = record s { warn_faults = next_count s.warn_faults }

-- What a read finds before it is counted. It fails exactly where it is due or the file is missing,
-- and else it is too long exactly where the file has more bytes than the limit.
abbrev pub Finds : MemDesk → List ℕ → ℕ → Result (Vec ℕ) ReadErr → Type 0
Finds d name limit (Ok v) =
    (is_due d ≡ false) × (files_of d.files name ≡ Some v.items) × (length v.items ≤ limit)
Finds d name limit (Err not_read.TooLong) =
    (is_due d ≡ false) × HasMore (files_of d.files) name limit
Finds d name limit (Err not_read.Failed) = (is_due d ≡ true) ⊎ (files_of d.files name ≡ None)
Finds d name limit (Err not_read.NoMemory) = Unit {0}

-- `read` answers what it finds and counts the call. Where it fails it counts one fault.
abbrev pub ReadsExactly : MemDesk → MemDesk → List ℕ → ℕ → Result (Vec ℕ) ReadErr → Type 0
ReadsExactly old new name limit (Ok v) = Finds old name limit (Ok v) × CountsCall old new
ReadsExactly old new name limit (Err not_read.TooLong) =
    Finds old name limit (Err not_read.TooLong) × CountsCall old new
ReadsExactly old new name limit (Err not_read.Failed) =
    Finds old name limit (Err not_read.Failed)
    × CountsCall old new
    × (state_of new ≡ with_read_fault (after_read (state_of old) name))
ReadsExactly old new name limit (Err not_read.NoMemory) = CountsNoCall old new

-- Each other call fails exactly where it is due, and leaves the desk in the state `failed` then.
abbrev pub FailsWhenDue : MemDesk → MemDesk → DeskState → Result (Unit {0}) PutErr → Type 0
FailsWhenDue old new failed (Ok _) = (is_due old ≡ false) × CountsCall old new
FailsWhenDue old new failed (Err not_put.Failed) =
    (is_due old ≡ true) × CountsCall old new × (state_of new ≡ failed)
FailsWhenDue old new failed (Err not_put.NoMemory) = CountsNoCall old new

-- The law of a desk holds of this one, since each has it as a fact.
at_bytes : (P : List ℕ → Type 0) (o : Option (String Global)) →
    ForSome o (λ name. P (string_bytes name)) → IfSome (option_map string_bytes o) P
at_bytes P None h = tt
at_bytes P (Some name) h = h name refl

pub started_is_there : (d : MemDesk) → StartedIsThere (state_of d)
started_is_there d = at_bytes _ d.started d.there
