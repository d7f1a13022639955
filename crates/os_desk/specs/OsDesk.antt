-- What a desk of real files shows: no content, but what is started and the faults that it counted.
use Rattle.std.specs.Prelude.{ℕ, List, Option, Some, None, IfSome, string_bytes}
use Rattle.std.specs.Option.{option_map}
use Rattle.desk_port.specs.Desk.{DeskState, Sizes, StartedIsThere}
use Rattle.os_desk.specs.declared.os_desk.OsDesk.{OsDesk}

abbrev pub state_of : {R O E F D : Type 0} → OsDesk R O E F D → DeskState
state_of d = record {
  files = None;
  started = option_map (λ s. string_bytes s.name) d.started;
  said = None;
  warned = None;
  asked = None;
  read_faults = d.read_faults;
  write_faults = d.write_faults;
  warn_faults = d.warn_faults;
}

-- It tells no sizes of its writes.
abbrev pub sizes_of : {R O E F D : Type 0} → OsDesk R O E F D → Sizes
sizes_of d = None

-- The started file, standard output and standard error.
abbrev pub file_of : {R O E F D : Type 0} → OsDesk R O E F D → Option F
file_of d = option_map (λ s. s.file) d.started

abbrev pub out_of : {R O E F D : Type 0} → OsDesk R O E F D → O
out_of d = d.out

abbrev pub err_of : {R O E F D : Type 0} → OsDesk R O E F D → E
err_of d = d.err

-- What a new one shows: nothing started, and no fault.
abbrev pub untouched : DeskState
untouched = record {
  files = None;
  started = None;
  said = None;
  warned = None;
  asked = None;
  read_faults = 0;
  write_faults = 0;
  warn_faults = 0;
}

-- It tells no files, so none is missing.
whatever_is_started : (started : Option (List ℕ)) → IfSome started (λ _. Unit {0})
whatever_is_started None = tt
whatever_is_started (Some name) = tt

pub started_is_there : {R O E F D : Type 0} (d : OsDesk R O E F D) → StartedIsThere (state_of d)
started_is_there d = whatever_is_started (state_of d).started
