-- What a desk shows, and what each of its calls makes of that, answer by answer.
use Rattle.std.specs.Prelude.{◌≡◌, ℕ, ◌<◌, ◌≤◌, ◌⊎◌, List, [], ◌∷◌, ◌++◌, length, if◌then◌else◌}
use Rattle.std.specs.Prelude.{Option, Some, None, unwrap_or, IfSome, IsSome, IsSomeAnd}
use Rattle.std.specs.Prelude.{Result, Ok, Err}
use Rattle.std.specs.Global.{Vec}
use Rattle.std.specs.Option.{option_map}
use Rattle.std.specs.Str.{bytes_eq}
use Rattle.desk_port.specs.declared.errors.ReadErr.{ReadErr}
use Rattle.desk_port.specs.declared.errors.ReadErr.TheVariants as not_read
use Rattle.desk_port.specs.declared.errors.PutErr.{PutErr}
use Rattle.desk_port.specs.declared.errors.PutErr.TheVariants as not_put

-- Files, a map from names to bytes: what each name holds, and None where there is no such file.
abbrev pub Files : Type 0
Files = List ℕ → Option (List ℕ)

-- The files with these bytes, and no others, under the name.
abbrev pub put : List ℕ → List ℕ → Files → Files
put name bytes files = λ q. if bytes_eq name q then Some bytes else files q

-- The files with these bytes at the end of the named one.
abbrev pub extended : List ℕ → List ℕ → Files → Files
extended name bytes files =
    λ q. if bytes_eq name q then option_map (λ old. old ++ bytes) (files q) else files q

-- What a desk shows. Content that it doesn't tell is None; a desk of real files tells none.
pub record DeskState : Type 0 where
  -- the files, where told
  pub files : Option Files
  -- the name of the file that is started, if one is; each desk tells it
  pub started : Option (List ℕ)
  -- the bytes put to standard output so far, where told
  pub said : Option (List ℕ)
  -- the bytes put to standard error so far, where told
  pub warned : Option (List ℕ)
  -- the names that `read` was given so far, in order, those that failed too, where told
  pub asked : Option (List (List ℕ))
  -- how many faults of each kind the desk has counted
  pub read_faults : ℕ
  pub write_faults : ℕ
  pub warn_faults : ℕ

-- A file that is started is there, as far as the desk tells.
abbrev pub StartedIsThere : DeskState → Type 0
StartedIsThere s = IfSome s.started (λ name. IfSome s.files (λ files. IsSome (files name)))

-- What a new desk shows that tells all: these files, and nothing started, put or counted.
abbrev pub untouched : Files → DeskState
untouched files = record {
  files = Some files;
  started = None;
  said = Some [];
  warned = Some [];
  asked = Some [];
  read_faults = 0;
  write_faults = 0;
  warn_faults = 0;
}

-- Told bytes with more bytes behind them.
abbrev pub followed_by : Option (List ℕ) → List ℕ → Option (List ℕ)
followed_by told bytes = option_map (λ old. old ++ bytes) told

-- The desk after `read` was given the name.
abbrev pub after_read : DeskState → List ℕ → DeskState
after_read s name = record s { asked = option_map (λ names. names ++ name ∷ []) s.asked }

-- The desk after the named file became empty.
abbrev pub after_emptying : DeskState → List ℕ → DeskState
after_emptying s name = record s { files = option_map (put name []) s.files }

-- The desk after the named file became empty and was started.
abbrev pub after_start : DeskState → List ℕ → DeskState
after_start s name = record (after_emptying s name) { started = Some name }

-- The desk after the bytes were put at the end of the started file.
abbrev pub after_write : DeskState → List ℕ → DeskState
after_write s bytes =
    record s { files = option_map (extended (unwrap_or s.started []) bytes) s.files }

-- The desk after the started file was closed.
abbrev pub after_close : DeskState → DeskState
after_close s = record s { started = None }

-- The desk after the bytes were put to standard output.
abbrev pub after_say : DeskState → List ℕ → DeskState
after_say s bytes = record s { said = followed_by s.said bytes }

-- The desk after the bytes were put to standard error.
abbrev pub after_warn : DeskState → List ℕ → DeskState
after_warn s bytes = record s { warned = followed_by s.warned bytes }

-- The last value of a count of faults, which is a `u64`.
abbrev pub last_count : ℕ
last_count = 18446744073709551615

-- The count rose, or stands at its last value.
abbrev pub Rose : ℕ → ℕ → Type 0
Rose before now = (before < now) ⊎ ((before ≡ now) × (now ≡ last_count))

-- No count of faults is below what it was.
pub record NoCountFalls (old new : DeskState) : Type 0 where
  pub reads : old.read_faults ≤ new.read_faults
  pub writes : old.write_faults ≤ new.write_faults
  pub warns : old.warn_faults ≤ new.warn_faults

-- A read, a write or a warn fault was counted, and nothing else changed.
pub record ReadFault (old new : DeskState) : Type 0 where
  pub rose : Rose old.read_faults new.read_faults
  pub stays : new ≡ record old { read_faults = new.read_faults }

pub record WriteFault (old new : DeskState) : Type 0 where
  pub rose : Rose old.write_faults new.write_faults
  pub stays : new ≡ record old { write_faults = new.write_faults }

pub record WarnFault (old new : DeskState) : Type 0 where
  pub rose : Rose old.warn_faults new.warn_faults
  pub stays : new ≡ record old { warn_faults = new.warn_faults }

-- The fact holds of some first part of the bytes: of none, of a few or of all.
abbrev pub OfSomePrefix : List ℕ → (List ℕ → Type 0) → Type 0
OfSomePrefix bytes P = (part : List ℕ) × ((rest : List ℕ) × (bytes ≡ part ++ rest)) × P part

-- The named file has more bytes than the limit.
abbrev pub HasMore : Files → List ℕ → ℕ → Type 0
HasMore files name limit = IsSomeAnd (files name) (λ bytes. limit < length bytes)

-- `read`: the file's bytes where it has at most `limit`, TooLong where it has more. Each answer but
-- NoMemory adds the name to those asked for, and Failed counts a fault.
abbrev pub Reads : DeskState → DeskState → List ℕ → ℕ → Result (Vec ℕ) ReadErr → Type 0
Reads old new name limit (Ok v) =
    IfSome old.files (λ files. files name ≡ Some v.items)
    × (length v.items ≤ limit)
    × (new ≡ after_read old name)
Reads old new name limit (Err not_read.TooLong) =
    IfSome old.files (λ files. HasMore files name limit)
    × (new ≡ after_read old name)
Reads old new name limit (Err not_read.Failed) = ReadFault (after_read old name) new
Reads old new name limit (Err not_read.NoMemory) = new ≡ old

-- `start`: after Failed nothing is started, and the file is as before or empty.
abbrev pub Starts : DeskState → DeskState → List ℕ → Result (Unit {0}) PutErr → Type 0
Starts old new name (Ok _) = new ≡ after_start old name
Starts old new name (Err not_put.Failed) =
    WriteFault old new ⊎ WriteFault (after_emptying old name) new
Starts old new name (Err not_put.NoMemory) = new ≡ old

-- `write`: after Failed some first part of the bytes was put, and the file is still started.
abbrev pub Writes : DeskState → DeskState → List ℕ → Result (Unit {0}) PutErr → Type 0
Writes old new bytes (Ok _) = new ≡ after_write old bytes
Writes old new bytes (Err not_put.Failed) =
    OfSomePrefix bytes (λ part. WriteFault (after_write old part) new)
Writes old new bytes (Err not_put.NoMemory) = new ≡ old

-- How many bytes each `write` that was done had, in order, where a desk tells them.
abbrev pub Sizes : Type 0
Sizes = Option (List ℕ)

-- Told sizes with those of more writes behind them.
abbrev pub and_sizes : Sizes → List ℕ → Sizes
and_sizes told more = option_map (λ sizes. sizes ++ more) told

-- A `write` that is done has one more size, that of its bytes; a refused one has none.
abbrev pub SizesAfterWrite : Sizes → Sizes → List ℕ → Result (Unit {0}) PutErr → Type 0
SizesAfterWrite old new bytes (Ok _) = new ≡ and_sizes old (length bytes ∷ [])
SizesAfterWrite old new bytes (Err _) = new ≡ old

-- `close`: nothing is started after Failed either.
abbrev pub Closes : DeskState → DeskState → Result (Unit {0}) PutErr → Type 0
Closes old new (Ok _) = new ≡ after_close old
Closes old new (Err not_put.Failed) = WriteFault (after_close old) new
Closes old new (Err not_put.NoMemory) = new ≡ old

-- `say`: after Failed some first part of the bytes was put; its faults are write faults.
abbrev pub Says : DeskState → DeskState → List ℕ → Result (Unit {0}) PutErr → Type 0
Says old new bytes (Ok _) = new ≡ after_say old bytes
Says old new bytes (Err not_put.Failed) =
    OfSomePrefix bytes (λ part. WriteFault (after_say old part) new)
Says old new bytes (Err not_put.NoMemory) = new ≡ old

-- `warn`: as `say`, on standard error; its faults are warn faults.
abbrev pub Warns : DeskState → DeskState → List ℕ → Result (Unit {0}) PutErr → Type 0
Warns old new bytes (Ok _) = new ≡ after_warn old bytes
Warns old new bytes (Err not_put.Failed) =
    OfSomePrefix bytes (λ part. WarnFault (after_warn old part) new)
Warns old new bytes (Err not_put.NoMemory) = new ≡ old
