-- The files that a map holds.
use Rattle.std.specs.Prelude.{ℕ, String}
use Rattle.std.specs.BTreeMap.{BTreeMap, get_by_text}
use Rattle.std.specs.Global.{Vec}
use Rattle.std.specs.Option.{option_map}
use Rattle.std.specs.declared.alloc.Global.{Global}
use Rattle.desk_port.specs.Desk.{Files}

-- What each name holds in the map.
abbrev pub files_of : BTreeMap (String Global) (Vec ℕ) → Files
files_of files = λ q. option_map (λ bytes. bytes.items) (get_by_text files q)
