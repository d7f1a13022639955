-- Which files a command leaves whose names begin with the prefix of `--out`, and that none of them is written over: `--save` and
-- `--witness` of `check` may name no check's files, nor one file, and OUT of `fraig` not those of its only check.
use Rattle.std.specs.Prelude.{◌≡◌, ◌⊎◌, ◌==◌, Bool, true, false, ◌&&◌, ◌||◌, [], ◌∷◌, ◌++◌, Option, Some, None, codes, if◌then◌else◌}
use Rattle.std.specs.Char.{is_ascii_digit}
use Rattle.std.specs.Option.{option_map_or}
use Rattle.std.specs.Str.{all_ascii_digits, bytes_eq}
use Rattle.clap.specs.Walk.{Text}

-- the digits of a check's number are decimal, and there is one at least
abbrev pub are_digits : Text → Bool
are_digits [] = false
are_digits (d ∷ ds) = all_ascii_digits (d ∷ ds)

-- the name is PREFIX.K.cnf or PREFIX.K.lrat, K being such digits
pub record IsLeftUnder (prefix name : Text) : Type 0 where
  pub digits : Text
  pub are : are_digits digits ≡ true
  pub ending : Text
  pub ends : (ending ≡ codes ".cnf") ⊎ (ending ≡ codes ".lrat")
  pub name_is : name ≡ prefix ++ codes "." ++ digits ++ ending

-- ---- the same, computed

-- what stands in a text behind another with which it begins
abbrev pub behind : Text → Text → Option Text
behind [] text = Some text
behind (p ∷ ps) [] = None
behind (p ∷ ps) (b ∷ bs) = if p == b then behind ps bs else None

-- and behind the digits with which it begins
abbrev pub behind_digits : Text → Text
behind_digits [] = []
behind_digits (b ∷ bs) = if is_ascii_digit b then behind_digits bs else b ∷ bs

abbrev pub is_ending : Text → Bool
is_ending text = bytes_eq text (codes ".cnf") || bytes_eq text (codes ".lrat")

-- digits, one at least, and then an ending
abbrev pub is_numbered : Text → Bool
is_numbered [] = false
is_numbered (b ∷ bs) = is_ascii_digit b && is_ending (behind_digits bs)

-- the name is that of a file which a check may leave under the prefix: `laws::left_names` says which these are
unfoldable pub is_left_under : Text → Text → Bool
is_left_under prefix name = option_map_or is_numbered (behind (prefix ++ codes ".") name) false

-- a file is one of those that are left, where there is a prefix and the file has a name
abbrev pub names_left : Option Text → Option Text → Bool
names_left None file = false
names_left (Some prefix) None = false
names_left (Some prefix) (Some name) = is_left_under prefix name

-- two files are one, where both have a name
abbrev pub names_one : Option Text → Option Text → Bool
names_one None file = false
names_one (Some name) None = false
names_one (Some name) (Some other) = bytes_eq name other

-- ---- the files of a command's only check

-- the name is PREFIX.0.cnf or PREFIX.0.lrat
abbrev pub IsFirstUnder : Text → Text → Type 0
IsFirstUnder prefix name = (name ≡ prefix ++ codes ".0.cnf") ⊎ (name ≡ prefix ++ codes ".0.lrat")

-- what stands behind the prefix then
abbrev pub is_first_ending : Text → Bool
is_first_ending text = bytes_eq text (codes ".0.cnf") || bytes_eq text (codes ".0.lrat")

-- the same, computed: `laws::left_names` says so
unfoldable pub is_first_under : Text → Text → Bool
is_first_under prefix name = bytes_eq name (prefix ++ codes ".0.cnf") || bytes_eq name (prefix ++ codes ".0.lrat")

-- the file of the reduced circuit is one of those that are left
abbrev pub writes_over : Option Text → Text → Bool
writes_over None reduced = false
writes_over (Some prefix) reduced = is_first_under prefix reduced
