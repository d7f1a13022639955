-- What rows of arguments hold after one more use, and after the defaults.
use Rattle.std.proofs.Common.{◌≡◌, ◌∙◌, ◌||◌, ◌++◌, Bool, true, false, not, cond, refl, ap, subst, List, [], ◌∷◌, Option, Some, None, codes, fold, find}
use Rattle.std.specs.Prelude.{option_and_then, slice_get}
use Rattle.std.specs.List.{list_all}
use Rattle.std.specs.Option.{option_map_or}
use Rattle.std.specs.Str.{bytes_eq}
use Rattle.std.proofs.lemmas.Bool.{and_parts}
use Rattle.std.proofs.lemmas.Slice.Eq.{bytes_eq-Decides}
use Rattle.clap.specs.Walk.{Row, Rule, Text, action_of, at_row, default_rows, first_of, has_row, more_values, reading_by, used, with_default, without}
use Rattle.clap.specs.declared.builder.action.ArgAction.TheVariants as action
use Rattle.clap.specs.declared.parser.matches.ValueSource.TheVariants.{CommandLine, DefaultValue}
use Rattle.command_line.specs.Words.{is_set}

-- ---- a row of an id that has none yet stands at the end

pub row_at_end : (id : Text) (change : Row → List Row) (missing rows : List Row) → has_row id rows ≡ false
    → at_row id change missing rows ≡ rows ++ missing
row_at_end id change missing [] none = refl
row_at_end id change missing (r ∷ rows) none = go (bytes_eq r.id id) none (row_at_end id change missing rows)
  where
    go : (b : Bool) → (b || has_row id rows) ≡ false → (has_row id rows ≡ false → at_row id change missing rows ≡ rows ++ missing)
        → cond b (change r ++ rows) (r ∷ at_row id change missing rows) ≡ r ∷ (rows ++ missing)
    go true none rest = cc
    go false none rest = ap (λ (rs : List Row). r ∷ rs) (rest none)

nothing_added : (rows : List Row) → rows ++ [] ≡ rows
nothing_added [] = refl
nothing_added (r ∷ rows) = ap (λ (rs : List Row). r ∷ rs) (nothing_added rows)

-- the row of a use with one value
abbrev pub row_given : Rule → Text → Row
row_given a value = record { id = a.id; values = value ∷ []; count = None; source = Some CommandLine; reading = reading_by a }

pub used-new : (a : Rule) (value : Text) (rows : List Row) → action_of a ≡ action.Set → has_row a.id rows ≡ false
    → used a (value ∷ []) rows ≡ rows ++ row_given a value ∷ []
used-new a value rows sets none =
    let kept : without a.id rows ≡ rows = row_at_end a.id (λ _. []) [] rows none ∙ nothing_added rows in
    rw (sets, kept) (row_at_end a.id (more_values CommandLine (value ∷ [])) (row_given a value ∷ []) rows none)

-- ---- what is found then

-- the first value of the row that was found, and else the one of a row behind
abbrev in_row : Option Row → Option Text
in_row = option_and_then (λ (r : Row). slice_get r.values 0)

pub other_first : (rows : List Row) (r : Row) (id : Text) → bytes_eq r.id id ≡ false → first_of id (rows ++ r ∷ []) ≡ first_of id rows
other_first [] r id apart = rw apart refl
other_first (x ∷ rows) r id apart = go (bytes_eq x.id id) (other_first rows r id apart)
  where
    go : (b : Bool) → first_of id (rows ++ r ∷ []) ≡ first_of id rows
        → in_row (cond b (Some x) (find (λ (y : Row). bytes_eq y.id id) (rows ++ r ∷ [])))
        ≡ in_row (cond b (Some x) (find (λ (y : Row). bytes_eq y.id id) rows))
    go true same = refl
    go false same = same

pub new_first : (rows : List Row) (r : Row) (id : Text) → bytes_eq r.id id ≡ true → has_row id rows ≡ false
    → first_of id (rows ++ r ∷ []) ≡ slice_get r.values 0
new_first [] r id same none = rw same refl
new_first (x ∷ rows) r id same none = go (bytes_eq x.id id) none (new_first rows r id same)
  where
    go : (b : Bool) → (b || has_row id rows) ≡ false → (has_row id rows ≡ false → first_of id (rows ++ r ∷ []) ≡ slice_get r.values 0)
        → in_row (cond b (Some x) (find (λ (y : Row). bytes_eq y.id id) (rows ++ r ∷ []))) ≡ slice_get r.values 0
    go true none rest = cc
    go false none rest = rest none

-- ---- defaults

abbrev row_by_default : Rule → List Text → Row
row_by_default a values = record { id = a.id; values = values; count = None; source = Some DefaultValue; reading = reading_by a }

abbrev is_none : List Text → Bool
is_none [] = true
is_none (v ∷ vs) = false

-- the argument has no default, or another id
abbrev pub leaves_id : Text → Rule → Bool
leaves_id id a = is_none a.defaults || not (bytes_eq a.id id)

default-leaves : (id : Text) (rows : List Row) (a : Rule) → leaves_id id a ≡ true → first_of id (with_default rows a) ≡ first_of id rows
default-leaves id rows a leaves = go (has_row a.id rows) refl
  where
    by_values : (defaults : List Text) → has_row a.id rows ≡ false → (is_none defaults || not (bytes_eq a.id id)) ≡ true
        → first_of id (default_rows a.id (reading_by a) defaults rows) ≡ first_of id rows
    by_values [] none leaves = refl
    by_values (v ∷ vs) none leaves =
        rw (row_at_end a.id (more_values DefaultValue (v ∷ vs)) (row_by_default a (v ∷ vs) ∷ []) rows none)
        (other_first rows (row_by_default a (v ∷ vs)) id (apart (bytes_eq a.id id) leaves))
      where
        apart : (b : Bool) → (false || not b) ≡ true → b ≡ false
        apart true leaves = cc
        apart false leaves = refl

    go : (b : Bool) → has_row a.id rows ≡ b → first_of id (cond b rows (default_rows a.id (reading_by a) a.defaults rows)) ≡ first_of id rows
    go true is = refl
    go false is = by_values a.defaults is leaves

pub defaults-leave : (id : Text) (rows : List Row) (rules : List Rule) → list_all (leaves_id id) rules ≡ true
    → first_of id (fold with_default rows rules) ≡ first_of id rows
defaults-leave id rows [] leave = refl
defaults-leave id rows (a ∷ rules) leave =
    let both = and_parts (leaves_id id a) (list_all (leaves_id id) rules) leave in
    defaults-leave id (with_default rows a) rules both.1 ∙ default-leaves id rows a both.0

-- or its default sets no flag
abbrev is_off : List Text → Bool
is_off [] = true
is_off (v ∷ vs) = not (bytes_eq v (codes "true"))

abbrev pub sets_no_flag : Text → Rule → Bool
sets_no_flag id a = is_off a.defaults || not (bytes_eq a.id id)

abbrev pub is_true : Option Text → Bool
is_true value = option_map_or (λ (text : Text). bytes_eq text (codes "true")) value false

default-unset : (id : Text) (rows : List Row) (a : Rule) → sets_no_flag id a ≡ true → is_set id rows ≡ false
    → is_set id (with_default rows a) ≡ false
default-unset id rows a off unset = go (has_row a.id rows) refl
  where
    by_values : (defaults : List Text) → has_row a.id rows ≡ false → (is_off defaults || not (bytes_eq a.id id)) ≡ true
        → is_set id (default_rows a.id (reading_by a) defaults rows) ≡ false
    by_values [] none off = unset
    by_values (v ∷ vs) none off =
        rw (row_at_end a.id (more_values DefaultValue (v ∷ vs)) (row_by_default a (v ∷ vs) ∷ []) rows none) (at (bytes_eq a.id id) refl off)
      where
        lowered : (b : Bool) → (not b || false) ≡ true → b ≡ false
        lowered true off = cc
        lowered false off = refl

        missing : bytes_eq a.id id ≡ true → has_row id rows ≡ false
        missing same = subst (λ (t : Text). has_row t rows ≡ false) ((bytes_eq-Decides a.id id).0 same) none

        at : (b : Bool) → bytes_eq a.id id ≡ b → (is_off (v ∷ vs) || not b) ≡ true → is_set id (rows ++ row_by_default a (v ∷ vs) ∷ []) ≡ false
        at true same off =
            ap is_true (new_first rows (row_by_default a (v ∷ vs)) id same (missing same)) ∙ lowered (bytes_eq v (codes "true")) off
        at false apart off = ap is_true (other_first rows (row_by_default a (v ∷ vs)) id apart) ∙ unset

    go : (b : Bool) → has_row a.id rows ≡ b → is_set id (cond b rows (default_rows a.id (reading_by a) a.defaults rows)) ≡ false
    go true is = unset
    go false is = by_values a.defaults is off

pub defaults-unset : (id : Text) (rows : List Row) (rules : List Rule) → list_all (sets_no_flag id) rules ≡ true → is_set id rows ≡ false
    → is_set id (fold with_default rows rules) ≡ false
defaults-unset id rows [] off unset = unset
defaults-unset id rows (a ∷ rules) off unset =
    let both = and_parts (sets_no_flag id a) (list_all (sets_no_flag id) rules) off in
    defaults-unset id (with_default rows a) rules both.1 (default-unset id rows a both.0 unset)
