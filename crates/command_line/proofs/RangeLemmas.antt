-- What is given for an option that is a number is in its range, where the words have no fault.
use Rattle.std.proofs.Common.{◌≡◌, Bool, true, false, cond, refl, codes, List, [], ◌∷◌, Option, Some, None, is_some, find, ℕ}
use Rattle.std.specs.Prelude.{option_and_then, slice_get, if◌then◌else◌}
use Rattle.std.specs.List.{list_all}
use Rattle.std.specs.Option.{option_map_or}
use Rattle.std.specs.Str.{bytes_eq}
use Rattle.std.proofs.lemmas.Bool.{and_parts}
use Rattle.clap.specs.Faults.{level_fault}
use Rattle.clap.specs.Simple.{Shape, argument_words, built, subcommand_of}
use Rattle.clap.specs.ValueTests.{is_unsigned_in}
use Rattle.clap.specs.Walk.{Row, Text, first_of, nothing_held, rows_after}
use Rattle.command_line.specs.Commands.{NumberOption, cec_app, check_command, fraig_command}
use Rattle.command_line.specs.Plain.{IsInRange}
use Rattle.command_line.specs.Words.{faults}
use Rattle.command_line.proofs.FoundLemmas.{found_holds, found_test}
use Rattle.command_line.proofs.LevelLemmas.{rows_filled}
use Rattle.command_line.proofs.PlainLemmas.{completed}
use Rattle.command_line.proofs.RequestLemmas.{built_gives}
use Rattle.command_line.proofs.RowLemmas.{AreFilled, IsFilled, takes_one}

-- the first value of an id whose values are numbers in a range
first_in_range : (id : Text) (least most : ℕ) (rows : List Row) (t : Text) → AreFilled id least most rows
    → first_of id rows ≡ Some t → is_unsigned_in least most t ≡ true
first_in_range id least most rows t f is = go (find (λ r. bytes_eq r.id id) rows) refl is
  where
    of_row : (r : Row) (values : List Text) → r.values ≡ values → bytes_eq r.id id ≡ true → IsFilled id least most r
        → slice_get values 0 ≡ Some t → is_unsigned_in least most t ≡ true
    of_row r [] same named holds is = cc
    of_row r (v ∷ vs) same named holds is =
        let all : list_all (is_unsigned_in least most) (v ∷ vs) ≡ true = rw same at (holds.numbers named) in
        let first : v ≡ t = cc in
        rw (← first) (and_parts _ _ all).0

    go : (found : Option Row) → find (λ (r : Row). bytes_eq r.id id) rows ≡ found
        → option_and_then (λ (r : Row). slice_get r.values 0) found ≡ Some t → is_unsigned_in least most t ≡ true
    go None there is = cc
    go (Some r) there is =
        of_row r r.values refl (found_test (λ (x : Row). bytes_eq x.id id) rows r there)
        (found_holds (IsFilled id least most) (λ (x : Row). bytes_eq x.id id) rows r f there) is

-- whether a value that is given is one
abbrev is_taken : NumberOption → List Row → Option Bool
is_taken o rows =
    option_map_or (λ t. if is_unsigned_in o.least o.most t then Some true else None) (first_of o.id rows) (Some true)

abbrev is_taken_by : Text → NumberOption → Text × List Row → Option Bool
is_taken_by name o p = if bytes_eq p.0 name then is_taken o p.1 else Some true

level_taken : (o : NumberOption) (s : Shape) (words : List Text)
    → list_all (takes_one o.id o.least o.most) s.rules ≡ true
    → level_fault s [] nothing_held words false [] ≡ [] → is_some (is_taken o (rows_after s.rules [] words)) ≡ true
level_taken o s words takes passed = go (first_of o.id (rows_after s.rules [] words)) refl
  where
    go : (value : Option Text) → first_of o.id (rows_after s.rules [] words) ≡ value
        → is_some (option_map_or (λ (t : Text). if is_unsigned_in o.least o.most t then Some true else None) value
        (Some true)) ≡ true
    go None is = refl
    go (Some t) is =
        let fits : is_unsigned_in o.least o.most t ≡ true =
        first_in_range o.id o.least o.most (rows_after s.rules [] words) t
        (rows_filled o.id o.least o.most s words takes passed) is in
        rw fits refl

-- where the values of the options of a command are in their ranges
abbrev AreTaken : Text → NumberOption → Type 0
AreTaken name o = (words : List Text) → faults words ≡ []
    → is_some (option_and_then (is_taken_by name o) (subcommand_of cec_app words)) ≡ true

check-taken : (o : NumberOption) → list_all (takes_one o.id o.least o.most) (completed check_command).rules ≡ true
    → AreTaken (codes "check") o
unfolding faults
check-taken o takes words passed =
    built_gives (built cec_app) (argument_words cec_app words) (is_taken_by (codes "check") o) refl
    (λ ws none. level_taken o (completed check_command) ws takes none, (λ ws none. refl, (λ ws none. refl, (λ ws none. refl, tt)))) passed

fraig-taken : (o : NumberOption) → list_all (takes_one o.id o.least o.most) (completed fraig_command).rules ≡ true
    → AreTaken (codes "fraig") o
unfolding faults
fraig-taken o takes words passed =
    built_gives (built cec_app) (argument_words cec_app words) (is_taken_by (codes "fraig") o) refl
    (λ ws none. refl, (λ ws none. level_taken o (completed fraig_command) ws takes none, (λ ws none. refl, (λ ws none. refl, tt)))) passed

in_range : (name : Text) (o : NumberOption) → AreTaken name o → bytes_eq name name ≡ true → IsInRange name o
in_range name o taken same words rows text none names given =
    let some : is_some (is_taken_by name o (name, rows)) ≡ true = rw names at (taken words none) in
    let own : is_some (is_taken o rows) ≡ true = rw same at some in
    let test : is_some (if is_unsigned_in o.least o.most text then Some true else None) ≡ true = rw given at own in
    go (is_unsigned_in o.least o.most text) test
  where
    go : (b : Bool) → is_some (cond b (Some true) None) ≡ true → b ≡ true
    go true some = refl
    go false some = cc

pub in_range-check : (o : NumberOption) → list_all (takes_one o.id o.least o.most) (completed check_command).rules ≡ true
    → IsInRange (codes "check") o
in_range-check o takes = in_range (codes "check") o (check-taken o takes) refl

pub in_range-fraig : (o : NumberOption) → list_all (takes_one o.id o.least o.most) (completed fraig_command).rules ≡ true
    → IsInRange (codes "fraig") o
in_range-fraig o takes = in_range (codes "fraig") o (fraig-taken o takes) refl
