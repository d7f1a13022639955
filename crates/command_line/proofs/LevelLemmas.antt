-- What the matches of a command hold, whose words have no fault.
use Rattle.std.proofs.Common.{◌≡◌, ◌<◌, ◌&&◌, ◌||◌, ℕ, Bool, true, false, not, cond, arith, refl, List, [], ◌∷◌, Option, Some, None, length, fold, is_some, find}
use Rattle.std.specs.List.{list_all, list_any}
use Rattle.std.specs.Option.{option_map_or}
use Rattle.std.specs.Str.{bytes_eq}
use Rattle.std.proofs.lemmas.Bool.{and_parts, ne_eqb, not-false}
use Rattle.std.proofs.lemmas.Slice.Eq.{bytes_eq-Decides}
use Rattle.clap.specs.Kinds.{check_kinds, or_else, request_kinds}
use Rattle.clap.specs.Facts.{explicit_source, parser_of_value}
use Rattle.clap.specs.Faults.{check_fault, default_fault, defaults_fault, level_fault, settle_fault, values_fault, walk_fault}
use Rattle.clap.specs.Simple.{Shape}
use Rattle.clap.specs.Takes.{is_given}
use Rattle.clap.specs.ValueTests.{is_unsigned_in}
use Rattle.clap.specs.Walk.{Held, Row, Rule, Text, action_of, arg_by_id, default_rows, finished, first_of, has_row, is_empty, nothing_held, reading_by, rows_after, settled, walk, walk_from, with_default}
use Rattle.clap.specs.declared.parser.matches.ValueSource.TheVariants.{DefaultValue}
use Rattle.command_line.proofs.FoundLemmas.{found_fails, found_holds, found_test}
use Rattle.command_line.proofs.RowLemmas.{AreFilled, IsFilled, all_in_range, first_passed, range_of, second_passed, takes_one, with_values_filled}
use Rattle.command_line.proofs.WalkingLemmas.{settled_filled, walk_filled}

-- ---- defaults

some_values : (v : Text) (vs : List Text) → is_empty (v ∷ vs) ≡ false
some_values v vs = ne_eqb _ _ (λ e. omega arith)

module _ (id : Text) (least most : ℕ) where
  default_filled : (rows : List Row) (a : Rule) → takes_one id least most a ≡ true → default_fault rows a ≡ []
      → AreFilled id least most rows → AreFilled id least most (with_default rows a)
  default_filled rows a takes passed f = go (has_row a.id rows) refl
    where
      numbers : (values : List Text) → values_fault a values ≡ [] → bytes_eq a.id id ≡ true
          → list_all (is_unsigned_in least most) values ≡ true
      numbers values none same =
          all_in_range a.ignore_case least most (parser_of_value a.parser) values (range_of id least most a takes same) none

      given : (values : List Text) → cond (false || is_empty values) [] (or_else (request_kinds (action_of a)) (values_fault a values)) ≡ []
          → AreFilled id least most (default_rows a.id (reading_by a) values rows)
      given [] none = f
      given (v ∷ vs) none =
          let parts : or_else (request_kinds (action_of a)) (values_fault a (v ∷ vs)) ≡ [] = rw (some_values v vs) at none in
          with_values_filled id least most a.id (reading_by a) DefaultValue (v ∷ vs) rows (omega arith)
          (numbers (v ∷ vs) (second_passed _ _ parts)) f

      go : (b : Bool) → has_row a.id rows ≡ b
          → AreFilled id least most (cond b rows (default_rows a.id (reading_by a) a.defaults rows))
      go true is = f
      go false is = given a.defaults (rw is at passed)

  defaults_filled : (rows : List Row) (rules : List Rule) → list_all (takes_one id least most) rules ≡ true
      → defaults_fault rows rules ≡ [] → AreFilled id least most rows → AreFilled id least most (fold with_default rows rules)
  unfolding defaults_fault
  defaults_filled rows [] takes passed f = f
  defaults_filled rows (a ∷ rules) takes passed f =
      let each = and_parts _ _ takes in
      defaults_filled (with_default rows a) rules each.1 (second_passed _ _ passed)
      (default_filled rows a each.0 (first_passed _ _ passed) f)

same_bytes : (id : Text) → bytes_eq id id ≡ true
same_bytes id = (bytes_eq-Decides id id).1 refl

-- ---- a command whose words have no fault

check_passed : (help command argument : Bool) → check_kinds help command argument ≡ [] → argument ≡ false
check_passed help command false none = refl
check_passed true command true none = cc
check_passed false true true none = cc
check_passed false false true none = cc

-- what a subcommand lifts is not lifted without one
none_missing : (negates missing : Bool) → (not (negates && false) && missing) ≡ false → missing ≡ false
none_missing true missing none = none
none_missing false missing none = none

given_row : (id : Text) (rows : List Row) → is_given id rows ≡ true → is_some (find (λ r. bytes_eq r.id id) rows) ≡ true
given_row id rows given = go (find (λ r. bytes_eq r.id id) rows) given
  where
    go : (found : Option Row) → option_map_or (λ (r : Row). explicit_source r.source) found false ≡ true → is_some found ≡ true
    go None given = cc
    go (Some r) given = refl

module _ (id : Text) (least most : ℕ) where
  -- the first value of an id that has a row; where it is the given id, it is in the range
  first_value : (a : Text) (rows : List Row) → AreFilled id least most rows → is_some (find (λ r. bytes_eq r.id a) rows) ≡ true
      → (t : Text) × (first_of a rows ≡ Some t) × (bytes_eq a id ≡ true → is_unsigned_in least most t ≡ true)
  first_value a rows f there = go (find (λ r. bytes_eq r.id a) rows) refl there
    where
      of_row : (r : Row) → find (λ (x : Row). bytes_eq x.id a) rows ≡ Some r → (values : List Text) → r.values ≡ values
          → bytes_eq r.id a ≡ true → IsFilled id least most r
          → (t : Text) × (first_of a rows ≡ Some t) × (bytes_eq a id ≡ true → is_unsigned_in least most t ≡ true)
      of_row r is [] empty named holds =
          let some : 0 < length r.values = holds.some in
          let none : 0 < 0 = rw empty at some in
          absurd (omega arith)
      of_row r is (v ∷ vs) values named holds = (
        v,
        rw (is, values) refl,
        λ same.
            let equal : r.id ≡ a = (bytes_eq-Decides r.id a).0 named in
            let all : list_all (is_unsigned_in least most) r.values ≡ true = holds.numbers (rw equal same) in
            let each : list_all (is_unsigned_in least most) (v ∷ vs) ≡ true = rw values at all in
            (and_parts _ _ each).0,
      )

      go : (found : Option Row) → find (λ (x : Row). bytes_eq x.id a) rows ≡ found → is_some found ≡ true
          → (t : Text) × (first_of a rows ≡ Some t) × (bytes_eq a id ≡ true → is_unsigned_in least most t ≡ true)
      go None is some = cc
      go (Some r) is some =
          of_row r is r.values refl (found_test (λ (x : Row). bytes_eq x.id a) rows r is)
          (found_holds (IsFilled id least most) (λ (x : Row). bytes_eq x.id a) rows r f is)

  module _ (s : Shape) (words : List Text) (takes : list_all (takes_one id least most) s.rules ≡ true)
      (passed : level_fault s [] nothing_held words false [] ≡ []) where
    abbrev end : Held
    end = (walk s.rules [] nothing_held words).held

    after_walk : or_else (settle_fault s.rules s.args_override_self end)
        (or_else (defaults_fault (settled s.rules end).rows s.rules) (check_fault s (finished s.rules end) false)) ≡ []
    after_walk = second_passed (walk_fault s [] (walk_from nothing_held) words) _ passed

    after_settling : or_else (defaults_fault (settled s.rules end).rows s.rules) (check_fault s (finished s.rules end) false) ≡ []
    after_settling = second_passed _ _ after_walk

    pub rows_filled : AreFilled id least most (rows_after s.rules [] words)
    rows_filled =
        defaults_filled id least most (settled s.rules end).rows s.rules takes (first_passed _ _ after_settling)
        (settled_filled id least most s.rules s.args_override_self takes end (first_passed _ _ after_walk)
        (walk_filled id least most s takes [] (walk_from nothing_held) words (first_passed _ _ passed) tt))

    abbrev rows : List Row
    rows = rows_after s.rules [] words

    abbrev missing : Rule → Bool
    missing a = a.required && not (is_given a.id rows)

    required_given : (p : Rule → Bool) (a : Rule) → find p s.rules ≡ Some a → a.required ≡ true → is_given a.id (rows_after s.rules [] words) ≡ true
    required_given p a found required =
        let argument = check_passed (s.arg_required_else_help && not (list_any (λ r. explicit_source r.source) rows)) s.subcommand_required
        (not (s.subcommand_negates_reqs && false) && list_any missing s.rules) (second_passed _ _ after_settling) in
        let given : missing a ≡ false = found_fails p missing s.rules a (none_missing s.subcommand_negates_reqs _ argument) found in
        not-false _ (rw required at given)

    pub required_value : (a : Rule) → arg_by_id s.rules a.id ≡ Some a → a.required ≡ true
        → is_some (first_of a.id (rows_after s.rules [] words)) ≡ true
    required_value a found required =
        let value = first_value a.id rows rows_filled (given_row a.id rows (required_given (λ x. bytes_eq x.id a.id) a found required)) in
        rw value.1 refl

    -- and a number, where it is the given id
    pub required_number : (a : Rule) → arg_by_id s.rules a.id ≡ Some a → a.required ≡ true → a.id ≡ id
        → (t : Text) × (first_of a.id (rows_after s.rules [] words) ≡ Some t) × (is_unsigned_in least most t ≡ true)
    required_number a found required is =
        let value = first_value a.id rows rows_filled (given_row a.id rows (required_given (λ x. bytes_eq x.id a.id) a found required)) in
        (value.0, value.1, value.2 (rw is (same_bytes id)))
