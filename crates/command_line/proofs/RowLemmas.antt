-- What the rows of arguments hold after uses that pass: for arguments that take one value each, at least one value, and
-- for a given id numbers in a given range.
use Rattle.std.proofs.Common.{◌≡◌, ◌<◌, ◌&&◌, ◌||◌, ◌++◌, ℕ, Bool, true, false, not, cond, arith, refl, ap, subst, List, [], ◌∷◌, length}
use Rattle.std.specs.Prelude.{◌==◌}
use Rattle.std.specs.List.{AllByRecursion, list_all}
use Rattle.std.specs.Str.{bytes_eq}
use Rattle.std.proofs.lemmas.Bool.{and_parts, eqb-true, ne_eqb}
use Rattle.std.proofs.lemmas.List.{length-append}
use Rattle.std.proofs.lemmas.List.Folds.{list_all-append}
use Rattle.std.proofs.lemmas.Slice.Eq.{bytes_eq-Decides}
use Rattle.clap.specs.Kinds.{Kinds, or_else, range_kinds, value_kinds, values_kinds}
use Rattle.clap.specs.Facts.{parser_of_value, unwrap_or_range}
use Rattle.clap.specs.Faults.{action_fault, use_fault}
use Rattle.clap.specs.ValueTests.{accepts, is_unsigned_in}
use Rattle.clap.specs.Walk.{Row, Rule, Text, action_of, at_row, more_values, used, values_or_missing, with_values, without}
use Rattle.clap.specs.declared.builder.action.ArgAction.{ArgAction}
use Rattle.clap.specs.declared.builder.action.ArgAction.TheVariants as action
use Rattle.clap.specs.declared.builder.range.ValueRange.{ValueRange}
use Rattle.clap.specs.declared.builder.value_parser.Reading.{Reading}
use Rattle.clap.specs.declared.builder.value_parser.ValueParser.{ValueParser}
use Rattle.clap.specs.declared.builder.value_parser.ValueParser.TheVariants.{Unsigned}
use Rattle.clap.specs.declared.parser.matches.ValueSource.{ValueSource}

-- ---- steps that found no fault

pub first_passed : (x y : Kinds) → or_else x y ≡ [] → x ≡ []
first_passed [] y none = refl
first_passed (k ∷ ks) y none = cc

pub second_passed : (x y : Kinds) → or_else x y ≡ [] → y ≡ []
second_passed [] y none = none
second_passed (k ∷ ks) y none = cc

pub accepted : (case : Bool) (parser : ValueParser) (text : Text) → value_kinds case parser text ≡ [] → accepts case parser text ≡ true
accepted case parser text none = go (accepts case parser text) refl
  where
    go : (b : Bool) → accepts case parser text ≡ b → b ≡ true
    go true is = refl
    go false is = let bad = rw is at none in cc

-- ---- the tests of an argument

abbrev is_text : List Text → Bool
is_text [] = false
is_text (t ∷ ts) = true

-- the argument takes one value in a use, or it is a flag, for whose use a value stands, or a call for help
abbrev pub one_value : ArgAction → ValueRange → List Text → Bool
one_value action.Set range missing = range.start_inclusive == 1 && range.end_inclusive == 1
one_value action.SetTrue range missing = (range.start_inclusive == 0 && range.end_inclusive == 0) && is_text missing
one_value action.Help range missing = true
one_value other range missing = false

abbrev pub has_range : ℕ → ℕ → ValueParser → Bool
has_range least most (Unsigned low high) = low == least && high == most
has_range least most other = false

-- and where it has this id, its values are numbers in the range
abbrev pub takes_one : Text → ℕ → ℕ → Rule → Bool
takes_one id least most a = one_value (action_of a) (unwrap_or_range a.range) a.missing
    && (not (bytes_eq a.id id) || has_range least most (parser_of_value a.parser))

pub range_of : (id : Text) (least most : ℕ) (a : Rule) → takes_one id least most a ≡ true → bytes_eq a.id id ≡ true
    → has_range least most (parser_of_value a.parser) ≡ true
range_of id least most a takes same =
    let both = and_parts (one_value (action_of a) (unwrap_or_range a.range) a.missing) (not (bytes_eq a.id id) || has_range least most (parser_of_value a.parser)) takes in
    rw same at both.1

pub in_range : (case : Bool) (least most : ℕ) (parser : ValueParser) (text : Text) → has_range least most parser ≡ true
    → accepts case parser text ≡ true → is_unsigned_in least most text ≡ true
in_range case least most (Unsigned low high) text is passes =
    let both = and_parts _ _ is in
    rw (← eqb-true low least both.0, ← eqb-true high most both.1) passes
in_range case least most other text is passes = cc

-- of each of some values
pub all_in_range : (case : Bool) (least most : ℕ) (parser : ValueParser) (values : List Text) → has_range least most parser ≡ true
    → values_kinds case parser values ≡ [] → list_all (is_unsigned_in least most) values ≡ true
all_in_range case least most parser [] is none = refl
all_in_range case least most parser (v ∷ vs) is none =
    let first : is_unsigned_in least most v ≡ true = in_range case least most parser v is (accepted case parser v (first_passed _ _ none)) in
    let others : list_all (is_unsigned_in least most) vs ≡ true = all_in_range case least most parser vs is (second_passed _ _ none) in
    rw (first, others) refl

-- ---- rows

pub record IsFilled (id : Text) (least most : ℕ) (r : Row) : Type 0 where
  pub some : 0 < length r.values
  pub numbers : bytes_eq r.id id ≡ true → list_all (is_unsigned_in least most) r.values ≡ true

abbrev pub AreFilled : Text → ℕ → ℕ → List Row → Type 0
AreFilled id least most = AllByRecursion (IsFilled id least most)

joined : (P : Row → Type 0) (xs ys : List Row) → AllByRecursion P xs → AllByRecursion P ys → AllByRecursion P (xs ++ ys)
joined P [] ys hx hy = hy
joined P (x ∷ xs) ys hx hy = (hx.0, joined P xs ys hx.1 hy)

-- a change of the row of an id keeps what holds of each row
at_row_keeps : (P : Row → Type 0) (id : Text) (change : Row → List Row) (missing rows : List Row) → AllByRecursion P missing
    → ((r : Row) → bytes_eq r.id id ≡ true → P r → AllByRecursion P (change r))
    → AllByRecursion P rows → AllByRecursion P (at_row id change missing rows)
at_row_keeps P id change missing [] hm hc hr = hm
at_row_keeps P id change missing (r ∷ rows) hm hc hr =
    go (bytes_eq r.id id) refl (at_row_keeps P id change missing rows hm hc hr.1)
  where
    go : (b : Bool) → bytes_eq r.id id ≡ b → AllByRecursion P (at_row id change missing rows)
        → AllByRecursion P (cond b (change r ++ rows) (r ∷ at_row id change missing rows))
    go true is more = joined P (change r) rows (hc r is hr.0) hr.1
    go false is more = (hr.0, more)

same_id : (r : Row) (a id : Text) → bytes_eq r.id a ≡ true → bytes_eq r.id id ≡ true → bytes_eq a id ≡ true
same_id r a id is at = subst (λ (t : Text). bytes_eq t id ≡ true) ((bytes_eq-Decides r.id a).0 is) at

module _ (id : Text) (least most : ℕ) where
  without_filled : (a : Text) (rows : List Row) → AreFilled id least most rows → AreFilled id least most (without a rows)
  without_filled a rows h = at_row_keeps (IsFilled id least most) a (λ (r : Row). []) [] rows tt (λ r is hr. tt) h

  pub with_values_filled : (a : Text) (how : Reading) (s : ValueSource) (values : List Text) (rows : List Row) → 0 < length values
      → (bytes_eq a id ≡ true → list_all (is_unsigned_in least most) values ≡ true)
      → AreFilled id least most rows → AreFilled id least most (with_values a how s values rows)
  with_values_filled a how s values rows some numbers h =
      at_row_keeps (IsFilled id least most) a (more_values s values) _ rows
      (record { some = some; numbers = numbers }, tt)
      (λ r is hr. (
        record {
          some = rw length-append (omega (arith, hr.some));
          numbers = λ at. rw (list_all-append (is_unsigned_in least most) r.values values, hr.numbers at, numbers (same_id r a id is at)) refl;
        },
        tt,
      )) h

-- ---- one use of an argument

count_passed : (again : Bool) (a : Rule) (values : List Text) (rows : List Row) → use_fault again a values rows ≡ []
    → range_kinds (unwrap_or_range a.range).start_inclusive (unwrap_or_range a.range).end_inclusive (length values) ≡ []
count_passed again a values rows passed = first_passed _ _ passed

action_passed : (again : Bool) (a : Rule) (values : List Text) (rows : List Row) → use_fault again a values rows ≡ []
    → action_fault (action_of a) again a (values_or_missing a values) rows ≡ []
action_passed again a values rows passed = second_passed _ _ passed

-- one value was given
one_given : (values : List Text) → range_kinds 1 1 (length values) ≡ [] → (v : Text) × (values ≡ v ∷ [])
one_given [] none = cc
one_given (v ∷ []) none = (v, refl)
one_given (v ∷ w ∷ vs) none =
    let some : (length (v ∷ w ∷ vs) == 0) ≡ false = ne_eqb _ _ (λ e. omega arith) in
    let not_one : (1 == length (v ∷ w ∷ vs)) ≡ false = ne_eqb _ _ (λ e. omega arith) in
    let bad = rw (some, not_one) at none in
    cc

-- no value was given
none_given : (values : List Text) → range_kinds 0 0 (length values) ≡ [] → values ≡ []
none_given [] none = refl
none_given (v ∷ vs) none =
    let not_none : (0 == length (v ∷ vs)) ≡ false = ne_eqb _ _ (λ e. omega arith) in
    let bad = rw not_none at none in
    cc

some_there : (texts : List Text) → is_text texts ≡ true → 0 < length texts
some_there [] some = cc
some_there (t ∷ ts) some = omega arith

module _ (id : Text) (least most : ℕ) where
  -- a use of an argument that takes one value
  set_filled : (again : Bool) (a : Rule) (values : List Text) (rows : List Row) → action_of a ≡ action.Set
      → (unwrap_or_range a.range).start_inclusive ≡ 1 → (unwrap_or_range a.range).end_inclusive ≡ 1
      → takes_one id least most a ≡ true → use_fault again a values rows ≡ [] → AreFilled id least most rows → AreFilled id least most (used a values rows)
  set_filled again a values rows is start end takes passed h =
      let some : (v : Text) → 0 < length (v ∷ []) = λ v. omega arith in
      let one = one_given values (rw (start, end) at (count_passed again a values rows passed)) in
      let given : values_or_missing a values ≡ one.0 ∷ [] = ap (values_or_missing a) one.1 in
      let acts : action_fault action.Set again a (one.0 ∷ []) rows ≡ [] = rw (is, given) at (action_passed again a values rows passed) in
      let passes : accepts a.ignore_case (parser_of_value a.parser) one.0 ≡ true =
      accepted a.ignore_case (parser_of_value a.parser) one.0 (first_passed _ _ (second_passed _ _ acts)) in
      rw (is, given)
      (with_values_filled id least most a.id _ _ (one.0 ∷ []) (without a.id rows) (some one.0)
      (λ at. rw (in_range a.ignore_case least most (parser_of_value a.parser) one.0 (range_of id least most a takes at) passes) refl)
      (without_filled id least most a.id rows h))

  -- a use of a flag
  flag_filled : (again : Bool) (a : Rule) (values : List Text) (rows : List Row) → action_of a ≡ action.SetTrue
      → (unwrap_or_range a.range).start_inclusive ≡ 0 → (unwrap_or_range a.range).end_inclusive ≡ 0 → is_text a.missing ≡ true
      → takes_one id least most a ≡ true → use_fault again a values rows ≡ [] → AreFilled id least most rows → AreFilled id least most (used a values rows)
  flag_filled again a values rows is start end some takes passed h =
      let none : values ≡ [] = none_given values (rw (start, end) at (count_passed again a values rows passed)) in
      let given : values_or_missing a values ≡ a.missing = ap (values_or_missing a) none in
      let acts : action_fault action.SetTrue again a a.missing rows ≡ [] = rw (is, given) at (action_passed again a values rows passed) in
      rw (is, given)
      (with_values_filled id least most a.id _ _ a.missing (without a.id rows) (some_there a.missing some)
      (λ at. all_in_range a.ignore_case least most (parser_of_value a.parser) a.missing (range_of id least most a takes at) (second_passed _ _ acts))
      (without_filled id least most a.id rows h))

  pub used_filled : (again : Bool) (a : Rule) (values : List Text) (rows : List Row) → takes_one id least most a ≡ true
      → use_fault again a values rows ≡ [] → AreFilled id least most rows → AreFilled id least most (used a values rows)
  used_filled again a values rows takes passed h =
      go (action_of a) refl (and_parts _ _ takes).0
    where
      go : (x : ArgAction) → action_of a ≡ x → one_value x (unwrap_or_range a.range) a.missing ≡ true
          → AreFilled id least most (used a values rows)
      go action.Set is one =
          let ends = and_parts _ _ one in
          set_filled again a values rows is (eqb-true _ 1 ends.0) (eqb-true _ 1 ends.1) takes passed h
      go action.SetTrue is one =
          let parts = and_parts _ _ one in
          let ends = and_parts _ _ parts.0 in
          flag_filled again a values rows is (eqb-true _ 0 ends.0) (eqb-true _ 0 ends.1) parts.1 takes passed h
      go action.Help is one =
          let bad = rw is at (action_passed again a values rows passed) in
          cc
      go other is one = cc
