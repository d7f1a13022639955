-- What the words of a plain check ask for: a check in which the options have set the prefix and numbers alone.
use Rattle.std.proofs.Common.{◌≡◌, ◌∙◌, ◌&&◌, ◌||◌, ◌++◌, ◌<◌, ℕ, zero, suc, Bool, true, false, not, cond, inl, inr, ne_eqb, arith, refl, sym, ap, ap₂, subst, List, [], ◌∷◌, Option, Some, None, codes, fold, length, is_some}
use Rattle.std.specs.Prelude.{Contains, if◌then◌else◌, option_and_then}
use Rattle.std.specs.List.{AllByRecursion, flat_map, list_all, list_any, slice_index_or}
use Rattle.std.specs.Str.{bytes_eq}
use Rattle.std.specs.Option.{option_map_or}
use Rattle.std.proofs.lemmas.Bool.{and_parts}
use Rattle.std.proofs.lemmas.Slice.Eq.{bytes_eq-Decides}
use Rattle.clap.proofs.SimpleLemmas.{is_false}
use Rattle.clap.specs.Facts.{explicit_source, unwrap_or_range}
use Rattle.clap.specs.Takes.{is_given}
use Rattle.clap.proofs.FaultLemmas.{stopped_fault}
use Rattle.clap.proofs.WalkLemmas.{walk_stopped}
use Rattle.clap.specs.Faults.{action_fault, check_fault, default_fault, defaults_fault, entered_fault, given_default_fault, level_fault, repeat_fault, settle_fault, turn_fault, use_fault, values_fault, walk_fault}
use Rattle.clap.specs.Kinds.{Kinds, check_kinds, or_else, range_kinds, request_kinds, value_kinds, values_kinds}
use Rattle.clap.specs.Simple.{Shape, built, entered, names_of, subcommand_of}
use Rattle.clap.specs.Values.{refused_kind}
use Rattle.clap.specs.Walk.{Held, Names, Row, Rule, Text, Walk, action_of, arg_by_id, finished, first_of, has_row, idle, is_empty, most_values, nothing_held, settled, settled_rows, used_by_id, walk_from, walked, with_default}
use Rattle.clap.specs.declared.builder.action.ArgAction.{ArgAction}
use Rattle.clap.specs.declared.builder.action.ArgAction.TheVariants as action
use Rattle.clap.specs.declared.builder.value_parser.ValueParser.{ValueParser}
use Rattle.clap.specs.declared.builder.value_parser.ValueParser.TheVariants as vp
use Rattle.clap.specs.declared.error.kind.ErrorKind.{ErrorKind}
use Rattle.clap.specs.declared.error.kind.ErrorKind.TheVariants.{ArgumentConflict}
use Rattle.command_line.specs.Commands.{cec_app, check_command}
use Rattle.command_line.specs.Plain.{IsPlain}
use Rattle.command_line.specs.PlainWords.{IsPlainCheck, IsPlainOption, PlainCheck, plain_options}
use Rattle.command_line.specs.Saved.{names_left}
use Rattle.command_line.specs.Words.{Asks, CheckCommand, CheckIt, Outcome, Request, Requested, WantInfo, check_in, faults, is_info, is_set, outcome_in, outcome_of, plain_check, saved, with_options}
use Rattle.command_line.proofs.GetterLemmas.{check_made, check_matched}
use Rattle.command_line.proofs.PlainLemmas.{after_plain, completed, fault-plain, going, plain_fault, walked-plain}
use Rattle.command_line.proofs.PlainRowLemmas.{defaults-leave, defaults-unset, is_true, leaves_id, new_first, other_first, row_given, sets_no_flag, used-new}
use Rattle.command_line.proofs.RowLemmas.{first_passed, second_passed}

-- ---- kinds of fault that are no call for help or the version

abbrev Quiet : Kinds → Type 0
Quiet kinds = list_any is_info kinds ≡ false

quiet_else : (x y : Kinds) → Quiet x → Quiet y → Quiet (or_else x y)
quiet_else [] y hx hy = hy
quiet_else (k ∷ ks) y hx hy = hx

quiet_either : (b : Bool) (x y : Kinds) → Quiet x → Quiet y → Quiet (cond b x y)
quiet_either true x y hx hy = hx
quiet_either false x y hx hy = hy

quiet_parser : (parser : ValueParser) → Quiet (refused_kind parser ∷ [])
quiet_parser vp.NonEmptyString = refl
quiet_parser vp.Bool = refl
quiet_parser (vp.Names names) = refl
quiet_parser (vp.Values values) = refl
quiet_parser other = refl

quiet_values : (case : Bool) (parser : ValueParser) (values : List Text) → Quiet (values_kinds case parser values)
quiet_values case parser [] = refl
quiet_values case parser (v ∷ vs) =
    quiet_else (value_kinds case parser v) (values_kinds case parser vs) (quiet_either _ [] (refused_kind parser ∷ []) refl (quiet_parser parser))
    (quiet_values case parser vs)

quiet_checks : (help sub argument : Bool) → Quiet (check_kinds help sub argument)
quiet_checks true sub argument = refl
quiet_checks false true argument = refl
quiet_checks false false true = refl
quiet_checks false false false = refl

quiet_check : (s : Shape) (rows : List Row) (has : Bool) → Quiet (check_fault s rows has)
quiet_check s rows has =
    quiet_checks (not has && (s.arg_required_else_help && not (list_any (λ (r : Row). explicit_source r.source) rows)))
    (not has && s.subcommand_required)
    (not (s.subcommand_negates_reqs && has) && list_any (λ (a : Rule). a.required && not (is_given a.id rows)) s.rules)

-- ---- the command's arguments

abbrev shape : Shape
shape = completed check_command

abbrev rules : List Rule
rules = shape.rules

-- an argument that takes one value
record Known (id : Text) : Type 0 where
  rule : Rule
  found : arg_by_id rules id ≡ Some rule
  same : rule.id ≡ id
  sets : action_of rule ≡ action.Set
  least : (unwrap_or_range rule.range).start_inclusive ≡ 1
  most : most_values rule ≡ 1

data Choice : Type 0 where
  out : Choice
  workers : Choice
  seed : Choice
  words : Choice
  sweep_budget : Choice
  budget : Choice

abbrev id_of : Choice → Text
id_of out = codes "out"
id_of workers = codes "workers"
id_of seed = codes "seed"
id_of words = codes "words"
id_of sweep_budget = codes "sweep-budget"
id_of budget = codes "budget"

abbrev flag_of : Choice → Text
flag_of out = codes "--out"
flag_of workers = codes "--workers"
flag_of seed = codes "--seed"
flag_of words = codes "--words"
flag_of sweep_budget = codes "--sweep-budget"
flag_of budget = codes "--budget"

known-b : Known (codes "b")
known-b = record { rule = _; found = refl; same = refl; sets = refl; least = refl; most = refl }

known : (o : Choice) → Known (id_of o)
known out = record { rule = _; found = refl; same = refl; sets = refl; least = refl; most = refl }
known workers = record { rule = _; found = refl; same = refl; sets = refl; least = refl; most = refl }
known seed = record { rule = _; found = refl; same = refl; sets = refl; least = refl; most = refl }
known words = record { rule = _; found = refl; same = refl; sets = refl; least = refl; most = refl }
known sweep_budget = record { rule = _; found = refl; same = refl; sets = refl; least = refl; most = refl }
known budget = record { rule = _; found = refl; same = refl; sets = refl; least = refl; most = refl }

-- the choice that a plain option's name is
chosen : (name : Text) → Contains plain_options name → (o : Choice) × (name ≡ flag_of o)
chosen name has = go has.0 has.1 has.2
  where
    go : (k : ℕ) → k < 6 → slice_index_or plain_options k name ≡ name → (o : Choice) × (name ≡ flag_of o)
    go zero few is = (out, sym is)
    go (suc zero) few is = (workers, sym is)
    go (suc (suc zero)) few is = (seed, sym is)
    go (suc (suc (suc zero))) few is = (words, sym is)
    go (suc (suc (suc (suc zero)))) few is = (sweep_budget, sym is)
    go (suc (suc (suc (suc (suc zero))))) few is = (budget, sym is)
    go (suc (suc (suc (suc (suc (suc k)))))) few is = absurd (omega (arith, few))

-- ---- the walk over the options, two words at a time

-- where it stands between two options: these rows, and an argument with its value, which isn't a row yet
abbrev held : List Row → Text → Text → Held
held rows id value = record { rows = rows; pending = Some (id, value ∷ []); skip = 0 }

abbrev between : List Row → Text → Text → Walk
between rows id value = record { held = held rows id value; waiting = idle; position = 3; is_trailing = false; stopped = None }

-- the rows with that one
abbrev rows_with : List Row → Text → Text → List Row
rows_with rows id value = settled_rows rules (Some (id, value ∷ [])) rows

abbrev fault_at : List Row → Text → Text → Kinds
fault_at rows id value = settle_fault rules shape.args_override_self (held rows id value)

next-walk : (o : Choice) (rows : List Row) (id value word : Text) → IsPlain word
    → walked rules [] (walked rules [] (between rows id value) (flag_of o)) word ≡ between (rows_with rows id value) (id_of o) word
unfolding walked
next-walk out rows id value word plain = walked-plain rules (walked rules [] (between rows id value) (flag_of out)) word plain refl
next-walk workers rows id value word plain = walked-plain rules (walked rules [] (between rows id value) (flag_of workers)) word plain refl
next-walk seed rows id value word plain = walked-plain rules (walked rules [] (between rows id value) (flag_of seed)) word plain refl
next-walk words rows id value word plain = walked-plain rules (walked rules [] (between rows id value) (flag_of words)) word plain refl
next-walk sweep_budget rows id value word plain = walked-plain rules (walked rules [] (between rows id value) (flag_of sweep_budget)) word plain refl
next-walk budget rows id value word plain = walked-plain rules (walked rules [] (between rows id value) (flag_of budget)) word plain refl

flag-fault : (o : Choice) (rows : List Row) (id value : Text)
    → turn_fault shape [] (between rows id value) (flag_of o) ≡ or_else (fault_at rows id value) []
flag-fault out rows id value = refl
flag-fault workers rows id value = refl
flag-fault seed rows id value = refl
flag-fault words rows id value = refl
flag-fault sweep_budget rows id value = refl
flag-fault budget rows id value = refl

word-fault : (o : Choice) (rows : List Row) (id value word : Text) → IsPlain word
    → turn_fault shape [] (walked rules [] (between rows id value) (flag_of o)) word ≡ []
unfolding walked
word-fault out rows id value word plain = fault-plain shape (walked rules [] (between rows id value) (flag_of out)) word plain refl
word-fault workers rows id value word plain = fault-plain shape (walked rules [] (between rows id value) (flag_of workers)) word plain refl
word-fault seed rows id value word plain = fault-plain shape (walked rules [] (between rows id value) (flag_of seed)) word plain refl
word-fault words rows id value word plain = fault-plain shape (walked rules [] (between rows id value) (flag_of words)) word plain refl
word-fault sweep_budget rows id value word plain = fault-plain shape (walked rules [] (between rows id value) (flag_of sweep_budget)) word plain refl
word-fault budget rows id value word plain = fault-plain shape (walked rules [] (between rows id value) (flag_of budget)) word plain refl

-- ---- what holds of the rows then

-- the ids of which a plain check has no value
abbrev unused : List Text
unused =
    codes "edits" ∷ codes "load" ∷ codes "save" ∷ codes "witness" ∷ codes "match" ∷ codes "stats" ∷ codes "progress" ∷ []

abbrev AreAbsent : List Row → List Text → Type 0
AreAbsent rows = AllByRecursion (λ (id : Text). first_of id rows ≡ None)

record Rows (a b : Text) (prefix : Option Text) (rows : List Row) : Type 0 where
  first : first_of (codes "a") rows ≡ Some a
  second : first_of (codes "b") rows ≡ Some b
  prefix_is : first_of (codes "out") rows ≡ prefix
  absent : AreAbsent rows unused

module _ (id : Text) (k : Known id) (rows : List Row) (value : Text) where
  use_is : fault_at rows id value ≡ use_fault false k.rule (value ∷ []) rows
  use_is = ap (λ (found : Option Rule). option_map_or (λ (x : Rule). use_fault false x (value ∷ []) rows) found []) k.found

  quiet_use : Quiet (fault_at rows id value)
  quiet_use = subst Quiet (sym use_is)
      (quiet_else (range_kinds (unwrap_or_range k.rule.range).start_inclusive (most_values k.rule) 1) _ range acts)
    where
      range : Quiet (range_kinds (unwrap_or_range k.rule.range).start_inclusive (most_values k.rule) 1)
      range = rw (k.least, k.most) refl

      acts : Quiet (action_fault (action_of k.rule) false k.rule (value ∷ []) rows)
      acts = rw k.sets
          (quiet_else (repeat_fault false k.rule.id rows) (values_fault k.rule (value ∷ []))
          (quiet_either (has_row k.rule.id rows && not false) _ [] refl refl) (quiet_values _ _ (value ∷ [])))

  module _ (passed : fault_at rows id value ≡ []) where
    no_row : has_row k.rule.id rows ≡ false
    no_row = go (has_row k.rule.id rows) (first_passed (repeat_fault false k.rule.id rows) (values_fault k.rule (value ∷ [])) sets)
      where
        acts : action_fault (action_of k.rule) false k.rule (value ∷ []) rows ≡ []
        acts = second_passed (range_kinds (unwrap_or_range k.rule.range).start_inclusive (most_values k.rule) 1)
            (action_fault (action_of k.rule) false k.rule (value ∷ []) rows) (sym use_is ∙ passed)

        sets : action_fault action.Set false k.rule (value ∷ []) rows ≡ []
        sets = ap (λ (x : ArgAction). action_fault x false k.rule (value ∷ []) rows) (sym k.sets) ∙ acts

        go : (b : Bool) → cond (b && not false) (ArgumentConflict ∷ []) [] ≡ [] → b ≡ false
        go true none = cc
        go false none = refl

    rows_are : rows_with rows id value ≡ rows ++ row_given k.rule value ∷ []
    rows_are = ap (λ (found : Option Rule). used_by_id found (value ∷ []) rows) k.found ∙ used-new k.rule value rows k.sets no_row

    keeps : (j : Text) → bytes_eq id j ≡ false → first_of j (rows_with rows id value) ≡ first_of j rows
    keeps j apart =
        ap (first_of j) rows_are
        ∙ other_first rows (row_given k.rule value) j (subst (λ (t : Text). bytes_eq t j ≡ false) (sym k.same) apart)

    takes : first_of id (rows_with rows id value) ≡ Some value
    takes = ap (first_of id) rows_are
        ∙ new_first rows (row_given k.rule value) id ((bytes_eq-Decides k.rule.id id).1 k.same)
        (subst (λ (t : Text). has_row t rows ≡ false) k.same no_row)

    leaves : (ids : List Text) → list_all (λ (j : Text). not (bytes_eq id j)) ids ≡ true → AreAbsent rows ids
        → AreAbsent (rows_with rows id value) ids
    leaves [] apart absent = tt
    leaves (j ∷ ids) apart absent =
        let both = and_parts (not (bytes_eq id j)) (list_all (λ (i : Text). not (bytes_eq id i)) ids) apart in
        (keeps j (is_false (bytes_eq id j) both.0) ∙ absent.0, leaves ids both.1 absent.1)

    -- an option that is a number
    keeps_all : (a b : Text) (prefix : Option Text) → bytes_eq id (codes "a") ≡ false → bytes_eq id (codes "b") ≡ false
        → bytes_eq id (codes "out") ≡ false → list_all (λ (j : Text). not (bytes_eq id j)) unused ≡ true
        → Rows a b prefix rows → Rows a b prefix (rows_with rows id value)
    keeps_all a b prefix not_a not_b not_out apart r = record {
      first = keeps (codes "a") not_a ∙ r.first;
      second = keeps (codes "b") not_b ∙ r.second;
      prefix_is = keeps (codes "out") not_out ∙ r.prefix_is;
      absent = leaves unused apart r.absent;
    }

-- the prefix after one more option
abbrev prefix_after : Option Text → Choice → Text → Option Text
prefix_after prefix o word = if bytes_eq (flag_of o) (codes "--out") then Some word else prefix

one_more : (a b : Text) (prefix : Option Text) (o : Choice) (rows : List Row) (word : Text) → fault_at rows (id_of o) word ≡ []
    → Rows a b prefix rows → Rows a b (prefix_after prefix o word) (rows_with rows (id_of o) word)
one_more a b prefix out rows word passed r = record {
  first = keeps (codes "out") (known out) rows word passed (codes "a") refl ∙ r.first;
  second = keeps (codes "out") (known out) rows word passed (codes "b") refl ∙ r.second;
  prefix_is = takes (codes "out") (known out) rows word passed;
  absent = leaves (codes "out") (known out) rows word passed unused refl r.absent;
}
one_more a b prefix workers rows word passed r = keeps_all (codes "workers") (known workers) rows word passed a b prefix refl refl refl refl r
one_more a b prefix seed rows word passed r = keeps_all (codes "seed") (known seed) rows word passed a b prefix refl refl refl refl r
one_more a b prefix words rows word passed r = keeps_all (codes "words") (known words) rows word passed a b prefix refl refl refl refl r
one_more a b prefix sweep_budget rows word passed r =
    keeps_all (codes "sweep-budget") (known sweep_budget) rows word passed a b prefix refl refl refl refl r
one_more a b prefix budget rows word passed r = keeps_all (codes "budget") (known budget) rows word passed a b prefix refl refl refl refl r

-- ---- all options

abbrev Choices : Type 0
Choices = List (Choice × Text)

abbrev option_words : Choices → List Text
option_words [] = []
option_words (o ∷ os) = flag_of o.0 ∷ o.1 ∷ option_words os

abbrev ArePlain : Choices → Type 0
ArePlain = AllByRecursion (λ (o : Choice × Text). IsPlain o.1)

abbrev prefix_of : Option Text → Choices → Option Text
prefix_of prefix [] = prefix
prefix_of prefix (o ∷ os) = prefix_of (prefix_after prefix o.0 o.1) os

-- what is held behind them, and the faults of the walk
abbrev held_after : List Row → Text → Text → Choices → Held
held_after rows id value [] = held rows id value
held_after rows id value (o ∷ os) = held_after (rows_with rows id value) (id_of o.0) o.1 os

abbrev kinds_of : List Row → Text → Text → Choices → Kinds
kinds_of rows id value [] = []
kinds_of rows id value (o ∷ os) = or_else (or_else (fault_at rows id value) []) (kinds_of (rows_with rows id value) (id_of o.0) o.1 os)

walk-options : (rows : List Row) (id value : Text) (os : Choices) → ArePlain os
    → (fold (walked rules []) (between rows id value) (option_words os)).held ≡ held_after rows id value os
walk-options rows id value [] plain = refl
walk-options rows id value (o ∷ os) plain =
    ap (λ (w : Walk). (fold (walked rules []) w (option_words os)).held) (next-walk o.0 rows id value o.1 plain.0)
    ∙ walk-options (rows_with rows id value) (id_of o.0) o.1 os plain.1

faults-options : (rows : List Row) (id value : Text) (os : Choices) → ArePlain os
    → walk_fault shape [] (between rows id value) (option_words os) ≡ kinds_of rows id value os
unfolding walk_fault
faults-options rows id value [] plain = refl
faults-options rows id value (o ∷ os) plain =
    ap₂ or_else (flag-fault o.0 rows id value)
    (ap₂ or_else (word-fault o.0 rows id value o.1 plain.0)
    (ap (λ (w : Walk). walk_fault shape [] w (option_words os)) (next-walk o.0 rows id value o.1 plain.0)
    ∙ faults-options (rows_with rows id value) (id_of o.0) o.1 os plain.1))

abbrev fault_after : Held → Kinds
fault_after h = settle_fault rules shape.args_override_self h

quiet_options : (rows : List Row) (id value : Text) (os : Choices) → Known id → Quiet (kinds_of rows id value os)
quiet_options rows id value [] k = refl
quiet_options rows id value (o ∷ os) k =
    quiet_else (or_else (fault_at rows id value) []) _ (quiet_else (fault_at rows id value) [] (quiet_use id k rows value) refl)
    (quiet_options (rows_with rows id value) (id_of o.0) o.1 os (known o.0))

quiet_after : (rows : List Row) (id value : Text) (os : Choices) → Known id → Quiet (fault_after (held_after rows id value os))
quiet_after rows id value [] k = quiet_use id k rows value
quiet_after rows id value (o ∷ os) k = quiet_after (rows_with rows id value) (id_of o.0) o.1 os (known o.0)

-- where no fault is found, none is in the first of them
first_settles : (rows : List Row) (id value : Text) (os : Choices) → kinds_of rows id value os ≡ []
    → fault_after (held_after rows id value os) ≡ [] → fault_at rows id value ≡ []
first_settles rows id value [] none last = last
first_settles rows id value (o ∷ os) none last = first_passed _ _ (first_passed _ _ none)

rows_after : (a b : Text) (prefix : Option Text) (rows : List Row) (id value : Text) (os : Choices)
    → kinds_of rows id value os ≡ [] → fault_after (held_after rows id value os) ≡ [] → Rows a b prefix (rows_with rows id value)
    → Rows a b (prefix_of prefix os) (settled rules (held_after rows id value os)).rows
rows_after a b prefix rows id value [] none last r = r
rows_after a b prefix rows id value (o ∷ os) none last r =
    let others : kinds_of (rows_with rows id value) (id_of o.0) o.1 os ≡ [] = second_passed _ _ none in
    rows_after a b (prefix_after prefix o.0 o.1) (rows_with rows id value) (id_of o.0) o.1 os others last
    (one_more a b prefix o.0 (rows_with rows id value) o.1
    (first_settles (rows_with rows id value) (id_of o.0) o.1 os others last) r)

-- ---- what the words come to

-- the command line after the word `check`
abbrev top : Shape
top = (built cec_app).top

abbrev commands : Names
commands = names_of (built cec_app)

abbrev at_check : List Text → Walk
at_check ws = record (walk_from nothing_held) { stopped = Some (codes "check", ws) }

after-check : (ws : List Text) → fold (walked top.rules commands) (walk_from nothing_held) (codes "check" ∷ ws) ≡ at_check ws
unfolding walked
after-check ws = sym (walk_stopped top.rules commands (walk_from nothing_held) (codes "check") [] ws)

no-fault-above : (ws : List Text) → walk_fault top commands (walk_from nothing_held) (codes "check" ∷ ws) ≡ []
unfolding walk_fault walked
no-fault-above ws = stopped_fault top commands (walk_from nothing_held) (codes "check", []) ws

-- the faults of the command's own words
abbrev own_faults : List Text → Kinds
own_faults ws = level_fault shape [] nothing_held ws false []

abbrev all_faults : Walk → Kinds → Kinds
all_faults w walking =
    or_else walking
    (or_else (entered_fault (built cec_app) w.stopped)
    (or_else (settle_fault top.rules top.args_override_self w.held)
    (or_else (defaults_fault (settled top.rules w.held).rows top.rules)
    (check_fault top (finished top.rules w.held) (is_some (entered (built cec_app) w.stopped))))))

faults-check : (program : Text) (ws : List Text) → faults (program ∷ codes "check" ∷ ws) ≡ or_else (own_faults ws) []
unfolding faults defaults_fault
faults-check program ws =
    ap (λ (w : Walk). all_faults w (walk_fault top commands (walk_from nothing_held) (codes "check" ∷ ws))) (after-check ws)
    ∙ ap (all_faults (at_check ws)) (no-fault-above ws)

-- the rows of the command's own words
abbrev own_rows : List Text → List Row
own_rows ws = finished rules (fold (walked rules []) (walk_from nothing_held) ws).held

named-check : (program : Text) (ws : List Text) → subcommand_of cec_app (program ∷ codes "check" ∷ ws) ≡ Some (codes "check", own_rows ws)
named-check program ws = ap (λ (w : Walk). entered (built cec_app) w.stopped) (after-check ws)

some_length : (k : ErrorKind) (ks : Kinds) → is_empty (k ∷ ks) ≡ false
some_length k ks = ne_eqb (length (k ∷ ks)) 0 (λ e. omega arith)

comes-to : (program : Text) (ws : List Text) (r : Request) → Asks (program ∷ codes "check" ∷ ws) r
    → (own_faults ws ≡ []) × (check_in (own_rows ws) ≡ Some (Requested r))
unfolding outcome_of
comes-to program ws r asks = go (faults (program ∷ codes "check" ∷ ws)) refl asks
  where
    go : (found : Kinds) → faults (program ∷ codes "check" ∷ ws) ≡ found
        → (if not false && is_empty found then option_and_then (λ p. outcome_in p.0 p.1) (subcommand_of cec_app (program ∷ codes "check" ∷ ws)) else None)
        ≡ Some (Requested r)
        → (own_faults ws ≡ []) × (check_in (own_rows ws) ≡ Some (Requested r))
    go [] is asks = (
      first_passed (own_faults ws) [] (sym (faults-check program ws) ∙ is),
      sym (ap (λ (p : Option (Text × List Row)). option_and_then (λ p. outcome_in p.0 p.1) p) (named-check program ws)) ∙ asks,
    )
    go (k ∷ ks) is asks = let bad = rw (some_length k ks) at asks in cc

-- ---- the two names

plain-first : (w : Walk) (word : Text) (ws : List Text) → IsPlain word → w ≡ going w
    → walk_fault shape [] w (word ∷ ws) ≡ or_else (plain_fault shape w word) (walk_fault shape [] (after_plain rules w word) ws)
unfolding walk_fault
plain-first w word ws plain same =
    ap₂ or_else (fault-plain shape w word plain same) (ap (λ (v : Walk). walk_fault shape [] v ws) (walked-plain rules w word plain same))

abbrev rows_a : Text → List Row
rows_a a = settled_rows rules (Some (codes "a", a ∷ [])) []

module _ (a b : Text) (plain_a : IsPlain a) (plain_b : IsPlain b) where
  abbrev after_a : Walk
  after_a = after_plain rules (walk_from nothing_held) a

  names-walk : (ws : List Text) → fold (walked rules []) (walk_from nothing_held) (a ∷ b ∷ ws) ≡ fold (walked rules []) (between (rows_a a) (codes "b") b) ws
  names-walk ws =
      ap (λ (w : Walk). fold (walked rules []) (walked rules [] w b) ws) (walked-plain rules (walk_from nothing_held) a plain_a refl)
      ∙ ap (λ (w : Walk). fold (walked rules []) w ws) (walked-plain rules after_a b plain_b refl)

  names-faults : (ws : List Text)
      → walk_fault shape [] (walk_from nothing_held) (a ∷ b ∷ ws) ≡ walk_fault shape [] (between (rows_a a) (codes "b") b) ws
  names-faults ws = plain-first (walk_from nothing_held) a (b ∷ ws) plain_a refl ∙ plain-first after_a b ws plain_b refl

-- ---- the check

-- an argument whose default is no call for help
abbrev quiet_default : Rule → Bool
quiet_default a = is_empty a.defaults || not (list_any is_info (request_kinds (action_of a)))

quiet_default_fault : (rows : List Row) (a : Rule) → quiet_default a ≡ true → Quiet (default_fault rows a)
quiet_default_fault rows a is = go (has_row a.id rows) (is_empty a.defaults) is
  where
    go : (has none : Bool) → (none || not (list_any is_info (request_kinds (action_of a)))) ≡ true
        → Quiet (if has || none then [] else given_default_fault a a.defaults)
    go true none is = refl
    go false true is = refl
    go false false is = quiet_else (request_kinds (action_of a)) _ (is_false _ is) (quiet_values _ _ a.defaults)

quiet_defaults : (rows : List Row) (args : List Rule) → list_all quiet_default args ≡ true → Quiet (defaults_fault rows args)
unfolding defaults_fault
quiet_defaults rows [] quiet = refl
quiet_defaults rows (a ∷ args) quiet =
    let both = and_parts (quiet_default a) (list_all quiet_default args) quiet in
    quiet_else (default_fault rows a) _ (quiet_default_fault rows a both.0) (quiet_defaults (with_default rows a) args both.1)

-- a check that saves nothing and leaves no witness is asked for as it is
none_left : (prefix : Option Text) → names_left prefix None ≡ false
none_left None = refl
none_left (Some prefix) = refl

saved-nothing : (c : CheckCommand) → c.save ≡ None → c.witness ≡ None → saved c ≡ Requested (CheckIt c)
saved-nothing c save witness = rw (save, witness, none_left c.out) refl

some_same : (x y : Outcome) → Some x ≡ Some y → x ≡ y
some_same x y same = cc

requested : (r s : Request) → Requested r ≡ Requested s → r ≡ s
requested r s same = cc

abbrev words_behind : Text → Text → Choices → List Text
words_behind a b os = a ∷ b ∷ option_words os

module _ (a b : Text) (os : Choices) (plain_a : IsPlain a) (plain_b : IsPlain b) (plain : ArePlain os) where
  abbrev end : Held
  end = held_after (rows_a a) (codes "b") b os

  end-is : (fold (walked rules []) (walk_from nothing_held) (words_behind a b os)).held ≡ end
  end-is = ap (λ (w : Walk). w.held) (names-walk a b plain_a plain_b (option_words os)) ∙ walk-options (rows_a a) (codes "b") b os plain

  walking-is : walk_fault shape [] (walk_from nothing_held) (words_behind a b os) ≡ kinds_of (rows_a a) (codes "b") b os
  walking-is = names-faults a b plain_a plain_b (option_words os) ∙ faults-options (rows_a a) (codes "b") b os plain

  -- all faults of the command's own words
  abbrev faults_by : Held → Kinds → Kinds
  faults_by h walking =
      or_else walking
      (or_else [] (or_else (fault_after h) (or_else (defaults_fault (settled rules h).rows rules) (check_fault shape (finished rules h) false))))

  own-faults : own_faults (words_behind a b os) ≡ faults_by end (kinds_of (rows_a a) (codes "b") b os)
  own-faults =
      ap (λ (h : Held). faults_by h (walk_fault shape [] (walk_from nothing_held) (words_behind a b os))) end-is
      ∙ ap (faults_by end) walking-is

  quiet_own : Quiet (own_faults (words_behind a b os))
  quiet_own = subst Quiet (sym own-faults)
      (quiet_else (kinds_of (rows_a a) (codes "b") b os) _ (quiet_options (rows_a a) (codes "b") b os known-b)
      (quiet_else (fault_after end) _ (quiet_after (rows_a a) (codes "b") b os known-b)
      (quiet_else (defaults_fault (settled rules end).rows rules) _ (quiet_defaults (settled rules end).rows rules refl) (quiet_check shape (finished rules end) false))))

  uninformed : (program : Text) → ¬ WantInfo (program ∷ codes "check" ∷ words_behind a b os)
  uninformed program wants =
      let quiet : Quiet (faults (program ∷ codes "check" ∷ words_behind a b os)) =
      subst Quiet (sym (faults-check program (words_behind a b os))) (quiet_else (own_faults (words_behind a b os)) [] quiet_own refl) in
      elim wants [
        | inl help ↦ let bad : true ≡ false = sym (ap (list_any is_info) help.1) ∙ quiet in cc
        | inr version ↦ let bad : true ≡ false = sym (ap (list_any is_info) version.1) ∙ quiet in cc
      ]

  module _ (passed : own_faults (words_behind a b os) ≡ []) where
    rows-end : Rows a b (prefix_of None os) (settled rules end).rows
    rows-end =
        let all : faults_by end (kinds_of (rows_a a) (codes "b") b os) ≡ [] = sym own-faults ∙ passed in
        rows_after a b None (rows_a a) (codes "b") b os (first_passed _ _ all)
        (first_passed (fault_after end) _ (second_passed (kinds_of (rows_a a) (codes "b") b os) _ all))
        (record { first = refl; second = refl; prefix_is = refl; absent = (refl, (refl, (refl, (refl, (refl, (refl, (refl, tt))))))) })

    abbrev found : List Row
    found = own_rows (words_behind a b os)

    found-is : (id : Text) → list_all (leaves_id id) rules ≡ true → first_of id found ≡ first_of id (settled rules end).rows
    found-is id leave =
        ap (λ (h : Held). first_of id (finished rules h)) end-is ∙ defaults-leave id (settled rules end).rows rules leave

    not_set : (id : Text) → list_all (sets_no_flag id) rules ≡ true → first_of id (settled rules end).rows ≡ None → is_set id found ≡ false
    not_set id off none =
        ap (λ (h : Held). is_set id (finished rules h)) end-is
        ∙ defaults-unset id (settled rules end).rows rules off (ap is_true none)

    abbrev command : CheckCommand
    command = with_options found (plain_check a b)

    save_is : first_of (codes "save") found ≡ None
    save_is = found-is (codes "save") refl ∙ rows-end.absent.1.1.0

    witness_is : first_of (codes "witness") found ≡ None
    witness_is = found-is (codes "witness") refl ∙ rows-end.absent.1.1.1.0

    match_is : first_of (codes "match") found ≡ None
    match_is = found-is (codes "match") refl ∙ rows-end.absent.1.1.1.1.0

    command_is : IsPlainCheck a b (prefix_of None os) command
    command_is = record {
      a_is = refl;
      b_is = refl;
      out_is = found-is (codes "out") refl ∙ rows-end.prefix_is;
      no_edits = found-is (codes "edits") refl ∙ rows-end.absent.0;
      no_load = found-is (codes "load") refl ∙ rows-end.absent.1.0;
      no_save = save_is;
      no_witness = witness_is;
      by_position = refl;
      no_stats = not_set (codes "stats") refl rows-end.absent.1.1.1.1.1.0;
      no_progress = not_set (codes "progress") refl rows-end.absent.1.1.1.1.1.1.0;
    }

    comes : check_in found ≡ Some (Requested (CheckIt command))
    comes =
        check_matched found None command (Requested (CheckIt command)) match_is
        (check_made found a b (found-is (codes "a") refl ∙ rows-end.first) (found-is (codes "b") refl ∙ rows-end.second))
        (sym (saved-nothing command save_is witness_is))

  asked : (program : Text) (r : Request) → Asks (program ∷ codes "check" ∷ words_behind a b os) r
      → (c : CheckCommand) × (r ≡ CheckIt c) × IsPlainCheck a b (prefix_of None os) c
  asked program r asks =
      let told = comes-to program (words_behind a b os) r asks in
      (command told.0, requested r (CheckIt (command told.0)) (some_same _ _ (sym told.1 ∙ comes told.0)), command_is told.0)

-- ---- the words as they are written

abbrev spread : List (Text × Text) → List Text
spread = flat_map (λ o. o.0 ∷ o.1 ∷ [])

record Chosen (options : List (Text × Text)) : Type 0 where
  choices : Choices
  plain : ArePlain choices
  words_are : spread options ≡ option_words choices
  prefix_is : (prefix : Option Text)
      → fold (λ out option. if bytes_eq option.0 (codes "--out") then Some option.1 else out) prefix options ≡ prefix_of prefix choices

choices_of : (options : List (Text × Text)) → AllByRecursion IsPlainOption options → Chosen options
choices_of [] each = record { choices = []; plain = tt; words_are = refl; prefix_is = λ prefix. refl }
choices_of (o ∷ options) each =
    let choice = chosen o.0 each.0.named in
    let others = choices_of options each.1 in
    record {
      choices = (choice.0, o.1) ∷ others.choices;
      plain = (each.0.plain, others.plain);
      words_are = ap₂ (λ (name : Text) (ws : List Text). name ∷ o.1 ∷ ws) choice.1 others.words_are;
      prefix_is = λ prefix.
          ap (λ (name : Text). fold (λ out option. if bytes_eq option.0 (codes "--out") then Some option.1 else out)
          (if bytes_eq name (codes "--out") then Some o.1 else prefix) options) choice.1
          ∙ others.prefix_is (prefix_after prefix choice.0 o.1);
    }

module _ (words : List Text) (a b : Text) (out : Option Text) (p : PlainCheck a b out words) where
  abbrev made : Chosen p.options
  made = choices_of p.options p.plain

  words-are : words ≡ p.program ∷ codes "check" ∷ words_behind a b made.choices
  words-are = p.words_are ∙ ap (λ (ws : List Text). p.program ∷ codes "check" ∷ a ∷ b ∷ ws) made.words_are

  pub plain-asked : (r : Request) → Asks words r → (c : CheckCommand) × (r ≡ CheckIt c) × IsPlainCheck a b out c
  plain-asked r asks =
      let told = asked a b made.choices p.plain_a p.plain_b made.plain p.program r (subst (λ (ws : List Text). Asks ws r) words-are asks) in
      (told.0, told.1, subst (λ (o : Option Text). IsPlainCheck a b o told.0) (sym (p.out_is ∙ made.prefix_is None)) told.2)

  pub plain-uninformed : ¬ WantInfo words
  plain-uninformed wants =
      uninformed a b made.choices p.plain_a p.plain_b made.plain p.program (subst WantInfo words-are wants)
