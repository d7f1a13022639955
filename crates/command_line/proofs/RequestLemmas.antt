-- Words without a fault ask for something, or one of them is none of the names that its argument takes.
use Rattle.std.proofs.Common.{◌≡◌, ◌&&◌, ℕ, Bool, true, false, not, refl, sym, subst, codes, List, [], Option, Some, None, is_some, find}
use Rattle.std.specs.Prelude.{option_and_then, option_map}
use Rattle.std.specs.List.{AllByRecursion, list_all, list_any}
use Rattle.std.specs.Option.{option_map_or}
use Rattle.clap.specs.Kinds.{check_kinds, or_else}
use Rattle.clap.specs.Facts.{explicit_source}
use Rattle.clap.specs.Faults.{built_fault, check_fault, defaults_fault, entered_fault, level_fault, settle_fault, walk_fault}
use Rattle.clap.specs.Simple.{App, Shape, argument_words, built, entered, label_of, names_of, rows_at, subcommand_of}
use Rattle.clap.specs.Takes.{is_given}
use Rattle.clap.specs.ValueTests.{is_unsigned_in}
use Rattle.clap.specs.Walk.{Held, Row, Rule, Text, answers_to, arg_by_id, finished, first_of, nothing_held, rows_after, settled, walk, walk_from}
use Rattle.command_line.specs.Commands.{cec_app}
use Rattle.workload_gen.specs.declared.workload.TheConstants.{MOST_BITS}
use Rattle.command_line.specs.Words.{check_of, faults, fraig_of, lrat_of, number_in, outcome_in, matched, self_of, written}
use Rattle.command_line.proofs.FoundLemmas.{found_holds}
use Rattle.command_line.proofs.LevelLemmas.{required_number, required_value}
use Rattle.command_line.proofs.RowLemmas.{first_passed, second_passed, takes_one}

-- ---- the command that the words name

-- a command that has to be there is there
command_there : (help required has argument : Bool) → required ≡ true
    → check_kinds (not has && help) (not has && required) argument ≡ [] → has ≡ true
command_there help required true argument is passed = refl
command_there true required false argument is passed = cc
command_there false required false argument is passed = let bad = rw is at passed in cc

-- what the command that is entered gives, where each of the commands gives it from words without a fault
entered_gives : {X : Type 0} (f : Text × List Row → Option X) (a : App) (stop : Option (Text × List Text))
    → AllByRecursion (λ s. (words : List Text) → level_fault s [] nothing_held words false [] ≡ [] → is_some (f (rows_at s words)) ≡ true) a.subs
    → is_some (entered a stop) ≡ true → entered_fault a stop ≡ [] → is_some (option_and_then f (entered a stop)) ≡ true
entered_gives f a None each there passed = cc
entered_gives f a (Some p) each there passed = go (find (λ s. answers_to p.0 (label_of s)) a.subs) refl there passed
  where
    go : (found : Option Shape) → find (λ (s : Shape). answers_to p.0 (label_of s)) a.subs ≡ found
        → is_some (option_map (λ (s : Shape). rows_at s p.1) found) ≡ true
        → option_map_or (λ (s : Shape). level_fault s [] nothing_held p.1 false []) found [] ≡ []
        → is_some (option_and_then f (option_map (λ (s : Shape). rows_at s p.1) found)) ≡ true
    go None is there passed = cc
    go (Some s) is there passed = found_holds _ _ a.subs s each is p.1 passed

-- the same of a built command that requires a subcommand
module _ (a : App) (words : List Text) where
  abbrev stop : Option (Text × List Text)
  stop = (walk a.top.rules (names_of a) nothing_held words).stopped

  abbrev end : Held
  end = (walk a.top.rules (names_of a) nothing_held words).held

  abbrev rows : List Row
  rows = finished a.top.rules end

  after_walk : built_fault a nothing_held words ≡ []
      → or_else (entered_fault a stop) (or_else (settle_fault a.top.rules a.top.args_override_self end)
      (or_else (defaults_fault (settled a.top.rules end).rows a.top.rules) (check_fault a.top rows (is_some (entered a stop))))) ≡ []
  after_walk passed = second_passed (walk_fault a.top (names_of a) (walk_from nothing_held) words) _ passed

  there : a.top.subcommand_required ≡ true → built_fault a nothing_held words ≡ [] → is_some (entered a stop) ≡ true
  there required passed =
      command_there (a.top.arg_required_else_help && not (list_any (λ r. explicit_source r.source) rows))
      a.top.subcommand_required (is_some (entered a stop))
      (not (a.top.subcommand_negates_reqs && is_some (entered a stop)) && list_any (λ x. x.required && not (is_given x.id rows)) a.top.rules)
      required
      (second_passed (defaults_fault (settled a.top.rules end).rows a.top.rules) _
      (second_passed (settle_fault a.top.rules a.top.args_override_self end) _
      (second_passed (entered_fault a stop) _ (after_walk passed))))

  pub built_gives : {X : Type 0} (f : Text × List Row → Option X) → a.top.subcommand_required ≡ true
      → AllByRecursion (λ s. (ws : List Text) → level_fault s [] nothing_held ws false [] ≡ [] → is_some (f (rows_at s ws)) ≡ true) a.subs
      → built_fault a nothing_held words ≡ [] → is_some (option_and_then f (entered a stop)) ≡ true
  built_gives f required each passed =
      entered_gives f a stop each (there required passed) (first_passed _ _ (after_walk passed))

-- ---- the program's commands

check_some : (a b pairing : Option Text) (rows : List Row) → is_some a ≡ true → is_some b ≡ true
    → is_some (option_map (matched pairing) (check_of a b rows)) ≡ true
check_some (Some a) (Some b) pairing rows ha hb = refl
check_some None b pairing rows ha hb = cc
check_some (Some a) None pairing rows ha hb = cc

fraig_some : (a reduced : Option Text) (rows : List Row) → is_some a ≡ true → is_some reduced ≡ true
    → is_some (option_map written (fraig_of a reduced rows)) ≡ true
fraig_some (Some a) (Some reduced) rows ha hr = refl
fraig_some None reduced rows ha hr = cc
fraig_some (Some a) None rows ha hr = cc

lrat_some : (cnf proof : Option Text) → is_some cnf ≡ true → is_some proof ≡ true → is_some (lrat_of cnf proof) ≡ true
lrat_some (Some cnf) (Some proof) hc hp = refl
lrat_some None proof hc hp = cc
lrat_some (Some cnf) None hc hp = cc

number_some : (least most : ℕ) (value : Option Text) (t : Text) → value ≡ Some t → is_unsigned_in least most t ≡ true
    → is_some (option_and_then (number_in least most) value) ≡ true
number_some least most value t is fits = rw (is, fits) refl

-- a required argument, under its id
named_value : (id : Text) (least most : ℕ) (s : Shape) (words : List Text) → list_all (takes_one id least most) s.rules ≡ true
    → level_fault s [] nothing_held words false [] ≡ [] → (name : Text) (a : Rule) → arg_by_id s.rules name ≡ Some a → a.required ≡ true
    → a.id ≡ name → is_some (first_of name (rows_after s.rules [] words)) ≡ true
named_value id least most s words takes passed name a is required same =
    subst (λ (t : Text). is_some (first_of t (rows_after s.rules [] words)) ≡ true) same
    (required_value id least most s words takes passed a
    (subst (λ (t : Text). arg_by_id s.rules t ≡ Some a) (sym same) is) required)

-- `check` gives two names
check_given : (s : Shape) (a b : Rule) (words : List Text) → list_all (takes_one [] 0 0) s.rules ≡ true
    → arg_by_id s.rules (codes "a") ≡ Some a → a.required ≡ true → a.id ≡ codes "a"
    → arg_by_id s.rules (codes "b") ≡ Some b → b.required ≡ true → b.id ≡ codes "b"
    → level_fault s [] nothing_held words false [] ≡ []
    → is_some (outcome_in (codes "check") (rows_after s.rules [] words)) ≡ true
check_given s a b words takes a_is a_required a_id b_is b_required b_id passed =
    let value = named_value [] 0 0 s words takes passed in
    check_some _ _ (first_of (codes "match") (rows_after s.rules [] words)) _ (value (codes "a") a a_is a_required a_id) (value (codes "b") b b_is b_required b_id)

-- `fraig` does
fraig_given : (s : Shape) (a b : Rule) (words : List Text) → list_all (takes_one [] 0 0) s.rules ≡ true
    → arg_by_id s.rules (codes "a") ≡ Some a → a.required ≡ true → a.id ≡ codes "a"
    → arg_by_id s.rules (codes "reduced") ≡ Some b → b.required ≡ true → b.id ≡ codes "reduced"
    → level_fault s [] nothing_held words false [] ≡ []
    → is_some (outcome_in (codes "fraig") (rows_after s.rules [] words)) ≡ true
fraig_given s a b words takes a_is a_required a_id b_is b_required b_id passed =
    let value = named_value [] 0 0 s words takes passed in
    fraig_some _ _ _ (value (codes "a") a a_is a_required a_id) (value (codes "reduced") b b_is b_required b_id)

-- and `lrat`
lrat_given : (s : Shape) (a b : Rule) (words : List Text) → list_all (takes_one [] 0 0) s.rules ≡ true
    → arg_by_id s.rules (codes "cnf") ≡ Some a → a.required ≡ true → a.id ≡ codes "cnf"
    → arg_by_id s.rules (codes "proof") ≡ Some b → b.required ≡ true → b.id ≡ codes "proof"
    → level_fault s [] nothing_held words false [] ≡ []
    → is_some (outcome_in (codes "lrat") (rows_after s.rules [] words)) ≡ true
lrat_given s a b words takes a_is a_required a_id b_is b_required b_id passed =
    let value = named_value [] 0 0 s words takes passed in
    lrat_some _ _ (value (codes "cnf") a a_is a_required a_id) (value (codes "proof") b b_is b_required b_id)

-- `self` gives a word and a number
self_some : (word : Option Text) (n : Option ℕ) → is_some word ≡ true → is_some n ≡ true → is_some (self_of word n) ≡ true
self_some (Some word) (Some n) hw hn = refl
self_some None n hw hn = cc
self_some (Some word) None hw hn = cc

self_given : (s : Shape) (a n : Rule) (words : List Text) → list_all (takes_one (codes "n") 1 MOST_BITS) s.rules ≡ true
    → arg_by_id s.rules (codes "kind") ≡ Some a → a.required ≡ true → a.id ≡ codes "kind"
    → arg_by_id s.rules (codes "n") ≡ Some n → n.required ≡ true → n.id ≡ codes "n"
    → level_fault s [] nothing_held words false [] ≡ []
    → is_some (outcome_in (codes "self") (rows_after s.rules [] words)) ≡ true
self_given s a n words takes a_is a_required a_id n_is n_required n_id passed =
    let number = required_number (codes "n") 1 MOST_BITS s words takes passed n
    (subst (λ (t : Text). arg_by_id s.rules t ≡ Some n) (sym n_id) n_is) n_required n_id in
    let value : first_of (codes "n") (rows_after s.rules [] words) ≡ Some number.0 =
    subst (λ (t : Text). first_of t (rows_after s.rules [] words) ≡ Some number.0) n_id number.1 in
    self_some _ _ (named_value (codes "n") 1 MOST_BITS s words takes passed (codes "kind") a a_is a_required a_id)
    (number_some 1 MOST_BITS _ number.0 value number.2)

pub some_outcome : (words : List Text) → faults words ≡ []
    → is_some (option_and_then (λ p. outcome_in p.0 p.1) (subcommand_of cec_app words)) ≡ true
unfolding faults
some_outcome words passed =
    built_gives (built cec_app) (argument_words cec_app words) (λ p. outcome_in p.0 p.1) refl (
      λ ws none. check_given _ _ _ ws refl refl refl refl refl refl refl none,
      (
        λ ws none. fraig_given _ _ _ ws refl refl refl refl refl refl refl none,
        (
          λ ws none. lrat_given _ _ _ ws refl refl refl refl refl refl refl none,
          (λ ws none. self_given _ _ _ ws refl refl refl refl refl refl refl none, tt),
        ),
      ),
    ) passed
