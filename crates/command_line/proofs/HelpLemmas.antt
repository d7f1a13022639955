-- Where help or the version may be the kind of a refusal, it is the only one.
use Rattle.std.proofs.Common.{◌≡◌, ◌&&◌, ◌||◌, ℕ, Bool, true, false, cond, zero, suc, refl, List, [], ◌∷◌, Option, Some, None, length, drop, is_some, find}
use Rattle.std.specs.Prelude.{encode_utf8, slice_get, codes}
use Rattle.std.specs.List.{list_all, list_any}
use Rattle.std.specs.Option.{option_map_or}
use Rattle.std.specs.Str.{bytes_eq, chars}
use Rattle.clap.specs.Kinds.{Kinds, check_kinds, or_else, range_kinds, request_kinds, value_kinds, values_kinds}
use Rattle.clap.specs.Lexer.{long_of, short_of}
use Rattle.clap.specs.Facts.{unwrap_or_range}
use Rattle.clap.specs.Walk.{Held, Names, Row, Rule, Step, Text, Waiting, Walk, action_of, arg_by_id, arg_by_index, arg_by_long, arg_by_short, attached_value, most_values, nothing_held, reacted, settled, subcommand_met, takes_values, value, values_or_missing, walk, walk_from, walked, with_default, word_met, answers_to}
use Rattle.clap.specs.Simple.{App, Shape, argument_words, built, entered, label_of, names_of}
use Rattle.clap.specs.Faults.{action_fault, bundle_step_fault, built_fault, bundle_fault, count_fault, default_fault, defaults_fault, entered_fault, flag_word_fault, flags_fault, level_fault, long_fault, option_fault, other_fault, positional_fault, react_fault, set_fault, settle_fault, short_fault, step_fault, stray_fault, turn_fault, use_fault, walk_fault, word_fault}
use Rattle.clap.specs.declared.builder.action.ArgAction.{ArgAction}
use Rattle.clap.specs.declared.builder.action.ArgAction.TheVariants as action
use Rattle.clap.specs.declared.builder.value_parser.ValueParser.{ValueParser}
use Rattle.clap.specs.declared.error.kind.ErrorKind.{ErrorKind}
use Rattle.clap.specs.declared.error.kind.ErrorKind.TheVariants.{DisplayHelp, InvalidSubcommand}
use Rattle.command_line.specs.Commands.{cec_app}
use Rattle.command_line.specs.Words.{faults, is_info}
use Rattle.command_line.proofs.FoundLemmas.{found_passes}

-- neither help nor the version is among the kinds, or one of them is the only kind
pub record TellsAlone (kinds : Kinds) : Type 0 where
  pub alone : list_any is_info kinds ≡ true → (k : ErrorKind) × (is_info k ≡ true) × (kinds ≡ k ∷ [])

nothing : TellsAlone []
nothing = record { alone = λ among. cc }

single : (k : ErrorKind) → TellsAlone (k ∷ [])
single k = record { alone = λ among. (k, go (is_info k) among, refl) }
  where
    go : (b : Bool) → (b || false) ≡ true → b ≡ true
    go true among = refl
    go false among = cc

either : (b : Bool) (x y : Kinds) → TellsAlone x → TellsAlone y → TellsAlone (cond b x y)
either true x y hx hy = hx
either false x y hx hy = hy

first_else : (x y : Kinds) → TellsAlone x → TellsAlone y → TellsAlone (or_else x y)
first_else [] y hx hy = hy
first_else (k ∷ ks) y hx hy = hx

-- ---- one use of an argument

value_alone : (case : Bool) (parser : ValueParser) (text : Text) → TellsAlone (value_kinds case parser text)
value_alone case parser text = either _ _ _ nothing (single _)

values_alone : (case : Bool) (parser : ValueParser) (texts : List Text) → TellsAlone (values_kinds case parser texts)
values_alone case parser [] = nothing
values_alone case parser (v ∷ vs) = first_else _ _ (value_alone case parser v) (values_alone case parser vs)

request_alone : (x : ArgAction) → TellsAlone (request_kinds x)
request_alone action.Help = single _
request_alone action.HelpShort = single _
request_alone action.HelpLong = single _
request_alone action.Version = single _
request_alone x = nothing

set_alone : (again : Bool) (a : Rule) (values : List Text) (rows : List Row) → TellsAlone (set_fault again a values rows)
set_alone again a values rows = first_else _ _ (either _ _ _ (single _) nothing) (values_alone _ _ values)

count_alone : (a : Rule) (values : List Text) (rows : List Row) → TellsAlone (count_fault a values rows)
count_alone a [] rows = search value_alone
count_alone a (v ∷ vs) rows = values_alone _ _ (v ∷ vs)

action_alone : (x : ArgAction) (again : Bool) (a : Rule) (values : List Text) (rows : List Row) → TellsAlone (action_fault x again a values rows)
action_alone action.Set again a values rows = set_alone again a values rows
action_alone action.SetTrue again a values rows = set_alone again a values rows
action_alone action.SetFalse again a values rows = set_alone again a values rows
action_alone action.Append again a values rows = values_alone _ _ values
action_alone action.Count again a values rows = count_alone a values rows
action_alone other again a values rows = request_alone other

range_alone : (least most n : ℕ) → TellsAlone (range_kinds least most n)
range_alone least most n = search (nothing, single, either)

use_alone : (again : Bool) (a : Rule) (values : List Text) (rows : List Row) → TellsAlone (use_fault again a values rows)
use_alone again a values rows =
    first_else _ _ (range_alone (unwrap_or_range a.range).start_inclusive (most_values a) (length values))
    (action_alone (action_of a) again a (values_or_missing a values) rows)

-- ---- a word

settle_alone : (c : List Rule) (again : Bool) (h : Held) → TellsAlone (settle_fault c again h)
settle_alone c again h = go h.pending
  where
    known : (p : Text × List Text) (a : Option Rule) → TellsAlone (option_map_or (λ (x : Rule). use_fault again x p.1 h.rows) a [])
    known p None = nothing
    known p (Some a) = use_alone again a p.1 h.rows

    go : (pending : Option (Text × List Text))
        → TellsAlone (option_map_or (λ (p : Text × List Text). option_map_or (λ (x : Rule). use_fault again x p.1 h.rows) (arg_by_id c p.0) []) pending [])
    go None = nothing
    go (Some p) = known p (arg_by_id c p.0)

react_alone : (c : List Rule) (again : Bool) (a : Rule) (values : List Text) (h : Held) → TellsAlone (react_fault c again a values h)
react_alone c again a values h = first_else _ _ (settle_alone c again h) (use_alone again a values (settled c h).rows)

option_alone : (c : List Rule) (again : Bool) (a : Rule) (v : Option Text) (h : Held) → TellsAlone (option_fault c again a v h)
option_alone c again a (Some v) h = react_alone c again a (v ∷ []) h
option_alone c again a None h = settle_alone c again h

long_alone : (c : List Rule) (again : Bool) (found : Option Rule) (v : Option Text) (h : Held) → TellsAlone (long_fault c again found v h)
long_alone c again None v h = single _
long_alone c again (Some a) v h =
    either (takes_values a) _ _ (option_alone c again a v h) (either (is_some v) _ _ (single _) (react_alone c again a [] h))

short_alone : (c : List Rule) (again : Bool) (found : Option Rule) (rest : Text) (h : Held) (more : Held → Kinds)
    → ((g : Held) → TellsAlone (more g)) → TellsAlone (short_fault c again found rest h more)
short_alone c again None rest h more hm = single _
short_alone c again (Some a) rest h more hm =
    either (takes_values a) _ _ (option_alone c again a (attached_value rest) h)
    (first_else _ _ (react_alone c again a [] h) (hm (reacted c a [] h)))

bundle_step_alone : (c : List Rule) (again : Bool) (x : Option ℕ) (flags : Text) (skip : ℕ) (h : Held) (more : Text → ℕ → Held → Kinds)
    → ((t : Text) (n : ℕ) (g : Held) → TellsAlone (more t n g)) → TellsAlone (bundle_step_fault c again x flags skip h more)
bundle_step_alone c again None flags skip h more hm = nothing
bundle_step_alone c again (Some x) flags zero h more hm =
    let rest = drop (length (encode_utf8 x)) flags in
    short_alone c again (arg_by_short c x) rest h (more rest 0) (hm rest 0)
bundle_step_alone c again (Some x) flags (suc skip) h more hm = hm (drop (length (encode_utf8 x)) flags) skip h

flags_alone : (c : List Rule) (again : Bool) (k : ℕ) (flags : Text) (skip : ℕ) (h : Held) → TellsAlone (flags_fault c again k flags skip h)
unfolding flags_fault
flags_alone c again zero flags skip h = nothing
flags_alone c again (suc k) flags skip h =
    bundle_step_alone c again (slice_get (chars flags) 0) flags skip h (flags_fault c again k) (flags_alone c again k)

flag_word_alone : (c : List Rule) (again : Bool) (long : Option (Text × Option Text)) (word : Text) (h : Held)
    → TellsAlone (flag_word_fault c again long word h)
flag_word_alone c again (Some p) word h = long_alone c again (arg_by_long c p.0) p.1 h
flag_word_alone c again None word h = go (short_of word)
  where
    go : (short : Option Text) → TellsAlone (option_map_or (λ (flags : Text). bundle_fault c again flags h) short [])
    go None = nothing
    go (Some flags) = flags_alone c again (length flags) flags h.skip (record h { skip = 0 })

other_alone : (s : Shape) (name : Option Text) (word : Text) (h : Held) → s.disable_help_subcommand ≡ true
    → TellsAlone (other_fault s name word h)
other_alone s (Some name) word h disabled = rw disabled (go (bytes_eq name (codes "help")))
  where
    go : (b : Bool) → TellsAlone (cond (b && false) (DisplayHelp ∷ InvalidSubcommand ∷ []) [])
    go true = nothing
    go false = nothing
other_alone s None word h disabled =
    either (bytes_eq word (45 ∷ 45 ∷ [])) _ _ nothing (flag_word_alone s.rules s.args_override_self (long_of word) word h)

word_alone : (s : Shape) (names : Names) (trailing : Bool) (waiting : Waiting) (word : Text) (h : Held)
    → s.disable_help_subcommand ≡ true → TellsAlone (word_fault s names trailing waiting word h)
word_alone s names trailing waiting word h disabled =
    either trailing _ _ nothing (other_alone s (subcommand_met names waiting word) word h disabled)

stray_alone : (s : Shape) → TellsAlone (stray_fault s)
stray_alone s = either s.is_leaf _ _ (single _) (record { alone = λ among. cc })

step_alone : (s : Shape) (position : ℕ) (h : Held) (step : Step) → TellsAlone (step_fault s position h step)
step_alone s position h value = go (arg_by_index s.rules position)
  where
    go : (a : Option Rule) → TellsAlone (option_map_or (λ (x : Rule). positional_fault s.rules s.args_override_self x h) a (stray_fault s))
    go None = stray_alone s
    go (Some a) = either _ _ _ nothing (settle_alone s.rules s.args_override_self h)
step_alone s position h other = nothing

-- ---- the words

turn_alone : (s : Shape) (names : Names) (w : Walk) (word : Text) → s.disable_help_subcommand ≡ true → TellsAlone (turn_fault s names w word)
turn_alone s names w word disabled =
    let met = word_met s.rules names w.is_trailing w.waiting w.position word w.held in
    either (is_some w.stopped) _ _ nothing
    (first_else _ _ (word_alone s names w.is_trailing w.waiting word w.held disabled) (step_alone s w.position met.0 met.1))

walk_alone : (s : Shape) (names : Names) (w : Walk) (words : List Text) → s.disable_help_subcommand ≡ true
    → TellsAlone (walk_fault s names w words)
unfolding walk_fault
walk_alone s names w [] disabled = nothing
walk_alone s names w (word ∷ words) disabled =
    first_else _ _ (turn_alone s names w word disabled) (walk_alone s names (walked s.rules names w word) words disabled)

-- ---- after the words

default_alone : (rows : List Row) (a : Rule) → TellsAlone (default_fault rows a)
default_alone rows a =
    either _ _ _ nothing (first_else _ _ (request_alone (action_of a)) (values_alone _ _ a.defaults))

defaults_alone : (rows : List Row) (rules : List Rule) → TellsAlone (defaults_fault rows rules)
unfolding defaults_fault
defaults_alone rows [] = nothing
defaults_alone rows (a ∷ rules) = first_else _ _ (default_alone rows a) (defaults_alone (with_default rows a) rules)

check_alone : (help command argument : Bool) → TellsAlone (check_kinds help command argument)
check_alone help command argument =
    either help _ _ (single _) (either command _ _ (single _) (either argument _ _ (single _) nothing))

level_alone : (s : Shape) (names : Names) (h : Held) (words : List Text) (has : Bool) (below : Kinds) → s.disable_help_subcommand ≡ true
    → TellsAlone below → TellsAlone (level_fault s names h words has below)
level_alone s names h words has below disabled hb =
    let end = (walk s.rules names h words).held in
    first_else _ _ (walk_alone s names (walk_from h) words disabled)
    (first_else _ _ hb (first_else _ _ (settle_alone s.rules s.args_override_self end)
    (first_else _ _ (defaults_alone (settled s.rules end).rows s.rules)
    (check_alone _ _ _))))

-- ---- the command with its subcommands

entered_alone : (a : App) (stop : Option (Text × List Text)) → list_all (λ s. s.disable_help_subcommand) a.subs ≡ true
    → TellsAlone (entered_fault a stop)
entered_alone a None disabled = nothing
entered_alone a (Some p) disabled = go (find (λ s. answers_to p.0 (label_of s)) a.subs) refl
  where
    go : (found : Option Shape) → find (λ s. answers_to p.0 (label_of s)) a.subs ≡ found
        → TellsAlone (option_map_or (λ (s : Shape). level_fault s [] nothing_held p.1 false []) found [])
    go None is = nothing
    go (Some s) is = level_alone s [] nothing_held p.1 false [] (found_passes _ (λ s. s.disable_help_subcommand) a.subs s disabled is) nothing

built_alone : (a : App) (h : Held) (words : List Text) → a.top.disable_help_subcommand ≡ true
    → list_all (λ s. s.disable_help_subcommand) a.subs ≡ true → TellsAlone (built_fault a h words)
built_alone a h words disabled below =
    let stop = (walk a.top.rules (names_of a) h words).stopped in
    level_alone a.top (names_of a) h words (is_some (entered a stop)) (entered_fault a stop) disabled (entered_alone a stop below)

-- and so of the program's
pub faults_alone : (words : List Text) → TellsAlone (faults words)
unfolding faults
faults_alone words = built_alone (built cec_app) nothing_held (argument_words cec_app words) refl refl
