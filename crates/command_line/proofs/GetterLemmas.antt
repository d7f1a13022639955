-- What the getters of matches give.
use Rattle.std.proofs.Common.{◌≡◌, ◌∙◌, ◌≤◌, ◌<◌, ◌^◌, ℕ, Bool, true, false, cond, refl, sym, ap, ap₂, List, Option, Some, None, codes, is_some}
use Rattle.std.specs.Prelude.{IsSome, option_map}
use Rattle.std.specs.Str.Parse.{IsNumeral, digits_value, without_leading_plus}
use Rattle.clap.proofs.ValueTestLemmas.{Accepts-accepts, accepts-Accepts}
use Rattle.clap.specs.ValueTests.{is_unsigned_in}
use Rattle.clap.specs.Walk.{Row, Text, first_of}
use Rattle.clap.specs.declared.builder.value_parser.ValueParser.TheVariants.{Unsigned}
use Rattle.command_line.specs.Commands.{budget_option, seed_option, sweep_budget_option, words_option, workers_option}
use Rattle.command_line.specs.Words.{CheckCommand, FraigCommand, Outcome, check_given, check_in, fraig_given, fraig_in, is_set, number_in, number_or, matched, plain_check, plain_fraig, with_fraig_options, with_options, written}

-- an answer that shows as some text is some answer
pub shown_is_there : {X Y : Type 0} (f : X → Y) (o : Option X) (v w : Option Y) → option_map f o ≡ v → v ≡ w → is_some w ≡ true → IsSome o
shown_is_there f (Some x) v w shown is some = refl
shown_is_there f None v w shown is some = let bad : false ≡ true = ap is_some (shown ∙ is) ∙ some in cc

pub is_there : {X : Type 0} (o w : Option X) → o ≡ w → is_some w ≡ true → IsSome o
is_there (Some x) w is some = refl
is_there None w is some = let bad : false ≡ true = ap is_some is ∙ some in cc

-- what a text spells whose digits are read as a number of 64 bits
abbrev value_of : Text → ℕ
value_of t = digits_value 10 (without_leading_plus t)

abbrev CanRead : Text → Type 0
CanRead t = IsNumeral 10 (without_leading_plus t) × (value_of t < 2 ^ 64)

-- a number that was read and is in the range is the one that the text spells
pub number_kept : (least most n : ℕ) (t : Text) → CanRead t × (n ≡ value_of t) → least ≤ n → n ≤ most
    → Some n ≡ number_in least most t
number_kept least most n t read above below =
    let low : least ≤ value_of t = rw (← read.1) above in
    let high : value_of t ≤ most = rw (← read.1) below in
    rw (Accepts-accepts false (Unsigned least most) t (read.0.0, read.0.1, low, high)) (ap (λ (k : ℕ). Some k) read.1)

-- a text that can't be read spells none
pub number_lost : (least most : ℕ) (t : Text) → ¬ CanRead t → None ≡ number_in least most t
number_lost least most t unread = go (is_unsigned_in least most t) refl
  where
    go : (b : Bool) → is_unsigned_in least most t ≡ b → None ≡ cond b (Some (value_of t)) None
    go true is =
        let passes = accepts-Accepts false (Unsigned least most) t is in
        absurd (unread (passes.0, passes.1))
    go false is = refl

-- what a text spells in a range is in the range
pub number_within : (least most n : ℕ) (t : Text) → number_in least most t ≡ Some n → (least ≤ n) × (n ≤ most)
number_within least most n t told = go (is_unsigned_in least most t) refl told
  where
    go : (b : Bool) → is_unsigned_in least most t ≡ b → cond b (Some (value_of t)) None ≡ Some n
        → (least ≤ n) × (n ≤ most)
    go true is told =
        let passes = accepts-Accepts false (Unsigned least most) t is in
        let same : value_of t ≡ n = cc in
        rw (← same) (passes.2, passes.3)
    go false is told = cc

-- the values of `check` make its command
pub check_made : (rows : List Row) (a b : Text)
    → first_of (codes "a") rows ≡ Some a → first_of (codes "b") rows ≡ Some b
    → check_given rows ≡ Some (with_options rows (plain_check a b))
check_made rows a b a_is b_is = rw (a_is, b_is) refl

-- where something is made of a command, the command is there
pub command_there : {C : Type 0} (make : C → Outcome) (given : Option C) → is_some (option_map make given) ≡ true
    → is_some given ≡ true
command_there make (Some c) some = refl
command_there make None some = cc

-- what the command and the word for its pairing come to
pub check_matched : (rows : List Row) (word : Option Text) (c : CheckCommand) (o : Outcome) → first_of (codes "match") rows ≡ word
    → check_given rows ≡ Some c → o ≡ matched word c → check_in rows ≡ Some o
check_matched rows word c o word_is given is =
    ap₂ (λ (w : Option Text) (d : Option CheckCommand). option_map (matched w) d) word_is given ∙ ap Some (sym is)

-- options that are given set their fields
pub options_given : (rows : List Row) (c : CheckCommand) (edits out load save witness : Option Text) (workers seed words sweep_budget budget : ℕ)
    (stats progress : Bool)
    → first_of (codes "edits") rows ≡ edits → first_of (codes "out") rows ≡ out
    → first_of (codes "load") rows ≡ load → first_of (codes "save") rows ≡ save → first_of (codes "witness") rows ≡ witness
    → workers ≡ number_or c.workers workers_option rows → seed ≡ number_or c.seed seed_option rows → words ≡ number_or c.words words_option rows
    → sweep_budget ≡ number_or c.sweep_budget sweep_budget_option rows → budget ≡ number_or c.budget budget_option rows
    → stats ≡ is_set (codes "stats") rows → progress ≡ is_set (codes "progress") rows
    → with_options rows c
    ≡ record c {
      edits = edits;
      out = out;
      load = load;
      save = save;
      witness = witness;
      workers = workers;
      seed = seed;
      words = words;
      sweep_budget = sweep_budget;
      budget = budget;
      stats = stats;
      progress = progress;
    }
options_given rows c edits out load save witness workers seed words sweep_budget budget stats progress edits_is out_is load_is save_is witness_is workers_is seed_is words_is sweep_is budget_is stats_is progress_is =
    rw (edits_is, out_is, load_is, save_is, witness_is, workers_is, seed_is, words_is, sweep_is, budget_is, stats_is, progress_is) refl

-- the same of a reduced circuit
pub fraig_made : (rows : List Row) (a reduced : Text)
    → first_of (codes "a") rows ≡ Some a → first_of (codes "reduced") rows ≡ Some reduced
    → fraig_given rows ≡ Some (with_fraig_options rows (plain_fraig a reduced))
fraig_made rows a reduced a_is reduced_is = rw (a_is, reduced_is) refl

pub fraig_asked : (rows : List Row) (c : FraigCommand) (o : Outcome) → fraig_given rows ≡ Some c → o ≡ written c → fraig_in rows ≡ Some o
fraig_asked rows c o given is = rw given (ap Some (sym is))

pub fraig_options_given : (rows : List Row) (c : FraigCommand) (out : Option Text) (workers seed words sweep_budget : ℕ)
    → first_of (codes "out") rows ≡ out
    → workers ≡ number_or c.workers workers_option rows → seed ≡ number_or c.seed seed_option rows → words ≡ number_or c.words words_option rows
    → sweep_budget ≡ number_or c.sweep_budget sweep_budget_option rows
    → with_fraig_options rows c
    ≡ record c { out = out; workers = workers; seed = seed; words = words; sweep_budget = sweep_budget }
fraig_options_given rows c out workers seed words sweep_budget out_is workers_is seed_is words_is sweep_is =
    rw (out_is, workers_is, seed_is, words_is, sweep_is) refl
