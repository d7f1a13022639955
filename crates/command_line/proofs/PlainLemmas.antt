-- What plain words ask for: words that don't begin with `-` among the names of options.
use Rattle.std.proofs.Common.{◌≡◌, ℕ, ◌&&◌, Bool, false, true, eqb, ne_eqb, inl, inr, ◌<◌, ◌≤◌, ◌^◌, lit<, nat_lt, arith, refl, ap, subst, sym, ◌∙◌, codes, map, fold, List, [], ◌∷◌, Option, Some, None}
use Rattle.std.specs.Prelude.{◌≢◌, if◌then◌else◌, unwrap_or}
use Rattle.std.specs.Str.Parse.{digits_value, without_leading_plus}
use Rattle.std.specs.Str.{bytes_eq}
use Rattle.std.specs.List.{list_all}
use Rattle.std.specs.Char.{digit_value}
use Rattle.std.proofs.lemmas.Bool.{cases_eq, false_from_ne_true, le-leb, lt-ltb}
use Rattle.std.proofs.lemmas.Slice.Eq.{bytes_eq-Decides}
use Rattle.clap.specs.Lexer.{strip_byte}
use Rattle.clap.specs.Kinds.{Kinds, or_else, values_kinds}
use Rattle.clap.specs.declared.builder.value_parser.ValueParser.TheVariants.{Unsigned}
use Rattle.clap.specs.ValueTests.{is_unsigned_in}
use Rattle.clap.specs.Simple.{Shape, built_leaf, inherited, marked_built, on_top, with_leaf_noted}
use Rattle.clap.specs.Walk.{Held, Rule, Step, Text, Waiting, Walk, after_step, finished, idle, is_empty, nothing_held, settled, option, plain_word, positional, walk_from, walked, word_met}
use Rattle.clap.specs.Faults.{check_fault, defaults_fault, settle_fault, step_fault, turn_fault, walk_fault}
use Rattle.command_line.specs.Commands.{cec_app, check_command, fraig_command, lrat_command, most_seed, self_command}
use Rattle.workload_gen.specs.declared.kind.Kind.{Kind}
use Rattle.workload_gen.specs.declared.kind.Kind.TheVariants.{Adder, Parity, Comparator}
use Rattle.workload_gen.specs.declared.workload.TheConstants.{MOST_BITS}
use Rattle.command_line.specs.declared.asked.TheConstants.{BUDGET_LIMIT, WORDS_LIMIT, WORKERS_LIMIT}
use Rattle.command_line.specs.Words.{CheckIt, FraigIt, LratIt, SelfIt, CheckCommand, FraigCommand, Misnames, Misuses, Outcome, Request, saved, Requested, faults, misnamed_pairing, number_in, outcome_in, outcome_of, matched_by, pairing_named, plain_check, plain_fraig, self_of, written}
use Rattle.command_line.specs.Plain.{IsPlain, SetsFlag, SetsFraigNumber, SetsName, SetsNumber, SetsText, Writes, kind_name}

no_end : (word : Text) → IsPlain word → bytes_eq word (45 ∷ 45 ∷ []) ≡ false
no_end [] plain = refl
no_end (b ∷ bs) plain = simp plain refl

no_flag : (word : Text) → IsPlain word → strip_byte 45 word ≡ None
no_flag [] plain = refl
no_flag (b ∷ bs) plain = simp plain refl

-- a plain word is no flag
met-plain : (c : List Rule) (waiting : Waiting) (position : ℕ) (word : Text) (h : Held) → IsPlain word
    → word_met c [] false waiting position word h ≡ plain_word c waiting word h
met-plain c idle position word h plain = simp (no_end word plain, no_flag word plain) refl
met-plain c (option id) position word h plain = simp (no_end word plain, no_flag word plain) refl
met-plain c positional position word h plain = simp (no_end word plain, no_flag word plain) refl

-- the walk after a plain word, and its fault
abbrev pub after_plain : List Rule → Walk → Text → Walk
after_plain c w word = after_step c word w (plain_word c w.waiting word w.held).0 (plain_word c w.waiting word w.held).1

abbrev pub plain_fault : Shape → Walk → Text → Kinds
plain_fault s w word = step_fault s w.position (plain_word s.rules w.waiting word w.held).0 (plain_word s.rules w.waiting word w.held).1

-- the walk where no `--` and no command was met
abbrev pub going : Walk → Walk
going w = record w { is_trailing = false; stopped = None }

pub walked-plain : (c : List Rule) (w : Walk) (word : Text) → IsPlain word → w ≡ going w → walked c [] w word ≡ after_plain c w word
unfolding walked
walked-plain c w word plain same = subst (λ (v : Walk). walked c [] v word ≡ after_plain c v word) (sym same)
    (ap (λ (met : Held × Step). after_step c word (going w) met.0 met.1) (met-plain c w.waiting w.position word w.held plain))

pub fault-plain : (s : Shape) (w : Walk) (word : Text) → IsPlain word → w ≡ going w → turn_fault s [] w word ≡ plain_fault s w word
fault-plain s w word plain same = subst (λ (v : Walk). turn_fault s [] v word ≡ plain_fault s v word) (sym same) (at w.waiting)
  where
    at : (waiting : Waiting) → turn_fault s [] (record (going w) { waiting = waiting }) word ≡ plain_fault s (record (going w) { waiting = waiting }) word
    at idle = simp (no_end word plain, no_flag word plain) refl
    at (option id) = simp (no_end word plain, no_flag word plain) refl
    at positional = simp (no_end word plain, no_flag word plain) refl

-- a word of a command, which is plain or an option's name
pub data Marked : Type 0 where
  plain : Text → Marked
  flag : Text → Marked

abbrev word_of : Marked → Text
word_of (plain word) = word
word_of (flag word) = word

abbrev after_word : List Rule → Walk → Marked → Walk
after_word c w (plain word) = after_plain c w word
after_word c w (flag word) = walked c [] w word

abbrev word_fault_of : Shape → Walk → Marked → Kinds
word_fault_of s w (plain word) = plain_fault s w word
word_fault_of s w (flag word) = turn_fault s [] w word

abbrev AreMarked : List Rule → Walk → List Marked → Type 0
AreMarked c w [] = Unit {0}
AreMarked c w (plain word ∷ ms) = IsPlain word × (w ≡ going w) × AreMarked c (after_plain c w word) ms
AreMarked c w (flag word ∷ ms) = AreMarked c (walked c [] w word) ms

abbrev after_words : List Rule → Walk → List Marked → Walk
after_words c w [] = w
after_words c w (m ∷ ms) = after_words c (after_word c w m) ms

abbrev words_fault : Shape → Walk → List Marked → Kinds
words_fault s w [] = []
words_fault s w (m ∷ ms) = or_else (word_fault_of s w m) (words_fault s (after_word s.rules w m) ms)

walk-marked : (c : List Rule) (w : Walk) (ms : List Marked) → AreMarked c w ms → fold (walked c []) w (map word_of ms) ≡ after_words c w ms
walk-marked c w [] marked = refl
walk-marked c w (plain word ∷ ms) marked =
    ap (λ (v : Walk). fold (walked c []) v (map word_of ms)) (walked-plain c w word marked.0 marked.1) ∙ walk-marked c (after_plain c w word) ms marked.2
walk-marked c w (flag word ∷ ms) marked = walk-marked c (walked c [] w word) ms marked

faults-marked : (s : Shape) (w : Walk) (ms : List Marked) → AreMarked s.rules w ms → walk_fault s [] w (map word_of ms) ≡ words_fault s w ms
unfolding walk_fault
faults-marked s w [] marked = refl
faults-marked s w (plain word ∷ ms) marked =
    ap (λ (k : Kinds). or_else k (walk_fault s [] (walked s.rules [] w word) (map word_of ms))) (fault-plain s w word marked.0 marked.1)
    ∙ ap (λ (v : Walk). or_else (plain_fault s w word) (walk_fault s [] v (map word_of ms))) (walked-plain s.rules w word marked.0 marked.1)
    ∙ ap (or_else (plain_fault s w word)) (faults-marked s (after_plain s.rules w word) ms marked.2)
faults-marked s w (flag word ∷ ms) marked =
    ap (or_else (turn_fault s [] w word)) (faults-marked s (walked s.rules [] w word) ms marked)

-- the commands as `clap` completes them
abbrev pub completed : Shape → Shape
completed s = built_leaf (inherited (on_top with_leaf_noted (on_top marked_built cec_app)).top s)

-- what a command's own words come to: the fault at the end of the walk, and what is asked for
abbrev leaf_fault : Shape → Walk → Kinds → Kinds
leaf_fault s end walking =
    or_else walking
    (or_else [] (or_else (settle_fault s.rules s.args_override_self end.held)
    (or_else (defaults_fault (settled s.rules end.held).rows s.rules) (check_fault s (finished s.rules end.held) false))))

abbrev outcome_from : Shape → Walk → Kinds → Option Outcome
outcome_from s end walking =
    if is_empty (or_else (leaf_fault s end walking) []) then outcome_in s.name (finished s.rules end.held) else None

outcome-marked : (s : Shape) (ms : List Marked) → AreMarked s.rules (walk_from nothing_held) ms
    → outcome_from s (fold (walked s.rules []) (walk_from nothing_held) (map word_of ms)) (walk_fault s [] (walk_from nothing_held) (map word_of ms))
    ≡ outcome_from s (after_words s.rules (walk_from nothing_held) ms) (words_fault s (walk_from nothing_held) ms)
outcome-marked s ms marked =
    ap (λ (w : Walk). outcome_from s w (walk_fault s [] (walk_from nothing_held) (map word_of ms))) (walk-marked s.rules (walk_from nothing_held) ms marked)
    ∙ ap (outcome_from s (after_words s.rules (walk_from nothing_held) ms)) (faults-marked s (walk_from nothing_held) ms marked)

-- digits begin with no byte that is none
other_first : (k d : ℕ) (ds : Text) → nat_lt (digit_value k) 10 ≡ false → list_all (λ d. nat_lt (digit_value d) 10) (d ∷ ds) ≡ true → eqb d k ≡ false
other_first k d ds none digits = elim (cases_eq d k) [
  | inl same ↦ let bad : false ≡ true = sym (ap (λ (t : Bool). t && list_all (λ d. nat_lt (digit_value d) 10) ds) (ap (λ (x : ℕ). nat_lt (digit_value x) 10) same ∙ none)) ∙ digits in cc
  | inr apart ↦ ne_eqb d k apart
]

digits-plain : (least most : ℕ) (n : Text) (m : ℕ) → Writes least most n m → IsPlain n
digits-plain least most [] m writes = refl
digits-plain least most (d ∷ ds) m writes = other_first 45 d ds refl writes.digits

no_plus : (n : Text) → list_all (λ d. nat_lt (digit_value d) 10) n ≡ true → without_leading_plus n ≡ n
no_plus [] digits = refl
no_plus (d ∷ ds) digits = simp (other_first 43 d ds refl digits) refl

within : (m : ℕ) → m ≤ most_seed → m < 2 ^ 64
within m most = omega (arith, lit< {m = 18446744073709551615} {n = 2 ^ 64} tt)

-- a number that is in range
in_range : (least most : ℕ) (n : Text) (m : ℕ) → most ≤ most_seed → Writes least most n m → is_unsigned_in least most n ≡ true
in_range least most n m fits writes =
    rw (no_plus n writes.digits, writes.value, writes.some, writes.digits)
    (rw (lt-ltb m (2 ^ 64) (within m (omega (arith, fits, writes.below))), le-leb least m writes.above, le-leb m most writes.below) refl)

accepted : (least most : ℕ) (n : Text) (m : ℕ) → most ≤ most_seed → Writes least most n m → values_kinds false (Unsigned least most) (n ∷ []) ≡ []
accepted least most n m fits writes = rw (in_range least most n m fits writes) refl

known_number : (least most : ℕ) (n : Text) (m : ℕ) → most ≤ most_seed → Writes least most n m → number_in least most n ≡ Some m
known_number least most n m fits writes =
    rw (in_range least most n m fits writes) (ap Some (ap (digits_value 10) (no_plus n writes.digits) ∙ writes.value))

few_bits : MOST_BITS ≤ most_seed
few_bits = omega (arith, lit< {m = 4096} {n = 18446744073709551615} tt)

-- a workload of each kind
module _ (program n : Text) (m : ℕ) (writes : Writes 1 MOST_BITS n m) where
  pub asks-self : (kind : Kind) → outcome_of (program ∷ codes "self" ∷ kind_name kind ∷ n ∷ []) ≡ Some (Requested (SelfIt (record { kind = kind; n = m })))
  unfolding outcome_of faults walked walk_fault defaults_fault
  asks-self Adder =
      outcome-marked (completed self_command) (plain (codes "adder") ∷ plain n ∷ []) (refl, refl, (digits-plain 1 MOST_BITS n m writes, refl, tt))
      ∙ ap (λ (k : Kinds). if is_empty (or_else (or_else k []) []) then self_of (Some (codes "adder")) (number_in 1 MOST_BITS n) else None)
      (accepted 1 MOST_BITS n m few_bits writes)
      ∙ ap (self_of (Some (codes "adder"))) (known_number 1 MOST_BITS n m few_bits writes)
  asks-self Parity =
      outcome-marked (completed self_command) (plain (codes "parity") ∷ plain n ∷ []) (refl, refl, (digits-plain 1 MOST_BITS n m writes, refl, tt))
      ∙ ap (λ (k : Kinds). if is_empty (or_else (or_else k []) []) then self_of (Some (codes "parity")) (number_in 1 MOST_BITS n) else None)
      (accepted 1 MOST_BITS n m few_bits writes)
      ∙ ap (self_of (Some (codes "parity"))) (known_number 1 MOST_BITS n m few_bits writes)
  asks-self Comparator =
      outcome-marked (completed self_command) (plain (codes "comparator") ∷ plain n ∷ []) (refl, refl, (digits-plain 1 MOST_BITS n m writes, refl, tt))
      ∙ ap (λ (k : Kinds). if is_empty (or_else (or_else k []) []) then self_of (Some (codes "comparator")) (number_in 1 MOST_BITS n) else None)
      (accepted 1 MOST_BITS n m few_bits writes)
      ∙ ap (self_of (Some (codes "comparator"))) (known_number 1 MOST_BITS n m few_bits writes)

module _ (program a b : Text) (plain_a : IsPlain a) (plain_b : IsPlain b) where
  pub asks-lrat : outcome_of (program ∷ codes "lrat" ∷ a ∷ b ∷ []) ≡ Some (Requested (LratIt (record { cnf = a; proof = b })))
  unfolding outcome_of faults walked walk_fault defaults_fault
  asks-lrat = outcome-marked (completed lrat_command) (plain a ∷ plain b ∷ []) (plain_a, refl, (plain_b, refl, tt))

  pub asks-check : outcome_of (program ∷ codes "check" ∷ a ∷ b ∷ []) ≡ Some (Requested (CheckIt (plain_check a b)))
  unfolding outcome_of faults walked walk_fault defaults_fault
  asks-check = outcome-marked (completed check_command) (plain a ∷ plain b ∷ []) (plain_a, refl, (plain_b, refl, tt))

-- ---- an option that is given sets its own field and no other

-- a number in its range is taken where the words have no fault but one of it
module _ (least most default n : ℕ) (word : Text) (fits : most ≤ most_seed) (writes : Writes least most word n) where
  number-taken : (passes : Kinds → Bool) (make : ℕ → Request) → passes [] ≡ true
      → (if passes (values_kinds false (Unsigned least most) (word ∷ []))
      then Some (Requested (make (unwrap_or (number_in least most word) default))) else None)
      ≡ Some (Requested (make n))
  number-taken passes make empty =
      rw (accepted least most word n fits writes, empty, known_number least most word n fits writes) refl

sets-number : (name : Text) (least most default : ℕ) (set : CheckCommand → ℕ → CheckCommand) → most ≤ most_seed
    → ((program a b word : Text) → IsPlain a → IsPlain b → IsPlain word
    → outcome_of (program ∷ codes "check" ∷ a ∷ b ∷ name ∷ word ∷ [])
    ≡ (if is_empty (or_else (or_else (values_kinds false (Unsigned least most) (word ∷ [])) []) [])
    then Some (Requested (CheckIt (set (plain_check a b) (unwrap_or (number_in least most word) default)))) else None))
    → SetsNumber name least most set
sets-number name least most default set fits walk a b word n plain_a plain_b writes program =
    walk program a b word plain_a plain_b (digits-plain least most word n writes)
    ∙ number-taken least most default n word fits writes (λ k. is_empty (or_else (or_else k []) []))
    (λ v. CheckIt (set (plain_check a b) v)) refl

-- the same of a reduced circuit
sets-fraig : (name : Text) (least most default : ℕ) (set : FraigCommand → ℕ → FraigCommand) → most ≤ most_seed
    → ((program a reduced word : Text) → IsPlain a → IsPlain reduced → IsPlain word
    → outcome_of (program ∷ codes "fraig" ∷ a ∷ reduced ∷ name ∷ word ∷ [])
    ≡ (if is_empty (or_else (or_else (values_kinds false (Unsigned least most) (word ∷ [])) []) [])
    then Some (Requested (FraigIt (set (plain_fraig a reduced) (unwrap_or (number_in least most word) default)))) else None))
    → SetsFraigNumber name least most set
sets-fraig name least most default set fits walk a reduced word n plain_a plain_r writes program =
    walk program a reduced word plain_a plain_r (digits-plain least most word n writes)
    ∙ number-taken least most default n word fits writes (λ k. is_empty (or_else (or_else k []) []))
    (λ v. FraigIt (set (plain_fraig a reduced) v)) refl

few_words : WORDS_LIMIT ≤ most_seed
few_words = omega (arith, lit< {m = 64} {n = 18446744073709551615} tt)

few_workers : WORKERS_LIMIT ≤ most_seed
few_workers = omega (arith, lit< {m = 64} {n = 18446744073709551615} tt)

small_budget : BUDGET_LIMIT ≤ most_seed
small_budget = omega (arith, lit< {m = 1000000000} {n = 18446744073709551615} tt)

pub sets-edits : SetsText (codes "--edits") (λ c f. record c { edits = Some f })
unfolding outcome_of faults walked walk_fault defaults_fault
sets-edits a b f plain_a plain_b plain_f program =
    outcome-marked (completed check_command) (plain a ∷ plain b ∷ flag (codes "--edits") ∷ plain f ∷ [])
    (plain_a, refl, (plain_b, refl, (plain_f, refl, tt)))

pub sets-out : SetsText (codes "--out") (λ c p. record c { out = Some p })
unfolding outcome_of faults walked walk_fault defaults_fault
sets-out a b p plain_a plain_b plain_p program =
    outcome-marked (completed check_command) (plain a ∷ plain b ∷ flag (codes "--out") ∷ plain p ∷ [])
    (plain_a, refl, (plain_b, refl, (plain_p, refl, tt)))

pub sets-load : SetsText (codes "--load") (λ c f. record c { load = Some f })
unfolding outcome_of faults walked walk_fault defaults_fault
sets-load a b f plain_a plain_b plain_f program =
    outcome-marked (completed check_command) (plain a ∷ plain b ∷ flag (codes "--load") ∷ plain f ∷ [])
    (plain_a, refl, (plain_b, refl, (plain_f, refl, tt)))

pub sets-save : SetsText (codes "--save") (λ c f. record c { save = Some f })
unfolding outcome_of faults walked walk_fault defaults_fault
sets-save a b f plain_a plain_b plain_f program =
    outcome-marked (completed check_command) (plain a ∷ plain b ∷ flag (codes "--save") ∷ plain f ∷ [])
    (plain_a, refl, (plain_b, refl, (plain_f, refl, tt)))

pub sets-witness : SetsText (codes "--witness") (λ c f. record c { witness = Some f })
unfolding outcome_of faults walked walk_fault defaults_fault
sets-witness a b f plain_a plain_b plain_f program =
    outcome-marked (completed check_command) (plain a ∷ plain b ∷ flag (codes "--witness") ∷ plain f ∷ [])
    (plain_a, refl, (plain_b, refl, (plain_f, refl, tt)))

pub sets-stats : SetsFlag (codes "--stats") (λ c. record c { stats = true })
unfolding outcome_of faults walked walk_fault defaults_fault
sets-stats a b plain_a plain_b program =
    outcome-marked (completed check_command) (plain a ∷ plain b ∷ flag (codes "--stats") ∷ []) (plain_a, refl, (plain_b, refl, tt))

pub sets-progress : SetsFlag (codes "--progress") (λ c. record c { progress = true })
unfolding outcome_of faults walked walk_fault defaults_fault
sets-progress a b plain_a plain_b program =
    outcome-marked (completed check_command) (plain a ∷ plain b ∷ flag (codes "--progress") ∷ []) (plain_a, refl, (plain_b, refl, tt))

-- both name files that are written
pub saves-behind : (program a b p word : Text) → IsPlain a → IsPlain b → IsPlain p → IsPlain word
    → outcome_of (program ∷ codes "check" ∷ a ∷ b ∷ codes "--out" ∷ p ∷ codes "--save" ∷ word ∷ [])
    ≡ Some (saved (record (plain_check a b) { out = Some p; save = Some word }))
unfolding outcome_of faults walked walk_fault defaults_fault
saves-behind program a b p word plain_a plain_b plain_p plain_word =
    outcome-marked (completed check_command)
    (plain a ∷ plain b ∷ flag (codes "--out") ∷ plain p ∷ flag (codes "--save") ∷ plain word ∷ [])
    (plain_a, refl, (plain_b, refl, (plain_p, refl, (plain_word, refl, tt))))

pub witness-behind : (program a b p word : Text) → IsPlain a → IsPlain b → IsPlain p → IsPlain word
    → outcome_of (program ∷ codes "check" ∷ a ∷ b ∷ codes "--out" ∷ p ∷ codes "--witness" ∷ word ∷ [])
    ≡ Some (saved (record (plain_check a b) { out = Some p; witness = Some word }))
unfolding outcome_of faults walked walk_fault defaults_fault
witness-behind program a b p word plain_a plain_b plain_p plain_word =
    outcome-marked (completed check_command)
    (plain a ∷ plain b ∷ flag (codes "--out") ∷ plain p ∷ flag (codes "--witness") ∷ plain word ∷ [])
    (plain_a, refl, (plain_b, refl, (plain_p, refl, (plain_word, refl, tt))))

pub witness-beside : (program a b f word : Text) → IsPlain a → IsPlain b → IsPlain f → IsPlain word
    → outcome_of (program ∷ codes "check" ∷ a ∷ b ∷ codes "--save" ∷ f ∷ codes "--witness" ∷ word ∷ [])
    ≡ Some (saved (record (plain_check a b) { save = Some f; witness = Some word }))
unfolding outcome_of faults walked walk_fault defaults_fault
witness-beside program a b f word plain_a plain_b plain_f plain_word =
    outcome-marked (completed check_command)
    (plain a ∷ plain b ∷ flag (codes "--save") ∷ plain f ∷ flag (codes "--witness") ∷ plain word ∷ [])
    (plain_a, refl, (plain_b, refl, (plain_f, refl, (plain_word, refl, tt))))

pub sets-workers : SetsNumber (codes "--workers") 1 WORKERS_LIMIT (λ c n. record c { workers = n })
unfolding outcome_of faults walked walk_fault defaults_fault
sets-workers = sets-number (codes "--workers") 1 WORKERS_LIMIT 4 (λ c n. record c { workers = n }) few_workers
    (λ program a b word plain_a plain_b plain_word.
    outcome-marked (completed check_command) (plain a ∷ plain b ∷ flag (codes "--workers") ∷ plain word ∷ [])
    (plain_a, refl, (plain_b, refl, (plain_word, refl, tt))))

pub sets-seed : SetsNumber (codes "--seed") 0 most_seed (λ c n. record c { seed = n })
unfolding outcome_of faults walked walk_fault defaults_fault
sets-seed = sets-number (codes "--seed") 0 most_seed 1 (λ c n. record c { seed = n }) (omega arith)
    (λ program a b word plain_a plain_b plain_word.
    outcome-marked (completed check_command) (plain a ∷ plain b ∷ flag (codes "--seed") ∷ plain word ∷ [])
    (plain_a, refl, (plain_b, refl, (plain_word, refl, tt))))

pub sets-words : SetsNumber (codes "--words") 1 WORDS_LIMIT (λ c n. record c { words = n })
unfolding outcome_of faults walked walk_fault defaults_fault
sets-words = sets-number (codes "--words") 1 WORDS_LIMIT 4 (λ c n. record c { words = n }) few_words
    (λ program a b word plain_a plain_b plain_word.
    outcome-marked (completed check_command) (plain a ∷ plain b ∷ flag (codes "--words") ∷ plain word ∷ [])
    (plain_a, refl, (plain_b, refl, (plain_word, refl, tt))))

pub sets-sweep_budget : SetsNumber (codes "--sweep-budget") 1 BUDGET_LIMIT (λ c n. record c { sweep_budget = n })
unfolding outcome_of faults walked walk_fault defaults_fault
sets-sweep_budget =
    sets-number (codes "--sweep-budget") 1 BUDGET_LIMIT 100 (λ c n. record c { sweep_budget = n }) small_budget
    (λ program a b word plain_a plain_b plain_word.
    outcome-marked (completed check_command) (plain a ∷ plain b ∷ flag (codes "--sweep-budget") ∷ plain word ∷ [])
    (plain_a, refl, (plain_b, refl, (plain_word, refl, tt))))

pub sets-budget : SetsNumber (codes "--budget") 1 BUDGET_LIMIT (λ c n. record c { budget = n })
unfolding outcome_of faults walked walk_fault defaults_fault
sets-budget = sets-number (codes "--budget") 1 BUDGET_LIMIT 100000 (λ c n. record c { budget = n }) small_budget
    (λ program a b word plain_a plain_b plain_word.
    outcome-marked (completed check_command) (plain a ∷ plain b ∷ flag (codes "--budget") ∷ plain word ∷ [])
    (plain_a, refl, (plain_b, refl, (plain_word, refl, tt))))

pub sets-match_position : SetsName (codes "--match") (codes "position") (λ c. record c { by_name = false })
unfolding outcome_of faults walked walk_fault defaults_fault
sets-match_position a b plain_a plain_b program =
    outcome-marked (completed check_command) (plain a ∷ plain b ∷ flag (codes "--match") ∷ plain (codes "position") ∷ [])
    (plain_a, refl, (plain_b, refl, (refl, refl, tt)))

pub sets-match_names : SetsName (codes "--match") (codes "names") (λ c. record c { by_name = true })
unfolding outcome_of faults walked walk_fault defaults_fault
sets-match_names a b plain_a plain_b program =
    outcome-marked (completed check_command) (plain a ∷ plain b ∷ flag (codes "--match") ∷ plain (codes "names") ∷ [])
    (plain_a, refl, (plain_b, refl, (refl, refl, tt)))

-- a word that is neither name is no pairing
not_named : (word name : Text) → word ≢ name → bytes_eq word name ≡ false
not_named word name apart = false_from_ne_true _ (λ same. apart ((bytes_eq-Decides word name).0 same))

no_pairing : (word : Text) → word ≢ codes "position" → word ≢ codes "names" → pairing_named word ≡ None
no_pairing word position names = rw (not_named word (codes "position") position, not_named word (codes "names") names) refl

pub misnames-match : (program a b word : Text) → IsPlain a → IsPlain b → IsPlain word → word ≢ codes "position" → word ≢ codes "names"
    → outcome_of (program ∷ codes "check" ∷ a ∷ b ∷ codes "--match" ∷ word ∷ []) ≡ Some (Misuses (Misnames (misnamed_pairing word)))
unfolding outcome_of faults walked walk_fault defaults_fault
misnames-match program a b word plain_a plain_b plain_word position names =
    outcome-marked (completed check_command) (plain a ∷ plain b ∷ flag (codes "--match") ∷ plain word ∷ [])
    (plain_a, refl, (plain_b, refl, (plain_word, refl, tt)))
    ∙ ap (λ (pairing : Option Bool). Some (matched_by pairing word (plain_check a b))) (no_pairing word position names)

-- two options, in either order
module _ (program a b p word : Text) (n : ℕ) (plain_a : IsPlain a) (plain_b : IsPlain b) (plain_p : IsPlain p)
    (writes : Writes 1 BUDGET_LIMIT word n) where
  plain_n : IsPlain word
  plain_n = digits-plain 1 BUDGET_LIMIT word n writes

  pub sets-out_budget : outcome_of (program ∷ codes "check" ∷ a ∷ b ∷ codes "--out" ∷ p ∷ codes "--budget" ∷ word ∷ [])
      ≡ Some (Requested (CheckIt (record (plain_check a b) { out = Some p; budget = n })))
  unfolding outcome_of faults walked walk_fault defaults_fault
  sets-out_budget =
      outcome-marked (completed check_command)
      (plain a ∷ plain b ∷ flag (codes "--out") ∷ plain p ∷ flag (codes "--budget") ∷ plain word ∷ [])
      (plain_a, refl, (plain_b, refl, (plain_p, refl, (plain_n, refl, tt))))
      ∙ number-taken 1 BUDGET_LIMIT 100000 n word small_budget writes (λ k. is_empty (or_else (or_else k []) []))
      (λ v. CheckIt (record (plain_check a b) { out = Some p; budget = v })) refl

  pub sets-budget_out : outcome_of (program ∷ codes "check" ∷ a ∷ b ∷ codes "--budget" ∷ word ∷ codes "--out" ∷ p ∷ [])
      ≡ Some (Requested (CheckIt (record (plain_check a b) { out = Some p; budget = n })))
  unfolding outcome_of faults walked walk_fault defaults_fault
  sets-budget_out =
      outcome-marked (completed check_command)
      (plain a ∷ plain b ∷ flag (codes "--budget") ∷ plain word ∷ flag (codes "--out") ∷ plain p ∷ [])
      (plain_a, refl, (plain_b, refl, (plain_n, refl, (plain_p, refl, tt))))
      ∙ number-taken 1 BUDGET_LIMIT 100000 n word small_budget writes
      (λ k. is_empty (or_else (or_else (or_else (or_else k []) []) []) []))
      (λ v. CheckIt (record (plain_check a b) { out = Some p; budget = v })) refl

-- ---- a reduced circuit

pub asks-fraig : (program a reduced : Text) → IsPlain a → IsPlain reduced
    → outcome_of (program ∷ codes "fraig" ∷ a ∷ reduced ∷ []) ≡ Some (Requested (FraigIt (plain_fraig a reduced)))
unfolding outcome_of faults walked walk_fault defaults_fault
asks-fraig program a reduced plain_a plain_r =
    outcome-marked (completed fraig_command) (plain a ∷ plain reduced ∷ []) (plain_a, refl, (plain_r, refl, tt))

-- both name files that are written
pub writes-behind : (program a reduced p : Text) → IsPlain a → IsPlain reduced → IsPlain p
    → outcome_of (program ∷ codes "fraig" ∷ a ∷ reduced ∷ codes "--out" ∷ p ∷ [])
    ≡ Some (written (record (plain_fraig a reduced) { out = Some p }))
unfolding outcome_of faults walked walk_fault defaults_fault
writes-behind program a reduced p plain_a plain_r plain_p =
    outcome-marked (completed fraig_command) (plain a ∷ plain reduced ∷ flag (codes "--out") ∷ plain p ∷ [])
    (plain_a, refl, (plain_r, refl, (plain_p, refl, tt)))

pub fraig-workers : SetsFraigNumber (codes "--workers") 1 WORKERS_LIMIT (λ c n. record c { workers = n })
unfolding outcome_of faults walked walk_fault defaults_fault
fraig-workers = sets-fraig (codes "--workers") 1 WORKERS_LIMIT 4 (λ c n. record c { workers = n }) few_workers
    (λ program a reduced word plain_a plain_r plain_word.
    outcome-marked (completed fraig_command) (plain a ∷ plain reduced ∷ flag (codes "--workers") ∷ plain word ∷ [])
    (plain_a, refl, (plain_r, refl, (plain_word, refl, tt))))

pub fraig-seed : SetsFraigNumber (codes "--seed") 0 most_seed (λ c n. record c { seed = n })
unfolding outcome_of faults walked walk_fault defaults_fault
fraig-seed = sets-fraig (codes "--seed") 0 most_seed 1 (λ c n. record c { seed = n }) (omega arith)
    (λ program a reduced word plain_a plain_r plain_word.
    outcome-marked (completed fraig_command) (plain a ∷ plain reduced ∷ flag (codes "--seed") ∷ plain word ∷ [])
    (plain_a, refl, (plain_r, refl, (plain_word, refl, tt))))

pub fraig-words : SetsFraigNumber (codes "--words") 1 WORDS_LIMIT (λ c n. record c { words = n })
unfolding outcome_of faults walked walk_fault defaults_fault
fraig-words = sets-fraig (codes "--words") 1 WORDS_LIMIT 4 (λ c n. record c { words = n }) few_words
    (λ program a reduced word plain_a plain_r plain_word.
    outcome-marked (completed fraig_command) (plain a ∷ plain reduced ∷ flag (codes "--words") ∷ plain word ∷ [])
    (plain_a, refl, (plain_r, refl, (plain_word, refl, tt))))

pub fraig-sweep_budget : SetsFraigNumber (codes "--sweep-budget") 1 BUDGET_LIMIT (λ c n. record c { sweep_budget = n })
unfolding outcome_of faults walked walk_fault defaults_fault
fraig-sweep_budget =
    sets-fraig (codes "--sweep-budget") 1 BUDGET_LIMIT 100 (λ c n. record c { sweep_budget = n }) small_budget
    (λ program a reduced word plain_a plain_r plain_word.
    outcome-marked (completed fraig_command) (plain a ∷ plain reduced ∷ flag (codes "--sweep-budget") ∷ plain word ∷ [])
    (plain_a, refl, (plain_r, refl, (plain_word, refl, tt))))
