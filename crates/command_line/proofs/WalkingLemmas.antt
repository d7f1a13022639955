-- What the rows hold as the words are read one by one, none of which has a fault.
use Rattle.std.proofs.Common.{◌≡◌, ◌&&◌, ℕ, Bool, true, false, cond, zero, suc, refl, ap, List, [], ◌∷◌, Option, Some, None, length, drop, fold, is_some, find}
use Rattle.std.specs.Prelude.{encode_utf8, slice_get}
use Rattle.std.specs.List.{list_all}
use Rattle.std.specs.Option.{option_map_or}
use Rattle.std.specs.Str.{bytes_eq, chars}
use Rattle.clap.specs.Lexer.{long_of, short_of}
use Rattle.clap.specs.Kinds.{Kinds, or_else}
use Rattle.clap.specs.Faults.{bundle_fault, bundle_step_fault, flag_word_fault, flags_fault, long_fault, option_fault, other_fault, positional_fault, react_fault, settle_fault, short_fault, step_fault, stray_fault, turn_fault, use_fault, walk_fault, word_fault}
use Rattle.clap.specs.Simple.{Shape}
use Rattle.clap.specs.Walk.{Held, Names, Outcome, Rule, Step, Text, Waiting, Walk, after_flag, after_step, arg_by_id, arg_by_index, arg_by_long, arg_by_short, attached_value, bundle, bundle_met, bundle_step, done, flag_met, is_pending, long_met, long_or_other, option, option_met, option_word, plain, plain_word, reacted, settled, settled_rows, short_met, short_or_plain, subcommand_met, subcommand_or_other, takes_several, takes_values, to_positional, used_by_id, waits, walked, walked_from, word_met}
use Rattle.clap.specs.Walk.{next as goes_on, trailing as ends_flags, subcommand as enters, value as is_value}
use Rattle.command_line.proofs.FoundLemmas.{found_passes}
use Rattle.command_line.proofs.RowLemmas.{AreFilled, first_passed, second_passed, takes_one, used_filled}

-- a test that chose the case of the fault, too
pub not_false : (b : Bool) (x y : Kinds) → b ≡ false → cond b x y ≡ [] → y ≡ []
not_false b x y is none = rw is at none

module _ (id : Text) (least most : ℕ) (c : List Rule) (again : Bool) (takes : list_all (takes_one id least most) c ≡ true) where
  abbrev Filled : Held → Type 0
  Filled h = AreFilled id least most h.rows

  -- an argument that is found takes one value
  found_takes : (p : Rule → Bool) (a : Rule) → find p c ≡ Some a → takes_one id least most a ≡ true
  found_takes p a found = found_passes p (takes_one id least most) c a takes found

  pub settled_filled : (h : Held) → settle_fault c again h ≡ [] → Filled h → Filled (settled c h)
  settled_filled h passed f = go h.pending passed
    where
      known : (p : Text × List Text) (found : Option Rule) → arg_by_id c p.0 ≡ found
          → option_map_or (λ (x : Rule). use_fault again x p.1 h.rows) found [] ≡ [] → AreFilled id least most (used_by_id found p.1 h.rows)
      known p None is none = f
      known p (Some a) is none =
          used_filled id least most again a p.1 h.rows (found_takes (λ x. bytes_eq x.id p.0) a is) none f

      go : (pending : Option (Text × List Text))
          → option_map_or (λ (p : Text × List Text). option_map_or (λ (x : Rule). use_fault again x p.1 h.rows) (arg_by_id c p.0) []) pending [] ≡ []
          → AreFilled id least most (settled_rows c pending h.rows)
      go None none = f
      go (Some p) none = known p (arg_by_id c p.0) refl none

  reacted_filled : (a : Rule) (values : List Text) (h : Held) → takes_one id least most a ≡ true → react_fault c again a values h ≡ []
      → Filled h → Filled (reacted c a values h)
  reacted_filled a values h one passed f =
      used_filled id least most again a values (settled c h).rows one (second_passed _ _ passed)
      (settled_filled h (first_passed _ _ passed) f)

  option_filled : (a : Rule) (v : Option Text) (h : Held) → takes_one id least most a ≡ true → option_fault c again a v h ≡ []
      → Filled h → Filled (option_met c a v h).0
  option_filled a (Some v) h one passed f = reacted_filled a (v ∷ []) h one passed f
  option_filled a None h one passed f = settled_filled h passed f

  flag_filled : (a : Rule) (v : Option Text) (h : Held) → takes_one id least most a ≡ true
      → (is_some v ≡ false → react_fault c again a [] h ≡ []) → Filled h → Filled (flag_met c a v h).0
  flag_filled a (Some v) h one passed f = f
  flag_filled a None h one passed f = reacted_filled a [] h one (passed refl) f

  long_filled : (found : Option Rule) (p : Rule → Bool) (v : Option Text) (h : Held) → find p c ≡ found → long_fault c again found v h ≡ []
      → Filled h → Filled (long_met c found v h).0
  long_filled None p v h is passed f = f
  long_filled (Some a) p v h is passed f = go (takes_values a) refl
    where
      one : takes_one id least most a ≡ true
      one = found_takes p a is

      go : (b : Bool) → takes_values a ≡ b → Filled (cond b (option_met c a v h) (flag_met c a v h)).0
      go true is = option_filled a v h one (rw is at passed) f
      go false is = flag_filled a v h one (λ no. not_false _ _ _ no (not_false _ _ _ is passed)) f

  short_filled : (rest : Text) (found : Option Rule) (p : Rule → Bool) (h : Held) (more : Held → Kinds) (then : Held → Held × Outcome)
      → find p c ≡ found → ((g : Held) → more g ≡ [] → Filled g → Filled (then g).0)
      → short_fault c again found rest h more ≡ [] → Filled h → Filled (short_met c found rest h then).0
  short_filled rest None p h more then is hm passed f = f
  short_filled rest (Some a) p h more then is hm passed f = go (takes_values a) refl
    where
      one : takes_one id least most a ≡ true
      one = found_takes p a is

      go : (b : Bool) → takes_values a ≡ b → Filled (cond b (option_met c a (attached_value rest) h) (then (reacted c a [] h))).0
      go true is = option_filled a (attached_value rest) h one (rw is at passed) f
      go false is =
          let parts : or_else (react_fault c again a [] h) (more (reacted c a [] h)) ≡ [] = not_false _ _ _ is passed in
          hm (reacted c a [] h) (second_passed _ _ parts) (reacted_filled a [] h one (first_passed _ _ parts) f)

  step_filled : (x : Option ℕ) (flags : Text) (skip : ℕ) (so_far : Outcome) (h : Held) (more : Text → ℕ → Held → Kinds)
      (then : Text → ℕ → Outcome → Held → Held × Outcome)
      → ((t : Text) (n : ℕ) (o : Outcome) (g : Held) → more t n g ≡ [] → Filled g → Filled (then t n o g).0)
      → bundle_step_fault c again x flags skip h more ≡ [] → Filled h → Filled (bundle_step c x flags skip so_far h then).0
  step_filled None flags skip so_far h more then hm passed f = f
  step_filled (Some x) flags zero so_far h more then hm passed f =
      let rest = drop (length (encode_utf8 x)) flags in
      short_filled rest (arg_by_short c x) _ h (more rest 0) (then rest 0 done) refl (hm rest 0 done) passed f
  step_filled (Some x) flags (suc skip) so_far h more then hm passed f =
      hm (drop (length (encode_utf8 x)) flags) skip so_far h passed f

  flags_filled : (k : ℕ) (flags : Text) (skip : ℕ) (so_far : Outcome) (h : Held) → flags_fault c again k flags skip h ≡ []
      → Filled h → Filled (bundle_met c k flags skip so_far h).0
  unfolding flags_fault bundle_met
  flags_filled zero flags skip so_far h passed f = f
  flags_filled (suc k) flags skip so_far h passed f =
      step_filled (slice_get (chars flags) 0) flags skip so_far h (flags_fault c again k) (bundle_met c k) (flags_filled k) passed f

  plain_filled : (waiting : Waiting) (word : Text) (h : Held) → Filled h → Filled (plain_word c waiting word h).0
  plain_filled (option name) word h f = go (arg_by_id c name)
    where
      go : (found : Option Rule) → Filled (option_word found name word h).0
      go None = f
      go (Some a) = f
  plain_filled other word h f = f

  after_flag_filled : (waiting : Waiting) (word : Text) (h : Held) (o : Outcome) → Filled h → Filled (after_flag c waiting word h o).0
  after_flag_filled waiting word h done f = f
  after_flag_filled waiting word h (waits name) f = f
  after_flag_filled waiting word h other f = plain_filled waiting word h f

  flag_word_filled : (long : Option (Text × Option Text)) (waiting : Waiting) (word : Text) (h : Held)
      → flag_word_fault c again long word h ≡ [] → Filled h → Filled (long_or_other c waiting word long h).0
  flag_word_filled (Some p) waiting word h passed f =
      after_flag_filled waiting word (long_met c (arg_by_long c p.0) p.1 h).0 (long_met c (arg_by_long c p.0) p.1 h).1
      (long_filled (arg_by_long c p.0) _ p.1 h refl passed f)
  flag_word_filled None waiting word h passed f = go (short_of word) passed
    where
      go : (short : Option Text) → option_map_or (λ (flags : Text). bundle_fault c again flags h) short [] ≡ []
          → Filled (short_or_plain c waiting word short h).0
      go None none = plain_filled waiting word h f
      go (Some flags) none =
          after_flag_filled waiting word (bundle c flags h).0 (bundle c flags h).1
          (flags_filled (length flags) flags h.skip plain (record h { skip = 0 }) none f)

module _ (id : Text) (least most : ℕ) (s : Shape) (takes : list_all (takes_one id least most) s.rules ≡ true) where
  abbrev Full : Held → Type 0
  Full h = AreFilled id least most h.rows

  word_filled : (name : Option Text) (waiting : Waiting) (position : ℕ) (word : Text) (h : Held)
      → other_fault s name word h ≡ [] → Full h → Full (subcommand_or_other s.rules name waiting position word h).0
  word_filled (Some name) waiting position word h passed f = f
  word_filled None waiting position word h passed f = go (bytes_eq word (45 ∷ 45 ∷ [])) refl
    where
      go : (b : Bool) → bytes_eq word (45 ∷ 45 ∷ []) ≡ b
          → Full (cond b (h, ends_flags position) (long_or_other s.rules waiting word (long_of word) h)).0
      go true is = f
      go false is =
          flag_word_filled id least most s.rules s.args_override_self takes (long_of word) waiting word h (not_false _ _ _ is passed) f

  met_filled : (names : Names) (trailing : Bool) (waiting : Waiting) (position : ℕ) (word : Text) (h : Held)
      → word_fault s names trailing waiting word h ≡ [] → Full h → Full (word_met s.rules names trailing waiting position word h).0
  met_filled names true waiting position word h passed f = f
  met_filled names false waiting position word h passed f =
      word_filled (subcommand_met names waiting word) waiting position word h passed f

  positional_filled : (found : Option Rule) (word : Text) (w : Walk) (h : Held)
      → option_map_or (λ (a : Rule). positional_fault s.rules s.args_override_self a h) found (stray_fault s) ≡ []
      → Full h → Full (to_positional s.rules found word w h).held
  positional_filled None word w h passed f = f
  positional_filled (Some a) word w h passed f = go (is_pending a h.pending && takes_several a) refl
    where
      go : (b : Bool) → (is_pending a h.pending && takes_several a) ≡ b → Full (cond b h (settled s.rules h))
      go true is = f
      go false is =
          settled_filled id least most s.rules s.args_override_self takes h (not_false _ _ _ is passed) f

  after_filled : (word : Text) (w : Walk) (h : Held) (step : Step) → step_fault s w.position h step ≡ []
      → Full h → Full (after_step s.rules word w h step).held
  after_filled word w h is_value passed f = positional_filled (arg_by_index s.rules w.position) word w h passed f
  after_filled word w h (goes_on waiting) passed f = f
  after_filled word w h (ends_flags position) passed f = f
  after_filled word w h (enters name) passed f = f

  turn_filled : (names : Names) (w : Walk) (word : Text) → turn_fault s names w word ≡ [] → Full w.held → Full (walked s.rules names w word).held
  unfolding walked
  turn_filled names w word passed f = go w.stopped refl
    where
      go : (stopped : Option (Text × List Text)) → w.stopped ≡ stopped → Full (walked_from s.rules names stopped w word).held
      go (Some p) is = f
      go None is =
          let met = word_met s.rules names w.is_trailing w.waiting w.position word w.held in
          let parts : or_else (word_fault s names w.is_trailing w.waiting word w.held) (step_fault s w.position met.0 met.1) ≡ [] =
          not_false _ _ _ (ap is_some is) passed in
          after_filled word w met.0 met.1 (second_passed _ _ parts)
          (met_filled names w.is_trailing w.waiting w.position word w.held (first_passed _ _ parts) f)

  pub walk_filled : (names : Names) (w : Walk) (words : List Text) → walk_fault s names w words ≡ [] → Full w.held
      → Full (fold (walked s.rules names) w words).held
  unfolding walk_fault
  walk_filled names w [] passed f = f
  walk_filled names w (word ∷ words) passed f =
      walk_filled names (walked s.rules names w word) words (second_passed _ _ passed)
      (turn_filled names w word (first_passed _ _ passed) f)
