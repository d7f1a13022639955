-- Which names are those of files that a check leaves.
use Rattle.std.proofs.Common.{◌≡◌, ◌∙◌, ◌&&◌, ◌||◌, ℕ, Bool, true, false, eqb, inl, inr, refl, sym, ap, ap₂, subst, codes, List, [], ◌∷◌, ◌++◌, Option, Some, None, append_assoc}
use Rattle.std.specs.Prelude.{◌⊎◌, ◌≢◌, not, option_and_then, option_map, if◌then◌else◌}
use Rattle.std.specs.Char.{is_ascii_digit}
use Rattle.std.specs.Option.{option_map_or}
use Rattle.std.specs.Str.{all_ascii_digits, bytes_eq}
use Rattle.std.proofs.lemmas.Bool.{and_parts, or_cases, or_left, or_right, eq-eqb, eqb-true}
use Rattle.std.proofs.lemmas.Option.{none-some, same_Some}
use Rattle.std.proofs.lemmas.Slice.Eq.{bytes_eq-Decides}
use Rattle.clap.specs.Simple.{subcommand_of}
use Rattle.clap.specs.Walk.{Row, Text, first_of, is_empty}
use Rattle.command_line.specs.Saved.{IsFirstUnder, IsLeftUnder, are_digits, behind, behind_digits, is_ending, is_first_under, is_left_under, is_numbered, names_left, names_one, writes_over}
use Rattle.command_line.specs.Commands.{cec_app}
use Rattle.command_line.specs.Words.{Asks, CheckCommand, CheckIt, FraigCommand, FraigIt, Misnames, Misuses, Outcome, Requested, SavesOver, WritesOver, WitnessOver, WitnessSaved, check_given, check_in, faults, fraig_given, fraig_in, kind_named, lrat_in, lrat_of, matched, matched_by, misnamed_pairing, names_help, number_of, outcome_in, outcome_of, pairing_named, saved, self_in, self_of, workload_of, written}
use Rattle.workload_gen.specs.declared.kind.Kind.{Kind}
use Rattle.workload_gen.specs.declared.workload.TheConstants.{MOST_BITS}

-- ---- what stands behind a text

pub behind-front : (front rest : Text) → behind front (front ++ rest) ≡ Some rest
behind-front [] rest = refl
behind-front (p ∷ ps) rest = rw (eq-eqb p p refl) (behind-front ps rest)

pub behind-is : (front text rest : Text) → behind front text ≡ Some rest → text ≡ front ++ rest
behind-is [] text rest is = same_Some text rest is
behind-is (p ∷ ps) [] rest is = absurd (none-some rest is)
behind-is (p ∷ ps) (b ∷ bs) rest is = go (eqb p b) refl (behind-is ps bs rest)
  where
    go : (t : Bool) → eqb p b ≡ t → (behind ps bs ≡ Some rest → bs ≡ ps ++ rest) → (b ∷ bs) ≡ (p ∷ (ps ++ rest))
    go true same more = ap₂ (λ (x : ℕ) (xs : Text). x ∷ xs) (sym (eqb-true p b same)) (more (rw same at is))
    go false apart more = absurd (none-some rest (rw apart at is))

pub behind-none : (front text : Text) → ((rest : Text) → ¬ (text ≡ front ++ rest)) → behind front text ≡ None
behind-none front text apart = go (behind front text) refl
  where
    go : (o : Option Text) → behind front text ≡ o → o ≡ None
    go None is = refl
    go (Some rest) is = absurd (apart rest (behind-is front text rest is))

behind-both : (front mid text : Text) → behind (front ++ mid) text ≡ option_and_then (behind mid) (behind front text)
behind-both [] mid text = refl
behind-both (p ∷ ps) mid [] = refl
behind-both (p ∷ ps) mid (b ∷ bs) = go (eqb p b) refl (behind-both ps mid bs)
  where
    go : (t : Bool) → eqb p b ≡ t → behind (ps ++ mid) bs ≡ option_and_then (behind mid) (behind ps bs)
        → behind ((p ∷ ps) ++ mid) (b ∷ bs) ≡ option_and_then (behind mid) (behind (p ∷ ps) (b ∷ bs))
    go true same more = rw same more
    go false apart more = rw apart refl

-- what `is_left_under` looks at
abbrev dotted : Text → Text → Option Text
dotted prefix name = behind (prefix ++ codes ".") name

pub left-behind : (prefix name rest others : Text) → name ≡ prefix ++ rest → rest ≡ codes "." ++ others → is_numbered others ≡ is_left_under prefix name
unfolding is_left_under
left-behind prefix name rest others name_is rest_is =
    let there : dotted prefix name ≡ Some others =
    behind-both prefix (codes ".") name
    ∙ ap (option_and_then (behind (codes "."))) (ap (behind prefix) name_is ∙ behind-front prefix rest)
    ∙ ap (behind (codes ".")) rest_is ∙ behind-front (codes ".") others in
    rw there refl

pub none-dotted : (prefix name rest : Text) → name ≡ prefix ++ rest → ((others : Text) → ¬ (rest ≡ codes "." ++ others))
    → false ≡ is_left_under prefix name
unfolding is_left_under
none-dotted prefix name rest name_is apart =
    let none : dotted prefix name ≡ None =
    behind-both prefix (codes ".") name
    ∙ ap (option_and_then (behind (codes "."))) (ap (behind prefix) name_is ∙ behind-front prefix rest)
    ∙ behind-none (codes ".") rest apart in
    rw none refl

pub none-behind : (prefix name : Text) → ((rest : Text) → ¬ (name ≡ prefix ++ rest)) → false ≡ is_left_under prefix name
unfolding is_left_under
none-behind prefix name apart =
    let none : dotted prefix name ≡ None =
    behind-both prefix (codes ".") name ∙ ap (option_and_then (behind (codes "."))) (behind-none prefix name apart) in
    rw none refl

-- ---- and behind digits

digits-front : (ds rest : Text) → all_ascii_digits ds ≡ true → behind_digits rest ≡ rest → behind_digits (ds ++ rest) ≡ rest
digits-front [] rest all ends = ends
digits-front (d ∷ ds) rest all ends =
    let both = and_parts (is_ascii_digit d) (all_ascii_digits ds) all in
    rw both.0 (digits-front ds rest both.1 ends)

-- the digits with which a text begins
record HasDigits (text : Text) : Type 0 where
  digits : Text
  are : all_ascii_digits digits ≡ true
  is : text ≡ digits ++ behind_digits text

has-digits : (text : Text) → HasDigits text
has-digits [] = record { digits = []; are = refl; is = refl }
has-digits (b ∷ bs) = go (is_ascii_digit b) refl (has-digits bs)
  where
    go : (t : Bool) → is_ascii_digit b ≡ t → HasDigits bs → HasDigits (b ∷ bs)
    go true one h = record {
      digits = b ∷ h.digits;
      are = rw one h.are;
      is = rw one (ap (λ (xs : Text). b ∷ xs) h.is);
    }
    go false none h = record { digits = []; are = refl; is = rw none refl }

-- ---- names of files

ends-none : (ending : Text) → (ending ≡ codes ".cnf") ⊎ (ending ≡ codes ".lrat") → behind_digits ending ≡ ending
ends-none ending (inl is) = rw is refl
ends-none ending (inr is) = rw is refl

ends-told : (ending : Text) → (ending ≡ codes ".cnf") ⊎ (ending ≡ codes ".lrat") → is_ending ending ≡ true
ends-told ending (inl is) = or_left _ _ ((bytes_eq-Decides ending (codes ".cnf")).1 is)
ends-told ending (inr is) = or_right _ _ ((bytes_eq-Decides ending (codes ".lrat")).1 is)

numbered-told : (digits ending : Text) → are_digits digits ≡ true → (ending ≡ codes ".cnf") ⊎ (ending ≡ codes ".lrat")
    → is_numbered (digits ++ ending) ≡ true
numbered-told [] ending are ends = cc
numbered-told (d ∷ ds) ending are ends =
    let both = and_parts (is_ascii_digit d) (all_ascii_digits ds) are in
    rw (both.0, digits-front ds ending both.1 (ends-none ending ends)) (ends-told ending ends)

pub left-told : (prefix name : Text) → IsLeftUnder prefix name → is_left_under prefix name ≡ true
unfolding is_left_under
left-told prefix name l =
    let front : Text = prefix ++ codes "." in
    let there : name ≡ front ++ (l.digits ++ l.ending) = l.name_is ∙ append_assoc front l.digits l.ending in
    let rest : behind front name ≡ Some (l.digits ++ l.ending) =
    ap (behind front) there ∙ behind-front front (l.digits ++ l.ending) in
    rw rest (numbered-told l.digits l.ending l.are l.ends)

-- a text that is digits and an ending
record IsNumbered (text : Text) : Type 0 where
  digits : Text
  are : are_digits digits ≡ true
  ending : Text
  ends : (ending ≡ codes ".cnf") ⊎ (ending ≡ codes ".lrat")
  is : text ≡ digits ++ ending

told-numbered : (text : Text) → is_numbered text ≡ true → IsNumbered text
told-numbered [] told = cc
told-numbered (b ∷ bs) told =
    let both = and_parts (is_ascii_digit b) (is_ending (behind_digits bs)) told in
    let h = has-digits bs in
    let ends : (behind_digits bs ≡ codes ".cnf") ⊎ (behind_digits bs ≡ codes ".lrat") =
    elim (or_cases _ _ both.1) [
      | inl cnf ↦ inl ((bytes_eq-Decides (behind_digits bs) (codes ".cnf")).0 cnf)
      | inr proof ↦ inr ((bytes_eq-Decides (behind_digits bs) (codes ".lrat")).0 proof)
    ] in
    record {
      digits = b ∷ h.digits;
      are = rw both.0 h.are;
      ending = behind_digits bs;
      ends = ends;
      is = ap (λ (xs : Text). b ∷ xs) h.is;
    }

pub told-left : (prefix name : Text) → is_left_under prefix name ≡ true → IsLeftUnder prefix name
unfolding is_left_under
told-left prefix name told = go (behind (prefix ++ codes ".") name) refl told
  where
    go : (o : Option Text) → behind (prefix ++ codes ".") name ≡ o → option_map_or is_numbered o false ≡ true → IsLeftUnder prefix name
    go None is told = cc
    go (Some rest) is told =
        let n = told-numbered rest told in
        record {
          digits = n.digits;
          are = n.are;
          ending = n.ending;
          ends = n.ends;
          name_is =
              behind-is (prefix ++ codes ".") name rest is
              ∙ ap (λ (xs : Text). (prefix ++ codes ".") ++ xs) n.is
              ∙ sym (append_assoc (prefix ++ codes ".") n.digits n.ending);
        }

-- ---- names of the files of a command's only check

pub told-first : (prefix name : Text) → is_first_under prefix name ≡ true → IsFirstUnder prefix name
unfolding is_first_under
told-first prefix name told = elim (or_cases _ _ told) [
  | inl cnf ↦ inl ((bytes_eq-Decides name (prefix ++ codes ".0.cnf")).0 cnf)
  | inr proof ↦ inr ((bytes_eq-Decides name (prefix ++ codes ".0.lrat")).0 proof)
]

pub first-told : (prefix name : Text) → IsFirstUnder prefix name → is_first_under prefix name ≡ true
unfolding is_first_under
first-told prefix name (inl is) = or_left _ _ ((bytes_eq-Decides name (prefix ++ codes ".0.cnf")).1 is)
first-told prefix name (inr is) = or_right _ _ ((bytes_eq-Decides name (prefix ++ codes ".0.lrat")).1 is)

-- texts that begin alike are one where what stands behind that is
same-behind : (front x y : Text) → bytes_eq x y ≡ bytes_eq (front ++ x) (front ++ y)
same-behind front x y = go (bytes_eq x y) (bytes_eq (front ++ x) (front ++ y)) refl refl
  where
    go : (s t : Bool) → bytes_eq x y ≡ s → bytes_eq (front ++ x) (front ++ y) ≡ t → s ≡ t
    go true true is at = refl
    go false false is at = refl
    go true false is at =
        let same : bytes_eq (front ++ x) (front ++ y) ≡ true =
        (bytes_eq-Decides (front ++ x) (front ++ y)).1 (ap (λ (rest : Text). front ++ rest) ((bytes_eq-Decides x y).0 is)) in
        cc
    go false true is at =
        let both : behind front (front ++ x) ≡ behind front (front ++ y) =
        ap (behind front) ((bytes_eq-Decides (front ++ x) (front ++ y)).0 at) in
        let rests : Some x ≡ Some y = sym (behind-front front x) ∙ both ∙ behind-front front y in
        let same : bytes_eq x y ≡ true = (bytes_eq-Decides x y).1 (same_Some x y rests) in
        cc

pub first-behind : (prefix name rest : Text) → name ≡ prefix ++ rest
    → (bytes_eq rest (codes ".0.cnf") || bytes_eq rest (codes ".0.lrat")) ≡ is_first_under prefix name
unfolding is_first_under
first-behind prefix name rest is =
    rw is (ap₂ (λ (x y : Bool). x || y) (same-behind prefix rest (codes ".0.cnf")) (same-behind prefix rest (codes ".0.lrat")))

pub first-none : (prefix name : Text) → ((rest : Text) → ¬ (name ≡ prefix ++ rest)) → false ≡ is_first_under prefix name
first-none prefix name apart = go (is_first_under prefix name) refl
  where
    go : (t : Bool) → is_first_under prefix name ≡ t → false ≡ t
    go false is = refl
    go true is = elim (told-first prefix name is) [
      | inl cnf ↦ absurd (apart (codes ".0.cnf") cnf)
      | inr proof ↦ absurd (apart (codes ".0.lrat") proof)
    ]

-- ---- a check that is asked for

abbrev asks_for : Outcome → CheckCommand → Type 0
asks_for o c = o ≡ Requested (CheckIt c)

-- what it is, if it is one
abbrev check_or : CheckCommand → Outcome → CheckCommand
check_or d (Requested (CheckIt c)) = c
check_or d other = d

-- the files that it writes are apart: the lemmas and the witness from those that it leaves, and from each other
abbrev AreApart : CheckCommand → Type 0
AreApart c = (names_left c.out c.save ≡ false) × (names_left c.out c.witness ≡ false) × (names_one c.save c.witness ≡ false)

saved-apart : (d c : CheckCommand) → asks_for (saved d) c → AreApart c
saved-apart d c asks = go (names_left d.out d.save) (names_left d.out d.witness) (names_one d.save d.witness) refl refl refl
  where
    go : (s t u : Bool) → names_left d.out d.save ≡ s → names_left d.out d.witness ≡ t → names_one d.save d.witness ≡ u → AreApart c
    go true t u over left one = let bad : Misuses SavesOver ≡ Requested (CheckIt c) = rw over at asks in cc
    go false true u apart over one = let bad : Misuses WitnessOver ≡ Requested (CheckIt c) = rw (apart, over) at asks in cc
    go false false true apart left over = let bad : Misuses WitnessSaved ≡ Requested (CheckIt c) = rw (apart, left, over) at asks in cc
    go false false false apart left other =
        let same : Requested (CheckIt d) ≡ Requested (CheckIt c) = rw (apart, left, other) at asks in
        subst AreApart (ap (check_or d) same) (apart, left, other)

matched-apart : (word : Option Text) (d c : CheckCommand) → asks_for (matched word d) c → AreApart c
matched-apart None d c asks = saved-apart d c asks
matched-apart (Some word) d c asks = go (pairing_named word) asks
  where
    go : (by : Option Bool) → asks_for (matched_by by word d) c → AreApart c
    go (Some by_name) asks = saved-apart (record d { by_name = by_name }) c asks
    go None asks = let bad : Misuses (Misnames (misnamed_pairing word)) ≡ Requested (CheckIt c) = asks in cc

check-apart : (pairing : Option Text) (given : Option CheckCommand) (c : CheckCommand) → option_map (matched pairing) given ≡ Some (Requested (CheckIt c))
    → AreApart c
check-apart pairing None c asks = absurd (none-some (Requested (CheckIt c)) asks)
check-apart pairing (Some d) c asks = matched-apart pairing d c (same_Some (matched pairing d) (Requested (CheckIt c)) asks)

fraig-other : (given : Option FraigCommand) (c : CheckCommand) → option_map written given ≡ Some (Requested (CheckIt c)) → ⊥
fraig-other None c asks = none-some (Requested (CheckIt c)) asks
fraig-other (Some d) c asks = go (writes_over d.out d.reduced) (same_Some (written d) (Requested (CheckIt c)) asks)
  where
    go : (t : Bool) → (if t then Misuses WritesOver else Requested (FraigIt d)) ≡ Requested (CheckIt c) → ⊥
    go true is = cc
    go false is = cc

lrat-other : (cnf proof : Option Text) (c : CheckCommand) → lrat_of cnf proof ≡ Some (Requested (CheckIt c)) → ⊥
lrat-other (Some cnf) (Some proof) c asks = cc
lrat-other (Some cnf) None c asks = cc
lrat-other None proof c asks = cc

self-other : (word : Option Text) (n : Option ℕ) (c : CheckCommand) → self_of word n ≡ Some (Requested (CheckIt c)) → ⊥
self-other (Some word) (Some n) c asks = go (kind_named word) (same_Some (workload_of (kind_named word) word n) (Requested (CheckIt c)) asks)
  where
    go : (kind : Option Kind) → workload_of kind word n ≡ Requested (CheckIt c) → ⊥
    go (Some kind) is = cc
    go None is = cc
self-other (Some word) None c asks = cc
self-other None n c asks = cc

outcome-apart : (name : Text) (rows : List Row) (c : CheckCommand) → outcome_in name rows ≡ Some (Requested (CheckIt c)) → AreApart c
outcome-apart name rows c asks =
    go (bytes_eq name (codes "check")) (bytes_eq name (codes "fraig")) (bytes_eq name (codes "lrat")) (bytes_eq name (codes "self")) asks
  where
    go : (x f y z : Bool)
        → (if x then check_in rows else if f then fraig_in rows else if y then lrat_in rows else if z then self_in rows else None)
        ≡ Some (Requested (CheckIt c)) → AreApart c
    go true f y z is = check-apart (first_of (codes "match") rows) (check_given rows) c is
    go false true y z is = absurd (fraig-other (fraig_given rows) c is)
    go false false true z is = absurd (lrat-other (first_of (codes "cnf") rows) (first_of (codes "proof") rows) c is)
    go false false false true is = absurd (self-other (first_of (codes "kind") rows) (number_of (codes "n") 1 MOST_BITS rows) c is)
    go false false false false is = absurd (none-some (Requested (CheckIt c)) is)

-- so they are where it is asked for
asks-apart : (words : List Text) (c : CheckCommand) → Asks words (CheckIt c) → AreApart c
unfolding outcome_of
asks-apart words c asks = go (not (names_help words) && is_empty (faults words)) asks
  where
    found : (given : Option (Text × List Row)) → option_and_then (λ p. outcome_in p.0 p.1) given ≡ Some (Requested (CheckIt c))
        → AreApart c
    found None is = absurd (none-some (Requested (CheckIt c)) is)
    found (Some p) is = outcome-apart p.0 p.1 c is

    go : (t : Bool) → (if t then option_and_then (λ p. outcome_in p.0 p.1) (subcommand_of cec_app words) else None) ≡ Some (Requested (CheckIt c))
        → AreApart c
    go true is = found (subcommand_of cec_app words) is
    go false is = absurd (none-some (Requested (CheckIt c)) is)

module _ (words : List Text) (c : CheckCommand) (asks : Asks words (CheckIt c)) where
  none-left : (prefix name : Text) (file : Option Text) → names_left c.out file ≡ false → c.out ≡ Some prefix → file ≡ Some name
      → ¬ IsLeftUnder prefix name
  none-left prefix name file apart out is left =
      let told : names_left c.out file ≡ true = ap₂ names_left out is ∙ left-told prefix name left in
      let bad : false ≡ true = sym apart ∙ told in
      cc

  pub none-over : (prefix name : Text) → c.out ≡ Some prefix → c.save ≡ Some name → ¬ IsLeftUnder prefix name
  none-over prefix name = none-left prefix name c.save (asks-apart words c asks).0

  -- its witness neither, nor its lemmas
  pub none-shown : (prefix name : Text) → c.out ≡ Some prefix → c.witness ≡ Some name → ¬ IsLeftUnder prefix name
  none-shown prefix name = none-left prefix name c.witness (asks-apart words c asks).1

  pub none-saved : (name lemmas : Text) → c.witness ≡ Some name → c.save ≡ Some lemmas → name ≢ lemmas
  none-saved name lemmas witness save same =
      let told : names_one c.save c.witness ≡ true = ap₂ names_one save witness ∙ (bytes_eq-Decides lemmas name).1 (sym same) in
      let bad : false ≡ true = sym (asks-apart words c asks).2 ∙ told in
      cc

-- ---- a reduced circuit that is asked for

-- which it is, if it is one
abbrev fraig_or : FraigCommand → Outcome → FraigCommand
fraig_or d (Requested (FraigIt c)) = c
fraig_or d other = d

written-apart : (d c : FraigCommand) → written d ≡ Requested (FraigIt c) → writes_over c.out c.reduced ≡ false
written-apart d c asks = go (writes_over d.out d.reduced) refl
  where
    go : (t : Bool) → writes_over d.out d.reduced ≡ t → writes_over c.out c.reduced ≡ false
    go true over = let bad : Misuses WritesOver ≡ Requested (FraigIt c) = rw over at asks in cc
    go false apart =
        let same : Requested (FraigIt d) ≡ Requested (FraigIt c) = rw apart at asks in
        subst (λ (x : FraigCommand). writes_over x.out x.reduced ≡ false) (ap (fraig_or d) same) apart

fraig-apart : (given : Option FraigCommand) (c : FraigCommand) → option_map written given ≡ Some (Requested (FraigIt c))
    → writes_over c.out c.reduced ≡ false
fraig-apart None c asks = absurd (none-some (Requested (FraigIt c)) asks)
fraig-apart (Some d) c asks = written-apart d c (same_Some (written d) (Requested (FraigIt c)) asks)

-- no other command asks for one
saved-other : (d : CheckCommand) (c : FraigCommand) → saved d ≡ Requested (FraigIt c) → ⊥
saved-other d c = go (names_left d.out d.save) (names_left d.out d.witness) (names_one d.save d.witness)
  where
    go : (s t u : Bool)
        → (if s then Misuses SavesOver else if t then Misuses WitnessOver else if u then Misuses WitnessSaved else Requested (CheckIt d))
        ≡ Requested (FraigIt c) → ⊥
    go true t u is = cc
    go false true u is = cc
    go false false true is = cc
    go false false false is = cc

matched-other : (word : Option Text) (d : CheckCommand) (c : FraigCommand) → matched word d ≡ Requested (FraigIt c) → ⊥
matched-other None d c asks = saved-other d c asks
matched-other (Some word) d c asks = go (pairing_named word) asks
  where
    go : (by : Option Bool) → matched_by by word d ≡ Requested (FraigIt c) → ⊥
    go (Some by_name) is = saved-other (record d { by_name = by_name }) c is
    go None is = let bad : Misuses (Misnames (misnamed_pairing word)) ≡ Requested (FraigIt c) = is in cc

check-other : (pairing : Option Text) (given : Option CheckCommand) (c : FraigCommand)
    → option_map (matched pairing) given ≡ Some (Requested (FraigIt c)) → ⊥
check-other pairing None c asks = none-some (Requested (FraigIt c)) asks
check-other pairing (Some d) c asks = matched-other pairing d c (same_Some (matched pairing d) (Requested (FraigIt c)) asks)

lrat-no_fraig : (cnf proof : Option Text) (c : FraigCommand) → lrat_of cnf proof ≡ Some (Requested (FraigIt c)) → ⊥
lrat-no_fraig (Some cnf) (Some proof) c asks = cc
lrat-no_fraig (Some cnf) None c asks = cc
lrat-no_fraig None proof c asks = cc

self-no_fraig : (word : Option Text) (n : Option ℕ) (c : FraigCommand) → self_of word n ≡ Some (Requested (FraigIt c)) → ⊥
self-no_fraig (Some word) (Some n) c asks = go (kind_named word) (same_Some (workload_of (kind_named word) word n) (Requested (FraigIt c)) asks)
  where
    go : (kind : Option Kind) → workload_of kind word n ≡ Requested (FraigIt c) → ⊥
    go (Some kind) is = cc
    go None is = cc
self-no_fraig (Some word) None c asks = cc
self-no_fraig None n c asks = cc

outcome-written : (name : Text) (rows : List Row) (c : FraigCommand) → outcome_in name rows ≡ Some (Requested (FraigIt c))
    → writes_over c.out c.reduced ≡ false
outcome-written name rows c asks =
    go (bytes_eq name (codes "check")) (bytes_eq name (codes "fraig")) (bytes_eq name (codes "lrat")) (bytes_eq name (codes "self")) asks
  where
    go : (x f y z : Bool)
        → (if x then check_in rows else if f then fraig_in rows else if y then lrat_in rows else if z then self_in rows else None)
        ≡ Some (Requested (FraigIt c)) → writes_over c.out c.reduced ≡ false
    go true f y z is = absurd (check-other (first_of (codes "match") rows) (check_given rows) c is)
    go false true y z is = fraig-apart (fraig_given rows) c is
    go false false true z is = absurd (lrat-no_fraig (first_of (codes "cnf") rows) (first_of (codes "proof") rows) c is)
    go false false false true is = absurd (self-no_fraig (first_of (codes "kind") rows) (number_of (codes "n") 1 MOST_BITS rows) c is)
    go false false false false is = absurd (none-some (Requested (FraigIt c)) is)

-- it is written over none of the files that are left beside it
asks-written : (words : List Text) (c : FraigCommand) → Asks words (FraigIt c) → writes_over c.out c.reduced ≡ false
unfolding outcome_of
asks-written words c asks = go (not (names_help words) && is_empty (faults words)) asks
  where
    found : (given : Option (Text × List Row)) → option_and_then (λ p. outcome_in p.0 p.1) given ≡ Some (Requested (FraigIt c))
        → writes_over c.out c.reduced ≡ false
    found None is = absurd (none-some (Requested (FraigIt c)) is)
    found (Some p) is = outcome-written p.0 p.1 c is

    go : (t : Bool) → (if t then option_and_then (λ p. outcome_in p.0 p.1) (subcommand_of cec_app words) else None) ≡ Some (Requested (FraigIt c))
        → writes_over c.out c.reduced ≡ false
    go true is = found (subcommand_of cec_app words) is
    go false is = absurd (none-some (Requested (FraigIt c)) is)

pub none-written : (words : List Text) (c : FraigCommand) (prefix : Text) → Asks words (FraigIt c) → c.out ≡ Some prefix
    → ¬ IsFirstUnder prefix c.reduced
none-written words c prefix asks out first =
    let told : writes_over c.out c.reduced ≡ true =
    ap (λ (o : Option Text). writes_over o c.reduced) out ∙ first-told prefix c.reduced first in
    let bad : false ≡ true = sym (asks-written words c asks) ∙ told in
    cc
