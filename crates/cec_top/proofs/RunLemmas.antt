-- How checks are made one after another, as a script asks for them.
use Rattle.std.proofs.Common.{◌≡◌, ℕ, ◌+◌, inl, inr, Bool, true, false, List, [], ◌∷◌, ◌++◌, length, map, Some, None, Ok, Err, refl, sym, ap, ap₂, ◌∙◌, subst, arith, append_assoc}
use Rattle.std.specs.Prelude.{◌⊎◌, Result, if◌then◌else◌, option_map}
use Rattle.std.proofs.lemmas.List.{map-append, length-append}
use Rattle.desk_port.specs.Desk.{DeskState}
use Rattle.netlist.specs.Net.{AigPair}
use Rattle.netlist_edits.specs.declared.edit.Edit.{Edit}
use Rattle.netlist_edits.specs.declared.error.EditErr.{EditErr}
use Rattle.netlist_edits.specs.declared.error.EditErr.TheVariants.{NoMemory}
use Rattle.endings.specs.declared.status.Status.{Status}
use Rattle.endings.specs.declared.stop.Stop.{Stop}
use Rattle.endings.specs.declared.stop.Stop.TheVariants.{CannotRead, TooLong, BadFile, NotAlike, CannotWrite, OutOfMemory}
use Rattle.check_session.specs.Finding.{Finding, Equivalent, Different, Undecided}
use Rattle.check_session.specs.Check.{State, with_edit}
use Rattle.lemma_book.specs.Entry.{Entries}
use Rattle.lemma_book.specs.Book.{StartsWith}
use Rattle.keep_lemmas.specs.Kept.{kept as kept_lemmas}
use Rattle.cec_top.specs.declared.kept.Kept.{Kept}
use Rattle.cec_top.specs.Script.{Due, Plan, Refused, Turn, Passes, Makes, AsksCheck, Fails, asked_by, asked_from, due_behind, plan_of, turn_of}
use Rattle.cec_top.specs.Check.{How, Made, Opening, Tells, AreTold, TakesOver, AreInTurn, AreSome, KeepsOn, SaysFault, Ends, StopsChecks, behind, due_of, is_undecided, kept_from, kept_of, last_finding, status_of_finding}
use Rattle.cec_top.specs.Steps.{DoesTurn, Holds, NotMade, StopsAtLine, ToldInPart, ToldWhole, due_in, is_open, opening_in}
use Rattle.cec_top.proofs.WarnedLemmas.{progress-none}
use Rattle.cec_top.proofs.ToldLemmas.{all-left}

-- ---- checks before the last one, and the last one

-- the books of checks that are not the last: those that left outputs open
abbrev pub kept_open : ℕ → List Made → List Kept
kept_open number [] = []
kept_open number (m ∷ ms) =
    if is_undecided m.finding then kept_of number m ∷ kept_open (number + 1) ms else kept_open (number + 1) ms

-- a check before others
kept-before : (number : ℕ) (m : Made) (ms : List Made) (last : Made)
    → kept_from number (m ∷ (ms ++ last ∷ []))
    ≡ (if is_undecided m.finding then kept_of number m ∷ kept_from (number + 1) (ms ++ last ∷ []) else kept_from (number + 1) (ms ++ last ∷ []))
kept-before number m [] last = refl
kept-before number m (k ∷ ks) last = refl

front-if : (b : Bool) (k : Kept) (xs ys zs : List Kept) → xs ≡ ys ++ zs
    → (if b then k ∷ xs else xs) ≡ (if b then k ∷ ys else ys) ++ zs
front-if true k xs ys zs is = ap (λ (ks : List Kept). k ∷ ks) is
front-if false k xs ys zs is = is

-- the books that are handed back are those, and the last one
kept-last-from : (number : ℕ) (ms : List Made) (last : Made)
    → kept_from number (ms ++ last ∷ []) ≡ kept_open number ms ++ kept_of (number + length ms) last ∷ []
kept-last-from number [] last =
    let count : number ≡ number + length {A = Made} [] = omega arith in
    ap (λ (n : ℕ). kept_of n last ∷ []) count
kept-last-from number (m ∷ ms) last =
    let count : (number + 1) + length ms ≡ number + length (m ∷ ms) = omega arith in
    kept-before number m ms last
    ∙ front-if (is_undecided m.finding) (kept_of number m) _ (kept_open (number + 1) ms) (kept_of (number + length (m ∷ ms)) last ∷ [])
    (kept-last-from (number + 1) ms last ∙ ap (λ (n : ℕ). kept_open (number + 1) ms ++ kept_of n last ∷ []) count)

pub kept-last : (ms : List Made) (last : Made) → kept_from 0 (ms ++ last ∷ []) ≡ kept_open 0 ms ++ kept_of (length ms) last ∷ []
kept-last ms last =
    let count : 0 + length ms ≡ length ms = omega arith in
    kept-last-from 0 ms last ∙ ap (λ (n : ℕ). kept_open 0 ms ++ kept_of n last ∷ []) count

-- one check more that is not the last
abbrev pub kept_if : Bool → ℕ → Made → List Kept
kept_if b number m = if b then kept_of number m ∷ [] else []

open-last-from : (number : ℕ) (ms : List Made) (m : Made)
    → kept_open number (ms ++ m ∷ []) ≡ kept_open number ms ++ kept_if (is_undecided m.finding) (number + length ms) m
open-last-from number [] m =
    let count : number ≡ number + length {A = Made} [] = omega arith in
    ap (λ (n : ℕ). kept_if (is_undecided m.finding) n m) count
open-last-from number (k ∷ ks) m =
    let count : (number + 1) + length ks ≡ number + length (k ∷ ks) = omega arith in
    front-if (is_undecided k.finding) (kept_of number k) _ (kept_open (number + 1) ks)
    (kept_if (is_undecided m.finding) (number + length (k ∷ ks)) m)
    (open-last-from (number + 1) ks m
    ∙ ap (λ (n : ℕ). kept_open (number + 1) ks ++ kept_if (is_undecided m.finding) n m) count)

pub open-last : (ms : List Made) (m : Made) → kept_open 0 (ms ++ m ∷ []) ≡ kept_open 0 ms ++ kept_if (is_undecided m.finding) (length ms) m
open-last ms m =
    let count : 0 + length ms ≡ length ms = omega arith in
    open-last-from 0 ms m ∙ ap (λ (n : ℕ). kept_open 0 ms ++ kept_if (is_undecided m.finding) n m) count

pub finding-last : (ms : List Made) (last : Made) → last_finding (ms ++ last ∷ []) ≡ Some last.finding
finding-last [] last = refl
finding-last (m ∷ []) last = refl
finding-last (m ∷ k ∷ ks) last = finding-last (k ∷ ks) last

-- one check more goes on from the last one
pub turn-next : (from : Opening) (ms : List Made) (last next : Made) → AreInTurn from (ms ++ last ∷ []) → TakesOver (behind last) next
    → AreInTurn from ((ms ++ last ∷ []) ++ next ∷ [])
turn-next from [] last next are takes = (are.0, (takes, tt))
turn-next from (m ∷ ms) last next are takes = (are.0, turn-next (behind m) ms last next are.1 takes)

-- check 0 goes on from what the session has
turn-first : (s : State) (m : Made) → due_of m ≡ due_in s → StartsWith m.book (kept_lemmas s.last s.edits s.book) → AreInTurn (opening_in s) (m ∷ [])
turn-first s m due_is begins =
    let edits : s.edits ≡ m.edits = sym (ap (λ (d : Due). d.edits) due_is) in
    (subst (λ (es : List Edit). StartsWith m.book (kept_lemmas s.last es s.book)) edits begins, tt)

-- checks that were told, and then others
pub told-append : (how : How) (number : ℕ) (ms ns : List Made) (old mid new : DeskState) → AreTold how number ms old mid
    → AreTold how (number + length ms) ns mid new → AreTold how number (ms ++ ns) old new
told-append how number [] ns old mid new first later =
    let count : number + length {A = Made} [] ≡ number = omega arith in
    subst (λ (s : DeskState). AreTold how number ns s new) first (subst (λ (n : ℕ). AreTold how n ns mid new) count later)
told-append how number (m ∷ ms) ns old mid new first later =
    let count : number + length (m ∷ ms) ≡ (number + 1) + length ms = omega arith in (
      first.0,
      first.1,
      first.2,
      told-append how (number + 1) ms ns first.0 mid new first.3
          (subst (λ (n : ℕ). AreTold how n ns mid new) count later),
    )

-- and one more behind check 0 and others
told-next : (how : How) (ms : List Made) (m : Made) (old mid new : DeskState) → AreTold how 0 ms old mid
    → AreTold how (length ms) (m ∷ []) mid new → AreTold how 0 (ms ++ m ∷ []) old new
told-next how ms m old mid new first later =
    let count : length ms ≡ 0 + length ms = omega arith in
    told-append how 0 ms (m ∷ []) old mid new first (subst (λ (n : ℕ). AreTold how n (m ∷ []) mid new) count later)

-- ---- books that are some of others

pub some-all : (ks : List Kept) → AreSome ks ks
some-all [] = tt
some-all (k ∷ ks) = inl (refl, some-all ks)

pub some-front : (ks more : List Kept) → AreSome ks (ks ++ more)
some-front [] more = tt
some-front (k ∷ ks) more = inl (refl, some-front ks more)

pub keeps-all : (kept all : List Kept) → kept ≡ all → (stop : Stop) → KeepsOn stop kept all
keeps-all kept all keeps OutOfMemory = subst (λ (ks : List Kept). AreSome ks all) (sym keeps) (some-all all)
keeps-all kept all keeps (CannotRead file) = keeps
keeps-all kept all keeps (TooLong file) = keeps
keeps-all kept all keeps (BadFile file text) = keeps
keeps-all kept all keeps (NotAlike text) = keeps
keeps-all kept all keeps CannotWrite = keeps

some-behind : (ks js ls : List Kept) → AreSome js ls → AreSome (ks ++ js) (ks ++ ls)
some-behind [] js ls some = some
some-behind (k ∷ ks) js ls some = inl (refl, some-behind ks js ls some)

some-if : (b : Bool) (number : ℕ) (m : Made) → AreSome (kept_if b number m) (kept_of number m ∷ [])
some-if true number m = inl (refl, tt)
some-if false number m = tt

-- the books of checks that left outputs open are some of those that are handed back
pub some-open : (ms : List Made) (last : Made) → AreSome (kept_open 0 (ms ++ last ∷ [])) (kept_from 0 (ms ++ last ∷ []))
some-open ms last =
    let earlier : kept_open 0 (ms ++ last ∷ []) ≡ kept_open 0 ms ++ kept_if (is_undecided last.finding) (length ms) last = open-last ms last in
    let all : kept_from 0 (ms ++ last ∷ []) ≡ kept_open 0 ms ++ kept_of (length ms) last ∷ [] = kept-last ms last in
    rw (earlier, all) (some-behind (kept_open 0 ms) _ _ (some-if (is_undecided last.finding) (length ms) last))

pub some-earlier : (ms : List Made) (last : Made) → AreSome (kept_open 0 ms) (kept_from 0 (ms ++ last ∷ []))
some-earlier ms last =
    let all : kept_from 0 (ms ++ last ∷ []) ≡ kept_open 0 ms ++ kept_of (length ms) last ∷ [] = kept-last ms last in
    rw all (some-front (kept_open 0 ms) (kept_of (length ms) last ∷ []))

-- ---- how far the lines were gone through

-- these checks, and then those of a plan
abbrev pub with_checks : List Due → Plan → Plan
with_checks ds p = record { checks = ds ++ p.checks; refused = p.refused }

-- Before the line with this number, these lines being left: checks were made and told, whose books are kept where outputs were
-- left open, and a last one, whose book the session has.
pub record Stands (how : How) (from : Opening) (plan : Plan) (start now : DeskState) (kept : List Kept) (number : ℕ) (status : Status) (s : State)
    (line : ℕ) (lines : List (List ℕ)) : Type 0 where
  pub made : List Made
  pub last : Made
  pub plan_is : plan ≡ with_checks (map due_of (made ++ last ∷ [])) (asked_from line (due_in s) lines)
  pub told : AreTold how 0 (made ++ last ∷ []) start now
  pub in_turn : AreInTurn from (made ++ last ∷ [])
  pub count : number ≡ length made
  pub holds : Holds s last
  pub status_is : status ≡ status_of_finding last.finding
  pub keeps : kept ≡ kept_open 0 made
  pub options_are : s.options ≡ how.options

-- check 0 was told
pub stands-first : (how : How) (s t : State) (old new : DeskState) (before after : List Kept) (status : Status) (lines : List (List ℕ))
    → s.edits ≡ [] → s.options ≡ how.options → before ≡ [] → ToldWhole how 0 s t old new before after status
    → Stands how (opening_in s) (plan_of s.net lines) old new after 0 status t 1 lines
stands-first how s t old new before after status lines none options empty w =
    let due : due_of w.made ≡ due_behind s.net = w.due_is ∙ ap (λ (es : List Edit). record { net = s.net; edits = es }) none in
    let net : w.made.net ≡ s.net = ap (λ (d : Due). d.net) due in
    let now : due_in t ≡ due_behind s.net = w.behind ∙ ap due_behind net in
    record {
      made = [];
      last = w.made;
      plan_is = ap₂ (λ (d e : Due). with_checks (d ∷ []) (asked_from 1 e lines)) (sym due) (sym now);
      told = w.told;
      in_turn = turn-first s w.made w.due_is w.begins;
      count = refl;
      holds = w.holds;
      status_is = w.status_is;
      keeps = w.keeps ∙ empty;
      options_are = w.options_are ∙ options;
    }

-- check 0 isn't told whole
pub first-stops : (how : How) (s : State) (old new : DeskState) (before after : List Kept) (stop : Stop) (lines : List (List ℕ))
    → s.edits ≡ [] → before ≡ []
    → ToldInPart how 0 s old new before after stop ⊎ NotMade how.progress old new before after stop
    → StopsChecks how (opening_in s) (plan_of s.net lines) old after new stop
first-stops how s old new before after stop lines none empty (inl w) =
    let due : due_of w.half ≡ due_behind s.net = w.due_is ∙ ap (λ (es : List Edit). record { net = s.net; edits = es }) none in
    let others : List Due = (asked_from 1 (due_behind s.net) lines).checks in
    inl (record {
      made = [];
      half = w.half;
      others = others;
      mid = old;
      before = record { checks = ap (λ (d : Due). d ∷ others) due; told = refl; in_turn = tt };
      is_made = w.is_made;
      in_turn = turn-first s w.half w.due_is w.begins;
      breaks = w.breaks;
      keeps = keeps-all after (kept_of 0 w.half ∷ []) (w.keeps ∙ ap (λ (ks : List Kept). ks ++ kept_of 0 w.half ∷ []) empty) stop;
    })
first-stops how s old new before after stop lines none empty (inr w) =
    inr (inl (record {
      out = w.out;
      made = [];
      others = (plan_of s.net lines).checks;
      mid = old;
      before = record { checks = refl; told = refl; in_turn = tt };
      warns = w.warns;
      keeps = subst (λ (ks : List Kept). AreSome ks []) (sym (w.keeps ∙ empty)) tt;
    }))

-- no file is left started
pub stands-closed : (how : How) (from : Opening) (plan : Plan) (start now : DeskState) (kept : List Kept) (number : ℕ) (status : Status) (s : State) (line : ℕ)
    (lines : List (List ℕ)) → Stands how from plan start now kept number status s line lines → start.started ≡ None → now.started ≡ None
stands-closed how from plan start now kept number status s line lines at none =
    (all-left how 0 (at.made ++ at.last ∷ []) start now at.told).closed none

-- at a line
module _ (how : How) (from : Opening) (plan : Plan) (start now : DeskState) (kept : List Kept) (number : ℕ) (status : Status) (s : State) (line : ℕ)
    (text : List ℕ) (lines : List (List ℕ)) (at : Stands how from plan start now kept number status s line (text ∷ lines)) where
  abbrev due : List Due
  due = map due_of (at.made ++ at.last ∷ [])

  -- by what it comes to
  turned : (turn : Turn) → turn_of s.net text ≡ turn
      → plan ≡ with_checks due (asked_by line (due_in s) turn (λ next. asked_from (line + 1) next lines))
  turned turn is =
      at.plan_is ∙ ap (λ (t : Turn). with_checks due (asked_by line (due_in s) t (λ next. asked_from (line + 1) next lines))) is

  pub stands-passed : turn_of s.net text ≡ Passes → Stands how from plan start now kept number status s (line + 1) lines
  stands-passed is = record {
    made = at.made;
    last = at.last;
    plan_is = turned Passes is;
    told = at.told;
    in_turn = at.in_turn;
    count = at.count;
    holds = at.holds;
    status_is = at.status_is;
    keeps = at.keeps;
    options_are = at.options_are;
  }

  pub stands-edited : (edit : Edit) → turn_of s.net text ≡ Makes edit
      → Stands how from plan start now kept number status (with_edit s edit) (line + 1) lines
  stands-edited edit is = record {
    made = at.made;
    last = at.last;
    plan_is = turned (Makes edit) is;
    told = at.told;
    in_turn = at.in_turn;
    count = at.count;
    holds = record { last_is = at.holds.last_is; book_is = at.holds.book_is };
    status_is = at.status_is;
    keeps = at.keeps;
    options_are = at.options_are;
  }

  -- the last check's book is kept, where outputs were left open
  open-status : (f : Finding) → is_open (status_of_finding f) ≡ is_undecided f
  open-status Equivalent = refl
  open-status (Different j input) = refl
  open-status Undecided = refl

  abbrev kept_with : List Kept
  kept_with = kept ++ (if is_open status then record { check = number; book = s.book } ∷ [] else [])

  kept-open : kept_with ≡ kept_open 0 (at.made ++ at.last ∷ [])
  kept-open =
      let rest : Bool → ℕ → Entries → List Kept = λ b n book. if b then record { check = n; book = book } ∷ [] else [] in
      let same : is_open status ≡ is_undecided at.last.finding = ap is_open at.status_is ∙ open-status at.last.finding in
      ap₂ (λ (ks ls : List Kept). ks ++ ls) at.keeps
      (ap (λ (b : Bool). rest b number s.book) same
      ∙ ap₂ (λ (n : ℕ) (book : Entries). rest (is_undecided at.last.finding) n book) at.count at.holds.book_is)
      ∙ sym (open-last at.made at.last)

  -- it asks for a check
  module _ (asks : turn_of s.net text ≡ AsksCheck) (mid : List Kept) (mid_is : mid ≡ kept_with) where
    asked : plan ≡ with_checks due (record {
      checks = due_in s ∷ (asked_from (line + 1) (due_behind s.net) lines).checks;
      refused = (asked_from (line + 1) (due_behind s.net) lines).refused;
    })
    asked = turned AsksCheck asks

    takes : (m : Made) → due_of m ≡ due_in s → StartsWith m.book (kept_lemmas s.last s.edits s.book) → TakesOver (behind at.last) m
    takes m due_is begins =
        let edits : s.edits ≡ m.edits = sym (ap (λ (d : Due). d.edits) due_is) in
        subst (λ (n : AigPair). StartsWith m.book (kept_lemmas n m.edits at.last.book)) at.holds.last_is
        (subst (λ (book : Entries). StartsWith m.book (kept_lemmas s.last m.edits book)) at.holds.book_is
        (subst (λ (es : List Edit). StartsWith m.book (kept_lemmas s.last es s.book)) edits begins))

    -- which is told whole
    pub stands-checked : (t : State) (new : DeskState) (after : List Kept) (next : Status)
        → ToldWhole how (number + 1) s t now new mid after next
        → Stands how from plan start new after (number + 1) next t (line + 1) lines
    stands-checked t new after next w =
        let net : w.made.net ≡ s.net = ap (λ (d : Due). d.net) w.due_is in
        let behind : due_in t ≡ due_behind s.net = w.behind ∙ ap due_behind net in
        let count : number + 1 ≡ length (at.made ++ at.last ∷ []) =
        omega (arith, at.count, length-append at.made (at.last ∷ [])) in
        record {
          made = at.made ++ at.last ∷ [];
          last = w.made;
          plan_is =
              asked
              ∙ ap₂ (λ (d e : Due). record {
                checks = due ++ d ∷ (asked_from (line + 1) e lines).checks;
                refused = (asked_from (line + 1) e lines).refused;
              }) (sym w.due_is) (sym behind)
              ∙ ap (λ (ds : List Due). record { checks = ds; refused = (asked_from (line + 1) (due_in t) lines).refused })
              (sym (append_assoc due (due_of w.made ∷ []) (asked_from (line + 1) (due_in t) lines).checks)
              ∙ ap (λ (ds : List Due). ds ++ (asked_from (line + 1) (due_in t) lines).checks)
              (sym (map-append due_of (at.made ++ at.last ∷ []) (w.made ∷ []))));
          told = told-next how (at.made ++ at.last ∷ []) w.made start now new at.told
              (subst (λ (n : ℕ). AreTold how n (w.made ∷ []) now new) count w.told);
          in_turn = turn-next from at.made at.last w.made at.in_turn (takes w.made w.due_is w.begins);
          count = count;
          holds = w.holds;
          status_is = w.status_is;
          keeps = w.keeps ∙ mid_is ∙ kept-open;
          options_are = w.options_are ∙ at.options_are;
        }

    -- or isn't
    pub checked-stops : (new : DeskState) (after : List Kept) (stop : Stop)
        → ToldInPart how (number + 1) s now new mid after stop ⊎ NotMade how.progress now new mid after stop
        → StopsChecks how from plan start after new stop
    checked-stops new after stop (inl w) =
        let count : number + 1 ≡ length (at.made ++ at.last ∷ []) =
        omega (arith, at.count, length-append at.made (at.last ∷ [])) in
        inl (record {
          made = at.made ++ at.last ∷ [];
          half = w.half;
          others = (asked_from (line + 1) (due_behind s.net) lines).checks;
          mid = now;
          before = record {
            checks =
                ap (λ (d : Due). due ++ d ∷ (asked_from (line + 1) (due_behind s.net) lines).checks) w.due_is
                ∙ sym (ap (λ (p : Plan). p.checks) asked);
            told = at.told;
            in_turn = at.in_turn;
          };
          is_made = w.is_made;
          in_turn = turn-next from at.made at.last w.half at.in_turn (takes w.half w.due_is w.begins);
          breaks = subst (λ (n : ℕ). Tells how n w.half now new (Err stop)) count w.breaks;
          keeps = keeps-all after (kept_from 0 ((at.made ++ at.last ∷ []) ++ w.half ∷ []))
              (w.keeps ∙ ap₂ (λ (ks : List Kept) (n : ℕ). ks ++ kept_of n w.half ∷ []) (mid_is ∙ kept-open) count
              ∙ sym (kept-last (at.made ++ at.last ∷ []) w.half)) stop;
        })
    checked-stops new after stop (inr w) =
        inr (inl (record {
          out = w.out;
          made = at.made ++ at.last ∷ [];
          others = due_in s ∷ (asked_from (line + 1) (due_behind s.net) lines).checks;
          mid = now;
          before = record {
            checks = sym (ap (λ (p : Plan). p.checks) asked);
            told = at.told;
            in_turn = at.in_turn;
          };
          warns = w.warns;
          keeps = subst (λ (ks : List Kept). AreSome ks (kept_from 0 (at.made ++ at.last ∷ [])))
              (sym (w.keeps ∙ mid_is ∙ kept-open)) (some-open at.made at.last);
        }))

-- the last check was told, and nothing more is done
module _ (how : How) (from : Opening) (plan : Plan) (start now : DeskState) (kept : List Kept) (number : ℕ) (status : Status) (s : State) (line : ℕ)
    (lines : List (List ℕ)) (at : Stands how from plan start now kept number status s line lines) where
  abbrev all_made : List Made
  all_made = at.made ++ at.last ∷ []

  -- the book of the last check is kept
  kept-all : (after : List Kept) → after ≡ kept ++ record { check = number; book = s.book } ∷ [] → after ≡ kept_from 0 all_made
  kept-all after is =
      let last : kept_of (length at.made) at.last ≡ record { check = number; book = s.book } =
      ap₂ (λ (n : ℕ) (b : Entries). let k : Kept = record { check = n; book = b } in k) (sym at.count) (sym at.holds.book_is) in
      is
      ∙ ap₂ (λ (ks : List Kept) (k : Kept). ks ++ k ∷ []) at.keeps (sym last)
      ∙ sym (kept-last at.made at.last)

  -- memory runs out
  pub stands-out : (after : List Kept) → AreSome after (kept_from 0 all_made) → (stop : Stop) → stop ≡ OutOfMemory
      → StopsChecks how from plan start after now stop
  stands-out after some stop is = inr (inl (record {
    out = is;
    made = all_made;
    others = (asked_from line (due_in s) lines).checks;
    mid = now;
    before = record { checks = sym (ap (λ (p : Plan). p.checks) at.plan_is); told = at.told; in_turn = at.in_turn };
    warns = progress-none how.progress now;
    keeps = some;
  }))

  -- before the last check's book is kept
  pub stands-out-before : (stop : Stop) → stop ≡ OutOfMemory → StopsChecks how from plan start kept now stop
  stands-out-before stop is =
      stands-out kept (subst (λ (ks : List Kept). AreSome ks (kept_from 0 all_made)) (sym at.keeps) (some-earlier at.made at.last)) stop is

  -- no line is left
  pub stands-end : lines ≡ [] → (after : List Kept) → after ≡ kept ++ record { check = number; book = s.book } ∷ []
      → Ends how from plan start now status after
  stands-end none after is =
      let whole : plan ≡ with_checks (map due_of all_made) (record { checks = []; refused = None }) =
      at.plan_is ∙ ap (λ (ls : List (List ℕ)). with_checks (map due_of all_made) (asked_from line (due_in s) ls)) none in
      record {
        made = all_made;
        whole = record { checks = sym (ap (λ (p : Plan). p.checks) whole); told = at.told; in_turn = at.in_turn };
        accepted = ap (λ (p : Plan). p.refused) whole;
        status_is =
            ap (option_map status_of_finding) (finding-last at.made at.last) ∙ ap (λ (x : Status). Some x) (sym at.status_is);
        keeps = kept-all after is;
      }

-- the line is refused
pub stands-refused : (how : How) (from : Opening) (plan : Plan) (start now : DeskState) (kept : List Kept) (number : ℕ) (status : Status) (s : State) (line : ℕ)
    (text : List ℕ) (lines : List (List ℕ)) → (at : Stands how from plan start now kept number status s line (text ∷ lines))
    → (fault : EditErr) → turn_of s.net text ≡ Fails fault
    → (after : List Kept) → after ≡ kept ++ record { check = number; book = s.book } ∷ []
    → (stop : Stop) → SaysFault (record { line = line; fault = fault }) stop
    → StopsChecks how from plan start after now stop
stands-refused how from plan start now kept number status s line text lines at fault fails after is stop says =
    let refused : Refused = record { line = line; fault = fault } in
    let whole : plan ≡ with_checks (map due_of (at.made ++ at.last ∷ [])) (record { checks = []; refused = Some refused }) =
    turned how from plan start now kept number status s line text lines at (Fails fault) fails in
    inr (inr (record {
      made = at.made ++ at.last ∷ [];
      whole = record { checks = sym (ap (λ (p : Plan). p.checks) whole); told = at.told; in_turn = at.in_turn };
      line = refused;
      refused = ap (λ (p : Plan). p.refused) whole;
      stop_is = says;
      keeps = kept-all how from plan start now kept number status s line (text ∷ lines) at after is;
    }))

-- ---- what is done at a line

-- an edit was made, or nothing
pub stands-goes : (how : How) (from : Opening) (plan : Plan) (start now : DeskState) (kept : List Kept) (number : ℕ) (status : Status) (s t : State) (line : ℕ)
    (text : List ℕ) (lines : List (List ℕ)) → Stands how from plan start now kept number status s line (text ∷ lines)
    → DoesTurn (turn_of s.net text) s t (Ok false) → Stands how from plan start now kept number status t (line + 1) lines
stands-goes how from plan start now kept number status s t line text lines at does = go (turn_of s.net text) refl does
  where
    go : (turn : Turn) → turn_of s.net text ≡ turn → DoesTurn turn s t (Ok false) → Stands how from plan start now kept number status t (line + 1) lines
    go Passes is d =
        subst (λ (x : State). Stands how from plan start now kept number status x (line + 1) lines) (sym d.1)
        (stands-passed how from plan start now kept number status s line text lines at is)
    go (Makes edit) is d =
        subst (λ (x : State). Stands how from plan start now kept number status x (line + 1) lines) (sym d.1)
        (stands-edited how from plan start now kept number status s line text lines at edit is)
    go AsksCheck is d = cc
    go (Fails fault) is d = cc

-- a check is asked for, of the session as it was
pub record Asked (how : How) (from : Opening) (plan : Plan) (start now : DeskState) (kept : List Kept) (number : ℕ) (status : Status) (t : State) (line : ℕ)
    (text : List ℕ) (lines : List (List ℕ)) : Type 0 where
  pub at : Stands how from plan start now kept number status t line (text ∷ lines)
  pub asks : turn_of t.net text ≡ AsksCheck

pub stands-asked : (how : How) (from : Opening) (plan : Plan) (start now : DeskState) (kept : List Kept) (number : ℕ) (status : Status) (s t : State) (line : ℕ)
    (text : List ℕ) (lines : List (List ℕ)) → Stands how from plan start now kept number status s line (text ∷ lines)
    → DoesTurn (turn_of s.net text) s t (Ok true) → Asked how from plan start now kept number status t line text lines
stands-asked how from plan start now kept number status s t line text lines at does = go (turn_of s.net text) refl does
  where
    go : (turn : Turn) → turn_of s.net text ≡ turn → DoesTurn turn s t (Ok true) → Asked how from plan start now kept number status t line text lines
    go AsksCheck is d =
        subst (λ (x : State). Asked how from plan start now kept number status x line text lines) (sym d.1) (record { at = at; asks = is })
    go Passes is d = cc
    go (Makes edit) is d = cc
    go (Fails fault) is d = cc

-- the line is refused, or memory ran out
pub record Refuses (how : How) (from : Opening) (plan : Plan) (start now : DeskState) (kept : List Kept) (number : ℕ) (status : Status) (t : State) (line : ℕ)
    (text : List ℕ) (lines : List (List ℕ)) (fault : EditErr) : Type 0 where
  pub at : Stands how from plan start now kept number status t line (text ∷ lines)
  pub why : (fault ≡ NoMemory) ⊎ (turn_of t.net text ≡ Fails fault)

pub stands-faulty : (how : How) (from : Opening) (plan : Plan) (start now : DeskState) (kept : List Kept) (number : ℕ) (status : Status) (s t : State) (line : ℕ)
    (text : List ℕ) (lines : List (List ℕ)) (fault : EditErr) → Stands how from plan start now kept number status s line (text ∷ lines)
    → DoesTurn (turn_of s.net text) s t (Err fault) → Refuses how from plan start now kept number status t line text lines fault
stands-faulty how from plan start now kept number status s t line text lines fault at does = go (turn_of s.net text) refl does
  where
    same : (x y : EditErr) → (let r : Result Bool EditErr = Err x in r ≡ Err y) → y ≡ x
    same x y e = cc

    go : (turn : Turn) → turn_of s.net text ≡ turn → DoesTurn turn s t (Err fault) → Refuses how from plan start now kept number status t line text lines fault
    go (Makes edit) is d =
        subst (λ (x : State). Refuses how from plan start now kept number status x line text lines fault) (sym d.1) (record { at = at; why = inl d.0 })
    go (Fails cause) is d =
        subst (λ (x : State). Refuses how from plan start now kept number status x line text lines fault) (sym d.1)
        (record { at = at; why = inr (is ∙ ap (λ (e : EditErr). Fails e) (same fault cause d.0)) })
    go Passes is d = cc
    go AsksCheck is d = cc

-- the program ends at the line
pub line-stops : (how : How) (from : Opening) (plan : Plan) (start now : DeskState) (kept : List Kept) (number : ℕ) (status : Status) (t : State) (line : ℕ)
    (text : List ℕ) (lines : List (List ℕ)) (fault : EditErr) → Refuses how from plan start now kept number status t line text lines fault
    → (after : List Kept) → after ≡ kept ++ record { check = number; book = t.book } ∷ []
    → (stop : Stop) → StopsAtLine (record { line = line; fault = fault }) stop → StopsChecks how from plan start after now stop
line-stops how from plan start now kept number status t line text lines fault r after is stop (inl out) =
    let all : after ≡ kept_from 0 (r.at.made ++ r.at.last ∷ []) = kept-all how from plan start now kept number status t line (text ∷ lines) r.at after is in
    stands-out how from plan start now kept number status t line (text ∷ lines) r.at after
    (subst (λ (ks : List Kept). AreSome ks (kept_from 0 (r.at.made ++ r.at.last ∷ []))) (sym all) (some-all (kept_from 0 (r.at.made ++ r.at.last ∷ []))))
    stop out
line-stops how from plan start now kept number status t line text lines fault r after is stop (inr says) = go r.why
  where
    go : (fault ≡ NoMemory) ⊎ (turn_of t.net text ≡ Fails fault) → StopsChecks how from plan start after now stop
    go (inl memory) = absurd (says.0 memory)
    go (inr fails) = stands-refused how from plan start now kept number status t line text lines r.at fault fails after is stop says.1
