-- The steps of a pass outside the lock keep the rule: a draw, a number for a new pass, a ticket, and the cut itself.
use Rattle.std.proofs.Common.{◌≡◌, ℕ, ◌+◌, ◌%◌, ◌^◌, ◌≤◌, Bool, true, false, true≢false, cond, List, [], ◌∷◌, ◌++◌, map, set, slice_set, slice_index, sym, refl, ap, ◌∙◌, subst, arith}
use mathlib.Core.Option.{none}
use lib.Seq.{map-set}
use Rattle.std.proofs.Math.Nat.{mod-eq_of_lt}
use Rattle.atomic_table.specs.Table.{step, Allows, Splits, keeps}
use Rattle.atomic_table.proofs.Lists.{at_map}
use Rattle.ticket_lock.specs.declared.view.View.{View}
use Rattle.ticket_lock.specs.Totals.{times}
use Rattle.ticket_lock.specs.Line.{waiting, holding}
use Rattle.ticket_lock.specs.Views.{Member, member, member_of, in_line, drew, numbering, kept_of, cut_of, IsIdle}
use Rattle.ticket_lock.specs.Claims.{Account, account, Draws, Parts}
use Rattle.ticket_lock.specs.Plays.{Ticketed, Drawn, Numbered, IsCutting}
use Rattle.ticket_lock.specs.Rule.{Kept, stand_of, shelf, left, splits, numbered}
use Rattle.ticket_lock.proofs.TotalLemmas.{total-keep, total-cut, total-le, each-set, each-from, from-cut}
use Rattle.ticket_lock.proofs.TimesLemmas.{once-last}
use Rattle.ticket_lock.proofs.LineLemmas.{line-set, line-keep, line-quiet}
use Rattle.ticket_lock.proofs.MemberLemmas.{map-keep, map-cut, apart, turns-set, numbers-set, given-most}

-- who holds the slot took what lies in it
abbrev pub HoldsIt : {S U : Type 0} → S → View S U → Type 0
HoldsIt slot v = v.holds ≡ true → v.taken ≡ slot

module _ {S U : Type 0} (claim : Account S U → Type 0) where
  pub ticket_goes : (id : ℕ) (v : View S U) (c : List (ℕ × S)) → v.waits ≡ false → v.holds ≡ false → 1 ≤ v.left
      → Allows (Kept claim) 1 id (v, c) 1 (λ n. (n + 1) % 2 ^ 64) (Ticketed (step 1 1 1 0 none) (v, c))
  ticket_goes id v c idle loose some_left s kept homes at small =
      let n : ℕ = slice_index s.words 1 in
      let e : n ≡ kept.given = ap (λ (ws : List ℕ). slice_index ws 1) kept.words in
      let most = given-most kept.served kept.given kept.drawn kept.split s.views kept.line kept.turns in
      let count = kept.line.tickets in
      let w : View S U = in_line v n in (
        w,
        keeps,
        tt,
        record {
          served = kept.served;
          given = kept.given + 1;
          drawn = kept.drawn;
          split = kept.split;
          slot = kept.slot;
          words = ap (λ (ws : List ℕ). slice_set ws 1 ((slice_index ws 1 + 1) % 2 ^ 64)) kept.words ∙ ap (λ (k : ℕ). kept.served ∷ k ∷ kept.drawn ∷ kept.split ∷ []) (mod-eq_of_lt (omega arith));
          home = kept.home ∙ ap (λ (k : ℕ). shelf k kept.slot) (sym (total-keep (holding stand_of) s.views id v w at refl));
          line = line-set stand_of kept.served kept.given kept.served (kept.given + 1) s.views id v w at kept.line
              (let z : (waiting stand_of) v ≡ 0 = ap (λ (b : Bool). cond b 1 0) idle in omega arith)
              (record { from = λ _. omega arith; below = λ _. omega arith; turn = λ _. some_left; waits = λ _. refl; first = λ h. absurd (true≢false (sym h ∙ loose)) })
              (λ j u k a l. record { from = l.from; below = λ h. let b = l.below h in omega arith; turn = l.turn; waits = l.waits; first = l.first })
              (λ j u k a h _ t. let b = (kept.line.each j u a).below h in absurd (omega arith));
          turns = turns-set kept.served kept.drawn kept.split kept.served kept.drawn kept.split s.views id v w at kept.turns refl refl;
          numbers = numbers-set kept.split kept.split s.views id v w at kept.numbers (λ p. refl);
          taken = each-set (HoldsIt kept.slot) s.views id w (kept.taken id v at) (λ j u k a. kept.taken j u a);
          claimed = subst (λ (ms : List (Member U)). claim (account kept.served kept.drawn kept.slot ms)) (sym (map-keep member_of s.views id v w at refl)) kept.claimed;
        },
        refl,
      )

  pub draws_go : (id : ℕ) (v : View S U) (c : List (ℕ × S)) (after : Member U → ℕ → U) (told : Member U → ℕ → Type 0)
      → v.waits ≡ false → v.holds ≡ false → 1 ≤ v.left → Draws claim (member_of v) (after (member_of v)) (told (member_of v))
      → Allows (Kept claim) 1 id (v, c) 2 (λ n. (n + 1) % 2 ^ 64) (Drawn after told (step 1 2 1 0 none) (v, c))
  draws_go id v c after told idle loose some_left draws s kept homes at small =
      let n : ℕ = slice_index s.words 2 in
      let e : n ≡ kept.drawn = ap (λ (ws : List ℕ). slice_index ws 2) kept.words in
      let most = given-most kept.served kept.given kept.drawn kept.split s.views kept.line kept.turns in
      let m : Member U = member_of v in
      let w : View S U = drew v (after m kept.drawn) in
      let drawn = draws id kept.served kept.drawn kept.slot (map member_of s.views) (at_map member_of s.views id v at) (apart kept.split s.views kept.numbers) kept.claimed in (
        w,
        keeps,
        tt,
        record {
          served = kept.served;
          given = kept.given;
          drawn = kept.drawn + 1;
          split = kept.split;
          slot = kept.slot;
          words = ap (λ (ws : List ℕ). slice_set ws 2 ((slice_index ws 2 + 1) % 2 ^ 64)) kept.words ∙ ap (λ (k : ℕ). kept.served ∷ kept.given ∷ k ∷ kept.split ∷ []) (mod-eq_of_lt (omega arith));
          home = kept.home ∙ ap (λ (k : ℕ). shelf k kept.slot) (sym (total-keep (holding stand_of) s.views id v w at refl));
          line = line-keep stand_of kept.served kept.given s.views id v w at kept.line idle idle loose;
          turns = turns-set kept.served kept.drawn kept.split kept.served (kept.drawn + 1) kept.split s.views id v w at kept.turns (omega arith) refl;
          numbers = numbers-set kept.split kept.split s.views id v w at kept.numbers (λ p. refl);
          taken = each-set (HoldsIt kept.slot) s.views id w (kept.taken id v at) (λ j u k a. kept.taken j u a);
          claimed = subst (λ (ms : List (Member U)). claim (account kept.served (kept.drawn + 1) kept.slot ms)) (sym (map-set member_of s.views id w)) drawn.0;
        },
        (ap (λ (k : ℕ). (drew v (after m k), c)) (sym e), subst (told m) (sym e) drawn.1),
      )

  pub numbers_go : (id : ℕ) (v : View S U) (c : List (ℕ × S)) → IsIdle v → 1 ≤ v.left
      → Allows (Kept claim) 1 id (v, c) 3 (λ n. (n + 1) % 2 ^ 64) (Numbered (step 1 3 1 0 none) (v, c))
  numbers_go id v c idle some_left s kept homes at small =
      let n : ℕ = slice_index s.words 3 in
      let e : n ≡ kept.split = ap (λ (ws : List ℕ). slice_index ws 3) kept.words in
      let most = given-most kept.served kept.given kept.drawn kept.split s.views kept.line kept.turns in
      let w : View S U = numbering v (n + 1) in (
        w,
        keeps,
        tt,
        record {
          served = kept.served;
          given = kept.given;
          drawn = kept.drawn;
          split = kept.split + 1;
          slot = kept.slot;
          words = ap (λ (ws : List ℕ). slice_set ws 3 ((slice_index ws 3 + 1) % 2 ^ 64)) kept.words ∙ ap (λ (k : ℕ). kept.served ∷ kept.given ∷ kept.drawn ∷ k ∷ []) (mod-eq_of_lt (omega arith));
          home = kept.home ∙ ap (λ (k : ℕ). shelf k kept.slot) (sym (total-keep (holding stand_of) s.views id v w at refl));
          line = line-keep stand_of kept.served kept.given s.views id v w at kept.line idle.waits idle.waits idle.holds;
          turns = turns-set kept.served kept.drawn kept.split kept.served kept.drawn (kept.split + 1) s.views id v w at kept.turns (omega arith) (omega arith);
          numbers = numbers-set kept.split (kept.split + 1) s.views id v w at kept.numbers
              (λ p. let l = once-last p (kept.split + 1) in let q : times p ((n + 1) ∷ []) ≡ times p ((kept.split + 1) ∷ []) = ap (λ (k : ℕ). times p ((k + 1) ∷ [])) e in let z : times p v.held ≡ times p [] = ap (times p) idle.held in omega arith);
          taken = each-set (HoldsIt kept.slot) s.views id w (kept.taken id v at) (λ j u k a. kept.taken j u a);
          claimed = subst (λ (ms : List (Member U)). claim (account kept.served kept.drawn kept.slot ms)) (sym (map-keep member_of s.views id v w at refl)) kept.claimed;
        },
        (refl, let b = kept.turns.left in let m = total-le left s.views id v at in omega arith),
      )

  pub cut_goes : (id turns : ℕ) (v : View S U) (c : List (ℕ × S)) (keep give : U → U) → IsCutting (v, c) → turns ≤ v.left → Parts claim (member_of v) keep give
      → Splits (Kept claim) id v (kept_of keep turns v) (cut_of give turns v)
  cut_goes id n v c keep give cutting few parts s kept at =
      let l : View S U = kept_of keep n v in
      let r : View S U = cut_of give n v in
      let vs : List (View S U) = set s.views id l ++ r ∷ [] in
      let split = parts id kept.served kept.drawn cutting.number kept.slot (map member_of s.views) (at_map member_of s.views id v at) (apart kept.split s.views kept.numbers) kept.claimed in
      let new : member_of r ≡ member cutting.number (cutting.number ∷ []) (give v.own) = ap (λ (h : List ℕ). member_of (cut_of give n (record v { held = h }))) cutting.held in
      record {
        served = kept.served;
        given = kept.given;
        drawn = kept.drawn;
        split = kept.split;
        slot = kept.slot;
        words = kept.words;
        home = kept.home ∙ ap (λ (k : ℕ). shelf k kept.slot) (sym (total-cut (holding stand_of) s.views id v l r at (let z : (holding stand_of) v ≡ 0 = ap (λ (b : Bool). cond b 1 0) cutting.holds in omega arith)));
        line = line-quiet stand_of kept.served kept.given s.views vs l r kept.line (total-cut (waiting stand_of) s.views id v l r at (let z : (waiting stand_of) v ≡ 0 = ap (λ (b : Bool). cond b 1 0) cutting.waits in omega arith)) (cutting.waits, cutting.holds) (cutting.waits, cutting.holds) (from-cut s.views id l r);
        turns = record {
          left = let t = total-cut left s.views id v l r at (omega arith) in let o = kept.turns.left in omega arith;
          splits = total-cut splits s.views id v l r at (omega arith) ∙ kept.turns.splits;
        };
        numbers = record { once = λ p. total-cut (numbered p) s.views id v l r at (omega arith) ∙ kept.numbers.once p };
        taken = each-from (HoldsIt kept.slot) s.views vs l r (kept.taken id v at) (kept.taken id v at) kept.taken (from-cut s.views id l r);
        claimed = subst (λ (ms : List (Member U)). claim (account kept.served kept.drawn kept.slot ms))
            (ap (λ (m : Member U). set (map member_of s.views) id (member_of l) ++ m ∷ []) (sym new) ∙ sym (map-cut member_of s.views id l r)) split;
      }
