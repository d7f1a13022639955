-- The steps of a turn keep the rule: a look, which may take the slot, and the release.
use Rattle.std.proofs.Common.{◌≡◌, ℕ, ◌+◌, ◌%◌, ◌^◌, Bool, true, false, true≢false, cond, ◌==◌, MatchBool, List, [], ◌∷◌, map, set, slice_set, slice_index, sym, refl, ap, ◌∙◌, subst, arith}
use mathlib.Core.Option.{Option, some, none}
use lib.ListN.{get_elem?}
use lib.Seq.{map-set}
use Rattle.std.proofs.Math.Nat.{mod-eq_of_lt}
use Rattle.std.proofs.lemmas.Bool.Decides.{nat_tests}
use Rattle.atomic_table.specs.Table.{State, Me, Act, step, Allows, Valid, stepped, keeps, takes, gives, carried_after, rest}
use Rattle.atomic_table.proofs.Lists.{at_map, set_again}
use Rattle.ticket_lock.specs.declared.view.View.{View}
use Rattle.ticket_lock.specs.Totals.{total}
use Rattle.ticket_lock.specs.Line.{Line, holding}
use Rattle.ticket_lock.specs.Views.{Member, member_of, past, IsIn}
use Rattle.ticket_lock.specs.Claims.{Account, account, Learns, Ends}
use Rattle.ticket_lock.specs.Plays.{Sat, Took, Looked, Released, IsInLine}
use Rattle.ticket_lock.specs.Rule.{Kept, stand_of, shelf, left}
use Rattle.ticket_lock.proofs.TotalLemmas.{total-set, total-le, each-set}
use Rattle.ticket_lock.proofs.LineLemmas.{line-set, line-release, nobody_holds, holders}
use Rattle.ticket_lock.proofs.MemberLemmas.{map-keep, apart, turns-set, numbers-set, given-most}
use Rattle.ticket_lock.proofs.Steps.{HoldsIt}

module _ {S U : Type 0} (claim : Account S U → Type 0) where
  -- the seat and the table after a look, where the ticket is the number found or isn't
  abbrev Look : (Member U → S → Type 0) → ℕ → View S U → State S (View S U) → Bool → Type 0
  Look fact id v s b = (w : View S U) × (a : Act S) × Valid s.homes [] a × Kept claim (stepped s 0 (slice_index s.words 0) id [] w a)
      × MatchBool b (Took fact (v, []) (w, carried_after [] a)) (◌≡◌ {A = Sat S U} (w, carried_after [] a) (v, []))

  pub look_goes : (fact : Member U → S → Type 0) (id : ℕ) (v : View S U) → v.waits ≡ true → v.holds ≡ false → Learns claim (member_of v) (fact (member_of v))
      → Allows (Kept claim) 1 id (v, []) 0 (λ n. n) (Looked fact (step 1 0 0 0 none) (v, []))
  look_goes fact id v waits loose learns s kept homes at small = go (slice_index s.words 0 == v.ticket) refl where
    n : ℕ
    n = slice_index s.words 0

    e : n ≡ kept.served
    e = ap (λ (ws : List ℕ). slice_index ws 0) kept.words

    same : slice_set s.words 0 n ≡ kept.served ∷ kept.given ∷ kept.drawn ∷ kept.split ∷ []
    same = ap (λ (ws : List ℕ). slice_set ws 0 (slice_index ws 0)) kept.words

    go : (b : Bool) → (slice_index s.words 0 == v.ticket) ≡ b → Look fact id v s b
    go true is =
        let t : v.ticket ≡ kept.served = let q : n ≡ v.ticket = grind (arith, nat_tests) in sym q ∙ e in
        let line = kept.line.each id v at in
        let none_holds : total (holding stand_of) s.views ≡ 0 = holders stand_of kept.served kept.given s.views id v at kept.line waits t ∙ ap (λ (b : Bool). cond b 1 0) loose in
        let home : s.homes ≡ some kept.slot ∷ [] = kept.home ∙ ap (λ (k : ℕ). shelf k kept.slot) none_holds in
        let w : View S U = record v { holds = true; taken = kept.slot } in (
          w,
          takes 0 kept.slot,
          ap (λ (hs : List (Option S)). get_elem? hs 0) home,
          record {
            served = kept.served;
            given = kept.given;
            drawn = kept.drawn;
            split = kept.split;
            slot = kept.slot;
            words = same;
            home = ap (λ (hs : List (Option S)). slice_set hs 0 none) home ∙ ap (λ (k : ℕ). shelf k kept.slot) (let q = total-set (holding stand_of) s.views id v w at in let z : (holding stand_of) v ≡ 0 = ap (λ (b : Bool). cond b 1 0) loose in let r : 1 ≡ total (holding stand_of) (set s.views id w) = omega arith in r);
            line = line-set stand_of kept.served kept.given kept.served kept.given s.views id v w at kept.line
                (let c = kept.line.tickets in omega arith)
                (record { from = line.from; below = line.below; turn = line.turn; waits = λ _. waits; first = λ _. t })
                (λ j u m a l. l)
                (λ j u m a x y z. m (kept.line.apart j id u v a at x waits z));
            turns = turns-set kept.served kept.drawn kept.split kept.served kept.drawn kept.split s.views id v w at kept.turns refl refl;
            numbers = numbers-set kept.split kept.split s.views id v w at kept.numbers (λ p. refl);
            taken = each-set (HoldsIt kept.slot) s.views id w (λ _. refl) (λ j u m a. kept.taken j u a);
            claimed = subst (λ (ms : List (Member U)). claim (account kept.served kept.drawn kept.slot ms)) (sym (map-keep member_of s.views id v w at refl)) kept.claimed;
          },
          record {
            slot = kept.slot;
            is = refl;
            fact =
                learns id kept.served kept.drawn kept.slot (map member_of s.views) (at_map member_of s.views id v at) (apart kept.split s.views kept.numbers)
                (let l = kept.turns.left in let m = total-le left s.views id v at in let some_left = line.turn waits in omega arith) kept.claimed;
          },
        )
    go false is = (
      v,
      keeps,
      tt,
      subst (Kept claim) (λ i. record { words = sym (same ∙ sym kept.words) i; homes = s.homes; views = sym (set_again s.views id v at) i }) kept,
      refl,
    )

  pub look_seat : (fact : Member U → S → Type 0) (id ticket : ℕ) (me : Sat S U) → IsInLine ticket me → Learns claim (member_of me.0) (fact (member_of me.0))
      → Allows (Kept claim) 1 id me 0 (λ n. n) (Looked fact (step 1 0 0 0 none) me)
  look_seat fact id ticket me line learns =
      subst (λ (c : List (ℕ × S)). Allows (Kept claim) 1 id (me.0, c) 0 (λ n. n) (Looked fact (step 1 0 0 0 none) (me.0, c))) (sym line.free)
      (look_goes fact id me.0 line.waits line.holds learns)

  put_home : (served given : ℕ) (hs : List (Option S)) (vs : List (View S U)) (id : ℕ) (v w : View S U) (h h' : S) → get_elem? vs id ≡ some v → Line stand_of served given vs → v.waits ≡ true → v.ticket ≡ served → v.holds ≡ true → w.holds ≡ false
      → hs ≡ shelf (total (holding stand_of) vs) h → slice_set hs 0 (some h') ≡ shelf (total (holding stand_of) (set vs id w)) h'
  put_home served given hs vs id v w h h' at lock waits turn holds loose is =
      let a : (holding stand_of) v ≡ 1 = ap (λ (b : Bool). cond b 1 0) holds in
      let b : (holding stand_of) w ≡ 0 = ap (λ (b : Bool). cond b 1 0) loose in
      let o = holders stand_of served given vs id v at lock waits turn in
      let t = total-set (holding stand_of) vs id v w at in
      let z : 0 ≡ total (holding stand_of) (set vs id w) = omega arith in
      ap (λ (hs : List (Option S)). slice_set hs 0 (some h')) (is ∙ ap (λ (k : ℕ). shelf k h) (o ∙ a)) ∙ ap (λ (k : ℕ). shelf k h') z

  release_goes : (id : ℕ) (v : View S U) (new : S) (u : U) (told : Type 0) → IsIn v → Ends claim (member_of v) v.taken new u told
      → Allows (Kept claim) 1 id (v, (0, new) ∷ []) 0 (λ n. (n + 1) % 2 ^ 64) (λ n w. (◌≡◌ {A = Sat S U} w (past v u, [])) × told)
  release_goes id v new u told inside ends s kept homes at small =
      let most = given-most kept.served kept.given kept.drawn kept.split s.views kept.line kept.turns in
      let count = kept.line.tickets in
      let line = kept.line.each id v at in
      let t = line.first inside.holds in
      let some_left = line.turn inside.waits in
      let low = line.below inside.waits in
      let w : View S U = past v u in
      let is : v.taken ≡ kept.slot = kept.taken id v at inside.holds in
      let passes : List (Member U) = map member_of s.views in
      let ended = ends id kept.served kept.drawn passes (at_map member_of s.views id v at) (apart kept.split s.views kept.numbers) (subst (λ (y : S). claim (account kept.served kept.drawn y passes)) (sym is) kept.claimed) in (
        w,
        gives,
        tt,
        record {
          served = kept.served + 1;
          given = kept.given;
          drawn = kept.drawn;
          split = kept.split;
          slot = new;
          words = ap (λ (ws : List ℕ). slice_set ws 0 ((slice_index ws 0 + 1) % 2 ^ 64)) kept.words ∙ ap (λ (k : ℕ). k ∷ kept.given ∷ kept.drawn ∷ kept.split ∷ []) (mod-eq_of_lt (omega arith));
          home = put_home kept.served kept.given s.homes s.views id v w kept.slot new at kept.line inside.waits t inside.holds refl kept.home;
          line = line-release stand_of kept.served kept.given s.views id v at kept.line inside.waits t w refl refl;
          turns = turns-set kept.served kept.drawn kept.split (kept.served + 1) kept.drawn kept.split s.views id v w at kept.turns (omega arith) refl;
          numbers = numbers-set kept.split kept.split s.views id v w at kept.numbers (λ p. refl);
          taken = each-set (HoldsIt new) s.views id w (λ y. absurd (true≢false (sym y)))
              (λ j x m a y. absurd (true≢false (sym y ∙ nobody_holds stand_of kept.served kept.given s.views id v at kept.line inside.waits t j x m a)));
          claimed = subst (λ (ms : List (Member U)). claim (account (kept.served + 1) kept.drawn new ms)) (sym (map-set member_of s.views id w)) ended.0;
        },
        (refl, ended.1),
      )

  pub release_seat : (after : Member U → S → U) (told : Member U → S → Type 0) (id : ℕ) (me : Sat S U) (v : View S U) (new : S) → me ≡ (v, (0, new) ∷ []) → IsIn v
      → Ends claim (member_of v) v.taken new (after (member_of v) v.taken) (told (member_of v) v.taken)
      → Allows (Kept claim) 1 id me 0 (λ n. (n + 1) % 2 ^ 64) (Released after told (step 1 0 1 0 none) me)
  release_seat after told id me v new is inside ends =
      subst (λ (m : Sat S U). Allows (Kept claim) 1 id m 0 (λ n. (n + 1) % 2 ^ 64) (Released after told (step 1 0 1 0 none) m)) (sym is)
      (release_goes id v new (after (member_of v) v.taken) (told (member_of v) v.taken) inside ends)

-- the slot that is held, as an exchange asks and tells
module _ {S : Type 0} where
  pub slot_held : (l : List (ℕ × S)) (y : S) → l ≡ (0, y) ∷ [] → (x : S) × (l ≡ (0, x) ∷ rest l)
  slot_held l y h = (y, h ∙ ap (λ (r : List (ℕ × S)). (0, y) ∷ r) (sym (ap rest h)))

  pub slot_has : {V : Type 0} (v : V) (l : List (ℕ × S)) (y z : S) (me : Me S V) → l ≡ (0, y) ∷ [] → me ≡ (v, (0, z) ∷ rest l) → me ≡ (v, (0, z) ∷ [])
  slot_has v l y z me h k = k ∙ ap (λ (r : List (ℕ × S)). (v, (0, z) ∷ r)) (ap rest h)
