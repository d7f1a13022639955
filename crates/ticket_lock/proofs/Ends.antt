-- The table at its start, where two passes join, and at its end.
use Rattle.std.proofs.Common.{◌≡◌, ◌≢◌, ℕ, ◌+◌, ◌^◌, ◌≤◌, Bool, true, false, true≢false, cond, List, [], ◌∷◌, map, set, sym, refl, ap, ◌∙◌, subst, arith}
use mathlib.Core.Option.{Option, some, some-injective}
use lib.ListN.{get_elem?}
use native.Mathlib.Decide.{ℕ_discrete}
use Rattle.atomic_table.specs.Table.{State, Joins, Seen, Final, opening}
use Rattle.atomic_table.proofs.Lists.{at_map, set_else}
use Rattle.ticket_lock.specs.declared.view.View.{View}
use Rattle.ticket_lock.specs.Totals.{total}
use Rattle.ticket_lock.specs.Line.{InLine, waiting, holding}
use Rattle.ticket_lock.specs.Views.{Member, member_of, both_of, spent, opener, IsIdle}
use Rattle.ticket_lock.specs.Claims.{Account, account, Begins, Merges, Sums, Ended}
use Rattle.ticket_lock.specs.Rule.{Kept, stand_of, shelf, left, splits, numbered}
use Rattle.ticket_lock.proofs.TotalLemmas.{total-join, total-two, total-none, total-plus, each-from, each-one, from-join}
use Rattle.ticket_lock.proofs.TimesLemmas.{times-append}
use Rattle.ticket_lock.proofs.LineLemmas.{line-quiet}
use Rattle.ticket_lock.proofs.MemberLemmas.{total-map, map-join, at-image, apart}
use Rattle.ticket_lock.proofs.Steps.{HoldsIt}

module _ {S U : Type 0} (claim : Account S U → Type 0) where
  pub join_goes : (id other : ℕ) (v u : View S U) (join : U → U → U) (blank : S) (rest : U) → IsIdle v → IsIdle u → Merges claim (member_of v) (member_of u) join rest
      → Joins (Kept claim) id v other u (both_of join v u) (spent blank rest)
  join_goes id other v u join blank rest iv iu merges s kept at far o =
      let b : View S U = both_of join v u in
      let z : View S U = spent blank rest in
      let last : List (View S U) = set (set s.views id b) other z in
      let eo : get_elem? s.views other ≡ some u = sym (set_else s.views id other b far) ∙ o in
      let zv : (waiting stand_of) v ≡ 0 = ap (λ (b : Bool). cond b 1 0) iv.waits in
      let zu : (waiting stand_of) u ≡ 0 = ap (λ (b : Bool). cond b 1 0) iu.waits in
      let hv : (holding stand_of) v ≡ 0 = ap (λ (b : Bool). cond b 1 0) iv.holds in
      let hu : (holding stand_of) u ≡ 0 = ap (λ (b : Bool). cond b 1 0) iu.holds in
      let merged = merges id other kept.served kept.drawn kept.slot (map member_of s.views) (at_map member_of s.views id v at) (at_map member_of s.views other u eo) far (apart kept.split s.views kept.numbers) kept.claimed in
      record {
        served = kept.served;
        given = kept.given;
        drawn = kept.drawn;
        split = kept.split;
        slot = kept.slot;
        words = kept.words;
        home = kept.home ∙ ap (λ (k : ℕ). shelf k kept.slot) (sym (total-join (holding stand_of) s.views id other v u b z at o (omega arith)));
        line = line-quiet stand_of kept.served kept.given s.views last b z kept.line (total-join (waiting stand_of) s.views id other v u b z at o (omega arith)) (iv.waits, iv.holds) (refl, refl) (from-join s.views id other b z);
        turns = record {
          left = let t = total-join left s.views id other v u b z at o (omega arith) in let k = kept.turns.left in omega arith;
          splits = total-join splits s.views id other v u b z at o (omega arith) ∙ kept.turns.splits;
        };
        numbers = record {
          once = λ p. total-join (numbered p) s.views id other v u b z at o (let t = times-append p v.numbers u.numbers in let r = times-append p v.held u.held in omega arith) ∙ kept.numbers.once p;
        };
        taken = each-from (HoldsIt kept.slot) s.views last b z (kept.taken id v at) (λ y. absurd (true≢false (sym y))) kept.taken (from-join s.views id other b z);
        claimed = subst (λ (ms : List (Member U)). claim (account kept.served kept.drawn kept.slot ms)) (sym (map-join member_of s.views id other b z)) merged;
      }

  begins : (blank slot : S) (u : U) → Begins claim slot u → Kept claim (opening (0 ∷ 0 ∷ 0 ∷ 0 ∷ []) (slot ∷ []) (opener blank u))
  begins blank slot u start = let v : View S U = opener blank u in record {
    served = 0;
    given = 0;
    drawn = 0;
    split = 0;
    slot = slot;
    words = refl;
    home = refl;
    line = record {
      tickets = refl;
      each = each-one (λ (x : View S U). InLine 0 0 (stand_of x)) v (record { from = λ y. absurd (true≢false (sym y)); below = λ y. absurd (true≢false (sym y)); turn = λ y. absurd (true≢false (sym y)); waits = λ y. absurd (true≢false (sym y)); first = λ y. absurd (true≢false (sym y)) });
      apart = λ i j x w eu ew wu. absurd (each-one (λ (x : View S U). x.waits ≢ true) v (λ y. true≢false (sym y)) i x eu wu);
    };
    turns = record { left = refl; splits = refl };
    numbers = record { once = λ p. omega arith };
    taken = each-one (HoldsIt slot) v (λ y. absurd (true≢false (sym y)));
    claimed = start;
  }

  pub begins_at : (blank slot : S) (u : U) (slots : List S) → slots ≡ slot ∷ [] → Begins claim slot u → Kept claim (opening (0 ∷ 0 ∷ 0 ∷ 0 ∷ []) slots (opener blank u))
  begins_at blank slot u slots is start =
      subst (λ (xs : List S). Kept claim (opening (0 ∷ 0 ∷ 0 ∷ 0 ∷ []) xs (opener blank u))) (sym is) (begins blank slot u start)

  module _ (made : U → ℕ) where
    -- what a pass has of the turns, left or spent
    abbrev share : View S U → ℕ
    share v = (left v + splits v) + made v.own

    -- the table at its end, where one pass has all turns
    module _ (id : ℕ) (v : View S U) (s : State S (View S U)) (idle : IsIdle v) (sums : Sums claim made) (whole : (v.left + v.splits) + made v.own ≡ 2 ^ 62) (kept : Kept claim s) (at : get_elem? s.views id ≡ some v) where
      sum_is : total share s.views ≡ 2 ^ 62
      sum_is =
          let a : total share s.views ≡ total (λ (u : View S U). left u + splits u) s.views + total (λ (u : View S U). made u.own) s.views = total-plus (λ (u : View S U). left u + splits u) (λ (u : View S U). made u.own) s.views in
          let b : total (λ (u : View S U). left u + splits u) s.views ≡ total left s.views + total splits s.views = total-plus left splits s.views in
          let c : total (λ (m : Member U). made m.own) (map member_of s.views) ≡ total (λ (u : View S U). made u.own) s.views = total-map member_of (λ (m : Member U). made m.own) s.views in
          let d : total (λ (m : Member U). made m.own) (map member_of s.views) ≡ kept.served + kept.drawn = sums (account kept.served kept.drawn kept.slot (map member_of s.views)) kept.claimed in
          let e = kept.turns.left in
          let f = kept.turns.splits in
          omega arith

      others : (j : ℕ) (u : View S U) → j ≢ id → get_elem? s.views j ≡ some u → share u ≡ 0
      others j u n a = let t = total-two share s.views j id u v n a at in let q = sum_is in omega arith

      zero_of : (u : View S U) → (b : Bool) → u.holds ≡ b → (b ≡ true → 1 ≤ 0) → (holding stand_of) u ≡ 0
      zero_of u true e h = absurd (let z = h refl in omega arith)
      zero_of u false e h = rw e refl

      free : (j : ℕ) (u : View S U) → get_elem? s.views j ≡ some u → (holding stand_of) u ≡ 0
      free j u a = pick (ℕ_discrete j id) where
        pick : Dec (j ≡ id) → (holding stand_of) u ≡ 0
        pick (yes e) = let same : v ≡ u = some-injective v u (sym at ∙ ap (get_elem? s.views) (sym e) ∙ a) in ap (holding stand_of) (sym same) ∙ ap (λ (b : Bool). cond b 1 0) idle.holds
        pick (no n) = zero_of u u.holds refl (λ h. let l = kept.line.each j u a in let k = l.turn (l.waits h) in let z = others j u n a in omega arith)

      home_is : s.homes ≡ some kept.slot ∷ []
      home_is = kept.home ∙ ap (λ (k : ℕ). shelf k kept.slot) (total-none (holding stand_of) s.views free)

      ended : Ended claim made (member_of v) kept.slot kept.drawn
      ended = record {
        id = id;
        served = kept.served;
        passes = map member_of s.views;
        at = at_map member_of s.views id v at;
        apart = apart kept.split s.views kept.numbers;
        claimed = kept.claimed;
        others = λ j k n a.
            let u = at-image member_of s.views j k a in
            let z = others j u.0 n u.1 in
            let q : made k.own ≡ made (u.0).own = ap (λ (m : Member U). made m.own) (sym u.2) in
            omega arith;
      }

    pub closes : (id : ℕ) (v : View S U) (words : List ℕ) (slots : List S) (slot : S) (drawn : ℕ) → IsIdle v → Sums claim made → (v.left + v.splits) + made v.own ≡ 2 ^ 62
        → Final (Seen (Kept claim) id v) words slots → get_elem? words 2 ≡ some drawn → get_elem? slots 0 ≡ some slot
        → Ended claim made (member_of v) slot drawn
    closes id v words slots slot drawn idle sums whole final word there =
        let s = final.0 in
        let kept = final.1.0 in
        let at = final.1.1 in
        let home = final.4 0 kept.slot (ap (λ (hs : List (Option S)). get_elem? hs 0) (home_is id v s idle sums whole kept at)) in
        let same : kept.slot ≡ slot = some-injective kept.slot slot (sym home ∙ there) in
        let drew : kept.drawn ≡ drawn = some-injective kept.drawn drawn (ap (λ (ws : List ℕ). get_elem? ws 2) (sym kept.words ∙ final.2) ∙ word) in
        subst (λ (x : S). Ended claim made (member_of v) x drawn) same
        (subst (λ (n : ℕ). Ended claim made (member_of v) kept.slot n) drew (ended id v s idle sums whole kept at))
