-- The line at each change: one view changes, the one that is served goes, or views change that don't wait.
use Rattle.std.proofs.Common.{◌≡◌, ◌≢◌, ℕ, ◌+◌, Bool, true, false, true≢false, cond, List, set, sym, refl, ap, ◌∙◌, subst, ◌⊎◌, ⊎_elim, arith}
use mathlib.Core.Option.{some}
use lib.ListN.{get_elem?}
use Rattle.atomic_table.proofs.Lists.{at_set}
use Rattle.ticket_lock.specs.Totals.{total}
use Rattle.ticket_lock.specs.Line.{Stand, waiting, holding, InLine, Line}
use Rattle.ticket_lock.proofs.TotalLemmas.{total-set, total-alone, each-set, Stays}

-- who neither waits nor holds stands in no line
abbrev IsOut : Stand → Type 0
IsOut s = (s.waits ≡ false) × (s.holds ≡ false)

out-line : (served given : ℕ) (s : Stand) → IsOut s → InLine served given s
out-line served given s out = record {
  from = λ y. absurd (true≢false (sym y ∙ out.0));
  below = λ y. absurd (true≢false (sym y ∙ out.0));
  turn = λ y. absurd (true≢false (sym y ∙ out.0));
  waits = λ y. absurd (true≢false (sym y ∙ out.1));
  first = λ y. absurd (true≢false (sym y ∙ out.1));
}

module _ {V : Type 0} (stand : V → Stand) where
  abbrev NoTwin : List V → ℕ → V → Type 0
  NoTwin vs id w = (j : ℕ) (u : V) → j ≢ id → get_elem? vs j ≡ some u → (stand u).waits ≡ true → (stand w).waits ≡ true
      → (stand u).ticket ≢ (stand w).ticket

  abbrev Apart : List V → Type 0
  Apart vs = (i j : ℕ) (u v : V) → get_elem? vs i ≡ some u → get_elem? vs j ≡ some v → (stand u).waits ≡ true
      → (stand v).waits ≡ true → (stand u).ticket ≡ (stand v).ticket → i ≡ j

  apart-set : (vs : List V) (id : ℕ) (w : V) → Apart vs → NoTwin vs id w → Apart (set vs id w)
  apart-set vs id w old twin i j a b ea eb wa wb t = ⊎_elim
      (λ (x : (i ≡ id) × (w ≡ a)). ⊎_elim
      (λ (y : (j ≡ id) × (w ≡ b)). x.0 ∙ sym y.0)
      (λ (y : (j ≢ id) × (get_elem? vs j ≡ some b)).
      absurd (twin j b y.0 y.1 wb (ap (λ (z : V). (stand z).waits) x.1 ∙ wa) (sym t ∙ ap (λ (z : V). (stand z).ticket) (sym x.1))))
      (at_set vs id j w b eb))
      (λ (x : (i ≢ id) × (get_elem? vs i ≡ some a)). ⊎_elim
      (λ (y : (j ≡ id) × (w ≡ b)).
      absurd (twin i a x.0 x.1 wa (ap (λ (z : V). (stand z).waits) y.1 ∙ wb) (t ∙ ap (λ (z : V). (stand z).ticket) (sym y.1))))
      (λ (y : (j ≢ id) × (get_elem? vs j ≡ some b)). old i j a b x.1 y.1 wa wb t)
      (at_set vs id j w b eb))
      (at_set vs id i w a ea)

  pub line-set : (served given served' given' : ℕ) (vs : List V) (id : ℕ) (v w : V) → get_elem? vs id ≡ some v
      → Line stand served given vs
      → served' + (total (waiting stand) vs + waiting stand w) ≡ given' + waiting stand v
      → InLine served' given' (stand w)
      → ((j : ℕ) (u : V) → j ≢ id → get_elem? vs j ≡ some u → InLine served given (stand u) → InLine served' given' (stand u))
      → NoTwin vs id w
      → Line stand served' given' (set vs id w)
  line-set served given served' given' vs id v w e old count mine others twin = record {
    tickets = let t = total-set (waiting stand) vs id v w e in omega arith;
    each = each-set (λ x. InLine served' given' (stand x)) vs id w mine (λ j u n a. others j u n a (old.each j u a));
    apart = apart-set vs id w old.apart twin;
  }

  -- a view changes that neither waits nor holds
  pub line-keep : (served given : ℕ) (vs : List V) (id : ℕ) (v w : V) → get_elem? vs id ≡ some v → Line stand served given vs
      → (stand w).waits ≡ false → (stand v).waits ≡ false → (stand w).holds ≡ false → Line stand served given (set vs id w)
  line-keep served given vs id v w e old idle was loose = line-set served given served given vs id v w e old
      (rw (idle, was) (let t = old.tickets in omega arith))
      (out-line served given (stand w) (idle, loose))
      (λ j u n a h. h)
      (λ j u n a x y. absurd (true≢false (sym y ∙ idle)))

  -- two views change, neither of which waits or holds
  pub line-quiet : (served given : ℕ) (vs vs' : List V) (a b : V) → Line stand served given vs
      → total (waiting stand) vs' ≡ total (waiting stand) vs → IsOut (stand a) → IsOut (stand b)
      → ((j : ℕ) (u : V) → get_elem? vs' j ≡ some u → Stays vs a b j u) → Line stand served given vs'
  line-quiet served given vs vs' a b old count ia ib from = record {
    tickets = let t = old.tickets in omega arith;
    each = λ j u e. ⊎_elim
        (λ (x : (a ≡ u) ⊎ (b ≡ u)). out-line served given (stand u) (still u x))
        (λ (x : get_elem? vs j ≡ some u). old.each j u x) (from j u e);
    apart = λ i j u v eu ev wu wv t. old.apart i j u v (stood i u eu wu) (stood j v ev wv) wu wv t;
  } where
    still : (u : V) → (a ≡ u) ⊎ (b ≡ u) → IsOut (stand u)
    still u x = ⊎_elim
        (λ (y : a ≡ u). subst (λ (z : V). IsOut (stand z)) y ia)
        (λ (y : b ≡ u). subst (λ (z : V). IsOut (stand z)) y ib) x

    stood : (j : ℕ) (u : V) → get_elem? vs' j ≡ some u → (stand u).waits ≡ true → get_elem? vs j ≡ some u
    stood j u e w = ⊎_elim
        (λ (x : (a ≡ u) ⊎ (b ≡ u)). absurd (true≢false (sym w ∙ (still u x).0)))
        (λ (x : get_elem? vs j ≡ some u). x) (from j u e)

  module _ (served given : ℕ) (vs : List V) (id : ℕ) (v : V) (e : get_elem? vs id ≡ some v) (old : Line stand served given vs)
      (waits : (stand v).waits ≡ true) (turn : (stand v).ticket ≡ served) where
    -- while a view waits whose ticket is served, no other view holds
    pub nobody_holds : (j : ℕ) (u : V) → j ≢ id → get_elem? vs j ≡ some u → (stand u).holds ≡ false
    nobody_holds j u n eu = go (stand u).holds refl where
      go : (b : Bool) → (stand u).holds ≡ b → (stand u).holds ≡ false
      go false h = h
      go true h =
          let l = old.each j u eu in
          absurd (n (old.apart j id u v eu e (l.waits h) waits (l.first h ∙ sym turn)))

    -- so this one is all that hold
    pub holders : total (holding stand) vs ≡ holding stand v
    holders = total-alone (holding stand) vs id v e (λ j u n a. ap (λ (b : Bool). cond b 1 0) (nobody_holds j u n a))

    -- the one that is served goes
    pub line-release : (w : V) → (stand w).waits ≡ false → (stand w).holds ≡ false → Line stand (served + 1) given (set vs id w)
    line-release w idle loose = line-set served given (served + 1) given vs id v w e old
        (rw (idle, waits) (let t = old.tickets in omega arith))
        (out-line (served + 1) given (stand w) (idle, loose))
        (λ j u n a l. record {
          from = λ y.
              let f = l.from y in
              let d : (stand u).ticket ≢ served = λ t. n (old.apart j id u v a e y waits (t ∙ sym turn)) in
              omega arith;
          below = l.below;
          turn = l.turn;
          waits = l.waits;
          first = λ y. absurd (true≢false (sym y ∙ nobody_holds j u n a));
        })
        (λ j u n a x y. absurd (true≢false (sym y ∙ idle)))
