-- The levels of the target's negations, as the trail changes.
use Rattle.std.proofs.Common.{◌≡◌, ◌<◌, ◌≤◌, ◌+◌, ℕ, zero, suc, arith, Bool, true, false, inl, inr, List, [], ◌∷◌, ◌++◌, nat_le, length, min, Option, None, refl, sym, ap, subst, ◌∙◌}
use Rattle.std.specs.Prelude.{is_none}
use Rattle.std.specs.List.{AllByRecursion}
use Rattle.std.proofs.lemmas.List.Elements.{All-get_or}
use Rattle.std.proofs.Math.Nat.{eq-or-lt_of_le}
use Rattle.std.proofs.lemmas.Bool.{or_cases, or_left, or_right}
use Rattle.lits.specs.Clause.{has}
use Rattle.lits.specs.Same.{same_lit, opposite}
use Rattle.lits.specs.declared.literal.Lit.{Lit}
use Rattle.lits.proofs.Facts.{all-append}
use Rattle.solver_plain.proofs.Facts.{all-each}
use Rattle.watch_lists.specs.Trail.{TrailState, IsTrail, Propagates, Decides, IsForced, put_at, lits_of, up_to, back_to, no_put}
use Rattle.watch_lists.specs.declared.put.Put.{Put}
use Rattle.solver_watch.specs.Assuming.{IsChosen, IsAssuming}
use Rattle.solver_watch.proofs.TrailLemmas.{place-of, up_to-up_to, up_to-at}

-- what holds of each put holds of those up to a level
pub all-up_to : (P : Put → Type 0) (level : ℕ) (puts : List Put) → AllByRecursion P puts → AllByRecursion P (up_to level puts)
all-up_to P level [] all = tt
all-up_to P level (p ∷ ps) all = go (nat_le p.level level) refl (all-up_to P level ps all.1)
  where
    go : (b : Bool) → nat_le p.level level ≡ b → AllByRecursion P (up_to level ps) → AllByRecursion P (up_to level (p ∷ ps))
    go true e rest = rw e (all.0, rest)
    go false e rest = rw e rest

-- a literal of the first levels stays there where puts come behind
pub up_to-more : (level : ℕ) (puts more : List Put) (l : Lit) → has same_lit (lits_of (up_to level puts)) l ≡ true
    → has same_lit (lits_of (up_to level (puts ++ more))) l ≡ true
up_to-more level [] more l h = cc
up_to-more level (p ∷ ps) more l h = go (nat_le p.level level) refl (up_to-more level ps more l)
  where
    go : (b : Bool) → nat_le p.level level ≡ b
        → (has same_lit (lits_of (up_to level ps)) l ≡ true → has same_lit (lits_of (up_to level (ps ++ more))) l ≡ true)
        → has same_lit (lits_of (up_to level ((p ∷ ps) ++ more))) l ≡ true
    go true e rest = rw e (elim (or_cases (same_lit p.lit l) (has same_lit (lits_of (up_to level ps)) l) (rw e at h)) [
      | inl f ↦ or_left _ _ f
      | inr f ↦ or_right (same_lit p.lit l) _ (rest f)
    ])
    go false e rest = rw e (rest (rw e at h))

forced-chosen : (target : List Lit) (assumed level : ℕ) (put : Put) → IsForced level put → IsChosen target assumed put
forced-chosen target assumed level put forced none low = let e : true ≡ false = ap (λ (o : Option ℕ). is_none o) (sym none) ∙ forced.clause in cc

all-of : (P : Put → Type 0) (puts : List Put) → ((k : ℕ) → k < length puts → P (put_at puts k)) → AllByRecursion P puts
all-of P [] each = tt
all-of P (p ∷ ps) each = (each 0 (omega arith), all-of P ps (λ k h. each (suc k) (omega arith)))

pub all-at_place : (P : Put → Type 0) (puts : List Put) (k : ℕ) → k < length puts → AllByRecursion P puts → P (put_at puts k)
all-at_place P [] k h all = absurd (omega arith)
all-at_place P (p ∷ ps) zero h all = all.0
all-at_place P (p ∷ ps) (suc k) h all = all-at_place P ps k (omega arith) all.1

pub assuming-propagates : (target : List Lit) (old new : TrailState) (assumed : ℕ) → Propagates old new → IsAssuming target old assumed
    → IsAssuming target new assumed
assuming-propagates target old new assumed p is = record {
  most = (let m = is.most in let e = p.last in omega arith);
  chosen = subst (λ (ps : List Put). AllByRecursion (IsChosen target assumed) ps) (sym p.behind)
      (all-append (IsChosen target assumed) old.puts p.more is.chosen
      (all-of (IsChosen target assumed) p.more (λ k h. forced-chosen target assumed old.last (put_at p.more k)
      (All-get_or (IsForced old.last) p.more k no_put h p.forced))));
  whole = λ more l h. subst (λ (ps : List Put). has same_lit (lits_of (up_to assumed ps)) (opposite l) ≡ true) (sym p.behind)
      (up_to-more assumed old.puts p.more (opposite l) (is.whole (let e = p.last in omega arith) l h));
}

pub assuming-back : (target : List Lit) (t : TrailState) (assumed level : ℕ) → IsAssuming target t assumed
    → IsAssuming target (back_to level t) (min assumed level)
assuming-back target t assumed level is = record {
  most = (let m = is.most in omega arith);
  chosen = all-up_to (IsChosen target (min assumed level)) level t.puts
      (all-each (IsChosen target assumed) (IsChosen target (min assumed level)) t.puts (λ p c none low. c none (omega arith)) is.chosen);
  whole = λ more l h. whole_at more l h;
}
  where
    whole_at : min assumed level < min level t.last → (l : Lit) → has same_lit target l ≡ true
        → has same_lit (lits_of (up_to (min assumed level) (up_to level t.puts))) (opposite l) ≡ true
    whole_at more l h =
        let less : min assumed level ≡ assumed = omega arith in
        let low : assumed ≤ level = omega arith in
        rw less (rw (up_to-up_to t.puts assumed level low) (is.whole (omega arith) l h))

-- before any decision
pub assuming-start : (target : List Lit) (t : TrailState) (assumed : ℕ) → IsTrail t → IsAssuming target (back_to 0 t) (min assumed 0)
assuming-start target t assumed trail = record {
  most = omega arith;
  chosen = all-up_to (IsChosen target (min assumed 0)) 0 t.puts
      (all-of (IsChosen target (min assumed 0)) t.puts (λ k h none low. absurd (let led = (trail.led k h none).0 in omega arith)));
  whole = λ more. absurd (omega arith);
}

-- one more of the target's negations is assumed
pub assuming-assume : (target : List Lit) (old new : TrailState) (assumed : ℕ) (lit : Lit) → Decides old lit new → IsTrail old → IsAssuming target old assumed
    → old.last ≡ assumed → has same_lit target (opposite lit) ≡ true → IsAssuming target new new.last
assuming-assume target old new assumed lit d trail is at inside = record {
  most = omega arith;
  chosen = subst (λ (ps : List Put). AllByRecursion (IsChosen target new.last) ps) (sym d.puts)
      (all-append (IsChosen target new.last) old.puts (record { lit = lit; level = old.last + 1; by = None } ∷ [])
      (all-of (IsChosen target new.last) old.puts (λ k h none low. all-at_place (IsChosen target assumed) old.puts k h is.chosen none
      (let m = trail.most k h in omega arith))) ((λ none low. inside), tt));
  whole = λ more. absurd (omega arith);
}

-- a level of another kind begins where all of them are true
pub assuming-decide : (target : List Lit) (old new : TrailState) (assumed : ℕ) (lit : Lit) → Decides old lit new → IsTrail old → IsAssuming target old assumed
    → ((l : Lit) → old.last ≡ assumed → has same_lit target l ≡ true → has same_lit (lits_of old.puts) (opposite l) ≡ true)
    → IsAssuming target new assumed
assuming-decide target old new assumed lit d trail is all = record {
  most = (let m = is.most in let e = d.last in omega arith);
  chosen = subst (λ (ps : List Put). AllByRecursion (IsChosen target assumed) ps) (sym d.puts)
      (all-append (IsChosen target assumed) old.puts (record { lit = lit; level = old.last + 1; by = None } ∷ []) is.chosen
      ((λ none low. absurd (let m = is.most in omega arith)), tt));
  whole = λ more l h. subst (λ (ps : List Put). has same_lit (lits_of (up_to assumed ps)) (opposite l) ≡ true) (sym d.puts)
      (up_to-more assumed old.puts (record { lit = lit; level = old.last + 1; by = None } ∷ []) (opposite l) (before l h));
}
  where
    before : (l : Lit) → has same_lit target l ≡ true → has same_lit (lits_of (up_to assumed old.puts)) (opposite l) ≡ true
    before l h = elim (eq-or-lt_of_le is.most) [
      | inl e ↦
          let w = place-of old.puts (opposite l) (all l (sym e) h) in
          subst (λ (m : Lit). has same_lit (lits_of (up_to assumed old.puts)) m ≡ true) w.2
          (up_to-at old.puts assumed w.0 w.1 (let m = trail.most w.0 w.1 in omega arith))
      | inr less ↦ is.whole less l h
    ]
