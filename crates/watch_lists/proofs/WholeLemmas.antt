-- What always holds of a trail, from what holds of its engine.
use Rattle.std.proofs.Common.{◌≡◌, ℕ, zero, suc, ◌+◌, ◌-◌, ◌<◌, ◌≤◌, Bool, true, false, List, [], ◌∷◌, length, map, take, refl, sym, ap, ◌∙◌, subst, arith, get_or, nat_eq, ◌⊎◌, inl, inr, Option, Some, None}
use Rattle.std.specs.Prelude.{filter, nat_le}
use Rattle.std.specs.List.{AllByRecursion}
use Rattle.std.proofs.lemmas.List.{take-map, get_or-map, length-map, take_all, get_or_default}
use Rattle.std.proofs.lemmas.List.Elements.{recursion_from_All}
use Rattle.std.proofs.lemmas.Map.Keys.{apart_from_distinct}
use Rattle.std.proofs.lemmas.Bool.Decides.{nat_tests}
use Rattle.lits.specs.Clause.{has, no_repeat}
use Rattle.lits.specs.Same.{same_lit, same_node, opposite}
use Rattle.lits.specs.declared.node.Node.{Node}
use Rattle.lits.specs.declared.literal.Lit.{Lit}
use Rattle.unit_prop.specs.Closure.{forces}
use Rattle.lits.proofs.Facts.{lit_laws}
use Rattle.unit_prop.proofs.Facts.{contrary}
use Rattle.flat_base.specs.Codes.{lit_at}
use Rattle.watch_lists.specs.Codes.{flip}
use Rattle.watch_lists.specs.State.{AsksNothing, codes_at, level_at, no_level, decisions, IsJustified}
use Rattle.watch_lists.specs.Trail.{put_at, no_put, clause_at, lits_of, decisions_of, up_to, IsComplete, IsGround, IsTrail, Begins, no_lit}
use Rattle.watch_lists.specs.Whole.{IsWhole, state_of}
use Rattle.watch_lists.specs.declared.put.Put.{Put}
use Rattle.watch_lists.specs.declared.engine.Engine.{Engine}
use Rattle.watch_lists.proofs.FlipLemmas.{is_literal-flip}
use Rattle.watch_lists.proofs.Facts.{lit_at-flip, lit_at-exact, lit_at-over, flip-code, has-lits, code-of, has-same, has-at, le-test}
use Rattle.watch_lists.proofs.TransferLemmas.{lits_at, clauses_at, AreCodes, forces-same, closure-up}
use Rattle.watch_lists.proofs.TrailLemmas.{has-take, starts-most}
use Rattle.watch_lists.proofs.LevelLemmas.{settled-closure, decisions-in}

pub clause-at : (nodes : List Node) (clauses : List (List ℕ)) (i : ℕ) → clause_at (clauses_at nodes clauses) i ≡ lits_at nodes (codes_at clauses i)
clause-at nodes [] i = refl
clause-at nodes (c ∷ cs) zero = refl
clause-at nodes (c ∷ cs) (suc i) = clause-at nodes cs i

-- the puts that pass a test which holds up to a place
pub filter-first : (p : Put → Bool) (puts : List Put) (s : ℕ) → ((k : ℕ) → k < length puts → k < s → p (get_or puts k no_put) ≡ true)
    → ((k : ℕ) → k < length puts → s ≤ k → p (get_or puts k no_put) ≡ false) → filter p puts ≡ take s puts
filter-first p [] zero early late = refl
filter-first p [] (suc s) early late = refl
filter-first p (x ∷ xs) zero early late = rw (late zero (omega arith) (omega arith)) (filter-first p xs zero (λ k h b. absurd (omega arith)) (λ k h b. late (suc k) (omega arith) (omega arith)))
filter-first p (x ∷ xs) (suc s) early late =
    rw (early zero (omega arith) (omega arith)) (ap (λ (l : List Put). x ∷ l) (filter-first p xs s (λ k h b. early (suc k) (omega arith) (omega arith)) (λ k h b. late (suc k) (omega arith) (omega arith))))

-- decided literals, by code
pub decisions-puts : (nodes : List Node) (puts : List Put) (trail : List ℕ) (reasons : List (Option ℕ)) → lits_of puts ≡ lits_at nodes trail → map (λ p. p.by) puts ≡ reasons
    → decisions_of puts ≡ lits_at nodes (decisions trail reasons)
decisions-puts nodes [] [] reasons e f = refl
decisions-puts nodes [] (x ∷ xs) reasons e f = absurd (omega (arith, ap length e))
decisions-puts nodes (p ∷ ps) [] reasons e f = absurd (omega (arith, ap length e))
decisions-puts nodes (p ∷ ps) (x ∷ xs) reasons e f = subst (λ (rs : List (Option ℕ)). decisions_of (p ∷ ps) ≡ lits_at nodes (decisions (x ∷ xs) rs)) f
    (go p.by refl (decisions-puts nodes ps xs (map (λ q. q.by) ps) (tails e) refl))
  where
    heads : (p ∷ ps) ≡ (p ∷ ps) → p.lit ≡ lit_at nodes x
    heads _ = ap (λ (l : List Lit). get_or l 0 no_lit) e

    tails : lits_of (p ∷ ps) ≡ lits_at nodes (x ∷ xs) → lits_of ps ≡ lits_at nodes xs
    tails g = ap (λ (l : List Lit). drop_one l) g
      where
        drop_one : List Lit → List Lit
        drop_one [] = []
        drop_one (y ∷ ys) = ys

    go : (o : Option ℕ) → p.by ≡ o → decisions_of ps ≡ lits_at nodes (decisions xs (map (λ q. q.by) ps))
        → decisions_of (p ∷ ps) ≡ lits_at nodes (decisions (x ∷ xs) (p.by ∷ map (λ q. q.by) ps))
    go None g rest = rw g (ap (λ (l : Lit). l ∷ decisions_of ps) (heads refl) ∙ ap (λ (l : List Lit). lit_at nodes x ∷ l) rest)
    go (Some b) g rest = rw g rest

no_repeat-apart : (xs : List Lit) → ((i j : ℕ) → i < j → j < length xs → same_lit (get_or xs i no_lit) (get_or xs j no_lit) ≡ false) → no_repeat same_lit xs ≡ true
no_repeat-apart [] apart = refl
no_repeat-apart (x ∷ xs) apart = rw (lacks xs (λ k h. lit_laws.equivalence.symm (get_or xs k no_lit) x ∙ apart zero (suc k) (omega arith) (omega arith)), no_repeat-apart xs (λ i j a b. apart (suc i) (suc j) (omega arith) (omega arith))) refl
  where
    lacks : (ys : List Lit) → ((k : ℕ) → k < length ys → same_lit (get_or ys k no_lit) x ≡ false) → has same_lit ys x ≡ false
    lacks [] each = refl
    lacks (y ∷ ys) each = rw (each zero (omega arith), lacks ys (λ k h. each (suc k) (omega arith))) refl

up_to_or_after : (a b : ℕ) → (a ≤ b) ⊎ (b < a)
up_to_or_after a b = grind arith

module _ {nodes : List Node} {e : Engine} {puts : List Put} {capacity : ℕ} (whole : IsWhole nodes e puts capacity) where
  pub same-length : length puts ≡ length e.trail.items
  same-length = sym (length-map puts (λ (p : Put). p.lit)) ∙ (ap length whole.lits ∙ length-map e.trail.items (lit_at nodes))

  pub reasons-length : length e.reasons.items ≡ length puts
  reasons-length = engine_reasons ∙ sym same-length
    where
      engine_reasons : length e.reasons.items ≡ length e.trail.items
      engine_reasons = whole.engine.trail.reasons_all

  pub lit-at : (k : ℕ) → k < length puts → (put_at puts k).lit ≡ lit_at nodes (get_or e.trail.items k 0)
  lit-at k h =
      sym (get_or-map (λ (p : Put). p.lit) puts k no_put no_lit h)
      ∙ (ap (λ (l : List Lit). get_or l k no_lit) whole.lits ∙ get_or-map (lit_at nodes) e.trail.items k 0 no_lit (omega (arith, same-length)))

  pub by-at : (k : ℕ) → k < length puts → (put_at puts k).by ≡ get_or e.reasons.items k None
  by-at k h = sym (get_or-map (λ (p : Put). p.by) puts k no_put None h) ∙ ap (λ (l : List (Option ℕ)). get_or l k None) whole.reasons

  pub codes-take : (n : ℕ) → AreCodes nodes (take n e.trail.items)
  codes-take n c h = whole.codes c (has-take n e.trail.items c h)

  pub all-codes : AllByRecursion (AreCodes nodes) e.clauses
  all-codes = recursion_from_All (AreCodes nodes) e.clauses (λ i d h. subst (λ (c : List ℕ). AreCodes nodes c) (get_or_default e.clauses i [] d h) (λ c b. whole.clauses i c b))

  pub lits-take : (n : ℕ) → lits_of (take n puts) ≡ lits_at nodes (take n e.trail.items)
  lits-take n = sym (take-map (λ (p : Put). p.lit) n puts) ∙ (ap (λ (l : List Lit). take n l) whole.lits ∙ take-map (lit_at nodes) n e.trail.items)

  pub reasons-take : (n : ℕ) → map (λ p. p.by) (take n puts) ≡ take n e.reasons.items
  reasons-take n = sym (take-map (λ (p : Put). p.by) n puts) ∙ ap (λ (l : List (Option ℕ)). take n l) whole.reasons

  pub decisions-take : (n : ℕ) → decisions_of (take n puts) ≡ lits_at nodes (decisions (take n e.trail.items) (take n e.reasons.items))
  decisions-take n = decisions-puts nodes (take n puts) (take n e.trail.items) (take n e.reasons.items) (lits-take n) (reasons-take n)

  pub codes-decided : (n : ℕ) → AreCodes nodes (decisions (take n e.trail.items) (take n e.reasons.items))
  codes-decided n c h = codes-take n c (decisions-in (take n e.trail.items) (take n e.reasons.items) c h)

  -- the puts up to a level below the last
  pub up_to-take : (level : ℕ) → level < length e.levels.items → up_to level puts ≡ take (level_at e.levels.items level).start puts
  up_to-take level h = filter-first (λ p. nat_le p.level level) puts (level_at e.levels.items level).start
      (λ k a b. le-test (put_at puts k).level level (elim (up_to_or_after (put_at puts k).level level) [ inl f ↦ f | inr f ↦ let s = whole.starts k level a f in absurd (omega arith) ]))
      (λ k a b. above (put_at puts k).level level (whole.started k level a h b))
    where
      above : (a b : ℕ) → b < a → nat_le a b ≡ false
      above a b h = grind (arith, nat_tests)

  pub up_to-all : (level : ℕ) → length e.levels.items ≤ level → up_to level puts ≡ puts
  up_to-all level h = filter-first (λ p. nat_le p.level level) puts (length puts)
      (λ k a b. le-test (put_at puts k).level level (let m = whole.most k a in omega arith)) (λ k a b. absurd (omega arith)) ∙ take_all (length puts) puts (omega arith)

  start-most : (level : ℕ) → level < length e.levels.items → (level_at e.levels.items level).start ≤ length e.trail.items
  start-most level h = starts-most whole.engine.trail level no_level h

  -- where clauses ask for nothing the literals are the closure
  pub complete-at : (n : ℕ) → n ≤ length e.trail.items → ((i : ℕ) → i < length e.clauses → AsksNothing (take n e.trail.items) (codes_at e.clauses i))
      → IsComplete (clauses_at nodes e.clauses) (take n puts)
  complete-at n most settled = rw (lits-take n, decisions-take n)
      (closure-up nodes whole.once e.clauses (decisions (take n e.trail.items) (take n e.reasons.items)) (take n e.trail.items) (codes-take n) all-codes (codes-decided n)
      (settled-closure whole.engine.trail n most settled))

  pub whole-complete : (level : ℕ) → level < length e.levels.items → IsComplete (clauses_at nodes e.clauses) (up_to level puts)
  whole-complete level h = subst (λ (ps : List Put). IsComplete (clauses_at nodes e.clauses) ps) (sym (up_to-take level h))
      (complete-at (level_at e.levels.items level).start (start-most level h) (λ i a. whole.engine.settled i a level no_level h))

  ground : (k : ℕ) (by : Option ℕ) → IsJustified e.clauses (take k e.trail.items) (get_or e.trail.items k 0) by
      → IsGround (clauses_at nodes e.clauses) (take k puts) (lit_at nodes (get_or e.trail.items k 0)) by
  ground k None j = tt
  ground k (Some b) j = (
    omega (arith, j.0, length-map e.clauses (map (lit_at nodes))),
    subst (λ (c : List Lit). has same_lit c (lit_at nodes (get_or e.trail.items k 0)) ≡ true) (sym (clause-at nodes e.clauses b)) (has-lits nodes (codes_at e.clauses b) (get_or e.trail.items k 0) j.1),
    subst (λ (c : List Lit). forces same_lit opposite (has same_lit (lits_of (take k puts))) c (lit_at nodes (get_or e.trail.items k 0)) ≡ true) (sym (clause-at nodes e.clauses b))
        (subst (λ (s : List Lit). forces same_lit opposite (has same_lit s) (lits_at nodes (codes_at e.clauses b)) (lit_at nodes (get_or e.trail.items k 0)) ≡ true) (sym (lits-take k))
        (forces-same nodes whole.once (take k e.trail.items) (codes_at e.clauses b) (get_or e.trail.items k 0) j.2)),
  )

  levels_below : (j k : ℕ) → j ≤ k → k < length puts → (put_at puts j).level ≤ (put_at puts k).level
  levels_below j k a b = elim (up_to_or_after (put_at puts j).level (put_at puts k).level) [
    | inl f ↦ f
    | inr f ↦
        let m = whole.most j (omega arith) in
        let s = whole.starts j (put_at puts k).level (omega arith) f in
        let t = whole.started k (put_at puts k).level b (omega arith) (omega arith) in absurd (omega arith)
  ]

  begins : (i : ℕ) → i < length e.levels.items → Begins puts (i + 1)
  begins i h =
      let s = (level_at e.levels.items i).start in
      let b : s < length puts = omega (arith, whole.engine.trail.levels_are.within i no_level h, reasons-length) in
      let low = whole.started s i b h (omega arith) in
      let top = whole.most s b in
      record {
        place = s;
        within = b;
        at = elim (up_to_or_after (put_at puts s).level (i + 1)) [
          | inl f ↦ omega arith
          | inr f ↦
              let g = whole.starts s (i + 1) b f in
              let r = whole.engine.trail.levels_are.rising i (i + 1) (omega arith) (omega arith) in absurd (omega arith)
        ];
        decided = by-at s b ∙ whole.engine.trail.levels_are.decided i no_level h;
      }

  pub whole-trail : IsTrail (state_of nodes e puts)
  whole-trail = record {
    once = whole.once;
    clauses_over = λ i l h.
        let w = code-of nodes (codes_at e.clauses i) l (subst (λ (c : List Lit). has same_lit c l ≡ true) (clause-at nodes e.clauses i) h) in
        subst (λ (z : Lit). has same_node nodes z.node ≡ true) w.2 (lit_at-over nodes w.0 (whole.clauses i w.0 w.1));
    puts_over = λ l h.
        let w = code-of nodes e.trail.items l (subst (λ (c : List Lit). has same_lit c l ≡ true) whole.lits h) in
        subst (λ (z : Lit). has same_node nodes z.node ≡ true) w.2 (lit_at-over nodes w.0 (whole.codes w.0 w.1));
    single = subst (λ (c : List Lit). no_repeat same_lit c ≡ true) (sym whole.lits) (no_repeat-apart (lits_at nodes e.trail.items) apart);
    consistent = record {
      apart = λ l h. subst (λ (c : List Lit). has same_lit c (opposite l) ≡ false) (sym whole.lits)
          (let w = code-of nodes e.trail.items l (subst (λ (c : List Lit). has same_lit c l ≡ true) whole.lits h) in
          subst (λ (z : Lit). has same_lit (lits_at nodes e.trail.items) (opposite z) ≡ false) w.2
          (ap (has same_lit (lits_at nodes e.trail.items)) (sym (lit_at-flip nodes w.0))
          ∙ (has-same nodes e.trail.items (flip w.0) whole.once whole.codes (flip-code nodes w.0 (whole.codes w.0 w.1)) ∙ whole.engine.trail.apart w.0 w.1)));
    };
    rising = levels_below;
    most = whole.most;
    begun = λ level a b. subst (λ (n : ℕ). Begins puts n) (let f : level - 1 + 1 ≡ level = omega arith in f) (begins (level - 1) (omega arith));
    led = λ k h f.
        let w = whole.engine.trail.levels_are.start_of k (omega (arith, reasons-length)) (sym (by-at k h) ∙ f) in
        let low = whole.started k w.0 h w.1 (let z = w.2 in omega arith) in (
          omega arith,
          λ j b. elim (up_to_or_after (put_at puts j).level w.0) [
            | inl g ↦ omega arith
            | inr g ↦ let s = whole.starts j w.0 (omega arith) g in let z = w.2 in absurd (omega arith)
          ],
        );
    grounds = λ k h. rw (lit-at k h, by-at k h) (ground k (get_or e.reasons.items k None) (whole.engine.trail.justified k (omega (arith, same-length))));
    complete = whole-complete;
  }
    where
      apart : (i j : ℕ) → i < j → j < length (lits_at nodes e.trail.items) → same_lit (get_or (lits_at nodes e.trail.items) i no_lit) (get_or (lits_at nodes e.trail.items) j no_lit) ≡ false
      apart i j a b =
          let c : j < length e.trail.items = omega (arith, length-map e.trail.items (lit_at nodes)) in
          let differs = apart_from_distinct nat_eq e.trail.items i j 0 whole.engine.trail.distinct a c in
          rw (get_or-map (lit_at nodes) e.trail.items i 0 no_lit (omega arith), get_or-map (lit_at nodes) e.trail.items j 0 no_lit c)
          (either (same_lit (lit_at nodes (get_or e.trail.items i 0)) (lit_at nodes (get_or e.trail.items j 0))) refl
          (λ f. contrary _ (subst (λ (z : ℕ). nat_eq (get_or e.trail.items i 0) z ≡ true)
          (lit_at-exact nodes (get_or e.trail.items i 0) (get_or e.trail.items j 0) whole.once (whole.codes _ (has-at e.trail.items i (omega arith))) (whole.codes _ (has-at e.trail.items j c)) (lit_laws.exact _ _ f))
          (is_literal-flip.equivalence.refl _)) differs))
        where
          either : (b : Bool) → same_lit (lit_at nodes (get_or e.trail.items i 0)) (lit_at nodes (get_or e.trail.items j 0)) ≡ b → (b ≡ true → b ≡ false) → b ≡ false
          either true f g = g refl
          either false f g = refl
