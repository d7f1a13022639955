-- What each call makes of the puts.
use Rattle.std.proofs.Common.{◌≡◌, ℕ, zero, suc, ◌+◌, ◌*◌, ◌<◌, ◌≤◌, ◌^◌, Bool, true, false, not, List, [], ◌∷◌, ◌++◌, length, map, take, drop, refl, sym, ap, ◌∙◌, subst, arith, get_or, nat_eq, inl, inr, Option, Some, None}
use Rattle.std.specs.Prelude.{is_none, min, IfNone, IfSome}
use Rattle.std.specs.List.{list_any, AllByRecursion, All}
use Rattle.std.proofs.lemmas.List.{get_or-map, length-map, map-append, get_or-take, length-take, length-take-le, length-append, length_push, take_all, take-append-drop, same_lists, get_or_past, get_or_default, get_or_append_left, get_or_push, get_or-drop, length-drop}
use Rattle.std.proofs.lemmas.List.Elements.{All-from_recursion}
use Rattle.std.proofs.lemmas.Map.Steps.{length-le_from_distinct_below}
use Rattle.std.proofs.lemmas.Bool.Decides.{nat_tests}
use Rattle.std.proofs.lemmas.Bool.{or_cases, or_left, or_right, and_parts, not-true, or_parts, cases_lt}
use Rattle.lits.specs.Clause.{has, no_repeat}
use Rattle.lits.specs.Same.{same_lit, same_node, opposite}
use Rattle.lits.specs.declared.node.Node.{Node}
use Rattle.lits.specs.declared.literal.Lit.{Lit}
use Rattle.lits.proofs.Facts.{exact-node, same-node_self}
use Rattle.unit_prop.specs.Closure.{forces, is_negated, Clashes, IsClosure, ClosureClashes}
use Rattle.unit_prop.specs.Propagation.{IsSettled}
use Rattle.unit_prop.proofs.Facts.{contrary}
use Rattle.flat_base.specs.Codes.{lit_at, IsCode}
use Rattle.watch_lists.specs.Codes.{flip}
use Rattle.watch_lists.specs.State.{AsksNothing, codes_at, level_at, no_level, decisions, IsJustified, IsEngine, IsStuck, Stays}
use Rattle.watch_lists.specs.Step.{IsSame, IsEmpty, IsGrown, IsAdded, IsDecided, IsCut}
use Rattle.watch_lists.specs.Trail.{put_at, no_put, clause_at, lits_of, decisions_of, up_to, IsComplete, IsConflict, IsQuiet, IsForced, Propagates, back_to}
use Rattle.watch_lists.specs.Whole.{IsWhole, IsTold, IsNumbered, state_of}
use Rattle.watch_lists.specs.declared.put.Put.{Put}
use Rattle.watch_lists.specs.declared.engine.Engine.{Engine}
use Rattle.watch_lists.specs.declared.engine.Level.{Level}
use Rattle.watch_lists.proofs.FlipLemmas.{same_exact, is_literal-flip}
use Rattle.watch_lists.proofs.Facts.{lit_at-more, code-more, has-at}
use Rattle.watch_lists.proofs.TransferLemmas.{lits_at, clauses_at, AreCodes, negated-same, settled-down, closure-up, closure_clashes-up}
use Rattle.watch_lists.proofs.TrailLemmas.{has-symm}
use Rattle.watch_lists.proofs.LevelLemmas.{place_of}
use Rattle.watch_lists.proofs.WatchLemmas.{decide}
use Rattle.watch_lists.proofs.GrowLemmas.{engine-empty, engine-grown}
use Rattle.watch_lists.proofs.TurnLemmas.{engine-same}
use Rattle.watch_lists.proofs.WholeLemmas.{clause-at, same-length, reasons-length, lit-at, by-at, codes-take, all-codes, lits-take, reasons-take, decisions-take, codes-decided, up_to-take, up_to-all}

pub whole-empty : (nodes : List Node) (e : Engine) (puts : List Put) (capacity : ℕ) → nodes ≡ [] → IsEmpty e → puts ≡ [] → IsWhole nodes e puts capacity
whole-empty nodes e puts capacity no_nodes is no_puts = rw (no_nodes, no_puts) (record {
  engine = engine-empty e is;
  once = refl;
  size = omega arith;
  room = omega (arith, ap length is.truth);
  clauses = λ i c h. contrary _ (subst (λ (cs : List (List ℕ)). has nat_eq (codes_at cs i) c ≡ true) is.clauses h) refl;
  codes = λ c h. contrary _ (subst (λ (cs : List ℕ). has nat_eq cs c ≡ true) is.trail h) refl;
  lits = rw is.trail refl;
  reasons = rw is.reasons refl;
  started = λ k i a b. absurd (omega arith);
  starts = λ k i a b. absurd (omega arith);
  most = λ k a. absurd (omega arith);
})

-- all literals of codes stay where variables come after
pub lits-more : (nodes more : List Node) (codes : List ℕ) → AreCodes nodes codes → lits_at (nodes ++ more) codes ≡ lits_at nodes codes
lits-more nodes more [] are = refl
lits-more nodes more (x ∷ xs) are =
    rw (lit_at-more nodes more x (are x (or_left _ _ (is_literal-flip.equivalence.refl x))), lits-more nodes more xs (λ c h. are c (or_right (nat_eq x c) _ h))) refl

pub clauses-more : (nodes more : List Node) (clauses : List (List ℕ)) → AllByRecursion (AreCodes nodes) clauses → clauses_at (nodes ++ more) clauses ≡ clauses_at nodes clauses
clauses-more nodes more [] are = refl
clauses-more nodes more (c ∷ cs) are = rw (lits-more nodes more c are.0, clauses-more nodes more cs are.1) refl

once-push : (nodes : List Node) (node : Node) → no_repeat same_node nodes ≡ true → has same_node nodes node ≡ false → no_repeat same_node (nodes ++ node ∷ []) ≡ true
once-push [] node once fresh = refl
once-push (n ∷ ns) node once fresh =
    let parts = and_parts (not (has same_node ns n)) (no_repeat same_node ns) once in
    let both_apart = or_parts (same_node n node) (has same_node ns node) fresh in
    rw (once-push ns node parts.1 both_apart.1, lacks ns n node (not-true (has same_node ns n) parts.0) both_apart.0) refl
  where
    same_symm : (x y : Node) → same_node x y ≡ false → same_node y x ≡ false
    same_symm x y h = go (same_node y x) refl
      where
        go : (b : Bool) → same_node y x ≡ b → same_node y x ≡ false
        go false e = e
        go true e = contrary _ (subst (λ (z : Node). same_node z y ≡ true) (exact-node y x e) (same-node_self y)) h

    lacks : (ms : List Node) (n node : Node) → has same_node ms n ≡ false → same_node n node ≡ false → has same_node (ms ++ node ∷ []) n ≡ false
    lacks [] n node a b = rw (same_symm n node b) refl
    lacks (m ∷ ms) n node a b = let parts = or_parts (same_node m n) (has same_node ms n) a in rw (parts.0, lacks ms n node parts.1 b) refl

module _ {nodes : List Node} {e : Engine} {puts : List Put} {capacity : ℕ} (whole : IsWhole nodes e puts capacity) where
  pub whole-numbered : (node : Node) → has same_node nodes node ≡ false → 2 * length nodes + 2 ≤ length e.truth.items → IsWhole (nodes ++ node ∷ []) e puts capacity
  whole-numbered node fresh room = record {
    engine = whole.engine;
    once = once-push nodes node whole.once fresh;
    size = omega (arith, length_push nodes node);
    room = whole.room;
    clauses = λ i c h. code-more nodes (node ∷ []) c (whole.clauses i c h);
    codes = λ c h. code-more nodes (node ∷ []) c (whole.codes c h);
    lits = whole.lits ∙ sym (lits-more nodes (node ∷ []) e.trail.items whole.codes);
    reasons = whole.reasons;
    started = whole.started;
    starts = whole.starts;
    most = whole.most;
  }

  pub state-numbered : (node : Node) → IsNumbered (state_of nodes e puts) node (state_of (nodes ++ node ∷ []) e puts)
  state-numbered node = record { nodes = refl; clauses = clauses-more nodes (node ∷ []) e.clauses (all-codes whole); puts = refl; last = refl }

  pub whole-grown : (new : Engine) (room : ℕ) → IsGrown e new → length e.truth.items + 2 ≤ 2 ^ 32 → length e.truth.items + 2 ≤ room → IsWhole nodes new puts room
  whole-grown new room grown small fits = record {
    engine = engine-grown e new whole.engine grown small;
    once = whole.once;
    size = let s = whole.size in omega (arith, ap length grown.truth, length-append e.truth.items (false ∷ false ∷ []));
    room = omega (arith, ap length grown.truth, length-append e.truth.items (false ∷ false ∷ []));
    clauses = λ i c h. whole.clauses i c (subst (λ (cs : List (List ℕ)). has nat_eq (codes_at cs i) c ≡ true) grown.clauses h);
    codes = λ c h. whole.codes c (subst (λ (cs : List ℕ). has nat_eq cs c ≡ true) grown.trail h);
    lits = rw grown.trail whole.lits;
    reasons = rw grown.reasons whole.reasons;
    started = rw grown.levels whole.started;
    starts = rw grown.levels whole.starts;
    most = rw grown.levels whole.most;
  }

  pub whole-same : (new : Engine) (room : ℕ) → IsSame e new → capacity ≤ room → IsWhole nodes new puts room
  whole-same new room same fits = record {
    engine = engine-same e new whole.engine same;
    once = whole.once;
    size = rw same.truth whole.size;
    room = let r = whole.room in omega (arith, ap length same.truth);
    clauses = λ i c h. whole.clauses i c (subst (λ (cs : List (List ℕ)). has nat_eq (codes_at cs i) c ≡ true) same.clauses h);
    codes = λ c h. whole.codes c (subst (λ (cs : List ℕ). has nat_eq cs c ≡ true) same.trail h);
    lits = rw same.trail whole.lits;
    reasons = rw same.reasons whole.reasons;
    started = rw same.levels whole.started;
    starts = rw same.levels whole.starts;
    most = rw same.levels whole.most;
  }

  pub whole-added : (new : Engine) (codes : List ℕ) → IsEngine new → IsAdded e codes new → AreCodes nodes codes → IsWhole nodes new puts capacity
  whole-added new codes engine added are = record {
    engine = engine;
    once = whole.once;
    size = rw added.truth whole.size;
    room = rw added.truth whole.room;
    clauses = λ i c h. elim (cases_lt i (length e.clauses)) [
      | inl before ↦ whole.clauses i c (subst (λ (z : List ℕ). has nat_eq z c ≡ true) (ap (λ (cs : List (List ℕ)). codes_at cs i) added.clauses ∙ get_or_append_left e.clauses (codes ∷ []) [] i before) h)
      | inr past ↦ elim (decide i (length e.clauses)) [
        | inl last ↦ are c (subst (λ (z : List ℕ). has nat_eq z c ≡ true) (ap (λ (cs : List (List ℕ)). codes_at cs i) added.clauses ∙ get_or_push e.clauses codes [] i (sym last)) h)
        | inr other ↦ contrary _ (subst (λ (z : List ℕ). has nat_eq z c ≡ true) (ap (λ (cs : List (List ℕ)). codes_at cs i) added.clauses ∙ get_or_past (e.clauses ++ codes ∷ []) i [] (omega (arith, length_push e.clauses codes))) h) refl
      ]
    ];
    codes = λ c h. whole.codes c (subst (λ (cs : List ℕ). has nat_eq cs c ≡ true) added.trail h);
    lits = rw added.trail whole.lits;
    reasons = rw added.reasons whole.reasons;
    started = rw added.levels whole.started;
    starts = rw added.levels whole.starts;
    most = rw added.levels whole.most;
  }

  -- what the clause asks of literals it asks of codes
  pub quiet-down : (n : ℕ) (codes : List ℕ) → AreCodes nodes codes → IsQuiet (take n puts) (lits_at nodes codes) → AsksNothing (take n e.trail.items) codes
  quiet-down n codes are quiet =
      let q : (is_negated opposite (has same_lit (lits_at nodes (take n e.trail.items))) (lits_at nodes codes) ≡ false) × IsSettled same_lit opposite (lits_at nodes (take n e.trail.items)) (lits_at nodes codes) =
      subst (λ (s : List Lit). (is_negated opposite (has same_lit s) (lits_at nodes codes) ≡ false) × IsSettled same_lit opposite s (lits_at nodes codes)) (lits-take whole n) quiet in
      (sym (negated-same nodes whole.once (take n e.trail.items) codes (codes-take whole n) are) ∙ q.0, settled-down nodes whole.once (take n e.trail.items) codes (codes-take whole n) are q.1)

  pub settled-all : (codes : List ℕ) → AreCodes nodes codes → ((level : ℕ) → level < length e.levels.items → IsQuiet (up_to level puts) (lits_at nodes codes))
      → All (λ v. AsksNothing (take v.start e.trail.items) codes) e.levels.items
  settled-all codes are quiet k d h =
      subst (λ (v : Level). AsksNothing (take v.start e.trail.items) codes) (sym (get_or_default e.levels.items k d no_level h))
      (quiet-down (level_at e.levels.items k).start codes are (subst (λ (ps : List Put). IsQuiet ps (lits_at nodes codes)) (up_to-take whole k h) (quiet k h)))

  -- literals that are the closure, without a clash: no clause asks for anything
  pub complete-asks : IsComplete (clauses_at nodes e.clauses) puts → (i : ℕ) → i < length e.clauses → AsksNothing e.trail.items (codes_at e.clauses i)
  complete-asks is i h =
      let n = length e.trail.items in
      let all : take n e.trail.items ≡ e.trail.items = take_all n e.trail.items (omega arith) in
      let all_puts : take n puts ≡ puts = take_all n puts (omega (arith, same-length whole)) in
      let q = quiet-down n (codes_at e.clauses i) (λ c b. whole.clauses i c b) (subst (λ (ps : List Put). IsQuiet ps (lits_at nodes (codes_at e.clauses i))) (sym all_puts) (asks (lits_at nodes (codes_at e.clauses i)) (stands e.clauses i h))) in
      subst (λ (s : List ℕ). AsksNothing s (codes_at e.clauses i)) all q
    where
      stands : (cs : List (List ℕ)) (i : ℕ) → i < length cs → (k : ℕ) × (k < length (clauses_at nodes cs)) × (get_or (clauses_at nodes cs) k [] ≡ lits_at nodes (codes_at cs i))
      stands cs i h = (i, omega (arith, length-map cs (map (lit_at nodes))), clause-at nodes cs i)

      not_negated : (cs : List (List Lit)) (k : ℕ) → k < length cs → (list_any (is_negated opposite (has same_lit (lits_of puts))) cs ≡ true → ⊥) → is_negated opposite (has same_lit (lits_of puts)) (get_or cs k []) ≡ false
      not_negated [] k a no_one = absurd (omega arith)
      not_negated (c ∷ cs) zero a no_one = go (is_negated opposite (has same_lit (lits_of puts)) c) refl
        where
          go : (b : Bool) → is_negated opposite (has same_lit (lits_of puts)) c ≡ b → is_negated opposite (has same_lit (lits_of puts)) c ≡ false
          go false f = f
          go true f = absurd (no_one (or_left _ _ f))
      not_negated (c ∷ cs) (suc k) a no_one = not_negated cs k (omega arith) (λ f. no_one (or_right (is_negated opposite (has same_lit (lits_of puts)) c) _ f))

      asks : (c : List Lit) → (k : ℕ) × (k < length (clauses_at nodes e.clauses)) × (get_or (clauses_at nodes e.clauses) k [] ≡ c) → IsQuiet puts c
      asks c w = subst (λ (z : List Lit). IsQuiet puts z) w.2 (
        not_negated (clauses_at nodes e.clauses) w.0 w.1 (λ f. is.1 (inl f)),
        All-from_recursion (λ z. (l : Lit) → has same_lit z l ≡ true → forces same_lit opposite (has same_lit (lits_of puts)) z l ≡ true → has same_lit (lits_of puts) l ≡ true)
            (clauses_at nodes e.clauses) is.0.closed.units w.0 [] w.1,
      )

  pub whole-decided : (new : Engine) (code : ℕ) → IsEngine new → IsDecided e code new → IsCode nodes code
      → IsWhole nodes new (puts ++ record { lit = lit_at nodes code; level = length e.levels.items + 1; by = None } ∷ []) capacity
  whole-decided new code engine decided is = record {
    engine = engine;
    once = whole.once;
    size = rw decided.size whole.size;
    room = rw decided.size whole.room;
    clauses = λ i c h. whole.clauses i c (subst (λ (cs : List (List ℕ)). has nat_eq (codes_at cs i) c ≡ true) decided.clauses h);
    codes = λ c h. in_longer c (subst (λ (cs : List ℕ). has nat_eq cs c ≡ true) decided.trail h);
    lits = map-append (λ (p : Put). p.lit) puts _ ∙ (ap (λ (l : List Lit). l ++ lit_at nodes code ∷ []) whole.lits ∙ (sym (map-append (lit_at nodes) e.trail.items (code ∷ [])) ∙ ap (map (lit_at nodes)) (sym decided.trail)));
    reasons = map-append (λ (p : Put). p.by) puts _ ∙ (ap (λ (l : List (Option ℕ)). l ++ None ∷ []) whole.reasons ∙ sym decided.reasons);
    started = λ k i a b c. elim (decide k (length puts)) [
      | inr before ↦
          let k_in : k < length puts = omega (arith, longer) in
          elim (decide i (length e.levels.items)) [
            | inr under ↦ let i_in : i < length e.levels.items = omega (arith, levels_length) in rw (old_put k k_in) (whole.started k i k_in i_in (subst (λ (v : Level). v.start ≤ k) (old_level i i_in) c))
            | inl top ↦ let s : length e.trail.items ≤ k = subst (λ (v : Level). v.start ≤ k) (new_level i top) c in absurd (omega (arith, same-length whole))
          ]
      | inl last ↦ rw (get_or_push puts put no_put k (sym last)) (omega (arith, levels_length))
    ];
    starts = λ k i a b. elim (decide k (length puts)) [
      | inr before ↦
          let k_in : k < length puts = omega (arith, longer) in
          let c : i < (put_at puts k).level = rw (old_put k k_in) at b in
          let m = whole.most k k_in in
          rw (old_level i (omega arith)) (whole.starts k i k_in c)
      | inl last ↦
          let c : i < length e.levels.items + 1 = rw (get_or_push puts put no_put k (sym last)) at b in
          elim (decide i (length e.levels.items)) [
            | inr under ↦ let i_in : i < length e.levels.items = omega arith in
                rw (old_level i i_in) (let w = whole.engine.trail.levels_are.within i no_level i_in in omega (arith, reasons-length whole))
            | inl top ↦ rw (new_level i top) (omega (arith, same-length whole))
          ]
    ];
    most = λ k a. elim (decide k (length puts)) [
      | inr before ↦ let k_in : k < length puts = omega (arith, longer) in rw (old_put k k_in) (let m = whole.most k k_in in omega (arith, levels_length))
      | inl last ↦ rw (get_or_push puts put no_put k (sym last)) (omega (arith, levels_length))
    ];
  }
    where
      put : Put
      put = record { lit = lit_at nodes code; level = length e.levels.items + 1; by = None }

      longer : length (puts ++ put ∷ []) ≡ length puts + 1
      longer = length_push puts put

      levels_length : length new.levels.items ≡ length e.levels.items + 1
      levels_length = ap length decided.levels ∙ length_push e.levels.items (record { start = length e.trail.items; head = e.head })

      old_put : (k : ℕ) → k < length puts → put_at (puts ++ put ∷ []) k ≡ put_at puts k
      old_put k h = get_or_append_left puts (put ∷ []) no_put k h

      old_level : (i : ℕ) → i < length e.levels.items → level_at new.levels.items i ≡ level_at e.levels.items i
      old_level i h = ap (λ (l : List Level). level_at l i) decided.levels ∙ get_or_append_left e.levels.items (record { start = length e.trail.items; head = e.head } ∷ []) no_level i h

      new_level : (i : ℕ) → i ≡ length e.levels.items → level_at new.levels.items i ≡ record { start = length e.trail.items; head = e.head }
      new_level i h = ap (λ (l : List Level). level_at l i) decided.levels ∙ get_or_push e.levels.items (record { start = length e.trail.items; head = e.head }) no_level i (sym h)

      in_longer : (c : ℕ) → has nat_eq (e.trail.items ++ code ∷ []) c ≡ true → IsCode nodes c
      in_longer c h = go e.trail.items whole.codes h
        where
          go : (xs : List ℕ) → ((c : ℕ) → has nat_eq xs c ≡ true → IsCode nodes c) → has nat_eq (xs ++ code ∷ []) c ≡ true → IsCode nodes c
          go [] all b = subst (λ (z : ℕ). IsCode nodes z) (same_exact code c (elim (or_cases (nat_eq code c) false b) [ inl f ↦ f | inr f ↦ contrary _ f refl ])) is
          go (x ∷ xs) all b = elim (or_cases (nat_eq x c) _ b) [
            | inl f ↦ all c (or_left _ _ f)
            | inr f ↦ go xs (λ d g. all d (or_right (nat_eq x d) _ g)) f
          ]

  pub whole-cut : (new : Engine) (count : ℕ) → IsEngine new → IsCut e count (level_at e.levels.items count) new → count < length e.levels.items
      → IsWhole nodes new (take (level_at e.levels.items count).start puts) capacity
  whole-cut new count engine cut h = record {
    engine = engine;
    once = whole.once;
    size = rw cut.size whole.size;
    room = rw cut.size whole.room;
    clauses = λ i c b. whole.clauses i c (subst (λ (cs : List (List ℕ)). has nat_eq (codes_at cs i) c ≡ true) cut.clauses b);
    codes = λ c b. codes-take whole (level_at e.levels.items count).start c (subst (λ (cs : List ℕ). has nat_eq cs c ≡ true) cut.trail b);
    lits = lits-take whole (level_at e.levels.items count).start ∙ ap (map (lit_at nodes)) (sym cut.trail);
    reasons = reasons-take whole (level_at e.levels.items count).start ∙ sym cut.reasons;
    started = λ k i a b c.
        let k_in = inside k a in
        let i_in : i < count = omega (arith, levels_length) in
        rw (get_or-take (level_at e.levels.items count).start puts k no_put k_in.0) (whole.started k i k_in.1 (omega arith) (subst (λ (v : Level). v.start ≤ k) (old_level i i_in) c));
    starts = λ k i a b.
        let k_in = inside k a in
        let c : i < (put_at puts k).level = rw (get_or-take (level_at e.levels.items count).start puts k no_put k_in.0) at b in
        let l = lower k k_in.0 k_in.1 in
        rw (old_level i (omega arith)) (whole.starts k i k_in.1 c);
    most = λ k a.
        let k_in = inside k a in
        rw (get_or-take (level_at e.levels.items count).start puts k no_put k_in.0) (let l = lower k k_in.0 k_in.1 in omega (arith, levels_length));
  }
    where
      levels_length : length new.levels.items ≡ count
      levels_length = ap length cut.levels ∙ length-take-le count e.levels.items (omega arith)

      old_level : (i : ℕ) → i < count → level_at new.levels.items i ≡ level_at e.levels.items i
      old_level i b = ap (λ (l : List Level). level_at l i) cut.levels ∙ get_or-take count e.levels.items i no_level b

      inside : (k : ℕ) → k < length (take (level_at e.levels.items count).start puts) → (k < (level_at e.levels.items count).start) × (k < length puts)
      inside k a = (omega (arith, length-take (level_at e.levels.items count).start puts), omega (arith, length-take (level_at e.levels.items count).start puts))

      lower : (k : ℕ) → k < (level_at e.levels.items count).start → k < length puts → (put_at puts k).level ≤ count
      lower k a b = elim (cases_lt count (put_at puts k).level) [
        | inl f ↦ let s = whole.starts k count b f in absurd (omega arith)
        | inr f ↦ f
      ]

  pub state-cut : (new : Engine) (count : ℕ) → IsCut e count (level_at e.levels.items count) new → count < length e.levels.items
      → state_of nodes new (take (level_at e.levels.items count).start puts) ≡ back_to count (state_of nodes e puts)
  state-cut new count cut h =
      let least : min count (length e.levels.items) ≡ count = grind (arith, nat_tests) in
      rw (cut.clauses, cut.levels, length-take-le count e.levels.items (omega arith), least, up_to-take whole count h) refl

  pub state-kept : (count : ℕ) → length e.levels.items ≤ count → state_of nodes e puts ≡ back_to count (state_of nodes e puts)
  state-kept count h =
      let least : min count (length e.levels.items) ≡ length e.levels.items = grind (arith, nat_tests) in
      rw (up_to-all whole count h, least) refl

  -- there is a put of each literal alone
  pub puts-few : length puts ≤ 2 * length nodes
  puts-few = omega (arith, same-length whole, length-le_from_distinct_below e.trail.items (2 * length nodes) whole.engine.trail.distinct (λ q h. whole.codes q (sym (has-symm e.trail.items q) ∙ h)))

  module _ (new : Engine) (engine : IsEngine new) (stays : Stays e new) where
    reasons_all : length new.reasons.items ≡ length new.trail.items
    reasons_all = engine.trail.reasons_all

    longer : length e.trail.items ≤ length new.trail.items
    longer = omega (arith, length-take (length e.trail.items) new.trail.items, ap length stays.grows.trail)

    old_reasons : length e.reasons.items ≡ length e.trail.items
    old_reasons = whole.engine.trail.reasons_all

    -- what is put is of a clause
    pub stays-code : (k : ℕ) → k < length new.trail.items → IsCode nodes (get_or new.trail.items k 0)
    stays-code k h = elim (cases_lt k (length e.trail.items)) [
      | inl before ↦ subst (λ (z : ℕ). IsCode nodes z) (sym (ap (λ (l : List ℕ). get_or l k 0) stays.grows.trail) ∙ get_or-take (length e.trail.items) new.trail.items k 0 before)
          (whole.codes (get_or e.trail.items k 0) (has-at e.trail.items k before))
      | inr past ↦ go (get_or new.reasons.items k None) (stays.grows.forced k (omega (arith, old_reasons)) (omega (arith, reasons_all))) (engine.trail.justified k h)
    ]
      where
        go : (by : Option ℕ) → is_none by ≡ false → IsJustified new.clauses (take k new.trail.items) (get_or new.trail.items k 0) by → IsCode nodes (get_or new.trail.items k 0)
        go None f j = cc
        go (Some b) f j = whole.clauses b _ (subst (λ (cs : List (List ℕ)). has nat_eq (codes_at cs b) (get_or new.trail.items k 0) ≡ true) stays.clauses j.1)

    pub stays-codes : (d : ℕ) (k : ℕ) → k < length new.trail.items → IsCode nodes (get_or new.trail.items k d)
    stays-codes d k h = subst (λ (z : ℕ). IsCode nodes z) (sym (get_or_default new.trail.items k d 0 h)) (stays-code k h)

    module _ (puts1 : List Put) (told : IsTold nodes new puts puts1) where
      old_put : (k : ℕ) → k < length puts → put_at puts1 k ≡ put_at puts k
      old_put k h = sym (get_or-take (length puts) puts1 k no_put h) ∙ ap (λ (l : List Put). get_or l k no_put) told.kept

      lit_new : (k : ℕ) → k < length puts1 → (put_at puts1 k).lit ≡ lit_at nodes (get_or new.trail.items k 0)
      lit_new k h = elim (cases_lt k (length puts)) [
        | inl before ↦ ap (λ (p : Put). p.lit) (old_put k before) ∙ (lit-at whole k before ∙ ap (lit_at nodes) (sym (ap (λ (l : List ℕ). get_or l k 0) stays.grows.trail) ∙ get_or-take (length e.trail.items) new.trail.items k 0 (omega (arith, same-length whole))))
        | inr past ↦ ap (λ (p : Put). p.lit) (told.told k past (omega (arith, told.size)))
      ]

      by_new : (k : ℕ) → k < length puts1 → (put_at puts1 k).by ≡ get_or new.reasons.items k None
      by_new k h = elim (cases_lt k (length puts)) [
        | inl before ↦ ap (λ (p : Put). p.by) (old_put k before) ∙ (by-at whole k before ∙ (sym (ap (λ (l : List (Option ℕ)). get_or l k None) stays.grows.reasons) ∙ get_or-take (length e.reasons.items) new.reasons.items k None (omega (arith, reasons-length whole))))
        | inr past ↦ ap (λ (p : Put). p.by) (told.told k past (omega (arith, told.size)))
      ]

      pub whole-told : (room : ℕ) → room ≡ capacity → IsWhole nodes new puts1 room
      whole-told room same = record {
        engine = engine;
        once = whole.once;
        size = rw stays.size whole.size;
        room = rw (stays.size, same) whole.room;
        clauses = λ i c h. whole.clauses i c (subst (λ (cs : List (List ℕ)). has nat_eq (codes_at cs i) c ≡ true) stays.clauses h);
        codes = λ c h. let w = place_of new.trail.items c h in subst (λ (z : ℕ). IsCode nodes z) w.is (stays-code w.place w.below);
        lits = same_lists _ _ (omega (arith, length-map puts1 (λ (p : Put). p.lit), length-map new.trail.items (lit_at nodes), told.size))
            (λ k d h. let b : k < length puts1 = omega (arith, length-map puts1 (λ (p : Put). p.lit)) in
            get_or-map (λ (p : Put). p.lit) puts1 k no_put d b ∙ (lit_new k b ∙ sym (get_or-map (lit_at nodes) new.trail.items k 0 d (omega (arith, told.size)))));
        reasons = same_lists _ _ (omega (arith, length-map puts1 (λ (p : Put). p.by), told.size, reasons_all))
            (λ k d h. let b : k < length puts1 = omega (arith, length-map puts1 (λ (p : Put). p.by)) in
            get_or-map (λ (p : Put). p.by) puts1 k no_put d b ∙ (by_new k b ∙ get_or_default new.reasons.items k None d (omega (arith, told.size, reasons_all))));
        started = λ k i a b c. elim (cases_lt k (length puts)) [
          | inl before ↦ rw (old_put k before) (whole.started k i before (omega (arith, ap length stays.levels)) (subst (λ (l : List Level). (level_at l i).start ≤ k) stays.levels c))
          | inr past ↦ rw (told.told k past (omega (arith, told.size))) b
        ];
        starts = λ k i a b. elim (cases_lt k (length puts)) [
          | inl before ↦ let c : i < (put_at puts k).level = rw (old_put k before) at b in rw stays.levels (whole.starts k i before c)
          | inr past ↦
              let c : i < length new.levels.items = rw (told.told k past (omega (arith, told.size))) at b in
              let i_in : i < length e.levels.items = omega (arith, ap length stays.levels) in
              rw stays.levels (let w = whole.engine.trail.levels_are.within i no_level i_in in omega (arith, reasons-length whole))
        ];
        most = λ k a. elim (cases_lt k (length puts)) [
          | inl before ↦ rw (old_put k before, stays.levels) (whole.most k before)
          | inr past ↦ rw (told.told k past (omega (arith, told.size))) (omega arith)
        ];
      }

      pub told-propagates : Propagates (state_of nodes e puts) (state_of nodes new puts1)
      told-propagates = record {
        nodes = refl;
        clauses = ap (clauses_at nodes) stays.clauses;
        last = ap length stays.levels;
        more = drop (length puts) puts1;
        behind = sym (take-append-drop (length puts) puts1) ∙ ap (λ (l : List Put). l ++ drop (length puts) puts1) told.kept;
        forced = λ k d h.
            let b : length puts + k < length puts1 = omega (arith, length-drop (length puts) puts1) in
            let there : get_or (drop (length puts) puts1) k d ≡ put_at puts1 (length puts + k) = get_or-drop (length puts) puts1 k d ∙ get_or_default puts1 (length puts + k) d no_put b in
            subst (λ (p : Put). IsForced (length e.levels.items) p) (sym there) (record {
              at = ap (λ (p : Put). p.level) (told.told (length puts + k) (omega arith) (omega (arith, told.size))) ∙ ap length stays.levels;
              clause = ap (λ (p : Put). is_none p.by) (told.told (length puts + k) (omega arith) (omega (arith, told.size)))
                  ∙ stays.grows.forced (length puts + k) (omega (arith, reasons-length whole)) (omega (arith, told.size, reasons_all));
            });
      }

-- each of the codes, by place or by test
pub all-are : (nodes : List Node) (codes : List ℕ) → All (IsCode nodes) codes → AreCodes nodes codes
all-are nodes codes all c h = let w = place_of codes c h in subst (λ (z : ℕ). IsCode nodes z) w.is (all w.place 0 w.below)

pub whole-room : {nodes : List Node} {e : Engine} {puts : List Put} {capacity : ℕ} → IsWhole nodes e puts capacity → (puts1 : List Put) (room : ℕ) → puts1 ≡ puts → capacity ≤ room → IsWhole nodes e puts1 room
whole-room {nodes} {e} {puts} whole puts1 room same fits = rw same (record {
  engine = whole.engine;
  once = whole.once;
  size = whole.size;
  room = let r = whole.room in omega arith;
  clauses = whole.clauses;
  codes = whole.codes;
  lits = whole.lits;
  reasons = whole.reasons;
  started = whole.started;
  starts = whole.starts;
  most = whole.most;
})

-- what propagation ended with, over literals
module _ {nodes : List Node} {e : Engine} {puts : List Put} {capacity : ℕ} (whole : IsWhole nodes e puts capacity) where
  all-trail : take (length e.trail.items) e.trail.items ≡ e.trail.items
  all-trail = take_all (length e.trail.items) e.trail.items (omega arith)

  all-reasons : take (length e.trail.items) e.reasons.items ≡ e.reasons.items
  all-reasons = take_all (length e.trail.items) e.reasons.items (omega (arith, whole.engine.trail.reasons_all))

  all-puts : take (length e.trail.items) puts ≡ puts
  all-puts = take_all (length e.trail.items) puts (omega (arith, same-length whole))

  all-decided : decisions_of puts ≡ lits_at nodes (decisions e.trail.items e.reasons.items)
  all-decided =
      ap decisions_of (sym all-puts) ∙ (decisions-take whole (length e.trail.items)
      ∙ (ap (λ (xs : List ℕ). lits_at nodes (decisions xs (take (length e.trail.items) e.reasons.items))) all-trail
      ∙ ap (λ (rs : List (Option ℕ)). lits_at nodes (decisions e.trail.items rs)) all-reasons))

  decided-codes : AreCodes nodes (decisions e.trail.items e.reasons.items)
  decided-codes c h = codes-decided whole (length e.trail.items) c
      (subst (λ (xs : List ℕ). has nat_eq (decisions xs (take (length e.trail.items) e.reasons.items)) c ≡ true) (sym all-trail)
      (subst (λ (rs : List (Option ℕ)). has nat_eq (decisions e.trail.items rs) c ≡ true) (sym all-reasons) h))

  pub ends-none : (r : Option ℕ) → IfNone r (IsClosure nat_eq flip e.clauses (decisions e.trail.items e.reasons.items) e.trail.items × ¬ Clashes flip e.clauses (has nat_eq e.trail.items))
      → IfNone r (IsComplete (clauses_at nodes e.clauses) puts)
  ends-none (Some i) h = tt
  ends-none None h = rw (all-decided, whole.lits) (closure-up nodes whole.once e.clauses (decisions e.trail.items e.reasons.items) e.trail.items whole.codes (all-codes whole) decided-codes h)

  pub ends-some : (r : Option ℕ) → IfSome r (λ i. IsStuck e i)
      → IfSome r (λ i. (i < length (clauses_at nodes e.clauses)) × IsConflict puts (clause_at (clauses_at nodes e.clauses) i))
  ends-some None h = tt
  ends-some (Some i) h = (
    omega (arith, h.1, length-map e.clauses (map (lit_at nodes))),
    subst (λ (c : List Lit). IsConflict puts c) (sym (clause-at nodes e.clauses i))
        (ap (λ (s : List Lit). is_negated opposite (has same_lit s) (lits_at nodes (codes_at e.clauses i))) whole.lits
        ∙ (negated-same nodes whole.once e.trail.items (codes_at e.clauses i) whole.codes (λ c b. whole.clauses i c b) ∙ h.2)),
  )

  pub ends-clash : (r : Option ℕ) → IfSome r (λ _. ClosureClashes nat_eq flip e.clauses (decisions e.trail.items e.reasons.items))
      → IfSome r (λ _. ClosureClashes same_lit opposite (clauses_at nodes e.clauses) (decisions_of puts))
  ends-clash None h = tt
  ends-clash (Some i) h = rw all-decided (closure_clashes-up nodes e.clauses (decisions e.trail.items e.reasons.items) h)
