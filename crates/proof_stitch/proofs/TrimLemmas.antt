-- What is left of lines that derive derives too, with its deletions and new ids.
use Rattle.std.proofs.Common.{◌≡◌, ℕ, zero, suc, ◌+◌, ◌-◌, ◌<◌, ◌≤◌, Bool, true, false, not, ◌&&◌, ◌||◌, eqb, Option, None, Some, Result, Ok, Err, List, [], ◌∷◌, ◌++◌, length, map, if◌then◌else◌, refl, sym, ap, ◌∙◌, subst, arith, length-append, append_assoc, ◌⊎◌, inl, inr}
use Rattle.std.specs.Prelude.{filter, slice_get}
use Rattle.std.specs.List.{AllByRecursion}
use Rattle.std.proofs.lemmas.Bool.{eqb-true, eq-eqb, ne_eqb, cases_eq, cases_lt, or_left, or_right}
use Rattle.std.proofs.lemmas.List.{map-append}
use Rattle.std.proofs.lemmas.List.Folds.{list_any-append}
use Rattle.std.proofs.lemmas.Option.{same_Some}
use Rattle.lits.specs.Dimacs.{DimacsLiteral}
use Rattle.lits.specs.Same.{same_dim, opposite_dim}
use Rattle.lits.proofs.Facts.{all-filter}
use Rattle.unit_prop.specs.declared.why.Why.{Why}
use Rattle.unit_prop.specs.declared.why.BadStep.{BadStep}
use Rattle.unit_prop.specs.Step.{State, start_of, after_found, go_on, fault_from, IsStep}
use Rattle.netlist.proofs.Facts.{slice_get-left, slice_get-right}
use Rattle.lrat_text.specs.declared.step.LratStep.{LratStep}
use Rattle.lrat_text.specs.declared.step.LratStep.TheVariants.{Add, Del}
use Rattle.lrat_text.specs.Writing.{numbered}
use Rattle.lrat_text.specs.Derivation.{Live, formula_live, after_step, DerivesFrom}
use Rattle.proof_stitch.specs.Trimmed.{id_in, has_id, cites, is_cited, reached, last_cited, deletion, with_deletions, new_id, renamed}
use Rattle.proof_stitch.proofs.GrowLemmas.{Formula, Grows, IsFound, live-is, live-range, step-found}
use Rattle.proof_stitch.proofs.RowLemmas.{all-has_id, IsNamed, new_id-less, new_id-same}

-- ---- steps over clauses that bear other names

go_on-same : {L : Type 0} (r : Result (State L) Why) (place : ℕ) (f g : State L → Option BadStep) → ((s : State L) → f s ≡ g s)
    → go_on r place f ≡ go_on r place g
go_on-same (Ok s) place f g same = same s
go_on-same (Err why) place f g same = refl

module _ {N R L : Type 0} (eq : L → L → Bool) (opposite : L → L) (name : N → R) (find : N → Option (List L)) (find' : R → Option (List L)) where
  fault_from-renamed : (place : ℕ) (s : State L) (hints : List N) → AllByRecursion (λ h. find' (name h) ≡ find h) hints
      → fault_from eq opposite find' place s (map name hints) ≡ fault_from eq opposite find place s hints
  fault_from-renamed place s [] same = refl
  fault_from-renamed place s (h ∷ hs) same =
      rw same.0
      (go_on-same (after_found eq opposite s (find h)) place
      (λ t. fault_from eq opposite find' (place + 1) t (map name hs)) (λ t. fault_from eq opposite find (place + 1) t hs)
      (λ t. fault_from-renamed (place + 1) t hs same.1))

  -- a step is one where its hints bear other names
  pub is_step-renamed : (clause : List L) (hints : List N) → AllByRecursion (λ h. find' (name h) ≡ find h) hints
      → IsStep eq opposite find clause hints → IsStep eq opposite find' clause (map name hints)
  is_step-renamed clause hints same step = rw (fault_from-renamed 1 (start_of eq opposite clause) hints same) step

-- ---- what is live in a formula with a clause more

live-before : (formula : Formula) (clause : List DimacsLiteral) (n : ℕ) → n ≤ length formula
    → formula_live (formula ++ clause ∷ []) n ≡ formula_live formula n
live-before formula clause zero le = refl
live-before formula clause (suc n) le =
    live-is (formula ++ clause ∷ []) (suc n) (omega arith)
    ∙ slice_get-left formula (clause ∷ []) (suc n - 1) (omega arith)
    ∙ sym (live-is formula (suc n) (omega arith))

live-last : (formula : Formula) (clause : List DimacsLiteral) → formula_live (formula ++ clause ∷ []) (length formula + 1) ≡ Some clause
live-last formula clause =
    let at : length formula + 1 - 1 ≡ length formula + 0 = omega arith in
    live-is (formula ++ clause ∷ []) (length formula + 1) (omega arith)
    ∙ ap (slice_get (formula ++ clause ∷ [])) at
    ∙ slice_get-right formula (clause ∷ []) 0

-- a clause that is live is an earlier one or the last one
live-cases : (formula : Formula) (clause : List DimacsLiteral) (n : ℕ) (c : List DimacsLiteral)
    → formula_live (formula ++ clause ∷ []) n ≡ Some c
    → ((n ≤ length formula) × (formula_live formula n ≡ Some c)) ⊎ ((n ≡ length formula + 1) × (clause ≡ c))
live-cases formula clause n c e =
    elim (cases_lt (length formula) n) [
      | inl past ↦
          let range = live-range (formula ++ clause ∷ []) n c e in
          let is : n ≡ length formula + 1 = omega (arith, past, range.1, length-append formula (clause ∷ [])) in
          inr (is, same_Some clause c (sym (live-last formula clause) ∙ ap (formula_live (formula ++ clause ∷ [])) (sym is) ∙ e))
      | inr le ↦ inl (le, sym (live-before formula clause n le) ∙ e)
    ]

-- ---- ids that are deleted

has_id-filter : (test : ℕ → Bool) (ids : List ℕ) (n : ℕ) → test n ≡ false → has_id (filter test ids) n ≡ false
has_id-filter test [] n fails = refl
has_id-filter test (i ∷ is) n fails = go (test i) refl (has_id-filter test is n fails)
  where
    go : (b : Bool) → test i ≡ b → has_id (filter test is) n ≡ false → has_id (filter test (i ∷ is)) n ≡ false
    go false e rest = rw e rest
    go true e rest =
        let other : eqb i n ≡ false = ne_eqb i n (λ (same : i ≡ n). let f : true ≡ false = sym e ∙ ap test same ∙ fails in cc) in
        rw (e, other) rest

has_id-map : (f : ℕ → ℕ) (ids : List ℕ) (n : ℕ) → AllByRecursion (λ i. f i ≡ f n → i ≡ n) ids → has_id ids n ≡ false
    → has_id (map f ids) (f n) ≡ false
has_id-map f [] n one none = refl
has_id-map f (i ∷ is) n one none = go (eqb i n) refl (has_id-map f is n one.1)
  where
    go : (b : Bool) → eqb i n ≡ b → (has_id is n ≡ false → has_id (map f is) (f n) ≡ false) → has_id (map f (i ∷ is)) (f n) ≡ false
    go true e rest = let g : true ≡ false = rw e at none in cc
    go false e rest =
        let other : eqb (f i) (f n) ≡ false =
        ne_eqb (f i) (f n) (λ (same : f i ≡ f n). let g : true ≡ false = sym (eq-eqb i n (one.0 same)) ∙ e in cc) in
        rw other (rest (rw e at none))

has_id-append : (xs ys : List LratStep) (n : ℕ) → has_id (map id_in (xs ++ ys)) n ≡ (has_id (map id_in xs) n || has_id (map id_in ys) n)
has_id-append xs ys n =
    ap (λ (l : List ℕ). has_id l n) (map-append id_in xs ys) ∙ list_any-append (λ id. eqb id n) (map id_in xs) (map id_in ys)

-- ---- the proof, line by line

module _ (m : ℕ) (asked : ℕ → Bool) (kept : List LratStep) where
  abbrev name : ℕ → ℕ
  name = new_id m kept

  -- the clause is asked for, or one of the lines that are left cites it
  abbrev pub IsWanted : List LratStep → ℕ → Type 0
  IsWanted left n = (asked n || is_cited left n) ≡ true

  -- where a proof stands behind some lines: the formula with their clauses, those that stay of them, those that stay of the
  -- others, and what is live by new ids
  pub record IsTrimmed (formula : Formula) (done left : List LratStep) (live : Live) : Type 0 where
    pub parts : kept ≡ done ++ left
    pub within : m ≤ length formula
    pub known : (n : ℕ) → IsWanted left n → n ≤ length formula → IsNamed m done n
    pub low : (n : ℕ) → has_id (map id_in done) n ≡ true → (m < n) × (n ≤ length formula)
    pub lives : (n : ℕ) (c : List DimacsLiteral) → IsWanted left n → formula_live formula n ≡ Some c → live (name n) ≡ Some c

  -- a line that isn't reached leaves nothing
  trim-skip : (formula : Formula) (done left : List LratStep) (live : Live) (clause : List DimacsLiteral)
      → (asked (length formula + 1) || is_cited left (length formula + 1)) ≡ false
      → IsTrimmed formula done left live → IsTrimmed (formula ++ clause ∷ []) done left live
  trim-skip formula done left live clause unwanted t = record {
    parts = t.parts;
    within = omega (arith, t.within, length-append formula (clause ∷ []));
    known = λ n w le. elim (cases_eq n (length formula + 1)) [
      | inl e ↦ absurd (wanted-not n w e)
      | inr ne ↦ t.known n w (omega (arith, le, ne, length-append formula (clause ∷ [])))
    ];
    low = λ n h. let l = t.low n h in (l.0, omega (arith, l.1, length-append formula (clause ∷ [])));
    lives = λ n c w e. elim (live-cases formula clause n c e) [
      | inl old ↦ t.lives n c w old.1
      | inr new ↦ absurd (wanted-not n w new.0)
    ];
  }
    where
      wanted-not : (n : ℕ) → IsWanted left n → n ≡ length formula + 1 → ⊥
      wanted-not n w e =
          let f : true ≡ false = sym w ∙ ap (λ (k : ℕ). asked k || is_cited left k) e ∙ unwanted in cc

  -- what was wanted behind a line was wanted before it
  wanted-more : (line : LratStep) (left : List LratStep) (n : ℕ) → IsWanted left n → IsWanted (line ∷ left) n
  wanted-more line left n w = go (asked n) refl
    where
      go : (b : Bool) → asked n ≡ b → IsWanted (line ∷ left) n
      go true e = rw e refl
      go false e = rw e (or_right (cites line n) (is_cited left n) (rw e at w))

  -- and so is what the line cites
  wanted-cited : (line : LratStep) (left : List LratStep) (n : ℕ) → cites line n ≡ true → IsWanted (line ∷ left) n
  wanted-cited line left n h =
      or_right (asked n) (is_cited (line ∷ left) n) (or_left (cites line n) (is_cited left n) h)

  -- ids of some of the lines that stay
  named-more : (done left : List LratStep) → kept ≡ done ++ left → (n : ℕ) → IsNamed m done n → IsNamed m kept n
  named-more done left parts n (inl le) = inl le
  named-more done left parts n (inr h) =
      inr (ap (λ (l : List LratStep). has_id (map id_in l) n) parts ∙ has_id-append done left n
      ∙ or_left (has_id (map id_in done) n) (has_id (map id_in left) n) h)

  module _ (formula : Formula) (done left : List LratStep) (live : Live) (id : ℕ) (clause : List DimacsLiteral) (hints : List ℕ)
      (id_is : id ≡ length formula + 1) (t : IsTrimmed formula done (Add id clause hints ∷ left) live) where
    abbrev line : LratStep
    line = Add id clause hints

    -- its hints find what they found, by new ids
    hints-live : AllByRecursion (IsFound (formula_live formula)) hints → AllByRecursion (λ h. live (name h) ≡ formula_live formula h) hints
    hints-live found = go hints found (λ n h. h)
      where
        go : (hs : List ℕ) → AllByRecursion (IsFound (formula_live formula)) hs → ((n : ℕ) → has_id hs n ≡ true → has_id hints n ≡ true)
            → AllByRecursion (λ h. live (name h) ≡ formula_live formula h) hs
        go [] f some = tt
        go (h ∷ hs) f some = (
          t.lives h f.0.clause (wanted-cited line left h (some h (rw (eq-eqb h h refl) refl))) f.0.is ∙ sym f.0.is,
          go hs f.1 (λ n e. some n (or_right (eqb h n) (has_id hs n) e)),
        )

    -- the line's own id
    own-named : IsNamed m (done ++ line ∷ []) id
    own-named = inr (has_id-append done (line ∷ []) id ∙ or_right (has_id (map id_in done) id) (has_id (id ∷ []) id) (rw (eq-eqb id id refl) refl))

    parts' : kept ≡ (done ++ line ∷ []) ++ left
    parts' = t.parts ∙ sym (append_assoc done (line ∷ []) left)

    own-kept : IsNamed m kept id
    own-kept = named-more (done ++ line ∷ []) left parts' id own-named

    -- what is deleted behind it
    abbrev gone : List ℕ
    gone = last_cited asked done line left

    gone-all : AllByRecursion (λ n. has_id (map id_in done) n ≡ true) gone
    gone-all =
        all-filter (λ n. has_id (map id_in done) n ≡ true) (λ n. cites line n && not (asked n || is_cited left n)) (map id_in done)
        (all-has_id (λ n. has_id (map id_in done) n ≡ true) (map id_in done) (λ n h. h))

    -- nothing that is wanted is deleted
    stays : (n : ℕ) → IsWanted left n → IsNamed m kept n → has_id (map name gone) (name n) ≡ false
    stays n w named =
        has_id-map name gone n one (has_id-filter (λ k. cites line k && not (asked k || is_cited left k)) (map id_in done) n fails)
      where
        fails : (cites line n && not (asked n || is_cited left n)) ≡ false
        fails = go (cites line n)
          where
            go : (b : Bool) → (b && not (asked n || is_cited left n)) ≡ false
            go true = rw w refl
            go false = refl

        all-one : (ids : List ℕ) → AllByRecursion (λ k. has_id (map id_in done) k ≡ true) ids → AllByRecursion (λ k. name k ≡ name n → k ≡ n) ids
        all-one [] all = tt
        all-one (k ∷ ks) all = (
          (λ same. new_id-same m kept k n (named-more done (line ∷ left) t.parts k (inr all.0)) named same),
          all-one ks all.1,
        )

        one : AllByRecursion (λ k. name k ≡ name n → k ≡ n) gone
        one = all-one gone gone-all

    -- a line that is reached, and the deletion behind it
    trim-step : (live' : Live)
        → ((x : ℕ) → live' x ≡ (if has_id (map name gone) x then None else (if eqb x (name id) then Some clause else live x)))
        → IsTrimmed (formula ++ clause ∷ []) (done ++ line ∷ []) left live'
    trim-step live' is = record {
      parts = parts';
      within = omega (arith, t.within, length-append formula (clause ∷ []));
      known = λ n w le. known n w le (cases_eq n id);
      low = λ n h. low n h;
      lives = λ n c w e. lives n c w (live-cases formula clause n c e);
    }
      where
        known : (n : ℕ) → IsWanted left n → n ≤ length (formula ++ clause ∷ []) → ((n ≡ id) ⊎ (n ≡ id → ⊥)) → IsNamed m (done ++ line ∷ []) n
        known n w le (inl e) = subst (IsNamed m (done ++ line ∷ [])) (sym e) own-named
        known n w le (inr ne) = wider (t.known n (wanted-more line left n w) (omega (arith, le, ne, id_is, length-append formula (clause ∷ []))))
          where
            wider : IsNamed m done n → IsNamed m (done ++ line ∷ []) n
            wider (inl low) = inl low
            wider (inr h) = inr (has_id-append done (line ∷ []) n ∙ or_left (has_id (map id_in done) n) (has_id (id ∷ []) n) h)

        low : (n : ℕ) → has_id (map id_in (done ++ line ∷ [])) n ≡ true → (m < n) × (n ≤ length (formula ++ clause ∷ []))
        low n h = go (has_id (map id_in done) n) refl
          where
            go : (b : Bool) → has_id (map id_in done) n ≡ b → (m < n) × (n ≤ length (formula ++ clause ∷ []))
            go true e = let l = t.low n e in (l.0, omega (arith, l.1, length-append formula (clause ∷ [])))
            go false e = last (eqb id n) refl
              where
                whole : (false || (eqb id n || false)) ≡ true
                whole = subst (λ (b : Bool). (b || (eqb id n || false)) ≡ true) e (sym (has_id-append done (line ∷ []) n) ∙ h)

                last : (b : Bool) → eqb id n ≡ b → (m < n) × (n ≤ length (formula ++ clause ∷ []))
                last true f =
                    let same : id ≡ n = eqb-true id n f in
                    (omega (arith, same, id_is, t.within), omega (arith, same, id_is, length-append formula (clause ∷ [])))
                last false f = let g : false ≡ true = rw f at whole in cc

        lives : (n : ℕ) (c : List DimacsLiteral) → IsWanted left n
            → (((n ≤ length formula) × (formula_live formula n ≡ Some c)) ⊎ ((n ≡ length formula + 1) × (clause ≡ c)))
            → live' (name n) ≡ Some c
        lives n c w (inl old) =
            let named = named-more done (line ∷ left) t.parts n (t.known n (wanted-more line left n w) old.0) in
            let less : name n < name id = new_id-less m kept n id (omega (arith, old.0, id_is)) own-kept in
            is (name n)
            ∙ rw (stays n w named, ne_eqb (name n) (name id) (λ (same : name n ≡ name id). omega (arith, same, less)))
            (t.lives n c (wanted-more line left n w) old.1)
        lives n c w (inr new) =
            let same : n ≡ id = new.0 ∙ sym id_is in
            let named : IsNamed m kept n = subst (IsNamed m kept) (sym same) own-kept in
            is (name n)
            ∙ rw (stays n w named, eq-eqb (name n) (name id) (ap name same)) (ap (λ (l : List DimacsLiteral). Some l) new.1)

    -- the line itself is a step
    trim-line : IsStep same_dim opposite_dim (formula_live formula) clause hints → IsStep same_dim opposite_dim live clause (map name hints)
    trim-line step =
        is_step-renamed same_dim opposite_dim name (formula_live formula) live clause hints
        (hints-live (step-found same_dim opposite_dim (formula_live formula) clause hints step)) step

  -- a deletion, and what stands behind it
  derives-behind : (ids : List ℕ) (live : Live) (at : ℕ) (rest : List LratStep)
      → ((live' : Live) (at' : ℕ) → ((x : ℕ) → live' x ≡ (if has_id (map name ids) x then None else live x)) → DerivesFrom live' (numbered at' rest))
      → DerivesFrom live (numbered at (map (renamed name) (deletion ids) ++ rest))
  derives-behind [] live at rest cont = cont live at (λ x. refl)
  derives-behind (n ∷ ns) live at rest cont = (refl, cont (after_step live (Del (map name (n ∷ ns)))) (at + 1) (λ x. refl))

  -- the whole
  pub trim-from : (lines : List LratStep) (formula : Formula) (done : List LratStep) (live : Live) (at : ℕ) → Grows formula lines
      → IsTrimmed formula done (reached asked lines) live
      → DerivesFrom live (numbered at (map (renamed name) (with_deletions asked done (reached asked lines))))
  trim-from [] formula done live at g t = tt
  trim-from (Del ids ∷ lines) formula done live at g t = elim g [ ]
  trim-from (Add id clause hints ∷ lines) formula done live at g t =
      go (asked id || is_cited (reached asked lines) id) refl
      (λ done' live' at'. trim-from lines (formula ++ clause ∷ []) done' live' at' g.1)
    where
      left : List LratStep
      left = reached asked lines

      go : (b : Bool) → (asked id || is_cited (reached asked lines) id) ≡ b
          → ((done' : List LratStep) (live' : Live) (at' : ℕ) → IsTrimmed (formula ++ clause ∷ []) done' left live'
          → DerivesFrom live' (numbered at' (map (renamed name) (with_deletions asked done' left))))
          → DerivesFrom live (numbered at (map (renamed name) (with_deletions asked done (reached asked (Add id clause hints ∷ lines)))))
      go false e rest =
          rw e (rest done live at (trim-skip formula done left live clause
          (subst (λ (k : ℕ). (asked k || is_cited left k) ≡ false) g.0.id_is e)
          (subst (λ (b : Bool). IsTrimmed formula done (if b then Add id clause hints ∷ left else left) live) e t)))
      go true e rest =
          let t' : IsTrimmed formula done (Add id clause hints ∷ left) live =
          subst (λ (b : Bool). IsTrimmed formula done (if b then Add id clause hints ∷ left else left) live) e t in
          rw e (
            trim-line formula done left live id clause hints g.0.id_is t' g.0.step,
            subst (λ (l : List LratStep). DerivesFrom (after_step live (renamed name (Add id clause hints))) (numbered (at + 1) l))
                (sym (map-append (renamed name) (deletion (last_cited asked done (Add id clause hints) left))
                (with_deletions asked (done ++ Add id clause hints ∷ []) left)))
                (derives-behind (last_cited asked done (Add id clause hints) left) (after_step live (renamed name (Add id clause hints))) (at + 1)
                (map (renamed name) (with_deletions asked (done ++ Add id clause hints ∷ []) left))
                (λ live' at' is. rest (done ++ Add id clause hints ∷ []) live' at'
                (trim-step formula done left live id clause hints g.0.id_is t' live' is))),
          )
