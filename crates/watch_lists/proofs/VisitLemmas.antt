-- What a visit does to the turn.
use Rattle.std.proofs.Common.{◌≡◌, ◌≢◌, ℕ, ◌+◌, ◌<◌, Bool, true, false, ◌||◌, List, [], ◌∷◌, ◌++◌, length, refl, sym, ap, ◌∙◌, subst, arith, get_or, nat_eq, inl, inr, Option}
use Rattle.std.specs.List.{swap_remove}
use Rattle.std.specs.Prelude.{slice_index_or, slice_set}
use Rattle.std.proofs.lemmas.List.{get_or-set_same, get_or-set_other, get_or_read, get_or_default, length-set}
use Rattle.std.proofs.lemmas.Bool.{or_cases, or_left, or_right, cases_Bool}
use Rattle.lits.specs.Clause.{has}
use Rattle.unit_prop.specs.Closure.{forces, is_negated}
use Rattle.unit_prop.proofs.Facts.{contrary, all-true, passes}
use Rattle.watch_lists.specs.Codes.{flip}
use Rattle.watch_lists.specs.Guard.{IsGuarded}
use Rattle.watch_lists.specs.State.{no_watch, no_pair, codes_at, pair_at, list_at, watch_at, is_met, HasWatch, AreTurned, AreWatched, IsLinked, IsWatch, IsMarked, IsOther, IsTurn, IsEngine}
use Rattle.watch_lists.specs.declared.engine.Engine.{Engine}
use Rattle.watch_lists.specs.declared.lists.Watch.{Watch}
use Rattle.watch_lists.specs.declared.engine.Pair.{Pair}
use Rattle.watch_lists.specs.declared.engine.Level.{Level}
use Rattle.watch_lists.proofs.Facts.{has-at}
use Rattle.watch_lists.proofs.FlipLemmas.{is_literal-flip, same_exact}
use Rattle.watch_lists.proofs.GuardLemmas.{guarded-moved, guarded-swap}
use Rattle.watch_lists.proofs.WatchLemmas.{decide, has_watch-next, has_watch-drop, has_watch-last, length-swap_remove, watched-push, watched-pair, watched-drop}
use Rattle.watch_lists.proofs.TrailLemmas.{has-take}

-- a literal of the clause is in the trail
pub met-by : (trail clause : List ℕ) (l : ℕ) → has nat_eq clause l ≡ true → has nat_eq trail l ≡ true → is_met trail clause ≡ true
met-by trail clause l = passes is_literal-flip (has nat_eq trail) clause l

-- the turn goes on where the clause of the watch is met
pub turned-next : {clauses : List (List ℕ)} {pairs : List Pair} {trail : List ℕ} {list : List Watch} {lit at : ℕ}
    → (j : ℕ) → (watch_at list at).clause ≡ j → is_met trail (codes_at clauses j) ≡ true
    → AreTurned clauses pairs trail list lit at → AreTurned clauses pairs trail list lit (at + 1)
turned-next {clauses} {pairs} {trail} {list} {lit} {at} j here met turned = record {
  each = λ i h e. elim (turned.each i h e) [
    | inl done ↦ inl done
    | inr still ↦ elim (has_watch-next list at i still) [
      | inl same ↦ inl (subst (λ (k : ℕ). is_met trail (codes_at clauses k) ≡ true) (sym here ∙ same) met)
      | inr later ↦ inr later
    ]
  ];
}

-- what was read of a list
pub read-watch : (list : List Watch) (at : ℕ) (w : Watch) → at < length list → w ≡ slice_index_or list at w → watch_at list at ≡ w
read-watch list at w h e = sym (get_or_read list at w h e no_watch)

module _ {clauses : List (List ℕ)} {pairs : List Pair} {lists : List (List Watch)} {trail : List ℕ} {levels : List Level} {head : ℕ}
    (watched : AreWatched clauses pairs lists trail levels head) where
  -- the blocker is true
  pub met-blocker : (lit at : ℕ) (w : Watch) → at < length (list_at lists lit) → watch_at (list_at lists lit) at ≡ w
      → has nat_eq trail w.blocker ≡ true → is_met trail (codes_at clauses w.clause) ≡ true
  met-blocker lit at w within read holds =
      let is : IsWatch clauses (length pairs) lit w = subst (λ (x : Watch). IsWatch clauses (length pairs) lit x) read (watched.watches lit at no_watch within) in
      met-by trail (codes_at clauses w.clause) w.blocker is.inside holds

  pub watch-within : (lit at : ℕ) → at < length (list_at lists lit) → (watch_at (list_at lists lit) at).clause < length pairs
  watch-within lit at within = (watched.watches lit at no_watch within).guarded

  -- the other literal of the pair is in the clause
  pub other-in : (j lit other : ℕ) → j < length pairs → IsOther (pair_at pairs j) lit other → has nat_eq (codes_at clauses j) other ≡ true
  other-in j lit other h is = elim is.either [
    | inl e ↦ subst (λ (z : ℕ). has nat_eq (codes_at clauses j) z ≡ true) e.1 (watched.guards j h).second_in
    | inr e ↦ subst (λ (z : ℕ). has nat_eq (codes_at clauses j) z ≡ true) e.1 (watched.guards j h).first_in
  ]

  -- the pair has one literal twice
  pub met-alone : (j lit other : ℕ) → j < length pairs → IsOther (pair_at pairs j) lit other → other ≡ lit → is_met trail (codes_at clauses j) ≡ true
  met-alone j lit other h is same = (watched.guards j h).alone (elim is.either [
    | inl e ↦ let f : (pair_at pairs j).first ≡ (pair_at pairs j).second = e.0 ∙ (sym same ∙ sym e.1) in subst (λ (z : ℕ). nat_eq (pair_at pairs j).first z ≡ true) f (is_literal-flip.equivalence.refl _)
    | inr e ↦ let f : (pair_at pairs j).first ≡ (pair_at pairs j).second = e.1 ∙ (same ∙ sym e.0) in subst (λ (z : ℕ). nat_eq (pair_at pairs j).first z ≡ true) f (is_literal-flip.equivalence.refl _)
  ])

-- a watch is dropped of a clause whose pair hasn't the literal
pub turned-drop : {clauses : List (List ℕ)} {pairs : List Pair} {trail : List ℕ} {lit at : ℕ} (list : List Watch) (d : Watch) → at < length list
    → ((i : ℕ) → i < length pairs → (watch_at list at).clause ≡ i → ((pair_at pairs i).first ≢ lit) × ((pair_at pairs i).second ≢ lit))
    → AreTurned clauses pairs trail list lit at → AreTurned clauses pairs trail (swap_remove list at d) lit at
turned-drop {clauses} {pairs} {trail} {lit} {at} list d within gone turned = record {
  each = λ i h e. elim (turned.each i h e) [
    | inl done ↦ inl done
    | inr still ↦ inr (has_watch-drop list at at i d within (omega arith) (λ same. elim (or_cases _ _ e) [
      | inl f ↦ absurd ((gone i h same).0 (same_exact _ lit f))
      | inr f ↦ absurd ((gone i h same).1 (same_exact _ lit f))
    ]) still)
  ];
}

-- every literal of the clause is false
pub all-negated : (trail clause : List ℕ) (other : ℕ) → has nat_eq trail (flip other) ≡ true
    → ((l : ℕ) → has nat_eq clause l ≡ true → nat_eq other l ≡ false → has nat_eq trail (flip l) ≡ true)
    → is_negated flip (has nat_eq trail) clause ≡ true
all-negated trail clause other here others =
    all-true is_literal-flip (λ m. has nat_eq trail (flip m)) clause (λ m inside. elim (cases_Bool (nat_eq other m)) [
      | inl same ↦ subst (λ (z : ℕ). has nat_eq trail (flip z) ≡ true) (same_exact other m same) here
      | inr apart ↦ others m inside apart
    ])

-- every other literal is
pub all-forces : (trail clause : List ℕ) (other : ℕ)
    → ((l : ℕ) → has nat_eq clause l ≡ true → nat_eq other l ≡ false → has nat_eq trail (flip l) ≡ true)
    → forces nat_eq flip (has nat_eq trail) clause other ≡ true
all-forces trail clause other others =
    all-true is_literal-flip (λ m. nat_eq m other || has nat_eq trail (flip m)) clause (λ m inside. elim (cases_Bool (nat_eq other m)) [
      | inl same ↦ or_left _ _ (is_literal-flip.equivalence.symm m other ∙ same)
      | inr apart ↦ or_right (nat_eq m other) _ (others m inside apart)
    ])

-- the watch moves from `lit` to `new`
module _ {clauses : List (List ℕ)} {pairs : List Pair} {lists : List (List Watch)} {trail : List ℕ} {levels : List Level} {head : ℕ}
    (watched : AreWatched clauses pairs lists trail levels head) (lit at j other new : ℕ)
    (within : at < length (list_at lists lit)) (here : (watch_at (list_at lists lit) at).clause ≡ j)
    (lit_in : lit < length lists) (new_in : new < length lists)
    (is_other : IsOther (pair_at pairs j) lit other) (apart : nat_eq other lit ≡ false) (inside : has nat_eq (codes_at clauses j) new ≡ true)
    (free : has nat_eq trail (flip new) ≡ false) (fresh : nat_eq other new ≡ false) (false_lit : has nat_eq trail (flip lit) ≡ true) where
  abbrev pushed : Watch
  pushed = record { clause = j; blocker = other; is_two = false }

  abbrev pair : Pair
  pair = record { first = other; second = new }

  abbrev lists1 : List (List Watch)
  lists1 = slice_set lists new (list_at lists new ++ pushed ∷ [])

  abbrev pairs1 : List Pair
  pairs1 = slice_set pairs j pair

  j_in : j < length pairs
  j_in = subst (λ (k : ℕ). k < length pairs) here (watch-within watched lit at within)

  new_apart : lit ≢ new
  new_apart same = contrary _ (subst (λ (z : ℕ). has nat_eq trail (flip z) ≡ true) same false_lit) free

  other_apart : other ≢ lit
  other_apart same = contrary _ (subst (λ (z : ℕ). nat_eq other z ≡ true) same (is_literal-flip.equivalence.refl other)) apart

  watched1 : AreWatched clauses pairs lists1 trail levels head
  watched1 = watched-push watched new pushed (record { guarded = j_in; inside = other-in watched j lit other j_in is_other; only = λ e. contrary _ e refl })

  lists1-lit : list_at lists1 lit ≡ list_at lists lit
  lists1-lit = get_or-set_other lists new lit (list_at lists new ++ pushed ∷ []) [] new_apart

  linked1 : IsLinked lists1 j pair
  linked1 = record {
    first = elim is_other.either [
      | inl e ↦ subst (λ (z : ℕ). HasWatch (list_at lists1 z) 0 j) e.1 (watched1.linked j j_in).second
      | inr e ↦ subst (λ (z : ℕ). HasWatch (list_at lists1 z) 0 j) e.1 (watched1.linked j j_in).first
    ];
    second = subst (λ (z : List Watch). HasWatch z 0 j) (sym (get_or-set_same lists new (list_at lists new ++ pushed ∷ []) [] new_in)) (has_watch-last (list_at lists new) pushed);
  }

  watched2 : AreWatched clauses pairs1 lists1 trail levels head
  watched2 = watched-pair watched1 j pair j_in linked1 guard (λ n l. has-take n trail l)
    where
      guard : (past now : List ℕ) → ((l : ℕ) → has nat_eq past l ≡ true → has nat_eq trail l ≡ true)
          → IsGuarded nat_eq flip (has nat_eq past) (has nat_eq now) (codes_at clauses j) (pair_at pairs j).first (pair_at pairs j).second
          → IsGuarded nat_eq flip (has nat_eq past) (has nat_eq now) (codes_at clauses j) other new
      guard past now less g =
          guarded-moved (has nat_eq past) (has nat_eq now) (codes_at clauses j) other lit new inside lacks fresh turned
        where
          lacks : has nat_eq past (flip new) ≡ false
          lacks = elim (cases_Bool (has nat_eq past (flip new))) [ inl h ↦ contrary _ (less (flip new) h) free | inr h ↦ h ]

          turned : IsGuarded nat_eq flip (has nat_eq past) (has nat_eq now) (codes_at clauses j) other lit
          turned = elim is_other.either [
            | inl e ↦ subst (λ (z : ℕ). IsGuarded nat_eq flip (has nat_eq past) (has nat_eq now) (codes_at clauses j) z lit) e.1
                (subst (λ (z : ℕ). IsGuarded nat_eq flip (has nat_eq past) (has nat_eq now) (codes_at clauses j) (pair_at pairs j).second z) e.0
                (guarded-swap _ _ _ _ _ is_literal-flip.equivalence.symm g))
            | inr e ↦ subst (λ (z : ℕ). IsGuarded nat_eq flip (has nat_eq past) (has nat_eq now) (codes_at clauses j) z lit) e.1
                (subst (λ (z : ℕ). IsGuarded nat_eq flip (has nat_eq past) (has nat_eq now) (codes_at clauses j) (pair_at pairs j).first z) e.0 g)
          ]

  pair-there : pair_at pairs1 j ≡ pair
  pair-there = get_or-set_same pairs j pair no_pair j_in

  gone : (i : ℕ) → i < length pairs1 → (watch_at (list_at lists1 lit) at).clause ≡ i → ((pair_at pairs1 i).first ≢ lit) × ((pair_at pairs1 i).second ≢ lit)
  gone i h e =
      let same : j ≡ i = sym here ∙ (sym (ap (λ (z : List Watch). (watch_at z at).clause) lists1-lit) ∙ e) in
      subst (λ (k : ℕ). ((pair_at pairs1 k).first ≢ lit) × ((pair_at pairs1 k).second ≢ lit)) same
      (subst (λ (p : Pair). (p.first ≢ lit) × (p.second ≢ lit)) (sym pair-there) (other_apart, λ f. new_apart (sym f)))

  within1 : at < length (list_at lists1 lit)
  within1 = subst (λ (z : List Watch). at < length z) (sym lists1-lit) within

  pub moved-watched : (d : Watch) → AreWatched clauses pairs1 (slice_set lists1 lit (swap_remove (list_at lists1 lit) at d)) trail levels head
  moved-watched d = watched-drop watched2 lit at d within1 gone

  pub moved-list : (d : Watch) → list_at (slice_set lists1 lit (swap_remove (list_at lists1 lit) at d)) lit ≡ swap_remove (list_at lists1 lit) at d
  moved-list d = get_or-set_same lists1 lit _ [] (subst (λ (n : ℕ). lit < n) (sym (length-set lists new (list_at lists new ++ pushed ∷ []))) lit_in)

  pub moved-size : (d : Watch) → length (swap_remove (list_at lists1 lit) at d) + 1 ≡ length (list_at lists lit)
  moved-size d = length-swap_remove (list_at lists1 lit) at d within1 ∙ ap length lists1-lit

  pub moved-turned : (d : Watch) → AreTurned clauses pairs trail (list_at lists lit) lit at
      → AreTurned clauses pairs1 trail (swap_remove (list_at lists1 lit) at d) lit at
  moved-turned d turned = turned-drop (list_at lists1 lit) d within1 gone
      (subst (λ (z : List Watch). AreTurned clauses pairs1 trail z lit at) (sym lists1-lit) changed)
    where
      changed : AreTurned clauses pairs1 trail (list_at lists lit) lit at
      changed = record {
        each = λ i h e. elim (decide i j) [
          | inr differs ↦ turned.each i (subst (λ (n : ℕ). i < n) (length-set pairs j pair) h) (subst (λ (p : Pair). (nat_eq p.first lit || nat_eq p.second lit) ≡ true) (get_or-set_other pairs j i pair no_pair differs) e)
          | inl same ↦ inr (record { place = at; after = omega arith; before = within; is = here ∙ sym same })
        ];
      }

-- what was read of the marks
pub mark-true : {clauses : List (List ℕ)} {truth : List Bool} {places trail : List ℕ} {reasons : List (Option ℕ)} {levels : List Level} {head : ℕ}
    → IsMarked clauses truth places trail reasons levels head → (l : ℕ) (b : Bool) → l < length truth → b ≡ slice_index_or truth l b → b ≡ true → has nat_eq trail l ≡ true
mark-true {clauses} {truth} is l b h e true_is = sym (is.marks l) ∙ (get_or_default truth l false b h ∙ (sym e ∙ true_is))

pub mark-false : {clauses : List (List ℕ)} {truth : List Bool} {places trail : List ℕ} {reasons : List (Option ℕ)} {levels : List Level} {head : ℕ}
    → IsMarked clauses truth places trail reasons levels head → (l : ℕ) (b : Bool) → b ≡ slice_index_or truth l b → b ≡ false → has nat_eq trail l ≡ false
mark-false {clauses} {truth} is l b e is_false = sym (is.marks l) ∙ (ap (λ (d : Bool). get_or truth l d) (sym is_false) ∙ (sym e ∙ is_false))

-- the turn of the same engine, one place on
pub turn-next : {e : Engine} {lit at : ℕ} → IsTurn e lit at → (j : ℕ) → (watch_at (list_at e.lists lit) at).clause ≡ j
    → is_met e.trail.items (codes_at e.clauses j) ≡ true → IsTurn e lit (at + 1)
turn-next turn j here met = record {
  engine = turn.engine;
  next = turn.next;
  lit_in = turn.lit_in;
  is = turn.is;
  turned = turned-next j here met turn.turned;
}

-- the literal whose turn it is is false
pub turn-false : {e : Engine} {lit at : ℕ} → IsTurn e lit at → has nat_eq e.trail.items (flip lit) ≡ true
turn-false {e} turn = subst (λ (z : ℕ). has nat_eq e.trail.items z ≡ true) (sym turn.is) (has-at e.trail.items e.head turn.next)

pub blocker-within : {e : Engine} {lit at : ℕ} → IsTurn e lit at → (w : Watch) → at < length (list_at e.lists lit) → watch_at (list_at e.lists lit) at ≡ w
    → w.blocker < length e.truth.items
blocker-within {e} {lit} {at} turn w within read =
    let is : IsWatch e.clauses (length e.pairs.items) lit w = subst (λ (x : Watch). IsWatch e.clauses (length e.pairs.items) lit x) read (turn.engine.watched.watches lit at no_watch within) in
    turn.engine.trail.within w.clause w.blocker is.inside

pub turn-clause : {e : Engine} {lit at : ℕ} → IsTurn e lit at → (j : ℕ) → at < length (list_at e.lists lit) → (watch_at (list_at e.lists lit) at).clause ≡ j
    → j < length e.pairs.items
turn-clause {e} {lit} {at} turn j within here = subst (λ (k : ℕ). k < length e.pairs.items) here (watch-within turn.engine.watched lit at within)

pub turn-other : {e : Engine} {lit at : ℕ} → IsTurn e lit at → (j other : ℕ) → j < length e.pairs.items → IsOther (pair_at e.pairs.items j) lit other
    → other < length e.truth.items
turn-other turn j other h is = turn.engine.trail.within j other (other-in turn.engine.watched j _ other h is)

-- every literal but the blocker is false where the watch says that its clause has two literals
pub others-two : {e : Engine} {lit at : ℕ} → IsTurn e lit at → (w : Watch) → at < length (list_at e.lists lit) → watch_at (list_at e.lists lit) at ≡ w
    → w.is_two ≡ true → (l : ℕ) → has nat_eq (codes_at e.clauses w.clause) l ≡ true → nat_eq w.blocker l ≡ false → has nat_eq e.trail.items (flip l) ≡ true
others-two {e} {lit} {at} turn w within read two l inside apart = elim (is.only two l inside) [
  | inl same ↦ subst (λ (z : ℕ). has nat_eq e.trail.items (flip z) ≡ true) (sym same) (turn-false turn)
  | inr same ↦ contrary _ (subst (λ (z : ℕ). nat_eq w.blocker z ≡ true) (sym same) (is_literal-flip.equivalence.refl w.blocker)) apart
]
  where
    is : IsWatch e.clauses (length e.pairs.items) lit w
    is = subst (λ (x : Watch). IsWatch e.clauses (length e.pairs.items) lit x) read (turn.engine.watched.watches lit at no_watch within)

pub blocker-in : {e : Engine} {lit at : ℕ} → IsTurn e lit at → (w : Watch) → at < length (list_at e.lists lit) → watch_at (list_at e.lists lit) at ≡ w
    → has nat_eq (codes_at e.clauses w.clause) w.blocker ≡ true
blocker-in {e} {lit} {at} turn w within read =
    subst (λ (x : Watch). has nat_eq (codes_at e.clauses x.clause) x.blocker ≡ true) read (turn.engine.watched.watches lit at no_watch within).inside

-- every literal but the other watched one is false
pub others-false : {e : Engine} → IsEngine e → (clause : List ℕ) (other : ℕ)
    → ((l : ℕ) → has nat_eq clause l ≡ true → nat_eq other l ≡ false → slice_index_or e.truth.items (flip l) false ≡ true)
    → (l : ℕ) → has nat_eq clause l ≡ true → nat_eq other l ≡ false → has nat_eq e.trail.items (flip l) ≡ true
others-false {e} engine clause other none l inside apart = sym (engine.trail.marks (flip l)) ∙ none l inside apart
