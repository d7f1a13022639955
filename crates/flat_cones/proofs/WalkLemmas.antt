-- How a walk grows, and that what it has found in the end is what the seeds reach.
use Rattle.std.proofs.Common.{◌≡◌, ℕ, zero, suc, ◌+◌, ◌-◌, ◌≤◌, Bool, true, false, ◌==◌, ◌||◌, Option, None, Some, List, [], ◌∷◌, ◌++◌, length, take, refl, sym, ap, ◌∙◌, arith, subst, append_assoc, append-nil}
use Rattle.std.specs.Prelude.{slice_get}
use Rattle.std.specs.Option.{option_map_or}
use Rattle.std.specs.List.{AllByRecursion, list_any, IsDistinct}
use Rattle.std.specs.Cmp.{nat_eq_equiv}
use Rattle.std.proofs.lemmas.List.{take-append-le, take_all}
use Rattle.std.proofs.lemmas.List.Folds.{list_any-append}
use Rattle.std.proofs.lemmas.Map.Keys.{IsDistinct-push}
use Rattle.std.proofs.lemmas.Map.Steps.{length-le_from_distinct_below}
use Rattle.std.proofs.lemmas.Bool.{or_left, or_right}
use Rattle.std.proofs.lemmas.Option.{none-some, same_Some, slice_get_within, get_or_from_slice_get}
use Rattle.lits.specs.Clause.{has}
use Rattle.lits.specs.Same.{same_node}
use Rattle.lits.specs.declared.node.Node.{Node}
use Rattle.lits.specs.declared.node.Node.TheVariants.{Const}
use Rattle.lits.proofs.Facts.{exact-node, same-node_self, take_next}
use Rattle.netlist.specs.Net.{AigPair}
use Rattle.netlist.specs.Miter.{variables_of, variable_of}
use Rattle.netlist.specs.Place.{place_of}
use Rattle.netlist.proofs.Facts.{eq_swap, variable_at, variable-one, at-place, all-members}
use Rattle.unit_prop.proofs.Facts.{contrary}
use Rattle.lemma_book.specs.Cone.{AreIn, IsClosed, IsReach}
use Rattle.flat_cones.specs.declared.walk.Walk.{Walk}
use Rattle.flat_cones.specs.Spots.{Table, is_marked, number_at}
use Rattle.flat_cones.specs.Walk.{is_found, node_by, IsVariable, IsWalk, Finds, BeginsAt, IsFresh}
use Rattle.flat_cones.proofs.SpotLemmas.{same-number, number-self, number-unmarked}

or-none : (b : Bool) → (b || false) ≡ b
or-none true = refl
or-none false = refl

or-assoc : (a b c : Bool) → ((a || b) || c) ≡ (a || (b || c))
or-assoc true b c = refl
or-assoc false b c = refl

-- ---- what is found
-- a walk that has begun anew
pub fresh-walk : (net : AigPair) (w : Walk) → IsFresh w → IsWalk net w
unfolding IsDistinct
fresh-walk net w fresh = record {
  once = subst (λ (l : List ℕ). IsDistinct ◌==◌ l) (sym fresh.empty) tt;
  marked = λ v. fresh.none v ∙ sym (ap (λ (l : List ℕ). list_any (λ y. v == y) l) fresh.empty);
  there = λ v h. contrary (list_any (λ y. v == y) w.found.items) h (ap (λ (l : List ℕ). list_any (λ y. v == y) l) fresh.empty);
  unnumbered = λ v. number-unmarked w.spots v (fresh.none v);
}

pub fresh-found : (net : AigPair) (w : Walk) → IsFresh w → (n : Node) → is_found net w.spots n ≡ false
fresh-found net w fresh n = go (variable_of net n)
  where
    go : (o : Option ℕ) → option_map_or (is_marked w.spots) o false ≡ false
    go None = refl
    go (Some v) = fresh.none v

module _ (net : AigPair) where
  found-variable : (t : Table) (n : Node) (v : ℕ) → variable_of net n ≡ Some v → is_found net t n ≡ is_marked t v
  found-variable t n v e = ap (λ (o : Option ℕ). option_map_or (is_marked t) o false) e

  -- a walk that has found nothing begins at what it finds first
  pub begins-at : (none w : Walk) (nodes : List Node) → IsFresh none → Finds net none nodes w → BeginsAt net nodes w
  begins-at none w nodes fresh finds = record {
    walk = finds.walk;
    found = λ n. finds.found n ∙ ap (λ (b : Bool). b || has same_node nodes n) (fresh-found net none fresh n);
  }

  pub finds-none : (w : Walk) → IsWalk net w → Finds net w [] w
  finds-none w walk = record {
    walk = walk;
    found = λ n. sym (or-none (is_found net w.spots n));
    rest = [];
    grows = sym (append-nil w.found.items);
  }

  pub finds-more : (old mid new : Walk) (ms ns : List Node) → Finds net old ms mid → Finds net mid ns new → Finds net old (ms ++ ns) new
  finds-more old mid new ms ns first second = record {
    walk = second.walk;
    found = λ n. second.found n ∙ ap (λ (b : Bool). b || has same_node ns n) (first.found n)
        ∙ or-assoc (is_found net old.spots n) (has same_node ms n) (has same_node ns n)
        ∙ ap (λ (b : Bool). is_found net old.spots n || b) (sym (list_any-append (λ y. same_node y n) ms ns));
    rest = first.rest ++ second.rest;
    grows = second.grows ∙ ap (λ (l : List ℕ). l ++ second.rest) first.grows ∙ append_assoc old.found.items first.rest second.rest;
  }

  module _ (old new : Walk) (node : Node) (v : ℕ) (walk : IsWalk net old) (at : variable_of net node ≡ Some v) where
    -- a node that was found before
    pub finds-known : new.spots ≡ old.spots → new.found ≡ old.found → is_marked old.spots v ≡ true → Finds net old (node ∷ []) new
    finds-known spots list marked =
        subst (λ (w : Walk). Finds net old (node ∷ []) w) (sym same) (record {
          walk = walk;
          found = here;
          rest = [];
          grows = sym (append-nil old.found.items);
        })
      where
        same : new ≡ old
        same = rw (spots, list) refl

        here : (n : Node) → is_found net old.spots n ≡ (is_found net old.spots n || (same_node node n || false))
        here n = go (same_node node n) refl
          where
            go : (b : Bool) → same_node node n ≡ b → is_found net old.spots n ≡ (is_found net old.spots n || (b || false))
            go false e = sym (or-none (is_found net old.spots n))
            go true e =
                let found : is_found net old.spots n ≡ true =
                subst (λ (m : Node). is_found net old.spots m ≡ true) (exact-node node n e) (found-variable old.spots node v at ∙ marked) in
                rw found refl

    -- one that is new
    module _ (marks : (u : ℕ) → is_marked new.spots u ≡ (is_marked old.spots u || v == u)) (push : new.found.items ≡ old.found.items ++ v ∷ []) where
      found-more : (n : Node) → is_found net new.spots n ≡ (is_found net old.spots n || (same_node node n || false))
      found-more n = go (variable_of net n) refl
        where
          go : (o : Option ℕ) → variable_of net n ≡ o → is_found net new.spots n ≡ (is_found net old.spots n || (same_node node n || false))
          go None e = by (same_node node n) refl
            where
              by : (b : Bool) → same_node node n ≡ b → is_found net new.spots n ≡ (is_found net old.spots n || (same_node node n || false))
              by false f = rw (e, f) refl
              by true f = absurd (none-some v (sym e ∙ (ap (variable_of net) (sym (exact-node node n f)) ∙ at)))
          go (Some u) e = by (v == u) (same_node node n) refl refl
            where
              by : (a b : Bool) → (v == u) ≡ a → same_node node n ≡ b → is_found net new.spots n ≡ (is_found net old.spots n || (same_node node n || false))
              by true true f g = rw (e, marks u, f, g) refl
              by false false f g = rw (e, marks u, f, g) refl
              by true false f g =
                  let one : node ≡ n = variable-one net node n v at (e ∙ ap Some (sym (same-number v u f))) in
                  contrary (same_node node n) (subst (λ (m : Node). same_node node m ≡ true) one (same-node_self node)) g
              by false true f g =
                  let one : v ≡ u = same_Some v u (sym at ∙ (ap (variable_of net) (exact-node node n g) ∙ e)) in
                  contrary (v == u) (subst (λ (x : ℕ). (v == x) ≡ true) one (number-self v)) f

      marked-more : (u : ℕ) → is_marked new.spots u ≡ list_any (λ y. u == y) new.found.items
      marked-more u =
          marks u ∙ rw (walk.marked u, eq_swap v u)
          (sym (ap (λ (l : List ℕ). list_any (λ y. u == y) l) push ∙ list_any-append (λ y. u == y) old.found.items (v ∷ [])
          ∙ ap (λ (b : Bool). list_any (λ y. u == y) old.found.items || b) (or-none (u == v))))

      there-more : IsVariable net v → (u : ℕ) → list_any (λ y. u == y) new.found.items ≡ true → IsVariable net u
      there-more is u h = go (list_any (λ y. u == y) old.found.items) refl
        where
          split : (list_any (λ y. u == y) old.found.items || (u == v || false)) ≡ true
          split =
              sym (list_any-append (λ y. u == y) old.found.items (v ∷ [])) ∙ sym (ap (λ (l : List ℕ). list_any (λ y. u == y) l) push) ∙ h

          go : (b : Bool) → list_any (λ y. u == y) old.found.items ≡ b → IsVariable net u
          go true e = walk.there u e
          go false e =
              let last : (u == v) ≡ true = sym (or-none (u == v)) ∙ (sym (ap (λ (b : Bool). b || (u == v || false)) e) ∙ split) in
              subst (IsVariable net) (sym (same-number u v last)) is

      pub finds-new : ((u : ℕ) → number_at new.spots u ≡ number_at old.spots u) → is_marked old.spots v ≡ false → IsVariable net v
          → Finds net old (node ∷ []) new
      finds-new numbers unmarked is = record {
        walk = record {
          once = subst (λ (l : List ℕ). IsDistinct ◌==◌ l) (sym push)
              (IsDistinct-push nat_eq_equiv old.found.items v walk.once (sym (walk.marked v) ∙ unmarked));
          marked = marked-more;
          there = there-more is;
          unnumbered = λ u. numbers u ∙ walk.unnumbered u;
        };
        found = found-more;
        rest = v ∷ [];
        grows = push;
      }

-- the variable of a node is one
pub variable-range : (net : AigPair) (n : Node) (v : ℕ) → variable_of net n ≡ Some v → IsVariable net v
variable-range net n v e = go (place_of (λ m. same_node m n) (variables_of net)) refl
  where
    go : (o : Option ℕ) → place_of (λ m. same_node m n) (variables_of net) ≡ o → IsVariable net v
    go None f = absurd (none-some v (rw f at e))
    go (Some i) f =
        let next : i + 1 ≡ v = same_Some (i + 1) v (rw f at e) in
        let inside = (at-place (λ m. same_node m n) (variables_of net) i f).3 in
        (omega arith, omega arith)

-- ---- what the seeds reach
-- what a walk keeps that has visited the first k nodes it found
pub record IsUnderway (net : AigPair) (next : Node → List Node) (seeds : List Node) (w : Walk) (k : ℕ) : Type 0 where
  pub walk : IsWalk net w
  pub starts : AreIn (is_found net w.spots) seeds
  pub within : (set : Node → Bool) → IsClosed next seeds set → (n : Node) → is_found net w.spots n ≡ true → set n ≡ true
  pub visited : AllByRecursion (λ v. AreIn (is_found net w.spots) (next (node_by net v))) (take k w.found.items)

in_seeds : (set : Node → Bool) (xs : List Node) (n : Node) → AreIn set xs → has same_node xs n ≡ true → set n ≡ true
in_seeds set [] n all h = cc
in_seeds set (x ∷ xs) n all h = go (same_node x n) refl (in_seeds set xs n all.1)
  where
    go : (b : Bool) → same_node x n ≡ b → (has same_node xs n ≡ true → set n ≡ true) → set n ≡ true
    go true e rest = subst (λ (m : Node). set m ≡ true) (exact-node x n e) all.0
    go false e rest = rest (sym (ap (λ (b : Bool). b || has same_node xs n) e) ∙ h)

pub any-at : (xs : List ℕ) (k v : ℕ) → slice_get xs k ≡ Some v → list_any (λ y. v == y) xs ≡ true
any-at [] k v e = cc
any-at (x ∷ xs) zero v e = rw (ap (λ (y : ℕ). v == y) (same_Some x v e) ∙ number-self v) refl
any-at (x ∷ xs) (suc j) v e = or_right (v == x) (list_any (λ y. v == y) xs) (any-at xs j v e)

all-any : (P : ℕ → Type 0) (xs : List ℕ) (v : ℕ) → AllByRecursion P xs → list_any (λ y. v == y) xs ≡ true → P v
all-any P [] v all h = cc
all-any P (x ∷ xs) v all h = go (v == x) refl (all-any P xs v all.1)
  where
    go : (b : Bool) → (v == x) ≡ b → (list_any (λ y. v == y) xs ≡ true → P v) → P v
    go true e rest = subst P (sym (same-number v x e)) all.0
    go false e rest = rest (sym (ap (λ (b : Bool). b || list_any (λ y. v == y) xs) e) ∙ h)

all-join : (P : ℕ → Type 0) (xs : List ℕ) (v : ℕ) → AllByRecursion P xs → P v → AllByRecursion P (xs ++ v ∷ [])
all-join P [] v all p = (p, tt)
all-join P (x ∷ xs) v all p = (all.0, all-join P xs v all.1 p)

all-map : (P Q : ℕ → Type 0) (xs : List ℕ) → ((v : ℕ) → P v → Q v) → AllByRecursion P xs → AllByRecursion Q xs
all-map P Q [] f all = tt
all-map P Q (x ∷ xs) f all = (f x all.0, all-map P Q xs f all.1)

module _ (net : AigPair) (next : Node → List Node) (seeds : List Node) where
  pub underway-start : (w : Walk) → BeginsAt net seeds w → IsUnderway net next seeds w 0
  underway-start w begins = record {
    walk = begins.walk;
    starts = all-members (λ n. is_found net w.spots n ≡ true) seeds (λ n h. begins.found n ∙ h);
    within = λ set closed n h. in_seeds set seeds n closed.starts (sym (begins.found n) ∙ h);
    visited = tt;
  }

  -- the next node that was found is visited
  pub underway-visit : (w new : Walk) (k v : ℕ) (node : Node) → IsUnderway net next seeds w k → slice_get w.found.items k ≡ Some v
      → slice_get (variables_of net) (v - 1) ≡ Some node → variable_of net node ≡ Some v → Finds net w (next node) new
      → IsUnderway net next seeds new (k + 1)
  underway-visit w new k v node u here node_at number finds = record {
    walk = finds.walk;
    starts = more seeds u.starts;
    within = within;
    visited = subst (AllByRecursion Visited) (sym prefix)
        (all-join Visited (take k w.found.items) v (all-map Before Visited (take k w.found.items) (λ x all. more (next (node_by net x)) all) u.visited) last);
  }
    where
      Before : ℕ → Type 0
      Before x = AreIn (is_found net w.spots) (next (node_by net x))

      Visited : ℕ → Type 0
      Visited x = AreIn (is_found net new.spots) (next (node_by net x))

      node_found : is_found net w.spots node ≡ true
      node_found = ap (λ (o : Option ℕ). option_map_or (is_marked w.spots) o false) number ∙ (u.walk.marked v ∙ any-at w.found.items k v here)

      more : (ns : List Node) → AreIn (is_found net w.spots) ns → AreIn (is_found net new.spots) ns
      more [] all = tt
      more (n ∷ ns) all = (finds.found n ∙ or_left (is_found net w.spots n) (has same_node (next node) n) all.0, more ns all.1)

      within : (set : Node → Bool) → IsClosed next seeds set → (n : Node) → is_found net new.spots n ≡ true → set n ≡ true
      within set closed n h = go (is_found net w.spots n) refl
        where
          go : (b : Bool) → is_found net w.spots n ≡ b → set n ≡ true
          go true e = u.within set closed n e
          go false e =
              in_seeds set (next node) n (closed.nexts node (u.within set closed node node_found))
              (sym (ap (λ (b : Bool). b || has same_node (next node) n) e) ∙ (sym (finds.found n) ∙ h))

      prefix : take (k + 1) new.found.items ≡ take k w.found.items ++ v ∷ []
      prefix =
          let below = slice_get_within w.found.items k v here in
          ap (take (k + 1)) finds.grows ∙ take-append-le (k + 1) w.found.items finds.rest (omega (arith, below)) ∙ take_next w.found.items k v here

      last : AreIn (is_found net new.spots) (next (node_by net v))
      last =
          subst (λ (m : Node). AreIn (is_found net new.spots) (next m)) (sym (get_or_from_slice_get (variables_of net) (v - 1) node Const node_at))
          (all-members (λ m. is_found net new.spots m ≡ true) (next node)
          (λ m g. finds.found m ∙ or_right (is_found net w.spots m) (has same_node (next node) m) g))

  -- where all are visited, the walk has found what the seeds reach
  pub underway-done : (w : Walk) (k : ℕ) → IsUnderway net next seeds w k → length w.found.items ≤ k → IsReach next seeds (is_found net w.spots)
  underway-done w k u all = record {
    closed = record { starts = u.starts; nexts = nexts };
    least = u.within;
  }
    where
      Visited : ℕ → Type 0
      Visited x = AreIn (is_found net w.spots) (next (node_by net x))

      whole : AllByRecursion Visited w.found.items
      whole = subst (AllByRecursion Visited) (take_all k w.found.items all) u.visited

      nexts : (n : Node) → is_found net w.spots n ≡ true → AreIn (is_found net w.spots) (next n)
      nexts n h = go (variable_of net n) refl
        where
          go : (o : Option ℕ) → variable_of net n ≡ o → AreIn (is_found net w.spots) (next n)
          go None e = contrary (is_found net w.spots n) h (ap (λ (o : Option ℕ). option_map_or (is_marked w.spots) o false) e)
          go (Some v) e =
              let marked : is_marked w.spots v ≡ true = sym (ap (λ (o : Option ℕ). option_map_or (is_marked w.spots) o false) e) ∙ h in
              subst (λ (m : Node). AreIn (is_found net w.spots) (next m))
              (get_or_from_slice_get (variables_of net) (v - 1) n Const (variable_at net n v e))
              (all-any Visited w.found.items v whole (sym (u.walk.marked v) ∙ marked))

-- a walk has found no more than there are
pub walk-few : (net : AigPair) (w : Walk) → IsWalk net w → length w.found.items ≤ length (variables_of net) + 1
walk-few net w walk =
    length-le_from_distinct_below w.found.items (length (variables_of net) + 1) walk.once
    (λ q h. let is = walk.there q h in omega (arith, is.1))

pub found-there : (net : AigPair) (w : Walk) → IsWalk net w → (k v : ℕ) → slice_get w.found.items k ≡ Some v → IsVariable net v
found-there net w walk k v e = walk.there v (any-at w.found.items k v e)
