-- A walk that goes on until nothing is left to be visited finds what its seeds reach.
use Rattle.std.proofs.Common.{◌≡◌, ℕ, ◌+◌, ◌-◌, ◌<◌, ◌≤◌, Bool, true, false, not, ◌&&◌, ◌||◌, Option, Some, None, List, [], ◌∷◌, ◌++◌, length, refl, sym, ap, ◌∙◌, subst, arith, length-append}
use Rattle.std.specs.Option.{is_some, IsSome}
use Rattle.std.specs.Map.{keys_of, values_of}
use Rattle.std.specs.List.{All, AllByRecursion}
use Rattle.std.proofs.lemmas.List.Elements.{All-from_recursion}
use Rattle.std.proofs.lemmas.List.Folds.{list_any-append}
use Rattle.std.proofs.lemmas.Map.Views.{length-le_from_below}
use Rattle.std.proofs.lemmas.Map.Entries.{length-keys_of}
use Rattle.std.proofs.lemmas.Option.{none-some, same_Some}
use Rattle.std.proofs.Math.Bool.{and-true}
use Rattle.std.proofs.lemmas.Bool.{or_parts, or_left, or_right}
use Rattle.lits.specs.Clause.{has}
use Rattle.lits.specs.declared.node.Node.{Node}
use Rattle.netlist.specs.Place.{place_of}
use Rattle.netlist.specs.Net.{AigPair}
use Rattle.lits.specs.Same.{same_node}
use Rattle.lits.proofs.Facts.{exact-node, same-node_self}
use Rattle.netlist.specs.Miter.{variables_of, variable_of}
use Rattle.netlist.proofs.Facts.{at-place, all-members}
use Rattle.unit_prop.proofs.Facts.{contrary}
use Rattle.lemma_book.specs.declared.walk.Walk.{Walk}
use Rattle.lemma_book.specs.Cone.{AreIn, IsClosed, IsReach}
use Rattle.lemma_book.specs.Walk.{AreNumbered, is_found, is_pending, BeginsAt, IsWalk, Finds}

-- what a walk underway keeps
pub record IsUnderway (net : AigPair) (next : Node → List Node) (seeds : List Node) (w : Walk) : Type 0 where
  pub walk : IsWalk net w
  pub starts : AreIn (is_found w) seeds
  pub known : (n : Node) → is_pending w n ≡ true → is_found w n ≡ true
  pub within : (set : Node → Bool) → IsClosed next seeds set → (n : Node) → is_found w n ≡ true → set n ≡ true
  pub visited : (n : Node) → is_found w n ≡ true → is_pending w n ≡ false → AreIn (is_found w) (next n)

in_seeds : (set : Node → Bool) (xs : List Node) (n : Node) → AreIn set xs → has same_node xs n ≡ true → set n ≡ true
in_seeds set [] n all h = cc
in_seeds set (x ∷ xs) n all h = go (same_node x n) refl (in_seeds set xs n all.1)
  where
    go : (b : Bool) → same_node x n ≡ b → (has same_node xs n ≡ true → set n ≡ true) → set n ≡ true
    go true e rest = subst (λ (m : Node). set m ≡ true) (exact-node x n e) all.0
    go false e rest = rest (sym (ap (λ (b : Bool). b || has same_node xs n) e) ∙ h)

-- a found node has a variable
pub found-there : (net : AigPair) (es : List (ℕ × Node)) (n : Node) → AreNumbered net es → has same_node (values_of es) n ≡ true → IsSome (variable_of net n)
found-there net [] n all h = cc
found-there net (e ∷ es) n all h = go (same_node e.1 n) refl (found-there net es n all.1)
  where
    go : (b : Bool) → same_node e.1 n ≡ b → (has same_node (values_of es) n ≡ true → IsSome (variable_of net n)) → IsSome (variable_of net n)
    go true f rest = ap is_some (ap (variable_of net) (sym (exact-node e.1 n f)) ∙ all.0)
    go false f rest = rest (sym (ap (λ (b : Bool). b || has same_node (values_of es) n) f) ∙ h)

-- a walk that has found nothing begins at what it finds first
pub begins-at : (net : AigPair) (seeds : List Node) (none w : Walk) → none.found.entries ≡ [] → none.pending.items ≡ [] → Finds net none seeds w
    → BeginsAt net seeds w
begins-at net seeds none w no_found no_pending finds = record { walk = finds.walk; found = found; pending = pending }
  where
    nothing : (n : Node) → is_found none n ≡ false
    nothing n = ap (λ (l : List (ℕ × Node)). has same_node (values_of l) n) no_found

    found : (n : Node) → is_found w n ≡ has same_node seeds n
    found n = finds.found n ∙ ap (λ (b : Bool). b || has same_node seeds n) (nothing n)

    pending : (n : Node) → is_pending w n ≡ has same_node seeds n
    pending n =
        finds.pending n
        ∙ ap (λ (l : List Node). has same_node l n || (has same_node seeds n && not (is_found none n))) no_pending
        ∙ ap (λ (b : Bool). has same_node seeds n && not b) (nothing n) ∙ and-true (has same_node seeds n)

module _ (net : AigPair) (next : Node → List Node) (seeds : List Node) where
  -- at the start the seeds are found
  pub underway-start : (w : Walk) → BeginsAt net seeds w → IsUnderway net next seeds w
  underway-start w begins = record {
    walk = begins.walk;
    starts = all-members (λ n. is_found w n ≡ true) seeds (λ n h. begins.found n ∙ h);
    known = λ n h. begins.found n ∙ sym (begins.pending n) ∙ h;
    within = λ set closed n h. in_seeds set seeds n closed.starts (sym (begins.found n) ∙ h);
    visited = λ n h e. contrary (has same_node seeds n) (sym (begins.found n) ∙ h) (sym (begins.pending n) ∙ e);
  }

  -- a node is visited: those that its clauses name are found
  pub underway-visit : (w mid new : Walk) (node : Node) → IsUnderway net next seeds w → w.pending.items ≡ mid.pending.items ++ node ∷ [] → mid.found.entries ≡ w.found.entries
      → Finds net mid (next node) new → IsUnderway net next seeds new
  underway-visit w mid new node u popped same finds = record {
    walk = finds.walk;
    starts = more seeds u.starts;
    known = known;
    within = within;
    visited = visited;
  }
    where
      same_found : (n : Node) → is_found mid n ≡ is_found w n
      same_found n = ap (λ (l : List (ℕ × Node)). has same_node (values_of l) n) same

      found : (n : Node) → is_found new n ≡ (is_found w n || has same_node (next node) n)
      found n = finds.found n ∙ ap (λ (b : Bool). b || has same_node (next node) n) (same_found n)

      stays : (n : Node) → is_found w n ≡ true → is_found new n ≡ true
      stays n h = found n ∙ or_left (is_found w n) (has same_node (next node) n) h

      more : (ns : List Node) → AreIn (is_found w) ns → AreIn (is_found new) ns
      more [] all = tt
      more (n ∷ ns) all = (stays n all.0, more ns all.1)

      pending : (n : Node) → is_pending w n ≡ (is_pending mid n || (same_node node n || false))
      pending n = ap (λ (l : List Node). has same_node l n) popped ∙ list_any-append (λ y. same_node y n) mid.pending.items (node ∷ [])

      node_found : is_found w node ≡ true
      node_found =
          u.known node (pending node ∙ or_right (is_pending mid node) (same_node node node || false) (or_left (same_node node node) false (same-node_self node)))

      known : (n : Node) → is_pending new n ≡ true → is_found new n ≡ true
      known n h = go (is_pending mid n) (has same_node (next node) n) refl refl (sym (finds.pending n) ∙ h)
        where
          go : (a b : Bool) → is_pending mid n ≡ a → has same_node (next node) n ≡ b → (is_pending mid n || (has same_node (next node) n && not (is_found mid n))) ≡ true
              → is_found new n ≡ true
          go true b e f g = stays n (u.known n (pending n ∙ or_left (is_pending mid n) (same_node node n || false) e))
          go false true e f g = found n ∙ or_right (is_found w n) (has same_node (next node) n) f
          go false false e f g = let k : false ≡ true = rw (e, f) at g in cc

      within : (set : Node → Bool) → IsClosed next seeds set → (n : Node) → is_found new n ≡ true → set n ≡ true
      within set closed n h = go (is_found w n) refl (sym (found n) ∙ h)
        where
          go : (b : Bool) → is_found w n ≡ b → (is_found w n || has same_node (next node) n) ≡ true → set n ≡ true
          go true e g = u.within set closed n e
          go false e g =
              in_seeds set (next node) n (closed.nexts node (u.within set closed node node_found))
              (sym (ap (λ (b : Bool). b || has same_node (next node) n) e) ∙ g)

      visited : (n : Node) → is_found new n ≡ true → is_pending new n ≡ false → AreIn (is_found new) (next n)
      visited n h done = go (is_found w n) (same_node node n) refl refl
        where
          parts : (is_pending mid n ≡ false) × ((has same_node (next node) n && not (is_found mid n)) ≡ false)
          parts = or_parts (is_pending mid n) (has same_node (next node) n && not (is_found mid n)) (sym (finds.pending n) ∙ done)

          go : (a b : Bool) → is_found w n ≡ a → same_node node n ≡ b → AreIn (is_found new) (next n)
          go a true e f =
              subst (λ (m : Node). AreIn (is_found new) (next m)) (exact-node node n f)
              (all-members (λ m. is_found new m ≡ true) (next node) (λ m g. found m ∙ or_right (is_found w m) (has same_node (next node) m) g))
          go true false e f = more (next n) (u.visited n e (pending n ∙ rw (parts.0, f) refl))
          go false false e f =
              let named : has same_node (next node) n ≡ true = sym (ap (λ (b : Bool). b || has same_node (next node) n) e) ∙ sym (found n) ∙ h in
              let none : (true && not false) ≡ false = sym (ap (λ (b : Bool). b && not (is_found mid n)) named ∙ ap (λ (b : Bool). true && not b) (same_found n ∙ e)) ∙ parts.1 in
              cc

  -- where nothing is left to be visited, the walk has found what the seeds reach
  pub underway-done : (w : Walk) → IsUnderway net next seeds w → w.pending.items ≡ [] → IsReach next seeds (is_found w)
  underway-done w u done = record {
    closed = record {
      starts = u.starts;
      nexts = λ n h. u.visited n h (ap (λ (l : List Node). has same_node l n) done);
    };
    least = u.within;
  }

-- a walk has no more nodes than there are
pub walk-few : (net : AigPair) (w : Walk) → IsWalk net w → length w.found.entries ≤ length (variables_of net) + 1
walk-few net w walk =
    let few = length-le_from_below (length (variables_of net) + 1) (keys_of w.found.entries) walk.ordered (below w.found.entries walk.numbered) in
    omega (arith, few, length-keys_of w.found.entries)
  where
    within : (n : Node) (k : ℕ) → variable_of net n ≡ Some k → k < length (variables_of net) + 1
    within n k e = go (place_of (λ m. same_node m n) (variables_of net)) refl
      where
        go : (o : Option ℕ) → place_of (λ m. same_node m n) (variables_of net) ≡ o → k < length (variables_of net) + 1
        go None f = absurd (none-some k (rw f at e))
        go (Some i) f =
            let next : i + 1 ≡ k = same_Some (i + 1) k (rw f at e) in
            let inside = (at-place (λ m. same_node m n) (variables_of net) i f).3 in
            omega arith

    below : (es : List (ℕ × Node)) → AreNumbered net es → All (λ x. x < length (variables_of net) + 1) (keys_of es)
    below es numbered = All-from_recursion (λ x. x < length (variables_of net) + 1) (keys_of es) (each es numbered)
      where
        each : (fs : List (ℕ × Node)) → AreNumbered net fs → AllByRecursion (λ x. x < length (variables_of net) + 1) (keys_of fs)
        each [] all = tt
        each (f ∷ fs) all = (within f.1 f.0 all.0, each fs all.1)

module _ (net : AigPair) (next : Node → List Node) (seeds : List Node) (w mid new : Walk) (node : Node) (u : IsUnderway net next seeds w)
    (popped : w.pending.items ≡ mid.pending.items ++ node ∷ []) where
  -- a node that is still to be visited has a variable
  pub underway-there : IsSome (variable_of net node)
  underway-there = found-there net w.found.entries node u.walk.numbered (u.known node pending)
    where
      pending : is_pending w node ≡ true
      pending =
          ap (λ (l : List Node). has same_node l node) popped ∙ list_any-append (λ y. same_node y node) mid.pending.items (node ∷ [])
          ∙ or_right (is_pending mid node) (same_node node node || false) (or_left (same_node node node) false (same-node_self node))

  -- one node less is left that can still be visited
  pub visit-smaller : mid.found.entries ≡ w.found.entries → (nodes : List Node) → Finds net mid nodes new
      → (length (variables_of net) + 1 + length new.pending.items) - length new.found.entries
      < (length (variables_of net) + 1 + length w.pending.items) - length w.found.entries
  visit-smaller same nodes finds =
      omega (arith, walk-few net w u.walk, walk-few net new finds.walk, finds.count, ap length same, ap length popped, length-append mid.pending.items (node ∷ []))
