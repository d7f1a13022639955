-- The merges of a book's first entries, and what a legal book says of them: node and target have positions, and the
-- target is earlier.
use Rattle.std.proofs.Common.{◌≡◌, ℕ, zero, suc, ◌+◌, ◌<◌, ◌≤◌, Bool, true, false, cond, Option, Some, None, List, [], ◌∷◌, take, refl, sym, ap, ◌∙◌, subst, arith}
use Rattle.std.specs.Prelude.{slice_get, nat_lt, if◌then◌else◌}
use Rattle.std.specs.Option.{option_map, option_and_then, is_some, IsSome}
use Rattle.std.proofs.lemmas.Bool.Decides.{nat_tests}
use Rattle.std.proofs.lemmas.Option.{none-some, same_Some}
use Rattle.lits.specs.declared.node.Node.{Node}
use Rattle.lits.specs.declared.literal.Lit.{Lit}
use Rattle.lits.specs.declared.step.Step.{Step}
use Rattle.lits.specs.Same.{same_node}
use Rattle.lits.proofs.Facts.{exact-node}
use Rattle.netlist.specs.Place.{place_of}
use Rattle.netlist.specs.Net.{AigPair, nodes_of, position_of}
use Rattle.netlist.specs.Miter.{variable_of}
use Rattle.netlist.proofs.Facts.{at_place, is_some-place, has-variable}
use Rattle.lemma_book.specs.declared.entry.Entry.{Entry}
use Rattle.lemma_book.specs.declared.entry.Entry.TheVariants.{Merge, Apart, Spent, Out, OutApart, OutSpent}
use Rattle.lemma_book.specs.declared.entry.Subject.TheVariants.{Merged}
use Rattle.lemma_book.specs.Entry.{Entries, is_on, place_on}
use Rattle.lemma_book.specs.Root.{MergeAt, merge_in, merge_of}
use Rattle.lemma_book.specs.Good.{NoNode, NotEarlier, IsBefore, IsEarlier, IsGood}
use Rattle.lemma_book.specs.Book.{IsLegal}
use Rattle.lemma_book.proofs.InTurn.{in_turn-at}
use Rattle.lemma_book.proofs.ThereLemmas.{is_some-variable}
use Rattle.lemma_book.proofs.RootLemmas.{merge_at}

-- ---- places among the first elements of a list
module _ {X : Type 0} (test : X → Bool) where
  -- what the place of a list with one more element in front comes from
  in-front : (P : Type 0) (b : Bool) (o : Option ℕ) (i : ℕ) → cond b (Some 0) (option_map (λ j. j + 1) o) ≡ Some i
      → (b ≡ true → i ≡ 0 → P) → ((j : ℕ) → b ≡ false → o ≡ Some j → i ≡ j + 1 → P) → P
  in-front P true o i e here later = here refl (sym (same_Some 0 i e))
  in-front P false None i e here later = absurd (none-some i e)
  in-front P false (Some j) i e here later = later j refl refl (sym (same_Some (j + 1) i e))

  place-kept : (k : ℕ) (xs : List X) (i : ℕ) → place_of test xs ≡ Some i → i < k → place_of test (take k xs) ≡ Some i
  place-kept zero xs i e below = absurd (omega arith)
  place-kept (suc k) [] i e below = absurd (none-some i e)
  place-kept (suc k) (x ∷ xs) i e below =
      in-front (place_of test (x ∷ take k xs) ≡ Some i) (test x) (place_of test xs) i e
      (λ b z. rw b (ap Some (sym z)))
      (λ j b o z. rw (b, place-kept k xs j o (omega arith)) (ap Some (sym z)))

  place-cut : (k : ℕ) (xs : List X) (i : ℕ) → place_of test xs ≡ Some i → k ≤ i → place_of test (take k xs) ≡ None
  place-cut zero xs i e above = refl
  place-cut (suc k) [] i e above = refl
  place-cut (suc k) (x ∷ xs) i e above =
      in-front (place_of test (x ∷ take k xs) ≡ None) (test x) (place_of test xs) i e
      (λ b z. absurd (omega arith))
      (λ j b o z. rw (b, place-cut k xs j o (omega arith)) refl)

  place-none : (k : ℕ) (xs : List X) → place_of test xs ≡ None → place_of test (take k xs) ≡ None
  place-none zero xs e = refl
  place-none (suc k) [] e = refl
  place-none (suc k) (x ∷ xs) e = go (test x) (place_of test xs) refl refl (place-none k xs)
    where
      go : (b : Bool) (o : Option ℕ) → test x ≡ b → place_of test xs ≡ o → (place_of test xs ≡ None → place_of test (take k xs) ≡ None)
          → place_of test (x ∷ take k xs) ≡ None
      go true o f g rest = let h : Some 0 ≡ None = rw f at e in absurd (none-some 0 (sym h))
      go false None f g rest = rw (f, rest g) refl
      go false (Some j) f g rest = let h : Some (j + 1) ≡ None = rw (f, g) at e in absurd (none-some (j + 1) (sym h))

get-kept : {X : Type 0} (k : ℕ) (xs : List X) (i : ℕ) → i < k → slice_get (take k xs) i ≡ slice_get xs i
get-kept zero xs i below = absurd (omega arith)
get-kept (suc k) [] i below = refl
get-kept (suc k) (x ∷ xs) zero below = refl
get-kept (suc k) (x ∷ xs) (suc i) below = get-kept k xs i (omega arith)

pub get-whole : {X : Type 0} (k : ℕ) (xs : List X) (i : ℕ) (x : X) → slice_get (take k xs) i ≡ Some x → slice_get xs i ≡ Some x
get-whole zero xs i x e = absurd (none-some x e)
get-whole (suc k) [] i x e = e
get-whole (suc k) (y ∷ ys) zero x e = e
get-whole (suc k) (y ∷ ys) (suc i) x e = get-whole k ys i x e

-- ---- the merge of a node
module _ (es : List Entry) (n : Node) where
  -- stands at its place
  pub merged-entry : (m : MergeAt) → merge_of es n ≡ Some m → (steps : List Step) × (slice_get es m.entry ≡ Some (Merge n m.lit steps))
  merged-entry m e = go (place_on es (Merged n)) refl
    where
      in-entry : (place : ℕ) (x : Entry) → slice_get es place ≡ Some x → is_on (Merged n) x ≡ true → merge_in place x ≡ Some m
          → (steps : List Step) × (slice_get es m.entry ≡ Some (Merge n m.lit steps))
      in-entry place (Merge node lit steps) f g h =
          let same : record { entry = place; lit = lit } ≡ m = same_Some (record { entry = place; lit = lit }) m h in (
            steps,
            subst (λ (z : MergeAt). slice_get es z.entry ≡ Some (Merge n z.lit steps)) same
                (subst (λ (z : Node). slice_get es place ≡ Some (Merge z lit steps)) (exact-node node n g) f),
          )
      in-entry place (Apart node lit input) f g h = absurd (none-some m h)
      in-entry place (Spent node lit seen log) f g h = absurd (none-some m h)
      in-entry place (Out j steps) f g h = absurd (none-some m h)
      in-entry place (OutApart j input) f g h = absurd (none-some m h)
      in-entry place (OutSpent j seen log) f g h = absurd (none-some m h)

      go : (o : Option ℕ) → place_on es (Merged n) ≡ o → (steps : List Step) × (slice_get es m.entry ≡ Some (Merge n m.lit steps))
      go None f = let g : None ≡ Some m = rw f at e in absurd (none-some m g)
      go (Some place) f =
          let at = at_place (is_on (Merged n)) es place f in
          let h : option_and_then (merge_in place) (slice_get es place) ≡ Some m = rw f at e in
          let i : merge_in place at.0 ≡ Some m = rw at.1 at h in
          in-entry place at.0 at.1 at.2 i

  -- a node that isn't merged has no entry
  pub root-unsettled : merge_of es n ≡ None → place_on es (Merged n) ≡ None
  root-unsettled e = go (place_on es (Merged n)) refl
    where
      in-entry : (place : ℕ) (x : Entry) → is_on (Merged n) x ≡ true → (m : MergeAt) × (merge_in place x ≡ Some m)
      in-entry place (Merge node lit steps) g = (record { entry = place; lit = lit }, refl)
      in-entry place (Apart node lit input) g = cc
      in-entry place (Spent node lit seen log) g = cc
      in-entry place (Out j steps) g = cc
      in-entry place (OutApart j input) g = cc
      in-entry place (OutSpent j seen log) g = cc

      go : (o : Option ℕ) → place_on es (Merged n) ≡ o → place_on es (Merged n) ≡ None
      go None f = f
      go (Some place) f =
          let at = at_place (is_on (Merged n)) es place f in
          let some = in-entry place at.0 at.2 in
          let h : option_and_then (merge_in place) (slice_get es place) ≡ None = rw f at e in
          let i : merge_in place at.0 ≡ None = rw at.1 at h in
          absurd (none-some some.0 (sym i ∙ some.1))

  -- a node is merged exactly where some entry is its merge
  pub is_some-merge : is_some (place_on es (Merged n)) ≡ is_some (merge_of es n)
  is_some-merge = go (place_on es (Merged n)) (merge_of es n) refl refl
    where
      go : (o : Option ℕ) (m : Option MergeAt) → place_on es (Merged n) ≡ o → merge_of es n ≡ m
          → is_some (place_on es (Merged n)) ≡ is_some (merge_of es n)
      go None m e f = rw e refl
      go (Some place) None e f = absurd (none-some place (sym (root-unsettled f) ∙ e))
      go (Some place) (Some m) e f = ap is_some e ∙ sym (ap is_some f)

  among : ℕ → MergeAt → Option MergeAt
  among k m = if nat_lt m.entry k then Some m else None

  in-place : (place k : ℕ) (o : Option Entry) (b : Bool) → nat_lt place k ≡ b
      → option_and_then (among k) (option_and_then (merge_in place) o) ≡ cond b (option_and_then (merge_in place) o) None
  unfolding among
  in-place place k None true e = refl
  in-place place k None false e = refl
  in-place place k (Some (Merge node lit steps)) true e = rw e refl
  in-place place k (Some (Merge node lit steps)) false e = rw e refl
  in-place place k (Some (Apart node lit input)) true e = refl
  in-place place k (Some (Apart node lit input)) false e = refl
  in-place place k (Some (Spent node lit seen log)) true e = refl
  in-place place k (Some (Spent node lit seen log)) false e = refl
  in-place place k (Some (Out j steps)) true e = refl
  in-place place k (Some (Out j steps)) false e = refl
  in-place place k (Some (OutApart j input)) true e = refl
  in-place place k (Some (OutApart j input)) false e = refl
  in-place place k (Some (OutSpent j seen log)) true e = refl
  in-place place k (Some (OutSpent j seen log)) false e = refl

  -- among the first entries it is the same, if it stands there
  merge-take : (k : ℕ) → merge_of (take k es) n ≡ option_and_then (among k) (merge_of es n)
  merge-take k = go (place_on es (Merged n)) refl
    where
      go : (o : Option ℕ) → place_on es (Merged n) ≡ o → merge_of (take k es) n ≡ option_and_then (among k) (merge_of es n)
      go None e = let f : place_on (take k es) (Merged n) ≡ None = place-none (is_on (Merged n)) k es e in rw (e, f) refl
      go (Some place) e = here (nat_lt place k) refl
        where
          here : (b : Bool) → nat_lt place k ≡ b → merge_of (take k es) n ≡ option_and_then (among k) (merge_of es n)
          here true b =
              let below : place < k = grind (arith, nat_tests) in
              let f : place_on (take k es) (Merged n) ≡ Some place = place-kept (is_on (Merged n)) k es place e below in
              rw (e, f, get-kept k es place below) (sym (in-place place k (slice_get es place) true b))
          here false b =
              let above : k ≤ place = grind (arith, nat_tests) in
              let f : place_on (take k es) (Merged n) ≡ None = place-cut (is_on (Merged n)) k es place e above in
              rw (e, f) (sym (in-place place k (slice_get es place) false b))

  module _ (k : ℕ) (o : Option (ℕ × Lit)) (is : option_map merge_at o ≡ merge_of es n) where
    pub among-kept : (m : ℕ × Lit) → o ≡ Some m → m.0 < k → Some (merge_at m) ≡ merge_of (take k es) n
    unfolding among
    among-kept m e below =
        let t : nat_lt m.0 k ≡ true = grind (arith, nat_tests) in
        let f : merge_of es n ≡ Some (merge_at m) = sym is ∙ ap (option_map merge_at) e in
        sym (merge-take k ∙ ap (option_and_then (among k)) f ∙ rw t refl)

    pub among-cut : (m : ℕ × Lit) → o ≡ Some m → k ≤ m.0 → None ≡ merge_of (take k es) n
    unfolding among
    among-cut m e above =
        let t : nat_lt m.0 k ≡ false = grind (arith, nat_tests) in
        let f : merge_of es n ≡ Some (merge_at m) = sym is ∙ ap (option_map merge_at) e in
        sym (merge-take k ∙ ap (option_and_then (among k)) f ∙ rw t refl)

    pub among-none : o ≡ None → None ≡ merge_of (take k es) n
    among-none e =
        let f : merge_of es n ≡ None = sym is ∙ ap (option_map merge_at) e in
        sym (merge-take k ∙ ap (option_and_then (among k)) f)

-- two nodes that one entry merges are one
pub merged-one : (es : List Entry) (n k : Node) (a b : MergeAt) → merge_of es n ≡ Some a → merge_of es k ≡ Some b → a.entry ≡ b.entry → n ≡ k
merged-one es n k a b e f same =
    let x = merged-entry es n a e in
    let y = merged-entry es k b f in
    let one : Merge n a.lit x.0 ≡ Merge k b.lit y.0 =
    same_Some (Merge n a.lit x.0) (Merge k b.lit y.0) (sym x.1 ∙ ap (slice_get es) same ∙ y.1) in
    cc

-- a node with a position has a variable
pub placed-there : (net : AigPair) (n : Node) → IsSome (position_of net n) → IsSome (variable_of net n)
placed-there net n h =
    is_some-variable net n ∙ has-variable net n (sym (is_some-place (λ m. same_node m n) (nodes_of net)) ∙ h)

-- what a legal book says of a merge
-- nothing stands before itself
pub irreflexive : (o : Option ℕ) → IsBefore o o → ⊥
irreflexive None h = h
irreflexive (Some p) h = absurd (omega arith)

module _ (net : AigPair) (book : Entries) (legal : IsLegal net book) (seen : ℕ) (n : Node) (m : MergeAt)
    (e : merge_of (take seen book.entries) n ≡ Some m) where
  good : (steps : List Step) × (IsGood net (record { sweep_budget = book.sweep_budget; out_budget = book.out_budget; entries = take m.entry book.entries }) (Merge n m.lit steps))
  good =
      let x = merged-entry (take seen book.entries) n m e in (
        x.0,
        in_turn-at (λ before e. IsGood net (record { sweep_budget = book.sweep_budget; out_budget = book.out_budget; entries = before }) e) [] book.entries m.entry
            (Merge n m.lit x.0) legal (get-whole seen book.entries m.entry (Merge n m.lit x.0) x.1),
      )

  pub merge-placed : IsSome (position_of net n) × IsSome (position_of net m.lit.node)
  merge-placed = (good.1 NoNode).0

  pub merge-earlier : IsEarlier net n m.lit
  merge-earlier = good.1 NotEarlier

  pub merge-apart : same_node n m.lit.node ≡ false
  merge-apart = go (same_node n m.lit.node) refl
    where
      go : (b : Bool) → same_node n m.lit.node ≡ b → b ≡ false
      go false f = refl
      go true f =
          let same = exact-node n m.lit.node f in
          absurd (irreflexive (position_of net m.lit.node) (subst (λ (k : Node). IsBefore (position_of net m.lit.node) (position_of net k)) same merge-earlier))
