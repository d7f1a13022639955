-- The root of a literal of a legal book isn't merged, and it stays the root where later nodes are merged.
use Rattle.std.proofs.Common.{◌≡◌, ℕ, zero, suc, ◌<◌, ◌≤◌, Bool, true, false, eqb, Option, Some, None, List, [], ◌∷◌, length, take, refl, sym, ap, ◌∙◌, subst, arith, ◌⊎◌, inl, inr}
use Rattle.std.specs.Prelude.{slice_get, ◌||◌}
use Rattle.std.specs.Option.{option_map_or, IsSome, is_some}
use Rattle.std.specs.List.{list_any, AllByRecursion, IsDistinct}
use Rattle.std.proofs.lemmas.Map.Keys.{IsDistinct-cons}
use Rattle.std.proofs.lemmas.Map.Steps.{length-le_from_distinct_below}
use Rattle.std.proofs.lemmas.Option.{same_Some, slice_get_within}
use Rattle.std.proofs.Math.Seq.{take-length}
use Rattle.lits.specs.declared.node.Node.{Node}
use Rattle.lits.specs.declared.literal.Lit.{Lit}
use Rattle.lits.specs.declared.step.Step.{Step}
use Rattle.netlist.specs.Net.{AigPair, position_of}
use Rattle.netlist.proofs.Facts.{equal-number}
use Rattle.lemma_book.specs.declared.entry.Entry.{Entry}
use Rattle.lemma_book.specs.declared.entry.Entry.TheVariants.{Merge}
use Rattle.lemma_book.specs.Entry.{Entries}
use Rattle.lemma_book.specs.Root.{MergeAt, merge_of, carried, follow, followed, root_of, IsRoot}
use Rattle.lemma_book.specs.Good.{IsBefore}
use Rattle.lemma_book.specs.Book.{IsLegal}
use Rattle.lemma_book.proofs.MergedNodes.{merged-entry, merge-placed, merge-earlier}

pub carried-node : (neg : Bool) (l : Lit) → (carried neg l).node ≡ l.node
carried-node true l = refl
carried-node false l = refl

-- ---- what follows from each merge's target being earlier
module _ (net : AigPair) (book : Entries) (legal : IsLegal net book) where
  abbrev held : List Entry
  held = book.entries

  in-book : (n : Node) (m : MergeAt) → merge_of held n ≡ Some m → merge_of (take (length held) held) n ≡ Some m
  in-book n m e = ap (λ (l : List Entry). merge_of l n) (take-length held) ∙ e

  -- the target of a merged node has a position, which is lower
  pub target-lower : (n : Node) (m : MergeAt) (p : ℕ) → merge_of held n ≡ Some m → position_of net n ≡ Some p
      → (q : ℕ) × (position_of net m.lit.node ≡ Some q) × (q < p)
  target-lower n m p e at = go (position_of net m.lit.node) (position_of net n) refl refl (merge-earlier net book legal (length held) n m (in-book n m e))
    where
      go : (a b : Option ℕ) → position_of net m.lit.node ≡ a → position_of net n ≡ b → IsBefore a b
          → (q : ℕ) × (position_of net m.lit.node ≡ Some q) × (q < p)
      go (Some q) (Some r) f g below =
          let same : r ≡ p = same_Some r p (sym g ∙ at) in
          (q, f, omega arith)
      go None b f g below = absurd below
      go (Some q) None f g below = absurd below

  some-position : (n : Node) (m : MergeAt) → merge_of held n ≡ Some m → (p : ℕ) × (position_of net n ≡ Some p)
  some-position n m e = go (position_of net n) refl (merge-placed net book legal (length held) n m (in-book n m e)).0
    where
      go : (o : Option ℕ) → position_of net n ≡ o → IsSome (position_of net n) → (p : ℕ) × (position_of net n ≡ Some p)
      go (Some p) f some = (p, f)
      go None f some = let g : false ≡ true = sym (ap is_some f) ∙ some in cc

  -- the entry merges a node that is lower than q
  record MergesBelow (q i : ℕ) : Type 0 where
    node : Node
    lit : Lit
    steps : List Step
    stands : slice_get held i ≡ Some (Merge node lit steps)
    position : ℕ
    at : position_of net node ≡ Some position
    below : position < q

  higher : (p q i : ℕ) → p ≤ q → MergesBelow p i → MergesBelow q i
  higher p q i le m = record { node = m.node; lit = m.lit; steps = m.steps; stands = m.stands; position = m.position; at = m.at; below = omega (arith, m.below) }

  all-higher : (p q : ℕ) → p ≤ q → (xs : List ℕ) → AllByRecursion (MergesBelow p) xs → AllByRecursion (MergesBelow q) xs
  all-higher p q le [] all = tt
  all-higher p q le (x ∷ xs) all = (higher p q x le all.0, all-higher p q le xs all.1)

  -- a way meets merges of lower and lower nodes, so no entry twice
  record IsWay (q : ℕ) (xs : List ℕ) : Type 0 where
    below : AllByRecursion (MergesBelow q) xs
    distinct : IsDistinct eqb xs

  way-nil : (q : ℕ) → IsWay q []
  unfolding IsDistinct
  way-nil q = record { below = tt; distinct = tt }

  way : (k : ℕ) (l : Lit) (p : ℕ) → position_of net l.node ≡ Some p → IsWay (suc p) (followed k held l)
  way zero l p at = way-nil (suc p)
  way (suc k) l p at = go (merge_of held l.node) refl (way k)
    where
      others : (i : ℕ) (steps : List Step) (lit : Lit) → slice_get held i ≡ Some (Merge l.node lit steps) → (xs : List ℕ) → AllByRecursion (MergesBelow p) xs
          → AllByRecursion (λ y. eqb i y ≡ false) xs
      others i steps lit stands [] all = tt
      others i steps lit stands (y ∷ ys) all = (here (eqb i y) refl, others i steps lit stands ys all.1)
        where
          here : (b : Bool) → eqb i y ≡ b → b ≡ false
          here false e = refl
          here true e =
              let m = all.0 in
              let same : Merge l.node lit steps ≡ Merge m.node m.lit m.steps =
              same_Some (Merge l.node lit steps) (Merge m.node m.lit m.steps) (sym stands ∙ ap (slice_get held) (equal-number i y e) ∙ m.stands) in
              let node : l.node ≡ m.node = cc in
              let one : m.position ≡ p = same_Some m.position p (sym m.at ∙ ap (position_of net) (sym node) ∙ at) in
              absurd (omega (arith, m.below))

      go : (o : Option MergeAt) → merge_of held l.node ≡ o
          → ((n : Lit) (q : ℕ) → position_of net n.node ≡ Some q → IsWay (suc q) (followed k held n)) → IsWay (suc p) (followed (suc k) held l)
      go None e rest = subst (IsWay (suc p)) (sym (ap (λ (o : Option MergeAt). option_map_or (λ m. m.entry ∷ followed k held (carried l.neg m.lit)) o []) e)) (way-nil (suc p))
      go (Some m) e rest =
          let lower = target-lower l.node m p e at in
          let stands = merged-entry held l.node m e in
          let behind = rest (carried l.neg m.lit) lower.0 (ap (position_of net) (carried-node l.neg m.lit) ∙ lower.1) in
          let here : MergesBelow (suc p) m.entry =
          record { node = l.node; lit = m.lit; steps = stands.0; stands = stands.1; position = p; at = at; below = omega arith } in
          let level : suc lower.0 ≤ p = omega (arith, lower.2) in
          let all = all-higher (suc lower.0) p level (followed k held (carried l.neg m.lit)) behind.below in
          subst (IsWay (suc p)) (sym (ap (λ (o : Option MergeAt). option_map_or (λ m. m.entry ∷ followed k held (carried l.neg m.lit)) o []) e))
          (record {
            below = (here, all-higher p (suc p) (omega arith) (followed k held (carried l.neg m.lit)) all);
            distinct = IsDistinct-cons eqb m.entry (followed k held (carried l.neg m.lit)) (others m.entry stands.0 m.lit stands.1 (followed k held (carried l.neg m.lit)) all)
                behind.distinct;
          })

  within : (q : ℕ) (xs : List ℕ) → AllByRecursion (MergesBelow q) xs → (i : ℕ) → list_any (eqb i) xs ≡ true → i < length held
  within q [] all i h = cc
  within q (x ∷ xs) all i h = go (eqb i x) refl (within q xs all.1 i)
    where
      go : (b : Bool) → eqb i x ≡ b → (list_any (eqb i) xs ≡ true → i < length held) → i < length held
      go true e rest =
          let m = all.0 in
          let inside = slice_get_within held x (Merge m.node m.lit m.steps) m.stands in
          let same = equal-number i x e in
          omega arith
      go false e rest = rest (sym (ap (λ (b : Bool). b || list_any (eqb i) xs) e) ∙ h)

  -- so a way is no longer than the book
  short : (k : ℕ) (l : Lit) (p : ℕ) → position_of net l.node ≡ Some p → length (followed k held l) ≤ length held
  short k l p at =
      let w = way k l p at in
      length-le_from_distinct_below (followed k held l) (length held) w.distinct (within (suc p) (followed k held l) w.below)

-- a way ends at an unmerged node, or it is as long as one goes
ended : (es : List Entry) (k : ℕ) (l : Lit) → IsRoot es (follow k es l).node ⊎ (length (followed k es l) ≡ k)
ended es zero l = inr refl
ended es (suc k) l = go (merge_of es l.node) refl (ended es k)
  where
    go : (o : Option MergeAt) → merge_of es l.node ≡ o → ((n : Lit) → IsRoot es (follow k es n).node ⊎ (length (followed k es n) ≡ k))
        → IsRoot es (follow (suc k) es l).node ⊎ (length (followed (suc k) es l) ≡ suc k)
    go None e rest =
        inl (subst (λ (o : Option MergeAt). IsRoot es (option_map_or (λ m. follow k es (carried l.neg m.lit)) o l).node) (sym e) e)
    go (Some m) e rest =
        elim (rest (carried l.neg m.lit)) [
          | inl root ↦ inl (subst (λ (o : Option MergeAt). IsRoot es (option_map_or (λ m. follow k es (carried l.neg m.lit)) o l).node) (sym e) root)
          | inr long ↦ inr (ap (λ (o : Option MergeAt). length (option_map_or (λ m. m.entry ∷ followed k es (carried l.neg m.lit)) o [])) e ∙ ap suc long)
        ]

-- from an unmerged node one gets no further
stays : (es : List Entry) (k : ℕ) (l : Lit) → IsRoot es l.node → follow k es l ≡ l
stays es zero l root = refl
stays es (suc k) l root = ap (λ (o : Option MergeAt). option_map_or (λ m. follow k es (carried l.neg m.lit)) o l) root

-- once more where one has arrived
once-more : (es : List Entry) (k : ℕ) (l : Lit) → IsRoot es (follow k es l).node → follow (suc k) es l ≡ follow k es l
once-more es zero l root = stays es 1 l root
once-more es (suc k) l root = go (merge_of es l.node) refl (once-more es k)
  where
    go : (o : Option MergeAt) → merge_of es l.node ≡ o → ((n : Lit) → IsRoot es (follow k es n).node → follow (suc k) es n ≡ follow k es n)
        → follow (suc (suc k)) es l ≡ follow (suc k) es l
    go None e rest =
        stays es (suc (suc k)) l e ∙ sym (stays es (suc k) l e)
    go (Some m) e rest =
        ap (λ (o : Option MergeAt). option_map_or (λ m. follow (suc k) es (carried l.neg m.lit)) o l) e
        ∙ rest (carried l.neg m.lit) (subst (λ (o : Option MergeAt). IsRoot es (option_map_or (λ m. follow k es (carried l.neg m.lit)) o l).node) e root)
        ∙ sym (ap (λ (o : Option MergeAt). option_map_or (λ m. follow k es (carried l.neg m.lit)) o l) e)

-- where no more is followed than a merge's place, one goes on from there
further : (es : List Entry) (k : ℕ) (l : Lit) → length (followed k es l) ≡ k → (m : MergeAt) → merge_of es (follow k es l).node ≡ Some m
    → length (followed (suc k) es l) ≡ suc k
further es zero l long m e = ap (λ (o : Option MergeAt). length (option_map_or (λ m. m.entry ∷ []) o [])) e
further es (suc k) l long m e = go (merge_of es l.node) refl (further es k)
  where
    go : (o : Option MergeAt) → merge_of es l.node ≡ o
        → ((n : Lit) → length (followed k es n) ≡ k → (m : MergeAt) → merge_of es (follow k es n).node ≡ Some m → length (followed (suc k) es n) ≡ suc k)
        → length (followed (suc (suc k)) es l) ≡ suc (suc k)
    go None f rest =
        let none : 0 ≡ suc k = sym (ap (λ (o : Option MergeAt). length (option_map_or (λ m. m.entry ∷ followed k es (carried l.neg m.lit)) o [])) f) ∙ long in
        absurd (omega arith)
    go (Some x) f rest =
        let shorter : suc (length (followed k es (carried l.neg x.lit))) ≡ suc k =
        sym (ap (λ (o : Option MergeAt). length (option_map_or (λ m. m.entry ∷ followed k es (carried l.neg m.lit)) o [])) f) ∙ long in
        let there : merge_of es (follow k es (carried l.neg x.lit)).node ≡ Some m =
        subst (λ (o : Option MergeAt). merge_of es (option_map_or (λ m. follow k es (carried l.neg m.lit)) o l).node ≡ Some m) f e in
        ap (λ (o : Option MergeAt). length (option_map_or (λ m. m.entry ∷ followed (suc k) es (carried l.neg m.lit)) o [])) f
        ∙ ap suc (rest (carried l.neg x.lit) (omega arith) m there)

module _ (net : AigPair) (book : Entries) (legal : IsLegal net book) where
  -- the root isn't merged
  pub root-unmerged : (l : Lit) → IsRoot book.entries (root_of book.entries l).node
  root-unmerged l =
      elim (ended book.entries (length book.entries) l) [
        | inl root ↦ root
        | inr long ↦ go long (merge_of book.entries (root_of book.entries l).node) refl (merge_of book.entries l.node) refl
      ]
    where
      go : length (followed (length book.entries) book.entries l) ≡ length book.entries
          → (o : Option MergeAt) → merge_of book.entries (root_of book.entries l).node ≡ o
          → (first : Option MergeAt) → merge_of book.entries l.node ≡ first → IsRoot book.entries (root_of book.entries l).node
      go long None e first f = e
      go long (Some m) e None f =
          let arrived : root_of book.entries l ≡ l = stays book.entries (length book.entries) l f in
          ap (λ (x : Lit). merge_of book.entries x.node) arrived ∙ f
      go long (Some m) e (Some x) f =
          let place = some-position net book legal l.node x f in
          let too_long = further book.entries (length book.entries) l long m e in
          let most = short net book legal (suc (length book.entries)) l place.0 place.1 in
          absurd (omega (arith, most, too_long))

  -- the root's position isn't above that of the literal's node
  pub root-lower : (l : Lit) (p : ℕ) → position_of net l.node ≡ Some p
      → (q : ℕ) × (position_of net (root_of book.entries l).node ≡ Some q) × (q ≤ p)
  root-lower l p at = go (length book.entries) l p at
    where
      go : (k : ℕ) (l : Lit) (p : ℕ) → position_of net l.node ≡ Some p → (q : ℕ) × (position_of net (follow k book.entries l).node ≡ Some q) × (q ≤ p)
      go zero l p at = (p, at, omega arith)
      go (suc k) l p at = here (merge_of book.entries l.node) refl (go k)
        where
          here : (o : Option MergeAt) → merge_of book.entries l.node ≡ o
              → ((n : Lit) (r : ℕ) → position_of net n.node ≡ Some r → (q : ℕ) × (position_of net (follow k book.entries n).node ≡ Some q) × (q ≤ r))
              → (q : ℕ) × (position_of net (follow (suc k) book.entries l).node ≡ Some q) × (q ≤ p)
          here None e rest =
              (p, ap (λ (o : Option MergeAt). position_of net (option_map_or (λ m. follow k book.entries (carried l.neg m.lit)) o l).node) e ∙ at, omega arith)
          here (Some m) e rest =
              let lower = target-lower net book legal l.node m p e at in
              let r = rest (carried l.neg m.lit) lower.0 (ap (position_of net) (carried-node l.neg m.lit) ∙ lower.1) in (
                r.0,
                ap (λ (o : Option MergeAt). position_of net (option_map_or (λ m. follow k book.entries (carried l.neg m.lit)) o l).node) e ∙ r.1,
                omega (arith, r.2, lower.2),
              )

  -- where later nodes alone are merged, it stays the root
  pub root-kept : (more : List Entry) (bound : ℕ)
      → ((n : Node) (p : ℕ) → position_of net n ≡ Some p → p < bound → merge_of more n ≡ merge_of book.entries n)
      → length more ≡ suc (length book.entries) → (l : Lit) (p : ℕ) → position_of net l.node ≡ Some p → p < bound
      → root_of more l ≡ root_of book.entries l
  root-kept more bound same count l p at below =
      ap (λ (k : ℕ). follow k more l) count ∙ go (suc (length book.entries)) l p at below
      ∙ once-more book.entries (length book.entries) l (root-unmerged l)
    where
      go : (k : ℕ) (l : Lit) (p : ℕ) → position_of net l.node ≡ Some p → p < bound → follow k more l ≡ follow k book.entries l
      go zero l p at below = refl
      go (suc k) l p at below = here (merge_of book.entries l.node) refl (go k)
        where
          here : (o : Option MergeAt) → merge_of book.entries l.node ≡ o
              → ((n : Lit) (r : ℕ) → position_of net n.node ≡ Some r → r < bound → follow k more n ≡ follow k book.entries n)
              → follow (suc k) more l ≡ follow (suc k) book.entries l
          here None e rest = stays more (suc k) l (same l.node p at below ∙ e) ∙ sym (stays book.entries (suc k) l e)
          here (Some m) e rest =
              let lower = target-lower net book legal l.node m p e at in
              ap (λ (o : Option MergeAt). option_map_or (λ m. follow k more (carried l.neg m.lit)) o l) (same l.node p at below ∙ e)
              ∙ rest (carried l.neg m.lit) lower.0 (ap (position_of net) (carried-node l.neg m.lit) ∙ lower.1) (omega (arith, lower.2))
              ∙ sym (ap (λ (o : Option MergeAt). option_map_or (λ m. follow k book.entries (carried l.neg m.lit)) o l) e)
