-- How a walk grows, and that what it has found in the end is what the seeds reach.
use Rattle.std.proofs.Common.{◌≡◌, ℕ, ◌+◌, Bool, true, false, not, ◌&&◌, ◌||◌, Option, Some, None, List, [], ◌∷◌, ◌++◌, length, refl, sym, ap, ◌∙◌, subst, arith, length-append}
use Rattle.std.specs.Ordering.{nat_cmp, match_ordering, is_eq}
use Rattle.std.specs.declared.cmp.Ordering.{Ordering}
use Rattle.std.specs.declared.cmp.Ordering.TheVariants.{Less, Equal, Greater}
use Rattle.std.specs.Option.{option_map, is_some}
use Rattle.std.specs.Map.{values_of, lookup}
use Rattle.std.specs.BTreeMap.{insert_entry, is_at, IsOrdered, get}
use Rattle.std.proofs.lemmas.Bool.Decides.{nat_tests}
use Rattle.std.proofs.lemmas.List.Folds.{list_any-append}
use Rattle.std.proofs.lemmas.Option.{none-some, same_Some}
use Rattle.std.proofs.Math.Bool.{or-false, or_assoc, or_comm}
use Rattle.lits.specs.Clause.{has}
use Rattle.lits.specs.Dimacs.{DimacsLiteral}
use Rattle.lits.specs.declared.node.Node.{Node}
use Rattle.lits.specs.declared.literal.Lit.{Lit}
use Rattle.netlist.specs.Net.{AigPair}
use Rattle.lits.specs.Same.{same_node}
use Rattle.lits.proofs.Facts.{exact-node, same-node_self}
use Rattle.netlist.specs.Miter.{variable_of, cnf_number_of}
use Rattle.netlist.proofs.Facts.{variable-one}
use Rattle.unit_prop.proofs.Facts.{contrary}
use Rattle.lemma_book.specs.declared.walk.Walk.{Walk}
use Rattle.lemma_book.specs.Walk.{AreNumbered, is_found, is_pending, IsWalk, Finds}

pub number-variable : (net : AigPair) (l : Lit) (d : DimacsLiteral) → cnf_number_of net l ≡ Some d → variable_of net l.node ≡ Some d.var
number-variable net l d e = go (variable_of net l.node) refl
  where
    go : (o : Option ℕ) → variable_of net l.node ≡ o → o ≡ Some d.var
    go None f = absurd (none-some d (sym (ap (option_map (λ v. record { var = v; neg = l.neg })) f) ∙ e))
    go (Some v) f =
        let same = same_Some (record { var = v; neg = l.neg }) d (sym (ap (option_map (λ k. record { var = k; neg = l.neg })) f) ∙ e) in
        ap (λ (x : DimacsLiteral). Some x.var) same

equal-keys : (x y : ℕ) → nat_cmp x y ≡ Equal → x ≡ y
equal-keys x y e = grind (arith, nat_tests)

same-key : (x : ℕ) → nat_cmp x x ≡ Equal
same-key x = grind (arith, nat_tests)

module _ (net : AigPair) (node : Node) (k : ℕ) (at : variable_of net node ≡ Some k) where
  -- the node of an entry at the key
  entry-node : (e : ℕ × Node) → variable_of net e.1 ≡ Some e.0 → nat_cmp k e.0 ≡ Equal → e.1 ≡ node
  entry-node e numbered same = variable-one net e.1 node k (numbered ∙ ap Some (sym (equal-keys k e.0 same))) at

  pub inserted-numbered : (es : List (ℕ × Node)) → AreNumbered net es → AreNumbered net (insert_entry nat_cmp es k node)
  inserted-numbered [] all = (at, tt)
  inserted-numbered (e ∷ es) all = go (nat_cmp k e.0) refl (inserted-numbered es all.1)
    where
      go : (o : Ordering) → nat_cmp k e.0 ≡ o → AreNumbered net (insert_entry nat_cmp es k node)
          → AreNumbered net (match_ordering o ((k, node) ∷ e ∷ es) ((e.0, node) ∷ es) (e ∷ insert_entry nat_cmp es k node))
      go Less f rest = (at, all)
      go Equal f rest = (at ∙ ap Some (equal-keys k e.0 f), all.1)
      go Greater f rest = (all.0, rest)

  -- one more node is among the values
  pub inserted-has : (es : List (ℕ × Node)) → AreNumbered net es → (n : Node)
      → has same_node (values_of (insert_entry nat_cmp es k node)) n ≡ (has same_node (values_of es) n || same_node node n)
  inserted-has [] all n = or-false (same_node node n)
  inserted-has (e ∷ es) all n = go (nat_cmp k e.0) refl (inserted-has es all.1 n)
    where
      twice : (a b : Bool) → (a || b) ≡ ((a || b) || a)
      twice true b = refl
      twice false true = refl
      twice false false = refl

      go : (o : Ordering) → nat_cmp k e.0 ≡ o
          → has same_node (values_of (insert_entry nat_cmp es k node)) n ≡ (has same_node (values_of es) n || same_node node n)
          → has same_node (values_of (match_ordering o ((k, node) ∷ e ∷ es) ((e.0, node) ∷ es) (e ∷ insert_entry nat_cmp es k node))) n
          ≡ (has same_node (values_of (e ∷ es)) n || same_node node n)
      go Less f rest = or_comm (same_node node n) (same_node e.1 n || has same_node (values_of es) n)
      go Equal f rest =
          subst (λ (m : Node). (same_node m n || has same_node (values_of es) n) ≡ ((same_node e.1 n || has same_node (values_of es) n) || same_node m n))
          (entry-node e all.0 f) (twice (same_node e.1 n) (has same_node (values_of es) n))
      go Greater f rest = ap (λ (b : Bool). same_node e.1 n || b) rest ∙ sym (or_assoc (same_node e.1 n) (has same_node (values_of es) n) (same_node node n))

  -- a look-up finds the node exactly where it is among the values
  pub lookup-has : (es : List (ℕ × Node)) → AreNumbered net es → is_some (lookup (is_at (nat_cmp k)) es) ≡ has same_node (values_of es) node
  lookup-has [] all = refl
  lookup-has (e ∷ es) all = go (nat_cmp k e.0) (same_node e.1 node) refl refl (lookup-has es all.1)
    where
      apart : (o : Ordering) → nat_cmp k e.0 ≡ o → is_eq o ≡ false → same_node e.1 node ≡ false
      apart o f g = here (same_node e.1 node) refl
        where
          here : (b : Bool) → same_node e.1 node ≡ b → b ≡ false
          here false h = refl
          here true h =
              let same : k ≡ e.0 = same_Some k e.0 (sym at ∙ ap (variable_of net) (sym (exact-node e.1 node h)) ∙ all.0) in
              let equal : nat_cmp k e.0 ≡ Equal = subst (λ (x : ℕ). nat_cmp k x ≡ Equal) same (same-key k) in
              contrary (is_eq o) (ap is_eq (sym f ∙ equal)) g

      go : (o : Ordering) (b : Bool) → nat_cmp k e.0 ≡ o → same_node e.1 node ≡ b
          → is_some (lookup (is_at (nat_cmp k)) es) ≡ has same_node (values_of es) node
          → is_some (lookup (is_at (nat_cmp k)) (e ∷ es)) ≡ has same_node (values_of (e ∷ es)) node
      go Equal b f g rest =
          let found : same_node e.1 node ≡ true = ap (λ (m : Node). same_node m node) (entry-node e all.0 f) ∙ same-node_self node in
          rw (f, found) refl
      go Less b f g rest = rw (f, apart Less f refl) rest
      go Greater b f g rest = rw (f, apart Greater f refl) rest

  module _ (old new : Walk) (walk : IsWalk net old) (entries : new.found.entries ≡ insert_entry nat_cmp old.found.entries k node)
      (ordered : IsOrdered nat_cmp new.found) where
    found-more : (n : Node) → is_found new n ≡ (is_found old n || has same_node (node ∷ []) n)
    found-more n =
        ap (λ (l : List (ℕ × Node)). has same_node (values_of l) n) entries ∙ inserted-has old.found.entries walk.numbered n
        ∙ ap (λ (b : Bool). is_found old n || b) (sym (or-false (same_node node n)))

    walk-more : IsWalk net new
    walk-more = record {
      numbered = subst (AreNumbered net) (sym entries) (inserted-numbered old.found.entries walk.numbered);
      ordered = ordered;
    }

    -- a node that is new is still to be visited
    pub finds-new : new.pending.items ≡ old.pending.items ++ node ∷ [] → length new.found.entries ≡ length old.found.entries + 1
        → is_some (get nat_cmp old.found k) ≡ false → Finds net old (node ∷ []) new
    finds-new pending count none = record {
      walk = walk-more;
      found = found-more;
      pending = λ n. ap (λ (l : List Node). has same_node l n) pending ∙ list_any-append (λ y. same_node y n) old.pending.items (node ∷ []) ∙ added n;
      count = omega (arith, count, ap length pending, length-append old.pending.items (node ∷ []));
    }
      where
        fresh : is_found old node ≡ false
        fresh = sym (lookup-has old.found.entries walk.numbered) ∙ none

        added : (n : Node) → (is_pending old n || has same_node (node ∷ []) n) ≡ (is_pending old n || (has same_node (node ∷ []) n && not (is_found old n)))
        added n = go (same_node node n) refl
          where
            go : (b : Bool) → same_node node n ≡ b → (is_pending old n || (b || false)) ≡ (is_pending old n || ((b || false) && not (is_found old n)))
            go false e = refl
            go true e = ap (λ (b : Bool). is_pending old n || not b) (sym (subst (λ (m : Node). is_found old m ≡ false) (exact-node node n e) fresh))

    -- one that was found before isn't visited again
    pub finds-known : new.pending.items ≡ old.pending.items → length new.found.entries ≡ length old.found.entries
        → is_some (get nat_cmp old.found k) ≡ true → Finds net old (node ∷ []) new
    finds-known pending count some = record {
      walk = walk-more;
      found = found-more;
      pending = λ n. ap (λ (l : List Node). has same_node l n) pending ∙ added n;
      count = omega (arith, count, ap length pending);
    }
      where
        there : is_found old node ≡ true
        there = sym (lookup-has old.found.entries walk.numbered) ∙ some

        added : (n : Node) → is_pending old n ≡ (is_pending old n || (has same_node (node ∷ []) n && not (is_found old n)))
        added n = go (same_node node n) refl
          where
            go : (b : Bool) → same_node node n ≡ b → is_pending old n ≡ (is_pending old n || ((b || false) && not (is_found old n)))
            go false e = sym (or-false (is_pending old n))
            go true e =
                sym (or-false (is_pending old n))
                ∙ ap (λ (b : Bool). is_pending old n || not b) (sym (subst (λ (m : Node). is_found old m ≡ true) (exact-node node n e) there))
