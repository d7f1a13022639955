-- Merges that are kept by the positions of their nodes.
use Rattle.std.proofs.Common.{◌≡◌, ℕ, zero, suc, ◌+◌, ◌<◌, ◌≤◌, Bool, true, false, cond, Option, Some, None, List, [], ◌∷◌, ◌++◌, length, refl, sym, ap, ◌∙◌, subst, arith, ◌⊎◌, inl, inr, append-nil, length-append}
use Rattle.std.specs.Prelude.{slice_get, slice_set}
use Rattle.std.specs.Option.{option_map, option_map_or, option_and_then, IsSome}
use Rattle.std.proofs.lemmas.Bool.{cases_lt}
use Rattle.std.proofs.lemmas.List.{set_past}
use Rattle.std.proofs.Math.Seq.{take-length}
use Rattle.std.proofs.lemmas.Option.{none-some, same_Some, slice_get_within}
use Rattle.lits.specs.Same.{same_node}
use Rattle.lits.specs.declared.node.Node.{Node}
use Rattle.lits.specs.declared.literal.Lit.{Lit}
use Rattle.lits.specs.declared.step.Step.{Step}
use Rattle.lits.proofs.Facts.{exact-node, same-node_self}
use Rattle.netlist.specs.Net.{AigPair, node_at, position_of}
use Rattle.netlist.proofs.Facts.{node-at, or_place, place_of-append, slice_get-left, slice_get-right}
use Rattle.lemma_book.specs.declared.entry.Entry.{Entry}
use Rattle.lemma_book.specs.declared.entry.Entry.TheVariants.{Merge}
use Rattle.lemma_book.specs.declared.entry.Subject.TheVariants.{Merged}
use Rattle.lemma_book.specs.Entry.{is_on, place_on, Entries}
use Rattle.lemma_book.specs.Book.{IsLegal}
use Rattle.lemma_book.specs.Root.{MergeAt, carried, follow, merge_in, merge_of, passed, passed_by, root_of, IsRoot}
use Rattle.lemma_book.proofs.Facts.{merge-placed, root-unsettled}
use Rattle.strash_pass.specs.declared.merged.Known.{Known}
use Rattle.strash_pass.specs.Merged.{merge_to, AreMergesOf, IsMergeOf}
use Rattle.strash_pass.proofs.PassLemmas.{merge-other}

-- ---- the list
pub merges-none : (net : AigPair) (es : List Entry) (known : List (Option Known)) → known ≡ [] → AreMergesOf net es known
merges-none net es known e =
    subst (λ (l : List (Option Known)). AreMergesOf net es l) (sym e) (λ node p k at here. absurd (none-some k here))

-- a book of no entries merges no node
pub none_merged : (net : AigPair) (es : List Entry) (node : Node) (n : ℕ) → n ≡ length es → n ≡ 0 → IsMergeOf net es node None
none_merged net [] node n e f = record { merge = refl; placed = tt }
none_merged net (x ∷ xs) node n e f = absurd (omega (arith, e, f))

-- the merge of the node at the next position is put last
pub merges-last : (net : AigPair) (es : List Entry) (known new : List (Option Known)) (k : Option Known) (position : ℕ) → position ≡ length known
    → AreMergesOf net es known → IsMergeOf net es (node_at net position) k → new ≡ known ++ k ∷ [] → AreMergesOf net es new
merges-last net es known new k position count all is e =
    subst (λ (l : List (Option Known)). AreMergesOf net es l) (sym e) (λ node p x at here. go node p x at here (cases_lt p (length known)))
  where
    go : (node : Node) (p : ℕ) (x : Option Known) → position_of net node ≡ Some p → slice_get (known ++ k ∷ []) p ≡ Some x
        → (p < length known) ⊎ (length known ≤ p) → IsMergeOf net es node x
    go node p x at here (inl below) = all node p x at (sym (slice_get-left known (k ∷ []) p below) ∙ here)
    go node p x at here (inr le) =
        let inside = slice_get_within (known ++ k ∷ []) p x here in
        let last : p ≡ length known + 0 = omega (arith, le, inside, length-one) in
        let same : k ≡ x = same_Some k x (sym (slice_get-right known (k ∷ []) 0) ∙ ap (slice_get (known ++ k ∷ [])) (sym last) ∙ here) in
        let same_place : position ≡ p = omega (arith, last, count) in
        let there : node_at net position ≡ node = ap (node_at net) same_place ∙ node-at net node p at in
        subst (IsMergeOf net es node) same (subst (λ (n : Node). IsMergeOf net es n k) there is)
      where
        length-one : length (known ++ k ∷ []) ≡ length known + 1
        length-one = length-append known (k ∷ [])

-- ---- one more merge
-- the node's merge is the last entry
merge-now : (es : List Entry) (node : Node) (target : Lit) (steps : List Step) → IsRoot es node
    → merge_of (es ++ Merge node target steps ∷ []) node ≡ Some (merge_to (length es) target)
merge-now es node target steps root =
    ap (λ (o : Option ℕ). option_and_then (λ k. option_and_then (merge_in k) (slice_get (es ++ Merge node target steps ∷ []) k)) o) place
    ∙ ap (option_and_then (merge_in (length es + 0))) (slice_get-right es (Merge node target steps ∷ []) 0)
    ∙ ap (λ (k : ℕ). Some (merge_to k target)) no-more
  where
    no-more : length es + 0 ≡ length es
    no-more = omega arith

    on : is_on (Merged node) (Merge node target steps) ≡ true
    on = same-node_self node

    place : place_on (es ++ Merge node target steps ∷ []) (Merged node) ≡ Some (length es + 0)
    place =
        place_of-append (is_on (Merged node)) es (Merge node target steps ∷ [])
        ∙ ap (λ (b : Bool). or_place (place_on es (Merged node)) (option_map (λ k. length es + k) (cond b (Some 0) (option_map (λ k. k + 1) None)))) on
        ∙ ap (λ (o : Option ℕ). or_place o (Some (length es + 0))) (root-unsettled es node root)

-- where there is no such place, setting an element changes nothing
pub set_behind : (xs : List (Option Known)) (i : ℕ) (x : Option Known) → length xs ≤ i → xs ≡ slice_set xs i x
set_behind xs i x le = sym (set_past xs i x le)

-- what a list has where an element was set
set-cases : {X : Type 0} (xs : List X) (j k : ℕ) (x y : X) → slice_get (slice_set xs j x) k ≡ Some y
    → ((k ≡ j) × (x ≡ y)) ⊎ ((slice_get xs k ≡ Some y) × (k ≡ j → ⊥))
set-cases [] j k x y e = absurd (none-some y e)
set-cases (z ∷ zs) zero zero x y e = inl (refl, same_Some x y e)
set-cases (z ∷ zs) zero (suc k) x y e = inr (e, λ s. absurd (omega (arith, s)))
set-cases (z ∷ zs) (suc j) zero x y e = inr (e, λ s. absurd (omega (arith, s)))
set-cases (z ∷ zs) (suc j) (suc k) x y e =
    elim (set-cases zs j k x y e) [
      | inl s ↦ inl (ap suc s.0, s.1)
      | inr s ↦ inr (s.0, λ h. s.1 (omega (arith, h)))
    ]

-- the merge is noted at the node's position
pub merges-noted : (net : AigPair) (es more : List Entry) (known new : List (Option Known)) (node : Node) (target : Lit) (steps : List Step) (k : Known)
    (p : ℕ) → position_of net node ≡ Some p → position_of net target.node ≡ Some k.at → k.target ≡ target → k.place ≡ length es → IsRoot es node
    → more ≡ es ++ Merge node target steps ∷ [] → AreMergesOf net es known → new ≡ slice_set known p (Some k) → AreMergesOf net more new
merges-noted net es more known new node target steps k p at there target_is place root grown all e =
    λ n q x at_n here. go n q x at_n (set-cases known p q (Some k) x (ap (λ (l : List (Option Known)). slice_get l q) (sym e) ∙ here))
  where
    now : IsMergeOf net more node (Some k)
    now = record {
      merge = ap (λ (l : Lit). Some (merge_to k.place l)) target_is ∙ ap (λ (i : ℕ). Some (merge_to i target)) place
          ∙ sym (merge-now es node target steps root) ∙ ap (λ (l : List Entry). merge_of l node) (sym grown);
      placed = ap (λ (l : Lit). position_of net l.node) target_is ∙ there;
    }

    same-place : (n : Node) → position_of net n ≡ Some p → node ≡ n
    same-place n at_n = sym (node-at net node p at) ∙ node-at net n p at_n

    apart : (n : Node) (q : ℕ) → position_of net n ≡ Some q → (q ≡ p → ⊥) → (b : Bool) → same_node node n ≡ b → b ≡ false
    apart n q at_n other false f = refl
    apart n q at_n other true f =
        absurd (other (same_Some q p (sym at_n ∙ ap (position_of net) (sym (exact-node node n f)) ∙ at)))

    go : (n : Node) (q : ℕ) (x : Option Known) → position_of net n ≡ Some q
        → ((q ≡ p) × (Some k ≡ x)) ⊎ ((slice_get known q ≡ Some x) × (q ≡ p → ⊥)) → IsMergeOf net more n x
    go n q x at_n (inl s) =
        subst (IsMergeOf net more n) s.1
        (subst (λ (m : Node). IsMergeOf net more m (Some k)) (same-place n (at_n ∙ ap Some s.0)) now)
    go n q x at_n (inr s) =
        let old = all n q x at_n s.0 in
        record {
          merge = old.merge ∙ sym (ap (λ (l : List Entry). merge_of l n) grown
              ∙ merge-other es node target steps n (apart n q at_n s.1 (same_node node n) refl));
          placed = old.placed;
        }

-- ---- roots
-- an unmerged literal is its own root, and passes none
stays : (es : List Entry) (k : ℕ) (l : Lit) → merge_of es l.node ≡ None → follow k es l ≡ l
stays es zero l e = refl
stays es (suc k) l e = ap (λ (o : Option MergeAt). option_map_or (λ m. follow k es (carried l.neg m.lit)) o l) e

passes-none : (es : List Entry) (k : ℕ) (l : Lit) → merge_of es l.node ≡ None → passed k es l ≡ []
passes-none es zero l e = refl
passes-none es (suc k) l e = ap (λ (o : Option MergeAt). option_map_or (λ m. l ∷ passed k es (carried l.neg m.lit)) o []) e

pub root-here : (es : List Entry) (l : Lit) → merge_of es l.node ≡ None → l ≡ root_of es l
root-here es l e = sym (stays es (length es) l e)

pub passed-here : (es : List Entry) (l : Lit) (way : List Lit) → merge_of es l.node ≡ None → way ≡ way ++ passed_by es l
passed-here es l way e = sym (append-nil way) ∙ ap (λ (ls : List Lit). way ++ ls) (sym (passes-none es (length es) l e))

-- where a literal's target is unmerged, that is its root, and it passes itself alone
pub root-once : (es : List Entry) (l : Lit) (m : MergeAt) → merge_of es l.node ≡ Some m → merge_of es (carried l.neg m.lit).node ≡ None
    → carried l.neg m.lit ≡ root_of es l
root-once [] l m e f = absurd (none-some m e)
root-once (x ∷ xs) l m e f =
    sym (ap (λ (o : Option MergeAt). option_map_or (λ n. follow (length xs) (x ∷ xs) (carried l.neg n.lit)) o l) e
    ∙ stays (x ∷ xs) (length xs) (carried l.neg m.lit) f)

pub passed-once : (es : List Entry) (l : Lit) (m : MergeAt) → merge_of es l.node ≡ Some m → merge_of es (carried l.neg m.lit).node ≡ None
    → passed_by es l ≡ l ∷ []
passed-once [] l m e f = absurd (none-some m e)
passed-once (x ∷ xs) l m e f =
    ap (λ (o : Option MergeAt). option_map_or (λ n. l ∷ passed (length xs) (x ∷ xs) (carried l.neg n.lit)) o []) e
    ∙ ap (λ (ls : List Lit). l ∷ ls) (passes-none (x ∷ xs) (length xs) (carried l.neg m.lit) f)

-- a literal and its negation are over one node
pub carried-node : (neg : Bool) (l : Lit) → (carried neg l).node ≡ l.node
carried-node true l = refl
carried-node false l = refl

-- ---- the merge that a book has
-- its target has a position
pub target-there : (net : AigPair) (book : Entries) → IsLegal net book → (n : Node) (m : MergeAt) → merge_of book.entries n ≡ Some m
    → IsSome (position_of net m.lit.node)
target-there net book legal n m e =
    let both = merge-placed net book legal (length book.entries) n m (ap (λ (l : List Entry). merge_of l n) (take-length book.entries) ∙ e) in
    both.1
