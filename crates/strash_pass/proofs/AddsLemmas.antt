-- Books that grow by the pass's merges.
use Rattle.std.proofs.Common.{None, ◌≡◌, ℕ, ◌+◌, ◌≤◌, Some, List, [], ◌∷◌, ◌++◌, length, map, refl, sym, ap, ◌∙◌, subst, arith, length-append, append-nil, append_assoc}
use Rattle.std.specs.Prelude.{slice_get, Result, Ok, Err, OnOk, OnErr}
use Rattle.std.specs.List.{AllByRecursion}
use Rattle.std.proofs.lemmas.List.{length-map}
use Rattle.lits.specs.declared.literal.Lit.{Lit}
use Rattle.netlist.specs.declared.gate.Definition.{Definition}
use Rattle.lits.specs.declared.node.Side.TheVariants.{A, B}
use Rattle.netlist.specs.Net.{AigPair, IsNet, definition_of, definitions}
use Rattle.netlist.specs.Miter.{positive}
use Rattle.lemma_book.specs.declared.entry.Entry.{Entry}
use Rattle.lemma_book.specs.declared.entry.Entry.TheVariants.{Merge}
use Rattle.lemma_book.specs.Entry.{Entries}
use Rattle.lemma_book.specs.Root.{root_of, IsRoot}
use Rattle.strash_pass.specs.Strash.{folded, AddsFirstPart, AddsMerges, AddsStructural, AreStructural, ArePlainBelow, Finding, IsMerge, constant_among, finding_of, way_of}
use Rattle.strash_pass.specs.Pass.{IsTwin, Merges}
use Rattle.strash_pass.proofs.TwinLemmas.{finding-fold, finding-twin, twin-first}

-- ---- entries that are structural in rising order
structural-from : (net : AigPair) (j k n : ℕ) (es xs : List Entry) → j ≤ k → AreStructural net k n es xs → AreStructural net j n es xs
structural-from net j k n es [] below s = omega (arith, below, s)
structural-from net j k n es (x ∷ xs) below s = (s.0, omega (arith, below, s.1), s.2, s.3)

structural-to : (net : AigPair) (k m n : ℕ) (es xs : List Entry) → m ≤ n → AreStructural net k m es xs → AreStructural net k n es xs
structural-to net k m n es [] below s = omega (arith, below, s)
structural-to net k m n es (x ∷ xs) below s = (s.0, s.1, s.2, structural-to net (s.0 + 1) m n (es ++ x ∷ []) xs below s.3)

structural-more : (net : AigPair) (k m n : ℕ) (es xs ys : List Entry) → AreStructural net k m es xs → AreStructural net m n (es ++ xs) ys
    → AreStructural net k n es (xs ++ ys)
structural-more net k m n es [] ys s t =
    structural-from net k m n es ys s (subst (λ (l : List Entry). AreStructural net m n l ys) (append-nil es) t)
structural-more net k m n es (x ∷ xs) ys s t = (
  s.0,
  s.1,
  s.2,
  structural-more net (s.0 + 1) m n (es ++ x ∷ []) xs ys s.3
      (subst (λ (l : List Entry). AreStructural net m n l ys) (sym (append_assoc es (x ∷ []) xs)) t),
)

structural-merges : (net : AigPair) (k n : ℕ) (es xs : List Entry) → AreStructural net k n es xs → AllByRecursion IsMerge xs
structural-merges net k n es [] s = tt
structural-merges net k n es (x ∷ xs) s =
    (subst IsMerge (sym s.2.entry) tt, structural-merges net (s.0 + 1) n (es ++ x ∷ []) xs s.3)

-- ---- books
pub adds-merges : (net : AigPair) (k n : ℕ) (old new : Entries) → AddsStructural net k n old new → AddsMerges old new
adds-merges net k n old new x = record {
  added = x.added;
  entries = x.entries;
  merges = structural-merges net k n old.entries x.added x.structural;
  sweep = x.sweep;
  out = x.out;
}

pub adds-none : (net : AigPair) (k n : ℕ) (book : Entries) → k ≤ n → AddsStructural net k n book book
adds-none net k n book below = record {
  added = [];
  entries = sym (append-nil book.entries);
  structural = below;
  sweep = refl;
  out = refl;
}

pub adds-to : (net : AigPair) (k m n : ℕ) (old new : Entries) → m ≤ n → AddsStructural net k m old new → AddsStructural net k n old new
adds-to net k m n old new below x = record {
  added = x.added;
  entries = x.entries;
  structural = structural-to net k m n old.entries x.added below x.structural;
  sweep = x.sweep;
  out = x.out;
}

pub adds-more : (net : AigPair) (k m n : ℕ) (book mid new : Entries) → AddsStructural net k m book mid → AddsStructural net m n mid new
    → AddsStructural net k n book new
adds-more net k m n book mid new x y = record {
  added = x.added ++ y.added;
  entries = y.entries ∙ ap (λ (l : List Entry). l ++ y.added) x.entries ∙ append_assoc book.entries x.added y.added;
  structural = structural-more net k m n book.entries x.added y.added x.structural
      (subst (λ (l : List Entry). AreStructural net m n l y.added) x.entries y.structural);
  sweep = y.sweep ∙ x.sweep;
  out = y.out ∙ x.out;
}

-- ---- where the pass stops
pub stops : {T E : Type 0} (net : AigPair) (k n : ℕ) (book mid new : Entries) (r : Result T E) → new ≡ mid → AddsStructural net k n book mid
    → ArePlainBelow net mid.entries n → OnErr r (AddsFirstPart net k book new)
stops net k n book mid new (Ok t) same adds plain = tt
stops net k n book mid new (Err x) same adds plain =
    subst (AddsFirstPart net k book) (sym same) (record { end = n; adds = adds; plain = plain })

pub stops-so : {T E : Type 0} (net : AigPair) (k : ℕ) (book new : Entries) (r : Result T E) → AddsFirstPart net k book new
    → OnErr r (AddsFirstPart net k book new)
stops-so net k book new (Ok t) s = tt
stops-so net k book new (Err x) s = s

-- before the first gate
pub first-none : (net : AigPair) (book : Entries) → AddsFirstPart net 0 book book
first-none net book = record { end = 0; adds = adds-none net 0 0 book (omega arith); plain = λ k d below. absurd (omega (arith, below)) }

pub stops-later : {T E : Type 0} (net : AigPair) (k m : ℕ) (book mid new : Entries) (r : Result T E) → AddsStructural net k m book mid
    → OnErr r (AddsFirstPart net m mid new) → OnErr r (AddsFirstPart net k book new)
stops-later net k m book mid new (Ok t) first s = tt
stops-later net k m book mid new (Err x) first s =
    record { end = s.end; adds = adds-more net k m s.end book mid new first s.adds; plain = s.plain }

module _ (net : AigPair) (book new : Entries) (n : ℕ) (d : Definition) (at : slice_get (definitions net) n ≡ Some d)
    (unmerged : IsRoot book.entries d.node) where
  -- the gate merges by what is found
  adds-one : (f : Finding) → finding_of net book.entries n d ≡ Some f → (way : List Lit) (target : Lit) → way ≡ f.way → target ≡ f.target
      → Merges net book new way d.node target → AddsStructural net n (n + 1) book new
  adds-one f found way target e g m =
      let same : Merges net book new f.way d.node f.target =
      subst (λ (t : Lit). Merges net book new f.way d.node t) g (subst (λ (w : List Lit). Merges net book new w d.node target) e m) in
      record {
        added = Merge d.node f.target same.steps ∷ [];
        entries = ap (λ (b : Entries). b.entries) same.last;
        structural = (
          n,
          omega arith,
          record {
            gate = d;
            at = at;
            unmerged = unmerged;
            finding = f;
            found = found;
            steps = same.steps;
            entry = refl;
            scanned = same.scanned;
          },
          omega arith,
        );
        sweep = ap (λ (b : Entries). b.sweep_budget) same.last;
        out = ap (λ (b : Entries). b.out_budget) same.last;
      }

  -- whether the merge was put or refused
  grows : {T E : Type 0} (f : Finding) → finding_of net book.entries n d ≡ Some f → (way : List Lit) (target : Lit) → way ≡ f.way
      → target ≡ f.target → (r : Result T E) → OnOk r (Merges net book new way d.node target) → OnErr r (new ≡ book)
      → AddsStructural net n (n + 1) book new
  grows f found way target e g (Ok t) m same = adds-one f found way target e g m
  grows f found way target e g (Err x) m same =
      subst (λ (b : Entries). AddsStructural net n (n + 1) book b) (sym same) (adds-none net n (n + 1) book (omega arith))

  pub fold-grows : {T E : Type 0} (a b t : Lit) (way : List Lit) (r : Result T E) → way ≡ way_of book.entries d
      → a ≡ root_of book.entries d.left → b ≡ root_of book.entries d.right → folded a b ≡ Some t
      → OnOk r (Merges net book new (way ++ constant_among a b t) d.node t) → OnErr r (new ≡ book)
      → AddsStructural net n (n + 1) book new
  fold-grows a b t way r is left right folds =
      let folds_roots : folded (root_of book.entries d.left) (root_of book.entries d.right) ≡ Some t =
      ap (λ (x : Lit). folded x (root_of book.entries d.right)) (sym left) ∙ ap (folded a) (sym right) ∙ folds in
      grows _ (finding-fold net book.entries n d t folds_roots) (way ++ constant_among a b t) t
      (ap (λ (w : List Lit). w ++ constant_among a b t) is
      ∙ ap (λ (x : Lit). way_of book.entries d ++ constant_among x b t) left
      ∙ ap (λ (y : Lit). way_of book.entries d ++ constant_among (root_of book.entries d.left) y t) right)
      refl r

  pub twin-grows : {T E : Type 0} (c : Definition) (way : List Lit) (r : Result T E) → IsNet net → way ≡ way_of book.entries d
      → ArePlainBelow net book.entries n → IsTwin net book.entries c d
      → folded (root_of book.entries d.left) (root_of book.entries d.right) ≡ None
      → OnOk r (Merges net book new (way ++ way_of book.entries c) d.node (positive c.node)) → OnErr r (new ≡ book)
      → AddsStructural net n (n + 1) book new
  twin-grows c way r net_is is plain twin unfolded =
      grows _ (finding-twin net book.entries n d c unfolded (twin-first net net_is book.entries n c d at plain twin))
      (way ++ way_of book.entries c) (positive c.node)
      (ap (λ (w : List Lit). w ++ way_of book.entries c) is) refl r

-- how many gates there are
pub count-gates : (net : AigPair) → length (definitions net) ≡ length net.a.gates + length net.b.gates
count-gates net =
    omega (
      arith,
      length-append (map (definition_of A net.a) net.a.gates) (map (definition_of B net.b) net.b.gates),
      length-map net.a.gates (definition_of A net.a),
      length-map net.b.gates (definition_of B net.b),
    )
