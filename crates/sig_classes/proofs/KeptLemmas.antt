-- Classes that are kept: what rows of new patterns part them into, and the tasks that they give.
use Rattle.std.proofs.Common.{◌≡◌, ◌∙◌, ℕ, ◌+◌, ◌*◌, ◌-◌, ◌/◌, ◌<◌, ◌≤◌, ◌&&◌, ◌++◌, nat_lt, Bool, true, false, not, Option, None, Some, List, [], length, take, drop, refl, sym, ap, ap₂, subst, arith, inl, inr, length-append, length-drop, length-take, Result, Ok, Err, IfOk, OnOk, if◌then◌else◌}
use Rattle.std.specs.List.{AllByRecursion, slice_index_or}
use Rattle.std.proofs.lemmas.Bool.{cases_lt, false_from_ne_true}
use Rattle.std.proofs.lemmas.Bool.Decides.{nat_tests}
use Rattle.std.proofs.lemmas.List.{get_or_append_left, get_or-append_right, get_or-append-add, get_or-drop, get_or-take}
use Rattle.std.proofs.lemmas.List.{take-take, take_min}
use Rattle.std.proofs.Math.Seq.{take-length}
use Rattle.lits.specs.declared.literal.Lit.{Lit}
use Rattle.netlist.specs.Net.{AigPair, IsNet, nodes_of, node_at, value_of, differs}
use Rattle.netlist.proofs.Facts.{position-node}
use Rattle.word_sim.specs.Patterns.{first_words}
use Rattle.word_sim.specs.Rows.{Signatures, AreSignatures, turned}
use Rattle.word_sim.proofs.Facts.{some-signatures}
use Rattle.lemma_book.specs.declared.entry.Entry.{Entry}
use Rattle.lemma_book.specs.declared.entry.Task.{Task}
use Rattle.lemma_book.specs.Entry.{Entries, has_spent_on}
use Rattle.lemma_book.specs.Root.{root_of}
use Rattle.lemma_book.specs.Book.{IsLegal}
use Rattle.lemma_book.specs.Agreement.{HaveOneValue}
use Rattle.sig_classes.specs.Chains.{are_one, class_of, is_first}
use Rattle.sig_classes.specs.Pass.{root_at, is_gate, lit_between, task_at, IsNextTask}
use Rattle.sig_classes.specs.Kept.{AreSame, IsLeastSame, AreClasses, Kept, AreKept, AreLeast, HaveRoots, HaveSigns, counts, led_at, next_part, next_seen}
use Rattle.sig_classes.proofs.ChainLemmas.{one-parts, one-from, one-none}
use Rattle.sig_classes.proofs.FirstLemmas.{first-parts, first-from}
use Rattle.sig_classes.proofs.LeaderLemmas.{first-bit, alike-same, same-alike}
use Rattle.sig_classes.proofs.CountLemmas.{stays}
use Rattle.sig_classes.proofs.RootLemmas.{root-alike}
use Rattle.sig_classes.proofs.TaskLemmas.{next-merged, next-lone, next-found}

-- ---- positions that no pattern tells apart

same-swap : (net : AigPair) (patterns : List (List Bool)) (q p : ℕ) → AreSame net patterns q p → AreSame net patterns p q
same-swap net patterns q p same k less = sym (same k less)

same-join : (net : AigPair) (patterns : List (List Bool)) (r q p : ℕ) → AreSame net patterns r q → AreSame net patterns q p → AreSame net patterns r p
same-join net patterns r q p one two k less = one k less ∙ two k less

-- the same on one pattern
abbrev SameAt : AigPair → ℕ → ℕ → List Bool → List Bool → Type 0
SameAt net q p first bits = turned (value_of net first (node_at net q)) (value_of net bits (node_at net q))
    ≡ turned (value_of net first (node_at net p)) (value_of net bits (node_at net p))

abbrev pattern-at : List (List Bool) → ℕ → List Bool
pattern-at patterns k = slice_index_or patterns k []

-- the same on a pattern that stands among other patterns too, with the same first one
same-moved : (net : AigPair) (q p : ℕ) (from to : List (List Bool)) (j k : ℕ) → pattern-at from 0 ≡ pattern-at to 0
    → pattern-at from j ≡ pattern-at to k → SameAt net q p (pattern-at from 0) (pattern-at from j)
    → SameAt net q p (pattern-at to 0) (pattern-at to k)
same-moved net q p from to j k first here same =
    subst (λ (bits : List Bool). SameAt net q p (pattern-at to 0) bits) here
    (subst (λ (bits : List Bool). SameAt net q p bits (pattern-at from j)) first same)

-- ---- the patterns of a part

-- the first 64 patterns, and those from the word on that follows so many
abbrev part-behind : ℕ → List (List Bool) → List (List Bool)
part-behind seen patterns = take 64 patterns ++ drop (64 * (seen / 64)) patterns

module _ (patterns : List (List Bool)) (seen : ℕ) (some : 1 ≤ length patterns) where
  abbrev part : List (List Bool)
  part = part-behind seen patterns

  abbrev behind : ℕ
  behind = 64 * (seen / 64)

  part-length : length part ≡ length (take 64 patterns) + (length patterns - behind)
  part-length = length-append (take 64 patterns) (drop behind patterns) ∙ ap (λ (n : ℕ). length (take 64 patterns) + n) (length-drop behind patterns)

  -- the first patterns stand where they stood
  part-early : (k : ℕ) → k < 64 → k < length patterns → (k < length part) × (pattern-at part k ≡ pattern-at patterns k)
  part-early k early below =
      let inside : k < length (take 64 patterns) = omega (arith, length-take 64 patterns, early, below) in (
        omega (arith, inside, part-length),
        get_or_append_left (take 64 patterns) (drop behind patterns) [] k inside ∙ get_or-take 64 patterns k [] early,
      )

  part-first : pattern-at part 0 ≡ pattern-at patterns 0
  part-first = (part-early 0 (omega arith) (omega (arith, some))).1

  -- a pattern of the pool in the part, if it stands behind or is among the first
  part-has : (k : ℕ) → k < length patterns → behind ≤ k → (j : ℕ) × (j < length part) × (pattern-at part j ≡ pattern-at patterns k)
  part-has k below late = elim (cases_lt k 64) [
    | inl early ↦ let here = part-early k early below in (k, here.0, here.1)
    | inr past ↦
        let full : length (take 64 patterns) ≡ 64 = omega (arith, length-take 64 patterns, past, below) in
        let place : behind + (k - behind) ≡ k = omega (arith, late) in (
          64 + (k - behind),
          omega (arith, part-length, full, late, below),
          ap (λ (n : ℕ). pattern-at part (n + (k - behind))) (sym full)
              ∙ get_or-append-add (take 64 patterns) (drop behind patterns) (k - behind) []
              ∙ get_or-drop behind patterns (k - behind) [] ∙ ap (pattern-at patterns) place,
        )
  ]

  -- and the other way round
  part-of : (j : ℕ) → j < length part → (k : ℕ) × (k < length patterns) × (pattern-at patterns k ≡ pattern-at part j)
  part-of j below = elim (cases_lt j (length (take 64 patterns))) [
    | inl early ↦
        let few : j < 64 = omega (arith, length-take 64 patterns, early) in
        let all : j < length patterns = omega (arith, length-take 64 patterns, early) in
        (j, all, sym (part-early j few all).1)
    | inr past ↦ (
      behind + (j - length (take 64 patterns)),
      omega (arith, part-length, past, below),
      sym (get_or-append_right (take 64 patterns) (drop behind patterns) (length (take 64 patterns)) j [] refl past
          ∙ get_or-drop behind patterns (j - length (take 64 patterns)) []),
    )
  ]

  -- ---- classes over the first patterns, and rows over the part

  module _ (net : AigPair) (old : List ℕ) (many : seen ≤ length patterns) (classes : AreClasses net (take seen patterns) old)
      (sigs : Signatures) (are : AreSignatures net part sigs) (is : IsNet net) (entries : List Entry) where
    abbrev IsPosition : ℕ → Type 0
    IsPosition p = p < length (nodes_of net)

    abbrev Counts : ℕ → Type 0
    Counts p = counts old p ≡ true

    -- one class over the first patterns
    old-same : (q p : ℕ) → IsPosition q → IsPosition p → Counts q → Counts p → class_of old q ≡ class_of old p
        → AreSame net (take seen patterns) q p
    old-same q p there below one two own =
        let first = (classes.each q there one).same in
        let second : AreSame net (take seen patterns) (class_of old q) p =
        subst (λ (l : ℕ). AreSame net (take seen patterns) l p) (sym own) (classes.each p below two).same in
        same-join net (take seen patterns) q (class_of old q) p (same-swap net (take seen patterns) (class_of old q) q first) second

    same-old : (q p : ℕ) → IsPosition q → IsPosition p → Counts q → Counts p → AreSame net (take seen patterns) q p
        → class_of old q ≡ class_of old p
    same-old q p there below one two same =
        let a = classes.each q there one in
        let b = classes.each p below two in
        let not-less : class_of old q < class_of old p → ⊥ = λ less.
        b.least (class_of old q) less a.own
        (same-join net (take seen patterns) (class_of old q) q p a.same same) in
        let not-more : class_of old p < class_of old q → ⊥ = λ more.
        a.least (class_of old p) more b.own
        (same-join net (take seen patterns) (class_of old p) p q b.same (same-swap net (take seen patterns) q p same)) in
        omega (arith, not-less, not-more)

    seen-at : (k : ℕ) → k < seen → pattern-at (take seen patterns) k ≡ pattern-at patterns k
    seen-at k below = get_or-take seen patterns k [] below

    -- in one class, and with rows alike: no pattern of the pool tells them apart
    one-same : (q p : ℕ) → IsPosition q → IsPosition p → Counts q → Counts p → are_one old sigs q p ≡ true → AreSame net patterns q p
    one-same q p there below first second one k less =
        let parts = one-parts old sigs q p one in
        let new : AreSame net part q p = alike-same net is entries part sigs are p q below there parts.1 in
        elim (cases_lt k behind) [
          | inl early ↦
              let before : k < seen = omega (arith, early) in
              let inside : k < length (take seen patterns) = omega (arith, length-take seen patterns, before, many) in
              same-moved net q p (take seen patterns) patterns k k (seen-at 0 (omega (arith, before))) (seen-at k before)
              (old-same q p there below first second parts.0 k inside)
          | inr late ↦
              let has = part-has k less late in
              same-moved net q p part patterns has.0 k part-first has.2 (new has.0 has.1)
        ]

    -- and the other way round
    same-one : (q p : ℕ) → IsPosition q → IsPosition p → Counts q → Counts p → AreSame net patterns q p → are_one old sigs q p ≡ true
    same-one q p there below first second same =
        one-from old sigs q p
        (same-old q p there below first second (λ k less.
        let before : k < seen = omega (arith, length-take seen patterns, less) in
        same-moved net q p patterns (take seen patterns) k k (sym (seen-at 0 (omega (arith, before)))) (sym (seen-at k before))
        (same k (omega (arith, length-take seen patterns, less)))))
        (same-alike net is entries part sigs are p q below there (λ j less.
        let of = part-of j less in
        same-moved net q p patterns part of.0 j (sym part-first) of.2 (same of.0 of.1)))

    -- the classes over all patterns
    pub refined-classes : (new : List ℕ) → length (nodes_of net) ≤ 4294967295 → AreLeast old sigs (length (nodes_of net)) new
        → AreClasses net patterns new
    refined-classes new few least = record {
      size = least.size;
      each = λ p below counting.
          let before : (r : ℕ) → IsPosition r → counts new r ≡ counts old r = stays old sigs (length (nodes_of net)) new least few in
          let here : Counts p = sym (before p below) ∙ counting in
          let l = least.each p below here in
          let there : class_of new p < length (nodes_of net) = omega (arith, l.low, below) in
          record {
            low = l.low;
            own = before (class_of new p) there ∙ l.own;
            same = one-same (class_of new p) p there below l.own here l.one;
            least = λ r less counts-r same.
                let inside : r < length (nodes_of net) = omega (arith, less, there) in
                let own : Counts r = sym (before r inside) ∙ counts-r in
                let f : true ≡ false = sym (same-one r p inside below own here same) ∙ l.least r less own in cc;
          };
    }

    pub part-signs : HaveSigns net patterns sigs
    part-signs p below =
        first-bit net is entries part sigs are p below ∙ ap (λ (bits : List Bool). value_of net bits (node_at net p)) part-first

-- ---- the next block

-- the patterns that were looked at when the next block was
abbrev cut-of : ℕ → List (List Bool) → List (List Bool)
cut-of seen patterns = first_words (seen / 64 + 4) patterns

next-behind : (patterns : List (List Bool)) (seen : ℕ) → next_part seen patterns ≡ part-behind seen (cut-of seen patterns)
next-behind patterns seen =
    ap (λ (ps : List (List Bool)). ps ++ drop (64 * (seen / 64)) (cut-of seen patterns))
    (sym (take-take 64 (64 * (seen / 64 + 4)) patterns (omega arith)))

cut-length : (patterns : List (List Bool)) (seen : ℕ) → length (cut-of seen patterns) ≡ next_seen seen (length patterns)
cut-length patterns seen = length-take (64 * (seen / 64 + 4)) patterns

cut-first : (patterns : List (List Bool)) (seen : ℕ) → pattern-at (cut-of seen patterns) 0 ≡ pattern-at patterns 0
cut-first patterns seen = get_or-take (64 * (seen / 64 + 4)) patterns 0 [] (omega arith)

-- rows of the next block are rows of some patterns
pub next-some : (net : AigPair) (patterns : List (List Bool)) (seen : ℕ) (sigs : Signatures) → AreSignatures net (next_part seen patterns) sigs
    → 1 ≤ length patterns
next-some net patterns seen sigs are =
    let whole : length (next_part seen patterns) ≡ length (take 64 patterns) + length (drop (64 * (seen / 64)) (cut-of seen patterns)) =
    length-append (take 64 patterns) (drop (64 * (seen / 64)) (cut-of seen patterns)) in
    omega (arith, are.some, whole, length-take 64 patterns, length-drop (64 * (seen / 64)) (cut-of seen patterns), cut-length patterns seen)

module _ (net : AigPair) (is : IsNet net) (entries : List Entry) (patterns : List (List Bool)) (seen : ℕ) (sigs : Signatures)
    (are : AreSignatures net (next_part seen patterns) sigs) where
  rows-behind : AreSignatures net (part-behind seen (cut-of seen patterns)) sigs
  rows-behind = subst (λ (ps : List (List Bool)). AreSignatures net ps sigs) (next-behind patterns seen) are

  cut-some : 1 ≤ length (cut-of seen patterns)
  cut-some = omega (arith, next-some net patterns seen sigs are, cut-length patterns seen)

  -- the rows begin as they do over all patterns
  pub next-signs : HaveSigns net patterns sigs
  next-signs p below =
      first-bit net is entries (part-behind seen (cut-of seen patterns)) sigs rows-behind p below
      ∙ ap (λ (bits : List Bool). value_of net bits (node_at net p))
      (part-first (cut-of seen patterns) seen cut-some ∙ cut-first patterns seen)

  -- the classes that they part are kept
  pub next-kept : (kept : Kept) → kept.seen ≡ seen → AreKept net patterns kept → (new : List ℕ) → length (nodes_of net) ≤ 4294967295
      → AreLeast kept.leaders sigs (length (nodes_of net)) new
      → AreKept net patterns (record { seen = next_seen seen (length patterns); leaders = new })
  next-kept kept at old new small least =
      let few : seen ≤ length patterns = omega (arith, at, old.some) in
      let before : take seen (cut-of seen patterns) ≡ take kept.seen patterns =
      take-take seen (64 * (seen / 64 + 4)) patterns (omega arith) ∙ ap (λ (n : ℕ). take n patterns) (sym at) in
      let all : take (next_seen seen (length patterns)) patterns ≡ cut-of seen patterns = take_min (64 * (seen / 64 + 4)) patterns in
      let now : AreClasses net (cut-of seen patterns) new =
      refined-classes (cut-of seen patterns) seen cut-some net kept.leaders (omega (arith, few, cut-length patterns seen))
      (subst (λ (ps : List (List Bool)). AreClasses net ps kept.leaders) (sym before) old.classes) sigs rows-behind is entries new small least in
      record {
        some = omega arith;
        classes = subst (λ (ps : List (List Bool)). AreClasses net ps new) (sym all) now;
      }

-- after the last block the classes are over all patterns
pub last-classes : (net : AigPair) (patterns : List (List Bool)) (seen : ℕ) (kept : Kept) → AreKept net patterns kept
    → kept.seen ≡ next_seen seen (length patterns) → length patterns ≤ 64 * (seen / 64 + 4) → AreClasses net patterns kept.leaders
last-classes net patterns seen kept old at end =
    let all : take kept.seen patterns ≡ patterns =
    ap (λ (n : ℕ). take n patterns) (omega (arith, at, end)) ∙ take-length patterns in
    subst (λ (ps : List (List Bool)). AreClasses net ps kept.leaders) all old.classes

pub if-ok : {T E : Type 0} (r : Result T E) (P Q : T → Type 0) → IfOk r P → ((x : T) → P x → Q x) → IfOk r Q
if-ok (Ok x) P Q p f = f x p
if-ok (Err e) P Q p f = tt

pub on-ok : {T E : Type 0} (r : Result T E) (Q : Type 0) → Q → OnOk r Q
on-ok (Ok x) Q q = q
on-ok (Err e) Q q = tt

-- ---- tasks

less-is : (q p : ℕ) → nat_lt q p ≡ true → q < p
less-is q p e = grind (arith, nat_tests, e)

more-is : (q p : ℕ) → nat_lt q p ≡ false → p ≤ q
more-is q p e = grind (arith, nat_tests, e)

abbrev task-with : AigPair → List Entry → ℕ → Lit → Option Task
task-with net entries p lit =
    if is_gate (node_at net p) && not (has_spent_on entries (node_at net p) lit) then Some (record { node = node_at net p; lit = lit }) else None

module _ (net : AigPair) (is : IsNet net) (book : Entries) (legal : IsLegal net book) (patterns : List (List Bool)) (some : 1 ≤ length patterns)
    (whole : AllByRecursion (λ bits. length bits ≡ length net.a.inputs) patterns)
    (keeps : (l : Lit) → HaveOneValue net l (root_of book.entries l)) (leaders : List ℕ) (classes : AreClasses net patterns leaders)
    (roots : HaveRoots net book.entries leaders) (sigs : Signatures) (signs : HaveSigns net patterns sigs) (p : ℕ)
    (below : p < length (nodes_of net)) where
  abbrev q : ℕ
  q = class_of leaders p

  abbrev root : ℕ → Bool
  root = root_at net book.entries

  module _ (open-p : root p ≡ true) (all : Signatures) (are : AreSignatures net patterns all) where
    least-p : IsLeastSame net patterns (counts leaders) q p
    least-p = classes.each p below (roots p below open-p)

    there : q < length (nodes_of net)
    there = omega (arith, least-p.low, below)

    one-is_same : (r s : ℕ) → r < length (nodes_of net) → s < length (nodes_of net) → are_one [] all r s ≡ true → AreSame net patterns r s
    one-is_same r s here next one = alike-same net is book.entries patterns all are s r next here (sym (one-none all r s) ∙ one)

    -- no earlier root is in its class
    lone-least : (r : ℕ) → r < q → root r ≡ true → are_one [] all r p ≡ false
    lone-least r less is_root =
        let inside : r < length (nodes_of net) = omega (arith, less, there) in
        false_from_ne_true (are_one [] all r p)
        (λ one. least-p.least r less (roots r inside is_root) (one-is_same r p inside below one))

    lone-q : (r : ℕ) → r < q → root r ≡ true → are_one [] all r q ≡ false
    lone-q r less is_root =
        let inside : r < length (nodes_of net) = omega (arith, less, there) in
        let other : are_one [] all r q ≡ true → ⊥ = λ one.
        least-p.least r less (roots r inside is_root)
        (same-join net patterns r q p (one-is_same r q inside there one) least-p.same) in
        false_from_ne_true (are_one [] all r q) other

    -- the least of a class isn't merged, since it would be with an earlier one
    least-root : root q ≡ true
    least-root =
        let earlier = root-alike net is book legal patterns all are whole keeps (node_at net q) q (position-node net is q there) in
        let not-less : earlier.0 < q → ⊥ = λ less.
        let f : true ≡ false = sym (one-none all earlier.0 q ∙ earlier.3) ∙ lone-q earlier.0 less earlier.2 in cc in
        let same : earlier.0 ≡ q = omega (arith, not-less, earlier.4) in
        sym (ap root same) ∙ earlier.2

    lit-is : lit_between net all q p ≡ lit_between net sigs q p
    lit-is =
        ap₂ (λ (a b : Bool). record { node = node_at net q; neg = differs a b })
        (first-bit net is book.entries patterns all are q there ∙ sym (signs q there))
        (first-bit net is book.entries patterns all are p below ∙ sym (signs p below))

    led-task : q < p → IsNextTask net book.entries patterns p (task_at net book.entries sigs q p)
    led-task less =
        let first : is_first [] all root p q ≡ true = first-from [] all root p q less least-root lone-q in
        let both : are_one [] all q p ≡ true =
        one-none all q p ∙ same-alike net is book.entries patterns all are p q below there least-p.same in
        subst (λ (l : Lit). IsNextTask net book.entries patterns p (task-with net book.entries p l)) lit-is
        (next-found net is book.entries patterns p below all are q first both open-p)

    led-lone : p ≤ q → IsNextTask net book.entries patterns p None
    led-lone more =
        next-lone net is book.entries patterns p below all are (λ r first.
        let parts = first-parts [] all root p r first in lone-least r (omega (arith, more, parts.0)) parts.1)

  -- the task that is due of the position
  pub next-led : IsNextTask net book.entries patterns p (led_at net book.entries sigs q p)
  next-led = go (nat_lt q p) (root p) refl refl
    where
      full : (all : Signatures) × AreSignatures net patterns all
      full = some-signatures net patterns some

      go : (less open-p : Bool) → nat_lt q p ≡ less → root p ≡ open-p
          → IsNextTask net book.entries patterns p (if less && open-p then task_at net book.entries sigs q p else None)
      go true true e f = led-task f full.0 full.1 (less-is q p e)
      go true false e f = next-merged net is book.entries patterns p below f
      go false true e f = led-lone f full.0 full.1 (more-is q p e)
      go false false e f = next-merged net is book.entries patterns p below f
