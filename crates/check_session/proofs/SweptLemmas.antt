-- What a sweep, and what is settled of the outputs behind it, leave.
use Rattle.std.proofs.Common.{◌≡◌, ◌≢◌, ℕ, zero, suc, ◌+◌, ◌≤◌, append_assoc, Bool, true, false, ◌||◌, List, [], ◌∷◌, ◌++◌, length, take, drop, Option, Some, None, inl, inr, refl, sym, ap, ◌∙◌, subst, arith, Result, Ok, Err, IfOk}
use Rattle.std.specs.List.{AllByRecursion, list_all, list_any}
use Rattle.std.proofs.lemmas.List.{append-nil}
use Rattle.std.proofs.Math.Seq.{take-append_seam}
use Rattle.std.proofs.lemmas.Bool.{and_parts}
use Rattle.std.proofs.lemmas.Bool.Decides.{nat_tests}
use Rattle.std.specs.Option.{option_and_then}
use Rattle.std.specs.declared.alloc.AllocError.{AllocError}
use Rattle.std.specs.Prelude.{slice_get}
use Rattle.lits.specs.declared.node.Node.{Node}
use Rattle.lits.proofs.Facts.{all-append}
use Rattle.netlist.specs.Place.{place_of}
use Rattle.netlist.specs.Net.{AigPair, DiffersOn, definitions}
use Rattle.word_sim.specs.Patterns.{Patterns}
use Rattle.lemma_book.specs.declared.entry.Entry.{Entry}
use Rattle.lemma_book.specs.declared.entry.Entry.TheVariants.{Merge, Apart, Spent, Out, OutApart, OutSpent}
use Rattle.lemma_book.specs.declared.entry.Subject.TheVariants.{Merged}
use Rattle.lemma_book.specs.Entry.{Entries, is_merge, is_on, is_spent_on, subject_of, with_last}
use Rattle.lemma_book.specs.Root.{IsRoot, merge_in}
use Rattle.lemma_book.specs.Book.{IsLegal, StartsWith}
use Rattle.lemma_book.specs.Agreement.{IsTrue}
use Rattle.lemma_book.proofs.Facts.{root-unsettled}
use Rattle.sig_classes.specs.Leader.{IsReduced, IsSwept}
use Rattle.strash_pass.specs.Strash.{AddsMerges, AreStructural, ArePlain, IsMerge}
use Rattle.sweep_workers.specs.Answered.{OpensTwoRoots, sees_first}
use Rattle.sweep_workers.specs.Swept.{IsPoolFor, SettlesOutputs, Sweeps, apart_inputs, is_of_output}
use Rattle.check_session.specs.declared.counts.Work.{Work}
use Rattle.check_session.specs.declared.patterns.Difference.{Difference}
use Rattle.check_session.specs.declared.options.Options.{Options}
use Rattle.check_session.specs.declared.sweep.Checked.{Checked}
use Rattle.check_session.specs.declared.verdict.Verdict.{Verdict}
use Rattle.check_session.specs.declared.verdict.Verdict.TheVariants as verdict
use Rattle.check_session.specs.Finding.{Finding, Equivalent, Different, Undecided, Finds, Means, SeesMerges}
use Rattle.check_session.specs.Outputs.{SeeMerges, finding_of, is_pair_or_out}
use Rattle.check_session.specs.Pool.{Extends, IsAmongOrJoins, IsFirstApart, IsPoolOf, NoneApart, first_pool}
use Rattle.check_session.specs.Begun.{Begun, GoesOn, MayBegin, is_equal}
use Rattle.check_session.specs.Check.{IsSweptFor, IsSettled, IsFound}
use Rattle.check_session.specs.Sweep.{AddsStructure, IsSweptFrom}
use Rattle.check_session.specs.Telling.{AsksOutputs, TellsDifference}
use Rattle.check_session.proofs.OutputLemmas.{off-subject}
use Rattle.check_session.proofs.PoolLemmas.{extends-same, extends-twice}
use Rattle.check_session.proofs.BegunLemmas.{about-apart, differs-unsettled, lesser-apart, plain-behind, plain-equal, starts-last, starts-twice}

-- ---- merges that the structure shows

structural-merges : (net : AigPair) (k n : ℕ) (es xs : List Entry) → AreStructural net k n es xs → AllByRecursion IsMerge xs
structural-merges net k n es [] s = tt
structural-merges net k n es (x ∷ xs) s =
    (subst IsMerge (sym s.2.entry) tt, structural-merges net (s.0 + 1) n (es ++ x ∷ []) xs s.3)

-- they are merges
pub structure-merges : (net : AigPair) (old new : Entries) → AddsStructure net old new → AddsMerges old new
structure-merges net old new adds = record {
  added = adds.merges.added;
  entries = adds.merges.entries;
  merges = structural-merges net 0 (length (definitions net)) old.entries adds.merges.added adds.merges.structural;
  sweep = adds.merges.sweep;
  out = adds.merges.out;
}

-- where the structure shows no more, none is added
pub adds-none : (net : AigPair) (book : Entries) → ArePlain net book.entries → AddsStructure net book book
adds-none net book plain =
    let from : 0 ≤ length (definitions net) = omega arith in
    record {
      merges = record { added = []; entries = sym (append-nil book.entries); structural = from; sweep = refl; out = refl };
      plain = plain;
    }

-- ---- what open outputs saw

plain-seen : (whole es : List Entry) → list_all is_pair_or_out es ≡ true → AllByRecursion (SeesMerges whole) es
plain-seen whole [] all = tt
plain-seen whole (Merge node lit steps ∷ es) all = (tt, plain-seen whole es all)
plain-seen whole (Apart node lit input ∷ es) all = (tt, plain-seen whole es all)
plain-seen whole (Spent node lit seen log ∷ es) all = (tt, plain-seen whole es all)
plain-seen whole (Out j steps ∷ es) all = (tt, plain-seen whole es all)
plain-seen whole (OutApart j input ∷ es) all = cc
plain-seen whole (OutSpent j seen log ∷ es) all = cc

plain-opens : (net : AigPair) (whole es : List Entry) → list_all is_pair_or_out es ≡ true → AllByRecursion (OpensTwoRoots net whole) es
plain-opens net whole [] all = tt
plain-opens net whole (Merge node lit steps ∷ es) all = (tt, plain-opens net whole es all)
plain-opens net whole (Apart node lit input ∷ es) all = (tt, plain-opens net whole es all)
plain-opens net whole (Spent node lit seen log ∷ es) all = (tt, plain-opens net whole es all)
plain-opens net whole (Out j steps ∷ es) all = (tt, plain-opens net whole es all)
plain-opens net whole (OutApart j input ∷ es) all = cc
plain-opens net whole (OutSpent j seen log ∷ es) all = cc

any-drop : (n : ℕ) (es : List Entry) → list_any is_merge es ≡ false → list_any is_merge (drop n es) ≡ false
any-drop zero es none = none
any-drop (suc n) [] none = refl
any-drop (suc n) (e ∷ es) none = go (is_merge e) refl none (any-drop n es)
  where
    go : (b : Bool) → is_merge e ≡ b → (is_merge e || list_any is_merge es) ≡ false
        → (list_any is_merge es ≡ false → list_any is_merge (drop n es) ≡ false) → list_any is_merge (drop n es) ≡ false
    go true is none rest = let t : true ≡ false = rw is at none in cc
    go false is none rest = rest (rw is at none)

-- what is dropped of a list with others behind it, where it is dropped whole
drop-behind : (n : ℕ) (xs ys : List Entry) → length xs ≤ n → list_any is_merge ys ≡ false → list_any is_merge (drop n (xs ++ ys)) ≡ false
drop-behind n [] ys most none = any-drop n ys none
drop-behind zero (x ∷ xs) ys most none = absurd (omega (arith, most))
drop-behind (suc n) (x ∷ xs) ys most none = drop-behind n xs ys (omega (arith, most)) none

no-merges : (es : List Entry) → list_all is_of_output es ≡ true → list_any is_merge es ≡ false
no-merges [] all = refl
no-merges (Merge node lit steps ∷ es) all = cc
no-merges (Apart node lit input ∷ es) all = cc
no-merges (Spent node lit seen log ∷ es) all = cc
no-merges (Out j steps ∷ es) all = no-merges es all
no-merges (OutApart j input ∷ es) all = no-merges es all
no-merges (OutSpent j seen log ∷ es) all = no-merges es all

-- an open output saw all before the first output's entry, and no merge stands behind that
output-seen : (front outs : List Entry) (e : Entry) → list_any is_merge outs ≡ false → sees_first (length front) e ≡ true
    → SeesMerges (front ++ outs) e
output-seen front outs (Merge node lit steps) none sees = tt
output-seen front outs (Apart node lit input) none sees = tt
output-seen front outs (Spent node lit seen log) none sees = tt
output-seen front outs (Out j steps) none sees = tt
output-seen front outs (OutApart j input) none sees = tt
output-seen front outs (OutSpent j seen log) none sees = drop-behind seen front outs (grind (arith, nat_tests)) none

outputs-seen : (front outs es : List Entry) → list_any is_merge outs ≡ false → list_all (sees_first (length front)) es ≡ true
    → AllByRecursion (SeesMerges (front ++ outs)) es
outputs-seen front outs [] none sees = tt
outputs-seen front outs (e ∷ es) none sees =
    let parts = and_parts (sees_first (length front) e) (list_all (sees_first (length front)) es) sees in
    (output-seen front outs e none parts.0, outputs-seen front outs es none parts.1)

-- behind entries that leave no output open, each open output saw all merges, and its two literals have two roots
module _ (net : AigPair) (swept new : Entries) (plain : list_all is_pair_or_out swept.entries ≡ true) (asked : SettlesOutputs net swept new) where
  pub asked-seen : SeeMerges new.entries
  asked-seen =
      let outs = asked.added in
      let whole = swept.entries ++ outs in
      subst (λ (es : List Entry). SeeMerges es) (sym asked.begins)
      (all-append (SeesMerges whole) swept.entries outs (plain-seen whole swept.entries plain)
      (outputs-seen swept.entries outs outs (no-merges outs asked.kinds) asked.seen))

  pub asked-opens : AllByRecursion (OpensTwoRoots net new.entries) new.entries
  asked-opens =
      subst (λ (es : List Entry). AllByRecursion (OpensTwoRoots net new.entries) es) (sym asked.begins)
      (all-append (OpensTwoRoots net new.entries) swept.entries asked.added (plain-opens net new.entries swept.entries plain) asked.roots)

-- ---- roots

place-last : (test : Entry → Bool) (es : List Entry) (e : Entry) → place_of test es ≡ None → test e ≡ false → place_of test (es ++ e ∷ []) ≡ None
place-last test [] e none other = rw other refl
place-last test (x ∷ xs) e none other = go (test x) refl none (place_of test xs) refl (λ n. place-last test xs e n other)
  where
    go : (b : Bool) → test x ≡ b → place_of test (x ∷ xs) ≡ None → (o : Option ℕ) → place_of test xs ≡ o
        → (place_of test xs ≡ None → place_of test (xs ++ e ∷ []) ≡ None) → place_of test (x ∷ xs ++ e ∷ []) ≡ None
    go true is n o rest_is rest = let t : Some 0 ≡ None = rw is at n in cc
    go false is n None rest_is rest = rw (is, rest rest_is) refl
    go false is n (Some k) rest_is rest = let t : Some (k + 1) ≡ None = rw (is, rest_is) at n in cc

-- an entry that doesn't merge a root leaves it one
pub root-stays : (es : List Entry) (e : Entry) (n : Node) → subject_of e ≢ Some (Merged n) → IsRoot es n → IsRoot (es ++ e ∷ []) n
root-stays es e n other root =
    let none = place-last (is_on (Merged n)) es e (root-unsettled es n root) (off-subject (Merged n) e other) in
    ap (option_and_then (λ k. option_and_then (merge_in k) (slice_get (es ++ e ∷ []) k))) none

place-front : (test : Entry → Bool) (es fs : List Entry) → place_of test (es ++ fs) ≡ None → place_of test es ≡ None
place-front test [] fs none = refl
place-front test (x ∷ xs) fs none = go (test x) refl none (place_of test (xs ++ fs)) refl (place-front test xs fs)
  where
    go : (b : Bool) → test x ≡ b → place_of test (x ∷ xs ++ fs) ≡ None → (o : Option ℕ) → place_of test (xs ++ fs) ≡ o
        → (place_of test (xs ++ fs) ≡ None → place_of test xs ≡ None) → place_of test (x ∷ xs) ≡ None
    go true is n o rest_is rest = let t : Some 0 ≡ None = rw is at n in cc
    go false is n None rest_is rest = rw (is, rest rest_is) refl
    go false is n (Some k) rest_is rest = let t : Some (k + 1) ≡ None = rw (is, rest_is) at n in cc

-- a root of a longer book was one
root-front : (es fs : List Entry) (n : Node) → IsRoot (es ++ fs) n → IsRoot es n
root-front es fs n root =
    let none = place-front (is_on (Merged n)) es fs (root-unsettled (es ++ fs) n root) in
    ap (option_and_then (λ k. option_and_then (merge_in k) (slice_get es k))) none

any-front : (test : Entry → Bool) (es fs : List Entry) → list_any test es ≡ true → list_any test (es ++ fs) ≡ true
any-front test [] fs some = cc
any-front test (x ∷ xs) fs some = go (test x) refl some (any-front test xs fs)
  where
    go : (b : Bool) → test x ≡ b → (test x || list_any test xs) ≡ true → (list_any test xs ≡ true → list_any test (xs ++ fs) ≡ true)
        → (test x || list_any test (xs ++ fs)) ≡ true
    go true is s rest = rw is refl
    go false is s rest = rw is (rest (rw is at s))

-- an entry about an output merges nothing
output-subject : (e : Entry) (n : Node) → is_of_output e ≡ true → subject_of e ≢ Some (Merged n)
output-subject (Merge node lit steps) n output = cc
output-subject (Apart node lit input) n output = cc
output-subject (Spent node lit seen log) n output = cc
output-subject (Out j steps) n output = λ e. cc
output-subject (OutApart j input) n output = λ e. cc
output-subject (OutSpent j seen log) n output = λ e. cc

roots-stay : (es fs : List Entry) (n : Node) → list_all is_of_output fs ≡ true → IsRoot es n → IsRoot (es ++ fs) n
roots-stay es [] n all root = subst (λ (gs : List Entry). IsRoot gs n) (sym (append-nil es)) root
roots-stay es (f ∷ fs) n all root = go (is_of_output f) refl all (λ more mid. roots-stay (es ++ f ∷ []) fs n more mid)
  where
    go : (b : Bool) → is_of_output f ≡ b → list_all is_of_output (f ∷ fs) ≡ true
        → (list_all is_of_output fs ≡ true → IsRoot (es ++ f ∷ []) n → IsRoot ((es ++ f ∷ []) ++ fs) n) → IsRoot (es ++ f ∷ fs) n
    go true is all rest =
        subst (λ (gs : List Entry). IsRoot gs n) (append_assoc es (f ∷ []) fs)
        (rest (rw is at all) (root-stays es f n (output-subject f n is) root))
    go false is all rest = let t : false ≡ true = rw is at all in cc

-- what is reduced stays reduced, whatever is found of the outputs
pub reduced-more : (net : AigPair) (es fs : List Entry) (patterns : List (List Bool)) → list_all is_of_output fs ≡ true
    → IsReduced net es patterns → IsReduced net (es ++ fs) patterns
reduced-more net es fs patterns outputs reduced t gate leader earlier =
    any-front (is_spent_on t.node t.lit) es fs
    (reduced t
    (record { side = gate.side; var = gate.var; gate = gate.gate; there = gate.there; root = root-front es fs t.node gate.root })
    (record {
      candidate = record {
        there = leader.candidate.there;
        root = root-front es fs t.lit.node leader.candidate.root;
        alike = leader.candidate.alike;
      };
      least = λ m before candidate. leader.least m before (record {
        there = candidate.there;
        root = roots-stay es fs m.node outputs candidate.root;
        alike = candidate.alike;
      });
    })
    earlier)

swept-for : (net : AigPair) (es : List Entry) (f : Finding) → IsSwept net es → IsSweptFor net es f
swept-for net es Equivalent swept = swept
swept-for net es (Different j input) swept = inl swept
swept-for net es Undecided swept = swept

-- ---- a difference that is told

-- what is told of it, over a book and patterns that tell of no output else
pub tells-difference : (net : AigPair) (book new : Entries) (pool : Patterns) (d : Difference) (told : List Bool) (work : Work)
    → IsFirstApart net pool.patterns d.output d.input → list_all is_pair_or_out book.entries ≡ true → AllByRecursion (IsTrue net) book.entries → DiffersOn net d.output d.input
    → new ≡ with_last book (OutApart d.output d.input) → IsLegal net new → told ≡ d.input
    → ((f : Finding) → Finds net new.entries f → Means net new.entries f)
    → TellsDifference net book pool d (record { pool = pool; book = new; verdict = verdict.Different d.output told; work = work })
tells-difference net book new pool d told work first plain true_all differs put legal same means = record {
  first = first;
  pool_is = refl;
  book_is = put;
  verdict_is = ap (λ (bits : List Bool). verdict.Different d.output bits) same;
  legal = legal;
  finds = finds;
  means = means (Different d.output d.input) finds;
}
  where
    finds : Finds net new.entries (Different d.output d.input)
    finds =
        subst (λ (b : Entries). Finds net b.entries (Different d.output d.input)) (sym put) (
          about-apart net d.output d.input book.entries (differs-unsettled net d.output d.input book.entries differs plain true_all),
          lesser-apart d.output d.input book.entries plain,
        )

settled-told : (net : AigPair) (o : Options) (book : Entries) (pool : Patterns) (d : Difference) (c : Checked)
    → book.sweep_budget ≡ o.sweep_budget → book.out_budget ≡ o.out_budget → TellsDifference net book pool d c
    → IsSettled net o.sweep_budget o.out_budget c.book (Different d.output d.input)
settled-told net o book pool d c sweep_is budget_is tells = record {
  sweep_is = ap (λ (b : Entries). b.sweep_budget) tells.book_is ∙ sweep_is;
  budget_is = ap (λ (b : Entries). b.out_budget) tells.book_is ∙ budget_is;
  legal = tells.legal;
  finds = tells.finds;
  means = tells.means;
  swept = inr (record { before = book.entries; is = ap (λ (b : Entries). b.entries) tells.book_is });
  within = tt;
}

-- ---- by the sweep

-- ---- behind merges that the structure shows

starts-merged : (old new : Entries) → AddsMerges old new → StartsWith new old
starts-merged old new adds = record { rest = adds.added; entries = adds.entries; sweep = adds.sweep; out = adds.out }

merges-equal : (es fs : List Entry) → AllByRecursion IsMerge fs → list_all is_equal es ≡ true → list_all is_equal (es ++ fs) ≡ true
merges-equal [] [] merges all = refl
merges-equal [] (Merge node lit steps ∷ fs) merges all = merges-equal [] fs merges.1 all
merges-equal [] (Apart node lit input ∷ fs) merges all = absurd merges.0
merges-equal [] (Spent node lit seen log ∷ fs) merges all = absurd merges.0
merges-equal [] (Out j steps ∷ fs) merges all = absurd merges.0
merges-equal [] (OutApart j input ∷ fs) merges all = absurd merges.0
merges-equal [] (OutSpent j seen log ∷ fs) merges all = absurd merges.0
merges-equal (e ∷ es) fs merges all = go (is_equal e) refl all (merges-equal es fs merges)
  where
    go : (b : Bool) → is_equal e ≡ b → list_all is_equal (e ∷ es) ≡ true
        → (list_all is_equal es ≡ true → list_all is_equal (es ++ fs) ≡ true) → list_all is_equal (e ∷ es ++ fs) ≡ true
    go true is all rest = rw is (rest (rw is at all))
    go false is all rest = let t : false ≡ true = rw is at all in cc

-- a check may begin with them too
pub begin-merged : (net : AigPair) (o : Options) (old new : Entries) (pool : Patterns) → MayBegin net o (record { book = old; pool = pool })
    → AddsMerges old new → IsLegal net new → MayBegin net o (record { book = new; pool = pool })
begin-merged net o old new pool may adds legal = record {
  book = record { sweep_is = adds.sweep ∙ may.book.sweep_is; budget_is = adds.out ∙ may.book.budget_is; legal = legal };
  equal =
      subst (λ (es : List Entry). list_all is_equal es ≡ true) (sym adds.entries)
      (merges-equal old.entries adds.added adds.merges may.equal);
  pool = may.pool;
}

-- what goes on from them and from patterns that joined goes on from what was before
pub goes_on-merged : (r : Result Checked AllocError) (old new : Entries) (before pool : Patterns) → AddsMerges old new → Extends before pool
    → IfOk r (λ c. GoesOn (record { book = new; pool = pool }) c.book c.pool)
    → IfOk r (λ c. GoesOn (record { book = old; pool = before }) c.book c.pool)
goes_on-merged (Ok c) old new before pool adds extends on = record {
  entries = starts-twice old new c.book (starts-merged old new adds) on.entries;
  patterns = extends-twice before pool c.pool extends on.patterns;
}
goes_on-merged (Err e) old new before pool adds extends on = tt

-- what was found of whatever book stood before the merges was found of this one
pub found-merged : (r : Result Checked AllocError) (net : AigPair) (o : Options) (old merged : Entries) (before pool : Patterns) → pool ≡ before
    → AddsStructure net old merged → MayBegin net o (record { book = old; pool = before })
    → IfOk r (λ c. (book : Entries) → AddsStructure net book merged → MayBegin net o (record { book = book; pool = pool })
    → IsFound net o (record { book = book; pool = pool }) (Some c.pool) c.book c.verdict)
    → IfOk r (λ c. IsFound net o (record { book = old; pool = before }) (Some c.pool) c.book c.verdict)
found-merged (Ok c) net o old merged before pool same adds may found =
    subst (λ (p : Patterns). IsFound net o (record { book = old; pool = p }) (Some c.pool) c.book c.verdict) same
    (found old adds (subst (λ (p : Patterns). MayBegin net o (record { book = old; pool = p })) (sym same) may))
found-merged (Err e) net o old merged before pool same adds may found = tt

-- behind entries that say that values are equal it says of no output that it differs or is open
pub swept-plain : (net : AigPair) (merged swept : Entries) (pool seen : Patterns) → list_all is_equal merged.entries ≡ true
    → Sweeps net merged swept pool seen → list_all is_pair_or_out swept.entries ≡ true
swept-plain net merged swept pool seen equal pairs =
    subst (λ (es : List Entry). list_all is_pair_or_out es ≡ true) (sym pairs.begins)
    (plain-behind merged.entries pairs.added (plain-equal merged.entries equal) pairs.kinds)

-- the patterns that a sweep began with tell no output apart still
pub none-known : (net : AigPair) (merged swept : Entries) (pool seen : Patterns) (known : ℕ) → Sweeps net merged swept pool seen
    → known ≡ length pool.patterns → NoneApart net pool.patterns → NoneApart net (take known seen.patterns)
none-known net merged swept pool seen known pairs count none =
    subst (λ (ps : List (List Bool)). NoneApart net ps)
    (sym (ap (λ (n : ℕ). take n seen.patterns) count
    ∙ (ap (take (length pool.patterns)) pairs.patterns ∙ take-append_seam pool.patterns (apart_inputs pairs.added)))) none

-- what a sweep leaves, where these merges stood before it and nothing of an output was said
module _ (net : AigPair) (o : Options) (old merged swept : Entries) (pool seen : Patterns) (adds : AddsStructure net old merged)
    (pairs : Sweeps net merged swept pool seen) where
  abbrev begun : Begun
  begun = record { book = old; pool = pool }

  from : IsSweptFrom net begun swept seen
  from = record { merged = merged; structure = adds; pairs = pairs }

  longer : Extends pool seen
  longer = record { added = apart_inputs pairs.added; is = pairs.patterns }

  starts : StartsWith swept old
  starts =
      starts-twice old merged swept (starts-merged old merged (structure-merges net old merged adds)) (record {
        rest = pairs.added;
        entries = pairs.begins;
        sweep = pairs.sweep_budget;
        out = pairs.out_budget;
      })

  -- the book and the patterns go on, with an output's entries behind them
  pub goes_on-told : (d : Difference) (c : Checked) → TellsDifference net swept seen d c → GoesOn begun c.book c.pool
  goes_on-told d c tells = record {
    entries = starts-twice old swept c.book starts (starts-last swept c.book (OutApart d.output d.input) tells.book_is);
    patterns = extends-twice pool seen c.pool longer (extends-same seen c.pool tells.pool_is);
  }

  pub goes_on-asked : (c : Checked) → AsksOutputs net swept seen c → GoesOn begun c.book c.pool
  goes_on-asked c asks = record {
    entries = starts-twice old swept c.book starts (record {
      rest = asks.outputs.added;
      entries = asks.outputs.begins;
      sweep = asks.outputs.sweep_budget;
      out = asks.outputs.out_budget;
    });
    patterns = extends-twice pool seen c.pool longer (extends-same seen c.pool asks.pool_is);
  }

  module _ (may : MayBegin net o begun) (fits : IsPoolFor net seen) (reduced : IsReduced net swept.entries seen.patterns) where
    pool-of : IsPoolOf net o seen
    pool-of = record { fits = fits; begins = extends-twice (first_pool net o) pool seen may.pool.begins longer }

    sweep-is : swept.sweep_budget ≡ o.sweep_budget
    sweep-is = pairs.sweep_budget ∙ adds.merges.sweep ∙ may.book.sweep_is

    budget-is : swept.out_budget ≡ o.out_budget
    budget-is = pairs.out_budget ∙ adds.merges.out ∙ may.book.budget_is

    -- what a pattern tells that joined
    pub found-told : (d : Difference) (c : Checked) → NoneApart net pool.patterns → TellsDifference net swept seen d c
        → IsFound net o begun (Some c.pool) c.book c.verdict
    found-told d c none tells =
        subst (λ (p : Patterns). IsFound net o begun (Some p) c.book c.verdict) (sym tells.pool_is)
        (subst (λ (v : Verdict). IsFound net o begun (Some seen) c.book v) (sym tells.verdict_is) (record {
          settled = settled-told net o swept seen d c sweep-is budget-is tells;
          open_are = tt;
          patterns = seen;
          pool_is = refl;
          pool_of = pool-of;
          begun_of = may.pool;
          way = inr (inl (record {
            output = d.output;
            input = d.input;
            finding_is = refl;
            none = none;
            first = tells.first;
            swept = swept;
            sweep = from;
            reduced = reduced;
            book_is = tells.book_is;
          }));
        }))

    -- what the queries about the outputs find, where no pattern tells one apart
    pub found-asked : (c : Checked) → AsksOutputs net swept seen c
        → ((es : List Entry) (ps : List (List Bool)) → AllByRecursion (λ bits. length bits ≡ length net.a.inputs) ps
        → IsReduced net es ps → IsSwept net es)
        → IsFound net o begun (Some c.pool) c.book c.verdict
    found-asked c asks sweeps =
        subst (λ (p : Patterns). IsFound net o begun (Some p) c.book c.verdict) (sym asks.pool_is) (record {
          settled = record {
            sweep_is = asks.outputs.sweep_budget ∙ sweep-is;
            budget_is = asks.outputs.out_budget ∙ budget-is;
            legal = asks.outputs.legal;
            finds = asks.finds;
            means = asks.means;
            swept = swept-for net c.book.entries (finding_of c.verdict) (sweeps c.book.entries seen.patterns fits.whole last);
            within = asks.within;
          };
          open_are = asks.open_are;
          patterns = seen;
          pool_is = refl;
          pool_of = pool-of;
          begun_of = may.pool;
          way = inr (inr (record {
            none = asks.none;
            settled = record { swept = swept; sweep = from; outputs = asks.outputs };
            reduced = last;
          }));
        })
      where
        last : IsReduced net c.book.entries seen.patterns
        last =
            subst (λ (es : List Entry). IsReduced net es seen.patterns) (sym asks.outputs.begins)
            (reduced-more net swept.entries asks.outputs.added seen.patterns asks.outputs.kinds reduced)

-- ---- at once

-- what a pattern shows at once, which may have joined those that a check began with
pub found-at_once : (net : AigPair) (o : Options) (begun pool : Patterns) (first : Entries) (d : Difference) (c : Checked)
    → IsPoolOf net o begun → IsAmongOrJoins net begun.patterns pool.patterns d.input
    → MayBegin net o (record { book = first; pool = pool }) → TellsDifference net first pool d c
    → IsFound net o (record { book = first; pool = begun }) (Some c.pool) c.book c.verdict
found-at_once net o begun pool first d c of from ready tells =
    subst (λ (p : Patterns). IsFound net o (record { book = first; pool = begun }) (Some p) c.book c.verdict) (sym tells.pool_is)
    (subst (λ (v : Verdict). IsFound net o (record { book = first; pool = begun }) (Some pool) c.book v) (sym tells.verdict_is) (record {
      settled = settled-told net o first pool d c ready.book.sweep_is ready.book.budget_is tells;
      open_are = tt;
      patterns = pool;
      pool_is = refl;
      pool_of = ready.pool;
      begun_of = of;
      way = inl (record {
        output = d.output;
        input = d.input;
        finding_is = refl;
        first = tells.first;
        from = from;
        entries_are = ap (λ (b : Entries). b.entries) tells.book_is;
      });
    }))

pub goes_on-at_once : (net : AigPair) (book : Entries) (pool : Patterns) (d : Difference) (c : Checked) → TellsDifference net book pool d c
    → GoesOn (record { book = book; pool = pool }) c.book c.pool
goes_on-at_once net book pool d c tells = record {
  entries = starts-last book c.book (OutApart d.output d.input) tells.book_is;
  patterns = extends-same pool c.pool tells.pool_is;
}

-- ---- where patterns joined before anything was found

-- what was found over whatever a check began with was found over what it began with
pub found-sooner : {T E : Type 0} (r : Result T E) (A B : Patterns → Type 0) (F : Patterns → T → Type 0) (p : Patterns) → A p → B p
    → IfOk r (λ c. (begun : Patterns) → A begun → B begun → F begun c) → IfOk r (F p)
found-sooner (Ok c) A B F p a b found = found p a b
found-sooner (Err e) A B F p a b found = tt

-- and it goes on from there
pub goes_on-sooner : (r : Result Checked AllocError) (book : Entries) (old mid : Patterns) → Extends old mid
    → IfOk r (λ c. GoesOn (record { book = book; pool = mid }) c.book c.pool)
    → IfOk r (λ c. GoesOn (record { book = book; pool = old }) c.book c.pool)
goes_on-sooner (Ok c) book old mid extends on =
    record { entries = on.entries; patterns = extends-twice old mid c.pool extends on.patterns }
goes_on-sooner (Err e) book old mid extends on = tt

-- with patterns that joined a check may begin still
pub begin-joined : (net : AigPair) (o : Options) (book : Entries) (old mid : Patterns) → MayBegin net o (record { book = book; pool = old })
    → Extends old mid → IsPoolFor net mid → MayBegin net o (record { book = book; pool = mid })
begin-joined net o book old mid may extends fits = record {
  book = may.book;
  equal = may.equal;
  pool = record { fits = fits; begins = extends-twice (first_pool net o) old mid may.pool.begins extends };
}
