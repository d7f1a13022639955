-- What the entries of a legal book say, each by itself and after those before it, and how much they are.
use Rattle.std.proofs.Common.{◌≡◌, ℕ, ◌+◌, ◌*◌, ◌<◌, ◌≤◌, Bool, true, false, ◌||◌, eqb, Option, Some, None, List, [], ◌∷◌, ◌++◌, length, map, take, drop, refl, sym, ap, ◌∙◌, subst, arith, append_assoc}
use Rattle.std.specs.Prelude.{slice_get, IsSome, is_some}
use Rattle.std.specs.Option.{option_map_or, option_and_then, unwrap_or}
use Rattle.std.specs.List.{list_any, IsDistinct, AllByRecursion}
use Rattle.std.proofs.lemmas.Option.{none-some, same_Some, slice_get_within}
use Rattle.std.proofs.lemmas.List.{take-append-drop}
use Rattle.std.proofs.lemmas.List.Folds.{list_any-append}
use Rattle.std.proofs.lemmas.Map.Steps.{length-le_from_distinct_below}
use Rattle.std.proofs.lemmas.Bool.{or_left}
use Rattle.lits.specs.declared.node.Node.{Node}
use Rattle.lits.specs.declared.step.Step.{Step}
use Rattle.lits.specs.Same.{same_node}
use Rattle.lits.proofs.Facts.{exact-node}
use Rattle.netlist.specs.Net.{AigPair, IsNet, nodes_of, position_of}
use Rattle.netlist.proofs.Facts.{at_place, is_some-place, equal-number, find-place}
use Rattle.unit_prop.specs.Log.{InTurn}
use Rattle.unit_prop.proofs.Facts.{in_turn-map}
use Rattle.lemma_book.specs.declared.entry.Entry.{Entry}
use Rattle.lemma_book.specs.declared.entry.Entry.TheVariants.{Merge, Apart, Spent, Out, OutApart, OutSpent}
use Rattle.lemma_book.specs.declared.entry.Subject.{Subject}
use Rattle.lemma_book.specs.declared.entry.Subject.TheVariants.{Merged, Output}
use Rattle.lemma_book.specs.Entry.{subject_of, same_subject, is_on, place_on, about, equal_clause}
use Rattle.lemma_book.specs.Entry.{is_out, has_out, is_spent, has_spent, log_of}
use Rattle.lemma_book.specs.Good.{NoNode, Already, Shape, Count, out_clause}
use Rattle.lemma_book.proofs.Facts.{IsGoodAfter, about-all, clause-more, chain-more, merge-chain_out, out-chain, out_spent-chain, same-subject_self}
use Rattle.proof_stitch.specs.Written.{written_steps, shown_clauses}
use Rattle.proof_stitch.specs.Derivation.{spent_log}
use Rattle.proof_stitch.proofs.StepLemmas.{IsDerived}
use Rattle.proof_stitch.proofs.ShownLemmas.{IsShown, AreDerived}

-- what a good entry says without the entries before it
pub record IsSound (net : AigPair) (out : ℕ) (entry : Entry) : Type 0 where
  pub shown : IsShown net entry
  pub short : length (written_steps entry) ≤ 1000000002
  pub log_short : length (log_of entry) ≤ out
  pub log_whole : is_spent entry ≡ true → length (log_of entry) ≡ out

-- an entry without steps that are written
unwritten : (net : AigPair) (e : Entry) → written_steps e ≡ [] → shown_clauses e ≡ [] → IsShown net e
unwritten net e f g = record {
  over = rw f tt;
  ends = rw (f, g) (record { before = []; last = []; parts = refl; clauses_are = refl });
}

good-sound : (net : AigPair) (sweep out : ℕ) (before : List Entry) (e : Entry) → sweep ≤ 1000000000 → out ≤ 1000000000
    → IsGoodAfter net sweep out before e → IsSound net out e
good-sound net sweep out before (Merge node lit steps) low low' good =
    let there = good NoNode in
    let ends = good Shape in
    let count : length steps ≤ sweep + 2 = good Count in
    record {
      shown = record { over = there.1; ends = ends };
      short = omega arith;
      log_short = omega arith;
      log_whole = λ e. cc;
    }
good-sound net sweep out before (Out j steps) low low' good =
    let there = good NoNode in
    let ends = good Shape in
    let count : length steps ≤ out + 2 = good Count in
    record {
      shown = record { over = there.1; ends = ends };
      short = omega arith;
      log_short = omega arith;
      log_whole = λ e. cc;
    }
good-sound net sweep out before (OutSpent j seen log) low low' good =
    let count : length log ≡ out = good Count in
    record {
      shown = unwritten net (OutSpent j seen log) refl refl;
      short = omega arith;
      log_short = omega (arith, count);
      log_whole = λ e. count;
    }
good-sound net sweep out before (Apart node lit input) low low' good = record {
  shown = unwritten net (Apart node lit input) refl refl;
  short = omega arith;
  log_short = omega arith;
  log_whole = λ e. cc;
}
good-sound net sweep out before (Spent node lit seen log) low low' good = record {
  shown = unwritten net (Spent node lit seen log) refl refl;
  short = omega arith;
  log_short = omega arith;
  log_whole = λ e. cc;
}
good-sound net sweep out before (OutApart j input) low low' good = record {
  shown = unwritten net (OutApart j input) refl refl;
  short = omega arith;
  log_short = omega arith;
  log_whole = λ e. cc;
}

pub nothing : (net : AigPair) (known : List Entry) → IsDerived net known []
nothing net known = record { over = tt; chain = tt }

good-derived : (net : AigPair) (sweep out : ℕ) (before : List Entry) (e : Entry) → IsGoodAfter net sweep out before e
    → IsDerived net before (written_steps e)
good-derived net sweep out before (Merge node lit steps) good =
    let there = good NoNode in
    record {
      over = there.1;
      chain = merge-chain_out net (record { sweep_budget = sweep; out_budget = out; entries = before }) node lit steps good;
    }
good-derived net sweep out before (Out j steps) good =
    let there = good NoNode in
    record {
      over = there.1;
      chain = out-chain net (record { sweep_budget = sweep; out_budget = out; entries = before }) j steps good;
    }
good-derived net sweep out before (Apart node lit input) good = nothing net before
good-derived net sweep out before (Spent node lit seen log) good = nothing net before
good-derived net sweep out before (OutApart j input) good = nothing net before
good-derived net sweep out before (OutSpent j seen log) good = nothing net before

-- what is derived over some entries is derived over more
derived-more : (net : AigPair) (known more : List Entry) (steps : List Step) → IsDerived net known steps → IsDerived net (known ++ more) steps
derived-more net known more steps derived = record {
  over = derived.over;
  chain = chain-more (out_clause net known) (out_clause net (known ++ more)) (clause-more net known more) steps derived.chain;
}

good-logged : (net : AigPair) (sweep out : ℕ) (before : List Entry) (e : Entry) → IsGoodAfter net sweep out before e
    → IsDerived net before (log_of e)
good-logged net sweep out before (OutSpent j seen log) good =
    let there = good NoNode in
    subst (λ (l : List Entry). IsDerived net l log) (take-append-drop seen before)
    (derived-more net (take seen before) (drop seen before) log (record {
      over = there.1;
      chain = out_spent-chain net (record { sweep_budget = sweep; out_budget = out; entries = before }) j seen log good;
    }))
good-logged net sweep out before (Merge node lit steps) good = nothing net before
good-logged net sweep out before (Apart node lit input) good = nothing net before
good-logged net sweep out before (Spent node lit seen log) good = nothing net before
good-logged net sweep out before (Out j steps) good = nothing net before
good-logged net sweep out before (OutApart j input) good = nothing net before

legal-sound : (net : AigPair) (sweep out : ℕ) (before entries : List Entry) → sweep ≤ 1000000000 → out ≤ 1000000000
    → InTurn (IsGoodAfter net sweep out) before entries → AllByRecursion (IsSound net out) entries
legal-sound net sweep out before [] low low' legal = tt
legal-sound net sweep out before (e ∷ es) low low' legal =
    (good-sound net sweep out before e low low' legal.0, legal-sound net sweep out (before ++ e ∷ []) es low low' legal.1)

-- what holds after the entries before each one, and stays where there are more, holds after all of them
after-all : (P : List Entry → Entry → Type 0) → ((b more : List Entry) (e : Entry) → P b e → P (b ++ more) e) → (all before left : List Entry)
    → all ≡ before ++ left → InTurn P before left → AllByRecursion (P all) left
after-all P stays all before [] parts each = tt
after-all P stays all before (e ∷ es) parts each = (
  subst (λ (l : List Entry). P l e) (sym parts) (stays before (e ∷ es) e each.0),
  after-all P stays all (before ++ e ∷ []) es (parts ∙ sym (append_assoc before (e ∷ []) es)) each.1,
)

-- the number of a subject: a node's position, and for an output one behind all nodes
abbrev key : AigPair → Subject → ℕ
key net (Merged n) = unwrap_or (position_of net n) 0
key net (Output j) = length (nodes_of net) + j

-- the net has the subject
abbrev IsSubject : AigPair → Subject → Type 0
IsSubject net (Merged n) = IsSome (position_of net n)
IsSubject net (Output j) = j < length net.a.outputs

-- where a node's position is
placed : (net : AigPair) (n : Node) → IsSome (position_of net n)
    → (position_of net n ≡ Some (key net (Merged n))) × (slice_get (nodes_of net) (key net (Merged n)) ≡ Some n)
placed net n some = go (position_of net n) refl some
  where
    go : (o : Option ℕ) → position_of net n ≡ o → IsSome o
        → (position_of net n ≡ Some (key net (Merged n))) × (slice_get (nodes_of net) (key net (Merged n)) ≡ Some n)
    go None e h = cc
    go (Some p) e h =
        let at = at_place (λ m. same_node m n) (nodes_of net) p e in
        rw e (refl, at.1 ∙ ap (λ (m : Node). Some m) (exact-node at.0 n at.2))

same-key : (net : AigPair) (s t : Subject) → IsSubject net s → IsSubject net t → key net s ≡ key net t → s ≡ t
same-key net (Merged n) (Merged m) a b e =
    let p = placed net n a in
    let q = placed net m b in
    let same : Some n ≡ Some m = sym p.1 ∙ ap (slice_get (nodes_of net)) e ∙ q.1 in
    ap Merged (same_Some n m same)
same-key net (Merged n) (Output j) a b e =
    let within = slice_get_within (nodes_of net) (key net (Merged n)) n (placed net n a).1 in absurd (omega (arith, e, within))
same-key net (Output j) (Merged n) a b e =
    let within = slice_get_within (nodes_of net) (key net (Merged n)) n (placed net n b).1 in absurd (omega (arith, e, within))
same-key net (Output i) (Output j) a b e = let same : i ≡ j = omega (arith, e) in ap Output same

key-below : (net : AigPair) (s : Subject) → IsSubject net s → key net s < length (nodes_of net) + length net.a.outputs
key-below net (Merged n) a =
    let within = slice_get_within (nodes_of net) (key net (Merged n)) n (placed net n a).1 in omega (arith, within)
key-below net (Output j) a = omega (arith, a)

-- the numbers of the subjects that entries are on
abbrev keys : AigPair → List Entry → List ℕ
keys net [] = []
keys net (e ∷ es) = option_map_or (λ s. key net s ∷ keys net es) (subject_of e) (keys net es)

-- the subject of a good entry is there, and no earlier entry is on it
good-subject : (net : AigPair) (sweep out : ℕ) (before : List Entry) (e : Entry) → IsGoodAfter net sweep out before e
    → (s : Subject) → subject_of e ≡ Some s → IsSubject net s × (list_any (is_on s) before ≡ false)
good-subject net sweep out before e good s f = (there e good f, sym (is_some-place (is_on s) before) ∙ ap is_some none)
  where
    there : (x : Entry) → IsGoodAfter net sweep out before x → subject_of x ≡ Some s → IsSubject net s
    there (Merge node lit steps) g h =
        let t = g NoNode in subst (IsSubject net) (same_Some (Merged node) s h) t.0.0
    there (Out j steps) g h = let t = g NoNode in subst (IsSubject net) (same_Some (Output j) s h) t.0
    there (OutApart j input) g h = let t : j < length net.a.outputs = g NoNode in subst (IsSubject net) (same_Some (Output j) s h) t
    there (OutSpent j seen log) g h = let t = g NoNode in subst (IsSubject net) (same_Some (Output j) s h) t.0
    there (Apart node lit input) g h = absurd (none-some s h)
    there (Spent node lit seen log) g h = absurd (none-some s h)

    none : place_on before s ≡ None
    none = let t : option_map_or (place_on before) (subject_of e) None ≡ None = good Already in rw f at t

-- no later entry is on a subject that some earlier one is on
later-apart : (net : AigPair) (sweep out : ℕ) (s : Subject) → IsSubject net s → (before left : List Entry) → list_any (is_on s) before ≡ true
    → InTurn (IsGoodAfter net sweep out) before left → list_any (eqb (key net s)) (keys net left) ≡ false
later-apart net sweep out s is before [] there legal = refl
later-apart net sweep out s is before (x ∷ xs) there legal =
    go (subject_of x) refl (later-apart net sweep out s is (before ++ x ∷ []) xs more legal.1)
  where
    more : list_any (is_on s) (before ++ x ∷ []) ≡ true
    more = list_any-append (is_on s) before (x ∷ []) ∙ or_left (list_any (is_on s) before) (list_any (is_on s) (x ∷ [])) there

    go : (o : Option Subject) → subject_of x ≡ o → list_any (eqb (key net s)) (keys net xs) ≡ false
        → list_any (eqb (key net s)) (keys net (x ∷ xs)) ≡ false
    go None e rest = rw e rest
    go (Some t) e rest = by_test (eqb (key net s) (key net t)) refl
      where
        fresh : IsSubject net t × (list_any (is_on t) before ≡ false)
        fresh = good-subject net sweep out before x legal.0 t e

        by_test : (b : Bool) → eqb (key net s) (key net t) ≡ b → list_any (eqb (key net s)) (keys net (x ∷ xs)) ≡ false
        by_test false f = rw (e, f) rest
        by_test true f =
            let same : s ≡ t = same-key net s t is fresh.0 (equal-number (key net s) (key net t) f) in
            let g : list_any (is_on t) before ≡ true = subst (λ (u : Subject). list_any (is_on u) before ≡ true) same there in
            let h : false ≡ true = sym fresh.1 ∙ g in cc

-- the numbers differ, and are below that of the nodes and outputs
keys-distinct : (net : AigPair) (sweep out : ℕ) (before left : List Entry) → InTurn (IsGoodAfter net sweep out) before left
    → IsDistinct eqb (keys net left)
unfolding IsDistinct
keys-distinct net sweep out before [] legal = tt
keys-distinct net sweep out before (x ∷ xs) legal = go (subject_of x) refl (keys-distinct net sweep out (before ++ x ∷ []) xs legal.1)
  where
    apart : (k : ℕ) (ks : List ℕ) → list_any (eqb k) ks ≡ false → AllByRecursion (λ y. eqb k y ≡ false) ks
    apart k [] e = tt
    apart k (y ∷ ys) e = by_test (eqb k y) refl (apart k ys)
      where
        by_test : (b : Bool) → eqb k y ≡ b → (list_any (eqb k) ys ≡ false → AllByRecursion (λ y. eqb k y ≡ false) ys)
            → AllByRecursion (λ y. eqb k y ≡ false) (y ∷ ys)
        by_test true f rest = let g : true ≡ false = rw f at e in cc
        by_test false f rest = (f, rest (rw f at e))

    or_last : (b : Bool) → (b || (true || false)) ≡ true
    or_last true = refl
    or_last false = refl

    go : (o : Option Subject) → subject_of x ≡ o → IsDistinct eqb (keys net xs) → IsDistinct eqb (keys net (x ∷ xs))
    go None e rest = rw e rest
    go (Some s) e rest =
        let is = (good-subject net sweep out before x legal.0 s e).0 in
        let on : is_on s x ≡ true = ap (λ (o : Option Subject). option_map_or (λ t. same_subject t s) o false) e ∙ same-subject_self s in
        let here : list_any (is_on s) (before ++ x ∷ []) ≡ true =
        list_any-append (is_on s) before (x ∷ []) ∙ rw on (or_last (list_any (is_on s) before)) in
        rw e (apart (key net s) (keys net xs) (later-apart net sweep out s is (before ++ x ∷ []) xs here legal.1), rest)

keys-below : (net : AigPair) (sweep out : ℕ) (before left : List Entry) → InTurn (IsGoodAfter net sweep out) before left
    → (q : ℕ) → list_any (eqb q) (keys net left) ≡ true → q < length (nodes_of net) + length net.a.outputs
keys-below net sweep out before [] legal q e = cc
keys-below net sweep out before (x ∷ xs) legal q e = go (subject_of x) refl (keys-below net sweep out (before ++ x ∷ []) xs legal.1 q)
  where
    go : (o : Option Subject) → subject_of x ≡ o
        → (list_any (eqb q) (keys net xs) ≡ true → q < length (nodes_of net) + length net.a.outputs)
        → q < length (nodes_of net) + length net.a.outputs
    go None f rest = rest (rw f at e)
    go (Some s) f rest = by_test (eqb q (key net s)) refl
      where
        by_test : (b : Bool) → eqb q (key net s) ≡ b → q < length (nodes_of net) + length net.a.outputs
        by_test true g =
            let same : q ≡ key net s = equal-number q (key net s) g in
            let below = key-below net s (good-subject net sweep out before x legal.0 s f).0 in omega (arith, same, below)
        by_test false g = rest (rw (f, g) at e)

-- how many steps some lists have
abbrev pub total : List (List Step) → ℕ
total [] = 0
total (steps ∷ lists) = length steps + total lists

total-keys : (net : AigPair) (out : ℕ) (entries : List Entry) → AllByRecursion (IsSound net out) entries
    → total (map written_steps entries) ≤ length (keys net entries) * 1000000002
total-keys net out [] sound = omega arith
total-keys net out (e ∷ es) sound = go e sound.0 (total-keys net out es sound.1)
  where
    go : (x : Entry) → IsSound net out x → total (map written_steps es) ≤ length (keys net es) * 1000000002
        → total (map written_steps (x ∷ es)) ≤ length (keys net (x ∷ es)) * 1000000002
    go (Merge node lit steps) s rest = omega (arith, s.short, rest)
    go (Apart node lit input) s rest = omega (arith, rest)
    go (Spent node lit seen log) s rest = omega (arith, rest)
    go (Out j steps) s rest = omega (arith, s.short, rest)
    go (OutApart j input) s rest = omega (arith, rest)
    go (OutSpent j seen log) s rest = omega (arith, rest)

-- What a legal book comes to.
pub record IsSoundBook (net : AigPair) (out : ℕ) (entries : List Entry) : Type 0 where
  pub is_net : IsNet net
  pub sound : AllByRecursion (IsSound net out) entries
  pub shown : AllByRecursion (IsShown net) entries
  pub in_turn : AreDerived net [] entries
  pub derived : AllByRecursion (λ e. IsDerived net entries (written_steps e)) entries
  pub logged : AllByRecursion (λ e. IsDerived net entries (log_of e)) entries
  pub few : total (map written_steps entries) ≤ (length (nodes_of net) + length net.a.outputs) * 1000000002
  pub low : out ≤ 1000000000

pub legal-book : (net : AigPair) → IsNet net → (sweep out : ℕ) → sweep ≤ 1000000000 → out ≤ 1000000000 → (entries : List Entry)
    → InTurn (IsGoodAfter net sweep out) [] entries → IsSoundBook net out entries
legal-book net is sweep out low low' entries legal = record {
  is_net = is;
  sound = sound;
  shown = shows entries sound;
  in_turn = in_turn;
  derived =
      after-all (λ b e. IsDerived net b (written_steps e)) (λ b more e. derived-more net b more (written_steps e)) entries [] entries refl in_turn;
  logged =
      after-all (λ b e. IsDerived net b (log_of e)) (λ b more e. derived-more net b more (log_of e)) entries [] entries refl
      (in_turn-map (IsGoodAfter net sweep out) (λ b e. IsDerived net b (log_of e)) [] entries (good-logged net sweep out) legal);
  few = omega (arith, total-keys net out entries sound, count);
  low = low';
}
  where
    sound : AllByRecursion (IsSound net out) entries
    sound = legal-sound net sweep out [] entries low low' legal

    shows : (es : List Entry) → AllByRecursion (IsSound net out) es → AllByRecursion (IsShown net) es
    shows [] all = tt
    shows (e ∷ es) all = (all.0.shown, shows es all.1)

    in_turn : AreDerived net [] entries
    in_turn = in_turn-map (IsGoodAfter net sweep out) (λ b e. IsDerived net b (written_steps e)) [] entries (good-derived net sweep out) legal

    count : length (keys net entries) ≤ length (nodes_of net) + length net.a.outputs
    count =
        length-le_from_distinct_below (keys net entries) (length (nodes_of net) + length net.a.outputs)
        (keys-distinct net sweep out [] entries legal) (keys-below net sweep out [] entries legal)

-- the entry that shows an output equal
pub record HasUnit (entries : List Entry) (j : ℕ) : Type 0 where
  pub place : ℕ
  pub entry : Entry
  pub found : place_on entries (Output j) ≡ Some place
  pub at : slice_get entries place ≡ Some entry
  pub shows : shown_clauses entry ≡ equal_clause j ∷ []

pub out-unit : (entries : List Entry) (j : ℕ) → has_out entries j ≡ true → HasUnit entries j
out-unit entries j e = go (place_on entries (Output j)) refl
  where
    whole : option_map_or is_out (option_and_then (slice_get entries) (place_on entries (Output j))) false ≡ true
    whole = ap (λ (o : Option Entry). option_map_or is_out o false) (sym (find-place (is_on (Output j)) entries)) ∙ e

    unit : (x : Entry) → is_out x ≡ true → is_on (Output j) x ≡ true → shown_clauses x ≡ equal_clause j ∷ []
    unit (Out i steps) f g = ap (λ (n : ℕ). equal_clause n ∷ []) (equal-number i j g)
    unit (Merge node lit steps) f g = cc
    unit (Apart node lit input) f g = cc
    unit (Spent node lit seen log) f g = cc
    unit (OutApart i input) f g = cc
    unit (OutSpent i seen log) f g = cc

    go : (o : Option ℕ) → place_on entries (Output j) ≡ o → HasUnit entries j
    go None f = let g : false ≡ true = rw f at whole in cc
    go (Some p) f =
        let at = at_place (is_on (Output j)) entries p f in
        let g : option_map_or is_out (slice_get entries p) false ≡ true = rw f at whole in
        let h : is_out at.0 ≡ true = rw at.1 at g in
        record { place = p; entry = at.0; found = f; at = at.1; shows = unit at.0 h at.2 }

-- each log is derived, and short
pub log-derived : (net : AigPair) (out : ℕ) (entries : List Entry) → IsSoundBook net out entries → (j : ℕ)
    → IsDerived net entries (spent_log entries j)
log-derived net out entries book j = go (about entries j) refl
  where
    go : (o : Option Entry) → about entries j ≡ o → IsDerived net entries (spent_log entries j)
    go None e = rw e (nothing net entries)
    go (Some x) e = rw e (about-all (λ y. IsDerived net entries (log_of y)) entries j x book.logged e)

pub log-short : (net : AigPair) (out : ℕ) (entries : List Entry) → AllByRecursion (IsSound net out) entries → (j : ℕ)
    → length (spent_log entries j) ≤ out
log-short net out entries sound j = go (about entries j) refl
  where
    go : (o : Option Entry) → about entries j ≡ o → length (spent_log entries j) ≤ out
    go None e = rw e (omega arith)
    go (Some x) e = rw e (about-all (IsSound net out) entries j x sound e).log_short

-- the log of a query that spent its budget is as long as that
pub log-whole : (net : AigPair) (out : ℕ) (entries : List Entry) → AllByRecursion (IsSound net out) entries → (j : ℕ)
    → has_spent entries j ≡ true → length (spent_log entries j) ≡ out
log-whole net out entries sound j spent = go (about entries j) refl
  where
    go : (o : Option Entry) → about entries j ≡ o → length (spent_log entries j) ≡ out
    go None e = let f : false ≡ true = rw e at spent in cc
    go (Some x) e =
        let f : is_spent x ≡ true = rw e at spent in
        rw e ((about-all (IsSound net out) entries j x sound e).log_whole f)
