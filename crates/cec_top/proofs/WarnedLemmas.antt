-- What is warned of checks on request, and what stays as it was then.
use Rattle.std.proofs.Common.{◌≡◌, ℕ, ◌<◌, ◌≤◌, inl, inr, Bool, true, false, List, [], ◌∷◌, ◌++◌, Option, Some, None, refl, sym, ap, ◌∙◌, subst, arith, append-nil, append_assoc}
use Rattle.std.specs.Prelude.{◌⊎◌}
use Rattle.std.specs.List.{AllByRecursion}
use Rattle.std.proofs.lemmas.Bool.{cases_lt}
use Rattle.desk_port.specs.Desk.{DeskState, Rose, after_warn, followed_by}
use Rattle.endings.specs.Stops.{IsWarned}
use Rattle.netlist.specs.Net.{AigPair}
use Rattle.lemma_book.specs.declared.entry.Entry.{Entry}
use Rattle.cec_top.specs.declared.stats.Numbers.{Numbers}
use Rattle.cec_top.specs.declared.progress.Progress.{Progress}
use Rattle.cec_top.specs.Progress.{AreWarned, WarnsProgress, progress_line}
use Rattle.cec_top.specs.Stats.{AreNumbersOf, Reports, stats_text}
use Rattle.cec_top.specs.Warned.{IsText, IsTextPart, WarnsOnly, WarnsTexts, joined}

-- ---- told bytes

followed-none : (w : Option (List ℕ)) → w ≡ followed_by w []
followed-none None = refl
followed-none (Some x) = ap (λ (y : List ℕ). Some y) (sym (append-nil x))

followed-twice : (w : Option (List ℕ)) (x y : List ℕ) → followed_by (followed_by w x) y ≡ followed_by w (x ++ y)
followed-twice None x y = refl
followed-twice (Some w) x y = ap (λ (z : List ℕ). Some z) (append_assoc w x y)

joined-append : (xs ys : List (List ℕ)) → joined (xs ++ ys) ≡ joined xs ++ joined ys
joined-append [] ys = refl
joined-append (x ∷ xs) ys =
    ap (λ (z : List ℕ). x ++ z) (joined-append xs ys) ∙ sym (append_assoc x (joined xs) (joined ys))

all-append : {A : Type 0} (P : A → Type 0) (xs ys : List A) → AllByRecursion P xs → AllByRecursion P ys → AllByRecursion P (xs ++ ys)
all-append P [] ys first later = later
all-append P (x ∷ xs) ys first later = (first.0, all-append P xs ys first.1 later)

-- ---- counts of faults

rose-more : (x y z : ℕ) → Rose x y → y ≤ z → Rose x z
rose-more x y z (inl below) more = inl (omega (arith, below, more))
rose-more x y z (inr at) more = go (cases_lt y z)
  where
    go : (y < z) ⊎ (z ≤ y) → Rose x z
    go (inl below) = inl (omega (arith, at.0, below))
    go (inr above) =
        let same : z ≡ y = omega (arith, above, more) in
        inr (at.0 ∙ sym same, same ∙ at.1)

rose-later : (x y z : ℕ) → x ≤ y → Rose y z → Rose x z
rose-later x y z more (inl below) = inl (omega (arith, below, more))
rose-later x y z more (inr at) = go (cases_lt x y)
  where
    go : (x < y) ⊎ (y ≤ x) → Rose x z
    go (inl below) = inl (omega (arith, at.0, below))
    go (inr above) =
        let same : x ≡ y = omega (arith, above, more) in
        inr (same ∙ at.0, at.1)

rose-above : (x y : ℕ) → Rose x y → x ≤ y
rose-above x y (inl below) = omega (arith, below)
rose-above x y (inr at) = omega (arith, at.0)

-- ---- what is warned

-- nothing
texts-none : (stats progress : Bool) (old new : DeskState) → new.warned ≡ old.warned → new.warn_faults ≡ old.warn_faults → WarnsTexts stats progress old new
texts-none stats progress old new warned faults = record {
  parts = [];
  warned = warned ∙ followed-none old.warned;
  each = tt;
  whole = inl tt;
  counts = omega (arith, faults);
}

pub warns-none : (stats progress : Bool) (old new : DeskState) → new.warned ≡ old.warned → new.warn_faults ≡ old.warn_faults
    → WarnsOnly stats progress old new
warns-none false false old new warned faults = (warned, faults)
warns-none false true old new warned faults = texts-none false true old new warned faults
warns-none true progress old new warned faults = texts-none true progress old new warned faults

-- that, and then more
both-whole : (stats progress : Bool) (old mid new : DeskState) (p : WarnsTexts stats progress old mid) (q : WarnsTexts stats progress mid new)
    → AllByRecursion (IsText stats progress) (p.parts ++ q.parts) ⊎ Rose old.warn_faults new.warn_faults
both-whole stats progress old mid new p q = go p.whole q.whole
  where
    go : AllByRecursion (IsText stats progress) p.parts ⊎ Rose old.warn_faults mid.warn_faults
        → AllByRecursion (IsText stats progress) q.parts ⊎ Rose mid.warn_faults new.warn_faults
        → AllByRecursion (IsText stats progress) (p.parts ++ q.parts) ⊎ Rose old.warn_faults new.warn_faults
    go (inl first) (inl later) = inl (all-append (IsText stats progress) p.parts q.parts first later)
    go (inl first) (inr rose) = inr (rose-later old.warn_faults mid.warn_faults new.warn_faults p.counts rose)
    go (inr rose) later = inr (rose-more old.warn_faults mid.warn_faults new.warn_faults rose q.counts)

texts-then : (stats progress : Bool) (old mid new : DeskState) → WarnsTexts stats progress old mid → WarnsTexts stats progress mid new
    → WarnsTexts stats progress old new
texts-then stats progress old mid new p q = record {
  parts = p.parts ++ q.parts;
  warned =
      q.warned ∙ ap (λ (w : Option (List ℕ)). followed_by w (joined q.parts)) p.warned
      ∙ followed-twice old.warned (joined p.parts) (joined q.parts)
      ∙ ap (λ (x : List ℕ). followed_by old.warned x) (sym (joined-append p.parts q.parts));
  each = all-append (IsTextPart stats progress) p.parts q.parts p.each q.each;
  whole = both-whole stats progress old mid new p q;
  counts = omega (arith, p.counts, q.counts);
}

pub warns-then : (stats progress : Bool) (old mid new : DeskState) → WarnsOnly stats progress old mid → WarnsOnly stats progress mid new
    → WarnsOnly stats progress old new
warns-then false false old mid new p q = (q.0 ∙ p.0, q.1 ∙ p.1)
warns-then false true old mid new p q = texts-then false true old mid new p q
warns-then true progress old mid new p q = texts-then true progress old mid new p q

-- one text, or a first part of it
one-part : (old new : DeskState) (part : List ℕ) → new.warned ≡ followed_by old.warned part
    → new.warned ≡ followed_by old.warned (joined (part ∷ []))
one-part old new part warned = warned ∙ ap (λ (x : List ℕ). followed_by old.warned x) (sym (append-nil part))

text-once : (stats progress : Bool) (old new : DeskState) (text : List ℕ) → IsText stats progress text → IsWarned old new text
    → WarnsTexts stats progress old new
text-once stats progress old new text is (inl p) =
    let faults : new.warn_faults ≡ old.warn_faults = ap (λ (s : DeskState). s.warn_faults) p in
    record {
      parts = text ∷ [];
      warned = one-part old new text (ap (λ (s : DeskState). s.warned) p);
      each = ((text, is, ([], sym (append-nil text))), tt);
      whole = inl (is, tt);
      counts = omega (arith, faults);
    }
text-once stats progress old new text is (inr p) = record {
  parts = p.0 ∷ [];
  warned = one-part old new p.0 (ap (λ (s : DeskState). s.warned) p.2.stays);
  each = ((text, is, p.1), tt);
  whole = inr p.2.rose;
  counts = rose-above old.warn_faults new.warn_faults p.2.rose;
}

pub reports-warn : (stats progress : Bool) (net : AigPair) (entries : List Entry) (lines : Option ℕ) (old new : DeskState)
    → Reports stats net entries lines old new → WarnsOnly stats progress old new
reports-warn false progress net entries lines old new p =
    warns-none false progress old new (ap (λ (s : DeskState). s.warned) p) (ap (λ (s : DeskState). s.warn_faults) p)
reports-warn true progress net entries lines old new (inl p) =
    warns-none true progress old new (ap (λ (s : DeskState). s.warned) p) (ap (λ (s : DeskState). s.warn_faults) p)
reports-warn true progress net entries lines old new (inr p) = text-once true progress old new (stats_text p.0) (inl (refl, (p.0, refl))) p.2

-- a line of progress
line-warns : (stats : Bool) (old new : DeskState) (p : Progress) → IsWarned old new (progress_line p) → WarnsOnly stats true old new
line-warns false old new p w = text-once false true old new (progress_line p) (inr (refl, (p, refl))) w
line-warns true old new p w = text-once true true old new (progress_line p) (inr (refl, (p, refl))) w

lines-warn : (stats : Bool) (old new : DeskState) (ps : List Progress) → AreWarned ps old new → WarnsOnly stats true old new
lines-warn stats old new [] e =
    warns-none stats true old new (ap (λ (s : DeskState). s.warned) e) (ap (λ (s : DeskState). s.warn_faults) e)
lines-warn stats old new (p ∷ ps) w =
    warns-then stats true old w.0 new (line-warns stats old w.0 p w.1) (lines-warn stats w.0 new ps w.2)

pub progress-warns : (stats progress : Bool) (old new : DeskState) → WarnsProgress progress old new → WarnsOnly stats progress old new
progress-warns stats false old new e =
    warns-none stats false old new (ap (λ (s : DeskState). s.warned) e) (ap (λ (s : DeskState). s.warn_faults) e)
progress-warns stats true old new w = lines-warn stats old new w.0 w.1

-- no line is warned yet, and one more
pub progress-none : (progress : Bool) (s : DeskState) → WarnsProgress progress s s
progress-none false s = refl
progress-none true s = ([], refl)

lines-more : (ps : List Progress) (p : Progress) (old mid new : DeskState) → AreWarned ps old mid → IsWarned mid new (progress_line p)
    → AreWarned (ps ++ p ∷ []) old new
lines-more [] p old mid new e w = (new, subst (λ (s : DeskState). IsWarned s new (progress_line p)) e w, refl)
lines-more (q ∷ ps) p old mid new first w = (first.0, first.1, lines-more ps p first.0 mid new first.2 w)

pub progress-more : (old mid new : DeskState) (p : Progress) → WarnsProgress true old mid → (new ≡ mid) ⊎ IsWarned mid new (progress_line p)
    → WarnsProgress true old new
progress-more old mid new p first (inl e) = subst (λ (s : DeskState). WarnsProgress true old s) (sym e) first
progress-more old mid new p first (inr w) = (first.0 ++ p ∷ [], lines-more first.0 p old mid new first.1 w)

-- by the text of some numbers
pub reports-text : (old new : DeskState) (n : Numbers) (text : List ℕ) → text ≡ stats_text n → (new ≡ old) ⊎ IsWarned old new text
    → (new ≡ old) ⊎ IsWarned old new (stats_text n)
reports-text old new n text is (inl p) = inl p
reports-text old new n text is (inr p) = inr (subst (λ (t : List ℕ). IsWarned old new t) is p)

pub reports-numbers : (net : AigPair) (entries : List Entry) (lines : Option ℕ) (old new : DeskState) (n : Numbers)
    → AreNumbersOf net entries lines n → (new ≡ old) ⊎ IsWarned old new (stats_text n) → Reports true net entries lines old new
reports-numbers net entries lines old new n are (inl p) = inl p
reports-numbers net entries lines old new n are (inr p) = inr (n, are, p)

-- ---- what stays

-- all but what is warned is as it was
pub record IsElse (old new : DeskState) : Type 0 where
  pub files : new.files ≡ old.files
  pub started : new.started ≡ old.started
  pub said : new.said ≡ old.said
  pub reads : new.read_faults ≡ old.read_faults
  pub writes : new.write_faults ≡ old.write_faults

-- as on a desk that differs from the first in nothing else
else-as : (old new mid : DeskState) → new ≡ mid → mid.files ≡ old.files → mid.started ≡ old.started → mid.said ≡ old.said
    → mid.read_faults ≡ old.read_faults → mid.write_faults ≡ old.write_faults → IsElse old new
else-as old new mid is files started said reads writes = record {
  files = ap (λ (s : DeskState). s.files) is ∙ files;
  started = ap (λ (s : DeskState). s.started) is ∙ started;
  said = ap (λ (s : DeskState). s.said) is ∙ said;
  reads = ap (λ (s : DeskState). s.read_faults) is ∙ reads;
  writes = ap (λ (s : DeskState). s.write_faults) is ∙ writes;
}

pub reports-else : (stats : Bool) (net : AigPair) (entries : List Entry) (lines : Option ℕ) (old new : DeskState)
    → Reports stats net entries lines old new → IsElse old new
reports-else false net entries lines old new p = else-as old new old p refl refl refl refl refl
reports-else true net entries lines old new (inl p) = else-as old new old p refl refl refl refl refl
reports-else true net entries lines old new (inr (n, are, inl p)) = else-as old new (after_warn old (stats_text n)) p refl refl refl refl refl
reports-else true net entries lines old new (inr (n, are, inr p)) = else-as old new _ p.2.stays refl refl refl refl refl

else-then : (old mid new : DeskState) → IsElse old mid → IsElse mid new → IsElse old new
else-then old mid new p q = record {
  files = q.files ∙ p.files;
  started = q.started ∙ p.started;
  said = q.said ∙ p.said;
  reads = q.reads ∙ p.reads;
  writes = q.writes ∙ p.writes;
}

warned-else : (old new : DeskState) (line : List ℕ) → IsWarned old new line → IsElse old new
warned-else old new line (inl p) = else-as old new (after_warn old line) p refl refl refl refl refl
warned-else old new line (inr p) = else-as old new _ p.2.stays refl refl refl refl refl

lines-else : (old new : DeskState) (ps : List Progress) → AreWarned ps old new → IsElse old new
lines-else old new [] e = else-as old new old e refl refl refl refl refl
lines-else old new (p ∷ ps) w = else-then old w.0 new (warned-else old w.0 (progress_line p) w.1) (lines-else w.0 new ps w.2)

pub progress-else : (progress : Bool) (old new : DeskState) → WarnsProgress progress old new → IsElse old new
progress-else false old new e = else-as old new old e refl refl refl refl refl
progress-else true old new w = lines-else old new w.0 w.1
