-- Bytes that aren't in the file yet, and how they go out.
use Rattle.std.proofs.Common.{◌≡◌, ℕ, ◌+◌, ◌<◌, Bool, List, [], ◌∷◌, ◌++◌, drop, get_or, length, sym, ap, ◌∙◌, subst, append_assoc, append-nil}
use Rattle.std.specs.Prelude.{Result, Ok, Err, Some, slice_get, map}
use Rattle.lrat_text.specs.declared.step.LratStep.{LratStep}
use Rattle.desk_port.specs.Desk.{DeskState, Sizes}
use Rattle.desk_port.specs.Pieces.{Moves, StopsInPieces, Takes}
use Rattle.desk_port.specs.declared.errors.PutErr.{PutErr}
use Rattle.desk_port.specs.declared.errors.PutErr.TheVariants.{NoMemory}
use Rattle.desk_port.proofs.Facts.{moves-then, stops-first, stops-none, stops-then, taken-none, takes-then}
use Rattle.lrat_text.specs.Steps.{id_after}
use Rattle.lrat_text.specs.Writing.{line_text, text_from}
use Rattle.proof_stitch.specs.Trimmed.{deletion}
use Rattle.proof_stitch.specs.Progress.{Goes, GoesOn, IsAtLine, text_left, unsent}
use Rattle.proof_stitch.specs.declared.by_step.ByStep.{ByStep}
use Rattle.proof_stitch.specs.declared.proof_text.ProofText.{ProofText}
use Rattle.lits.specs.declared.step.Step.{Step}
use Rattle.netlist.specs.Net.{AigPair}
use Rattle.lemma_book.specs.declared.entry.Entry.{Entry}
use Rattle.proof_stitch.specs.Steps.{addition, additions, additions_from}
use Rattle.proof_stitch.specs.Written.{written_steps}
use Rattle.proof_stitch.proofs.ReachLemmas.{lines-drop, step-at}

-- none went out
pub moves-none : (before after : List ℕ) (s : DeskState) (z : Sizes) → before ≡ after → Moves [] before after s s z z
moves-none before after s z same = subst (λ (l : List ℕ). Moves [] before l s s z z) same (taken-none before s z).moves

-- a first part of the text is taken, or is refused
pub moves-part : (a b t h0 h1 : List ℕ) (s0 s1 : DeskState) (z0 z1 : Sizes) → t ≡ a ++ b → Moves a h0 h1 s0 s1 z0 z1
    → Moves [] (h0 ++ t) (h1 ++ b) s0 s1 z0 z1
moves-part a b t h0 h1 s0 s1 z0 z1 is p = record {
  out = p.out;
  split =
      append-nil (h0 ++ t)
      ∙ ap (λ (l : List ℕ). h0 ++ l) is
      ∙ sym (append_assoc h0 a b)
      ∙ ap (λ (l : List ℕ). l ++ b) p.split
      ∙ append_assoc p.out h1 b;
  desk = p.desk;
  pieces = p.pieces;
  whole = p.whole;
  counted = p.counted;
}

pub stops-part : (a b t h0 : List ℕ) (e : PutErr) (s0 s1 : DeskState) (z0 z1 : Sizes) → t ≡ a ++ b → StopsInPieces (h0 ++ a) e s0 s1 z0 z1
    → StopsInPieces (h0 ++ t) e s0 s1 z0 z1
stops-part a b t h0 e s0 s1 z0 z1 is p =
    subst (λ (l : List ℕ). StopsInPieces (h0 ++ l) e s0 s1 z0 z1) (sym is) (stops-first a b h0 e s0 s1 z0 z1 p)

-- what goes out behind other bytes
pub stops-behind : (p0 p1 : List ℕ) (e : PutErr) (s0 s1 s2 : DeskState) (z0 z1 z2 : Sizes) → Moves [] p0 p1 s0 s1 z0 z1
    → StopsInPieces p1 e s1 s2 z1 z2 → StopsInPieces p0 e s0 s2 z0 z2
stops-behind p0 p1 e s0 s1 s2 z0 z1 z2 p q =
    subst (λ (l : List ℕ). StopsInPieces l e s0 s2 z0 z2) (append-nil p0)
    (stops-then [] [] p0 p1 [] s0 s1 s2 z0 z1 z2 e p
    (subst (λ (l : List ℕ). StopsInPieces l e s1 s2 z1 z2) (sym (append-nil p1)) q))

-- a line and the deletion behind it are taken, or a write was refused
module _ (last : ℕ) (line line' : LratStep) (is : line ≡ line') (gone gone' h0 h1 h2 : List ℕ) (s0 s1 s2 : DeskState) (z0 z1 z2 : Sizes) where
  pub step-takes : {A : Type 0} (r : Result A PutErr) (last' : ℕ) → last' ≡ id_after last line → gone ≡ gone'
      → Moves (line_text last line) h0 h1 s0 s1 z0 z1 → Takes (text_from last' (deletion gone)) h1 h2 s1 s2 z1 z2 r
      → Takes (text_from last (line' ∷ deletion gone')) h0 h2 s0 s2 z0 z2 r
  step-takes r last' next same p q =
      takes-then (line_text last line') (text_from (id_after last line') (deletion gone')) h0 h1 h2 s0 s1 s2 z0 z1 z2 r
      (subst (λ (l : LratStep). Moves (line_text last l) h0 h1 s0 s1 z0 z1) is p)
      (subst (λ (l : List ℕ). Takes (text_from (id_after last line') (deletion l)) h1 h2 s1 s2 z1 z2 r) same
      (subst (λ (n : ℕ). Takes (text_from n (deletion gone)) h1 h2 s1 s2 z1 z2 r) (next ∙ ap (id_after last) is) q))

  pub step-stops : (e : PutErr) → StopsInPieces (h0 ++ line_text last line) e s0 s1 z0 z1
      → StopsInPieces (h0 ++ text_from last (line' ∷ deletion gone')) e s0 s1 z0 z1
  step-stops e p =
      stops-first (line_text last line') (text_from (id_after last line') (deletion gone')) h0 e s0 s1 z0 z1
      (subst (λ (l : LratStep). StopsInPieces (h0 ++ line_text last l) e s0 s1 z0 z1) is p)

-- what the writer holds and the text that is left take the place of the text
pub moves-text : (t h0 h1 : List ℕ) (s0 s1 : DeskState) (z0 z1 : Sizes) → Moves [] (h0 ++ t) (h1 ++ []) s0 s1 z0 z1 → Moves t h0 h1 s0 s1 z0 z1
moves-text t h0 h1 s0 s1 z0 z1 p = record {
  out = p.out;
  split = sym (append-nil (h0 ++ t)) ∙ p.split ∙ ap (λ (l : List ℕ). p.out ++ l) (append-nil h1);
  desk = p.desk;
  pieces = p.pieces;
  whole = p.whole;
  counted = p.counted;
}

-- ---- a writer that goes on

pub goes-none : (m : ℕ) (asked : ℕ → Bool) (all left : List LratStep) (next : ℕ) (names : ByStep) (proof : ProofText) (s : DeskState) (z : Sizes)
    → GoesOn m asked all left left next next names names proof proof s s z z
goes-none m asked all left next names proof s z = record {
  stands = λ at. at;
  moves = λ at. (taken-none (unsent m asked all left proof) s z).moves;
}

module _ {m : ℕ} {asked : ℕ → Bool} {all l0 l1 : List LratStep} {n0 n1 : ℕ} {names0 names1 : ByStep} {proof0 proof1 : ProofText}
    {s0 s1 s2 : DeskState} {z0 z1 z2 : Sizes} (p : GoesOn m asked all l0 l1 n0 n1 names0 names1 proof0 proof1 s0 s1 z0 z1) where
  pub goes-then : {l2 : List LratStep} {n2 : ℕ} {names2 : ByStep} {proof2 : ProofText} → GoesOn m asked all l1 l2 n1 n2 names1 names2 proof1 proof2 s1 s2 z1 z2
      → GoesOn m asked all l0 l2 n0 n2 names0 names2 proof0 proof2 s0 s2 z0 z2
  goes-then {l2} {n2} {names2} {proof2} q = record {
    stands = λ at. q.stands (p.stands at);
    moves = λ at.
        moves-then [] [] (unsent m asked all l0 proof0) (unsent m asked all l1 proof1) (unsent m asked all l2 proof2) s0 s1 s2 z0 z1 z2
        (p.moves at) (q.moves (p.stands at));
  }

  -- and is stopped
  pub goes-stops : (e : PutErr) → (IsAtLine m asked all l1 n1 names1 proof1 → StopsInPieces (unsent m asked all l1 proof1) e s1 s2 z1 z2)
      → IsAtLine m asked all l0 n0 names0 proof0 → StopsInPieces (unsent m asked all l0 proof0) e s0 s2 z0 z2
  goes-stops e q at =
      stops-behind (unsent m asked all l0 proof0) (unsent m asked all l1 proof1) e s0 s1 s2 z0 z1 z2 (p.moves at) (q (p.stands at))

-- or memory runs out
pub goes-refused : {m : ℕ} {asked : ℕ → Bool} {all l0 l1 : List LratStep} {n0 n1 : ℕ} {names0 names1 : ByStep} {proof0 proof1 : ProofText}
    {s0 s1 : DeskState} {z0 z1 : Sizes} → GoesOn m asked all l0 l1 n0 n1 names0 names1 proof0 proof1 s0 s1 z0 z1
    → IsAtLine m asked all l0 n0 names0 proof0 → StopsInPieces (unsent m asked all l0 proof0) NoMemory s0 s1 z0 z1
goes-refused {m} {asked} {all} {l1 = l1} {proof1 = proof1} {s1 = s1} {z1 = z1} p =
    goes-stops p NoMemory (λ at. stops-none (unsent m asked all l1 proof1) s1 z1)

-- a text of which all but the last line went out, and then that line
module _ (text line left h0 h1 h2 : List ℕ) (s0 s1 s2 : DeskState) (z0 z1 z2 : Sizes) where
  pub takes-last : {A : Type 0} (r : Result A PutErr) → left ≡ line → Moves [] (h0 ++ text) (h1 ++ left) s0 s1 z0 z1 → Takes line h1 h2 s1 s2 z1 z2 r
      → Takes text h0 h2 s0 s2 z0 z2 r
  takes-last (Ok a) is p q =
      moves-text text h0 h2 s0 s2 z0 z2
      (moves-then [] [] (h0 ++ text) (h1 ++ left) (h2 ++ []) s0 s1 s2 z0 z1 z2 p
      (moves-part line [] left h1 h2 s1 s2 z1 z2 (is ∙ sym (append-nil line)) q))
  takes-last (Err e) is p q =
      stops-behind (h0 ++ text) (h1 ++ left) e s0 s1 s2 z0 z1 z2 p
      (subst (λ (l : List ℕ). StopsInPieces (h1 ++ l) e s1 s2 z1 z2) (sym is) q)

-- or of which the last lines go out by another writer
module _ {m : ℕ} {asked : ℕ → Bool} {all l0 l1 : List LratStep} {n0 n1 : ℕ} {names0 names1 : ByStep} {proof0 proof1 : ProofText}
    {s0 s1 : DeskState} {z0 z1 : Sizes} (p : GoesOn m asked all l0 l1 n0 n1 names0 names1 proof0 proof1 s0 s1 z0 z1)
    (at : IsAtLine m asked all l0 n0 names0 proof0) (text : List ℕ) (whole : text_left m asked all l0 ≡ text) where
  pub takes-rest : {A : Type 0} (r : Result A PutErr) (n2 : ℕ) (names2 : ByStep) (proof2 : ProofText) (s2 : DeskState) (z2 : Sizes)
      → Goes m asked all l1 [] n1 n2 names1 names2 proof1 proof2 s1 s2 z1 z2 r → Takes text proof0.pieces proof2.pieces s0 s2 z0 z2 r
  takes-rest (Ok a) n2 names2 proof2 s2 z2 q =
      let both : GoesOn m asked all l0 [] n0 n2 names0 names2 proof0 proof2 s0 s2 z0 z2 = goes-then p q in
      moves-text text proof0.pieces proof2.pieces s0 s2 z0 z2
      (subst (λ (l : List ℕ). Moves [] (proof0.pieces ++ l) (proof2.pieces ++ []) s0 s2 z0 z2) whole (both.moves at))
  takes-rest (Err e) n2 names2 proof2 s2 z2 q =
      subst (λ (l : List ℕ). StopsInPieces (proof0.pieces ++ l) e s0 s2 z0 z2) whole (goes-stops p e q at)

-- the same where the writer stands at the same lines
module _ {asked : ℕ → Bool} {all : List LratStep} {names0 names1 : ByStep} {proof0 proof1 : ProofText} {s0 s1 : DeskState} {z0 z1 : Sizes}
    {m m' : ℕ} {l0 l0' l1 l1' : List LratStep} {n0 n0' n1 n1' : ℕ} where
  pub same-goes : m ≡ m' → l0 ≡ l0' → l1 ≡ l1' → n0 ≡ n0' → n1 ≡ n1' → GoesOn m asked all l0 l1 n0 n1 names0 names1 proof0 proof1 s0 s1 z0 z1
      → GoesOn m' asked all l0' l1' n0' n1' names0 names1 proof0 proof1 s0 s1 z0 z1
  same-goes ms ls0 ls1 ns0 ns1 p =
      subst (λ (k : ℕ). GoesOn k asked all l0' l1' n0' n1' names0 names1 proof0 proof1 s0 s1 z0 z1) ms
      (subst (λ (l : List LratStep). GoesOn m asked all l l1' n0' n1' names0 names1 proof0 proof1 s0 s1 z0 z1) ls0
      (subst (λ (l : List LratStep). GoesOn m asked all l0 l n0' n1' names0 names1 proof0 proof1 s0 s1 z0 z1) ls1
      (subst (λ (k : ℕ). GoesOn m asked all l0 l1 k n1' names0 names1 proof0 proof1 s0 s1 z0 z1) ns0
      (subst (λ (k : ℕ). GoesOn m asked all l0 l1 n0 k names0 names1 proof0 proof1 s0 s1 z0 z1) ns1 p))))

module _ {asked : ℕ → Bool} {all : List LratStep} {names : ByStep} {proof : ProofText} {s0 s1 : DeskState} {z0 z1 : Sizes}
    {m m' : ℕ} {l l' : List LratStep} {n n' : ℕ} where
  pub same-stops : (e : PutErr) → m ≡ m' → l ≡ l' → n ≡ n' → (IsAtLine m asked all l n names proof → StopsInPieces (unsent m asked all l proof) e s0 s1 z0 z1)
      → IsAtLine m' asked all l' n' names proof → StopsInPieces (unsent m' asked all l' proof) e s0 s1 z0 z1
  same-stops e ms ls ns p =
      subst (λ (k : ℕ). IsAtLine k asked all l' n' names proof → StopsInPieces (unsent k asked all l' proof) e s0 s1 z0 z1) ms
      (subst (λ (x : List LratStep). IsAtLine m asked all x n' names proof → StopsInPieces (unsent m asked all x proof) e s0 s1 z0 z1) ls
      (subst (λ (k : ℕ). IsAtLine m asked all l k names proof → StopsInPieces (unsent m asked all l proof) e s0 s1 z0 z1) ns p))

-- the lines of the steps from that one on
pub steps-ahead : (net : AigPair) (shown : List ℕ) (first id : ℕ) (steps : List Step) (i : ℕ) (s : Step) (left : List LratStep) → id ≡ first + i
    → i < length steps → s ≡ get_or steps i s
    → addition net shown first id s ∷ (additions_from net shown first (first + (i + 1)) (drop (i + 1) steps) ++ left)
    ≡ additions_from net shown first id (drop i steps) ++ left
steps-ahead net shown first id steps i s left is lt at =
    ap (λ (n : ℕ). addition net shown first n s ∷ (additions_from net shown first (first + (i + 1)) (drop (i + 1) steps) ++ left)) is
    ∙ ap (λ (l : List LratStep). l ++ left) (sym (step-at net shown first steps i s lt at))
    ∙ ap (λ (n : ℕ). additions_from net shown first n (drop i steps) ++ left) (sym is)

-- and those of the entries
pub entries-ahead : (net : AigPair) (shown : List ℕ) (first : ℕ) (entries : List Entry) (k : ℕ) (e : Entry) (steps : List Step) (left : List LratStep)
    → slice_get entries k ≡ Some e → steps ≡ written_steps e
    → additions_from net shown first first steps ++ (additions net shown (first + length steps) (map written_steps (drop (k + 1) entries)) ++ left)
    ≡ additions net shown first (map written_steps (drop k entries)) ++ left
entries-ahead net shown first entries k e steps left at is =
    ap (λ (l : List Step). additions_from net shown first first l ++ (additions net shown (first + length l) (map written_steps (drop (k + 1) entries)) ++ left)) is
    ∙ sym (lines-drop net shown first entries k e left at)
