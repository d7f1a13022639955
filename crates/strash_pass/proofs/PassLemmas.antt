-- How the pass goes on: a gate that was merged, merges now, or is noted.
use Rattle.std.proofs.Common.{◌≡◌, ℕ, suc, ◌+◌, ◌<◌, ◌^◌, map, Bool, true, false, cond, Option, Some, None, List, [], ◌∷◌, ◌++◌, length, refl, sym, ap, ◌∙◌, subst, arith, length-append, ◌⊎◌, inl, inr}
use Rattle.std.specs.Prelude.{slice_get, nat_lt, Result, Ok, Err, OnOk, IfSome, IfNone}
use Rattle.std.specs.Option.{option_map, option_and_then, is_some}
use Rattle.std.proofs.lemmas.Bool.Decides.{nat_tests}
use Rattle.std.proofs.lemmas.Option.{none-some, same_Some, slice_get_within}
use Rattle.lits.specs.Same.{same_node}
use Rattle.lits.specs.declared.node.Side.{Side}
use Rattle.lits.specs.declared.node.Side.TheVariants.{A, B}
use Rattle.lits.specs.declared.node.Node.{Node}
use Rattle.lits.specs.declared.node.Node.TheVariants.{Gate}
use Rattle.netlist.specs.declared.gate.And.{And}
use Rattle.std.proofs.lemmas.List.{length-map}
use Rattle.std.proofs.lemmas.Bool.{cases_lt}
use Rattle.lits.specs.declared.literal.Lit.{Lit}
use Rattle.lits.specs.declared.step.Step.{Step}
use Rattle.lits.proofs.Facts.{same-node_self}
use Rattle.netlist.specs.declared.gate.Definition.{Definition}
use Rattle.netlist.specs.Place.{place_of}
use Rattle.netlist.specs.Net.{AigPair, IsNet, circuit_of, defined_by, definition_of, definitions, node_at, nodes_of, position_of}
use Rattle.netlist.proofs.Facts.{at-place, place_of-append, or_place, slice_get-left, slice_get-right, few_gates_of, gate-definition, or_place-none, node-at, length-nodes, length-definitions}
use Rattle.lemma_book.specs.declared.entry.Entry.{Entry}
use Rattle.lemma_book.specs.declared.entry.Entry.TheVariants.{Merge}
use Rattle.lemma_book.specs.declared.entry.Subject.TheVariants.{Merged}
use Rattle.lemma_book.specs.Entry.{Entries, is_on, place_on}
use Rattle.lemma_book.specs.Root.{MergeAt, merge_in, merge_of, root_of, IsRoot}
use Rattle.lemma_book.specs.Book.{IsLegal}
use Rattle.lemma_book.proofs.Facts.{root-kept, root-unsettled}
use Rattle.strash_pass.specs.Codes.{code_of}
use Rattle.strash_pass.specs.Twins.{HasCodes, HasNote, Noted, Table}
use Rattle.strash_pass.specs.Strash.{folded, AreTwins, IsPlain, ArePlain, ArePlainBelow}
use Rattle.strash_pass.specs.Pass.{gates_before, AreCodes, IsListed, IsSeen, IsPass, IsTwin, Merges}
use Rattle.strash_pass.proofs.CodeLemmas.{code-one}
use Rattle.strash_pass.proofs.GateFacts.{IsGate, is-gate, gate-a, gate-b, apart-placed}

-- ---- one more merge
last-none : {X : Type 0} (test : X → Bool) (xs : List X) (x : X) → test x ≡ false → place_of test (xs ++ x ∷ []) ≡ place_of test xs
last-none test xs x e =
    place_of-append test xs (x ∷ [])
    ∙ ap (λ (b : Bool). or_place (place_of test xs) (option_map (λ k. length xs + k) (cond b (Some 0) (option_map (λ k. k + 1) None)))) e
    ∙ or_place-none (place_of test xs)

module _ (es : List Entry) (node : Node) (target : Lit) (steps : List Step) where
  -- other nodes stay as they are
  pub merge-other : (n : Node) → same_node node n ≡ false → merge_of (es ++ Merge node target steps ∷ []) n ≡ merge_of es n
  merge-other n apart =
      ap (λ (o : Option ℕ). option_and_then (λ k. option_and_then (merge_in k) (slice_get (es ++ Merge node target steps ∷ []) k)) o)
      (last-none (is_on (Merged n)) es (Merge node target steps) apart)
      ∙ go (place_on es (Merged n)) refl
    where
      go : (o : Option ℕ) → place_on es (Merged n) ≡ o
          → option_and_then (λ k. option_and_then (merge_in k) (slice_get (es ++ Merge node target steps ∷ []) k)) o
          ≡ option_and_then (λ k. option_and_then (merge_in k) (slice_get es k)) o
      go None e = refl
      go (Some k) e =
          let within : k < length es = (at-place (is_on (Merged n)) es k e).3 in
          ap (option_and_then (merge_in k)) (slice_get-left es (Merge node target steps ∷ []) k within)

  -- the node itself is merged
  merged-now : IsRoot (es ++ Merge node target steps ∷ []) node → ⊥
  merged-now root = go (place_on es (Merged node)) refl
    where
      on : is_on (Merged node) (Merge node target steps) ≡ true
      on = same-node_self node

      unsettled : place_on (es ++ Merge node target steps ∷ []) (Merged node) ≡ None
      unsettled = root-unsettled (es ++ Merge node target steps ∷ []) node root

      whole : (o : Option ℕ) → place_on (es ++ Merge node target steps ∷ []) (Merged node) ≡ or_place (place_on es (Merged node)) (Some (length es + 0))
      whole o =
          place_of-append (is_on (Merged node)) es (Merge node target steps ∷ [])
          ∙ ap (λ (b : Bool). or_place (place_on es (Merged node)) (option_map (λ k. length es + k) (cond b (Some 0) (option_map (λ k. k + 1) None)))) on

      go : (o : Option ℕ) → place_on es (Merged node) ≡ o → ⊥
      go None e = none-some (length es + 0) (sym unsettled ∙ whole None ∙ ap (λ (o : Option ℕ). or_place o (Some (length es + 0))) e)
      go (Some k) e = none-some k (sym unsettled ∙ whole None ∙ ap (λ (o : Option ℕ). or_place o (Some (length es + 0))) e)

-- a gate is in a longer book what it was
record IsSame (es more : List Entry) (c : Definition) : Type 0 where
  merged : merge_of more c.node ≡ merge_of es c.node
  left : root_of more c.left ≡ root_of es c.left
  right : root_of more c.right ≡ root_of es c.right

module _ (net : AigPair) (is : IsNet net) (book new : Entries) (legal : IsLegal net book) (n : ℕ) (d : Definition) (at : slice_get (definitions net) n ≡ Some d)
    (way : List Lit) (target : Lit) (merges : Merges net book new way d.node target) where
  gate-d : IsGate net n d
  gate-d = is-gate net is n d at

  more : new.entries ≡ book.entries ++ Merge d.node target merges.steps ∷ []
  more = ap (λ (b : Entries). b.entries) merges.last

  below-same : (m : Node) (p : ℕ) → position_of net m ≡ Some p → p < 1 + length net.a.inputs + n → merge_of new.entries m ≡ merge_of book.entries m
  below-same m p e below =
      ap (λ (l : List Entry). merge_of l m) more
      ∙ merge-other book.entries d.node target merges.steps m (apart-placed net d.node m (1 + length net.a.inputs + n) p gate-d.node e below)

  longer : length new.entries ≡ suc (length book.entries)
  longer = let k = length-append book.entries (Merge d.node target merges.steps ∷ []) in omega (arith, ap length more, k)

  lit-same : (l : Lit) (p : ℕ) → position_of net l.node ≡ Some p → p < 1 + length net.a.inputs + n → root_of new.entries l ≡ root_of book.entries l
  lit-same l p e below = root-kept net book legal new.entries (1 + length net.a.inputs + n) below-same longer l p e below

  same : (k : ℕ) (c : Definition) → k < n → slice_get (definitions net) k ≡ Some c → IsSame book.entries new.entries c
  same k c below here =
      let gate = is-gate net is k c here in
      record {
        merged = below-same c.node (1 + length net.a.inputs + k) gate.node (omega arith);
        left = lit-same c.left gate.left.0 gate.left.1 (omega (arith, gate.left.2));
        right = lit-same c.right gate.right.0 gate.right.1 (omega (arith, gate.right.2));
      }

  merged-d : IsRoot new.entries d.node → ⊥
  merged-d root = merged-now book.entries d.node target merges.steps (sym (ap (λ (l : List Entry). merge_of l d.node) more) ∙ root)

  at-most : (k : ℕ) (c : Definition) → k < n + 1 → slice_get (definitions net) k ≡ Some c → (k < n) ⊎ (c ≡ d)
  at-most k c below here = go (nat_lt k n) refl
    where
      go : (b : Bool) → nat_lt k n ≡ b → (k < n) ⊎ (c ≡ d)
      go true e = inl (grind (arith, nat_tests))
      go false e =
          let same : k ≡ n = grind (arith, nat_tests) in
          inr (same_Some c d (sym here ∙ ap (slice_get (definitions net)) same ∙ at))

  twins-back : (c e : Definition) → IsSame book.entries new.entries c → IsSame book.entries new.entries e → AreTwins new.entries c e → AreTwins book.entries c e
  twins-back c e x y t =
      elim t [
        | inl s ↦ inl (sym x.left ∙ s.0 ∙ y.left, sym x.right ∙ s.1 ∙ y.right)
        | inr s ↦ inr (sym x.left ∙ s.0 ∙ y.right, sym x.right ∙ s.1 ∙ y.left)
      ]

  codes-same : (note : Noted) (c : Definition) → IsSame book.entries new.entries c
      → AreCodes net note (root_of book.entries c.left) (root_of book.entries c.right)
      → AreCodes net note (root_of new.entries c.left) (root_of new.entries c.right)
  codes-same note c s codes =
      subst (λ (x : Lit). AreCodes net note x (root_of new.entries c.right)) (sym s.left)
      (subst (λ (y : Lit). AreCodes net note (root_of book.entries c.left) y) (sym s.right) codes)

  -- the gate merges now
  pub pass-merged : (t : Table) → IsPass net book.entries t n → IsPass net new.entries t (n + 1)
  pass-merged t pass = record { plain = plain; sound = sound; whole = whole }
    where
      plain : ArePlainBelow net new.entries (n + 1)
      plain k c below here root =
          elim (at-most k c below here) [
            | inl l ↦
                let s = same k c l here in
                let old = pass.plain k c l here (sym s.merged ∙ root) in (
                  ap (λ (x : Lit). folded x (root_of new.entries c.right)) s.left ∙ ap (folded (root_of book.entries c.left)) s.right ∙ old.0,
                  λ j e earlier at_e root_e twins.
                      let t = same j e (omega arith) at_e in
                      old.1 j e earlier at_e (sym t.merged ∙ root_e) (twins-back e c t s twins),
                )
            | inr s ↦ absurd (merged-d (subst (λ (x : Definition). IsRoot new.entries x.node) s root))
          ]

      sound : (i : ℕ) (note : Noted) → slice_get t.notes i ≡ Some note → IsSeen net new.entries (n + 1) note
      sound i note e =
          let old = pass.sound i note e in
          let s = same old.place old.gate old.below old.at in
          record {
            place = old.place;
            gate = old.gate;
            below = omega (arith, old.below);
            at = old.at;
            position = old.position;
            unmerged = s.merged ∙ old.unmerged;
            codes = codes-same note old.gate s old.codes;
          }

      whole : (k : ℕ) (c : Definition) → k < n + 1 → slice_get (definitions net) k ≡ Some c → IsRoot new.entries c.node
          → IsListed net t (root_of new.entries c.left) (root_of new.entries c.right)
      whole k c below here root =
          elim (at-most k c below here) [
            | inl l ↦
                let s = same k c l here in
                let old = pass.whole k c l here (sym s.merged ∙ root) in
                record { place = old.place; note = old.note; at = old.at; codes = codes-same old.note c s old.codes }
            | inr s ↦ absurd (merged-d (subst (λ (x : Definition). IsRoot new.entries x.node) s root))
          ]

-- ---- notes and literals
-- a note that has the codes of both pairs has the roots of twins
codes-twins : (net : AigPair) (note : Noted) (x y a b : Lit) → AreCodes net note x y → AreCodes net note a b → ((x ≡ a) × (y ≡ b)) ⊎ ((x ≡ b) × (y ≡ a))
codes-twins net note x y a b (inl s) (inl t) = inl (code-one net x a note.low s.0 t.0, code-one net y b note.high s.1 t.1)
codes-twins net note x y a b (inl s) (inr t) = inr (code-one net x b note.low s.0 t.1, code-one net y a note.high s.1 t.0)
codes-twins net note x y a b (inr s) (inl t) = inr (code-one net x b note.high s.0 t.1, code-one net y a note.low s.1 t.0)
codes-twins net note x y a b (inr s) (inr t) = inl (code-one net x a note.high s.0 t.0, code-one net y b note.low s.1 t.1)

-- the note of two numbers is that of the literals with these codes, and the other way round
codes-of : (net : AigPair) (note : Noted) (a b : Lit) (x y : ℕ) → code_of net a ≡ Some x → code_of net b ≡ Some y → HasCodes note x y → AreCodes net note a b
codes-of net note a b x y e f (inl c) = inl (e ∙ ap Some (sym c.0), f ∙ ap Some (sym c.1))
codes-of net note a b x y e f (inr c) = inr (e ∙ ap Some (sym c.1), f ∙ ap Some (sym c.0))

of-codes : (net : AigPair) (note : Noted) (a b : Lit) (x y : ℕ) → code_of net a ≡ Some x → code_of net b ≡ Some y → AreCodes net note a b → HasCodes note x y
of-codes net note a b x y e f (inl c) = inl (same_Some note.low x (sym c.0 ∙ e), same_Some note.high y (sym c.1 ∙ f))
of-codes net note a b x y e f (inr c) = inr (same_Some note.low y (sym c.1 ∙ f), same_Some note.high x (sym c.0 ∙ e))

flip-codes : (net : AigPair) (note : Noted) (a b : Lit) → AreCodes net note a b → AreCodes net note b a
flip-codes net note a b (inl c) = inr (c.1, c.0)
flip-codes net note a b (inr c) = inl (c.1, c.0)

-- no gates were visited
pub pass-start : (net : AigPair) (es : List Entry) → IsPass net es (record { notes = [] }) 0
pass-start net es = record {
  plain = λ k d below. absurd (omega (arith, below));
  sound = λ i note at. absurd (none-some note at);
  whole = λ k c below. absurd (omega (arith, below));
}

module _ (net : AigPair) (es : List Entry) (p : Table) (n : ℕ) (d : Definition) (at : slice_get (definitions net) n ≡ Some d) (pass : IsPass net es p n) where
  next : (k : ℕ) (c : Definition) → k < n + 1 → slice_get (definitions net) k ≡ Some c → (k < n) ⊎ ((k ≡ n) × (c ≡ d))
  next k c below here = go (nat_lt k n) refl
    where
      go : (b : Bool) → nat_lt k n ≡ b → (k < n) ⊎ ((k ≡ n) × (c ≡ d))
      go true e = inl (grind (arith, nat_tests))
      go false e =
          let same : k ≡ n = grind (arith, nat_tests) in
          inr (same, same_Some c d (sym here ∙ ap (slice_get (definitions net)) same ∙ at))

  seen-more : (note : Noted) → IsSeen net es n note → IsSeen net es (n + 1) note
  seen-more note old = record {
    place = old.place;
    gate = old.gate;
    below = omega (arith, old.below);
    at = old.at;
    position = old.position;
    unmerged = old.unmerged;
    codes = old.codes;
  }

  -- the gate was merged before
  pub pass-skipped : (IsRoot es d.node → ⊥) → IsPass net es p (n + 1)
  pass-skipped merged = record {
    plain = λ k c below here root.
        elim (next k c below here) [
          | inl l ↦ pass.plain k c l here root
          | inr s ↦ absurd (merged (subst (λ (x : Definition). IsRoot es x.node) s.1 root))
        ];
    sound = λ i note e. seen-more note (pass.sound i note e);
    whole = λ k c below here root.
        elim (next k c below here) [
          | inl l ↦ pass.whole k c l here root
          | inr s ↦ absurd (merged (subst (λ (x : Definition). IsRoot es x.node) s.1 root))
        ];
  }

  -- ---- the table is asked for the gate's roots, which don't fold
  module _ (is : IsNet net) (a b : Lit) (x y gate : ℕ) (left : a ≡ root_of es d.left) (right : b ≡ root_of es d.right) (root : IsRoot es d.node)
      (unfolded : folded a b ≡ None) (code_a : code_of net a ≡ Some x) (code_b : code_of net b ≡ Some y) (position : position_of net d.node ≡ Some gate) where
    plain-roots : folded (root_of es d.left) (root_of es d.right) ≡ None
    plain-roots = ap (λ (x : Lit). folded x (root_of es d.right)) (sym left) ∙ ap (folded a) (sym right) ∙ unfolded

    -- the note of an earlier gate with these codes is a twin's
    pub noted-twin : (h : HasNote p.notes x y) (c : Definition) → defined_by net (node_at net h.note.gate) ≡ Some c → IsTwin net es c d
    noted-twin h c defined =
        subst (λ (z : Definition). IsTwin net es z d) same
        (record {
          first = seen.place;
          second = n;
          earlier = seen.below;
          at_first = seen.at;
          at_second = at;
          unmerged = seen.unmerged;
          twins = twins;
        })
      where
        seen : IsSeen net es n h.note
        seen = pass.sound h.place h.note h.at

        gate-c : IsGate net seen.place seen.gate
        gate-c = is-gate net is seen.place seen.gate seen.at

        same : seen.gate ≡ c
        same =
            let node : node_at net h.note.gate ≡ seen.gate.node =
            ap (node_at net) seen.position ∙ node-at net seen.gate.node (1 + length net.a.inputs + seen.place) gate-c.node in
            same_Some seen.gate c (sym gate-c.defined ∙ ap (defined_by net) (sym node) ∙ defined)

        twins : AreTwins es seen.gate d
        twins =
            subst (λ (l : Lit). ((root_of es seen.gate.left ≡ l) × (root_of es seen.gate.right ≡ root_of es d.right))
            ⊎ ((root_of es seen.gate.left ≡ root_of es d.right) × (root_of es seen.gate.right ≡ l))) left
            (subst (λ (r : Lit). ((root_of es seen.gate.left ≡ a) × (root_of es seen.gate.right ≡ r))
            ⊎ ((root_of es seen.gate.left ≡ r) × (root_of es seen.gate.right ≡ a))) right
            (codes-twins net h.note (root_of es seen.gate.left) (root_of es seen.gate.right) a b seen.codes
            (codes-of net h.note a b x y code_a code_b h.codes)))

    -- a note is always a gate's
    pub noted-gate : (h : HasNote p.notes x y) → defined_by net (node_at net h.note.gate) ≡ None → ⊥
    noted-gate h none =
        let seen = pass.sound h.place h.note h.at in
        let gate-c = is-gate net is seen.place seen.gate seen.at in
        let node : node_at net h.note.gate ≡ seen.gate.node =
        ap (node_at net) seen.position ∙ node-at net seen.gate.node (1 + length net.a.inputs + seen.place) gate-c.node in
        none-some seen.gate (sym none ∙ ap (defined_by net) node ∙ gate-c.defined)

    pub noted-defined : (h : HasNote p.notes x y) (new : Table) (o : Option Definition) → new ≡ p → o ≡ defined_by net (node_at net h.note.gate)
        → IfSome o (λ c. IsTwin net es c d × IsPass net es new n)
    noted-defined h new (Some c) same e = (noted-twin h c (sym e), subst (λ (t : Table). IsPass net es t n) (sym same) pass)
    noted-defined h new None same e = tt

    pub noted-some : (h : HasNote p.notes x y) (new : Table) (o : Option Definition) → o ≡ defined_by net (node_at net h.note.gate)
        → IfNone o (IsPass net es new (n + 1))
    noted-some h new (Some c) e = tt
    noted-some h new None e = absurd (noted-gate h (sym e))

    -- and stands at a position
    pub noted-within : (h : HasNote p.notes x y) → h.note.gate < length (nodes_of net)
    noted-within h =
        let seen = pass.sound h.place h.note h.at in
        omega (arith, seen.position, slice_get_within (definitions net) seen.place seen.gate seen.at, length-nodes net, length-definitions net)

    -- where there is none, the gate is noted
    module _ (none : HasNote p.notes x y → ⊥) (note : Noted) (codes : HasCodes note x y) (is_gate : note.gate ≡ gate) where
      here-codes : AreCodes net note (root_of es d.left) (root_of es d.right)
      here-codes =
          subst (λ (l : Lit). AreCodes net note l (root_of es d.right)) left
          (subst (λ (r : Lit). AreCodes net note a r) right (codes-of net note a b x y code_a code_b codes))

      no-twin : (j : ℕ) (c : Definition) → j < n → slice_get (definitions net) j ≡ Some c → IsRoot es c.node → ¬ AreTwins es c d
      no-twin j c below here root_c twins =
          let old = pass.whole j c below here root_c in
          let roots : AreCodes net old.note (root_of es d.left) (root_of es d.right) =
          elim twins [
            | inl s ↦
                subst (λ (l : Lit). AreCodes net old.note l (root_of es d.right)) s.0
                (subst (λ (r : Lit). AreCodes net old.note (root_of es c.left) r) s.1 old.codes)
            | inr s ↦
                flip-codes net old.note (root_of es d.right) (root_of es d.left)
                (subst (λ (l : Lit). AreCodes net old.note l (root_of es d.left)) s.0
                (subst (λ (r : Lit). AreCodes net old.note (root_of es c.left) r) s.1 old.codes))
          ] in
          none (record {
            place = old.place;
            note = old.note;
            at = old.at;
            codes = of-codes net old.note a b x y code_a code_b
                (subst (λ (l : Lit). AreCodes net old.note l b) (sym left)
                (subst (λ (r : Lit). AreCodes net old.note (root_of es d.left) r) (sym right) roots));
          })

      pub pass-noted : IsPass net es (record { notes = p.notes ++ note ∷ [] }) (n + 1)
      pass-noted = record { plain = plain; sound = sound; whole = whole }
        where
          plain : ArePlainBelow net es (n + 1)
          plain k c below here root_c =
              elim (next k c below here) [
                | inl l ↦ pass.plain k c l here root_c
                | inr s ↦
                    subst (λ (x : Definition). IsPlain net es k x) (sym s.1)
                    (subst (λ (i : ℕ). IsPlain net es i d) (sym s.0) (λ root_d. (plain-roots, no-twin))) root_c
              ]

          sound : (i : ℕ) (m : Noted) → slice_get (p.notes ++ note ∷ []) i ≡ Some m → IsSeen net es (n + 1) m
          sound i m e = elim (cases_lt i (length p.notes)) [
            | inl l ↦ seen-more m (pass.sound i m (sym (slice_get-left p.notes (note ∷ []) i l) ∙ e))
            | inr le ↦
                let inside = slice_get_within (p.notes ++ note ∷ []) i m e in
                let last : i ≡ length p.notes + 0 = omega (arith, le, inside, length-append p.notes (note ∷ [])) in
                let same : note ≡ m = same_Some note m (sym (slice_get-right p.notes (note ∷ []) 0) ∙ ap (slice_get (p.notes ++ note ∷ [])) (sym last) ∙ e) in
                let stands : gate ≡ 1 + length net.a.inputs + n =
                same_Some gate (1 + length net.a.inputs + n) (sym position ∙ (is-gate net is n d at).node) in
                subst (IsSeen net es (n + 1)) same
                (record { place = n; gate = d; below = omega arith; at = at; position = is_gate ∙ stands; unmerged = root; codes = here-codes })
          ]

          more : (u v : Lit) → IsListed net p u v → IsListed net (record { notes = p.notes ++ note ∷ [] }) u v
          more u v old = record {
            place = old.place;
            note = old.note;
            at = slice_get-left p.notes (note ∷ []) old.place (slice_get_within p.notes old.place old.note old.at) ∙ old.at;
            codes = old.codes;
          }

          whole : (k : ℕ) (c : Definition) → k < n + 1 → slice_get (definitions net) k ≡ Some c → IsRoot es c.node
              → IsListed net (record { notes = p.notes ++ note ∷ [] }) (root_of es c.left) (root_of es c.right)
          whole k c below here root_c =
              elim (next k c below here) [
                | inl l ↦ more (root_of es c.left) (root_of es c.right) (pass.whole k c l here root_c)
                | inr s ↦
                    subst (λ (x : Definition). IsListed net (record { notes = p.notes ++ note ∷ [] }) (root_of es x.left) (root_of es x.right)) (sym s.1)
                    (record {
                      place = length p.notes + 0;
                      note = note;
                      at = slice_get-right p.notes (note ∷ []) 0;
                      codes = here-codes;
                    })
              ]

-- where both sides were visited, all gates are plain
pub all-plain : {T E : Type 0} (net : AigPair) (es : List Entry) (p : Table) (visited : ℕ) (r : Result T E) → OnOk r (IsPass net es p visited)
    → OnOk r (visited ≡ gates_before net B + length (circuit_of net B).gates) → OnOk r (ArePlain net es)
all-plain net es p n (Ok t) pass visited =
    λ k d below. pass.plain k d
    (omega (
      arith,
      below,
      visited,
      length-append (map (definition_of A net.a) net.a.gates) (map (definition_of B net.b) net.b.gates),
      length-map net.a.gates (definition_of A net.a),
      length-map net.b.gates (definition_of B net.b),
    ))
all-plain net es p n (Err e) pass visited = tt

-- what isn't merged is a root, what is merged isn't
pub root-from : (o : Option MergeAt) (b : Bool) → b ≡ is_some o → b ≡ false → o ≡ None
root-from None b e f = refl
root-from (Some m) b e f = let g : true ≡ false = sym e ∙ f in cc

pub no-root : (o : Option MergeAt) (b : Bool) → b ≡ is_some o → b ≡ true → o ≡ None → ⊥
no-root o b e f g = let h : true ≡ false = sym f ∙ e ∙ ap is_some g in cc

-- there are few gates
pub few-gates : (net : AigPair) → IsNet net → (n : ℕ) (d : Definition) → slice_get (definitions net) n ≡ Some d → n < 2 ^ 26
few-gates net is n d e =
    omega (
      arith,
      slice_get_within (definitions net) n d e,
      few_gates_of net.a is.a,
      few_gates_of net.b is.b,
      length-append (map (definition_of A net.a) net.a.gates) (map (definition_of B net.b) net.b.gates),
      length-map net.a.gates (definition_of A net.a),
      length-map net.b.gates (definition_of B net.b),
    )

-- gate j of a side, as the net defines it, is the next one of all
module _ (net : AigPair) (is : IsNet net) (j : ℕ) (g : And) where
  pub side-gate : (s : Side) → slice_get (circuit_of net s).gates j ≡ Some g → (d : Definition) → defined_by net (Gate s g.var) ≡ Some d
      → (n : ℕ) → n ≡ gates_before net s + j → slice_get (definitions net) n ≡ Some d
  side-gate A at d e n count =
      let same = same_Some (definition_of A net.a g) d (sym (gate-definition net is A j g at).0 ∙ e) in
      let place : n ≡ j = omega arith in
      ap (slice_get (definitions net)) place ∙ gate-a net is j g at ∙ ap Some same
  side-gate B at d e n count =
      let same = same_Some (definition_of B net.b g) d (sym (gate-definition net is B j g at).0 ∙ e) in
      ap (slice_get (definitions net)) count ∙ gate-b net is j g at ∙ ap Some same

  pub side-defined : (s : Side) → slice_get (circuit_of net s).gates j ≡ Some g → defined_by net (Gate s g.var) ≡ None → ⊥
  side-defined s at e = none-some (definition_of s (circuit_of net s) g) (sym e ∙ (gate-definition net is s j g at).0)
