-- What each step tells its pass.
use Rattle.std.specs.Prelude.{◌≡◌, ℕ, ◌+◌, ◌^◌, ◌<◌, ◌==◌, true, false, [], ◌∷◌, MatchBool}
use Rattle.atomic_table.specs.Table.{Me, Step}
use Rattle.ticket_lock.specs.declared.view.View.{View}
use Rattle.ticket_lock.specs.Views.{Member, member_of, in_line, inside, past, drew, numbering}

-- a pass's view, and what it holds of the table
abbrev pub Sat : Type 0 → Type 0 → Type 0
Sat S U = Me S (View S U)

module _ {S U : Type 0} where
  abbrev pub Ticketed : Step S → Sat S U → ℕ → Sat S U → Type 0
  Ticketed s v n w = w ≡ (in_line v.0 n, v.1)

  -- the slot was taken
  pub record Took (tells : Member U → S → Type 0) (v w : Sat S U) : Type 0 where
    pub slot : S
    pub is : w ≡ (record v.0 { holds = true; taken = slot }, (0, slot) ∷ v.1)
    pub fact : tells (member_of v.0) slot

  -- the slot is taken where the pass's ticket is served
  abbrev pub Looked : (Member U → S → Type 0) → Step S → Sat S U → ℕ → Sat S U → Type 0
  Looked fact s v n w = MatchBool (n == v.0.ticket) (Took fact v w) (w ≡ v)

  abbrev pub Released : (Member U → S → U) → (Member U → S → Type 0) → Step S → Sat S U → ℕ → Sat S U → Type 0
  Released after told s v n w = (w ≡ (past v.0 (after (member_of v.0) v.0.taken), [])) × told (member_of v.0) v.0.taken

  abbrev pub Drawn : (Member U → ℕ → U) → (Member U → ℕ → Type 0) → Step S → Sat S U → ℕ → Sat S U → Type 0
  Drawn after told s v n w = (w ≡ (drew v.0 (after (member_of v.0) n), v.1)) × told (member_of v.0) n

  -- the number of a new pass is one more than what was found
  abbrev pub Numbered : Step S → Sat S U → ℕ → Sat S U → Type 0
  Numbered s v n w = (w ≡ (numbering v.0 (n + 1), v.1)) × (n < 2 ^ 62)

  -- a pass that came in, with what lay in the slot
  pub record CameIn (tells : Member U → S → Type 0) (v w : Sat S U) : Type 0 where
    pub ticket : ℕ
    pub slot : S
    pub is : w ≡ (inside v.0 ticket slot, (0, slot) ∷ [])
    pub fact : tells (member_of v.0) slot

  -- the pass waits with this ticket
  pub record IsInLine (ticket : ℕ) (me : Sat S U) : Type 0 where
    pub waits : me.0.waits ≡ true
    pub holds : me.0.holds ≡ false
    pub ticket_is : me.0.ticket ≡ ticket
    pub free : me.1 ≡ []

  -- it holds a number for a new one
  pub record IsCutting (me : Sat S U) : Type 0 where
    pub number : ℕ
    pub waits : me.0.waits ≡ false
    pub holds : me.0.holds ≡ false
    pub held : me.0.held ≡ number ∷ []
    pub free : me.1 ≡ []
