-- What a board keeps of a pass, after each kind of step.
use Rattle.std.specs.Prelude.{ℕ, ◌+◌, cond, nat_le, [], ◌∷◌, ◌++◌, length}
use Rattle.lemma_book.specs.Entry.{Entries}
use Rattle.ticket_lock.specs.declared.view.View.{View as LockView}
use Rattle.ticket_lock.specs.Views.{Member, opener as first_view}
use Rattle.board_lock.specs.declared.view.Said.{Said}
use Rattle.board_lock.specs.declared.view.Said.TheVariants.{At, Already, Known}
use Rattle.board_lock.specs.declared.view.Note.{Note}
use Rattle.board_lock.specs.declared.view.Own.{Own}
use Rattle.board_lock.specs.Story.{Story, Root, no_book, no_story}

-- a pass's view at the lock, and what the board sees of it
abbrev pub View : Type 0
View = LockView Story Own

abbrev pub Party : Type 0
Party = Member Own

-- what it knows after an answer: the whole book once it has looked at it
abbrev pub learned : Own → Story → Said → Entries
learned o h (At i e) = o.known
learned o h (Already i e) = o.known
learned o h (Known n) = h.book

-- after a turn that is noted, and after one that is missed
abbrev pub noting : Own → Story → Note → Own
noting o h n = record o { notes = o.notes ++ n ∷ []; known = learned o h n.said }

abbrev pub missing : Own → Own
missing o = record o { missed = o.missed + 1 }

-- after a draw
abbrev pub drew : Own → ℕ → Own
drew o n = record o { draws = o.draws ++ n ∷ [] }

-- a new pass knows what the one knew that it was cut off from
abbrev pub new_of : Own → Own
new_of o = record { draws = []; missed = 0; notes = []; known = o.known }

-- the longer of two books
abbrev pub longer : Entries → Entries → Entries
longer a b = cond (nat_le (length a.entries) (length b.entries)) b a

-- a pass that took in another, and what is left of that one
abbrev pub both_of : Own → Own → Own
both_of o p = record { draws = o.draws ++ p.draws; missed = o.missed + p.missed; notes = o.notes ++ p.notes; known = longer o.known p.known }

abbrev pub spent : Own
spent = record { draws = []; missed = 0; notes = []; known = no_book }

-- the first pass of a board
abbrev pub first_of : Root → Own
first_of root = record spent { known = root.opening }

abbrev pub opener : Root → View
opener root = first_view no_story (first_of root)
