-- Lists of numbers that stand one after another in one flat list.
use Rattle.std.specs.Prelude.{ℕ, ◌-◌, ◌≤◌, ◌<◌, List, take, drop, length, slice_index_or}
use Rattle.watch_lists.specs.declared.flat.Span.{Span}

abbrev pub no_span : Span
no_span = record { start = 0; end = 0 }

abbrev pub span_at : List Span → ℕ → Span
span_at spans i = slice_index_or spans i no_span

-- the numbers of a span
abbrev pub piece : List ℕ → Span → List ℕ
piece lits s = take (s.end - s.start) (drop s.start lits)

-- the spans lie within the list
pub record AreSpans (spans : List Span) (lits : List ℕ) : Type 0 where
  pub within : (i : ℕ) → i < length spans → ((span_at spans i).start ≤ (span_at spans i).end) × ((span_at spans i).end ≤ length lits)
