-- What a session has between its calls.
use Rattle.std.proofs.Common.{◌≡◌, ℕ, inl, inr, refl, List, [], ◌∷◌, ◌++◌, length, Option, Some, None, sym, ap, ◌∙◌, subst}
use Rattle.std.specs.Prelude.{IfSome, unwrap_or}
use Rattle.std.specs.List.{AllByRecursion}
use Rattle.netlist.specs.Net.{AigPair}
use Rattle.word_sim.specs.Patterns.{Patterns}
use Rattle.lemma_book.specs.Entry.{Entries}
use Rattle.lemma_book.specs.declared.entry.Entry.{Entry}
use Rattle.lemma_book.specs.Book.{IsLegal}
use Rattle.book_file.specs.Loaded.{IsLoaded, Loads as LoadsBehind, with_taken}
use Rattle.netlist_edits.specs.declared.edit.Edit.{Edit}
use Rattle.netlist_edits.specs.Edited.{edited}
use Rattle.netlist_edits.proofs.Facts.{edited_all-last, inputs-edited_all}
use Rattle.keep_lemmas.specs.Kept.{handed_out, kept}
use Rattle.keep_lemmas.proofs.Facts.{handed-whole, kept-equal}
use Rattle.check_session.specs.declared.begin.Past.{Past}
use Rattle.check_session.specs.declared.options.Options.{Options}
use Rattle.check_session.specs.Pool.{IsPoolOf, first_pool}
use Rattle.check_session.specs.Begun.{IsPastOf, MayBegin, begun_after, begun_from}
use Rattle.check_session.specs.Check.{IsSession, State, begun_by, empty_book, opened, with_edit}
use Rattle.check_session.proofs.BegunLemmas.{pool-alike, pool-inputs}
use Rattle.check_session.proofs.PoolLemmas.{pool-or_first}

pool-edited : (net : AigPair) (o : Options) (e : Edit) (pool : Option Patterns) → IfSome pool (IsPoolOf net o) → IfSome pool (IsPoolOf (edited net e) o)
pool-edited net o e None of = tt
pool-edited net o e (Some p) of = pool-alike net (edited net e) o p (ap (λ (xs : List ℕ). length xs) (inputs-edited_all net (e ∷ []))) of

-- after an edit
session-edit : (s : State) (e : Edit) → IsSession s → IsSession (with_edit s e)
session-edit s e is = record {
  range = is.range;
  edited = ap (λ (n : AigPair). edited n e) is.edited ∙ sym (edited_all-last s.last s.edits e);
  pool = pool-edited s.net s.options e s.pool is.pool;
  book = is.book;
  found = tt;
}

-- after an edit, where the parts of the state are these
pub session-changed : (s : State) (e : Edit) (net : AigPair) (last : Option AigPair) (edits : List Edit) → IsSession s → net ≡ edited s.net e
    → last ≡ Some s.last → edits ≡ s.edits ++ e ∷ []
    → IsSession (record { net = net; options = s.options; pool = s.pool; book = s.book; found = None; last = unwrap_or last net; edits = edits })
session-changed s e net last edits is net_is last_is edits_are =
    subst (λ (n : AigPair).
    IsSession (record { net = n; options = s.options; pool = s.pool; book = s.book; found = None; last = unwrap_or last n; edits = edits })) (sym net_is)
    (subst (λ (l : Option AigPair).
    IsSession (record { net = edited s.net e; options = s.options; pool = s.pool; book = s.book; found = None; last = unwrap_or l (edited s.net e); edits = edits })) (sym last_is)
    (subst (λ (es : List Edit).
    IsSession (record { net = edited s.net e; options = s.options; pool = s.pool; book = s.book; found = None; last = s.last; edits = es })) (sym edits_are)
    (session-edit s e is)))

-- what is taken out for a check is what the check begins with
pub begun-parted : (s : State) (last : Option AigPair) (edits : List Edit) (pool : Option Patterns) (book : Entries)
    → unwrap_or last s.net ≡ s.last → edits ≡ s.edits → pool ≡ s.pool → book ≡ s.book
    → begun_from s.net s.options (unwrap_or last s.net) edits pool book ≡ begun_by s
begun-parted s last edits pool book last_is edits_are pool_is book_is =
    ap (λ (n : AigPair). begun_from s.net s.options n edits pool book) last_is
    ∙ ap (λ (es : List Edit). begun_from s.net s.options s.last es pool book) edits_are
    ∙ ap (λ (p : Option Patterns). begun_from s.net s.options s.last s.edits p book) pool_is
    ∙ ap (λ (b : Entries). begun_from s.net s.options s.last s.edits s.pool b) book_is

-- ---- what a check begins with

module _ (net : AigPair) (o : Options) (past : Past) (is : IsPastOf net o past) where
  -- each input that joins has a truth value for each input of the pair
  pub begun-inputs : AllByRecursion (λ bits. length bits ≡ length net.a.inputs) (handed_out past.book.entries)
  begun-inputs =
      let same : net.a.inputs ≡ (unwrap_or past.last net).a.inputs =
      ap (λ (n : AigPair). n.a.inputs) is.edited ∙ inputs-edited_all (unwrap_or past.last net) past.edits.items in
      subst (λ (k : ℕ). AllByRecursion (λ bits. length bits ≡ k) (handed_out past.book.entries)) (sym (ap (λ (xs : List ℕ). length xs) same))
      (handed-whole (unwrap_or past.last net) past.book is.book.legal)

  -- it is fit for that
  pub begun-fit : IsLegal net (kept (unwrap_or past.last net) past.edits.items past.book) → MayBegin net o (begun_after net o past)
  begun-fit legal = record {
    book = record { sweep_is = is.book.sweep_is; budget_is = is.book.budget_is; legal = legal };
    equal = kept-equal (unwrap_or past.last net) past.edits.items past.book;
    pool = pool-inputs net o (unwrap_or past.pool (first_pool net o)) (handed_out past.book.entries) (pool-or_first net o past.pool is.pool) begun-inputs;
  }

-- ---- a session that loads lemmas

-- the loaded book has the budgets of the one that took the entries
loads-budgets : (net : AigPair) (book : Entries) (numbers : List (Option ℕ)) (entries : List Entry) (last : Entries)
    → LoadsBehind net book numbers entries last → (last.sweep_budget ≡ book.sweep_budget) × (last.out_budget ≡ book.out_budget)
loads-budgets net book numbers [] last is = (ap (λ (b : Entries). b.sweep_budget) is, ap (λ (b : Entries). b.out_budget) is)
loads-budgets net book numbers (e ∷ entries) last (inl taken) =
    loads-budgets net (with_taken book numbers e) (numbers ++ Some (length book.entries) ∷ []) entries last taken.1
loads-budgets net book numbers (e ∷ entries) last (inr passed) = loads-budgets net book (numbers ++ None ∷ []) entries last passed.1

-- and is one that a session may have
session-loads : (s : State) (entries : List Entry) (book : Entries) → IsSession s → s ≡ opened s.net s.options
    → IsLoaded s.net s.options.sweep_budget s.options.out_budget entries book → IsLegal s.net book
    → IsSession (record (opened s.net s.options) { book = book })
session-loads s entries book is fresh loaded legal =
    let budgets = loads-budgets s.net (empty_book s.options) [] entries book loaded in
    record {
      range = is.range;
      edited = refl;
      pool = tt;
      book = record { sweep_is = budgets.0; budget_is = budgets.1; legal = legal };
      found = tt;
    }

pub session-loaded : (s : State) (entries : List Entry) (book : Entries) → IsSession s → s ≡ opened s.net s.options
    → IsLoaded s.net s.options.sweep_budget s.options.out_budget entries book → IsLegal s.net book → IsSession (record s { book = book })
session-loaded s entries book is fresh loaded legal =
    subst (λ (x : State). IsSession (record x { book = book })) (sym fresh) (session-loads s entries book is fresh loaded legal)
