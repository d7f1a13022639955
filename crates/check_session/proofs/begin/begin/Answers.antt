use Rattle.std.proofs.Common.{◌≡◌, ℕ, List, Bool, length, ap, ap₂, sym, subst, ◌∙◌}
use Rattle.std.specs.Prelude.{unwrap_or}
use Rattle.std.specs.List.{AllByRecursion}
use Rattle.netlist.specs.Net.{AigPair}
use Rattle.word_sim.specs.Patterns.{Patterns}
use Rattle.lemma_book.specs.Entry.{Entries}
use Rattle.lemma_book.specs.Book.{IsLegal}
use Rattle.netlist_edits.specs.declared.edit.Edit.{Edit}
use Rattle.keep_lemmas.specs.Kept.{handed_out, kept}
use Rattle.check_session.specs.Begun.{Begun, MayBegin, begun_after, with_inputs}
use Rattle.check_session.specs.Pool.{first_pool}
use Rattle.check_session.proofs.SessionLemmas.{begun-fit, begun-inputs}
use Rattle.check_session.proofs.PoolLemmas.{pool-or_first}
use Rattle.check_session.proofs.begin.begin.Goals as goal

pub join_all-requires : goal.join_all-requires
join_all-requires c =
    let net = c.args.net.now in
    let o = c.args.options in
    let past = c.args.past in
    let pool : c.in_ok-pool.pool.inputs ≡ length net.a.inputs =
    ap (λ (p : Patterns). p.inputs) c.in_ok-pool.ensures ∙ (pool-or_first net o past.pool c.requires.past.pool).fits.inputs in
    subst (λ (inputs : List (List Bool)). AllByRecursion (λ bits. length bits ≡ c.in_ok-pool.pool.inputs) inputs)
    (sym (c.as_slice-2.ensures.value ∙ c.in_ok-book.ensures.inputs))
    (subst (λ (k : ℕ). AllByRecursion (λ bits. length bits ≡ k) (handed_out past.book.entries)) (sym pool)
    (begun-inputs net o past c.requires.past))

pub returns-clause-begun : goal.returns-clause-begun
returns-clause-begun c =
    let net = c.args.net.now in
    let past = c.args.past in
    let book : c.in_ok-book.book ≡ kept (unwrap_or past.last net) past.edits.items past.book =
    c.in_ok-book.ensures.kept
    ∙ (ap (λ (n : AigPair). kept n c.as_slice.result.now past.book) c.before-2.ensures
    ∙ ap (λ (es : List Edit). kept (unwrap_or past.last net) es past.book) c.as_slice.ensures.value) in
    let pool : c.join_all.new.pool ≡ with_inputs (unwrap_or past.pool (first_pool net c.args.options)) (handed_out past.book.entries) =
    c.in_ok-join_all.ensures
    ∙ (ap (λ (p : Patterns). with_inputs p c.as_slice-2.result.now) c.in_ok-pool.ensures
    ∙ ap (with_inputs (unwrap_or past.pool (first_pool net c.args.options))) (c.as_slice-2.ensures.value ∙ c.in_ok-book.ensures.inputs)) in
    ap₂ (λ (b : Entries) (p : Patterns). record { book = b; pool = p }) book pool

pub returns-clause-fit : goal.returns-clause-fit
returns-clause-fit c =
    let net = c.args.net.now in
    let o = c.args.options in
    let past = c.args.past in
    let begun : record { book = c.in_ok-book.book; pool = c.join_all.new.pool } ≡ begun_after net o past = returns-clause-begun c in
    let book : c.in_ok-book.book ≡ kept (unwrap_or past.last net) past.edits.items past.book = ap (λ (b : Begun). b.book) begun in
    subst (λ (b : Begun). MayBegin net o b) (sym begun)
    (begun-fit net o past c.requires.past (subst (λ (b : Entries). IsLegal net b) book c.in_ok-book.ensures.legal))
