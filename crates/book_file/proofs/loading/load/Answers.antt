use Rattle.std.proofs.Common.{◌≡◌, ◌∙◌, ◌∷◌, [], List, ℕ, Option, length, refl, sym, ap, subst, arith}
use Rattle.std.specs.Vec.Iter.{into_iter_items}
use Rattle.lemma_book.specs.declared.entry.Entry.{Entry}
use Rattle.lemma_book.specs.Entry.{Entries}
use Rattle.lemma_book.specs.Book.{IsLegal}
use Rattle.book_file.specs.Loaded.{Loads}
use Rattle.book_file.proofs.LoadLemmas.{loads-next}
use Rattle.book_file.proofs.loading.load.Goals as goal

pub loop-entry-init : goal.loop-entry-init
loop-entry-init c =
    let items = c.into_iter-entry-iterator.ensures.into_iter_gives in
    record {
      left = let len = items.1 in let own = c.args.entries.ok in let count = ap length items.0 in omega arith;
      loads = λ last loads.
          subst (λ (es : List Entry). Loads c.args.net.now (record { sweep_budget = c.args.sweep_budget; out_budget = c.args.out_budget; entries = [] }) [] es last)
          items.0
          (subst (λ (ns : List (Option ℕ)). Loads c.args.net.now (record { sweep_budget = c.args.sweep_budget; out_budget = c.args.out_budget; entries = [] }) ns
          (into_iter_items c.into_iter-entry-iterator.result) last) c.in_ok-numbers.ensures.items
          (subst (λ (b : Entries). Loads c.args.net.now b c.in_ok-numbers.numbers.items (into_iter_items c.into_iter-entry-iterator.result) last)
          c.new-book.ensures loads));
      legal = subst (λ (b : Entries). IsLegal c.args.net.now b) (sym c.new-book.ensures) tt;
    }

pub loop-entry-preserved : goal.loop-entry-preserved
loop-entry-preserved c =
    let at = c.loop-entry in
    let x = c.in-Some.entry in
    let steps : into_iter_items at.entry-iterator ≡ x ∷ into_iter_items c.next.new.self = c.in-Some.ensures.steps.0 in
    record {
      left =
          let was = at.invariant.left in
          let gone = c.in-Some.ensures.steps.1 in
          let short = ap length steps in
          omega arith;
      loads = λ last loads.
          at.invariant.loads last (subst (λ (es : List Entry). Loads c.args.net.now at.book at.numbers.items es last) (sym steps)
          (loads-next c.args.net.now at.book at.numbers.items x c.take_or_pass.new.book c.take_or_pass.new.numbers.items
          (into_iter_items c.next.new.self) last c.in_ok-take_or_pass.ensures.ok loads));
      legal = c.take_or_pass.ensures.legal;
    }

nothing-left : (entries : List Entry) → length entries ≡ 0 → entries ≡ []
nothing-left [] none = refl
nothing-left (e ∷ es) none = absurd (omega arith)

pub returns-clause-loaded : goal.returns-clause-loaded
returns-clause-loaded c =
    let at = c.loop-entry in
    let none = c.in-None.ensures.steps in
    let empty : into_iter_items at.entry-iterator ≡ [] = nothing-left _ (sym at.invariant.left ∙ none.0) in
    at.invariant.loads at.book (subst (λ (es : List Entry). Loads c.args.net.now at.book at.numbers.items es at.book) (sym empty) refl)
