use Rattle.std.proofs.Common.{◌≡◌, ◌∙◌, ℕ, true, List, [], length, sym, ap, subst, arith}
use Rattle.std.proofs.lemmas.List.{with_items_is}
use Rattle.netlist.specs.Net.{nodes_of}
use Rattle.sig_classes.specs.Kept.{AreKept, AreWithout, HaveRoots, Kept, counts}
use Rattle.sig_classes.proofs.CountLemmas.{kept-without, roots-stay}
use Rattle.sig_classes.proofs.kept.KeptClasses.leave_out.Goals.{then-not-have_roots+in_ok-self-inside, else-not-have_roots}
use Rattle.sig_classes.proofs.kept.KeptClasses.leave_out.Goals as goal

pub drop_merged-requires : goal.drop_merged-requires
drop_merged-requires c = elim c.if-not-have_roots.branch [
  | then-not-have_roots+in_ok-self-inside w ↦
      ap (λ (xs : List ℕ). length xs) c.as_mut_slice.ensures.value ∙ ap (λ s. length s.leaders.items) w.self-inside-is
      ∙ (w.in_ok-self-inside.ensures.kept []).classes.size
  | else-not-have_roots w ↦
      ap (λ (xs : List ℕ). length xs) c.as_mut_slice.ensures.value ∙ ap (λ s. length s.leaders.items) w.self-inside-is
      ∙ ap (λ (k : Kept). length k.leaders) c.self.view_is ∙ c.requires.size
]

pub returns-clause-kept : goal.returns-clause-kept
returns-clause-kept c = λ patterns whole kept.
    let net = c.args.net.now in
    let entries = c.args.book.now.entries in
    let s = c.if-not-have_roots.self-inside in
    let without : AreWithout c.args.net.now c.args.book.now.entries (length (nodes_of c.args.net.now)) c.if-not-have_roots.self-inside.leaders.items
    c.drop_merged.new.leaders =
    subst (λ (xs : List ℕ). AreWithout net entries (length (nodes_of net)) xs c.drop_merged.new.leaders) c.as_mut_slice.ensures.value
    c.drop_merged.ensures in
    let put : (Rattle.std.specs.Vec.with_items c.if-not-have_roots.self-inside.leaders c.drop_merged.new.leaders).items ≡ c.drop_merged.new.leaders =
    with_items_is c.if-not-have_roots.self-inside.leaders c.drop_merged.new.leaders
    (omega (arith, c.drop_merged.ensures.size, c.as_mut_slice.ensures.len)) in
    let finish : AreKept c.args.net.now patterns (record { seen = c.if-not-have_roots.self-inside.seen; leaders = c.drop_merged.new.leaders })
    → AreKept c.args.net.now patterns (record {
      seen = c.if-not-have_roots.self-inside.seen;
      leaders = (Rattle.std.specs.Vec.with_items c.if-not-have_roots.self-inside.leaders c.drop_merged.new.leaders).items;
    }) = λ now. subst (λ (xs : List ℕ). AreKept net patterns (record { seen = s.seen; leaders = xs })) (sym put) now in
    elim c.if-not-have_roots.branch [
      | then-not-have_roots+in_ok-self-inside w ↦
          let roots : HaveRoots c.args.net.now c.args.book.now.entries c.if-not-have_roots.self-inside.leaders.items =
          λ p below is_root. rw w.self-inside-is (w.in_ok-self-inside.ensures.all p) in
          let here : AreKept c.args.net.now patterns (record {
            seen = c.if-not-have_roots.self-inside.seen;
            leaders = c.if-not-have_roots.self-inside.leaders.items;
          }) = rw w.self-inside-is (w.in_ok-self-inside.ensures.kept patterns) in
          finish (kept-without c.args.net.now c.is_net.ensures c.args.book.now c.requires.legal c.roots_keep_values.ensures patterns whole s.seen
          s.leaders.items c.drop_merged.new.leaders without roots here)
      | else-not-have_roots w ↦
          let roots : HaveRoots c.args.net.now c.args.book.now.entries c.if-not-have_roots.self-inside.leaders.items =
          λ p below is_root. rw w.self-inside-is (subst (λ (xs : List ℕ). counts xs p ≡ true) c.as_slice.ensures.value (w.if-not-have_roots.ensures p below is_root)) in
          let here : AreKept c.args.net.now patterns (record {
            seen = c.if-not-have_roots.self-inside.seen;
            leaders = c.if-not-have_roots.self-inside.leaders.items;
          }) = rw w.self-inside-is (subst (λ (k : Kept). AreKept net patterns k) (sym c.self.view_is) kept) in
          finish (kept-without c.args.net.now c.is_net.ensures c.args.book.now c.requires.legal c.roots_keep_values.ensures patterns whole s.seen
          s.leaders.items c.drop_merged.new.leaders without roots here)
    ]

pub returns-clause-roots : goal.returns-clause-roots
returns-clause-roots c = λ p below is_root.
    let net = c.args.net.now in
    let entries = c.args.book.now.entries in
    let without : AreWithout c.args.net.now c.args.book.now.entries (length (nodes_of c.args.net.now)) c.if-not-have_roots.self-inside.leaders.items
    c.drop_merged.new.leaders =
    subst (λ (xs : List ℕ). AreWithout net entries (length (nodes_of net)) xs c.drop_merged.new.leaders) c.as_mut_slice.ensures.value
    c.drop_merged.ensures in
    let put : (Rattle.std.specs.Vec.with_items c.if-not-have_roots.self-inside.leaders c.drop_merged.new.leaders).items ≡ c.drop_merged.new.leaders =
    with_items_is c.if-not-have_roots.self-inside.leaders c.drop_merged.new.leaders
    (omega (arith, c.drop_merged.ensures.size, c.as_mut_slice.ensures.len)) in
    let finish : HaveRoots c.args.net.now c.args.book.now.entries c.if-not-have_roots.self-inside.leaders.items
    → counts (Rattle.std.specs.Vec.with_items c.if-not-have_roots.self-inside.leaders c.drop_merged.new.leaders).items p ≡ true = λ roots.
    ap (λ (xs : List ℕ). counts xs p) put
    ∙ roots-stay net c.is_net.ensures c.args.book.now c.requires.legal c.roots_keep_values.ensures [] (λ k less. absurd (omega (arith, less)))
    c.if-not-have_roots.self-inside.leaders.items c.drop_merged.new.leaders without roots p below is_root in
    elim c.if-not-have_roots.branch [
      | then-not-have_roots+in_ok-self-inside w ↦ finish (λ q inside root. rw w.self-inside-is (w.in_ok-self-inside.ensures.all q))
      | else-not-have_roots w ↦
          finish (λ q inside root. rw w.self-inside-is
          (subst (λ (xs : List ℕ). counts xs q ≡ true) c.as_slice.ensures.value (w.if-not-have_roots.ensures q inside root)))
    ]
