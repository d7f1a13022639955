use Rattle.std.proofs.Common.{◌≡◌, ◌∙◌, ◌-◌, ◌<◌, ◌≤◌, ℕ, Bool, false, List, length, slice_index, sym, ap, subst, arith}
use Rattle.std.proofs.lemmas.Grind.{get_or_default_zero}
use Rattle.word_sim.specs.Rows.{Signatures}
use Rattle.sig_classes.specs.Chains.{Chains, HasMembers, are_one, bucket_at}
use Rattle.sig_classes.proofs.ChainLemmas.{IsSearched, bucket-is, search-init, search-next}
use Rattle.sig_classes.proofs.chains.Firsts.find.Goals as goal

-- what the loop keeps
abbrev Keeps : List ℕ → Signatures → ℕ → ℕ → Chains → Type 0
Keeps classes sigs p link t =
    (link ≤ length t.behind) × ((member : ℕ → Bool) → HasMembers classes sigs member t → IsSearched classes sigs member t p link)

pub loop-link-init : goal.loop-link-init
loop-link-init c =
    let i = c.self.inside in
    let sigs = c.args.sigs.now in
    let size : c.len.result ≡ length i.heads.items = omega (arith, c.len.ensures, i.heads.ok.0) in
    let classes = c.args.classes.now in
    let bucket : c.bucket.result ≡ bucket_at classes sigs (record { heads = i.heads.items; behind = i.behind.items }) c.args.position =
    bucket-is classes sigs (record { heads = i.heads.items; behind = i.behind.items }) c.args.position c.len.result c.class_of-class.result c.patterns.result
    c.row-row.result.now c.bucket.result c.bucket.ensures.bucket size c.class_of-class.ensures c.patterns.ensures c.row-row.ensures.row in
    let read : c.index-link.result.now ≡ slice_index i.heads.items c.bucket.result =
    c.index-link.ensures ∙ get_or_default_zero i.heads.items _ _ (omega (arith, c.bucket.ensures.inside, size)) in
    subst (Keeps c.args.classes.now sigs c.args.position c.index-link.result.now) c.self.view_is (
      omega (arith, read, c.self.invariant.heads c.bucket.result),
      λ member chains. search-init classes sigs member _ c.args.position c.index-link.result.now (read ∙ ap (slice_index i.heads.items) bucket) chains,
    )

pub loop-link-smaller : goal.loop-link-smaller
loop-link-smaller c =
    let i = c.self.inside in
    let room : length c.args.self.now.behind ≡ length i.behind.items = ap (λ (t : Chains). length t.behind) (sym c.self.view_is) in
    let inside : c.loop-link.link - 1 < length i.behind.items = omega (arith, c.loop-link.invariant.0, room, c.loop-link-test.true) in
    let read : c.index-link-in-loop-link.result.now ≡ slice_index i.behind.items (c.loop-link.link - 1) =
    c.index-link-in-loop-link.ensures ∙ get_or_default_zero i.behind.items _ _ inside in
    omega (arith, read, c.self.invariant.behind (c.loop-link.link - 1), c.loop-link-test.true)

pub loop-link-preserved : goal.loop-link-preserved
loop-link-preserved c =
    let i = c.self.inside in
    let sigs = c.args.sigs.now in
    let link = c.loop-link.link in
    let room : length c.args.self.now.behind ≡ length i.behind.items = ap (λ (t : Chains). length t.behind) (sym c.self.view_is) in
    let inside : c.loop-link.link - 1 < length i.behind.items = omega (arith, c.loop-link.invariant.0, room, c.loop-link-test.true) in
    let read : c.index-link-in-loop-link.result.now ≡ slice_index i.behind.items (c.loop-link.link - 1) =
    c.index-link-in-loop-link.ensures ∙ get_or_default_zero i.behind.items _ _ inside in
    let apart : are_one c.args.classes.now sigs (c.loop-link.link - 1) c.args.position ≡ false = sym c.if-is_one.ensures in
    let kept : Keeps c.args.classes.now sigs c.args.position c.loop-link.link (record { heads = i.heads.items; behind = i.behind.items }) =
    subst (Keeps c.args.classes.now sigs c.args.position c.loop-link.link) (sym c.self.view_is) c.loop-link.invariant in
    subst (Keeps c.args.classes.now sigs c.args.position c.index-link-in-loop-link.result.now) c.self.view_is (
      omega (arith, read, inside, c.self.invariant.behind (c.loop-link.link - 1)),
      λ member chains. search-next c.args.classes.now sigs member _ c.args.position c.loop-link.link c.index-link-in-loop-link.result.now
          (omega (arith, c.loop-link-test.true)) apart read chains (kept.1 member chains),
    )
