use Rattle.std.proofs.Common.{◌≡◌, ◌∙◌, ◌<◌, length, slice_index, sym, ap, subst, arith}
use Rattle.std.proofs.lemmas.Grind.{get_or_default_zero}
use Rattle.sig_classes.specs.Chains.{Chains, HasMembers, bucket_at}
use Rattle.sig_classes.proofs.ChainLemmas.{bucket-is, put-members}
use Rattle.sig_classes.proofs.chains.Firsts.put.Goals as goal

pub overflow_add-position : goal.overflow_add-position
overflow_add-position c =
    let room : length c.self.inside.behind.items ≡ length c.args.self.now.behind = ap (λ (t : Chains). length t.behind) c.self.view_is in
    omega (arith, c.self.invariant.room, c.requires.rows, c.requires.position, room)

pub returns-clause-members : goal.returns-clause-members
returns-clause-members c = λ member below chains.
    let i = c.self.inside in
    let sigs = c.args.sigs.now in
    let classes = c.args.classes.now in
    let old : HasMembers classes sigs member (record { heads = i.heads.items; behind = i.behind.items }) =
    subst (λ (t : Chains). HasMembers classes sigs member t) (sym c.self.view_is) chains in
    let size : c.len.result ≡ length i.heads.items = omega (arith, c.len.ensures, i.heads.ok.0) in
    let bucket : c.bucket-bucket.result ≡ bucket_at classes sigs (record { heads = i.heads.items; behind = i.behind.items }) c.args.position =
    bucket-is classes sigs (record { heads = i.heads.items; behind = i.behind.items }) c.args.position c.len.result c.class_of-class.result c.patterns.result
    c.row.result.now c.bucket-bucket.result c.bucket-bucket.ensures.bucket size c.class_of-class.ensures c.patterns.ensures c.row.ensures.row in
    let inside : c.bucket-bucket.result < length i.heads.items = omega (arith, c.bucket-bucket.ensures.inside, size) in
    let read : c.index.result.now ≡ slice_index i.heads.items c.bucket-bucket.result = c.index.ensures ∙ get_or_default_zero i.heads.items _ _ inside in
    let room : length i.behind.items ≡ length c.args.self.now.behind = ap (λ (t : Chains). length t.behind) c.self.view_is in
    put-members classes sigs member i.heads.items i.behind.items c.args.position c.bucket-bucket.result c.index.result.now
    (omega (arith, room, c.requires.rows, c.requires.position)) inside bucket read below old
