use Rattle.std.proofs.Common.{◌+◌, ◌*◌, ◌&&◌, ◌++◌, ℕ, List, length, refl, sym, subst}
use Rattle.word_sim.specs.Rows.{HasBits, turned}
use Rattle.lane_sim.proofs.KnownLemmas.{bits-behind, bits-joined}
use Rattle.lane_sim.proofs.rows.put_behind.Goals as goal

pub returns-clause-bits : goal.returns-clause-bits
returns-clause-bits c = λ f g first second known.
    let k = length c.args.known.now in
    subst (λ (xs : List ℕ). HasBits c.args.count (λ (p : ℕ). turned c.args.left_neg (f p) && turned c.args.right_neg (g p)) (xs ++ c.put_gate.new.words))
    (sym c.copy_from_slice.ensures.after)
    (bits-joined c.args.count k (λ p. turned c.args.left_neg (f p) && turned c.args.right_neg (g p)) c.args.known.now c.put_gate.new.words
    c.requires.known refl known
    (c.put_gate.ensures.bits (λ p. f (64 * k + p)) (λ p. g (64 * k + p))
    (bits-behind c.args.count k f c.args.left.now c.requires.known first)
    (bits-behind c.args.count k g c.args.right.now c.requires.known second)))
