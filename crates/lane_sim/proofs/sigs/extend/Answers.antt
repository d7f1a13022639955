use Rattle.std.proofs.Common.{◌≡◌, ◌/◌, ℕ, sym, subst, arith}
use Rattle.word_sim.specs.Patterns.{words_of}
use Rattle.lane_sim.specs.Known.{AreKnown}
use Rattle.lane_sim.proofs.KnownLemmas.{signatures-known}
use Rattle.lane_sim.proofs.sigs.extend.Goals as goal

pub fill_behind-requires-clause-known : goal.fill_behind-requires-clause-known
fill_behind-requires-clause-known c =
    let net = c.args.net.now in
    let patterns = c.args.pool.now.patterns in
    let sigs = c.args.sigs.now in
    let rows = c.words-2.result.now in
    let stride : c.div_ceil.result ≡ words_of sigs.patterns = omega (arith, c.div_ceil.ensures, c.patterns.ensures) in
    subst (λ (n : ℕ). AreKnown net patterns (n / 64) c.div_ceil.result rows) (sym c.patterns-2.ensures)
    (subst (λ (n : ℕ). AreKnown net patterns (sigs.patterns / 64) n rows) (sym stride)
    (signatures-known net patterns sigs rows c.requires.sigs c.words-2.ensures.size c.words-2.ensures.rows))
