use Rattle.std.proofs.Common.{◌≡◌, ◌∙◌, ◌++◌, ℕ, List, ap, append_assoc, codes}
use Rattle.cec_top.specs.Stats.{count_line, others_text}
use Rattle.cec_top.proofs.stats.push_others.Goals as goal

-- texts behind one, joined before or after
five : (t a b c d e : List ℕ) → ((((t ++ a) ++ b) ++ c) ++ d) ++ e ≡ t ++ ((((a ++ b) ++ c) ++ d) ++ e)
five t a b c d e =
    ap (λ (l : List ℕ). ((l ++ c) ++ d) ++ e) (append_assoc t a b)
    ∙ ap (λ (l : List ℕ). (l ++ d) ++ e) (append_assoc t (a ++ b) c)
    ∙ ap (λ (l : List ℕ). l ++ e) (append_assoc t ((a ++ b) ++ c) d)
    ∙ append_assoc t (((a ++ b) ++ c) ++ d) e

pub returns : goal.returns
unfolding others_text
returns c =
    let n = c.args.counts in
    rw (
      c.in_ok-push_count-5.ensures,
      c.in_ok-push_count-4.ensures,
      c.in_ok-push_count-3.ensures,
      c.in_ok-push_count-2.ensures,
      c.in_ok-push_count.ensures,
    )
    (five c.args.text.now.items (count_line (codes "pairs_apart") n.apart) (count_line (codes "pairs_open") n.open_pairs)
    (count_line (codes "outputs_open") n.open_outputs) (count_line (codes "conflicts") n.conflicts) (count_line (codes "steps") n.steps))
