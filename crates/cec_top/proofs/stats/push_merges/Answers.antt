use Rattle.std.proofs.Common.{◌≡◌, ◌∙◌, ◌++◌, ℕ, List, ap, append_assoc, codes}
use Rattle.cec_top.specs.Stats.{count_line, merges_text}
use Rattle.cec_top.proofs.stats.push_merges.Goals as goal

-- texts behind one, joined before or after
six : (t a b c d e f : List ℕ) → (((((t ++ a) ++ b) ++ c) ++ d) ++ e) ++ f ≡ t ++ (((((a ++ b) ++ c) ++ d) ++ e) ++ f)
six t a b c d e f =
    ap (λ (l : List ℕ). (((l ++ c) ++ d) ++ e) ++ f) (append_assoc t a b)
    ∙ ap (λ (l : List ℕ). ((l ++ d) ++ e) ++ f) (append_assoc t (a ++ b) c)
    ∙ ap (λ (l : List ℕ). (l ++ e) ++ f) (append_assoc t ((a ++ b) ++ c) d)
    ∙ ap (λ (l : List ℕ). l ++ f) (append_assoc t (((a ++ b) ++ c) ++ d) e)
    ∙ append_assoc t ((((a ++ b) ++ c) ++ d) ++ e) f

pub returns : goal.returns
unfolding merges_text
returns c =
    let n = c.args.counts in
    rw (
      c.in_ok-push_count-6.ensures,
      c.in_ok-push_count-5.ensures,
      c.in_ok-push_count-4.ensures,
      c.in_ok-push_count-3.ensures,
      c.in_ok-push_count-2.ensures,
      c.in_ok-push_count.ensures,
    )
    (six c.args.text.now.items (count_line (codes "patterns") n.patterns) (count_line (codes "rounds") n.rounds) (count_line (codes "kept") n.kept)
    (count_line (codes "merges_by_structure") n.by_structure) (count_line (codes "merges_by_search") n.by_search)
    (count_line (codes "merges_by_cone") n.by_cone))
