-- How numbers are given, one literal after another.
use Rattle.std.proofs.Common.{◌≡◌, ℕ, ◌+◌, ◌<◌, List, [], ◌∷◌, ◌++◌, length, map, take, drop, refl, sym, ap, ◌∙◌, subst, get_or, inl, inr}
use Rattle.std.specs.List.{list_any, All}
use Rattle.std.proofs.lemmas.List.{take_more, take-append-drop, map-append, get_or_default, append-nil}
use Rattle.std.proofs.lemmas.List.Elements.{All-push}
use Rattle.std.proofs.lemmas.List.Folds.{list_any-append}
use Rattle.std.proofs.lemmas.Bool.{or_cases, or_left, or_right}
use Rattle.lits.specs.Same.{same_node}
use Rattle.lits.specs.declared.node.Node.{Node}
use Rattle.lits.specs.declared.literal.Lit.{Lit}
use Rattle.unit_prop.proofs.Facts.{contrary}
use Rattle.flat_base.specs.Codes.{lit_at, IsCode}
use Rattle.watch_lists.specs.Trail.{TrailState, Numbers, Keeps, IsQuiet, up_to}
use Rattle.watch_lists.specs.declared.put.Put.{Put}
use Rattle.watch_lists.proofs.Facts.{code-more}
use Rattle.watch_lists.proofs.TransferLemmas.{lits_at}
use Rattle.watch_lists.proofs.PutsLemmas.{all-are, lits-more}

append_twice : {X : Type 0} (xs ys zs : List X) → (xs ++ ys) ++ zs ≡ xs ++ (ys ++ zs)
append_twice [] ys zs = refl
append_twice {X} (x ∷ xs) ys zs = ap (λ (l : List X). x ∷ l) (append_twice xs ys zs)

pub numbers-refl : (nodes : List Node) (lits : List Lit) → Numbers nodes lits nodes
numbers-refl nodes lits = record { more = []; behind = sym (append-nil nodes); from = λ n h. contrary _ h refl }

pub numbers-more : (old new : List Node) (xs ys : List Lit) → Numbers old xs new → Numbers old (xs ++ ys) new
numbers-more old new xs ys n = record {
  more = n.more;
  behind = n.behind;
  from = λ m h. list_any-append (λ l. same_node l.node m) xs ys ∙ or_left _ _ (n.from m h);
}

pub numbers-trans : (a b c : List Node) (xs ys : List Lit) → Numbers a xs b → Numbers b ys c → Numbers a (xs ++ ys) c
numbers-trans a b c xs ys n m = record {
  more = n.more ++ m.more;
  behind = m.behind ∙ (ap (λ (z : List Node). z ++ m.more) n.behind ∙ append_twice a n.more m.more);
  from = λ k h. list_any-append (λ l. same_node l.node k) xs ys ∙ elim (or_cases _ _ (sym (list_any-append (λ y. same_node y k) n.more m.more) ∙ h)) [
    | inl f ↦ or_left _ _ (n.from k f)
    | inr f ↦ or_right (list_any (λ l. same_node l.node k) xs) _ (m.from k f)
  ];
}

pub keeps-refl : (t : TrailState) (lits : List Lit) → Keeps t lits t
keeps-refl t lits = record { numbers = numbers-refl t.nodes lits; clauses = refl; puts = refl; last = refl }

pub keeps-trans : (a b c : TrailState) (xs ys : List Lit) → Keeps a xs b → Keeps b ys c → Keeps a (xs ++ ys) c
keeps-trans a b c xs ys k l = record {
  numbers = numbers-trans a.nodes b.nodes c.nodes xs ys k.numbers l.numbers;
  clauses = l.clauses ∙ k.clauses;
  puts = l.puts ∙ k.puts;
  last = l.last ∙ k.last;
}

-- some of the literals of a list
pub keeps-first : (a b : TrailState) (xs : List Lit) (i : ℕ) → Keeps a (take i xs) b → Keeps a xs b
keeps-first a b xs i k = subst (λ (l : List Lit). Keeps a l b) (take-append-drop i xs)
    (record { numbers = numbers-more a.nodes b.nodes (take i xs) (drop i xs) k.numbers; clauses = k.clauses; puts = k.puts; last = k.last })

pub keeps-next : (a b c : TrailState) (lits : List Lit) (i : ℕ) (l : Lit) → i < length lits → l ≡ get_or lits i l
    → Keeps a (take i lits) b → Keeps b (l ∷ []) c → Keeps a (take (i + 1) lits) c
keeps-next a b c lits i l h read k m =
    subst (λ (z : List Lit). Keeps a z c) (sym (take_more lits i l h ∙ ap (λ (y : Lit). take i lits ++ y ∷ []) (sym read))) (keeps-trans a b c (take i lits) (l ∷ []) k m)

-- the codes so far and the next one
pub codes-next : (a b : TrailState) (lits : List Lit) (codes : List ℕ) (i code : ℕ) (l : Lit) → i < length lits → l ≡ get_or lits i l → Keeps a (l ∷ []) b
    → map (lit_at a.nodes) codes ≡ take i lits → All (IsCode a.nodes) codes → IsCode b.nodes code → lit_at b.nodes code ≡ l
    → (map (lit_at b.nodes) (codes ++ code ∷ []) ≡ take (i + 1) lits) × All (IsCode b.nodes) (codes ++ code ∷ [])
codes-next a b lits codes i code l h read k same all is here =
    let n = k.numbers in
    let stay : map (lit_at b.nodes) codes ≡ map (lit_at a.nodes) codes = subst (λ (ns : List Node). lits_at ns codes ≡ lits_at a.nodes codes) (sym n.behind) (lits-more a.nodes n.more codes (all-are a.nodes codes all)) in (
      map-append (lit_at b.nodes) codes (code ∷ [])
          ∙ (ap (λ (z : List Lit). z ++ lit_at b.nodes code ∷ []) (stay ∙ same)
          ∙ (ap (λ (z : Lit). take i lits ++ z ∷ []) here ∙ sym (take_more lits i l h ∙ ap (λ (y : Lit). take i lits ++ y ∷ []) (sym read)))),
      All-push (IsCode b.nodes) codes code (λ j d f. subst (λ (ns : List Node). IsCode ns (get_or codes j d)) (sym n.behind) (code-more a.nodes n.more (get_or codes j d) (all j d f))) is,
    )

-- the same of the element that a loop is at
pub keeps-next_at : (a b c : TrailState) (lits : List Lit) (i : ℕ) (d : Lit) → i < length lits
    → Keeps a (take i lits) b → Keeps b (get_or lits i d ∷ []) c → Keeps a (take (i + 1) lits) c
keeps-next_at a b c lits i d h k m = keeps-next a b c lits i (get_or lits i d) h (get_or_default lits i d (get_or lits i d) h) k m

pub codes-next_at : (a b : TrailState) (lits : List Lit) (codes : List ℕ) (i code : ℕ) (d : Lit) → i < length lits → Keeps a (get_or lits i d ∷ []) b
    → map (lit_at a.nodes) codes ≡ take i lits → All (IsCode a.nodes) codes → IsCode b.nodes code → lit_at b.nodes code ≡ get_or lits i d
    → (map (lit_at b.nodes) (codes ++ code ∷ []) ≡ take (i + 1) lits) × All (IsCode b.nodes) (codes ++ code ∷ [])
codes-next_at a b lits codes i code d h k same all is here =
    codes-next a b lits codes i code (get_or lits i d) h (get_or_default lits i d (get_or lits i d) h) k same all is here

-- what a clause asks for stays where numbers are given
pub quiet-kept : (a b : TrailState) (lits clause same : List Lit) → Keeps a lits b → clause ≡ same
    → ((level : ℕ) → level < a.last → IsQuiet (up_to level a.puts) clause) → (level : ℕ) → level < b.last → IsQuiet (up_to level b.puts) same
quiet-kept a b lits clause same k e quiet level h =
    subst (λ (c : List Lit). IsQuiet (up_to level b.puts) c) e
    (subst (λ (ps : List Put). IsQuiet (up_to level ps) clause) (sym k.puts) (quiet level (subst (λ (n : ℕ). level < n) k.last h)))
