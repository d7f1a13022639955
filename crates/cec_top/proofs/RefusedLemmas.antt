-- Status 4 tells of the file that is at fault, or of the line of a script.
use Rattle.std.proofs.Common.{◌≡◌, ℕ, ◌≤◌, inl, inr, List, [], ◌∷◌, ◌++◌, length, Option, None, Some, refl, sym, ap, ap₂, ◌∙◌, subst, arith, append_assoc}
use Rattle.std.specs.Prelude.{◌⊎◌, IfSome, IsSomeAnd, codes, option_map, string_bytes}
use Rattle.std.specs.List.{flat_map}
use Rattle.std.specs.Option.{option_to_list}
use Rattle.std.proofs.lemmas.Option.{none-some}
use Rattle.desk_port.specs.Desk.{DeskState, Files, HasMore, after_read}
use Rattle.netlist.specs.Circuit.{Aig}
use Rattle.netlist.specs.declared.unlike.Unlike.{Unlike}
use Rattle.endings.specs.declared.status.Status.{Status}
use Rattle.endings.specs.Status.{code_of}
use Rattle.endings.specs.declared.stop.Stop.{Stop}
use Rattle.endings.specs.declared.stop.Stop.TheVariants.{CannotRead, TooLong, BadFile, NotAlike, CannotWrite, OutOfMemory}
use Rattle.aiger_file.specs.File.{aiger_in}
use Rattle.book_file.specs.Reading.{entries_in}
use Rattle.lemma_book.specs.declared.entry.Entry.{Entry}
use Rattle.endings.specs.Reading.{FileIs, StopsAt, ReadsUpTo, limit}
use Rattle.endings.specs.Stops.{IsWarned, Warns, fault_line, file_line, name_at, status_of, stop_line}
use Rattle.command_line.specs.Words.{CheckCommand}
use Rattle.cec_top.specs.declared.kept.Kept.{Kept}
use Rattle.netlist.specs.Net.{AigPair}
use Rattle.cec_top.specs.Script.{due_behind, asked_from, plan_of}
use Rattle.cec_top.specs.Check.{Made, Opening, GoesOn, NotSaved, SaysFault, StopsChecks, RefusesLine as RefusesChecks, kept_from, saved_of}
use Rattle.cec_top.specs.Answers.{AnswersCheck, AreUnlike, AsksFor, IsOpening, NamesUnlike, ReadsCircuits, Stops, how_of, lemmas_of, names_of, opening_text, pair_of, script_of, after_lemmas, after_pair, at_start}
use Rattle.cec_top.specs.Inputs.{circuit_file, fault_in, lemma_fault_in, lemma_file, script_file}
use Rattle.cec_top.specs.Headline.{Told, SpellPair, IsScript, KeepsPromise}
use Rattle.cec_top.specs.Lines.{unlike_text, refused_text}
use Rattle.cec_top.specs.Warned.{WarnsOnly}
use Rattle.cec_top.specs.Refused.{HasFault, HasLemmaFault, HasNone, HaveNone, IsDue, IsScriptWithin, Refuses, RefusesLine}
use Rattle.cec_top.proofs.ClosedLemmas.{among-code, leaves-code, memory-code}
use Rattle.cec_top.proofs.CompleteLemmas.{finding-code}
use Rattle.cec_top.proofs.HeadlineLemmas.{file-spells, spells-pair, spells-script, within-script}
use Rattle.cec_top.proofs.SavingLemmas.{IsApart, IsStarted, loads-are, start-keeps}
use Rattle.cec_top.proofs.WarnedLemmas.{warns-none, warns-then}
use Rattle.cec_top.proofs.ToldLemmas.{IsLeft, shown_all, tolds}
use Rattle.cec_top.proofs.VerdictLemmas.{HasParts, some-parts, is-last, is-left, promise-last, tells-checks}

module _ (before : Files) (s : DeskState) (told : s.files ≡ Some before) (name : List ℕ) where
  file-at : (bytes : List ℕ) → FileIs s name bytes → before name ≡ Some bytes
  file-at bytes is = subst (λ (o : Option Files). IfSome o (λ f. f name ≡ Some bytes)) told is.0

  has-none : (bytes : List ℕ) → FileIs s name bytes → fault_in (aiger_in bytes) ≡ None → HasNone before name
  has-none bytes is none =
      subst (λ (o : Option (List ℕ)). IsSomeAnd o (λ b. (length b ≤ limit) × (fault_in (aiger_in b) ≡ None)))
      (sym (file-at bytes is)) (is.1, none)

  -- this file of those of the names is at fault
  pub record IsAtFault (names : List (List ℕ)) (k : ℕ) (mid : DeskState) (stop : Stop) : Type 0 where
    pub text : List ℕ
    pub fault : HasFault before name text
    pub line : stop_line names stop ≡ file_line (name_at names k) text
    pub at : mid ≡ after_read s name

  pub fault-at : (names : List (List ℕ)) (k : ℕ) (earlier : List (List ℕ)) (mid : DeskState) (stop : Stop)
      → StopsAt k (circuit_file name) earlier s mid stop → code_of (status_of stop) ≡ 4 → IsAtFault names k mid stop
  unfolding stop_line
  fault-at names k earlier mid (TooLong j) p code = record {
    text = codes "longer than 1073741824 bytes";
    fault = inl (subst (λ (o : Option Files). IfSome o (λ f. HasMore f name limit)) told p.1, refl);
    line = ap (λ (i : ℕ). file_line (name_at names i) (codes "longer than 1073741824 bytes")) p.0;
    at = p.2;
  }
  fault-at names k earlier mid (BadFile j text) p code = record {
    text = string_bytes text;
    fault = inr (subst
        (λ (o : Option (List ℕ)). IsSomeAnd o (λ b. (length b ≤ limit) × (fault_in (aiger_in b) ≡ Some (string_bytes text))))
        (sym (file-at p.1.0 p.1.1)) (p.1.1.1, p.1.2));
    line = ap (λ (i : ℕ). file_line (name_at names i) (string_bytes text)) p.0;
    at = p.2;
  }
  fault-at names k earlier mid (CannotRead j) p code = cc
  fault-at names k earlier mid OutOfMemory p code = cc
  fault-at names k earlier mid (NotAlike text) p code = absurd p
  fault-at names k earlier mid CannotWrite p code = absurd p

-- the line of circuits that can't be compared
unlike-line : (names : List (List ℕ)) (u : Unlike) (stop : Stop) → NamesUnlike u stop → stop_line names stop ≡ fault_line (unlike_text u)
unfolding stop_line
unlike-line names u (NotAlike text) is = ap fault_line is
unlike-line names u (CannotRead file) is = absurd is
unlike-line names u (TooLong file) is = absurd is
unlike-line names u (BadFile file text) is = absurd is
unlike-line names u CannotWrite is = absurd is
unlike-line names u OutOfMemory is = absurd is

module _ (c : CheckCommand) (apart : IsApart c) (old : DeskState) (before : Files) (told : old.files ≡ Some before) (kept : List Kept) where
  -- what the cause leaves where a file or the pair is refused, and its line
  record IsTold (mid : DeskState) (stop : Stop) : Type 0 where
    none : kept ≡ []
    due : IsDue c before (stop_line (names_of c) stop)
    files : mid.files ≡ Some before
    said : mid.said ≡ old.said
    warned : mid.warned ≡ old.warned
    faults : mid.warn_faults ≡ old.warn_faults

  -- and where a line of the script is
  record IsLineTold (mid : DeskState) (stop : Stop) : Type 0 where
    line : RefusesLine c old mid kept before (stop_line (names_of c) stop)
    silent : WarnsOnly c.stats c.progress old mid

  -- files that were read have no fault
  have-none : (first second : Aig) → ReadsCircuits c old first second → HaveNone c before
  have-none first second p = (
    has-none before old told c.a p.a p.read.0 p.read.1,
    has-none before (after_read old c.a) told c.b p.b p.read.2.0 p.read.2.1,
  )

  reads-told : (mid : DeskState) (stop : Stop) → kept ≡ [] → ReadsUpTo 0 [] (pair_of c) old mid stop → code_of (status_of stop) ≡ 4
      → IsTold mid stop
  reads-told mid stop none (inl p) code =
      let f = fault-at before old told c.a (names_of c) 0 [] mid stop p code in
      record {
        none = none;
        due = inl (record { text = f.text; fault = f.fault; line_is = f.line });
        files = ap (λ (s : DeskState). s.files) f.at ∙ told;
        said = ap (λ (s : DeskState). s.said) f.at;
        warned = ap (λ (s : DeskState). s.warned) f.at;
        faults = ap (λ (s : DeskState). s.warn_faults) f.at;
      }
  reads-told mid stop none (inr p) code = second p.3
    where
      second : ReadsUpTo 1 (p.0 ∷ []) (circuit_file c.b ∷ []) (after_read old c.a) mid stop → IsTold mid stop
      second (inr q) = absurd q.3
      second (inl q) =
          let f = fault-at before (after_read old c.a) told c.b (names_of c) 1 (p.0 ∷ []) mid stop q code in
          record {
            none = none;
            due = inr (inl (record { first = has-none before old told c.a p.0 p.1 p.2; text = f.text; fault = f.fault; line_is = f.line }));
            files = ap (λ (s : DeskState). s.files) f.at ∙ told;
            said = ap (λ (s : DeskState). s.said) f.at;
            warned = ap (λ (s : DeskState). s.warned) f.at;
            faults = ap (λ (s : DeskState). s.warn_faults) f.at;
          }

  unlike-told : (mid : DeskState) (stop : Stop) → kept ≡ [] → AreUnlike c old mid stop → IsTold mid stop
  unlike-told mid stop none p = record {
    none = none;
    due = inr (inr (inl (record {
      no_fault = have-none p.first p.second p.reads;
      first = p.first;
      second = p.second;
      spells_a = file-spells old before told c.a p.reads.a p.first p.reads.read.0 p.reads.spells_a;
      spells_b = file-spells old before told c.b p.reads.b p.second p.reads.read.2.0 p.reads.spells_b;
      unlike = p.unlike;
      differ = p.differ;
      line_is = unlike-line (names_of c) p.unlike stop p.stop_is;
    })));
    files = ap (λ (s : DeskState). s.files) p.new_is ∙ told;
    said = ap (λ (s : DeskState). s.said) p.new_is;
    warned = ap (λ (s : DeskState). s.warned) p.new_is;
    faults = ap (λ (s : DeskState). s.warn_faults) p.new_is;
  }

  -- the script is named third
  third : (name : List ℕ) → c.edits ≡ Some name → name_at (names_of c) 2 ≡ name
  third name is = ap (λ (e : Option (List ℕ)). name_at (c.a ∷ c.b ∷ (option_to_list e ++ option_to_list c.load)) 2) is

  -- a file that was read isn't too long
  abbrev IsWithin : List ℕ → Type 0
  IsWithin name = IsSomeAnd (before name) (λ bytes. length bytes ≤ limit)

  within-at : (s : DeskState) → s.files ≡ Some before → (name bytes : List ℕ) → FileIs s name bytes → IsWithin name
  within-at s at name bytes is =
      subst (λ (o : Option (List ℕ)). IsSomeAnd o (λ b. length b ≤ limit)) (sym (file-at before s at name bytes is)) is.1

  -- the lemma file is at fault
  lemmas-told : (net : AigPair) → SpellPair c before net → HaveNone c before → IsScriptWithin c before → (k : ℕ)
      → ((name : List ℕ) → c.load ≡ Some name → name_at (names_of c) k ≡ name)
      → (s : DeskState) → s.files ≡ old.files → s.said ≡ old.said → s.warned ≡ old.warned → s.warn_faults ≡ old.warn_faults
      → (mid : DeskState) (stop : Stop) → kept ≡ [] → (earlier : List (List ℕ)) → ReadsUpTo k earlier (lemmas_of c.load) s mid stop
      → code_of (status_of stop) ≡ 4 → IsTold mid stop
  unfolding stop_line
  lemmas-told net pair fit script k place s files said warned faults mid stop none earlier p code = go c.load refl p
    where
      there : s.files ≡ Some before
      there = files ∙ told

      made : (name : List ℕ) → c.load ≡ Some name → (text : List ℕ) → HasLemmaFault before name text
          → stop_line (names_of c) stop ≡ file_line name text → mid ≡ after_read s name → IsTold mid stop
      made name is text fault line at = record {
        none = none;
        due = inr (inr (inr (inr (record {
          no_fault = fit;
          net = net;
          pair = pair;
          script = script;
          name = name;
          named = is;
          text = text;
          fault = fault;
          line_is = line;
        }))));
        files = ap (λ (s : DeskState). s.files) at ∙ there;
        said = ap (λ (s : DeskState). s.said) at ∙ said;
        warned = ap (λ (s : DeskState). s.warned) at ∙ warned;
        faults = ap (λ (s : DeskState). s.warn_faults) at ∙ faults;
      }

      at : (name : List ℕ) → c.load ≡ Some name → (cause : Stop) → stop ≡ cause → code_of (status_of cause) ≡ 4
          → StopsAt k (lemma_file name) earlier s mid cause → IsTold mid stop
      at name is (TooLong j) same code q =
          made name is (codes "longer than 1073741824 bytes")
          (inl (subst (λ (o : Option Files). IfSome o (λ f. HasMore f name limit)) there q.1, refl))
          (ap (stop_line (names_of c)) same
          ∙ ap (λ (n : List ℕ). file_line n (codes "longer than 1073741824 bytes")) (ap (name_at (names_of c)) q.0 ∙ place name is)) q.2
      at name is (BadFile j text) same code q =
          made name is (string_bytes text)
          (inr (subst (λ (o : Option (List ℕ)). IsSomeAnd o (λ b. (length b ≤ limit) × (lemma_fault_in (entries_in b) ≡ Some (string_bytes text))))
          (sym (file-at before s there name q.1.0 q.1.1)) (q.1.1.1, q.1.2)))
          (ap (stop_line (names_of c)) same
          ∙ ap (λ (n : List ℕ). file_line n (string_bytes text)) (ap (name_at (names_of c)) q.0 ∙ place name is)) q.2
      at name is (CannotRead j) same code q = cc
      at name is OutOfMemory same code q = cc
      at name is (NotAlike text) same code q = absurd q
      at name is CannotWrite same code q = absurd q

      go : (l : Option (List ℕ)) → c.load ≡ l → ReadsUpTo k earlier (lemmas_of l) s mid stop → IsTold mid stop
      go None is q = absurd q
      go (Some name) is (inl q) = at name is stop refl code q
      go (Some name) is (inr q) = absurd q.3

  -- it is too long
  script-told : (net : AigPair) → SpellPair c before net → HaveNone c before → (mid : DeskState) (stop : Stop) → kept ≡ [] → (earlier : List (List ℕ))
      → ReadsUpTo 2 earlier (script_of c ++ lemmas_of c.load) (after_pair c old) mid stop → code_of (status_of stop) ≡ 4 → IsTold mid stop
  unfolding stop_line
  script-told net pair fit mid stop none earlier p code = go c.edits refl p
    where
      at : (name : List ℕ) → c.edits ≡ Some name → (stop : Stop) → code_of (status_of stop) ≡ 4
          → StopsAt 2 (script_file name) earlier (after_pair c old) mid stop → IsTold mid stop
      at name is (TooLong j) code q = record {
        none = none;
        due = inr (inr (inr (inl (record {
          no_fault = fit;
          net = net;
          pair = pair;
          name = name;
          named = is;
          more = subst (λ (o : Option Files). IfSome o (λ f. HasMore f name limit)) told q.1;
          line_is = ap (λ (n : List ℕ). file_line n (codes "longer than 1073741824 bytes")) (ap (name_at (names_of c)) q.0 ∙ third name is);
        }))));
        files = ap (λ (s : DeskState). s.files) q.2 ∙ told;
        said = ap (λ (s : DeskState). s.said) q.2;
        warned = ap (λ (s : DeskState). s.warned) q.2;
        faults = ap (λ (s : DeskState). s.warn_faults) q.2;
      }
      at name is (BadFile j text) code q = absurd (none-some (string_bytes text) q.1.2)
      at name is (CannotRead j) code q = cc
      at name is OutOfMemory code q = cc
      at name is (NotAlike text) code q = absurd q
      at name is CannotWrite code q = absurd q

      go : (e : Option (List ℕ)) → c.edits ≡ e
          → ReadsUpTo 2 earlier (option_to_list (option_map script_file e) ++ lemmas_of c.load) (after_pair c old) mid stop → IsTold mid stop
      go None is q =
          lemmas-told net pair fit (subst (λ (e : Option (List ℕ)). IfSome e IsWithin) (sym is) tt) 2
          (λ name load. ap₂ (λ (e l : Option (List ℕ)). name_at (c.a ∷ c.b ∷ (option_to_list e ++ option_to_list l)) 2) is load)
          (after_pair c old) refl refl refl refl mid stop none earlier q code
      go (Some name) is (inl q) = at name is stop code q
      go (Some name) is (inr q) =
          lemmas-told net pair fit
          (subst (λ (e : Option (List ℕ)). IfSome e IsWithin) (sym is) (within-at (after_pair c old) told name q.0 q.1)) 3
          (λ other load. ap₂ (λ (e l : Option (List ℕ)). name_at (c.a ∷ c.b ∷ (option_to_list e ++ option_to_list l)) 3) is load)
          (after_read (after_pair c old) name) refl refl refl refl mid stop none (earlier ++ q.0 ∷ []) q.3 code

  -- one of its lines is refused
  line-told : (net : AigPair) (lines : List (List ℕ)) (lemmas : Option (List Entry)) → AsksFor c old net lines lemmas → (from : Opening)
      → IsOpening (how_of c).options net lemmas from → (mid : DeskState) (stop : Stop)
      → RefusesChecks (how_of c) from (plan_of net lines) (at_start c old lemmas from) mid kept stop → IsLineTold mid stop
  unfolding stop_line
  line-told net lines lemmas asks from opens mid stop p = go c.edits refl
    where
      script : IsScript c.edits before lines × (length lines ≤ limit)
      script = spells-script c old before told net lines lemmas asks

      start : DeskState
      start = at_start c old lemmas from

      named : (name : List ℕ) → c.edits ≡ Some name → (s : Stop) → SaysFault p.line s → stop_line (names_of c) s ≡ file_line name (refused_text p.line)
      named name is (BadFile file why) says =
          ap₂ file_line (ap (name_at (names_of c)) says.0 ∙ third name is) says.1
      named name is (CannotRead file) says = absurd says
      named name is (TooLong file) says = absurd says
      named name is (NotAlike why) says = absurd says
      named name is CannotWrite says = absurd says
      named name is OutOfMemory says = absurd says

      k : IsStarted old start (opening_text lemmas from)
      k = start-keeps c old lemmas from

      parts : HasParts p.made
      parts = some-parts p.made (due_behind net) (asked_from 1 (due_behind net) lines).checks p.whole.checks

      whole : GoesOn (how_of c) from (plan_of net lines) start (parts.earlier ++ parts.last ∷ []) [] mid
      whole = subst (λ (made : List Made). GoesOn (how_of c) from (plan_of net lines) start made [] mid) parts.made_is p.whole

      keeps : kept ≡ kept_from 0 (parts.earlier ++ parts.last ∷ [])
      keeps = p.keeps ∙ ap (kept_from 0) parts.made_is

      left : IsLeft c.stats c.progress c.out c.witness (tolds c.out 0 (parts.earlier ++ parts.last ∷ [])) start mid
      left = is-left c kept from net lines script.1 start mid parts.earlier parts.last whole keeps

      at : (name : List ℕ) → c.edits ≡ Some name → IsLineTold mid stop
      at name is = record {
        silent = warns-then c.stats c.progress old start mid (warns-none c.stats c.progress old start k.warned k.warns) left.quiet;
        line = record {
          no_fault = have-none net.a asks.pair.second asks.pair.reads;
          net = net;
          pair = spells-pair c old before told net asks.pair;
          name = name;
          named = is;
          within = within-script c old before told net lines lemmas asks name is;
          lines = lines;
          script = script.0;
          lemmas = lemmas;
          from = from;
          loads = loads-are c old before told net lines lemmas asks from opens;
          refused = p.line;
          refused_is = p.refused;
          line_is = named name is stop p.stop_is;
          after = shown_all c.out c.witness (tolds c.out 0 (parts.earlier ++ parts.last ∷ [])) before;
          said = opening_text lemmas from ++ flat_map (λ (t : Told). t.said) (tolds c.out 0 (parts.earlier ++ parts.last ∷ []));
          files = left.files before (k.files ∙ told);
          heard = λ earlier heard.
              left.said (earlier ++ opening_text lemmas from) (k.said earlier heard)
              ∙ ap (λ (x : List ℕ). Some x)
              (append_assoc earlier (opening_text lemmas from)
              (flat_map (λ (t : Told). t.said) (tolds c.out 0 (parts.earlier ++ parts.last ∷ []))));
          told = tells-checks c kept from net lines script.1 start mid parts.earlier parts.last whole keeps apart (KeepsPromise (how_of c) kept)
              (opening_text lemmas from) before (promise-last c kept from net lines script.1 start mid parts.earlier parts.last whole keeps);
        };
      }

      go : (e : Option (List ℕ)) → c.edits ≡ e → IsLineTold mid stop
      go (Some name) is = at name is
      go None is =
          let none : lines ≡ [] = subst (λ (e : Option (List ℕ)). IsScript e before lines) is script.0 in
          let accepted : (plan_of net lines).refused ≡ None = ap (λ (ls : List (List ℕ)). (plan_of net ls).refused) none in
          absurd (none-some p.line (sym accepted ∙ p.refused))

  stops-told : (mid : DeskState) (stop : Stop) → Stops c old kept mid stop → code_of (status_of stop) ≡ 4 → IsTold mid stop ⊎ IsLineTold mid stop
  stops-told mid stop (inl p) code = inl (reads-told mid stop p.0 p.1 code)
  stops-told mid stop (inr (inl p)) code = inl (unlike-told mid stop p.0 p.1)
  stops-told mid stop (inr (inr (inl p))) code =
      inl (script-told p.1.net (spells-pair c old before told p.1.net p.1.pair)
      (have-none p.1.net.a p.1.pair.second p.1.pair.reads) mid stop p.0 _ p.1.stops code)
  stops-told mid stop (inr (inr (inr (inl p)))) code = elim p.1.stops [
    | inl q ↦ absurd (omega (arith, code, memory-code stop q.0))
    | inr q ↦ absurd (omega (arith, code, leaves-code [] _ (after_lemmas c old) mid stop q.2))
  ]
  stops-told mid stop (inr (inr (inr (inr p)))) code = go p.stops
    where
      go : StopsChecks (how_of c) p.from (plan_of p.net p.lines) (at_start c old p.lemmas p.from) kept mid stop
          ⊎ NotSaved (how_of c) p.from (plan_of p.net p.lines) c.save (at_start c old p.lemmas p.from) mid kept stop
          → IsTold mid stop ⊎ IsLineTold mid stop
      go (inl (inl q)) = absurd (omega (arith, code, leaves-code _ _ q.breaks.0 mid stop q.breaks.2))
      go (inl (inr (inl q))) = absurd (omega (arith, code, memory-code stop q.out))
      go (inl (inr (inr q))) = inr (line-told p.net p.lines p.lemmas p.asks p.from p.opens mid stop q)
      go (inr q) = absurd (omega (arith, code, among-code (saved_of c.save kept) q.mid mid stop q.stops))

  warned-files : (mid new : DeskState) (line : List ℕ) → IsWarned mid new line → (new.files ≡ mid.files) × (new.said ≡ mid.said)
  warned-files mid new line (inl p) = (ap (λ (s : DeskState). s.files) p, ap (λ (s : DeskState). s.said) p)
  warned-files mid new line (inr p) = (ap (λ (s : DeskState). s.files) p.2.stays, ap (λ (s : DeskState). s.said) p.2.stays)

  pub refuses : (new : DeskState) (status : Status) → AnswersCheck c old new status kept → code_of status ≡ 4 → Refuses c old new kept before
  refuses new status (inl p) code =
      let l = is-last (how_of c) p.from p.net p.lines (at_start c old p.lemmas p.from) p.mid status kept p.ends in
      absurd (omega (arith, code, subst (λ (s : Status). code_of s ≤ 2) l.status_is (finding-code l.last.finding)))
  refuses new status (inr p) code = go p.warns
    where
      warned : IsWarned p.mid new (stop_line (names_of c) p.stop) → IsTold p.mid p.stop ⊎ IsLineTold p.mid p.stop → Refuses c old new kept before
      warned w (inl t) =
          let same = warned-files p.mid new (stop_line (names_of c) p.stop) w in
          record {
            line = stop_line (names_of c) p.stop;
            mid = p.mid;
            silent = warns-none c.stats c.progress old p.mid t.warned t.faults;
            warned = w;
            what = inl (record { due = t.due; files = same.0 ∙ t.files; said = same.1 ∙ t.said; none = t.none });
          }
      warned w (inr t) =
          let same = warned-files p.mid new (stop_line (names_of c) p.stop) w in
          record {
            line = stop_line (names_of c) p.stop;
            mid = p.mid;
            silent = t.silent;
            warned = w;
            what = inr (record {
              no_fault = t.line.no_fault;
              net = t.line.net;
              pair = t.line.pair;
              name = t.line.name;
              named = t.line.named;
              within = t.line.within;
              lines = t.line.lines;
              script = t.line.script;
              lemmas = t.line.lemmas;
              from = t.line.from;
              loads = t.line.loads;
              refused = t.line.refused;
              refused_is = t.line.refused_is;
              line_is = t.line.line_is;
              after = t.line.after;
              said = t.line.said;
              files = same.0 ∙ t.line.files;
              heard = λ earlier heard. same.1 ∙ t.line.heard earlier heard;
              told = t.line.told;
            });
          }

      go : Warns (stop_line (names_of c) p.stop) (status_of p.stop) p.mid new status → Refuses c old new kept before
      go (inl w) = warned w.1 (stops-told p.mid p.stop p.cause (subst (λ (s : Status). code_of s ≡ 4) w.0 code))
      go (inr w) = absurd (omega (arith, code, ap code_of w.0))
