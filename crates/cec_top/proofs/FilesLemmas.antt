-- How a run of checks of files answers, from what was read, told and saved.
use Rattle.std.proofs.Common.{◌≡◌, ℕ, inl, inr, List, [], ◌∷◌, ◌++◌, Option, None, Some, Ok, Err, refl, sym, ap, ◌∙◌, subst, append-nil}
use Rattle.std.specs.Prelude.{◌⊎◌, Result, option_map}
use Rattle.std.specs.List.{flat_map}
use Rattle.std.specs.Option.{option_to_list}
use Rattle.std.specs.Global.{Vec}
use Rattle.desk_port.specs.Desk.{DeskState}
use Rattle.netlist.specs.Net.{AigPair}
use Rattle.endings.specs.declared.status.Status.{Status}
use Rattle.endings.specs.declared.stop.Stop.{Stop}
use Rattle.endings.specs.declared.stop.Stop.TheVariants.{CannotRead, TooLong, BadFile, NotAlike, CannotWrite, OutOfMemory}
use Rattle.endings.specs.Reading.{Input, AreRead, ReadsUpTo, after_reads}
use Rattle.endings.specs.Writing.{Says}
use Rattle.lemma_book.specs.declared.entry.Entry.{Entry}
use Rattle.check_session.specs.declared.options.Options.{Options}
use Rattle.check_session.specs.Check.{State, opened}
use Rattle.netlist_edits.specs.Script.{script_lines}
use Rattle.command_line.specs.Words.{CheckCommand}
use Rattle.cec_top.specs.declared.kept.Kept.{Kept}
use Rattle.cec_top.specs.Script.{plan_of}
use Rattle.cec_top.specs.Check.{Opening, Ends}
use Rattle.cec_top.specs.Answers.{AsksFor, EndsCheck, IsOpening, ReadsLemmas, Stops, after_lemmas, after_opening, after_pair, after_script, at_start, how_of, lemmas_of, opening_text, script_of}
use Rattle.cec_top.specs.Inputs.{script_file}
use Rattle.cec_top.specs.Steps.{LoadsLemmas, LoadsWhole, ReadsScript, ReadsSession, RunsPlan, SavesLemmas, how_in, lemmas_place, opening_in, wanted_of}
use Rattle.cec_top.proofs.ClosedLemmas.{told-closed}
use Rattle.cec_top.proofs.SavingLemmas.{more-reads, start-keeps}

-- the pair isn't read
pub read-stops : (c : CheckCommand) (old mid : DeskState) (kept : List Kept) (stop : Stop) → kept ≡ []
    → ReadsSession c old mid (Err stop) → Stops c old kept mid stop
read-stops c old mid kept stop none (inl p) = inl (none, p)
read-stops c old mid kept stop none (inr p) = inr (inl (none, p))

-- ---- the script

-- the files of a script that is named or isn't
abbrev inputs : Option (List ℕ) → List Input
inputs name = option_to_list (option_map script_file name)

abbrev scripts : Option (List ℕ) → List ℕ → List (List ℕ)
scripts None bytes = []
scripts (Some name) bytes = bytes ∷ []

module _ (old : DeskState) (earlier : List (List ℕ)) (after : DeskState) where
  -- it is read, and these are its lines
  record HasRead (name : Option (List ℕ)) (bytes : List ℕ) : Type 0 where
    read : AreRead old earlier (inputs name) (scripts name bytes)
    lines : script_lines bytes ≡ flat_map script_lines (scripts name bytes)
    at : after ≡ after_reads old (inputs name)

  has-read : (name : Option (List ℕ)) (script : Vec ℕ) → ReadsScript name old after (Ok script) → HasRead name script.items
  has-read None script r = record { read = tt; lines = ap script_lines r.0; at = r.1 }
  has-read (Some name) script r = record {
    read = (r.0, refl, tt);
    lines = sym (append-nil (script_lines script.items));
    at = r.1;
  }

  -- or it isn't, and that ends the program
  not-read : (name : Option (List ℕ)) (stop : Stop) → ReadsScript name old after (Err stop) → ReadsUpTo 2 earlier (inputs name) old after stop
  not-read None stop r = absurd r
  not-read (Some name) (CannotRead file) r = inl r
  not-read (Some name) (TooLong file) r = inl r
  not-read (Some name) (BadFile file text) r = absurd r
  not-read (Some name) (NotAlike text) r = absurd r
  not-read (Some name) CannotWrite r = absurd r
  not-read (Some name) OutOfMemory r = inl (inl r)

  -- or it is, and the files behind it aren't
  not-behind : (others : List Input) (new : DeskState) (stop : Stop) (name : Option (List ℕ)) (script : Vec ℕ) → ReadsScript name old after (Ok script)
      → ((before : List (List ℕ)) → ReadsUpTo (lemmas_place name) before others after new stop)
      → ReadsUpTo 2 earlier (inputs name ++ others) old new stop
  not-behind others new stop None script r p = subst (λ (d : DeskState). ReadsUpTo 2 earlier others d new stop) r.1 (p earlier)
  not-behind others new stop (Some name) script r p =
      let behind : List (List ℕ) = earlier ++ script.items ∷ [] in
      inr (script.items, r.0, refl, subst (λ (d : DeskState). ReadsUpTo 3 behind others d new stop) r.1 (p behind))

-- behind a pair that was read, with a session for it
module _ (c : CheckCommand) (old mid after : DeskState) (s : State) (reads : ReadsSession c old mid (Ok s)) where
  abbrev earlier : List (List ℕ)
  earlier = reads.0.0.reads.a ∷ reads.0.0.reads.b ∷ []

  options : s.options ≡ (how_of c).options
  options = ap (λ (x : State). x.options) reads.1

  -- the session was just opened
  pub just-opened : s ≡ opened s.net s.options
  just-opened = reads.1 ∙ ap (opened s.net) (sym options)

  -- the script isn't read
  pub script-stops : (kept : List Kept) (stop : Stop) → kept ≡ [] → ReadsScript c.edits mid after (Err stop) → Stops c old kept after stop
  script-stops kept stop none r = inr (inr (inl (
    none,
    record {
      net = s.net;
      pair = reads.0.0;
      stops = more-reads 2 earlier (script_of c) (lemmas_of c.load) (after_pair c old) after stop
          (subst (λ (d : DeskState). ReadsUpTo 2 earlier (script_of c) d after stop) reads.0.1
          (not-read mid earlier after c.edits stop r));
    },
  )))

  -- it is
  module _ (script : Vec ℕ) (read : ReadsScript c.edits mid after (Ok script)) where
    has : HasRead mid earlier after c.edits script.items
    has = has-read mid earlier after c.edits script read

    at-script : after ≡ after_script c old
    at-script = has.at ∙ ap (λ (d : DeskState). after_reads d (script_of c)) reads.0.1

    asks : (lemmas : Option (List Entry)) → ReadsLemmas c.load after lemmas → AsksFor c old s.net (script_lines script.items) lemmas
    asks lemmas loads = record {
      pair = reads.0.0;
      script = record {
        scripts = scripts c.edits script.items;
        read = subst (λ (d : DeskState). AreRead d earlier (script_of c) (scripts c.edits script.items)) reads.0.1 has.read;
        lines_are = has.lines;
      };
      loads = subst (λ (d : DeskState). ReadsLemmas c.load d lemmas) at-script loads;
    }

    behind-lemmas : after_reads after (lemmas_of c.load) ≡ after_lemmas c old
    behind-lemmas = ap (λ (d : DeskState). after_reads d (lemmas_of c.load)) at-script

    -- the lemmas aren't read, or it isn't said how many are taken
    pub load-stops : (t : State) (new : DeskState) (kept : List Kept) (stop : Stop) → kept ≡ []
        → LoadsLemmas c.load (lemmas_place c.edits) s t after new (Err stop) → Stops c old kept new stop
    load-stops t new kept stop none (inl p) = inr (inr (inl (
      none,
      record {
        net = s.net;
        pair = reads.0.0;
        stops = subst (λ (d : DeskState). ReadsUpTo 2 earlier (script_of c ++ lemmas_of c.load) d new stop) reads.0.1
            (not-behind mid earlier after (lemmas_of c.load) new stop c.edits script read p);
      },
    )))
    load-stops t new kept stop none (inr p) =
        let Stopped : Options → DeskState → Type 0 = λ o d.
        ((stop ≡ OutOfMemory) × (new ≡ d))
        ⊎ ((from : Opening) × IsOpening o s.net (Some p.entries) from × Says (opening_text (Some p.entries) from) d new (Err stop)) in
        inr (inr (inr (inl (
          none,
          record {
            net = s.net;
            lines = script_lines script.items;
            entries = p.entries;
            asks = asks (Some p.entries) p.reads;
            stops = subst (λ (o : Options). Stopped o (after_lemmas c old)) options
                (subst (λ (d : DeskState). Stopped s.options d) behind-lemmas p.stops);
          },
        ))))

    -- they are
    module _ (t : State) (loaded : DeskState) (loads : LoadsWhole c.load s t after loaded) (text : List ℕ) (text_is : text ≡ script.items)
        (new : DeskState) (kept : List Kept) where
      abbrev from : Opening
      from = opening_in t

      opens : IsOpening (how_of c).options s.net loads.lemmas from
      opens = subst (λ (o : Options). IsOpening o s.net loads.lemmas from) options loads.opens

      at : loaded ≡ at_start c old loads.lemmas from
      at = loads.new_is ∙ ap (after_opening loads.lemmas from) behind-lemmas

      pub loads-closed : old.started ≡ None → loaded.started ≡ None
      loads-closed none = ap (λ (d : DeskState). d.started) at ∙ (start-keeps c old loads.lemmas from).started ∙ none

      pub loads-unedited : t.edits ≡ []
      loads-unedited = ap (λ (x : State). x.edits) loads.session ∙ ap (λ (x : State). x.edits) reads.1

      at-start : (r : Result Status Stop) → RunsPlan (how_in t (wanted_of c)) from (plan_of t.net (script_lines text)) loaded new kept r
          → RunsPlan (how_of c) from (plan_of s.net (script_lines script.items)) (at_start c old loads.lemmas from) new kept r
      at-start r p =
          let net : t.net ≡ s.net = ap (λ (x : State). x.net) loads.session in
          let same : t.options ≡ (how_of c).options = ap (λ (x : State). x.options) loads.session ∙ options in
          subst (λ (o : Options). RunsPlan (record { options = o; out = c.out; witness = c.witness; stats = c.stats; progress = c.progress }) from (plan_of s.net (script_lines script.items))
          (at_start c old loads.lemmas from) new kept r) same
          (subst (λ (d : DeskState). RunsPlan (how_in t (wanted_of c)) from (plan_of s.net (script_lines script.items)) d new kept r) at
          (subst (λ (bytes : List ℕ). RunsPlan (how_in t (wanted_of c)) from (plan_of s.net (script_lines bytes)) loaded new kept r) text_is
          (subst (λ (n : AigPair). RunsPlan (how_in t (wanted_of c)) from (plan_of n (script_lines text)) loaded new kept r) net p)))

      -- the checks aren't all told
      pub checks-stop : (stop : Stop) → RunsPlan (how_in t (wanted_of c)) from (plan_of t.net (script_lines text)) loaded new kept (Err stop)
          → Stops c old kept new stop
      checks-stop stop p = inr (inr (inr (inr (record {
        net = s.net;
        lines = script_lines script.items;
        lemmas = loads.lemmas;
        asks = asks loads.lemmas loads.reads;
        from = from;
        opens = opens;
        stops = inl (at-start (Err stop) p);
      }))))

      -- they are
      module _ (status : Status) (p : RunsPlan (how_in t (wanted_of c)) from (plan_of t.net (script_lines text)) loaded new kept (Ok status)) where
        ends : Ends (how_of c) from (plan_of s.net (script_lines script.items)) (at_start c old loads.lemmas from) new status kept
        ends = at-start (Ok status) p

        pub ends-closed : old.started ≡ None → new.started ≡ None
        ends-closed none =
            told-closed (how_of c) 0 ends.made (at_start c old loads.lemmas from) new ends.whole.told
            ((start-keeps c old loads.lemmas from).started ∙ none)

        -- and its lemmas are saved, or not
        pub saves-whole : (final : DeskState) → SavesLemmas c.save kept new final (Ok tt) → EndsCheck c old final status kept
        saves-whole final saved = record {
          net = s.net;
          lines = script_lines script.items;
          lemmas = loads.lemmas;
          asks = asks loads.lemmas loads.reads;
          from = from;
          opens = opens;
          mid = new;
          ends = ends;
          saved = saved;
        }

        pub saves-stop : (final : DeskState) (stop : Stop) → SavesLemmas c.save kept new final (Err stop) → Stops c old kept final stop
        saves-stop final stop stops = inr (inr (inr (inr (record {
          net = s.net;
          lines = script_lines script.items;
          lemmas = loads.lemmas;
          asks = asks loads.lemmas loads.reads;
          from = from;
          opens = opens;
          stops = inr (record { status = status; mid = new; ends = ends; stops = stops });
        }))))
