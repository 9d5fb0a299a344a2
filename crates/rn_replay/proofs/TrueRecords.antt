-- What is replayed is true; what is refused isn't, and is refused for one cause.
use Rattle.std.proofs.Common.{◌≡◌, suc, ◌<◌, ◌≤◌, List, [], ◌∷◌, ◌++◌, length, refl, sym, ap, ◌∙◌, subst, inl, inr, arith}
use Rattle.std.specs.Prelude.{◌≢◌, ◌⊎◌, Some, None, ⊤}
use Rattle.std.proofs.lemmas.List.{append_assoc, length-append}
use Rattle.rn_items.specs.Memory.{no_memory}
use Rattle.rn_model.specs.declared.system.System.{System}
use Rattle.rn_model.specs.declared.log.Options.{Options}
use Rattle.rn_model.specs.declared.log.Entry.{Entry}
use Rattle.rn_model.specs.declared.log.Entry.TheVariants.{End}
use Rattle.rn_model.specs.declared.log.MarkLine.{MarkLine}
use Rattle.rn_model.specs.declared.log.Reason.{Reason}
use Rattle.rn_model.specs.declared.log.Told.{Told}
use Rattle.rn_model.specs.Enabling.{Enabled}
use Rattle.rn_model.specs.Firing.{Fired}
use Rattle.rn_model.specs.Liveness.{LivePart}
use Rattle.rn_model.specs.Runs.{Firing, Fires, IsTrueEnd, Log, Run, after_firing, end_of, entries_of}
use Rattle.rn_model.proofs.RunLemmas.{prefixes_are_runs, runs_grow}
use Rattle.rn_binding.specs.Soundness.{IsSound}
use Rattle.rn_fire.specs.link.States.{end_in, firings_in}
use Rattle.rn_fire.proofs.EntryLemmas.{end_of_entries, ended_more}
use Rattle.rn_replay.specs.Laws.{IsTrueRecord, RefusedAreUntrue, RefusedForOneCause, ReplayedAreTrue}
use Rattle.rn_replay.specs.Replays.{EndRefused, FiringRefused, Reaches, firing, ending}
use Rattle.rn_replay.specs.declared.fault.ReplayFault.{ReplayFault}
use Rattle.rn_replay.specs.declared.fault.ReplayFault.TheVariants.{V1, V2, V3, V4, V5, NoMemory}
use Rattle.rn_replay.proofs.WholeEntries.{fire_of}

-- firings as entries are those firings
one_firing : (f g : Firing) → fire_of f ≡ fire_of g → f ∷ [] ≡ g ∷ []
one_firing f g same = ap (λ e. firings_in (e ∷ [])) same

-- Of the same entries, cut before two of them: these are the same one, or the one stands among the
-- firings before the other.
abbrev CutAlike : List Firing → List Firing → Entry → Entry → Type 0
CutAlike fs gs x y =
    ((fs ≡ gs) × (x ≡ y))
    ⊎ (((f : Firing) × (more : List Firing) × (x ≡ fire_of f) × (gs ≡ fs ++ f ∷ more))
    ⊎ ((g : Firing) × (more : List Firing) × (y ≡ fire_of g) × (fs ≡ gs ++ g ∷ more)))

joined_alike : (f g : Firing) (fs gs : List Firing) (x y : Entry) → fire_of f ≡ fire_of g →
    CutAlike fs gs x y → CutAlike (f ∷ fs) (g ∷ gs) x y
joined_alike f g fs gs x y same (inl (e, both)) =
    inl (ap (λ l. l ++ fs) (one_firing f g same) ∙ ap (λ l. g ∷ l) e, both)
joined_alike f g fs gs x y same (inr (inl (h, more, is, e))) =
    inr (inl (h, more, is, ap (λ l. l ++ gs) (sym (one_firing f g same)) ∙ ap (λ l. f ∷ l) e))
joined_alike f g fs gs x y same (inr (inr (h, more, is, e))) =
    inr (inr (h, more, is, ap (λ l. l ++ fs) (one_firing f g same) ∙ ap (λ l. g ∷ l) e))

cut_alike : (fs gs : List Firing) (x y : Entry) (xs ys : List Entry) →
    entries_of fs None ++ x ∷ xs ≡ entries_of gs None ++ y ∷ ys → CutAlike fs gs x y
cut_alike [] [] x y xs ys are = let same : x ≡ y = cc in inl (refl, same)
cut_alike [] (g ∷ gs) x y xs ys are =
    let same : x ≡ fire_of g = cc in inr (inl (g, gs, same, refl))
cut_alike (f ∷ fs) [] x y xs ys are =
    let same : y ≡ fire_of f = cc in inr (inr (f, fs, same, refl))
cut_alike (f ∷ fs) (g ∷ gs) x y xs ys are =
    let same : fire_of f ≡ fire_of g = cc in
    let rest : entries_of fs None ++ x ∷ xs ≡ entries_of gs None ++ y ∷ ys = cc in
    joined_alike f g fs gs x y same (cut_alike fs gs x y xs ys rest)

module _ (system : System) (options : Options) where
  -- no firing of a run is refused
  fired_is_fine : (fs before more : List Firing) (f g : Firing) (fault : ReplayFault) →
      Run system options.depth fs → length fs ≤ options.steps → fs ≡ before ++ g ∷ more →
      fire_of f ≡ fire_of g → fault ≢ NoMemory no_memory → FiringRefused system options before f fault → ⊥
  fired_is_fine fs before more f g fault run most are same caused refused =
      by fault caused refused
    where
      is : fs ≡ before ++ f ∷ more
      is = are ∙ ap (λ l. before ++ (l ++ more)) (sym (one_firing f g same))

      fires : Fires system options.depth (suc (length before)) (end_of system before) f
      fires =
          ((runs_grow system options.depth before f).0
          (prefixes_are_runs system options.depth (before ++ f ∷ []) more
          (subst (Run system options.depth) (is ∙ sym (append_assoc before (f ∷ []) more)) run))).1

      below : length before < options.steps
      below = let count = ap length is ∙ length-append before (f ∷ more) in omega (arith, count, most)

      by : (fault : ReplayFault) → fault ≢ NoMemory no_memory → FiringRefused system options before f fault → ⊥
      by (V1 n) caused refused = refused.2 (record {
        shape = fires.enabled.shape;
        agrees = fires.enabled.agrees;
        derived = fires.enabled.derived;
      })
      by (V2 n) caused refused = refused.3 fires.enabled.fits
      by (V3 n) caused refused =
          let after = after_firing system (suc (length before)) (end_of system before) f in
          let fired : Fired = record { marking = after; outs = f.outs } in
          refused.3 (fired, fires.fired, refl)
      by (V4 n) caused refused = let past = refused.1 in let low = below in omega (arith, low, past)
      by (V5 n) caused refused = refused
      by (NoMemory _) caused refused = caused refl

  module _ (told : Told) (true : IsTrueRecord system options told) where
    ends : told.entries ≡ entries_of true.fired None ++ End true.reason ∷ []
    ends = true.entries ∙ sym (ended_more true.fired true.reason)

    fired_in_record : (before : List Firing) (f : Firing) (fault : ReplayFault) →
        fault ≢ NoMemory no_memory → FiringRefused system options before f fault →
        CutAlike before true.fired (fire_of f) (End true.reason) → ⊥
    fired_in_record before f fault caused refused (inl (e, both)) = let never : ⊥ = cc in never
    fired_in_record before f fault caused refused (inr (inl (g, more, is, e))) =
        fired_is_fine true.fired before more f g fault true.log.run true.log.steps e is caused refused
    fired_in_record before f fault caused refused (inr (inr (g, more, is, e))) =
        let never : ⊥ = cc in never

    end_of_record : (before : List Firing) (reason : Reason) (fault : ReplayFault) →
        fault ≢ NoMemory no_memory → EndRefused system options before reason told.marks fault →
        CutAlike before true.fired (End reason) (End true.reason) → ⊥
    end_of_record before reason fault caused refused (inl (e, both)) =
        let why : true.reason ≡ reason = cc in
        by (subst (λ r. IsTrueEnd system options before r) why
        (subst (λ fs. IsTrueEnd system options fs true.reason) (sym e) true.log.ends))
        (subst (λ fs. LivePart system (end_of system fs) told.marks) (sym e) true.marks) fault caused
        refused
      where
        by : IsTrueEnd system options before reason →
            LivePart system (end_of system before) told.marks → (fault : ReplayFault) →
            fault ≢ NoMemory no_memory → EndRefused system options before reason told.marks fault → ⊥
        by ends marks (V1 n) caused refused = refused
        by ends marks (V2 n) caused refused = refused
        by ends marks (V3 n) caused refused = refused
        by ends marks (V4 n) caused refused = refused.1 ends
        by ends marks (V5 n) caused refused = refused.2 marks
        by ends marks (NoMemory _) caused refused = caused refl
    end_of_record before reason fault caused refused (inr (inl (g, more, is, e))) =
        let never : ⊥ = cc in never
    end_of_record before reason fault caused refused (inr (inr (g, more, is, e))) =
        let never : ⊥ = cc in never

pub refused_are_untrue : RefusedAreUntrue
refused_are_untrue system options told fault (firing {before = before} {f = f} reaches refused) caused true =
    fired_in_record system options told true before f fault caused refused
    (cut_alike before true.fired (fire_of f) (End true.reason) reaches.after []
    (sym reaches.are ∙ ends system options told true))
refused_are_untrue system options told fault (ending {fired = before} {reason = reason} reaches refused) caused true =
    end_of_record system options told true before reason fault caused refused
    (cut_alike before true.fired (End reason) (End true.reason) reaches.after []
    (sym reaches.are ∙ ends system options told true))

-- A firing is refused for one cause.
module _ (system : System) (options : Options) (before : List Firing) (f : Firing) where
  abbrev Because : ReplayFault → Type 0
  Because = FiringRefused system options before f

  sound_then : Enabled system (end_of system before) f.binding options.depth →
      IsSound system options.depth f.binding
  sound_then enabled =
      record { shape = enabled.shape; agrees = enabled.agrees; derived = enabled.derived }

  not_both : {A : Type 0} → length before < options.steps → options.steps ≤ length before → A
  not_both below past = absurd (let never : ⊥ = omega (arith, below, past) in never)

  one_firing_cause : (a b : ReplayFault) → a ≢ NoMemory no_memory → b ≢ NoMemory no_memory → Because a → Because b → a ≡ b
  one_firing_cause (NoMemory _) b ca cb p q = absurd (ca refl)
  one_firing_cause (V5 n) b ca cb p q = absurd p
  one_firing_cause (V1 n) (NoMemory _) ca cb p q = absurd (cb refl)
  one_firing_cause (V2 n) (NoMemory _) ca cb p q = absurd (cb refl)
  one_firing_cause (V3 n) (NoMemory _) ca cb p q = absurd (cb refl)
  one_firing_cause (V4 n) (NoMemory _) ca cb p q = absurd (cb refl)
  one_firing_cause (V1 n) (V5 m) ca cb p q = absurd q
  one_firing_cause (V2 n) (V5 m) ca cb p q = absurd q
  one_firing_cause (V3 n) (V5 m) ca cb p q = absurd q
  one_firing_cause (V4 n) (V5 m) ca cb p q = absurd q
  one_firing_cause (V1 n) (V1 m) ca cb p q = ap V1 (p.0 ∙ sym q.0)
  one_firing_cause (V1 n) (V2 m) ca cb p q = absurd (p.2 q.2)
  one_firing_cause (V1 n) (V3 m) ca cb p q = absurd (p.2 (sound_then q.2))
  one_firing_cause (V1 n) (V4 m) ca cb p q = not_both p.1 q.1
  one_firing_cause (V2 n) (V1 m) ca cb p q = absurd (q.2 p.2)
  one_firing_cause (V2 n) (V2 m) ca cb p q = ap V2 (p.0 ∙ sym q.0)
  one_firing_cause (V2 n) (V3 m) ca cb p q = absurd (p.3 q.2.fits)
  one_firing_cause (V2 n) (V4 m) ca cb p q = not_both p.1 q.1
  one_firing_cause (V3 n) (V1 m) ca cb p q = absurd (q.2 (sound_then p.2))
  one_firing_cause (V3 n) (V2 m) ca cb p q = absurd (q.3 p.2.fits)
  one_firing_cause (V3 n) (V3 m) ca cb p q = ap V3 (p.0 ∙ sym q.0)
  one_firing_cause (V3 n) (V4 m) ca cb p q = not_both p.1 q.1
  one_firing_cause (V4 n) (V1 m) ca cb p q = not_both q.1 p.1
  one_firing_cause (V4 n) (V2 m) ca cb p q = not_both q.1 p.1
  one_firing_cause (V4 n) (V3 m) ca cb p q = not_both q.1 p.1
  one_firing_cause (V4 n) (V4 m) ca cb p q = ap V4 (p.0 ∙ sym q.0)

-- And an end.
module _ (system : System) (options : Options) (before : List Firing) (reason : Reason)
    (marks : List MarkLine) where
  abbrev BecauseOf : ReplayFault → Type 0
  BecauseOf = EndRefused system options before reason marks

  one_end_cause : (a b : ReplayFault) → a ≢ NoMemory no_memory → b ≢ NoMemory no_memory → BecauseOf a → BecauseOf b →
      a ≡ b
  one_end_cause (NoMemory _) b ca cb p q = absurd (ca refl)
  one_end_cause (V1 n) b ca cb p q = absurd p
  one_end_cause (V2 n) b ca cb p q = absurd p
  one_end_cause (V3 n) b ca cb p q = absurd p
  one_end_cause (V4 n) (NoMemory _) ca cb p q = absurd (cb refl)
  one_end_cause (V4 n) (V1 m) ca cb p q = absurd q
  one_end_cause (V4 n) (V2 m) ca cb p q = absurd q
  one_end_cause (V4 n) (V3 m) ca cb p q = absurd q
  one_end_cause (V4 n) (V4 m) ca cb p q = ap V4 (p.0 ∙ sym q.0)
  one_end_cause (V4 n) (V5 m) ca cb p q = absurd (p.1 q.1)
  one_end_cause (V5 n) (NoMemory _) ca cb p q = absurd (cb refl)
  one_end_cause (V5 n) (V1 m) ca cb p q = absurd q
  one_end_cause (V5 n) (V2 m) ca cb p q = absurd q
  one_end_cause (V5 n) (V3 m) ca cb p q = absurd q
  one_end_cause (V5 n) (V4 m) ca cb p q = absurd (q.1 p.1)
  one_end_cause (V5 n) (V5 m) ca cb p q = ap V5 (p.0 ∙ sym q.0)

-- the first of firings is refused
abbrev IsFirstRefused : System → Options → List Firing → ReplayFault → List Firing → Type 0
IsFirstRefused system options before fault [] = ⊤
IsFirstRefused system options before fault (f ∷ fs) = FiringRefused system options before f fault

module _ (system : System) (options : Options) (told : Told) (a b : ReplayFault)
    (ca : a ≢ NoMemory no_memory) (cb : b ≢ NoMemory no_memory) where
  firing_and_firing : (fs gs : List Firing) (f g : Firing) →
      Reaches system options told.entries fs (fire_of f) → FiringRefused system options fs f a →
      Reaches system options told.entries gs (fire_of g) → FiringRefused system options gs g b →
      CutAlike fs gs (fire_of f) (fire_of g) → a ≡ b
  firing_and_firing fs gs f g rf p rg q (inl (e, both)) =
      one_firing_cause system options gs g a b ca cb
      (subst (λ l. FiringRefused system options l g a) e
      (subst (IsFirstRefused system options fs a) (one_firing f g both) p)) q
  firing_and_firing fs gs f g rf p rg q (inr (inl (h, more, is, e))) =
      absurd (fired_is_fine system options gs fs more f h a rg.log.run rg.log.steps e is ca p)
  firing_and_firing fs gs f g rf p rg q (inr (inr (h, more, is, e))) =
      absurd (fired_is_fine system options fs gs more g h b rf.log.run rf.log.steps e is cb q)

  firing_and_end : (fs gs : List Firing) (f : Firing) (reason : Reason) →
      Reaches system options told.entries fs (fire_of f) → FiringRefused system options fs f a →
      Reaches system options told.entries gs (End reason) →
      CutAlike fs gs (fire_of f) (End reason) → a ≡ b
  firing_and_end fs gs f reason rf p rg (inl (e, both)) = absurd (let never : ⊥ = cc in never)
  firing_and_end fs gs f reason rf p rg (inr (inl (h, more, is, e))) =
      absurd (fired_is_fine system options gs fs more f h a rg.log.run rg.log.steps e is ca p)
  firing_and_end fs gs f reason rf p rg (inr (inr (h, more, is, e))) =
      absurd (let never : ⊥ = cc in never)

  end_and_end : (fs gs : List Firing) (reason other : Reason) →
      EndRefused system options fs reason told.marks a →
      EndRefused system options gs other told.marks b →
      CutAlike fs gs (End reason) (End other) → a ≡ b
  end_and_end fs gs reason other p q (inl (e, both)) =
      let why : reason ≡ other = cc in
      one_end_cause system options gs other told.marks a b ca cb
      (subst (λ l. EndRefused system options l other told.marks a) e
      (subst (λ r. EndRefused system options fs r told.marks a) why p)) q
  end_and_end fs gs reason other p q (inr (inl (h, more, is, e))) =
      absurd (let never : ⊥ = cc in never)
  end_and_end fs gs reason other p q (inr (inr (h, more, is, e))) =
      absurd (let never : ⊥ = cc in never)

pub refused_for_one_cause : RefusedForOneCause
refused_for_one_cause system options told a b (firing {before = fs} {f = f} rf p) (firing {before = gs} {f = g} rg q) ca cb =
    firing_and_firing system options told a b ca cb fs gs f g rf p rg q
    (cut_alike fs gs (fire_of f) (fire_of g) rf.after rg.after (sym rf.are ∙ rg.are))
refused_for_one_cause system options told a b (firing {before = fs} {f = f} rf p) (ending {fired = gs} {reason = reason} rg q) ca cb =
    firing_and_end system options told a b ca cb fs gs f reason rf p rg
    (cut_alike fs gs (fire_of f) (End reason) rf.after rg.after (sym rf.are ∙ rg.are))
refused_for_one_cause system options told a b (ending {fired = fs} {reason = reason} rf p) (firing {before = gs} {f = g} rg q) ca cb =
    sym (firing_and_end system options told b a cb ca gs fs g reason rg q rf
    (cut_alike gs fs (fire_of g) (End reason) rg.after rf.after (sym rg.are ∙ rf.are)))
refused_for_one_cause system options told a b (ending {fired = fs} {reason = reason} rf p) (ending {fired = gs} {reason = other} rg q) ca cb =
    end_and_end system options told a b ca cb fs gs reason other p q
    (cut_alike fs gs (End reason) (End other) rf.after rg.after (sym rf.are ∙ rg.are))

-- a state's log is a log, and its end is the one that is told
pub replayed_are_true : ReplayedAreTrue
replayed_are_true system options told s is whole replayed =
    let ended : s.ended ≡ Some whole.reason = sym (end_of_entries s.fired s.ended) ∙ ap end_in (replayed.entries ∙ whole.are)
    ∙ end_of_entries whole.fired (Some whole.reason) in
    record {
      fired = s.fired;
      reason = whole.reason;
      entries = sym replayed.entries ∙ ap (entries_of s.fired) ended;
      log = subst (λ x. Log x.system x.options s.fired (Some whole.reason)) replayed.setup
          (subst (Log s.setup.system s.setup.options s.fired) ended is.log);
      marks = subst (λ x. LivePart system (end_of x.system s.fired) told.marks) replayed.setup
          replayed.marks;
    }
