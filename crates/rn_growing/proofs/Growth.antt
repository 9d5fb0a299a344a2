-- What a growing binding keeps as decisions come in and are taken back.
use Rattle.std.proofs.Common.{◌≡◌, ◌≤◌, ◌<◌, ◌+◌, ℕ, zero, suc, Bool, true, false, List, [], ◌∷◌}
use Rattle.std.proofs.Common.{◌++◌, length, take, get_or, refl, sym, ap, ◌∙◌, subst, arith}
use Rattle.std.proofs.Common.{length-append, length-take, ◌⊎◌, inl, inr}
use Rattle.std.specs.Prelude.{Some, ◌↔◌, slice_get, Contains, IsTrue}
use Rattle.std.proofs.lemmas.Option.{slice_get-get_or, slice_get_within, get_or_from_slice_get}
use Rattle.std.proofs.lemmas.List.{get_or-take, length-take-le, take-take, take-append-le}
use Rattle.std.proofs.Math.Seq.{take-append_seam}
use Rattle.std.proofs.lemmas.List.Elements.{Contains-append_cases, Contains-append_left}
use Rattle.std.proofs.lemmas.List.Elements.{Contains-append_right}
use Rattle.rn_value.specs.declared.value.Value.TheVariants as Value
use Rattle.rn_term.specs.Assignments.{Keeps}
use Rattle.rn_term.specs.Undoing.{Rolled}
use Rattle.rn_unify.proofs.EarlierMarks.{grown}
use Rattle.rn_model.specs.declared.system.System.{System}
use Rattle.rn_model.specs.Derivation.{Assignment}
use Rattle.rn_growing.specs.declared.decision.Decision.{Decision}
use Rattle.rn_growing.specs.declared.slot.Frame.{Frame}
use Rattle.rn_growing.specs.Equations.{Brings, Solves, IsSolvable}
use Rattle.rn_growing.specs.Turns.{AreInTurn, MayCome, SameThing}
use Rattle.rn_growing.specs.link.Layouts.{id_of, IsLaidIn}
use Rattle.rn_growing.specs.link.Laid.{LaidState, GivesAssignment, Grows, Adds}
use Rattle.rn_growing.proofs.Telling.{assigned, assigned_reads}
use Rattle.rn_growing.specs.Grown.{Grown, IsNew}
use Rattle.rn_growing.specs.link.Grown.{Says, laid_at, IsEarlier}
use Rattle.rn_growing.specs.Grown.{Tries}
use Rattle.rn_growing.specs.link.Grown.{KeepsGrowing, TriesIn}

-- equal options hold equal values
pub some_equal : {A : Type 0} (x y : A) → Some x ≡ Some y → x ≡ y
some_equal x y e = cc

-- what is read at an index within a list stands there
pub stands_at : {A : Type 0} (xs : List A) (k : ℕ) (x : A) → k < length xs → x ≡ get_or xs k x →
    slice_get xs k ≡ Some x
stands_at xs k x within is = slice_get-get_or xs k x within ∙ ap Some (sym is)

-- elements of the front of a list
pub front_at : {A : Type 0} (xs : List A) (n k : ℕ) (x : A) → slice_get (take n xs) k ≡ Some x →
    n ≤ length xs → (k < n) × (slice_get xs k ≡ Some x)
front_at xs n k x at room =
    let within : k < n =
    omega (arith, slice_get_within (take n xs) k x at, length-take-le n xs room) in (
      within,
      slice_get-get_or xs k x (omega (arith, within, room))
          ∙ ap Some (sym (get_or-take n xs k x within)
          ∙ get_or_from_slice_get (take n xs) k x x at),
    )

-- an element of a list with one more
pub either_at : {A : Type 0} (xs : List A) (y : A) (k : ℕ) (x : A) →
    slice_get (xs ++ y ∷ []) k ≡ Some x →
    ((k < length xs) × (slice_get xs k ≡ Some x)) ⊎ ((k ≡ length xs) × (x ≡ y))
either_at [] y zero x at = inr (refl, let e : x ≡ y = cc in e)
either_at [] y (suc k) x at = absurd (let no : ⊥ = cc in no)
either_at (z ∷ xs) y zero x at = inl (omega arith, at)
either_at (z ∷ xs) y (suc k) x at =
    elim (either_at xs y k x at) [
      | inl before ↦
          inl (omega (arith, before.0), before.1)
      | inr last ↦ inr (omega (arith, last.0), last.1)
    ]

-- what was laid at an earlier frame of what was laid at a frame
laid_twice : (laid : LaidState) (one other : Frame) → IsEarlier one (laid_at laid other) →
    IsEarlier other laid → laid_at (laid_at laid other) one ≡ laid_at laid one
laid_twice laid one other before within =
    let terms : one.mark.size ≤ other.mark.size =
    omega (arith, before.0.0, length-take-le other.mark.size laid.store.terms within.0.0) in
    let notes : one.mark.notes ≤ other.mark.notes =
    omega (arith, before.0.1, length-take-le other.mark.notes laid.store.notes within.0.1) in
    let slots : one.slots ≤ other.slots =
    omega (arith, before.1, length-take-le other.slots laid.slots within.1) in
    ap (λ ts. record {
      store =
          record {
            terms = ts;
            notes = take one.mark.notes (take other.mark.notes laid.store.notes);
          };
      slots = take one.slots (take other.slots laid.slots);
    })
    (take-take one.mark.size other.mark.size laid.store.terms terms)
    ∙ ap (λ ns. record {
      store = record { terms = take one.mark.size laid.store.terms; notes = ns };
      slots =
          take one.slots (take other.slots laid.slots);
    })
    (take-take one.mark.notes other.mark.notes laid.store.notes notes)
    ∙ ap (λ ss. record {
      store =
          record {
            terms = take one.mark.size laid.store.terms;
            notes =
                take one.mark.notes laid.store.notes;
          };
      slots = ss;
    })
    (take-take one.slots other.slots laid.slots slots)

-- the first so many of decisions in turn are in turn
pub turns_front : (system : System) (ds : List Decision) (n : ℕ) → n ≤ length ds →
    AreInTurn system ds → AreInTurn system (take n ds)
turns_front system ds n room turns = record {
  came = λ k d at. let there = front_at ds n k d at room in
      let early : k ≤ n = omega (arith, there.0) in
      subst (λ before. MayCome system before d) (sym (take-take k n ds early))
      (turns.came k d there.1);
  once = λ j k d e less at other. turns.once j k d e less (front_at ds n j d at room).1
      (front_at ds n k e other room).1;
}

-- decisions are taken back to a frame
pub taken_back : (system : System) (laid : LaidState) (ds : List Decision) (frames : List Frame)
    (n : ℕ) (frame : Frame) → KeepsGrowing system laid ds frames →
    slice_get frames n ≡ Some frame →
    KeepsGrowing system (laid_at laid frame) (take n ds) (take n frames)
taken_back system laid ds frames n frame keeps at =
    let within : n < length frames = slice_get_within frames n frame at in
    let room : n ≤ length frames = omega (arith, within) in
    let deciding : n ≤ length ds = omega (arith, within, keeps.each) in
    let here = keeps.earlier n frame at in
    let before : (k : ℕ) (f : Frame) → slice_get (take n frames) k ≡ Some f →
    (k < n) × (slice_get frames k ≡ Some f) = λ k f there. front_at frames n k f there room in
    let earlier : (k : ℕ) (f : Frame) → slice_get (take n frames) k ≡ Some f →
    IsEarlier f (laid_at laid frame) =
    λ k f there. keeps.rising k n f frame (let h = (before k f there).0 in omega (arith, h))
    (before k f there).1 at in
    record {
      few = keeps.few;
      turns = turns_front system ds n deciding keeps.turns;
      says = keeps.before n frame at;
      each = length-take-le n frames room ∙ sym (length-take-le n ds deciding);
      earlier = earlier;
      rising = λ j k one other le first second.
          subst (IsEarlier one) (sym (laid_twice laid other frame (earlier k other second) here))
          (keeps.rising j k one other le (before j one first).1 (before k other second).1);
      before = λ k f there.
          let h = (before k f there).0 in
          let early : k ≤ n = omega (arith, h) in
          subst (λ l. Says system l (take k (take n ds)))
          (sym (laid_twice laid f frame (earlier k f there) here))
          (subst (Says system (laid_at laid f)) (sym (take-take k n ds early))
          (keeps.before k f (before k f there).1));
    }

-- what was laid at an earlier frame stays so
laid_stays : (old new : LaidState) (frame : Frame) → Grows old new → IsEarlier frame old →
    laid_at new frame ≡ laid_at old frame
laid_stays old new frame grows earlier =
    let slots : take frame.slots new.slots ≡ take frame.slots old.slots =
    sym (take-take frame.slots (length old.slots) new.slots earlier.1)
    ∙ ap (take frame.slots) grows.slots in
    ap (λ s. record { store = s; slots = take frame.slots new.slots })
    (grows.store frame.mark earlier.0)
    ∙ ap (λ ss. record { store = Rolled old.store frame.mark; slots = ss }) slots

longer_slots : {A : Type 0} (xs ys : List A) → take (length xs) ys ≡ xs → length xs ≤ length ys
longer_slots xs ys is = omega (arith, ap length is, length-take (length xs) ys)

earlier_stays : (old new : LaidState) (frame : Frame) → Grows old new → IsEarlier frame old →
    IsEarlier frame new
earlier_stays old new frame grows earlier =
    let more = (grown old.store new.store grows.store).not_later in (
      (omega (arith, earlier.0.0, more.0), omega (arith, earlier.0.1, more.1)),
      omega
          (arith, earlier.1, longer_slots old.slots new.slots grows.slots),
    )

-- a list with one more element holds it
pub contains_last : {A : Type 0} (xs : List A) (y : A) → Contains (xs ++ y ∷ []) y
contains_last xs y = Contains-append_right xs (y ∷ []) y (0, omega arith, refl)

-- a list of one element holds no other
pub only_one : {A : Type 0} (y x : A) → Contains (y ∷ []) x → y ≡ x
only_one y x (zero, h, e) = e
only_one y x (suc k, h, e) = absurd (let no : ⊥ = omega (arith, h) in no)

-- what decisions with one more bring
pub solves_more : (system : System) (ds : List Decision) (d : Decision) (a : Assignment) →
    Solves system (ds ++ d ∷ []) a ↔ (Solves system ds a × Brings system a d)
solves_more system ds d a = (
  λ all. (λ e there. all e (Contains-append_left ds (d ∷ []) e there), all d (contains_last ds d)),
  λ both e there. elim (Contains-append_cases ds (d ∷ []) e there) [
    | inl before ↦ both.0 e before
    | inr last ↦ subst (Brings system a) (only_one d e last) both.1
  ],
)

says_more : (system : System) (old new : LaidState) (ds : List Decision) (d : Decision) →
    Says system old ds → Adds old (λ a. Brings system a d) new → Keeps new.store →
    IsLaidIn (id_of new.slots) new.store → Says system new (ds ++ d ∷ [])
says_more system old new ds d says adds keeps laid = record {
  keeps = keeps;
  laid_in = laid;
  exact = λ a. (
    λ all. let both = (solves_more system ds d a).0 all in
        (adds.exact a).1 ((says.exact a).0 both.0, both.1),
    λ given. let both = (adds.exact a).0 given in
        (solves_more system ds d a).1 ((says.exact a).1 both.0, both.1),
  );
}

-- what stands at an index is in the list
pub at_in : {A : Type 0} (xs : List A) (k : ℕ) (x : A) → slice_get xs k ≡ Some x → Contains xs x
at_in xs k x at = (k, slice_get_within xs k x at, get_or_from_slice_get xs k x x at)

-- decisions in turn stay so with one more that may come in and is new
pub turns_more : (system : System) (ds : List Decision) (d : Decision) → AreInTurn system ds →
    MayCome system ds d → IsNew ds d → AreInTurn system (ds ++ d ∷ [])
turns_more system ds d turns may new = record {
  came = λ k e at. elim (either_at ds d k e at) [
    | inl before ↦
        let early : k ≤ length ds = let h = before.0 in omega (arith, h) in
        subst (λ front. MayCome system front e) (sym (take-append-le k ds (d ∷ []) early))
        (turns.came k e before.1)
    | inr last ↦
        subst (λ j. MayCome system (take j (ds ++ d ∷ [])) e) (sym last.0)
        (subst (λ front. MayCome system front e) (sym (take-append_seam ds (d ∷ [])))
        (subst (MayCome system ds) (sym last.1) may))
  ];
  once = λ j k e f less first second. elim (either_at ds d j e first) [
    | inl one ↦ elim (either_at ds d k f second) [
      | inl other ↦ turns.once j k e f less one.1 other.1
      | inr last ↦ λ same. new e (at_in ds j e one.1) (subst (SameThing e) last.1 same)
    ]
    | inr last ↦ λ same.
        let h = last.0 in let w = slice_get_within (ds ++ d ∷ []) k f second in
        let no : ⊥ = omega (arith, h, w, less, length-append ds (d ∷ [])) in absurd no
  ];
}

-- one more decision
pub decided : (system : System) (old new : LaidState) (ds : List Decision) (frames : List Frame)
    (frame : Frame) (d : Decision) → KeepsGrowing system old ds frames → Grows old new →
    Adds old (λ a. Brings system a d) new → Keeps new.store →
    IsLaidIn (id_of new.slots) new.store → laid_at old frame ≡ old → IsEarlier frame old →
    MayCome system ds d → IsNew ds d →
    KeepsGrowing system new (ds ++ d ∷ []) (frames ++ frame ∷ [])
decided system old new ds frames frame d keeps grows adds sound laid is here may fresh =
    let now : laid_at new frame ≡ old = laid_stays old new frame grows here ∙ is in
    record {
      few = keeps.few;
      turns = turns_more system ds d keeps.turns may fresh;
      says = says_more system old new ds d keeps.says adds sound laid;
      each = length-append frames (frame ∷ []) ∙ ap (λ n. n + 1) keeps.each
          ∙ sym (length-append ds (d ∷ []));
      earlier = λ k f at. elim (either_at frames frame k f at) [
        | inl before ↦ earlier_stays old new f grows (keeps.earlier k f before.1)
        | inr last ↦ subst (λ g. IsEarlier g new) (sym last.1)
            (earlier_stays old new frame grows here)
      ];
      rising = λ j k one other le first second. elim (either_at frames frame k other second) [
        | inl after ↦ elim (either_at frames frame j one first) [
          | inl before ↦
              subst (IsEarlier one)
              (sym (laid_stays old new other grows (keeps.earlier k other after.1)))
              (keeps.rising j k one other le before.1 after.1)
          | inr last ↦
              let h = last.0 in let w = after.0 in
              let no : ⊥ = omega (arith, h, w, le) in absurd no
        ]
        | inr end ↦
            subst (λ g. IsEarlier one (laid_at new g)) (sym end.1)
            (subst (IsEarlier one) (sym now)
            (elim (either_at frames frame j one first) [
              | inl before ↦ keeps.earlier j one before.1
              | inr last ↦ subst (λ g. IsEarlier g old) (sym last.1) here
            ]))
      ];
      before = λ k f at. elim (either_at frames frame k f at) [
        | inl before ↦
            let early : k ≤ length ds = let h = before.0 in omega (arith, h, keeps.each) in
            subst (λ l. Says system l (take k (ds ++ d ∷ [])))
            (sym (laid_stays old new f grows (keeps.earlier k f before.1)))
            (subst (Says system (laid_at old f)) (sym (take-append-le k ds (d ∷ []) early))
            (keeps.before k f before.1))
        | inr last ↦
            let same : k ≡ length ds = last.0 ∙ keeps.each in
            subst (λ j. Says system (laid_at new f) (take j (ds ++ d ∷ []))) (sym same)
            (subst (Says system (laid_at new f)) (sym (take-append_seam ds (d ∷ [])))
            (subst (λ g. Says system (laid_at new g) ds) (sym last.1)
            (subst (λ l. Says system l ds) (sym now) keeps.says)))
      ];
    }

pub solvable : (system : System) (laid : LaidState) (ds : List Decision) → Says system laid ds →
    IsSolvable system ds
solvable system laid ds says =
    let l = id_of laid.slots in
    let vs = says.keeps.satisfied.0 in (
      assigned l vs (Value.Tuple []),
      (says.exact (assigned l vs (Value.Tuple []))).1
          (vs, says.keeps.satisfied.1, assigned_reads l vs (Value.Tuple [])),
    )

pub not_solvable : (system : System) (laid : LaidState) (ds : List Decision) (d : Decision) →
    Says system laid ds → ((a : Assignment) → GivesAssignment laid a → ¬ Brings system a d) →
    ¬ IsSolvable system (ds ++ d ∷ [])
not_solvable system laid ds d says never (a, all) =
    let both = (solves_more system ds d a).0 all in
    never a ((says.exact a).0 both.0) both.1

pub tries_yes : (now : Grown) (system : System) (laid : LaidState) (ds after : List Decision)
    (d : Decision) → (record { system = system; decisions = ds }) ≡ now → after ≡ ds ++ d ∷ [] →
    Says system laid after → Tries now d (record { system = system; decisions = after }) true
tries_yes now system laid ds after d seen is says =
    subst (λ g. Tries g d (record { system = system; decisions = after }) true) seen (
      ap (λ es. record { system = system; decisions = es }) is,
      subst (IsSolvable system) is
          (solvable system laid after says),
    )

pub tries_no : (now : Grown) (system : System) (laid : LaidState) (ds : List Decision)
    (d : Decision) → (record { system = system; decisions = ds }) ≡ now → Says system laid ds →
    ((a : Assignment) → GivesAssignment laid a → ¬ Brings system a d) → Tries now d now false
tries_no now system laid ds d seen says never =
    subst (λ g. Tries g d g false) seen (refl, not_solvable system laid ds d says never)

-- the step of each call that decides
pub decided_now : (now : Grown) (system : System) (old new : LaidState) (ds after : List Decision)
    (frames framed : List Frame) (frame : Frame) (d : Decision) →
    (record { system = system; decisions = ds }) ≡ now → KeepsGrowing system old ds frames →
    Grows old new → TriesIn old (λ a. Brings system a d) new true → Keeps new.store →
    IsLaidIn (id_of new.slots) new.store → laid_at old frame ≡ old → IsEarlier frame old →
    MayCome now.system now.decisions d → IsNew now.decisions d → after ≡ ds ++ d ∷ [] →
    framed ≡ frames ++ frame ∷ [] →
    KeepsGrowing system new after framed
decided_now now system old new ds after frames framed frame d seen keeps grows adds sound laid is
    here may fresh deciding framing =
    subst (KeepsGrowing system new after) (sym framing)
    (subst (λ es. KeepsGrowing system new es (frames ++ frame ∷ [])) (sym deciding)
    (decided system old new ds frames frame d keeps grows adds sound laid is here
    (subst (λ g. MayCome g.system g.decisions d) (sym seen) may)
    (subst (λ g. IsNew g.decisions d) (sym seen) fresh)))

-- the answer says whether some assignment satisfies the decisions
pub tries_tells : (yes : Bool) (old new : Grown) (d : Decision) → Tries old d new yes →
    IsTrue yes ↔ IsSolvable old.system (old.decisions ++ d ∷ [])
tries_tells true old new d tried = (λ e. tried.1, λ s. refl)
tries_tells false old new d tried = (λ e. absurd (let no : ⊥ = cc in no), λ s. absurd (tried.1 s))
