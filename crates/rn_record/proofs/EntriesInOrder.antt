-- Entries one after another, by the nets of the instances that they make.
use Rattle.std.proofs.Common.{◌≡◌, ◌≤◌, ◌+◌, ℕ, List, [], ◌∷◌, ◌++◌, length, take, drop, map, refl, sym, ap, ◌∙◌, subst, arith, append-nil, length-append}
use Rattle.std.specs.Prelude.{flat_map}
use Rattle.std.proofs.Math.Seq.{take-add, take-append_seam}
use Rattle.std.proofs.lemmas.List.{length-take, length-drop, map-append, take-take, take_all, drop-drop, append_cancel_left}
use Rattle.rn_model.specs.declared.system.System.{System}
use Rattle.rn_model.specs.declared.system.Creation.{Creation}
use Rattle.rn_model.specs.declared.binding.Node.{Node}
use Rattle.rn_model.specs.declared.binding.Binding.{Binding}
use Rattle.rn_model.specs.declared.log.Reason.{Reason}
use Rattle.rn_model.specs.declared.log.Reason.TheVariants.{Dead, Steps, Fault, Memory}
use Rattle.rn_model.specs.declared.log.Entry.{Entry}
use Rattle.rn_model.specs.declared.log.Entry.TheVariants.{Fire, End}
use Rattle.rn_model.specs.declared.log.Told.{Told}
use Rattle.rn_model.specs.Systems.{net_at, transition_of}
use Rattle.rn_spell.specs.Made.{nets_by, nets_made, names_of_nets}
use Rattle.rn_record.specs.RecordText.{names_by, names_after, names_past, first_names}
use Rattle.rn_record.specs.Writable.{HaveEntries, HasText}
use Rattle.rn_record.specs.Named.{names_with, names_with_end}
use Rattle.rn_spell.specs.Made.{made_at_end, made_in}
use Rattle.rn_record.specs.Nets.{fired_in, HasNets, EndsLast, first_of, EntryFits, EntriesFit}

-- the names of what creations make are those of their nets
by_creations : (system : System) (cs : List Creation) →
    names_of_nets system (map (λ c. c.net) cs) ≡ map (λ c. (net_at system c.net).name) cs
by_creations system [] = refl
by_creations system (c ∷ cs) = ap (λ ns. (net_at system c.net).name ∷ ns) (by_creations system cs)

all_by_nets : (system : System) (nodes : List Node) →
    names_of_nets system (flat_map (nets_by system) nodes) ≡ flat_map (names_by system) nodes
all_by_nets system [] = refl
all_by_nets system (node ∷ nodes) =
    map-append (λ net. (net_at system net).name) (nets_by system node) (flat_map (nets_by system) nodes)
    ∙ ap (λ ns. ns ++ names_of_nets system (flat_map (nets_by system) nodes)) (by_creations system (transition_of system node).creations)
    ∙ ap (λ ns. names_by system node ++ ns) (all_by_nets system nodes)

-- the names after a binding, by the nets of what it makes
after_nets : (system : System) (names : List (List ℕ)) (b : Binding) →
    names ++ names_of_nets system (nets_made system b) ≡ names_after system names b
after_nets system names b = ap (λ ns. names ++ ns) (all_by_nets system b.nodes)

with_end : (system : System) (names : List (List ℕ)) (reason : Reason) →
    names ++ names_of_nets system (made_at_end system reason) ≡ names_with_end system names reason
with_end system names Dead = append-nil names
with_end system names Steps = append-nil names
with_end system names (Fault cause b) = after_nets system names b
with_end system names Memory = append-nil names

-- the names with those of an entry's binding, by the nets of what it makes
pub with_nets : (system : System) (names : List (List ℕ)) (entry : Entry) →
    names ++ names_of_nets system (made_in system entry) ≡ names_with system names entry
with_nets system names (Fire worker b outs) = after_nets system names b
with_nets system names (End reason) = with_end system names reason

-- the names past an entry, by the nets of what it makes
pub past_nets : (system : System) (names : List (List ℕ)) (entry : Entry) →
    names ++ names_of_nets system (fired_in system entry) ≡ names_past system names entry
past_nets system names (Fire worker b outs) = after_nets system names b
past_nets system names (End reason) = append-nil names

-- the first of two parts that come next
first_part : (x y all : List ℕ) → take (length (x ++ y)) all ≡ x ++ y → take (length x) all ≡ x
first_part x y all is =
    let within : length x ≤ length (x ++ y) = omega (arith, length-append x y) in
    sym (take-take (length x) (length (x ++ y)) all within)
    ∙ ap (take (length x)) is ∙ take-append_seam x y

-- the second of them
second_part : (x y all : List ℕ) → take (length (x ++ y)) all ≡ x ++ y →
    take (length y) (drop (length x) all) ≡ y
second_part x y all is =
    append_cancel_left x (take (length y) (drop (length x) all)) y
    (ap (λ z. z ++ take (length y) (drop (length x) all)) (sym (first_part x y all is))
    ∙ sym (take-add (length x) (length y) all)
    ∙ ap (λ n. take n all) (sym (length-append x y)) ∙ is)

-- The entries to come, of which this is the first.
module _ (system : System) (nets : List ℕ) (before : ℕ) (entry : Entry) (entries : List Entry)
    (fit : EntriesFit system nets before (entry ∷ entries)) where
  abbrev made : List ℕ
  made = made_in system entry

  abbrev later : List ℕ
  later = flat_map (made_in system) entries

  here : take (length made) (drop before nets) ≡ made
  here = first_part made later (drop before nets) fit.made

  there : before + length made ≤ length nets
  there =
      let taken = ap length (sym here) in
      omega (arith, fit.within, taken, length-take (length made) (drop before nets), length-drop before nets)

  grown : (n : ℕ) → first_of system nets (before + n) ≡ first_of system nets before ++ names_of_nets system (take n (drop before nets))
  grown n =
      ap (names_of_nets system) (take-add before n nets)
      ∙ map-append (λ net. (net_at system net).name) (take before nets) (take n (drop before nets))

  -- it can be written
  pub fits_first : EntryFits system nets before entry
  fits_first = record {
    within = there;
    named = grown (length made) ∙ ap (λ ns. first_of system nets before ++ names_of_nets system ns) here
        ∙ with_nets system (first_of system nets before) entry;
    fits = fit.fit.0;
  }

  fired_here : (e : Entry) → e ≡ entry → take (length (fired_in system e)) (drop before nets) ≡ fired_in system e
  fired_here (Fire worker b outs) is =
      subst (λ e. take (length (made_in system e)) (drop before nets) ≡ made_in system e) (sym is) here
  fired_here (End reason) is = refl

  -- the names past it
  pub names_next : first_of system nets (before + length (fired_in system entry)) ≡ names_past system (first_of system nets before) entry
  names_next =
      grown (length (fired_in system entry))
      ∙ ap (λ ns. first_of system nets before ++ names_of_nets system ns) (fired_here entry refl)
      ∙ past_nets system (first_of system nets before) entry

-- an entry makes no more than its binding would
pub fewer : (system : System) (entry : Entry) → length (fired_in system entry) ≤ length (made_in system entry)
fewer system (Fire worker b outs) = omega arith
fewer system (End reason) = omega arith

ends_later : (entry : Entry) (entries : List Entry) → EndsLast (entry ∷ entries) → EndsLast entries
ends_later entry [] ends = tt
ends_later entry (next ∷ entries) ends = ends.1

-- what comes next after the first entry
made_later : (system : System) (nets : List ℕ) (before : ℕ) (entry : Entry) (entries : List Entry) →
    EntriesFit system nets before (entry ∷ entries) →
    take (length (flat_map (made_in system) entries)) (drop (before + length (fired_in system entry)) nets)
    ≡ flat_map (made_in system) entries
made_later system nets before (Fire worker b outs) entries fit =
    ap (take (length (flat_map (made_in system) entries))) (sym (drop-drop (length (nets_made system b)) before nets))
    ∙ second_part (nets_made system b) (flat_map (made_in system) entries) (drop before nets) fit.made
made_later system nets before (End reason) [] fit = refl
made_later system nets before (End reason) (next ∷ entries) fit = absurd fit.ends.0

-- the others fit after it
pub fit_next : (system : System) (nets : List ℕ) (before : ℕ) (entry : Entry) (entries : List Entry) →
    EntriesFit system nets before (entry ∷ entries) →
    EntriesFit system nets (before + length (fired_in system entry)) entries
fit_next system nets before entry entries fit = record {
  within =
      let fits = fits_first system nets before entry entries fit in
      omega (arith, fits.within, fewer system entry);
  made = made_later system nets before entry entries fit;
  fit = subst (λ ns. HaveEntries system ns entries) (sym (names_next system nets before entry entries fit)) fit.fit.1;
  ends = ends_later entry entries fit.ends;
}

-- At the start there is one instance.
module _ (system : System) (told : Told) (nets : List ℕ) (has : HasNets system told.entries nets) where
  pub names_at_start : first_of system nets 1 ≡ first_names
  names_at_start = ap (λ ns. first_of system ns 1) has.all ∙ has.main

  pub fit_at_start : HasText system told → EndsLast told.entries → EntriesFit system nets 1 told.entries
  fit_at_start text ends = record {
    within =
        let one = ap length has.all in
        omega (arith, one);
    made = ap (λ ns. take (length (flat_map (made_in system) told.entries)) (drop 1 ns)) has.all
        ∙ take_all (length (flat_map (made_in system) told.entries)) (flat_map (made_in system) told.entries) (omega arith);
    fit = subst (λ ns. HaveEntries system ns told.entries) (sym names_at_start) text.entries;
    ends = ends;
  }
