-- The start of a run, where the instance of the net `main` is the only one.
use Rattle.std.proofs.Common.{◌≡◌, ℕ, ◌+◌, ◌<◌, Bool, true, false, cond, List, [], ◌∷◌, length, get_or, map, refl, sym, ap, ◌∙◌, subst, arith}
use Rattle.std.specs.Prelude.{Option, Some, None, Contains, bytes_eq, codes, is_some, nat_eq, option_map, position, unwrap_or}
use Rattle.std.specs.Cmp.Lexicographic.{pointwise}
use Rattle.std.proofs.lemmas.Bool.{eqb-true, false≢true}
use Rattle.std.proofs.lemmas.List.Quantifiers.{position-Some}
use Rattle.std.proofs.lemmas.Option.{get_or_from_slice_get, same_Some, unwrap_or-slice_get}
use Rattle.rn_items.proofs.Numbers.{numbers_themselves, same_numbers}
use Rattle.rn_items.proofs.Lists.{element_at}
use Rattle.rn_model.specs.declared.system.System.{System}
use Rattle.rn_model.specs.declared.system.Net.{Net}
use Rattle.rn_model.specs.Good.{Good}
use Rattle.rn_model.specs.Lists.{ordered_values}
use Rattle.rn_model.specs.Markings.{Instance, initial_marking}
use Rattle.rn_model.specs.Systems.{empty_net, main_net, net_at}
use Rattle.rn_model.proofs.IndicesInLists.{has_position}
use Rattle.rn_model.proofs.InitialTokens.{initial_tokens_are_sound}
use Rattle.rn_model.proofs.MarkingsOfRuns.{initial_is_marking, place_within}
use Rattle.rn_lookup.specs.Found.{net_named, net_of_made, number_from}
use Rattle.rn_record.specs.RecordText.{first_names}
use Rattle.rn_record_reader.specs.Runs.{first_made}
use Rattle.rn_record_reader.proofs.SpelledNodes.{has_name, names_for}
use Rattle.rn_record_reader.proofs.SpelledRuns.{main_there}
use Rattle.rn_record_reader.proofs.WrittenFirings.{IsAt}
use Rattle.rn_record_reader.proofs.WrittenNodes.{net_found}
use Rattle.rn_record_reader.proofs.WrittenValues.{IsNet, net_there}

module _ (system : System) (good : Good system) where
  abbrev is_main : Net → Bool
  is_main net = pointwise nat_eq net.name (codes "main")

  abbrev first : ℕ
  first = unwrap_or (net_named system (codes "main")) 0

  low_number : (k : ℕ) (nets : List Net) (j : ℕ) → number_from (λ net. net.name) k nets (codes "main") ≡ Some j → j < k + length nets
  low_number k [] j e = absurd (let no : ⊥ = cc in no)
  low_number k (net ∷ nets) j e = by (bytes_eq net.name (codes "main")) e (low_number (k + 1) nets j)
    where
      by : (same : Bool) → cond same (Some k) (number_from (λ net. net.name) (k + 1) nets (codes "main")) ≡ Some j →
          (number_from (λ net. net.name) (k + 1) nets (codes "main") ≡ Some j → j < (k + 1) + length nets) → j < k + length (net ∷ nets)
      by true here more = let same : k ≡ j = same_Some k j here in omega (arith, same)
      by false later more = let low = more later in omega (arith, low)

  first_there : IsNet system first
  first_there = by (net_named system (codes "main")) refl (main_there system good)
    where
      by : (o : Option ℕ) → net_named system (codes "main") ≡ o → is_some o ≡ true → unwrap_or o 0 < length system.nets
      by None e some = absurd (false≢true some)
      by (Some j) e some = let low = low_number 0 system.nets j e in omega (arith, low)

  first_name : (net_at system first).name ≡ codes "main"
  first_name = has_name (λ net. net.name) (codes "main") system.nets empty_net (main_there system good)

  main_there_too : IsNet system (main_net system)
  main_there_too = place_within is_main system.nets good.main

  main_name : (net_at system (main_net system)).name ≡ codes "main"
  main_name = by (position is_main system.nets) refl
    where
      has : is_some (position is_main system.nets) ≡ true
      has =
          let found = element_at system.nets first first_there in
          let there : Contains system.nets (net_at system first) =
          (first, first_there, get_or_from_slice_get system.nets first (net_at system first) (net_at system first) (net_there system first first_there)) in
          has_position is_main system.nets (net_at system first) there
          (ap (λ name. pointwise nat_eq name (codes "main")) first_name ∙ numbers_themselves (codes "main"))

      by : (o : Option ℕ) → position is_main system.nets ≡ o → (net_at system (unwrap_or o 0)).name ≡ codes "main"
      by None e = absurd (false≢true (ap is_some (sym e) ∙ has))
      by (Some k) e =
          let at = position-Some is_main system.nets k empty_net e in
          ap (λ (net : Net). net.name) (unwrap_or-slice_get system.nets k empty_net)
          ∙ same_numbers (get_or system.nets k empty_net).name (codes "main") at.1

  first_is : first ≡ main_net system
  first_is =
      ap (λ name. unwrap_or (net_named system name) 0) (sym main_name)
      ∙ ap (λ o. unwrap_or o 0) (net_found system good (main_net system) main_there_too)

  pub first_named : names_for system (first_made system) ≡ first_names
  first_named = ap (λ name. name ∷ []) first_name

  pub at_first : IsAt system (initial_marking system) (first_made system)
  at_first = record {
    marking = initial_is_marking system good;
    sound = initial_tokens_are_sound system good;
    count = omega arith;
    nets = λ n net. by n net (nat_eq 1 n) refl;
    real = (first_there, tt);
    few = omega arith;
  }
    where
      by : (n net : ℕ) (one : Bool) → nat_eq 1 n ≡ one →
          option_map (λ (i : Instance). i.net) (cond one (Some (record { number = 1; net = main_net system; places = map (λ p. ordered_values p.initial) (net_at system (main_net system)).places })) None) ≡ Some net →
          net_of_made (first_made system) n ≡ Some net
      by n net true one e =
          subst (λ k. net_of_made (first_made system) k ≡ Some net) (eqb-true 1 n one) (ap (λ k. Some k) first_is ∙ e)
      by n net false one e = absurd (let no : ⊥ = cc in no)
