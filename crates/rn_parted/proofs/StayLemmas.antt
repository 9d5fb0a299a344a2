-- Where an instance refers, with these tokens in its place, to none that may reach a changed one,
-- the same bindings that start in it are enabled before and after.
use Rattle.std.proofs.Common.{◌≡◌, ℕ, Bool, true, false, List, refl, sym, ap, ◌∙◌, subst}
use Rattle.std.specs.Prelude.{◌≢◌, Contains, nat_eq, option_map}
use Rattle.std.proofs.lemmas.Bool.{eqb-true}
use Rattle.rn_value.specs.declared.value.Value.{Value}
use Rattle.rn_model.specs.Markings.{Marking, instance_at}
use Rattle.rn_reach.specs.Reach.{RefersTo, Reach, itself, further, IsSameInReach}
use Rattle.rn_reach.proofs.ReachLemmas.{reach_decides}
use Rattle.rn_table.specs.Alone.{alone}
use Rattle.rn_parted.specs.Laws.{HaveHoldersBut, DifferAtMostAt, PartsStay}
use Rattle.rn_parted.proofs.AloneLemmas.{put, held_by, other_number, same_elsewhere, from_emptied}

module _ (m : Marking) (changed found : List ℕ) (n place : ℕ) (vs : List Value)
    (holders : HaveHoldersBut m n changed found)
    (refers_to_none : (k : ℕ) → RefersTo (alone n place vs m) n k → k ≢ n → Contains found k → ⊥)
  where
    refers_before : (h k : ℕ) → h ≢ n → RefersTo (alone n place vs m) h k → RefersTo m h k
    refers_before h k other refers = record {
      place = refers.place;
      token = refers.token;
      there = subst (λ ws. Contains ws refers.token)
          (ap (λ o. held_by o refers.place) (same_elsewhere n place vs m h other)) refers.there;
      occurs = refers.occurs;
    }

    by_holder : (h k : ℕ) (same : Bool) → nat_eq h n ≡ same → RefersTo (alone n place vs m) h k →
        k ≢ n → (h ≢ n → Contains found h → ⊥) → Contains found k → ⊥
    by_holder h k true e refers other before has =
        refers_to_none k
        (subst (λ x. RefersTo (alone n place vs m) x k) (eqb-true h n e) refers) other has
    by_holder h k false e refers other before has =
        let own = other_number h n e in
        before own (holders.back h k has (refers_before h k own refers) own)

    -- what it reaches besides itself isn't found
    not_found : (k : ℕ) → Reach (alone n place vs m) n k → k ≢ n → Contains found k → ⊥
    not_found k itself other has = absurd (other refl)
    not_found k (further {holder = h} reach refers) other has =
        by_holder h k (nat_eq h n) refl refers other (λ own there. not_found h reach own there) has

    module _ (after : Marking) (differ : DifferAtMostAt changed n place m after) where
      same_by : (k : ℕ) (same : Bool) → nat_eq k n ≡ same → Reach (alone n place vs m) n k →
          instance_at (alone n place vs after) k ≡ instance_at (alone n place vs m) k
      same_by k true e reach =
          let is : k ≡ n = eqb-true k n e in
          let own : instance_at (alone n place vs after) n ≡ instance_at (alone n place vs m) n =
          from_emptied n place after vs ∙ ap (option_map (put n place vs)) differ.own
          ∙ sym (from_emptied n place m vs) in
          subst (λ x. instance_at (alone n place vs after) x ≡ instance_at (alone n place vs m) x)
          (sym is) own
      same_by k false e reach =
          let other = other_number k n e in
          same_elsewhere n place vs after k other
          ∙ differ.others k other
          (λ there. not_found k reach other (holders.these k there other))
          ∙ sym (same_elsewhere n place vs m k other)

      same_in_reach : IsSameInReach (alone n place vs m) (alone n place vs after) n
      same_in_reach k reach = same_by k (nat_eq k n) refl reach

pub parts_stay : PartsStay
parts_stay system m after changed found b depth n place vs differ holders none start =
    reach_decides system (alone n place vs m) (alone n place vs after) b depth n
    (same_in_reach m changed found n place vs holders none after differ) start
