-- What stays of shares, of holders and of tokens.
use Rattle.std.proofs.Common.{◌≡◌, ◌≢◌, ℕ, zero, suc, Bool, true, false, List, [], ◌∷◌, refl, sym, ap, ◌∙◌, subst}
use Rattle.std.proofs.Common.{inl, inr, arith, map, ⊎_elim}
use Rattle.std.specs.Option.{option_to_list}
use Rattle.std.specs.Prelude.{IfSome, ◌⊎◌, ◌↔◌, Option, Some, None, Contains, nat_eq, slice_get, slice_set}
use Rattle.std.specs.Prelude.{unwrap_or, option_map, if◌then◌else◌}
use Rattle.std.proofs.lemmas.Bool.{eqb-true, eq-eqb}
use Rattle.rn_items.proofs.Numbers.{in_or_not}
use Rattle.rn_value.specs.declared.value.Value.{Value}
use Rattle.rn_model.specs.declared.binding.Binding.{Binding}
use Rattle.rn_model.specs.declared.system.System.{System}
use Rattle.rn_model.specs.Enabling.{Enabled}
use Rattle.rn_model.specs.Liveness.{mentions}
use Rattle.rn_model.specs.Markings.{Marking, Instance, instance_at, net_of, tokens_at}
use Rattle.rn_model.proofs.AfterFiring.{found_number}
use Rattle.rn_model.proofs.AskedValues.{contained_mapped}
use Rattle.rn_model.proofs.EnablingLemmas.{not_in_nil}
use Rattle.rn_model.proofs.MarkingsOfRuns.{found_is_there}
use Rattle.rn_reach.specs.Reach.{DifferAtMostIn, RefersTo, StartsIn}
use Rattle.rn_search.specs.Problems.{HasFitTokens}
use Rattle.rn_holders.specs.Holders.{HasItsHolders, HaveTheseHolders, KeepHolders}
use Rattle.rn_finder.specs.First.{IsFirstOf}
use Rattle.rn_finder.specs.Starting.{HasStartIn}
use Rattle.rn_table.specs.Alone.{alone, with_tokens}
use Rattle.rn_parted.specs.declared.share.Share.{Share}
use Rattle.rn_parted.specs.Laws.{DifferAtMostAt, HaveHoldersBut}
use Rattle.rn_parted.specs.Parted.{AreShares, HaveOtherHolders, IsFirstWith, IsPartedAt}
use Rattle.rn_parted.specs.Parting.{parts}
use Rattle.rn_parted.specs.link.Walks.{Avoids, OthersAvoid, SharesStay}
use Rattle.rn_parted.proofs.AloneLemmas.{held_by as held_in, instance_in, put, same_elsewhere, same_net, same_places}
use Rattle.rn_parted.proofs.StayLemmas.{parts_stay}

-- it starts in it
pub starts_in_it : (b : Binding) (n : ℕ) → HasStartIn n b → StartsIn b n
starts_in_it b n (net, t, (node, at, is)) = (node, at, ap (λ h. h.inst) is)

pub same_or_not : (a b : ℕ) → (a ≡ b) ⊎ (a ≢ b)
same_or_not a b = by_test (nat_eq a b) refl
  where
    by_test : (same : Bool) → nat_eq a b ≡ same → (a ≡ b) ⊎ (a ≢ b)
    by_test true e = inl (eqb-true a b e)
    by_test false e = inr (λ is.
        let same : nat_eq a b ≡ true = eq-eqb a b is in let no : ⊥ = cc in no)

the_one : (w v : Value) → Contains (w ∷ []) v → w ≡ v
the_one w v (zero, h, at) = at
the_one w v (suc k, h, at) = absurd (let no : ⊥ = omega (arith, h) in no)

within_set : (places : List (List Value)) (place : ℕ) (vs : List Value) (v : Value) →
    Contains (unwrap_or (slice_get (slice_set places place vs) place) []) v → Contains vs v
within_set [] place vs v has = absurd (not_in_nil v has)
within_set (ws ∷ places) zero vs v has = has
within_set (ws ∷ places) (suc place) vs v has = within_set places place vs v has

module _ (m : Marking) (n place : ℕ) (vs : List Value) where
  within_put : (v : Value) (o : Option Instance) → instance_at m n ≡ o →
      Contains (held_in (option_map (put n place vs) o) place) v → Contains vs v
  within_put v None e has = absurd (not_in_nil v has)
  within_put v (Some i) e has =
      within_set i.places place vs v
      (subst (λ (same : Bool). Contains (held_in (Some (if same then with_tokens place vs i else i)) place) v)
      (eq-eqb i.number n (found_number m.instances n i e)) has)

  -- the place holds none but these
  pub within_own : (v : Value) → Contains (tokens_at (alone n place vs m) n place) v → Contains vs v
  within_own v has =
      within_put v (instance_at m n) refl
      (subst (λ o. Contains (held_in o place) v) (instance_in n place vs m n) has)

  -- a token of the instance is one of these, or one of another place
  pub own_or_other : (q : ℕ) (v : Value) → Contains (tokens_at (alone n place vs m) n q) v →
      (Contains vs v × (q ≡ place)) ⊎ ((q ≢ place) × Contains (tokens_at m n q) v)
  own_or_other q v has = ⊎_elim
      (λ (same : q ≡ place). inl (
        within_own v
            (subst (λ p. Contains (tokens_at (alone n place vs m) n p) v) same has),
        same,
      ))
      (λ (other : q ≢ place). inr (
        other,
        subst (λ ws. Contains ws v) (same_places n place vs m n q other) has,
      ))
      (same_or_not q place)

  elsewhere : (k q : ℕ) (v : Value) → k ≢ n → Contains (tokens_at (alone n place vs m) k q) v →
      Contains (tokens_at m k q) v
  elsewhere k q v other has =
      subst (λ o. Contains (held_in o q) v) (same_elsewhere n place vs m k other) has

  here_within : (q : ℕ) (v : Value) → ((w : Value) → Contains vs w → Contains (tokens_at m n place) w) →
      Contains (tokens_at (alone n place vs m) n q) v → Contains (tokens_at m n q) v
  here_within q v own has = ⊎_elim
      (λ (one : Contains vs v × (q ≡ place)).
      subst (λ p. Contains (tokens_at m n p) v) (sym one.1) (own v one.0))
      (λ (other : (q ≢ place) × Contains (tokens_at m n q) v). other.1)
      (own_or_other q v has)

  -- its tokens fit
  pub fit_alone : (system : System) → HasFitTokens system m →
      ((w : Value) → Contains vs w → Contains (tokens_at m n place) w) →
      HasFitTokens system (alone n place vs m)
  fit_alone system fit own k net q v of_net has =
      let there : net_of m k ≡ Some net = sym (same_net n place vs m k) ∙ of_net in
      fit k net q v there (⊎_elim
      (λ (same : k ≡ n). subst (λ j. Contains (tokens_at m j q) v) (sym same)
      (here_within q v own (subst (λ j. Contains (tokens_at (alone n place vs m) j q) v) same has)))
      (λ (other : k ≢ n). elsewhere k q v other has)
      (same_or_not k n))

  -- it refers to none of these but itself
  pub refers_to_none : (found : List ℕ) → OthersAvoid m n place found →
      ((w : Value) → Contains vs w → Avoids found n w) →
      (k : ℕ) → RefersTo (alone n place vs m) n k → k ≢ n → Contains found k → ⊥
  refers_to_none found others own k refers other has = ⊎_elim
      (λ (one : Contains vs refers.token × (refers.place ≡ place)).
      let not = own refers.token one.0 k has other in
      let occurs : mentions refers.token k ≡ true = refers.occurs in
      let no : ⊥ = cc in no)
      (λ (beside : (refers.place ≢ place) × Contains (tokens_at m n refers.place) refers.token).
      let not = others refers.place refers.token beside.0 beside.1 k has other in
      let occurs : mentions refers.token k ≡ true = refers.occurs in
      let no : ⊥ = cc in no)
      (own_or_other refers.place refers.token refers.there)

-- where the same are enabled, the first is the same
first_alike : (system : System) (m other : Marking) (depth : ℕ) (Of : Binding → Type 0)
    (x : Option Binding) →
    ((b : Binding) → Of b → Enabled system m b depth ↔ Enabled system other b depth) →
    IsFirstOf system other depth Of x → IsFirstOf system m depth Of x
first_alike system m other depth Of None alike first =
    λ b enabled of. first b ((alike b of).0 enabled) of
first_alike system m other depth Of (Some b) alike (enabled, of, least) = (
  (alike b of).1 enabled,
  of,
  λ c there has. least c ((alike c has).0 there) has,
)

module _ (system : System) (m other : Marking) (changed found : List ℕ) (depth n place : ℕ)
    (differ : DifferAtMostAt changed n place m other) (holders : HaveHoldersBut m n changed found)
    (others : OthersAvoid m n place found) where
  -- what was found with these tokens alone stays so
  pub first_stays : (vs : List Value) (x : Option Binding) →
      ((w : Value) → Contains vs w → Avoids found n w) →
      IsFirstWith system other depth n place vs x → IsFirstWith system m depth n place vs x
  first_stays vs x own first =
      first_alike system (alone n place vs m) (alone n place vs other) depth (HasStartIn n) x
      (λ b starts. parts_stay system m other changed found b depth n place vs differ holders
      (refers_to_none m n place vs found others own) (starts_in_it b n starts))
      first

  pub shares_stay : SharesStay system other m depth n place found
  shares_stay s is avoids =
      first_stays (s.token ∷ []) s.first
      (λ w has. subst (Avoids found n) (the_one s.token w has) avoids) is

  pub rest_stays : (x : Option Binding) → IsFirstWith system other depth n place [] x →
      IsFirstWith system m depth n place [] x
  rest_stays x first = first_stays [] x (λ w has. absurd (not_in_nil w has)) first

-- at the same marking shares stay
pub shares_same : (system : System) (m : Marking) (depth n place : ℕ) (found : List ℕ) →
    SharesStay system m m depth n place found
shares_same system m depth n place found s is avoids = is

-- one that refers to another does so in each marking where it is the same
refers_alike : (m other : Marking) (holder k : ℕ) →
    instance_at m holder ≡ instance_at other holder → RefersTo m holder k → RefersTo other holder k
refers_alike m other holder k same refers = record {
  place = refers.place;
  token = refers.token;
  there = subst (λ o. Contains (held_in o refers.place) refers.token) same refers.there;
  occurs = refers.occurs;
}

module _ (m other : Marking) (changed those : List ℕ) (n : ℕ)
    (differ : DifferAtMostIn changed other m)
    (but : (k : ℕ) → k ≢ n → Contains changed k → Contains those k) where
  -- the holders of another marking
  pub holders_follow : (old new : List (List ℕ)) → HaveOtherHolders other n old →
      KeepHolders old new → HaveTheseHolders m those new → HaveOtherHolders m n new
  holders_follow old new have keep these holder k refers apart = ⊎_elim
      (λ (there : Contains changed holder). these holder k (but holder apart there) refers)
      (λ (not : ¬ Contains changed holder).
      keep holder k (have holder k (refers_alike m other holder k (differ holder not) refers) apart))
      (in_or_not changed holder)

  pub differ_at : (place : ℕ) →
      instance_at (alone n place [] other) n ≡ instance_at (alone n place [] m) n →
      DifferAtMostAt those n place m other
  differ_at place own = record {
    others = λ k apart not. sym (differ k (λ there. not (but k apart there)));
    own = own;
  }

-- what is found has the holders but one
pub found_holders : (m : Marking) (n : ℕ) (those found : List ℕ) (holders : List (List ℕ)) →
    HaveOtherHolders m n holders → HasItsHolders holders those found → HaveHoldersBut m n those found
found_holders m n those found holders have its = record {
  these = λ k has apart. its.these k has;
  back = λ holder k has refers apart. its.back holder k has (have holder k refers apart);
}

-- an instance that is the same but for the tokens of the place
pub own_same : (m other : Marking) (n place : ℕ) (was is : Instance) →
    instance_at other n ≡ Some was → instance_at m n ≡ Some is →
    with_tokens place [] was ≡ with_tokens place [] is →
    instance_at (alone n place [] other) n ≡ instance_at (alone n place [] m) n
own_same m other n place was is before after same =
    instance_in n place [] other n ∙ ap (option_map (put n place [])) before
    ∙ ap Some (own_put was (found_number other.instances n was before))
    ∙ ap Some same ∙ sym (ap Some (own_put is (found_number m.instances n is after)))
    ∙ sym (ap (option_map (put n place [])) after) ∙ sym (instance_in n place [] m n)
  where
    own_put : (i : Instance) → i.number ≡ n → put n place [] i ≡ with_tokens place [] i
    own_put i e = ap (λ (same : Bool). if same then with_tokens place [] i else i) (eq-eqb i.number n e)

-- its net is the same
pub net_same : (m other : Marking) (n place : ℕ) →
    instance_at (alone n place [] other) n ≡ instance_at (alone n place [] m) n →
    net_of m n ≡ net_of other n
net_same m other n place own =
    sym (same_net n place [] m n) ∙ ap (option_map (λ (i : Instance). i.net)) (sym own)
    ∙ same_net n place [] other n

-- what holds a token is one of the instances
numbered : (m : Marking) (holder place : ℕ) (v : Value) → Contains (tokens_at m holder place) v →
    Contains (map (λ (i : Instance). i.number) m.instances) holder
numbered m holder place v has = by_there (instance_at m holder) refl
  where
    by_there : (o : Option Instance) → instance_at m holder ≡ o →
        Contains (map (λ (i : Instance). i.number) m.instances) holder
    by_there None e =
        absurd (not_in_nil v (subst (λ o. Contains (held_in o place) v) e has))
    by_there (Some i) e =
        subst (Contains (map (λ (j : Instance). j.number) m.instances))
        (found_number m.instances holder i e)
        (contained_mapped (λ (j : Instance). j.number) m.instances i
        (found_is_there (λ (j : Instance). nat_eq j.number holder) m.instances i e))

-- with those to which each instance refers but one, the holders are those of all but that one
pub other_holders : (m : Marking) (n : ℕ) (numbers others : List ℕ) (holders : List (List ℕ)) →
    numbers ≡ map (λ i. i.number) m.instances →
    ((k : ℕ) → k ≢ n → Contains numbers k → Contains others k) →
    HaveTheseHolders m others holders → HaveOtherHolders m n holders
other_holders m n numbers others holders are but these holder k refers apart =
    these holder k
    (but holder apart (subst (λ xs. Contains xs holder) (sym are)
    (numbered m holder refers.place refers.token refers.there)))
    refers

-- a token that is told lies there
pub listed_there : (m : Marking) (n place : ℕ) (token : Option Value) →
    IfSome token (Contains (tokens_at m n place)) → (w : Value) →
    Contains (option_to_list token) w → Contains (tokens_at m n place) w
listed_there m n place None there w has = absurd (not_in_nil w has)
listed_there m n place (Some v) there w has =
    subst (Contains (tokens_at m n place)) (the_one v w has) there

-- what is opened is kept
pub opened : (system : System) (m : Marking) (depth n place net : ℕ) (at : Marking)
    (holders : List (List ℕ)) (rest : Option Binding) (shares : List Share) → at ≡ m →
    net_of m n ≡ Some net → parts system net place ≡ true → HaveOtherHolders m n holders →
    IsFirstWith system m depth n place [] rest →
    AreShares system m depth n place (tokens_at m n place) shares →
    IsPartedAt system m depth (record {
      instance = n;
      place = place;
      depth = depth;
      marking = at;
      holders = holders;
      rest = rest;
      shares = shares;
    })
opened system m depth n place net at holders rest shares is of_net parting have first are =
    subst (λ x. IsPartedAt system m depth (record {
      instance = n;
      place = place;
      depth = depth;
      marking = x;
      holders = holders;
      rest = rest;
      shares = shares;
    })) (sym is) (record {
      so = record {
        net = net;
        of_net = of_net;
        parting = parting;
        holders = have;
        rest = first;
        shares = are;
      };
      marking = refl;
      within = refl;
    })
