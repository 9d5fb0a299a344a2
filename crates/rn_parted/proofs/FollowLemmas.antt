-- What is kept of an instance, at another table.
use Rattle.std.proofs.Common.{◌≡◌, ◌≢◌, ℕ, List, [], refl, sym, ◌∙◌, subst}
use Rattle.std.specs.Prelude.{Contains, Some, slice_get, unwrap_or, option_and_then}
use Rattle.rn_value.specs.declared.value.Value.{Value}
use Rattle.rn_model.specs.declared.system.System.{System}
use Rattle.rn_model.specs.Markings.{Marking, Instance, instance_at, tokens_at}
use Rattle.rn_reach.specs.Reach.{DifferAtMostIn}
use Rattle.rn_holders.specs.Holders.{HasItsHolders, HaveTheseHolders, KeepHolders}
use Rattle.rn_table.specs.Alone.{alone, with_tokens}
use Rattle.rn_parted.specs.declared.share.Share.{Share}
use Rattle.rn_parted.specs.Laws.{DifferAtMostAt, HaveHoldersBut}
use Rattle.rn_parted.specs.Parted.{AreShares, HaveOtherHolders, IsParted, IsPartedAt, IsShare, Parted}
use Rattle.rn_parted.specs.link.Walks.{Avoids, OthersAvoid, SharesStay}
use Rattle.rn_parted.proofs.ShareLemmas.{differ_at, found_holders, holders_follow, net_same, own_same}
use Rattle.rn_parted.proofs.ShareLemmas.{rest_stays, shares_stay}

module _ (system : System) (old : Parted) (m : Marking) (changed others found : List ℕ)
    (was is : Instance) (holders : List (List ℕ)) (kept : IsParted system old)
    (differ : DifferAtMostIn changed old.marking m)
    (before : instance_at old.marking old.instance ≡ Some was)
    (after : instance_at m old.instance ≡ Some is)
    (same : with_tokens old.place [] was ≡ with_tokens old.place [] is)
    (but : (k : ℕ) → k ≢ old.instance → Contains changed k → Contains others k)
    (keep : KeepHolders old.holders holders) (these : HaveTheseHolders m others holders)
    (its : HasItsHolders holders others found)
    (avoid : (p : ℕ) (v : Value) → p ≢ old.place →
    Contains (unwrap_or (slice_get is.places p) []) v → Avoids found old.instance v) where
  own : instance_at (alone old.instance old.place [] old.marking) old.instance
      ≡ instance_at (alone old.instance old.place [] m) old.instance
  own = own_same m old.marking old.instance old.place was is before after same

  at : DifferAtMostAt others old.instance old.place m old.marking
  at = differ_at m old.marking changed others old.instance differ but old.place own

  have : HaveOtherHolders m old.instance holders
  have =
      holders_follow m old.marking changed others old.instance differ but old.holders holders
      kept.holders keep these

  back : HaveHoldersBut m old.instance others found
  back = found_holders m old.instance others found holders have its

  beside : OthersAvoid m old.instance old.place found
  beside p v apart has =
      avoid p v apart
      (subst (λ o. Contains (unwrap_or (option_and_then (λ i. slice_get i.places p) o) []) v)
      after has)

  pub stays : SharesStay system old.marking m old.depth old.instance old.place found
  stays = shares_stay system m old.marking others found old.depth old.instance old.place at back beside

  pub followed : (shares : List Share) →
      AreShares system m old.depth old.instance old.place (tokens_at m old.instance old.place) shares →
      IsParted system (record {
        instance = old.instance;
        place = old.place;
        depth = old.depth;
        marking = m;
        holders = holders;
        rest = old.rest;
        shares = shares;
      })
  followed shares are = record {
    net = kept.net;
    of_net = net_same m old.marking old.instance old.place own ∙ kept.of_net;
    parting = kept.parting;
    holders = have;
    rest = rest_stays system m old.marking others found old.depth old.instance old.place at back
        beside old.rest kept.rest;
    shares = are;
  }

  abbrev Next : Marking → List Share → Parted
  Next x shares = record {
    instance = old.instance;
    place = old.place;
    depth = old.depth;
    marking = x;
    holders = holders;
    rest = old.rest;
    shares = shares;
  }

  abbrev Settles : ℕ → List Value → List Share → Type 0
  Settles deep bag shares =
      SharesStay system old.marking m deep old.instance old.place found →
      ((s : Share) → Contains old.shares s →
      IsShare system old.marking deep old.instance old.place s) →
      AreShares system m deep old.instance old.place bag shares

  -- with the shares to which a walk over the tokens comes
  pub follows : (x : Marking) (deep : ℕ) (bag : List Value) (shares : List Share) → x ≡ m →
      old.depth ≡ deep → bag ≡ tokens_at m old.instance old.place → Settles deep bag shares →
      IsPartedAt system m deep (Next x shares)
  follows x deep bag shares is depth_is bag_is settles =
      subst (λ d. Settles d bag shares → IsPartedAt system m d (Next x shares)) depth_is
      (λ settled. record {
        so = subst (λ y. IsParted system (Next y shares)) (sym is)
            (followed shares (subst
            (λ ts. AreShares system m old.depth old.instance old.place ts shares) bag_is
            (settled stays (λ s has. (kept.shares.each s has).0))));
        marking = is;
        within = refl;
      }) settles
