-- All parts of what is asked of a place together.
use Rattle.std.proofs.Common.{◌≡◌, Bool, List, [], sym, subst}
use Rattle.std.specs.Prelude.{◌⊎◌, ◌↔◌, IsTrue}
use Rattle.rn_value.specs.declared.value.Value.{Value}
use Rattle.rn_model.specs.Lists.{IsWithin}
use Rattle.rn_arcs.specs.link.Meeting.{Meets, IsWhole, AreAbsent, AreLeft}
use Rattle.rn_arcs.specs.declared.asked.Asked.{Asked}

module _ (held ts taken tested inhibited : List Value) (cleared : List (List Value)) (g : Asked)
    (all : held ≡ ts) (taken_is : taken ≡ g.taken) where
  pub left_of : tested ≡ g.tested → Meets ts g → AreLeft held taken tested
  left_of tested_is meets =
      subst (λ hs. AreLeft hs taken tested) (sym all)
      (subst (λ us. AreLeft ts us tested) (sym taken_is)
      (subst (λ us. AreLeft ts g.taken us) (sym tested_is) meets.left))

  pub meets_exactly : (r : Bool) → tested ≡ g.tested → inhibited ≡ g.inhibited →
      cleared ≡ g.cleared → (g.tested ≡ []) ⊎ (g.cleared ≡ []) →
      IsWhole held cleared taken → IsWithin g.taken held → AreAbsent held inhibited →
      IsTrue r ↔ AreLeft held taken tested → IsTrue r ↔ Meets ts g
  meets_exactly r tested_is inhibited_is cleared_is apart whole enough absent both = (
    λ yes. record {
      whole = subst (λ us. IsWhole ts g.cleared us) taken_is
          (subst (λ cs. IsWhole ts cs taken) cleared_is
          (subst (λ hs. IsWhole hs cleared taken) all whole));
      enough = subst (λ hs. IsWithin g.taken hs) all enough;
      absent = subst (λ us. AreAbsent ts us) inhibited_is
          (subst (λ hs. AreAbsent hs inhibited) all absent);
      left = subst (λ us. AreLeft ts g.taken us) tested_is
          (subst (λ us. AreLeft ts us tested) taken_is
          (subst (λ hs. AreLeft hs taken tested) all (both.0 yes)));
      nothing = apart;
    },
    λ meets. both.1 (left_of tested_is meets),
  )
