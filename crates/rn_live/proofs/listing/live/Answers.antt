use Rattle.std.proofs.Common.{◌≡◌, ℕ, ◌∙◌, filter, sym, subst}
use Rattle.std.specs.Prelude.{◌↔◌, Contains}
use Rattle.std.specs.List.Sorted.{IsStrictlyIncreasing}
use Rattle.std.proofs.lemmas.List.Kept.{IsStrictlyIncreasing-filter}
use Rattle.rn_model.specs.Liveness.{IsLive}
use Rattle.rn_live.specs.Rooms.{is_marked}
use Rattle.rn_live.proofs.ListingLemmas.{if_ok, live_listed}
use Rattle.rn_live.proofs.listing.live.Goals as goal

pub returns-clause-ascending : goal.returns-clause-ascending
returns-clause-ascending c =
    let kept = c.as_slice.result.now in
    let marks = c.in_ok-room.room.marks in
    let ascends : IsStrictlyIncreasing kept = subst IsStrictlyIncreasing (sym (c.as_slice.ensures.value ∙ c.in_ok-numbers.ensures)) c.in_ok-room.ensures.ascending in
    if_ok (λ those. those.items ≡ filter (is_marked marks) kept) (λ those. IsStrictlyIncreasing those.items) c.those_marked.result
    (λ those is. subst IsStrictlyIncreasing (sym is) (IsStrictlyIncreasing-filter (is_marked marks) kept ascends)) c.those_marked.ensures

pub returns-clause-live : goal.returns-clause-live
returns-clause-live c =
    let system = c.args.system.now in
    let m = c.args.table.now.marking in
    let kept = c.as_slice.result.now in
    let marks = c.in_ok-room.room.marks in
    let listed = live_listed system m marks kept (c.as_slice.ensures.value ∙ c.in_ok-numbers.ensures) c.in_ok-room.ensures.marks in
    if_ok (λ those. those.items ≡ filter (is_marked marks) kept) (λ those. (n : ℕ) → Contains those.items n ↔ IsLive system m n) c.those_marked.result
    (λ those is. subst (λ ns. (n : ℕ) → Contains ns n ↔ IsLive system m n) (sym is) listed) c.those_marked.ensures
