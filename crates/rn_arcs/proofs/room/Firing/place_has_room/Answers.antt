use Rattle.std.proofs.Common.{◌≡◌, refl, arith}
use Rattle.rn_arcs.proofs.room.Firing.place_has_room.Goals as goal

pub returns-in-None : goal.returns-in-None
returns-in-None c = (
  λ yes most limit. let none = c.in-None.is in absurd (let no : ⊥ = cc in no),
  λ all. refl,
)

pub returns-in-Some : goal.returns-in-Some
returns-in-Some c =
    let held = c.staying.ensures in
    let put = c.filled.ensures in (
      λ yes most limit.
          let same : c.in-Some.most ≡ most = (let is = c.in-Some.is in cc) in
          let low = c.is_within.ensures.0 yes in
          omega (arith, same, low, held, put),
      λ all.
          let low = all c.in-Some.most c.in-Some.is in
          c.is_within.ensures.1 (omega (arith, low, held, put)),
    )
