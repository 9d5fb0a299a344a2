use Rattle.std.proofs.Common.{[], subst, sym}
use Rattle.std.specs.Prelude.{unwrap_or}
use Rattle.std.specs.Option.{option_copied}
use Rattle.rn_model.specs.Lists.{IsWithin}
use Rattle.rn_model.specs.Markings.{tokens}
use Rattle.rn_arcs.specs.link.Meeting.{Meets, AreAbsent}
use Rattle.rn_arcs.proofs.MeetingLemmas.{meets_exactly}
use Rattle.rn_arcs.proofs.TokenLemmas.{part_fails}
use Rattle.rn_arcs.proofs.fitting.place_fits.Goals as goal

pub returns-then-not-has_all_in : goal.returns-then-not-has_all_in
returns-then-not-has_all_in c =
    let held = unwrap_or (option_copied c.bag_at-bag.result) [] in
    let g = c.args.asked.now in
    part_fails c.has_all_in.result (IsWithin g.taken held)
    (Meets (tokens c.args.table.now.marking g.inst g.place) g) c.has_all_in.ensures
    c.if-not-has_all_in.true
    (λ meets. subst (λ hs. IsWithin g.taken hs) (sym c.bag_at-bag.ensures) meets.enough)

pub returns-then-not-are_absent : goal.returns-then-not-are_absent
returns-then-not-are_absent c =
    let held = unwrap_or (option_copied c.bag_at-bag.result) [] in
    let g = c.args.asked.now in
    part_fails c.are_absent.result (AreAbsent held c.as_slice-2.result.now)
    (Meets (tokens c.args.table.now.marking g.inst g.place) g) c.are_absent.ensures
    c.if-not-are_absent.true
    (λ meets. subst (λ us. AreAbsent held us) (sym c.as_slice-2.ensures)
    (subst (λ hs. AreAbsent hs g.inhibited) (sym c.bag_at-bag.ensures) meets.absent))

pub returns : goal.returns
returns c =
    let held = unwrap_or (option_copied c.bag_at-bag.result) [] in
    let g = c.args.asked.now in
    meets_exactly held (tokens c.args.table.now.marking g.inst g.place)
    c.as_slice-taken.result.now c.as_slice-3.result.now c.as_slice-2.result.now
    c.as_slice.result.now g c.bag_at-bag.ensures c.as_slice-taken.ensures c.are_left.result
    c.as_slice-3.ensures c.as_slice-2.ensures c.as_slice.ensures
    (c.is_apart.ensures.0 c.if-not-is_apart.false)
    (c.is_whole.ensures.0 c.if-not-is_whole.false)
    (c.has_all_in.ensures.0 c.if-not-has_all_in.false)
    (c.are_absent.ensures.0 c.if-not-are_absent.false) c.are_left.ensures
