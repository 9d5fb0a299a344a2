-- By the slots that have the unknown's key.
use Rattle.std.proofs.Common.{◌≡◌, ◌-◌, arith, subst, sym, ap, ◌∙◌, length}
use Rattle.std.specs.Prelude.{Some, slice_get}
use Rattle.rn_chains.specs.link.Chains.{IsUpToLast}
use Rattle.rn_growing.specs.link.Indexed.{is_slot}
use Rattle.rn_growing.specs.link.Keys.{slot_key, unknown_key}
use Rattle.rn_growing.specs.link.Layouts.{id_of}
use Rattle.rn_growing.proofs.Growth.{stands_at}
use Rattle.rn_growing.proofs.KeySteps.{sought_first, sought_next, slot_alike, slot_found, no_id}
use Rattle.rn_growing.proofs.slots.Slots.id.Goals as goal

pub loop-left-init : goal.loop-left-init
loop-left-init c =
    let path = c.args.path.now in let u = c.args.unknown.now in
    sought_first slot_key c.self.inside.slots.items c.self.inside.keys c.self.invariant.keyed
    (unknown_key path u) (is_slot path u) (slot_alike path u) c.last-left.result
    (subst (λ k. IsUpToLast (λ j. j ≡ k) c.self.inside.keys (length c.self.inside.keys)
    c.last-left.result) c.unknown_key.ensures c.last-left.ensures)

pub returns-then-is_slot : goal.returns-then-is_slot
returns-then-is_slot c =
    let at : slice_get c.self.inside.slots.items (c.loop-left.left - 1)
    ≡ Some c.index-slot.result.now =
    stands_at c.self.inside.slots.items (c.loop-left.left - 1) c.index-slot.result.now
    (let h = c.loop-left.invariant.within in omega (arith, h)) c.index-slot.ensures in
    sym (ap (λ ss. id_of ss c.args.path.now c.args.unknown.now) (sym c.self.view_is)
    ∙ slot_found c.self.inside.slots.items c.self.inside.keys c.args.path.now c.args.unknown.now
    (c.loop-left.left - 1) c.index-slot.result.now c.self.invariant at
    (sym c.is_slot.ensures ∙ c.if-is_slot.true))

pub loop-left-preserved : goal.loop-left-preserved
loop-left-preserved c =
    let path = c.args.path.now in let u = c.args.unknown.now in
    let at : slice_get c.self.inside.slots.items (c.loop-left.left - 1)
    ≡ Some c.index-slot.result.now =
    stands_at c.self.inside.slots.items (c.loop-left.left - 1) c.index-slot.result.now
    (let h = c.loop-left.invariant.within in omega (arith, h)) c.index-slot.ensures in
    sought_next slot_key c.self.inside.slots.items c.self.inside.keys c.self.invariant.keyed
    (unknown_key path u) (is_slot path u) (slot_alike path u) c.loop-left.left
    (c.loop-left.left - 1) c.before-left.result c.index-slot.result.now c.loop-left.invariant
    (omega arith) at (sym c.is_slot.ensures ∙ c.if-is_slot.false) c.before-left.ensures

pub returns : goal.returns
returns c =
    let end : c.loop-left.left ≡ 0 = omega arith in
    let path = c.args.path.now in let u = c.args.unknown.now in
    sym (ap (λ ss. id_of ss path u) (sym c.self.view_is)
    ∙ no_id path u c.self.inside.slots.items
    (λ i slot at. c.loop-left.invariant.none i slot (omega (arith, end)) at))
