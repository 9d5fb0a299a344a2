use Rattle.std.proofs.Common.{◌≡◌, ◌++◌, ◌-◌, ◌<◌, ◌≤◌, length, take, sym, ap, ◌∙◌, arith}
use Rattle.rn_window.specs.Windows.{top}
use Rattle.rn_window.proofs.Windows.{room_of, counted, filled, kept_before}
use Rattle.rn_window.proofs.filling.put_behind.Goals as goal

pub returns-then-came-room-clause-ok : goal.returns-then-came-room-clause-ok
returns-then-came-room-clause-ok g c =
    let same = c.replace.ensures.value in
    let count : c.len-length.result ≡ length c.replace.result.items =
    c.len-length.ensures ∙ c.args.out.now.ok.0 ∙ sym (ap (λ v. length v.items) same) in
    let room = room_of _ _ _ _ _ c.over-window.ensures c.put.ensures in
    let fits : c.put.new.window.came ≤ c.replace.result.cap - length c.replace.result.items =
    omega (arith, c.if-came-room.true, c.came-came.ensures, c.saturating_sub-room.ensures, c.room.ensures, room, count) in
    let small : c.replace.result.cap < top = omega (arith, c.replace.result.small) in
    c.into_vec.ensures ∙ filled _ _ _ _ _ c.over-window.ensures c.put.ensures small fits
    ∙ ap (λ v. v.items ++ g.T.Text.text c.args.text.now) same

pub returns-clause-err : goal.returns-clause-err
returns-clause-err g c =
    let same = c.replace.ensures.value in
    let count : c.len-length.result ≡ length c.replace.result.items =
    c.len-length.ensures ∙ c.args.out.now.ok.0 ∙ sym (ap (λ v. length v.items) same) in
    c.into_vec-2.ensures ∙ ap (λ s. s.kept) c.begin.ensures
    ∙ ap (λ n. take n c.put.new.window.kept) count
    ∙ kept_before _ _ _ _ _ c.over-window.ensures c.put.ensures
    ∙ ap (λ v. v.items) same

pub returns-clause-came : goal.returns-clause-came
returns-clause-came g c =
    c.came-came.ensures ∙ counted _ _ _ _ _ c.over-window.ensures c.put.ensures

pub returns-clause-full : goal.returns-clause-full
returns-clause-full g c =
    let same = ap (λ v. v.cap) c.replace.ensures.value in
    let room = room_of _ _ _ _ _ c.over-window.ensures c.put.ensures in
    omega (arith, c.if-came-room.false, c.saturating_sub-room.ensures, c.room.ensures, room, same, c.len-length.ensures)
