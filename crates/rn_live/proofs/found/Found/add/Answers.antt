use Rattle.std.proofs.Common.{◌≡◌, ◌<◌, nat_eq, true, false, length, sym, subst, arith, rules, is_none, get_or}
use Rattle.std.proofs.Math.ListN.{set}
use Rattle.std.specs.Prelude.{vec_capacity}
use Rattle.rn_model.specs.Markings.{net_of}
use Rattle.rn_live.specs.link.Marks.{Finds}
use Rattle.rn_live.proofs.FindLemmas.{one, one_fits, is_kept}
use Rattle.rn_live.proofs.found.Found.add.Goals as goal

pub push_reserved-requires : goal.push_reserved-requires
push_reserved-requires c =
    let k = c.args.number in
    let marks = c.args.self.now.marks.items in
    let waiting = c.args.self.now.waiting in
    let within : k < length marks = omega (arith, c.if-at-len.false, c.len.ensures, c.args.self.now.marks.ok.0) in
    let unmarked : get_or marks k false ≡ false = search rules in
    let fits : length waiting.items < vec_capacity waiting = one_fits marks k (length waiting.items) (vec_capacity waiting) within unmarked c.requires in
    omega (arith, fits, waiting.ok.0)

pub returns : goal.returns
returns c =
    let m = c.args.table.now.marking in
    let k = c.args.number in
    let marks = c.args.self.now.marks.items in
    let waiting = c.args.self.now.waiting in
    let none : is_none (net_of m k) ≡ false = search rules in
    subst (λ longer. Finds m (nat_eq k) marks (set marks k true) waiting.items longer (vec_capacity waiting) (vec_capacity c.push_reserved.new.self)) (sym c.push_reserved.ensures.items)
    (one m k marks waiting.items (vec_capacity waiting) (vec_capacity c.push_reserved.new.self) (omega (arith, c.if-at-len.false, c.len.ensures)) (search rules) (is_kept m k none) c.push_reserved.ensures.capacity)
