use Rattle.std.proofs.Common.{◌≡◌, ◌<◌, ◌+◌, length, ◌-◌, ap, refl, ◌∙◌, slice_index_or, slice_set, vec_len, arith}
use Rattle.std.specs.Prelude.{Some, slice_get}
use Rattle.std.proofs.lemmas.Option.{slice_get_read}
use Rattle.rn_model.specs.declared.repeats.Repeat.{Repeat}
use Rattle.rn_model.proofs.RepeatedValues.{last_is_set}
use Rattle.rn_model.proofs.repeats.repeat_last.Goals as goal

pub returns-in-Some : goal.returns-in-Some
returns-in-Some c =
    let parts = c.args.parts.now in
    let r : Repeat = c.in-Some.last.now in
    let s : Repeat = record { value = r.value; count = r.count + c.args.count } in
    let many : vec_len parts ≡ length parts.items = search in
    let some : 0 < vec_len parts = c.in-Some.ensures.variant.0 refl in
    let below : length parts.items - 1 < length parts.items = omega (arith, some, many) in
    let last : slice_get parts.items (length parts.items - 1) ≡ Some r =
    slice_get_read parts.items (length parts.items) (length parts.items - 1) r refl below
    (c.in-Some.ensures.value ∙ ap (λ n. slice_index_or parts.items (n - 1) r) many) in
    ap (λ n. slice_set parts.items (n - 1) s) many ∙ last_is_set parts.items r c.args.count last
