-- Argument by argument.
use Rattle.std.proofs.Common.{◌≡◌, ◌∙◌, length, sym, ap, refl, subst}
use Rattle.std.specs.Prelude.{Some, slice_get}
use Rattle.std.proofs.lemmas.Option.{slice_get-get_or}
use Rattle.rn_looking.specs.NodeKinds.{IsKindedAt}
use Rattle.rn_looking.proofs.KindedAnswers.{arg_more, length_more}
use Rattle.rn_looking.proofs.answers.known_args.Goals as goal

pub loop-arg-init : goal.loop-arg-init
loop-arg-init c = record {
  many = ap length c.in_ok-values.ensures.items;
  so = λ k e v at value. absurd (let none = ap (λ os. slice_get os k) c.in_ok-values.ensures.items in
      let no : ⊥ = cc in no);
}

pub known_value-requires : goal.known_value-requires
known_value-requires c = record {
  kinds = subst (IsKindedAt c.args.growing.now c.args.head.now) (sym c.arg-item.is)
      (c.requires c.loop-arg.arg-index c.arg-item.result c.loop-arg-test.true);
}

pub loop-arg-preserved : goal.loop-arg-preserved
loop-arg-preserved c =
    let put = c.in_ok-push.ensures.items in
    let here : slice_get c.args.args.now c.loop-arg.arg-index ≡ Some c.arg-item.result =
    slice_get-get_or c.args.args.now c.loop-arg.arg-index c.arg-item.result c.loop-arg-test.true
    ∙ ap Some (sym c.arg-item.is) in
    record {
      many = ap length put ∙ length_more c.loop-arg.values.items c.in_ok-known_value.field-0
          c.loop-arg.arg-index c.loop-arg.invariant.many;
      so = arg_more c.args.growing.now c.args.head.now c.args.args.now c.loop-arg.values.items
          c.push.new.self.items c.loop-arg.arg-index c.arg-item.result
          c.in_ok-known_value.field-0 c.loop-arg.invariant.many here put
          c.in_ok-known_value.ensures.kind c.loop-arg.invariant.so;
    }
