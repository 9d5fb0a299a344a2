use Rattle.std.proofs.Common.{◌≡◌, ◌+◌, ◌++◌, ◌∷◌, [], take, get_or, refl, sym, ap, ◌∙◌}
use Rattle.std.specs.Prelude.{filter, not, nat_eq}
use Rattle.std.proofs.lemmas.List.{take_more}
use Rattle.rn_model.specs.Markings.{Instance}
use Rattle.rn_table.specs.Staying.{stays}
use Rattle.rn_table.proofs.TableLemmas.{filter_more, filter_start}
use Rattle.rn_table.proofs.table.Table.remove_all.Goals as goal

pub loop-number-init : goal.loop-number-init
loop-number-init c = record {
  next = refl;
  instances = sym (filter_start (λ (i : Instance). i.number) c.args.self.now.marking.instances);
  starting = sym (filter_start (λ n. n) c.args.self.now.starting);
  of_system = λ system of. of;
}

pub loop-number-preserved : goal.loop-number-preserved
loop-number-preserved c =
    let xs = c.args.numbers.now in
    let k = c.loop-number.number-index in
    let more : take (k + 1) xs ≡ take k xs ++ get_or xs k 0 ∷ [] = take_more xs k 0 c.loop-number-test.true in
    record {
      next = c.remove.ensures.next ∙ c.loop-number.invariant.next;
      instances = c.remove.ensures.instances ∙ ap (filter (λ (i : Instance). not (nat_eq i.number (get_or xs k 0)))) c.loop-number.invariant.instances
          ∙ filter_more (λ (i : Instance). i.number) (get_or xs k 0) (take k xs) c.args.self.now.marking.instances ∙ ap (λ ns. filter (λ (i : Instance). stays ns i.number) c.args.self.now.marking.instances) (sym more);
      starting = c.remove.ensures.starting ∙ ap (filter (λ n. not (nat_eq n (get_or xs k 0)))) c.loop-number.invariant.starting
          ∙ filter_more (λ n. n) (get_or xs k 0) (take k xs) c.args.self.now.starting ∙ ap (λ ns. filter (stays ns) c.args.self.now.starting) (sym more);
      of_system = λ system of. c.remove.ensures.of_system system (c.loop-number.invariant.of_system system of);
    }
