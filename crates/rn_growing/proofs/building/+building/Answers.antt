use Rattle.std.proofs.Common.{◌≡◌, ◌<◌, ◌≤◌, ◌+◌, arith, length, length-append, vec_len, [], ◌∷◌}
use Rattle.std.proofs.Common.{◌++◌, take, rules, subst, sym, ap, ◌∙◌}
use Rattle.std.proofs.lemmas.List.{take_all}
use Rattle.std.specs.Prelude.{Some, option_map}
use Rattle.rn_value.specs.declared.value.Value.TheVariants as Value
use Rattle.rn_model.specs.declared.expr.Expr.TheVariants as E
use Rattle.rn_unify.proofs.EarlierMarks.{grown}
use Rattle.rn_growing.specs.link.Building.{part_at, parts_at, BuildsAll}
use Rattle.rn_growing.specs.Decisions.{site_of}
use Rattle.rn_growing.specs.link.Laid.{Builds, NeverHas}
use Rattle.rn_growing.proofs.BuildingSteps.{builds_as, int_is, text_is, var_is, this_is, neg_is}
use Rattle.rn_growing.proofs.BuildingSteps.{op_is, tuple_is, list_is, cons_is, made_of, none_built}
use Rattle.rn_growing.proofs.BuildingSteps.{all_built, popped_front}
use Rattle.rn_growing.proofs.BuildingLists.{put_answer, no_tail}
use Rattle.rn_growing.proofs.LaidSteps.{grows_through}
use Rattle.rn_growing.proofs.building.+building.Goals as goal

pub build-returns-in_ok-id-in-Int-clause-built : goal.build-returns-in_ok-id-in-Int-clause-built
build-returns-in_ok-id-in-Int-clause-built t c =
    let is : c.args.expr.now ≡ E.Int c.in-Int.n = c.in-Int.is in
    builds_as c.args.laid.now c.atom.new.self (λ a. Some (Value.Int c.in-Int.n))
    (λ a. part_at a c.args.head.now (site_of c.args.site) c.args.way.now.items c.args.expr.now)
    c.in_ok-id-in-Int.id
    (int_is c.args.head.now (site_of c.args.site) c.args.way.now.items c.args.expr.now c.in-Int.n
    is)
    (subst (λ v. Builds c.args.laid.now (λ a. Some v) c.atom.new.self c.in_ok-id-in-Int.id)
    c.int_value-number.ensures c.in_ok-id-in-Int.ensures.built)

pub build-returns-in_ok-id-in-Text-clause-built : goal.build-returns-in_ok-id-in-Text-clause-built
build-returns-in_ok-id-in-Text-clause-built t c =
    builds_as c.args.laid.now c.atom-in-Text.new.self (λ a. Some (Value.Text c.in-Text.text))
    (λ a. part_at a c.args.head.now (site_of c.args.site) c.args.way.now.items c.args.expr.now)
    c.in_ok-id-in-Text.id
    (text_is c.args.head.now (site_of c.args.site) c.args.way.now.items c.args.expr.now
    c.in-Text.text c.in-Text.is)
    (subst (λ s. Builds c.args.laid.now (λ a. Some (Value.Text s)) c.atom-in-Text.new.self
    c.in_ok-id-in-Text.id) c.in_ok-text-in-Text.ensures c.in_ok-id-in-Text.ensures.built)

pub build-returns-in_ok-id-in-Var-clause-built : goal.build-returns-in_ok-id-in-Var-clause-built
build-returns-in_ok-id-in-Var-clause-built t c =
    builds_as c.args.laid.now c.unknown.new.self
    (λ a. Some (a.var c.args.head.now.path c.in-Var.x))
    (λ a. part_at a c.args.head.now (site_of c.args.site) c.args.way.now.items c.args.expr.now)
    c.in_ok-id-in-Var.id
    (var_is c.args.head.now (site_of c.args.site) c.args.way.now.items c.args.expr.now c.in-Var.x
    c.in-Var.is)
    c.in_ok-id-in-Var.ensures.built

pub build-returns-in_ok-id-in-This-clause-built : goal.build-returns-in_ok-id-in-This-clause-built
build-returns-in_ok-id-in-This-clause-built t c =
    builds_as c.args.laid.now c.atom-in-This.new.self (λ a. Some (Value.Inst c.args.head.now.inst))
    (λ a. part_at a c.args.head.now (site_of c.args.site) c.args.way.now.items c.args.expr.now)
    c.in_ok-id-in-This.id
    (this_is c.args.head.now (site_of c.args.site) c.args.way.now.items c.args.expr.now
    c.in-This.is)
    (subst (λ i. Builds c.args.laid.now (λ a. Some (Value.Inst i)) c.atom-in-This.new.self
    c.in_ok-id-in-This.id) c.in_ok-inst-in-This.ensures c.in_ok-id-in-This.ensures.built)

pub build-returns-in_ok-id-in-Some-clause-built : goal.build-returns-in_ok-id-in-Some-clause-built
build-returns-in_ok-id-in-Some-clause-built t c =
    let parts = c.in-Tuple.parts in
    let all : BuildsAll c.args.laid.now
    (λ a. parts_at a c.args.head.now (site_of c.args.site) c.args.way.now.items 0 parts)
    c.build_parts.new.laid c.in-Some.ids =
    subst (λ es. BuildsAll c.args.laid.now
    (λ a. parts_at a c.args.head.now (site_of c.args.site) c.args.way.now.items 0 es)
    c.build_parts.new.laid c.in-Some.ids) c.as_slice.ensures
    (rw c.in-Some.is at c.in_ok-ids-in-Tuple.ensures.built) in
    builds_as c.args.laid.now c.tuple.new.self
    (λ a. option_map (λ vs. Value.Tuple vs)
    (parts_at a c.args.head.now (site_of c.args.site) c.args.way.now.items 0 parts))
    (λ a. part_at a c.args.head.now (site_of c.args.site) c.args.way.now.items c.args.expr.now)
    c.in_ok-id-in-Some.id
    (tuple_is c.args.head.now (site_of c.args.site) c.args.way.now.items c.args.expr.now parts
    c.in-Tuple.is)
    (made_of c.args.laid.now c.build_parts.new.laid c.tuple.new.self
    (λ a. parts_at a c.args.head.now (site_of c.args.site) c.args.way.now.items 0 parts)
    (λ vs. Value.Tuple vs) c.in-Some.ids c.in_ok-id-in-Some.id all c.build_parts.ensures.grows
    c.in_ok-id-in-Some.ensures.made c.tuple.ensures.grows)

pub build-returns-in_ok-id-in-Some-2-clause-built :
    goal.build-returns-in_ok-id-in-Some-2-clause-built
build-returns-in_ok-id-in-Some-2-clause-built t c =
    let parts = c.in-List.parts in
    let all : BuildsAll c.args.laid.now
    (λ a. parts_at a c.args.head.now (site_of c.args.site) c.args.way.now.items 0 parts)
    c.build_parts-in-List.new.laid c.in-Some-2.ids =
    subst (λ es. BuildsAll c.args.laid.now
    (λ a. parts_at a c.args.head.now (site_of c.args.site) c.args.way.now.items 0 es)
    c.build_parts-in-List.new.laid c.in-Some-2.ids) c.as_slice-in-List.ensures
    (rw c.in-Some-2.is at c.in_ok-ids-in-List.ensures.built) in
    builds_as c.args.laid.now c.list.new.self
    (λ a. option_map (λ vs. Value.List vs)
    (parts_at a c.args.head.now (site_of c.args.site) c.args.way.now.items 0 parts))
    (λ a. part_at a c.args.head.now (site_of c.args.site) c.args.way.now.items c.args.expr.now)
    c.in_ok-id-in-Some-2.id
    (list_is c.args.head.now (site_of c.args.site) c.args.way.now.items c.args.expr.now parts
    c.in-List.is)
    (made_of c.args.laid.now c.build_parts-in-List.new.laid c.list.new.self
    (λ a. parts_at a c.args.head.now (site_of c.args.site) c.args.way.now.items 0 parts)
    (λ vs. Value.List vs) c.in-Some-2.ids c.in_ok-id-in-Some-2.id all
    c.build_parts-in-List.ensures.grows c.in_ok-id-in-Some-2.ensures.made c.list.ensures.grows)

pub build-returns-in_ok-id-in-Neg-clause-built : goal.build-returns-in_ok-id-in-Neg-clause-built
build-returns-in_ok-id-in-Neg-clause-built t c =
    builds_as c.args.laid.now c.build_hole.new.laid
    (λ a. Some (a.hole c.args.head.now.path (site_of c.args.site) c.args.way.now.items))
    (λ a. part_at a c.args.head.now (site_of c.args.site) c.args.way.now.items c.args.expr.now)
    c.in_ok-id-in-Neg.id
    (neg_is c.args.head.now (site_of c.args.site) c.args.way.now.items c.args.expr.now _
    c.in-Neg.is)
    (subst (λ w. Builds c.args.laid.now
    (λ a. Some (a.hole c.args.head.now.path (site_of c.args.site) w)) c.build_hole.new.laid
    c.in_ok-id-in-Neg.id) c.as_slice-in-Neg.ensures.value c.in_ok-id-in-Neg.ensures.built)

pub build-returns-in_ok-id-in-Op-clause-built : goal.build-returns-in_ok-id-in-Op-clause-built
build-returns-in_ok-id-in-Op-clause-built t c =
    builds_as c.args.laid.now c.build_hole-in-Op.new.laid
    (λ a. Some (a.hole c.args.head.now.path (site_of c.args.site) c.args.way.now.items))
    (λ a. part_at a c.args.head.now (site_of c.args.site) c.args.way.now.items c.args.expr.now)
    c.in_ok-id-in-Op.id
    (op_is c.args.head.now (site_of c.args.site) c.args.way.now.items c.args.expr.now _ _ _
    c.in-Op.is)
    (subst (λ w. Builds c.args.laid.now
    (λ a. Some (a.hole c.args.head.now.path (site_of c.args.site) w))
    c.build_hole-in-Op.new.laid c.in_ok-id-in-Op.id) c.as_slice-in-Op.ensures.value
    c.in_ok-id-in-Op.ensures.built)

pub build-cons-requires-clause-within : goal.build-cons-requires-clause-within
build-cons-requires-clause-within t c =
    let parts = c.in-Cons.parts in
    let all : BuildsAll c.args.laid.now
    (λ a. parts_at a c.args.head.now (site_of c.args.site) c.args.way.now.items 0 parts)
    c.build_parts-in-Cons.new.laid c.in-Some-3.ids =
    subst (λ es. BuildsAll c.args.laid.now
    (λ a. parts_at a c.args.head.now (site_of c.args.site) c.args.way.now.items 0 es)
    c.build_parts-in-Cons.new.laid c.in-Some-3.ids) c.as_slice-in-Cons.ensures
    (rw c.in-Some-3.is at c.in_ok-ids-in-Cons.ensures.built) in
    let more : length c.build_parts-in-Cons.new.laid.store.terms ≤ length
    c.build.new.laid.store.terms =
    (grown c.build_parts-in-Cons.new.laid.store c.build.new.laid.store
    c.build.ensures.grows.store).not_later.0 in
    λ k d h. let within = all.within k d h in omega (arith, within, more)

pub build-returns-in-Some-built-clause-built : goal.build-returns-in-Some-built-clause-built
build-returns-in-Some-built-clause-built t c =
    let parts = c.in-Cons.parts in
    let all : BuildsAll c.args.laid.now
    (λ a. parts_at a c.args.head.now (site_of c.args.site) c.args.way.now.items 0 parts)
    c.build_parts-in-Cons.new.laid c.in-Some-3.ids =
    subst (λ es. BuildsAll c.args.laid.now
    (λ a. parts_at a c.args.head.now (site_of c.args.site) c.args.way.now.items 0 es)
    c.build_parts-in-Cons.new.laid c.in-Some-3.ids) c.as_slice-in-Cons.ensures
    (rw c.in-Some-3.is at c.in_ok-ids-in-Cons.ensures.built) in
    let way : c.push.new.self.items ≡ c.args.way.now.items ++ length parts ∷ [] =
    c.in_ok-push-in-Cons.ensures.items
    ∙ ap (λ w. w ++ c.len.result ∷ []) c.in_ok-ids-in-Cons.ensures.way
    ∙ ap (λ n. c.args.way.now.items ++ n ∷ []) c.len.ensures in
    let rest : Builds c.build_parts-in-Cons.new.laid
    (λ a. part_at a c.args.head.now (site_of c.args.site)
    (c.args.way.now.items ++ length parts ∷ []) c.in-Cons.tail) c.build.new.laid
    c.in-Some-built.rest =
    subst (λ w. Builds c.build_parts-in-Cons.new.laid
    (λ a. part_at a c.args.head.now (site_of c.args.site) w c.in-Cons.tail)
    c.build.new.laid c.in-Some-built.rest) way
    (subst (λ e. Builds c.build_parts-in-Cons.new.laid
    (λ a. part_at a c.args.head.now (site_of c.args.site) c.push.new.self.items e)
    c.build.new.laid c.in-Some-built.rest) c.get.ensures
    (rw c.in-Some-built.is at c.in_ok-built-in-Cons.ensures.built)) in
    put_answer c.args.laid.now c.build_parts-in-Cons.new.laid c.build.new.laid c.cons.new.self
    (λ a. parts_at a c.args.head.now (site_of c.args.site) c.args.way.now.items 0 parts)
    (λ a. part_at a c.args.head.now (site_of c.args.site)
    (c.args.way.now.items ++ length parts ∷ []) c.in-Cons.tail)
    (λ a. part_at a c.args.head.now (site_of c.args.site) c.args.way.now.items c.args.expr.now)
    c.in-Some-3.ids c.in-Some-built.rest
    (cons_is c.args.head.now (site_of c.args.site) c.args.way.now.items c.args.expr.now parts
    c.in-Cons.tail c.in-Cons.is) all c.build_parts-in-Cons.ensures.grows rest
    c.build.ensures.grows c.cons.result c.cons.ensures.grows c.cons.ensures.put

pub build-returns-in-None-built-clause-built : goal.build-returns-in-None-built-clause-built
build-returns-in-None-built-clause-built t c =
    let parts = c.in-Cons.parts in
    let all : BuildsAll c.args.laid.now
    (λ a. parts_at a c.args.head.now (site_of c.args.site) c.args.way.now.items 0 parts)
    c.build_parts-in-Cons.new.laid c.in-Some-3.ids =
    subst (λ es. BuildsAll c.args.laid.now
    (λ a. parts_at a c.args.head.now (site_of c.args.site) c.args.way.now.items 0 es)
    c.build_parts-in-Cons.new.laid c.in-Some-3.ids) c.as_slice-in-Cons.ensures
    (rw c.in-Some-3.is at c.in_ok-ids-in-Cons.ensures.built) in
    let way : c.push.new.self.items ≡ c.args.way.now.items ++ length parts ∷ [] =
    c.in_ok-push-in-Cons.ensures.items
    ∙ ap (λ w. w ++ c.len.result ∷ []) c.in_ok-ids-in-Cons.ensures.way
    ∙ ap (λ n. c.args.way.now.items ++ n ∷ []) c.len.ensures in
    let rest : NeverHas c.build_parts-in-Cons.new.laid
    (λ a. part_at a c.args.head.now (site_of c.args.site)
    (c.args.way.now.items ++ length parts ∷ []) c.in-Cons.tail) =
    subst (λ w. NeverHas c.build_parts-in-Cons.new.laid
    (λ a. part_at a c.args.head.now (site_of c.args.site) w c.in-Cons.tail)) way
    (subst (λ e. NeverHas c.build_parts-in-Cons.new.laid
    (λ a. part_at a c.args.head.now (site_of c.args.site) c.push.new.self.items e))
    c.get.ensures
    (rw c.in-None-built.is at c.in_ok-built-in-Cons.ensures.built)) in
    no_tail c.args.laid.now c.build_parts-in-Cons.new.laid c.build.new.laid c.build.new.laid
    (λ a. parts_at a c.args.head.now (site_of c.args.site) c.args.way.now.items 0 parts)
    (λ a. part_at a c.args.head.now (site_of c.args.site)
    (c.args.way.now.items ++ length parts ∷ []) c.in-Cons.tail)
    (λ a. part_at a c.args.head.now (site_of c.args.site) c.args.way.now.items c.args.expr.now)
    c.in-Some-3.ids 0
    (cons_is c.args.head.now (site_of c.args.site) c.args.way.now.items c.args.expr.now parts
    c.in-Cons.tail c.in-Cons.is) all c.build_parts-in-Cons.ensures.grows rest

pub build_parts-returns-in-None-clause-built : goal.build_parts-returns-in-None-clause-built
build_parts-returns-in-None-clause-built t c =
    let way : c.push.new.self.items ≡ c.args.way.now.items ++ c.loop-i.i ∷ [] =
    c.in_ok-push.ensures.items ∙ ap (λ w. w ++ c.loop-i.i ∷ []) c.loop-i.invariant.2 in
    let never : NeverHas c.loop-i.laid
    (λ a. part_at a c.args.head.now (site_of c.args.site)
    (c.args.way.now.items ++ c.loop-i.i ∷ []) c.index-exprs-i.result) =
    subst (λ w. NeverHas c.loop-i.laid
    (λ a. part_at a c.args.head.now (site_of c.args.site) w c.index-exprs-i.result)) way
    (rw c.in-None.is at c.in_ok-id.ensures.built) in
    none_built c.args.head.now (site_of c.args.site) c.args.way.now.items c.args.exprs.now
    c.loop-i.i c.index-exprs-i.result c.loop-i-test.true c.index-exprs-i.is c.args.laid.now
    c.loop-i.laid c.build.new.laid c.loop-i.ids.items c.loop-i.invariant.0 c.loop-i.invariant.1
    never

pub build_parts-loop-i-preserved : goal.build_parts-loop-i-preserved
build_parts-loop-i-preserved t c =
    let way : c.push.new.self.items ≡ c.args.way.now.items ++ c.loop-i.i ∷ [] =
    c.in_ok-push.ensures.items ∙ ap (λ w. w ++ c.loop-i.i ∷ []) c.loop-i.invariant.2 in
    let one : Builds c.loop-i.laid
    (λ a. part_at a c.args.head.now (site_of c.args.site)
    (c.args.way.now.items ++ c.loop-i.i ∷ []) c.index-exprs-i.result) c.build.new.laid
    c.in-Some.id =
    subst (λ w. Builds c.loop-i.laid
    (λ a. part_at a c.args.head.now (site_of c.args.site) w c.index-exprs-i.result)
    c.build.new.laid c.in-Some.id) way (rw c.in-Some.is at c.in_ok-id.ensures.built) in
    let all = all_built c.args.head.now (site_of c.args.site) c.args.way.now.items c.args.exprs.now
    c.loop-i.i c.index-exprs-i.result c.loop-i-test.true c.index-exprs-i.is c.args.laid.now
    c.loop-i.laid c.build.new.laid c.loop-i.ids.items c.loop-i.invariant.0 c.loop-i.invariant.1
    c.in-Some.id one c.build.ensures.grows in
    let popped = c.pop-in-loop-i.ensures.items in
    let pushed : c.build.new.way.items ≡ c.args.way.now.items ++ c.loop-i.i ∷ [] =
    c.in_ok-id.ensures.way ∙ way in
    let long : length c.build.new.way.items ≡ length c.args.way.now.items + 1 = ap length pushed
    ∙ length-append c.args.way.now.items (c.loop-i.i ∷ []) in
    let nonempty : 0 < vec_len c.build.new.way = search (rules, c.build.new.way.ok) in
    let ids : c.push-in-Some.new.self.items ≡ c.loop-i.ids.items ++ c.in-Some.id ∷ [] =
    c.in_ok-push-in-Some.ensures.items in (
      subst (λ ks. BuildsAll c.args.laid.now
          (λ a. parts_at a c.args.head.now (site_of c.args.site) c.args.way.now.items 0
          (take (c.loop-i.i + 1) c.args.exprs.now)) c.build.new.laid ks) (sym ids) all,
      grows_through c.args.laid.now c.loop-i.laid c.build.new.laid c.loop-i.invariant.1
          c.build.ensures.grows,
      popped_front c.pop-in-loop-i.new.self.items c.args.way.now.items c.pop-in-loop-i.result
          c.loop-i.i (sym popped ∙ pushed) (c.pop-in-loop-i.ensures.variant.1 nonempty),
    )

pub build_parts-returns-clause-built : goal.build_parts-returns-clause-built
build_parts-returns-clause-built t c =
    let whole : take c.loop-i.i c.args.exprs.now ≡ c.args.exprs.now =
    take_all c.loop-i.i c.args.exprs.now c.loop-i-test.false in
    subst (λ ks. BuildsAll c.args.laid.now
    (λ a. parts_at a c.args.head.now (site_of c.args.site) c.args.way.now.items 0
    c.args.exprs.now) c.loop-i.laid ks) (sym c.from_vec.ensures)
    (subst (λ es. BuildsAll c.args.laid.now
    (λ a. parts_at a c.args.head.now (site_of c.args.site) c.args.way.now.items 0 es)
    c.loop-i.laid c.loop-i.ids.items) whole c.loop-i.invariant.0)
