-- The operands in the parts of an expression are fit where those of the whole are.
use Rattle.std.proofs.Common.{List, ◌<◌, max, sym, ap, subst, arith}
use denote.Param.Weighed.{most, at_most}
use Rattle.rn_model.specs.declared.expr.OpKind.{OpKind}
use Rattle.rn_model.specs.declared.expr.Expr.{Expr}
use Rattle.rn_model.specs.declared.expr.Expr.TheVariants as E
use Rattle.rn_model.specs.declared.expr.Expr.TheViews as V
use Rattle.rn_model.specs.Evaluation.{worth}
use Rattle.rn_model.specs.ExpressionLaws.{OperandsAreFit}
use Rattle.rn_model.proofs.expr.Expr.TheLaws.{the_size}
use Rattle.rn_calc.specs.FitOperands.{IsListIfAny, PartsAreFit}
use Rattle.rn_calc.proofs.OperandLemmas.{tuple_parts, list_parts, cons_parts, cons_tail, cons_list}
use Rattle.rn_calc.proofs.OperandLemmas.{neg_part, neg_number, op_left, op_right, number_of}
use Rattle.rn_calc.proofs.OperandLemmas.{op_left_number, op_right_number}
use Rattle.rn_calc.proofs.evaluation.+evaluation.Goals as goal

-- the parts of an expression are less deep than it
deeper_tuple : (parts : List Expr) → most the_size parts < the_size (E.Tuple parts)
deeper_tuple parts = omega (arith, V.sized-Tuple parts)

deeper_list : (parts : List Expr) → most the_size parts < the_size (E.List parts)
deeper_list parts = omega (arith, V.sized-List parts)

deeper_cons : (parts : List Expr) (rest : Expr) →
    max (most the_size parts) (the_size rest) < the_size (E.Cons parts rest)
deeper_cons parts rest = omega (arith, V.sized-Cons parts rest)

deeper_neg : (part : Expr) → the_size part < the_size (E.Neg part)
deeper_neg part = omega (arith, V.sized-Neg part)

deeper_op : (kind : OpKind) (a b : Expr) →
    max (the_size a) (the_size b) < the_size (E.Op kind a b)
deeper_op kind a b = omega (arith, V.sized-Op kind a b)

pub evaluate-evaluate_all-requires : goal.evaluate-evaluate_all-requires
evaluate-evaluate_all-requires g t c κs within =
    let env = g.V.Values.env c.args.values.now in
    let whole = subst (OperandsAreFit env) c.in-Tuple.is c.requires.fit in
    let fit =
    subst (PartsAreFit env) (sym c.as_slice.ensures)
    (tuple_parts env c.in-Tuple.parts whole) in
    let deep = deeper_tuple c.in-Tuple.parts in
    let whole_is = ap the_size c.in-Tuple.is in
    let part_is = ap (most the_size) c.as_slice.ensures in
    (omega (arith, c.decreases, deep, whole_is, part_is), (within, (c.requires.step, fit)))

pub evaluate-evaluate_all-requires-in-List : goal.evaluate-evaluate_all-requires-in-List
evaluate-evaluate_all-requires-in-List g t c κs within =
    let env = g.V.Values.env c.args.values.now in
    let whole = subst (OperandsAreFit env) c.in-List.is c.requires.fit in
    let fit =
    subst (PartsAreFit env) (sym c.as_slice-in-List.ensures)
    (list_parts env c.in-List.parts whole) in
    let deep = deeper_list c.in-List.parts in
    let whole_is = ap the_size c.in-List.is in
    let part_is = ap (most the_size) c.as_slice-in-List.ensures in
    (omega (arith, c.decreases, deep, whole_is, part_is), (within, (c.requires.step, fit)))

pub evaluate-evaluate_all-requires-in-Cons : goal.evaluate-evaluate_all-requires-in-Cons
evaluate-evaluate_all-requires-in-Cons g t c κs within =
    let env = g.V.Values.env c.args.values.now in
    let whole = subst (OperandsAreFit env) c.in-Cons.is c.requires.fit in
    let fit =
    subst (PartsAreFit env) (sym c.as_slice-in-Cons.ensures)
    (cons_parts env c.in-Cons.parts c.in-Cons.tail whole) in
    let deep = deeper_cons c.in-Cons.parts c.in-Cons.tail in
    let whole_is = ap the_size c.in-Cons.is in
    let part_is = ap (most the_size) c.as_slice-in-Cons.ensures in
    (omega (arith, c.decreases, deep, whole_is, part_is), (within, (c.requires.step, fit)))

pub evaluate-join_tail-requires : goal.evaluate-join_tail-requires
evaluate-join_tail-requires g t c κs within =
    let env = g.V.Values.env c.args.values.now in
    let whole = subst (OperandsAreFit env) c.in-Cons.is c.requires.fit in
    let fit =
    subst (OperandsAreFit env) (sym c.get.ensures)
    (cons_tail env c.in-Cons.parts c.in-Cons.tail whole) in
    let list =
    subst (λ e. IsListIfAny (worth e env)) (sym c.get.ensures)
    (cons_list env c.in-Cons.parts c.in-Cons.tail whole) in
    let deep = deeper_cons c.in-Cons.parts c.in-Cons.tail in
    let whole_is = ap the_size c.in-Cons.is in
    let part_is = ap the_size c.get.ensures in
    (omega (arith, c.decreases, deep, whole_is, part_is), (within, (c.requires.step, (fit, list))))

pub evaluate-evaluate-requires : goal.evaluate-evaluate-requires
evaluate-evaluate-requires g t c κs within =
    let env = g.V.Values.env c.args.values.now in
    let whole = subst (OperandsAreFit env) c.in-Neg.is c.requires.fit in
    let fit =
    subst (OperandsAreFit env) (sym c.get-in-Neg.ensures) (neg_part env c.in-Neg.part whole) in
    let deep = deeper_neg c.in-Neg.part in
    let whole_is = ap the_size c.in-Neg.is in
    let part_is = ap the_size c.get-in-Neg.ensures in
    (omega (arith, c.decreases, deep, whole_is, part_is), (within, (c.requires.step, fit)))

pub evaluate-negate-requires : goal.evaluate-negate-requires
evaluate-negate-requires g t c =
    let env = g.V.Values.env c.args.values.now in
    let whole = subst (OperandsAreFit env) c.in-Neg.is c.requires.fit in
    record {
      fit = number_of env c.in_ok-evaluate-in-Neg.field-0 c.get-in-Neg.result.now
          c.in-Neg.part c.in_ok-evaluate-in-Neg.ensures.value
          c.get-in-Neg.ensures (neg_number env c.in-Neg.part whole);
    }

pub evaluate-evaluate-requires-in-Op : goal.evaluate-evaluate-requires-in-Op
evaluate-evaluate-requires-in-Op g t c κs within =
    let env = g.V.Values.env c.args.values.now in
    let whole = subst (OperandsAreFit env) c.in-Op.is c.requires.fit in
    let fit =
    subst (OperandsAreFit env) (sym c.get-in-Op.ensures)
    (op_left env c.in-Op.kind c.in-Op.a c.in-Op.b whole) in
    let deep = deeper_op c.in-Op.kind c.in-Op.a c.in-Op.b in
    let whole_is = ap the_size c.in-Op.is in
    let part_is = ap the_size c.get-in-Op.ensures in
    (omega (arith, c.decreases, deep, whole_is, part_is), (within, (c.requires.step, fit)))

pub evaluate-int_in-x-requires : goal.evaluate-int_in-x-requires
evaluate-int_in-x-requires g t c =
    let env = g.V.Values.env c.args.values.now in
    let whole = subst (OperandsAreFit env) c.in-Op.is c.requires.fit in
    record {
      fit = number_of env c.in_ok-evaluate-in-Op.field-0 c.get-in-Op.result.now
          c.in-Op.a c.in_ok-evaluate-in-Op.ensures.value
          c.get-in-Op.ensures (op_left_number env c.in-Op.kind c.in-Op.a c.in-Op.b whole);
    }

pub evaluate-evaluate-requires-in-Op-2 : goal.evaluate-evaluate-requires-in-Op-2
evaluate-evaluate-requires-in-Op-2 g t c κs within =
    let env = g.V.Values.env c.args.values.now in
    let whole = subst (OperandsAreFit env) c.in-Op.is c.requires.fit in
    let fit =
    subst (OperandsAreFit env) (sym c.get-in-Op-2.ensures)
    (op_right env c.in-Op.kind c.in-Op.a c.in-Op.b whole) in
    let deep = deeper_op c.in-Op.kind c.in-Op.a c.in-Op.b in
    let whole_is = ap the_size c.in-Op.is in
    let part_is = ap the_size c.get-in-Op-2.ensures in
    (omega (arith, c.decreases, deep, whole_is, part_is), (within, (c.requires.step, fit)))

pub evaluate-int_in-y-requires : goal.evaluate-int_in-y-requires
evaluate-int_in-y-requires g t c =
    let env = g.V.Values.env c.args.values.now in
    let whole = subst (OperandsAreFit env) c.in-Op.is c.requires.fit in
    record {
      fit = number_of env c.in_ok-evaluate-in-Op-2.field-0 c.get-in-Op-2.result.now
          c.in-Op.b c.in_ok-evaluate-in-Op-2.ensures.value
          c.get-in-Op-2.ensures (op_right_number env c.in-Op.kind c.in-Op.a c.in-Op.b whole);
    }

pub evaluate_all-evaluate-requires : goal.evaluate_all-evaluate-requires
evaluate_all-evaluate-requires g t c κs within =
    let fit =
    c.requires.fit c.expr-item.result
    (c.loop-expr.expr-index, c.loop-expr-test.true, sym c.expr-item.is) in
    let deep =
    at_most the_size c.args.exprs.now c.loop-expr.expr-index c.expr-item.result
    c.loop-expr-test.true in
    (omega (arith, c.decreases, deep, ap the_size c.expr-item.is), (within, (c.requires.step, fit)))
