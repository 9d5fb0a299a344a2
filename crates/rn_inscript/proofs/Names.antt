-- The names that the proofs of this crate take from below.
pub use Rattle.std.proofs.Common.{Bool, List, [], ap, append_assoc, arith, cond, drop, false, if◌then◌else◌, inl, inr, length, nat_eq, nat_le, pos, refl, rules, subst, sym, true, ℕ, ℤ, ◌*◌, ◌++◌, ◌+◌, ◌-◌, ◌<◌, ◌||◌, ◌∙◌, ◌∷◌, ◌≡◌, ◌≤◌, ◌⊎◌}
pub use Rattle.std.specs.Prelude.{Err, None, Ok, Option, Result, Some, codes, ⊤}
pub use Rattle.rn_notation.specs.declared.token.Token.{Token}
pub use Rattle.rn_inscript.specs.declared.cursor.Seen.{Seen}
pub use Rattle.rn_reading.specs.declared.fault.ReadFault.{ReadFault}
pub use Rattle.rn_inscript.specs.Levels.{Count, IsWithin, Level, after_token, at_first, bracket, closes, ends_operand, goes_too_far, inscript_counting, is_minus, is_operator, is_paren, levels_at, negative, opens, without_minuses}
pub use Rattle.rn_reading.specs.Phrases.{Done, Phrases, Then}
pub use Rattle.rn_inscript.specs.link.Stages.{Ends, Fails, HasMoved, IsBadOpening, IsClose, IsNextKind, IsNextSign, IsNotNextSign, IsSoFar, Reads, ReadsFrom, Stage, Takes, ended, past, past_operator, ready, strength}
pub use Rattle.rn_notation.specs.declared.token.TokenKind.{TokenKind}
pub use Rattle.rn_notation.specs.declared.token.TokenKind.TheVariants.{Name, Number, Sign, Text, Word}
pub use Rattle.rn_inscript.specs.declared.exprs.PExpr.{PExpr}
pub use Rattle.rn_inscript.specs.Signs.{action_word, arc_of, close_brace, close_bracket, close_paren, colon, compare_of, equals, guard_word, minus, new_word, open_brace, open_bracket, open_paren, plus_of, print_word, target_of, this_word, times_of}
pub use Rattle.rn_inscript.specs.Expressions.{IsExpr, IsExprs, IsFactors, IsListed, IsMoreExprs, IsPrimary, IsProduct, IsTerms, IsUnary, at_spot, joined}
pub use Rattle.std.proofs.Math.Bool.{and-false, or-false}
pub use Rattle.rn_reading.specs.link.Stages.{BeginAlike, CanEnd, HasNoNext, IsNext, IsNextOne, IsNotNext}
pub use Rattle.std.proofs.lemmas.Bool.Decides.{nat_tests}
pub use Rattle.std.proofs.lemmas.Grind.{common_steps}
pub use Rattle.rn_model.specs.declared.expr.CompareKind.{CompareKind}
pub use Rattle.rn_inscript.specs.declared.conds.PCond.{PCond}
pub use Rattle.rn_inscript.specs.declared.conds.PSimple.{PSimple}
pub use Rattle.rn_inscript.specs.Conditions.{IsAlternatives, IsBoth, IsCond, IsMoreAlternatives, IsMoreBoth, IsSimple, any_of}
pub use Rattle.rn_reading.proofs.Steps.{alike-append, alike-cons, index-of, stuck, take, too_far}
pub use Rattle.rn_inscript.specs.declared.fault.InscriptFault.{InscriptFault}
pub use Rattle.rn_inscript.specs.declared.inscriptions.PInscribed.{PInscribed}
pub use Rattle.rn_inscript.specs.declared.inscriptions.PInscription.{PInscription}
pub use Rattle.rn_inscript.specs.Inscriptions.{IsCall, IsInscribed, IsInscription, absent, name_at}
pub use Rattle.rn_inscript.specs.Readings.{Answers, IsAnswer, IsDeep, IsLongest, IsPrefix, IsReading, IsRefusal, IsStopped, Wholes}
pub use Rattle.std.specs.List.{list_any}
pub use Rattle.rn_notation.specs.declared.token.Spot.{Spot}
pub use Rattle.rn_inscript.specs.declared.exprs.PForm.{PForm}
pub use Rattle.rn_inscript.specs.declared.inscriptions.PName.{PName}
pub use Rattle.rn_inscript.specs.link.NextNames.{IsEquality, IsNextName, IsNoCreation, IsNoName, IsNotNextKind}
pub use Rattle.std.proofs.Math.ListN.{length-append}
pub use Rattle.rn_model.specs.declared.expr.OpKind.{OpKind}
pub use Rattle.rn_model.specs.declared.system.ArcKind.{ArcKind}
