-- The names that the proofs of this crate take from below.
pub use Rattle.std.proofs.Common.{Bool, List, [], ap, append_assoc, arith, drop, false, inl, inr, length, nat_eq, nat_le, nat_lt, not, pos, refl, rules, subst, suc, sym, true, zero, ℕ, ◌&&◌, ◌*◌, ◌++◌, ◌+◌, ◌-◌, ◌<◌, ◌||◌, ◌∙◌, ◌∷◌, ◌≡◌, ◌≤◌, ◌⊎◌}
pub use Rattle.rn_notation.specs.declared.token.Spot.{Spot}
pub use Rattle.rn_notation.specs.declared.token.Token.{Token}
pub use Rattle.rn_notation.specs.declared.token.TokenKind.{TokenKind}
pub use Rattle.rn_notation.specs.declared.token.TokenKind.TheVariants.{Name, Number, Sign, Text, Word}
pub use Rattle.rn_reading.specs.Phrases.{Done, Phrases, Then}
pub use Rattle.rn_reading.specs.link.Stages.{Anything, BeginAlike, CanEnd, HasNoNext, IsNext, MovesOn, Progress, Sort, done}
pub use Rattle.rn_inscript.specs.Signs.{arc_of, close_brace, close_bracket, close_paren, colon, comma, compare_of, equals, minus, open_brace, open_bracket, open_paren, plus_of, target_of, times_of}
pub use Rattle.rn_inscript.specs.link.NextNames.{IsNextName, IsNoName, IsNotNextKind}
pub use Rattle.rn_net.specs.declared.constants.PConst.{PConst}
pub use Rattle.rn_net.specs.Constants.{AreConstants, AreMoreConstants, IsConstant, constant_at}
pub use Rattle.rn_net.specs.Levels.{IsShallow, Region, after, begun_by, inscribed_from, is_comma, is_semicolon, is_too_deep, net_counting, open_after, region_after}
pub use Rattle.rn_net.specs.Levels.Region.{between, declaring, heading, inscribing}
pub use Rattle.rn_net.specs.link.Progress.{Fails, HasNext, HaveNaturals, IsEnd, IsNoNumber, IsNoText, Reads, Refuses, Stage}
pub use Rattle.rn_reading.proofs.Sorts.{and_then, any}
pub use Rattle.rn_reading.proofs.Steps.{alike-append, alike-cons, append-nil, count-append, too_far, within-append}
pub use Rattle.std.specs.Prelude.{Err, IfErr, IfNone, IfOk, IfSome, MatchResult, Ok, Option, Result, if◌then◌else◌, neg_ℤ, ◌≤ℤ◌}
pub use Rattle.rn_model.specs.declared.system.ArcKind.{ArcKind}
pub use Rattle.rn_inscript.specs.Levels.{Count, IsWithin, after_token, at_first, count_after, goes_too_far}
pub use Rattle.rn_inscript.specs.Readings.{IsLongest, IsPrefix, IsReading, IsWholeExpr, Wholes}
pub use Rattle.rn_inscript.specs.Laws.{OneExpression, OneInscription}
pub use Rattle.rn_reading.specs.declared.fault.ReadFault.{ReadFault}
pub use Rattle.rn_inscript.specs.declared.exprs.PExpr.{PExpr}
pub use Rattle.rn_inscript.specs.declared.inscriptions.PName.{PName}
pub use Rattle.rn_inscript.specs.declared.inscriptions.PInscribed.{PInscribed}
pub use Rattle.rn_inscript.specs.declared.inscriptions.PInscription.{PInscription}
pub use Rattle.rn_inscript.specs.Expressions.{IsExpr, IsExprs, IsFactors, IsListed, IsMoreExprs, IsPrimary, IsProduct, IsTerms, IsUnary}
pub use Rattle.rn_inscript.specs.Inscriptions.{IsCall, IsInscribed, IsInscription, name_at}
pub use Rattle.rn_net.specs.Words.{channel_word, int_word, max_name, net_word, notation_name, place_word, semicolon, text_word, trans_word, var_word}
pub use Rattle.rn_net.specs.Nets.{AreInitial, AreInscribed, AreInscriptions, AreMoreNames, AreParts, AreVars, IsCapacity, IsChannel, IsKindOfPlace, IsNet, IsPlace, IsSystem, IsTransition, arc_with, channel_of, further_arc, max_of, place_of, plain_net_of, plain_of, transition_of, var_of}
pub use Rattle.rn_net.specs.link.Lists.{AreConstantsUpTo, AreFurtherUpTo, AreInscribedUpTo, AreKindsUpTo}
pub use Rattle.rn_net.specs.link.Parts.{AreInscriptionsUpTo, AreNames, AreNamesUpTo, ArePartsUpTo, EndsStatement, IsInitialUpTo, IsItem, IsNetPart, IsOpen, IsPName, IsPlaceEnd, NotOpen, end_of, with_item, with_part}
pub use Rattle.rn_inscript.specs.declared.exprs.PForm.{PForm}
pub use Rattle.rn_inscript.specs.link.Stages.{IsClose, IsNextKind, Takes}
pub use Rattle.rn_net.specs.declared.plain.PNet.{PNet}
pub use Rattle.rn_net.specs.declared.plain.PVar.{PVar}
pub use Rattle.rn_net.specs.declared.plain.PPlace.{PPlace}
pub use Rattle.rn_net.specs.declared.plain.PChannel.{PChannel}
pub use Rattle.rn_net.specs.declared.part.Part.{Part}
pub use Rattle.rn_net.specs.declared.part.Item.{Item}
pub use Rattle.rn_net.specs.declared.kinds.PKind.{PKind}
pub use Rattle.rn_net.specs.Kinds.{AreKinds, AreListed, AreMoreKinds, IsKind, kind_at}
pub use Rattle.std.proofs.lemmas.List.{drop-drop, length-append, length-drop}
pub use Rattle.std.proofs.Math.Seq.{drop-append_seam}
pub use Rattle.std.proofs.lemmas.Bool.Decides.{nat_tests}
pub use Rattle.std.proofs.lemmas.Grind.{common_steps}
pub use Rattle.rn_reading.proofs.Wholes.{IsTold, deep-ends, ends-fine, lexed_of, one_reason, same_tokens, split-at, stopped-ends}
pub use Rattle.rn_net.specs.declared.plain.Plain.{Plain}
pub use Rattle.rn_net.specs.Laws.{OneSpelled, OneSystem, SpelledInNotation}
pub use Rattle.rn_net.specs.Texts.{IsNotation, Spells}
pub use Rattle.rn_notation.specs.Laws.{NoFaultInTokens, OneFault, OneReading}
pub use Rattle.rn_net.specs.declared.part.PlaceEnd.{PlaceEnd}
pub use Rattle.rn_net.specs.declared.plain.PMax.{PMax}
pub use Rattle.rn_net.specs.link.Answers.{Ends, Halts, HeaderAnswer, IsBare, Sinks, SystemAnswer, Top, answer_of, report}
pub use Rattle.rn_notation.specs.Limits.{longest_net_text}
pub use Rattle.rn_notation.specs.Reading.{FirstFault, IsSlice, Tokens}
pub use Rattle.rn_notation.specs.declared.token.LexFault.{LexFault}
pub use Rattle.rn_notation.specs.declared.token.Lexed.{Lexed}
pub use Rattle.rn_reading.specs.declared.fault.TextFault.{TextFault}
pub use Rattle.rn_net.specs.declared.refusal.Refusal.{Refusal}
pub use Rattle.rn_net.specs.Refusals.{Answers, AreFine, IsBeginning, IsDeep, IsReason, IsRefused, IsStopped, IsText, refusal_of}
pub use Rattle.rn_reading.specs.Texts.{AreTokensOf, IsAlone, WholeOf, after_tokens}
pub use Rattle.std.proofs.lemmas.Result.{err_from_is_err_and}
