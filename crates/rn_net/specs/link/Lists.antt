-- Kinds, constants and inscriptions up to the sign after them. This only connects the readers to
-- the grammar.
use Rattle.std.specs.Prelude.{ℕ, List, []}
use Rattle.rn_notation.specs.declared.token.TokenKind.{TokenKind}
use Rattle.rn_reading.specs.Phrases.{Phrases, Then}
use Rattle.rn_inscript.specs.link.Stages.{Takes}
use Rattle.rn_net.specs.declared.kinds.PKind.{PKind}
use Rattle.rn_net.specs.declared.constants.PConst.{PConst}
use Rattle.rn_inscript.specs.declared.exprs.PExpr.{PExpr}
use Rattle.rn_inscript.specs.declared.inscriptions.PInscription.{PInscription}
use Rattle.rn_inscript.specs.Expressions.{IsMoreExprs}
use Rattle.rn_net.specs.Words.{semicolon}
use Rattle.rn_net.specs.Kinds.{AreKinds}
use Rattle.rn_net.specs.Constants.{AreConstants}
use Rattle.rn_net.specs.Nets.{AreInscribed}

abbrev pub AreKindsUpTo : TokenKind → Phrases (List PKind)
AreKindsUpTo close = Then AreKinds (λ kinds. Takes close kinds)

abbrev pub AreConstantsUpTo : TokenKind → Phrases (List PConst)
AreConstantsUpTo close = Then AreConstants (λ constants. Takes close constants)

-- what stands before a semicolon in a transition, and the semicolon
abbrev pub AreInscribedUpTo : ℕ → Phrases (List PInscription)
AreInscribedUpTo notation = Then (AreInscribed notation) (λ all. Takes semicolon all)

-- the other inscriptions of an arc, each after a comma, and the semicolon after them
abbrev pub AreFurtherUpTo : Phrases (List PExpr)
AreFurtherUpTo = Then (IsMoreExprs []) (λ all. Takes semicolon all)
