-- Inscriptions of transitions. Each case is one form, with the tokens that it begins with.
use Rattle.std.specs.Prelude.{◌≡◌, ℕ, List, [], ◌∷◌, Option, Some, None}
use Rattle.rn_notation.specs.declared.token.Spot.{Spot}
use Rattle.rn_notation.specs.declared.token.Token.{Token}
use Rattle.rn_notation.specs.declared.token.TokenKind.TheVariants.{Name}
use Rattle.rn_model.specs.declared.system.ArcKind.{ArcKind}
use Rattle.rn_model.specs.declared.system.ArcKind.TheVariants as A
use Rattle.rn_inscript.specs.declared.exprs.PExpr.{PExpr}
use Rattle.rn_inscript.specs.declared.exprs.PForm.{PForm}
use Rattle.rn_inscript.specs.declared.exprs.PForm.TheVariants as F
use Rattle.rn_inscript.specs.declared.conds.PCond.{PCond}
use Rattle.rn_inscript.specs.declared.inscriptions.PName.{PName}
use Rattle.rn_inscript.specs.declared.inscriptions.PInscribed.{PInscribed}
use Rattle.rn_inscript.specs.declared.inscriptions.PInscribed.TheVariants as I
use Rattle.rn_inscript.specs.declared.inscriptions.PInscription.{PInscription}
use Rattle.rn_inscript.specs.Expressions.{IsExpr, IsListed, at_spot}
use Rattle.rn_inscript.specs.Conditions.{IsCond}
use Rattle.rn_inscript.specs.Signs.{open_paren, close_paren, colon, equals, guard_word, action_word}
use Rattle.rn_inscript.specs.Signs.{print_word, new_word, arc_of, target_of}

-- a name with its spot
abbrev pub name_at : Spot → List ℕ → PName
name_at spot s = record { text = s; spot = spot }

-- what stands for an absent inscription: `[]` with the spot of the place's name, and nothing for
-- flexin, flexout and clear
abbrev pub absent : ArcKind → Spot → Option PExpr
absent A.FlexInput spot = None
absent A.FlexOutput spot = None
absent A.Clear spot = None
absent _ spot = Some (at_spot spot (F.Tuple []))

-- the name of a channel with its arguments
pub data IsCall : List Token → PName × List PExpr → List Token → Type 0 where
  call : {t u : Token} {ts rest : List Token} {ch : List ℕ} {es : List PExpr} →
      t.kind ≡ Name ch → u.kind ≡ open_paren → IsListed close_paren ts es rest →
      IsCall (t ∷ u ∷ ts) (name_at t.spot ch, es) rest

-- the form of an inscription, from its first token to its last
pub data IsInscribed : List Token → PInscribed → List Token → Type 0 where
  -- `in p` and the like, without and with an inscription
  plain_arc : {t u : Token} {rest : List Token} {kind : ArcKind} {p : List ℕ} →
      arc_of t.kind ≡ Some kind → u.kind ≡ Name p →
      IsInscribed (t ∷ u ∷ rest) (I.Arc kind (name_at u.spot p) (absent kind u.spot)) rest
  arc : {t u v : Token} {ts rest : List Token} {kind : ArcKind} {p : List ℕ} {e : PExpr} →
      arc_of t.kind ≡ Some kind → u.kind ≡ Name p → v.kind ≡ colon → IsExpr ts e rest →
      IsInscribed (t ∷ u ∷ v ∷ ts) (I.Arc kind (name_at u.spot p) (Some e)) rest
  -- `guard c`
  guard : {t : Token} {ts rest : List Token} {c : PCond} →
      t.kind ≡ guard_word → IsCond ts c rest → IsInscribed (t ∷ ts) (I.Guard c) rest
  -- `action print e`
  print : {t u : Token} {ts rest : List Token} {e : PExpr} →
      t.kind ≡ action_word → u.kind ≡ print_word → IsExpr ts e rest →
      IsInscribed (t ∷ u ∷ ts) (I.Print e) rest
  -- `action v = e`
  set : {t u v : Token} {ts rest : List Token} {x : List ℕ} {e : PExpr} →
      t.kind ≡ action_word → u.kind ≡ Name x → v.kind ≡ equals → IsExpr ts e rest →
      IsInscribed (t ∷ u ∷ v ∷ ts) (I.Set (name_at u.spot x) e) rest
  -- `:ch(e1,e2)`
  uplink : {t : Token} {ts rest : List Token} {call : PName × List PExpr} →
      t.kind ≡ colon → IsCall ts call rest → IsInscribed (t ∷ ts) (I.Uplink call.0 call.1) rest
  -- `x: new n`
  creation : {t u v w : Token} {rest : List Token} {x n : List ℕ} →
      t.kind ≡ Name x → u.kind ≡ colon → v.kind ≡ new_word → w.kind ≡ Name n →
      IsInscribed (t ∷ u ∷ v ∷ w ∷ rest) (I.New (name_at t.spot x) (name_at w.spot n)) rest
  -- `x:ch(e1,e2)` and `this:ch(e1,e2)`
  downlink : {t u : Token} {ts rest : List Token} {form : PForm} {call : PName × List PExpr} →
      target_of t.kind ≡ Some form → u.kind ≡ colon → IsCall ts call rest →
      IsInscribed (t ∷ u ∷ ts) (I.Downlink (at_spot t.spot form) call.0 call.1) rest
  -- `e1 = e2`
  equality : {t : Token} {ts us rest : List Token} {a b : PExpr} →
      IsExpr ts a (t ∷ us) → t.kind ≡ equals → IsExpr us b rest →
      IsInscribed ts (I.Equality a b) rest

-- An inscription is of some form, and its spot is that of its very first token.
pub data IsInscription : List Token → PInscription → Type 0 where
  inscription : {t : Token} {ts : List Token} {form : PInscribed} →
      IsInscribed (t ∷ ts) form [] →
      IsInscription (t ∷ ts) (record { form = form; spot = t.spot })
