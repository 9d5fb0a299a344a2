-- Where some tokens stand for a transition, its text is read back, in both notations.
use Rattle.std.proofs.Common.{◌≡◌, ℕ, ◌≤◌, ◌+◌, Bool, true, false, List, [], ◌∷◌, ◌++◌, map, nat_eq, if◌then◌else◌, inl, inr, refl, sym, ap, ◌∙◌, subst, append_assoc, arith, true≢false}
use Rattle.std.specs.Prelude.{codes, Some, None}
use Rattle.std.specs.List.{AllByRecursion}
use Rattle.std.specs.Cmp.Lexicographic.{pointwise}
use Rattle.std.proofs.Math.Bool.{and-false}
use Rattle.std.proofs.lemmas.Bool.Decides.{nat_tests}
use Rattle.std.proofs.lemmas.Grind.{common_steps}
use Rattle.std.proofs.lemmas.List.{append-nil}
use Rattle.rn_items.proofs.Numbers.{same_numbers}
use Rattle.rn_items.proofs.Bools.{and_left, and_right}
use Rattle.rn_value.specs.Words.{reserved_words}
use Rattle.rn_notation.specs.Tokens.{IsGap, IsToken}
use Rattle.rn_notation.specs.Reading.{gap, token_after}
use Rattle.rn_notation.specs.declared.token.Spot.{Spot}
use Rattle.rn_notation.specs.declared.token.Token.{Token}
use Rattle.rn_notation.specs.declared.token.TokenKind.{TokenKind}
use Rattle.rn_notation.specs.declared.token.TokenKind.TheVariants.{Name, Word, Number, Text, Sign}
use Rattle.rn_model.specs.declared.system.ArcKind.{ArcKind}
use Rattle.rn_model.specs.declared.system.ArcKind.TheVariants.{Input, Output, Test, Reserve}
use Rattle.rn_model.specs.declared.system.ArcKind.TheVariants.{FlexInput, FlexOutput, Inhibit}
use Rattle.rn_model.specs.declared.system.ArcKind.TheVariants.{Clear}
use Rattle.rn_model.proofs.EachElement.{each_append}
use Rattle.rn_inscript.specs.declared.exprs.PExpr.{PExpr}
use Rattle.rn_inscript.specs.declared.exprs.PForm.{PForm}
use Rattle.rn_inscript.specs.declared.exprs.PForm.TheVariants as F
use Rattle.rn_inscript.specs.declared.inscriptions.PName.{PName}
use Rattle.rn_inscript.specs.declared.inscriptions.PInscribed.{PInscribed}
use Rattle.rn_inscript.specs.declared.inscriptions.PInscribed.TheVariants as I
use Rattle.rn_inscript.specs.declared.inscriptions.PInscription.{PInscription}
use Rattle.rn_inscript.specs.Levels.{at_first, opens_level, is_operator}
use Rattle.rn_inscript.specs.link.Stages.{ended}
use Rattle.rn_inscript.specs.Signs.{comma, colon, minus, open_brace, open_bracket, close_bracket, open_paren, this_word, guard_word, action_word, arc_of, target_of}
use Rattle.rn_inscript.specs.Expressions.{at_spot, token_at, IsExpr, IsTerms, IsProduct, IsFactors, IsUnary, IsPrimary, IsListed, IsMoreExprs}
use Rattle.rn_inscript.specs.Inscriptions.{name_at, absent, IsInscribed}
use Rattle.rn_net.specs.declared.plain.PTransition.{PTransition}
use Rattle.rn_net.specs.Words.{semicolon}
use Rattle.rn_net.specs.Levels.{Region, IsShallow, after, begun_by, inscribed_from, is_semicolon, is_comma}
use Rattle.rn_net.specs.Levels.Region.{between, inscribing}
use Rattle.rn_net.specs.Nets.{transition_of, further_arc, AreInscribed, AreInscriptions, IsTransition}
use Rattle.rn_print.specs.Expressions.{expr_text}
use Rattle.rn_print.specs.Inscriptions.{arc_word, inscribed_text}
use Rattle.rn_print.specs.Nets.{go_together, goes_on, added_text, later_text, inscriptions_text, transition_text}
use Rattle.rn_print.specs.SameButSpots.{first_spot, expr_unplaced, name_unplaced, inscribed_unplaced, inscription_unplaced, transition_unplaced}
use Rattle.rn_print.proofs.LeftOut.{LeftOut, Covers, Matches, EndsHere}
use Rattle.rn_print.proofs.LeftOut as Left
use Rattle.rn_print.proofs.Trees.{Tree, nothing, piece, both, bytes_in, tokens_in, Stands, Stops, Reads}
use Rattle.rn_print.proofs.Atoms.{name_stands, comma_stands, close_brace_stands}
use Rattle.rn_print.proofs.Lines.{Line}
use Rattle.rn_print.proofs.ExpressionBack.{sign_tree, Alone}
use Rattle.rn_print.proofs.SpelledExpressions.{AllLegal, legal, expr_back}
use Rattle.rn_print.proofs.SpelledInscriptions.{word_tree, WordSpaced, word_stands, name_tree, colon_tree, colon_space_stands, arc_number, arc_bytes, word_of_arc, kind_of_arc, LegalName, InscribedBack, form_back}
use Rattle.rn_print.proofs.SpelledNets.{blanks, blanks_stand, line_end, ended_stands, opened, opened_stands}
use Rattle.rn_print.proofs.SpelledNets as Nets

trans_stands : WordSpaced 2 (codes "trans")
unfolding reserved_words
trans_stands rest = IsToken.word refl refl refl

-- where an inscription begins
abbrev pub start : Region
start = inscribing 0 at_first

-- lists of which each element is so
pub all_push : {A : Type 0} (P : A → Type 0) (xs : List A) (y : A) → AllByRecursion P xs → P y →
    AllByRecursion P (xs ++ y ∷ [])
all_push P [] y all is = (is, tt)
all_push P (x ∷ xs) y (here, all) is = (here, all_push P xs y all is)

-- past a token of a kind
pub past : (r : Region) (t : Token) (ts : List Token) (kind : TokenKind) → t.kind ≡ kind →
    IsShallow r (t ∷ ts) → IsShallow (after r kind) ts
past r t ts kind is h = subst (λ kind. IsShallow (after r kind) ts) is h.1

-- A token begins an inscription: it is in a region of its own from there on.
abbrev Leads : TokenKind → Type 0
Leads kind =
    (begun_by kind ≡ inscribed_from kind) × (is_semicolon kind ≡ false) × (is_comma kind ≡ false)

abbrev Begins : List Token → Type 0
Begins ts = (t : Token) × (us : List Token) × (ts ≡ t ∷ us) × Leads t.kind

begins : (t : Token) (us : List Token) (kind : TokenKind) → t.kind ≡ kind → Leads kind →
    Begins (t ∷ us)
begins t us kind is h = (t, us, refl, subst Leads (sym is) h)

primary_begins : {ts rest : List Token} {e : _} → IsPrimary ts e rest → Begins ts
primary_begins (IsPrimary.number {n = n} is) = begins _ _ (Number n) is (refl, refl, refl)
primary_begins (IsPrimary.text {s = s} is) = begins _ _ (Text s) is (refl, refl, refl)
primary_begins (IsPrimary.name {s = s} is) = begins _ _ (Name s) is (refl, refl, refl)
primary_begins (IsPrimary.this is) = begins _ _ this_word is (refl, refl, refl)
primary_begins (IsPrimary.step is a b) = begins _ _ (Name (codes "step")) is (refl, refl, refl)
primary_begins (IsPrimary.tuple is x) = begins _ _ open_bracket is (refl, refl, refl)
primary_begins (IsPrimary.list is x) = begins _ _ open_brace is (refl, refl, refl)
primary_begins (IsPrimary.list_with_tail is x a y b) = begins _ _ open_brace is (refl, refl, refl)
primary_begins (IsPrimary.parentheses is x a) = begins _ _ open_paren is (refl, refl, refl)

unary_begins : {ts rest : List Token} {e : _} → IsUnary ts e rest → Begins ts
unary_begins (IsUnary.negative is x) = begins _ _ minus is (refl, refl, refl)
unary_begins (IsUnary.primary x) = primary_begins x

product_begins : {ts rest : List Token} {e : _} → IsProduct ts e rest → Begins ts
product_begins (IsProduct.product x m) = unary_begins x

expr_begins : {ts rest : List Token} {e : _} → IsExpr ts e rest → Begins ts
expr_begins (IsExpr.sum x m) = product_begins x

arc_leads : (kind : ArcKind) → Leads (Word (arc_number kind))
arc_leads Input = (refl, refl, refl)
arc_leads Output = (refl, refl, refl)
arc_leads Test = (refl, refl, refl)
arc_leads Reserve = (refl, refl, refl)
arc_leads FlexInput = (refl, refl, refl)
arc_leads FlexOutput = (refl, refl, refl)
arc_leads Inhibit = (refl, refl, refl)
arc_leads Clear = (refl, refl, refl)

target_leads : (kind : TokenKind) (form : PForm) → target_of kind ≡ Some form → Leads kind
target_leads (Name s) form h = (refl, refl, refl)
target_leads (Word k) form h =
    let number : k ≡ 17 = grind (arith, nat_tests, common_steps) in
    subst (λ k. Leads (Word k)) (sym number) (refl, refl, refl)
target_leads (Number n) form h = (refl, refl, refl)
target_leads (Text s) form h = (refl, refl, refl)
target_leads (Sign k) form h = absurd (let no : ⊥ = cc in no)

form_begins : {ts rest : List Token} {form : PInscribed} → IsInscribed ts form rest → Begins ts
form_begins (IsInscribed.plain_arc {t = t} {kind = kind} is a) =
    begins t _ (Word (arc_number kind)) (kind_of_arc t.kind kind is) (arc_leads kind)
form_begins (IsInscribed.arc {t = t} {kind = kind} is a b x) =
    begins t _ (Word (arc_number kind)) (kind_of_arc t.kind kind is) (arc_leads kind)
form_begins (IsInscribed.guard is x) = begins _ _ guard_word is (refl, refl, refl)
form_begins (IsInscribed.print is a x) = begins _ _ action_word is (refl, refl, refl)
form_begins (IsInscribed.set is a b x) = begins _ _ action_word is (refl, refl, refl)
form_begins (IsInscribed.uplink is x) = begins _ _ colon is (refl, refl, refl)
form_begins (IsInscribed.creation {x = x} is a b d) = begins _ _ (Name x) is (refl, refl, refl)
form_begins (IsInscribed.downlink {t = t} {form = form} is a x) =
    (t, _, refl, target_leads t.kind form is)
form_begins (IsInscribed.equality x is y) = expr_begins x

begun_alike : (kind : TokenKind) → Leads kind → after start kind ≡ begun_by kind
begun_alike kind h =
    let e : after start kind ≡ inscribed_from kind = rw (h.1, h.2) refl in e ∙ sym h.0

-- the limits of a statement that is an inscription are those of the inscription
enters : {ts rest : List Token} {form : PInscribed} → IsInscribed ts form rest →
    IsShallow between ts → IsShallow start ts
enters x h =
    let b = form_begins x in
    let kind = b.0.kind in
    let here = subst (IsShallow between) b.2 h in
    subst (IsShallow start) (sym b.2) (
      rw (and-false (opens_level at_first kind), and-false (is_operator kind)) refl,
      subst (λ r. IsShallow r b.1) (sym (begun_alike kind b.3)) here.1,
    )

leaves : {ts rest : List Token} {form : PInscribed} → IsInscribed ts form rest →
    IsShallow start ts → IsShallow between ts
leaves x h =
    let b = form_begins x in
    let here = subst (IsShallow start) b.2 h in
    subst (IsShallow between) (sym b.2)
    (refl, subst (λ r. IsShallow r b.1) (begun_alike b.0.kind b.3) here.1)

-- pieces that are within the limits as an inscription, or as the last part of one, before its end
abbrev pub Near : Tree → Type 0
Near tree = (before : List ℕ) (us : List Token) → EndsHere us → IsShallow start us →
    IsShallow start (tokens_in before tree us)

abbrev pub FormNear : PInscribed → Type 0
FormNear form = Reads IsInscribed inscribed_unplaced form (inscribed_text form) Near

abbrev pub ExprNear : PExpr → Type 0
ExprNear e = Reads IsExpr expr_unplaced e (expr_text e) Near

as_few : 0 ≤ 0
as_few = omega arith

form_near : (form : PInscribed) (ts ending : List Token) → InscribedBack form ts ending →
    EndsHere ending → IsShallow start ts → FormNear form × IsShallow start ending
form_near form ts ending r ends h =
    let close = λ (before : List ℕ) (us : List Token) (e : EndsHere us).
    Left.shallow (r.beside before (ending, us) us (LeftOut.done ends e))
    (Matches.operands Covers.none as_few) h in (
      record {
        tree = r.tree;
        spells = r.spells;
        stands = r.stands;
        means = r.means;
        beside = λ before us e s. let p = close before us e in p.1 s;
      },
      (close [] ending ends).0,
    )

expr_near : (e : PExpr) (ts ending : List Token) → Alone e ts ending → EndsHere ending →
    IsShallow start ts → ExprNear e × IsShallow start ending
expr_near e ts ending r ends h =
    let close = λ (before : List ℕ) (us : List Token) (e : EndsHere us).
    Left.shallow (r.beside before (ending, us, []) us (LeftOut.done ends e))
    (Matches.operands Covers.none as_few) h in (
      record {
        tree = r.tree;
        spells = r.spells;
        stands = r.stands;
        means = r.means;
        beside = λ before us e s. let p = close before us e in p.1 s;
      },
      (close [] ending ends).0,
    )

-- `[]`, which an absent inscription stands for
black_near : (s : Spot) → ExprNear (at_spot s (F.Tuple []))
black_near s =
    let t = token_at s open_bracket in
    let u = token_at s close_bracket in
    let ending = token_at s semicolon ∷ [] in
    let is : IsExpr (t ∷ u ∷ ending) (at_spot s (F.Tuple [])) ending =
    IsExpr.sum (IsProduct.product (IsUnary.primary (IsPrimary.tuple refl (IsListed.nothing refl)))
    IsFactors.no_more_factors) IsTerms.no_more_terms in
    let back = expr_back is (tt, (tt, (tt, tt))) in
    (expr_near (at_spot s (F.Tuple [])) (t ∷ u ∷ ending) ending back.0.alone
    (token_at s semicolon, [], refl, inl refl) (refl, (refl, (refl, tt)))).0

-- The name and the expression of an arc are read back, or the whole of another inscription is.
abbrev pub FormBack : PInscribed → Type 0
FormBack (I.Arc kind place (Some e)) = LegalName place × ExprNear e
FormBack form = FormNear form

abbrev pub InscriptionBack : PInscription → Type 0
InscriptionBack i = FormBack i.form

-- after the word of an arc, and after its place and a colon
arc_start : (kind : ArcKind) → after start (Word (arc_number kind)) ≡ start
arc_start Input = refl
arc_start Output = refl
arc_start Test = refl
arc_start Reserve = refl
arc_start FlexInput = refl
arc_start FlexOutput = refl
arc_start Inhibit = refl
arc_start Clear = refl

arc_begun : (kind : ArcKind) → begun_by (Word (arc_number kind)) ≡ start
arc_begun Input = refl
arc_begun Output = refl
arc_begun Test = refl
arc_begun Reserve = refl
arc_begun FlexInput = refl
arc_begun FlexOutput = refl
arc_begun Inhibit = refl
arc_begun Clear = refl

after_colon : (t u v : Token) (ts : List Token) (kind : ArcKind) (p : List ℕ) →
    arc_of t.kind ≡ Some kind → u.kind ≡ Name p → v.kind ≡ colon →
    IsShallow start (t ∷ u ∷ v ∷ ts) → IsShallow start ts
after_colon t u v ts kind p is a b h =
    let one = past start t (u ∷ v ∷ ts) (Word (arc_number kind)) (kind_of_arc t.kind kind is) h in
    let two = subst (λ r. IsShallow r (u ∷ v ∷ ts)) (arc_start kind) one in
    past (inscribing 0 (ended [] 0)) v ts colon b (past start u (v ∷ ts) (Name p) a two)

absent_back : (kind : ArcKind) (place : PName) (s : Spot) → LegalName place →
    FormNear (I.Arc kind place (absent kind s)) → FormBack (I.Arc kind place (absent kind s))
absent_back Input place s is near = (is, black_near s)
absent_back Output place s is near = (is, black_near s)
absent_back Test place s is near = (is, black_near s)
absent_back Reserve place s is near = (is, black_near s)
absent_back FlexInput place s is near = near
absent_back FlexOutput place s is near = near
absent_back Inhibit place s is near = (is, black_near s)
absent_back Clear place s is near = near

parts_of : {ts rest : List Token} {form : PInscribed} → IsInscribed ts form rest → AllLegal ts →
    EndsHere rest → IsShallow start ts → FormNear form → FormBack form
parts_of (IsInscribed.plain_arc {u = u} {kind = kind} {p = p} is a) h ends s near =
    absent_back kind (name_at u.spot p) u.spot (legal a h.1.0) near
parts_of (IsInscribed.arc {t = t} {u = u} {v = v} {ts = ts} {rest = rest} {kind = kind} {p = p} {e = e} is a b x) h ends s near =
    let back = expr_back x h.1.1.1 in (
      legal a h.1.0,
      (expr_near e ts rest back.0.alone ends (after_colon t u v ts kind p is a b s)).0,
    )
parts_of (IsInscribed.guard is x) h ends s near = near
parts_of (IsInscribed.print is a x) h ends s near = near
parts_of (IsInscribed.set is a b x) h ends s near = near
parts_of (IsInscribed.uplink is x) h ends s near = near
parts_of (IsInscribed.creation is a b d) h ends s near = near
parts_of (IsInscribed.downlink is a x) h ends s near = near
parts_of (IsInscribed.equality x is y) h ends s near = near

form_parts : {ts rest : List Token} {form : PInscribed} → IsInscribed ts form rest → AllLegal ts →
    EndsHere rest → IsShallow start ts → FormBack form × AllLegal rest × IsShallow start rest
form_parts {ts = ts} {rest = rest} {form = form} x h ends s =
    let p = form_back x h in
    let n = form_near form ts rest p.0 ends s in (parts_of x h ends s n.0, p.1, n.1)

-- the further inscriptions of an arc
more_ends : {before all : List PExpr} {ts rest : List Token} → IsMoreExprs before ts all rest →
    EndsHere rest → EndsHere ts
more_ends IsMoreExprs.no_more_exprs ends = ends
more_ends (IsMoreExprs.more_exprs {t = t} {ts = ts} is x m) ends = (t, ts, refl, inr is)

more_parts : {before all : List PExpr} {ts rest : List Token} → IsMoreExprs before ts all rest →
    AllByRecursion ExprNear before → AllLegal ts → EndsHere rest → IsShallow start ts →
    AllByRecursion ExprNear all × AllLegal rest × IsShallow start rest
more_parts IsMoreExprs.no_more_exprs back h ends s = (back, h, s)
more_parts (IsMoreExprs.more_exprs {t = t} {ts = ts} {mid = mid} {before = before} {e = e} is x m) back h ends s =
    let q = expr_back x h.1 in
    let n = expr_near e ts mid q.0.alone (more_ends m ends) (past start t ts comma is s) in
    more_parts m (all_push ExprNear before e back n.0) q.1 ends n.1

further_back : (kind : ArcKind) (place : PName) (es : List PExpr) → LegalName place →
    AllByRecursion ExprNear es → AllByRecursion InscriptionBack (map (further_arc kind place) es)
further_back kind place [] is each = tt
further_back kind place (e ∷ es) is (one, each) = ((is, one), further_back kind place es is each)

inscribed_parts : {notation : ℕ} {ts rest : List Token} {items : List PInscription} →
    AreInscribed notation ts items rest → AllLegal ts → EndsHere rest → IsShallow between ts →
    AllByRecursion InscriptionBack items × AllLegal rest × IsShallow start rest
inscribed_parts (AreInscribed.one x) h ends s =
    let p = form_parts x h ends (enters x s) in ((p.0, tt), p.1, p.2)
inscribed_parts (AreInscribed.several {t = t} {u = u} {v = v} {ts = ts} {mid = mid} {kind = kind} {p = p} {e = e} {more = more} two is a b x m) h ends s =
    let first : IsInscribed (t ∷ u ∷ v ∷ ts) (I.Arc kind (name_at u.spot p) (Some e)) mid =
    IsInscribed.arc is a b x in
    let y = form_parts first h (more_ends m ends) (enters first s) in
    let z = more_parts m tt y.1 ends y.2 in
    ((y.0, further_back kind (name_at u.spot p) more (legal a h.1.0) z.0), z.1, z.2)

pub lines_parts : {notation : ℕ} {before items : List PInscription} {ts rest : List Token} →
    AreInscriptions notation before ts items rest → AllByRecursion InscriptionBack before →
    AllLegal ts → IsShallow between ts →
    AllByRecursion InscriptionBack items × AllLegal rest × IsShallow between rest
lines_parts AreInscriptions.no_more_inscriptions back h s = (back, h, s)
lines_parts (AreInscriptions.more_inscriptions {u = u} {mid = mid} {before = before} {more = more} x e m) back h s =
    let p = inscribed_parts x h (u, mid, refl, inl e) s in
    lines_parts m (each_append InscriptionBack before more back p.0) p.1.1
    (past start u mid semicolon e p.2)

-- inscriptions with their semicolons
data AreLines (notation : ℕ) : List Token → List PInscription → List Token → Type 0 where
  no_lines : {rest : List Token} → AreLines notation rest [] rest
  one_line : {u : Token} {ts mid rest : List Token} {some others : List PInscription} →
      AreInscribed notation ts some (u ∷ mid) → u.kind ≡ semicolon →
      AreLines notation mid others rest → AreLines notation ts (some ++ others) rest

lines_are : {notation : ℕ} {ts rest : List Token} {items : List PInscription}
    (before : List PInscription) → AreLines notation ts items rest →
    AreInscriptions notation before ts (before ++ items) rest
lines_are {notation = notation} {ts = ts} before AreLines.no_lines =
    subst (λ all. AreInscriptions notation before ts all ts) (sym (append-nil before))
    AreInscriptions.no_more_inscriptions
lines_are {notation = notation} {rest = rest} before (AreLines.one_line {mid = mid} {some = some} {others = others} x e later) =
    AreInscriptions.more_inscriptions x e
    (subst (λ all. AreInscriptions notation (before ++ some) mid all rest)
    (append_assoc before some others) (lines_are (before ++ some) later))

-- whether an inscription is an arc with an expression
abbrev IsLabelled : PInscribed → Type 0
IsLabelled (I.Arc kind place (Some e)) = Unit {0}
IsLabelled _ = ⊥

-- arcs as an inscription, with these expressions
abbrev further : PInscribed → List PExpr → List PInscription
further (I.Arc kind place e) more = map (further_arc kind place) more
further _ more = []

-- What follows an inscription: its line ends, or goes on with more expressions. What follows it is
-- these inscriptions, but for spots.
data Follow (notation : ℕ) (form : PInscribed) (items : List PInscription) :
    List Token → List Token → Type 0 where
  line_ends : {u : Token} {mid rest : List Token} {others : List PInscription} → u.kind ≡ semicolon →
      AreLines notation mid others rest →
      map inscription_unplaced others ≡ map inscription_unplaced items →
      Follow notation form items (u ∷ mid) rest
  goes_further : {u : Token} {ts mid rest : List Token} {others : List PInscription} (more : List PExpr) →
      notation ≡ 2 → IsLabelled form →
      ((before : List PExpr) → IsMoreExprs before ts (before ++ more) (u ∷ mid)) →
      u.kind ≡ semicolon → AreLines notation mid others rest →
      map inscription_unplaced (further form more ++ others) ≡ map inscription_unplaced items →
      Follow notation form items ts rest

-- the text of what follows an inscription is read back
record LaterBack (notation : ℕ) (form : PInscribed) (items : List PInscription) (text : List ℕ) : Type 0 where
  pub tree : Tree
  pub spells : bytes_in tree ≡ text
  pub stands : (rest : List ℕ) → Stands tree rest
  pub stops : (rest : List ℕ) → Stops (bytes_in tree ++ rest)
  pub means : (before : List ℕ) (rest : List Token) →
      Follow notation form items (tokens_in before tree rest) rest
  pub shallow : (before : List ℕ) (rest : List Token) → IsShallow between rest →
      EndsHere (tokens_in before tree rest) × IsShallow start (tokens_in before tree rest)

-- inscriptions in some tokens that are these but for spots
abbrev Found : ℕ → List Token → List Token → List PInscription → Type 0
Found notation ts rest items =
    (others : List PInscription) × AreLines notation ts others rest
    × (map inscription_unplaced others ≡ map inscription_unplaced items)

abbrev inscription_at : Spot → PInscribed → PInscription
inscription_at spot form = record { form = form; spot = spot }

-- an inscription that is no arc with an expression, and what follows it
found_other : {notation : ℕ} {form other : PInscribed} {items : List PInscription}
    {head ts rest : List Token} (spot : Spot) → IsInscribed head other ts →
    inscribed_unplaced other ≡ inscribed_unplaced form → (IsLabelled form → ⊥) →
    Follow notation form items ts rest →
    Found notation head rest (inscription_at spot form ∷ items)
found_other {notation = notation} {form = form} {other = other} {items = items} {head = head} {rest = rest} spot x same other_form (Follow.line_ends {u = u} {mid = mid} {others = others} e lines is) =
    let b = form_begins x in
    let line : AreInscribed notation (b.0 ∷ b.1) (inscription_at b.0.spot other ∷ []) (u ∷ mid) =
    AreInscribed.one (subst (λ ts. IsInscribed ts other (u ∷ mid)) b.2 x) in (
      inscription_at b.0.spot other ∷ others,
      subst (λ ts. AreLines notation ts (inscription_at b.0.spot other ∷ others) rest) (sym b.2)
          (AreLines.one_line line e lines),
      ap (λ f. inscription_at first_spot f ∷ map inscription_unplaced others) same
          ∙ ap (λ l. inscription_at first_spot (inscribed_unplaced form) ∷ l) is,
    )
found_other spot x same other_form (Follow.goes_further more two labelled m e lines is) = absurd (other_form labelled)

-- the same arcs at other spots
arc_same : (kind other : ArcKind) (place name : PName) (e : PExpr) → kind ≡ other →
    place.text ≡ name.text →
    inscription_unplaced (further_arc kind place e) ≡ inscription_unplaced (further_arc other name e)
arc_same kind other place name e k n =
    ap (λ kind. inscription_unplaced (further_arc kind place e)) k
    ∙ ap (λ text. inscription_at first_spot (I.Arc other (name_at first_spot text) (Some (expr_unplaced e)))) n

further_same : (kind other : ArcKind) (place name : PName) (es : List PExpr)
    (others : List PInscription) → kind ≡ other → place.text ≡ name.text →
    map inscription_unplaced (map (further_arc kind place) es ++ others)
    ≡ map inscription_unplaced (map (further_arc other name) es ++ others)
further_same kind other place name [] others k n = refl
further_same kind other place name (e ∷ es) others k n =
    ap (λ i. i ∷ map inscription_unplaced (map (further_arc kind place) es ++ others))
    (arc_same kind other place name e k n)
    ∙ ap (λ l. inscription_unplaced (further_arc other name e) ∷ l)
    (further_same kind other place name es others k n)

-- an arc with its expression, and what follows it
found_arc : {notation : ℕ} {kind : ArcKind} {place : PName} {e f : PExpr} {items : List PInscription}
    {t u v : Token} {us ts rest : List Token} (spot : Spot) → arc_of t.kind ≡ Some kind →
    u.kind ≡ Name place.text → v.kind ≡ colon → IsExpr us f ts →
    expr_unplaced f ≡ expr_unplaced e → Follow notation (I.Arc kind place (Some e)) items ts rest →
    Found notation (t ∷ u ∷ v ∷ us) rest (inscription_at spot (I.Arc kind place (Some e)) ∷ items)
found_arc {notation = notation} {kind = kind} {place = place} {e = e} {f = f} {t = t} {u = u} spot is a b x same (Follow.line_ends {others = others} end lines l) =
    let arc = I.Arc kind (name_at u.spot place.text) (Some f) in (
      inscription_at t.spot arc ∷ others,
      AreLines.one_line (AreInscribed.one (IsInscribed.arc is a b x)) end lines,
      ap (λ f. inscription_at first_spot (I.Arc kind (name_unplaced place) (Some f)) ∷ map inscription_unplaced others) same
          ∙ ap (λ l. inscription_at first_spot (I.Arc kind (name_unplaced place) (Some (expr_unplaced e))) ∷ l) l,
    )
found_arc {notation = notation} {kind = kind} {place = place} {e = e} {f = f} {t = t} {u = u} spot is a b x same (Follow.goes_further {others = others} more two labelled m end lines l) =
    let name = name_at u.spot place.text in
    let arc = I.Arc kind name (Some f) in (
      inscription_at t.spot arc ∷ (map (further_arc kind name) more ++ others),
      AreLines.one_line (AreInscribed.several two is a b x (m [])) end lines,
      ap (λ f. inscription_at first_spot (I.Arc kind (name_unplaced place) (Some f))
          ∷ map inscription_unplaced (map (further_arc kind name) more ++ others)) same
          ∙ ap (λ l. inscription_at first_spot (I.Arc kind (name_unplaced place) (Some (expr_unplaced e))) ∷ l)
          (further_same kind kind name place more others refl refl ∙ l),
    )

-- an arc that goes on in the line of the one before it
joined_on : {notation : ℕ} {kind other : ArcKind} {place name : PName} {e f g : PExpr}
    {items : List PInscription} {c : Token} {us ts rest : List Token} (spot : Spot) →
    notation ≡ 2 → kind ≡ other → place.text ≡ name.text → c.kind ≡ comma → IsExpr us g ts →
    expr_unplaced g ≡ expr_unplaced f →
    Follow notation (I.Arc other name (Some f)) items ts rest →
    Follow notation (I.Arc kind place (Some e)) (inscription_at spot (I.Arc other name (Some f)) ∷ items)
    (c ∷ us) rest
joined_on {kind = kind} {other = other} {place = place} {name = name} {f = f} {g = g} spot two k n is x same (Follow.line_ends {others = others} end lines l) =
    Follow.goes_further (g ∷ []) two tt (λ before. IsMoreExprs.more_exprs is x IsMoreExprs.no_more_exprs) end lines
    (further_same kind other place name (g ∷ []) others k n
    ∙ ap (λ h. inscription_at first_spot (I.Arc other (name_unplaced name) (Some h)) ∷ map inscription_unplaced others) same
    ∙ ap (λ l. inscription_at first_spot (I.Arc other (name_unplaced name) (Some (expr_unplaced f))) ∷ l) l)
joined_on {kind = kind} {other = other} {place = place} {name = name} {f = f} {g = g} {ts = ts} spot two k n is x same (Follow.goes_further {u = u} {mid = mid} {others = others} more also labelled m end lines l) =
    let whole = λ (before : List PExpr).
    subst (λ all. IsMoreExprs (before ++ g ∷ []) ts all (u ∷ mid))
    (append_assoc before (g ∷ []) more) (m (before ++ g ∷ [])) in
    Follow.goes_further (g ∷ more) two tt (λ before. IsMoreExprs.more_exprs is x (whole before)) end lines
    (further_same kind other place name (g ∷ more) others k n
    ∙ ap (λ h. inscription_at first_spot (I.Arc other (name_unplaced name) (Some h))
    ∷ map inscription_unplaced (map (further_arc other name) more ++ others)) same
    ∙ ap (λ l. inscription_at first_spot (I.Arc other (name_unplaced name) (Some (expr_unplaced f))) ∷ l) l)

-- the lines of an inscription and those that follow it
abbrev ItemsBack : ℕ → List PInscription → List ℕ → Type 0
ItemsBack notation items text = Line (AreLines notation) (map inscription_unplaced) items text

abbrev line_text : PInscribed → List ℕ → List ℕ
line_text form later = codes "    " ++ inscribed_text form ++ later

line_of_other : (notation : ℕ) (form : PInscribed) (spot : Spot) (items : List PInscription)
    (later : List ℕ) → (IsLabelled form → ⊥) → FormNear form →
    LaterBack notation form items later →
    ItemsBack notation (inscription_at spot form ∷ items) (line_text form later)
line_of_other notation form spot items later other_form r l = record {
  tree = both (both blanks blanks) (both r.tree l.tree);
  spells =
      ap (λ t. codes "    " ++ (t ++ bytes_in l.tree)) r.spells
      ∙ ap (λ t. codes "    " ++ (inscribed_text form ++ t)) l.spells;
  stands = λ rest.
      let after = bytes_in l.tree ++ rest in
      let all = (bytes_in r.tree ++ bytes_in l.tree) ++ rest in (
        (blanks_stand (codes "  " ++ all), blanks_stand all),
        (r.stands after (l.stops rest), l.stands rest),
      );
  means = λ before rest.
      let here = before ++ codes "    " in
      let ts = tokens_in (here ++ bytes_in r.tree) l.tree rest in
      let m = r.means here ts in
      found_other spot m.1 m.2 other_form (l.means (here ++ bytes_in r.tree) rest);
  shallow = λ before rest h.
      let here = before ++ codes "    " in
      let ts = tokens_in (here ++ bytes_in r.tree) l.tree rest in
      let m = r.means here ts in
      let s = l.shallow (here ++ bytes_in r.tree) rest h in
      leaves m.1 (r.beside here ts s.0 s.1);
}

line_of_arc : (notation : ℕ) (kind : ArcKind) (place : PName) (e : PExpr) (spot : Spot)
    (items : List PInscription) (later : List ℕ) → LegalName place → ExprNear e →
    LaterBack notation (I.Arc kind place (Some e)) items later →
    ItemsBack notation (inscription_at spot (I.Arc kind place (Some e)) ∷ items)
    (line_text (I.Arc kind place (Some e)) later)
line_of_arc notation kind place e spot items later is r l =
    let word = word_tree (arc_number kind) (arc_bytes kind) in
    let p = place.text in
    let front = bytes_in word ++ p in
    let arc = front ++ (codes ": " ++ bytes_in r.tree) in record {
      tree = both (both blanks blanks) (both (both (both word (name_tree p)) (both colon_tree r.tree)) l.tree);
      spells =
          ap (λ t. codes "    " ++ (((t ++ p) ++ (codes ": " ++ bytes_in r.tree)) ++ bytes_in l.tree)) (word_of_arc kind).1
          ∙ ap (λ t. codes "    " ++ (((arc_word kind ++ p) ++ (codes ": " ++ t)) ++ bytes_in l.tree)) r.spells
          ∙ ap (λ t. codes "    " ++ (((arc_word kind ++ p) ++ (codes ": " ++ expr_text e)) ++ t)) l.spells;
      stands = λ rest.
          let after = bytes_in l.tree ++ rest in
          let all = (arc ++ bytes_in l.tree) ++ rest in
          let label = (codes ": " ++ bytes_in r.tree) ++ after in (
            (blanks_stand (codes "  " ++ all), blanks_stand all),
            (
              (
                (
                  word_stands (arc_number kind) (arc_bytes kind) (p ++ label) (word_of_arc kind).0,
                  name_stands p label is refl,
                ),
                (colon_space_stands (bytes_in r.tree ++ after), r.stands after (l.stops rest)),
              ),
              l.stands rest,
            ),
          );
      means = λ before rest.
          let here = before ++ codes "    " in
          let ts = tokens_in (here ++ arc) l.tree rest in
          let m = r.means ((here ++ front) ++ codes ": ") ts in
          let t = token_after here (Word (arc_number kind)) (arc_bytes kind) in
          let u = token_after (here ++ bytes_in word) (Name p) p in
          let v = token_after (here ++ front) colon (codes ":") in
          found_arc {t = t} {u = u} {v = v} spot (word_of_arc kind).2 refl refl m.1 m.2
          (l.means (here ++ arc) rest);
      shallow = λ before rest h.
          let here = before ++ codes "    " in
          let ts = tokens_in (here ++ arc) l.tree rest in
          let s = l.shallow (here ++ arc) rest h in
          let u = token_after (here ++ bytes_in word) (Name p) p in
          let v = token_after (here ++ front) colon (codes ":") in
          let us = tokens_in ((here ++ front) ++ codes ": ") r.tree ts in
          let x = r.beside ((here ++ front) ++ codes ": ") ts s.0 s.1 in
          (refl, subst (λ r. IsShallow r (u ∷ v ∷ us)) (sym (arc_begun kind)) (refl, (refl, x)));
    }

line_of : (notation : ℕ) (form : PInscribed) (spot : Spot) (items : List PInscription)
    (later : List ℕ) → FormBack form → LaterBack notation form items later →
    ItemsBack notation (inscription_at spot form ∷ items) (line_text form later)
line_of notation (I.Arc kind place (Some e)) spot items later back l =
    line_of_arc notation kind place e spot items later back.0 back.1 l
line_of notation (I.Arc kind place None) spot items later back l =
    line_of_other notation (I.Arc kind place None) spot items later (λ x. x) back l
line_of notation (I.Guard c) spot items later back l =
    line_of_other notation (I.Guard c) spot items later (λ x. x) back l
line_of notation (I.Print e) spot items later back l =
    line_of_other notation (I.Print e) spot items later (λ x. x) back l
line_of notation (I.Set x e) spot items later back l =
    line_of_other notation (I.Set x e) spot items later (λ x. x) back l
line_of notation (I.Uplink ch es) spot items later back l =
    line_of_other notation (I.Uplink ch es) spot items later (λ x. x) back l
line_of notation (I.New x n) spot items later back l =
    line_of_other notation (I.New x n) spot items later (λ x. x) back l
line_of notation (I.Downlink e ch es) spot items later back l =
    line_of_other notation (I.Downlink e ch es) spot items later (λ x. x) back l
line_of notation (I.Equality a b) spot items later back l =
    line_of_other notation (I.Equality a b) spot items later (λ x. x) back l

-- one word is the word of one kind
abbrev kind_of_word : List ℕ → ArcKind
kind_of_word (a ∷ b ∷ c ∷ []) = Input
kind_of_word (a ∷ b ∷ c ∷ d ∷ []) = Output
kind_of_word (a ∷ b ∷ c ∷ d ∷ e ∷ []) = Test
kind_of_word (a ∷ b ∷ c ∷ d ∷ e ∷ f ∷ []) = Clear
kind_of_word (a ∷ b ∷ c ∷ d ∷ e ∷ f ∷ g ∷ []) = FlexInput
kind_of_word (a ∷ rest) =
    if nat_eq a 114 then Reserve else if nat_eq a 102 then FlexOutput else Inhibit
kind_of_word [] = Input

kind_back : (kind : ArcKind) → kind_of_word (arc_word kind) ≡ kind
kind_back Input = refl
kind_back Output = refl
kind_back Test = refl
kind_back Reserve = refl
kind_back FlexInput = refl
kind_back FlexOutput = refl
kind_back Inhibit = refl
kind_back Clear = refl

same_kind : (kind other : ArcKind) → arc_word kind ≡ arc_word other → kind ≡ other
same_kind kind other e = sym (kind_back kind) ∙ ap kind_of_word e ∙ kind_back other

is_two : (n : ℕ) → nat_eq n 2 ≡ true → n ≡ 2
is_two n h = grind (arith, nat_tests, common_steps)

-- a comma and a space
abbrev comma_tree : Tree
comma_tree = both (sign_tree 6 (codes ",")) (piece (gap (codes " ")))

-- what goes on in the line of an inscription
goes_on_back : (notation : ℕ) (kind other : ArcKind) (place name : PName) (e f : PExpr) (spot : Spot)
    (items : List PInscription) (later : List ℕ) → notation ≡ 2 → kind ≡ other →
    place.text ≡ name.text → ExprNear f →
    LaterBack notation (I.Arc other name (Some f)) items later →
    LaterBack notation (I.Arc kind place (Some e)) (inscription_at spot (I.Arc other name (Some f)) ∷ items)
    (codes ", " ++ expr_text f ++ later)
goes_on_back notation kind other place name e f spot items later two k n r l = record {
  tree = both comma_tree (both r.tree l.tree);
  spells =
      ap (λ t. codes ", " ++ (t ++ bytes_in l.tree)) r.spells
      ∙ ap (λ t. codes ", " ++ (expr_text f ++ t)) l.spells;
  stands = λ rest. (
    (comma_stands (codes " " ++ ((bytes_in r.tree ++ bytes_in l.tree) ++ rest)), IsGap.blank refl),
    (r.stands (bytes_in l.tree ++ rest) (l.stops rest), l.stands rest),
  );
  stops = λ rest. refl;
  means = λ before rest.
      let here = before ++ codes ", " in
      let ts = tokens_in (here ++ bytes_in r.tree) l.tree rest in
      let m = r.means here ts in
      joined_on {c = token_after before comma (codes ",")} {us = tokens_in here r.tree ts} spot two k n refl
      m.1 m.2 (l.means (here ++ bytes_in r.tree) rest);
  shallow = λ before rest h.
      let here = before ++ codes ", " in
      let ts = tokens_in (here ++ bytes_in r.tree) l.tree rest in
      let s = l.shallow (here ++ bytes_in r.tree) rest h in
      let c = token_after before comma (codes ",") in
      let x = r.beside here ts s.0 s.1 in
      ((c, tokens_in here r.tree ts, refl, inr refl), (refl, x));
}

together_back : (notation : ℕ) (form other : PInscribed) (spot : Spot) (items : List PInscription)
    (later : List ℕ) → notation ≡ 2 → go_together form other ≡ true → FormBack other →
    LaterBack notation other items later →
    LaterBack notation form (inscription_at spot other ∷ items) (added_text other ++ later)
together_back notation (I.Arc kind place (Some e)) (I.Arc other name (Some f)) spot items later two is back l =
    let words = pointwise nat_eq (arc_word kind) (arc_word other) in
    let names = pointwise nat_eq place.text name.text in
    let k = same_kind kind other (same_numbers (arc_word kind) (arc_word other) (and_left words names is)) in
    let n = same_numbers place.text name.text (and_right words names is) in
    goes_on_back notation kind other place name e f spot items later two k n back.1 l
together_back notation _ _ spot items later two is back l = absurd (true≢false (sym is))

-- what begins a line of its own
line_back : (notation : ℕ) (form other : PInscribed) (spot : Spot) (items : List PInscription)
    (later : List ℕ) → FormBack other → LaterBack notation other items later →
    LaterBack notation form (inscription_at spot other ∷ items)
    (codes ";\n    " ++ inscribed_text other ++ later)
line_back notation form other spot items later back l =
    let r = line_of notation other spot items later back l in record {
      tree = both Nets.ended r.tree;
      spells = ap (λ t. codes ";\n" ++ t) r.spells;
      stands = λ rest. (ended_stands (bytes_in r.tree ++ rest), r.stands rest);
      stops = λ rest. refl;
      means = λ before rest.
          let m = r.means (before ++ codes ";\n") rest in Follow.line_ends refl m.1 m.2;
      shallow = λ before rest h.
          let w = token_after before semicolon (codes ";") in
          let us = tokens_in (before ++ codes ";\n") r.tree rest in
          ((w, us, refl, inl refl), (refl, r.shallow (before ++ codes ";\n") rest h));
    }

later_back : (notation : ℕ) (before : PInscription) (items : List PInscription) →
    AllByRecursion InscriptionBack items →
    LaterBack notation before.form items (later_text notation before items)
later_back notation before [] each = record {
  tree = Nets.ended;
  spells = refl;
  stands = ended_stands;
  stops = λ rest. refl;
  means = λ before rest. Follow.line_ends refl AreLines.no_lines refl;
  shallow = λ before rest h.
      ((token_after before semicolon (codes ";"), rest, refl, inl refl), (refl, h));
}
later_back notation before (item ∷ items) (one, each) =
    by (goes_on notation before item) refl (later_back notation item items each)
  where
    by : (b : Bool) → goes_on notation before item ≡ b →
        LaterBack notation item.form items (later_text notation item items) →
        LaterBack notation before.form (item ∷ items) (later_text notation before (item ∷ items))
    by true e l =
        let later = later_text notation item items in
        let two = is_two notation (and_left (nat_eq notation 2) (go_together before.form item.form) e) in
        subst (LaterBack notation before.form (item ∷ items))
        (ap (λ b. (if b then added_text item.form else codes ";\n    " ++ inscribed_text item.form) ++ later) (sym e))
        (together_back notation before.form item.form item.spot items later two
        (and_right (nat_eq notation 2) (go_together before.form item.form) e) one l)
    by false e l =
        let later = later_text notation item items in
        subst (LaterBack notation before.form (item ∷ items))
        (ap (λ b. (if b then added_text item.form else codes ";\n    " ++ inscribed_text item.form) ++ later) (sym e))
        (line_back notation before.form item.form item.spot items later one l)

-- the inscriptions of a transition
inscriptions_back : (notation : ℕ) (items : List PInscription) →
    AllByRecursion InscriptionBack items → ItemsBack notation items (inscriptions_text notation items)
inscriptions_back notation [] each = record {
  tree = nothing;
  spells = refl;
  stands = λ rest. tt;
  means = λ before rest. ([], AreLines.no_lines, refl);
  shallow = λ before rest h. h;
}
inscriptions_back notation (item ∷ items) (one, each) =
    line_of notation item.form item.spot items (later_text notation item items) one
    (later_back notation item items each)

-- transitions, whose name and inscriptions are read back
abbrev pub TransitionBack : PTransition → Type 0
TransitionBack t = LegalName t.name × AllByRecursion InscriptionBack t.inscriptions

pub transition_line : (notation : ℕ) (t : PTransition) → TransitionBack t →
    Line (IsTransition notation) transition_unplaced t (transition_text notation t)
transition_line notation t (is, each) =
    let name = t.name in
    let r = inscriptions_back notation t.inscriptions each in
    let word = both blanks (word_tree 2 (codes "trans")) in
    let close = both (both blanks (sign_tree 1 (codes "}"))) line_end in record {
      tree = both (both (both (both word (name_tree name.text)) opened) r.tree) close;
      spells =
          ap (λ t. codes "  trans " ++ name.text ++ codes " {\n" ++ t ++ codes "  }\n") r.spells;
      stands = λ rest.
          let end = codes "  }\n" ++ rest in
          let lines = bytes_in r.tree ++ end in (
            (
              (
                (
                  (
                    blanks_stand (codes "trans " ++ (name.text ++ (codes " {\n" ++ lines))),
                    word_stands 2 (codes "trans") (name.text ++ (codes " {\n" ++ lines)) trans_stands,
                  ),
                  name_stands name.text (codes " {\n" ++ lines) is refl,
                ),
                opened_stands lines,
              ),
              r.stands end,
            ),
            (
              (blanks_stand (codes "}\n" ++ rest), close_brace_stands (codes "\n" ++ rest)),
              IsGap.blank refl,
            ),
          );
      means = λ before rest.
          let u = token_after (before ++ codes "  trans ") (Name name.text) name.text in
          let front = (codes "  trans " ++ name.text) ++ codes " {\n" in
          let w = token_after ((before ++ (front ++ bytes_in r.tree)) ++ codes "  ") (Sign 1) (codes "}") in
          let m = r.means (before ++ front) (w ∷ rest) in (
            transition_of (name_at u.spot name.text) m.0,
            IsTransition.transition refl refl refl (lines_are [] m.1) refl,
            ap (λ items. transition_of (name_unplaced name) items) m.2,
          );
      shallow = λ before rest h.
          let front = (codes "  trans " ++ name.text) ++ codes " {\n" in
          let w = token_after ((before ++ (front ++ bytes_in r.tree)) ++ codes "  ") (Sign 1) (codes "}") in
          (refl, (refl, (refl, r.shallow (before ++ front) (w ∷ rest) (refl, h))));
    }
