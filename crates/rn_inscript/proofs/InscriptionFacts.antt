-- From the form of an inscription to the inscription.
use Rattle.rn_inscript.proofs.Names.{◌≡◌, ℕ, List, [], ◌∷◌, ◌++◌, drop, sym, ◌∙◌, ap, subst, Ok, Token, InscriptFault, PInscribed, PInscription, IsInscribed, IsInscription, Wholes, IsPrefix, IsLongest, IsReading, IsRefusal, IsAnswer}
use Rattle.rn_inscript.specs.declared.fault.InscriptFault.TheVariants as Fault
use Rattle.rn_inscript.proofs.ReadingFacts.{wholes}
use Rattle.rn_inscript.proofs.InscriptionPhrases.{inscribed-some}

-- the tokens are of some form, and nothing else
abbrev pub IsForm : Wholes PInscribed
IsForm = wholes IsInscribed

form-of : {ts : List Token} {i : PInscription} → IsInscription ts i → IsForm ts i.form
form-of (IsInscription.inscription x) = x

some-inscription : (ts : List Token) (form : PInscribed) → IsForm ts form → (i : PInscription) × IsInscription ts i
some-inscription [] form x = absurd (inscribed-some x)
some-inscription (t ∷ ts) form x = (_, IsInscription.inscription x)

prefix-to : (taken : List Token) → IsPrefix IsForm taken → IsPrefix IsInscription taken
prefix-to taken p = let i = some-inscription (taken ++ p.0) p.1 p.2 in (p.0, i.0, i.1)

prefix-from : (taken : List Token) → IsPrefix IsInscription taken → IsPrefix IsForm taken
prefix-from taken p = (p.0, p.1.form, form-of p.2)

longest-to : {tokens taken : List Token} → IsLongest IsForm tokens taken → IsLongest IsInscription tokens taken
longest-to {taken = taken} l = record {
  left = l.left;
  parts = l.parts;
  prefix = prefix-to taken l.prefix;
  longest = λ others rest e p. l.longest others rest e (prefix-from others p);
}

whole-to : (t : Token) (others taken left : List Token) (form : PInscribed) → t ∷ others ≡ taken ++ left → IsForm taken form → IsInscription taken (record { form = form; spot = t.spot })
whole-to t others [] left form e x = absurd (inscribed-some x)
whole-to t others (u ∷ us) left form e x = let h : t ≡ u = cc in subst (λ v. IsInscription (u ∷ us) (record { form = form; spot = v.spot })) (sym h) (IsInscription.inscription x)

spot-of : {ts : List Token} {i : PInscription} (t : Token) (others left : List Token) → t ∷ others ≡ ts ++ left → IsInscription ts i → i.spot ≡ t.spot
spot-of t others left e (IsInscription.inscription {t = u} x) = let h : t ≡ u = cc in ap (λ v. v.spot) (sym h)

only-to : {taken : List Token} (others left : List Token) {form : PInscribed} (t : Token) → t ∷ others ≡ taken ++ left → ((b : PInscribed) → IsForm taken b → b ≡ form) →
    (i : PInscription) → IsInscription taken i → i ≡ record { form = form; spot = t.spot }
only-to others left {form = form} t e only i x =
    ap (λ f. record { form = f; spot = i.spot }) (only i.form (form-of x)) ∙ ap (λ s. record { form = form; spot = s }) (spot-of t others left e x)

-- what was read as a form is read as an inscription, with the spot of the first token
pub answer_to : {tokens others : List Token} {at end : ℕ} {form : PInscribed} (t : Token) → drop at tokens ≡ t ∷ others → IsAnswer IsForm tokens at (Ok (form, end)) →
    IsAnswer IsInscription tokens at (Ok (record { form = form; spot = t.spot }, end))
answer_to {others = others} {form = form} t next s = let r = s.0 in (
  record {
    taken = r.taken;
    longest = longest-to r.longest;
    whole = whole-to t others r.taken r.longest.left form (sym next ∙ r.longest.parts) r.whole;
    within = r.within;
    ends = r.ends;
  },
  only-to others r.longest.left t (sym next ∙ r.longest.parts) s.1,
)

pub refusal_to : (tokens : List Token) (at : ℕ) (fault : InscriptFault) → IsRefusal IsForm tokens at fault → IsRefusal IsInscription tokens at fault
refusal_to tokens at (Fault.P2 k) s = record {
  taken = s.taken;
  longest = longest-to s.longest;
  not_whole = λ i x. s.not_whole i.form (form-of x);
  within = s.within;
  stops = s.stops;
}
refusal_to tokens at (Fault.P5 k) d = record {
  before = d.before;
  token = d.token;
  left = d.left;
  parts = d.parts;
  prefix = prefix-to (d.before ++ d.token ∷ []) d.prefix;
  within = d.within;
  far = d.far;
  stands = d.stands;
}
refusal_to tokens at (Fault.NoMemory _) s = tt

-- a whole form has a first token
pub not_empty : {tokens : List Token} {at end : ℕ} {form : PInscribed} → IsReading IsForm tokens at form end → drop at tokens ≡ [] → ⊥
not_empty r none = empty r.taken (sym none ∙ r.longest.parts) r.whole
  where
    empty : (taken : List Token) {form : PInscribed} → [] ≡ taken ++ r.longest.left → IsForm taken form → ⊥
    empty [] e x = inscribed-some x
    empty (t ∷ ts) e x = cc
