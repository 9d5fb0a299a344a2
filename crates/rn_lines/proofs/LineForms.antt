-- The forms of lines, told apart by their first bytes.
use Rattle.std.proofs.Common.{◌≡◌, ℕ, List, [], ◌∷◌, ◌++◌, Bool, true, false, cond, nat_eq, refl, sym, ap, ◌∙◌, subst, arith}
use Rattle.std.specs.Prelude.{Option, Some, None, bytes_eq}
use Rattle.std.proofs.lemmas.Bool.Decides.{nat_tests}
use Rattle.std.proofs.lemmas.Option.{same_Some, none-some}
use Rattle.std.proofs.lemmas.Slice.Eq.{bytes_eq-Decides}
use borrow.Author.Tests.{eqb-true}
use Rattle.rn_value.specs.Characters.{is_letter, is_digit}
use Rattle.rn_value.specs.Words.{reserved_words}
use Rattle.rn_value.proofs.Numerals.{IsNumeral-first}
use Rattle.rn_lines.specs.ValueText.{Said}
use Rattle.rn_lines.specs.NodeText.{NodeSaid, IsInstance, IsNode}
use Rattle.rn_lines.specs.LineText.{LeadSaid, Token, LineSaid, IsLead, IsLine, ending_text}
use Rattle.rn_lines.specs.Reading.{◌>>=◌, byte_at}
use Rattle.rn_lines.specs.NodeReading.{node_at}
use Rattle.rn_lines.specs.LineReading.{lead_at, last_at, mark_at, firing_at, fault_at, ending_at, end_or, line_at}
use Rattle.rn_lines.specs.declared.lines.Ending.{Ending}
use Rattle.rn_lines.specs.declared.lines.Ending.TheVariants.{Dead, Steps, Memory, ActionFault, InstancesFault}
use Rattle.rn_lines.proofs.NumeralReading.{bind_some}
use Rattle.rn_lines.proofs.InstanceReading.{byte_read}
use Rattle.rn_lines.proofs.NodeReadings.{node_reads, node_read}
use Rattle.rn_lines.proofs.ValueReading.{name_first}
use Rattle.rn_lines.proofs.LineReadings.{lead_reads, lead_read, last_reads, last_read, mark_reads, mark_read}

-- bytes that begin with one that passes a test
record Starts (test : ℕ → Bool) (a : List ℕ) : Type 0 where
  byte : ℕ
  rest : List ℕ
  is : a ≡ byte ∷ rest
  passes : test byte ≡ true

instance_starts : {inst : Said} {a : List ℕ} → IsInstance inst a → (more : List ℕ) → Starts is_letter (a ++ more)
instance_starts (IsInstance.instance {name = name} {digits = digits} is low high p) more =
    let f = name_first name is in
    record { byte = f.0; rest = (f.1 ++ (91 ∷ digits ++ 93 ∷ [])) ++ more; is = ap (λ name. (name ++ (91 ∷ digits ++ 93 ∷ [])) ++ more) f.2; passes = f.3 }

node_starts : {n : NodeSaid} {a : List ℕ} → IsNode n a → Starts is_letter a
node_starts (IsNode.node {transition = transition} {rest = rest} is named all) = instance_starts is (46 ∷ (transition ++ rest))

lead_starts : {l : LeadSaid} {a : List ℕ} → IsLead l a → (more : List ℕ) → Starts is_digit (a ++ more)
lead_starts (IsLead.lead {step = step} {digits = digits} p low high q) more =
    let f = IsNumeral-first p in
    record { byte = f.0; rest = (f.1 ++ (32 ∷ 119 ∷ (digits ++ 32 ∷ []))) ++ more; is = ap (λ step. (step ++ (32 ∷ 119 ∷ (digits ++ 32 ∷ []))) ++ more) f.2; passes = f.3 }

letter_apart : (c : ℕ) → is_letter c ≡ true → (nat_eq c 33 ≡ false) × (nat_eq c 43 ≡ false) × (nat_eq c 62 ≡ false) × (is_digit c ≡ false)
letter_apart c d = (grind (arith, nat_tests), grind (arith, nat_tests), grind (arith, nat_tests), grind (arith, nat_tests))

digit_apart : (c : ℕ) → is_digit c ≡ true → nat_eq c 33 ≡ false
digit_apart c d = grind (arith, nat_tests)

-- choices between two and three
second : {X : Type 0} {p : Bool} (a b : X) → p ≡ false → cond p a b ≡ b
second a b p = ap (λ p. cond p a b) p

third : {X : Type 0} {p q : Bool} (a b c : X) → p ≡ false → q ≡ false → cond p a (cond q b c) ≡ c
third a b c p q = λ i. cond (p i) a (cond (q i) b c)

middle : {X : Type 0} {p q : Bool} (a b c : X) → p ≡ false → q ≡ true → cond p a (cond q b c) ≡ b
middle a b c p q = λ i. cond (p i) a (cond (q i) b c)

-- what is made of what was read
abbrev as_fires : LeadSaid → NodeSaid → Option LineSaid
as_fires l n = Some (LineSaid.fires l n)

abbrev as_calls : LeadSaid → NodeSaid → Option LineSaid
as_calls l n = Some (LineSaid.calls l n)

abbrev as_prints : LeadSaid → Token → Option LineSaid
as_prints l t = Some (LineSaid.prints l t)

abbrev as_would_fire : NodeSaid → Option LineSaid
as_would_fire n = Some (LineSaid.would_fire n)

abbrev as_would_call : NodeSaid → Option LineSaid
as_would_call n = Some (LineSaid.would_call n)

abbrev of_firing : LeadSaid × List ℕ → Option LineSaid
of_firing x = firing_at x.0 x.1

-- The first byte decides.
first_node : (l : LeadSaid) (bytes : List ℕ) → Starts is_letter bytes → firing_at l bytes ≡ (node_at bytes >>= as_fires l)
first_node l bytes s =
    let apart = letter_apart s.byte s.passes in
    subst (λ bytes. firing_at l bytes ≡ (node_at bytes >>= as_fires l)) (sym s.is) (third _ _ _ apart.1 apart.2)

first_fault : (bytes : List ℕ) → Starts is_letter bytes → fault_at bytes ≡ (node_at bytes >>= as_would_fire)
first_fault bytes s =
    let apart = letter_apart s.byte s.passes in
    subst (λ bytes. fault_at bytes ≡ (node_at bytes >>= as_would_fire)) (sym s.is) (second _ _ apart.1)

digit_line : (bytes : List ℕ) → Starts is_digit bytes → line_at bytes ≡ (lead_at bytes >>= of_firing)
digit_line bytes s =
    subst (λ bytes. line_at bytes ≡ (lead_at bytes >>= of_firing)) (sym s.is) (middle _ _ _ (digit_apart s.byte s.passes) s.passes)

letter_line : (bytes : List ℕ) → Starts is_letter bytes → line_at bytes ≡ end_or (ending_at bytes) (mark_at bytes)
letter_line bytes s =
    let apart = letter_apart s.byte s.passes in
    subst (λ bytes. line_at bytes ≡ end_or (ending_at bytes) (mark_at bytes)) (sym s.is) (third _ _ _ apart.0 apart.3)

-- The line of an end is no mark.
ending_read : (bytes : List ℕ) (e : Ending) → ending_at bytes ≡ Some e → bytes ≡ ending_text e
ending_read bytes e found = by (bytes_eq bytes (ending_text Dead)) (bytes_eq bytes (ending_text Steps)) (bytes_eq bytes (ending_text Memory)) (bytes_eq bytes (ending_text ActionFault)) (bytes_eq bytes (ending_text InstancesFault)) refl refl refl refl refl found
  where
    is : (f : Ending) → bytes_eq bytes (ending_text f) ≡ true → Some f ≡ Some e → bytes ≡ ending_text e
    is f t same = (bytes_eq-Decides bytes (ending_text f)).0 t ∙ ap ending_text (same_Some f e same)

    by : (a b c d f : Bool) → bytes_eq bytes (ending_text Dead) ≡ a → bytes_eq bytes (ending_text Steps) ≡ b → bytes_eq bytes (ending_text Memory) ≡ c → bytes_eq bytes (ending_text ActionFault) ≡ d → bytes_eq bytes (ending_text InstancesFault) ≡ f →
        cond a (Some Dead) (cond b (Some Steps) (cond c (Some Memory) (cond d (Some ActionFault) (cond f (Some InstancesFault) None)))) ≡ Some e → bytes ≡ ending_text e
    by true b c d f p _ _ _ _ found = is Dead p found
    by false true c d f _ p _ _ _ found = is Steps p found
    by false false true d f _ _ p _ _ found = is Memory p found
    by false false false true f _ _ _ p _ found = is ActionFault p found
    by false false false false true _ _ _ _ p found = is InstancesFault p found
    by false false false false false _ _ _ _ _ found = cc

no_mark : (e : Ending) → mark_at (ending_text e) ≡ None
unfolding reserved_words
no_mark Dead = refl
no_mark Steps = refl
no_mark Memory = refl
no_mark ActionFault = refl
no_mark InstancesFault = refl

no_ending : (bytes : List ℕ) (x : LineSaid) → mark_at bytes ≡ Some x → ending_at bytes ≡ None
no_ending bytes x mark = by (ending_at bytes) refl
  where
    by : (o : Option Ending) → ending_at bytes ≡ o → o ≡ None
    by None e = refl
    by (Some e) found = absurd (none-some x (sym (ap mark_at (ending_read bytes e found) ∙ no_mark e) ∙ mark))

ending_line : (e : Ending) → line_at (ending_text e) ≡ Some (LineSaid.ends e)
ending_line Dead = refl
ending_line Steps = refl
ending_line Memory = refl
ending_line ActionFault = refl
ending_line InstancesFault = refl

-- What is a line is read.
pub line_reads : {x : LineSaid} {a : List ℕ} → IsLine x a → line_at a ≡ Some x
line_reads (IsLine.fires {l = l} {n = n} {a = a} {b = b} begins others) =
    digit_line (a ++ b) (lead_starts begins b)
    ∙ ap (λ o. o >>= of_firing) (lead_reads begins b)
    ∙ first_node l b (node_starts others)
    ∙ ap (λ o. o >>= as_fires l) (node_reads others)
line_reads (IsLine.calls {l = l} {n = n} {a = a} {b = b} begins others) =
    digit_line (a ++ (43 ∷ 32 ∷ b)) (lead_starts begins (43 ∷ 32 ∷ b))
    ∙ ap (λ o. o >>= of_firing) (lead_reads begins (43 ∷ 32 ∷ b))
    ∙ ap (λ o. o >>= as_calls l) (node_reads others)
line_reads (IsLine.prints {l = l} {v = v} {named = named} {a = a} {b = b} begins value) =
    digit_line (a ++ (62 ∷ 32 ∷ b)) (lead_starts begins (62 ∷ 32 ∷ b))
    ∙ ap (λ o. o >>= of_firing) (lead_reads begins (62 ∷ 32 ∷ b))
    ∙ ap (λ o. o >>= as_prints l) (last_reads (record { value = v; named = named }) b value)
line_reads (IsLine.ends {e = e}) = ending_line e
line_reads (IsLine.would_fire {n = n} {b = b} others) = first_fault b (node_starts others) ∙ ap (λ o. o >>= as_would_fire) (node_reads others)
line_reads (IsLine.would_call {n = n} {b = b} others) = ap (λ o. o >>= as_would_call) (node_reads others)
line_reads (IsLine.holds {inst = inst} {place = place} {a = a} {b = b} is named all) =
    let bytes : List ℕ = a ++ (46 ∷ (place ++ b)) in
    let mark = mark_reads is named all in
    letter_line bytes (instance_starts is (46 ∷ (place ++ b)))
    ∙ ap (λ o. end_or o (mark_at bytes)) (no_ending bytes _ mark)
    ∙ mark

-- What is read is a line.
spaced : (bytes rest : List ℕ) (c : ℕ) (b : ℕ) → nat_eq b c ≡ true → byte_at 32 bytes ≡ Some rest → b ∷ bytes ≡ c ∷ 32 ∷ rest
spaced bytes rest c b is space = λ i. eqb-true b c is i ∷ byte_read 32 bytes rest space i

firing_read : (l : LeadSaid) (front bytes : List ℕ) (x : LineSaid) → IsLead l front → firing_at l bytes ≡ Some x → IsLine x (front ++ bytes)
firing_read l front [] x begins e = cc
firing_read l front (c ∷ bytes) x begins e = by (nat_eq c 43) (nat_eq c 62) refl refl e
  where
    by : (p q : Bool) → nat_eq c 43 ≡ p → nat_eq c 62 ≡ q →
        cond p (byte_at 32 bytes >>= λ rest. node_at rest >>= as_calls l) (cond q (byte_at 32 bytes >>= λ rest. last_at rest >>= as_prints l) (node_at (c ∷ bytes) >>= as_fires l)) ≡ Some x → IsLine x (front ++ (c ∷ bytes))
    by true q is _ e =
        let space = bind_some (byte_at 32 bytes) (λ rest. node_at rest >>= as_calls l) x e in
        let n = bind_some (node_at space.0) (as_calls l) x space.2 in
        subst (λ x. IsLine x (front ++ (c ∷ bytes))) (same_Some (LineSaid.calls l n.0) x n.2)
        (subst (λ b. IsLine (LineSaid.calls l n.0) (front ++ b)) (sym (spaced bytes space.0 43 c is space.1)) (IsLine.calls begins (node_read space.0 n.0 n.1)))
    by false true _ is e =
        let space = bind_some (byte_at 32 bytes) (λ rest. last_at rest >>= as_prints l) x e in
        let t = bind_some (last_at space.0) (as_prints l) x space.2 in
        subst (λ x. IsLine x (front ++ (c ∷ bytes))) (same_Some (LineSaid.prints l t.0) x t.2)
        (subst (λ b. IsLine (LineSaid.prints l t.0) (front ++ b)) (sym (spaced bytes space.0 62 c is space.1)) (IsLine.prints begins (last_read space.0 t.0 t.1)))
    by false false _ _ e =
        let n = bind_some (node_at (c ∷ bytes)) (as_fires l) x e in
        subst (λ x. IsLine x (front ++ (c ∷ bytes))) (same_Some (LineSaid.fires l n.0) x n.2) (IsLine.fires begins (node_read (c ∷ bytes) n.0 n.1))

fault_read : (bytes : List ℕ) (x : LineSaid) → fault_at bytes ≡ Some x → IsLine x (33 ∷ 32 ∷ bytes)
fault_read [] x e = cc
fault_read (c ∷ bytes) x e = by (nat_eq c 43) refl e
  where
    by : (p : Bool) → nat_eq c 43 ≡ p → cond p (byte_at 32 bytes >>= λ rest. node_at rest >>= as_would_call) (node_at (c ∷ bytes) >>= as_would_fire) ≡ Some x → IsLine x (33 ∷ 32 ∷ c ∷ bytes)
    by true is e =
        let space = bind_some (byte_at 32 bytes) (λ rest. node_at rest >>= as_would_call) x e in
        let n = bind_some (node_at space.0) as_would_call x space.2 in
        subst (λ x. IsLine x (33 ∷ 32 ∷ c ∷ bytes)) (same_Some (LineSaid.would_call n.0) x n.2)
        (subst (λ b. IsLine (LineSaid.would_call n.0) (33 ∷ 32 ∷ b)) (sym (spaced bytes space.0 43 c is space.1)) (IsLine.would_call (node_read space.0 n.0 n.1)))
    by false is e =
        let n = bind_some (node_at (c ∷ bytes)) as_would_fire x e in
        subst (λ x. IsLine x (33 ∷ 32 ∷ c ∷ bytes)) (same_Some (LineSaid.would_fire n.0) x n.2) (IsLine.would_fire (node_read (c ∷ bytes) n.0 n.1))

end_read : (bytes : List ℕ) (x : LineSaid) → end_or (ending_at bytes) (mark_at bytes) ≡ Some x → IsLine x bytes
end_read bytes x e = by (ending_at bytes) refl e
  where
    by : (o : Option Ending) → ending_at bytes ≡ o → end_or o (mark_at bytes) ≡ Some x → IsLine x bytes
    by None found e = mark_read bytes x e
    by (Some end) found e =
        subst (λ x. IsLine x bytes) (same_Some (LineSaid.ends end) x e) (subst (IsLine (LineSaid.ends end)) (sym (ending_read bytes end found)) IsLine.ends)

-- bytes that are read are a line that says what was read
pub line_read : (bytes : List ℕ) (x : LineSaid) → line_at bytes ≡ Some x → IsLine x bytes
line_read [] x e = cc
line_read (c ∷ bytes) x e = by (nat_eq c 33) (is_digit c) refl e
  where
    by : (p q : Bool) → nat_eq c 33 ≡ p → cond p (byte_at 32 bytes >>= fault_at) (cond q (lead_at (c ∷ bytes) >>= of_firing) (end_or (ending_at (c ∷ bytes)) (mark_at (c ∷ bytes)))) ≡ Some x → IsLine x (c ∷ bytes)
    by true q is e =
        let space = bind_some (byte_at 32 bytes) fault_at x e in
        subst (IsLine x) (sym (spaced bytes space.0 33 c is space.1)) (fault_read space.0 x space.2)
    by false true _ e =
        let lead = bind_some (lead_at (c ∷ bytes)) of_firing x e in
        let here = lead_read (c ∷ bytes) lead.0 lead.1 in
        subst (IsLine x) (sym here.whole) (firing_read lead.0.0 here.text lead.0.1 x here.stands lead.2)
    by false false _ e = end_read (c ∷ bytes) x e
