-- Reading of nodes, in both directions.
use Rattle.std.proofs.Common.{◌≡◌, ◌<◌, ◌≤◌, ◌+◌, ◌-◌, ℕ, zero, suc, List, [], ◌∷◌, ◌++◌, length, refl, sym, ap, ◌∙◌, subst, arith, append_assoc, length-append}
use Rattle.std.specs.Prelude.{Option, Some, None}
use Rattle.std.proofs.lemmas.Option.{same_Some}
use Rattle.rn_value.specs.TextLaws.{IsDelimited}
use Rattle.rn_value.specs.Characters.{is_name_byte}
use Rattle.rn_value.specs.Words.{IsName}
use Rattle.rn_value.proofs.Spans.{Stops}
use Rattle.rn_lines.specs.ValueText.{Said, Seen, IsValue, Begins, most_brackets}
use Rattle.rn_lines.specs.NodeText.{Given, NodeSaid, IsInstance, AreGiven, IsNode}
use Rattle.rn_lines.specs.Reading.{◌>>=◌, byte_at, name_at, inst_at, seen_at}
use Rattle.rn_lines.specs.NodeReading.{given_at, all_given_at, node_at}
use Rattle.rn_lines.specs.declared.unread.Unread.{Unread}
use Rattle.rn_lines.specs.declared.unread.Unread.TheVariants as unread
use Rattle.rn_lines.specs.Reading.{Misses}
use Rattle.rn_lines.proofs.NumeralReading.{bind_some}
use Rattle.rn_lines.proofs.InstanceReading.{byte_reads, byte_read, name_reads, name_read, inst_reads, inst_read}
use Rattle.rn_lines.proofs.Beginnings.{seen_reads, seen_read}

-- the end, or a space
delimited : {gs : List Given} {a : List ℕ} → AreGiven gs a → IsDelimited a
delimited AreGiven.none = tt
delimited (AreGiven.some is t others) = refl

given_length : {gs : List Given} {a : List ℕ} → AreGiven gs a → length gs ≤ length a
given_length AreGiven.none = omega arith
given_length (AreGiven.some {name = name} {text = text} {rest = rest} is t others) =
    let h = given_length others in
    let size = length-append name (61 ∷ (text ++ rest)) in
    let inner = length-append text rest in
    omega (arith, h, size, inner)

-- the readers of one variable, stage by stage
abbrev as_given : List ℕ → Seen → Option (Given × List ℕ)
as_given name v = Some (record { variable = name; value = v.value; named = v.named }, v.rest)

abbrev after_name : List ℕ × List ℕ → Option (Given × List ℕ)
after_name n = byte_at 61 n.1 >>= λ text. seen_at text >>= as_given n.0

abbrev after_space : List ℕ → Option (Given × List ℕ)
after_space word = name_at word >>= after_name

given_reads : (g : Given) (text rest : List ℕ) → IsName g.variable → Begins most_brackets (text ++ rest) (record { value = g.value; named = g.named; rest = rest }) →
    given_at (32 ∷ (g.variable ++ (61 ∷ (text ++ rest)))) ≡ Some (g, rest)
given_reads g text rest is begins =
    ap (λ o. o >>= after_space) (byte_reads 32 (g.variable ++ (61 ∷ (text ++ rest))))
    ∙ ap (λ o. o >>= after_name) (name_reads g.variable (61 ∷ (text ++ rest)) is refl)
    ∙ ap (λ o. o >>= λ text. seen_at text >>= as_given g.variable) (byte_reads 61 (text ++ rest))
    ∙ ap (λ o. o >>= as_given g.variable) (seen_reads (text ++ rest) (record { value = g.value; named = g.named; rest = rest }) begins)

record GivenAt (bytes : List ℕ) (x : Given × List ℕ) : Type 0 where
  text : List ℕ
  whole : bytes ≡ 32 ∷ (x.0.variable ++ (61 ∷ (text ++ x.1)))
  is : IsName x.0.variable
  stands : IsValue most_brackets x.0.value x.0.named text

given_read : (bytes : List ℕ) (x : Given × List ℕ) → given_at bytes ≡ Some x → GivenAt bytes x
given_read bytes x e =
    let space = bind_some (byte_at 32 bytes) after_space x e in
    let name = bind_some (name_at space.0) after_name x space.2 in
    let sign = bind_some (byte_at 61 name.0.1) (λ text. seen_at text >>= as_given name.0.0) x name.2 in
    let v = bind_some (seen_at sign.0) (as_given name.0.0) x sign.2 in
    let named = name_read space.0 name.0 name.1 in
    let begins = seen_read sign.0 v.0 v.1 in
    let whole : bytes ≡ 32 ∷ (name.0.0 ++ (61 ∷ (begins.text ++ v.0.rest))) =
    byte_read 32 bytes space.0 space.1
    ∙ ap (λ b. 32 ∷ b) (named.0 ∙ ap (λ b. name.0.0 ++ b) (byte_read 61 name.0.1 sign.0 sign.1 ∙ ap (λ b. 61 ∷ b) begins.whole)) in
    subst (GivenAt bytes) (same_Some (record { variable = name.0.0; value = v.0.value; named = v.0.named }, v.0.rest) x v.2)
    (record { text = begins.text; whole = whole; is = named.1; stands = begins.stands })

abbrev one_more : Given → List Given → Option (List Given)
one_more g gs = Some (g ∷ gs)

all_given_reads : {gs : List Given} {a : List ℕ} → AreGiven gs a → (most : ℕ) → length gs ≤ most → all_given_at most a ≡ Some gs
all_given_reads AreGiven.none zero few = refl
all_given_reads AreGiven.none (suc most) few = refl
all_given_reads (AreGiven.some is t others) zero few = absurd (omega arith)
all_given_reads (AreGiven.some {name = name} {text = text} {rest = rest} {v = v} {named = named} is t others) (suc most) few =
    let g : Given = record { variable = name; value = v; named = named } in
    ap (λ o. o >>= λ g. all_given_at most g.1 >>= one_more g.0) (given_reads g text rest is (record { text = text; whole = refl; stands = t; delimited = delimited others }))
    ∙ ap (λ o. o >>= one_more g) (all_given_reads others most (omega arith))

all_given_read : (most : ℕ) (bytes : List ℕ) (gs : List Given) → all_given_at most bytes ≡ Some gs → AreGiven gs bytes
all_given_read zero [] gs e = subst (λ gs. AreGiven gs []) (same_Some [] gs e) AreGiven.none
all_given_read zero (c ∷ bytes) gs e = cc
all_given_read (suc most) [] gs e = subst (λ gs. AreGiven gs []) (same_Some [] gs e) AreGiven.none
all_given_read (suc most) (c ∷ bytes) gs e =
    let g = bind_some (given_at (c ∷ bytes)) (λ g. all_given_at most g.1 >>= one_more g.0) gs e in
    let more = bind_some (all_given_at most g.0.1) (one_more g.0.0) gs g.2 in
    let here = given_read (c ∷ bytes) g.0 g.1 in
    let others = all_given_read most g.0.1 more.0 more.1 in
    subst (λ gs. AreGiven gs (c ∷ bytes)) (same_Some (g.0.0 ∷ more.0) gs more.2)
    (subst (AreGiven (g.0.0 ∷ more.0)) (sym here.whole) (AreGiven.some here.is here.stands others))

-- the same of nodes
abbrev as_node : Said → List ℕ → List Given → Option NodeSaid
as_node inst name given = Some (record { inst = inst; transition = name; given = given })

abbrev after_word : Said → List ℕ × List ℕ → Option NodeSaid
after_word inst name = all_given_at (length name.1) name.1 >>= as_node inst name.0

abbrev after_inst : Said × List ℕ → Option NodeSaid
after_inst inst = byte_at 46 inst.1 >>= λ word. name_at word >>= after_word inst.0

name_stops : {gs : List Given} {a : List ℕ} → AreGiven gs a → Stops is_name_byte a
name_stops AreGiven.none = tt
name_stops (AreGiven.some is t others) = refl

pub node_reads : {x : NodeSaid} {a : List ℕ} → IsNode x a → node_at a ≡ Some x
node_reads (IsNode.node {given = given} {transition = transition} {rest = rest} (IsInstance.instance {name = name} {number = number} is low high p) named all) =
    let inst : Said = record { name = name; number = number } in
    ap (λ o. o >>= after_inst) (inst_reads is low high p (46 ∷ (transition ++ rest)))
    ∙ ap (λ o. o >>= λ word. name_at word >>= after_word inst) (byte_reads 46 (transition ++ rest))
    ∙ ap (λ o. o >>= after_word inst) (name_reads transition rest named (name_stops all))
    ∙ ap (λ o. o >>= as_node inst transition) (all_given_reads all (length rest) (given_length all))

pub node_read : (bytes : List ℕ) (x : NodeSaid) → node_at bytes ≡ Some x → IsNode x bytes
node_read bytes x e =
    let inst = bind_some (inst_at bytes) after_inst x e in
    let point = bind_some (byte_at 46 inst.0.1) (λ word. name_at word >>= after_word inst.0.0) x inst.2 in
    let name = bind_some (name_at point.0) (after_word inst.0.0) x point.2 in
    let given = bind_some (all_given_at (length name.0.1) name.0.1) (as_node inst.0.0 name.0.0) x name.2 in
    let here = inst_read bytes inst.0 inst.1 in
    let named = name_read point.0 name.0 name.1 in
    let all = all_given_read (length name.0.1) name.0.1 given.0 given.1 in
    let whole : bytes ≡ (inst.0.0.name ++ (91 ∷ here.digits ++ 93 ∷ [])) ++ (46 ∷ (name.0.0 ++ name.0.1)) =
    here.whole ∙ ap (λ b. (inst.0.0.name ++ (91 ∷ here.digits ++ 93 ∷ [])) ++ b) (byte_read 46 inst.0.1 point.0 point.1 ∙ ap (λ b. 46 ∷ b) named.0) in
    subst (λ x. IsNode x bytes) (same_Some (record { inst = inst.0.0; transition = name.0.0; given = given.0 }) x given.2)
    (subst (IsNode (record { inst = inst.0.0; transition = name.0.0; given = given.0 })) (sym whole)
    (IsNode.node (IsInstance.instance here.named here.low here.high here.stands) named.1 all))

-- Variables are read one after the other, as by a loop.
abbrev pub with_given : List Given → Option (List Given) → Option (List Given)
with_given front read = read >>= λ gs. Some (front ++ gs)

regroup : (front : List Given) (g : Given) (read : Option (List Given)) → with_given front (read >>= one_more g) ≡ with_given (front ++ g ∷ []) read
regroup front g None = refl
regroup front g (Some gs) = ap (λ (gs : List Given). Some gs) (sym (append_assoc front (g ∷ []) gs))

step : (most i : ℕ) (rest : List ℕ) → i < most → 0 < length rest → all_given_at (most - i) rest ≡ (given_at rest >>= λ g. all_given_at (most - (i + 1)) g.1 >>= one_more g.0)
step most i [] low some = absurd (omega arith)
step most i (c ∷ rest) low some =
    let k : most - i ≡ suc (most - (i + 1)) = omega arith in
    ap (λ k. all_given_at k (c ∷ rest)) k

pub given_on : (most i : ℕ) (rest next : List ℕ) (g : Given) (front new : List Given) (whole : Option (List Given)) → i < most → 0 < length rest → given_at rest ≡ Some (g, next) → new ≡ front ++ g ∷ [] →
    with_given front (all_given_at (most - i) rest) ≡ whole → with_given new (all_given_at (most - (i + 1)) next) ≡ whole
given_on most i rest next g front new whole low some read put so_far =
    ap (λ front. with_given front (all_given_at (most - (i + 1)) next)) put
    ∙ sym (regroup front g (all_given_at (most - (i + 1)) next))
    ∙ ap (λ o. with_given front (o >>= λ g. all_given_at (most - (i + 1)) g.1 >>= one_more g.0)) (sym read)
    ∙ ap (with_given front) (sym (step most i rest low some))
    ∙ so_far

pub given_ends : (e : Unread) (most i : ℕ) (rest : List ℕ) (front : List Given) (whole : Option (List Given)) → i < most → 0 < length rest → Misses e (given_at rest) →
    with_given front (all_given_at (most - i) rest) ≡ whole → Misses e whole
given_ends (unread.NoMemory _) most i rest front whole low some none so_far = tt
given_ends unread.NotThere most i rest front whole low some none so_far =
    sym so_far
    ∙ ap (with_given front) (step most i rest low some)
    ∙ ap (λ o. with_given front (o >>= λ g. all_given_at (most - (i + 1)) g.1 >>= one_more g.0)) none
