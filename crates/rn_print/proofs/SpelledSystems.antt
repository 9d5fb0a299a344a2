-- Where some tokens stand for a net or a system, its text is read back.
use Rattle.std.proofs.Common.{◌≡◌, ℕ, pos, ◌≤◌, ◌⊎◌, inl, inr, List, [], ◌∷◌, ◌++◌, map, refl, sym, ap, ◌∙◌, subst, append_assoc, arith}
use Rattle.std.specs.Prelude.{codes, Option}
use Rattle.std.specs.List.{flat_map, AllByRecursion}
use Rattle.std.proofs.lemmas.List.{append-nil}
use Rattle.rn_value.specs.Words.{reserved_words}
use Rattle.rn_notation.specs.Tokens.{IsGap, IsToken}
use Rattle.rn_notation.specs.Reading.{gap, token, token_after}
use Rattle.rn_notation.specs.Words.{greatest_number}
use Rattle.rn_notation.specs.declared.token.Spot.{Spot}
use Rattle.rn_notation.specs.declared.token.Token.{Token}
use Rattle.rn_notation.specs.declared.token.TokenKind.{TokenKind}
use Rattle.rn_notation.specs.declared.token.TokenKind.TheVariants.{Name, Number, Sign}
use Rattle.rn_inscript.specs.declared.inscriptions.PName.{PName}
use Rattle.rn_inscript.specs.Signs.{comma, colon, open_paren, open_brace, close_brace}
use Rattle.rn_inscript.specs.Inscriptions.{name_at}
use Rattle.rn_net.specs.Words.{semicolon, net_word, place_word, trans_word, channel_word, var_word, notation_name}
use Rattle.rn_net.specs.declared.kinds.PKind.{PKind}
use Rattle.rn_net.specs.declared.constants.PConst.{PConst}
use Rattle.rn_net.specs.declared.plain.Plain.{Plain}
use Rattle.rn_net.specs.declared.plain.PChannel.{PChannel}
use Rattle.rn_net.specs.declared.plain.PVar.{PVar}
use Rattle.rn_net.specs.declared.plain.PPlace.{PPlace}
use Rattle.rn_net.specs.declared.plain.PMax.{PMax}
use Rattle.rn_net.specs.declared.plain.PTransition.{PTransition}
use Rattle.rn_net.specs.declared.plain.PNet.{PNet}
use Rattle.rn_net.specs.Nets.{var_of, plain_net_of, plain_of, IsChannel, AreMoreNames, AreVars, IsKindOfPlace, IsCapacity, AreInitial, IsPlace, IsTransition, AreParts, IsNet, AreItems, IsSystem}
use Rattle.rn_print.specs.Nets.{channel_text, var_text, place_text, transition_text, net_text, canonical_text}
use Rattle.rn_print.specs.SameButSpots.{name_unplaced, channel_unplaced, var_unplaced, place_unplaced, transition_unplaced, net_unplaced, unplaced}
use Rattle.rn_net.specs.Levels.{IsShallow, after}
use Rattle.rn_net.specs.Levels.Region.{between, declaring}
use Rattle.rn_print.proofs.Trees.{Tree, piece, both, bytes_in, tokens_in, Stands}
use Rattle.rn_print.proofs.Atoms.{Legal, name_stands, close_brace_stands}
use Rattle.rn_print.proofs.Lines.{Line, Sequence, sequence}
use Rattle.rn_print.proofs.ExpressionBack.{sign_tree}
use Rattle.rn_print.proofs.SpelledExpressions.{AllLegal, legal}
use Rattle.rn_print.proofs.SpelledKinds.{KindBack, PlaceKind, kind_back, listed_kinds, given_kind, absent_kind}
use Rattle.rn_print.proofs.SpelledConstants.{constants_back}
use Rattle.rn_print.proofs.SpelledInscriptions.{word_tree, WordSpaced, word_stands, name_tree, LegalName}
use Rattle.rn_print.proofs.SpelledNets.{opened, opened_stands, line_end, ended, ended_stands, ChannelBack, channel_back, IsVar, VarBack, var_back, kind_ends, PlaceBack, CapacityBack, no_capacity, capacity_back, InitialBack, no_initial, initial_back, place_back}
use Rattle.rn_print.proofs.SpelledTransitions.{all_push, past, TransitionBack, transition_line, lines_parts}
use Rattle.rn_model.proofs.EachElement.{each_append}

net_stands : WordSpaced 0 (codes "net")
unfolding reserved_words
net_stands rest = IsToken.word refl refl refl

-- sequences of declarations are parts of a net
vars_are : {notation : ℕ} {ts mid rest : List Token} {items vars : List PVar} {name : PName} {places : List PPlace}
    {transitions : List PTransition} {net : PNet} → Sequence IsVar ts items mid →
    AreParts notation (plain_net_of name (vars ++ items) places transitions) mid net rest →
    AreParts notation (plain_net_of name vars places transitions) ts net rest
vars_are {notation = notation} {mid = mid} {rest = rest} {vars = vars} {name = name} {places = places} {transitions = transitions} {net = net} Sequence.done parts =
    subst (λ vars. AreParts notation (plain_net_of name vars places transitions) mid net rest) (append-nil vars) parts
vars_are {notation = notation} {mid = mid} {rest = rest} {vars = vars} {name = name} {places = places} {transitions = transitions} {net = net} (Sequence.next {item = v} {items = items} x more) parts =
    AreParts.and_vars x (vars_are more
    (subst (λ vars. AreParts notation (plain_net_of name vars places transitions) mid net rest)
    (sym (append_assoc vars (v ∷ []) items)) parts))

places_are : {notation : ℕ} {ts mid rest : List Token} {items places : List PPlace} {name : PName} {vars : List PVar}
    {transitions : List PTransition} {net : PNet} → Sequence IsPlace ts items mid →
    AreParts notation (plain_net_of name vars (places ++ items) transitions) mid net rest →
    AreParts notation (plain_net_of name vars places transitions) ts net rest
places_are {notation = notation} {mid = mid} {rest = rest} {places = places} {name = name} {vars = vars} {transitions = transitions} {net = net} Sequence.done parts =
    subst (λ places. AreParts notation (plain_net_of name vars places transitions) mid net rest) (append-nil places) parts
places_are {notation = notation} {mid = mid} {rest = rest} {places = places} {name = name} {vars = vars} {transitions = transitions} {net = net} (Sequence.next {item = p} {items = items} x more) parts =
    AreParts.and_place x (places_are more
    (subst (λ places. AreParts notation (plain_net_of name vars places transitions) mid net rest)
    (sym (append_assoc places (p ∷ []) items)) parts))

transitions_are : {notation : ℕ} {ts mid rest : List Token} {items transitions : List PTransition} {name : PName}
    {vars : List PVar} {places : List PPlace} {net : PNet} → Sequence (IsTransition notation) ts items mid →
    AreParts notation (plain_net_of name vars places (transitions ++ items)) mid net rest →
    AreParts notation (plain_net_of name vars places transitions) ts net rest
transitions_are {notation = notation} {mid = mid} {rest = rest} {transitions = transitions} {name = name} {vars = vars} {places = places} {net = net} Sequence.done parts =
    subst (λ transitions. AreParts notation (plain_net_of name vars places transitions) mid net rest)
    (append-nil transitions) parts
transitions_are {notation = notation} {mid = mid} {rest = rest} {transitions = transitions} {name = name} {vars = vars} {places = places} {net = net} (Sequence.next {item = t} {items = items} x more) parts =
    AreParts.and_transition x (transitions_are more
    (subst (λ transitions. AreParts notation (plain_net_of name vars places transitions) mid net rest)
    (sym (append_assoc transitions (t ∷ []) items)) parts))

-- what holds of each element in a list
all_map : {A : Type 0} (P Q : A → Type 0) (xs : List A) → ((x : A) → P x → Q x) →
    AllByRecursion P xs → AllByRecursion Q xs
all_map P Q [] f all = tt
all_map P Q (x ∷ xs) f (here, all) = (f x here, all_map P Q xs f all)

-- the texts of the parts of a net are read back
record NetBack (net : PNet) : Type 0 where
  pub name : LegalName net.name
  pub vars : AllByRecursion VarBack net.vars
  pub places : AllByRecursion PlaceBack net.places
  pub transitions : AllByRecursion TransitionBack net.transitions

net_line : (notation : ℕ) (net : PNet) → NetBack net →
    Line (IsNet notation) net_unplaced net (net_text notation net)
net_line notation net back =
    let name = net.name.text in
    let v = sequence IsVar var_unplaced var_text net.vars back.vars in
    let p = sequence IsPlace place_unplaced place_text net.places back.places in
    let r = sequence (IsTransition notation) transition_unplaced (transition_text notation) net.transitions
    (all_map TransitionBack (λ t. Line (IsTransition notation) transition_unplaced t (transition_text notation t))
    net.transitions (transition_line notation) back.transitions) in
    let head = both (both (word_tree 0 (codes "net")) (name_tree name)) opened in
    let close = both (sign_tree 1 (codes "}")) line_end in
    let start = codes "net " ++ name ++ codes " {\n" in record {
      tree = both (both (both (both head v.tree) p.tree) r.tree) close;
      spells =
          ap (λ t. start ++ t ++ bytes_in p.tree ++ bytes_in r.tree ++ codes "}\n") v.spells
          ∙ ap (λ t. start ++ flat_map var_text net.vars ++ t ++ bytes_in r.tree ++ codes "}\n") p.spells
          ∙ ap (λ t. start ++ flat_map var_text net.vars ++ flat_map place_text net.places ++ t ++ codes "}\n") r.spells;
      stands = λ rest.
          let end = codes "}\n" ++ rest in
          let transitions = bytes_in r.tree ++ end in
          let places = bytes_in p.tree ++ transitions in
          let vars = bytes_in v.tree ++ places in (
            (
              (
                (
                  (
                    (
                      word_stands 0 (codes "net") (name ++ (codes " {\n" ++ vars)) net_stands,
                      name_stands name (codes " {\n" ++ vars) back.name refl,
                    ),
                    opened_stands vars,
                  ),
                  v.stands places,
                ),
                p.stands transitions,
              ),
              r.stands end,
            ),
            (close_brace_stands (codes "\n" ++ rest), IsGap.blank refl),
          );
      means = λ before rest.
          let u = token_after (before ++ codes "net ") (Name name) name in
          let a = start ++ bytes_in v.tree in
          let b = a ++ bytes_in p.tree in
          let w = token_after (before ++ (b ++ bytes_in r.tree)) (Sign 1) (codes "}") in
          let l = r.means (before ++ b) (w ∷ rest) in
          let m = p.means (before ++ a) (tokens_in (before ++ b) r.tree (w ∷ rest)) in
          let n = v.means (before ++ start)
          (tokens_in (before ++ a) p.tree (tokens_in (before ++ b) r.tree (w ∷ rest))) in (
            plain_net_of (name_at u.spot name) n.0 m.0 l.0,
            IsNet.net refl refl refl
                (vars_are n.1 (places_are m.1 (transitions_are l.1 AreParts.no_more_parts))) refl,
            ap (λ vs. plain_net_of (name_unplaced net.name) vs (map place_unplaced m.0) (map transition_unplaced l.0)) n.2
                ∙ ap (λ ps. plain_net_of (name_unplaced net.name) (map var_unplaced net.vars) ps (map transition_unplaced l.0)) m.2
                ∙ ap (λ ts. plain_net_of (name_unplaced net.name) (map var_unplaced net.vars) (map place_unplaced net.places) ts) l.2,
          );
      shallow = λ before rest h.
          let a = start ++ bytes_in v.tree in
          let b = a ++ bytes_in p.tree in
          let w = token_after (before ++ (b ++ bytes_in r.tree)) (Sign 1) (codes "}") in
          let transitions = tokens_in (before ++ b) r.tree (w ∷ rest) in
          let places = tokens_in (before ++ a) p.tree transitions in (
            refl,
            (
              refl,
              (
                refl,
                v.shallow (before ++ start) places
                    (p.shallow (before ++ a) transitions (r.shallow (before ++ b) (w ∷ rest) (refl, h))),
              ),
            ),
          );
    }

-- past the word, the name and the opening bracket of a channel, a net or a transition
past_heading : (t u v : Token) (ts : List Token) (i k : TokenKind) (name : List ℕ) → t.kind ≡ i →
    u.kind ≡ Name name → v.kind ≡ k → IsShallow between (t ∷ u ∷ v ∷ ts) →
    IsShallow (after (after (after between i) (Name name)) k) ts
past_heading t u v ts i k name a b c h =
    past (after (after between i) (Name name)) v ts k c
    (past (after between i) u (v ∷ ts) (Name name) b (past between t (u ∷ v ∷ ts) i a h))

names_legal : {before names : List PName} {ts rest : List Token} →
    AreMoreNames before ts names rest → AllByRecursion LegalName before → AllLegal ts →
    IsShallow (declaring 0) ts →
    AllByRecursion LegalName names × AllLegal rest × IsShallow (declaring 0) rest
names_legal AreMoreNames.no_more_names back h s = (back, h, s)
names_legal (AreMoreNames.more_names {t = t} {u = u} {ts = ts} {before = before} {name = name} is a m) back h s =
    names_legal m (all_push LegalName before (name_at u.spot name) back (legal a h.1.0)) h.1.1
    (past (declaring 0) u ts (Name name) a (past (declaring 0) t (u ∷ ts) comma is s))

each_var : (k : PKind) (names : List PName) (w : Token) (ts ending : List Token) →
    w.kind ≡ semicolon → KindBack k ts (w ∷ ending) → IsShallow (declaring 0) ts →
    AllByRecursion LegalName names → AllByRecursion VarBack (map (var_of k) names)
each_var k [] w ts ending e back s all = tt
each_var k (name ∷ names) w ts ending e back s (is, all) =
    (var_back name k w ts ending is e back s, each_var k names w ts ending e back s all)

vars_back : {ts rest : List Token} {vars : List PVar} → AreVars ts vars rest → AllLegal ts →
    IsShallow between ts → AllByRecursion VarBack vars × AllLegal rest × IsShallow between rest
vars_back (AreVars.vars {t = t} {u = u} {v = v} {w = w} {ts = ts} {us = us} {rest = rest} {name = name} {names = names} {kind = kind} is a m c k e) h s =
    let p = names_legal m (legal a h.1.0, tt) h.1.1
    (past (declaring 0) u ts (Name name) a (past between t (u ∷ ts) var_word is s)) in
    let q = kind_back k p.1.1 in
    let inside = past (declaring 0) v us colon c p.2 in
    (each_var kind names w us rest e q.0 inside p.0, q.1.1, kind_ends kind w us rest e q.0 inside)

kind_of_place : {spot : Spot} {ts rest : List Token} {k : PKind} → IsKindOfPlace spot ts k rest →
    AllLegal ts → PlaceKind k ts rest × AllLegal rest
kind_of_place (IsKindOfPlace.absent {spot = spot} {rest = rest}) h = (absent_kind spot rest, h)
kind_of_place (IsKindOfPlace.given {t = t} {ts = ts} {rest = rest} {kind = kind} is k) h =
    let p = kind_back k h.1 in (given_kind t kind ts rest is p.0, p.1)

capacity_of_place : {ts rest : List Token} {max : Option PMax} → IsCapacity ts max rest →
    AllLegal ts → CapacityBack max ts rest × AllLegal rest
capacity_of_place (IsCapacity.none {rest = rest}) h = (no_capacity rest, h)
capacity_of_place (IsCapacity.some {t = t} {u = u} {rest = rest} {number = number} is a) h =
    (capacity_back t u u.spot number rest is a (legal a h.1.0), h.1.1)

initial_of_place : {ts rest : List Token} {items : List PConst} → AreInitial ts items rest →
    AllLegal ts → InitialBack items ts rest × AllLegal rest
initial_of_place (AreInitial.none {rest = rest}) h = (no_initial rest, h)
initial_of_place (AreInitial.some {t = t} {ts = ts} {rest = rest} {items = items} is x) h =
    let p = constants_back x h.1 in (initial_back t items ts rest is p.0, p.1)

one_place : {ts rest : List Token} {p : PPlace} → IsPlace ts p rest → AllLegal ts →
    IsShallow between ts → PlaceBack p × AllLegal rest × IsShallow between rest
one_place (IsPlace.place {t = t} {u = u} {v = v} {ts = ts} {mid = mid} {us = us} {rest = rest} {name = name} {kind = kind} {max = max} {initial = initial} is a k m i e) h s =
    let p = kind_of_place k h.1.1 in
    let o = capacity_of_place m p.1 in
    let q = initial_of_place i o.1 in
    let r = place_back (name_at u.spot name) kind max initial v ts mid us rest (legal a h.1.0) e p.0 o.0 q.0
    (past (declaring 0) u ts (Name name) a (past between t (u ∷ ts) place_word is s)) in
    (r.0, q.1.1, r.1)

one_transition : {notation : ℕ} {ts rest : List Token} {t : PTransition} →
    IsTransition notation ts t rest → AllLegal ts → IsShallow between ts →
    TransitionBack t × AllLegal rest × IsShallow between rest
one_transition (IsTransition.transition {t = t} {u = u} {v = v} {w = w} {ts = ts} {rest = rest} {name = name} is a b m e) h s =
    let p = lines_parts m tt h.1.1.1 (past_heading t u v ts trans_word open_brace name is a b s) in
    ((legal a h.1.0, p.0), p.1.1, past between w rest close_brace e p.2)

parts_back : {notation : ℕ} {start net : PNet} {ts rest : List Token} →
    AreParts notation start ts net rest → NetBack start → AllLegal ts → IsShallow between ts →
    NetBack net × AllLegal rest × IsShallow between rest
parts_back AreParts.no_more_parts back h s = (back, h, s)
parts_back (AreParts.and_vars {vars = vars} {more = more} x m) back h s =
    let p = vars_back x h s in
    parts_back m (record {
      name = back.name;
      vars = each_append VarBack vars more back.vars p.0;
      places = back.places;
      transitions = back.transitions;
    }) p.1 p.2
parts_back (AreParts.and_place {places = places} {place = place} x m) back h s =
    let p = one_place x h s in
    parts_back m (record {
      name = back.name;
      vars = back.vars;
      places = all_push PlaceBack places place back.places p.0;
      transitions = back.transitions;
    }) p.1 p.2
parts_back (AreParts.and_transition {transitions = transitions} {transition = t} x m) back h s =
    let p = one_transition x h s in
    parts_back m (record {
      name = back.name;
      vars = back.vars;
      places = back.places;
      transitions = all_push TransitionBack transitions t back.transitions p.0;
    }) p.1 p.2

one_net : {notation : ℕ} {ts rest : List Token} {net : PNet} → IsNet notation ts net rest → AllLegal ts →
    IsShallow between ts → NetBack net × AllLegal rest × IsShallow between rest
one_net (IsNet.net {t = t} {u = u} {v = v} {w = w} {ts = ts} {rest = rest} {name = name} {parts = net} is a b m e) h s =
    let p = parts_back m
    (record { name = legal a h.1.0; vars = tt; places = tt; transitions = tt }) h.1.1.1
    (past_heading t u v ts net_word open_brace name is a b s) in
    (p.0, p.1.1, past between w rest close_brace e p.2)

one_channel : {ts rest : List Token} {c : PChannel} → IsChannel ts c rest → AllLegal ts →
    IsShallow between ts → ChannelBack c × AllLegal rest × IsShallow between rest
one_channel (IsChannel.channel {t = t} {u = u} {v = v} {w = w} {ts = ts} {rest = rest} {name = name} {kinds = ks} is a b x e) h s =
    let p = listed_kinds x h.1.1.1 in
    let r = channel_back (name_at u.spot name) ks w ts rest (legal a h.1.0) e p.0
    (past_heading t u v ts channel_word open_paren name is a b s) in
    (r.0, p.1.1, r.1)

-- the texts of all declarations of a system are read back
record PlainBack (plain : Plain) : Type 0 where
  pub channels : AllByRecursion ChannelBack plain.channels
  pub nets : AllByRecursion NetBack plain.nets

items_back : {notation : ℕ} {start plain : Plain} {ts : List Token} →
    AreItems notation start ts plain → PlainBack start → AllLegal ts → IsShallow between ts → PlainBack plain
items_back AreItems.no_more_items back h s = back
items_back (AreItems.and_channel {channels = channels} {channel = c} x m) back h s =
    let p = one_channel x h s in
    items_back m (record {
      channels = all_push ChannelBack channels c back.channels p.0;
      nets = back.nets;
    }) p.1 p.2
items_back (AreItems.and_net {nets = nets} {net = net} x m) back h s =
    let p = one_net x h s in
    items_back m (record {
      channels = back.channels;
      nets = all_push NetBack nets net back.nets p.0;
    }) p.1 p.2

-- a system has a channel or a net
abbrev HasItem : Plain → Type 0
HasItem plain = plain.channels ≡ [] → plain.nets ≡ [] → ⊥

not_nil : {A : Type 0} (xs : List A) (x : A) → xs ++ x ∷ [] ≡ [] → ⊥
not_nil [] x e = cc
not_nil (y ∷ xs) x e = cc

stays : {notation : ℕ} {start plain : Plain} {ts : List Token} →
    AreItems notation start ts plain → HasItem start → HasItem plain
stays AreItems.no_more_items some = some
stays (AreItems.and_channel {channels = channels} {channel = c} x m) some =
    stays m (λ e f. not_nil channels c e)
stays (AreItems.and_net {nets = nets} {net = net} x m) some = stays m (λ e f. not_nil nets net f)

some_item : {notation : ℕ} {t : Token} {ts : List Token} {start plain : Plain} →
    AreItems notation start (t ∷ ts) plain → HasItem plain
some_item (AreItems.and_channel {channels = channels} {channel = c} x m) =
    stays m (λ e f. not_nil channels c e)
some_item (AreItems.and_net {nets = nets} {net = net} x m) =
    stays m (λ e f. not_nil nets net f)

-- the notation of what is read stays
abbrev pub IsNotation : ℕ → Type 0
IsNotation notation = (notation ≡ 1) ⊎ (notation ≡ 2)

notation_stays : {notation : ℕ} {start plain : Plain} {ts : List Token} →
    AreItems notation start ts plain → start.notation ≡ notation → plain.notation ≡ notation
notation_stays AreItems.no_more_items is = is
notation_stays (AreItems.and_channel x m) is = notation_stays m refl
notation_stays (AreItems.and_net x m) is = notation_stays m refl

-- what is known of a system that some tokens stand for
record Known (plain : Plain) : Type 0 where
  pub back : PlainBack plain
  pub some : HasItem plain

known : {tokens : List Token} {plain : Plain} → IsSystem tokens plain → AllLegal tokens →
    IsShallow between tokens → Known plain
known (IsSystem.first m) h s = record {
  back = items_back m (record { channels = tt; nets = tt }) h s;
  some = some_item m;
}
known (IsSystem.second {t = t} {u = u} {v = v} {w = w} {ts = ts} is a b m) h s =
    let one = past between t (u ∷ v ∷ w ∷ ts) notation_name is s in
    let two = past (after between notation_name) u (v ∷ w ∷ ts) (Number (pos 2)) a one in
    let three = past (after (after between notation_name) (Number (pos 2))) v (w ∷ ts) semicolon b two in
    record {
      back = items_back m (record { channels = tt; nets = tt }) h.1.1.1 three;
      some = some_item m;
    }

pub notation_of : {tokens : List Token} {plain : Plain} → IsSystem tokens plain →
    IsNotation plain.notation
notation_of (IsSystem.first m) = inl (notation_stays m refl)
notation_of (IsSystem.second is a b m) = inr (notation_stays m refl)

-- sequences of channels and nets are a system
channels_are : {notation : ℕ} {ts mid : List Token} {items channels : List PChannel} {nets : List PNet}
    {plain : Plain} → Sequence IsChannel ts items mid →
    AreItems notation (plain_of notation (channels ++ items) nets) mid plain →
    AreItems notation (plain_of notation channels nets) ts plain
channels_are {notation = notation} {mid = mid} {channels = channels} {nets = nets} {plain = plain} Sequence.done m =
    subst (λ channels. AreItems notation (plain_of notation channels nets) mid plain) (append-nil channels) m
channels_are {notation = notation} {mid = mid} {channels = channels} {nets = nets} {plain = plain} (Sequence.next {item = c} {items = items} x more) m =
    AreItems.and_channel x (channels_are more
    (subst (λ channels. AreItems notation (plain_of notation channels nets) mid plain)
    (sym (append_assoc channels (c ∷ []) items)) m))

nets_are : {notation : ℕ} {ts mid : List Token} {items nets : List PNet} {channels : List PChannel}
    {plain : Plain} → Sequence (IsNet notation) ts items mid →
    AreItems notation (plain_of notation channels (nets ++ items)) mid plain →
    AreItems notation (plain_of notation channels nets) ts plain
nets_are {notation = notation} {mid = mid} {nets = nets} {channels = channels} {plain = plain} Sequence.done m =
    subst (λ nets. AreItems notation (plain_of notation channels nets) mid plain) (append-nil nets) m
nets_are {notation = notation} {mid = mid} {nets = nets} {channels = channels} {plain = plain} (Sequence.next {item = n} {items = items} x more) m =
    AreItems.and_net x (nets_are more
    (subst (λ nets. AreItems notation (plain_of notation channels nets) mid plain)
    (sym (append_assoc nets (n ∷ []) items)) m))

channel_begins : {ts rest : List Token} {c : PChannel} → IsChannel ts c rest →
    (t : Token) × (us : List Token) × (ts ≡ t ∷ us)
channel_begins (IsChannel.channel is a b x e) = (_, _, refl)

net_begins : {notation : ℕ} {ts rest : List Token} {n : PNet} → IsNet notation ts n rest →
    (t : Token) × (us : List Token) × (ts ≡ t ∷ us)
net_begins (IsNet.net is a b m e) = (_, _, refl)

begun : {notation : ℕ} {ts mid : List Token} {cs : List PChannel} {ns : List PNet} →
    Sequence IsChannel ts cs mid → Sequence (IsNet notation) mid ns [] →
    (cs ≡ [] → ns ≡ [] → ⊥) → (t : Token) × (us : List Token) × (ts ≡ t ∷ us)
begun (Sequence.next x more) others some = channel_begins x
begun Sequence.done (Sequence.next x more) some = net_begins x
begun Sequence.done Sequence.done some = absurd (some refl refl)

map_nil : {A B : Type 0} (f : A → B) (xs : List A) → map f xs ≡ [] → xs ≡ []
map_nil f [] e = refl
map_nil f (x ∷ xs) e = absurd (let no : ⊥ = cc in no)

-- the channels and nets of a canonical text, wherever they begin
record ItemsBack (notation : ℕ) (plain : Plain) : Type 0 where
  pub tree : Tree
  pub spells : bytes_in tree
      ≡ flat_map channel_text plain.channels ++ flat_map (net_text notation) plain.nets
  pub stands : Stands tree []
  pub means : (before : List ℕ) →
      (other : Plain) × (t : Token) × (us : List Token) × (tokens_in before tree [] ≡ t ∷ us)
      × AreItems notation (plain_of notation [] []) (t ∷ us) other
      × (unplaced other ≡ unplaced (plain_of notation plain.channels plain.nets))
  pub within : (before : List ℕ) → IsShallow between (tokens_in before tree [])

written : (notation : ℕ) (plain : Plain) → PlainBack plain → HasItem plain →
    ItemsBack notation plain
written notation plain back some =
    let c = sequence IsChannel channel_unplaced channel_text plain.channels back.channels in
    let n = sequence (IsNet notation) net_unplaced (net_text notation) plain.nets
    (all_map NetBack (λ n. Line (IsNet notation) net_unplaced n (net_text notation n)) plain.nets
    (net_line notation) back.nets) in
    record {
      tree = both c.tree n.tree;
      spells =
          ap (λ t. t ++ bytes_in n.tree) c.spells
          ∙ ap (λ t. flat_map channel_text plain.channels ++ t) n.spells;
      stands = (c.stands (bytes_in n.tree ++ []), n.stands []);
      means = λ before.
          let o = n.means (before ++ bytes_in c.tree) [] in
          let m = c.means before (tokens_in (before ++ bytes_in c.tree) n.tree []) in
          let b = begun m.1 o.1 (λ e f. some
          (map_nil channel_unplaced plain.channels (sym m.2 ∙ ap (map channel_unplaced) e))
          (map_nil net_unplaced plain.nets (sym o.2 ∙ ap (map net_unplaced) f))) in
          let whole : AreItems notation (plain_of notation [] [])
          (tokens_in before c.tree (tokens_in (before ++ bytes_in c.tree) n.tree []))
          (plain_of notation m.0 o.0) =
          channels_are m.1 (nets_are o.1 AreItems.no_more_items) in (
            plain_of notation m.0 o.0,
            b.0,
            b.1,
            b.2,
            subst (λ ts. AreItems notation (plain_of notation [] []) ts (plain_of notation m.0 o.0)) b.2 whole,
            ap (λ cs. plain_of notation cs (map net_unplaced o.0)) m.2
                ∙ ap (λ ns. plain_of notation (map channel_unplaced plain.channels) ns) o.2,
          );
      within = λ before.
          c.shallow before (tokens_in (before ++ bytes_in c.tree) n.tree [])
          (n.shallow (before ++ bytes_in c.tree) [] tt);
    }

-- The canonical text of a system that some tokens within the limits stand for is such tokens of the
-- same system but for spots.
pub record IsReadBack (plain : Plain) : Type 0 where
  pub tree : Tree
  pub spells : bytes_in tree ≡ canonical_text plain
  pub stands : Stands tree []
  pub other : Plain
  pub system : IsSystem (tokens_in [] tree []) other
  pub same : unplaced other ≡ unplaced plain
  pub within : IsShallow between (tokens_in [] tree [])

-- `notation 2;`
abbrev heading : Tree
heading =
    both (both (name_tree (codes "notation")) (piece (gap (codes " "))))
    (both (piece (token (Number (pos 2)) (codes "2"))) ended)

notation_is_legal : Legal notation_name
unfolding reserved_words
notation_is_legal = (refl, refl)

heading_stands : (rest : List ℕ) → Stands heading rest
heading_stands rest =
    let low : 2 ≤ greatest_number = omega arith in (
      (name_stands (codes "notation") (codes " 2;\n" ++ rest) notation_is_legal refl, IsGap.blank refl),
      (IsToken.number refl refl low, ended_stands rest),
    )

in_first : (plain : Plain) → ItemsBack 1 plain → IsReadBack (plain_of 1 plain.channels plain.nets)
in_first plain r =
    let m = r.means [] in record {
      tree = r.tree;
      spells = r.spells;
      stands = r.stands;
      other = m.0;
      system = subst (λ ts. IsSystem ts m.0) (sym m.3) (IsSystem.first m.4);
      same = m.5;
      within = r.within [];
    }

in_second : (plain : Plain) → ItemsBack 2 plain →
    IsReadBack (plain_of 2 plain.channels plain.nets)
in_second plain r =
    let first = codes "notation 2;\n" in
    let m = r.means first in
    let t = token_after [] notation_name (codes "notation") in
    let u = token_after (codes "notation ") (Number (pos 2)) (codes "2") in
    let v = token_after (codes "notation 2") semicolon (codes ";") in record {
      tree = both heading r.tree;
      spells = ap (λ t. first ++ t) r.spells;
      stands = (heading_stands (bytes_in r.tree ++ []), r.stands);
      other = m.0;
      system =
          subst (λ ts. IsSystem (t ∷ u ∷ v ∷ ts) m.0) (sym m.3) (IsSystem.second refl refl refl m.4);
      same = m.5;
      within = (refl, (refl, (refl, r.within first)));
    }

-- in either notation
pub reads_back : {tokens : List Token} {plain : Plain} → IsSystem tokens plain → AllLegal tokens →
    IsShallow between tokens → (notation : ℕ) → IsNotation notation →
    IsReadBack (plain_of notation plain.channels plain.nets)
reads_back {plain = plain} is h s notation (inl one) =
    let k = known is h s in
    subst (λ notation. IsReadBack (plain_of notation plain.channels plain.nets)) (sym one)
    (in_first plain (written 1 plain k.back k.some))
reads_back {plain = plain} is h s notation (inr two) =
    let k = known is h s in
    subst (λ notation. IsReadBack (plain_of notation plain.channels plain.nets)) (sym two)
    (in_second plain (written 2 plain k.back k.some))
