-- Where some tokens stand for a declaration, a net or a system, its text is read back.
use Rattle.std.proofs.Common.{◌≡◌, ℕ, ℤ, pos, ◌≤◌, List, [], ◌∷◌, ◌++◌, map, refl, sym, ap, ◌∙◌, subst}
use Rattle.std.specs.Prelude.{codes, Option, Some, None, option_map}
use Rattle.rn_value.specs.Words.{reserved_words}
use Rattle.rn_value.specs.Text.{numeral}
use Rattle.rn_notation.specs.Words.{greatest_number}
use Rattle.rn_notation.specs.Tokens.{IsGap, IsToken}
use Rattle.rn_notation.specs.Reading.{gap, token, token_after}
use Rattle.rn_notation.specs.declared.token.Spot.{Spot}
use Rattle.rn_notation.specs.declared.token.Token.{Token}
use Rattle.rn_net.specs.Levels.{IsShallow, after, is_semicolon}
use Rattle.rn_net.specs.Levels.Region.{between, declaring}
use Rattle.rn_notation.specs.declared.token.TokenKind.TheVariants.{Name, Number}
use Rattle.rn_inscript.specs.declared.inscriptions.PName.{PName}
use Rattle.rn_inscript.specs.Signs.{comma, colon, equals, close_paren}
use Rattle.rn_inscript.specs.Inscriptions.{name_at}
use Rattle.rn_net.specs.declared.kinds.PKind.{PKind}
use Rattle.rn_net.specs.declared.constants.PConst.{PConst}
use Rattle.rn_net.specs.declared.plain.PChannel.{PChannel}
use Rattle.rn_net.specs.declared.plain.PVar.{PVar}
use Rattle.rn_net.specs.declared.plain.PPlace.{PPlace}
use Rattle.rn_net.specs.declared.plain.PMax.{PMax}
use Rattle.rn_net.specs.Words.{semicolon, max_name}
use Rattle.rn_net.specs.Constants.{IsConstant, AreConstants, AreMoreConstants}
use Rattle.rn_net.specs.Nets.{channel_of, var_of, max_of, place_of, IsChannel, AreMoreNames, AreVars, IsKindOfPlace, IsCapacity, AreInitial, IsPlace}
use Rattle.rn_print.specs.Kinds.{kind_text}
use Rattle.rn_print.specs.Constants.{constant_text}
use Rattle.rn_print.specs.Nets.{channel_text, var_text, capacity_text, initial_text, place_text}
use Rattle.rn_print.specs.SameButSpots.{kind_unplaced, constant_unplaced, name_unplaced, channel_unplaced, var_unplaced, max_unplaced, place_unplaced}
use Rattle.rn_print.proofs.SameTokens.{SameTokens, shallow}
use Rattle.rn_print.proofs.Beside.{Follows, Same, declared}
use Rattle.rn_print.proofs.Trees.{Tree, nothing, piece, both, bytes_in, tokens_in, Stands, Stops, Reads}
use Rattle.rn_print.proofs.Atoms.{Legal, spaced, spaced_stands, name_stands, number_stands, comma_stands, semicolon_stands, equals_stands, open_paren_stands, close_paren_stands, open_brace_stands}
use Rattle.rn_print.proofs.Separated.{Phrases, Separator, Listed, some}
use Rattle.rn_print.proofs.Lines.{Line}
use Rattle.rn_print.proofs.ExpressionBack.{sign_tree}
use Rattle.rn_print.proofs.SpelledExpressions.{Some_back}
use Rattle.rn_print.proofs.SpelledKinds.{KindBack, PlaceKind, kinds_back}
use Rattle.rn_print.proofs.SpelledConstants.{ConstantBack, constant_rows}
use Rattle.rn_print.proofs.SpelledInscriptions.{word_tree, WordSpaced, word_stands, name_tree, colon_tree, colon_space_stands, LegalName}

-- blanks, and the ends of lines
abbrev pub blanks : Tree
blanks = both (piece (gap (codes " "))) (piece (gap (codes " ")))

pub blanks_stand : (rest : List ℕ) → Stands blanks rest
blanks_stand rest = (IsGap.blank refl, IsGap.blank refl)

abbrev pub line_end : Tree
line_end = piece (gap (codes "\n"))

abbrev pub ended : Tree
ended = both (sign_tree 7 (codes ";")) line_end

pub ended_stands : (rest : List ℕ) → Stands ended rest
ended_stands rest = (semicolon_stands (codes "\n" ++ rest), IsGap.blank refl)

abbrev pub opened : Tree
opened = both (both (piece (gap (codes " "))) (sign_tree 0 (codes "{"))) line_end

pub opened_stands : (rest : List ℕ) → Stands opened rest
opened_stands rest =
    ((IsGap.blank refl, open_brace_stands (codes "\n" ++ rest)), IsGap.blank refl)

channel_stands : WordSpaced 3 (codes "channel")
unfolding reserved_words
channel_stands rest = IsToken.word refl refl refl

var_stands : WordSpaced 4 (codes "var")
unfolding reserved_words
var_stands rest = IsToken.word refl refl refl

place_stands : WordSpaced 1 (codes "place")
unfolding reserved_words
place_stands rest = IsToken.word refl refl refl

-- channels
abbrev pub ChannelBack : PChannel → Type 0
ChannelBack c = Line IsChannel channel_unplaced c (channel_text c)

pub channel_back : (name : PName) (ks : List PKind) (w : Token) (ts ending : List Token) →
    LegalName name → w.kind ≡ semicolon → Listed KindBack comma close_paren ts ks (w ∷ ending) →
    IsShallow (declaring 1) ts → ChannelBack (channel_of name ks) × IsShallow between ending
channel_back name ks w ts ending is ends each within =
    let r = kinds_back 5 (codes ")") close_paren_stands (λ rest. refl) refl ks ts (w ∷ ending) each in
    let stays = λ (before : List ℕ) (u : Token) (rest : List Token) (h : u.kind ≡ semicolon).
    shallow (r.beside before (ending, rest) (u ∷ rest) (SameTokens.done ends h)) 1 within in
    let head = both (word_tree 3 (codes "channel")) (name_tree name.text) in (
      record {
        tree = both (both head (both (sign_tree 4 (codes "(")) r.tree)) ended;
        spells = ap (λ t. (codes "channel " ++ name.text) ++ (codes "(" ++ t) ++ codes ";\n") r.spells;
        stands = λ rest.
            let end = codes ";\n" ++ rest in
            let kinds = (codes "(" ++ bytes_in r.tree) ++ end in (
              (
                (
                  word_stands 3 (codes "channel") (name.text ++ kinds) channel_stands,
                  name_stands name.text kinds is refl,
                ),
                (open_paren_stands (bytes_in r.tree ++ end), r.stands end refl),
              ),
              ended_stands rest,
            );
        means = λ before rest.
            let u = token_after (before ++ codes "channel ") (Name name.text) name.text in
            let front = codes "channel " ++ name.text in
            let w = token_after (before ++ (front ++ (codes "(" ++ bytes_in r.tree))) semicolon (codes ";") in
            let m = r.means ((before ++ front) ++ codes "(") (w ∷ rest) in (
              channel_of (name_at u.spot name.text) m.0,
              IsChannel.channel refl refl refl m.1 refl,
              ap (λ ks. channel_of (name_unplaced name) ks) m.2,
            );
        shallow = λ before rest h.
            let front = codes "channel " ++ name.text in
            let u = token_after (before ++ (front ++ (codes "(" ++ bytes_in r.tree))) semicolon (codes ";") in
            let p = stays ((before ++ front) ++ codes "(") u rest refl in (refl, (refl, (refl, p.1 h)));
      },
      (stays [] w [] ends).0,
    )

-- one variable
abbrev pub IsVar : Phrases PVar
IsVar ts v rest = AreVars ts (v ∷ []) rest

abbrev pub VarBack : PVar → Type 0
VarBack v = Line IsVar var_unplaced v (var_text v)

pub var_back : (name : PName) (k : PKind) (w : Token) (ts ending : List Token) → LegalName name →
    w.kind ≡ semicolon → KindBack k ts (w ∷ ending) → IsShallow (declaring 0) ts →
    VarBack (var_of k name)
var_back name k w ts ending is ends r within =
    let word = both blanks (word_tree 4 (codes "var")) in record {
      tree = both (both (both (both word (name_tree name.text)) colon_tree) r.tree) ended;
      spells =
          ap (λ t. codes "  var " ++ name.text ++ codes ": " ++ t ++ codes ";\n") r.spells;
      stands = λ rest.
          let end = codes ";\n" ++ rest in
          let kind = bytes_in r.tree ++ end in (
            (
              (
                (
                  (
                    blanks_stand (codes "var " ++ (name.text ++ (codes ": " ++ kind))),
                    word_stands 4 (codes "var") (name.text ++ (codes ": " ++ kind)) var_stands,
                  ),
                  name_stands name.text (codes ": " ++ kind) is refl,
                ),
                colon_space_stands kind,
              ),
              r.stands end refl,
            ),
            ended_stands rest,
          );
      means = λ before rest.
          let u = token_after (before ++ codes "  var ") (Name name.text) name.text in
          let front = (codes "  var " ++ name.text) ++ codes ": " in
          let w = token_after (before ++ (front ++ bytes_in r.tree)) semicolon (codes ";") in
          let m = r.means (before ++ front) (w ∷ rest) in (
            var_of m.0 (name_at u.spot name.text),
            AreVars.vars refl refl AreMoreNames.no_more_names refl m.1 refl,
            ap (λ k. var_of k (name_unplaced name)) m.2,
          );
      shallow = λ before rest h.
          let front = (codes "  var " ++ name.text) ++ codes ": " in
          let u = token_after (before ++ (front ++ bytes_in r.tree)) semicolon (codes ";") in
          let p = shallow
          (r.beside (before ++ front) (ending, rest) (u ∷ rest) (SameTokens.done ends refl)) 0 within in
          (refl, (refl, (refl, p.1 h)));
    }

-- what comes after a kind and a semicolon
pub kind_ends : (k : PKind) (w : Token) (ts ending : List Token) → w.kind ≡ semicolon →
    KindBack k ts (w ∷ ending) → IsShallow (declaring 0) ts → IsShallow between ending
kind_ends k w ts ending ends r within =
    let p = shallow (r.beside [] (ending, []) (w ∷ []) (SameTokens.done ends ends)) 0 within in p.0

-- capacities
pub record CapacityBack (max : Option PMax) (ts ending : List Token) : Type 0 where
  pub reads : Reads IsCapacity (option_map max_unplaced) max (capacity_text max)
      (Follows Same Same ts ending)
  pub stops : (rest : List ℕ) → Stops rest → Stops (bytes_in reads.tree ++ rest)

pub no_capacity : (ts : List Token) → CapacityBack None ts ts
no_capacity ts = record {
  reads = record {
    tree = nothing;
    spells = refl;
    stands = λ rest h. tt;
    means = λ before rest. (None, IsCapacity.none, refl);
    beside = λ before q us x. x;
  };
  stops = λ rest h. h;
}

max_is_legal : Legal max_name
unfolding reserved_words
max_is_legal = (refl, refl)

some_capacity : (t u : Token) (s : Spot) (n : ℕ) (ending : List Token) → t.kind ≡ max_name →
    u.kind ≡ Number (pos n) → n ≤ greatest_number →
    CapacityBack (Some (max_of (pos n) s)) (t ∷ u ∷ ending) ending
some_capacity t u s n ending here there low =
    let blank = piece (gap (codes " ")) in record {
      reads = record {
        tree = both (both (both blank (name_tree (codes "max"))) blank) (piece (token (Number (pos n)) (numeral n)));
        spells = refl;
        stands = λ rest h. (
          (
            (IsGap.blank refl, name_stands (codes "max") (codes " " ++ (numeral n ++ rest)) max_is_legal refl),
            IsGap.blank refl,
          ),
          number_stands n rest low h,
        );
        means = λ before rest.
            let v = token_after (before ++ codes " max ") (Number (pos n)) (numeral n) in
            (Some (max_of (pos n) v.spot), IsCapacity.some refl refl, refl);
        beside = λ before q us x.
            SameTokens.same (sym here) (ap is_semicolon here)
            (SameTokens.same (sym there) (ap is_semicolon there) x);
      };
      stops = λ rest h. refl;
    }

pub capacity_back : (t u : Token) (s : Spot) (number : ℤ) (ending : List Token) →
    t.kind ≡ max_name → u.kind ≡ Number number → Legal (Number number) →
    CapacityBack (Some (max_of number s)) (t ∷ u ∷ ending) ending
capacity_back t u s number ending here there (n, is, low) =
    subst (λ z. CapacityBack (Some (max_of z s)) (t ∷ u ∷ ending) ending) (sym is)
    (some_capacity t u s n ending here (subst (λ z. u.kind ≡ Number z) is there) low)

-- initial tokens
comma_space : Separator comma (codes ", ")
comma_space = record {
  tree = both (sign_tree 6 (codes ",")) (piece (gap (codes " ")));
  spells = refl;
  stands = λ rest. (comma_stands (codes " " ++ rest), IsGap.blank refl);
  stops = λ rest. refl;
  means = λ before rest. (token_after before comma (codes ","), refl, refl);
  plain = refl;
}

pub record InitialBack (items : List PConst) (ts ending : List Token) : Type 0 where
  pub reads : Reads AreInitial (map constant_unplaced) items (initial_text items)
      (Follows Same Same ts ending)
  pub stops : (rest : List ℕ) → Stops rest → Stops (bytes_in reads.tree ++ rest)

pub no_initial : (ts : List Token) → InitialBack [] ts ts
no_initial ts = record {
  reads = record {
    tree = nothing;
    spells = refl;
    stands = λ rest h. tt;
    means = λ before rest. ([], AreInitial.none, refl);
    beside = λ before q us x. x;
  };
  stops = λ rest h. h;
}

pub initial_back : (t : Token) (items : List PConst) (ts ending : List Token) → t.kind ≡ equals →
    Some_back ConstantBack comma items ts ending → InitialBack items (t ∷ ts) ending
initial_back t items ts ending here (item, later, mid, same, one, row) =
    let r = some declared IsConstant AreMoreConstants AreConstants comma constant_rows constant_unplaced
    (codes ", ") comma_space constant_text (λ t. t) one row in
    subst (λ items. InitialBack items (t ∷ ts) ending) (sym same) (record {
      reads = record {
        tree = both (spaced 9 (codes "=")) r.tree;
        spells = ap (λ t. codes " = " ++ t) r.spells;
        stands = λ rest h.
            (spaced_stands 9 (codes "=") (bytes_in r.tree ++ rest) equals_stands, r.stands rest h);
        means = λ before rest.
            let m = r.means (before ++ codes " = ") rest in
            (m.0, AreInitial.some refl m.1, m.2);
        beside = λ before q us x.
            SameTokens.same (sym here) (ap is_semicolon here) (r.beside (before ++ codes " = ") q us x);
      };
      stops = λ rest h. refl;
    })

-- places
abbrev pub PlaceBack : PPlace → Type 0
PlaceBack p = Line IsPlace place_unplaced p (place_text p)

pub place_back : (name : PName) (k : PKind) (max : Option PMax) (items : List PConst) (w : Token)
    (ts mid left ending : List Token) → LegalName name → w.kind ≡ semicolon → PlaceKind k ts mid →
    CapacityBack max mid left → InitialBack items left (w ∷ ending) → IsShallow (declaring 0) ts →
    PlaceBack (place_of name k items max) × IsShallow between ending
place_back name k max items w ts mid left ending is ends r capacity initial within =
    let m = capacity.reads in
    let i = initial.reads in
    let stays = λ (before middle after : List ℕ) (c u : Token) (rest : List Token) (here : c.kind ≡ colon) (h : u.kind ≡ semicolon).
    let tokens = tokens_in after i.tree (u ∷ rest) in
    r.beside before c ending rest (tokens_in middle m.tree tokens) here
    (m.beside middle (ending, rest) tokens
    (i.beside after (ending, rest) (u ∷ rest) (SameTokens.done ends h))) within in
    let word = both blanks (word_tree 1 (codes "place")) in
    let front = (codes "  place " ++ name.text) ++ codes ": " in
    let a = front ++ bytes_in r.tree in
    let b = a ++ bytes_in m.tree in (
      record {
        tree = both (both (both (both (both (both word (name_tree name.text)) colon_tree) r.tree) m.tree) i.tree) ended;
        spells =
            ap (λ t. front ++ t ++ bytes_in m.tree ++ bytes_in i.tree ++ codes ";\n") r.spells
            ∙ ap (λ t. front ++ kind_text k ++ t ++ bytes_in i.tree ++ codes ";\n") m.spells
            ∙ ap (λ t. front ++ kind_text k ++ capacity_text max ++ t ++ codes ";\n") i.spells;
        stands = λ rest.
            let end = codes ";\n" ++ rest in
            let tokens = bytes_in i.tree ++ end in
            let most = bytes_in m.tree ++ tokens in
            let kind = bytes_in r.tree ++ most in (
              (
                (
                  (
                    (
                      (
                        (
                          blanks_stand (codes "place " ++ (name.text ++ (codes ": " ++ kind))),
                          word_stands 1 (codes "place") (name.text ++ (codes ": " ++ kind)) place_stands,
                        ),
                        name_stands name.text (codes ": " ++ kind) is refl,
                      ),
                      colon_space_stands kind,
                    ),
                    r.stands most (capacity.stops tokens (initial.stops end refl)),
                  ),
                  m.stands tokens (initial.stops end refl),
                ),
                i.stands end refl,
              ),
              ended_stands rest,
            );
        means = λ before rest.
            let u = token_after (before ++ codes "  place ") (Name name.text) name.text in
            let v = token_after (before ++ (b ++ bytes_in i.tree)) semicolon (codes ";") in
            let tokens = tokens_in (before ++ b) i.tree (v ∷ rest) in
            let n = i.means (before ++ b) (v ∷ rest) in
            let o = m.means (before ++ a) tokens in
            let p = r.means (before ++ front) (tokens_in (before ++ a) m.tree tokens) in (
              place_of (name_at u.spot name.text) p.0 n.0 o.0,
              IsPlace.place refl refl (IsKindOfPlace.given refl p.1) o.1 n.1 refl,
              ap (λ k. place_of (name_unplaced name) k (map constant_unplaced n.0) (option_map max_unplaced o.0)) p.2
                  ∙ ap (λ items. place_of (name_unplaced name) (kind_unplaced k) items (option_map max_unplaced o.0)) n.2
                  ∙ ap (λ max. place_of (name_unplaced name) (kind_unplaced k) (map constant_unplaced items) max) o.2,
            );
        shallow = λ before rest h.
            let c = token_after (before ++ (codes "  place " ++ name.text)) colon (codes ":") in
            let u = token_after (before ++ (b ++ bytes_in i.tree)) semicolon (codes ";") in
            let p = stays (before ++ front) (before ++ a) (before ++ b) c u rest refl refl in
            (refl, (refl, p.1 h));
      },
      (stays [] [] [] (token_after [] colon []) w [] refl ends).0,
    )
