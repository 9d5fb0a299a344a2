-- Phrases of one sort with a separator between them.
use Rattle.std.proofs.Common.{◌≡◌, ℕ, true, List, [], ◌∷◌, ◌++◌, map, refl, sym, ap, ◌∙◌, subst, append_assoc}
use Rattle.std.specs.List.{flat_map, join_by}
use Rattle.std.proofs.lemmas.List.{append-nil}
use Rattle.rn_notation.specs.declared.token.Token.{Token}
use Rattle.rn_notation.specs.declared.token.TokenKind.{TokenKind}
use Rattle.rn_notation.specs.declared.token.TokenKind.TheVariants.{Sign}
use Rattle.rn_notation.specs.Tokens.{IsToken}
use Rattle.rn_notation.specs.Reading.{token, token_after}
use Rattle.rn_inscript.specs.Levels.{closes}
use Rattle.rn_print.proofs.LeftOut.{is_plain}
use Rattle.rn_print.proofs.Beside.{Beside, Follows}
use Rattle.rn_print.proofs.Trees.{Tree, nothing, piece, both, bytes_in, tokens_in, Stands, Stops, Reads}

-- phrases: the tokens begin with one that stands for this, and the others come after it
abbrev pub Phrases : Type 0 → Type 1
Phrases A = List Token → A → List Token → Type 0

-- a separator: one token of this kind, that stands whatever follows it, with blanks
pub record Separator (kind : TokenKind) (text : List ℕ) : Type 0 where
  pub tree : Tree
  pub spells : bytes_in tree ≡ text
  pub stands : (rest : List ℕ) → Stands tree rest
  pub stops : (rest : List ℕ) → Stops (bytes_in tree ++ rest)
  pub means : (before : List ℕ) (rest : List Token) →
      (t : Token) × (tokens_in before tree rest ≡ t ∷ rest) × (t.kind ≡ kind)
  pub plain : is_plain kind ≡ true

-- items so far and those that follow them, each after a token of this kind
pub record Rows {A : Type 0} (X : Phrases A) (More : List A → Phrases (List A)) (All : Phrases (List A))
    (kind : TokenKind) : Type 0 where
  pub none : (all : List A) (rest : List Token) → More all rest all rest
  pub more : (t : Token) (ts mid rest : List Token) (before all : List A) (item : A) →
      t.kind ≡ kind → X ts item mid → More (before ++ item ∷ []) mid all rest →
      More before (t ∷ ts) all rest
  pub whole : (ts mid rest : List Token) (item : A) (all : List A) → X ts item mid →
      More (item ∷ []) mid all rest → All ts all rest

-- items of which each is so of some tokens, each after a token of this kind
pub data Row {A : Type 0} (I : A → List Token → List Token → Type 0) (kind : TokenKind) :
    List Token → List A → List Token → Type 0 where
  stop : {rest : List Token} → Row I kind rest [] rest
  go : {t : Token} {ts mid rest : List Token} {item : A} {items : List A} → t.kind ≡ kind →
      I item ts mid → Row I kind mid items rest → Row I kind (t ∷ ts) (item ∷ items) rest

-- no item or more, with the closing bracket after them
pub data Listed {A : Type 0} (I : A → List Token → List Token → Type 0) (kind close : TokenKind) :
    List Token → List A → List Token → Type 0 where
  none_in : {u : Token} {ending : List Token} → u.kind ≡ close →
      Listed I kind close (u ∷ ending) [] ending
  some_in : {u : Token} {item : A} {items : List A} {ts mid ending : List Token} →
      I item ts mid → Row I kind mid items (u ∷ ending) → u.kind ≡ close →
      Listed I kind close ts (item ∷ items) ending

module _ {A B Q : Type 0} (side : Beside Q) (X : Phrases A) (More : List A → Phrases (List A)) (All : Phrases (List A))
    (kind : TokenKind) (rows : Rows X More All kind) (same : A → A) (text : List ℕ)
    (sep : Separator kind text) (h : A → B) (g : B → List ℕ) where
  -- the items after the first
  pub record Later (items : List A) (ts ending : List Token) : Type 0 where
    pub tree : Tree
    pub spells : bytes_in tree ≡ flat_map (λ b. text ++ g b) (map h items)
    pub stands : (rest : List ℕ) → Stops rest → Stands tree rest
    pub stops : (rest : List ℕ) → Stops rest → Stops (bytes_in tree ++ rest)
    pub means : (before : List ℕ) (rest : List Token) (acc : List A) →
        (others : List A) × More acc (tokens_in before tree rest) (acc ++ others) rest
        × (map same others ≡ map same items)
    pub beside : Follows side.Last side.Last ts ending tree

  abbrev pub Item : A → List Token → List Token → Type 0
  Item a ts ending = Reads X same a (g (h a)) (Follows side.First side.Last ts ending)

  later : {items : List A} {ts ending : List Token} → Row Item kind ts items ending →
      Later items ts ending
  later Row.stop = record {
    tree = nothing;
    spells = refl;
    stands = λ rest s. tt;
    stops = λ rest s. s;
    means = λ before rest acc.
        ([], subst (λ all. More acc rest all rest) (sym (append-nil acc)) (rows.none acc rest), refl);
    beside = λ before q us x. x;
  }
  later (Row.go {t = t} {ts = ts} {item = item} {items = items} is one row) =
      let next = later row in record {
        tree = both (both sep.tree one.tree) next.tree;
        spells =
            ap (λ t. t ++ bytes_in one.tree ++ bytes_in next.tree) sep.spells
            ∙ ap (λ t. text ++ t ++ bytes_in next.tree) one.spells
            ∙ ap (λ t. (text ++ g (h item)) ++ t) next.spells;
        stands = λ rest s. (
          (
            sep.stands (bytes_in one.tree ++ (bytes_in next.tree ++ rest)),
            one.stands (bytes_in next.tree ++ rest) (next.stops rest s),
          ),
          next.stands rest s,
        );
        stops = λ rest s.
            subst Stops
            (sym (append_assoc (bytes_in sep.tree ++ bytes_in one.tree) (bytes_in next.tree) rest
            ∙ append_assoc (bytes_in sep.tree) (bytes_in one.tree) (bytes_in next.tree ++ rest)))
            (sep.stops (bytes_in one.tree ++ (bytes_in next.tree ++ rest)));
        means = λ before rest acc.
            let after = before ++ (bytes_in sep.tree ++ bytes_in one.tree) in
            let mid = tokens_in after next.tree rest in
            let first = one.means (before ++ bytes_in sep.tree) mid in
            let others = next.means after rest (acc ++ first.0 ∷ []) in
            let here = tokens_in (before ++ bytes_in sep.tree) one.tree mid in
            let sign = sep.means before here in (
              first.0 ∷ others.0,
              subst (λ ts. More acc ts (acc ++ first.0 ∷ others.0) rest) (sym sign.1)
                  (subst (λ all. More acc (sign.0 ∷ here) all rest)
                  (append_assoc acc (first.0 ∷ []) others.0)
                  (rows.more sign.0 here mid rest acc ((acc ++ first.0 ∷ []) ++ others.0) first.0
                  sign.2 first.1 others.1)),
              ap (λ b. b ∷ map same others.0) first.2 ∙ ap (λ bs. same item ∷ bs) others.2,
            );
        beside = λ before q us x.
            let after = before ++ (bytes_in sep.tree ++ bytes_in one.tree) in
            let mid = tokens_in after next.tree us in
            let here = tokens_in (before ++ bytes_in sep.tree) one.tree mid in
            let sign = sep.means before here in
            subst (λ us. side.Last q (t ∷ ts) us) (sym sign.1)
            (side.joins q t sign.0 ts here (sign.2 ∙ sym is) (ap is_plain is ∙ sep.plain)
            (one.beside (before ++ bytes_in sep.tree) q mid (next.beside after q us x)));
      }

  -- one item or more
  pub some : {item : A} {items : List A} {ts mid ending : List Token} → Item item ts mid →
      Row Item kind mid items ending →
      Reads All (map same) (item ∷ items)
      (g (h item) ++ flat_map (λ b. text ++ g b) (map h items))
      (Follows side.First side.Last ts ending)
  some {item = item} one row =
      let next = later row in record {
        tree = both one.tree next.tree;
        spells =
            ap (λ t. t ++ bytes_in next.tree) one.spells ∙ ap (λ t. g (h item) ++ t) next.spells;
        stands = λ rest s.
            (one.stands (bytes_in next.tree ++ rest) (next.stops rest s), next.stands rest s);
        means = λ before rest.
            let mid = tokens_in (before ++ bytes_in one.tree) next.tree rest in
            let first = one.means before mid in
            let others = next.means (before ++ bytes_in one.tree) rest (first.0 ∷ []) in (
              first.0 ∷ others.0,
              rows.whole (tokens_in before one.tree mid) mid rest first.0 (first.0 ∷ others.0)
                  first.1 others.1,
              ap (λ b. b ∷ map same others.0) first.2 ∙ ap (λ bs. same item ∷ bs) others.2,
            );
        beside = λ before q us x.
            let after = before ++ bytes_in one.tree in
            one.beside before q (tokens_in after next.tree us) (next.beside after q us x);
      }

  -- no item or more, up to and with a closing bracket
  pub closed : (k : ℕ) (close : List ℕ) → ((rest : List ℕ) → IsToken (Sign k) close rest) →
      ((rest : List ℕ) → Stops (close ++ rest)) → closes (Sign k) ≡ true →
      (In : Phrases (List A)) →
      ((u : Token) (rest : List Token) → u.kind ≡ Sign k → In (u ∷ rest) [] rest) →
      ((ts rest : List Token) (u : Token) (items : List A) → All ts items (u ∷ rest) →
      u.kind ≡ Sign k → In ts items rest) →
      {items : List A} {ts ending : List Token} → Listed Item kind (Sign k) ts items ending →
      Reads In (map same) items (join_by g text (map h items) ++ close)
      (Follows side.Opened side.Last ts ending)
  closed k close stands stops closing In nothing_in something_in {ending = ending} (Listed.none_in {u = u} is) = record {
    tree = piece (token (Sign k) close);
    spells = refl;
    stands = λ rest s. stands rest;
    means = λ before rest.
        ([], nothing_in (token_after before (Sign k) close) rest refl, refl);
    beside = λ before q us x.
        side.empty q u (token_after before (Sign k) close) ending us (sym is) (ap closes is ∙ closing) x;
  }
  closed k close stands stops closing In nothing_in something_in {ts = ts} {ending = ending} (Listed.some_in {u = v} one row is) =
      let r = some one row in record {
        tree = both r.tree (piece (token (Sign k) close));
        spells = ap (λ t. t ++ close) r.spells;
        stands = λ rest s. (r.stands (close ++ rest) (stops rest), stands rest);
        means = λ before rest.
            let u = token_after (before ++ bytes_in r.tree) (Sign k) close in
            let m = r.means before (u ∷ rest) in
            (m.0, something_in (tokens_in before r.tree (u ∷ rest)) rest u m.0 m.1 refl, m.2);
        beside = λ before q us x.
            let u = token_after (before ++ bytes_in r.tree) (Sign k) close in
            side.inside q ts (tokens_in before r.tree (u ∷ us)) (r.beside before (side.push q) (u ∷ us)
            (side.closing q v u ending us (sym is) (ap closes is ∙ closing) x));
      }
