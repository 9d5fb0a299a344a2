-- Texts as trees of pieces, blanks and tokens: what they spell, what tokens they are, and that they
-- stand before what follows.
use Rattle.std.proofs.Common.{◌≡◌, ℕ, false, List, [], ◌∷◌, ◌++◌, refl, sym, ap, ◌∙◌, subst, append_assoc}
use Rattle.std.specs.List.{flat_map}
use Rattle.std.proofs.lemmas.List.{append-nil}
use Rattle.rn_value.specs.Characters.{is_name_byte}
use Rattle.rn_value.specs.Words.{begins_with}
use Rattle.rn_notation.specs.Reading.{Piece, gap, token, bytes_of, StandsBefore, ArePieces, token_after, tokens_after, Tokens}
use Rattle.rn_notation.specs.declared.token.Token.{Token}

pub data Tree : Type 0 where
  nothing : Tree
  piece : Piece → Tree
  both : Tree → Tree → Tree

abbrev pub bytes_in : Tree → List ℕ
bytes_in nothing = []
bytes_in (piece p) = bytes_of p
bytes_in (both a b) = bytes_in a ++ bytes_in b

abbrev pub tokens_of_piece : List ℕ → Piece → List Token → List Token
tokens_of_piece before (gap prefix) rest = rest
tokens_of_piece before (token kind prefix) rest = token_after before kind prefix ∷ rest

-- the tokens of a tree that stands after some bytes, and then these
abbrev pub tokens_in : List ℕ → Tree → List Token → List Token
tokens_in before nothing rest = rest
tokens_in before (piece p) rest = tokens_of_piece before p rest
tokens_in before (both a b) rest =
    tokens_in before a (tokens_in (before ++ bytes_in a) b rest)

-- each piece of the tree stands before what follows it, up to the rest
abbrev pub Stands : Tree → List ℕ → Type 0
Stands nothing rest = Unit {0}
Stands (piece p) rest = StandsBefore p rest
Stands (both a b) rest = Stands a (bytes_in b ++ rest) × Stands b rest

-- the rest doesn't go on with a letter, a digit or `_`
abbrev pub Stops : List ℕ → Type 0
Stops rest = begins_with is_name_byte rest ≡ false

abbrev pub pieces_of : Tree → List Piece
pieces_of nothing = []
pieces_of (piece p) = p ∷ []
pieces_of (both a b) = pieces_of a ++ pieces_of b

-- pieces of a text up to some rest, and those of this rest, are pieces of it together
pub pieces_join : (text mid rest : List ℕ) (ps qs : List Piece) → ArePieces text ps mid →
    ArePieces mid qs rest → ArePieces text (ps ++ qs) rest
pieces_join text mid rest [] qs a b = subst (λ t. ArePieces t qs rest) (sym a) b
pieces_join text mid rest (p ∷ ps) qs (after, e, fits, more) b =
    (after, e, fits, pieces_join after mid rest ps qs more b)

pub stand_flat : (tree : Tree) (rest : List ℕ) → Stands tree rest →
    ArePieces (bytes_in tree ++ rest) (pieces_of tree) rest
stand_flat nothing rest s = refl
stand_flat (piece p) rest s = (rest, refl, s, refl)
stand_flat (both a b) rest (s, t) =
    subst (λ text. ArePieces text (pieces_of a ++ pieces_of b) rest)
    (sym (append_assoc (bytes_in a) (bytes_in b) rest))
    (pieces_join (bytes_in a ++ (bytes_in b ++ rest)) (bytes_in b ++ rest) rest
    (pieces_of a) (pieces_of b) (stand_flat a (bytes_in b ++ rest) s) (stand_flat b rest t))

pub bytes_flat : (tree : Tree) → flat_map bytes_of (pieces_of tree) ≡ bytes_in tree
bytes_flat nothing = refl
bytes_flat (piece p) = append-nil (bytes_of p)
bytes_flat (both a b) =
    joined (pieces_of a) (pieces_of b)
    ∙ ap (λ t. t ++ flat_map bytes_of (pieces_of b)) (bytes_flat a)
    ∙ ap (λ t. bytes_in a ++ t) (bytes_flat b)
  where
    joined : (ps qs : List Piece) →
        flat_map bytes_of (ps ++ qs) ≡ flat_map bytes_of ps ++ flat_map bytes_of qs
    joined [] qs = refl
    joined (p ∷ ps) qs =
        ap (λ t. bytes_of p ++ t) (joined ps qs)
        ∙ sym (append_assoc (bytes_of p) (flat_map bytes_of ps) (flat_map bytes_of qs))

tokens_join : (before : List ℕ) (ps qs : List Piece) →
    tokens_after before (ps ++ qs)
    ≡ tokens_after before ps ++ tokens_after (before ++ flat_map bytes_of ps) qs
tokens_join before [] qs = ap (λ b. tokens_after b qs) (sym (append-nil before))
tokens_join before (gap prefix ∷ ps) qs =
    tokens_join (before ++ prefix) ps qs
    ∙ ap (λ b. tokens_after (before ++ prefix) ps ++ tokens_after b qs)
    (append_assoc before prefix (flat_map bytes_of ps))
tokens_join before (token kind prefix ∷ ps) qs =
    ap (λ t. token_after before kind prefix ∷ t)
    (tokens_join (before ++ prefix) ps qs
    ∙ ap (λ b. tokens_after (before ++ prefix) ps ++ tokens_after b qs)
    (append_assoc before prefix (flat_map bytes_of ps)))

pub tokens_flat : (before : List ℕ) (tree : Tree) (rest : List Token) →
    tokens_after before (pieces_of tree) ++ rest ≡ tokens_in before tree rest
tokens_flat before nothing rest = refl
tokens_flat before (piece (gap prefix)) rest = refl
tokens_flat before (piece (token kind prefix)) rest = refl
tokens_flat before (both a b) rest =
    ap (λ t. t ++ rest) (tokens_join before (pieces_of a) (pieces_of b)
    ∙ ap (λ t. tokens_after before (pieces_of a) ++ tokens_after (before ++ t) (pieces_of b))
    (bytes_flat a))
    ∙ append_assoc (tokens_after before (pieces_of a))
    (tokens_after (before ++ bytes_in a) (pieces_of b)) rest
    ∙ tokens_flat before a (tokens_after (before ++ bytes_in a) (pieces_of b) ++ rest)
    ∙ ap (tokens_in before a) (tokens_flat (before ++ bytes_in a) b rest)

-- a whole text of a tree is its tokens
pub tokens_whole : (tree : Tree) (text : List ℕ) → bytes_in tree ≡ text → Stands tree [] →
    Tokens text (tokens_in [] tree [])
tokens_whole tree text e s = record {
  pieces = pieces_of tree;
  stand = subst (λ t. ArePieces t (pieces_of tree) []) (append-nil (bytes_in tree) ∙ e)
      (stand_flat tree [] s);
  cover = sym (bytes_flat tree ∙ e);
  among = sym (sym (append-nil (tokens_after [] (pieces_of tree))) ∙ tokens_flat [] tree []);
}

-- Pieces that read as a phrase: what they spell, what they stand for in the grammar, but for spots,
-- and what else is so of them.
pub record Reads {A : Type 0} (X : List Token → A → List Token → Type 0) (same : A → A) (a : A)
    (text : List ℕ) (F : Tree → Type 0) : Type 0 where
  pub tree : Tree
  pub spells : bytes_in tree ≡ text
  pub stands : (rest : List ℕ) → Stops rest → Stands tree rest
  pub means : (before : List ℕ) (rest : List Token) →
      (b : A) × X (tokens_in before tree rest) b rest × (same b ≡ same a)
  pub beside : F tree

-- the same pieces as another phrase, and as an equal text
pub reads_by : {A : Type 0} (X Y : List Token → A → List Token → Type 0) (same : A → A) (a : A)
    (text : List ℕ) (F : Tree → Type 0) →
    ((ts : List Token) (b : A) (rest : List Token) → X ts b rest → Y ts b rest) →
    Reads X same a text F → Reads Y same a text F
reads_by X Y same a text F f r = record {
  tree = r.tree;
  spells = r.spells;
  stands = r.stands;
  means = λ before rest.
      let m = r.means before rest in (m.0, f (tokens_in before r.tree rest) m.0 rest m.1, m.2);
  beside = r.beside;
}

pub reads_text : {A : Type 0} (X : List Token → A → List Token → Type 0) (same : A → A) (a : A)
    (text other : List ℕ) (F : Tree → Type 0) → text ≡ other → Reads X same a text F →
    Reads X same a other F
reads_text X same a text other F e r = subst (λ text. Reads X same a text F) e r
