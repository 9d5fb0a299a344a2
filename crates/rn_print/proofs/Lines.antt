-- Phrases that end with their last token, whatever follows: lines one after another.
use Rattle.std.proofs.Common.{◌≡◌, ℕ, List, [], ◌∷◌, ◌++◌, map, refl, ap, ◌∙◌}
use Rattle.std.specs.List.{flat_map, AllByRecursion}
use Rattle.rn_notation.specs.declared.token.Token.{Token}
use Rattle.rn_net.specs.Levels.{IsShallow}
use Rattle.rn_net.specs.Levels.Region.{between}
use Rattle.rn_print.proofs.Trees.{Tree, nothing, both, bytes_in, tokens_in, Stands}
use Rattle.rn_print.proofs.Separated.{Phrases}

-- Pieces that read as a phrase, whatever follows them, and are within the limits of levels and
-- operators.
pub record Line {A : Type 0} (X : Phrases A) (same : A → A) (a : A) (text : List ℕ) : Type 0 where
  pub tree : Tree
  pub spells : bytes_in tree ≡ text
  pub stands : (rest : List ℕ) → Stands tree rest
  pub means : (before : List ℕ) (rest : List Token) →
      (b : A) × X (tokens_in before tree rest) b rest × (same b ≡ same a)
  pub shallow : (before : List ℕ) (rest : List Token) → IsShallow between rest →
      IsShallow between (tokens_in before tree rest)

-- phrases one after another
pub data Sequence {A : Type 0} (X : Phrases A) : List Token → List A → List Token → Type 0 where
  done : {ts : List Token} → Sequence X ts [] ts
  next : {ts mid rest : List Token} {item : A} {items : List A} →
      X ts item mid → Sequence X mid items rest → Sequence X ts (item ∷ items) rest

pub sequence : {A : Type 0} (X : Phrases A) (same : A → A) (f : A → List ℕ) (items : List A) →
    AllByRecursion (λ a. Line X same a (f a)) items →
    Line (Sequence X) (map same) items (flat_map f items)
sequence X same f [] each = record {
  tree = nothing;
  spells = refl;
  stands = λ rest. tt;
  means = λ before rest. ([], Sequence.done, refl);
  shallow = λ before rest h. h;
}
sequence X same f (item ∷ items) (one, each) =
    let later = sequence X same f items each in record {
      tree = both one.tree later.tree;
      spells =
          ap (λ t. t ++ bytes_in later.tree) one.spells ∙ ap (λ t. f item ++ t) later.spells;
      stands = λ rest. (one.stands (bytes_in later.tree ++ rest), later.stands rest);
      means = λ before rest.
          let after = before ++ bytes_in one.tree in
          let m = one.means before (tokens_in after later.tree rest) in
          let n = later.means after rest in (
            m.0 ∷ n.0,
            Sequence.next m.1 n.1,
            ap (λ b. b ∷ map same n.0) m.2 ∙ ap (λ bs. same item ∷ bs) n.2,
          );
      shallow = λ before rest h.
          let after = before ++ bytes_in one.tree in
          one.shallow before (tokens_in after later.tree rest) (later.shallow after rest h);
    }
