-- The grammar of values as records have them: which bytes are the text of which value, and which
-- instances they name. Whether there are such instances is another question.
--
-- Of the bytes below 34 is `"`, 44 `,`, 91 `[`, 93 `]`, 123 `{` and 125 `}`.
use Rattle.std.specs.Prelude.{◌≡◌, ◌<◌, ◌≤◌, ◌^◌, ℕ, suc, ℤ, pos, negsuc, List, [], ◌∷◌, ◌++◌}
use Rattle.std.specs.Str.{IsUtf8}
use Rattle.rn_value.specs.Grammar.{IsNumeral, IsWholeNumber, IsInside}
use Rattle.rn_value.specs.TextLaws.{IsDelimited}
use Rattle.rn_value.specs.Words.{IsName}
use Rattle.rn_value.specs.declared.value.InstRef.TheVariants.{Old}
use Rattle.rn_value.specs.declared.value.Value.{Value}
use Rattle.rn_value.specs.declared.value.Value.TheVariants as Value

-- an instance as a text names it: the name of its net, and its number
pub record Said : Type 0 where
  pub name : List ℕ
  pub number : ℕ

-- A whole number has 64 bits, one of them for its sign.
abbrev pub HasSixtyFourBits : ℤ → Type 0
HasSixtyFourBits (pos n) = n < 2 ^ 63
HasSixtyFourBits (negsuc n) = n < 2 ^ 63

-- Texts of values in which at most `depth` brackets of tuples and lists are open at once, with the
-- instances that they name, in order.
mutual
  -- Of a value: a whole number of 64 bits; a text of UTF-8 in quotes; a tuple in `[` and `]`; a list
  -- in `{` and `}`; or an instance, by a name and a number from 1 in `[` and `]`.
  pub data IsValue : ℕ → Value → List Said → List ℕ → Type 0 where
    number : {depth : ℕ} {n : ℤ} {bytes : List ℕ} → HasSixtyFourBits n → IsWholeNumber n bytes →
        IsValue depth (Value.Int n) [] bytes
    text : {depth : ℕ} {s bytes : List ℕ} → IsUtf8 s → IsInside s bytes →
        IsValue depth (Value.Text s) [] (34 ∷ bytes ++ 34 ∷ [])
    tuple : {depth : ℕ} {vs : List Value} {said : List Said} {bytes : List ℕ} →
        IsRow depth vs said bytes → IsValue (suc depth) (Value.Tuple vs) said (91 ∷ bytes ++ 93 ∷ [])
    list : {depth : ℕ} {vs : List Value} {said : List Said} {bytes : List ℕ} →
        IsRow depth vs said bytes → IsValue (suc depth) (Value.List vs) said (123 ∷ bytes ++ 125 ∷ [])
    instance : {depth number : ℕ} {name digits : List ℕ} →
        IsName name → 1 ≤ number → number < 2 ^ 32 → IsNumeral number digits →
        IsValue depth (Value.Inst (Old number)) (record { name = name; number = number } ∷ [])
        (name ++ (91 ∷ digits ++ 93 ∷ []))

  -- Of the items of a tuple or a list: nothing, or an item and those that follow it.
  pub data IsRow : ℕ → List Value → List Said → List ℕ → Type 0 where
    none : {depth : ℕ} → IsRow depth [] [] []
    some : {depth : ℕ} {v : Value} {vs : List Value} {said more : List Said} {bytes rest : List ℕ} →
        IsValue depth v said bytes → IsTail depth vs more rest →
        IsRow depth (v ∷ vs) (said ++ more) (bytes ++ rest)

  -- Of the items that follow another: each has a comma before it.
  pub data IsTail : ℕ → List Value → List Said → List ℕ → Type 0 where
    end : {depth : ℕ} → IsTail depth [] [] []
    comma : {depth : ℕ} {v : Value} {vs : List Value} {said more : List Said}
        {bytes rest : List ℕ} → IsValue depth v said bytes → IsTail depth vs more rest →
        IsTail depth (v ∷ vs) (said ++ more) (44 ∷ (bytes ++ rest))

-- how many brackets of tuples and lists may be open at once in a record
abbrev pub most_brackets : ℕ
most_brackets = 128

-- what stands at the start of bytes: a value, the instances that its text names, in order, and the
-- bytes after it
pub record Seen : Type 0 where
  pub value : Value
  pub named : List Said
  pub rest : List ℕ

-- Bytes begin with the text of a value, in which at most `depth` brackets are open at once. After
-- it the bytes end, or a space, a newline, a comma, `]` or `}` comes.
pub record Begins (depth : ℕ) (bytes : List ℕ) (seen : Seen) : Type 0 where
  pub text : List ℕ
  pub whole : bytes ≡ text ++ seen.rest
  pub stands : IsValue depth seen.value seen.named text
  pub delimited : IsDelimited seen.rest
