-- A text of a value stays one as names are added.
use Rattle.std.proofs.Common.{◌≡◌, ℕ, zero, suc, ◌-◌, List, [], ◌∷◌, ◌++◌, Some, sym, ◌∙◌}
use Rattle.std.specs.List.{slice_get}
use Rattle.rn_value.specs.Grammar.{IsText, IsRow, IsTail}
use Rattle.rn_value.specs.Names.{name_of}
use Rattle.rn_value.specs.TextLaws.{TextsStayAsNamesGrow}
use Rattle.rn_value.specs.declared.value.Value.{Value}
use Rattle.rn_value.proofs.Written.{on_equal, name_of_none, name_of_some}

still_there : (names more : List (List ℕ)) (index : ℕ) (name : List ℕ) → slice_get names index ≡ Some name → slice_get (names ++ more) index ≡ Some name
still_there [] more index name e = cc
still_there (n ∷ names) more zero name e = e
still_there (n ∷ names) more (suc index) name e = still_there names more index name e

still_named : (names more : List (List ℕ)) (k : ℕ) (name : List ℕ) → name_of names k ≡ Some name → name_of (names ++ more) k ≡ Some name
still_named names more k name e = on_equal k 0
    (λ zero. let none = name_of_none names k zero in cc)
    (λ apart. name_of_some (names ++ more) k apart ∙ still_there names more (k - 1) name (sym (name_of_some names k apart) ∙ e))

module _ (names more : List (List ℕ)) where
  mutual
    text_stays : {v : Value} {a : List ℕ} → IsText names v a → IsText (names ++ more) v a
    text_stays (IsText.number n) = IsText.number n
    text_stays (IsText.text s) = IsText.text s
    text_stays (IsText.tuple row) = IsText.tuple (row_stays row)
    text_stays (IsText.list row) = IsText.list (row_stays row)
    text_stays (IsText.instance {number = k} {name = name} called digits) = IsText.instance (still_named names more k name called) digits

    row_stays : {vs : List Value} {a : List ℕ} → IsRow names vs a → IsRow (names ++ more) vs a
    row_stays IsRow.none = IsRow.none
    row_stays (IsRow.some t others) = IsRow.some (text_stays t) (tail_stays others)

    tail_stays : {vs : List Value} {a : List ℕ} → IsTail names vs a → IsTail (names ++ more) vs a
    tail_stays IsTail.end = IsTail.end
    tail_stays (IsTail.comma t others) = IsTail.comma (text_stays t) (tail_stays others)

pub texts_stay : TextsStayAsNamesGrow
texts_stay names more v bytes = text_stays names more
