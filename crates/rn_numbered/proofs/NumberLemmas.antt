-- The numbers of names that are declared without fault.
use Rattle.std.proofs.Common.{◌≡◌, ℕ, zero, suc, ◌+◌, ◌<◌, Bool, true, false, cond, ◌||◌, ◌&&◌, not, List, [], ◌∷◌, ◌++◌}
use Rattle.std.proofs.Common.{length, map, take, get_or, nat_eq, Option, Some, zero-add, refl, sym, ap, ◌∙◌, subst, arith}
use Rattle.std.proofs.Math.Path.{fun_ext}
use Rattle.std.specs.Prelude.{nat_le, position, string_bytes, if◌then◌else◌}
use Rattle.std.proofs.lemmas.Option.{same_Some}
use Rattle.std.specs.declared.alloc.Global.{Global}
use Rattle.std.specs.String.{string_eq}
use Rattle.std.specs.declared.string.String.{String}
use Rattle.indexmap.specs.IndexSet.{insert_key}
use Rattle.std.specs.List.{list_any, position_from}
use Rattle.std.proofs.lemmas.Cmp.{nat_list_eq_equiv, nat_eq_equiv}
use Rattle.std.proofs.lemmas.List.{append-nil, append_assoc, map-append}
use Rattle.std.proofs.lemmas.Iterator.Adapters.{position_from-zero}
use Rattle.rn_inscript.specs.declared.inscriptions.PName.{PName}
use Rattle.rn_net.specs.declared.plain.PChannel.{PChannel}
use Rattle.rn_model.specs.Limits.{longest_name}
use Rattle.rn_declared.specs.declared.fault.Rule.TheVariants as Rule
use Rattle.rn_declared.specs.Faults.{broken_if}
use Rattle.rn_declared.specs.Declarations.{kind_part, parts_faults}
use Rattle.rn_declared.specs.Names.{same_name, number_from, number_among, name_faults, names_faults}
use Rattle.rn_declared.specs.link.Tables.{or_number, with_name}
use Rattle.rn_declared.specs.Channels.{channel_from, same_channel, channel_faults, channels_faults}
use Rattle.rn_numbered.specs.link.NumbersFound.{key_of, is_key}
use Rattle.rn_declared.proofs.Faultless.{both_nil, unbroken}
use Rattle.rn_declared.proofs.DeclaredNames.{short_and_new}
use Rattle.rn_declared.proofs.NameLemmas.{push}
use Rattle.rn_items.proofs.Lists.{map_more}

any_map : {A B : Type 0} (test : B → Bool) (f : A → B) (xs : List A) →
    list_any test (map f xs) ≡ list_any (λ x. test (f x)) xs
any_map test f [] = refl
any_map test f (x ∷ xs) = ap (λ b. test (f x) || b) (any_map test f xs)

abbrev pub all_texts : List (String Global) → List (List ℕ)
all_texts = map string_bytes

-- the keys of channels
abbrev pub text_key : String Global × ℕ → List ℕ × ℕ
text_key key = (string_bytes key.0, key.1)

abbrev pub all_keys : List (String Global × ℕ) → List (List ℕ × ℕ)
all_keys = map text_key

abbrev pub keys_eq : String Global × ℕ → String Global × ℕ → Bool
keys_eq a b = string_eq a.0 b.0 && nat_eq a.1 b.1

pub keys_alike : (text : String Global) (count : ℕ) (k : String Global × ℕ) (name : List ℕ) →
    string_bytes text ≡ name → keys_eq (text, count) k ≡ is_key name count (text_key k)
keys_alike text count k name is =
    ap (λ b. b && nat_eq count k.1)
    (nat_list_eq_equiv.symm (string_bytes text) (string_bytes k.0) ∙ ap (same_name (string_bytes k.0)) is)
    ∙ ap (λ b. same_name (string_bytes k.0) name && b) (nat_eq_equiv.symm count k.1)

-- a key that is put into a set in which none is the same
pub put_more : {A B : Type 0} (f : A → B) (eq : A → A → Bool) (test : B → Bool) (keys after : List A)
    (key : A) (made : B) → after ≡ insert_key eq keys key → ((k : A) → eq key k ≡ test (f k)) →
    f key ≡ made → list_any test (map f keys) ≡ false → map f after ≡ map f keys ++ made ∷ []
put_more f eq test keys after key made put same is new =
    let none : list_any (eq key) keys ≡ false =
    ap (λ p. list_any p keys) (fun_ext same) ∙ sym (any_map test f keys) ∙ new in
    ap (map f) (put ∙ ap (λ b. cond b keys (keys ++ key ∷ [])) none)
    ∙ map-append f keys (key ∷ [])
    ∙ ap (λ y. map f keys ++ y ∷ []) is

-- the same of a set of texts
pub text_put : (keys after : List (String Global)) (key : String Global) (name : List ℕ) →
    string_bytes key ≡ name → after ≡ insert_key string_eq keys key →
    list_any (λ declared. same_name declared name) (all_texts keys) ≡ false →
    all_texts after ≡ all_texts keys ++ name ∷ []
text_put keys after key name is put new =
    put_more string_bytes string_eq (λ declared. same_name declared name) keys after key name put
    (λ k. nat_list_eq_equiv.symm (string_bytes key) (string_bytes k) ∙ ap (same_name (string_bytes k)) is) is new

-- what a set finds by a test is what is found among what its keys stand for
pub position_map : {A B : Type 0} (f : A → B) (test : B → Bool) (n : ℕ) (xs : List A) →
    position_from (λ x. test (f x)) n xs ≡ position_from test n (map f xs)
position_map f test n [] = refl
position_map f test n (x ∷ xs) = ap (λ o. cond (test (f x)) (Some n) o) (position_map f test (n + 1) xs)

pub found_at : {A B : Type 0} (f : A → B) (test : B → Bool) (keys : List A) (found : Option ℕ) →
    found ≡ position (λ k. test (f k)) keys → found ≡ position_from test 0 (map f keys)
found_at f test keys found is =
    is ∙ position_from-zero (λ k. test (f k)) keys ∙ position_map f test 0 keys

-- what a table finds with one more name at the end
pub found_with : (found more : List ℕ → Option ℕ) (names after : List (List ℕ)) (name : List ℕ) (number : ℕ) →
    number ≡ length names → after ≡ names ++ name ∷ [] →
    ((other : List ℕ) → found other ≡ number_among names other) →
    ((other : List ℕ) → more other ≡ with_name found name number other) →
    (other : List ℕ) → more other ≡ number_among after other
found_with found more names after name number count put old step other =
    step other
    ∙ ap (λ o. or_number o (same_name name other) number) (old other)
    ∙ ap (or_number (number_among names other) (same_name name other)) (count ∙ sym (zero-add (length names)))
    ∙ sym (push 0 names name other)
    ∙ ap (λ ns. number_among ns other) (sym put)

-- a channel has the number at which the key of its name and count stands
pub channel_is : (n : ℕ) (channels : List PChannel) (name : List ℕ) (count : ℕ) →
    position_from (is_key name count) n (map key_of channels) ≡ channel_from n channels name count
channel_is n [] name count = refl
channel_is n (c ∷ channels) name count =
    ap (λ o. cond (same_channel c name count) (Some n) o) (channel_is (n + 1) channels name count)

-- the next name is new
pub new_name : {X : Type 0} (get : X → PName) (before : List (List ℕ)) (xs : List X) (i : ℕ) (x : X) →
    i < length xs → x ≡ get_or xs i x → names_faults before (map get xs) ≡ [] →
    list_any (λ declared. same_name declared (get x).text) (before ++ map (λ y. (get y).text) (take i xs)) ≡ false
new_name get before [] i x h is none = absurd (let no : ⊥ = omega arith in no)
new_name get before (y ∷ ys) zero x h is none =
    let both = both_nil (name_faults before (get y)) (names_faults (before ++ (get y).text ∷ []) (map get ys)) none in
    ap (λ z. list_any (λ declared. same_name declared (get z).text) (before ++ [])) is
    ∙ ap (list_any (λ declared. same_name declared (get y).text)) (append-nil before)
    ∙ (short_and_new before (get y) both.0).1
new_name get before (y ∷ ys) (suc i) x h is none =
    let both = both_nil (name_faults before (get y)) (names_faults (before ++ (get y).text ∷ []) (map get ys)) none in
    ap (list_any (λ declared. same_name declared (get x).text))
    (sym (append_assoc before ((get y).text ∷ []) (map (λ y. (get y).text) (take i ys))))
    ∙ new_name get (before ++ (get y).text ∷ []) ys i x (omega arith) is both.1

-- the next name is new among the names so far
pub name_is_new : {X : Type 0} (get : X → PName) (xs : List X) (i : ℕ) (x : X)
    (names : List (List ℕ)) (text : List ℕ) → i < length xs → x ≡ get_or xs i x →
    names_faults [] (map get xs) ≡ [] → names ≡ map (λ y. (get y).text) (take i xs) →
    text ≡ (get x).text → list_any (λ declared. same_name declared text) names ≡ false
name_is_new get xs i x names text h is none before named =
    ap (λ t. list_any (λ declared. same_name declared t) names) named
    ∙ ap (list_any (λ declared. same_name declared (get x).text)) before
    ∙ new_name get [] xs i x h is none

abbrev IsNew : List PChannel → PChannel → Type 0
IsNew before c = list_any (is_key c.name.text (length c.kinds)) (map key_of before) ≡ false

channel_new : (before : List PChannel) (c : PChannel) → channel_faults before c ≡ [] → IsNew before c
channel_new before c none =
    let long = not (nat_le (length c.name.text) longest_name) in
    let again = list_any (λ d. same_channel d c.name.text (length c.kinds)) before in
    let told = broken_if long Rule.Limit c.name.spot in
    let once = broken_if again Rule.Once c.name.spot in
    let both = both_nil (told ++ once) (parts_faults (map kind_part c.kinds)) none in
    any_map (is_key c.name.text (length c.kinds)) key_of before
    ∙ unbroken again Rule.Once c.name.spot (both_nil told once both.0).1

-- the next channel is new
pub new_channel : (before channels : List PChannel) (i : ℕ) (x : PChannel) →
    i < length channels → x ≡ get_or channels i x → channels_faults before channels ≡ [] →
    IsNew (before ++ take i channels) x
new_channel before [] i x h is none = absurd (let no : ⊥ = omega arith in no)
new_channel before (y ∷ ys) zero x h is none =
    let both = both_nil (channel_faults before y) (channels_faults (before ++ y ∷ []) ys) none in
    subst (λ c. IsNew (before ++ []) c) (sym is)
    (subst (λ cs. IsNew cs y) (sym (append-nil before)) (channel_new before y both.0))
new_channel before (y ∷ ys) (suc i) x h is none =
    let both = both_nil (channel_faults before y) (channels_faults (before ++ y ∷ []) ys) none in
    subst (λ cs. IsNew cs x) (append_assoc before (y ∷ []) (take i ys))
    (new_channel (before ++ y ∷ []) ys i x (omega arith) is both.1)

-- the channels so far, and one more
pub channel_more : (channels : List PChannel) (i : ℕ) (x : PChannel)
    (names more : List (List ℕ × ℕ)) (count : ℕ) → i < length channels → x ≡ get_or channels i x →
    channels_faults [] channels ≡ [] → names ≡ map key_of (take i channels) → count ≡ length x.kinds →
    (list_any (is_key x.name.text count) names ≡ false → more ≡ names ++ (x.name.text, count) ∷ []) →
    more ≡ map key_of (take (i + 1) channels)
channel_more channels i x names more count h is none before counted put =
    put
    (ap (λ n. list_any (is_key x.name.text n) names) counted
    ∙ ap (list_any (is_key x.name.text (length x.kinds))) before
    ∙ new_channel [] channels i x h is none)
    ∙ ap (λ n. names ++ (x.name.text, n) ∷ []) counted
    ∙ ap (λ ns. ns ++ key_of x ∷ []) before
    ∙ sym (map_more key_of channels i x h is)

-- A name that is declared has a number below how many are.
pub number_below : (n m : ℕ) (names : List (List ℕ)) (name : List ℕ) →
    number_from n names name ≡ Some m → m < n + length names
number_below n m [] name e = absurd (let no : ⊥ = cc in no)
number_below n m (d ∷ names) name e =
    by (same_name d name) (number_below (n + 1) m names name) e
  where
    by : (b : Bool) → (number_from (n + 1) names name ≡ Some m → m < n + 1 + length names) →
        (if b then Some n else number_from (n + 1) names name) ≡ Some m →
        m < n + suc (length names)
    by true later e = let same = same_Some n m e in omega (arith, same)
    by false later e = let more = later e in omega (arith, more)
