-- Tags and the chunks that they stand for, as lists grow and tags change.
use Rattle.std.proofs.Common.{◌≡◌, Result, Ok, Err, OnErr, IfOk, IfNone, Option, None, Some, ℕ, zero, suc, ◌+◌, ◌-◌, ◌<◌, ◌≤◌, List, [], ◌∷◌, ◌++◌, length, take, drop, get_or, set, length-append, refl, sym, ap, ◌∙◌, subst, arith}
use Rattle.std.proofs.lemmas.List.{length-map, get_or-map, get_or_append_left, get_or-append_right, take-append-drop, take-append-le, take_all, length-take-le, take-map, drop-map, map-append, map-set, map_more}
use Rattle.std.specs.List.{AllByRecursion}
use Rattle.rn_value.specs.declared.value.Value.{Value}
use Rattle.rn_bag.specs.declared.tag.Tag.{Tag}
use Rattle.rn_bag.specs.Slots.{there_from}
use Rattle.rn_bag.specs.Words.{has_bit}
use Rattle.rn_bag.specs.link.Chunks.{Slots, IsChunk}
use Rattle.rn_bag.specs.link.Pools.{lists_in, IsPushed}
use Rattle.rn_bag.specs.link.Tags.{values_at, slots_at, chunks_of, IsTag, AreTags, IsFull, IsKept}
use Rattle.rn_bag.proofs.SlotLemmas.{all_joined, all_prefix, all_suffix}

-- the chunk of a tag's index
pub tag_slots : (lists : List (List Value)) (ms : List Tag) (i : ℕ) (m : Tag) → i < length ms → m ≡ get_or ms i m → slots_at lists m ≡ get_or (chunks_of lists ms) i (slots_at lists m)
tag_slots lists ms i m within is =
    ap (slots_at lists) is ∙ sym (get_or-map (slots_at lists) ms i m (slots_at lists m) within)

pub tag_seen : (lists : List (List Value)) (ms : List Tag) (i : ℕ) (m : Tag) (x : Slots) → i < length ms → m ≡ get_or ms i m → x ≡ get_or (chunks_of lists ms) i x → x ≡ slots_at lists m
tag_seen lists ms i m x within is seen =
    seen ∙ get_or-map (slots_at lists) ms i m x within ∙ ap (slots_at lists) (sym is)

pub tag_is : (lists : List (List Value)) (ms : List Tag) (i : ℕ) (m : Tag) → AreTags lists ms → i < length ms → m ≡ get_or ms i m → IsTag lists m
tag_is lists [] i m all within is = absurd (omega arith)
tag_is lists (n ∷ ms) zero m all within is = subst (IsTag lists) (sym is) all.0
tag_is lists (n ∷ ms) (suc i) m all within is = tag_is lists ms i m all.1 (omega arith) is

pub tag_there : (lists : List (List Value)) (ms : List Tag) (i : ℕ) (d : Tag) → AreTags lists ms → i < length ms → IsTag lists (get_or ms i d)
tag_there lists [] i d all within = absurd (omega arith)
tag_there lists (n ∷ ms) zero d all within = all.0
tag_there lists (n ∷ ms) (suc i) d all within = tag_there lists ms i d all.1 (omega arith)

pub same_size : (lists : List (List Value)) (ms : List Tag) (now : List Slots) → chunks_of lists ms ≡ now → length ms ≡ length now
same_size lists ms now view = sym (length-map ms (slots_at lists)) ∙ ap length view

-- lists that come after the others change no chunk
kept_values : (lists more : List (List Value)) (m : Tag) → IsTag lists m → values_at (lists ++ more) m ≡ values_at lists m
kept_values lists more m is = ap (take m.len) (get_or_append_left lists more [] m.at is.inside)

kept_tag : (lists more : List (List Value)) (m : Tag) → IsTag lists m → IsTag (lists ++ more) m
kept_tag lists more m is = record {
  inside = omega (arith, is.inside, length-append lists more);
  within = subst (λ (vs : List Value). m.len ≤ length vs) (sym (get_or_append_left lists more [] m.at is.inside)) is.within;
  chunk = subst (λ vs. IsChunk vs m.word m.count) (sym (kept_values lists more m is)) is.chunk;
}

kept_slots : (lists more : List (List Value)) (m : Tag) → IsTag lists m → slots_at (lists ++ more) m ≡ slots_at lists m
kept_slots lists more m is = ap (λ (vs : List Value). let s : Slots = record { values = vs; there = m.word; before = m.before } in s) (kept_values lists more m is)

pub kept_tags : (lists more : List (List Value)) (ms : List Tag) → AreTags lists ms → AreTags (lists ++ more) ms
kept_tags lists more [] all = tt
kept_tags lists more (m ∷ ms) all = (kept_tag lists more m all.0, kept_tags lists more ms all.1)

pub kept_chunks : (lists more : List (List Value)) (ms : List Tag) → AreTags lists ms → chunks_of (lists ++ more) ms ≡ chunks_of lists ms
kept_chunks lists more [] all = refl
kept_chunks lists more (m ∷ ms) all =
    ap (λ s. s ∷ chunks_of (lists ++ more) ms) (kept_slots lists more m all.0)
    ∙ ap (λ ss. slots_at lists m ∷ ss) (kept_chunks lists more ms all.1)

-- the chunk of a list that comes last
last_list : (lists : List (List Value)) (vs : List Value) (at : ℕ) → at ≡ length lists → get_or (lists ++ vs ∷ []) at [] ≡ vs
last_list lists vs at last =
    get_or-append_right lists (vs ∷ []) (length lists) at [] refl (omega (arith, last))
    ∙ ap (λ n. get_or (vs ∷ []) n []) (let e : at - length lists ≡ 0 = omega (arith, last) in e)

pub last_tag : (lists : List (List Value)) (vs : List Value) (m : Tag) → m.at ≡ length lists → m.len ≤ length vs → IsChunk (take m.len vs) m.word m.count → IsTag (lists ++ vs ∷ []) m
last_tag lists vs m last few is = record {
  inside = omega (arith, last, length-append lists (vs ∷ []));
  within = subst (λ (ws : List Value). m.len ≤ length ws) (sym (last_list lists vs m.at last)) few;
  chunk = subst (λ (ws : List Value). IsChunk (take m.len ws) m.word m.count) (sym (last_list lists vs m.at last)) is;
}

last_kept : (lists : List (List Value)) (vs : List Value) (m : Tag) → IsKept lists vs m → IsTag (lists ++ vs ∷ []) m
last_kept lists vs m kept = last_tag lists vs m kept.last (omega (arith, kept.whole)) (subst (λ (ws : List Value). IsChunk ws m.word m.count) (sym (take_all m.len vs (omega (arith, kept.whole)))) kept.chunk)

pub last_slots : (lists : List (List Value)) (vs : List Value) (m : Tag) → m.at ≡ length lists → slots_at (lists ++ vs ∷ []) m ≡ record { values = take m.len vs; there = m.word; before = m.before }
last_slots lists vs m last = ap (λ (ws : List Value). let s : Slots = record { values = take m.len ws; there = m.word; before = m.before } in s) (last_list lists vs m.at last)

-- what holds of each tag holds after one of them changes, comes or goes
pub all_set : {A : Type 0} (P : A → Type 0) (xs : List A) (i : ℕ) (x : A) → AllByRecursion P xs → P x → AllByRecursion P (set xs i x)
all_set P [] i x all here = tt
all_set P (y ∷ xs) zero x all here = (here, all.1)
all_set P (y ∷ xs) (suc i) x all here = (all.0, all_set P xs i x all.1 here)

pub all_around : {A : Type 0} (P : A → Type 0) (xs : List A) (i j : ℕ) → AllByRecursion P xs → AllByRecursion P (take i xs) × AllByRecursion P (drop j xs)
all_around P xs i j all = (
  all_prefix P (take i xs) (drop i xs) (subst (AllByRecursion P) (sym (take-append-drop i xs)) all),
  all_suffix P (take j xs) (drop j xs) (subst (AllByRecursion P) (sym (take-append-drop j xs)) all),
)

-- the chunk of tokens that come last
full_last : (lists : List (List Value)) (vs : List Value) (m : Tag) → IsKept lists vs m → IsFull vs (slots_at (lists ++ vs ∷ []) m)
full_last lists vs m kept =
    let plain : IsFull vs (let s : Slots = record { values = vs; there = m.word; before = m.before } in s) = record { values = refl; tokens_are = kept.full; first = kept.first } in
    subst (IsFull vs) (sym (last_slots lists vs m kept.last ∙ ap (λ (ws : List Value). let s : Slots = record { values = ws; there = m.word; before = m.before } in s) (take_all m.len vs (omega (arith, kept.whole))))) plain

-- one tag changes, and the lists stay
pub changed_before : (lists : List (List Value)) (ms : List Tag) (now : List Slots) (i k : ℕ) (m n : Tag) (x : Slots) → chunks_of lists ms ≡ now → i < length now → m ≡ get_or ms i m → x ≡ get_or now i x → n ≡ record { word = m.word; count = m.count; before = k; at = m.at; len = m.len } →
    chunks_of lists (set ms i n) ≡ set now i (record { values = x.values; there = x.there; before = k })
changed_before lists ms now i k m n x view within is seen changed =
    let size : length ms ≡ length now = same_size lists ms now view in
    let same : x ≡ slots_at lists m = tag_seen lists ms i m x (omega (arith, size, within)) is (subst (λ (ss : List Slots). x ≡ get_or ss i x) (sym view) seen) in
    map-set (slots_at lists) ms i n
    ∙ ap (λ (ss : List Slots). set ss i (slots_at lists n)) view
    ∙ ap (λ (s : Slots). set now i s) (ap (slots_at lists) changed ∙ sym (ap (λ (s : Slots). let t : Slots = record { values = s.values; there = s.there; before = k } in t) same))

pub changed_there : (lists : List (List Value)) (ms : List Tag) (now : List Slots) (i w k : ℕ) (m n : Tag) (x : Slots) → chunks_of lists ms ≡ now → i < length now → m ≡ get_or ms i m → x ≡ get_or now i x → n ≡ record { word = w; count = k; before = m.before; at = m.at; len = m.len } →
    chunks_of lists (set ms i n) ≡ set now i (record { values = x.values; there = w; before = x.before })
changed_there lists ms now i w k m n x view within is seen changed =
    let size : length ms ≡ length now = same_size lists ms now view in
    let same : x ≡ slots_at lists m = tag_seen lists ms i m x (omega (arith, size, within)) is (subst (λ (ss : List Slots). x ≡ get_or ss i x) (sym view) seen) in
    map-set (slots_at lists) ms i n
    ∙ ap (λ (ss : List Slots). set ss i (slots_at lists n)) view
    ∙ ap (λ (s : Slots). set now i s) (ap (slots_at lists) changed ∙ sym (ap (λ (s : Slots). let t : Slots = record { values = s.values; there = w; before = s.before } in t) same))

pub changed_is : (lists : List (List Value)) (ms : List Tag) (now : List Slots) (i w k : ℕ) (m n : Tag) → chunks_of lists ms ≡ now → AreTags lists ms → i < length now → m ≡ get_or ms i m → ((x : Slots) → x ≡ get_or now i x → IsChunk x.values w k) → n ≡ record { word = w; count = k; before = m.before; at = m.at; len = m.len } →
    AreTags lists (set ms i n)
changed_is lists ms now i w k m n view all within is counted changed =
    let size : length ms ≡ length now = same_size lists ms now view in
    let inside : i < length ms = omega (arith, size, within) in
    let old : IsTag lists m = tag_is lists ms i m all inside is in
    let here : slots_at lists m ≡ get_or now i (slots_at lists m) = subst (λ (ss : List Slots). slots_at lists m ≡ get_or ss i (slots_at lists m)) view (tag_slots lists ms i m inside is) in
    let new : IsTag lists n = subst (IsTag lists) (sym changed) (record { inside = old.inside; within = old.within; chunk = counted (slots_at lists m) here }) in
    all_set (IsTag lists) ms i n all new

pub gone_chunks : (lists : List (List Value)) (ms ns : List Tag) (now : List Slots) (i j : ℕ) → chunks_of lists ms ≡ now → ns ≡ take i ms ++ drop j ms → chunks_of lists ns ≡ take i now ++ drop j now
gone_chunks lists ms ns now i j view gone =
    ap (chunks_of lists) gone
    ∙ map-append (slots_at lists) (take i ms) (drop j ms)
    ∙ ap (λ (r : List Slots). r ++ chunks_of lists (drop j ms)) (sym (take-map (slots_at lists) i ms) ∙ ap (take i) view)
    ∙ ap (λ (r : List Slots). take i now ++ r) (sym (drop-map (slots_at lists) j ms) ∙ ap (drop j) view)

-- a tag comes after all, in place of one, or between others
pub begun : (lists more : List (List Value)) (vs : List Value) (ms ns : List Tag) (now : List Slots) (m : Tag) → chunks_of lists ms ≡ now → AreTags lists ms → IsKept lists vs m → more ≡ lists ++ vs ∷ [] → now ≡ [] → ns ≡ ms ++ m ∷ [] →
    (y : Slots) × IsFull vs y × (chunks_of more ns ≡ y ∷ [])
begun lists more vs ms ns now m view all kept grown none pushed =
    let L : List (List Value) = lists ++ vs ∷ [] in (
      slots_at L m,
      full_last lists vs m kept,
      ap (λ (ls : List (List Value)). chunks_of ls ns) grown
          ∙ ap (chunks_of L) pushed
          ∙ map-append (slots_at L) ms (m ∷ [])
          ∙ ap (λ (r : List Slots). r ++ slots_at L m ∷ []) (kept_chunks lists (vs ∷ []) ms all ∙ view ∙ none),
    )

pub replaced_tag : (lists more : List (List Value)) (vs : List Value) (ms ns : List Tag) (now : List Slots) (i : ℕ) (m : Tag) → chunks_of lists ms ≡ now → AreTags lists ms → IsKept lists vs m → more ≡ lists ++ vs ∷ [] → ns ≡ set ms i m →
    (y : Slots) × IsFull vs y × (chunks_of more ns ≡ set now i y)
replaced_tag lists more vs ms ns now i m view all kept grown changed =
    let L : List (List Value) = lists ++ vs ∷ [] in (
      slots_at L m,
      full_last lists vs m kept,
      ap (λ (ls : List (List Value)). chunks_of ls ns) grown
          ∙ ap (chunks_of L) changed
          ∙ map-set (slots_at L) ms i m
          ∙ ap (λ (r : List Slots). set r i (slots_at L m)) (kept_chunks lists (vs ∷ []) ms all ∙ view),
    )

inserted_chunks : (lists : List (List Value)) (ms : List Tag) (now : List Slots) (i : ℕ) (m : Tag) → chunks_of lists ms ≡ now → chunks_of lists (take i ms ++ m ∷ drop i ms) ≡ take i now ++ slots_at lists m ∷ drop i now
inserted_chunks lists ms now i m view =
    map-append (slots_at lists) (take i ms) (m ∷ drop i ms)
    ∙ ap (λ (r : List Slots). r ++ slots_at lists m ∷ chunks_of lists (drop i ms)) (sym (take-map (slots_at lists) i ms) ∙ ap (take i) view)
    ∙ ap (λ (r : List Slots). take i now ++ slots_at lists m ∷ r) (sym (drop-map (slots_at lists) i ms) ∙ ap (drop i) view)

pub inserted_tag : (lists more : List (List Value)) (vs : List Value) (ms ns : List Tag) (now : List Slots) (i : ℕ) (m : Tag) → chunks_of lists ms ≡ now → AreTags lists ms → IsKept lists vs m → more ≡ lists ++ vs ∷ [] → ns ≡ take i ms ++ m ∷ drop i ms →
    (y : Slots) × IsFull vs y × (chunks_of more ns ≡ take i now ++ y ∷ drop i now)
inserted_tag lists more vs ms ns now i m view all kept grown changed =
    let L : List (List Value) = lists ++ vs ∷ [] in (
      slots_at L m,
      full_last lists vs m kept,
      ap (λ (ls : List (List Value)). chunks_of ls ns) grown
          ∙ ap (chunks_of L) changed
          ∙ inserted_chunks L ms now i m (kept_chunks lists (vs ∷ []) ms all ∙ view),
    )

pub split_tags : (lists more most : List (List Value)) (us vs : List Value) (ms ns : List Tag) (now : List Slots) (i j : ℕ) (m n : Tag) → chunks_of lists ms ≡ now → AreTags lists ms → IsKept lists us m → more ≡ lists ++ us ∷ [] → IsKept more vs n → most ≡ more ++ vs ∷ [] → ns ≡ set (take j ms ++ n ∷ drop j ms) i m →
    (y z : Slots) × IsFull us y × IsFull vs z × (chunks_of most ns ≡ set (take j now ++ z ∷ drop j now) i y)
split_tags lists more most us vs ms ns now i j m n view all first grown second grown_more changed =
    let kept : AreTags more ms = subst (λ (ls : List (List Value)). AreTags ls ms) (sym grown) (kept_tags lists (us ∷ []) ms all) in
    let seen : chunks_of more ms ≡ now = ap (λ (ls : List (List Value)). chunks_of ls ms) grown ∙ kept_chunks lists (us ∷ []) ms all ∙ view in
    let L : List (List Value) = more ++ vs ∷ [] in
    let lower : IsTag more m = subst (λ (ls : List (List Value)). IsTag ls m) (sym grown) (last_kept lists us m first) in
    let lower_full : IsFull us (slots_at more m) = subst (λ (ls : List (List Value)). IsFull us (slots_at ls m)) (sym grown) (full_last lists us m first) in (
      slots_at L m,
      slots_at L n,
      subst (IsFull us) (sym (kept_slots more (vs ∷ []) m lower)) lower_full,
      full_last more vs n second,
      ap (λ (ls : List (List Value)). chunks_of ls ns) grown_more
          ∙ ap (chunks_of L) changed
          ∙ map-set (slots_at L) (take j ms ++ n ∷ drop j ms) i m
          ∙ ap (λ (r : List Slots). set r i (slots_at L m)) (inserted_chunks L ms now j n (kept_chunks more (vs ∷ []) ms kept ∙ seen)),
    )

-- chunks over a pool of their own lists alone
pub settled_more : (pool lists : List (List Value)) (ms done : List Tag) (i : ℕ) (m n : Tag) (v : List Value) → AreTags pool ms → i < length ms → m ≡ get_or ms i m → v ≡ get_or pool m.at [] → AreTags lists done → chunks_of lists done ≡ chunks_of pool (take i ms) → length lists ≡ i → n ≡ record { word = m.word; count = m.count; before = m.before; at = i; len = m.len } →
    AreTags (lists ++ v ∷ []) (done ++ n ∷ []) × (chunks_of (lists ++ v ∷ []) (done ++ n ∷ []) ≡ chunks_of pool (take (i + 1) ms))
settled_more pool lists ms done i m n v all within is list are same size new =
    let L : List (List Value) = lists ++ v ∷ [] in
    let old : IsTag pool m = tag_is pool ms i m all within is in
    let N : Tag = record { word = m.word; count = m.count; before = m.before; at = i; len = m.len } in
    let here : IsTag L N = last_tag lists v N (sym size) (subst (λ (vs : List Value). m.len ≤ length vs) (sym list) old.within) (subst (λ (vs : List Value). IsChunk (take m.len vs) m.word m.count) (sym list) old.chunk) in
    let seen : slots_at L N ≡ slots_at pool m = last_slots lists v N (sym size) ∙ ap (λ (vs : List Value). let s : Slots = record { values = take m.len vs; there = m.word; before = m.before } in s) list in (
      all_joined (IsTag L) done (n ∷ []) (kept_tags lists (v ∷ []) done are) (subst (IsTag L) (sym new) here, tt),
      map-append (slots_at L) done (n ∷ [])
          ∙ ap (λ (r : List Slots). r ++ slots_at L n ∷ []) (kept_chunks lists (v ∷ []) done are ∙ same)
          ∙ ap (λ (s : Slots). chunks_of pool (take i ms) ++ s ∷ []) (ap (slots_at L) new ∙ seen ∙ ap (slots_at pool) is)
          ∙ sym (map_more (slots_at pool) ms i m within),
    )

pub settled_step : (pool lists more : List (List Value)) (ms done ns : List Tag) (i : ℕ) (m n : Tag) (v w : List Value) → AreTags pool ms → i < length ms → m ≡ get_or ms i m → v ≡ get_or pool m.at [] → AreTags lists done → chunks_of lists done ≡ chunks_of pool (take i ms) → length lists ≡ i → n ≡ record { word = m.word; count = m.count; before = m.before; at = i; len = m.len } → w ≡ v → more ≡ lists ++ w ∷ [] → ns ≡ done ++ n ∷ [] →
    AreTags more ns × (chunks_of more ns ≡ chunks_of pool (take (i + 1) ms)) × (length more ≡ i + 1)
settled_step pool lists more ms done ns i m n v w all within is list are same size new copied grown pushed =
    let next = settled_more pool lists ms done i m n v all within is list are same size new in
    let lists_are : more ≡ lists ++ v ∷ [] = grown ∙ ap (λ (vs : List Value). lists ++ vs ∷ []) copied in (
      subst (λ (ls : List (List Value)). AreTags ls ns) (sym lists_are) (subst (AreTags (lists ++ v ∷ [])) (sym pushed) next.0),
      ap (λ (ls : List (List Value)). chunks_of ls ns) lists_are ∙ ap (chunks_of (lists ++ v ∷ [])) pushed ∙ next.1,
      omega (arith, ap length lists_are, length-append lists (v ∷ []), size),
    )

-- tags over a pool with one more list
pub kept_more : (lists more : List (List Value)) (vs : List Value) (ms : List Tag) → AreTags lists ms → more ≡ lists ++ vs ∷ [] → AreTags more ms
kept_more lists more vs ms all grown = subst (λ (ls : List (List Value)). AreTags ls ms) (sym grown) (kept_tags lists (vs ∷ []) ms all)

pub seen_more : (lists more : List (List Value)) (vs : List Value) (ms : List Tag) (now : List Slots) → chunks_of lists ms ≡ now → AreTags lists ms → more ≡ lists ++ vs ∷ [] → chunks_of more ms ≡ now
seen_more lists more vs ms now view all grown = ap (λ (ls : List (List Value)). chunks_of ls ms) grown ∙ kept_chunks lists (vs ∷ []) ms all ∙ view

pub kept_last : (lists more : List (List Value)) (vs : List Value) (m : Tag) → IsKept lists vs m → more ≡ lists ++ vs ∷ [] → IsTag more m
kept_last lists more vs m kept grown = subst (λ (ls : List (List Value)). IsTag ls m) (sym grown) (last_kept lists vs m kept)

pub set_is : (lists more : List (List Value)) (vs : List Value) (ms : List Tag) (i : ℕ) (m : Tag) → AreTags lists ms → IsKept lists vs m → more ≡ lists ++ vs ∷ [] → AreTags more (set ms i m)
set_is lists more vs ms i m all kept grown = all_set (IsTag more) ms i m (kept_more lists more vs ms all grown) (kept_last lists more vs m kept grown)

pub inserted_is : (lists more : List (List Value)) (vs : List Value) (ms ns : List Tag) (i : ℕ) (m : Tag) → AreTags lists ms → IsKept lists vs m → more ≡ lists ++ vs ∷ [] → ns ≡ take i ms ++ m ∷ drop i ms → AreTags more ns
inserted_is lists more vs ms ns i m all kept grown inserted =
    let around = all_around (IsTag more) ms i i (kept_more lists more vs ms all grown) in
    subst (AreTags more) (sym inserted) (all_joined (IsTag more) (take i ms) (m ∷ drop i ms) around.0 (kept_last lists more vs m kept grown, around.1))

pub split_is : (lists more most : List (List Value)) (us vs : List Value) (ms ns : List Tag) (i j : ℕ) (m n : Tag) → AreTags lists ms → IsKept lists us m → more ≡ lists ++ us ∷ [] → IsKept more vs n → most ≡ more ++ vs ∷ [] → ns ≡ take j ms ++ n ∷ drop j ms → AreTags most (set ns i m)
split_is lists more most us vs ms ns i j m n all first grown second grown_more inserted =
    let both : AreTags most ns = inserted_is more most vs ms ns j n (kept_more lists more us ms all grown) second grown_more inserted in
    all_set (IsTag most) ns i m both (subst (λ (ls : List (List Value)). IsTag ls m) (sym grown_more) (kept_tag more (vs ∷ []) m (kept_last lists more us m first grown)))

-- what a tag has, where its chunk is seen
pub seen_at : (lists : List (List Value)) (ms : List Tag) (now : List Slots) (i : ℕ) (m : Tag) → chunks_of lists ms ≡ now → i < length ms → m ≡ get_or ms i m → slots_at lists m ≡ get_or now i (slots_at lists m)
seen_at lists ms now i m view within is = subst (λ (ss : List Slots). slots_at lists m ≡ get_or ss i (slots_at lists m)) view (tag_slots lists ms i m within is)

pub tag_len : (lists : List (List Value)) (m : Tag) → IsTag lists m → length (values_at lists m) ≡ m.len
tag_len lists m is = length-take-le m.len (get_or lists m.at []) is.within

-- a value that comes after those of one of a copy's own lists
after_shared : (lists own new : List (List Value)) (at i len : ℕ) (v : Value) → at ≡ length lists + i → IsPushed own i len v new → IsPushed (lists ++ own) at len v (lists ++ new)
after_shared [] own new at i len v is pushed = subst (λ (k : ℕ). IsPushed own k len v new) (let e : i ≡ at = omega (arith, is) in e) pushed
after_shared (l ∷ ls) own new zero i len v is pushed = absurd (omega (arith, is))
after_shared (l ∷ ls) own new (suc at) i len v is pushed =
    let rest = after_shared ls own new at i len v (omega (arith, is)) pushed in
    record { size = rest.size; lists = ap (λ (ms : List (List Value)). l ∷ ms) rest.lists }

pub pushed_in : (base seen : Option (List (List Value))) (own others new now : List (List Value)) (at shared len : ℕ) (v : Value) → lists_in base own ≡ now → seen ≡ base → others ≡ own → shared ≡ length (lists_in base []) → shared ≤ at → IsPushed others (at - shared) len v new → IsPushed now at len v (lists_in seen new)
pushed_in None seen own others new now at shared len v view base_is own_is size low p =
    subst (λ (ls : List (List Value)). IsPushed ls at len v (lists_in seen new)) view
    (subst (λ (b : Option (List (List Value))). IsPushed own at len v (lists_in b new)) (sym base_is)
    (subst (λ (ls : List (List Value)). IsPushed ls at len v new) own_is
    (subst (λ (i : ℕ). IsPushed others i len v new) (let e : at - shared ≡ at = omega (arith, size) in e) p)))
pushed_in (Some lists) seen own others new now at shared len v view base_is own_is size low p =
    subst (λ (ls : List (List Value)). IsPushed ls at len v (lists_in seen new)) view
    (subst (λ (b : Option (List (List Value))). IsPushed (lists ++ own) at len v (lists_in b new)) (sym base_is)
    (after_shared lists own new at (at - shared) len v (let e : at ≡ length lists + (at - shared) = omega (arith, low, size, length-append lists []) in e)
    (subst (λ (ls : List (List Value)). IsPushed ls (at - shared) len v new) own_is p)))

pub if_pushed : {T E : Type 0} (A B : Type 0) (r : Result (Option T) E) → (A → B) → IfOk r (λ left. IfNone left A) → IfOk r (λ left. IfNone left B)
if_pushed A B (Err e) f h = tt
if_pushed A B (Ok None) f h = f h
if_pushed A B (Ok (Some x)) f h = tt

-- a value that comes after those of a list changes no chunk
pushed_at : (lists : List (List Value)) (at i n : ℕ) (v : Value) → at < length lists → n ≤ length (get_or lists i []) → take n (get_or (set lists at (get_or lists at [] ++ v ∷ [])) i []) ≡ take n (get_or lists i [])
pushed_at [] at i n v inside few = absurd (omega arith)
pushed_at (l ∷ ls) zero zero n v inside few = take-append-le n l (v ∷ []) few
pushed_at (l ∷ ls) zero (suc i) n v inside few = refl
pushed_at (l ∷ ls) (suc at) zero n v inside few = refl
pushed_at (l ∷ ls) (suc at) (suc i) n v inside few = pushed_at ls at i n v (omega arith) few

pushed_size : (lists : List (List Value)) (at i : ℕ) (v : Value) → at < length lists → length (get_or lists i []) ≤ length (get_or (set lists at (get_or lists at [] ++ v ∷ [])) i [])
pushed_size [] at i v inside = absurd (omega arith)
pushed_size (l ∷ ls) zero zero v inside = omega (arith, length-append l (v ∷ []))
pushed_size (l ∷ ls) zero (suc i) v inside = omega arith
pushed_size (l ∷ ls) (suc at) zero v inside = omega arith
pushed_size (l ∷ ls) (suc at) (suc i) v inside = pushed_size ls at i v (omega arith)

pushed_here : (lists : List (List Value)) (at : ℕ) (vs : List Value) → at < length lists → get_or (set lists at vs) at [] ≡ vs
pushed_here [] at vs inside = absurd (omega arith)
pushed_here (l ∷ ls) zero vs inside = refl
pushed_here (l ∷ ls) (suc at) vs inside = pushed_here ls at vs (omega arith)

set_size : (lists : List (List Value)) (at : ℕ) (vs : List Value) → length (set lists at vs) ≡ length lists
set_size [] at vs = refl
set_size (l ∷ ls) zero vs = refl
set_size (l ∷ ls) (suc at) vs = ap suc (set_size ls at vs)

pushed_values : (lists new : List (List Value)) (at len : ℕ) (v : Value) (m : Tag) → at < length lists → IsPushed lists at len v new → IsTag lists m → values_at new m ≡ values_at lists m
pushed_values lists new at len v m inside pushed is =
    ap (λ (ls : List (List Value)). take m.len (get_or ls m.at [])) pushed.lists
    ∙ pushed_at lists at m.at m.len v inside is.within

pushed_tag : (lists new : List (List Value)) (at len : ℕ) (v : Value) (m : Tag) → at < length lists → IsPushed lists at len v new → IsTag lists m → IsTag new m
pushed_tag lists new at len v m inside pushed is = record {
  inside = omega (arith, ap length pushed.lists, set_size lists at (get_or lists at [] ++ v ∷ []), is.inside);
  within = subst (λ (ls : List (List Value)). m.len ≤ length (get_or ls m.at [])) (sym pushed.lists) (omega (arith, is.within, pushed_size lists at m.at v inside));
  chunk = subst (λ (vs : List Value). IsChunk vs m.word m.count) (sym (pushed_values lists new at len v m inside pushed is)) is.chunk;
}

pub pushed_tags : (lists new : List (List Value)) (at len : ℕ) (v : Value) (ms : List Tag) → at < length lists → IsPushed lists at len v new → AreTags lists ms → AreTags new ms
pushed_tags lists new at len v [] inside pushed all = tt
pushed_tags lists new at len v (m ∷ ms) inside pushed all = (pushed_tag lists new at len v m inside pushed all.0, pushed_tags lists new at len v ms inside pushed all.1)

pub pushed_chunks : (lists new : List (List Value)) (at len : ℕ) (v : Value) (ms : List Tag) → at < length lists → IsPushed lists at len v new → AreTags lists ms → chunks_of new ms ≡ chunks_of lists ms
pushed_chunks lists new at len v [] inside pushed all = refl
pushed_chunks lists new at len v (m ∷ ms) inside pushed all =
    ap (λ (vs : List Value). let s : Slots = record { values = vs; there = m.word; before = m.before } in s ∷ chunks_of new ms) (pushed_values lists new at len v m inside pushed all.0)
    ∙ ap (λ ss. slots_at lists m ∷ ss) (pushed_chunks lists new at len v ms inside pushed all.1)

-- the values of the tag that has the new value too
pushed_last : (lists new : List (List Value)) (v : Value) (m n : Tag) → m.at < length lists → IsPushed lists m.at m.len v new → n.at ≡ m.at → n.len ≡ m.len + 1 → values_at new n ≡ values_at lists m ++ v ∷ []
pushed_last lists new v m n inside pushed same more =
    let vs : List Value = get_or lists m.at [] in
    let list : get_or new n.at [] ≡ vs ++ v ∷ [] = ap (λ (i : ℕ). get_or new i []) same ∙ ap (λ (ls : List (List Value)). get_or ls m.at []) pushed.lists ∙ pushed_here lists m.at (vs ++ v ∷ []) inside in
    ap (take n.len) list
    ∙ take_all n.len (vs ++ v ∷ []) (omega (arith, more, pushed.size, length-append vs (v ∷ [])))
    ∙ ap (λ (ws : List Value). ws ++ v ∷ []) (sym (take_all m.len vs (omega (arith, pushed.size))))

pub pushed_is : (lists new : List (List Value)) (v : Value) (ms : List Tag) (i : ℕ) (m n : Tag) → i < length ms → m ≡ get_or ms i m → IsPushed lists m.at m.len v new → AreTags lists ms → n.at ≡ m.at → n.len ≡ m.len + 1 → IsChunk (values_at lists m ++ v ∷ []) n.word n.count → AreTags new (set ms i n)
pushed_is lists new v ms i m n within is pushed all same more chunk =
    let old : IsTag lists m = tag_is lists ms i m all within is in
    let values = pushed_last lists new v m n old.inside pushed same more in
    let here : m.len ≤ length (get_or lists m.at []) = old.within in
    let list : get_or new n.at [] ≡ get_or lists m.at [] ++ v ∷ [] = ap (λ (k : ℕ). get_or new k []) same ∙ ap (λ (ls : List (List Value)). get_or ls m.at []) pushed.lists ∙ pushed_here lists m.at (get_or lists m.at [] ++ v ∷ []) old.inside in
    all_set (IsTag new) ms i n (pushed_tags lists new m.at m.len v ms old.inside pushed all) (record {
      inside = omega (arith, ap length pushed.lists, set_size lists m.at (get_or lists m.at [] ++ v ∷ []), old.inside, same);
      within = omega (arith, ap length list, length-append (get_or lists m.at []) (v ∷ []), more, here);
      chunk = subst (λ (vs : List Value). IsChunk vs n.word n.count) (sym values) chunk;
    })

pub pushed_seen : (lists new : List (List Value)) (v : Value) (ms : List Tag) (now : List Slots) (i : ℕ) (m n : Tag) (x : Slots) → chunks_of lists ms ≡ now → i < length ms → m ≡ get_or ms i m → x ≡ get_or now i x → IsPushed lists m.at m.len v new → AreTags lists ms → n.at ≡ m.at → n.len ≡ m.len + 1 → n.before ≡ 0 → there_from (has_bit n.word) 0 (values_at lists m ++ v ∷ []) ≡ values_at lists m ++ v ∷ [] →
    (y : Slots) × IsFull (x.values ++ v ∷ []) y × (chunks_of new (set ms i n) ≡ set now i y)
pushed_seen lists new v ms now i m n x view within is seen pushed all same more first full =
    let old : IsTag lists m = tag_is lists ms i m all within is in
    let values = pushed_last lists new v m n old.inside pushed same more in
    let x_is : x ≡ slots_at lists m = tag_seen lists ms i m x within is (subst (λ (ss : List Slots). x ≡ get_or ss i x) (sym view) seen) in
    let whole : values_at lists m ++ v ∷ [] ≡ x.values ++ v ∷ [] = ap (λ (s : Slots). s.values ++ v ∷ []) (sym x_is) in (
      slots_at new n,
      record {
        values = values ∙ whole;
        tokens_are = ap (there_from (has_bit n.word) 0) values ∙ full ∙ whole;
        first = first;
      },
      map-set (slots_at new) ms i n ∙ ap (λ (r : List Slots). set r i (slots_at new n)) (pushed_chunks lists new m.at m.len v ms old.inside pushed all ∙ view),
    )

-- what holds in any case holds on Err
pub on_err_too : {T E : Type 0} (A : Type 0) (r : Result T E) → A → OnErr r A
on_err_too A (Ok x) a = tt
on_err_too A (Err e) a = a
