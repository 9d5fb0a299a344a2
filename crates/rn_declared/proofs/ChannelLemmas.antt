-- Channels that are declared one after another.
use Rattle.std.proofs.Common.{◌≡◌, ℕ, suc, ◌+◌, ◌<◌, ◌≤◌, Bool, true, false, cond, ◌||◌, List, [], ◌∷◌, ◌++◌}
use Rattle.std.proofs.Common.{length, map, take, drop, get_or, refl, sym, ap, ◌∙◌, Option, Some, None, arith}
use Rattle.std.proofs.Common.{add-one, drop-cons, zero-add}
use Rattle.std.proofs.lemmas.List.{length-take-le, take_more, drop_all}
use Rattle.std.specs.Prelude.{is_some}
use Rattle.std.specs.List.{list_any}
use Rattle.rn_model.specs.Limits.{most_channels}
use Rattle.rn_net.specs.declared.plain.PChannel.{PChannel}
use Rattle.rn_declared.specs.declared.fault.Fault.{Fault}
use Rattle.rn_declared.specs.Faults.{first_from, past_limit}
use Rattle.rn_declared.specs.link.Tables.{or_number}
use Rattle.rn_declared.specs.link.Tables.{channel_told}
use Rattle.rn_declared.specs.Channels.{same_channel, channel_from, channel_faults, channels_faults}
use Rattle.rn_declared.proofs.ToldLemmas.{first_from-append}

-- one more channel
push : (n : ℕ) (before : List PChannel) (c : PChannel) (name : List ℕ) (count : ℕ) →
    channel_from n (before ++ c ∷ []) name count
    ≡ or_number (channel_from n before name count) (same_channel c name count) (n + length before)
push n [] c name count = ap (λ m. cond (same_channel c name count) (Some m) None) (omega arith)
push n (x ∷ before) c name count = by (push (n + 1) before c name count) (same_channel x name count)
  where
    by : (channel_from (n + 1) (before ++ c ∷ []) name count
        ≡ or_number (channel_from (n + 1) before name count) (same_channel c name count) (n + 1 + length before)) →
        (b : Bool) →
        cond b (Some n) (channel_from (n + 1) (before ++ c ∷ []) name count)
        ≡ or_number (cond b (Some n) (channel_from (n + 1) before name count)) (same_channel c name count) (n + length (x ∷ before))
    by next true = refl
    by next false =
        next
        ∙ ap (or_number (channel_from (n + 1) before name count) (same_channel c name count)) (omega arith)

-- a channel has a number exactly where it was declared
there : (n : ℕ) (before : List PChannel) (name : List ℕ) (count : ℕ) →
    is_some (channel_from n before name count) ≡ list_any (λ c. same_channel c name count) before
there n [] name count = refl
there n (x ∷ before) name count = by (there (n + 1) before name count) (same_channel x name count)
  where
    by : (is_some (channel_from (n + 1) before name count)
        ≡ list_any (λ c. same_channel c name count) before) → (b : Bool) →
        is_some (cond b (Some n) (channel_from (n + 1) before name count))
        ≡ (b || list_any (λ c. same_channel c name count) before)
    by next true = refl
    by next false = next

-- the tables of the channels so far, and one more
pub channel_more : (channels : List PChannel) (i : ℕ) (x : PChannel) (found more : List ℕ → ℕ → Option ℕ) →
    i < length channels → x ≡ get_or channels i x →
    ((name : List ℕ) (count : ℕ) → found name count ≡ channel_from 0 (take i channels) name count) →
    ((name : List ℕ) (count : ℕ) → more name count ≡ or_number (found name count) (same_channel x name count) i) →
    (name : List ℕ) (count : ℕ) → more name count ≡ channel_from 0 (take (i + 1) channels) name count
channel_more channels i x found more h is old step name count =
    let before : List PChannel = take i channels in
    let size : length before ≡ i = length-take-le i channels (omega arith) in
    let all : take (i + 1) channels ≡ before ++ x ∷ [] =
    take_more channels i x h ∙ ap (λ y. take i channels ++ y ∷ []) (sym is) in
    step name count
    ∙ ap (λ o. or_number o (same_channel x name count) i) (old name count)
    ∙ ap (or_number (channel_from 0 before name count) (same_channel x name count)) (sym size)
    ∙ sym (push 0 before x name count ∙ ap (or_number (channel_from 0 before name count) (same_channel x name count)) (zero-add (length before)))
    ∙ ap (λ cs. channel_from 0 cs name count) (sym all)

-- what is reported of the next channel, and of those that are left
pub channels_told_more : (channels : List PChannel) (i : ℕ) (x : PChannel) (found : List ℕ → ℕ → Option ℕ)
    (known : Option Fault) → i < length channels → x ≡ get_or channels i x →
    ((name : List ℕ) (count : ℕ) → found name count ≡ channel_from 0 (take i channels) name count) →
    first_from (first_from known (channel_told (is_some (found x.name.text (length x.kinds))) x))
    (channels_faults (take (i + 1) channels) (drop (i + 1) channels))
    ≡ first_from known (channels_faults (take i channels) (drop i channels))
channels_told_more channels i x found known h is old =
    let before : List PChannel = take i channels in
    let left : List PChannel = drop (i + 1) channels in
    let all : take (i + 1) channels ≡ before ++ x ∷ [] =
    take_more channels i x h ∙ ap (λ y. take i channels ++ y ∷ []) (sym is) in
    let rest : drop i channels ≡ x ∷ left =
    drop-cons channels i x h ∙ ap (λ y. y ∷ drop (suc i) channels) (sym is) ∙ ap (λ n. x ∷ drop n channels) (sym (add-one i)) in
    let again : is_some (found x.name.text (length x.kinds))
    ≡ list_any (λ c. same_channel c x.name.text (length x.kinds)) before =
    ap is_some (old x.name.text (length x.kinds)) ∙ there 0 before x.name.text (length x.kinds) in
    ap (λ b. first_from (first_from known (channel_told b x)) (channels_faults (take (i + 1) channels) left)) again
    ∙ ap (λ cs. first_from (first_from known (channel_faults before x)) (channels_faults cs left)) all
    ∙ sym (first_from-append (channel_faults before x) (channels_faults (before ++ x ∷ []) left) known)
    ∙ ap (λ cs. first_from known (channels_faults before cs)) (sym rest)

-- at the end of all channels only the limit is left
pub channels_told_all : (channels : List PChannel) (n : ℕ) (known now : Option Fault) → length channels ≤ n →
    first_from now (channels_faults (take n channels) (drop n channels))
    ≡ first_from known (channels_faults [] channels) →
    first_from now (past_limit most_channels (map (λ c. c.name.spot) channels))
    ≡ first_from known (channels_faults [] channels ++ past_limit most_channels (map (λ c. c.name.spot) channels))
channels_told_all channels n known now h told =
    let past : List Fault = past_limit most_channels (map (λ c. c.name.spot) channels) in
    let nothing : drop n channels ≡ [] = drop_all n channels h in
    ap (λ k. first_from k past)
    (sym (ap (λ cs. first_from now (channels_faults (take n channels) cs)) nothing) ∙ told)
    ∙ sym (first_from-append (channels_faults [] channels) past known)
