-- The first of all bindings that start in an instance is the first of what its parts give.
use Rattle.std.proofs.Common.{◌≡◌, ◌≢◌, ℕ, zero, suc, List, [], ◌∷◌, length, refl, sym, ap, ◌∙◌, subst, arith}
use Rattle.std.proofs.Common.{inl, inr, ◌+◌, ◌<◌, get_or, drop, add-one}
use Rattle.std.specs.Prelude.{◌⊎◌, ◌↔◌, Option, Some, None, Contains}
use Rattle.std.specs.Ordering.{ordering_reverse}
use Rattle.std.specs.declared.cmp.Ordering.{Ordering}
use Rattle.std.specs.declared.cmp.Ordering.TheVariants.{Less, Equal, Greater}
use Rattle.rn_value.specs.declared.value.Value.{Value}
use Rattle.rn_model.specs.declared.binding.Binding.{Binding}
use Rattle.rn_model.specs.declared.system.System.{System}
use Rattle.rn_model.specs.Enabling.{Enabled}
use Rattle.rn_model.specs.Markings.{Marking, tokens_at}
use Rattle.rn_model.specs.Order.{binding_cmp}
use Rattle.rn_model.specs.link.OrderLaws.{binding_cmp-total}
use Rattle.rn_model.proofs.EnablingLemmas.{not_in_nil}
use Rattle.rn_finder.specs.First.{IsFirstOf}
use Rattle.rn_finder.specs.Starting.{HasStartIn}
use Rattle.rn_table.specs.Alone.{alone}
use Rattle.rn_parted.specs.declared.share.Share.{Share}
use Rattle.rn_parted.specs.Lesser.{by_order, least_of, lesser}
use Rattle.rn_parted.specs.Parted.{IsParted, Parted}
use Rattle.rn_parted.proofs.PartingLemmas.{bindings_are_parted}
use Rattle.rn_parted.proofs.ShareLemmas.{starts_in_it}

not_above : (o : Ordering) → o ≡ Less → o ≢ Greater
not_above o less is = let no : ⊥ = cc in no

after_less : (b c d : Binding) (o : Ordering) → binding_cmp b c ≡ Less → binding_cmp c d ≡ o →
    o ≢ Greater → binding_cmp b d ≡ Less
after_less b c d Less first is next = binding_cmp-total.trans b c d first is
after_less b c d Equal first is next =
    binding_cmp-total.antisymm b d
    ∙ ap ordering_reverse (sym (binding_cmp-total.congr c d b is))
    ∙ sym (binding_cmp-total.antisymm b c) ∙ first
after_less b c d Greater first is next = absurd (next refl)

-- one that isn't after another isn't after what that isn't after
in_turn : (b c d : Binding) (o : Ordering) → binding_cmp b c ≡ o → o ≢ Greater →
    binding_cmp c d ≢ Greater → binding_cmp b d ≢ Greater
in_turn b c d Less is first next =
    not_above (binding_cmp b d) (after_less b c d (binding_cmp c d) is refl next)
in_turn b c d Equal is first next =
    λ late. next (sym (binding_cmp-total.congr b c d is) ∙ late)
in_turn b c d Greater is first next = absurd (first refl)

before : (b c d : Binding) → binding_cmp b c ≢ Greater → binding_cmp c d ≢ Greater →
    binding_cmp b d ≢ Greater
before b c d first next = in_turn b c d (binding_cmp b c) refl first next

turned : (b c : Binding) → binding_cmp b c ≡ Greater → binding_cmp c b ≢ Greater
turned b c is = not_above (binding_cmp c b)
    (binding_cmp-total.antisymm c b ∙ ap ordering_reverse is)

-- none of some bindings, or one of them that isn't after any of them
abbrev pub IsLeast : (Binding → Type 0) → Option Binding → Type 0
IsLeast Of None = (b : Binding) → Of b → ⊥
IsLeast Of (Some b) = Of b × ((c : Binding) → Of c → binding_cmp b c ≢ Greater)

module _ (One Other : Binding → Type 0) where
  abbrev Either : Binding → Type 0
  Either b = One b ⊎ Other b

  by_cmp : (b c : Binding) (o : Ordering) → binding_cmp b c ≡ o → IsLeast One (Some b) →
      IsLeast Other (Some c) → IsLeast Either (Some (by_order o b c))
  by_cmp b c Less is first second = (
    inl first.0,
    λ d has. elim has as (λ _. binding_cmp b d ≢ Greater) [
      | inl one ↦ first.1 d one
      | inr other ↦ before b c d (not_above (binding_cmp b c) is) (second.1 d other)
    ],
  )
  by_cmp b c Equal is first second = (
    inl first.0,
    λ d has. elim has as (λ _. binding_cmp b d ≢ Greater) [
      | inl one ↦ first.1 d one
      | inr other ↦ before b c d (λ late. let no : ⊥ = cc in no) (second.1 d other)
    ],
  )
  by_cmp b c Greater is first second = (
    inr second.0,
    λ d has. elim has as (λ _. binding_cmp c d ≢ Greater) [
      | inl one ↦ before c b d (turned b c is) (first.1 d one)
      | inr other ↦ second.1 d other
    ],
  )

  -- the lesser of two is the first of both
  least_either : (x y : Option Binding) → IsLeast One x → IsLeast Other y →
      IsLeast Either (lesser x y)
  least_either None None first second = λ b has. elim has as (λ _. ⊥) [
    | inl one ↦ first b one
    | inr other ↦ second b other
  ]
  least_either None (Some c) first second = (
    inr second.0,
    λ d has. elim has as (λ _. binding_cmp c d ≢ Greater) [
      | inl one ↦ absurd (first d one)
      | inr other ↦ second.1 d other
    ],
  )
  least_either (Some b) None first second = (
    inl first.0,
    λ d has. elim has as (λ _. binding_cmp b d ≢ Greater) [
      | inl one ↦ first.1 d one
      | inr other ↦ absurd (second d other)
    ],
  )
  least_either (Some b) (Some c) first second = by_cmp b c (binding_cmp b c) refl first second

-- the same of others that are the same
least_alike : (Of Else : Binding → Type 0) (x : Option Binding) → ((b : Binding) → Of b → Else b) →
    ((b : Binding) → Else b → Of b) → IsLeast Of x → IsLeast Else x
least_alike Of Else None there back first = λ b has. first b (back b has)
least_alike Of Else (Some b) there back first =
    (there b first.0, λ c has. first.1 c (back c has))

one_on : (s t : Share) (shares : List Share) → Contains shares t → Contains (s ∷ shares) t
one_on s t shares (k, h, at) = (suc k, omega (arith, h), at)

module _ (Of : Share → Binding → Type 0) where
  -- what one or a share has
  abbrev Some_of : (Binding → Type 0) → List Share → Binding → Type 0
  Some_of One shares b = One b ⊎ ((s : Share) × Contains shares s × Of s b)

  nothing_more : (One : Binding → Type 0) (b : Binding) → Some_of One [] b → One b
  nothing_more One b (inl one) = one
  nothing_more One b (inr (s, there, of)) = absurd (not_in_nil s there)

  one_earlier : (One : Binding → Type 0) (s : Share) (shares : List Share) (b : Binding) →
      Some_of (λ c. One c ⊎ Of s c) shares b → Some_of One (s ∷ shares) b
  one_earlier One s shares b (inl (inl one)) = inl one
  one_earlier One s shares b (inl (inr of)) = inr (s, (0, omega arith, refl), of)
  one_earlier One s shares b (inr (t, (k, h, at), of)) = inr (t, (suc k, omega (arith, h), at), of)

  one_later : (One : Binding → Type 0) (s : Share) (shares : List Share) (b : Binding) →
      Some_of One (s ∷ shares) b → Some_of (λ c. One c ⊎ Of s c) shares b
  one_later One s shares b (inl one) = inl (inl one)
  one_later One s shares b (inr (t, (zero, h, at), of)) =
      let same : s ≡ t = at in inl (inr (subst (λ u. Of u b) (sym same) of))
  one_later One s shares b (inr (t, (suc k, h, at), of)) = inr (t, (k, omega (arith, h), at), of)

  -- the first of one and of all shares
  least_shares : (One : Binding → Type 0) (x : Option Binding) (shares : List Share) →
      IsLeast One x → ((s : Share) → Contains shares s → IsLeast (Of s) s.first) →
      IsLeast (Some_of One shares) (least_of x shares)
  least_shares One x [] first each =
      least_alike One (Some_of One []) x (λ b has. inl has) (nothing_more One) first
  least_shares One x (s ∷ shares) first each =
      least_alike (Some_of (λ c. One c ⊎ Of s c) shares) (Some_of One (s ∷ shares))
      (least_of (lesser x s.first) shares) (one_earlier One s shares) (one_later One s shares)
      (least_shares (λ c. One c ⊎ Of s c) (lesser x s.first) shares
      (least_either One (Of s) x s.first first (each s (0, omega arith, refl)))
      (λ t there. each t (one_on s t shares there)))

-- in both forms
least_from : (system : System) (m : Marking) (depth : ℕ) (Of : Binding → Type 0) (x : Option Binding) →
    IsFirstOf system m depth Of x → IsLeast (λ b. Enabled system m b depth × Of b) x
least_from system m depth Of None first = λ b has. first b has.0 has.1
least_from system m depth Of (Some b) (enabled, of, least) =
    ((enabled, of), λ c has. least c has.0 has.1)

first_from : (system : System) (m : Marking) (depth : ℕ) (Of : Binding → Type 0) (x : Option Binding) →
    IsLeast (λ b. Enabled system m b depth × Of b) x → IsFirstOf system m depth Of x
first_from system m depth Of None least = λ b enabled of. least b (enabled, of)
first_from system m depth Of (Some b) ((enabled, of), least) =
    (enabled, of, λ c other has. least c (other, has))

module _ (system : System) (p : Parted) (kept : IsParted system p) where
  abbrev m : Marking
  m = p.marking

  abbrev n : ℕ
  n = p.instance

  abbrev With : List Value → Binding → Type 0
  With vs b = Enabled system (alone n p.place vs m) b p.depth × HasStartIn n b

  abbrev Parts : Binding → Type 0
  Parts b = With [] b ⊎ ((s : Share) × Contains p.shares s × With (s.token ∷ []) b)

  parts_are : (b : Binding) → HasStartIn n b → Enabled system m b p.depth
      ↔ (Enabled system (alone n p.place [] m) b p.depth
      ⊎ ((v : Value) × Contains (tokens_at m n p.place) v
      × Enabled system (alone n p.place (v ∷ []) m) b p.depth))
  parts_are b starts =
      bindings_are_parted system m b p.depth n kept.net p.place kept.of_net kept.parting
      (starts_in_it b n starts)

  whole_of : (b : Binding) → Parts b → Enabled system m b p.depth × HasStartIn n b
  whole_of b (inl (enabled, starts)) = ((parts_are b starts).1 (inl enabled), starts)
  whole_of b (inr (s, there, one)) =
      ((parts_are b one.1).1 (inr (s.token, (kept.shares.each s there).1, one.0)), one.1)

  share_of : (v : Value) (b : Binding) → Contains (tokens_at m n p.place) v → With (v ∷ []) b → Parts b
  share_of v b has one =
      let its = kept.shares.all v has in
      inr (its.0, its.1, subst (λ w. With (w ∷ []) b) (sym its.2) one)

  parts_by : (b : Binding) → HasStartIn n b →
      Enabled system (alone n p.place [] m) b p.depth
      ⊎ ((v : Value) × Contains (tokens_at m n p.place) v
      × Enabled system (alone n p.place (v ∷ []) m) b p.depth) → Parts b
  parts_by b starts (inl none) = inl (none, starts)
  parts_by b starts (inr (v, has, one)) = share_of v b has (one, starts)

  parts_of : (b : Binding) → Enabled system m b p.depth × HasStartIn n b → Parts b
  parts_of b (enabled, starts) = parts_by b starts ((parts_are b starts).0 enabled)

  -- the first of all that start in the instance
  pub first_of_parts : IsFirstOf system p.marking p.depth (HasStartIn p.instance)
      (least_of p.rest p.shares)
  first_of_parts =
      first_from system m p.depth (HasStartIn n) (least_of p.rest p.shares)
      (least_alike Parts (λ b. Enabled system m b p.depth × HasStartIn n b)
      (least_of p.rest p.shares) whole_of parts_of
      (least_shares (λ s. With (s.token ∷ [])) (With []) p.rest p.shares
      (least_from system (alone n p.place [] m) p.depth (HasStartIn n) p.rest kept.rest)
      (λ s there. least_from system (alone n p.place (s.token ∷ []) m) p.depth (HasStartIn n) s.first
      (kept.shares.each s there).0)))

more_least : (first : Option Binding) (xs : List Share) (i : ℕ) (s : Share) → i < length xs →
    s ≡ get_or xs i s → least_of (lesser first s.first) (drop (suc i) xs) ≡ least_of first (drop i xs)
more_least first [] i s low is = absurd (let no : ⊥ = omega (arith, low) in no)
more_least first (x ∷ xs) zero s low is = ap (λ (t : Share). least_of (lesser first t.first) xs) is
more_least first (x ∷ xs) (suc i) s low is = more_least first xs i s (omega (arith, low)) is

-- with one share more
pub least_more : (first : Option Binding) (xs : List Share) (i : ℕ) (s : Share) → i < length xs →
    s ≡ get_or xs i s → least_of (lesser first s.first) (drop (i + 1) xs) ≡ least_of first (drop i xs)
least_more first xs i s low is =
    ap (λ k. least_of (lesser first s.first) (drop k xs)) (add-one i) ∙ more_least first xs i s low is
