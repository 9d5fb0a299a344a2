-- One token more on a walk over the tokens of a place.
use Rattle.std.proofs.Common.{◌≡◌, ℕ, suc, ◌+◌, ◌-◌, ◌<◌, ◌≤◌, List, [], ◌∷◌, ◌++◌, length, take, drop}
use Rattle.std.proofs.Common.{refl, sym, ◌∙◌, subst, inl, inr, arith, add-one}
use Rattle.std.specs.Prelude.{Contains, IfSome, MatchOption, Option, Some, None, slice_get}
use Rattle.std.specs.List.{insert}
use Rattle.std.proofs.lemmas.Option.{slice_get_within}
use Rattle.std.proofs.lemmas.List.Elements.{Contains-append_left, Contains-push, Contains-push_cases}
use Rattle.rn_value.specs.declared.value.Value.{Value}
use Rattle.rn_model.specs.declared.system.System.{System}
use Rattle.rn_model.specs.Markings.{Marking, tokens_at}
use Rattle.rn_model.proofs.EnablingLemmas.{not_in_nil}
use Rattle.rn_parted.specs.declared.share.Share.{Share}
use Rattle.rn_parted.specs.Parted.{AreShares, IsShare}
use Rattle.rn_parted.specs.link.Walks.{Avoids, HasComeTo, SharesStay}
use Rattle.rn_parted.proofs.CutLemmas.{inserted_drop, inserted_take, past_at, past_more, take_more, took_at}

module _ (system : System) (other m : Marking) (depth n place : ℕ) where
  -- shares past the cursor may go
  pub come_past : (c : ℕ) (tokens : List Value) (xs ys : List Share) → take c ys ≡ take c xs →
      ((s : Share) → Contains (drop c ys) s → Contains (drop c xs) s) →
      HasComeTo system other m depth n place c tokens xs →
      HasComeTo system other m depth n place c tokens ys
  come_past c tokens xs ys before past come = record {
    done = λ s has. come.done s (subst (λ zs. Contains zs s) before has);
    ahead = λ s has. come.ahead s (past s has);
    all = λ v has. let one = come.all v has in
        (one.0, subst (λ zs. Contains zs one.0) (sym before) one.1, one.2);
  }

  -- one share more is before the cursor
  pub come_on : (c : ℕ) (tokens : List Value) (xs ys : List Share) (v : Value) (s : Share) →
      take (suc c) ys ≡ take c xs ++ s ∷ [] →
      ((t : Share) → Contains (drop (suc c) ys) t → Contains (drop c xs) t) →
      IsShare system m depth n place s → Contains (tokens_at m n place) v → s.token ≡ v →
      HasComeTo system other m depth n place c tokens xs →
      HasComeTo system other m depth n place (suc c) (tokens ++ v ∷ []) ys
  come_on c tokens xs ys v s before past is there same come = record {
    done = λ t has. elim (Contains-push_cases (take c xs) s t (subst (λ zs. Contains zs t) before has))
        as (λ _. IsShare system m depth n place t × Contains (tokens_at m n place) t.token) [
          | inl earlier ↦ come.done t earlier
          | inr one ↦ subst (λ u. IsShare system m depth n place u
              × Contains (tokens_at m n place) u.token) one
              (is, subst (Contains (tokens_at m n place)) (sym same) there)
        ];
    ahead = λ t has. come.ahead t (past t has);
    all = λ w has. elim (Contains-push_cases tokens v w has)
        as (λ _. (t : Share) × Contains (take (suc c) ys) t × (t.token ≡ w)) [
          | inl earlier ↦ let one = come.all w earlier in (
            one.0,
            subst (λ zs. Contains zs one.0) (sym before)
                (Contains-append_left (take c xs) (s ∷ []) one.0 one.1),
            one.2,
          )
          | inr one ↦ (
            s,
            subst (λ zs. Contains zs s) (sym before) (Contains-push (take c xs) s),
            same ∙ one,
          )
        ];
  }

  -- a token that has its share
  pub come_again : (c : ℕ) (tokens : List Value) (xs : List Share) (v : Value) (s : Share) →
      Contains (take c xs) s → s.token ≡ v → HasComeTo system other m depth n place c tokens xs →
      HasComeTo system other m depth n place c (tokens ++ v ∷ []) xs
  come_again c tokens xs v s there same come = record {
    done = come.done;
    ahead = come.ahead;
    all = λ w has. elim (Contains-push_cases tokens v w has)
        as (λ _. (t : Share) × Contains (take c xs) t × (t.token ≡ w)) [
          | inl earlier ↦ come.all w earlier
          | inr one ↦ (s, there, same ∙ one)
        ];
  }

  -- nothing is before the cursor yet
  pub come_nowhere : (xs : List Share) →
      ((s : Share) → Contains xs s → IsShare system other depth n place s) →
      HasComeTo system other m depth n place 0 [] xs
  come_nowhere xs were = record {
    done = λ s has. absurd (not_in_nil s has);
    ahead = were;
    all = λ v has. absurd (not_in_nil v has);
  }

  -- all tokens have their shares
  pub come_through : (c : ℕ) (tokens : List Value) (xs : List Share) →
      HasComeTo system other m depth n place c tokens xs →
      AreShares system m depth n place tokens (take c xs)
  come_through c tokens xs come = record { each = come.done; all = come.all }

  -- the share at the cursor is that of the token, and stays
  pub settled_kept : (found : List ℕ) (c : ℕ) (tokens : List Value) (xs ys : List Share) (v : Value) →
      take c ys ≡ take c xs → ((s : Share) → Contains (drop c ys) s → Contains (drop c xs) s) →
      IfSome (slice_get ys c) (λ s. s.token ≡ v → Avoids found n s.token) →
      MatchOption (slice_get ys c) ⊥ (λ s. s.token ≡ v) → Contains (tokens_at m n place) v →
      SharesStay system other m depth n place found →
      HasComeTo system other m depth n place c tokens xs →
      HasComeTo system other m depth n place (c + 1) (tokens ++ v ∷ []) ys
  settled_kept found c tokens xs ys v before past fresh same there stay come =
      by_slot (slice_get ys c) refl fresh same
    where
      by_slot : (o : Option Share) → slice_get ys c ≡ o →
          IfSome o (λ s. s.token ≡ v → Avoids found n s.token) →
          MatchOption o ⊥ (λ s. s.token ≡ v) →
          HasComeTo system other m depth n place (c + 1) (tokens ++ v ∷ []) ys
      by_slot None e new is = absurd is
      by_slot (Some s) e new is =
          let been = come_past c tokens xs ys before past come in
          subst (λ k. HasComeTo system other m depth n place k (tokens ++ v ∷ []) ys)
          (sym (add-one c))
          (come_on c tokens ys ys v s (take_more ys c s e) (past_more ys c)
          (stay s (been.ahead s (past_at ys c s e)) (new is)) there is been)

  -- a share is made and put at the cursor
  pub settled_made : (c : ℕ) (tokens : List Value) (xs ys zs : List Share) (v : Value) (s : Share) →
      take c ys ≡ take c xs → ((t : Share) → Contains (drop c ys) t → Contains (drop c xs) t) →
      c ≤ length ys → zs ≡ insert ys c s → IsShare system m depth n place s → s.token ≡ v →
      Contains (tokens_at m n place) v → HasComeTo system other m depth n place c tokens xs →
      HasComeTo system other m depth n place (c + 1) (tokens ++ v ∷ []) zs
  settled_made c tokens xs ys zs v s before past low is share same there come =
      let been = come_past c tokens xs ys before past come in
      subst (λ ws. HasComeTo system other m depth n place (c + 1) (tokens ++ v ∷ []) ws) (sym is)
      (subst (λ k. HasComeTo system other m depth n place k (tokens ++ v ∷ []) (insert ys c s))
      (sym (add-one c))
      (come_on c tokens ys (insert ys c s) v s (inserted_take ys c s low)
      (λ t has. subst (λ ws. Contains ws t) (inserted_drop ys c s low) has)
      share there same been))

  -- the share before the cursor is that of the token
  pub settled_before : (c : ℕ) (tokens : List Value) (xs : List Share) (v : Value) → 0 < c →
      MatchOption (slice_get xs (c - 1)) ⊥ (λ s. s.token ≡ v) →
      HasComeTo system other m depth n place c tokens xs →
      HasComeTo system other m depth n place c (tokens ++ v ∷ []) xs
  settled_before c tokens xs v some same come =
      by_slot (slice_get xs (c - 1)) refl same
    where
      by_slot : (o : Option Share) → slice_get xs (c - 1) ≡ o →
          MatchOption o ⊥ (λ s. s.token ≡ v) →
          HasComeTo system other m depth n place c (tokens ++ v ∷ []) xs
      by_slot None e is = absurd is
      by_slot (Some s) e is =
          let next : suc (c - 1) ≡ c = omega (arith, some) in
          come_again c tokens xs v s
          (subst (λ k. Contains (take k xs) s) next (took_at xs (c - 1) s e)) is come

-- a share stands at the cursor
pub kept_long : (c : ℕ) (ys : List Share) (v : Value) →
    MatchOption (slice_get ys c) ⊥ (λ s. s.token ≡ v) → c + 1 ≤ length ys
kept_long c ys v same = by_slot (slice_get ys c) refl same
  where
    by_slot : (o : Option Share) → slice_get ys c ≡ o → MatchOption o ⊥ (λ s. s.token ≡ v) →
        c + 1 ≤ length ys
    by_slot None e is = absurd is
    by_slot (Some s) e is = let low = slice_get_within ys c s e in omega (arith, low)
