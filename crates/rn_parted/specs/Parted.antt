-- What is kept of an instance of which a place parts the bindings that start in it.
use Rattle.std.specs.Prelude.{ℕ, ◌≡◌, ◌≢◌, List, [], ◌∷◌, Option, Some, IfSome, IsTrue, Contains}
use Rattle.rn_value.specs.declared.value.Value.{Value}
use Rattle.rn_model.specs.declared.system.System.{System}
use Rattle.rn_model.specs.declared.binding.Binding.{Binding}
use Rattle.rn_model.specs.Markings.{Marking, net_of, tokens_at}
use Rattle.rn_reach.specs.Reach.{RefersTo}
use Rattle.rn_holders.specs.Holders.{held_by}
use Rattle.rn_finder.specs.First.{IsFirstOf}
use Rattle.rn_finder.specs.Starting.{HasStartIn}
use Rattle.rn_parted.specs.declared.share.Share.{Share}
use Rattle.rn_table.specs.Alone.{alone}
use Rattle.rn_parted.specs.Parting.{parts}

-- The instance and the place; the depth and the marking for which it was made; which instances may
-- refer to which; the first where the place is empty, and the share of each token.
pub record Parted : Type 0 where
  pub instance : ℕ
  pub place : ℕ
  pub depth : ℕ
  pub marking : Marking
  pub holders : List (List ℕ)
  pub rest : Option Binding
  pub shares : List Share

-- the first of the bindings that start in an instance with these tokens alone in a place of it
abbrev pub IsFirstWith : System → Marking → ℕ → ℕ → ℕ → List Value → Option Binding → Type 0
IsFirstWith system m depth n place vs first =
    IsFirstOf system (alone n place vs m) depth (HasStartIn n) first

abbrev pub IsShare : System → Marking → ℕ → ℕ → ℕ → Share → Type 0
IsShare system m depth n place s = IsFirstWith system m depth n place (s.token ∷ []) s.first

-- Each is the share of a token of the place, and each of these tokens has one.
pub record AreShares (system : System) (m : Marking) (depth n place : ℕ) (tokens : List Value)
    (shares : List Share) : Type 0 where
  pub each : (s : Share) → Contains shares s →
      IsShare system m depth n place s × Contains (tokens_at m n place) s.token
  pub all : (v : Value) → Contains tokens v → (s : Share) × Contains shares s × (s.token ≡ v)

-- the list of each instance has all that refer to it but one, and maybe others
abbrev pub HaveOtherHolders : Marking → ℕ → List (List ℕ) → Type 0
HaveOtherHolders m n holders = (holder k : ℕ) → RefersTo m holder k → holder ≢ n →
    Contains (held_by holders k) holder

-- What is kept is so at its marking.
pub record IsParted (system : System) (p : Parted) : Type 0 where
  pub net : ℕ
  pub of_net : net_of p.marking p.instance ≡ Some net
  pub parting : IsTrue (parts system net p.place)
  pub holders : HaveOtherHolders p.marking p.instance p.holders
  pub rest : IsFirstWith system p.marking p.depth p.instance p.place [] p.rest
  pub shares : AreShares system p.marking p.depth p.instance p.place
      (tokens_at p.marking p.instance p.place) p.shares

-- the same, at a marking within a depth
pub record IsPartedAt (system : System) (m : Marking) (deep : ℕ) (p : Parted) : Type 0 where
  pub so : IsParted system p
  pub marking : p.marking ≡ m
  pub within : p.depth ≡ deep

-- what is kept, where something is, is so at a marking
abbrev pub IsKept : System → Marking → ℕ → Option Parted → Type 0
IsKept system m depth kept = IfSome kept (IsPartedAt system m depth)
