-- Which instances an instance reaches: itself, and those that occur in tokens of such ones.
use Rattle.std.specs.Prelude.{ℕ, ◌≡◌, List, [], Some, IsTrue, Contains}
use Rattle.rn_value.specs.declared.value.InstRef.TheVariants.{Old}
use Rattle.rn_value.specs.declared.value.Value.{Value}
use Rattle.rn_model.specs.declared.binding.Node.{Node}
use Rattle.rn_model.specs.declared.binding.Binding.{Binding}
use Rattle.rn_model.specs.Bindings.{node_at}
use Rattle.rn_model.specs.Liveness.{mentions}
use Rattle.rn_model.specs.Markings.{Marking, instance_at, tokens_at}

-- an instance occurs in a token of another, its holder
pub record RefersTo (m : Marking) (holder n : ℕ) : Type 0 where
  pub place : ℕ
  pub token : Value
  pub there : Contains (tokens_at m holder place) token
  pub occurs : IsTrue (mentions token n)

-- The instances that one reaches: the least set with it and each instance that occurs in a token
-- of a member.
pub data Reach (m : Marking) (n : ℕ) : ℕ → Type 0 where
  itself : Reach m n n
  further : {holder k : ℕ} → Reach m n holder → RefersTo m holder k → Reach m n k

-- the start of a binding stands on an existing instance
abbrev pub StartsIn : Binding → ℕ → Type 0
StartsIn b n = (node : Node) × (node_at b [] ≡ Some node) × (node.inst ≡ Old n)

-- each instance that one reaches in a marking is the same in another: it is there in both, with one
-- net and the same tokens, or in neither
abbrev pub IsSameInReach : Marking → Marking → ℕ → Type 0
IsSameInReach m other n = (k : ℕ) → Reach m n k → instance_at other k ≡ instance_at m k

-- an instance reaches one of these
abbrev pub ReachesOne : Marking → List ℕ → ℕ → Type 0
ReachesOne m those n = (k : ℕ) × Contains those k × Reach m n k

-- each instance but these is the same in two markings
abbrev pub DifferAtMostIn : List ℕ → Marking → Marking → Type 0
DifferAtMostIn changed m other = (k : ℕ) → ¬ Contains changed k → instance_at other k ≡ instance_at m k
