-- What a look at the state needs, and what it shows.
use Rattle.std.specs.Prelude.{◌≡◌, ℕ, length}
use Rattle.rn_desk.specs.declared.desk.Desk.{Desk}
use Rattle.rn_desk.specs.declared.desk.Pass.{Pass}
use Rattle.rn_desk.specs.Entries.{StartsWith}
use Rattle.rn_desk.specs.Passes.{IsOf, HasNoTurn, number, seen, mine}

module _ {S I F : Type 0} (fixed : S → F) (d : Desk S I F) where
  -- the pass is of this desk and holds no turn
  abbrev pub IsReady : Pass S I F → Type 0
  IsReady p = IsOf fixed d p × HasNoTurn p

  -- the pass is ready again, and has seen so many entries, those from before among them; no more are its own
  pub record HasLooked (p p' : Pass S I F) (entries : ℕ) : Type 0 where
    pub ready : IsReady p'
    pub number_same : number p' ≡ number p
    pub mine_same : mine p' ≡ mine p
    pub sees : StartsWith (seen p') (seen p)
    pub counted : entries ≡ length (seen p')
