-- Where any binding may fire the first wasn't asked for.
use Rattle.std.proofs.Common.{◌≡◌, ◌∙◌, ℕ, Option, None, Some, ap, sym}
use Rattle.rn_commands.specs.declared.jobs.Pick.TheVariants.{Least}
use Rattle.rn_commands.specs.link.Readying.{pick_of, seeded_by}
use Rattle.rn_commands.proofs.readying.run_ready.Goals as goal

not_least : (seed : Option ℕ) → seeded_by seed ≡ Least → ⊥
not_least None is = cc
not_least (Some seed) is = cc

pub returns-in-Any-clause-least : goal.returns-in-Any-clause-least
returns-in-Any-clause-least g c = λ is. absurd (not_least c.in-Any.seed (ap pick_of (sym c.in-Any.is) ∙ is))
