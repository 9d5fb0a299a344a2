-- By the arc that finds the token.
use Rattle.std.proofs.Common.{◌≡◌, refl, rules}
use Rattle.std.specs.Prelude.{Some, slice_get}
use Rattle.rn_growing.specs.Decisions.{transition_in}
use Rattle.rn_branch.proofs.taking.taking_of.Goals as goal

pub returns : goal.returns
returns c =
    let there : slice_get (transition_in c.args.system.now c.in-Found.head).arcs c.in-Found.k
    ≡ Some c.in-Some-get.arc.now = search rules in
    record {
      head = c.in-Found.head;
      k = c.in-Found.k;
      arc = c.in-Some-get.arc.now;
      is = c.in-Found.is;
      on = refl;
      there = there;
      at = refl;
      it = c.takes_token.ensures c.in-Found.token c.if-not-takes_token.false;
    }
