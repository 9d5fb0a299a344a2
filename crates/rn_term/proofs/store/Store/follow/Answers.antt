use Rattle.std.proofs.Common.{◌≡◌, ◌<◌, length, sym, subst}
use Rattle.std.specs.Prelude.{Some}
use Rattle.rn_term.specs.Stores.{link_of, Leads}
use Rattle.rn_term.proofs.AssignmentLemmas.{link_within}
use Rattle.rn_term.proofs.Extents.{extent-bound}
use Rattle.rn_term.proofs.Following.{leads_on, kept_link}
use Rattle.rn_term.proofs.store.Store.follow.Goals as goal
use Rattle.rn_term.proofs.store.Store.follow.Goals.{In-Some}

pub loop-to-init : goal.loop-to-init
loop-to-init c = record {
  within = subst (λ s. c.args.id < length s.terms) (sym c.self.view_is) c.requires.within;
  leads = Leads.here;
}

bound : (c : In-Some) → link_of c.self.inside.notes.items c.loop-to.end ≡ Some c.in-Some.to
bound c =
    kept_link _ c.self.inside.links.items _ _ _ _ _ _ _ _ c.self.invariant
    c.loop-to.invariant.within c.index.ensures c.in-Some.is

pub loop-to-smaller : goal.loop-to-smaller
loop-to-smaller c =
    extent-bound _ c.self.invariant.sound _ _ c.loop-to.invariant.within (bound c)

pub loop-to-preserved : goal.loop-to-preserved
loop-to-preserved c = record {
  within = (link_within _ c.self.invariant.sound _ _ (bound c)).1;
  leads = leads_on _ _ _ _ c.loop-to.invariant.leads (bound c);
}
