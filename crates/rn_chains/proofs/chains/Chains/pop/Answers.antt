-- The last key is its bucket's last no more.
use Rattle.std.proofs.Common.{◌≡◌, ◌++◌, ◌∷◌, [], ◌%◌, rules, subst, sym, length}
use Rattle.std.specs.Prelude.{slice_set}
use Rattle.rn_chains.specs.link.Chains.{AreChained}
use Rattle.rn_chains.proofs.ChainSteps.{popped}
use Rattle.rn_chains.proofs.chains.Chains.pop.Goals as goal

pub invariant_of-self-2 : goal.invariant_of-self-2
invariant_of-self-2 c =
    let keys : c.self.inside.keys.items ≡ c.pop.new.self.items ++ c.in-Some.key ∷ [] =
    search rules in
    let befores : c.self.inside.links.befores.items
    ≡ c.pop-2.new.self.items ++ c.in-Some-pop.before ∷ [] = search rules in
    let wide : c.len.result ≡ length c.self.inside.links.buckets.items = search rules in
    let buckets = c.self.inside.links.buckets.items in
    subst (λ m. AreChained c.pop.new.self.items c.pop-2.new.self.items
    (slice_set buckets (c.in-Some.key % m) c.in-Some-pop.before)) (sym wide)
    (popped c.pop.new.self.items c.pop-2.new.self.items buckets c.in-Some.key
    c.in-Some-pop.before
    (subst (λ ks. AreChained ks (c.pop-2.new.self.items ++ c.in-Some-pop.before ∷ []) buckets)
    keys (subst (λ bs. AreChained c.self.inside.keys.items bs buckets) befores
    c.self.invariant)))
