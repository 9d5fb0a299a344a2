use Rattle.std.proofs.Common.{◌≡◌, ℕ, ◌+◌, ◌++◌, List, length, sym, ap, ◌∙◌, subst}
use Rattle.std.specs.List.{AllByRecursion}
use Rattle.rn_model.specs.Lists.{IsWithin}
use Rattle.rn_model.specs.Markings.{Instance, Marking, tokens_at}
use Rattle.rn_table.specs.Changes.{changed, new_from, values_at, with_made}
use Rattle.rn_table.specs.link.Leaves.{Ascending, HasSortedPlaces, IsTable, instances_in, starting_from}
use Rattle.rn_table.specs.link.Steps.{AreNet, after_steps, all_steps}
use Rattle.rn_table.specs.Tables.{Kept, started, starting_in}
use Rattle.rn_table.proofs.ChangeLemmas.{changed_by_steps, still_of_system}
use Rattle.rn_table.proofs.table.Table.apply.Goals as goal

pub change_all-requires-clause-table : goal.change_all-requires-clause-table
change_all-requires-clause-table c = subst (IsTable c.self.inside.next) (sym c.in_ok-leaves.ensures) c.self.invariant

pub returns-clause-marking : goal.returns-clause-marking
returns-clause-marking c =
    let change = c.args.change.now in
    let system = c.args.system.now in
    let next = c.self.inside.next in
    let same : c.in_ok-leaves.leaves ≡ c.self.inside.leaves = c.in_ok-leaves.ensures in
    let old : List Instance = instances_in c.self.inside.leaves in
    let new : List Instance = instances_in c.change_all.new.leaves in
    let m : Marking = record { next = next; instances = old } in
    let made : c.as_slice-made.result.now ≡ change.made = c.as_slice-made.ensures in
    let edits = c.as_slice.result.now in
    let net : AreNet (all_steps change) edits = subst (AreNet (all_steps change)) (sym c.as_slice.ensures.value) c.in_ok-edits.ensures in
    let came : new ≡ after_steps edits (old ++ new_from system next change.made) =
    c.in_ok-change_all.ensures.instances ∙ ap (λ ls. after_steps edits (instances_in ls ++ new_from system next c.as_slice-made.result.now)) same ∙ ap (λ ns. after_steps edits (old ++ new_from system next ns)) made in
    let up : Ascending (old ++ new_from system next change.made) = subst (λ ns. Ascending (old ++ new_from system next ns)) made (subst (λ ls. Ascending (instances_in ls ++ new_from system next c.as_slice-made.result.now)) same c.in_ok-change_all.ensures.ascending) in
    let sorted : AllByRecursion HasSortedPlaces (old ++ new_from system next change.made) =
    subst (λ ns. AllByRecursion HasSortedPlaces (old ++ new_from system next ns)) made (subst (λ ls. AllByRecursion HasSortedPlaces (instances_in ls ++ new_from system next c.as_slice-made.result.now)) same c.in_ok-change_all.ensures.sorted) in
    let there = subst (λ (t : Kept). (n place : ℕ) → IsWithin (values_at change.taken n place ++ values_at change.cleared n place) (tokens_at (with_made system change.made t.marking) n place)) (sym c.self.view_is) c.requires.there in
    ap (λ n. let new_m : Marking = record { next = next + n; instances = new } in new_m) (ap length made)
    ∙ ap (λ is. let new_m : Marking = record { next = next + length change.made; instances = is } in new_m) (came ∙ changed_by_steps change (with_made system change.made m) edits net up sorted there)
    ∙ ap (λ (t : Kept). changed system change t.marking) c.self.view_is

pub returns-clause-of_system : goal.returns-clause-of_system
returns-clause-of_system c = λ was.
    let change = c.args.change.now in
    let system = c.args.system.now in
    c.in_ok-change_all.ensures.starting ∙ ap (λ ls. starting_from 0 ls ++ started system c.self.inside.next c.as_slice-made.result.now) c.in_ok-leaves.ensures
    ∙ ap (λ ns. starting_from 0 c.self.inside.leaves ++ started system c.self.inside.next ns) c.as_slice-made.ensures
    ∙ ap (λ (t : Kept). t.starting ++ started system t.marking.next change.made) c.self.view_is
    ∙ ap (λ r. r ++ started system c.args.self.now.marking.next change.made) was
    ∙ sym (still_of_system system change c.args.self.now.marking) ∙ ap (starting_in system) (sym (returns-clause-marking c))
