-- The lines of one binding more.
use Rattle.std.proofs.Common.{◌≡◌, ◌++◌, ◌+◌, append_assoc, drop, sym, ap, ◌∙◌}
use Rattle.rn_record.specs.RecordText.{binding_text, first_names}
use Rattle.rn_commands.specs.Bindings.{bindings_text, numbered_lead}
use Rattle.rn_commands.proofs.FirstBindings.{lines_from}
use Rattle.rn_commands.proofs.bindings.bindings_text.Goals as goal

pub loop-k-preserved : goal.loop-k-preserved
loop-k-preserved c =
    let system = c.args.system.now in
    let found = c.args.found.now in
    let k = c.loop-k.k in
    let b = c.index-found-k.result in
    let text = c.loop-k.text.items in
    let lines = binding_text system first_names (numbered_lead (k + 1)) b in
    let rest = bindings_text system (k + 1 + 1) (drop (k + 1) found) in
    let wrote : c.write_first.new.out.items ≡ text ++ lines =
    c.in_ok-write_first.ensures.ok
    ∙ ap (λ lead. text ++ binding_text system first_names lead c.binding.result.now)
    (c.as_slice.ensures.value ∙ c.in_ok-lead.ensures)
    ∙ ap (λ x. text ++ binding_text system first_names (numbered_lead (k + 1)) x) c.binding.ensures in
    ap (λ x. x ++ rest) wrote ∙ append_assoc text lines rest
    ∙ ap (λ x. text ++ x) (sym (lines_from system found k b c.loop-k-test.true (sym c.index-found-k.is)))
    ∙ c.loop-k.invariant
