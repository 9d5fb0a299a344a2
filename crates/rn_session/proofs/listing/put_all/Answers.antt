-- The lines of one binding more.
use Rattle.std.proofs.Common.{◌≡◌, ◌++◌, ◌+◌, append_assoc, drop, sym, ap, subst, ◌∙◌}
use Rattle.rn_record.specs.RecordText.{binding_text}
use Rattle.rn_record.specs.Writable.{HasLines}
use Rattle.rn_served.specs.Listed.{numbered, numbered_text}
use Rattle.rn_session.proofs.NumberedNow.{lines_from}
use Rattle.rn_session.proofs.listing.put_all.Goals as goal

pub put_numbered-requires : goal.put_numbered-requires
put_numbered-requires c =
    let system = c.args.system.now in
    let b = c.index-found-k.result in
    subst (λ ns. HasLines system ns b) (sym c.loop-k.invariant.0)
    (subst (HasLines system c.args.names.now) (sym c.index-found-k.is) (c.requires c.loop-k.k b c.loop-k-test.true))

pub loop-k-preserved : goal.loop-k-preserved
loop-k-preserved c =
    let system = c.args.system.now in
    let names = c.args.names.now in
    let found = c.args.found.now in
    let k = c.loop-k.k in
    let b = c.index-found-k.result in
    let text = c.loop-k.out.items in
    let lines = binding_text system names (numbered (k + 1)) b in
    let rest = numbered_text system names (k + 1 + 1) (drop (k + 1) found) in
    let wrote : c.put_numbered.new.out.items ≡ text ++ lines =
    c.in_ok-put_numbered.ensures.text
    ∙ ap (λ ns. text ++ binding_text system ns (numbered (k + 1)) b) c.loop-k.invariant.0 in (
      c.in_ok-put_numbered.ensures.names ∙ c.loop-k.invariant.0,
      ap (λ x. x ++ rest) wrote ∙ append_assoc text lines rest
          ∙ ap (λ x. text ++ x) (sym (lines_from system names found k b c.loop-k-test.true (sym c.index-found-k.is)))
          ∙ c.loop-k.invariant.1,
    )
