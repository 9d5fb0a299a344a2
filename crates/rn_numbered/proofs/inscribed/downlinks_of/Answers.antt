-- One more downlink, or another inscription.
use Rattle.std.proofs.Common.{◌∙◌, ◌++◌, ◌∷◌, [], List, sym, ap, append-nil}
use Rattle.std.specs.Prelude.{flat_map}
use Rattle.rn_model.specs.declared.system.Downlink.{Downlink}
use Rattle.rn_inscript.specs.declared.inscriptions.PInscription.{PInscription}
use Rattle.rn_numbered.specs.Numbered.{downlink_of}
use Rattle.rn_numbered.specs.link.NumbersFound.{numbers_by}
use Rattle.rn_numbered.proofs.DownlinkLemmas.{given_more, no_downlink}
use Rattle.rn_numbered.proofs.inscribed.downlinks_of.Goals as goal
use Rattle.rn_numbered.proofs.inscribed.downlinks_of.Goals.{in-Downlink+in_ok-downlink+in_ok-push, in_default}

pub loop-inscription-preserved : goal.loop-inscription-preserved
loop-inscription-preserved c =
    let to = numbers_by c.args.tables.now in
    let f : PInscription → List Downlink = λ i. downlink_of to i.form in
    let xs = c.args.inscriptions.now in
    let x = c.inscription-item.result in
    let made = c.loop-inscription.made.items in
    given_more f xs c.loop-inscription.inscription-index x made c.match-inscription.made.items (flat_map f xs)
    c.loop-inscription-test.true c.inscription-item.is c.loop-inscription.invariant
    (elim c.match-inscription.branch [
      | in-Downlink+in_ok-downlink+in_ok-push w ↦ ap (λ v. v.items) w.made-is
          ∙ w.in_ok-push.ensures.items
          ∙ ap (λ d. made ++ d ∷ []) w.in_ok-downlink.ensures
          ∙ ap (λ form. made ++ downlink_of to form) (sym w.in-Downlink.is)
      | in_default w ↦ ap (λ v. v.items) w.made-is
          ∙ sym (ap (λ ds. made ++ ds) (no_downlink to x.form w.in_default.not-Downlink) ∙ append-nil made)
    ])
