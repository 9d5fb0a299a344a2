-- Nets and systems with numbers in place of names.
use Rattle.std.proofs.Common.{◌≡◌, ℕ, List, map, ap, ◌∙◌, length}
use Rattle.std.proofs.Math.Path.{fun_ext}
use Rattle.std.specs.Prelude.{unwrap_or}
use Rattle.std.proofs.lemmas.List.{length-map}
use Rattle.rn_net.specs.declared.plain.Plain.{Plain}
use Rattle.rn_net.specs.declared.plain.PNet.{PNet}
use Rattle.rn_model.specs.declared.system.Net.{Net}
use Rattle.rn_numbering.specs.Numbering.{numbered_net_of}
use Rattle.rn_numbered.specs.Numbered.{number_in, kind_of}
use Rattle.rn_numbered.specs.link.NumbersFound.{key_of, channel_by}
use Rattle.rn_numbering.specs.link.Making.{transitions_by, bare_net, net_by}
use Rattle.rn_numbered.proofs.NumberLemmas.{channel_is}

-- the nets, where the names of channels are found
pub nets_are : (plain : Plain) →
    map (net_by (map (λ n. n.name.text) plain.nets) (channel_by (map key_of plain.channels))) plain.nets
    ≡ map (numbered_net_of plain) plain.nets
nets_are plain =
    ap (λ channel. map (net_by (map (λ n. n.name.text) plain.nets) channel) plain.nets)
    (fun_ext (λ name. fun_ext (λ count.
    ap (λ o. unwrap_or o 0) (channel_is 0 plain.channels name count))))

-- the net that was made of what its names and numbers are
pub net_made : (nets : List (List ℕ)) (channel : List ℕ → ℕ → ℕ) (net : PNet)
    (vars places : List (List ℕ)) (begun made : Net) → vars ≡ map (λ v. v.name.text) net.vars →
    places ≡ map (λ p. p.name.text) net.places → begun ≡ bare_net net →
    made
    ≡ record begun {
      transitions = transitions_by
          (record {
            var = number_in vars;
            place = number_in places;
            net = number_in nets;
            channel = channel;
          })
          (length begun.vars) net.transitions;
    } →
    made ≡ net_by nets channel net
net_made nets channel net vars places begun made v p b m =
    let of : List (List ℕ) → List (List ℕ) → Net → Net = λ vs ps n. record n {
      transitions = transitions_by
          (record { var = number_in vs; place = number_in ps; net = number_in nets; channel = channel })
          (length n.vars) net.transitions;
    } in
    m
    ∙ ap (of vars places) b
    ∙ ap (λ vs. of vs places (bare_net net)) v
    ∙ ap (λ ps. of (map (λ v. v.name.text) net.vars) ps (bare_net net)) p
    ∙ ap
    (λ count. record (bare_net net) {
      transitions = transitions_by
          (record {
            var = number_in (map (λ v. v.name.text) net.vars);
            place = number_in (map (λ p. p.name.text) net.places);
            net = number_in nets;
            channel = channel;
          })
          count net.transitions;
    })
    (length-map net.vars (λ v. record { name = v.name.text; kind = kind_of v.kind }))
